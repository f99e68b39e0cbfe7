-- A manifest that names one segment more, and its text.
use Rattle.std.proofs.Common.{◌≡◌, ℕ, ◌+◌, ◌-◌, ◌^◌, max, min, codes, List, [], ◌∷◌, ◌++◌, Option, Some, None, map, option_map, append-nil, length-append, refl, sym, ap, ◌∙◌, arith}
use Rattle.std.specs.List.{flat_map}
use Rattle.std.proofs.lemmas.Grind.{flat_map-append}
use Rattle.std.proofs.lemmas.List.{map-append}
use Rattle.media_rows.specs.declared.segment.SegmentRow.{SegmentRow}
use Rattle.hls_manifest.specs.declared.listing.Entry.{Entry}
use Rattle.hls_manifest.specs.Entries.{duration_of, entries_behind, entry_of, least_target, manifest_text}
use Rattle.hls_manifest.specs.Manifests.{IsManifestOf, ManifestSeen, counted, end_of, last_behind}
use Rattle.hls_manifest.specs.Playlists.{ended, entry_lines, head_lines, rounded, text_of_lines}
use Rattle.hls_manifest.proofs.TargetLemmas.{least_target-push}

-- ---- one segment more

-- the entries of one segment more
entries_behind-push : (base : List ℕ) (last : Option SegmentRow) (rows : List SegmentRow)
    (row : SegmentRow) → entries_behind base last (rows ++ row ∷ [])
    ≡ entries_behind base last rows ++ entry_of base (last_behind last rows) row ∷ []
entries_behind-push base last [] row = refl
entries_behind-push base last (x ∷ rows) row =
    ap (λ entries. entry_of base last x ∷ entries) (entries_behind-push base (Some x) rows row)

-- which is the last one then
last_behind-push : (last : Option SegmentRow) (rows : List SegmentRow) (row : SegmentRow)
    → last_behind last (rows ++ row ∷ []) ≡ Some row
last_behind-push last [] row = refl
last_behind-push last (x ∷ rows) row = last_behind-push (Some x) rows row

-- how many there are then
counted-push : (rows : List SegmentRow) (row : SegmentRow)
    → counted (rows ++ row ∷ []) ≡ min (counted rows + 1) (2 ^ 64 - 1)
counted-push rows row = omega (arith, length-append rows (row ∷ []))

-- the lines of entries
abbrev lines_of : List Entry → List (List ℕ)
lines_of entries = flat_map entry_lines entries

-- the text of one entry more
text-push : (entries : List Entry) (entry : Entry)
    → text_of_lines (lines_of (entries ++ entry ∷ []))
    ≡ text_of_lines (lines_of entries) ++ text_of_lines (entry_lines entry)
text-push entries entry =
    ap text_of_lines (flat_map-append entry_lines entries (entry ∷ []))
    ∙ (ap (λ lines. text_of_lines (lines_of entries ++ lines)) (append-nil (entry_lines entry))
    ∙ flat_map-append ended (lines_of entries) (entry_lines entry))

-- the durations of segments in whole seconds
abbrev seconds_of : List SegmentRow → List ℕ
seconds_of rows = map (λ row. rounded (duration_of row)) rows

-- the least target of one segment more
target-push : (rows : List SegmentRow) (row : SegmentRow)
    → least_target (seconds_of (rows ++ row ∷ []))
    ≡ max (least_target (seconds_of rows)) (rounded (duration_of row))
target-push rows row =
    ap least_target (map-append (λ r. rounded (duration_of r)) rows (row ∷ []))
    ∙ least_target-push (seconds_of rows) (rounded (duration_of row))

-- how a manifest names one segment more, by this entry
pub record IsStep (old new : ManifestSeen) (row : SegmentRow) (entry : Entry) : Type 0 where
  pub base : new.base ≡ old.base
  pub body : new.body ≡ old.body ++ text_of_lines (entry_lines entry)
  pub target : new.target ≡ max old.target (rounded entry.nanos)
  pub objects : new.objects ≡ min (old.objects + 1) (2 ^ 64 - 1)
  pub last : new.last ≡ Some (end_of row)

-- then it is the manifest of one segment more
pub manifest_more : (rows : List SegmentRow) (row : SegmentRow) (old new : ManifestSeen)
    (entry : Entry) → IsManifestOf rows old → entry ≡ entry_of old.base (last_behind None rows) row
    → IsStep old new row entry → IsManifestOf (rows ++ row ∷ []) new
manifest_more rows row old new entry is same step =
    let before = entries_behind old.base None rows in
    let entries = entries_behind-push old.base None rows row in
    let text = text-push before (entry_of old.base (last_behind None rows) row) in
    let target = target-push rows row in
    let nanos : entry.nanos ≡ duration_of row = ap (λ (x : Entry). x.nanos) same in
    let counted = counted-push rows row in
    record {
      body = cc;
      target = cc;
      objects = cc;
      last = step.last ∙ sym (ap (option_map end_of) (last_behind-push None rows row));
    }

-- ---- the text

-- the text of three parts
text-three : (head body : List (List ℕ)) (last : List ℕ) → text_of_lines (head ++ body ++ last ∷ [])
    ≡ (text_of_lines head ++ text_of_lines body) ++ ended last
text-three head body last =
    flat_map-append ended (head ++ body) (last ∷ [])
    ∙ (ap (λ text. text ++ flat_map ended (last ∷ [])) (flat_map-append ended head body)
    ∙ ap (λ text. (text_of_lines head ++ text_of_lines body) ++ text) (append-nil (ended last)))

-- the text of a manifest, part by part
pub manifest_parts : (rows : List SegmentRow) (seen : ManifestSeen) (target : ℕ)
    (empty head front text : List ℕ) → IsManifestOf rows seen → target ≡ seen.target → empty ≡ []
    → head ≡ empty ++ text_of_lines (head_lines target) → front ≡ head ++ seen.body
    → text ≡ front ++ ended (codes "#EXT-X-ENDLIST") → text ≡ manifest_text seen.base rows
manifest_parts rows seen target empty head front text is same start heads fronts texts =
    let lines = lines_of (entries_behind seen.base None rows) in
    let least = least_target (seconds_of rows) in
    let first : head ≡ text_of_lines (head_lines least) =
    heads ∙ (ap (λ before. before ++ text_of_lines (head_lines target)) start
    ∙ ap (λ number. text_of_lines (head_lines number)) (same ∙ is.target)) in
    let both : front ≡ text_of_lines (head_lines least) ++ text_of_lines lines =
    fronts ∙ (ap (λ before. before ++ seen.body) first
    ∙ ap (λ body. text_of_lines (head_lines least) ++ body) is.body) in
    texts ∙ (ap (λ before. before ++ ended (codes "#EXT-X-ENDLIST")) both
    ∙ sym (text-three (head_lines least) lines (codes "#EXT-X-ENDLIST")))
