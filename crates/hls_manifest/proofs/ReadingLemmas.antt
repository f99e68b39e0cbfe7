-- Reading a playlist: a text is cut where its lines are read, and what reading answers is what the
-- text spells.
use Rattle.std.proofs.Common.{◌≡◌, ◌<◌, ◌≤◌, ◌+◌, ◌^◌, ◌∙◌, ◌∷◌, ◌++◌, ℕ, List, [], length, take, drop, refl, ap, sym, subst, arith, append_assoc, length-append}
use Rattle.std.specs.Prelude.{codes}
use Rattle.std.specs.List.{All}
use Rattle.std.proofs.lemmas.Grind.{flat_map-append}
use Rattle.std.proofs.lemmas.List.{append-nil, take_all, take_at}
use Rattle.std.proofs.lemmas.List.Elements.{All-append, All-cons, All-push}
use Rattle.hls_manifest.specs.declared.listing.Entry.{Entry}
use Rattle.hls_manifest.specs.declared.listing.Listing.{Listing}
use Rattle.hls_manifest.specs.declared.progress.Progress.{Progress}
use Rattle.hls_manifest.specs.declared.progress.Progress.TheVariants.{Begun, Opened, Versioned, Targeted, Between, Broken, Timed, Ended}
use Rattle.hls_manifest.specs.Playlists.{IsLine, Spells, ended, playlist_lines, playlist_text, text_of_lines}
use Rattle.hls_manifest.specs.Progress.{Follows, IsFirstLine, IsOpen, IsReached, entries_after, lines_to}
use Rattle.hls_manifest.specs.Reading.{BeginsSome, FailsAtLine, IsCut}
use Rattle.hls_manifest.proofs.EntryLemmas.{listings_same, playlist_each}
use Rattle.hls_manifest.proofs.LineLemmas.{cut_of, line_nil, same_cut}
use Rattle.hls_manifest.proofs.ProgressLemmas.{begins, begins_none, leads, open_is_none}

-- a text spells one listing at most
pub spelled_once : (text : List ℕ) (a b : Listing) → Spells text a → Spells text b → a ≡ b
spelled_once text a b first second =
    let texts = append-nil (playlist_text a) ∙ sym first.1 ∙ second.1
    ∙ sym (append-nil (playlist_text b)) in
    let cut = same_cut (playlist_lines a) (playlist_lines b) [] [] (playlist_each a first.0)
    (playlist_each b second.0) line_nil line_nil texts in
    listings_same a b first.0 second.0 cut.0

-- a cut of a text that spells a listing has its lines, and nothing behind them
pub spelled_cut : (text : List ℕ) (lines : List (List ℕ)) (rest : List ℕ) (listing : Listing)
    → IsCut text lines rest → Spells text listing
    → (playlist_lines listing ≡ lines) × ([] ≡ rest)
spelled_cut text lines rest listing cut spells =
    same_cut (playlist_lines listing) lines [] rest (playlist_each listing spells.0) cut.each
    line_nil cut.last
    (append-nil (playlist_text listing) ∙ sym spells.1 ∙ cut.whole)

-- ---- lines so far

-- a text that begins with the lines that were read
pub record IsRead (text rest : List ℕ) (before : ℕ) (progress : Progress) (entries : List Entry)
    : Type 0 where
  pub whole : text ≡ text_of_lines (lines_to progress entries) ++ rest
  pub each : All IsLine (lines_to progress entries)
  pub counted : before ≡ length (lines_to progress entries)
  pub reached : IsReached progress entries

-- a line with what stands behind it, in front of a text's lines
put_line : (front : List (List ℕ)) (line behind : List ℕ)
    → text_of_lines front ++ (line ++ 10 ∷ behind) ≡ text_of_lines (front ++ line ∷ []) ++ behind
put_line front line behind =
    sym (ap (λ t. t ++ behind) (flat_map-append ended front (line ∷ []))
    ∙ regroup (text_of_lines front))
  where
    regroup : (t : List ℕ) → (t ++ (ended line ++ [])) ++ behind ≡ t ++ (line ++ 10 ∷ behind)
    regroup t = simp (append-nil, append_assoc)

-- one line more is read
pub read_more : (text rest line behind : List ℕ) (before : ℕ) (progress next : Progress)
    (entries now : List Entry) → IsRead text rest before progress entries
    → IsFirstLine rest line behind → Follows progress entries line next
    → now ≡ entries_after progress entries line → IsRead text behind (before + 1) next now
read_more text rest line behind before progress next entries now read first follows same =
    let step = leads progress entries line next read.reached follows in
    let lines : lines_to next now ≡ lines_to progress entries ++ line ∷ [] =
    ap (λ es. lines_to next es) same ∙ step.lines in
    record {
      whole = read.whole ∙ ap (λ r. text_of_lines (lines_to progress entries) ++ r) first.whole
          ∙ put_line (lines_to progress entries) line behind
          ∙ ap (λ l. text_of_lines l ++ behind) (sym lines);
      each = subst (All IsLine) (sym lines)
          (All-push IsLine (lines_to progress entries) line read.each first.first);
      counted = ap (λ n. n + 1) read.counted
          ∙ sym (ap length lines ∙ length-append (lines_to progress entries) (line ∷ []));
      reached = subst (IsReached next) (sym same) step.reached;
    }

-- ---- how many lines there may be

-- lines have a byte each at least
length_lines : (lines : List (List ℕ)) → length lines ≤ length (text_of_lines lines)
length_lines [] = omega arith
length_lines (line ∷ lines) =
    omega (
      arith,
      length_lines lines,
      length-append (ended line) (text_of_lines lines),
      length-append line (10 ∷ []),
    )

-- and so has what is left, where a line feed is there
pub room_within : (text rest line behind : List ℕ) (before : ℕ) (progress : Progress)
    (entries : List Entry) → IsRead text rest before progress entries
    → IsFirstLine rest line behind → before < length text
room_within text rest line behind before progress entries read first =
    omega (
      arith,
      length_lines (lines_to progress entries),
      read.counted,
      ap length read.whole,
      length-append (text_of_lines (lines_to progress entries)) rest,
      ap length first.whole,
      length-append line (10 ∷ behind),
    )

-- the first line has more
opened_room : (text rest : List ℕ) (lines : List (List ℕ))
    → text ≡ text_of_lines (codes "#EXTM3U" ∷ lines) ++ rest → length lines + 1 < length text
opened_room text rest lines e =
    omega (
      arith,
      ap length e,
      length_lines lines,
      length-append (text_of_lines (codes "#EXTM3U" ∷ lines)) rest,
      length-append (ended (codes "#EXTM3U")) (text_of_lines lines),
    )

-- so there are fewer lines than bytes, or none
pub room_behind : (text rest : List ℕ) (before : ℕ) (progress : Progress) (entries : List Entry)
    → IsRead text rest before progress entries
    → length text < 2 ^ 64 → before + 1 < 2 ^ 64
room_behind text rest before progress entries read small = by progress read
  where
    by : (progress : Progress) → IsRead text rest before progress entries → before + 1 < 2 ^ 64
    by Begun read = omega (arith, read.counted)
    by Opened read = omega (arith, read.counted)
    by Versioned read = omega (arith, read.counted)
    by (Targeted target) read = omega (arith, read.counted)
    by (Between target) read =
        omega (
          arith,
          read.counted,
          opened_room text rest
              (drop 1 (lines_to (Between target) entries)) read.whole,
        )
    by (Broken target) read =
        omega (
          arith,
          read.counted,
          opened_room text rest
              (drop 1 (lines_to (Broken target) entries)) read.whole,
        )
    by (Timed target broken nanos) read =
        omega (
          arith,
          read.counted,
          opened_room text rest
              (drop 1 (lines_to (Timed target broken nanos) entries)) read.whole,
        )
    by (Ended target) read =
        omega (
          arith,
          read.counted,
          opened_room text rest (drop 1 (lines_to (Ended target) entries))
              read.whole,
        )

-- ---- answers

-- a line that may not follow
pub refused : (text rest line behind : List ℕ) (before : ℕ) (progress : Progress)
    (entries : List Entry) → IsRead text rest before progress entries
    → IsFirstLine rest line behind → ((next : Progress) → Follows progress entries line next → ⊥)
    → FailsAtLine text (before + 1)
refused text rest line behind before progress entries read first none =
    let front = lines_to progress entries in
    let later = cut_of behind in
    let lines = front ++ line ∷ later.lines in
    let grouped : (front ++ line ∷ []) ++ later.lines ≡ lines =
    append_assoc front (line ∷ []) later.lines in
    let no = begins_none progress entries line read.reached none in
    let cut : IsCut text lines later.rest = record {
      whole = read.whole ∙ ap (λ r. text_of_lines front ++ r) first.whole
          ∙ put_line front line behind
          ∙ ap (λ b. text_of_lines (front ++ line ∷ []) ++ b) later.cut.whole
          ∙ sym (append_assoc (text_of_lines (front ++ line ∷ [])) (text_of_lines later.lines)
          later.rest)
          ∙ ap (λ t. t ++ later.rest) (sym (flat_map-append ended (front ++ line ∷ []) later.lines))
          ∙ ap (λ l. text_of_lines l ++ later.rest) grouped;
      each = All-append IsLine front (line ∷ later.lines) read.each
          (All-cons IsLine line later.lines first.first later.cut.each);
      last = later.cut.last;
    } in
    let taken : take (before + 1) lines ≡ front ++ line ∷ [] =
    ap (take (before + 1)) (sym grouped)
    ∙ take_at (front ++ line ∷ []) later.lines (before + 1) (length-append front (line ∷ [])
    ∙ ap (λ n. n + 1) (sym read.counted)) in
    record {
      lines = lines;
      rest = later.rest;
      before = before;
      cut = cut;
      no_playlist =
          λ listing spells. no (
            later.lines,
            listing,
            spells.0,
            (spelled_cut text lines later.rest listing cut spells).0
                ∙ sym grouped,
          );
      counted = refl;
      within = omega (arith, read.counted, length-append front (line ∷ later.lines));
      begins = subst BeginsSome (sym (take_at front (line ∷ later.lines) before (sym read.counted)))
          (begins progress entries read.reached);
      fails = λ _ some. no (subst BeginsSome taken some);
    }

-- all lines were read
pub all_read : (text rest : List ℕ) (before : ℕ) (progress : Progress) (entries : List Entry)
    → IsRead text rest before progress entries → IsLine rest
    → ((listing : Listing) → Spells text listing → ⊥) → FailsAtLine text (before + 1)
all_read text rest before progress entries read last none = record {
  lines = lines_to progress entries;
  rest = rest;
  before = before;
  cut = record { whole = read.whole; each = read.each; last = last };
  no_playlist = none;
  counted = refl;
  within = omega (arith, read.counted);
  begins = subst BeginsSome
      (sym (take_all before (lines_to progress entries) (omega (arith, read.counted))))
      (begins progress entries read.reached);
  fails = λ few. absurd (omega (arith, few, read.counted));
}

-- lines that end no playlist, with nothing more to come
pub unfinished : (text rest : List ℕ) (before : ℕ) (progress : Progress) (entries : List Entry)
    → IsRead text rest before progress entries → IsLine rest
    → IsOpen progress → FailsAtLine text (before + 1)
unfinished text rest before progress entries read last open' =
    let cut : IsCut text (lines_to progress entries) rest =
    record { whole = read.whole; each = read.each; last = last } in
    all_read text rest before progress entries read last (λ listing spells.
    open_is_none progress entries listing read.reached open' spells.0
    (spelled_cut text (lines_to progress entries) rest listing cut spells).0)

-- something stands behind the last line feed
pub overlong : (text rest : List ℕ) (before : ℕ) (progress : Progress) (entries : List Entry)
    → IsRead text rest before progress entries → IsLine rest
    → ([] ≡ rest → ⊥) → FailsAtLine text (before + 1)
overlong text rest before progress entries read last some =
    let cut : IsCut text (lines_to progress entries) rest =
    record { whole = read.whole; each = read.each; last = last } in
    all_read text rest before progress entries read last
    (λ listing spells. some
    (spelled_cut text (lines_to progress entries) rest listing cut spells).1)
