-- The lines of a listing: that they are lines, and that entries at their front are those of the
-- listing.
use Rattle.std.proofs.Common.{◌≡◌, ◌<◌, ◌≤◌, ◌^◌, ◌∙◌, ◌∷◌, ◌++◌, ℕ, Bool, true, false, List, [], length, get_or, drop, refl, ap, sym, subst, arith, append_assoc}
use Rattle.std.specs.Prelude.{codes}
use Rattle.std.specs.Fmt.{decimal}
use Rattle.std.specs.List.{All, flat_map}
use Rattle.std.proofs.lemmas.Fmt.{decimal_injective}
use Rattle.std.proofs.lemmas.List.{append-nil, append_cancel_left}
use Rattle.std.proofs.lemmas.List.Elements.{All-append, All-cons, All-head, All-nil, All-tail}
use Rattle.hls_manifest.specs.declared.listing.Entry.{Entry}
use Rattle.hls_manifest.specs.declared.listing.Listing.{Listing}
use Rattle.hls_manifest.specs.Playlists.{IsEntry, IsLine, IsListing, break_lines, entry_lines, head_lines, longest, playlist_lines}
use Rattle.hls_manifest.specs.Progress.{timing}
use Rattle.hls_manifest.proofs.LineLemmas.{line_append, plain_line}
use Rattle.hls_manifest.proofs.NumberLemmas.{decimal_line}
use Rattle.hls_manifest.proofs.TimingLemmas.{same_timing, seconds_fit, timing_at, timing_line}

-- ---- each is a line

-- the lines of an entry, by its parts
pub entry_lines_are : (entry : Entry)
    → entry_lines entry ≡ break_lines entry.broken ++ timing entry.nanos ∷ entry.address ∷ []
unfolding timing
entry_lines_are entry = refl

-- a break's lines
break_each : (broken : Bool) → All IsLine (break_lines broken)
break_each true =
    All-cons IsLine (codes "#EXT-X-DISCONTINUITY") []
    (plain_line (codes "#EXT-X-DISCONTINUITY") refl) (All-nil IsLine)
break_each false = All-nil IsLine

-- the lines of entries
pub entries_each : (target : ℕ) (entries : List Entry) → All (IsEntry target) entries
    → All IsLine (flat_map entry_lines entries)
entries_each target [] are = All-nil IsLine
entries_each target (entry ∷ entries) are =
    let is = All-head (IsEntry target) entry entries are in
    let later = entries_each target entries (All-tail (IsEntry target) entry entries are) in
    let address = All-cons IsLine entry.address [] is.address.line (All-nil IsLine) in
    let both =
    All-cons IsLine (timing entry.nanos) (entry.address ∷ [])
    (timing_line entry.nanos is.duration) address in
    let own = All-append IsLine (break_lines entry.broken) (timing entry.nanos ∷ entry.address ∷ [])
    (break_each entry.broken) both in
    All-append IsLine (entry_lines entry) (flat_map entry_lines entries)
    (subst (All IsLine) (sym (entry_lines_are entry)) own) later

-- the lines of a head
pub head_each : (target : ℕ) → target < 2 ^ 64 → All IsLine (head_lines target)
head_each target fits =
    let number =
    line_append (codes "#EXT-X-TARGETDURATION:") (decimal target)
    (plain_line (codes "#EXT-X-TARGETDURATION:") refl) (decimal_line target fits) in
    let last =
    All-cons IsLine (codes "#EXT-X-MEDIA-SEQUENCE:0") []
    (plain_line (codes "#EXT-X-MEDIA-SEQUENCE:0") refl) (All-nil IsLine) in
    let third = All-cons IsLine (codes "#EXT-X-TARGETDURATION:" ++ decimal target)
    (codes "#EXT-X-MEDIA-SEQUENCE:0" ∷ []) number last in
    let second = All-cons IsLine (codes "#EXT-X-VERSION:3")
    ((codes "#EXT-X-TARGETDURATION:" ++ decimal target) ∷ codes "#EXT-X-MEDIA-SEQUENCE:0" ∷ [])
    (plain_line (codes "#EXT-X-VERSION:3") refl) third in
    All-cons IsLine (codes "#EXTM3U")
    (codes "#EXT-X-VERSION:3" ∷ (codes "#EXT-X-TARGETDURATION:" ++ decimal target) ∷ codes
    "#EXT-X-MEDIA-SEQUENCE:0" ∷ [])
    (plain_line (codes "#EXTM3U") refl) second

-- the lines of a listing
pub playlist_each : (listing : Listing) → IsListing listing → All IsLine (playlist_lines listing)
playlist_each listing is =
    let end = All-cons IsLine (codes "#EXT-X-ENDLIST") [] (plain_line (codes "#EXT-X-ENDLIST") refl)
    (All-nil IsLine) in
    let front = All-append IsLine (head_lines listing.target) (flat_map entry_lines listing.entries)
    (head_each listing.target is.most) (entries_each listing.target listing.entries is.entries) in
    All-append IsLine (head_lines listing.target ++ flat_map entry_lines listing.entries)
    (codes "#EXT-X-ENDLIST" ∷ []) front end

-- ---- lines apart

-- the last line breaks nothing off
pub end_is_no_break : codes "#EXT-X-ENDLIST" ≡ codes "#EXT-X-DISCONTINUITY" → ⊥
end_is_no_break e = absurd (omega (arith, ap (λ t. get_or t 7 0) e))

-- it gives no duration
pub end_is_no_timing : (nanos : ℕ) → codes "#EXT-X-ENDLIST" ≡ timing nanos → ⊥
end_is_no_timing nanos e = absurd (omega (arith, timing_at nanos, ap (λ t. get_or t 4 0) e))

-- nor does the line of a break
pub break_is_no_timing : (nanos : ℕ) → codes "#EXT-X-DISCONTINUITY" ≡ timing nanos → ⊥
break_is_no_timing nanos e = absurd (omega (arith, timing_at nanos, ap (λ t. get_or t 4 0) e))

-- the first line of two lists
pub first_same : (x y : List ℕ) (xs ys : List (List ℕ)) → x ∷ xs ≡ y ∷ ys → x ≡ y
first_same x y xs ys e = ap (λ l. get_or l 0 []) e

-- and their others
pub others_same : (x y : List ℕ) (xs ys : List (List ℕ)) → x ∷ xs ≡ y ∷ ys → xs ≡ ys
others_same x y xs ys e = ap (drop 1) e

-- nothing is no list with a first line
pub nothing_first : (x : List ℕ) (xs : List (List ℕ)) → [] ≡ x ∷ xs → ⊥
nothing_first x xs e = absurd (omega (arith, ap length e))

-- ---- entries at the front

-- the lines of an entry by its parts, and others behind them
abbrev pub parts_lines : Bool → ℕ → List ℕ → List (List ℕ) → List (List ℕ)
parts_lines true nanos address later = codes "#EXT-X-DISCONTINUITY" ∷ timing nanos ∷ address ∷ later
parts_lines false nanos address later = timing nanos ∷ address ∷ later

parts_grouped : (broken : Bool) (nanos : ℕ) (address : List ℕ) (later : List (List ℕ))
    → (break_lines broken ++ timing nanos ∷ address ∷ []) ++ later
    ≡ parts_lines broken nanos address later
parts_grouped true nanos address later = refl
parts_grouped false nanos address later = refl

-- the lines of an entry, and others behind them
pub entry_grouped : (entry : Entry) (later : List (List ℕ))
    → entry_lines entry ++ later ≡ parts_lines entry.broken entry.nanos entry.address later
entry_grouped entry later = ap (λ l. l ++ later) (entry_lines_are entry)
    ∙ parts_grouped entry.broken entry.nanos entry.address later

-- they begin no last line
pub parts_are_no_end : (broken : Bool) (nanos : ℕ) (address : List ℕ) (later : List (List ℕ))
    (rest : List (List ℕ))
    → codes "#EXT-X-ENDLIST" ∷ rest ≡ parts_lines broken nanos address later → ⊥
parts_are_no_end true nanos address later rest e =
    end_is_no_break
    (first_same (codes "#EXT-X-ENDLIST") (codes "#EXT-X-DISCONTINUITY") rest
    (timing nanos ∷ address ∷ later) e)
parts_are_no_end false nanos address later rest e =
    end_is_no_timing nanos
    (first_same (codes "#EXT-X-ENDLIST") (timing nanos) rest (address ∷ later) e)

-- what two entries with the same lines share
pub record AreSame (b c : Bool) (m n : ℕ) (x y : List ℕ) (xs ys : List (List ℕ)) : Type 0 where
  pub broken : b ≡ c
  pub nanos : m ≡ n
  pub address : x ≡ y
  pub later : xs ≡ ys

-- two entries with the same lines are one, behind their breaks
timed_same : (m n : ℕ) (x y : List ℕ) (xs ys : List (List ℕ)) → m ≤ longest → n ≤ longest
    → timing m ∷ x ∷ xs ≡ timing n ∷ y ∷ ys
    → (m ≡ n) × (x ≡ y) × (xs ≡ ys)
timed_same m n x y xs ys short_m short_n e =
    let others = others_same (timing m) (timing n) (x ∷ xs) (y ∷ ys) e in (
      same_timing m n (seconds_fit m short_m) (seconds_fit n short_n)
          (first_same (timing m) (timing n) (x ∷ xs) (y ∷ ys) e),
      first_same x y xs ys others,
      others_same x y xs ys others,
    )

-- two entries with the same lines are one
pub parts_same : (b c : Bool) (m n : ℕ) (x y : List ℕ) (xs ys : List (List ℕ)) → m ≤ longest
    → n ≤ longest
    → parts_lines b m x xs ≡ parts_lines c n y ys → AreSame b c m n x y xs ys
parts_same true true m n x y xs ys short_m short_n e =
    let others = others_same (codes "#EXT-X-DISCONTINUITY") (codes "#EXT-X-DISCONTINUITY")
    (timing m ∷ x ∷ xs) (timing n ∷ y ∷ ys) e in
    let same = timed_same m n x y xs ys short_m short_n others in
    record { broken = refl; nanos = same.0; address = same.1; later = same.2 }
parts_same true false m n x y xs ys short_m short_n e =
    absurd (break_is_no_timing n
    (first_same (codes "#EXT-X-DISCONTINUITY") (timing n) (timing m ∷ x ∷ xs) (y ∷ ys) e))
parts_same false true m n x y xs ys short_m short_n e =
    absurd (break_is_no_timing m
    (sym (first_same (timing m) (codes "#EXT-X-DISCONTINUITY") (x ∷ xs) (timing n ∷ y ∷ ys) e)))
parts_same false false m n x y xs ys short_m short_n e =
    let same = timed_same m n x y xs ys short_m short_n e in
    record { broken = refl; nanos = same.0; address = same.1; later = same.2 }

-- an entry by its parts
pub entry_same : (a b : Entry) → a.nanos ≡ b.nanos → a.broken ≡ b.broken → a.address ≡ b.address
    → a ≡ b
entry_same a b nanos broken address = λ i. record {
  nanos = nanos i;
  broken = broken i;
  address = address i;
}

-- a listing by its parts
pub listing_same : (a b : Listing) → a.target ≡ b.target → a.entries ≡ b.entries → a ≡ b
listing_same a b target entries = λ i. record { target = target i; entries = entries i }

-- an entry is no longer than may be
abbrev pub IsShort : Entry → Type 0
IsShort entry = entry.nanos ≤ longest

-- all entries, where these stand at the front
pub record GoesOnWith (front all : List Entry) (rest : List (List ℕ)) : Type 0 where
  pub more : List Entry
  pub entries : all ≡ front ++ more
  pub lines : rest ≡ flat_map entry_lines more ++ codes "#EXT-X-ENDLIST" ∷ []

-- lines that begin with those of some entries are of these entries and others
pub entries_front : (front all : List Entry) (rest : List (List ℕ)) → All IsShort front
    → All IsShort all
    → flat_map entry_lines front ++ rest ≡ flat_map entry_lines all ++ codes "#EXT-X-ENDLIST" ∷ []
    → GoesOnWith front all rest
entries_front [] all rest short_front short_all e = record { more = all; entries = refl; lines = e }
entries_front (entry ∷ front) [] rest short_front short_all e =
    let later = flat_map entry_lines front ++ rest in
    let grouped = sym e ∙ append_assoc (entry_lines entry) (flat_map entry_lines front) rest
    ∙ entry_grouped entry later in
    absurd (parts_are_no_end entry.broken entry.nanos entry.address later [] grouped)
entries_front (entry ∷ front) (other ∷ all) rest short_front short_all e =
    let later = flat_map entry_lines front ++ rest in
    let behind = flat_map entry_lines all ++ codes "#EXT-X-ENDLIST" ∷ [] in
    let own = append_assoc (entry_lines entry) (flat_map entry_lines front) rest
    ∙ entry_grouped entry later in
    let its =
    append_assoc (entry_lines other) (flat_map entry_lines all) (codes "#EXT-X-ENDLIST" ∷ [])
    ∙ entry_grouped other behind in
    let same = parts_same entry.broken other.broken entry.nanos other.nanos entry.address
    other.address later behind
    (All-head IsShort entry front short_front) (All-head IsShort other all short_all)
    (sym own ∙ e ∙ its) in
    let inner = entries_front front all rest (All-tail IsShort entry front short_front)
    (All-tail IsShort other all short_all) same.later in
    let one : entry ≡ other = entry_same entry other same.nanos same.broken same.address in
    record {
      more = inner.more;
      entries = ap (λ x. x ∷ all) (sym one) ∙ ap (λ l. entry ∷ l) inner.entries;
      lines = inner.lines;
    }

-- ---- listings

-- entries within a target are short
pub short_from : (target : ℕ) (entries : List Entry) → All (IsEntry target) entries
    → All IsShort entries
short_from target entries are = λ k d few. (are k d few).duration

-- a listing whose lines begin with this head and these entries
pub record Continues (target : ℕ) (front : List Entry) (listing : Listing) (rest : List (List ℕ))
    : Type 0 where
  pub same : listing.target ≡ target
  pub on : GoesOnWith front listing.entries rest

pub listing_front : (target : ℕ) (front : List Entry) (listing : Listing) (rest : List (List ℕ))
    → target < 2 ^ 64 → All IsShort front
    → IsListing listing
    → playlist_lines listing ≡ (head_lines target ++ flat_map entry_lines front) ++ rest
    → Continues target front listing rest
listing_front target front listing rest fits short is e =
    let number : codes "#EXT-X-TARGETDURATION:" ++ decimal listing.target
    ≡ codes "#EXT-X-TARGETDURATION:" ++ decimal target =
    ap (λ l. get_or l 2 []) e in
    let others : flat_map entry_lines listing.entries ++ codes "#EXT-X-ENDLIST" ∷ []
    ≡ flat_map entry_lines front ++ rest = ap (drop 4) e in
    record {
      same = decimal_injective listing.target target is.most fits
          (append_cancel_left (codes "#EXT-X-TARGETDURATION:") (decimal listing.target)
          (decimal target) number);
      on = entries_front front listing.entries rest short
          (short_from listing.target listing.entries is.entries) (sym others);
    }

-- nothing stands behind the last line
none_more : (more : List Entry)
    → codes "#EXT-X-ENDLIST" ∷ [] ≡ flat_map entry_lines more ++ codes "#EXT-X-ENDLIST" ∷ []
    → more ≡ []
none_more [] e = refl
none_more (entry ∷ more) e =
    let later = flat_map entry_lines more ++ codes "#EXT-X-ENDLIST" ∷ [] in
    let grouped =
    append_assoc (entry_lines entry) (flat_map entry_lines more) (codes "#EXT-X-ENDLIST" ∷ [])
    ∙ entry_grouped entry later in
    absurd (parts_are_no_end entry.broken entry.nanos entry.address later [] (e ∙ grouped))

-- two listings with the same lines are one
pub listings_same : (a b : Listing) → IsListing a → IsListing b
    → playlist_lines a ≡ playlist_lines b → a ≡ b
listings_same a b is_a is_b e =
    let whole = listing_front a.target a.entries b (codes "#EXT-X-ENDLIST" ∷ []) is_a.most
    (short_from a.target a.entries is_a.entries) is_b (sym e) in
    let none : whole.on.more ≡ [] = none_more whole.on.more whole.on.lines in
    let entries : b.entries ≡ a.entries = whole.on.entries ∙ ap (λ m. a.entries ++ m) none
    ∙ append-nil a.entries in
    listing_same a b (sym whole.same) (sym entries)
