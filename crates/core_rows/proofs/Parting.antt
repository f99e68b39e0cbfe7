-- Rows by their kinds: one list behind another, and the library that they make.
use Rattle.std.proofs.Common.{◌≡◌, ◌<◌, ◌+◌, ℕ, List, [], ◌∷◌, ◌++◌, Option, Some, None, get_or, take, length, refl, sym, ap, ◌∙◌, append_assoc}
use Rattle.std.proofs.lemmas.Grind.{take_at_read}
use Rattle.std.proofs.lemmas.List.{append-nil}
use Rattle.media_rows.specs.declared.row.Row.{Row}
use Rattle.media_rows.specs.declared.row.Row.TheVariants as rows
use Rattle.media_rows.specs.Lists.{or_else}
use Rattle.media_rows.specs.Snapshot.{with_row}
use Rattle.core_rows.specs.Kinds.{Kinds, KindsMakeTheLibrary, joined, kind_of, kinds_of, library_of_kinds, no_kinds}

or_else_assoc : {X : Type 0} (a b c : Option X) → or_else (or_else a b) c ≡ or_else a (or_else b c)
or_else_assoc None b c = refl
or_else_assoc (Some x) b c = refl

joined_assoc : (a b c : Kinds) → joined (joined a b) c ≡ joined a (joined b c)
joined_assoc a b c =
    rw (
      append_assoc a.sources b.sources c.sources,
      append_assoc a.flows b.flows c.flows,
      append_assoc a.objects b.objects c.objects,
      append_assoc a.segments b.segments c.segments,
      append_assoc a.requests b.requests c.requests,
      append_assoc a.hooks b.hooks c.hooks,
      append_assoc a.events b.events c.events,
      or_else_assoc a.next_serial b.next_serial c.next_serial,
    ) refl

none_behind : {X : Type 0} (a : Option X) → or_else a None ≡ a
none_behind None = refl
none_behind (Some x) = refl

joined_none : (a : Kinds) → joined a no_kinds ≡ a
joined_none a =
    rw (
      append-nil a.sources,
      append-nil a.flows,
      append-nil a.objects,
      append-nil a.segments,
      append-nil a.requests,
      append-nil a.hooks,
      append-nil a.events,
      none_behind a.next_serial,
    ) refl

-- a row behind others
pub one_behind : (rows : List Row) (row : Row) → kinds_of (rows ++ row ∷ []) ≡ joined (kinds_of rows) (kind_of row)
one_behind [] row = joined_none (kind_of row)
one_behind (first ∷ rows) row = ap (joined (kind_of first)) (one_behind rows row) ∙ sym (joined_assoc (kind_of first) (kinds_of rows) (kind_of row))

-- a row before others makes of the library what its kind makes
row_first : (id blocks : ℕ) (row : Row) (kinds : Kinds) → with_row row (library_of_kinds id blocks kinds) ≡ library_of_kinds id blocks
    (joined (kind_of row) kinds)
row_first id blocks (rows.Source row) kinds = refl
row_first id blocks (rows.Flow row) kinds = refl
row_first id blocks (rows.Object row) kinds = refl
row_first id blocks (rows.Segment row) kinds = refl
row_first id blocks (rows.Request row) kinds = refl
row_first id blocks (rows.Hook row) kinds = refl
row_first id blocks (rows.Event row) kinds = refl
row_first id blocks (rows.Numbers next_serial) kinds = refl

pub kinds_make_the_library : KindsMakeTheLibrary
kinds_make_the_library id blocks [] = refl
kinds_make_the_library id blocks (row ∷ later) =
    ap (with_row row) (kinds_make_the_library id blocks later) ∙ row_first id blocks row (kinds_of later)

-- the kinds of so many rows, and of one more
pub one_more : (xs : List Row) (i : ℕ) (row : Row) (kinds : Kinds) → i < length xs → row ≡ get_or xs i row → kinds ≡ kinds_of (take i xs)
    → joined kinds (kind_of row) ≡ kinds_of (take (i + 1) xs)
one_more xs i row kinds lt is so_far =
    ap (λ k. joined k (kind_of row)) so_far ∙ sym (one_behind (take i xs) row) ∙ ap (λ r. kinds_of (take i xs ++ r ∷ [])) is
    ∙ ap kinds_of (sym (take_at_read xs i row lt).1)
