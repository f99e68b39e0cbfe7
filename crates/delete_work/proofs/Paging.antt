-- Pages of the segments that have a point in a request's range.
use Rattle.std.proofs.Common.{◌≡◌, ◌<◌, ◌≤◌, ℕ, suc, ℤ, true, false, [], ◌∷◌, ◌++◌, Option, Some, None, IfSome, is_some, filter, take, drop, length, option_map, refl, sym, ap, subst, ◌∙◌, arith}
use Rattle.std.specs.List.{list_all, slice_get}
use Rattle.std.proofs.lemmas.List.{take-append-drop}
use Rattle.std.proofs.lemmas.List.Elements.{filter-append}
use Rattle.media_rows.specs.declared.request.DeleteRow.{DeleteRow}
use Rattle.media_rows.specs.declared.segment.SegmentRow.{SegmentRow}
use Rattle.media_rows.specs.Lists.{rises}
use Rattle.media_rows.specs.Segments.{first_point}
use Rattle.segment_index.specs.Answers.{begins_before, is_bounded}
use Rattle.delete_work.specs.Within.Seeking.{ahead, is_wanted_by, left_behind, looks_left}
use Rattle.delete_work.proofs.Lists.{append_nothing, each_is, take_front}
use Rattle.delete_work.proofs.Wanted.{Segments, all_ahead, met_wanted, page_all, page_fewer, page_rest, starts}

append_twice : (a b c : Segments) → (a ++ b) ++ c ≡ a ++ (b ++ c)
append_twice [] b c = refl
append_twice (x ∷ a) b c = ap (λ l. x ∷ l) (append_twice a b c)

-- A page of at most so many and one, and what is left behind it.
module _ (most : ℕ) (index page : Segments) (request : DeleteRow) (after next : Option ℤ) (up : rises begins_before index ≡ true)
    (is : page ≡ take (suc most) (ahead index request after)) (e : next ≡ option_map first_point (slice_get page most)) where
  abbrev those : Segments
  those = ahead index request after

  key_is : next ≡ option_map first_point (slice_get (take (suc most) those) most)
  key_is = e ∙ ap (λ l. option_map first_point (slice_get l most)) is

  page_and_rest : page ++ left_behind index request next ≡ those
  page_and_rest = by (slice_get (take (suc most) those) most) refl
    where
      by : (found : Option SegmentRow) → slice_get (take (suc most) those) most ≡ found → page ++ left_behind index request next ≡ those
      by None f =
          ap (λ n. page ++ left_behind index request n) (key_is ∙ ap (option_map first_point) f)
          ∙ append_nothing page ∙ is ∙ page_all most those f
      by (Some x) f =
          ap (λ n. page ++ left_behind index request n) (key_is ∙ ap (option_map first_point) f)
          ∙ ap (λ l. page ++ l) (page_rest most index request after x (starts index up) f)
          ∙ ap (λ l. l ++ drop (suc most) those) is ∙ take-append-drop (suc most) those

  pub page_found : (old new : Segments) → new ≡ old ++ filter (is_wanted_by request) page
      → new ++ filter (is_wanted_by request) (left_behind index request next) ≡ old ++ filter (is_wanted_by request) (ahead index request after)
  page_found old new more =
      ap (λ l. l ++ filter (is_wanted_by request) (left_behind index request next)) more
      ∙ append_twice old (filter (is_wanted_by request) page) (filter (is_wanted_by request) (left_behind index request next))
      ∙ ap (λ l. old ++ l) (sym (filter-append (is_wanted_by request) page (left_behind index request next))
      ∙ ap (filter (is_wanted_by request)) page_and_rest)

  pub page_leaves_fewer : IfSome next (λ k. length (ahead index request (Some k)) < length (ahead index request after))
  page_leaves_fewer = by (slice_get (take (suc most) those) most) refl
    where
      Fewer : Option ℤ → Type 0
      Fewer n = IfSome n (λ k. length (ahead index request (Some k)) < length those)

      by : (found : Option SegmentRow) → slice_get (take (suc most) those) most ≡ found → Fewer next
      by None f = subst Fewer (sym (key_is ∙ ap (option_map first_point) f)) tt
      by (Some x) f =
          subst Fewer (sym (key_is ∙ ap (option_map first_point) f))
          (subst (λ l. length l < length those) (sym (page_rest most index request after x (starts index up) f)) (page_fewer most those x f))

-- ---- all pages

pub pages_start : (index old new : Segments) (request : DeleteRow) (next : Option ℤ) → list_all is_bounded index ≡ true
    → new ++ filter (is_wanted_by request) (left_behind index request next) ≡ old ++ filter (is_wanted_by request) (ahead index request None)
    → new ++ filter (is_wanted_by request) (left_behind index request next) ≡ old ++ filter (is_wanted_by request) index
pages_start index old new request next bounded e =
    e ∙ ap (λ l. old ++ l) (ap (filter (is_wanted_by request)) (all_ahead request index) ∙ met_wanted request index (each_is is_bounded index bounded))

-- where there is a key, those behind it are left
pub behind_some : (index : Segments) (request : DeleteRow) (after : Option ℤ) → is_some after ≡ true
    → left_behind index request after ≡ ahead index request after
behind_some index request None e = absurd (grind (arith, e))
behind_some index request (Some key) e = refl

pub looks_fewer : (index : Segments) (request : DeleteRow) (after next : Option ℤ) → is_some after ≡ true
    → IfSome next (λ k. length (ahead index request (Some k)) < length (ahead index request after))
    → looks_left index request next < looks_left index request after
looks_fewer index request None next e less = absurd (grind (arith, e))
looks_fewer index request (Some key) None e less = omega arith
looks_fewer index request (Some key) (Some k) e less = omega (arith, less)

-- enough was found
pub enough : (found rest all : Segments) → found ++ rest ≡ all → 33 ≤ length found → take 33 found ≡ take 33 all
enough found rest all e le = sym (take_front 33 found rest le) ∙ ap (take 33) e

-- all were looked at
pub looked_all : (found all : Segments) (request : DeleteRow) (index : Segments) (after : Option ℤ) → is_some after ≡ false
    → found ++ filter (is_wanted_by request) (left_behind index request after) ≡ all → take 33 found ≡ take 33 all
looked_all found all request index None e was = ap (take 33) (sym (append_nothing found) ∙ was)
looked_all found all request index (Some key) e was = absurd (grind (arith, e))
