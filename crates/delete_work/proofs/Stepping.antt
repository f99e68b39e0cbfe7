-- What a step removes of what was found, and whether anything is left.
use Rattle.std.proofs.Common.{◌≡◌, ℕ, ◌≤◌, ◌-◌, ◌==◌, nat_le, min, Bool, true, false, List, [], ◌∷◌, Option, Some, None, is_some, filter, take, drop, length, refl, sym, ap, subst, ◌∙◌, arith}
use Rattle.std.specs.List.{AllByRecursion, list_all}
use Rattle.std.proofs.lemmas.Bool.Decides.{nat_tests}
use Rattle.std.proofs.lemmas.List.{length-drop, length-take}
use Rattle.media_rows.specs.declared.request.DeleteRow.{DeleteRow}
use Rattle.media_rows.specs.Lists.{rises}
use Rattle.media_rows.specs.Requests.{first_unfinished, is_finished_by_step, left_by_step, removed_by_step, requested, step_size}
use Rattle.media_rows.specs.Segments.{without_segments}
use Rattle.shared_tree.proofs.Counted.{all_kept}
use Rattle.segment_index.specs.Answers.{begins_before, is_bounded}
use Rattle.object_refs.specs.declared.kept.Kept.{Kept}
use Rattle.delete_work.specs.Work.{AreOfFlow, HasReferences, OfDue}
use Rattle.delete_work.specs.Within.Seeking.{are_of, is_wanted_by, without_starts}
use Rattle.delete_work.proofs.Lists.{all_taken, each_is, take_fewer}
use Rattle.delete_work.proofs.Released.{kept_count, taken_count}
use Rattle.delete_work.proofs.Removed.{Agrees, all_agree, starts_are_serials}
use Rattle.delete_work.proofs.Wanted.{Segments, distinct, left_is, requested_is, starts}

-- the segments of an index are of a request's flow
pub record IsFor (request : DeleteRow) (index : Segments) : Type 0 where
  pub own : AreOfFlow request.flow index
  pub up : rises begins_before index ≡ true
  pub bounded : list_all is_bounded index ≡ true

module _ {request : DeleteRow} {index : Segments} (fits : IsFor request index) where
  abbrev pub wanted : Segments
  wanted = filter (is_wanted_by request) index

  asked : requested index request ≡ wanted
  asked = requested_is request index (each_is (λ row. row.flow == request.flow) index fits.own.flows) (each_is is_bounded index fits.bounded)
      (starts index fits.up)

  taken : removed_by_step index request ≡ take 32 wanted
  taken = ap (take 32) asked

  left : left_by_step index request ≡ drop 32 wanted
  left =
      ap (λ r. requested (without_segments r index) request) taken
      ∙ left_is request 32 index (each_is (λ row. row.flow == request.flow) index fits.own.flows) (each_is is_bounded index fits.bounded) (starts index fits.up)
      (distinct index fits.own.serials)

  -- one more than a step removes was found, where there are so many
  pub removed_is : (found : Segments) → take 33 found ≡ take 33 wanted → take 32 found ≡ removed_by_step index request
  removed_is found e = sym (take_fewer 32 33 found (omega arith)) ∙ ap (take 32) e ∙ take_fewer 32 33 wanted (omega arith) ∙ sym taken

  pub finished_is : (found : Segments) → take 33 found ≡ take 33 wanted → nat_le (length found) 32 ≡ is_finished_by_step index request
  finished_is found e = few (length found) (length wanted) same ∙ ap (λ n. n == 0) (sym (ap length left ∙ length-drop 32 wanted))
    where
      same : min 33 (length found) ≡ min 33 (length wanted)
      same = sym (length-take 33 found) ∙ ap length e ∙ length-take 33 wanted

      few : (a b : ℕ) → min 33 a ≡ min 33 b → nat_le a 32 ≡ ((b - 32) == 0)
      few a b f = by (nat_le a 32) ((b - 32) == 0) refl refl
        where
          by : (s t : Bool) → nat_le a 32 ≡ s → ((b - 32) == 0) ≡ t → nat_le a 32 ≡ ((b - 32) == 0)
          by true true es et = es ∙ sym et
          by false false es et = es ∙ sym et
          by true false es et = absurd (grind (arith, nat_tests))
          by false true es et = absurd (grind (arith, nat_tests))

  -- ---- the segments that a step removes

  pub index_is : (removed : Segments) → removed ≡ removed_by_step index request → without_starts removed index ≡ without_segments removed index
  index_is removed e =
      starts_are_serials removed index
      (subst (AllByRecursion (Agrees index)) (sym (e ∙ taken))
      (all_taken (Agrees index) 32 wanted (all_kept (Agrees index) (is_wanted_by request) index
      (all_agree index (starts index fits.up) (distinct index fits.own.serials)))))

  pub own_removed : (removed : Segments) → removed ≡ removed_by_step index request → are_of request.flow removed ≡ true
  own_removed removed e =
      subst (λ l. are_of request.flow l ≡ true) (sym (e ∙ taken))
      (all_true (take 32 wanted) (all_taken (λ row. (row.flow == request.flow) ≡ true) 32 wanted
      (all_kept (λ row. (row.flow == request.flow) ≡ true) (is_wanted_by request) index (each_is (λ row. row.flow == request.flow) index fits.own.flows))))
    where
      all_true : (rows : Segments) → AllByRecursion (λ row. (row.flow == request.flow) ≡ true) rows → are_of request.flow rows ≡ true
      all_true [] h = refl
      all_true (row ∷ rows) h = rw h.0 (all_true rows h.1)

  pub references_removed : (kept : List Kept) (removed : Segments) → HasReferences request.flow index kept → removed ≡ removed_by_step index request
      → HasReferences request.flow removed kept
  references_removed kept removed refs e =
      subst (λ l. HasReferences request.flow l kept) (sym (e ∙ taken))
      (λ object. let a = taken_count 32 wanted object in let b = kept_count (is_wanted_by request) index object in let c = refs object in omega
      (arith, a, b, c))

pub few_removed : (found : Segments) → length (take 32 found) ≤ step_size
few_removed found = let e = length-take 32 found in omega (arith, e)

-- the request that is due is one
pub due_is : (requests : List DeleteRow) (Fact : DeleteRow → Type 0) (request : DeleteRow) → first_unfinished requests ≡ Some request → Fact request
    → OfDue requests Fact
due_is requests Fact request e h other f = subst Fact (some_is (sym e ∙ f)) h
  where
    some_is : {x y : DeleteRow} → Some x ≡ Some y → x ≡ y
    some_is g = grind (arith, g)

-- where one is due, one is found
pub some_due : (found : Option DeleteRow) → is_some found ≡ true → None ≡ found → ⊥
some_due None e f = grind (arith, e)
some_due (Some x) e f = grind (arith, f)
