-- Two parts of a list are moved to its front.
use Rattle.std.proofs.Common.{◌≡◌, ℕ, ◌+◌, ◌-◌, ◌≤◌, List, ◌++◌, length, take, drop, refl, sym, ap, ◌∙◌, arith, length-append, length-drop, drop-drop}
use Rattle.std.specs.List.{copy_within}
use Rattle.std.proofs.lemmas.List.{drop_at, length-take-le, take_all, take_at}

-- the first part is in front
first_moved : (xs : List ℕ) (start taken : ℕ) → copy_within xs start (start + taken) 0 ≡ take taken (drop start xs) ++ drop taken xs
first_moved xs start taken =
    let size : start + taken - start ≡ taken = omega arith in
    let none : 0 + taken ≡ taken = omega arith in
    rw (size, none) refl

pub both_moved : (xs first second : List ℕ) (start taken read end : ℕ) → start + taken ≤ read → read ≤ end → end ≡ length xs
    → first ≡ copy_within xs start (start + taken) 0 → second ≡ copy_within first read end taken
    → take (taken + (end - read)) second ≡ take taken (drop start xs) ++ drop read xs
both_moved xs first second start taken read end order inside all one two =
    let size : length (take taken (drop start xs)) ≡ taken =
    length-take-le taken (drop start xs) (omega (arith, length-drop start xs)) in
    let is_first : first ≡ take taken (drop start xs) ++ drop taken xs = one ∙ first_moved xs start taken in
    let kept : take taken first ≡ take taken (drop start xs) = ap (take taken) is_first ∙ take_at _ (drop taken xs) taken size in
    let further : drop taken first ≡ drop taken xs = ap (drop taken) is_first ∙ drop_at _ (drop taken xs) taken size in
    let sums : taken + (read - taken) ≡ read = omega arith in
    let rest : drop read first ≡ drop read xs =
    ap (λ n. drop n first) (sym sums) ∙ sym (drop-drop (read - taken) taken first) ∙ ap (drop (read - taken)) further
    ∙ drop-drop (read - taken) taken xs ∙ ap (λ n. drop n xs) sums in
    let whole_rest : take (end - read) (drop read xs) ≡ drop read xs = take_all (end - read) (drop read xs) (omega (arith, length-drop read xs)) in
    let total : length (take taken (drop start xs) ++ drop read xs) ≡ taken + (end - read) =
    omega (arith, length-append (take taken (drop start xs)) (drop read xs), size, length-drop read xs) in
    rw (two, kept, rest, whole_rest) (take_at (take taken (drop start xs) ++ drop read xs) _ (taken + (end - read)) total)
