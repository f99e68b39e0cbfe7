-- States one behind another: where each follows the one before it, each follows all before it.
use Rattle.std.proofs.Common.{suc, Bool, true, false, List, [], ◌∷◌, ◌++◌, All, Option, Some, None, unwrap_or, arith}
use Rattle.std.specs.Prelude.{IfSome, option_to_list}
use Rattle.std.specs.List.{AllByRecursion}
use Rattle.media_rows.specs.Media.{HasDigests}
use Rattle.library_laws.proofs.ListLemmas.{In-from_Contains}
use Rattle.library_laws.specs.MediaLaws.{IsGoodArchive}
use Rattle.run_history.specs.Steps.{last_or, where_done}
use Rattle.store_states.specs.States.{StoreState}
use Rattle.tams_machine.specs.Laws.{KeepsBytes, KeepsDigests}
use Rattle.tams_histories.specs.Along.{KeepBytes, KeepDigests}
use Rattle.tams_histories.proofs.Following.{Follows, follows_keeps, follows_self, follows_twice}

pub all_by_recursion : {X : Type 0} (P : X → Type 0) (xs : List X) → All P xs → AllByRecursion P xs
all_by_recursion P [] all = tt
all_by_recursion P (x ∷ xs) all = (all 0 x (omega arith), all_by_recursion P xs (λ k d few. all (suc k) d (omega (arith, few))))

pub all_parts : {X : Type 0} (P : X → Type 0) (xs ys : List X) → AllByRecursion P (xs ++ ys) → AllByRecursion P xs × AllByRecursion P ys
all_parts P [] ys all = (tt, all)
all_parts P (x ∷ xs) ys all = let parts = all_parts P xs ys all.1 in ((all.0, parts.0), parts.1)

-- a state follows another, and has the digests of its objects' bytes where that has them
pub record Follower (s next : StoreState) : Type 0 where
  pub follows : Follows s.archive next.archive
  pub digests : KeepsDigests s next

-- where one state is good the next one follows it
abbrev pub Link : StoreState → StoreState → Type 0
Link s next = IsGoodArchive s.archive → Follower s next

-- each of these states follows the one before it, the first one this
abbrev pub Chain : StoreState → List StoreState → Type 0
Chain s [] = Unit {0}
Chain s (t ∷ later) = Link s t × Chain t later

pub chain_append : (s : StoreState) (xs ys : List StoreState) → Chain s xs → Chain (last_or s xs) ys → Chain s (xs ++ ys)
chain_append s [] ys one two = two
chain_append s (x ∷ xs) ys one two = (one.0, chain_append x xs ys one.1 two)

-- the change of an answer, and that of the turn behind it where it was made
pub chain_both : (s : StoreState) (change turn : Option StoreState) (made : Bool) → IfSome change (Link s) → IfSome turn (Link (unwrap_or change s))
    → Chain s (option_to_list change ++ where_done made turn)
chain_both s None None true one two = tt
chain_both s None (Some t) true one two = (two, tt)
chain_both s None turn false one two = tt
chain_both s (Some x) None true one two = (one, tt)
chain_both s (Some x) (Some t) true one two = (one, (two, tt))
chain_both s (Some x) turn false one two = (one, tt)

pub chain_done : (s : StoreState) (change : Option StoreState) (made : Bool) → IfSome change (Link s) → Chain s (where_done made change)
chain_done s None true one = tt
chain_done s (Some x) true one = (one, tt)
chain_done s change false one = tt

-- ---- along a chain

abbrev Good : StoreState → Type 0
Good s = IsGoodArchive s.archive

keeps : (s next : StoreState) → Good s → Follows s.archive next.archive → KeepsBytes s next
keeps s next good follows old new here there same is =
    follows_keeps s.archive next.archive good follows old new (In-from_Contains s.archive.library.objects old here)
    (In-from_Contains next.archive.library.objects new there) same is

reaches : (s t : StoreState) (later : List StoreState) → Good s → Follows s.archive t.archive → AllByRecursion Good (t ∷ later) → Chain t later
    → AllByRecursion (KeepsBytes s) later
reaches s t [] good follows goods chain = tt
reaches s t (u ∷ later) good follows goods chain =
    let next = follows_twice s.archive t.archive u.archive follows (chain.0 goods.0).follows in
    (keeps s u good next, reaches s u later good next goods.1 chain.1)

pub keep_along : (s : StoreState) (later : List StoreState) → AllByRecursion Good (s ∷ later) → Chain s later → KeepBytes (s ∷ later)
keep_along s [] goods chain = (tt, tt)
keep_along s (t ∷ later) goods chain =
    (reaches s s (t ∷ later) goods.0 (follows_self s.archive) goods chain, keep_along t later goods.1 chain.1)

digests_reach : (s : StoreState) (later : List StoreState) → AllByRecursion Good (s ∷ later) → Chain s later → HasDigests s.archive
    → AllByRecursion (λ next. HasDigests next.archive) later
digests_reach s [] goods chain has = tt
digests_reach s (t ∷ later) goods chain has =
    let next = (chain.0 goods.0).digests has in
    (next, digests_reach t later goods.1 chain.1 next)

pub digests_along : (s : StoreState) (later : List StoreState) → AllByRecursion Good (s ∷ later) → Chain s later → KeepDigests (s ∷ later)
digests_along s later goods chain = digests_reach s later goods chain
