-- What holds of each row of a list holds of each of its pages.
use Rattle.std.proofs.Common.{◌≡◌, ℤ, Bool, true, false, List}
use Rattle.std.specs.Prelude.{reverse, if◌then◌else◌}
use Rattle.std.specs.List.{list_all}
use Rattle.media_rows.specs.declared.command.Page.{Page}
use Rattle.media_rows.specs.Lists.{page_items}
use Rattle.library_laws.proofs.ListLemmas.{In, In-filter, In-take, list_all-In, list_all-from_In}
use Rattle.library_laws.proofs.FollowLemmas.{In-reverse}

In-turned : {X : Type 0} (back : Bool) (xs : List X) (x : X) → In x (if back then reverse xs else xs) → In x xs
In-turned true xs x h = In-reverse xs x h
In-turned false xs x h = h

pub In-page : {X : Type 0} (key : X → ℤ) (page : Page) (xs : List X) (x : X) → In x (page_items key page xs) → In x xs
In-page key page xs x h = In-turned page.reverse xs x (In-filter _ _ x (In-take page.limit _ x h)).0

pub list_all-page : {X : Type 0} (p : X → Bool) (key : X → ℤ) (page : Page) (xs : List X) → list_all p xs ≡ true → list_all p (page_items key page xs) ≡ true
list_all-page p key page xs e = list_all-from_In p (page_items key page xs) (λ x here. list_all-In p xs e x (In-page key page xs x here))
