-- The last connection of a site in memory, after it was changed.
use Rattle.std.proofs.Common.{◌≡◌, ◌<◌, ◌+◌, ◌∷◌, [], ℕ, zero, suc, List, length, map, set, get_or, Some, refl, sym, ap, ◌∙◌, arith, Ok}
use Rattle.std.specs.Prelude.{slice_get}
use Rattle.disk_trait.specs.Device.{Connection}
use Rattle.site_edge.specs.Links.{change_last, after_hear}
use Rattle.site_edge.specs.MemorySite.{rest_of_last}
use Rattle.site_edge.specs.Lines.{rest_of, Talk, with_changed_connection, heard_more}

-- a write at the last place
pub set_last : {A : Type 0} (f : A → A) (xs : List A) (n : ℕ) (x y : A) → n + 1 ≡ length xs → x ≡ get_or xs n x → y ≡ f x → set xs n y ≡ change_last f xs
set_last f [] n x y last at is = absurd (omega (arith, last))
set_last f (z ∷ []) zero x y last at is = rw (is, at) refl
set_last f (z ∷ []) (suc n) x y last at is = absurd (omega (arith, last))
set_last f (z ∷ w ∷ xs) zero x y last at is = absurd (omega (arith, last))
set_last f (z ∷ w ∷ xs) (suc n) x y last at is = ap (λ ys. z ∷ ys) (set_last f (w ∷ xs) n x y (omega (arith, last)) at is)

pub length-change_last : {A : Type 0} (f : A → A) (xs : List A) → length (change_last f xs) ≡ length xs
length-change_last f [] = refl
length-change_last f (x ∷ []) = refl
length-change_last f (x ∷ y ∷ xs) = ap suc (length-change_last f (y ∷ xs))

pub map-change_last : {A B : Type 0} (g : A → B) (f : A → A) (h : B → B) (xs : List A) → ((x : A) → g (f x) ≡ h (g x))
    → map g (change_last f xs) ≡ change_last h (map g xs)
map-change_last g f h [] same = refl
map-change_last g f h (x ∷ []) same = ap (λ y. y ∷ []) (same x)
map-change_last g f h (x ∷ y ∷ xs) same = ap (λ ys. g x ∷ ys) (map-change_last g f h (y ∷ xs) same)

pub change_last-change_last : {A : Type 0} (f g h : A → A) (xs : List A) → ((x : A) → f (g x) ≡ h x) → change_last f (change_last g xs) ≡ change_last h xs
change_last-change_last f g h [] same = refl
change_last-change_last f g h (x ∷ []) same = ap (λ y. y ∷ []) (same x)
change_last-change_last f g h (x ∷ y ∷ []) same = ap (λ z. x ∷ z ∷ []) (same y)
change_last-change_last f g h (x ∷ y ∷ z ∷ xs) same = ap (λ ys. x ∷ ys) (change_last-change_last f g h (y ∷ z ∷ xs) same)

-- the connections, once the last of them heard a piece, was told bytes or failed
pub connection_changed : (f h : Connection → Connection) (talks : List Talk) → ((c : Connection) → f c ≡ h c)
    → map (λ talk. talk.connection) (change_last (with_changed_connection f) talks) ≡ change_last h (map (λ talk. talk.connection) talks)
connection_changed f h talks same = map-change_last (λ talk. talk.connection) (with_changed_connection f) h talks (λ talk. same talk.connection)

pub heard_more-is : (E : Type 0) (count : ℕ) (out : List ℕ) (c : Connection) → heard_more count out c ≡ after_hear {E = E} (Ok count) out c
heard_more-is E zero out c = refl
heard_more-is E (suc n) out c = refl

-- what the connections were told, once the last of them changed
pub told_changed : (f : Connection → Connection) (h : List ℕ → List ℕ) (talks : List Talk) → ((c : Connection) → (f c).told ≡ h c.told)
    → map (λ c. c.told) (map (λ talk. talk.connection) (change_last (with_changed_connection f) talks)) ≡ change_last h
    (map (λ c. c.told) (map (λ talk. talk.connection) talks))
told_changed f h talks same =
    ap (map (λ c. c.told)) (connection_changed f f talks (λ c. refl)) ∙ map-change_last (λ c. c.told) f h (map (λ talk. talk.connection) talks) same

pub change_last_same : {A : Type 0} (f : A → A) (xs : List A) → ((x : A) → f x ≡ x) → change_last f xs ≡ xs
change_last_same f [] same = refl
change_last_same f (x ∷ []) same = ap (λ y. y ∷ []) (same x)
change_last_same f (x ∷ y ∷ xs) same = ap (λ ys. x ∷ ys) (change_last_same f (y ∷ xs) same)

-- a change that tells nothing
pub told_kept : (f : Connection → Connection) (talks : List Talk) → ((c : Connection) → (f c).told ≡ c.told)
    → map (λ c. c.told) (map (λ talk. talk.connection) (change_last (with_changed_connection f) talks)) ≡ map (λ c. c.told)
    (map (λ talk. talk.connection) talks)
told_kept f talks same = told_changed f (λ t. t) talks same ∙ change_last_same (λ t. t) _ (λ t. refl)

pub told-heard_more : (count : ℕ) (out : List ℕ) (c : Connection) → (heard_more count out c).told ≡ c.told
told-heard_more zero out c = refl
told-heard_more (suc n) out c = refl

-- what stands of the connection of a number
pub connection_at : {A : Type 0} (f : Connection → A) (talks : List Talk) (n : ℕ) (talk : Talk) → n < length talks → talk ≡ get_or talks n talk
    → slice_get (map f (map (λ t. t.connection) talks)) n ≡ Some (f talk.connection)
connection_at f [] n talk within at = absurd (omega (arith, within))
connection_at f (t ∷ talks) zero talk within at = ap (λ (x : Talk). Some (f x.connection)) (sym at)
connection_at f (t ∷ talks) (suc n) talk within at = connection_at f talks n talk (omega (arith, within)) at

-- the peers send what they sent before, whatever became of the last connection
pub peers_kept : (f : Connection → Connection) (talks : List Talk)
    → map (λ talk. talk.sends) (change_last (with_changed_connection f) talks) ≡ map (λ talk. talk.sends) talks
peers_kept f talks =
    map-change_last (λ talk. talk.sends) (with_changed_connection f) (λ sends. sends) talks (λ talk. refl) ∙ change_last_same (λ sends. sends) _ (λ sends. refl)

-- the last peer, by its place
pub rest_of_last_at : (talks : List Talk) (n : ℕ) (talk : Talk) → n + 1 ≡ length talks → talk ≡ get_or talks n talk → rest_of_last talks ≡ rest_of talk
rest_of_last_at [] n talk last at = absurd (omega (arith, last))
rest_of_last_at (t ∷ []) zero talk last at = ap rest_of (sym at)
rest_of_last_at (t ∷ []) (suc n) talk last at = absurd (omega (arith, last))
rest_of_last_at (t ∷ u ∷ talks) zero talk last at = absurd (omega (arith, last))
rest_of_last_at (t ∷ u ∷ talks) (suc n) talk last at = rest_of_last_at (u ∷ talks) n talk (omega (arith, last)) at
