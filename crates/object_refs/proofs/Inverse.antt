-- Two functions that lead back to one another, and what a change at one place keeps of them.
use Rattle.std.proofs.Common.{◌≡◌, ℤ, int_eq, Bool, true, false, Option, Some, None, refl, sym, ap, subst, ◌∙◌, arith}
use Rattle.object_refs.specs.Within.Books.{IsInverse}
use Rattle.object_refs.proofs.Looks.{is_same, same_is}

pub some_same : {X : Type 0} {x y : X} → Some x ≡ Some y → x ≡ y
some_same e = grind arith

pub none_some : {X : Type 0} {x : X} → None ≡ Some x → true ≡ false
none_some e = absurd (grind (arith, e))

pub clash : {b : Bool} → b ≡ true → b ≡ false → true ≡ false
clash t f = sym t ∙ f

module _ {K : Type 0} (same : K → K → Bool) (sound : (a b : K) → same a b ≡ true → a ≡ b) (whole : (a b : K) → a ≡ b → same a b ≡ true) where
  -- whether it is there and this one
  abbrev pub is_it : Option K → K → Bool
  is_it None k = false
  is_it (Some x) k = same x k

  pub it_is : (o : Option K) (k : K) → o ≡ Some k → is_it o k ≡ true
  it_is None k e = absurd (grind (arith, e))
  it_is (Some x) k e = whole x k (some_same e)

  pub is_there : (o : Option K) (k : K) → is_it o k ≡ true → o ≡ Some k
  is_there None k e = absurd (grind (arith, e))
  is_there (Some x) k e = ap (λ y. Some y) (sound x k e)

  -- what is changed at one place of both
  pub record Moves (forth forth' : ℤ → Option K) (back back' : K → Option ℤ) (s : ℤ) (new : Option K) : Type 0 where
    pub here : forth' s ≡ new
    pub elsewhere : (t : ℤ) → int_eq s t ≡ false → forth' t ≡ forth t
    pub entered : (k : K) → is_it new k ≡ true → back' k ≡ Some s
    pub left : (k : K) → is_it new k ≡ false → is_it (forth s) k ≡ true → back' k ≡ None
    pub others : (k : K) → is_it new k ≡ false → is_it (forth s) k ≡ false → back' k ≡ back k
    pub fresh : (k : K) (t : ℤ) → is_it new k ≡ true → back k ≡ Some t → t ≡ s

  pub moved : (forth forth' : ℤ → Option K) (back back' : K → Option ℤ) (s : ℤ) (new : Option K) → IsInverse forth back → Moves forth forth' back back' s new
      → IsInverse forth' back'
  moved forth forth' back back' s new inverse moves = record { out = out; home = home }
    where
      out : (t : ℤ) (k : K) → forth' t ≡ Some k → back' k ≡ Some t
      out t k e = by (int_eq s t) refl
        where
          away : int_eq s t ≡ false → back k ≡ Some t → back' k ≡ Some t
          away differs b = by' (is_it new k) (is_it (forth s) k) refl refl
            where
              by' : (n o : Bool) → is_it new k ≡ n → is_it (forth s) k ≡ o → back' k ≡ Some t
              by' true o en eo = absurd (let f = clash (is_same s t (sym (moves.fresh k t en b))) differs in grind (arith, f))
              by' false true en eo =
                  let here : back k ≡ Some s = inverse.out s k (is_there (forth s) k eo) in
                  absurd (let f = clash (is_same s t (some_same (sym here ∙ b))) differs in grind (arith, f))
              by' false false en eo = moves.others k en eo ∙ b

          by : (b : Bool) → int_eq s t ≡ b → back' k ≡ Some t
          by true eb =
              let st = same_is s t eb in
              moves.entered k (it_is new k (sym moves.here ∙ ap forth' st ∙ e)) ∙ ap (λ z. Some z) st
          by false eb = away eb (inverse.out t k (sym (moves.elsewhere t eb) ∙ e))

      home : (k : K) (t : ℤ) → back' k ≡ Some t → forth' t ≡ Some k
      home k t e = by (is_it new k) (is_it (forth s) k) refl refl
        where
          away : (b : Bool) → int_eq s t ≡ b → is_it (forth s) k ≡ false → forth t ≡ Some k → forth' t ≡ Some k
          away true eb eo f = absurd (let c = clash (it_is (forth s) k (ap forth (same_is s t eb) ∙ f)) eo in grind (arith, c))
          away false eb eo f = moves.elsewhere t eb ∙ f

          by : (n o : Bool) → is_it new k ≡ n → is_it (forth s) k ≡ o → forth' t ≡ Some k
          by true o en eo =
              let st : s ≡ t = some_same (sym (moves.entered k en) ∙ e) in
              subst (λ z. forth' z ≡ Some k) st (moves.here ∙ is_there new k en)
          by false true en eo = absurd (let f = none_some (sym (moves.left k en eo) ∙ e) in grind (arith, f))
          by false false en eo = away (int_eq s t) refl eo (inverse.home k t (sym (moves.others k en eo) ∙ e))

-- the same places lead to the same
pub unmoved : {K : Type 0} (forth forth' : ℤ → Option K) (back : K → Option ℤ) → IsInverse forth back → ((t : ℤ) → forth' t ≡ forth t) → IsInverse forth' back
unmoved forth forth' back inverse same = record {
  out = λ s k e. inverse.out s k (sym (same s) ∙ e);
  home = λ k s e. same s ∙ inverse.home k s e;
}
