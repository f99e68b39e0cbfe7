-- What the walk of the router finds: a row that fits the path where one does. Each parameter stands for a whole piece here.
use Rattle.std.proofs.Common.{◌≡◌, ◌≢◌, ◌⊎◌, inl, inr, ℕ, zero, suc, ◌-◌, ◌<◌, ◌≤◌, List, [], ◌∷◌, length, drop, Option, Some, None, Bool, true, false, cond, refl, sym, ap, ap₂, ◌∙◌, arith, nat_eq, ◌==◌, ltb, ◌&&◌, ◌||◌, true≢false, subst}
use Rattle.std.specs.Prelude.{not}
use Rattle.std.proofs.lemmas.Bool.Decides.{nat_tests}
use Rattle.std.specs.List.{ends_with}
use Rattle.std.specs.Cmp.Lexicographic.{pointwise}
use Rattle.matchit.specs.Rows.{RowsOf, param_token, catch_all_token}
use Rattle.matchit.specs.Seek.{slash, segment, has_slash, same_text, cuts, better, own, step, or_else, longest_from, longest_suffix, with_suffix, param_step, seek}
use Rattle.matchit.specs.Level.{IsText}
use Rattle.matchit.proofs.CountLemmas.{some-segment}

-- ---- what fits

-- the rest of a path from its first slash on
abbrev pub after_run : List ℕ → List ℕ
after_run [] = []
after_run (b ∷ p) = cond (b == slash) (b ∷ p) (after_run p)

-- a path is one of a pattern, of which each parameter takes at least one byte and all of them up to the next slash
abbrev pub fits : List ℕ → List ℕ → Bool
fits [] [] = true
fits [] (b ∷ p) = false
fits (x ∷ t) [] = false
fits (x ∷ t) (b ∷ p) = cond (x == param_token) (not (b == slash) && fits t (after_run (b ∷ p))) (x == b && fits t p)

-- nothing stands here, or a slash
abbrev pub ends_piece : List ℕ → Bool
ends_piece [] = true
ends_piece (y ∷ t) = y == slash

-- each parameter of a pattern is followed by its piece's end, and no token takes all that is left
abbrev pub IsPlain : List ℕ → Type 0
IsPlain [] = Unit {0}
IsPlain (x ∷ t) = ((x == catch_all_token) ≡ false) × ((x == param_token) ≡ true → ends_piece t ≡ true) × IsPlain t

-- it has a token
abbrev pub goes : List ℕ → Bool
goes [] = false
goes (y ∷ t) = true

module _ {K : Type 0} where
  abbrev pub AllPlain : RowsOf K → Type 0
  AllPlain [] = Unit {0}
  AllPlain ((t, k) ∷ rs) = IsPlain t × AllPlain rs

  -- no row fits a path
  abbrev pub NoneFits : RowsOf K → List ℕ → Type 0
  NoneFits [] p = Unit {0}
  NoneFits ((t, k) ∷ rs) p = (fits t p ≡ false) × NoneFits rs p

  -- a row with this key does
  abbrev pub Fits : K → RowsOf K → List ℕ → Type 0
  Fits j [] p = ⊥
  Fits j ((t, k) ∷ rs) p = ((k ≡ j) × (fits t p ≡ true)) ⊎ Fits j rs p

  -- an answer for a path: the key of a row that fits, or none where no row does
  abbrev pub Found : Option K → RowsOf K → List ℕ → Type 0
  Found None rs p = NoneFits rs p
  Found (Some k) rs p = Fits k rs p

  abbrev AllEnd : RowsOf K → Type 0
  AllEnd [] = Unit {0}
  AllEnd ((t, k) ∷ rs) = (ends_piece t ≡ true) × AllEnd rs

  abbrev any_goes : RowsOf K → Bool
  any_goes [] = false
  any_goes ((t, k) ∷ rs) = goes t || any_goes rs

-- ---- paths

run_goes : (p : List ℕ) → goes (after_run p) ≡ has_slash p
run_goes [] = refl
run_goes (b ∷ p) = by (b == slash) (run_goes p)
  where
    by : (v : Bool) → goes (after_run p) ≡ has_slash p → goes (cond v (b ∷ p) (after_run p)) ≡ cond v true (has_slash p)
    by true h = refl
    by false h = h

run_short : (p : List ℕ) → length (after_run p) ≤ length p
run_short [] = omega arith
run_short (b ∷ p) = by (b == slash) (run_short p)
  where
    by : (v : Bool) → length (after_run p) ≤ length p → length (cond v (b ∷ p) (after_run p)) ≤ suc (length p)
    by true h = omega arith
    by false h = omega arith

run_text : (p : List ℕ) → IsText p → IsText (after_run p)
run_text [] h = tt
run_text (b ∷ p) h = by (b == slash) (run_text p h.1)
  where
    by : (v : Bool) → IsText (after_run p) → IsText (cond v (b ∷ p) (after_run p))
    by true k = h
    by false k = k

run_none : (p : List ℕ) → has_slash p ≡ false → after_run p ≡ []
run_none [] h = refl
run_none (b ∷ p) h = by (b == slash) h (run_none p)
  where
    by : (v : Bool) → cond v true (has_slash p) ≡ false → (has_slash p ≡ false → after_run p ≡ []) → cond v (b ∷ p) (after_run p) ≡ []
    by true k ih = absurd (true≢false k)
    by false k ih = ih k

pub same_byte : (a b : ℕ) → (a == b) ≡ true → a ≡ b
same_byte a b h = grind (arith, nat_tests)

less_one : (n : ℕ) → suc n - 1 ≡ n
less_one n = omega arith

drop_less : (n c : ℕ) (p : List ℕ) → 0 < n → drop n (c ∷ p) ≡ drop (n - 1) p
drop_less zero c p h = absurd (omega (arith, h))
drop_less (suc n) c p h = ap (λ m. drop m p) (sym (less_one n))

drop_all : (p : List ℕ) → drop (length p) p ≡ []
drop_all [] = refl
drop_all (b ∷ p) = drop_all p

segment_some : (p : List ℕ) → has_slash p ≡ true → 0 < length (segment p)
segment_some [] h = absurd (true≢false (sym h))
segment_some (x ∷ p) h = some-segment x p

-- what stands behind a segment but for its slash
run_dropped : (p : List ℕ) → has_slash p ≡ true → drop (length (segment p) - 1) p ≡ after_run p
run_dropped [] h = absurd (true≢false (sym h))
run_dropped (c ∷ p) h = by (c == slash) h (run_dropped p)
  where
    by : (v : Bool) → cond v true (has_slash p) ≡ true → (has_slash p ≡ true → drop (length (segment p) - 1) p ≡ after_run p)
        → drop (length (cond v (c ∷ []) (c ∷ segment p)) - 1) (c ∷ p) ≡ cond v (c ∷ p) (after_run p)
    by true k ih = refl
    by false k ih =
        ap (λ m. drop m (c ∷ p)) (less_one (length (segment p))) ∙ drop_less (length (segment p)) c p (segment_some p k) ∙ ih k

nil_fits : (q : List ℕ) → goes q ≡ true → fits [] q ≡ false
nil_fits [] h = absurd (true≢false (sym h))
nil_fits (b ∷ q) h = refl

-- ---- segments

-- the last byte is a slash
abbrev ends_slash : List ℕ → Bool
ends_slash s = ends_with nat_eq s (slash ∷ [])

last_more : (b y : ℕ) (s : List ℕ) → ends_slash (b ∷ y ∷ s) ≡ ends_slash (y ∷ s)
last_more b y s =
    ap (λ m. pointwise nat_eq (slash ∷ []) (drop m (b ∷ y ∷ s))) (less_one (suc (length s)))
    ∙ ap (λ m. pointwise nat_eq (slash ∷ []) (drop m (y ∷ s))) (sym (less_one (length s)))

last_cons : (b : ℕ) (s : List ℕ) → (b == slash) ≡ false → ends_slash (b ∷ s) ≡ ends_slash s
last_cons b [] h = grind (arith, nat_tests)
last_cons b (y ∷ s) h = last_more b y s

last_slash : (p : List ℕ) → ends_slash (segment p) ≡ has_slash p
last_slash [] = refl
last_slash (b ∷ p) = by (b == slash) refl (last_slash p)
  where
    by : (v : Bool) → (b == slash) ≡ v → ends_slash (segment p) ≡ has_slash p → ends_slash (cond v (b ∷ []) (b ∷ segment p)) ≡ cond v true (has_slash p)
    by true e h =
        let same : b ≡ slash = grind (arith, nat_tests) in
        rw same refl
    by false e h = last_cons b (segment p) e ∙ h

cuts_cons : (b : ℕ) (s : List ℕ) → cuts (b ∷ s) (slash ∷ []) ≡ ends_slash s
cuts_cons b [] = refl
cuts_cons b (y ∷ s) =
    let l : 1 < length (b ∷ y ∷ s) = omega arith in
    let e : ltb 1 (length (b ∷ y ∷ s)) ≡ true = grind (arith, nat_tests) in
    ap (λ (v : Bool). v && ends_slash (b ∷ y ∷ s)) e ∙ last_more b y s

-- a segment is cut by a slash where it has one behind a byte
cuts_segment : (b : ℕ) (p : List ℕ) → cuts (segment (b ∷ p)) (slash ∷ []) ≡ (not (b == slash) && has_slash p)
cuts_segment b p = by (b == slash)
  where
    by : (v : Bool) → cuts (cond v (b ∷ []) (b ∷ segment p)) (slash ∷ []) ≡ (not v && has_slash p)
    by true = refl
    by false = cuts_cons b (segment p) ∙ last_slash p

-- ---- a pattern's first token

pub byte_row : (x b : ℕ) (t p : List ℕ) → (x == param_token) ≡ false → fits (x ∷ t) (b ∷ p) ≡ (x == b && fits t p)
byte_row x b t p e =
    ap (λ (u : Bool). cond {A = Bool} u (not (b == slash) && fits t (after_run (b ∷ p))) (x == b && fits t p)) e

param_row : (x b : ℕ) (t p : List ℕ) (v : Bool) → (x == param_token) ≡ true → (b == slash) ≡ v
    → fits (x ∷ t) (b ∷ p) ≡ (not v && fits t (cond {A = List ℕ} v (b ∷ p) (after_run p)))
param_row x b t p v e ev =
    ap₂ (λ (u w : Bool). cond {A = Bool} u (not w && fits t (cond {A = List ℕ} w (b ∷ p) (after_run p))) (x == b && fits t p)) e ev

not_both : (x b : ℕ) → b < 256 → (x == b) ≡ true → (x == param_token) ≡ false
not_both x b lt e =
    let same : x ≡ b = same_byte x b e in
    let n : x ≢ param_token = λ q. omega arith in
    grind (arith, nat_tests)

better_first : (seg : List ℕ) (y : ℕ) (t : List ℕ) → (y == slash) ≡ true
    → better seg [] (segment (y ∷ t)) ≡ cond {A = List ℕ} (cuts seg (slash ∷ [])) (slash ∷ []) []
better_first seg y t h = rw (same_byte y slash h) refl

better_kept : (seg : List ℕ) (y : ℕ) (t : List ℕ) → (y == slash) ≡ true → better seg (slash ∷ []) (segment (y ∷ t)) ≡ slash ∷ []
better_kept seg y t h = rw (same_byte y slash h) refl

slash_alone : (y : ℕ) (t : List ℕ) → (y == slash) ≡ true → same_text (segment (y ∷ t)) (slash ∷ []) ≡ true
slash_alone y t h = rw (same_byte y slash h) refl

segment_dropped : (b : ℕ) (p : List ℕ) → (b == slash) ≡ false → has_slash p ≡ true → drop (length (segment (b ∷ p)) - 1 - 1) p ≡ after_run p
segment_dropped b p ev ew =
    ap (λ (x : Bool). drop (length (cond {A = List ℕ} x (b ∷ []) (b ∷ segment p)) - 1 - 1) p) ev
    ∙ ap (λ m. drop (m - 1) p) (less_one (length (segment p))) ∙ run_dropped p ew

-- what the walk is to find for paths of so many bytes
abbrev Sought : Type 0 → ℕ → Type 0
Sought K n = (rs : RowsOf K) (q : List ℕ) → length q ≤ n → AllPlain rs → IsText q → Found (seek 0 rs q) rs q

module _ {K : Type 0} where
  -- ---- the longest suffix

  longest_kept : (seg : List ℕ) (rs : RowsOf K) → AllEnd rs → longest_from seg (slash ∷ []) rs ≡ slash ∷ []
  longest_kept seg [] h = refl
  longest_kept seg (([], k) ∷ rs) h = longest_kept seg rs h.1
  longest_kept seg ((y ∷ t, k) ∷ rs) h =
      ap (λ (s : List ℕ). longest_from seg s rs) (better_kept seg y t h.0) ∙ longest_kept seg rs h.1

  longest_is : (seg : List ℕ) (v : Bool) → cuts seg (slash ∷ []) ≡ v → (rs : RowsOf K) → AllEnd rs
      → longest_from seg [] rs ≡ cond {A = List ℕ} (v && any_goes rs) (slash ∷ []) []
  longest_is seg true e [] h = refl
  longest_is seg false e [] h = refl
  longest_is seg true e (([], k) ∷ rs) h = longest_is seg true e rs h.1
  longest_is seg false e (([], k) ∷ rs) h = longest_is seg false e rs h.1
  longest_is seg true e ((y ∷ t, k) ∷ rs) h =
      ap (λ (s : List ℕ). longest_from seg s rs)
      (better_first seg y t h.0 ∙ ap (λ (w : Bool). cond {A = List ℕ} w (slash ∷ []) []) e) ∙ longest_kept seg rs h.1
  longest_is seg false e ((y ∷ t, k) ∷ rs) h =
      ap (λ (s : List ℕ). longest_from seg s rs)
      (better_first seg y t h.0 ∙ ap (λ (w : Bool). cond {A = List ℕ} w (slash ∷ []) []) e) ∙ longest_is seg false e rs h.1

  longest_step : (rs : RowsOf K) → AllEnd rs → (b : ℕ) (p : List ℕ) (v w g : Bool) → (b == slash) ≡ v → has_slash p ≡ w → any_goes rs ≡ g
      → longest_suffix (segment (b ∷ p)) rs ≡ cond {A = List ℕ} ((not v && w) && g) (slash ∷ []) []
  longest_step rs h b p v w g ev ew eg =
      longest_is (segment (b ∷ p)) (not v && w) (cuts_segment b p ∙ ap₂ (λ (x y : Bool). not x && y) ev ew) rs h
      ∙ ap (λ (x : Bool). cond {A = List ℕ} ((not v && w) && x) (slash ∷ []) []) eg

  -- where a walk goes on by the longest suffix, and by whether the path has a slash
  abbrev goes_on : RowsOf K → ℕ → List ℕ → List ℕ → Bool → ℕ × RowsOf K
  goes_on rs b p s has =
      cond {A = ℕ × RowsOf K} (ltb 0 (length s)) (length (segment (b ∷ p)) - length s, with_suffix s rs)
      (cond {A = ℕ × RowsOf K} has (0, []) (length (b ∷ p), rs))

  step_is : (rs : RowsOf K) (b : ℕ) (p : List ℕ) → param_step rs (b ∷ p) ≡ goes_on rs b p (longest_suffix (segment (b ∷ p)) rs) (has_slash (b ∷ p))
  unfolding param_step
  step_is rs b p = refl

  step_to : (rs : RowsOf K) → AllEnd rs → (b : ℕ) (p : List ℕ) (v w g : Bool) → (b == slash) ≡ v → has_slash p ≡ w → any_goes rs ≡ g
      → param_step rs (b ∷ p) ≡ goes_on rs b p (cond {A = List ℕ} ((not v && w) && g) (slash ∷ []) []) (cond {A = Bool} v true w)
  step_to rs h b p v w g ev ew eg =
      step_is rs b p
      ∙ ap₂ (λ (s : List ℕ) (has : Bool). goes_on rs b p s has) (longest_step rs h b p v w g ev ew eg)
      (ap₂ (λ (x y : Bool). cond {A = Bool} x true y) ev ew)

  -- ---- rows with the suffix

  kept_plain : (s : List ℕ) (rs : RowsOf K) → AllPlain rs → AllPlain (with_suffix s rs)
  kept_plain s [] h = tt
  kept_plain s ((t, k) ∷ rs) h = by (same_text (segment t) s) (kept_plain s rs h.1)
    where
      by : (v : Bool) → AllPlain (with_suffix s rs) → AllPlain (cond {A = RowsOf K} v ((t, k) ∷ with_suffix s rs) (with_suffix s rs))
      by true ih = (h.0, ih)
      by false ih = ih

  suffix_kept : (y : ℕ) (t : List ℕ) (k : K) (rs : RowsOf K) → (y == slash) ≡ true
      → with_suffix (slash ∷ []) ((y ∷ t, k) ∷ rs) ≡ (y ∷ t, k) ∷ with_suffix (slash ∷ []) rs
  suffix_kept y t k rs h =
      ap (λ (v : Bool). cond {A = RowsOf K} v ((y ∷ t, k) ∷ with_suffix (slash ∷ []) rs) (with_suffix (slash ∷ []) rs)) (slash_alone y t h)

  kept_none : (q : List ℕ) → goes q ≡ true → (rs : RowsOf K) → AllEnd rs → NoneFits (with_suffix (slash ∷ []) rs) q → NoneFits rs q
  kept_none q g [] h n = tt
  kept_none q g (([], k) ∷ rs) h n = (nil_fits q g, kept_none q g rs h.1 n)
  kept_none q g ((y ∷ t, k) ∷ rs) h n =
      let m : NoneFits ((y ∷ t, k) ∷ with_suffix (slash ∷ []) rs) q = subst (λ r. NoneFits r q) (suffix_kept y t k rs h.0) n in
      (m.0, kept_none q g rs h.1 m.1)

  kept_some : (s : List ℕ) (j : K) (q : List ℕ) (rs : RowsOf K) → Fits j (with_suffix s rs) q → Fits j rs q
  kept_some s j q [] f = f
  kept_some s j q ((t, k) ∷ rs) f = by (same_text (segment t) s) (kept_some s j q rs) f
    where
      by : (v : Bool) → (Fits j (with_suffix s rs) q → Fits j rs q)
          → Fits j (cond {A = RowsOf K} v ((t, k) ∷ with_suffix s rs) (with_suffix s rs)) q → ((k ≡ j) × (fits t q ≡ true)) ⊎ Fits j rs q
      by true ih (inl x) = inl x
      by true ih (inr x) = inr (ih x)
      by false ih x = inr (ih x)

  kept_found : (c : Option K) (q : List ℕ) → goes q ≡ true → (rs : RowsOf K) → AllEnd rs → Found c (with_suffix (slash ∷ []) rs) q → Found c rs q
  kept_found None q g rs h f = kept_none q g rs h f
  kept_found (Some j) q g rs h f = kept_some (slash ∷ []) j q rs f

  none_goes : (rs : RowsOf K) → any_goes rs ≡ false → (q : List ℕ) → goes q ≡ true → NoneFits rs q
  none_goes [] h q g = tt
  none_goes (([], k) ∷ rs) h q g = (nil_fits q g, none_goes rs h q g)
  none_goes ((y ∷ t, k) ∷ rs) h q g = absurd (true≢false h)

  -- ---- the end of a path

  own_found : (rs : RowsOf K) → Found (own rs) rs []
  own_found [] = tt
  own_found (([], k) ∷ rs) = inl (refl, refl)
  own_found ((x ∷ t, k) ∷ rs) = by (own rs) (own_found rs)
    where
      by : (c : Option K) → Found c rs [] → Found c ((x ∷ t, k) ∷ rs) []
      by None n = (refl, n)
      by (Some j) f = inr f

  end_found : (rs : RowsOf K) → Found (seek 0 rs []) rs []
  unfolding seek
  end_found rs = own_found rs

  param_none : (p : List ℕ) → (param_step {K = K} [] p).1 ≡ []
  unfolding param_step
  param_none p =
      elim (has_slash p) as (λ v. (cond {A = ℕ × RowsOf K} v (0, []) (length p, [])).1 ≡ []) [
        | true ↦ refl
        | false ↦ refl
      ]

  seek_none : (n : ℕ) (p : List ℕ) → seek {K = K} n [] p ≡ None
  unfolding seek
  seek_none n [] = refl
  seek_none (suc n) (b ∷ p) = seek_none n p
  seek_none zero (b ∷ p) = simp (seek_none 0 p, param_none (b ∷ p), seek_none (((param_step {K = K} [] (b ∷ p)).0) - 1) p)

  seek_dropped : (n : ℕ) (rs : RowsOf K) (p : List ℕ) → seek n rs p ≡ seek 0 rs (drop n p)
  unfolding seek
  seek_dropped zero rs p = refl
  seek_dropped (suc n) rs [] = refl
  seek_dropped (suc n) rs (b ∷ p) = seek_dropped n rs p

  -- ---- a parameter

  -- the answer behind a parameter
  abbrev walked : ℕ × RowsOf K → List ℕ → Option K
  walked r p = seek (r.0 - 1) r.1 p

  -- the answer for a path behind its first byte: none where that is a slash
  abbrev ParamFound : Bool → Option K → RowsOf K → List ℕ → Type 0
  ParamFound true c rs p = c ≡ None
  ParamFound false c rs p = Found c rs (after_run p)

  param_found : (n : ℕ) → Sought K n → (rs : RowsOf K) → AllEnd rs → AllPlain rs → (b : ℕ) (p : List ℕ) → length p ≤ n → IsText p
      → ParamFound (b == slash) (walked (param_step rs (b ∷ p)) p) rs p
  param_found n sought rs h plain b p short text = by (b == slash) refl (has_slash p) refl (any_goes rs) refl
    where
      by : (v : Bool) → (b == slash) ≡ v → (w : Bool) → has_slash p ≡ w → (g : Bool) → any_goes rs ≡ g
          → ParamFound v (walked (param_step rs (b ∷ p)) p) rs p
      by true ev w ew g eg = ap (λ (r : ℕ × RowsOf K). walked r p) (step_to rs h b p true w g ev ew eg) ∙ seek_none (0 - 1) p
      by false ev true ew true eg =
          let kept : RowsOf K = with_suffix (slash ∷ []) rs in
          let found : Found (seek 0 kept (after_run p)) kept (after_run p) =
          sought kept (after_run p) (omega (arith, short, run_short p)) (kept_plain (slash ∷ []) rs plain) (run_text p text) in
          let same : walked (param_step rs (b ∷ p)) p ≡ seek 0 kept (after_run p) =
          ap (λ (r : ℕ × RowsOf K). walked r p) (step_to rs h b p false true true ev ew eg)
          ∙ seek_dropped (length (segment (b ∷ p)) - 1 - 1) kept p ∙ ap (λ (q : List ℕ). seek 0 kept q) (segment_dropped b p ev ew) in
          kept_found (walked (param_step rs (b ∷ p)) p) (after_run p) (run_goes p ∙ ew) rs h
          (subst (λ (c : Option K). Found c kept (after_run p)) (sym same) found)
      by false ev true ew false eg =
          let same : walked (param_step rs (b ∷ p)) p ≡ None =
          ap (λ (r : ℕ × RowsOf K). walked r p) (step_to rs h b p false true false ev ew eg) ∙ seek_none (0 - 1) p in
          subst (λ (c : Option K). Found c rs (after_run p)) (sym same) (none_goes rs eg (after_run p) (run_goes p ∙ ew))
      by false ev false ew g eg =
          let same : walked (param_step rs (b ∷ p)) p ≡ seek 0 rs [] =
          ap (λ (r : ℕ × RowsOf K). walked r p) (step_to rs h b p false false g ev ew eg)
          ∙ ap (λ (m : ℕ). seek m rs p) (less_one (length p)) ∙ seek_dropped (length p) rs p ∙ ap (λ (q : List ℕ). seek 0 rs q) (drop_all p) in
          subst (λ (q : List ℕ). Found (walked (param_step rs (b ∷ p)) p) rs q) (sym (run_none p ew))
          (subst (λ (c : Option K). Found c rs []) (sym same) (end_found rs))

  -- ---- a step

  plain_step : (b : ℕ) (rs : RowsOf K) → AllPlain rs → AllPlain (step b rs)
  plain_step b [] h = tt
  plain_step b (([], k) ∷ rs) h = plain_step b rs h.1
  plain_step b ((x ∷ t, k) ∷ rs) h = by (x == b) (plain_step b rs h.1)
    where
      by : (v : Bool) → AllPlain (step b rs) → AllPlain (cond {A = RowsOf K} v ((t, k) ∷ step b rs) (step b rs))
      by true ih = (h.0.2, ih)
      by false ih = ih

  ends_step : (rs : RowsOf K) → AllPlain rs → AllEnd (step param_token rs)
  ends_step [] h = tt
  ends_step (([], k) ∷ rs) h = ends_step rs h.1
  ends_step ((x ∷ t, k) ∷ rs) h = by (x == param_token) refl (ends_step rs h.1)
    where
      by : (v : Bool) → (x == param_token) ≡ v → AllEnd (step param_token rs)
          → AllEnd (cond {A = RowsOf K} v ((t, k) ∷ step param_token rs) (step param_token rs))
      by true e ih = (h.0.1 e, ih)
      by false e ih = ih

  no_rest : (rs : RowsOf K) → AllPlain rs → step catch_all_token rs ≡ []
  no_rest [] h = refl
  no_rest (([], k) ∷ rs) h = no_rest rs h.1
  no_rest ((x ∷ t, k) ∷ rs) h =
      ap (λ (v : Bool). cond {A = RowsOf K} v ((t, k) ∷ step catch_all_token rs) (step catch_all_token rs)) h.0.0 ∙ no_rest rs h.1

  or_none : (c : Option K) → or_else c None ≡ c
  or_none None = refl
  or_none (Some k) = refl

  none_at_slash : (b : ℕ) (p : List ℕ) → b < 256 → (b == slash) ≡ true → (rs : RowsOf K) → NoneFits (step b rs) p → NoneFits rs (b ∷ p)
  none_at_slash b p lt ev [] n = tt
  none_at_slash b p lt ev (([], k) ∷ rs) n = (refl, none_at_slash b p lt ev rs n)
  none_at_slash b p lt ev ((x ∷ t, k) ∷ rs) n = by (x == b) refl n (x == param_token) refl (none_at_slash b p lt ev rs)
    where
      by : (w : Bool) → (x == b) ≡ w → NoneFits (cond {A = RowsOf K} w ((t, k) ∷ step b rs) (step b rs)) p → (u : Bool) → (x == param_token) ≡ u
          → (NoneFits (step b rs) p → NoneFits rs (b ∷ p)) → (fits (x ∷ t) (b ∷ p) ≡ false) × NoneFits rs (b ∷ p)
      by true ew m true eu ih = absurd (true≢false (sym eu ∙ not_both x b lt ew))
      by true ew m false eu ih = (byte_row x b t p eu ∙ ap₂ (λ (a c : Bool). a && c) ew m.0, ih m.1)
      by false ew m true eu ih = (param_row x b t p true eu ev, ih m)
      by false ew m false eu ih = (byte_row x b t p eu ∙ ap (λ (a : Bool). a && fits t p) ew, ih m)

  none_else : (b : ℕ) (p : List ℕ) → b < 256 → (b == slash) ≡ false → (rs : RowsOf K) → NoneFits (step b rs) p
      → NoneFits (step param_token rs) (after_run p) → NoneFits rs (b ∷ p)
  none_else b p lt ev [] n o = tt
  none_else b p lt ev (([], k) ∷ rs) n o = (refl, none_else b p lt ev rs n o)
  none_else b p lt ev ((x ∷ t, k) ∷ rs) n o = by (x == b) refl n (x == param_token) refl o (none_else b p lt ev rs)
    where
      by : (w : Bool) → (x == b) ≡ w → NoneFits (cond {A = RowsOf K} w ((t, k) ∷ step b rs) (step b rs)) p → (u : Bool) → (x == param_token) ≡ u
          → NoneFits (cond {A = RowsOf K} u ((t, k) ∷ step param_token rs) (step param_token rs)) (after_run p)
          → (NoneFits (step b rs) p → NoneFits (step param_token rs) (after_run p) → NoneFits rs (b ∷ p))
          → (fits (x ∷ t) (b ∷ p) ≡ false) × NoneFits rs (b ∷ p)
      by true ew m true eu l ih = absurd (true≢false (sym eu ∙ not_both x b lt ew))
      by true ew m false eu l ih = (byte_row x b t p eu ∙ ap₂ (λ (a c : Bool). a && c) ew m.0, ih m.1 l)
      by false ew m true eu l ih = (param_row x b t p false eu ev ∙ l.0, ih m l.1)
      by false ew m false eu l ih = (byte_row x b t p eu ∙ ap (λ (a : Bool). a && fits t p) ew, ih m l)

  some_byte : (j : K) (b : ℕ) (p : List ℕ) → b < 256 → (rs : RowsOf K) → Fits j (step b rs) p → Fits j rs (b ∷ p)
  some_byte j b p lt [] f = f
  some_byte j b p lt (([], k) ∷ rs) f = inr (some_byte j b p lt rs f)
  some_byte j b p lt ((x ∷ t, k) ∷ rs) f = by (x == b) refl (some_byte j b p lt rs) f
    where
      by : (w : Bool) → (x == b) ≡ w → (Fits j (step b rs) p → Fits j rs (b ∷ p))
          → Fits j (cond {A = RowsOf K} w ((t, k) ∷ step b rs) (step b rs)) p → ((k ≡ j) × (fits (x ∷ t) (b ∷ p) ≡ true)) ⊎ Fits j rs (b ∷ p)
      by true ew ih (inl g) = inl (g.0, byte_row x b t p (not_both x b lt ew) ∙ ap₂ (λ (a c : Bool). a && c) ew g.1)
      by true ew ih (inr g) = inr (ih g)
      by false ew ih g = inr (ih g)

  some_param : (j : K) (b : ℕ) (p : List ℕ) → (b == slash) ≡ false → (rs : RowsOf K) → Fits j (step param_token rs) (after_run p) → Fits j rs (b ∷ p)
  some_param j b p ev [] f = f
  some_param j b p ev (([], k) ∷ rs) f = inr (some_param j b p ev rs f)
  some_param j b p ev ((x ∷ t, k) ∷ rs) f = by (x == param_token) refl (some_param j b p ev rs) f
    where
      by : (u : Bool) → (x == param_token) ≡ u → (Fits j (step param_token rs) (after_run p) → Fits j rs (b ∷ p))
          → Fits j (cond {A = RowsOf K} u ((t, k) ∷ step param_token rs) (step param_token rs)) (after_run p)
          → ((k ≡ j) × (fits (x ∷ t) (b ∷ p) ≡ true)) ⊎ Fits j rs (b ∷ p)
      by true eu ih (inl g) = inl (g.0, param_row x b t p false eu ev ∙ g.1)
      by true eu ih (inr g) = inr (ih g)
      by false eu ih g = inr (ih g)

  combined : (b : ℕ) (p : List ℕ) → b < 256 → (v : Bool) → (b == slash) ≡ v → (rs : RowsOf K) (a c : Option K) → Found a (step b rs) p
      → ParamFound v c (step param_token rs) p → Found (or_else a c) rs (b ∷ p)
  combined b p lt v ev rs (Some j) c f g = some_byte j b p lt rs f
  combined b p lt true ev rs None c f g = subst (λ (o : Option K). Found o rs (b ∷ p)) (sym g) (none_at_slash b p lt ev rs f)
  combined b p lt false ev rs None None f g = none_else b p lt ev rs f g
  combined b p lt false ev rs None (Some j) f g = some_param j b p ev rs g

  -- ---- the walk

  sought : (n : ℕ) (rs : RowsOf K) (path : List ℕ) → length path ≤ n → AllPlain rs → IsText path → Found (seek 0 rs path) rs path
  unfolding seek
  sought zero rs [] short plain text = own_found rs
  sought zero rs (b ∷ p) short plain text = absurd (omega (arith, short))
  sought (suc n) rs [] short plain text = own_found rs
  sought (suc n) rs (b ∷ p) short plain text =
      let less : length p ≤ n = omega (arith, short) in
      let found = sought n (step b rs) p less (plain_step b rs plain) text.1 in
      let behind = param_found n (sought n) (step param_token rs) (ends_step rs plain) (plain_step param_token rs plain) b p less text.1 in
      let first_answer : Option K = seek 0 (step b rs) p in
      let other : Option K = walked (param_step (step param_token rs) (b ∷ p)) p in
      subst (λ (o : Option K). Found o rs (b ∷ p))
      (sym (ap (λ (r : RowsOf K). or_else first_answer (or_else other (own r))) (no_rest rs plain)
      ∙ ap (λ (o : Option K). or_else first_answer o) (or_none other)))
      (combined b p text.0 (b == slash) refl rs first_answer other found behind)

  -- the walk of a path over plain rows finds the key of one that fits, and none only where none does
  pub first_found : (rs : RowsOf K) (path : List ℕ) → AllPlain rs → IsText path → Found (seek 0 rs path) rs path
  first_found rs path plain text = sought (length path) rs path (omega arith) plain text
