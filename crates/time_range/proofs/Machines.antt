-- Readers that take a text byte by byte, for any state and any parts: what a run gives, and where a
-- text that is no spelling fails.
use Rattle.std.proofs.Common.{◌≡◌, ℕ, ◌+◌, ◌<◌, ◌≤◌, List, [], ◌∷◌, ◌++◌, length, take, drop, get_or, Option, Some, None, sym, ◌∙◌, ap, refl, subst, arith}
use Rattle.std.specs.Option.{option_map, option_and_then}
use Rattle.std.proofs.lemmas.List.{append_assoc, append-nil, take_more, take-append-drop, take-take, take_all}
use Rattle.time_range.specs.Within.Scanning.{run, StopsAt}
use Rattle.time_range.specs.Prefixes.{BeginsSome, FailsAt}

-- a run over two texts is two runs
pub run-append : {S : Type 0} (next : S → ℕ → Option S) (s : S) (xs ys : List ℕ) →
    run next s (xs ++ ys) ≡ option_and_then (λ t. run next t ys) (run next s xs)
run-append next s [] ys = refl
run-append next s (x ∷ xs) ys =
    elim (next s x) as (λ o. option_and_then (λ t. run next t (xs ++ ys)) o ≡ option_and_then (λ t. run next t ys) (option_and_then (λ t. run next t xs) o))
    [ None ↦ refl | Some t ↦ run-append next t xs ys ]

-- a run, and then another from the state that it reached
pub run_on : {S : Type 0} (next : S → ℕ → Option S) (s t : S) (xs ys : List ℕ) → run next s xs ≡ Some t → run next s (xs ++ ys) ≡ run next t ys
run_on next s t xs ys e = run-append next s xs ys ∙ ap (option_and_then (λ u. run next u ys)) e

-- one byte more
pub run_more : {S : Type 0} (next : S → ℕ → Option S) (s t u : S) (xs : List ℕ) (i : ℕ) → i < length xs →
    run next s (take i xs) ≡ Some t → next t (get_or xs i 0) ≡ Some u → run next s (take (i + 1) xs) ≡ Some u
run_more next s t u xs i within e f =
    ap (run next s) (take_more xs i 0 within) ∙ run_on next s t (take i xs) (get_or xs i 0 ∷ []) e ∙ ap (option_and_then (λ v. Some v)) f

module _ {S P : Type 0} (next : S → ℕ → Option S) (start : S) (parts : S → Option P) (text_of : P → List ℕ) (Valid : P → Type 0) where
  -- the texts are those of the parts
  abbrev pub IsText : List ℕ → Type 0
  IsText text = (p : P) × Valid p × (text ≡ text_of p)

  -- a reader reads each text to its parts, and what it has read can be ended to a text
  pub record IsReader : Type 0 where
    pub reads : (p : P) → Valid p → (s : S) × (run next start (text_of p) ≡ Some s) × (parts s ≡ Some p)
    pub completes : (text : List ℕ) (s : S) → run next start text ≡ Some s → BeginsSome IsText text

  -- no text goes on where the reader refuses a byte
  refused : IsReader → (front rest : List ℕ) → run next start front ≡ None → IsText (front ++ rest) → ⊥
  refused reader front rest none text =
      let read = reader.reads text.0 text.1 in
      let stuck = run-append next start front rest ∙ ap (option_and_then (λ t. run next t rest)) none in
      let goes = ap (run next start) text.2 ∙ read.1 in
      cc

  pub fails_within : IsReader → (text : List ℕ) (at : ℕ) → StopsAt next start text at → FailsAt IsText text at
  fails_within reader text at (s, within, read, none) =
      let more = ap (run next start) (take_more text at 0 within) ∙ run_on next start s (take at text) (get_or text at 0 ∷ []) read in
      let stuck : run next start (take (at + 1) text) ≡ None = more ∙ ap (option_and_then (λ v. Some v)) none in
      let longest : (k : ℕ) → at < k → k ≤ length text → BeginsSome IsText (take k text) → ⊥ =
      λ k above end front.
      let cut = take-append-drop (at + 1) (take k text) in
      let same = take-take (at + 1) k text (omega arith) in
      let split : take k text ++ front.0 ≡ take (at + 1) text ++ (drop (at + 1) (take k text) ++ front.0) =
      ap (λ l. l ++ front.0) (sym cut ∙ ap (λ l. l ++ drop (at + 1) (take k text)) same) ∙ append_assoc (take (at + 1) text) (drop (at + 1) (take k text))
      front.0 in
      refused reader (take (at + 1) text) _ stuck (subst IsText split front.1) in
      record {
        no_text = λ text_is. longest (length text) within (omega arith)
            ([], subst IsText (sym (append-nil (take (length text) text) ∙ take_all (length text) text (omega arith))) text_is);
        within = omega arith;
        front = reader.completes (take at text) s read;
        longest = longest;
      }

  pub fails_at_end : IsReader → (text : List ℕ) (s : S) → run next start text ≡ Some s → parts s ≡ None → FailsAt IsText text (length text)
  fails_at_end reader text s read unfinished = record {
    no_text = λ text_is.
        let other = reader.reads text_is.0 text_is.1 in
        let goes = ap (run next start) text_is.2 ∙ other.1 in
        let same : s ≡ other.0 = cc in
        let full = ap parts same ∙ other.2 in
        cc;
    within = omega arith;
    front = reader.completes (take (length text) text) s (ap (run next start) (take_all (length text) text (omega arith)) ∙ read);
    longest = λ k above end front. absurd (omega arith);
  }

  -- a text has one list of parts
  pub one_reading : IsReader → (p q : P) → Valid p → Valid q → text_of p ≡ text_of q → p ≡ q
  one_reading reader p q fine_p fine_q same =
      let a = reader.reads p fine_p in
      let b = reader.reads q fine_q in
      let runs = sym a.1 ∙ ap (run next start) same ∙ b.1 in
      let state : a.0 ≡ b.0 = cc in
      let read = sym a.2 ∙ ap parts state ∙ b.2 in
      cc

-- what each step keeps of the text so far and the state holds after a run
pub along : {S : Type 0} (next : S → ℕ → Option S) (Good : List ℕ → S → Type 0) →
    ((front : List ℕ) (s t : S) (c : ℕ) → Good front s → next s c ≡ Some t → Good (front ++ c ∷ []) t) →
    (front : List ℕ) (s : S) (text : List ℕ) (t : S) → Good front s → run next s text ≡ Some t →
    Good (front ++ text) t
along next Good step front s [] t good e =
    let same : s ≡ t = cc in
    subst (λ u. Good (front ++ []) u) same (subst (λ l. Good l s) (sym (append-nil front)) good)
along {S} next Good step front s (c ∷ cs) t good e =
    after (next s c) refl e (λ u goes. along next Good step (front ++ c ∷ []) u cs t goes)
  where
    after : (o : Option S) → next s c ≡ o → option_and_then (λ u. run next u cs) o ≡ Some t →
        ((u : S) → Good (front ++ c ∷ []) u → run next u cs ≡ Some t → Good ((front ++ c ∷ []) ++ cs) t) →
        Good (front ++ c ∷ cs) t
    after None is f go = cc
    after (Some u) is f go = subst (λ l. Good l t) (append_assoc front (c ∷ []) cs) (go u (step front s u c good is) f)

-- a run by a machine that keeps less of each state
pub run_kept : {S : Type 0} (next less : S → ℕ → Option S) (keep : S → S) →
    ((s : S) (c : ℕ) → less (keep s) c ≡ option_map keep (next s c)) → (s : S) (text : List ℕ) →
    run less (keep s) text ≡ option_map keep (run next s text)
run_kept next less keep same s [] = refl
run_kept {S} next less keep same s (c ∷ cs) = ap (option_and_then (λ t. run less t cs)) (same s c) ∙ after (next s c) (λ u. run_kept next less keep same u cs)
  where
    after : (o : Option S) → ((u : S) → run less (keep u) cs ≡ option_map keep (run next u cs)) →
        option_and_then (λ t. run less t cs) (option_map keep o) ≡ option_map keep (option_and_then (λ t. run next t cs) o)
    after None go = refl
    after (Some u) go = go u

-- what a mapped value comes from
pub map_some : {A B : Type 0} (f : A → B) (o : Option A) (k : B) → option_map f o ≡ Some k → (t : A) × (o ≡ Some t) × (f t ≡ k)
map_some f None k e = cc
map_some f (Some t) k e = (t, refl, cc)

-- nothing is mapped from nothing
pub map_none : {A B : Type 0} (f : A → B) (o : Option A) → option_map f o ≡ None → o ≡ None
map_none f None e = refl
map_none f (Some t) e = cc

module _ {S : Type 0} (next less : S → ℕ → Option S) (keep : S → S) (same : (s : S) (c : ℕ) → less (keep s) c ≡ option_map keep (next s c)) (start : S) where
  -- what the machine that keeps less has read, the other has read
  pub kept_run : (text : List ℕ) (k : S) → run less (keep start) text ≡ Some k → (t : S) × (run next start text ≡ Some t) × (keep t ≡ k)
  kept_run text k e = map_some keep (run next start text) k (sym (run_kept next less keep same start text) ∙ e)

  -- what it refuses, the other refuses
  pub kept_stop : (text : List ℕ) (at : ℕ) → StopsAt less (keep start) text at → StopsAt next start text at
  kept_stop text at (k, within, read, none) =
      let (t, reads, is) = kept_run (take at text) k read in
      (t, within, reads, map_none keep (next t (get_or text at 0)) (sym (same t (get_or text at 0)) ∙ ap (λ s. less s (get_or text at 0)) is ∙ none))
