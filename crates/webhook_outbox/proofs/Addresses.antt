-- Addresses of hooks that are looked at one after the other, and a set of those that were seen.
use Rattle.std.proofs.Common.{◌≡◌, ℕ, zero, suc, Bor, Bool, true, false, not, ◌&&◌, ◌||◌, cond, List, [], ◌∷◌, bytes_eq, map, drop, refl, sym, ap, subst, ◌∙◌, arith}
use Rattle.std.specs.Cmp.Lexicographic.{slice_cmp}
use Rattle.std.specs.List.{list_all, list_any}
use Rattle.std.specs.Ordering.{is_eq, nat_cmp}
use Rattle.std.proofs.lemmas.Map.Text.{is_eq-slice_cmp}
use Rattle.std.proofs.lemmas.Slice.Eq.{bytes_eq-Decides}
use Rattle.media_rows.specs.declared.hook.HookRow.{HookRow}
use Rattle.media_rows.specs.Good.{are_urls_distinct}

bytes_turn : (a b : List ℕ) → bytes_eq a b ≡ bytes_eq b a
bytes_turn a b = by (bytes_eq a b) (bytes_eq b a) refl refl
  where
    by : (s t : Bool) → bytes_eq a b ≡ s → bytes_eq b a ≡ t → bytes_eq a b ≡ bytes_eq b a
    by true true e f = e ∙ sym f
    by false false e f = e ∙ sym f
    by true false e f = absurd (let same : a ≡ b = (bytes_eq-Decides a b).0 e in let both : bytes_eq b a ≡ true = (bytes_eq-Decides b a).1 (sym same) in
        grind (arith, both, f))
    by false true e f = absurd (let same : b ≡ a = (bytes_eq-Decides b a).0 f in let both : bytes_eq a b ≡ true = (bytes_eq-Decides a b).1 (sym same) in
        grind (arith, both, e))

-- a text is among the keys just where it is one of the addresses
abbrev pub Seen : List HookRow → List (Bor (List ℕ)) → Type 0
Seen rows keys = (text : Bor (List ℕ)) → list_any (λ key. bytes_eq text.now key.now) keys ≡ list_any (λ row. bytes_eq row.hook.url text.now) rows

-- the addresses are distinct, and the keys are those
pub record AreSeen (rows : List HookRow) (keys : List (Bor (List ℕ))) : Type 0 where
  pub distinct : are_urls_distinct rows ≡ true
  pub seen : Seen rows keys

-- a look at the keys
abbrev pub has_key : List (Bor (List ℕ)) → Bor (List ℕ) → Bool
has_key keys text = list_any (λ key. is_eq (slice_cmp nat_cmp text.now key.now)) keys

key_is : (text : Bor (List ℕ)) (keys : List (Bor (List ℕ))) → has_key keys text ≡ list_any (λ key. bytes_eq text.now key.now) keys
key_is text [] = refl
key_is text (key ∷ keys) =
    ap (λ b. b || has_key keys text) (is_eq-slice_cmp text.now key.now) ∙ ap (λ b. bytes_eq text.now key.now || b) (key_is text keys)

others_apart : (url : List ℕ) (rows : List HookRow)
    → list_all (λ other. not (bytes_eq url other)) (map (λ (row : HookRow). row.hook.url) rows) ≡ not (list_any (λ row. bytes_eq row.hook.url url) rows)
others_apart url [] = refl
others_apart url (row ∷ rows) =
    ap (λ b. not b && list_all (λ other. not (bytes_eq url other)) (map (λ (r : HookRow). r.hook.url) rows)) (bytes_turn url row.hook.url)
    ∙ ap (λ b. not (bytes_eq row.hook.url url) && b) (others_apart url rows) ∙ join (bytes_eq row.hook.url url) (list_any (λ r. bytes_eq r.hook.url url) rows)
  where
    join : (a b : Bool) → (not a && not b) ≡ not (a || b)
    join true b = refl
    join false b = refl

-- one address more
more_distinct : (row : HookRow) (rows : List HookRow) (key : Bor (List ℕ)) (keys : List (Bor (List ℕ))) → AreSeen rows keys → key.now ≡ row.hook.url
    → are_urls_distinct (row ∷ rows) ≡ not (has_key keys key)
more_distinct row rows key keys was is =
    ap (λ b. list_all (λ other. not (bytes_eq row.hook.url other)) (map (λ (r : HookRow). r.hook.url) rows) && b) was.distinct
    ∙ and_true (list_all (λ other. not (bytes_eq row.hook.url other)) (map (λ (r : HookRow). r.hook.url) rows))
    ∙ others_apart row.hook.url rows
    ∙ ap (λ url. not (list_any (λ r. bytes_eq r.hook.url url) rows)) (sym is) ∙ ap not (sym (was.seen key)) ∙ ap not (sym (key_is key keys))
  where
    and_true : (a : Bool) → (a && true) ≡ a
    and_true true = refl
    and_true false = refl

pub seen_more : (row : HookRow) (rows more : List HookRow) (key : Bor (List ℕ)) (keys new : List (Bor (List ℕ))) → AreSeen rows keys → key.now ≡ row.hook.url
    → has_key keys key ≡ false
    → ((text : Bor (List ℕ)) → has_key new text ≡ cond (is_eq (slice_cmp nat_cmp key.now text.now)) true (has_key keys text)) → more ≡ row ∷ rows
    → AreSeen more new
seen_more row rows more key keys new was is fresh updates shape =
    subst (λ l. AreSeen l new) (sym shape) (record {
      distinct = more_distinct row rows key keys was is ∙ ap not fresh;
      seen = λ text. sym (key_is text new) ∙ updates text ∙ ap (λ b. cond b true (has_key keys text)) (is_eq-slice_cmp key.now text.now)
          ∙ ap (λ b. cond (bytes_eq key.now text.now) true b) (key_is text keys ∙ was.seen text)
          ∙ or_is (bytes_eq key.now text.now) (list_any (λ r. bytes_eq r.hook.url text.now) rows)
          ∙ ap (λ url. bytes_eq url text.now || list_any (λ r. bytes_eq r.hook.url text.now) rows) is;
    })
  where
    or_is : (a b : Bool) → cond a true b ≡ (a || b)
    or_is true b = refl
    or_is false b = refl

tail_not : (n : ℕ) (rows : List HookRow) → are_urls_distinct (drop n rows) ≡ false → are_urls_distinct rows ≡ false
tail_not zero rows e = e
tail_not (suc n) [] e = e
tail_not (suc n) (row ∷ rows) e =
    second_false (list_all (λ other. not (bytes_eq row.hook.url other)) (map (λ (r : HookRow). r.hook.url) rows)) (are_urls_distinct rows) (tail_not n rows e)
  where
    second_false : (a b : Bool) → b ≡ false → (a && b) ≡ false
    second_false true b f = f
    second_false false b f = refl

-- an address that was seen stands twice
pub seen_twice : (n : ℕ) (row : HookRow) (rows all : List HookRow) (key : Bor (List ℕ)) (keys : List (Bor (List ℕ))) → AreSeen rows keys
    → key.now ≡ row.hook.url → has_key keys key ≡ true → drop n all ≡ row ∷ rows → are_urls_distinct all ≡ false
seen_twice n row rows all key keys was is again shape =
    tail_not n all (ap are_urls_distinct shape ∙ more_distinct row rows key keys was is ∙ ap not again)

-- what an insertion tells
pub was_there : (added there : Bool) → added ≡ not there → added ≡ false → there ≡ true
was_there added true e f = refl
was_there added false e f = absurd (grind (arith, e, f))

pub was_new : (added there : Bool) → added ≡ not there → added ≡ true → there ≡ false
was_new added true e f = absurd (grind (arith, e, f))
was_new added false e f = refl
