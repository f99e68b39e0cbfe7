-- A text is damaged at one place at most, and spells no rows then.
use Rattle.std.proofs.Common.{◌≡◌, ◌⊎◌, inl, inr, ◌<◌, ◌+◌, ℕ, Bool, true, false, List, [], ◌∷◌, ◌++◌, length, refl, sym, ap, subst, ◌∙◌, arith, ◌&&◌}
use Rattle.std.specs.List.{AllByRecursion, flat_map, list_all}
use Rattle.std.proofs.lemmas.Bool.{and_from, and_parts}
use Rattle.std.proofs.lemmas.List.{append-nil, append_assoc, append_cancel_left}
use Rattle.field_codec.specs.Meaning.{SpellsFirst}
use Rattle.field_codec.proofs.Wholes.{one_front}
use Rattle.media_rows.specs.declared.row.Row.{Row}
use Rattle.media_rows.specs.Lists.{rises}
use Rattle.media_rows.specs.Snapshot.{row_before}
use Rattle.change_codec.specs.Rows.{row_spelling}
use Rattle.change_codec.proofs.RowLaws.{row_lawful}
use Rattle.snapshot_rows.specs.Texts.{Continues, DamageIsNoText, IsDamagedAt, IsOneList, IsOnePlace, SpellsRows, text_of_rows}
use Rattle.snapshot_rows.proofs.Lists.{one_list, some_byte}

abbrev all_fit : ℕ → List Row → Type 0
all_fit form rows = AllByRecursion (row_spelling form).meaning.fits rows

-- other rows are some rows and further ones, which the bytes behind begin with
record Extends (form : ℕ) (some other : List Row) (behind rest : List ℕ) : Type 0 where
  row : Row
  more : List Row
  longer : other ≡ some ++ row ∷ more
  fits : (row_spelling form).meaning.fits row
  begins : behind ≡ (row_spelling form).meaning.spell row ++ (text_of_rows form more ++ rest)

-- one of two fronts of the same bytes
abbrev Compares : ℕ → List Row → List Row → List ℕ → List ℕ → Type 0
Compares form some other behind rest = (some ≡ other) ⊎ (Extends form some other behind rest ⊎ Extends form other some rest behind)

first_of : (form : ℕ) (row : Row) (rows : List Row) (behind : List ℕ) → (row_spelling form).meaning.fits row
    → SpellsFirst (row_spelling form).meaning (text_of_rows form (row ∷ rows) ++ behind) row (text_of_rows form rows ++ behind)
first_of form row rows behind fits = record { fits = fits; parts = append_assoc ((row_spelling form).meaning.spell row) (text_of_rows form rows) behind }

longer_by : (form : ℕ) (row : Row) (some other : List Row) (behind rest : List ℕ) → Extends form some other behind rest → Extends form (row ∷ some) (row ∷ other) behind rest
longer_by form row some other behind rest e = record {
  row = e.row;
  more = e.more;
  longer = ap (λ (rows : List Row). row ∷ rows) e.longer;
  fits = e.fits;
  begins = e.begins;
}

behind_same : (form : ℕ) (row other : Row) (some others : List Row) (behind rest : List ℕ) → row ≡ other → Compares form some others behind rest
    → Compares form (row ∷ some) (other ∷ others) behind rest
behind_same form row other some others behind rest same now = subst (λ (r : Row). Compares form (row ∷ some) (r ∷ others) behind rest) same (elim now [
  | inl is ↦ inl (ap (λ (rows : List Row). row ∷ rows) is)
  | inr one ↦ elim one [
    | inl e ↦ inr (inl (longer_by form row some others behind rest e))
    | inr e ↦ inr (inr (longer_by form row others some rest behind e))
  ]
])

compare : (form : ℕ) (some others : List Row) (behind rest : List ℕ) → all_fit form some → all_fit form others → text_of_rows form some ++ behind ≡ text_of_rows form others ++ rest
    → Compares form some others behind rest
compare form [] [] behind rest fit fits is = inl refl
compare form [] (other ∷ others) behind rest fit (fits, more) is = inr (inl record {
  row = other;
  more = others;
  longer = refl;
  fits = fits;
  begins = is ∙ append_assoc ((row_spelling form).meaning.spell other) (text_of_rows form others) rest;
})
compare form (row ∷ some) [] behind rest (fit, more) fits is = inr (inr record {
  row = row;
  more = some;
  longer = refl;
  fits = fit;
  begins = sym is ∙ append_assoc ((row_spelling form).meaning.spell row) (text_of_rows form some) behind;
})
compare form (row ∷ some) (other ∷ others) behind rest (fit, more) (fits, most) is =
    let text = text_of_rows form (row ∷ some) ++ behind in
    let first = one_front (row_spelling form) (row_lawful form) text row other (text_of_rows form some ++ behind) (text_of_rows form others ++ rest)
    (first_of form row some behind fit)
    (subst (λ (bytes : List ℕ). SpellsFirst (row_spelling form).meaning bytes other (text_of_rows form others ++ rest)) (sym is) (first_of form other others rest fits)) in
    behind_same form row other some others behind rest first.0 (compare form some others behind rest more most first.1)

-- ---- the front of rows in their order

all_front : (test : Row → Bool) (xs ys : List Row) → list_all test (xs ++ ys) ≡ true → list_all test xs ≡ true
all_front test [] ys all = refl
all_front test (x ∷ xs) ys all =
    let parts = and_parts (test x) (list_all test (xs ++ ys)) all in
    and_from (test x) (list_all test xs) parts.0 (all_front test xs ys parts.1)

rising_front : (xs ys : List Row) → rises row_before (xs ++ ys) ≡ true → rises row_before xs ≡ true
rising_front [] ys rising = refl
rising_front (x ∷ xs) ys rising =
    let parts = and_parts (list_all (row_before x) (xs ++ ys)) (rises row_before (xs ++ ys)) rising in
    and_from (list_all (row_before x) xs) (rises row_before xs) (all_front (row_before x) xs ys parts.0) (rising_front xs ys parts.1)

-- rows in their order that extend a front continue it
continued : (form : ℕ) (some other : List Row) (behind rest : List ℕ) → Extends form some other behind rest → rises row_before other ≡ true → Continues form some behind
continued form some other behind rest e rising = record {
  row = e.row;
  later = text_of_rows form e.more ++ rest;
  begins = record { fits = e.fits; parts = e.begins };
  rising = rising_front (some ++ e.row ∷ []) e.more
      (ap (rises row_before) (append_assoc some (e.row ∷ []) e.more) ∙ ap (rises row_before) (sym e.longer) ∙ rising);
}

-- ---- the laws

pub is_one_list : IsOneList
is_one_list form text some other first second = sym (one_list form some other text first.fit second.fit first.spelled second.spelled)

same_text : (form : ℕ) (text : List ℕ) (some other : ℕ) (a : IsDamagedAt form text some) (b : IsDamagedAt form text other)
    → text_of_rows form a.front ++ a.behind ≡ text_of_rows form b.front ++ b.behind
same_text form text some other a b =
    ap (λ (front : List ℕ). front ++ a.behind) (sym a.rows.spelled) ∙ sym a.parts ∙ b.parts ∙ ap (λ (front : List ℕ). front ++ b.behind) b.rows.spelled

pub is_one_place : IsOnePlace
is_one_place form text some other a b = elim (compare form a.front b.front a.behind b.behind a.rows.fit b.rows.fit (same_text form text some other a b)) [
  | inl same ↦
      let fronts : a.before ≡ b.before = a.rows.spelled ∙ ap (text_of_rows form) same ∙ sym b.rows.spelled in
      b.place ∙ ap length (sym fronts) ∙ sym a.place
  | inr one ↦ elim one [
    | inl e ↦ absurd (a.none (continued form a.front b.front a.behind b.behind e b.rows.rising))
    | inr e ↦ absurd (b.none (continued form b.front a.front b.behind a.behind e a.rows.rising))
  ]
]

no_bytes : (bytes : List ℕ) → 0 < length bytes → bytes ≡ [] → ⊥
no_bytes [] some is = absurd (omega (arith, some))
no_bytes (byte ∷ bytes) some is = cc

pub damage_is_no_text : DamageIsNoText
damage_is_no_text form text at rows damaged spells =
    let same : text_of_rows form damaged.front ++ damaged.behind ≡ text_of_rows form rows ++ [] =
    ap (λ (front : List ℕ). front ++ damaged.behind) (sym damaged.rows.spelled) ∙ sym damaged.parts ∙ spells.spelled ∙ sym (append-nil (text_of_rows form rows)) in
    elim (compare form damaged.front rows damaged.behind [] damaged.rows.fit spells.fit same) [
      | inl is ↦
          let fronts : text_of_rows form rows ++ damaged.behind ≡ text_of_rows form rows ++ [] =
          ap (λ (front : List Row). text_of_rows form front ++ damaged.behind) (sym is) ∙ same in
          no_bytes damaged.behind damaged.some (append_cancel_left (text_of_rows form rows) damaged.behind [] fronts)
      | inr one ↦ elim one [
        | inl e ↦ damaged.none (continued form damaged.front rows damaged.behind [] e spells.rising)
        | inr e ↦ some_byte form e.row (text_of_rows form e.more ++ damaged.behind) (sym e.begins)
      ]
    ]
