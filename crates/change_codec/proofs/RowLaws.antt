-- The spelling of rows is lawful.
use Rattle.std.proofs.Common.{◌≡◌, ◌<◌, ◌^◌, ℕ, List, length, Some, None, Bool, true, false, refl, ap, ap₂, ◌∙◌, arith, inl, inr, ◌⊎◌}
use Rattle.std.specs.Prelude.{◌==◌, if◌then◌else◌, slice_get}
use Rattle.std.proofs.lemmas.Bool.{eqb-true, eq-eqb}
use Rattle.media_rows.specs.Formats.{status_number, all_statuses}
use Rattle.media_rows.specs.declared.object.ObjectState.{ObjectState}
use Rattle.media_rows.specs.declared.object.ObjectState.TheVariants.{Allocated, Stored}
use Rattle.media_rows.specs.declared.request.DeleteStatus.{DeleteStatus}
use Rattle.media_rows.specs.declared.request.DeleteStatus.TheVariants.{Created, Started, Done}
use Rattle.media_rows.specs.declared.row.Row.{Row}
use Rattle.media_rows.specs.declared.row.Row.TheVariants as rows
use Rattle.media_rows.specs.Snapshot.{kind_number}
use Rattle.field_codec.specs.Spelling.{Spelling, no_field, pair, no_kind, optional}
use Rattle.field_codec.specs.Leaves.{u32_spelling, u64_spelling, u128_spelling, bool_spelling, text_spelling, range_spelling, with_number}
use Rattle.field_codec.specs.Laws.{Lawful}
use Rattle.field_codec.proofs.Combined.{NarrowLaws, narrowed_lawful, nothing_lawful, pair_lawful, via_lawful}
use Rattle.field_codec.proofs.KindLaws.{no_kinds, one_kind, optional_lawful}
use Rattle.field_codec.proofs.FormLaws.{present_lawful}
use Rattle.field_codec.proofs.LeafLaws.{bool_lawful, text_lawful, one_of_lawful}
use Rattle.field_codec.proofs.Numbers.{u32_below, u32_lawful, u64_lawful, u128_lawful}
use Rattle.field_codec.proofs.RangeLaws.{range_lawful}
use Rattle.change_codec.specs.Values.{kind_spelling, event_spelling, tags_spelling, flow_spelling, digest_spelling, hook_spelling}
use Rattle.change_codec.specs.Rows.{source_row_spelling, flow_row_spelling, StateValues, object_state, state_values, digest_in, state_spelling, object_row_spelling, segment_row_spelling, status_spelling, delete_row_spelling, hook_row_spelling, event_row_spelling, measured, sized, RowFields, row_of_fields, row_fields, row_spelling}
use Rattle.change_codec.proofs.ValueLaws.{opt_text, opt_u64, kind_lawful, event_lawful, tags_lawful, flow_lawful, segment_lawful, digest_lawful, hook_lawful}

-- ---- the fields of each kind of row

pub source_row_lawful : Lawful source_row_spelling
unfolding source_row_spelling
source_row_lawful =
    via_lawful _ _ _ (λ x. refl) (λ x. refl)
    (pair_lawful u128_spelling _ u128_lawful (pair_lawful kind_spelling _ kind_lawful (pair_lawful (optional text_spelling) _ opt_text
    (pair_lawful (optional text_spelling) _ opt_text (pair_lawful tags_spelling _ tags_lawful (pair_lawful u64_spelling _ u64_lawful u64_lawful))))))

pub flow_row_lawful : Lawful flow_row_spelling
unfolding flow_row_spelling
flow_row_lawful =
    via_lawful _ _ _ (λ x. refl) (λ x. refl)
    (pair_lawful flow_spelling _ flow_lawful (pair_lawful u64_spelling _ u64_lawful (pair_lawful u64_spelling _ u64_lawful opt_u64)))

values-state : (p : StateValues) → state_values (object_state p) ≡ p
values-state (inl tt) = refl
values-state (inr (inl p)) = refl
values-state (inr (inr x)) = absurd x

state-values : (s : ObjectState) → object_state (state_values s) ≡ s
state-values Allocated = refl
state-values (Stored start size digest) = refl

pub state_lawful : (form : ℕ) → Lawful (state_spelling form)
unfolding state_spelling
state_lawful form =
    via_lawful object_state state_values _ values-state state-values
    (one_kind 0 1 no_field _ (omega arith) nothing_lawful
    (one_kind 1 2 (pair u64_spelling (pair u64_spelling (digest_in form))) no_kind (omega arith)
    (pair_lawful u64_spelling _ u64_lawful (pair_lawful u64_spelling _ u64_lawful (present_lawful (form == 2) digest_spelling digest_lawful))) (no_kinds 2))).lawful

pub object_row_lawful : (form : ℕ) → Lawful (object_row_spelling form)
unfolding object_row_spelling
object_row_lawful form =
    via_lawful _ _ _ (λ x. refl) (λ x. refl)
    (pair_lawful u64_spelling _ u64_lawful (pair_lawful text_spelling _ text_lawful (pair_lawful (state_spelling form) _ (state_lawful form) u64_lawful)))

pub segment_row_lawful : Lawful segment_row_spelling
unfolding segment_row_spelling
segment_row_lawful =
    via_lawful _ _ _ (λ x. refl) (λ x. refl) (pair_lawful u128_spelling _ u128_lawful (pair_lawful u64_spelling _ u64_lawful segment_lawful))

each_status : (x : DeleteStatus) → with_number status_number all_statuses (status_number x) ≡ Some x
each_status Created = refl
each_status Started = refl
each_status Done = refl

pub status_lawful : Lawful status_spelling
unfolding status_spelling
status_lawful = one_of_lawful status_number all_statuses each_status

pub delete_row_lawful : Lawful delete_row_spelling
unfolding delete_row_spelling
delete_row_lawful =
    via_lawful _ _ _ (λ x. refl) (λ x. refl)
    (pair_lawful u64_spelling _ u64_lawful (pair_lawful u128_spelling _ u128_lawful (pair_lawful range_spelling _ range_lawful
    (pair_lawful bool_spelling _ bool_lawful (pair_lawful status_spelling _ status_lawful (pair_lawful u64_spelling _ u64_lawful u64_lawful))))))

pub hook_row_lawful : Lawful hook_row_spelling
unfolding hook_row_spelling
hook_row_lawful =
    via_lawful _ _ _ (λ x. refl) (λ x. refl) (pair_lawful u64_spelling _ u64_lawful (pair_lawful hook_spelling _ hook_lawful bool_lawful))

pub event_row_lawful : Lawful event_row_spelling
unfolding event_row_spelling
event_row_lawful =
    via_lawful _ _ _ (λ x. refl) (λ x. refl)
    (pair_lawful u64_spelling _ u64_lawful (pair_lawful u64_spelling _ u64_lawful (pair_lawful event_spelling _ event_lawful
    (pair_lawful u128_spelling _ u128_lawful (pair_lawful (optional range_spelling) _ (optional_lawful range_spelling range_lawful) u64_lawful)))))

-- ---- fields behind their length

measured_is : {A : Type 0} (spell : A → List ℕ) (n : ℕ) (x y : A) (b : Bool) → (length (spell x) == n) ≡ b → (if b then Some x else None) ≡ Some y
    → (length (spell y) ≡ n) × (y ≡ x)
measured_is spell n x y true is e =
    let same : y ≡ x = cc in
    (ap (λ z. length (spell z)) same ∙ eqb-true (length (spell x)) n is, same)
measured_is spell n x y false is e = absurd cc

sized_laws : {A : Type 0} (f : Spelling A) → NarrowLaws (measured f.meaning.spell) (λ x. (length (f.meaning.spell x), x)) (λ x. Unit {0})
    (λ x. length (f.meaning.spell x) < 2 ^ 32)
    (pair u32_spelling f).meaning.fits
sized_laws {A = A} f = record {
  is = λ p y fits e.
      let m = measured_is f.meaning.spell p.0 p.1 y (length (f.meaning.spell p.1) == p.0) refl e in
      (ap₂ (λ (n : ℕ) (x : A). (n, x)) m.0 m.1, tt);
  again = λ y fits has. rw (eq-eqb (length (f.meaning.spell y)) (length (f.meaning.spell y)) refl) refl;
  writable = λ y fits has. u32_below (length (f.meaning.spell y)) fits.0;
}

-- fields behind their length, where the fields are lawful
pub sized_lawful : {A : Type 0} (f : Spelling A) → Lawful f → Lawful (sized f)
sized_lawful f law =
    narrowed_lawful (measured f.meaning.spell) (λ x. (length (f.meaning.spell x), x)) (λ x. Unit {0}) (λ x. length (f.meaning.spell x) < 2 ^ 32)
    (pair u32_spelling f) (sized_laws f)
    (pair_lawful u32_spelling f u32_lawful law)

-- ---- rows

-- a row has the fields that it was made of
fields-row : (p : RowFields) → row_fields (row_of_fields p) ≡ p
fields-row (inl p) = refl
fields-row (inr (inl p)) = refl
fields-row (inr (inr (inl p))) = refl
fields-row (inr (inr (inr (inl p)))) = refl
fields-row (inr (inr (inr (inr (inl p))))) = refl
fields-row (inr (inr (inr (inr (inr (inl p)))))) = refl
fields-row (inr (inr (inr (inr (inr (inr (inl p))))))) = refl
fields-row (inr (inr (inr (inr (inr (inr (inr (inl p)))))))) = refl
fields-row (inr (inr (inr (inr (inr (inr (inr (inr x)))))))) = absurd x

-- a row is the one with its fields
row-fields : (r : Row) → row_of_fields (row_fields r) ≡ r
row-fields (rows.Source row) = refl
row-fields (rows.Flow row) = refl
row-fields (rows.Object row) = refl
row-fields (rows.Segment row) = refl
row-fields (rows.Request row) = refl
row-fields (rows.Hook row) = refl
row-fields (rows.Event row) = refl
row-fields (rows.Numbers serial) = refl

-- A row is read exactly as a form spells it and exactly up to its fault, and written as it is spelled.
pub row_lawful : (form : ℕ) → Lawful (row_spelling form)
unfolding row_spelling
row_lawful form =
    via_lawful row_of_fields row_fields _ fields-row row-fields
    (one_kind 1 2 (sized source_row_spelling) _ (omega arith) (sized_lawful _ source_row_lawful)
    (one_kind 2 3 (sized flow_row_spelling) _ (omega arith) (sized_lawful _ flow_row_lawful)
    (one_kind 3 4 (sized (object_row_spelling form)) _ (omega arith) (sized_lawful _ (object_row_lawful form))
    (one_kind 4 5 (sized segment_row_spelling) _ (omega arith) (sized_lawful _ segment_row_lawful)
    (one_kind 5 6 (sized delete_row_spelling) _ (omega arith) (sized_lawful _ delete_row_lawful)
    (one_kind 6 7 (sized hook_row_spelling) _ (omega arith) (sized_lawful _ hook_row_lawful)
    (one_kind 7 8 (sized event_row_spelling) _ (omega arith) (sized_lawful _ event_row_lawful)
    (one_kind 8 9 (sized u64_spelling) no_kind (omega arith) (sized_lawful u64_spelling u64_lawful) (no_kinds 9))))))))).lawful

-- ---- kinds

-- a row's first byte is its kind's number
pub first_is_kind : (form : ℕ) (row : Row) → slice_get ((row_spelling form).meaning.spell row) 0 ≡ Some (kind_number row)
unfolding row_spelling
first_is_kind form (rows.Source row) = refl
first_is_kind form (rows.Flow row) = refl
first_is_kind form (rows.Object row) = refl
first_is_kind form (rows.Segment row) = refl
first_is_kind form (rows.Request row) = refl
first_is_kind form (rows.Hook row) = refl
first_is_kind form (rows.Event row) = refl
first_is_kind form (rows.Numbers next_serial) = refl
