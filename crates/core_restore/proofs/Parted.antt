-- Rows that rise, parted by their kinds: those of each kind rise.
use Rattle.std.proofs.Common.{◌≡◌, ◌⊎◌, inl, inr, Bool, true, false, ◌&&◌, ◌||◌, List, [], ◌∷◌, ◌++◌, refl, sym, ap, subst, ◌∙◌}
use Rattle.std.specs.List.{list_all}
use Rattle.std.proofs.lemmas.Bool.{and_parts, and_from, false≢true}
use Rattle.media_rows.specs.declared.event.EventRow.{EventRow}
use Rattle.media_rows.specs.declared.flow.FlowRow.{FlowRow}
use Rattle.media_rows.specs.declared.hook.HookRow.{HookRow}
use Rattle.media_rows.specs.declared.object.ObjectRow.{ObjectRow}
use Rattle.media_rows.specs.declared.request.DeleteRow.{DeleteRow}
use Rattle.media_rows.specs.declared.row.Row.{Row}
use Rattle.media_rows.specs.declared.row.Row.TheVariants as rows
use Rattle.media_rows.specs.declared.source.SourceRow.{SourceRow}
use Rattle.media_rows.specs.Lists.{rises}
use Rattle.media_rows.specs.Snapshot.{row_before}
use Rattle.core_rows.specs.Kinds.{Kinds, joined, kind_of, kinds_of, no_kinds}
use Rattle.library_laws.proofs.ListLemmas.{In, list_all-In, list_all-from_In}
use Rattle.library_laws.proofs.RestoreLemmas.{before}
use Rattle.core_restore.specs.Within.{AreInOrder}

-- a row has none of a kind, or one, which is the row
abbrev pub Sole : {A : Type 0} → (A → Row) → List A → Row → Type 0
Sole {A} make list row = (list ≡ []) ⊎ ((x : A) × (list ≡ x ∷ []) × (row ≡ make x))

module _ {A : Type 0} (field : Kinds → List A) (make : A → Row) (none : field no_kinds ≡ [])
    (both : (a b : Kinds) → field (joined a b) ≡ field a ++ field b) (sole : (row : Row) → Sole make (field (kind_of row)) row) where
  -- what rows have of the kind they have as rows
  found : (all : List Row) (x : A) → In x (field (kinds_of all)) → In (make x) all
  found [] x here = absurd (subst (In x) none here)
  found (row ∷ later) x here =
      by (sole row) (subst (In x) (both (kind_of row) (kinds_of later)) here) (found later x)
    where
      by : Sole make (field (kind_of row)) row → In x (field (kind_of row) ++ field (kinds_of later)) → (In x (field (kinds_of later)) → In (make x) later)
          → (make x ≡ row) ⊎ In (make x) later
      by (inl empty) there rest = inr (rest (subst (λ l. In x (l ++ field (kinds_of later))) empty there))
      by (inr (y, is, own)) there rest =
          elim (subst (λ l. In x (l ++ field (kinds_of later))) is there) [
            | inl same ↦ inl (ap make same ∙ sym own)
            | inr more ↦ inr (rest more)
          ]

  -- behind a row that stands before none of a kind there is none
  pub absent_of : (row : Row) (later : List Row) → list_all (row_before row) later ≡ true → ((x : A) → row_before row (make x) ≡ false)
      → field (kinds_of later) ≡ []
  absent_of row later all never = by (field (kinds_of later)) (λ x here. list_all-In (row_before row) later all (make x) (found later x here))
    where
      by : (list : List A) → ((x : A) → In x list → row_before row (make x) ≡ true) → list ≡ []
      by [] each = refl
      by (x ∷ xs) each = absurd (false≢true (sym (never x) ∙ each x (inl refl)))

  -- rows of the kind rise
  module _ (test : A → A → Bool) (lower : (x y : A) → row_before (make x) (make y) ≡ true → test x y ≡ true) where
    pub rise_of : (all : List Row) → rises row_before all ≡ true → rises test (field (kinds_of all)) ≡ true
    rise_of [] e = ap (rises test) none
    rise_of (row ∷ later) e =
        let parts = and_parts (list_all (row_before row) later) (rises row_before later) e in
        ap (rises test) (both (kind_of row) (kinds_of later)) ∙ by (sole row) (rise_of later parts.1) parts.0
      where
        by : Sole make (field (kind_of row)) row → rises test (field (kinds_of later)) ≡ true → list_all (row_before row) later ≡ true
            → rises test (field (kind_of row) ++ field (kinds_of later)) ≡ true
        by (inl empty) rest all = ap (λ l. rises test (l ++ field (kinds_of later))) empty ∙ rest
        by (inr (x, is, own)) rest all =
            ap (λ l. rises test (l ++ field (kinds_of later))) is
            ∙ and_from (list_all (test x) (field (kinds_of later))) (rises test (field (kinds_of later)))
            (list_all-from_In (test x) (field (kinds_of later)) (λ y there. lower x y
            (subst (λ r. row_before r (make y) ≡ true) own (list_all-In (row_before row) later all (make y) (found later y there))))) rest

-- rows of one kind stand by their numbers
by_number : (p q : Bool) → (p || (q && false)) ≡ true → p ≡ true
by_number true q e = refl
by_number false true e = e
by_number false false e = e

pub sources : (row : Row) → Sole rows.Source (kind_of row).sources row
sources (rows.Source x) = inr (x, refl, refl)
sources (rows.Flow x) = inl refl
sources (rows.Object x) = inl refl
sources (rows.Segment x) = inl refl
sources (rows.Request x) = inl refl
sources (rows.Hook x) = inl refl
sources (rows.Event x) = inl refl
sources (rows.Numbers n) = inl refl

pub flows : (row : Row) → Sole rows.Flow (kind_of row).flows row
flows (rows.Source x) = inl refl
flows (rows.Flow x) = inr (x, refl, refl)
flows (rows.Object x) = inl refl
flows (rows.Segment x) = inl refl
flows (rows.Request x) = inl refl
flows (rows.Hook x) = inl refl
flows (rows.Event x) = inl refl
flows (rows.Numbers n) = inl refl

pub objects : (row : Row) → Sole rows.Object (kind_of row).objects row
objects (rows.Source x) = inl refl
objects (rows.Flow x) = inl refl
objects (rows.Object x) = inr (x, refl, refl)
objects (rows.Segment x) = inl refl
objects (rows.Request x) = inl refl
objects (rows.Hook x) = inl refl
objects (rows.Event x) = inl refl
objects (rows.Numbers n) = inl refl

pub segments : (row : Row) → Sole rows.Segment (kind_of row).segments row
segments (rows.Source x) = inl refl
segments (rows.Flow x) = inl refl
segments (rows.Object x) = inl refl
segments (rows.Segment x) = inr (x, refl, refl)
segments (rows.Request x) = inl refl
segments (rows.Hook x) = inl refl
segments (rows.Event x) = inl refl
segments (rows.Numbers n) = inl refl

pub requests : (row : Row) → Sole rows.Request (kind_of row).requests row
requests (rows.Source x) = inl refl
requests (rows.Flow x) = inl refl
requests (rows.Object x) = inl refl
requests (rows.Segment x) = inl refl
requests (rows.Request x) = inr (x, refl, refl)
requests (rows.Hook x) = inl refl
requests (rows.Event x) = inl refl
requests (rows.Numbers n) = inl refl

pub hooks : (row : Row) → Sole rows.Hook (kind_of row).hooks row
hooks (rows.Source x) = inl refl
hooks (rows.Flow x) = inl refl
hooks (rows.Object x) = inl refl
hooks (rows.Segment x) = inl refl
hooks (rows.Request x) = inl refl
hooks (rows.Hook x) = inr (x, refl, refl)
hooks (rows.Event x) = inl refl
hooks (rows.Numbers n) = inl refl

pub events : (row : Row) → Sole rows.Event (kind_of row).events row
events (rows.Source x) = inl refl
events (rows.Flow x) = inl refl
events (rows.Object x) = inl refl
events (rows.Segment x) = inl refl
events (rows.Request x) = inl refl
events (rows.Hook x) = inl refl
events (rows.Event x) = inr (x, refl, refl)
events (rows.Numbers n) = inl refl

pub kinds_rise : (all : List Row) → rises row_before all ≡ true → AreInOrder (kinds_of all)
kinds_rise all e = record {
  sources = rise_of (λ k. k.sources) rows.Source refl (λ a b. refl) sources (before (λ (x : SourceRow). x.id)) (λ x y h. by_number _ _ h) all e;
  flows = rise_of (λ k. k.flows) rows.Flow refl (λ a b. refl) flows (before (λ (x : FlowRow). x.body.id)) (λ x y h. by_number _ _ h) all e;
  objects = rise_of (λ k. k.objects) rows.Object refl (λ a b. refl) objects (before (λ (x : ObjectRow). x.serial)) (λ x y h. by_number _ _ h) all e;
  requests = rise_of (λ k. k.requests) rows.Request refl (λ a b. refl) requests (before (λ (x : DeleteRow). x.serial)) (λ x y h. by_number _ _ h) all e;
  hooks = rise_of (λ k. k.hooks) rows.Hook refl (λ a b. refl) hooks (before (λ (x : HookRow). x.serial)) (λ x y h. by_number _ _ h) all e;
  events = rise_of (λ k. k.events) rows.Event refl (λ a b. refl) events (before (λ (x : EventRow). x.serial)) (λ x y h. by_number _ _ h) all e;
}
