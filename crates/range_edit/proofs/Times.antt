-- Texts that spell no times, and records of them.
use Rattle.std.proofs.Common.{◌≡◌, ◌∙◌, ℕ, ℤ, List, [], ◌∷◌, Option, Some, None}
use Rattle.std.specs.Prelude.{IsNone}
use Rattle.time_range.specs.Spelled.{ts_in, TsInIsSpelled}
use Rattle.time_range.specs.declared.ranges.Span.{Span}
use Rattle.media_rows.specs.Ids.{id_of}
use Rattle.range_edit.specs.Lists.{Fields, LacksTimes, SpellsAt}
use Rattle.range_edit.specs.Within.{SpellsTimes}

-- a text for which the reader gives nothing spells no timestamp
pub spells_none : TsInIsSpelled → (text : List ℕ) (read : Option ℤ)
    → read ≡ ts_in text → IsNone read → (at : ℤ) → SpellsAt text at → ⊥
spells_none law text None e none at s = cc (e ∙ (law text at).1 (s.spelled, s.within))
spells_none law text (Some given) e none at s = cc none

-- the second of three fields is one field, and so is the third
same_times : (fields : Fields) (a b c x y z : List ℕ) → fields ≡ a ∷ b ∷ c ∷ []
    → fields ≡ x ∷ y ∷ z ∷ [] → (y ≡ b) × (z ≡ c)
same_times fields a b c x y z first second = (cc, cc)

-- a record that names a flow, and whose other texts spell no times
pub lacks_times : (fields : Fields) (id range_text at_text : List ℕ) (flow : ℕ)
    → fields ≡ id ∷ range_text ∷ at_text ∷ [] → id_of id ≡ Some flow
    → ((range : Option Span) (at : ℤ) → SpellsTimes range_text at_text range at → ⊥)
    → LacksTimes fields
lacks_times fields id range_text at_text flow three names none = record {
  names = record { id = id; range = range_text; at = at_text; three = three; flow = flow; names = names };
  no_row = λ row s.
      let same = same_times fields id range_text at_text s.id s.range s.at three s.three in
      none row.range row.at (rw same.0 at s.spells_range, rw same.1 at s.spells_at);
}
