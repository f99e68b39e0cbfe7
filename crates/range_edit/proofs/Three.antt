-- Records of three fields.
use Rattle.std.proofs.Common.{◌≡◌, ◌<◌, ℕ, List, [], ◌∷◌, Some, None, length, zero, suc, arith}
use Rattle.csv.specs.Records.{field_at}
use Rattle.range_edit.specs.Lists.{Fields}

-- a record of three fields has each of them
pub has_each : (fields : Fields) (k : ℕ) → length fields ≡ 3 → k < 3 → None ≡ field_at fields k → ⊥
unfolding field_at
has_each [] k e h n = omega arith
has_each (a ∷ fields) zero e h n = cc n
has_each (a ∷ []) (suc k) e h n = omega arith
has_each (a ∷ b ∷ fields) (suc zero) e h n = cc n
has_each (a ∷ b ∷ []) (suc (suc k)) e h n = omega arith
has_each (a ∷ b ∷ c ∷ fields) (suc (suc zero)) e h n = cc n
has_each (a ∷ b ∷ c ∷ fields) (suc (suc (suc k))) e h n = omega arith

-- a record of three fields is these
pub are_all : (fields : Fields) (a b c : List ℕ) → length fields ≡ 3 → Some a ≡ field_at fields 0
    → Some b ≡ field_at fields 1 → Some c ≡ field_at fields 2 → fields ≡ a ∷ b ∷ c ∷ []
unfolding field_at
are_all [] a b c e first second third = absurd (omega arith)
are_all (x ∷ []) a b c e first second third = absurd (omega arith)
are_all (x ∷ y ∷ []) a b c e first second third = absurd (omega arith)
are_all (x ∷ y ∷ z ∷ []) a b c e first second third = cc
are_all (x ∷ y ∷ z ∷ w ∷ fields) a b c e first second third = absurd (omega arith)
