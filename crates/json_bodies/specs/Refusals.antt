-- The law on refusals: a body is refused as JSON, for a fraction, or for one of its members.
use Rattle.std.specs.Prelude.{ℕ, List, Bool, IsTrue, ◌&&◌, nat_le, IfErr}
use Rattle.media_rows.specs.RefusalTable.{refusal_number}
use Rattle.media_rows.specs.declared.part.PartName.{PartName}
use Rattle.media_rows.specs.declared.refusal.Refusal.{Refusal}
use Rattle.json_bodies.specs.Flow.{flow_in}
use Rattle.json_bodies.specs.Hook.{hook_in}
use Rattle.json_bodies.specs.Part.{part_in}
use Rattle.json_bodies.specs.Segments.{segments_in}
use Rattle.json_bodies.specs.Storage.{want_in}

-- a refusal of a body: `NotJson`, `Fractional`, `Missing`, `WrongKind`, `TooLong`, `OutOfRange` or
-- `BadTimerange`, which have the numbers 8 to 14
abbrev pub is_body_refusal : Refusal → Bool
is_body_refusal why = nat_le 8 (refusal_number why) && nat_le (refusal_number why) 14

-- each refusal of a reader of bodies is such a one
pub record AreBodyRefusals : Type 0 where
  pub flow :
      (id : ℕ) (body : List ℕ) → IfErr (flow_in id body) (λ why. IsTrue (is_body_refusal why))
  pub segments : (body : List ℕ) → IfErr (segments_in body) (λ why. IsTrue (is_body_refusal why))
  pub storage : (body : List ℕ) → IfErr (want_in body) (λ why. IsTrue (is_body_refusal why))
  pub hook : (body : List ℕ) → IfErr (hook_in body) (λ why. IsTrue (is_body_refusal why))
  pub part : (name : PartName) (body : List ℕ)
      → IfErr (part_in name body) (λ why. IsTrue (is_body_refusal why))
