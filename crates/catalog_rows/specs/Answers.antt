-- What calls that take memory answer. Our own.
use Rattle.std.specs.Prelude.{◌≡◌, Result, IfOk}

-- the answer is this value, unless there is no memory
abbrev pub Computes : {T E : Type 0} → Result T E → T → Type 0
Computes result value = IfOk result (λ made. made ≡ value)
