-- Whole numbers as the file spells them: in so many bytes, the highest first.
use Rattle.std.specs.Prelude.{◌/◌, ◌%◌, ◌^◌, ℕ, List, ◌++◌}
use Rattle.std.specs.Int.{w32, w64, to_be_bytes}

-- in 4 bytes
unfoldable pub u32_bytes : ℕ → List ℕ
u32_bytes n = to_be_bytes w32 n

-- in 8 bytes
unfoldable pub u64_bytes : ℕ → List ℕ
u64_bytes n = to_be_bytes w64 n

-- in 16 bytes: the high half, then the low one
unfoldable pub u128_bytes : ℕ → List ℕ
u128_bytes n = u64_bytes (n / 2 ^ 64) ++ u64_bytes (n % 2 ^ 64)
