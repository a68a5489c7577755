-- The bits by which the code tells the parts of a name among eight bytes. Nothing outside this crate needs them: what a part is, `is_name_part` says, and
-- the code counts those (OutsLaws).
-- Assumes nothing.
use Rattle.std.specs.Prelude.{ℕ, zero, suc, ◌+◌, ◌*◌}
use Rattle.std.specs.Int.Bits.{bit_and, bit_or, bit_xor}

-- by the number x of the bytes and the numbers of as many bytes each of which is 127, 32, and so on
unfoldable pub outs_by : (ℕ → ℕ) → ℕ → ℕ
outs_by each x =
    let low = bit_and x (each 127) in
    let small = bit_or low (each 32) in
    let letters = bit_xor (small + each 31) (small + each 5) in
    let digits = bit_xor (low + each 80) (low + each 70) in
    let underscores = bit_xor (low + each 33) (low + each 32) in
    bit_and (bit_or (bit_xor (bit_xor letters (bit_xor digits underscores)) (each 128)) x) (each 128)

-- the number of n bytes each of which is c
unfoldable pub each : ℕ → ℕ → ℕ
each zero c = 0
each (suc n) c = c + 256 * each n c

-- of eight bytes
abbrev pub outs_of : ℕ → ℕ
outs_of x = outs_by (each 8) x
