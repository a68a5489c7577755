-- The byte at a place, or 256 past the end: what the code reads where the Rust peeks at a character.
-- Assumes nothing.
use Rattle.std.specs.Prelude.{ℕ, List, ltb, length, get_or}
use Rattle.base.specs.Pick.{pick}

abbrev pub byte_at : List ℕ → ℕ → ℕ
byte_at s i = pick (ltb i (length s)) (get_or s i 0) 256
