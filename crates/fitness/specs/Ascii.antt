-- Code points 0 to 127 in words, for the laws that say what every fit table gives them (`SmallLaws`). No contract of this crate cites it.
-- Assumes nothing.
use Rattle.std.specs.Prelude.{ℕ, Bool, ◌||◌, eqb}
use Rattle.base.specs.Pick.{pick}
use Rattle.base.specs.Range.{inside}
use Rattle.property.specs.Parts.{other, cr, lf, control}

-- "A" to "Z", "a" to "z"
abbrev pub is_letter : ℕ → Bool
is_letter c = inside c 0x41 0x5a || inside c 0x61 0x7a

-- a letter, "0" to "9", "_"
abbrev pub is_name_part : ℕ → Bool
is_name_part c = is_letter c || (inside c 0x30 0x39 || eqb c 0x5f)

-- " " to "~"
abbrev pub is_printable : ℕ → Bool
is_printable c = inside c 0x20 0x7e

-- the cluster class
abbrev pub ascii_class : ℕ → ℕ
ascii_class c = pick (is_printable c) other (pick (eqb c 0xa) lf (pick (eqb c 0xd) cr control))
