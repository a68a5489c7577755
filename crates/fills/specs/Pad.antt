-- The padded text (document 02, C-11): fills, the text, fills, so that the text's clusters and the fills reach the width.
-- An alignment and a width are the numbers that the parse of a format string tells of its options.
-- Assumes nothing.
use Rattle.std.specs.Prelude.{ℕ, zero, suc, ◌+◌, ◌-◌, ◌*◌, ◌/◌, List, [], ◌∷◌, ◌++◌, Bool, ◌||◌, leb, eqb, length}
use Rattle.base.specs.Pick.{pick}

-- ---- the numbers

abbrev pub default : ℕ
default = 0

abbrev pub left : ℕ
left = 1

abbrev pub center : ℕ
center = 2

abbrev pub right : ℕ
right = 3

-- no width
abbrev pub no_width : ℕ
no_width = 18446744073709551615

-- the greatest width: 32 bits, as a format string has it
abbrev pub width_most : ℕ
width_most = 4294967295

-- a width, or that there is none
unfoldable pub is_width : ℕ → Bool
is_width width = eqb width no_width || leb width width_most

-- the fill where none is given: one space
abbrev pub space : List ℕ
space = 32 ∷ []

-- ---- the text and its fills

-- how many fills the text needs, of so many clusters: 0 where there is no width, or the text reaches it
abbrev pub fills : ℕ → ℕ → ℕ
fills width clusters = pick (eqb width no_width) 0 (width - clusters)

-- how many of n fills stand before the text: Default is as Left
abbrev pub leading : ℕ → ℕ → ℕ
leading alignment n = pick (eqb alignment center) (n / 2) (pick (eqb alignment right) n 0)

-- and how many behind it: the odd one too
abbrev pub trailing : ℕ → ℕ → ℕ
trailing alignment n = n - leading alignment n

-- bytes, n times
unfoldable pub repeated : ℕ → List ℕ → List ℕ
repeated zero fill = []
repeated (suc n) fill = fill ++ repeated n fill

-- the text between n fills
abbrev pub filled : ℕ → ℕ → List ℕ → List ℕ → List ℕ
filled alignment n fill text = repeated (leading alignment n) fill ++ (text ++ repeated (trailing alignment n) fill)

-- the padded text, which has so many clusters
abbrev pub padded : ℕ → ℕ → List ℕ → List ℕ → ℕ → List ℕ
padded alignment width fill text clusters = filled alignment (fills width clusters) fill text

-- how many bytes it has
abbrev pub padded_length : ℕ → List ℕ → List ℕ → ℕ → ℕ
padded_length width fill text clusters = length text + fills width clusters * length fill
