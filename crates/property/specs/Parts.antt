-- Document 01, "The property table": the parts of a number of the table, and of the properties that it gives, in the paper's order.
-- Assumes nothing.
use Rattle.std.specs.Prelude.{ℕ, ◌/◌, ◌%◌, Bool, eqb}

-- number div 2,048: the first code point of a run
abbrev pub start_of : ℕ → ℕ
start_of number = number / 2048

-- number mod 2,048: its properties
abbrev pub properties_of : ℕ → ℕ
properties_of number = number % 2048

-- ---- the properties

-- XID_Start 1
abbrev pub xid_start : ℕ → Bool
xid_start properties = eqb (properties % 2) 1

-- XID_Continue 2
abbrev pub xid_continue : ℕ → Bool
xid_continue properties = eqb (properties / 2 % 2) 1

-- width times 4 (0 to 3; no width counts 0)
abbrev pub width_of : ℕ → ℕ
width_of properties = properties / 4 % 4

-- cluster class times 16
abbrev pub class_of : ℕ → ℕ
class_of properties = properties / 16 % 16

-- Extended_Pictographic 256
abbrev pub is_pict : ℕ → Bool
is_pict properties = eqb (properties / 256 % 2) 1

-- InCB times 512
abbrev pub incb_of : ℕ → ℕ
incb_of properties = properties / 512 % 4

-- ---- the values of InCB

abbrev pub incb_none : ℕ
incb_none = 0

abbrev pub consonant : ℕ
consonant = 1

abbrev pub incb_extend : ℕ
incb_extend = 2

abbrev pub linker : ℕ
linker = 3

-- ---- the classes

abbrev pub other : ℕ
other = 0

abbrev pub cr : ℕ
cr = 1

abbrev pub lf : ℕ
lf = 2

abbrev pub control : ℕ
control = 3

abbrev pub extend : ℕ
extend = 4

abbrev pub zwj : ℕ
zwj = 5

abbrev pub regional_indicator : ℕ
regional_indicator = 6

abbrev pub prepend : ℕ
prepend = 7

abbrev pub spacing_mark : ℕ
spacing_mark = 8

abbrev pub hangul_l : ℕ
hangul_l = 9

abbrev pub hangul_v : ℕ
hangul_v = 10

abbrev pub hangul_t : ℕ
hangul_t = 11

abbrev pub hangul_lv : ℕ
hangul_lv = 12

abbrev pub hangul_lvt : ℕ
hangul_lvt = 13
