-- string_format_options.rs `StringFormatOptions::parse`, the patterns of its `match (next, chars.peek(), position)`, in their order. What
-- stands behind each is `body_of` of the crate `format`.
-- Assumes nothing.
use Rattle.std.specs.Prelude.{ℕ, Bool, true, false, ◌&&◌, eqb, ltb, Option, Some, None}
use Rattle.base.specs.Pick.{pick}
use Rattle.format_options.specs.Letters.{no_char, zero_digit, is_sign, is_digit, representation_of}
use Rattle.format_options.specs.declared.Representation.{Representation}
use Rattle.format_arms.specs.declared.Position.{Position}
use Rattle.format_arms.specs.declared.Position.TheVariants as positions
use Rattle.format_arms.specs.declared.Arm.{Arm}
use Rattle.format_arms.specs.declared.Arm.TheVariants as arm

-- ---- `FormatParsePosition`

abbrev pub start : Position
start = positions.Start

abbrev pub alignment : Position
alignment = positions.Alignment

abbrev pub min_width : Position
min_width = positions.MinWidth

abbrev pub precision : Position
precision = positions.Precision

abbrev pub type : Position
type = positions.Type

abbrev pub end : Position
end = positions.End

-- `Start`
abbrev pub is_start : Position → Bool
is_start positions.Start = true
is_start _ = false

-- `Start | Alignment`
abbrev pub is_to_align : Position → Bool
is_to_align positions.Start = true
is_to_align positions.Alignment = true
is_to_align _ = false

-- `Start | MinWidth`
abbrev pub is_to_width : Position → Bool
is_to_width positions.Start = true
is_to_width positions.MinWidth = true
is_to_width _ = false

-- `Start | MinWidth | Precision`
abbrev pub is_to_precision : Position → Bool
is_to_precision positions.Start = true
is_to_precision positions.MinWidth = true
is_to_precision positions.Precision = true
is_to_precision _ = false

-- ---- the patterns

-- `(_, Some('<' | '^' | '>'), Start)`
abbrev pub is_fill_sign : ℕ → Position → Bool
is_fill_sign peek position = is_sign peek && is_start position

-- `('<' | '^' | '>', _, Start | Alignment)`
abbrev pub is_align : ℕ → Position → Bool
is_align c position = is_sign c && is_to_align position

-- `('0', Some('0'..='9'), Start | MinWidth)`
abbrev pub is_zero_fill : ℕ → ℕ → Position → Bool
is_zero_fill c peek position = eqb c zero_digit && (is_digit peek && is_to_width position)

-- `('0'..='9', _, Start | MinWidth)`
abbrev pub is_width : ℕ → Position → Bool
is_width c position = is_digit c && is_to_width position

-- `'.'`
abbrev pub dot : ℕ
dot = 46

-- `('.', Some(_), Start | MinWidth | Precision)`
abbrev pub is_precision : ℕ → ℕ → Position → Bool
is_precision c peek position = eqb c dot && (ltb peek no_char && is_to_precision position)

-- `Start | MinWidth | Precision | Type`
abbrev pub is_before_end : Position → Bool
is_before_end positions.Start = true
is_before_end positions.MinWidth = true
is_before_end positions.Precision = true
is_before_end positions.Type = true
is_before_end _ = false

-- `('?', _, Start | MinWidth | Precision | Type)`, and the six arms after it, which differ in the letter alone
unfoldable pub letter_of : ℕ → Position → Option Representation
letter_of c position = pick (is_before_end position) (representation_of c) None

-- f of the representation, or what is said where there is none
abbrev pub on_shown : {A : Type 0} → Option Representation → (Representation → A) → A → A
on_shown (Some r) f none = f r
on_shown None f none = none

-- the arms from the letters on
unfoldable pub last_arm : ℕ → Position → Arm
last_arm c position =
    on_shown (letter_of c position) arm.Represent
    -- `(_, _, Start)`
    (pick (is_start position) arm.FillCluster
    -- `(other, _, _)`
    arm.Unexpected)

-- the first arm whose pattern matches
unfoldable pub arm_of : ℕ → ℕ → Position → Arm
arm_of c peek position =
    pick (is_fill_sign peek position) arm.FillSign
    (pick (is_align c position) arm.Align
    (pick (is_zero_fill c peek position) arm.ZeroFill
    (pick (is_width c position) arm.MinWidth
    (pick (is_precision c peek position) arm.Precision
    (last_arm c position)))))
