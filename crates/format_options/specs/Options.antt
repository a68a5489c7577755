-- string_format_options.rs `StringFormatOptions`: its default, its fields set one at a time, and the numbers of its enums.
-- Assumes nothing.
use Rattle.std.specs.Prelude.{ℕ, Some, None}
use Rattle.format_options.specs.declared.Alignment.{Alignment}
use Rattle.format_options.specs.declared.Alignment.TheVariants as alignment
use Rattle.format_options.specs.declared.Representation.{Representation}
use Rattle.format_options.specs.declared.Representation.TheVariants as representation
use Rattle.format_options.specs.declared.Part.{Part}
use Rattle.format_options.specs.declared.Options.{Options}

-- `Self::default()`
abbrev pub no_options : Options
no_options = record { alignment = alignment.Default; width = None; precision = None; representation = None; fill = None }

-- `result.alignment = ..`
abbrev pub with_alignment : Alignment → Options → Options
with_alignment a o =
    record { alignment = a; width = o.width; precision = o.precision; representation = o.representation; fill = o.fill }

-- `result.min_width = Some(..)`
abbrev pub with_width : ℕ → Options → Options
with_width n o =
    record { alignment = o.alignment; width = Some n; precision = o.precision; representation = o.representation; fill = o.fill }

-- `result.precision = Some(..)`
abbrev pub with_precision : ℕ → Options → Options
with_precision n o =
    record { alignment = o.alignment; width = o.width; precision = Some n; representation = o.representation; fill = o.fill }

-- `result.representation = Some(..)`
abbrev pub with_representation : Representation → Options → Options
with_representation r o =
    record { alignment = o.alignment; width = o.width; precision = o.precision; representation = Some r; fill = o.fill }

-- `result.fill_character = Some(..)`
abbrev pub with_fill : Part → Options → Options
with_fill p o =
    record { alignment = o.alignment; width = o.width; precision = o.precision; representation = o.representation; fill = Some p }

-- ---- numbers

-- `StringAlignment as u8`
abbrev pub alignment_number : Alignment → ℕ
alignment_number alignment.Default = 0
alignment_number alignment.Left = 1
alignment_number alignment.Center = 2
alignment_number alignment.Right = 3

-- `StringFormatRepresentation as u8`
abbrev pub representation_number : Representation → ℕ
representation_number representation.Debug = 0
representation_number representation.HexLower = 1
representation_number representation.HexUpper = 2
representation_number representation.Binary = 3
representation_number representation.Octal = 4
representation_number representation.ExpLower = 5
representation_number representation.ExpUpper = 6
