-- A parse's options as seven numbers. A number that none of them can be stands for none.
-- Assumes nothing.
use Rattle.std.specs.Prelude.{ℕ, List, [], ◌∷◌, Option, Some, None, Result, Ok, Err}
use Rattle.format_options.specs.Options.{alignment_number, representation_number}
use Rattle.format_options.specs.declared.Options.{Options}
use Rattle.format_options.specs.declared.Representation.{Representation}
use Rattle.format_options.specs.declared.Part.{Part}
use Rattle.parse.specs.declared.Parsed.{Parsed}
use Rattle.parse.specs.declared.ParseError.{ParseError}

-- no number: the greatest of 64 bits
abbrev pub no_number : ℕ
no_number = 18446744073709551615

-- a width, a precision or an index
abbrev pub given_number : Option ℕ → ℕ
given_number (Some n) = n
given_number None = no_number

abbrev pub shown_number : Option Representation → ℕ
shown_number (Some representation) = representation_number representation
shown_number None = no_number

abbrev pub fill_place : Option Part → ℕ
fill_place (Some part) = part.place
fill_place None = no_number

abbrev pub fill_len : Option Part → ℕ
fill_len (Some part) = part.len
fill_len None = no_number

-- the seven numbers, in the order of the C struct
abbrev pub options_numbers : Options → Option ℕ → List ℕ
options_numbers o index =
    alignment_number o.alignment ∷ given_number o.width ∷ given_number o.precision ∷ shown_number o.representation
    ∷ fill_place o.fill ∷ fill_len o.fill ∷ given_number index ∷ []

-- a refusal has none of them
abbrev pub no_numbers : List ℕ
no_numbers = no_number ∷ no_number ∷ no_number ∷ no_number ∷ no_number ∷ no_number ∷ no_number ∷ []

abbrev pub numbers_of : Result Parsed ParseError → List ℕ
numbers_of (Ok r) = options_numbers r.options r.index
numbers_of (Err e) = no_numbers
