-- The state of a reading, and what an arm of string_format_options.rs's `StringFormatOptions::parse` makes of it. In the place of a pool
-- stand two places, for the first string and the last one after it.
-- Assumes nothing.
use Rattle.std.specs.Prelude.{ℕ, ◌+◌, ◌-◌, Bool, Option, Some, None, Result, Ok, Err}
use Rattle.base.specs.Pick.{pick}
use Rattle.format_options.specs.Options.{no_options, with_width, with_precision, with_fill}
use Rattle.format_options.specs.declared.Part.{Part}
use Rattle.format_options.specs.declared.Options.{Options}
use Rattle.format_options.specs.declared.FormatError.{FormatError}
use Rattle.format_number.specs.declared.Number.{Number}
use Rattle.format_arms.specs.declared.Position.{Position}
use Rattle.format_arms.specs.Arms.{start, precision, type}
use Rattle.format_state.specs.declared.Strings.{Strings}
use Rattle.format_state.specs.declared.Parsing.{Parsing}

-- ---- the strings

-- no string
abbrev pub nothing_added : Strings
nothing_added = record { first = None; second = None }

-- the first string stays; a later one takes the place of the one before it
abbrev pub keep_by : Option Part → Strings → Part → Strings
keep_by (Some p) a part = record { first = a.first; second = Some part }
keep_by None a part = record { first = Some part; second = None }

abbrev pub keep : Strings → Part → Strings
keep a part = keep_by a.first a part

-- ---- the state

-- before the first character
abbrev pub start_parsing : Parsing
start_parsing = record { position = start; result = no_options; at = 0; added = nothing_added; outcome = Ok tt }

-- it goes on at the byte `at`, with these options and strings
abbrev pub goes_to : Options → Position → ℕ → Strings → Parsing
goes_to result position at added = record { position = position; result = result; at = at; added = added; outcome = Ok tt }

-- the same, with what stands from here to the byte `end` as the fill, which is added
abbrev pub goes_filled : Parsing → Options → Position → ℕ → ℕ → Parsing
goes_filled p result position end at =
    let fill : Part = record { place = p.at; len = end - p.at } in
    goes_to (with_fill fill result) position at (keep p.added fill)

-- it goes on with a precision of n, or else with a width of n
abbrev pub goes_numbered : Parsing → Bool → ℕ → ℕ → Parsing
goes_numbered p is_precision n at =
    pick is_precision (goes_to (with_precision n p.result) type at p.added)
    (goes_to (with_width n p.result) precision at p.added)

-- it fails, and stays where it is
abbrev pub fails_with : Parsing → FormatError → Parsing
fails_with p e = record { position = p.position; result = p.result; at = p.at; added = p.added; outcome = Err e }

-- the arms with a number, whose digits after the first stand from the byte `at` on
abbrev pub number_to : Parsing → Bool → ℕ → Result Number FormatError → Parsing
number_to p is_precision at (Ok v) = goes_numbered p is_precision v.n (at + v.digits)
number_to p is_precision at (Err e) = fails_with p e
