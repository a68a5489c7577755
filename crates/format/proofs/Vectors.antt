-- Document 01's format strings, read with the small table and computed in one go: the options, how each reading ends, and the strings to add.
-- Assumes nothing.
use Rattle.std.specs.Prelude.{Some, None, Result, Ok, Err}
use Prim.Native.Nat.{ℕ}
use mathlib.Core.Path.{◌≡◌, refl}
use mathlib.Core.List.{List, [], ◌∷◌}
use Rattle.base.specs.Range.{inside}
use Rattle.utf8.specs.Encode.{encode, encode_all}
use Rattle.property.specs.Table.{last_from, properties_at}
use Rattle.fitness.specs.Small.{small_table}
use Rattle.uax29.specs.Uax29.{is_control, gb3, gb6, gb7, gb8, gb9, pair_rule, ends_pict, ends_pict_zwj, ends_odd, ends_consonant, ends_linked, gb9c, gb11, gb12}
use Rattle.cluster.specs.First.{go_on}
use Rattle.format_options.specs.Options.{no_options, with_alignment, with_width, with_representation, with_fill}
use Rattle.format_options.specs.Letters.{is_sign, is_digit, char_to_alignment, representation_of}
use Rattle.format_options.specs.declared.Alignment.TheVariants.{Left, Center}
use Rattle.format_options.specs.declared.Representation.TheVariants.{ExpLower}
use Rattle.format_options.specs.declared.Part.{Part}
use Rattle.format_options.specs.declared.Options.{Options}
use Rattle.format_options.specs.declared.FormatError.TheVariants.{ExpectedNumber, TooLarge, UnexpectedToken}
use Rattle.format_number.specs.Number.{peeked, digits_from, consume_u32}
use Rattle.format_options.specs.declared.FormatError.{FormatError}
use Rattle.format_arms.specs.Arms.{letter_of, last_arm, arm_of}
use Rattle.format_state.specs.State.{nothing_added}
use Rattle.format_state.specs.declared.Strings.{Strings}
use Rattle.format.specs.Parse.{parse_from}
use Rattle.format.specs.Read.{read_format}
use Rattle.format.specs.declared.FormatRead.{FormatRead}

abbrev read : List ℕ → FormatRead
read cs = read_format (properties_at small_table) 2 cs

abbrev part : ℕ → ℕ → Part
part place len = record { place = place; len = len }

abbrev one : Part → Strings
one first = record { first = Some first; second = None }

abbrev two : Part → Part → Strings
two first second = record { first = Some first; second = Some second }

abbrev fine : Result Unit FormatError
fine = Ok tt

abbrev is : Result Unit FormatError → Options → Strings → FormatRead
is outcome options added = record { options = options; outcome = outcome; added = added }

vectors :
    -- no characters
    read []
    -- .
    ∷ read (46 ∷ [])
    -- 5.
    ∷ read (53 ∷ 46 ∷ [])
    -- 000
    ∷ read (48 ∷ 48 ∷ 48 ∷ [])
    -- <^>
    ∷ read (60 ∷ 94 ∷ 62 ∷ [])
    -- .x
    ∷ read (46 ∷ 120 ∷ [])
    -- 4294967295, and one more
    ∷ read (52 ∷ 50 ∷ 57 ∷ 52 ∷ 57 ∷ 54 ∷ 55 ∷ 50 ∷ 57 ∷ 53 ∷ [])
    ∷ read (52 ∷ 50 ∷ 57 ∷ 52 ∷ 57 ∷ 54 ∷ 55 ∷ 50 ∷ 57 ∷ 54 ∷ [])
    -- e, U+0301, <5
    ∷ read (101 ∷ 769 ∷ 60 ∷ 53 ∷ [])
    -- a, U+0301, <
    ∷ read (97 ∷ 769 ∷ 60 ∷ [])
    ∷ []
    ≡ is fine no_options nothing_added
    ∷ is fine (with_fill (part 0 1) no_options) (one (part 0 1))
    ∷ is (Err (UnexpectedToken 46)) (with_width 5 no_options) nothing_added
    ∷ is fine (with_fill (part 1 1) (with_width 0 no_options)) (two (part 0 1) (part 1 1))
    ∷ is (Err (UnexpectedToken 62)) (with_fill (part 0 1) (with_alignment Center no_options)) (one (part 0 1))
    ∷ is (Err (ExpectedNumber 120)) no_options nothing_added
    ∷ is fine (with_width 4294967295 no_options) nothing_added
    ∷ is (Err (TooLarge 4294967296)) no_options nothing_added
    ∷ is (Err (UnexpectedToken 769)) (with_representation ExpLower no_options) nothing_added
    ∷ is fine (with_fill (part 0 3) (with_alignment Left no_options)) (one (part 0 3))
    ∷ []
unfolding inside encode encode_all last_from small_table is_control gb3 gb6 gb7 gb8 gb9 pair_rule ends_pict ends_pict_zwj ends_odd ends_consonant ends_linked gb9c gb11 gb12 go_on peeked is_sign is_digit char_to_alignment digits_from consume_u32 representation_of letter_of last_arm arm_of parse_from read_format
vectors = refl
