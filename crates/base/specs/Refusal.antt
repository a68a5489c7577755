-- Document 01, "Refusal numbers", and those of document 02: each number once, under its name. 0 is no refusal.
-- An answer enum's own definition (`number_of`, `place_of` beside the enum) says which of these each of its cases is.
-- Assumes nothing.
use Rattle.std.specs.Prelude.{ℕ}

-- an answer that is no refusal
abbrev pub none : ℕ
none = 0

abbrev pub too_long : ℕ
too_long = 1

abbrev pub bad_table : ℕ
bad_table = 2

abbrev pub bad_utf8 : ℕ
bad_utf8 = 3

abbrev pub list_full : ℕ
list_full = 4

abbrev pub modes_full : ℕ
modes_full = 5

abbrev pub peek_too_far : ℕ
peek_too_far = 6

abbrev pub queue_full : ℕ
queue_full = 7

abbrev pub bad_state : ℕ
bad_state = 8

abbrev pub bad_record : ℕ
bad_record = 9

abbrev pub expected_number : ℕ
expected_number = 10

abbrev pub format_number_is_too_large : ℕ
format_number_is_too_large = 11

abbrev pub unexpected_token : ℕ
unexpected_token = 12

abbrev pub pool_full : ℕ
pool_full = 13

abbrev pub bad_file : ℕ
bad_file = 14

abbrev pub cut_utf8 : ℕ
cut_utf8 = 15

abbrev pub bad_edit : ℕ
bad_edit = 16

abbrev pub bad_edition : ℕ
bad_edition = 17

abbrev pub no_such_format : ℕ
no_such_format = 18

abbrev pub no_room : ℕ
no_room = 19

abbrev pub bad_mark : ℕ
bad_mark = 20

abbrev pub not_in_profile : ℕ
not_in_profile = 21

-- ---- the lengths beyond which refusal 1 is given

-- a source, in bytes
abbrev pub source_most : ℕ
source_most = 1048576

-- a format string, in bytes
abbrev pub format_most : ℕ
format_most = 65535
