-- Wrong answers, call by call, each with the mistake that gives it. `TableLaws` proves that the contracts shut out every one.
-- Assumes nothing.
use Rattle.std.specs.Prelude.{ℕ, zero, suc, ◌+◌, ◌*◌, List, [], ◌∷◌, ◌++◌, length, take, drop, replicate}
use Rattle.fitness.specs.Small.{small_table}
use Rattle.table_file.specs.File.{file_of}
use Rattle.input.specs.Input.{without_gb9c, with_gb9c}
use Rattle.token.specs.Kind as kind
use Rattle.words.specs.Words.{bytes}
use Rattle.reading.specs.Status.{end_number, stuck_number, refused_number, end_half_number, stuck_half_number}
use Rattle.pool_rows.specs.declared.Counts.{Counts}
use Rattle.pool_lent.specs.Entries.{entry_of}
use Rattle.pool_lent.specs.declared.Entry.{Entry}
use Rattle.parse.specs.Numbers.{no_number}
use Rattle.slide.specs.Slide.{gone}
use Rattle.wrong_answers.specs.Wrong.{Wrong, read_char, check_utf8, check_table, read_table, first_cluster, scan, scan_half, scan_fast, scan_profile, next, peek, look_ahead, check_list, rescan, add_string, parse, desk_add, desk_parse, compact, pad, write_format}

-- ---- what goes in

-- E2 82 AC is U+20AC, and its first two bytes are a beginning of it
abbrev euro : List ℕ
euro = 0xe2 ∷ 0x82 ∷ 0xac ∷ []

abbrev cut_euro : List ℕ
cut_euro = 0xe2 ∷ 0x82 ∷ []

-- FF begins no character
abbrev bad_at_one : List ℕ
bad_at_one = 0x61 ∷ 0xff ∷ []

-- the number of a run
abbrev run : ℕ → ℕ → ℕ
run start properties = start * 2048 + properties

-- the small table with a 23rd run
abbrev small_and : ℕ → List ℕ
small_and x = small_table ++ (x ∷ [])

-- its runs up to code point 127, the last of which goes on: no fit table has fewer
abbrev ascii_table : List ℕ
ascii_table = take 15 small_table

-- the small table, but code point 0 has other properties
abbrev other_nul : List ℕ
other_nul = run 0 4 ∷ run 1 48 ∷ drop 1 small_table

-- a file whose one run is no fit table
abbrev unfit_file : List ℕ
unfit_file = file_of (0 ∷ [])

-- the small table's code points 0 to 127, and above them characters of two bytes, C2 80 and up: U+0080 other, U+0081 a Regional_Indicator,
-- U+0082 ZWJ, U+0083 Extended_Pictographic, U+0084 a consonant of GB9c, U+0085 an Extend that is no linker, U+0086 and up a SpacingMark
abbrev rich : List ℕ
rich =
    ascii_table
    ++ (run 0x80 4 ∷ run 0x81 (4 + 6 * 16) ∷ run 0x82 (2 * 512 + 5 * 16) ∷ run 0x83 (4 + 256) ∷ run 0x84 (4 + 512)
    ∷ run 0x85 (2 * 512 + 4 * 16) ∷ run 0x86 (4 + 8 * 16) ∷ [])

-- the same, and U+0087 a linker, U+0088 a consonant that is Prepend
abbrev richer : List ℕ
richer = rich ++ (run 0x87 (3 * 512 + 4 * 16) ∷ run 0x88 (4 + 512 + 7 * 16) ∷ [])

-- the bytes of U+0080 and so many more
abbrev two : ℕ → List ℕ
two n = 0xc2 ∷ (0x80 + n) ∷ []

-- a consonant, the linker and a consonant: one cluster by GB9c, and two without it
abbrev conjunct : List ℕ
conjunct = two 4 ++ two 7 ++ two 4

-- a list of zeros with room for so many records
abbrev zeros : ℕ → List ℕ
zeros n = replicate (8 * n) 0

-- a record's eight numbers, of a token on the first line and without an indent: kind, detail and depth, bytes, columns
abbrev row : ℕ → ℕ → ℕ → ℕ → ℕ → List ℕ
row kind detail depth start end = (kind + 128 * detail + 1048576 * depth) ∷ start ∷ end ∷ 0 ∷ start ∷ 0 ∷ end ∷ 0 ∷ []

-- of a token without a detail, wherever it stands: kind and depth, bytes, its first line and column, its last, and the indent
abbrev placed : ℕ → ℕ → ℕ → ℕ → ℕ → ℕ → ℕ → ℕ → ℕ → List ℕ
placed kind depth start end startLine startColumn endLine endColumn indent =
    (kind + 1048576 * depth) ∷ start ∷ end ∷ startLine ∷ startColumn ∷ endLine ∷ endColumn ∷ indent ∷ []

-- a list with room for so many records at half the size, and such a record's five numbers: the first, and where it ends
abbrev half_zeros : ℕ → List ℕ
half_zeros n = replicate (5 * n) 0

abbrev half_row : ℕ → ℕ → List ℕ
half_row first end = first ∷ end ∷ 0 ∷ end ∷ 0 ∷ []

-- the same of a kind at a depth
abbrev half_deep : ℕ → ℕ → ℕ → List ℕ
half_deep kind depth end = half_row (kind + 1048576 * depth) end

-- an Error that stands still
abbrev still_error : ℕ
still_error = kind.error + 268435456

-- two names of one byte
abbrev two_names : List ℕ
two_names = half_row kind.id 1 ++ half_row kind.id 2

-- those of a token of one byte, with this first number
abbrev begun : ℕ → List ℕ
begun first = first ∷ drop 1 (row 0 0 0 0 1)

-- a record's numbers as a call shows them, at depth 0
abbrev shows : ℕ → ℕ → ℕ → ℕ → List ℕ
shows kind detail start end = kind ∷ detail ∷ start ∷ end ∷ 0 ∷ start ∷ 0 ∷ end ∷ 0 ∷ 0 ∷ []

-- the list of `a`, space
abbrev a_space : List ℕ
a_space = row kind.id 0 0 0 1 ++ row kind.whitespace 0 0 1 2

-- the records of `'{x:`, after which format options stand
abbrev to_options : List ℕ
to_options = row kind.string_start 1 0 0 1 ++ row kind.curly_open 0 1 1 2 ++ row kind.id 0 2 2 3 ++ row kind.colon 0 2 3 4

-- a template whose format options begin with a cluster that has a "}" in it, by GB9c
abbrev joined_brace : List ℕ
joined_brace = bytes "'{x:" ++ two 8 ++ two 7 ++ two 8 ++ bytes "}<}'"

-- the numbers of a newline at a place of the first line
abbrev new_line_at : ℕ → List ℕ
new_line_at start = kind.new_line ∷ start ∷ (start + 1) ∷ 0 ∷ start ∷ 1 ∷ 0 ∷ 0 ∷ []

-- those of a name of one byte, the first of the second line, which starts there
abbrev name_below : ℕ → List ℕ
name_below start = kind.id ∷ start ∷ (start + 1) ∷ 1 ∷ 0 ∷ 1 ∷ 1 ∷ 0 ∷ []

-- the list of `'a`, newline, `b'`: one literal goes over both lines
abbrev over_lines : List ℕ
over_lines =
    row kind.string_start 1 0 0 1 ++ ((kind.string_literal + 1048576) ∷ 1 ∷ 4 ∷ 0 ∷ 1 ∷ 1 ∷ 1 ∷ 0 ∷ [])
    ++ ((kind.string_end + 1048576) ∷ 4 ∷ 5 ∷ 1 ∷ 1 ∷ 1 ∷ 2 ∷ 0 ∷ [])

-- what is shown where no token is
abbrev shown_nothing : List ℕ
shown_nothing = shows 0 0 0 0

-- a pool that has the string "a" and room for two entries and three bytes
abbrev pool_bytes : List ℕ
pool_bytes = 0x61 ∷ 0 ∷ 0 ∷ []

abbrev pool_entries : List Entry
pool_entries = entry_of 0 1 ∷ entry_of 0 0 ∷ []

-- an entry count and a byte count
abbrev counts : ℕ → ℕ → Counts
counts entries bytes = record { entries = entries; bytes = bytes }

-- options that say nothing but this fill, with its index
abbrev fill_at : ℕ → ℕ → ℕ → ℕ → List ℕ
fill_at alignment width place index = alignment ∷ width ∷ no_number ∷ no_number ∷ place ∷ 1 ∷ index ∷ []

abbrev no_options : List ℕ
no_options = replicate 7 no_number

-- ---- one character, and all bytes

abbrev pub of_bytes : List Wrong
of_bytes =
    -- a character of three bytes has the length 3
    read_char euro 0 0x20ac 2 0
    -- three bytes are enough for a character of three
    ∷ read_char euro 0 0 0 15
    -- 15 tells a character that the end cuts from bytes that begin none
    ∷ read_char cut_euro 0 0 0 3
    -- ED with a second byte over 9F would be a surrogate
    ∷ read_char (0xed ∷ 0xa0 ∷ 0x80 ∷ []) 0 0xd800 3 0
    -- C0 and C1 open no sequence: C0 80 is not U+0000
    ∷ read_char (0xc0 ∷ 0x80 ∷ []) 0 0 2 0
    -- F5 begins no character
    ∷ read_char (0xf5 ∷ 0x80 ∷ 0x80 ∷ 0x80 ∷ []) 0 0x140000 4 0
    -- the place is where the first wrong sequence begins: neither 0 nor the byte after
    ∷ check_utf8 bad_at_one 0 3
    ∷ check_utf8 bad_at_one 2 3
    -- a character that the end cuts is told from wrong bytes
    ∷ check_utf8 cut_euro 0 3
    ∷ []

-- ---- tables, and their files

abbrev pub of_tables : List Wrong
of_tables =
    -- there is no class 14
    check_table (small_and (run 0x20000 224)) 0 0
    -- starts rise up to the last run
    ∷ check_table (small_and (run 0x100 4)) 0 0
    -- a bad run is named by its own number, and not by the count
    ∷ check_table (small_and (run 0x20000 224)) 23 2
    -- nor by 0
    ∷ check_table (small_and (run 0x20000 224)) 0 2
    -- the first run is asked too: it starts at 0
    ∷ check_table (run 1 48 ∷ drop 1 small_table) 22 2
    -- where several runs are bad the first one is named
    ∷ check_table (small_and (run 0x20000 224) ++ (run 0x20001 224 ∷ [])) 23 2
    -- code points 0 to 127 are fixed, 0 among them, and where only they differ the place is the count
    ∷ check_table other_nul 0 0
    ∷ check_table other_nul 0 2
    -- an unfit table in a good file is refusal 2
    ∷ read_table unfit_file (5 ∷ []) (5 ∷ []) 0 1 14
    -- a row is written only if all pass
    ∷ read_table unfit_file (5 ∷ []) (0 ∷ []) 0 1 2
    -- a row that is too short for a file's numbers is refusal 4, and nothing was read
    ∷ read_table unfit_file [] [] 0 0 14
    ∷ read_table unfit_file [] [] 8000 0 4
    -- the place of a surplus byte is the first of them, and not the end of the file
    ∷ read_table (unfit_file ++ (7 ∷ 7 ∷ [])) (5 ∷ []) (5 ∷ []) 0 14 14
    -- 14 comes before 4
    ∷ read_table (unfit_file ++ (7 ∷ [])) [] [] 0 0 4
    -- the count says how many numbers of the row are the table
    ∷ read_table (file_of ascii_table) (replicate 15 0) ascii_table 0 0 0
    ∷ []

-- ---- first clusters

abbrev pub of_clusters : List Wrong
of_clusters =
    -- GB11 asks for a pictograph before the ZWJ too
    first_cluster (bytes "a" ++ two 2 ++ two 3) rich with_gb9c 5 0 0
    -- GB9a: no break before a SpacingMark
    ∷ first_cluster (bytes "a" ++ two 6) rich with_gb9c 1 0 0
    -- GB9c asks for a linker between the consonants
    ∷ first_cluster (two 4 ++ two 5 ++ two 4) rich with_gb9c 6 0 0
    -- a third Regional_Indicator begins a new cluster
    ∷ first_cluster (two 1 ++ two 1 ++ two 1) rich with_gb9c 6 0 0
    -- the length is that of the first cluster, in bytes
    ∷ first_cluster (bytes "a") small_table with_gb9c 0 0 0
    -- only a refusal has a place
    ∷ first_cluster (bytes "ab") small_table with_gb9c 1 1 0
    -- refusal 2 keeps the place that the check of the table gives it
    ∷ first_cluster [] other_nul with_gb9c 0 0 2
    -- and comes before what is said of the bytes, with a number of its own
    ∷ first_cluster bad_at_one other_nul with_gb9c 0 1 3
    -- 17 comes before 2
    ∷ first_cluster [] other_nul 3 0 23 2
    -- 3 and 15 are told apart
    ∷ first_cluster cut_euro small_table with_gb9c 0 0 3
    ∷ first_cluster bad_at_one small_table with_gb9c 0 1 15
    ∷ []

-- ---- scans

abbrev pub of_scans : List Wrong
of_scans =
    -- the count is that of the records written, the Error that stands still among them
    scan (bytes "\r") small_table with_gb9c (zeros 1) (zeros 1) stuck_number 2 0 0
    ∷ scan (bytes "a") small_table with_gb9c (zeros 2) (row kind.id 0 0 0 1 ++ zeros 1) end_number 2 1 0
    -- the Rust would repeat that Error for ever, and never answer None
    ∷ scan (bytes "\r") small_table with_gb9c (zeros 1) (zeros 1) end_number 1 0 0
    -- an Error that stands still has the range and span before it; the next ones would be empty, and begin where those end
    ∷ scan (bytes "a\r") small_table with_gb9c (zeros 2) (row kind.id 0 0 0 1 ++ row kind.error 0 0 1 1) stuck_number 2 1 0
    -- the list's last word is past the records
    ∷ scan (bytes "a") small_table with_gb9c (replicate 9 7) (row kind.id 0 0 0 1 ++ (0 ∷ [])) end_number 1 1 0
    -- the first number has room for 128 kinds below the detail
    ∷ scan (bytes "'") small_table with_gb9c (zeros 1) ((kind.string_start + 64) ∷ drop 1 (row kind.string_start 1 0 0 1)) end_number 1 1 0
    -- the byte start is the second number, and the indent is the eighth
    ∷ scan (bytes "a") small_table with_gb9c (replicate 8 7) (kind.id ∷ 7 ∷ 1 ∷ 0 ∷ 0 ∷ 0 ∷ 1 ∷ 0 ∷ []) end_number 1 1 0
    ∷ scan (bytes "a") small_table with_gb9c (replicate 9 7) (kind.id ∷ 0 ∷ 1 ∷ 0 ∷ 0 ∷ 0 ∷ 1 ∷ 7 ∷ 0 ∷ []) end_number 1 1 0
    -- a record that lacks its last number has no room
    ∷ scan (bytes "a") small_table with_gb9c (replicate 7 7) (take 7 (row kind.id 0 0 0 1)) end_number 1 1 0
    -- there are two editions
    ∷ scan [] small_table 3 [] [] end_number 0 0 0
    -- a list that is full is refusal 4, and its scan has not come to the end
    ∷ scan (bytes "a") small_table with_gb9c [] [] refused_number 0 0 5
    ∷ scan (bytes "a") small_table with_gb9c [] [] end_number 0 0 4
    -- a refusal that comes before any work leaves every word of the list
    ∷ scan bad_at_one small_table with_gb9c (zeros 1) (row kind.id 0 0 0 1) refused_number 0 1 3
    -- a string literal ends before "{", where a template expression begins
    ∷ scan (bytes "'{") small_table with_gb9c (zeros 2) (row kind.string_start 1 0 0 1 ++ row kind.string_literal 0 1 1 2) end_number 2 2 0
    -- the end of a raw string has its quote
    ∷ scan (bytes "r''") small_table with_gb9c (zeros 3)
    (row kind.string_start 3 0 0 2 ++ row kind.string_literal 0 1 2 2 ++ row kind.string_end 0 1 2 2) stuck_number 3 2 0
    -- after the contents of a raw string its end is read, and not its contents again
    ∷ scan (bytes "r''") small_table with_gb9c (zeros 3)
    (row kind.string_start 3 0 0 2 ++ row kind.string_literal 0 1 2 2 ++ row kind.string_literal 0 1 2 2) refused_number 3 2 4
    -- in a string literal "\\{" is contents, and its brace opens no template
    ∷ scan (bytes "'\\{x'") small_table with_gb9c (zeros 5)
    (row kind.string_start 1 0 0 1 ++ row kind.string_literal 0 1 1 2 ++ row kind.curly_open 0 1 2 3 ++ row kind.id 0 2 3 4 ++ row kind.string_start 1 2 4 5)
    end_number 5 5 0
    -- the alignments are "<", "^" and ">", so a "}" before "=" is no fill and ends the options
    ∷ scan (bytes "'{x:}=}'") small_table with_gb9c (zeros 8)
    (to_options ++ row kind.string_literal 0 3 4 6 ++ row kind.curly_close 0 2 6 7 ++ row kind.string_end 0 1 7 8 ++ zeros 1) end_number 7 8 0
    -- a "}" with an alignment after it is the fill, and does not end them
    ∷ scan (bytes "'{x:}<}'") small_table with_gb9c (zeros 8)
    (to_options ++ row kind.string_literal 0 3 4 4 ++ row kind.curly_close 0 2 4 5 ++ row kind.string_literal 0 1 5 7 ++ row kind.string_end 0 1 7 8)
    end_number 8 8 0
    -- the options reach to the brace that ends them
    ∷ scan (bytes "'{x:5}'") small_table with_gb9c (zeros 8)
    (to_options ++ row kind.string_literal 0 3 4 4 ++ row kind.number 0 2 4 5 ++ row kind.curly_close 0 2 5 6 ++ row kind.string_end 0 1 6 7)
    end_number 8 7 0
    -- the edition is the caller's: by GB9c the fill would reach over the first "}" here, and edition 1 is without it
    ∷ scan joined_brace richer without_gb9c (zeros 8)
    (to_options ++ row kind.string_literal 0 3 4 12 ++ row kind.curly_close 0 2 12 13 ++ row kind.string_end 0 1 13 14 ++ zeros 1) end_number 7 14 0
    ∷ []

-- ---- tokens

-- a scan that comes to the end of a source and leaves this list, of which so many records count, in a list of zeros with this room
abbrev lexes : List ℕ → List ℕ → ℕ → ℕ → Wrong
lexes source new count room = scan source small_table with_gb9c (zeros room) new end_number count (length source) 0

abbrev pub of_tokens : List Wrong
of_tokens =
    -- ASCII characters have a column each
    lexes (bytes "ab") (placed kind.id 0 0 2 0 0 0 1 0) 1 1
    -- bytes are counted from the start of the source, and not from the token
    ∷ lexes (bytes "a ") (row kind.id 0 0 0 1 ++ placed kind.whitespace 0 1 1 0 1 0 2 0) 2 2
    -- a token's bytes end where reading came to, and its span too
    ∷ lexes (bytes "a") (placed kind.id 0 0 0 0 0 0 1 0) 1 1
    ∷ lexes (bytes "a") (placed kind.id 0 0 1 0 0 0 0 0) 1 1
    -- a newline ends on the line below
    ∷ lexes (bytes "\n") (placed kind.new_line 0 0 1 0 0 0 0 0) 1 1
    -- strings in single and in double quotes are told apart, and so are raw ones
    ∷ lexes (bytes "'") (row kind.string_start 0 0 0 1) 1 1
    ∷ lexes (bytes "r'") (row kind.string_start 2 0 0 2) 1 1
    -- "elsewhere" is a name
    ∷ lexes (bytes "elsewhere") (row kind.else 0 0 0 4 ++ row kind.id 0 0 4 9) 2 2
    -- a keyword is told by all its bytes, and has its own kind
    ∷ lexes (bytes "breax") (row kind.break 0 0 0 5) 1 1
    ∷ lexes (bytes "then") (row kind.throw 0 0 0 4) 1 1
    -- ".." is Range, and only "..." is Ellipsis
    ∷ lexes (bytes "..") (row kind.ellipsis 0 0 0 2) 1 1
    -- a byte that begins no symbol is none
    ∷ lexes (bytes "$") (row kind.colon 0 0 0 1) 1 1
    -- tabs are whitespace
    ∷ lexes (bytes "\t") (row kind.error 0 0 0 1) 1 1
    -- an underscore is a digit of a number
    ∷ lexes (bytes "1_0") (row kind.number 0 0 0 1 ++ row kind.id 0 0 1 3) 2 2
    -- the indent becomes 0 when a token is read after a newline
    ∷ lexes (bytes "  a\nb")
    (placed kind.whitespace 0 0 2 0 0 0 2 2 ++ placed kind.id 0 2 3 0 2 0 3 2 ++ placed kind.new_line 0 3 4 0 3 1 0 2
    ++ placed kind.id 0 4 5 1 0 1 1 2) 4 4
    -- after the end of a string its mode is popped
    ∷ lexes (bytes "''a") (row kind.string_start 1 0 0 1 ++ row kind.string_end 0 1 1 2 ++ row kind.string_literal 0 1 2 3) 3 3
    -- after its start the mode of a string is on top
    ∷ lexes (bytes "'a'") (row kind.string_start 1 0 0 1 ++ row kind.id 0 1 1 2 ++ row kind.string_start 1 1 2 3) 3 3
    -- a record has the depth of the lexer before its token
    ∷ lexes (bytes "'a'") (row kind.string_start 1 1 0 1 ++ row kind.string_literal 0 1 1 2 ++ row kind.string_end 0 1 2 3) 3 3
    -- "\r\n" is one newline of two bytes
    ∷ lexes (bytes "\r\n") (placed kind.new_line 0 0 1 0 0 1 0 0 ++ placed kind.new_line 0 1 2 1 0 2 0 0) 2 2
    -- "\r" by itself is no newline
    ∷ lexes (bytes "\r") (placed kind.new_line 0 0 1 0 0 1 0 0) 1 1
    -- in a string it is an Error that stands still, and no contents
    ∷ lexes (bytes "'\r") (row kind.string_start 1 0 0 1 ++ row kind.string_literal 0 1 1 2) 2 2
    -- "#-" inside a comment opens nothing: the first "-#" behind it closes the comment
    ∷ lexes (bytes "#- #--# -#") (row kind.comment_multi 0 0 0 10 ++ zeros 3) 1 4
    -- an unclosed comment is an Error that reaches the end, and not one that stands still
    ∷ scan (bytes "#-") small_table with_gb9c (zeros 1) (row kind.error 0 0 0 0) stuck_number 1 0 0
    -- a quote with one hash too few after it is contents
    ∷ lexes (bytes "r#'''#")
    (row kind.string_start 5 0 0 3 ++ row kind.string_literal 0 1 3 3 ++ row kind.string_end 0 1 3 4 ++ row kind.string_start 1 0 4 5
    ++ row kind.string_literal 0 1 5 6) 5 5
    -- where a hash is missing, what stands there may still be the end
    ∷ lexes (bytes "r##''#'##") (row kind.string_start 7 0 0 4 ++ row kind.string_literal 0 1 4 9 ++ zeros 1) 2 3
    -- after the end of a raw string its mode is popped
    ∷ lexes (bytes "r''a")
    (row kind.string_start 3 0 0 2 ++ row kind.string_literal 0 1 2 2 ++ row kind.string_end 0 1 2 3 ++ row kind.string_literal 0 1 3 4) 4 4
    -- "\u{" covers its brace, which opens no template
    ∷ lexes (bytes "'\\u{41}'")
    (row kind.string_start 1 0 0 1 ++ row kind.string_literal 0 1 1 3 ++ row kind.curly_open 0 1 3 4 ++ row kind.number 0 2 4 6
    ++ row kind.curly_close 0 2 6 7 ++ row kind.string_end 0 1 7 8) 6 6
    -- a "}" with no alignment after it ends the options, also where it stands first
    ∷ lexes (bytes "'{x:}'")
    (to_options ++ row kind.string_literal 0 3 4 6 ++ zeros 2) 5 7
    -- behind the options the brace belongs to the template again
    ∷ lexes (bytes "'{x:5}a'")
    (to_options ++ row kind.string_literal 0 3 4 5 ++ row kind.curly_close 0 3 5 6 ++ row kind.string_literal 0 1 6 7 ++ row kind.string_end 0 1 7 8) 8 8
    -- the options end at the next "}", and not at a "{"
    ∷ lexes (bytes "'{x:{<5}'")
    (to_options ++ row kind.string_literal 0 3 4 4 ++ row kind.curly_open 0 2 4 5 ++ row kind.less 0 3 5 6 ++ row kind.number 0 3 6 7
    ++ row kind.curly_close 0 3 7 8 ++ row kind.string_start 1 2 8 9) 10 10
    -- `1.exp` is a number, a dot and a name
    ∷ lexes (bytes "1.exp") (row kind.number 0 0 0 3 ++ row kind.id 0 0 3 5 ++ zeros 1) 2 3
    -- hex digits have no exponent after them
    ∷ lexes (bytes "0x1e+5") (row kind.number 0 0 0 6 ++ zeros 2) 1 3
    -- a tab indents as a space does
    ∷ lexes (bytes "\ta") (placed kind.whitespace 0 0 1 0 0 0 1 1 ++ row kind.id 0 0 1 2) 2 2
    -- "else" is tested before the Dot rule
    ∷ lexes (bytes "x.else") (row kind.id 0 0 0 1 ++ row kind.dot 0 0 1 2 ++ row kind.id 0 0 2 6) 3 3
    -- the other keywords are names after a Dot
    ∷ lexes (bytes "x.if") (row kind.id 0 0 0 1 ++ row kind.dot 0 0 1 2 ++ row kind.if 0 0 2 4) 3 3
    -- ":" in a template pushes the format mode, and no map's
    ∷ lexes (bytes "'{x:5}'")
    (to_options ++ row kind.number 0 3 4 5 ++ row kind.curly_close 0 2 5 6 ++ row kind.string_end 0 1 6 7) 7 7
    ∷ []

-- ---- scans into records at half the size

abbrev pub of_half_scans : List Wrong
of_half_scans =
    -- the room is the list's length by five: here two records have room, and not one
    scan_half (bytes "a ") small_table with_gb9c (half_zeros 2) (half_row kind.id 1 ++ half_zeros 1) refused_number 1 1 4
    -- the status tells the layout
    ∷ scan_half (bytes "a") small_table with_gb9c (half_zeros 1) (half_row kind.id 1) end_number 1 1 0
    -- an Error that stands still has the mark
    ∷ scan_half (bytes "\r") small_table with_gb9c (half_zeros 1) (half_row kind.error 0) stuck_half_number 1 0 0
    -- and no other record
    ∷ scan_half (bytes "a\r") small_table with_gb9c (half_zeros 2) (half_row (kind.id + 268435456) 1 ++ half_row still_error 1) stuck_half_number 2 1 0
    -- the first number of a record is followed by its byte end
    ∷ scan_half (bytes "a") small_table with_gb9c (half_zeros 1) (kind.id ∷ 0 ∷ 1 ∷ 1 ∷ 0 ∷ []) end_half_number 1 1 0
    -- a word past the records stays
    ∷ scan_half (bytes "a") small_table with_gb9c (replicate 6 7) (half_row kind.id 1 ++ (0 ∷ [])) end_half_number 1 1 0
    -- the byte is where the last record ends, or the place of a refusal
    ∷ scan_half (bytes "a") small_table with_gb9c (half_zeros 1) (half_row kind.id 1) end_half_number 1 0 0
    ∷ scan_half bad_at_one small_table with_gb9c [] [] refused_number 0 0 3
    -- the edition is the caller's here too
    ∷ scan_half joined_brace richer without_gb9c (half_zeros 8)
    (half_row (kind.string_start + 128) 1 ++ half_deep kind.curly_open 1 2 ++ half_deep kind.id 2 3 ++ half_deep kind.colon 2 4
    ++ half_deep kind.string_literal 3 12 ++ half_deep kind.curly_close 2 13 ++ half_deep kind.string_end 1 14 ++ half_zeros 1) end_half_number 7 14 0
    ∷ []

-- ---- scans by the second engine

abbrev pub of_fast_scans : List Wrong
of_fast_scans =
    -- how many records were written is told
    scan_fast (bytes "a") small_table with_gb9c (zeros 1) (row kind.id 0 0 0 1) end_number 0 1 0
    ∷ []

-- ---- scans by the site profile

-- so many strings and templates inside each other: their bytes, and their records from this depth on, which is also their byte
abbrev nested : ℕ → List ℕ
nested zero = []
nested (suc n) = bytes "'{" ++ nested n

abbrev nested_rows : ℕ → ℕ → List ℕ
nested_rows depth zero = []
nested_rows depth (suc n) =
    row kind.string_start 1 depth depth (depth + 1) ++ row kind.curly_open 0 (depth + 1) (depth + 1) (depth + 2) ++ nested_rows (depth + 2) n

-- the list of `1r'`: a number, and the start of a raw string
abbrev number_raw : List ℕ
number_raw = row kind.number 0 0 0 1 ++ row kind.string_start 3 0 1 3

abbrev pub of_profiles : List Wrong
of_profiles =
    -- the index of the forbidden record stands in the byte: not 0
    scan_profile (bytes "1r'") small_table with_gb9c (zeros 2) number_raw refused_number 2 0 21
    -- nor the one after it
    ∷ scan_profile (bytes "1r'") small_table with_gb9c (zeros 2) number_raw refused_number 2 2 21
    -- 21 comes after a scan that was not refused: a 65th mode is 5, whatever the records before it are
    ∷ scan_profile (nested 32 ++ bytes "'") small_table with_gb9c (zeros 65) (nested_rows 0 32 ++ zeros 1) refused_number 64 3 21
    ∷ []

-- ---- look-ahead

abbrev pub of_cursors : List Wrong
of_cursors =
    -- a shown record starts with its kind
    next a_space 0 0 2 end_number 1 0 1 (0 ∷ drop 1 (shows kind.id 0 0 1)) 0 0
    -- the list must have room for all records that the cursor counts
    ∷ next a_space 0 0 3 end_number 1 0 1 (shows kind.id 0 0 1) 0 0
    -- a token that is handed out is no longer queued
    ∷ next a_space 0 1 2 end_number 1 1 1 (shows kind.id 0 0 1) 0 0
    -- at Stuck taken never goes past the last record
    ∷ next (zeros 1) 0 0 1 stuck_number 1 0 1 (shows kind.error 0 0 0) 0 0
    -- and a cursor that has taken it is unfit
    ∷ next (zeros 1) 1 0 1 stuck_number 0 0 1 (shows kind.error 0 0 0) 0 0
    -- at most 65,535 tokens are queued
    ∷ next (zeros 1) 0 65536 1 stuck_number 0 65535 1 (shows kind.error 0 0 0) 0 0
    -- refusal 8 comes before 9
    ∷ next a_space 3 0 2 end_number 3 0 0 shown_nothing 0 9
    -- kinds go from 0 to 80
    ∷ next (begun 81) 0 0 1 end_number 1 0 1 (shows 81 0 0 1) 0 0
    -- only a StringStart has a detail
    ∷ next (begun (kind.id + 128)) 0 0 1 end_number 1 0 1 (shows kind.id 1 0 1) 0 0
    -- a raw string in single quotes with 255 hashes has detail 513, which may be shown
    ∷ next (begun (kind.string_start + 128 * 513)) 0 0 1 end_number 0 0 0 shown_nothing 0 9
    -- a lexer has at most 64 modes
    ∷ next (begun (kind.id + 1048576 * 65)) 0 0 1 end_number 1 0 1 (kind.id ∷ 0 ∷ 0 ∷ 1 ∷ 0 ∷ 0 ∷ 0 ∷ 1 ∷ 0 ∷ 65 ∷ []) 0 0
    -- no bit above the depth is set in a record that is shown
    ∷ next (begun (kind.id + 268435456)) 0 0 1 end_number 1 0 1 (shows kind.id 0 0 1) 0 0
    -- the detail has 13 bits, and the depth stands above them
    ∷ next (row kind.id 0 1 0 1) 0 0 1 end_number 1 0 1 (kind.id ∷ 8192 ∷ 0 ∷ 1 ∷ 0 ∷ 0 ∷ 0 ∷ 1 ∷ 0 ∷ 1 ∷ []) 0 0
    -- a look one past the queue queues and shows nothing, against the comment in the Rust
    ∷ peek a_space 0 0 2 end_number 1 0 1 (shows kind.whitespace 0 1 2) 0 0
    ∷ peek a_space 0 0 2 end_number 1 1 0 shown_nothing 0 0
    -- a look within the queue queues one token more
    ∷ peek a_space 0 0 2 end_number 0 0 1 (shows kind.id 0 0 1) 0 0
    -- refusal 6 comes before 7
    ∷ peek (zeros 1) 0 65535 1 stuck_number 65537 65535 0 shown_nothing 0 7
    -- a queue that is full is refusal 7
    ∷ peek (zeros 1) 0 65535 1 stuck_number 65535 65535 0 shown_nothing 0 6
    -- position 1 of `look_ahead` shows the token after the next one, also where nothing is queued, and queues what is lacking for it
    ∷ look_ahead a_space 0 0 2 end_number 1 0 0 shown_nothing 0 0
    ∷ look_ahead a_space 0 0 2 end_number 1 0 1 (shows kind.whitespace 0 1 2) 0 0
    -- 65,535 tokens may be queued
    ∷ look_ahead (zeros 1) 0 0 1 stuck_number 65534 0 0 shown_nothing 0 7
    -- at half the size a record starts where the one before it ends, and the first at 0
    ∷ next two_names 1 0 2 end_half_number 2 0 1 (shows kind.id 0 0 2) 0 0
    ∷ next two_names 0 0 2 end_half_number 1 0 1 (shows kind.id 0 1 1) 0 0
    -- one that stands still starts where the one before it does
    ∷ next (two_names ++ half_row still_error 2) 2 0 3 stuck_half_number 2 0 1 (shows kind.error 0 2 2) 0 0
    ∷ next (two_names ++ half_row still_error 2) 2 0 3 stuck_half_number 2 0 1 (shows kind.error 0 0 2) 0 0
    -- the mark stands on the last record alone
    ∷ next (half_row still_error 0 ++ two_names) 0 0 3 end_half_number 1 0 1 (shows kind.error 0 0 0) 0 0
    -- and on an Error alone
    ∷ peek (half_row (kind.id + 268435456) 1) 0 0 1 stuck_half_number 0 1 1 (shows kind.id 0 0 1) 0 0
    -- bit 29 is never set
    ∷ look_ahead (half_row (still_error + 536870912) 0) 0 0 1 stuck_half_number 0 1 1 (shows kind.error 0 0 0) 0 0
    -- a list of ten words has room for two records at half the size
    ∷ next two_names 0 0 2 end_half_number 0 0 0 shown_nothing 0 8
    -- and for one whole record
    ∷ next two_names 0 0 2 end_number 1 0 1 (shows kind.id 0 0 1) 0 0
    ∷ []

-- ---- another lexer's list

abbrev pub of_checks : List Wrong
of_checks =
    -- the last record is compared too
    check_list (bytes "a ") small_table with_gb9c (row kind.id 0 0 0 1 ++ row kind.whitespace 0 0 1 3) 2 end_number 1 0 0 0
    -- where only the counts differ the smaller one is named
    ∷ check_list (bytes "a ") small_table with_gb9c a_space 1 end_number 0 2 0 0
    -- the status is compared
    ∷ check_list (bytes "a ") small_table with_gb9c a_space 2 stuck_number 1 0 0 0
    -- a list that is shorter than its count is refusal 8, and no difference is named
    ∷ check_list (bytes "a ") small_table with_gb9c a_space 3 end_number 0 2 0 0
    -- our reading is stuck here, so that End is another status
    ∷ check_list (bytes "\r") small_table with_gb9c (zeros 1) 1 end_number 1 0 0 0
    -- a refusal's place is told
    ∷ check_list bad_at_one small_table with_gb9c [] 0 end_number 0 0 0 3
    ∷ []

-- ---- a list after an edit

abbrev pub of_rescans : List Wrong
of_rescans =
    -- no record is kept where a string is open at the line's start: what follows is still the literal
    rescan (bytes "'a\nb'") over_lines 3 3 1 1 (bytes "'a\nc'") small_table with_gb9c (zeros 5)
    (row kind.string_start 1 0 0 1 ++ row kind.id 0 0 1 2 ++ new_line_at 2 ++ name_below 3 ++ zeros 1) end_number 4 4 0
    -- the old list's words past the kept ones are not copied
    ∷ rescan (bytes "a\nb") (row kind.id 0 0 0 1 ++ new_line_at 1 ++ name_below 2) 3 2 1 0 (bytes "a\n") small_table with_gb9c (replicate 24 7)
    (row kind.id 0 0 0 1 ++ new_line_at 1 ++ name_below 2) end_number 2 2 0
    -- an edit that leads to another source is refusal 16
    ∷ rescan (bytes "a\nb") (row kind.id 0 0 0 1 ++ new_line_at 1 ++ name_below 2) 3 2 1 0 (bytes "b\n") small_table with_gb9c [] [] refused_number 0 0 4
    -- a kept record without room is refusal 4
    ∷ rescan (bytes "a\nb") (row kind.id 0 0 0 1 ++ new_line_at 1 ++ name_below 2) 3 2 1 0 (bytes "a\n") small_table with_gb9c (zeros 1)
    (row kind.id 0 0 0 1) end_number 1 1 0
    -- the byte is where the last record ends, or a refusal's place
    ∷ rescan [] [] 0 0 0 1 (bytes "a") small_table with_gb9c (zeros 1) (row kind.id 0 0 0 1) end_number 1 0 0
    ∷ rescan [] [] 0 0 0 2 bad_at_one small_table with_gb9c [] [] refused_number 0 0 3
    ∷ []

-- ---- strings of a pool, and format options

abbrev pub of_pools : List Wrong
of_pools =
    -- 15 tells a string that its end cuts from a wrong one
    add_string cut_euro pool_bytes pool_entries (counts 1 1) pool_bytes pool_entries (counts 1 1) 0 0 3
    -- refusal 3 has the place of the first ill-formed sequence
    ∷ add_string bad_at_one pool_bytes pool_entries (counts 1 1) pool_bytes pool_entries (counts 1 1) 0 0 3
    -- and comes before 8
    ∷ add_string bad_at_one pool_bytes pool_entries (counts 3 1) pool_bytes pool_entries (counts 3 1) 0 0 8
    -- and an unfit pool takes no string
    ∷ add_string (bytes "b") pool_bytes pool_entries (counts 3 1) (bytes "ab" ++ (0 ∷ [])) pool_entries (counts 4 2) 3 0 0
    -- the counts are those after the addition
    ∷ add_string (bytes "b") pool_bytes pool_entries (counts 1 1) (bytes "ab" ++ (0 ∷ [])) (entry_of 0 1 ∷ entry_of 1 1 ∷ []) (counts 1 1) 1 0 0
    -- a string that fills the last free byte has room
    ∷ add_string (bytes "bc") pool_bytes pool_entries (counts 1 1) pool_bytes pool_entries (counts 1 1) 0 0 13
    -- equal strings have equal lengths
    ∷ add_string (bytes "ab") pool_bytes pool_entries (counts 1 1) pool_bytes pool_entries (counts 1 1) 0 0 0
    -- of two equal entries the first counts
    ∷ add_string (bytes "a") (bytes "aa") (entry_of 0 1 ∷ entry_of 1 1 ∷ []) (counts 2 2) (bytes "aa") (entry_of 0 1 ∷ entry_of 1 1 ∷ []) (counts 2 2) 1 0 0
    -- entries run end to end
    ∷ add_string (bytes "a") pool_bytes (entry_of 0 1 ∷ entry_of 2 1 ∷ []) (counts 2 3) pool_bytes (entry_of 0 1 ∷ entry_of 2 1 ∷ []) (counts 2 3) 0 0 0
    -- indices count from 0
    ∷ add_string (bytes "b") pool_bytes pool_entries (counts 1 1) (bytes "ab" ++ (0 ∷ [])) (entry_of 0 1 ∷ entry_of 1 1 ∷ []) (counts 2 2) 2 0 0
    -- an entry has the length, where the Rust keeps the end of a range
    ∷ add_string (bytes "b") pool_bytes pool_entries (counts 1 1) (bytes "ab" ++ (0 ∷ [])) (entry_of 0 1 ∷ entry_of 1 2 ∷ []) (counts 2 2) 1 0 0
    -- a string that is there costs nothing
    ∷ add_string (bytes "a") pool_bytes pool_entries (counts 1 1) (bytes "aa" ++ (0 ∷ [])) (entry_of 0 1 ∷ entry_of 1 1 ∷ []) (counts 1 1) 0 0 0
    -- an addition without room comes before the error that is found after it
    ∷ parse (bytes "b<!") small_table with_gb9c [] [] (counts 0 0) [] [] (counts 0 0) no_options 33 12
    -- a pool without room is refusal 13
    ∷ parse (bytes "b<") small_table with_gb9c [] [] (counts 0 0) [] [] (counts 0 0) no_options 0 8
    -- the fill's index is that of the string added last
    ∷ parse (bytes "b<") small_table with_gb9c pool_bytes pool_entries (counts 1 1) (bytes "ab" ++ (0 ∷ [])) (entry_of 0 1 ∷ entry_of 1 1 ∷ [])
    (counts 2 2) (fill_at 1 no_number 0 0) 0 0
    -- what was added is in the entries, and in the counts
    ∷ parse (bytes "b<") small_table with_gb9c pool_bytes pool_entries (counts 1 1) (bytes "ab" ++ (0 ∷ [])) pool_entries (counts 2 2)
    (fill_at 1 no_number 0 1) 0 0
    ∷ parse (bytes "b<") small_table with_gb9c pool_bytes pool_entries (counts 1 1) (bytes "ab" ++ (0 ∷ [])) (entry_of 0 1 ∷ entry_of 1 1 ∷ [])
    (counts 1 1) (fill_at 1 no_number 0 1) 0 0
    -- no representation is none, and not 0, which is Debug
    ∷ parse [] small_table with_gb9c [] [] (counts 0 0) [] [] (counts 0 0)
    (0 ∷ no_number ∷ no_number ∷ 0 ∷ no_number ∷ no_number ∷ no_number ∷ []) 0 0
    -- a format string can add two strings, its fill and "0"
    ∷ parse (bytes "a<05") small_table with_gb9c pool_bytes pool_entries (counts 1 1) pool_bytes pool_entries (counts 1 1) (fill_at 1 5 2 0) 0 0
    -- refusals 10 to 12 have the code point or the value that was refused
    ∷ parse (bytes ".x") small_table with_gb9c [] [] (counts 0 0) [] [] (counts 0 0) no_options 0 10
    ∷ parse (bytes "4294967296") small_table with_gb9c [] [] (counts 0 0) [] [] (counts 0 0) no_options 0 11
    ∷ parse (bytes "<!") small_table with_gb9c [] [] (counts 0 0) [] [] (counts 0 0) no_options 0 12
    -- the edition is the caller's: by GB9c this would be one fill before a sign, and edition 1 is without it
    ∷ parse (conjunct ++ bytes "<") richer without_gb9c (replicate 6 0) (entry_of 0 0 ∷ []) (counts 0 0) conjunct (entry_of 0 6 ∷ []) (counts 1 6)
    (1 ∷ no_number ∷ no_number ∷ no_number ∷ 0 ∷ 6 ∷ 0 ∷ []) 0 0
    ∷ []

-- ---- a pool that two desks share

-- the first desk added "a" and "c", the second "b"; each is guaranteed an entry and a byte, and there is room for three entries and four bytes
abbrev shared_bytes : List ℕ
shared_bytes = bytes "abc" ++ (0 ∷ [])

abbrev shared_entries : List ℕ
shared_entries = 0 ∷ 1 ∷ 1 ∷ 1 ∷ 2 ∷ 1 ∷ []

abbrev shared_owners : List ℕ
shared_owners = 0 ∷ 1 ∷ 0 ∷ []

-- both desks, charged so many entries and bytes
abbrev charged : ℕ → ℕ → List ℕ
charged one two = 1 ∷ 1 ∷ one ∷ one ∷ 1 ∷ 1 ∷ two ∷ two ∷ []

-- both desks without guarantees, the first charged so many entries and bytes
abbrev first_holds : ℕ → ℕ → List ℕ
first_holds entries bytes = 0 ∷ 0 ∷ entries ∷ bytes ∷ 0 ∷ 0 ∷ 0 ∷ 0 ∷ []

-- the same for one entry of one byte, where this byte is told as guaranteed too
abbrev told_twice : List ℕ
told_twice = 0 ∷ 1 ∷ 1 ∷ 1 ∷ 0 ∷ 0 ∷ 0 ∷ 0 ∷ []

abbrev pub of_desks : List Wrong
of_desks =
    -- kept strings move together in order
    compact (0 ∷ []) (2 ∷ []) shared_bytes shared_entries shared_owners (3 ∷ 3 ∷ []) (charged 2 1) (7 ∷ 7 ∷ 7 ∷ [])
    (bytes "cac" ++ (0 ∷ [])) shared_entries (0 ∷ 0 ∷ 0 ∷ []) (2 ∷ 2 ∷ []) (charged 2 0) (1 ∷ gone ∷ 0 ∷ []) 0
    -- a string that is kept stays charged to the desk that added it, and not to the one that marked it
    ∷ compact [] (0 ∷ []) shared_bytes shared_entries shared_owners (3 ∷ 3 ∷ []) (charged 2 1) (7 ∷ 7 ∷ 7 ∷ [])
    shared_bytes shared_entries shared_owners (1 ∷ 1 ∷ []) (charged 0 1) (0 ∷ gone ∷ gone ∷ []) 0
    -- an index that was never given is refused, and the row stays
    ∷ compact (3 ∷ []) [] shared_bytes shared_entries shared_owners (3 ∷ 3 ∷ []) (charged 2 1) (7 ∷ 7 ∷ 7 ∷ [])
    shared_bytes shared_entries shared_owners (3 ∷ 3 ∷ []) (charged 2 1) (gone ∷ gone ∷ gone ∷ []) 20
    -- bytes move down from the front: from the back they would be written over before they are read
    ∷ compact (1 ∷ []) [] (bytes "abcd") (0 ∷ 1 ∷ 1 ∷ 3 ∷ []) (0 ∷ 0 ∷ []) (2 ∷ 4 ∷ []) (0 ∷ 0 ∷ 2 ∷ 4 ∷ 0 ∷ 0 ∷ 0 ∷ 0 ∷ []) (7 ∷ 7 ∷ [])
    (bytes "dddd") (0 ∷ 3 ∷ 1 ∷ 3 ∷ []) (0 ∷ 0 ∷ []) (1 ∷ 3 ∷ []) (0 ∷ 0 ∷ 1 ∷ 3 ∷ 0 ∷ 0 ∷ 0 ∷ 0 ∷ []) (gone ∷ 0 ∷ []) 0
    -- each desk is charged what its own strings hold, and not the second for the first's
    ∷ compact (0 ∷ []) [] (bytes "a") (0 ∷ 1 ∷ []) (0 ∷ []) (1 ∷ 1 ∷ []) (first_holds 1 1) (7 ∷ [])
    (bytes "a") (0 ∷ 1 ∷ []) (0 ∷ []) (1 ∷ 1 ∷ []) (0 ∷ 0 ∷ 1 ∷ 1 ∷ 0 ∷ 0 ∷ 1 ∷ 1 ∷ []) (0 ∷ []) 0
    -- a new string is charged in bytes too, to the desk that adds it
    ∷ desk_add 0 (bytes "a") (0 ∷ []) (0 ∷ 0 ∷ []) (0 ∷ []) (0 ∷ 0 ∷ []) (first_holds 0 0)
    (bytes "a") (0 ∷ 1 ∷ []) (0 ∷ []) (1 ∷ 1 ∷ []) (first_holds 1 0) 0 0 0
    -- and so is what a parse adds
    ∷ desk_parse 0 (bytes "a<") small_table with_gb9c (0 ∷ []) (0 ∷ 0 ∷ []) (0 ∷ []) (0 ∷ 0 ∷ []) (first_holds 0 0)
    (bytes "a") (0 ∷ 1 ∷ []) (0 ∷ []) (1 ∷ 1 ∷ []) (first_holds 1 0) (fill_at 1 no_number 0 0) 0 0
    -- charges that do not add up to the counts are unfit, here beside an owner that is no desk
    ∷ desk_add 0 (bytes "a") (bytes "a") (0 ∷ 1 ∷ []) (2 ∷ []) (1 ∷ 1 ∷ []) (first_holds 0 0)
    (bytes "a") (0 ∷ 1 ∷ []) (2 ∷ []) (1 ∷ 1 ∷ []) (first_holds 0 0) 0 0 0
    -- the numbers of a desk stand in the header's order: what it is charged is not told as what it is guaranteed
    ∷ desk_add 0 (bytes "a") (0 ∷ []) (0 ∷ 0 ∷ []) (0 ∷ []) (0 ∷ 0 ∷ []) (first_holds 0 0)
    (bytes "a") (0 ∷ 1 ∷ []) (0 ∷ []) (1 ∷ 1 ∷ []) told_twice 0 0 0
    ∷ desk_parse 0 (bytes "a<") small_table with_gb9c (0 ∷ []) (0 ∷ 0 ∷ []) (0 ∷ []) (0 ∷ 0 ∷ []) (first_holds 0 0)
    (bytes "a") (0 ∷ 1 ∷ []) (0 ∷ []) (1 ∷ 1 ∷ []) told_twice (fill_at 1 no_number 0 0) 0 0
    ∷ compact (0 ∷ []) [] (bytes "a") (0 ∷ 1 ∷ []) (0 ∷ []) (1 ∷ 1 ∷ []) (first_holds 1 1) (7 ∷ [])
    (bytes "a") (0 ∷ 1 ∷ []) (0 ∷ []) (1 ∷ 1 ∷ []) told_twice (0 ∷ []) 0
    ∷ []

-- ---- padding

abbrev pub of_pads : List Wrong
of_pads =
    -- a refusal's place is told
    pad bad_at_one 0 no_number 0 [] small_table with_gb9c [] [] 0 0 3
    ∷ []

-- ---- writing format options

abbrev pub of_formats : List Wrong
of_formats =
    -- a buffer that is too short is 19, and not that no format string is read back
    write_format 0 5 no_number no_number 0 [] small_table with_gb9c [] [] 0 0 18
    -- a refusal's place is told
    ∷ write_format 0 5 no_number no_number 0 [] other_nul with_gb9c [] [] 0 0 2
    ∷ []
