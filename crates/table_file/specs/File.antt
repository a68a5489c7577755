-- Document 01, "The property table": the table file; "Refusal numbers": its refusals 14, 4 and 2, in that order, with their places.
-- What the paper leaves open of the place of 14 is decided so: it is the smallest offset at which a byte is wrong, and a byte after the
-- last number is wrong; where no byte is wrong and some lack, it is the file's length. A count of 0 or over 8,000 in a file that is as long
-- as it says is refusal 2 with place 0, after 4.
-- Assumes nothing.
use Rattle.std.specs.Prelude.{ℕ, zero, suc, ◌+◌, ◌*◌, ◌/◌, ◌%◌, ◌≡◌, List, [], ◌∷◌, ◌++◌, Bool, ◌&&◌, ltb, eqb, length, get_or, drop, Result, Ok, Err}
use Prim.Native.Char.{code}
use Prim.Native.String.{String}
use Prim.Native.String as Text
use Rattle.base.specs.Pick.{pick}
use Rattle.base.specs.Refusal as refusal
use Rattle.fitness.specs.First.{first_bad}
use Rattle.fitness.specs.Fit.{table_check}
use Rattle.fitness.specs.declared.TableError.{TableError}
use Rattle.fitness.specs.declared.TableError.TheVariants as table
use Rattle.table_file.specs.declared.TableFileError.{TableFileError}
use Rattle.table_file.specs.declared.TableFileError.TheVariants.{BadFile, ListFull, BadTable}

-- ---- the file of a table

-- the bytes of an ASCII text
abbrev bytes : String → List ℕ
bytes Text.[] = []
bytes (Text.◌∷◌ c t) = code c ∷ bytes t

-- "KPT", a 16-bit version (1), a zero byte
unfoldable pub mark : List ℕ
mark = bytes "KPT" ++ 1 ∷ 0 ∷ 0 ∷ []

-- a number of 16 bits; little-endian
abbrev pub bytes16 : ℕ → List ℕ
bytes16 n = n % 256 ∷ n / 256 ∷ []

-- a number of 32 bits; little-endian
abbrev pub bytes32 : ℕ → List ℕ
bytes32 n = bytes16 (n % 65536) ++ bytes16 (n / 65536)

-- the bytes of numbers, one after the other
unfoldable pub number_bytes : List ℕ → List ℕ
number_bytes [] = []
number_bytes (n ∷ ns) = bytes32 n ++ number_bytes ns

-- the mark, a 16-bit count, then the numbers; nothing after
unfoldable pub file_of : List ℕ → List ℕ
file_of table = mark ++ (bytes16 (length table) ++ number_bytes table)

-- ---- its parts, as they are read. They are those of `file_of`, and of no other file (`read_of_file`, `file_of_read`, `FileLaws`)

-- the byte i of the mark is there, and right
unfoldable pub mark_ok : List ℕ → ℕ → Bool
mark_ok file i = ltb i (length file) && eqb (get_or file i 0) (get_or mark i 0)

-- the number of 16 bits at a byte
abbrev pub number16 : List ℕ → ℕ → ℕ
number16 file at = get_or file at 0 + 256 * get_or file (at + 1) 0

-- the number of 32 bits at a byte
abbrev pub number32 : List ℕ → ℕ → ℕ
number32 file at = number16 file at + 65536 * number16 file (at + 2)

-- the count
abbrev pub count_of : List ℕ → ℕ
count_of file = number16 file 6

-- so many numbers from the start of some bytes
unfoldable pub numbers_in : ℕ → List ℕ → List ℕ
numbers_in zero bytes = []
numbers_in (suc n) bytes = number32 bytes 0 ∷ numbers_in n (drop 4 bytes)

-- the numbers
abbrev pub numbers_of : List ℕ → List ℕ
numbers_of file = numbers_in (count_of file) (drop 8 file)

-- where the file must end
abbrev pub end_of : List ℕ → ℕ
end_of file = 8 + 4 * count_of file

-- ---- reading it into a row

-- the refusal that a table's fault is
abbrev pub of_table : TableError → TableFileError
of_table (table.BadTable place) = BadTable place

-- the check of the numbers, and the answer where they are a fit table
abbrev pub on_fit : Result (Unit {0}) TableError → Result ℕ TableFileError → Result ℕ TableFileError
on_fit (Ok _) answer = answer
on_fit (Err e) answer = Err (of_table e)

-- refusal 14 in the mark, and where bytes lack for the count, for the numbers, or are left over; refusal 4; refusal 2
unfoldable pub read_table : List ℕ → ℕ → Result ℕ TableFileError
read_table file room =
    let bad = first_bad (mark_ok file) 0 6 in
    pick (ltb bad 6) (Err (BadFile bad))
    (pick (ltb (length file) 8) (Err (BadFile (length file)))
    (pick (ltb (length file) (end_of file)) (Err (BadFile (length file)))
    (pick (ltb (end_of file) (length file)) (Err (BadFile (end_of file)))
    (pick (ltb room (count_of file)) (Err ListFull)
    (on_fit (table_check (numbers_of file)) (Ok (count_of file)))))))

-- the row after an answer: its start is filled, the rest stays; a refusal writes nothing
abbrev pub row_after : Result ℕ TableFileError → List ℕ → List ℕ → List ℕ
row_after (Ok count) file row = numbers_of file ++ drop count row
row_after (Err (BadFile place)) file row = row
row_after (Err ListFull) file row = row
row_after (Err (BadTable place)) file row = row

-- what `read_table` ensures: its answer r, and the row `new` that it leaves of the row `old`
pub record ReadTableIs (file old new : List ℕ) (r : Result ℕ TableFileError) : Type 0 where
  pub answer : r ≡ read_table file (length old)
  pub row : new ≡ row_after (read_table file (length old)) file old

-- the answer's number
abbrev pub number_of : Result ℕ TableFileError → ℕ
number_of (Ok count) = refusal.none
number_of (Err (BadFile place)) = refusal.bad_file
number_of (Err ListFull) = refusal.list_full
number_of (Err (BadTable place)) = refusal.bad_table

-- its place: that of 4 is 0 for a file; 0 where there is none
abbrev pub place_of : Result ℕ TableFileError → ℕ
place_of (Ok count) = 0
place_of (Err (BadFile place)) = place
place_of (Err ListFull) = 0
place_of (Err (BadTable place)) = place

-- how many numbers were read; 0 on a refusal
abbrev pub read_count : Result ℕ TableFileError → ℕ
read_count (Ok count) = count
read_count (Err (BadFile place)) = 0
read_count (Err ListFull) = 0
read_count (Err (BadTable place)) = 0
