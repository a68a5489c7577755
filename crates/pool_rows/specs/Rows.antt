-- Document 01, "Format options and pool": the rows of koto's constant pool, lent by the caller. The bytes of its strings stand end to end
-- in one row, and two numbers for each string in the other, where it starts and how long it is. Two counts say how much of each row is in
-- use. An index stands for a string, as in the Rust's `constants`.
-- Assumes nothing.
use Rattle.std.specs.Prelude.{ℕ, zero, suc, ◌+◌, ◌*◌, ◌/◌, ◌<◌, ◌≤◌, List, [], ◌∷◌, ◌++◌, Bool, true, false, eqb, ltb, length, get_or, take, drop}
use Rattle.base.specs.Pick.{pick}
use Rattle.pool_rows.specs.declared.Counts.{Counts}

-- ---- a pool's strings

-- where the string of entry k starts
abbrev pub start_of : List ℕ → ℕ → ℕ
start_of entries k = get_or entries (2 * k) 0

-- how long it is
abbrev pub length_of : List ℕ → ℕ → ℕ
length_of entries k = get_or entries (2 * k + 1) 0

-- the string of entry k
abbrev pub string_at : List ℕ → List ℕ → ℕ → List ℕ
string_at bytes entries k = take (length_of entries k) (drop (start_of entries k) bytes)

-- the strings of the n entries from k on
unfoldable pub strings_from : List ℕ → List ℕ → ℕ → ℕ → List (List ℕ)
strings_from bytes entries k zero = []
strings_from bytes entries k (suc n) = string_at bytes entries k ∷ strings_from bytes entries (suc k) n

-- the strings of a pool with n entries, in the order of their indices
abbrev pub strings_of : List ℕ → List ℕ → ℕ → List (List ℕ)
strings_of bytes entries n = strings_from bytes entries 0 n

-- whether two strings are equal
unfoldable pub same : List ℕ → List ℕ → Bool
same [] [] = true
same [] (b ∷ bs) = false
same (a ∷ rest) [] = false
same (a ∷ rest) (b ∷ bs) = pick (eqb a b) (same rest bs) false

-- the index of the first of some strings that equals this one, from 0; how many they are where none does
unfoldable pub index_of : List ℕ → List (List ℕ) → ℕ
index_of string [] = 0
index_of string (s ∷ ss) = pick (same s string) 0 (suc (index_of string ss))

-- some strings, with this one at their end where it was not among them: the Rust's `constants` after an addition
abbrev pub with_string : List ℕ → List (List ℕ) → List (List ℕ)
with_string string strings = pick (ltb (index_of string strings) (length strings)) strings (strings ++ (string ∷ []))

-- ---- room, and which pools are fit

-- the numbers of a pool have 32 bits, and no bound is asked of its rows: its room counts at most so many bytes, and entries, of them
abbrev pub room_most : ℕ
room_most = 4294967295

-- the room of a row for so many things
unfoldable pub room_of : ℕ → ℕ
room_of most = pick (ltb room_most most) room_most most

-- room for bytes
abbrev pub byte_room : List ℕ → ℕ
byte_room bytes = room_of (length bytes)

-- room for entries, of two numbers each
abbrev pub entry_room : List ℕ → ℕ
entry_room entries = room_of (length entries / 2)

-- the n entries from k on run end to end, from the byte `start` to the byte `end`
unfoldable pub runs_to : List ℕ → ℕ → ℕ → ℕ → ℕ → Bool
runs_to entries k zero start end = eqb start end
runs_to entries k (suc n) start end = pick (eqb (start_of entries k) start) (runs_to entries (suc k) n (start + length_of entries k) end) false

-- the strings of the first n entries lie within so many bytes
abbrev pub Within : List ℕ → ℕ → ℕ → Type 0
Within entries n long = (k : ℕ) → k < n → start_of entries k + length_of entries k ≤ long

-- no count exceeds its room, and the entries run end to end from byte 0 to the byte count
unfoldable pub fit_in : List ℕ → Counts → ℕ → ℕ → Bool
fit_in entries counts forEntries forBytes =
    pick (ltb forEntries counts.entries) false
    (pick (ltb forBytes counts.bytes) false
    (runs_to entries 0 counts.entries 0 counts.bytes))

-- a fit pool
abbrev pub fit_pool : List ℕ → List ℕ → Counts → Bool
fit_pool bytes entries counts = fit_in entries counts (entry_room entries) (byte_room bytes)
