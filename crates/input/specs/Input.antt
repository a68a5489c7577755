-- What a call over bytes and a table asks before it works (document 01, "Refusal numbers"; document 02, C-3 and C-8): refusals 1, 17, 2, and
-- 3 or 15 in this order, each with its place, and what an answer makes of them.
-- Assumes nothing.
use Rattle.std.specs.Prelude.{ℕ, ◌≤◌, ◌≡◌, Bool, true, List, ltb, length, Result, Ok, Err}
use Rattle.base.specs.Pick.{pick}
use Rattle.base.specs.Range.{inside}
use Rattle.base.specs.Refusal.{too_long, bad_edition, bad_table, bad_utf8, cut_utf8}
use Rattle.utf8.specs.Encode.{WellFormed}
use Rattle.utf8.specs.Chars.{check_from}
use Rattle.utf8.specs.declared.Utf8Error.{Utf8Error}
use Rattle.utf8.specs.declared.Utf8Error.TheVariants as utf8
use Rattle.fitness.specs.Fit.{table_check}
use Rattle.fitness.specs.declared.TableError.{TableError}
use Rattle.fitness.specs.declared.TableError.TheVariants as fitness
use Rattle.input.specs.declared.Refusal.{Refusal}
use Rattle.input.specs.declared.Refusal.TheVariants.{TooLong, BadEdition, BadTable, BadUtf8, CutUtf8}

-- ---- editions of the cluster rules

-- without GB9c, as before Unicode 15.1
abbrev pub without_gb9c : ℕ
without_gb9c = 1

-- with it: document 01's
abbrev pub with_gb9c : ℕ
with_gb9c = 2

-- no other number is one
abbrev pub is_edition : ℕ → Bool
is_edition edition = inside edition without_gb9c with_gb9c

-- ---- the checks

-- the refusal that a table's fault is
abbrev pub of_table : TableError → Refusal
of_table (fitness.BadTable i) = BadTable i

-- wrong bytes are 3, and bytes that the end cuts are 15
abbrev pub of_utf8 : Utf8Error → Refusal
of_utf8 (utf8.BadAt i) = BadUtf8 i
of_utf8 (utf8.CutAt i) = CutUtf8 i

-- r, where the table is fit
abbrev pub on_table : Result (Unit {0}) TableError → Result (Unit {0}) Refusal → Result (Unit {0}) Refusal
on_table (Ok _) r = r
on_table (Err e) r = Err (of_table e)

-- the answer of the check of the bytes
abbrev pub on_utf8 : Result (Unit {0}) Utf8Error → Result (Unit {0}) Refusal
on_utf8 (Ok _) = Ok tt
on_utf8 (Err e) = Err (of_utf8 e)

-- the answer for a call that takes at most so many bytes, these bytes, the numbers of this table, and this edition
unfoldable pub input_check : ℕ → List ℕ → List ℕ → ℕ → Result (Unit {0}) Refusal
input_check most bytes table edition =
    pick (ltb most (length bytes)) (Err TooLong)
    (pick (is_edition edition) (on_table (table_check table) (on_utf8 (check_from 0 bytes))) (Err BadEdition))

-- none of these refusals is given
pub record Readable (most : ℕ) (bytes table : List ℕ) (edition : ℕ) : Type 0 where
  pub short : length bytes ≤ most
  pub known : is_edition edition ≡ true
  pub fit : table_check table ≡ Ok tt
  pub well : WellFormed bytes

-- ---- what an answer makes of them

-- a refusal as f carries it, or r
abbrev pub on_input : {A : Type 0} → (Refusal → A) → Result (Unit {0}) Refusal → A → A
on_input f (Ok _) r = r
on_input f (Err x) r = f x

-- ---- the documents' numbers of a refusal

abbrev pub number_of : Refusal → ℕ
number_of TooLong = too_long
number_of BadEdition = bad_edition
number_of (BadTable i) = bad_table
number_of (BadUtf8 i) = bad_utf8
number_of (CutUtf8 i) = cut_utf8

-- its place
abbrev pub place_of : Refusal → ℕ
place_of TooLong = 0
place_of BadEdition = 0
place_of (BadTable i) = i
place_of (BadUtf8 i) = i
place_of (CutUtf8 i) = i
