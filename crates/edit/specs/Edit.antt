-- Document 02, C-7: an edit is three numbers: its place, how many bytes are removed there, and how many are put in. Here is said when it
-- fits two sources, and where the line starts in which it stands ("a line starts after each "\n" byte").
-- Assumes nothing.
use Rattle.std.specs.Prelude.{ℕ, zero, suc, ◌+◌, ◌-◌, ◌≤◌, ◌≡◌, Bool, true, false, ◌&&◌, List, eqb, leb, length, get_or, take, drop}
use Rattle.base.specs.Pick.{pick}
use Rattle.text.specs.Tests.{lf}
use Rattle.edit.specs.declared.Edit.{Edit}

-- ---- the edit

-- t is s with the edit made: the bytes that it removes are gone, so many as it puts in stand there, and all others are as they were
pub record Edits (s : List ℕ) (e : Edit) (t : List ℕ) : Type 0 where
  pub inside : e.place + e.removed ≤ length s
  pub long : length t + e.removed ≡ length s + e.put_in
  pub before : take e.place s ≡ take e.place t
  pub behind : drop (e.place + e.removed) s ≡ drop (e.place + e.put_in) t

-- the same as a test (`EditLaws` has that it says exactly this): of the lengths
abbrev pub lengths_fit : ℕ → Edit → ℕ → Bool
lengths_fit old e new = leb (e.place + e.removed) old && eqb (new + e.removed) (old + e.put_in)

-- n bytes of s from i on are those of t from j on
abbrev pub same_run : List ℕ → ℕ → List ℕ → ℕ → ℕ → Bool
same_run s i t j zero = true
same_run s i t j (suc n) = pick (eqb (get_or s (i + n) 0) (get_or t (j + n) 0)) (same_run s i t j n) false

-- and of the bytes before the edit and behind it
unfoldable pub edit_fits : List ℕ → Edit → List ℕ → Bool
edit_fits s e t =
    lengths_fit (length s) e (length t)
    && (same_run s 0 t 0 e.place
    && same_run s (e.place + e.removed) t (e.place + e.put_in) (length s - (e.place + e.removed)))

-- ---- the line

-- where the line of the byte p starts: behind the last "\n" before p, or at 0 if there is none
abbrev pub start_of_line : List ℕ → ℕ → ℕ
start_of_line s zero = 0
start_of_line s (suc n) = pick (eqb (get_or s n 0) lf) (suc n) (start_of_line s n)
