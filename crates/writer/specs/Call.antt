-- The public call `write_format` (document 02, C-10): its answer, refusals too, and the buffer that it leaves. Refusals 17, 2, 18 and 19 in this
-- order; none writes anything. That `can_write` is whether some format string is read back, and `candidate` the shortest and first of those, are
-- the laws `first` and `no_such` of `wanted`.
-- Assumes nothing.
use Rattle.std.specs.Prelude.{ℕ, ◌≡◌, List, [], Bool, ltb, length, Result, Ok, Err}
use Rattle.base.specs.Pick.{pick}
use Rattle.base.specs.Refusal.{none, no_such_format, no_room}
use Rattle.property.specs.Table.{properties_at}
use Rattle.input.specs.Input as input
use Rattle.input.specs.Input.{input_check, on_input}
use Rattle.input.specs.declared.Refusal.{Refusal}
use Rattle.pool.specs.Pool.{written}
use Rattle.wanted.specs.Wanted.{Filled, Bytes, Unfilled, Asked}
use Rattle.wanted.specs.Candidate.{wanted_for, candidate, can_write}
use Rattle.writer.specs.declared.WriteError.{WriteError}
use Rattle.writer.specs.declared.WriteError.TheVariants.{Refused, NoSuchFormat, NoRoom}

-- ---- a format string, written or not

-- the answer where so many bytes are there and so many are needed
abbrev pub in_room : ℕ → ℕ → Result ℕ WriteError
in_room room needed = pick (ltb room needed) (Err NoRoom) (Ok needed)

-- the answer for the string s, where it is one that can be written
abbrev pub answer_if : Bool → ℕ → List ℕ → Result ℕ WriteError
answer_if can room s = pick can (in_room room (length s)) (Err NoSuchFormat)

-- the buffer after an answer: the string from its start on and all behind it as it was, or, after a refusal, as it was
abbrev pub buffer_after : Result ℕ WriteError → List ℕ → List ℕ → List ℕ
buffer_after (Ok n) s buffer = written buffer 0 s
buffer_after (Err e) s buffer = buffer

-- the string s is written, if it can be, into the buffer `old`, of which it makes the buffer `new`
pub record WritesIf (can : Bool) (s old new : List ℕ) (r : Result ℕ WriteError) : Type 0 where
  pub answer : r ≡ answer_if can (length old) s
  pub contents : new ≡ buffer_after (answer_if can (length old) s) s old

-- ---- the call

-- a fill, if it is given
abbrev pub filled_by : Bool → List ℕ → Filled
filled_by given fill = pick given (Bytes fill) Unfilled

module _ (alignment width precision representation : ℕ) (given : Bool) (fill table : List ℕ) (edition : ℕ) where
  -- what is asked for
  abbrev pub asked_by : Asked
  asked_by =
      record { alignment = alignment; width = width; precision = precision; representation = representation; fill = filled_by given fill }

  -- its format string, if there is one
  abbrev pub format_for : List ℕ
  format_for = candidate (wanted_for asked_by)

  -- the answer for a buffer of so many bytes: what every call asks first, with no bytes, and then 18 and 19
  abbrev pub write_answer : ℕ → Result ℕ WriteError
  write_answer room =
      on_input (λ (x : Refusal). Err (Refused x)) (input_check 0 [] table edition) (answer_if (can_write (properties_at table) edition asked_by) room format_for)

  -- what `write_format` ensures, of the buffer `new` that it leaves of the buffer `old`
  pub record Writes (old new : List ℕ) (r : Result ℕ WriteError) : Type 0 where
    pub answer : r ≡ write_answer (length old)
    pub contents : new ≡ buffer_after (write_answer (length old)) format_for old

-- ---- the documents' numbers of an answer

abbrev pub number_of : Result ℕ WriteError → ℕ
number_of (Ok n) = none
number_of (Err (Refused x)) = input.number_of x
number_of (Err NoSuchFormat) = no_such_format
number_of (Err NoRoom) = no_room

-- the refusal's place; 0 where there is none
abbrev pub place_of : Result ℕ WriteError → ℕ
place_of (Ok n) = 0
place_of (Err (Refused x)) = input.place_of x
place_of (Err NoSuchFormat) = 0
place_of (Err NoRoom) = 0

-- how many bytes the format string has; 0 on a refusal
abbrev pub len_of : Result ℕ WriteError → ℕ
len_of (Ok n) = n
len_of (Err e) = 0
