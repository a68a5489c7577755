-- The public call `pad` (document 02, C-11): its answer, refusals too, and the buffer that it leaves.
-- Assumes nothing.
use Rattle.std.specs.Prelude.{ℕ, ◌≡◌, List, Bool, ltb, length, Result, Ok, Err}
use Rattle.base.specs.Pick.{pick}
use Rattle.base.specs.Refusal.{none, no_such_format, no_room}
use Rattle.utf8.specs.Chars.{chars}
use Rattle.property.specs.Table.{properties_at}
use Rattle.pool.specs.Pool.{written}
use Rattle.cluster_count.specs.Count.{cluster_count}
use Rattle.fills.specs.Pad.{space, padded}
use Rattle.input.specs.Input as input
use Rattle.pad_input.specs.Check.{pad_check}
use Rattle.pad_input.specs.declared.PadRefusal.{PadRefusal}
use Rattle.pad_input.specs.declared.PadRefusal.TheVariants as check
use Rattle.pad.specs.declared.PadError.{PadError}
use Rattle.pad.specs.declared.PadError.TheVariants.{Refused, FillRefused, NoSuchFormat, NoRoom}

-- ---- the padded text, of which no check refuses

-- only the text's own clusters are counted
abbrev pub padded_by : (ℕ → ℕ) → ℕ → List ℕ → ℕ → ℕ → List ℕ → List ℕ
padded_by look edition text alignment width fill = padded alignment width fill text (cluster_count look edition (chars text))

-- the answer where so many bytes are there and so many are needed
abbrev pub in_room : ℕ → ℕ → Result ℕ PadError
in_room room needed = pick (ltb room needed) (Err NoRoom) (Ok needed)

-- the buffer after an answer: the padded text from its start on and all behind it as it was, or, after a refusal, as it was
abbrev pub buffer_after : Result ℕ PadError → List ℕ → List ℕ → List ℕ
buffer_after (Ok n) text buffer = written buffer 0 text
buffer_after (Err e) text buffer = buffer

-- what `pad_text` ensures, of the buffer `new` that it leaves of the buffer `old`
pub record PadsText (look : ℕ → ℕ) (edition : ℕ) (text : List ℕ) (alignment width : ℕ) (fill old new : List ℕ) (r : Result ℕ PadError) : Type 0 where
  pub answer : r ≡ in_room (length old) (length (padded_by look edition text alignment width fill))
  pub contents : new ≡ buffer_after r (padded_by look edition text alignment width fill) old

-- ---- the call

-- the fill that is given, or one space
abbrev pub fill_of : Bool → List ℕ → List ℕ
fill_of given fill = pick given fill space

-- a refusal of the checks, as one of `pad`
abbrev pub error_of : PadRefusal → PadError
error_of (check.Refused x) = Refused x
error_of (check.FillRefused x) = FillRefused x
error_of check.NoSuchFormat = NoSuchFormat

-- r, where no check refuses
abbrev pub on_check : Result (Unit {0}) PadRefusal → Result ℕ PadError → Result ℕ PadError
on_check (Ok u) r = r
on_check (Err e) r = Err (error_of e)

module _ (text : List ℕ) (alignment width : ℕ) (given : Bool) (fill table : List ℕ) (edition : ℕ) where
  abbrev pub padded_text : List ℕ
  padded_text = padded_by (properties_at table) edition text alignment width (fill_of given fill)

  -- the answer for a buffer of so many bytes
  abbrev pub pad_answer : ℕ → Result ℕ PadError
  pad_answer room = on_check (pad_check text alignment width given fill table edition) (in_room room (length padded_text))

  -- what `pad` ensures, of the buffer `new` that it leaves of the buffer `old`
  pub record Pads (old new : List ℕ) (r : Result ℕ PadError) : Type 0 where
    pub answer : r ≡ pad_answer (length old)
    pub contents : new ≡ buffer_after (pad_answer (length old)) padded_text old

-- ---- the documents' numbers of an answer

abbrev pub number_of : Result ℕ PadError → ℕ
number_of (Ok n) = none
number_of (Err (Refused x)) = input.number_of x
number_of (Err (FillRefused x)) = input.number_of x
number_of (Err NoSuchFormat) = no_such_format
number_of (Err NoRoom) = no_room

-- the refusal's place; 0 where there is none
abbrev pub place_of : Result ℕ PadError → ℕ
place_of (Ok n) = 0
place_of (Err (Refused x)) = input.place_of x
place_of (Err (FillRefused x)) = input.place_of x
place_of (Err NoSuchFormat) = 0
place_of (Err NoRoom) = 0

-- how many bytes the padded text has; 0 on a refusal
abbrev pub len_of : Result ℕ PadError → ℕ
len_of (Ok n) = n
len_of (Err e) = 0
