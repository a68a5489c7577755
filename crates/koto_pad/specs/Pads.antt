-- What `koto_pad` returns and writes, from the inner call's answer.
-- Assumes nothing.
use Rattle.std.specs.Prelude.{ℕ, ◌≡◌, List, Bool, not, eqb, length, Result}
use Rattle.pad.specs.Call.{buffer_after, padded_text, pad_answer, number_of, place_of, len_of}
use Rattle.pad.specs.declared.PadError.{PadError}

-- a fill is given
abbrev pub is_given : ℕ → Bool
is_given filled = not (eqb filled 0)

module _ (text : List ℕ) (alignment width filled : ℕ) (fill table : List ℕ) (edition : ℕ) where
  -- the inner call's answer for a buffer of so many bytes
  abbrev pub answer_in : ℕ → Result ℕ PadError
  answer_in room = pad_answer text alignment width (is_given filled) fill table edition room

  -- what `koto_pad` ensures, of the buffer `new` that it leaves of the buffer `old`
  pub record PadIs (old new : List ℕ) (len place r : ℕ) : Type 0 where
    pub number : r ≡ number_of (answer_in (length old))
    pub len_is : len ≡ len_of (answer_in (length old))
    pub place_is : place ≡ place_of (answer_in (length old))
    pub contents : new ≡ buffer_after (answer_in (length old)) (padded_text text alignment width (is_given filled) fill table edition) old
