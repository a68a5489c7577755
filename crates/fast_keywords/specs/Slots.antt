-- How the code finds its way in the table of keywords: each has a place of its own, by its length, first and last byte, and a number that has its
-- bytes. Nothing outside this crate needs it: what a keyword is, `Keywords` says, and the code answers that (SlotsLaws).
-- Assumes nothing.
use Rattle.std.specs.Prelude.{List, [], ◌∷◌, ℕ, ◌+◌, ◌*◌, ◌-◌, ◌%◌, eqb, length, get_or}
use Rattle.token.specs.Kind.{id}
use Rattle.words.specs.Words.{Entry, only}
use Rattle.keywords.specs.Keywords.{keywords}
use Rattle.fast_keywords.specs.declared.Slot.{Slot}

-- the number whose bytes these are, the lowest first
unfoldable pub number : List ℕ → ℕ
number [] = 0
number (b ∷ l) = b + 256 * number l

-- the place of a name of n bytes with this first and this last byte
unfoldable pub place_by : ℕ → ℕ → ℕ → ℕ
place_by n first last = (first + 4 * (5 * last + n)) % 64

abbrev pub place_of : List ℕ → ℕ
place_of l = place_by (length l) (get_or l 0 0) (get_or l (length l - 1) 0)

-- the keywords that have the place p
unfoldable pub keywords_at : ℕ → List Entry
keywords_at p = only (λ e. eqb p (place_of e.text)) keywords

-- what stands for the first of some keywords
abbrev pub first_slot : List Entry → Slot
first_slot [] = record { number = 0; len = 0; kind = id }
first_slot (e ∷ es) = record { number = number e.text; len = length e.text; kind = e.kind }

-- what stands at the place p
unfoldable pub slot_at : ℕ → Slot
slot_at p = first_slot (keywords_at p)
