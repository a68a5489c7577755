-- How the code finds its way in the table: each keyword has a place of its own, by its length and first letters. Nothing outside this crate
-- needs it: what a keyword is, `Keywords` says, and the code answers that (proofs/Narrow.antt).
-- Assumes nothing.
use Rattle.std.specs.Prelude.{List, [], ◌∷◌, ◌++◌, ℕ, ◌+◌, ◌*◌, ◌/◌, ◌%◌, eqb, length, get_or, drop}
use Rattle.token.specs.Kind.{id}
use Rattle.words.specs.Words.{bytes, Entry, only}
use Rattle.keywords.specs.Keywords.{keywords}

-- the place of a name of n bytes that begins with these two
unfoldable pub place_by : ℕ → ℕ → ℕ → ℕ
place_by n first second = (5 * first + 2 * (second / 2) + n) % 64

abbrev pub place_of : List ℕ → ℕ
place_of l = place_by (length l) (get_or l 0 0) (get_or l 1 0)

-- the keywords that have the place p
unfoldable pub keywords_at : ℕ → List Entry
keywords_at p = only (λ e. eqb p (place_of e.text)) keywords

-- bytes filled up to eight with dots
abbrev pub filled : List ℕ → List ℕ
filled text = text ++ drop (length text) (bytes "........")

-- what stands at the place p: the bytes and the kind of the keyword that has it; only dots, and Id, where none has
abbrev pub first_text : List Entry → List ℕ
first_text [] = filled []
first_text (e ∷ es) = filled e.text

abbrev pub first_kind : List Entry → ℕ
first_kind [] = id
first_kind (e ∷ es) = e.kind

unfoldable pub text_at : ℕ → List ℕ
text_at p = first_text (keywords_at p)

unfoldable pub kind_at : ℕ → ℕ
kind_at p = first_kind (keywords_at p)
