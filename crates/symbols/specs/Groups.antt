-- How the code finds its way in the table: symbols by their first byte. Nothing outside this crate needs it: what a symbol is, `Symbols`
-- says, and the code answers that (proofs/Narrow.antt).
-- Assumes nothing.
use Rattle.std.specs.Prelude.{List, ℕ, eqb, get_or}
use Rattle.words.specs.Words.{Entry, only}
use Rattle.symbols.specs.Symbols.{symbols}

-- an entry by its bytes
abbrev pub word : List ℕ → ℕ → Entry
word text kind = record { text = text; kind = kind }

-- the symbols that begin with the byte b
abbrev pub symbols_of : ℕ → List Entry
symbols_of b = only (λ e. eqb b (get_or e.text 0 0)) symbols
