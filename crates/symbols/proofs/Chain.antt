-- Tests one after the other are a search in a table.
--     here, past, nothing      the first test that holds is answered
-- Assumes nothing.
use mathlib.Core.Path.{◌≡◌, refl}
use mathlib.Core.Bool.{Bool, true, false}
use mathlib.Core.List.{List, [], ◌∷◌}
use Prim.Native.Nat.{ℕ}
use lib.ListN.{length}
use Rattle.std.specs.Prelude.{Option, Some, None}
use Rattle.words.specs.Words.{Entry, starts_with, first_in}
use Rattle.symbols.specs.Symbols.{symbol_in, symbol}
use Rattle.symbols.specs.declared.Symbol.{Symbol}

pub nothing : (l : List ℕ) → None ≡ symbol_in [] l
unfolding symbol_in first_in
nothing l = refl

-- t is what the test of the first entry answered
module _ (l : List ℕ) (e : Entry) (es : List Entry) {t : Bool} (told : t ≡ starts_with e.text l) where
  pub here : {n : ℕ} → t ≡ true → length e.text ≡ n → Some (symbol e.kind n) ≡ symbol_in (e ∷ es) l
  unfolding symbol_in first_in
  here h m = rw (← told, h, m)

  pub past : {r : Option Symbol} → t ≡ false → r ≡ symbol_in es l → r ≡ symbol_in (e ∷ es) l
  unfolding symbol_in first_in
  past h a = rw (← told, h) a
