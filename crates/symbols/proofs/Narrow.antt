-- A search in the table needs to look only at the entries that can pass.
--     by_symbol, by_none, past_end     those that begin with the first byte; no entry does; there is no byte
-- Assumes nothing.
use mathlib.Core.Path.{◌≡◌, refl, ap, ◌∙◌}
use mathlib.Core.Bool.{true, false, ◌&&◌, false≢true, and-eq-true_iff}
use mathlib.Core.List.{List, [], ◌∷◌}
use Prim.Native.Nat.{ℕ, ◌≤◌, ◌<◌}
use native.Mathlib.Nat.{add-zero}
use native.Mathlib.Omega.{arith}
use lib.Dec.{eqb, ltb}
use lib.ListN.{length, get_or, drop, length-drop, drop_of_length-le}
use lib.Seq.{get_or-drop}
use Rattle.std.specs.Prelude.{Option, None}
use Rattle.words.specs.Words.{bytes, starts_with, first_in}
use Rattle.words.specs.WordsLaws.{narrowed, Outside, among, outside_other}
use Rattle.symbols.specs.Symbols.{found, symbols, symbol_in, symbol_of}
use Rattle.symbols.specs.declared.Symbol.{Symbol}
use Rattle.symbols.specs.Groups.{symbols_of}

-- a symbol that does not begin with the source's first byte is not there
not_first : (text l : List ℕ) → ltb 0 (length text) ≡ true → 0 < length l → eqb (get_or l 0 0) (get_or text 0 0) ≡ false → starts_with text l ≡ false
unfolding starts_with
not_first [] l p h k = absurd (false≢true p)
not_first (c ∷ text) [] p h k = refl
not_first (c ∷ text) (b ∷ l) p h k = rw k

-- the bytes that a symbol begins with, the greatest first, as the code's `match` leaves them behind
abbrev pub first_bytes : List ℕ
first_bytes = bytes "}|{^][@?>=<;:/.-,+*)(%!"

module _ (s : List ℕ) (at : ℕ) (h : at < length s) where
  first_byte : get_or (drop at s) 0 0 ≡ get_or s at 0
  first_byte = get_or-drop at s 0 0 ∙ ap (λ (n : ℕ). get_or s n 0) (add-zero at)

  inside : 0 < length (drop at s)
  inside = simp length-drop (omega arith)

  -- b is the byte at the place
  pub by_symbol : (b : ℕ) {r : Option Symbol} → get_or s at 0 ≡ b → r ≡ symbol_in (symbols_of b) (drop at s) → r ≡ symbol_of (drop at s)
  unfolding symbol_in symbol_of
  by_symbol b is a =
      a
      ∙ narrowed found None (λ e. ltb 0 (length e.text)) (λ e. eqb b (get_or e.text 0 0)) (λ e. starts_with e.text (drop at s))
      (λ e. starts_with e.text (drop at s))
      (λ e _ _. refl)
      (λ e p k. not_first e.text (drop at s) p inside (rw (first_byte, is) k))
      symbols
      refl

  -- the byte at the place begins no symbol
  pub by_none : Outside (get_or s at 0) first_bytes → None ≡ symbol_of (drop at s)
  unfolding symbol_in symbol_of first_in
  by_none o =
      narrowed found None (λ e. ltb 0 (length e.text) && among (get_or e.text 0 0) first_bytes) (λ e. false) (λ e. starts_with e.text (drop at s))
      (λ e. starts_with e.text (drop at s))
      (λ e _ _. refl)
      (λ e p _.
      let both = (and-eq-true_iff (ltb 0 (length e.text)) (among (get_or e.text 0 0) first_bytes)).0 p in
      not_first e.text (drop at s) both.0 inside (rw first_byte (outside_other (get_or s at 0) (get_or e.text 0 0) first_bytes o both.1)))
      symbols
      refl

pub past_end : (s : List ℕ) (at : ℕ) → length s ≤ at → None ≡ symbol_of (drop at s)
unfolding symbol_of symbol_in first_in starts_with
past_end s at h = rw (drop_of_length-le s h)
