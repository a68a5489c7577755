-- The character that `char_at` and `run_utf8` come to, on plain values.
--     ascii_is, read_is          an ASCII byte, with the properties that the code gives it; a character that is read, and looked up
--     short, long                what stands where the lead byte says up to three bytes, or four
-- Assumes nothing.
use Rattle.std.specs.Prelude.{Ok}
use Prim.Native.Nat.{ℕ, ◌<◌}
use mathlib.Core.Path.{◌≡◌, sym, ap, subst, ◌∙◌}
use mathlib.Core.List.{List}
use lib.ListN.{length, get_or, drop}
use borrow.Author.Tests.{ne_eqb}
use Rattle.utf8.specs.Encode.{WellFormed}
use Rattle.utf8.specs.Read.{seq_len, read_at}
use Rattle.utf8.specs.Lengths.{char_of}
use Rattle.utf8.specs.LengthsLaws.{char_read}
use Rattle.utf8.specs.CharsLaws.{at_char, rest_at, ascii_at}
use Rattle.property.specs.Table.{properties_at}
use Rattle.fitness.specs.Fit.{FitTable}
use Rattle.text.specs.Ascii.{ascii_properties}
use Rattle.text.specs.Chars.{CharIs}
use Rattle.text.specs.CountLaws.{ascii_properties_lem}
use Rattle.text.specs.FollowLaws.{here}

module _ (s : List ℕ) (i : ℕ) (w : WellFormed (drop i s)) where
  pub read_is : (table : List ℕ) (c n p : ℕ) → read_at s i ≡ Ok (c, n) → p ≡ properties_at table c
      → CharIs s table i (record { code = c; len = n; properties = p })
  read_is table c n p e f = record { at = at_char s i c n e; properties = f; well = rest_at s i c n w e }

  module _ (h : i < length s) where
    pub ascii_is : (table : List ℕ) → FitTable table → get_or s i 0 < 0x80 → (p : ℕ) → p ≡ ascii_properties (get_or s i 0)
        → CharIs s table i (record { code = get_or s i 0; len = 1; properties = p })
    ascii_is table fit k p e = read_is table _ _ p (ascii_at s i h k) (e ∙ ascii_properties_lem table fit _ k)

    -- by the length n that the lead byte says
    module _ (n : ℕ) (e : n ≡ seq_len (get_or s i 0)) where
      stands : read_at s i ≡ char_of n s i
      stands = let c = here s i w h in char_read s i c.code c.len c.read ∙ ap (λ (k : ℕ). char_of k s i) (sym e)

      pub short : (m : ℕ) → n ≡ m → read_at s i ≡ char_of m s i
      short m f = subst (λ (k : ℕ). read_at s i ≡ char_of k s i) f stands

      pub long : (n ≡ 1 → ⊥) → (n ≡ 2 → ⊥) → (n ≡ 3 → ⊥) → read_at s i ≡ char_of 4 s i
      long f g k = rw (ne_eqb n 1 f, ne_eqb n 2 g, ne_eqb n 3 k) at stands
