-- The character above 127 that stands at a place of well-formed bytes, by the range of its lead byte.
--     two, three, four     which it is, of so many bytes
--     room                 its bytes are there
-- Assumes nothing.
use Rattle.std.specs.Prelude.{Ok, Err}
use Prim.Native.Nat.{ℕ, ◌+◌, ◌≤◌, ◌<◌}
use native.Mathlib.Omega.{arith}
use native.Mathlib.Nat.{add-zero}
use mathlib.Core.Path.{◌≡◌, refl, ap, ◌∙◌}
use mathlib.Core.List.{List}
use lib.ListN.{length, get_or, drop}
use lib.Seq.{get_or-drop}
use borrow.Author.Tests.{lt-ltb, le-ltb}
use Rattle.base.specs.PickLaws.{split_lt}
use Rattle.utf8.specs.Encode.{WellFormed}
use Rattle.utf8.specs.Read.{Read, seq_len, head_of, decode_head, read_at}
use Rattle.utf8.specs.GrammarLaws.{lead, seq2, seq3}
use Rattle.utf8.specs.ReadLaws.{sound}
use Rattle.utf8.specs.Lengths.{char_of}
use Rattle.utf8.specs.CharsLaws.{at_char}
use Rattle.utf8.specs.declared.ReadError.TheVariants.{Bad}
use Rattle.text.specs.FollowLaws.{here}
use Rattle.text.proofs.Found.{short, long}

-- no character has these lead bytes
none_low : (a : ℕ) → 0x80 ≤ a → a < 0xc2 → seq_len a ≡ 0
unfolding seq_len
none_low a h k = rw (le-ltb a 0x80 h, lt-ltb a 0xc2 k)

-- where one stands, its lead byte opens one
opened : (l : List ℕ) (c n : ℕ) → decode_head l ≡ Ok (c, n) → seq_len (get_or l 0 0) ≡ 0 → ⊥
unfolding decode_head head_of
opened l c n e z =
    let o = sound l c n e in
    let f : ◌≡◌ {A = Read} (Err Bad) (Ok (c, n)) = rw (le-ltb (length l) 1 (omega (arith, o.some, o.fits)), z) at e in
    let y : ◌≡◌ {A = ℕ} 0 1 = cc in
    omega arith

pub room : (s : List ℕ) (i : ℕ) {c n : ℕ} → read_at s i ≡ Ok (c, n) → i + n ≤ length s
room s i {c} {n} e = (at_char s i c n e).fits

module _ (s : List ℕ) (i : ℕ) (w : WellFormed (drop i s)) (h : i < length s) (k : 128 ≤ get_or s i 0) where
  lead_opens : seq_len (get_or s i 0) ≡ 0 → ⊥
  lead_opens z =
      let c = here s i w h in
      let first : get_or (drop i s) 0 0 ≡ get_or s i 0 = get_or-drop i s 0 0 ∙ ap (λ (j : ℕ). get_or s j 0) (add-zero i) in
      opened (drop i s) c.code c.len c.read (ap seq_len first ∙ z)

  pub two : get_or s i 0 < 0xe0 → read_at s i ≡ char_of 2 s i
  two l =
      short s i w h (seq_len (get_or s i 0)) refl 2
      (split_lt (get_or s i 0) 0xc2 (λ m. absurd (lead_opens (none_low (get_or s i 0) k m))) (λ m. seq2 (get_or s i 0) m l))

  pub three : 0xe0 ≤ get_or s i 0 → get_or s i 0 < 0xf0 → read_at s i ≡ char_of 3 s i
  three l m = short s i w h (seq_len (get_or s i 0)) refl 3 (seq3 (get_or s i 0) l m)

  pub four : 0xf0 ≤ get_or s i 0 → read_at s i ≡ char_of 4 s i
  four l =
      let o = lead (get_or s i 0) in
      long s i w h (seq_len (get_or s i 0)) refl
      (λ e. omega (arith, o.one e)) (λ e. omega (arith, o.two e)) (λ e. omega (arith, o.three e))
