-- Laws of `peeked`: what stands at a place i of the format string s.
--     peek_char, peek_none     what is peeked where a character is read, and where none is
--     none_left, peek_within   where no character is read, none is left; where one is peeked, the string goes on
--     AsciiHere, ascii_here    a peeked character below 128 is one byte
-- Assumes nothing.
use Rattle.std.specs.Prelude.{ℕ, ◌+◌, ◌<◌, ◌≡◌, refl, List, [], ◌∷◌, length, drop, Ok, Err}
use Rattle.std.proofs.Common.{arith, sym, ap, subst, ◌∙◌}
use Rattle.base.specs.PickLaws.{split_lt}
use Rattle.utf8.specs.EncodeLaws.{encode1}
use Rattle.utf8.specs.Read.{Read, decode_head, read_at}
use Rattle.utf8.specs.Chars.{chars_in, chars}
use Rattle.utf8.specs.CharsLaws.{Stops, at_char, chars_at, chars_end}
use Rattle.utf8.specs.declared.ReadError.TheVariants.{Bad, Cut}
use Rattle.format_options.specs.Letters.{no_char}
use Rattle.format_number.specs.Number.{peeked}

chars_stop : (l : List ℕ) → Stops (decode_head l) → chars l ≡ []
unfolding chars_in
chars_stop [] t = refl
chars_stop (b ∷ bs) t = go (decode_head (b ∷ bs)) refl t
  where
    go : (r : Read) → decode_head (b ∷ bs) ≡ r → Stops r → chars (b ∷ bs) ≡ []
    go (Ok (c, n)) p t = absurd t
    go (Err Bad) p t = rw p
    go (Err Cut) p t = rw p

-- what is peeked at i is the one byte there
pub record AsciiHere (s : List ℕ) (i d : ℕ) : Type 0 where
  pub inside : i < length s
  pub rest : chars (drop i s) ≡ d ∷ chars (drop (i + 1) s)

module _ (s : List ℕ) (i : ℕ) where
  pub peek_char : (c n : ℕ) → read_at s i ≡ Ok (c, n) → c ≡ peeked (chars (drop i s))
  unfolding peeked
  peek_char c n e = rw (chars_at s i c n e)

  pub none_left : Stops (read_at s i) → chars (drop i s) ≡ []
  none_left t = chars_stop (drop i s) t

  pub peek_none : Stops (read_at s i) → no_char ≡ peeked (chars (drop i s))
  unfolding peeked
  peek_none t = rw (none_left t)

  pub peek_within : peeked (chars (drop i s)) < no_char → i < length s
  unfolding peeked
  peek_within h =
      split_lt i (length s) (λ l. l)
      (λ l. let e : peeked (chars (drop i s)) ≡ no_char = rw (chars_end s i l) in absurd (omega arith))

  pub ascii_here : (d : ℕ) → peeked (chars (drop i s)) ≡ d → d < 128 → AsciiHere s i d
  ascii_here d e h = go (read_at s i) refl
    where
      never : Stops (read_at s i) → AsciiHere s i d
      never t = absurd (omega (arith, peek_none t))

      go : (r : Read) → read_at s i ≡ r → AsciiHere s i d
      go (Ok (c, n)) p =
          let a = at_char s i c n p in
          let q : c ≡ d = peek_char c n p ∙ e in
          let k : c < 128 = omega arith in
          let w : n ≡ 1 = sym a.width ∙ ap length (encode1 c k) in
          record {
            inside = omega (arith, a.fits);
            rest = a.step ∙ ap {B = List ℕ} (λ (m : ℕ). c ∷ chars (drop (i + m) s)) w ∙ ap {B = List ℕ} (λ x. x ∷ chars (drop (i + 1) s)) q;
          }
      go (Err Bad) p = never (subst Stops (sym p) tt)
      go (Err Cut) p = never (subst Stops (sym p) tt)
