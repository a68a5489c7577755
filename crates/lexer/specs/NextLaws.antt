-- The next character, at a place of the bytes where one stands.
--     next_char_lem       it is the character that was read
--     next_ascii      an ASCII byte is it; next_test: a test of it for an ASCII character is a test of the byte
-- Assumes nothing.
use Rattle.std.specs.Prelude.{ℕ, ◌<◌, ◌≡◌, List, eqb, length, get_or, drop}
use Rattle.std.proofs.Common.{ap, ◌∙◌}
use Rattle.utf8.specs.Encode.{WellFormed}
use Rattle.utf8.specs.Chars.{chars, At}
use Rattle.text.specs.Bytes.{byte_at}
use Rattle.text.specs.FollowLaws.{here, head_is, ascii_head}
use Rattle.lexer.specs.GetNextToken.{next_char}

module _ (s : List ℕ) (i : ℕ) where
  pub next_char_lem : (c n : ℕ) → At s i c n → next_char (chars (drop i s)) ≡ c
  next_char_lem c n a = rw a.step

  pub next_ascii : (d : ℕ) → byte_at s i ≡ d → d < 128 → next_char (chars (drop i s)) ≡ d
  next_ascii d e h = next_char_lem d 1 (ascii_head s i d e h)

  pub next_test : WellFormed (drop i s) → i < length s → (d : ℕ) → d < 128 → eqb (next_char (chars (drop i s))) d ≡ eqb (byte_at s i) d
  next_test w h d k =
      let c = here s i w h in
      ap (λ (x : ℕ). eqb x d) (next_char_lem c.code c.len c.at) ∙ head_is s i c.code c.len d c.read h k
