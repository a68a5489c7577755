-- Laws of the turns, at a place of the bytes.
--     when, and_when, both             what a test that passed gives
--     is_byte, behind, is_pair_lem         the character at a place, and two of them, by their bytes
--     arms_at, plain_at, printable_at  the arms in common by tests of the bytes there, and at a printable ASCII character
--     newline_at                       the same of `consume_newline`
-- Assumes nothing.
use Rattle.std.specs.Prelude.{ℕ, ◌+◌, ◌<◌, ◌≡◌, refl, Bool, true, false, ◌&&◌, List, length, drop}
use Rattle.std.proofs.Common.{arith, sym, ◌∙◌}
use Rattle.std.proofs.Math.Path.{ap}
use Rattle.std.proofs.Math.Dec.{eqb}
use borrow.Author.Tests.{eqb-true, ne_eqb}
use Rattle.base.specs.Pick.{pick}
use Rattle.base.specs.RangeLaws.{inside_is}
use Rattle.position.specs.Place.{line_by}
use Rattle.position.specs.declared.Reach.{Reach}
use Rattle.utf8.specs.Encode.{WellFormed}
use Rattle.utf8.specs.EncodeLaws.{encode1}
use Rattle.utf8.specs.Chars.{chars, At}
use Rattle.property.specs.Parts.{width_of}
use Rattle.property.specs.Table.{properties_at}
use Rattle.fitness.specs.Fit.{FitTable}
use Rattle.fitness.specs.Ascii.{is_printable}
use Rattle.fitness.specs.SmallLaws.{ascii_width}
use Rattle.token.specs.Kind.{new_line}
use Rattle.text.specs.Bytes.{byte_at}
use Rattle.text.specs.Tests.{cr, lf, space, tilde}
use Rattle.text.specs.Count.{len_utf8}
use Rattle.text.specs.CountLaws.{skip_one}
use Rattle.text.specs.Follow.{next_is, turn_at}
use Rattle.text.specs.Stands.{chars_from}
use Rattle.text.specs.FollowLaws.{here, ascii_head, head_is, next_is_lem, turn_char}
use Rattle.text.specs.declared.Turn.{Turn}
use Rattle.text.specs.declared.Turn.TheVariants.{Pass, Line, Stuck}
use Rattle.state.specs.Lexer.{reach_of, token_to, stuck_at}
use Rattle.state.specs.declared.Lexer.{Lexer}
use Rattle.newlines.specs.ConsumeNewline.{line_feed, consume_newline}
use Rattle.newlines.specs.PlainTurn.{plain_turn}

-- ---- tests

-- the first case matters only where the test is true
pub when : {A : Type 0} (t : Bool) {a b : A} (v : A) → (t ≡ true → a ≡ b) → pick t a v ≡ pick t b v
when true v f = f refl
when false v f = refl

-- the second test matters only where the first is true
pub and_when : (t : Bool) {a b : Bool} → (t ≡ true → a ≡ b) → (t && a) ≡ (t && b)
and_when true f = f refl
and_when false f = refl

-- two tests passed
pub both : (t u : Bool) → (t && u) ≡ true → (t ≡ true) × (u ≡ true)
both true u e = (refl, e)
both false u e = let z : ◌≡◌ {A = ℕ} 0 1 = cc in absurd (omega arith)

-- ---- the turns by their bytes

-- the bytes d and e stand at i
abbrev pub is_pair : List ℕ → ℕ → ℕ → ℕ → Bool
is_pair s i d e = eqb (byte_at s i) d && eqb (byte_at s (i + 1)) e

-- an ASCII character has one byte
pub len_one : {s : List ℕ} {i c n : ℕ} → At s i c n → c < 128 → n ≡ 1
len_one {s} {i} {c} a h = sym a.width ∙ ap length (encode1 c h)

module _ (look : ℕ → ℕ) (s : List ℕ) (i : ℕ) where
  -- a turn of these arms, by tests of the bytes there
  pub arms_at : (turn : ℕ → List ℕ → Turn)
      → ((c : ℕ) (rest : List ℕ) → turn c rest ≡ pick (eqb c cr) (pick (next_is lf rest) (Line 2) Stuck) (pick (eqb c lf) (Line 1) (Pass (len_utf8 c) (width_of (look c)))))
      → (c n : ℕ) → At s i c n → WellFormed (drop (i + n) s)
      → turn_at turn (chars (drop i s))
      ≡ pick (eqb c cr) (pick (eqb (byte_at s (i + 1)) lf) (Line 2) Stuck) (pick (eqb c lf) (Line 1) (Pass n (width_of (look c))))
  arms_at turn arms c n a w =
      turn_char turn s i c n a
      ∙ arms c _
      ∙ when (eqb c cr) (pick (eqb c lf) (Line 1) (Pass (len_utf8 c) (width_of (look c))))
      (λ e. ap (λ (t : Bool). pick t (Line 2) Stuck)
      (next_is_lem s (i + n) lf w (omega arith)
      ∙ ap (λ (k : ℕ). eqb (byte_at s (i + k)) lf) (len_one a (omega (arith, eqb-true c cr e)))))
      ∙ ap (λ (b : ℕ). pick (eqb c cr) (pick (eqb (byte_at s (i + 1)) lf) (Line 2) Stuck) (pick (eqb c lf) (Line 1) (Pass b (width_of (look c)))))
      a.width

  -- lexer.rs, the arms that all loops have in common
  pub plain_at : (c n : ℕ) → At s i c n → WellFormed (drop (i + n) s)
      → turn_at (plain_turn look) (chars (drop i s))
      ≡ pick (eqb c cr) (pick (eqb (byte_at s (i + 1)) lf) (Line 2) Stuck) (pick (eqb c lf) (Line 1) (Pass n (width_of (look c))))
  unfolding plain_turn
  plain_at = arms_at (plain_turn look) (λ c rest. search refl)

module _ (s : List ℕ) (i : ℕ) (w : WellFormed (drop i s)) (h : i < length s) where
  -- the character at i, by its byte
  pub is_byte : (d : ℕ) → d < 128 → eqb (here s i w h).code d ≡ eqb (byte_at s i) d
  is_byte d k = let c = here s i w h in head_is s i c.code c.len d c.read h k

  -- what follows it, where it is ASCII
  pub behind : (d : ℕ) → d < 128 → eqb (here s i w h).code d ≡ true → i + (here s i w h).len ≡ i + 1
  behind d k e = let c = here s i w h in ap (λ (n : ℕ). i + n) (len_one c.at (omega (arith, eqb-true c.code d e)))

  -- two ASCII characters
  pub is_pair_lem : (d e : ℕ) → d < 128 → e < 128
      → (eqb (here s i w h).code d && next_is e (chars (drop (i + (here s i w h).len) s))) ≡ is_pair s i d e
  is_pair_lem d e k l =
      let c = here s i w h in
      and_when (eqb c.code d) (λ t. next_is_lem s (i + c.len) e c.well l ∙ ap (λ (j : ℕ). eqb (byte_at s j) e) (behind d k t))
      ∙ ap (λ (t : Bool). t && eqb (byte_at s (i + 1)) e) (is_byte d k)

  module _ (table : List ℕ) (fit : FitTable table) where
    -- lexer.rs, the arms in common, at a printable ASCII character
    pub printable_at : (b : ℕ) → byte_at s i ≡ b → is_printable b ≡ true → turn_at (plain_turn (properties_at table)) (chars (drop i s)) ≡ Pass 1 1
    unfolding plain_turn
    printable_at b e p =
        let q = inside_is b space tilde p in
        let k : b < 128 = omega (arith, q.1) in
        let wide : width_of (properties_at table b) ≡ 1 = ascii_width table fit b k ∙ ap (λ (t : Bool). pick t 1 0) p in
        arms_at (properties_at table) s i (plain_turn (properties_at table)) (λ c rest. search refl) b 1 (ascii_head s i b e k) (skip_one s i b w e k).well
        ∙ rw (ne_eqb b cr (λ x. omega (arith, q.0)), ne_eqb b lf (λ x. omega (arith, q.0)), wide)

-- ---- tokens by their bytes, where reading has come to r

module _ (s : List ℕ) (l : Lexer) (w : WellFormed (drop (reach_of l).byte.0 s)) (r : Reach) where
  -- lexer.rs `consume_newline`
  pub newline_at : r ≡ reach_of l
      → consume_newline (chars_from s (reach_of l)) l
      ≡ pick (eqb (byte_at s r.byte.0) cr) (pick (eqb (byte_at s (r.byte.0 + 1)) lf) (token_to new_line (line_by 2 r) l) (stuck_at l))
      (pick (eqb (byte_at s r.byte.0) lf) (token_to new_line (line_by 1 r) l) (stuck_at l))
  unfolding consume_newline line_feed
  newline_at e =
      let at = (reach_of l).byte.0 in
      rw (e, next_is_lem s at cr w (omega arith), next_is_lem s at lf w (omega arith))
      (when (eqb (byte_at s at) cr) _
      (λ f. let k = skip_one s at cr w (eqb-true _ _ f) (omega arith) in
      ap (λ (t : Bool). pick t (token_to new_line (line_by 2 (reach_of l)) l) (stuck_at l))
      (ap (next_is lf) k.rest ∙ next_is_lem s (at + 1) lf k.well (omega arith))))
