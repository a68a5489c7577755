-- C-7, of newlines, comments, string literals and raw strings.
--     comment_local, literal_local, raw_local     the turns of the three loops
--     newline_line, comment_line, literal_line, raw_line     what the `consume_*` take
-- Assumes nothing.
use Prim.Native.Nat.{ℕ, zero, suc, ◌+◌, ◌-◌, ◌%◌, ◌≤◌, ◌<◌}
use native.Mathlib.Omega.{arith}
use Rattle.std.specs.Prelude.{◌≡◌, Bool, ◌&&◌, ◌⊎◌, length, drop}
use Rattle.std.proofs.Math.Path.{refl, sym, ap, subst}
use Rattle.std.proofs.Common.{◌∙◌, eqb-true, ne_eqb}
use Rattle.std.proofs.Math.Bool.{true, false}
use Rattle.std.proofs.Math.Logic.{inl, inr}
use mathlib.Core.List.{List, [], ◌∷◌}
use Rattle.std.proofs.Math.Dec.{eqb}
use Rattle.base.specs.Pick.{pick}
use Rattle.base.specs.PickLaws.{by_test, by_eq}
use Rattle.position.specs.Place.{along_by, line_by}
use Rattle.position.specs.declared.Reach.{Reach}
use Rattle.utf8.specs.EncodeLaws.{encode1}
use Rattle.property.specs.Parts.{width_of}
use Rattle.token.specs.Kind.{new_line, comment_single}
use Rattle.text.specs.Tests.{cr, lf, hash, minus, backslash, letter_u, curly_open, is_line_end, no_line_end, test_utf8_of}
use Rattle.text.specs.Count.{len_utf8, bytes_of}
use Rattle.text.specs.Follow.{next_is, Followed, Closed, Open, Stopped, follow}
use Rattle.text.specs.declared.Turn.TheVariants.{Pass, Line, Close, Stuck}
use Rattle.state.specs.Modes.{quote_of, hash_count_of}
use Rattle.state.specs.Lexer.{reach_of, token_to, stuck_at}
use Rattle.state.specs.declared.Lexer.{Lexer}
use Rattle.newlines.specs.PlainTurn.{plain_turn}
use Rattle.newlines.specs.ConsumeNewline.{line_feed, consume_newline}
use Rattle.comments.specs.ConsumeComment.{comment_turn, comment_token, consume_comment_multi, consume_comment}
use Rattle.strings.specs.ConsumeStringLiteral.{escape_turn, literal_turn, literal_token, consume_string_literal}
use Rattle.strings.specs.ConsumeRawString.{hashes, quote_turn, raw_turn, raw_token, consume_raw_string_contents}
use Rattle.newlines.specs.TurnLaws.{both}
use Rattle.strings.specs.TurnLaws.{quote_ascii}
use Rattle.line.specs.Line.{line, Whole, Short, Local, Beyond}
use Rattle.line.specs.LineLaws.{next_line_lem, drop_line, run_line, whole_none, follow_line}
use Rattle.line.specs.Past.{Either}
use Rattle.line.specs.PastLaws.{pick_either}

-- ---- characters of one byte

pub len_ascii : (c : ℕ) → c < 128 → len_utf8 c ≡ 1
len_ascii c h = ap length (encode1 c h)

-- a character of one byte that is next and is no newline, and whole characters after it
next_whole : (d : ℕ) → d < 128 → (lf ≡ d → ⊥) → (p q : List ℕ) → next_is d (line p q) ≡ true → (b : ℕ) → Whole b (drop 1 p) → Whole (1 + b) p
unfolding next_is
next_whole d h n [] q e b w = absurd (n (eqb-true lf d e))
next_whole d h n (c ∷ p) q e b w =
    let k : len_utf8 c ≡ 1 = ap len_utf8 (eqb-true c d e) ∙ len_ascii d h in
    let j : b ≡ 1 + b - len_utf8 c = omega arith in
    inr (omega arith, subst (λ (x : ℕ). Whole x p) j w)

-- so there is a character before the newline
next_some : (d : ℕ) → (lf ≡ d → ⊥) → (p q : List ℕ) → next_is d (line p q) ≡ true → 1 ≤ length p
unfolding next_is
next_some d n [] q e = absurd (n (eqb-true lf d e))
next_some d n (c ∷ p) q e = omega arith

-- a turn at a character of one byte, with whole characters after it
pass_short : (c : ℕ) (p : List ℕ) → c < 128 → (b w : ℕ) → Whole b p → Short c p (Pass (1 + b) w)
pass_short c p h b w v =
    let k = len_ascii c h in
    let j : b ≡ 1 + b - len_utf8 c = omega arith in
    (omega arith, subst (λ (x : ℕ). Whole x p) j v)

-- a quote is no newline
pub quote_other : (delimiter : ℕ) → lf ≡ quote_of delimiter → ⊥
quote_other delimiter = by_eq (λ (q : ℕ). lf ≡ q → ⊥) (delimiter % 2) 0 (λ _ e. omega arith) (λ _ e. omega arith)

-- ---- the turns

module _ (look : ℕ → ℕ) where
  plain_same : (c : ℕ) (p q r : List ℕ) → plain_turn look c (line p q) ≡ plain_turn look c (line p r)
  unfolding plain_turn
  plain_same c p q r =
      λ i. pick (eqb c cr) (pick (next_line_lem lf p q r i) (Line 2) Stuck) (pick (eqb c lf) (Line 1) (Pass (len_utf8 c) (width_of (look c))))

  -- "\r" with its "\n", which may be the newline
  both_short : (c : ℕ) (p q : List ℕ) → c ≡ cr → next_is lf (line p q) ≡ true → Short c p (Line 2)
  unfolding next_is bytes_of
  both_short c [] q e h = let k : len_utf8 c ≡ 1 = ap len_utf8 e ∙ len_ascii cr (omega arith) in inr (omega arith)
  both_short c (d ∷ p) q e h =
      let k : len_utf8 c ≡ 1 = ap len_utf8 e ∙ len_ascii cr (omega arith) in
      let m : len_utf8 d ≡ 1 = ap len_utf8 (eqb-true d lf h) ∙ len_ascii lf (omega arith) in
      let j : 0 ≡ 2 - len_utf8 c - len_utf8 d = omega arith in
      inl (omega arith, inr (omega arith, subst (λ (x : ℕ). Whole x p) j (whole_none p)))

  plain_short : (c : ℕ) (p q : List ℕ) → Short c p (plain_turn look c (line p q))
  unfolding plain_turn
  plain_short c p q =
      by_eq (Short c p) c cr (λ e. by_test (Short c p) (next_is lf (line p q)) (λ h. both_short c p q e h) (λ _. tt))
      (λ _. by_eq (Short c p) c lf
      (λ e. let k : len_utf8 c ≡ 1 = ap len_utf8 e ∙ len_ascii lf (omega arith) in
      let j : 0 ≡ 1 - len_utf8 c = omega arith in
      inl (omega arith, subst (λ (x : ℕ). Whole x p) j (whole_none p)))
      (λ _. let j : 0 ≡ len_utf8 c - len_utf8 c = omega arith in (omega arith, subst (λ (x : ℕ). Whole x p) j (whole_none p))))

  pub comment_local : Local (comment_turn look)
  unfolding comment_turn plain_turn
  comment_local =
      record {
        same = λ c p q r i. pick (eqb c hash && next_line_lem minus p q r i) (Pass (len_utf8 c + 1) (width_of (look c) + 1))
            (pick (eqb c minus && next_line_lem hash p q r i) (Close (len_utf8 c + 1) (width_of (look c) + 1)) (plain_same c p q r i));
        short = λ c p q. by_test (Short c p) (eqb c hash && next_is minus (line p q))
            (λ e. let j : 1 + 0 ≡ len_utf8 c + 1 - len_utf8 c = omega arith in (
              omega arith,
              subst (λ (x : ℕ). Whole x p) j
                  (next_whole minus (omega arith) (λ z. omega arith) p q (both (eqb c hash) (next_is minus (line p q)) e).1 0 (whole_none (drop 1 p))),
            ))
            (λ _. by_test (Short c p) (eqb c minus && next_is hash (line p q)) (λ _. tt) (λ _. plain_short c p q));
        ends = λ q. refl;
      }

  -- ---- string literals

  module _ (quote : ℕ) (ascii : quote < 128) (other : lf ≡ quote → ⊥) where
    escape_same : (p q r : List ℕ) → escape_turn quote (line p q) ≡ escape_turn quote (line p r)
    unfolding escape_turn next_is
    escape_same [] q r = refl
    escape_same (c ∷ p) q r =
        λ i. pick (eqb c letter_u) (pick (next_line_lem curly_open p q r i) (Pass 3 3) (Pass 2 2))
        (pick (eqb c curly_open) (Pass 2 2) (pick (eqb c backslash) (Pass 2 2) (pick (eqb c quote) (Pass 2 2) (Pass 1 1))))

    escape_short : (c : ℕ) (p q : List ℕ) → c < 128 → Short c p (escape_turn quote (line p q))
    unfolding escape_turn
    escape_short c p q h =
        let S = Short c p in
        let one : (d : ℕ) → d < 128 → (lf ≡ d → ⊥) → next_is d (line p q) ≡ true → Short c p (Pass 2 2) =
        λ d a n e. pass_short c p h 1 2 (next_whole d a n p q e 0 (whole_none (drop 1 p))) in
        by_test S (next_is letter_u (line p q))
        (λ e. by_test S (next_is curly_open (drop 1 (line p q)))
        (λ f. let g : next_is curly_open (line (drop 1 p) q) ≡ true =
        ap (next_is curly_open) (sym (drop_line 1 p q (next_some letter_u (λ z. omega arith) p q e))) ∙ f in
        pass_short c p h 2 3
        (next_whole letter_u (omega arith) (λ z. omega arith) p q e 1
        (next_whole curly_open (omega arith) (λ z. omega arith) (drop 1 p) q g 0 (whole_none (drop 1 (drop 1 p))))))
        (λ _. one letter_u (omega arith) (λ z. omega arith) e))
        (λ _. by_test S (next_is curly_open (line p q)) (one curly_open (omega arith) (λ z. omega arith))
        (λ _. by_test S (next_is backslash (line p q)) (one backslash (omega arith) (λ z. omega arith))
        (λ _. by_test S (next_is quote (line p q)) (one quote ascii other) (λ _. pass_short c p h 0 1 (whole_none p)))))

    pub literal_local : Local (literal_turn look quote)
    unfolding literal_turn plain_turn
    literal_local =
        record {
          same = λ c p q r i. pick (eqb c quote) (Close 0 0)
              (pick (eqb c curly_open) (Close 0 0) (pick (eqb c backslash) (escape_same p q r i) (plain_same c p q r i)));
          short = λ c p q. by_test (Short c p) (eqb c quote) (λ _. tt)
              (λ _. by_test (Short c p) (eqb c curly_open) (λ _. tt)
              (λ _. by_eq (Short c p) c backslash (λ e. escape_short c p q (omega arith)) (λ _. plain_short c p q)));
          ends = ends;
        }
      where
        ends : (q : List ℕ) → literal_turn look quote lf q ≡ Line 1
        ends q = rw (ne_eqb lf quote other)

  -- ---- raw strings

  hashes_same : (most : ℕ) (p q r : List ℕ) → hashes most (line p q) ≡ hashes most (line p r)
  unfolding hashes
  hashes_same zero [] q r = refl
  hashes_same (suc most) [] q r = refl
  hashes_same zero (c ∷ p) q r = refl
  hashes_same (suc most) (c ∷ p) q r = λ i. elim (eqb c hash) [ true ↦ suc (hashes_same most p q r i) | false ↦ 0 ]

  hashes_whole : (most : ℕ) (p q : List ℕ) → Whole (hashes most (line p q)) p
  unfolding hashes
  hashes_whole zero [] q = refl
  hashes_whole (suc most) [] q = refl
  hashes_whole zero (c ∷ p) q = inl refl
  hashes_whole (suc most) (c ∷ p) q =
      let n = hashes most (line p q) in
      (elim (eqb c hash) as (λ (b : Bool). eqb c hash ≡ b → Whole (elim b [ true ↦ suc n | false ↦ 0 ]) (c ∷ p)) [ true ↦ λ e. (let k : len_utf8 c ≡ 1 = ap len_utf8 (eqb-true c hash e) ∙ len_ascii hash (omega arith) in let j : n ≡ suc n - len_utf8 c = omega arith in inr (omega arith, subst (λ (x : ℕ). Whole x p) j (hashes_whole most p q))) | false ↦ λ e. inl refl ])
      refl

  pub raw_local : (delimiter : ℕ) → Local (raw_turn look delimiter)
  unfolding raw_turn quote_turn plain_turn
  raw_local delimiter =
      let most = hash_count_of delimiter in
      record {
        same = λ c p q r i. pick (eqb c (quote_of delimiter)) (quote_turn most (hashes_same most p q r i)) (plain_same c p q r i);
        short = λ c p q. by_eq (Short c p) c (quote_of delimiter)
            (λ e. by_test (Short c p) (eqb (hashes most (line p q)) most) (λ _. tt)
            (λ _. pass_short c p (omega (arith, quote_ascii delimiter)) (hashes most (line p q)) (1 + hashes most (line p q)) (hashes_whole most p q)))
            (λ _. plain_short c p q);
        ends = λ q. rw (ne_eqb lf (quote_of delimiter) (quote_other delimiter));
      }

-- ---- what is taken

pub newline_line : (p q r : List ℕ) (l : Lexer) → consume_newline (line p q) l ≡ consume_newline (line p r) l
unfolding consume_newline line_feed next_is
newline_line [] q r l = refl
newline_line (c ∷ p) q r l =
    λ i. pick (eqb c cr) (pick (next_line_lem lf p q r i) (token_to new_line (line_by 2 (reach_of l)) l) (stuck_at l))
    (pick (eqb c lf) (token_to new_line (line_by 1 (reach_of l)) l) (stuck_at l))

module _ (look : ℕ → ℕ) (n : ℕ) (p q r : List ℕ) (l : Lexer) where
  comment_token_lem : (a b : Followed) → (a ≡ b) ⊎ Beyond n a → Either n l (comment_token l a) (comment_token l b)
  comment_token_lem a b (inl e) = inl (ap (comment_token l) e)
  comment_token_lem (Closed x) b (inr h) = inr (inr (h, λ e. omega arith))
  comment_token_lem (Open x) b (inr h) = inr (inr (h, λ e. omega arith))
  comment_token_lem Stopped b (inr h) = inr (inl refl)

  -- c is the "#", and p stands between it and the newline
  pub comment_line : (c : ℕ) → n ≡ (reach_of l).byte.0 + (1 + bytes_of p)
      → Either n l (consume_comment look (c ∷ line p q) l) (consume_comment look (c ∷ line p r) l)
  unfolding consume_comment consume_comment_multi no_line_end is_line_end
  comment_line c e =
      let start = along_by 1 1 (reach_of l) in
      let turn = comment_turn look in
      pick_either (next_is minus (line p q)) (next_is minus (line p r)) (next_line_lem minus p q r)
      (comment_token_lem (follow turn start (line p q)) (follow turn start (line p r))
      (follow_line turn (comment_local look) n q r 0 start p (whole_none p) (omega arith)))
      (inl (ap (λ (end : Reach). token_to comment_single end l)
      (run_line (test_utf8_of look no_line_end) look refl start p q ∙ sym (run_line (test_utf8_of look no_line_end) look refl start p r))))

  literal_token_lem : (a b : Followed) → (a ≡ b) ⊎ Beyond n a → Either n l (literal_token l a) (literal_token l b)
  literal_token_lem a b (inl e) = inl (ap (literal_token l) e)
  literal_token_lem (Closed x) b (inr h) = inr (inr (h, λ e. omega arith))
  literal_token_lem (Open x) b (inr h) = inr (inl refl)
  literal_token_lem Stopped b (inr h) = inr (inl refl)

  pub literal_line : (quote : ℕ) → quote < 128 → (lf ≡ quote → ⊥) → n ≡ (reach_of l).byte.0 + bytes_of p
      → Either n l (consume_string_literal look quote (line p q) l) (consume_string_literal look quote (line p r) l)
  unfolding consume_string_literal
  literal_line quote a o e =
      let turn = literal_turn look quote in
      literal_token_lem (follow turn (reach_of l) (line p q)) (follow turn (reach_of l) (line p r))
      (follow_line turn (literal_local look quote a o) n q r 0 (reach_of l) p (whole_none p) (omega arith))

  raw_token_lem : (delimiter : ℕ) (a b : Followed) → (a ≡ b) ⊎ Beyond n a → Either n l (raw_token delimiter l a) (raw_token delimiter l b)
  raw_token_lem delimiter a b (inl e) = inl (ap (raw_token delimiter l) e)
  raw_token_lem delimiter (Closed x) b (inr h) = inr (inr (h, λ e. omega arith))
  raw_token_lem delimiter (Open x) b (inr h) = inr (inl refl)
  raw_token_lem delimiter Stopped b (inr h) = inr (inl refl)

  pub raw_line : (delimiter : ℕ) → n ≡ (reach_of l).byte.0 + bytes_of p
      → Either n l (consume_raw_string_contents look delimiter (line p q) l) (consume_raw_string_contents look delimiter (line p r) l)
  unfolding consume_raw_string_contents
  raw_line delimiter e =
      let turn = raw_turn look delimiter in
      raw_token_lem delimiter (follow turn (reach_of l) (line p q)) (follow turn (reach_of l) (line p r))
      (follow_line turn (raw_local look delimiter) n q r 0 (reach_of l) p (whole_none p) (omega arith))
