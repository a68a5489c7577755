-- Every token goes on by a byte, or pops a mode, or turns RawStart into RawEnd, or is an Error that stands still: `take_falls`. A loop does
-- not go back: `follow_from`.
-- Assumes nothing.
use Prim.Native.Nat.{ℕ, zero, suc, ◌+◌, ◌*◌, ◌-◌, ◌≤◌, ◌<◌}
use native.Mathlib.Omega.{arith}
use Rattle.std.specs.Prelude.{◌≡◌, Bool, true, false, eqb, length, take, drop, Option, Some, None}
use Rattle.std.proofs.Math.Path.{refl}
use Rattle.std.proofs.Common.{sym, ap, subst, ◌∙◌}
use mathlib.Core.List.{List, [], ◌∷◌}
use borrow.Author.Tests.{eqb-true}
use Rattle.base.specs.PickLaws.{by_test, by_lt}
use Rattle.position.specs.Place.{along_by, line_by}
use Rattle.position.specs.declared.Reach.{Reach}
use Rattle.utf8.specs.Encode.{encode, encode_all}
use Rattle.property.specs.Parts.{width_of, xid_start}
use Rattle.token.specs.Kind.{error, id, dot, colon, curly_open, curly_close}
use Rattle.words.specs.Words.{is_word, starts_with, else_word, else_if_word, r_word}
use Rattle.keywords.specs.Keywords.{keyword_of}
use Rattle.symbols.specs.Symbols.{symbol_of}
use Rattle.symbols.specs.declared.Symbol.{Symbol}
use Rattle.symbols.specs.SymbolsLaws.{symbol_is}
use Rattle.text.specs.Tests.{cr, lf, minus, letter_u, backslash, is_whitespace, is_line_end, is_digit, no_line_end, id_continue, test_utf8_of}
use Rattle.text.specs.Count.{len_utf8, count_while, run_utf8, run_test}
use Rattle.text.specs.Follow.{next_is, Followed, Closed, Open, Stopped, follow_in, follow, drop_bytes}
use Rattle.text.specs.declared.Turn.{Turn}
use Rattle.text.specs.declared.Turn.TheVariants.{Pass, Line, Close, Stuck}
use Rattle.state.specs.Modes.{literal, template_expr, template_expr_inline_map, template_expr_format, raw_start, raw_end, mode_code, tag_of, delimiter_of, quote_of}
use Rattle.state.specs.Lexer.{reach_of, stuck_at}
use Rattle.state.specs.declared.Change.{Change}
use Rattle.state.specs.declared.Change.TheVariants.{Keep, Push, Pop, Replace}
use Rattle.state.specs.declared.Lexer.{Lexer}
use Rattle.state.specs.declared.Taken.{Taken}
use Rattle.newlines.specs.PlainTurn.{plain_turn}
use Rattle.newlines.specs.ConsumeNewline.{line_feed, consume_newline}
use Rattle.comments.specs.ConsumeComment.{comment_turn, comment_token, consume_comment_multi, consume_comment}
use Rattle.strings.specs.ConsumeStringLiteral.{escape_turn, literal_turn, literal_token, consume_string_literal}
use Rattle.strings.specs.ConsumeRawString.{raw_turn, raw_token, consume_raw_string_contents}
use Rattle.options.specs.ConsumeFormatOptions.{skip_bytes, find_brace, options_token, consume_format_options}
use Rattle.numbers.specs.ConsumeNumber.{number_bytes}
use Rattle.names.specs.ConsumeIdOrKeyword.{name_end, remaining, name_bytes, parse_raw_string_start, or_else, raw_or_name, keyword_or_id, name_token}
use Rattle.symbol_tokens.specs.ConsumeSymbol.{symbol_token}
use Rattle.lexer.specs.GetNextToken.{next_char, in_literal, in_code, take_token}

-- ---- loops do not go back

len_some : (c : ℕ) → 0 < len_utf8 c
unfolding encode
len_some c =
    by_lt (λ (l : List ℕ). 0 < length l) c 0x80 (λ h. omega arith)
    (λ h. by_lt (λ (l : List ℕ). 0 < length l) c 0x800 (λ k. omega arith)
    (λ k. by_lt (λ (l : List ℕ). 0 < length l) c 0x10000 (λ m. omega arith) (λ m. omega arith)))

-- where a loop comes to is at the byte b or further on
abbrev pub From : ℕ → Followed → Type 0
From b (Closed q) = b ≤ q.byte.0
From b (Open q) = b ≤ q.byte.0
From b Stopped = Unit {0}

less_from : (a b : ℕ) (f : Followed) → a ≤ b → From b f → From a f
less_from a b (Closed q) h k = omega arith
less_from a b (Open q) h k = omega arith
less_from a b Stopped h k = tt

module _ (turn : ℕ → List ℕ → Turn) where
  -- a first turn that passes at least m bytes
  abbrev Least : ℕ → Turn → Type 0
  Least m (Pass b w) = m ≤ b
  Least m (Line b) = m ≤ b
  Least m (Close b w) = m ≤ b
  Least m Stuck = Unit {0}

  turn_from : (m : ℕ) (r : Reach) (c : ℕ) (cs : List ℕ) (t : Turn) → turn c cs ≡ t → Least m t
      → ((k : ℕ) (q : Reach) → From q.byte.0 (follow_in turn k q cs)) → From (r.byte.0 + m) (follow turn r (c ∷ cs))
  unfolding follow_in
  turn_from m r c cs (Pass b w) e h on =
      rw (e, follow_in) (less_from (r.byte.0 + m) (r.byte.0 + b) (follow_in turn (b - len_utf8 c) (along_by b w r) cs) (omega arith) (on (b - len_utf8 c) (along_by b w r)))
  turn_from m r c cs (Line b) e h on =
      rw (e, follow_in) (less_from (r.byte.0 + m) (r.byte.0 + b) (follow_in turn (b - len_utf8 c) (line_by b r) cs) (omega arith) (on (b - len_utf8 c) (line_by b r)))
  turn_from m r c cs (Close b w) e h on = rw (e, follow_in) (omega arith)
  turn_from m r c cs Stuck e h on = rw (e, follow_in) tt

  any_least : (t : Turn) → Least 0 t
  any_least (Pass b w) = omega arith
  any_least (Line b) = omega arith
  any_least (Close b w) = omega arith
  any_least Stuck = tt

  pub follow_from : (k : ℕ) (r : Reach) (cs : List ℕ) → From r.byte.0 (follow_in turn k r cs)
  unfolding follow_in
  follow_from k r [] = omega arith
  follow_from (suc k) r (c ∷ cs) = follow_from (suc k - len_utf8 c) r cs
  follow_from zero r (c ∷ cs) =
      less_from r.byte.0 (r.byte.0 + 0) (follow turn r (c ∷ cs)) (omega arith)
      (turn_from 0 r c cs (turn c cs) refl (any_least (turn c cs)) (λ k q. follow_from k q cs))

run_from : (look : ℕ → ℕ) (f : ℕ → Bool) (r : Reach) (cs : List ℕ) → r.byte.0 ≤ (run_utf8 look f r cs).byte.0
unfolding run_utf8
run_from look f r [] = omega arith
run_from look f r (c ∷ cs) = go (f c) refl (run_from look f (along_by (len_utf8 c) (width_of (look c)) r) cs)
  where
    go : (b : Bool) → f c ≡ b → r.byte.0 + len_utf8 c ≤ (run_utf8 look f (along_by (len_utf8 c) (width_of (look c)) r) cs).byte.0
        → r.byte.0 ≤ (run_utf8 look f r (c ∷ cs)).byte.0
    go true e h = rw (e, run_utf8) (omega arith)
    go false e h = rw (e, run_utf8) (omega arith)

-- ---- what a token does

pub data Falls (l : Lexer) (t : Taken) : Type 0 where
  On : (reach_of l).byte.0 < (reach_of t.lexer).byte.0 → Falls l t
  Pops : t.change ≡ Pop → (l.mode ≡ 0 → ⊥) → Falls l t
  Turns : (code : ℕ) → t.change ≡ Replace code → tag_of l.mode ≡ raw_start → tag_of code ≡ raw_end → Falls l t
  Stands : t.lexer.place ≡ l.place → t.token.kind ≡ error → Falls l t

module _ (l : Lexer) where
  still : Falls l (stuck_at l)
  still = Stands refl refl

  feed_falls : (n : ℕ) (cs : List ℕ) → 0 < n → Falls l (line_feed n cs l)
  unfolding line_feed
  feed_falls n cs h = by_test (Falls l) (next_is lf cs) (λ _. On (omega arith)) (λ _. still)

  newline_falls : (cs : List ℕ) → Falls l (consume_newline cs l)
  unfolding consume_newline
  newline_falls cs =
      by_test (Falls l) (next_is cr cs) (λ _. feed_falls 2 (drop 1 cs) (omega arith)) (λ _. feed_falls 1 cs (omega arith))

  comment_token_lem : (f : Followed) → From ((reach_of l).byte.0 + 1) f → Falls l (comment_token l f)
  comment_token_lem (Closed end) h = On (omega arith)
  comment_token_lem (Open end) h = On (omega arith)
  comment_token_lem Stopped h = still

  comment_falls : (look : ℕ → ℕ) (cs : List ℕ) → Falls l (consume_comment look cs l)
  unfolding consume_comment consume_comment_multi
  comment_falls look cs =
      by_test (Falls l) (next_is minus (drop 1 cs))
      (λ _. comment_token_lem (follow (comment_turn look) (along_by 1 1 (reach_of l)) (drop 1 cs))
      (follow_from (comment_turn look) 0 (along_by 1 1 (reach_of l)) (drop 1 cs)))
      (λ _. On (omega (arith, run_from look (test_utf8_of look no_line_end) (along_by 1 1 (reach_of l)) (drop 1 cs))))

  literal_token_lem : (f : Followed) → From ((reach_of l).byte.0 + 1) f → Falls l (literal_token l f)
  literal_token_lem (Closed end) h = On (omega arith)
  literal_token_lem (Open end) h = still
  literal_token_lem Stopped h = still

  plain_least : (look : ℕ → ℕ) (c : ℕ) (rest : List ℕ) → Least (literal_turn look 0) 1 (plain_turn look c rest)
  unfolding plain_turn
  plain_least look c rest =
      by_test (Least (literal_turn look 0) 1) (eqb c cr)
      (λ _. by_test (Least (literal_turn look 0) 1) (next_is lf rest) (λ _. omega arith) (λ _. tt))
      (λ _. by_test (Least (literal_turn look 0) 1) (eqb c lf) (λ _. omega arith) (λ _. omega (arith, len_some c)))

  escape_least : (look : ℕ → ℕ) (quote : ℕ) (rest : List ℕ) → Least (literal_turn look 0) 1 (escape_turn quote rest)
  unfolding escape_turn
  escape_least look quote rest =
      by_test (Least (literal_turn look 0) 1) (next_is letter_u rest)
      (λ _. by_test (Least (literal_turn look 0) 1) (next_is 123 (drop 1 rest)) (λ _. omega arith) (λ _. omega arith))
      (λ _. by_test (Least (literal_turn look 0) 1) (next_is 123 rest) (λ _. omega arith)
      (λ _. by_test (Least (literal_turn look 0) 1) (next_is backslash rest) (λ _. omega arith)
      (λ _. by_test (Least (literal_turn look 0) 1) (next_is quote rest) (λ _. omega arith) (λ _. omega arith))))

  literal_least : (look : ℕ → ℕ) (quote c : ℕ) (rest : List ℕ) → eqb c quote ≡ false → eqb c 123 ≡ false
      → Least (literal_turn look 0) 1 (literal_turn look quote c rest)
  unfolding literal_turn
  literal_least look quote c rest e f =
      rw (e, f) (by_test (Least (literal_turn look 0) 1) (eqb c backslash) (λ _. escape_least look quote rest) (λ _. plain_least look c rest))

  literal_falls : (look : ℕ → ℕ) (quote c : ℕ) (cs : List ℕ) → eqb c quote ≡ false → eqb c 123 ≡ false
      → Falls l (consume_string_literal look quote (c ∷ cs) l)
  unfolding consume_string_literal
  literal_falls look quote c cs e f =
      literal_token_lem (follow (literal_turn look quote) (reach_of l) (c ∷ cs))
      (turn_from (literal_turn look quote) 1 (reach_of l) c cs (literal_turn look quote c cs) refl (literal_least look quote c cs e f)
      (λ k q. follow_from (literal_turn look quote) k q cs))

  raw_token_lem : (delimiter : ℕ) → delimiter < 512 → tag_of l.mode ≡ raw_start → (f : Followed) → Falls l (raw_token delimiter l f)
  raw_token_lem delimiter h e (Closed end) = Turns (mode_code raw_end delimiter) refl e (omega arith)
  raw_token_lem delimiter h e (Open end) = still
  raw_token_lem delimiter h e Stopped = still

  options_token_lem : (l.mode ≡ 0 → ⊥) → (b : Option ℕ) → Falls l (options_token l b)
  options_token_lem n (Some end) = Pops refl n
  options_token_lem n None = still

  -- ---- names

  name_on : (look : ℕ → ℕ) (c : ℕ) (cs : List ℕ) → (reach_of l).byte.0 < (name_end look (c ∷ cs) l).byte.0
  unfolding name_end
  name_on look c cs = omega (arith, len_some c, run_from look (test_utf8_of look id_continue) (along_by (len_utf8 c) 1 (reach_of l)) cs)

  module _ (cs : List ℕ) (end : Reach) (h : (reach_of l).byte.0 < end.byte.0) where
    keyword_falls : Falls l (keyword_or_id cs end l)
    unfolding keyword_or_id
    keyword_falls =
        by_test (Falls l) (eqb l.previous_token dot) (λ _. On h)
        (λ _. by_test (Falls l) (eqb (keyword_of (take (name_bytes l end) (remaining cs))) id) (λ _. On h) (λ _. On (omega arith)))

    or_falls : (r : Option ℕ) → Falls l (or_else r l (keyword_or_id cs end l))
    or_falls (Some delimiter) = On (omega arith)
    or_falls None = keyword_falls

    raw_falls : Falls l (raw_or_name cs end l)
    unfolding raw_or_name
    raw_falls = or_falls (parse_raw_string_start (drop 1 cs))

    name_falls : Falls l (name_token cs end l)
    unfolding name_token
    name_falls =
        by_test (Falls l) (is_word else_word (take (name_bytes l end) (remaining cs)))
        (λ _. by_test (Falls l) (starts_with else_if_word (remaining cs)) (λ _. On (omega arith)) (λ _. On (omega arith)))
        (λ _. by_test (Falls l) (is_word r_word (take (name_bytes l end) (remaining cs))) (λ _. raw_falls) (λ _. keyword_falls))

  symbol_falls : (b : List ℕ) (x : Option Symbol) → symbol_of b ≡ x → Falls l (symbol_token x l)
  symbol_falls b (Some x) e = On (omega (arith, (symbol_is b e).some))
  symbol_falls b None e = On (omega arith)

  -- ---- the arms

  blank_on : (c : ℕ) (cs : List ℕ) → is_whitespace c ≡ true → 0 < count_while is_whitespace (c ∷ cs)
  unfolding count_while
  blank_on c cs e = rw (e, count_while) (omega arith)

  number_on : (cs : List ℕ) → 0 < number_bytes cs
  unfolding number_bytes
  number_on cs = omega arith

  code_falls : (look : ℕ → ℕ) (c : ℕ) (cs : List ℕ) → Falls l (in_code look c (c ∷ cs) l)
  unfolding in_code
  code_falls look c cs =
      by_test (Falls l) (is_whitespace c) (λ e. On (omega (arith, blank_on c cs e)))
      (λ _. by_test (Falls l) (is_line_end c) (λ _. newline_falls (c ∷ cs))
      (λ _. by_test (Falls l) (eqb c 35) (λ _. comment_falls look (c ∷ cs))
      (λ _. by_test (Falls l) (eqb c 34) (λ _. On (omega arith))
      (λ _. by_test (Falls l) (eqb c 39) (λ _. On (omega arith))
      (λ _. by_test (Falls l) (is_digit c) (λ _. On (omega (arith, number_on (c ∷ cs))))
      (λ _. by_test (Falls l) (xid_start (look c)) (λ _. name_falls (c ∷ cs) (name_end look (c ∷ cs) l) (name_on look c cs))
      (λ _. by_test (Falls l) (eqb c 95) (λ _. On (name_on look c cs))
      (λ _. symbol_falls (encode_all (c ∷ cs)) (symbol_of (encode_all (c ∷ cs))) refl))))))))

  in_literal_falls : (look : ℕ → ℕ) (quote c : ℕ) (cs : List ℕ) → Falls l (in_literal look quote c (c ∷ cs) l)
  unfolding in_literal
  in_literal_falls look quote c cs =
      by_test (Falls l) (eqb c quote) (λ _. On (omega arith))
      (λ e. by_test (Falls l) (eqb c 123) (λ _. On (omega arith)) (λ f. literal_falls look quote c cs e f))

  pub take_falls : (look : ℕ → ℕ) (edition c : ℕ) (cs : List ℕ) → Falls l (take_token look edition (c ∷ cs) l)
  unfolding take_token consume_raw_string_contents consume_format_options
  take_falls look edition c cs =
      by_test (Falls l) (eqb (tag_of l.mode) literal) (λ _. in_literal_falls look (quote_of (delimiter_of l.mode)) c cs)
      (λ _. by_test (Falls l) (eqb (tag_of l.mode) raw_start)
      (λ e. raw_token_lem (delimiter_of l.mode) (omega arith) (eqb-true _ _ e) (follow (raw_turn look (delimiter_of l.mode)) (reach_of l) (c ∷ cs)))
      (λ _. by_test (Falls l) (eqb (tag_of l.mode) raw_end) (λ _. On (omega arith))
      (λ _. by_test (Falls l) (eqb (tag_of l.mode) template_expr_format)
      (λ e. options_token_lem (λ z. omega (arith, eqb-true (tag_of l.mode) template_expr_format e))
      (find_brace ((reach_of l).byte.0 + skip_bytes look edition (c ∷ cs)) (drop_bytes (skip_bytes look edition (c ∷ cs)) (c ∷ cs))))
      (λ _. code_falls look c cs))))
