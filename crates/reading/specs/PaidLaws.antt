-- What each token does to the modes is paid for by the bytes that it passes, but for two: contents of a raw string and format options may
-- be empty, and are paid for by what their modes have in store.
--     take_paid      for every token
--     take_closes    the closing brace of a template is read, and pops it
-- Assumes nothing.
use Rattle.std.specs.Prelude.{ℕ, ◌+◌, ◌*◌, ◌≤◌, ◌<◌, ◌≡◌, refl, true, ◌⊎◌, List, [], ◌∷◌, eqb, take, drop, Option, Some, None}
use native.Mathlib.Omega.{arith}
use Rattle.std.proofs.Common.{sym, ap, ◌∙◌}
use Rattle.std.proofs.Math.Logic.{inl, inr}
use borrow.Author.Tests.{eqb-true}
use Rattle.base.specs.PickLaws.{by_test}
use Rattle.position.specs.Place.{along_by}
use Rattle.position.specs.declared.Reach.{Reach}
use Rattle.utf8.specs.Encode.{encode, encode_all}
use Rattle.property.specs.Parts.{xid_start}
use Rattle.property.specs.Table.{properties_at}
use Rattle.fitness.specs.Fit.{FitTable}
use Rattle.token.specs.Kind as kind
use Rattle.words.specs.Words.{is_word, starts_with, else_word, else_if_word, r_word}
use Rattle.keywords.specs.Keywords.{keyword_of}
use Rattle.symbols.specs.Symbols.{symbol_of, symbol}
use Rattle.symbols.specs.declared.Symbol.{Symbol}
use Rattle.symbols.specs.SymbolsLaws.{symbol_is, curly_close_is}
use Rattle.text.specs.Bytes.{byte_at}
use Rattle.text.specs.Tests.{cr, lf, minus, curly_close, is_whitespace, is_line_end, is_digit}
use Rattle.text.specs.Stands.{Stands, chars_from}
use Rattle.text.specs.FollowLaws.{ascii_head}
use Rattle.text.specs.Follow.{next_is, Followed, Closed, Open, Stopped, follow, drop_bytes}
use Rattle.state.specs.Modes.{literal, template_expr, template_expr_inline_map, template_expr_format, raw_start, raw_end, mode_code, tag_of, delimiter_of, quote_of}
use Rattle.token.specs.Token.{token_of}
use Rattle.state.specs.Lexer.{reach_of}
use Rattle.state.specs.declared.Change.{Change}
use Rattle.state.specs.declared.Change.TheVariants.{Keep, Push, Pop, Replace}
use Rattle.state.specs.declared.Lexer.{Lexer}
use Rattle.state.specs.declared.Taken.{Taken}
use Rattle.newlines.specs.ConsumeNewline.{line_feed, consume_newline}
use Rattle.comments.specs.ConsumeComment.{comment_turn, comment_token, consume_comment_multi, consume_comment}
use Rattle.strings.specs.ConsumeStringLiteral.{literal_turn, literal_token, consume_string_literal}
use Rattle.strings.specs.ConsumeRawString.{raw_turn, raw_token, consume_raw_string_contents}
use Rattle.options.specs.ConsumeFormatOptions.{skip_bytes, find_brace, options_token, consume_format_options}
use Rattle.options.specs.StandsLaws.{options_stands}
use Rattle.names.specs.ConsumeIdOrKeyword.{name_end, remaining, name_bytes, parse_raw_string_start, or_else, raw_or_name, keyword_or_id, name_token}
use Rattle.symbol_tokens.specs.ConsumeSymbol.{symbol_change, symbol_token}
use Rattle.lexer.specs.GetNextToken.{next_char, one_byte, in_literal, in_code, take_token}
use Rattle.lexer.specs.ArmLaws.{above, no_digit, high_letter, rest_symbol, take_code}
use Rattle.reading.specs.Potential.{owns}

-- no mode has more than 3 in store
owns_most : (code : ℕ) → owns code ≤ 3
unfolding owns
owns_most code =
    by_test (λ (n : ℕ). n ≤ 3) (eqb (tag_of code) raw_start) (λ _. omega arith)
    (λ _. by_test (λ (n : ℕ). n ≤ 3) (eqb (tag_of code) template_expr) (λ _. omega arith)
    (λ _. by_test (λ (n : ℕ). n ≤ 3) (eqb (tag_of code) template_expr_format) (λ _. omega arith) (λ _. omega arith)))

-- what a change of the modes asks of a token that is read in this mode, from the byte i to the byte j. Whether a token that changes nothing
-- goes on by a byte is said by `take_falls`
abbrev pub Asks : List ℕ → ℕ → ℕ → ℕ → Change → Type 0
Asks s mode i j Keep = Unit {0}
Asks s mode i j (Push code) = (owns code + 3 + 4 * i ≤ 4 * j) × (tag_of code ≡ template_expr_format → mode ≡ mode_code template_expr 0)
Asks s mode i j Pop = (i < j) ⊎ ((tag_of mode ≡ template_expr_format) × (byte_at s j ≡ curly_close))
Asks s mode i j (Replace code) = (tag_of mode ≡ raw_start) × (tag_of code ≡ raw_end)

module _ (s : List ℕ) (l : Lexer) where
  abbrev pub Paid : Taken → Type 0
  Paid t = Asks s l.mode (reach_of l).byte.0 (reach_of t.lexer).byte.0 t.change

  newline_paid : (cs : List ℕ) → Paid (consume_newline cs l)
  unfolding consume_newline line_feed
  newline_paid cs =
      by_test Paid (next_is cr cs) (λ _. by_test Paid (next_is lf (drop 1 cs)) (λ _. tt) (λ _. tt))
      (λ _. by_test Paid (next_is lf cs) (λ _. tt) (λ _. tt))

  comment_token_lem : (f : Followed) → Paid (comment_token l f)
  comment_token_lem (Closed end) = tt
  comment_token_lem (Open end) = tt
  comment_token_lem Stopped = tt

  comment_paid : (look : ℕ → ℕ) (cs : List ℕ) → Paid (consume_comment look cs l)
  unfolding consume_comment consume_comment_multi
  comment_paid look cs =
      by_test Paid (next_is minus (drop 1 cs))
      (λ _. comment_token_lem (follow (comment_turn look) (along_by 1 1 (reach_of l)) (drop 1 cs))) (λ _. tt)

  literal_token_lem : (f : Followed) → Paid (literal_token l f)
  literal_token_lem (Closed end) = tt
  literal_token_lem (Open end) = tt
  literal_token_lem Stopped = tt

  in_literal_paid : (look : ℕ → ℕ) (quote c : ℕ) (cs : List ℕ) → Paid (in_literal look quote c cs l)
  unfolding in_literal consume_string_literal owns
  in_literal_paid look quote c cs =
      by_test Paid (eqb c quote) (λ _. inl (omega arith))
      (λ _. by_test Paid (eqb c 123) (λ _. (omega arith, λ f. absurd (omega arith)))
      (λ _. literal_token_lem (follow (literal_turn look quote) (reach_of l) cs)))

  -- empty contents are paid for by RawStart
  raw_token_lem : (delimiter : ℕ) → delimiter < 512 → tag_of l.mode ≡ raw_start → (f : Followed) → Paid (raw_token delimiter l f)
  raw_token_lem delimiter h e (Closed end) = (e, omega arith)
  raw_token_lem delimiter h e (Open end) = tt
  raw_token_lem delimiter h e Stopped = tt

  -- empty format options end at the closing brace, which the template then owes for
  options_paid : (look : ℕ → ℕ) (edition : ℕ) → Stands s (reach_of l) → tag_of l.mode ≡ template_expr_format
      → Paid (consume_format_options look edition (chars_from s (reach_of l)) l)
  unfolding consume_format_options
  options_paid look edition o e =
      let cs = chars_from s (reach_of l) in
      go (find_brace ((reach_of l).byte.0 + skip_bytes look edition cs) (drop_bytes (skip_bytes look edition cs) cs))
      (options_stands look edition s l o).brace
    where
      go : (b : Option ℕ) → ((options_token l b).change ≡ Pop → byte_at s (reach_of (options_token l b).lexer).byte.0 ≡ curly_close)
          → Paid (options_token l b)
      go (Some end) f = inr (e, f refl)
      go None f = tt

  -- ---- names

  keyword_paid : (cs : List ℕ) (end : Reach) → Paid (keyword_or_id cs end l)
  unfolding keyword_or_id
  keyword_paid cs end =
      by_test Paid (eqb l.previous_token kind.dot) (λ _. tt)
      (λ _. by_test Paid (eqb (keyword_of (take (name_bytes l end) (remaining cs))) kind.id) (λ _. tt) (λ _. tt))

  -- "r" and a quote are two bytes, which RawStart's 3 are taken from
  or_paid : (r : Option ℕ) (t : Taken) → Paid t → Paid (or_else r l t)
  or_paid (Some delimiter) t k = (omega (arith, owns_most (mode_code raw_start delimiter)), λ f. absurd (omega arith))
  or_paid None t k = k

  raw_paid : (cs : List ℕ) (end : Reach) → Paid (raw_or_name cs end l)
  unfolding raw_or_name
  raw_paid cs end = or_paid (parse_raw_string_start (drop 1 cs)) (keyword_or_id cs end l) (keyword_paid cs end)

  name_paid : (cs : List ℕ) (end : Reach) → Paid (name_token cs end l)
  unfolding name_token
  name_paid cs end =
      by_test Paid (is_word else_word (take (name_bytes l end) (remaining cs)))
      (λ _. by_test Paid (starts_with else_if_word (remaining cs)) (λ _. tt) (λ _. tt))
      (λ _. by_test Paid (is_word r_word (take (name_bytes l end) (remaining cs))) (λ _. raw_paid cs end) (λ _. keyword_paid cs end))

  -- ---- symbols

  symbol_asks : (j k : ℕ) → (reach_of l).byte.0 < j → Asks s l.mode (reach_of l).byte.0 j (symbol_change l.mode k)
  unfolding symbol_change owns
  symbol_asks j k h =
      by_test (Asks s l.mode (reach_of l).byte.0 j) (eqb l.mode (mode_code template_expr 0))
      (λ e. by_test (Asks s l.mode (reach_of l).byte.0 j) (eqb k kind.curly_open) (λ _. (omega arith, λ f. absurd (omega arith)))
      (λ _. by_test (Asks s l.mode (reach_of l).byte.0 j) (eqb k kind.colon) (λ _. (omega arith, λ f. eqb-true _ _ e))
      (λ _. by_test (Asks s l.mode (reach_of l).byte.0 j) (eqb k kind.curly_close) (λ _. inl h) (λ _. tt))))
      (λ _. by_test (Asks s l.mode (reach_of l).byte.0 j) (eqb l.mode (mode_code template_expr_inline_map 0))
      (λ _. by_test (Asks s l.mode (reach_of l).byte.0 j) (eqb k kind.curly_close) (λ _. inl h) (λ _. tt)) (λ _. tt))

  symbol_paid : (b : List ℕ) (x : Option Symbol) → symbol_of b ≡ x → Paid (symbol_token x l)
  symbol_paid b (Some x) e = symbol_asks _ x.kind (omega (arith, (symbol_is b e).some))
  symbol_paid b None e = tt

  -- ---- the arms

  code_paid : (look : ℕ → ℕ) (c : ℕ) (cs : List ℕ) → Paid (in_code look c cs l)
  unfolding in_code owns
  code_paid look c cs =
      by_test Paid (is_whitespace c) (λ _. tt)
      (λ _. by_test Paid (is_line_end c) (λ _. newline_paid cs)
      (λ _. by_test Paid (eqb c 35) (λ _. comment_paid look cs)
      (λ _. by_test Paid (eqb c 34) (λ _. (omega arith, λ f. absurd (omega arith)))
      (λ _. by_test Paid (eqb c 39) (λ _. (omega arith, λ f. absurd (omega arith)))
      (λ _. by_test Paid (is_digit c) (λ _. tt)
      (λ _. by_test Paid (xid_start (look c)) (λ _. name_paid cs (name_end look cs l))
      (λ _. by_test Paid (eqb c 95) (λ _. tt) (λ _. symbol_paid (encode_all cs) (symbol_of (encode_all cs)) refl))))))))

  pub take_paid : (look : ℕ → ℕ) (edition : ℕ) → Stands s (reach_of l) → Paid (take_token look edition (chars_from s (reach_of l)) l)
  unfolding take_token consume_raw_string_contents
  take_paid look edition o =
      let cs = chars_from s (reach_of l) in
      by_test Paid (eqb (tag_of l.mode) literal) (λ _. in_literal_paid look (quote_of (delimiter_of l.mode)) (next_char cs) cs)
      (λ _. by_test Paid (eqb (tag_of l.mode) raw_start)
      (λ e. raw_token_lem (delimiter_of l.mode) (omega arith) (eqb-true _ _ e) (follow (raw_turn look (delimiter_of l.mode)) (reach_of l) cs))
      (λ _. by_test Paid (eqb (tag_of l.mode) raw_end) (λ _. inl (omega arith))
      (λ _. by_test Paid (eqb (tag_of l.mode) template_expr_format) (λ e. options_paid look edition o (eqb-true _ _ e))
      (λ _. code_paid look (next_char cs) cs))))

  -- ---- the closing brace of a template

  -- the bytes there begin with the brace
  brace_starts : byte_at s (reach_of l).byte.0 ≡ curly_close → starts_with (curly_close ∷ []) (encode_all (chars_from s (reach_of l))) ≡ true
  unfolding encode_all encode starts_with
  brace_starts e = rw (ascii_head s (reach_of l).byte.0 curly_close e (omega arith)).step

  brace_pops : l.mode ≡ mode_code template_expr 0 → symbol_token (Some (symbol kind.curly_close 1)) l ≡ one_byte (token_of kind.curly_close) Pop l
  unfolding symbol_change
  brace_pops m = rw m

  pub take_closes : (table : List ℕ) (edition : ℕ) → FitTable table → l.mode ≡ mode_code template_expr 0
      → byte_at s (reach_of l).byte.0 ≡ curly_close
      → take_token (properties_at table) edition (chars_from s (reach_of l)) l ≡ one_byte (token_of kind.curly_close) Pop l
  take_closes table edition fit m e =
      take_code (properties_at table) edition (chars_from s (reach_of l)) l (λ f. omega arith) (λ f. omega arith) (λ f. omega arith)
      (λ f. omega arith)
      ∙ sym
      (rest_symbol s table l curly_close fit e (omega arith) (above curly_close (omega arith)) (λ f. omega arith)
      (no_digit curly_close (omega arith)) (high_letter curly_close (omega arith)) refl)
      ∙ ap (λ (x : Option Symbol). symbol_token x l) (curly_close_is.is (encode_all (chars_from s (reach_of l))) (brace_starts e))
      ∙ brace_pops m
