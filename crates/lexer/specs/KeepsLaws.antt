-- Every token keeps the copies of depth and top, joins what was read before it or stands still, and may be shown: `take_keeps`, by the
-- arms of `take_token` and the cases of each `consume_*`.
-- Assumes nothing.
use Rattle.std.specs.Prelude.{ℕ, ◌+◌, ◌≤◌, ◌≡◌, true, ◌⊎◌, List, eqb, drop, Option, Some, None}
use Rattle.std.proofs.Common.{arith, inl, inr}
use Rattle.std.proofs.Math.Path.{refl}
use Rattle.std.proofs.Math.ListN.{take}
use Rattle.base.specs.PickLaws.{by_test}
use Rattle.position.specs.Place.{along_by}
use Rattle.position.specs.declared.Reach.{Reach}
use Rattle.utf8.specs.Encode.{encode_all}
use Rattle.property.specs.Parts.{xid_start}
use Rattle.token.specs.Kind.{error, id, dot, as_kind, let_kind}
use Rattle.token.specs.Detail.{fits}
use Rattle.token.specs.DetailLaws.{plain_fits, raw_fits}
use Rattle.words.specs.Words.{is_word, starts_with, else_word, else_if_word, r_word}
use Rattle.keywords.specs.Keywords.{keyword_of}
use Rattle.symbols.specs.Symbols.{symbol_of}
use Rattle.symbols.specs.declared.Symbol.{Symbol}
use Rattle.symbols.specs.SymbolsLaws.{symbol_is}
use Rattle.keywords.specs.KeywordsLaws.{keyword_kind}
use Rattle.text.specs.Tests.{cr, lf, minus, is_whitespace, is_line_end, is_digit}
use Rattle.text.specs.Follow.{next_is, Followed, Closed, Open, Stopped, follow, drop_bytes}
use Rattle.state.specs.Modes.{literal, template_expr_format, raw_start, raw_end, tag_of, delimiter_of, quote_of}
use Rattle.state.specs.Lexer.{reach_of, stuck_at}
use Rattle.state.specs.declared.Change.TheVariants.{Keep}
use Rattle.state.specs.declared.Lexer.{Lexer}
use Rattle.state.specs.declared.Taken.{Taken}
use Rattle.newlines.specs.ConsumeNewline.{line_feed, consume_newline}
use Rattle.comments.specs.ConsumeComment.{comment_turn, comment_token, consume_comment_multi, consume_comment}
use Rattle.strings.specs.ConsumeStringLiteral.{literal_turn, literal_token, consume_string_literal}
use Rattle.strings.specs.ConsumeRawString.{raw_turn, raw_token, consume_raw_string_contents}
use Rattle.options.specs.ConsumeFormatOptions.{skip_bytes, find_brace, options_token, consume_format_options}
use Rattle.names.specs.ConsumeIdOrKeyword.{name_end, remaining, name_bytes, parse_raw_string_start, or_else, raw_or_name, keyword_or_id, name_token}
use Rattle.names.specs.NameLaws.{raw_delimiter}
use Rattle.symbol_tokens.specs.ConsumeSymbol.{symbol_token}
use Rattle.lexer.specs.GetNextToken.{next_char, in_literal, in_code, take_token}
use Rattle.lexer.specs.Keeps.{Keeps}

module _ (l : Lexer) where
  still : Keeps l (stuck_at l)
  still = record { depth = refl; mode = refl; place = inr (refl, refl); fits_record = refl; error_keeps = λ _. refl }

  -- a token made by an advance step from l: what is to be shown computes
  on : {t : Taken} → t.lexer.depth ≡ l.depth → t.lexer.mode ≡ l.mode → t.lexer.place.previous_byte ≡ l.place.current_byte
      → t.lexer.place.span.start ≡ l.place.span.end → fits t.token.kind t.token.detail ≡ true
      → (t.token.kind ≡ error → t.change ≡ Keep) → Keeps l t
  on d m b s f k = record { depth = d; mode = m; place = inl (record { bytes = b; span = s }); fits_record = f; error_keeps = k }

  feed_keeps : (n : ℕ) (cs : List ℕ) → Keeps l (line_feed n cs l)
  unfolding line_feed
  feed_keeps n cs = by_test (Keeps l) (next_is lf cs) (λ _. on refl refl refl refl refl (λ _. refl)) (λ _. still)

  newline_keeps : (cs : List ℕ) → Keeps l (consume_newline cs l)
  unfolding consume_newline
  newline_keeps cs = by_test (Keeps l) (next_is cr cs) (λ _. feed_keeps 2 (drop 1 cs)) (λ _. feed_keeps 1 cs)

  comment_token_lem : (f : Followed) → Keeps l (comment_token l f)
  comment_token_lem (Closed end) = on refl refl refl refl refl (λ _. refl)
  comment_token_lem (Open end) = on refl refl refl refl refl (λ _. refl)
  comment_token_lem Stopped = still

  comment_keeps : (look : ℕ → ℕ) (cs : List ℕ) → Keeps l (consume_comment look cs l)
  unfolding consume_comment consume_comment_multi
  comment_keeps look cs =
      by_test (Keeps l) (next_is minus (drop 1 cs)) (λ _. comment_token_lem (follow (comment_turn look) (along_by 1 1 (reach_of l)) (drop 1 cs)))
      (λ _. on refl refl refl refl refl (λ _. refl))

  literal_token_lem : (f : Followed) → Keeps l (literal_token l f)
  literal_token_lem (Closed end) = on refl refl refl refl refl (λ _. refl)
  literal_token_lem (Open end) = still
  literal_token_lem Stopped = still

  literal_keeps : (look : ℕ → ℕ) (quote : ℕ) (cs : List ℕ) → Keeps l (consume_string_literal look quote cs l)
  unfolding consume_string_literal
  literal_keeps look quote cs = literal_token_lem (follow (literal_turn look quote) (reach_of l) cs)

  raw_token_lem : (delimiter : ℕ) (f : Followed) → Keeps l (raw_token delimiter l f)
  raw_token_lem delimiter (Closed end) = on refl refl refl refl refl (λ e. absurd (omega arith))
  raw_token_lem delimiter (Open end) = still
  raw_token_lem delimiter Stopped = still

  contents_keeps : (look : ℕ → ℕ) (delimiter : ℕ) (cs : List ℕ) → Keeps l (consume_raw_string_contents look delimiter cs l)
  unfolding consume_raw_string_contents
  contents_keeps look delimiter cs = raw_token_lem delimiter (follow (raw_turn look delimiter) (reach_of l) cs)

  options_token_lem : (b : Option ℕ) → Keeps l (options_token l b)
  options_token_lem (Some end) = on refl refl refl refl refl (λ e. absurd (omega arith))
  options_token_lem None = still

  options_keeps : (look : ℕ → ℕ) (edition : ℕ) (cs : List ℕ) → Keeps l (consume_format_options look edition cs l)
  unfolding consume_format_options
  options_keeps look edition cs =
      options_token_lem (find_brace ((reach_of l).byte.0 + skip_bytes look edition cs) (drop_bytes (skip_bytes look edition cs) cs))

  -- a keyword's kind is none over 80
  keyword_fits : (k : ℕ) → (k ≡ id) ⊎ ((as_kind ≤ k) × (k ≤ let_kind)) → fits k 0 ≡ true
  keyword_fits k (inl e) = plain_fits k (omega arith)
  keyword_fits k (inr h) = plain_fits k h.1

  keyword_keeps : (cs : List ℕ) (end : Reach) → Keeps l (keyword_or_id cs end l)
  unfolding keyword_or_id
  keyword_keeps cs end =
      let word = take (name_bytes l end) (remaining cs) in
      by_test (Keeps l) (eqb l.previous_token dot) (λ _. on refl refl refl refl refl (λ _. refl))
      (λ _. by_test (Keeps l) (eqb (keyword_of word) id) (λ _. on refl refl refl refl refl (λ _. refl))
      (λ _. on refl refl refl refl (keyword_fits (keyword_of word) (keyword_kind word)) (λ _. refl)))

  or_keeps : (cs : List ℕ) (r : Option ℕ) (t : Taken) → parse_raw_string_start cs ≡ r → Keeps l t → Keeps l (or_else r l t)
  or_keeps cs (Some delimiter) t e k = on refl refl refl refl (raw_fits delimiter (raw_delimiter cs e)) (λ q. absurd (omega arith))
  or_keeps cs None t e k = k

  raw_keeps : (cs : List ℕ) (end : Reach) → Keeps l (raw_or_name cs end l)
  unfolding raw_or_name
  raw_keeps cs end = or_keeps (drop 1 cs) (parse_raw_string_start (drop 1 cs)) (keyword_or_id cs end l) refl (keyword_keeps cs end)

  name_keeps : (cs : List ℕ) (end : Reach) → Keeps l (name_token cs end l)
  unfolding name_token
  name_keeps cs end =
      by_test (Keeps l) (is_word else_word (take (name_bytes l end) (remaining cs)))
      (λ _. by_test (Keeps l) (starts_with else_if_word (remaining cs)) (λ _. on refl refl refl refl refl (λ _. refl)) (λ _. on refl refl refl refl refl (λ _. refl)))
      (λ _. by_test (Keeps l) (is_word r_word (take (name_bytes l end) (remaining cs))) (λ _. raw_keeps cs end) (λ _. keyword_keeps cs end))

  symbol_keeps : (b : List ℕ) (x : Option Symbol) → symbol_of b ≡ x → Keeps l (symbol_token x l)
  symbol_keeps b (Some x) e =
      on refl refl refl refl (plain_fits x.kind (omega (arith, (symbol_is b e).kind_to))) (λ q. absurd (omega (arith, (symbol_is b e).kind_from)))
  symbol_keeps b None e = on refl refl refl refl refl (λ _. refl)

  code_keeps : (look : ℕ → ℕ) (c : ℕ) (cs : List ℕ) → Keeps l (in_code look c cs l)
  unfolding in_code
  code_keeps look c cs =
      by_test (Keeps l) (is_whitespace c) (λ _. on refl refl refl refl refl (λ _. refl))
      (λ _. by_test (Keeps l) (is_line_end c) (λ _. newline_keeps cs)
      (λ _. by_test (Keeps l) (eqb c 35) (λ _. comment_keeps look cs)
      (λ _. by_test (Keeps l) (eqb c 34) (λ _. on refl refl refl refl refl (λ e. absurd (omega arith)))
      (λ _. by_test (Keeps l) (eqb c 39) (λ _. on refl refl refl refl refl (λ e. absurd (omega arith)))
      (λ _. by_test (Keeps l) (is_digit c) (λ _. on refl refl refl refl refl (λ _. refl))
      (λ _. by_test (Keeps l) (xid_start (look c)) (λ _. name_keeps cs (name_end look cs l))
      (λ _. by_test (Keeps l) (eqb c 95) (λ _. on refl refl refl refl refl (λ _. refl)) (λ _. symbol_keeps (encode_all cs) (symbol_of (encode_all cs)) refl))))))))

  in_literal_keeps : (look : ℕ → ℕ) (quote c : ℕ) (cs : List ℕ) → Keeps l (in_literal look quote c cs l)
  unfolding in_literal
  in_literal_keeps look quote c cs =
      by_test (Keeps l) (eqb c quote) (λ _. on refl refl refl refl refl (λ e. absurd (omega arith)))
      (λ _. by_test (Keeps l) (eqb c 123) (λ _. on refl refl refl refl refl (λ e. absurd (omega arith))) (λ _. literal_keeps look quote cs))

  pub take_keeps : (look : ℕ → ℕ) (edition : ℕ) (cs : List ℕ) → Keeps l (take_token look edition cs l)
  unfolding take_token
  take_keeps look edition cs =
      by_test (Keeps l) (eqb (tag_of l.mode) literal) (λ _. in_literal_keeps look (quote_of (delimiter_of l.mode)) (next_char cs) cs)
      (λ _. by_test (Keeps l) (eqb (tag_of l.mode) raw_start) (λ _. contents_keeps look (delimiter_of l.mode) cs)
      (λ _. by_test (Keeps l) (eqb (tag_of l.mode) raw_end) (λ _. on refl refl refl refl refl (λ e. absurd (omega arith)))
      (λ _. by_test (Keeps l) (eqb (tag_of l.mode) template_expr_format) (λ _. options_keeps look edition cs)
      (λ _. code_keeps look (next_char cs) cs))))
