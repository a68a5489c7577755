-- What each token does to the modes, proved arm by arm.
--     take_moves       of every token
--     newline_keeps    so a NewLine leaves them
-- Assumes nothing.
use Rattle.std.specs.Prelude.{ℕ, ◌+◌, ◌≡◌, List, eqb, take, drop, Option, Some, None}
use Rattle.std.proofs.Common.{arith, eqb-true}
use Rattle.std.proofs.Math.Path.{refl}
use Rattle.std.proofs.lemmas.Bool.{eqb-false}
use Rattle.base.specs.PickLaws.{by_test}
use Rattle.position.specs.Place.{along_by}
use Rattle.position.specs.declared.Reach.{Reach}
use Rattle.utf8.specs.Encode.{encode_all}
use Rattle.property.specs.Parts.{xid_start}
use Rattle.token.specs.Kind.{new_line, id, dot, colon, curly_open, curly_close}
use Rattle.token.specs.Token.{token_of}
use Rattle.token.specs.declared.Token.{Token}
use Rattle.words.specs.Words.{is_word, starts_with, else_word, else_if_word, r_word}
use Rattle.keywords.specs.Keywords.{keyword_of}
use Rattle.symbols.specs.Symbols.{symbol_of}
use Rattle.symbols.specs.declared.Symbol.{Symbol}
use Rattle.text.specs.Tests as char
use Rattle.text.specs.Tests.{cr, lf, minus, is_whitespace, is_line_end, is_digit}
use Rattle.text.specs.Follow.{next_is, Followed, Closed, Open, Stopped, follow, drop_bytes}
use Rattle.state.specs.Modes.{literal, template_expr, template_expr_format, template_expr_inline_map, raw_start, raw_end, mode_code, tag_of, delimiter_of, quote_of}
use Rattle.state.specs.Lexer.{reach_of}
use Rattle.state.specs.declared.Change.{Change}
use Rattle.state.specs.declared.Change.TheVariants.{Keep, Push, Pop, Replace}
use Rattle.state.specs.declared.Lexer.{Lexer}
use Rattle.state.specs.declared.Taken.{Taken}
use Rattle.newlines.specs.ConsumeNewline.{line_feed, consume_newline}
use Rattle.comments.specs.ConsumeComment.{comment_turn, comment_token, consume_comment_multi, consume_comment}
use Rattle.strings.specs.ConsumeStringLiteral.{literal_turn, literal_token, consume_string_literal}
use Rattle.strings.specs.ConsumeRawString.{raw_turn, raw_token, consume_raw_string_contents}
use Rattle.options.specs.ConsumeFormatOptions.{skip_bytes, find_brace, options_token, consume_format_options}
use Rattle.names.specs.ConsumeIdOrKeyword.{name_end, remaining, name_bytes, parse_raw_string_start, or_else, raw_or_name, keyword_or_id, name_token}
use Rattle.symbol_tokens.specs.ConsumeSymbol.{symbol_change, symbol_token}
use Rattle.lexer.specs.GetNextToken.{next_char, in_literal, in_code, take_token}
use Rattle.moves.specs.Moves as opens
use Rattle.moves.specs.Moves.{Moves, Closes}

module _ (l : Lexer) where
  abbrev Does : Taken → Type 0
  Does t = Moves l.mode t.token t.change

  newline_does : (cs : List ℕ) → Does (consume_newline cs l)
  unfolding consume_newline line_feed
  newline_does cs =
      by_test Does (next_is cr cs) (λ _. by_test Does (next_is lf (drop 1 cs)) (λ _. tt) (λ _. tt))
      (λ _. by_test Does (next_is lf cs) (λ _. tt) (λ _. tt))

  comment_token_lem : (f : Followed) → Does (comment_token l f)
  comment_token_lem (Closed end) = tt
  comment_token_lem (Open end) = tt
  comment_token_lem Stopped = tt

  comment_does : (look : ℕ → ℕ) (cs : List ℕ) → Does (consume_comment look cs l)
  unfolding consume_comment consume_comment_multi
  comment_does look cs =
      by_test Does (next_is minus (drop 1 cs)) (λ _. comment_token_lem (follow (comment_turn look) (along_by 1 1 (reach_of l)) (drop 1 cs))) (λ _. tt)

  literal_token_lem : (f : Followed) → Does (literal_token l f)
  literal_token_lem (Closed end) = tt
  literal_token_lem (Open end) = tt
  literal_token_lem Stopped = tt

  raw_token_lem : tag_of l.mode ≡ raw_start → (delimiter : ℕ) (f : Followed) → Does (raw_token delimiter l f)
  raw_token_lem e delimiter (Closed end) = (e, refl)
  raw_token_lem e delimiter (Open end) = tt
  raw_token_lem e delimiter Stopped = tt

  options_token_lem : (b : Option ℕ) → Does (options_token l b)
  options_token_lem (Some end) = opens.options refl
  options_token_lem None = tt

  keyword_does : (cs : List ℕ) (end : Reach) → Does (keyword_or_id cs end l)
  unfolding keyword_or_id
  keyword_does cs end =
      by_test Does (eqb l.previous_token dot) (λ _. tt)
      (λ _. by_test Does (eqb (keyword_of (take (name_bytes l end) (remaining cs))) id) (λ _. tt) (λ _. tt))

  or_does : (r : Option ℕ) (t : Taken) → Does t → Does (or_else r l t)
  or_does (Some delimiter) t k = opens.raw refl (omega arith)
  or_does None t k = k

  name_does : (cs : List ℕ) (end : Reach) → Does (name_token cs end l)
  unfolding name_token raw_or_name
  name_does cs end =
      by_test Does (is_word else_word (take (name_bytes l end) (remaining cs)))
      (λ _. by_test Does (starts_with else_if_word (remaining cs)) (λ _. tt) (λ _. tt))
      (λ _. by_test Does (is_word r_word (take (name_bytes l end) (remaining cs)))
      (λ _. or_does (parse_raw_string_start (drop 1 cs)) (keyword_or_id cs end l) (keyword_does cs end)) (λ _. keyword_does cs end))

  change_does : (kind : ℕ) → Moves l.mode (token_of kind) (symbol_change l.mode kind)
  unfolding symbol_change
  change_does kind =
      let M : Change → Type 0 = Moves l.mode (token_of kind) in
      by_test M (eqb l.mode (mode_code template_expr 0))
      (λ e. by_test M (eqb kind curly_open) (λ k. opens.map (eqb-true _ _ e) (eqb-true _ _ k) refl)
      (λ _. by_test M (eqb kind colon) (λ k. opens.options (eqb-true _ _ e) (eqb-true _ _ k) refl)
      (λ _. by_test M (eqb kind curly_close) (λ k. opens.brace (eqb-true _ _ k)) (λ _. tt))))
      (λ _. by_test M (eqb l.mode (mode_code template_expr_inline_map 0))
      (λ _. by_test M (eqb kind curly_close) (λ k. opens.brace (eqb-true _ _ k)) (λ _. tt)) (λ _. tt))

  symbol_does : (x : Option Symbol) → Does (symbol_token x l)
  symbol_does (Some x) = change_does x.kind
  symbol_does None = tt

  -- in code: the top is neither a string's nor that of format options
  module _ (no-string : tag_of l.mode ≡ literal → ⊥) (no_options_lem : tag_of l.mode ≡ template_expr_format → ⊥) where
    code_does : (look : ℕ → ℕ) (c : ℕ) (cs : List ℕ) → Does (in_code look c cs l)
    unfolding in_code
    code_does look c cs =
        by_test Does (is_whitespace c) (λ _. tt)
        (λ _. by_test Does (is_line_end c) (λ _. newline_does cs)
        (λ _. by_test Does (eqb c char.hash) (λ _. comment_does look cs)
        (λ _. by_test Does (eqb c char.double_quote) (λ _. opens.string no-string no_options_lem refl refl)
        (λ _. by_test Does (eqb c char.single_quote) (λ _. opens.string no-string no_options_lem refl refl)
        (λ _. by_test Does (is_digit c) (λ _. tt)
        (λ _. by_test Does (xid_start (look c)) (λ _. name_does cs (name_end look cs l))
        (λ _. by_test Does (eqb c char.underscore) (λ _. tt) (λ _. symbol_does (symbol_of (encode_all cs))))))))))

  literal_does : (look : ℕ → ℕ) (quote c : ℕ) (cs : List ℕ) → tag_of l.mode ≡ literal → Does (in_literal look quote c cs l)
  unfolding in_literal consume_string_literal
  literal_does look quote c cs e =
      by_test Does (eqb c quote) (λ _. opens.string refl)
      (λ _. by_test Does (eqb c char.curly_open) (λ _. opens.expression e refl refl)
      (λ _. literal_token_lem (follow (literal_turn look quote) (reach_of l) cs)))

  pub take_moves : (look : ℕ → ℕ) (edition : ℕ) (cs : List ℕ) → Does (take_token look edition cs l)
  unfolding take_token consume_raw_string_contents consume_format_options
  take_moves look edition cs =
      by_test Does (eqb (tag_of l.mode) literal)
      (λ e. literal_does look (quote_of (delimiter_of l.mode)) (next_char cs) cs (eqb-true _ _ e))
      (λ e. by_test Does (eqb (tag_of l.mode) raw_start)
      (λ r. raw_token_lem (eqb-true _ _ r) (delimiter_of l.mode) (follow (raw_turn look (delimiter_of l.mode)) (reach_of l) cs))
      (λ _. by_test Does (eqb (tag_of l.mode) raw_end) (λ _. opens.string refl)
      (λ _. by_test Does (eqb (tag_of l.mode) template_expr_format)
      (λ _. options_token_lem (find_brace ((reach_of l).byte.0 + skip_bytes look edition cs) (drop_bytes (skip_bytes look edition cs) cs)))
      (λ o. code_does (eqb-false (tag_of l.mode) literal e) (eqb-false (tag_of l.mode) template_expr_format o) look (next_char cs) cs))))

-- ---- a NewLine

opens_other : {mode code : ℕ} (t : Token) → opens.Opens mode t code → t.kind ≡ new_line → ⊥
opens_other t (opens.string s o k c) n = omega (arith, k)
opens_other t (opens.raw k d) n = omega (arith, k)
opens_other t (opens.expression m k c) n = omega (arith, k)
opens_other t (opens.map m k c) n = omega (arith, k)
opens_other t (opens.options m k c) n = omega (arith, k)

closes_other : (t : Token) → Closes t → t.kind ≡ new_line → ⊥
closes_other t (opens.string k) n = omega (arith, k)
closes_other t (opens.brace k) n = omega (arith, k)
closes_other t (opens.options k) n = omega (arith, k)

pub newline_keeps : (mode : ℕ) (t : Token) (c : Change) → Moves mode t c → t.kind ≡ new_line → c ≡ Keep
newline_keeps mode t Keep m n = refl
newline_keeps mode t (Push code) m n = absurd (opens_other t m n)
newline_keeps mode t Pop m n = absurd (closes_other t m n)
newline_keeps mode t (Replace code) m n = absurd (omega (arith, m.1))
