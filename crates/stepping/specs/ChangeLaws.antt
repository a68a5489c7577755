-- What each token does to the modes: `take_changes`. RawEnd gives way at once, and only the end of raw contents brings it.
-- Assumes nothing.
use Rattle.std.specs.Prelude.{ℕ, ◌+◌, ◌<◌, ◌≡◌, List, eqb, take, drop, Option, Some, None}
use native.Mathlib.Omega.{arith}
use Rattle.std.proofs.Math.Path.{refl, subst}
use Rattle.std.proofs.Common.{sym, ◌∙◌, eqb-true}
use Rattle.std.proofs.lemmas.Bool.{eqb-false}
use Rattle.base.specs.PickLaws.{by_test}
use Rattle.position.specs.Place.{along_by}
use Rattle.position.specs.declared.Reach.{Reach}
use Rattle.utf8.specs.Encode.{encode_all}
use Rattle.property.specs.Parts.{xid_start}
use Rattle.token.specs.Kind.{id, dot, colon, curly_open, curly_close}
use Rattle.words.specs.Words.{is_word, starts_with, else_word, else_if_word, r_word}
use Rattle.keywords.specs.Keywords.{keyword_of}
use Rattle.symbols.specs.Symbols.{symbol_of}
use Rattle.symbols.specs.declared.Symbol.{Symbol}
use Rattle.text.specs.Tests.{cr, lf, minus, is_whitespace, is_line_end, is_digit}
use Rattle.text.specs.Stands.{Stands, chars_from}
use Rattle.text.specs.Follow.{next_is, Followed, Closed, Open, Stopped, follow, drop_bytes}
use Rattle.state.specs.Modes.{literal, template_expr, template_expr_inline_map, template_expr_format, raw_start, raw_end, mode_code, tag_of, delimiter_of, quote_of}
use Rattle.state.specs.Lexer.{reach_of, stuck_at}
use Rattle.state.specs.declared.Change.{Change}
use Rattle.state.specs.declared.Change.TheVariants.{Keep, Push, Pop, Replace}
use Rattle.state.specs.declared.Lexer.{Lexer}
use Rattle.state.specs.declared.Taken.{Taken}
use Rattle.strings.specs.Delimited.{Delimited}
use Rattle.strings.specs.DelimitedLaws.{Before, raw_delimited}
use Rattle.newlines.specs.ConsumeNewline.{line_feed, consume_newline}
use Rattle.comments.specs.ConsumeComment.{comment_turn, comment_token, consume_comment_multi, consume_comment}
use Rattle.strings.specs.ConsumeStringLiteral.{literal_turn, literal_token, consume_string_literal}
use Rattle.strings.specs.ConsumeRawString.{raw_turn, raw_token, consume_raw_string_contents}
use Rattle.options.specs.ConsumeFormatOptions.{skip_bytes, find_brace, options_token, consume_format_options}
use Rattle.names.specs.ConsumeIdOrKeyword.{name_end, remaining, name_bytes, parse_raw_string_start, or_else, raw_or_name, keyword_or_id, name_token}
use Rattle.names.specs.NameLaws.{raw_delimiter}
use Rattle.symbol_tokens.specs.ConsumeSymbol.{symbol_change, symbol_token}
use Rattle.lexer.specs.GetNextToken.{next_char, in_literal, in_code, take_token}

-- not RawEnd
abbrev pub Other : ℕ → Type 0
Other code = tag_of code ≡ raw_end → ⊥

-- the change that a token asks for, by the mode it was read in and the byte it leads to
abbrev pub Allowed : List ℕ → ℕ → ℕ → Change → Type 0
Allowed s mode byte Keep = Other mode
Allowed s mode byte (Push code) = Other mode × Other code
Allowed s mode byte Pop = Unit {0}
Allowed s mode byte (Replace code) = tag_of code ≡ raw_end → Delimited s (delimiter_of code) byte

module _ (s : List ℕ) (l : Lexer) where
  abbrev pub Changes : Taken → Type 0
  Changes t = Allowed s l.mode (reach_of t.lexer).byte.0 t.change

  module _ (n : Other l.mode) where
    newline_changes : (cs : List ℕ) → Changes (consume_newline cs l)
    unfolding consume_newline line_feed
    newline_changes cs =
        by_test Changes (next_is cr cs) (λ _. by_test Changes (next_is lf (drop 1 cs)) (λ _. n) (λ _. n))
        (λ _. by_test Changes (next_is lf cs) (λ _. n) (λ _. n))

    comment_token_lem : (f : Followed) → Changes (comment_token l f)
    comment_token_lem (Closed end) = n
    comment_token_lem (Open end) = n
    comment_token_lem Stopped = n

    comment_changes : (look : ℕ → ℕ) (cs : List ℕ) → Changes (consume_comment look cs l)
    unfolding consume_comment consume_comment_multi
    comment_changes look cs =
        by_test Changes (next_is minus (drop 1 cs)) (λ _. comment_token_lem (follow (comment_turn look) (along_by 1 1 (reach_of l)) (drop 1 cs))) (λ _. n)

    literal_token_lem : (f : Followed) → Changes (literal_token l f)
    literal_token_lem (Closed end) = n
    literal_token_lem (Open end) = n
    literal_token_lem Stopped = n

    literal_changes : (look : ℕ → ℕ) (quote : ℕ) (cs : List ℕ) → Changes (consume_string_literal look quote cs l)
    unfolding consume_string_literal
    literal_changes look quote cs = literal_token_lem (follow (literal_turn look quote) (reach_of l) cs)

    -- the format's literal pops, or stands still
    options_token_lem : (b : Option ℕ) → Changes (options_token l b)
    options_token_lem (Some end) = tt
    options_token_lem None = n

    keyword_changes : (cs : List ℕ) (end : Reach) → Changes (keyword_or_id cs end l)
    unfolding keyword_or_id
    keyword_changes cs end =
        by_test Changes (eqb l.previous_token dot) (λ _. n)
        (λ _. by_test Changes (eqb (keyword_of (take (name_bytes l end) (remaining cs))) id) (λ _. n) (λ _. n))

    or_changes : (cs : List ℕ) (r : Option ℕ) (t : Taken) → parse_raw_string_start cs ≡ r → Changes t → Changes (or_else r l t)
    or_changes cs (Some delimiter) t e k = (n, λ f. omega (arith, raw_delimiter cs e))
    or_changes cs None t e k = k

    raw_changes : (cs : List ℕ) (end : Reach) → Changes (raw_or_name cs end l)
    unfolding raw_or_name
    raw_changes cs end =
        or_changes (drop 1 cs) (parse_raw_string_start (drop 1 cs)) (keyword_or_id cs end l) refl (keyword_changes cs end)

    name_changes : (cs : List ℕ) (end : Reach) → Changes (name_token cs end l)
    unfolding name_token
    name_changes cs end =
        by_test Changes (is_word else_word (take (name_bytes l end) (remaining cs)))
        (λ _. by_test Changes (starts_with else_if_word (remaining cs)) (λ _. n) (λ _. n))
        (λ _. by_test Changes (is_word r_word (take (name_bytes l end) (remaining cs))) (λ _. raw_changes cs end) (λ _. keyword_changes cs end))

    symbol_allowed : (byte kind : ℕ) → Allowed s l.mode byte (symbol_change l.mode kind)
    unfolding symbol_change
    symbol_allowed byte kind =
        by_test (Allowed s l.mode byte) (eqb l.mode (mode_code template_expr 0))
        (λ _. by_test (Allowed s l.mode byte) (eqb kind curly_open) (λ _. (n, λ f. omega arith))
        (λ _. by_test (Allowed s l.mode byte) (eqb kind colon) (λ _. (n, λ f. omega arith))
        (λ _. by_test (Allowed s l.mode byte) (eqb kind curly_close) (λ _. tt) (λ _. n))))
        (λ _. by_test (Allowed s l.mode byte) (eqb l.mode (mode_code template_expr_inline_map 0))
        (λ _. by_test (Allowed s l.mode byte) (eqb kind curly_close) (λ _. tt) (λ _. n)) (λ _. n))

    symbol_changes : (x : Option Symbol) → Changes (symbol_token x l)
    symbol_changes (Some x) = symbol_allowed _ x.kind
    symbol_changes None = n

    code_changes : (look : ℕ → ℕ) (c : ℕ) (cs : List ℕ) → Changes (in_code look c cs l)
    unfolding in_code
    code_changes look c cs =
        by_test Changes (is_whitespace c) (λ _. n)
        (λ _. by_test Changes (is_line_end c) (λ _. newline_changes cs)
        (λ _. by_test Changes (eqb c 35) (λ _. comment_changes look cs)
        (λ _. by_test Changes (eqb c 34) (λ _. (n, λ f. omega arith))
        (λ _. by_test Changes (eqb c 39) (λ _. (n, λ f. omega arith))
        (λ _. by_test Changes (is_digit c) (λ _. n)
        (λ _. by_test Changes (xid_start (look c)) (λ _. name_changes cs (name_end look cs l))
        (λ _. by_test Changes (eqb c 95) (λ _. n) (λ _. symbol_changes (symbol_of (encode_all cs))))))))))

    in_literal_changes : (look : ℕ → ℕ) (quote c : ℕ) (cs : List ℕ) → Changes (in_literal look quote c cs l)
    unfolding in_literal
    in_literal_changes look quote c cs =
        by_test Changes (eqb c quote) (λ _. tt)
        (λ _. by_test Changes (eqb c 123) (λ _. (n, λ f. omega arith)) (λ _. literal_changes look quote cs))

  contents_changes : (look : ℕ → ℕ) (delimiter : ℕ) → delimiter < 512 → Other l.mode → Stands s (reach_of l)
      → Changes (consume_raw_string_contents look delimiter (chars_from s (reach_of l)) l)
  unfolding consume_raw_string_contents
  contents_changes look delimiter d n o =
      go (follow (raw_turn look delimiter) (reach_of l) (chars_from s (reach_of l))) (raw_delimited look s delimiter (reach_of l) o)
    where
      go : (f : Followed) → Before look s delimiter f → Changes (raw_token delimiter l f)
      go (Closed q) b =
          let e : delimiter ≡ delimiter_of (mode_code raw_end delimiter) = omega arith in
          λ _. subst (λ (x : ℕ). Delimited s x q.byte.0) e b
      go (Open q) b = n
      go Stopped b = n

  -- a tag that is not RawEnd's
  other_tag : (tag : ℕ) → tag_of l.mode ≡ tag → (tag ≡ raw_end → ⊥) → Other l.mode
  other_tag tag e n f = n (sym e ∙ f)

  pub take_changes : (look : ℕ → ℕ) (edition : ℕ) → Stands s (reach_of l) → Changes (take_token look edition (chars_from s (reach_of l)) l)
  unfolding take_token consume_format_options
  take_changes look edition o =
      by_test Changes (eqb (tag_of l.mode) literal)
      (λ e. in_literal_changes (other_tag literal (eqb-true _ _ e) (λ f. omega arith)) look (quote_of (delimiter_of l.mode))
      (next_char (chars_from s (reach_of l))) (chars_from s (reach_of l)))
      (λ _. by_test Changes (eqb (tag_of l.mode) raw_start)
      (λ e. contents_changes look (delimiter_of l.mode) (omega arith) (other_tag raw_start (eqb-true _ _ e) (λ f. omega arith)) o)
      (λ _. by_test Changes (eqb (tag_of l.mode) raw_end) (λ _. tt)
      (λ r. by_test Changes (eqb (tag_of l.mode) template_expr_format)
      (λ _. options_token_lem (eqb-false (tag_of l.mode) raw_end r)
      (find_brace ((reach_of l).byte.0 + skip_bytes look edition (chars_from s (reach_of l)))
      (drop_bytes (skip_bytes look edition (chars_from s (reach_of l))) (chars_from s (reach_of l)))))
      (λ _. code_changes (eqb-false (tag_of l.mode) raw_end r) look (next_char (chars_from s (reach_of l))) (chars_from s (reach_of l))))))
