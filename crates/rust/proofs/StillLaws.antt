-- An Error that stands still is answered again, for ever: nothing that it read is changed but the previous token, and no arm that can stand
-- still asks for that.
--     take_again       a token that is an Error and passes no byte is taken again, once it is the previous token
--     still_again      the state after such a token is left as it is by the next call, which answers the same
--     still_for_ever   so does every call
--     none_for_ever    a call that answers None is followed by such calls only; for_ever: what a call repeats, every call repeats
-- Assumes nothing.
use Prim.Native.Nat.{ℕ, zero, suc, ◌+◌, ◌≤◌, ◌<◌}
use Rattle.std.proofs.Common.{arith, sym, ◌∙◌, inl, inr}
use Rattle.std.specs.Prelude.{◌≡◌, Bool, true, false, ◌⊎◌, Option, Some, None, List, [], ◌∷◌, eqb, drop}
use Rattle.std.specs.Prelude as prelude
use Rattle.std.proofs.Math.Path.{refl, ap}
use Rattle.std.proofs.Math.ListN.{take}
use Rattle.base.specs.Pick.{pick}
use Rattle.base.specs.PickLaws.{by_test}
use Rattle.position.specs.Place.{along_by}
use Rattle.position.specs.declared.Reach.{Reach}
use Rattle.utf8.specs.Encode.{encode_all}
use Rattle.property.specs.Parts.{xid_start}
use Rattle.token.specs.Kind.{error, id, dot, as_kind, let_kind}
use Rattle.token.specs.declared.Token.{Token}
use Rattle.words.specs.Words.{is_word, starts_with, else_word, else_if_word, r_word}
use Rattle.keywords.specs.Keywords.{keyword_of}
use Rattle.keywords.specs.KeywordsLaws.{keyword_kind}
use Rattle.symbols.specs.Symbols.{symbol_of}
use Rattle.symbols.specs.declared.Symbol.{Symbol}
use Rattle.symbols.specs.SymbolsLaws.{symbol_is}
use Rattle.text.specs.Tests.{cr, lf, minus, is_whitespace, is_line_end, is_digit}
use Rattle.text.specs.Follow.{next_is, Followed, Closed, Open, Stopped, follow, drop_bytes}
use Rattle.state.specs.Modes.{literal, template_expr_format, raw_start, raw_end, tag_of, delimiter_of, quote_of}
use Rattle.token.specs.Token.{token_of}
use Rattle.state.specs.Lexer.{reach_of, stuck_at, settled, remembered}
use Rattle.state.specs.Stack.{changed}
use Rattle.state.specs.declared.Lexer.{Lexer}
use Rattle.state.specs.declared.Taken.{Taken}
use Rattle.newlines.specs.ConsumeNewline.{line_feed, consume_newline}
use Rattle.comments.specs.ConsumeComment.{comment_turn, comment_token, consume_comment_multi, consume_comment}
use Rattle.strings.specs.ConsumeStringLiteral.{literal_turn, literal_token, consume_string_literal}
use Rattle.strings.specs.ConsumeRawString.{raw_turn, raw_token, consume_raw_string_contents}
use Rattle.options.specs.ConsumeFormatOptions.{skip_bytes, find_brace, options_token, consume_format_options}
use Rattle.names.specs.ConsumeIdOrKeyword.{name_end, remaining, name_bytes, parse_raw_string_start, or_else, raw_or_name, keyword_or_id, name_token}
use Rattle.symbol_tokens.specs.ConsumeSymbol.{symbol_token}
use Rattle.stepping.specs.FallsLaws.{From, follow_from}
use Rattle.lexer.specs.GetNextToken.{next_char, in_literal, in_code, take_token, remaining_at}
use Rattle.reading.specs.Reading.{row_of}
use Rattle.rust.specs.TokenLexer.{TokenLexer, view_of, with_fields, Given, given, given_at, get_next_token, lexed_of, lexed, state_at, handed, StandsStill}

-- two picks by one test
by_both : {A : Type 0} (P : A → A → Type 0) (t : Bool) {a b c d : A} → P a c → P b d → P (pick t a b) (pick t c d)
by_both P true f g = f
by_both P false f g = g

-- ---- a token that is taken again

-- t was taken from l, and u once an Error is the previous token. t is no Error, or passes a byte; or both stand still
pub data Again (l : Lexer) (t u : Taken) : Type 0 where
  Other : (t.token.kind ≡ error → ⊥) → Again l t u
  On : (reach_of l).byte.0 < (reach_of t.lexer).byte.0 → Again l t u
  Still : t ≡ stuck_at l → u ≡ stuck_at (remembered error l) → Again l t u

module _ (l : Lexer) where
  -- the same lexer, after an Error
  abbrev m : Lexer
  m = remembered error l

  still : Again l (stuck_at l) (stuck_at m)
  still = Still refl refl

  feed_again : (n : ℕ) (cs : List ℕ) → Again l (line_feed n cs l) (line_feed n cs m)
  unfolding line_feed
  feed_again n cs = by_both (Again l) (next_is lf cs) (Other (λ e. omega arith)) still

  newline_again : (cs : List ℕ) → Again l (consume_newline cs l) (consume_newline cs m)
  unfolding consume_newline
  newline_again cs = by_both (Again l) (next_is cr cs) (feed_again 2 (drop 1 cs)) (feed_again 1 cs)

  comment_token_lem : (f : Followed) → From ((reach_of l).byte.0 + 1) f → Again l (comment_token l f) (comment_token m f)
  comment_token_lem (Closed end) h = Other (λ e. omega arith)
  comment_token_lem (Open end) h = On (omega arith)
  comment_token_lem Stopped h = still

  comment_again : (look : ℕ → ℕ) (cs : List ℕ) → Again l (consume_comment look cs l) (consume_comment look cs m)
  unfolding consume_comment consume_comment_multi
  comment_again look cs =
      by_both (Again l) (next_is minus (drop 1 cs))
      (comment_token_lem (follow (comment_turn look) (along_by 1 1 (reach_of l)) (drop 1 cs))
      (follow_from (comment_turn look) 0 (along_by 1 1 (reach_of l)) (drop 1 cs)))
      (Other (λ e. omega arith))

  literal_token_lem : (f : Followed) → Again l (literal_token l f) (literal_token m f)
  literal_token_lem (Closed end) = Other (λ e. omega arith)
  literal_token_lem (Open end) = still
  literal_token_lem Stopped = still

  literal_again : (look : ℕ → ℕ) (quote : ℕ) (cs : List ℕ) → Again l (consume_string_literal look quote cs l) (consume_string_literal look quote cs m)
  unfolding consume_string_literal
  literal_again look quote cs = literal_token_lem (follow (literal_turn look quote) (reach_of l) cs)

  raw_token_lem : (delimiter : ℕ) (f : Followed) → Again l (raw_token delimiter l f) (raw_token delimiter m f)
  raw_token_lem delimiter (Closed end) = Other (λ e. omega arith)
  raw_token_lem delimiter (Open end) = still
  raw_token_lem delimiter Stopped = still

  contents_again : (look : ℕ → ℕ) (delimiter : ℕ) (cs : List ℕ)
      → Again l (consume_raw_string_contents look delimiter cs l) (consume_raw_string_contents look delimiter cs m)
  unfolding consume_raw_string_contents
  contents_again look delimiter cs = raw_token_lem delimiter (follow (raw_turn look delimiter) (reach_of l) cs)

  options_token_lem : (b : prelude.Option ℕ) → Again l (options_token l b) (options_token m b)
  options_token_lem (prelude.Some end) = Other (λ e. omega arith)
  options_token_lem prelude.None = still

  options_again : (look : ℕ → ℕ) (edition : ℕ) (cs : List ℕ) → Again l (consume_format_options look edition cs l) (consume_format_options look edition cs m)
  unfolding consume_format_options
  options_again look edition cs =
      options_token_lem (find_brace ((reach_of l).byte.0 + skip_bytes look edition cs) (drop_bytes (skip_bytes look edition cs) cs))

  -- ---- a name is no Error

  abbrev NoError : Taken → Type 0
  NoError t = t.token.kind ≡ error → ⊥

  keyword_other : (k : ℕ) → (k ≡ id) ⊎ ((as_kind ≤ k) × (k ≤ let_kind)) → k ≡ error → ⊥
  keyword_other k (inl q) e = omega arith
  keyword_other k (inr h) e = omega (arith, h.0)

  name_word : (cs : List ℕ) (end : Reach) → NoError (keyword_or_id cs end l)
  unfolding keyword_or_id
  name_word cs end =
      let word = take (name_bytes l end) (remaining cs) in
      by_test NoError (eqb l.previous_token dot) (λ _ e. omega arith)
      (λ _. by_test NoError (eqb (keyword_of word) id) (λ _ e. omega arith) (λ _. keyword_other (keyword_of word) (keyword_kind word)))

  or_other : (r : prelude.Option ℕ) (t : Taken) → NoError t → NoError (or_else r l t)
  or_other (prelude.Some delimiter) t n e = omega arith
  or_other prelude.None t n e = n e

  raw_other : (cs : List ℕ) (end : Reach) → NoError (raw_or_name cs end l)
  unfolding raw_or_name
  raw_other cs end = or_other (parse_raw_string_start (drop 1 cs)) (keyword_or_id cs end l) (name_word cs end)

  name_other : (cs : List ℕ) (end : Reach) → NoError (name_token cs end l)
  unfolding name_token
  name_other cs end =
      by_test NoError (is_word else_word (take (name_bytes l end) (remaining cs)))
      (λ _. by_test NoError (starts_with else_if_word (remaining cs)) (λ _ e. omega arith) (λ _ e. omega arith))
      (λ _. by_test NoError (is_word r_word (take (name_bytes l end) (remaining cs))) (λ _. raw_other cs end) (λ _. name_word cs end))

  -- ---- the arms

  symbol_again : (b : List ℕ) (x : prelude.Option Symbol) → symbol_of b ≡ x → {u : Taken} → Again l (symbol_token x l) u
  symbol_again b (prelude.Some x) e = Other (λ q. omega (arith, (symbol_is b e).kind_from))
  symbol_again b prelude.None e = On (omega arith)

  code_again : (look : ℕ → ℕ) (c : ℕ) (cs : List ℕ) → Again l (in_code look c cs l) (in_code look c cs m)
  unfolding in_code
  code_again look c cs =
      by_both (Again l) (is_whitespace c) (Other (λ e. omega arith))
      (by_both (Again l) (is_line_end c) (newline_again cs)
      (by_both (Again l) (eqb c 35) (comment_again look cs)
      (by_both (Again l) (eqb c 34) (Other (λ e. omega arith))
      (by_both (Again l) (eqb c 39) (Other (λ e. omega arith))
      (by_both (Again l) (is_digit c) (Other (λ e. omega arith))
      (by_both (Again l) (xid_start (look c)) (Other (name_other cs (name_end look cs l)))
      (by_both (Again l) (eqb c 95) (Other (λ e. omega arith)) (symbol_again (encode_all cs) (symbol_of (encode_all cs)) refl))))))))

  in_literal_again : (look : ℕ → ℕ) (quote c : ℕ) (cs : List ℕ) → Again l (in_literal look quote c cs l) (in_literal look quote c cs m)
  unfolding in_literal
  in_literal_again look quote c cs =
      by_both (Again l) (eqb c quote) (Other (λ e. omega arith))
      (by_both (Again l) (eqb c 123) (Other (λ e. omega arith)) (literal_again look quote cs))

  pub take_again : (look : ℕ → ℕ) (edition : ℕ) (cs : List ℕ) → Again l (take_token look edition cs l) (take_token look edition cs m)
  unfolding take_token
  take_again look edition cs =
      by_both (Again l) (eqb (tag_of l.mode) literal) (in_literal_again look (quote_of (delimiter_of l.mode)) (next_char cs) cs)
      (by_both (Again l) (eqb (tag_of l.mode) raw_start) (contents_again look (delimiter_of l.mode) cs)
      (by_both (Again l) (eqb (tag_of l.mode) raw_end) (Other (λ e. omega arith))
      (by_both (Again l) (eqb (tag_of l.mode) template_expr_format) (options_again look edition cs)
      (code_again look (next_char cs) cs))))

-- ---- the machine

pub some_is : (u v : Token) → ◌≡◌ {A = Option Token} (Some u) (Some v) → u ≡ v
some_is u v e = cc

module _ (look : ℕ → ℕ) (edition : ℕ) (s : List ℕ) where
  abbrev next : TokenLexer → Given
  next x = get_next_token look edition s x

  -- the call after the next answers what that does, and leaves the state that it left; the modes are those before both
  pub record Repeats (x : TokenLexer) : Type 0 where
    pub again : next (next x).after ≡ next x
    pub modes : (next x).after.string_mode_stack ≡ x.string_mode_stack

  -- a token was taken that is an Error and passes no byte
  module _ (x : TokenLexer) (c : ℕ) (cs : List ℕ) (e : remaining_at s x.current_byte.0 ≡ c ∷ cs) where
    abbrev l : Lexer
    l = settled (view_of x)

    abbrev t : Taken
    t = take_token look edition (c ∷ cs) l

    taken_again : Again l t (take_token look edition (c ∷ cs) (remembered error l)) → t.token.kind ≡ error
        → t.lexer.place.current_byte.0 ≡ x.current_byte.0
        → (next (given t x.string_mode_stack).after ≡ given t x.string_mode_stack) × (t ≡ stuck_at l)
    taken_again (Other n) k b = absurd (n k)
    taken_again (On h) k b = absurd (omega arith)
    taken_again (Still q r) k b = (
      ap (λ (v : Taken). next (given v x.string_mode_stack).after) q
          ∙ search (ap (λ (a : List ℕ). given_at look edition a (with_fields l (Some (token_of error)) x.string_mode_stack)) e)
          ∙ ap (λ (v : Taken). given v x.string_mode_stack) r
          ∙ ap (λ (v : Taken). given v x.string_mode_stack) (sym q),
      q,
    )

  -- what the next call gave is given again, it is the Error, and the modes stay
  record Stood (x : TokenLexer) (g : Given) : Type 0 where
    again : next g.after ≡ g
    token : g.token ≡ Some (token_of error)
    modes : g.after.string_mode_stack ≡ x.string_mode_stack

  at_again : (x : TokenLexer) (cs : List ℕ) → remaining_at s x.current_byte.0 ≡ cs → (u : Token) → (given_at look edition cs x).token ≡ Some u
      → u.kind ≡ error → (given_at look edition cs x).after.current_byte.0 ≡ x.current_byte.0 → Stood x (given_at look edition cs x)
  at_again x [] e u a k b = absurd (let z : ◌≡◌ {A = ℕ} 0 1 = cc in omega arith)
  at_again x (c ∷ cs) e u a k b =
      let q = some_is (t x c cs e).token u a in
      let p = taken_again x c cs e (take_again (l x c cs e) look edition (c ∷ cs)) (ap (λ (v : Token). v.kind) q ∙ k) b in
      record {
        again = p.0;
        token = ap (λ (v : Taken). Some v.token) p.1;
        modes = search (ap (λ (v : Taken). changed v.change x.string_mode_stack) p.1);
      }

  module _ (x : TokenLexer) (h : StandsStill look edition s x) where
    stood : Stood x (next x)
    stood = at_again x (remaining_at s x.current_byte.0) refl h.token h.answered h.kind (search h.byte)

    pub still_again : Repeats x
    still_again = record { again = stood.again; modes = stood.modes }

    pub still_token : (next x).token ≡ Some (token_of error)
    still_token = stood.token

  at_none : (x : TokenLexer) (cs : List ℕ) → remaining_at s x.current_byte.0 ≡ cs → (given_at look edition cs x).token ≡ None
      → (next (given_at look edition cs x).after ≡ given_at look edition cs x)
      × ((given_at look edition cs x).after.string_mode_stack ≡ x.string_mode_stack)
  at_none x [] e a = (ap (λ (cs : List ℕ). given_at look edition cs (given_at look edition [] x).after) e, refl)
  at_none x (c ∷ cs) e a = absurd (let z : ◌≡◌ {A = ℕ} 0 1 = cc in omega arith)

  pub none_again : (x : TokenLexer) → (next x).token ≡ None → Repeats x
  none_again x a = let p = at_none x (remaining_at s x.current_byte.0) refl a in record { again = p.0; modes = p.1 }

  -- a state that a call leaves as it is stays
  stays : (n : ℕ) (y : TokenLexer) → (next y).after ≡ y → state_at look edition s n y ≡ y
  unfolding state_at
  stays zero y e = refl
  stays (suc n) y e = ap (state_at look edition s n) e ∙ stays n y e

  -- of the state before it, a `LexedToken` tells the depth alone
  by_modes : (x y : TokenLexer) (o : Option Token) (after : TokenLexer) → x.string_mode_stack ≡ y.string_mode_stack
      → lexed_of x o after ≡ lexed_of y o after
  by_modes x y None after e = refl
  by_modes x y (Some t) after e = ap (λ (ms : List ℕ). Some (row_of t (view_of (with_fields (view_of x) None ms)) (view_of after))) e

  pub for_ever : (x : TokenLexer) → Repeats x → (n : ℕ) → handed look edition s n x ≡ lexed look edition s x
  unfolding handed state_at
  for_ever x e zero = refl
  for_ever x e (suc n) =
      ap (lexed look edition s) (stays n (next x).after (ap (λ (g : Given). g.after) e.again))
      ∙ ap (λ (g : Given). lexed_of (next x).after g.token g.after) e.again
      ∙ by_modes (next x).after x (next x).token (next x).after e.modes

  pub still_for_ever : (x : TokenLexer) → StandsStill look edition s x → (n : ℕ) → handed look edition s n x ≡ handed look edition s 0 x
  still_for_ever x h n = for_ever x (still_again x h) n ∙ sym (for_ever x (still_again x h) 0)

  pub none_for_ever : (x : TokenLexer) → (next x).token ≡ None → (n : ℕ) → handed look edition s n x ≡ None
  none_for_ever x a n = for_ever x (none_again x a) n ∙ ap (λ (o : Option Token). lexed_of x o (next x).after) a
