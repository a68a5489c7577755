-- C-7, of one token and of the lexer's half of a step.
--     fit_look               every fit table gives what is asked of a look-up
--     take_line              one token from the characters p, a newline, and q
--     half_line              the lexer's half of a step
-- Assumes nothing.
use Rattle.std.specs.Prelude.{ℕ, ◌+◌, ◌<◌, ◌≡◌, refl, Bool, true, false, ◌⊎◌, eqb}
use Rattle.std.proofs.Common.{arith, subst, ◌∙◌, inr, eq-eqb, ne_eqb}
use Rattle.std.proofs.Math.Path.{sym, ap}
use Rattle.std.proofs.Math.Logic.{inl}
use mathlib.Core.List.{List, [], ◌∷◌}
use Rattle.base.specs.Pick.{pick}
use Rattle.base.specs.Range.{inside}
use Rattle.base.specs.PickLaws.{by_test, split_eq}
use Rattle.property.specs.Parts.{xid_start, xid_continue, class_of}
use Rattle.property.specs.Table.{properties_at}
use Rattle.fitness.specs.Fit.{FitTable}
use Rattle.token.specs.declared.Token.{Token}
use Rattle.text.specs.Tests.{lf, is_whitespace, is_digit, is_line_end}
use Rattle.text.specs.Tests as char
use Rattle.text.specs.Ascii.{ascii_properties}
use Rattle.text.specs.Count.{bytes_of}
use Rattle.text.specs.CountLaws.{ascii_properties_lem}
use Rattle.state.specs.Modes.{literal, template_expr_format, raw_start, raw_end, tag_of, delimiter_of, quote_of}
use Rattle.state.specs.Lexer.{reach_of, settled, stuck_at}
use Rattle.state.specs.declared.Lexer.{Lexer}
use Rattle.state.specs.declared.Taken.{Taken}
use Rattle.strings.specs.TurnLaws.{quote_ascii}
use Rattle.strings.specs.ConsumeRawString.{consume_raw_string_contents, consume_raw_string_end}
use Rattle.newlines.specs.ConsumeNewline.{consume_newline}
use Rattle.comments.specs.ConsumeComment.{consume_comment}
use Rattle.numbers.specs.ConsumeWhitespace.{consume_whitespace}
use Rattle.numbers.specs.ConsumeNumber.{consume_number}
use Rattle.names.specs.ConsumeIdOrKeyword.{consume_id_or_keyword, consume_ignored}
use Rattle.options.specs.ConsumeFormatOptions.{consume_format_options}
use Rattle.symbol_tokens.specs.ConsumeSymbol.{symbol_token, consume_symbol}
use Rattle.lexer.specs.GetNextToken.{start_string, in_literal, in_code, take_token}
use Rattle.lexer.specs.Step.{is_full, stood_still, what_of, half_of, half_at}
use Rattle.lexer.specs.declared.What.TheVariants as what
use Rattle.line.specs.Line.{line}
use Rattle.line.specs.Past.{LineLook, Past, Either, PastHalf}
use Rattle.line.specs.PastLaws.{pick_when}
use Rattle.line.specs.StringLaws.{len_ascii, quote_other, newline_line, comment_line, literal_line, raw_line}
use Rattle.line.specs.NameLaws.{whitespace_line, number_line, id_or_keyword_line, ignored_line, symbol_of_line}
use Rattle.line.specs.OptionLaws.{options_line}

pub fit_look : (table : List ℕ) → FitTable table → LineLook (properties_at table)
unfolding ascii_properties inside
fit_look table fit =
    let e : properties_at table lf ≡ 32 = sym (ascii_properties_lem table fit lf (omega arith)) in
    let f : properties_at table char.curly_close ≡ 4 = sym (ascii_properties_lem table fit char.curly_close (omega arith)) in
    record { nameless = ap xid_continue e; line_feed_lem = ap class_of e; brace = λ g. omega (arith, ap class_of f) }

module _ (look : ℕ → ℕ) (ok : LineLook look) (n : ℕ) (q r : List ℕ) (l : Lexer) where
  in_literal_line : (c quote : ℕ) (p : List ℕ) → n ≡ (reach_of l).byte.0 + bytes_of p → quote < 128 → (lf ≡ quote → ⊥)
      → Either n l (in_literal look quote c (line p q) l) (in_literal look quote c (line p r) l)
  unfolding in_literal
  in_literal_line c quote p e a o =
      pick_when (eqb c quote) (λ _. inl refl)
      (λ _. pick_when (eqb c char.curly_open) (λ _. inl refl) (λ _. literal_line look n p q r l quote a o e))

  -- at the newline
  in_code_end : in_code look lf (lf ∷ q) l ≡ in_code look lf (lf ∷ r) l
  unfolding in_code is_whitespace is_line_end
  in_code_end = newline_line [] q r l

  -- `in_code`, where t says whether c is "#"
  abbrev code_by : Bool → ℕ → List ℕ → Taken
  code_by t c cs =
      pick (is_whitespace c) (consume_whitespace cs l)
      (pick (is_line_end c) (consume_newline cs l)
      (pick t (consume_comment look cs l)
      (pick (eqb c char.double_quote) (start_string 0 l)
      (pick (eqb c char.single_quote) (start_string 1 l)
      (pick (is_digit c) (consume_number cs l)
      (pick (xid_start (look c)) (consume_id_or_keyword look cs l)
      (pick (eqb c char.underscore) (consume_ignored look cs l)
      (consume_symbol cs l))))))))

  -- where no comment begins, the token is the same
  no_comment : (c : ℕ) (p : List ℕ) → eqb c char.hash ≡ false → in_code look c (c ∷ line p q) l ≡ in_code look c (c ∷ line p r) l
  unfolding in_code
  no_comment c p h =
      ap (λ (t : Bool). code_by t c (c ∷ line p q)) h
      ∙ (λ i. pick (is_whitespace c) (whitespace_line (c ∷ p) q r l i)
      (pick (is_line_end c) (newline_line (c ∷ p) q r l i)
      (pick (eqb c char.double_quote) (start_string 0 l)
      (pick (eqb c char.single_quote) (start_string 1 l)
      (pick (is_digit c) (number_line c p q r l i)
      (pick (xid_start (look c)) (id_or_keyword_line look ok.nameless c p q r l i)
      (pick (eqb c char.underscore) (ignored_line look ok.nameless c p q r l i)
      (symbol_token (symbol_of_line (c ∷ p) q r i) l))))))))
      ∙ sym (ap (λ (t : Bool). code_by t c (c ∷ line p r)) h)

  at_comment : (p : List ℕ) → n ≡ (reach_of l).byte.0 + bytes_of (char.hash ∷ p)
      → Either n l (in_code look char.hash (char.hash ∷ line p q) l) (in_code look char.hash (char.hash ∷ line p r) l)
  unfolding in_code is_whitespace is_line_end bytes_of
  at_comment p e = comment_line look n p q r l char.hash (omega (arith, len_ascii char.hash (omega arith)))

  in_code_line : (c : ℕ) (p : List ℕ) → n ≡ (reach_of l).byte.0 + bytes_of (c ∷ p)
      → Either n l (in_code look c (c ∷ line p q) l) (in_code look c (c ∷ line p r) l)
  in_code_line c p e =
      split_eq c char.hash
      (λ h. subst (λ (x : ℕ). n ≡ (reach_of l).byte.0 + bytes_of (x ∷ p) → Either n l (in_code look x (x ∷ line p q) l) (in_code look x (x ∷ line p r) l)) (sym h)
      (at_comment p) e)
      (λ h. inl (no_comment c p (ne_eqb c char.hash h)))

  module _ (edition : ℕ) where
    -- the mode on top decides; c is the next character
    abbrev topped : ℕ → List ℕ → Taken
    topped c cs =
        pick (eqb (tag_of l.mode) literal) (in_literal look (quote_of (delimiter_of l.mode)) c cs l)
        (pick (eqb (tag_of l.mode) raw_start) (consume_raw_string_contents look (delimiter_of l.mode) cs l)
        (pick (eqb (tag_of l.mode) raw_end) (consume_raw_string_end (delimiter_of l.mode) l)
        (pick (eqb (tag_of l.mode) template_expr_format) (consume_format_options look edition cs l) (in_code look c cs l))))

    topped_line : (c : ℕ) (p : List ℕ) → n ≡ (reach_of l).byte.0 + bytes_of p
        → Either n l (in_code look c (line p q) l) (in_code look c (line p r) l) → Either n l (topped c (line p q)) (topped c (line p r))
    topped_line c p e code =
        pick_when (eqb (tag_of l.mode) literal)
        (λ _. in_literal_line c (quote_of (delimiter_of l.mode)) p e (quote_ascii (delimiter_of l.mode)) (quote_other (delimiter_of l.mode)))
        (λ _. pick_when (eqb (tag_of l.mode) raw_start) (λ _. raw_line look n p q r l (delimiter_of l.mode) e)
        (λ _. pick_when (eqb (tag_of l.mode) raw_end) (λ _. inl refl)
        (λ _. pick_when (eqb (tag_of l.mode) template_expr_format) (λ _. options_line look edition ok.line_feed_lem ok.brace n p q r l e)
        (λ _. code))))

    pub take_line : (p : List ℕ) → n ≡ (reach_of l).byte.0 + bytes_of p
        → Either n l (take_token look edition (line p q) l) (take_token look edition (line p r) l)
    unfolding take_token
    take_line [] e = topped_line lf [] e (inl in_code_end)
    take_line (c ∷ p) e = topped_line c (c ∷ p) e (in_code_line c p e)

-- ---- the lexer's half

module _ (n : ℕ) (l : Lexer) where
  still : what_of l (stuck_at (settled l)) ≡ what.Stuck
  unfolding stood_still
  still = rw (eq-eqb l.place.current_byte.0 l.place.current_byte.0 refl)

  past_half : (t : Taken) → Past n (settled l) t → PastHalf n (half_of l t)
  past_half t (inl e) =
      subst (λ (x : Taken). PastHalf n (half_of l x)) (sym e)
      (λ u f. let g : what.Stuck ≡ what.Token u = sym still ∙ f in let z : ◌≡◌ {A = ℕ} 0 1 = cc in absurd (omega arith))
  past_half t (inr h) =
      by_test (PastHalf n) (is_full t.change l.depth) (λ _ u f. let z : ◌≡◌ {A = ℕ} 0 1 = cc in absurd (omega arith))
      (λ _ u f. (h.0, λ k. h.1 (ap (λ (x : Token). x.kind) (told (stood_still l t) u f) ∙ k)))
    where
      told : (b : Bool) (u : Token) → pick b what.Stuck (what.Token t.token) ≡ what.Token u → t.token ≡ u
      told true u f = let z : ◌≡◌ {A = ℕ} 0 1 = cc in absurd (omega arith)
      told false u f = cc

module _ (look : ℕ → ℕ) (ok : LineLook look) (edition n : ℕ) (p q r : List ℕ) (l : Lexer) (e : n ≡ (reach_of l).byte.0 + bytes_of p) where
  from_taken : (cs ds : List ℕ) → Either n (settled l) (take_token look edition cs (settled l)) (take_token look edition ds (settled l))
      → (half_of l (take_token look edition cs (settled l)) ≡ half_of l (take_token look edition ds (settled l)))
      ⊎ PastHalf n (half_of l (take_token look edition cs (settled l)))
  from_taken cs ds (inl f) = inl (ap (half_of l) f)
  from_taken cs ds (inr f) = inr (past_half n l (take_token look edition cs (settled l)) f)

  pub half_line : (half_at look edition (line p q) l ≡ half_at look edition (line p r) l) ⊎ PastHalf n (half_at look edition (line p q) l)
  half_line = go p (from_taken (line p q) (line p r) (take_line look ok n q r (settled l) edition p e))
    where
      go : (p : List ℕ)
          → (half_of l (take_token look edition (line p q) (settled l)) ≡ half_of l (take_token look edition (line p r) (settled l)))
          ⊎ PastHalf n (half_of l (take_token look edition (line p q) (settled l)))
          → (half_at look edition (line p q) l ≡ half_at look edition (line p r) l) ⊎ PastHalf n (half_at look edition (line p q) l)
      go [] h = h
      go (c ∷ p) h = h
