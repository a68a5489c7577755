-- The arms of `get_next_token`'s match, each by what its character is.
--     literal_end, literal_brace, literal_rest      inside a literal
--     blank_arm .. symbol_arm                        outside strings; c is the character
-- Assumes nothing.
use Rattle.std.specs.Prelude.{ℕ, ◌%◌, ◌≤◌, ◌<◌, ◌≡◌, Bool, true, false, ◌⊎◌, List, [], ◌∷◌, eqb, length, get_or, drop}
use Rattle.std.proofs.Common.{arith, sym, ap, ◌∙◌, inl, inr}
use Rattle.std.proofs.Math.Path.{refl}
use borrow.Author.Tests.{lt-ltb, eq-eqb, ne_eqb, ltb-false}
use Rattle.base.specs.PickLaws.{by_eq, by_test}
use Rattle.base.specs.RangeLaws.{is_inside, under, over}
use Rattle.utf8.specs.Encode.{WellFormed}
use Rattle.utf8.specs.Read.{is_tail}
use Rattle.utf8.specs.Chars.{chars, At}
use Rattle.utf8.specs.CharsLaws.{not_ascii}
use Rattle.property.specs.Parts.{xid_start}
use Rattle.property.specs.Table.{properties_at}
use Rattle.fitness.specs.Ascii.{is_letter}
use Rattle.fitness.specs.Fit.{FitTable}
use Rattle.fitness.specs.SmallLaws.{ascii_start}
use Rattle.token.specs.Kind.{string_end, curly_open}
use Rattle.text.specs.Bytes.{byte_at}
use Rattle.text.specs.Tests.{is_whitespace, is_line_end, is_digit}
use Rattle.text.specs.Stands.{chars_from}
use Rattle.text.specs.FollowLaws.{here, chars_end}
use Rattle.state.specs.Modes.{template_expr, mode_code, tag_of, delimiter_of, quote_of}
use Rattle.token.specs.Token.{token_of}
use Rattle.state.specs.Lexer.{reach_of, settled}
use Rattle.state.specs.State.{Fits}
use Rattle.state.specs.declared.Change.{Change}
use Rattle.state.specs.declared.Change.TheVariants.{Keep, Push, Pop, Replace}
use Rattle.state.specs.declared.Lexer.{Lexer}
use Rattle.state.specs.declared.State.{State}
use Rattle.state.specs.declared.Taken.{Taken}
use Rattle.newlines.specs.ConsumeNewline.{consume_newline}
use Rattle.comments.specs.ConsumeComment.{consume_comment}
use Rattle.strings.specs.ConsumeStringLiteral.{consume_string_literal}
use Rattle.strings.specs.ConsumeRawString.{consume_raw_string_contents, consume_raw_string_end}
use Rattle.options.specs.ConsumeFormatOptions.{consume_format_options}
use Rattle.numbers.specs.ConsumeWhitespace.{consume_whitespace}
use Rattle.numbers.specs.ConsumeNumber.{consume_number}
use Rattle.names.specs.ConsumeIdOrKeyword.{consume_id_or_keyword, consume_ignored}
use Rattle.symbol_tokens.specs.ConsumeSymbol.{consume_symbol}
use Rattle.lexer.specs.GetNextToken.{next_char, one_byte, start_string, in_literal, in_code, take_token, remaining_at}
use Rattle.lexer.specs.Step.{is_full, half_of, half_at, half}
use Rattle.lexer.specs.Arms.{InLiteralIs, InCodeIs, Other}
use Rattle.lexer.specs.NextLaws.{next_char_lem, next_ascii, next_test}
use Rattle.lexer.specs.declared.Half.{Half}
use Rattle.lexer.specs.declared.What.TheVariants as what

module _ (look : ℕ → ℕ) (quote c : ℕ) (cs : List ℕ) (l : Lexer) where
  pub literal_end : eqb c quote ≡ true → in_literal look quote c cs l ≡ one_byte (token_of string_end) Pop l
  unfolding in_literal
  literal_end e = rw e

  pub literal_brace : eqb c quote ≡ false → eqb c 123 ≡ true
      → in_literal look quote c cs l ≡ one_byte (token_of curly_open) (Push (mode_code template_expr 0)) l
  unfolding in_literal
  literal_brace e f = rw (e, f)

  pub literal_rest : eqb c quote ≡ false → eqb c 123 ≡ false → in_literal look quote c cs l ≡ consume_string_literal look quote cs l
  unfolding in_literal
  literal_rest e f = rw (e, f)

-- ---- outside strings

-- c is above the quotes
pub above : (c : ℕ) → 39 < c → Other c
unfolding is_whitespace is_line_end
above c h =
    record {
      blank = rw (ne_eqb c 32 (λ e. omega arith), ne_eqb c 9 (λ e. omega arith));
      line = rw (ne_eqb c 10 (λ e. omega arith), ne_eqb c 13 (λ e. omega arith));
      hash = ne_eqb c 35 (λ e. omega arith);
      double = ne_eqb c 34 (λ e. omega arith);
      single = ne_eqb c 39 (λ e. omega arith);
    }

pub no_digit : (c : ℕ) → 57 < c → is_digit c ≡ false
no_digit c h = over c 48 57 h

module _ (look : ℕ → ℕ) (c : ℕ) (cs : List ℕ) (l : Lexer) where
  pub blank_arm : is_whitespace c ≡ true → in_code look c cs l ≡ consume_whitespace cs l
  unfolding in_code
  blank_arm e = rw e

  pub line_arm : is_whitespace c ≡ false → is_line_end c ≡ true → in_code look c cs l ≡ consume_newline cs l
  unfolding in_code
  line_arm e f = rw (e, f)

  pub number_arm : 48 ≤ c → c ≤ 57 → in_code look c cs l ≡ consume_number cs l
  unfolding in_code
  number_arm h k =
      let o = above c (omega arith) in
      rw (o.blank, o.line, o.hash, o.double, o.single, is_inside c 48 57 h k)

  module _ (o : Other c) (d : is_digit c ≡ false) where
    pub name_arm : xid_start (look c) ≡ true → in_code look c cs l ≡ consume_id_or_keyword look cs l
    unfolding in_code
    name_arm x = rw (o.blank, o.line, o.hash, o.double, o.single, d, x)

    pub ignored_arm : xid_start (look c) ≡ false → eqb c 95 ≡ true → in_code look c cs l ≡ consume_ignored look cs l
    unfolding in_code
    ignored_arm x e = rw (o.blank, o.line, o.hash, o.double, o.single, d, x, e)

    pub symbol_arm : xid_start (look c) ≡ false → eqb c 95 ≡ false → in_code look c cs l ≡ consume_symbol cs l
    unfolding in_code
    symbol_arm x e = rw (o.blank, o.line, o.hash, o.double, o.single, d, x, e)

module _ (look : ℕ → ℕ) (cs : List ℕ) (l : Lexer) where
  pub comment_arm : in_code look 35 cs l ≡ consume_comment look cs l
  unfolding in_code is_whitespace is_line_end
  comment_arm = refl

  pub double_arm : in_code look 34 cs l ≡ start_string 0 l
  unfolding in_code is_whitespace is_line_end
  double_arm = refl

  pub single_arm : in_code look 39 cs l ≡ start_string 1 l
  unfolding in_code is_whitespace is_line_end
  single_arm = refl

-- ---- at the lexer's place

-- c is none of the characters tested one by one
pub other : (c : ℕ) → (c ≡ 32 → ⊥) → (c ≡ 9 → ⊥) → (c ≡ 10 → ⊥) → (c ≡ 13 → ⊥) → (c ≡ 35 → ⊥) → (c ≡ 34 → ⊥) → (c ≡ 39 → ⊥) → Other c
unfolding is_whitespace is_line_end
other c sp tb lf cr ha dq sq =
    record {
      blank = rw (ne_eqb c 32 sp, ne_eqb c 9 tb);
      line = rw (ne_eqb c 10 lf, ne_eqb c 13 cr);
      hash = ne_eqb c 35 ha;
      double = ne_eqb c 34 dq;
      single = ne_eqb c 39 sq;
    }

-- the letters of ASCII
pub is_letter_lem : (c : ℕ) → 65 ≤ c → c ≤ 122 → (c ≤ 90) ⊎ (97 ≤ c) → is_letter c ≡ true
is_letter_lem c h k (inl m) = rw (is_inside c 65 90 h m)
is_letter_lem c h k (inr m) = rw (over c 65 90 (omega arith), is_inside c 97 122 m k)

pub low_letter : (c : ℕ) → c < 65 → is_letter c ≡ false
low_letter c h = rw (under c 65 90 h, under c 97 122 (omega arith))

pub mid_letter : (c : ℕ) → 90 < c → c < 97 → is_letter c ≡ false
mid_letter c h k = rw (over c 65 90 h, under c 97 122 k)

pub high_letter : (c : ℕ) → 122 < c → is_letter c ≡ false
high_letter c h = rw (over c 65 90 (omega arith), over c 97 122 h)

pub low_digit : (c : ℕ) → c < 48 → is_digit c ≡ false
low_digit c h = under c 48 57 h

module _ (s table : List ℕ) (l : Lexer) where
  -- the next character is an ASCII byte
  pub code_by_lem : (d : ℕ) → byte_at s (reach_of l).byte.0 ≡ d → d < 128 → {r : Taken}
      → r ≡ in_code (properties_at table) d (chars_from s (reach_of l)) l → InCodeIs s table l r
  code_by_lem d e h {r} q =
      q ∙ sym (ap (λ (c : ℕ). in_code (properties_at table) c (chars_from s (reach_of l)) l) (next_ascii s (reach_of l).byte.0 d e h))

  -- the next character is any that was read
  pub code_at : (c n : ℕ) → At s (reach_of l).byte.0 c n → {r : Taken}
      → r ≡ in_code (properties_at table) c (chars_from s (reach_of l)) l → InCodeIs s table l r
  code_at c n a {r} q =
      q ∙ sym (ap (λ (x : ℕ). in_code (properties_at table) x (chars_from s (reach_of l)) l) (next_char_lem s (reach_of l).byte.0 c n a))

-- a character whose first byte is no ASCII is none
pub wide : (s : List ℕ) (i c n : ℕ) → WellFormed (drop i s) → i < length s → 128 ≤ byte_at s i → At s i c n → 128 ≤ c
wide s i c n w h b a =
    let k = here s i w h in
    let e : c ≡ k.code = sym (next_char_lem s i c n a) ∙ next_char_lem s i k.code k.len k.at in
    let g : byte_at s i ≡ get_or s i 0 = rw (lt-ltb i (length s) h) in
    omega (arith, not_ascii s i k.code k.len k.read (omega arith))

-- a byte that is none of those tested one by one
module _ (s table : List ℕ) (l : Lexer) (b : ℕ) (fit : FitTable table) (e : byte_at s (reach_of l).byte.0 ≡ b) (h : b < 128) (o : Other b) where
  pub rest_number : 48 ≤ b → b ≤ 57 → {r : Taken} → r ≡ consume_number (chars_from s (reach_of l)) l → InCodeIs s table l r
  rest_number m n q = code_by_lem s table l b e h (q ∙ sym (number_arm _ b _ l m n))

  pub rest_name : is_digit b ≡ false → is_letter b ≡ true → {r : Taken}
      → r ≡ consume_id_or_keyword (properties_at table) (chars_from s (reach_of l)) l → InCodeIs s table l r
  rest_name d x q = code_by_lem s table l b e h (q ∙ sym (name_arm _ b _ l o d (ascii_start table fit b h ∙ x)))

  pub rest_symbol : (b ≡ 95 → ⊥) → is_digit b ≡ false → is_letter b ≡ false → {r : Taken}
      → r ≡ consume_symbol (chars_from s (reach_of l)) l → InCodeIs s table l r
  rest_symbol n d x q = code_by_lem s table l b e h (q ∙ sym (symbol_arm _ b _ l o d (ascii_start table fit b h ∙ x) (ne_eqb b 95 n)))

-- a character above ASCII
module _ (s table : List ℕ) (l : Lexer) (c n : ℕ) (a : At s (reach_of l).byte.0 c n) (h : 128 ≤ c) where
  pub wide_name : xid_start (properties_at table c) ≡ true → {r : Taken}
      → r ≡ consume_id_or_keyword (properties_at table) (chars_from s (reach_of l)) l → InCodeIs s table l r
  wide_name x q = code_at s table l c n a (q ∙ sym (name_arm _ c _ l (above c (omega arith)) (no_digit c (omega arith)) x))

  pub wide_symbol : xid_start (properties_at table c) ≡ false → {r : Taken}
      → r ≡ consume_symbol (chars_from s (reach_of l)) l → InCodeIs s table l r
  wide_symbol x q =
      code_at s table l c n a
      (q ∙ sym (symbol_arm _ c _ l (above c (omega arith)) (no_digit c (omega arith)) x (ne_eqb c 95 (λ e. omega arith))))

-- ---- the mode on top decides

module _ (look : ℕ → ℕ) (edition : ℕ) (cs : List ℕ) (l : Lexer) where
  pub take_literal : tag_of l.mode ≡ 1
      → take_token look edition cs l ≡ in_literal look (quote_of (delimiter_of l.mode)) (next_char cs) cs l
  unfolding take_token
  take_literal e = rw e

  pub take_format : tag_of l.mode ≡ 4 → take_token look edition cs l ≡ consume_format_options look edition cs l
  unfolding take_token
  take_format e = rw e

  pub take_contents : tag_of l.mode ≡ 5 → take_token look edition cs l ≡ consume_raw_string_contents look (delimiter_of l.mode) cs l
  unfolding take_token
  take_contents e = rw e

  pub take_end : tag_of l.mode ≡ 6 → take_token look edition cs l ≡ consume_raw_string_end (delimiter_of l.mode) l
  unfolding take_token
  take_end e = rw e

  pub take_code : (tag_of l.mode ≡ 1 → ⊥) → (tag_of l.mode ≡ 4 → ⊥) → (tag_of l.mode ≡ 5 → ⊥) → (tag_of l.mode ≡ 6 → ⊥)
      → take_token look edition cs l ≡ in_code look (next_char cs) cs l
  unfolding take_token
  take_code a b c d = rw (ne_eqb _ _ a, ne_eqb _ _ c, ne_eqb _ _ d, ne_eqb _ _ b)

pub quote_small : (delimiter : ℕ) → quote_of delimiter < 128
quote_small delimiter = by_eq (λ (q : ℕ). q < 128) (delimiter % 2) 0 (λ _. omega arith) (λ _. omega arith)

-- ---- what is left

pub remaining_end : (s : List ℕ) (i : ℕ) → length s ≤ i → remaining_at s i ≡ []
unfolding remaining_at
remaining_end s i h = by_test (λ (l : List ℕ). l ≡ []) (is_tail (get_or s i 0)) (λ _. refl) (λ _. chars_end s i h)

pub remaining_inside : (s : List ℕ) (i : ℕ) → is_tail (get_or s i 0) ≡ true → remaining_at s i ≡ []
unfolding remaining_at
remaining_inside s i e = rw e

pub remaining_some : (s : List ℕ) (i : ℕ) → is_tail (get_or s i 0) ≡ false → remaining_at s i ≡ chars (drop i s)
unfolding remaining_at
remaining_some s i e = rw e

module _ (look : ℕ → ℕ) (edition : ℕ) (s : List ℕ) (l : Lexer) where
  pub half_none : remaining_at s (reach_of l).byte.0 ≡ [] → half look edition s l ≡ record { what = what.End; lexer = l; change = Keep }
  unfolding half
  half_none e = rw e

  pub half_some : is_tail (get_or s (reach_of l).byte.0 0) ≡ false → WellFormed (drop (reach_of l).byte.0 s) → (reach_of l).byte.0 < length s
      → half look edition s l ≡ half_of l (take_token look edition (chars_from s (reach_of l)) (settled l))
  unfolding half
  half_some e w h =
      let k = here s (reach_of l).byte.0 w h in
      rw (remaining_some s (reach_of l).byte.0 e, k.at.step)

-- ---- room for the change

pub change_fits : (c : Change) (st : State) → st.modes.depth ≤ 64 → is_full c st.modes.depth ≡ false → Fits c st
change_fits Keep st h e = h
change_fits (Push code) st h e = omega (arith, ltb-false 63 st.modes.depth e)
change_fits Pop st h e = h
change_fits (Replace code) st h e = h

-- the half's change has room
half_room : (before : Lexer) (t : Taken) (st : State) → st.modes.depth ≤ 64 → before.depth ≡ st.modes.depth → Fits (half_of before t).change st
half_room before t st h e =
    by_test (λ (x : Half). Fits x.change st) (is_full t.change before.depth) (λ _. h)
    (λ f. change_fits t.change st h (ap (is_full t.change) (sym e) ∙ f))

pub half_fits : (look : ℕ → ℕ) (edition : ℕ) (s : List ℕ) (l : Lexer) (st : State) → st.modes.depth ≤ 64 → l.depth ≡ st.modes.depth
    → Fits (half look edition s l).change st
unfolding half
half_fits look edition s l st h e = go (remaining_at s (reach_of l).byte.0)
  where
    go : (cs : List ℕ) → Fits (half_at look edition cs l).change st
    go [] = h
    go (c ∷ cs) = half_room l (take_token look edition (c ∷ cs) (settled l)) st h e
