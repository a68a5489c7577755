-- C-7, of whitespace, numbers, names and symbols: they are the same whatever stands behind the newline, with no other case, since no test of
-- theirs is passed by a newline.
--     whitespace_line, number_line, id_or_keyword_line, ignored_line, symbol-line
-- Assumes nothing.
use Rattle.std.specs.Prelude.{ℕ, suc, ◌+◌, ◌*◌, ◌≤◌, ◌≡◌, Bool, true, false, ◌&&◌, ◌||◌, ltb, eqb, length, take, drop, Option, Some, None}
use Rattle.std.proofs.Common.{arith, ◌∙◌, length-append}
use Rattle.std.proofs.Math.Path.{refl, sym, ap}
use mathlib.Core.List.{List, [], ◌∷◌}
use Rattle.std.proofs.lemmas.List.{take-append-le}
use Rattle.base.specs.Pick.{pick}
use Rattle.base.specs.Range.{inside}
use Rattle.position.specs.Place.{along_by}
use Rattle.position.specs.declared.Reach.{Reach}
use Rattle.utf8.specs.Encode.{encode, encode_all}
use Rattle.utf8.specs.EncodeLaws.{all_append}
use Rattle.property.specs.Parts.{xid_continue}
use Rattle.token.specs.Kind.{id, else, else_if, number, whitespace, underscore}
use Rattle.token.specs.Kind as kind
use Rattle.words.specs.Words.{Entry, is_word, starts_with, first_in, else_word, else_if_word, r_word}
use Rattle.keywords.specs.Keywords.{keyword_of}
use Rattle.symbols.specs.Symbols.{symbols, found, symbol_in, symbol_of}
use Rattle.text.specs.Tests.{lf, plus, minus, dot, zero_digit, letter_b, letter_e, letter_o, letter_x, double_quote, single_quote, is_hash, id_continue, is_whitespace, is_binary_digit, is_octal_digit, is_decimal_digit, is_hex_digit, test_utf8_of}
use Rattle.text.specs.Count.{len_utf8, bytes_of, count_while}
use Rattle.text.specs.Follow.{next_is}
use Rattle.state.specs.Lexer.{reach_of, token_to, token_along, indented}
use Rattle.state.specs.declared.Lexer.{Lexer}
use Rattle.numbers.specs.ConsumeWhitespace.{consume_whitespace}
use Rattle.numbers.specs.ConsumeNumber.{next_passes, exponent_bytes, is_fraction, fraction_bytes, tail_bytes, zero_bytes, number_bytes, consume_number}
use Rattle.names.specs.ConsumeIdOrKeyword.{name_end, name_bytes, parse_raw_string_start, keyword_or_id, or_else, raw_or_name, name_token, consume_id_or_keyword, consume_ignored}
use Rattle.line.specs.Line.{line}
use Rattle.line.specs.LineLaws.{next_line_lem, count_line, rest_line, run_line, run_most}

-- ---- whitespace and numbers

count_same : (f : ℕ → Bool) → f lf ≡ false → (p q r : List ℕ) → count_while f (line p q) ≡ count_while f (line p r)
count_same f h p q r = count_line f h p q ∙ sym (count_line f h p r)

blank : is_whitespace lf ≡ false
unfolding is_whitespace
blank = refl

binary : is_binary_digit lf ≡ false
unfolding is_binary_digit inside
binary = refl

octal : is_octal_digit lf ≡ false
unfolding is_octal_digit inside
octal = refl

decimal : is_decimal_digit lf ≡ false
unfolding is_decimal_digit inside
decimal = refl

hex : is_hex_digit lf ≡ false
unfolding is_hex_digit inside
hex = refl

pub whitespace_line : (p q r : List ℕ) (l : Lexer) → consume_whitespace (line p q) l ≡ consume_whitespace (line p r) l
whitespace_line p q r l = ap (λ (n : ℕ). token_along whitespace n (indented n l)) (count_same is_whitespace blank p q r)

exponent_line : (p q r : List ℕ) → exponent_bytes (line p q) ≡ exponent_bytes (line p r)
unfolding exponent_bytes next_is
exponent_line [] q r = refl
exponent_line (c ∷ []) q r = λ i. pick (eqb c letter_e) (1 + count_same is_decimal_digit decimal [] q r i) 0
exponent_line (c ∷ d ∷ p) q r =
    λ i. pick (eqb c letter_e)
    (pick (eqb d plus || eqb d minus) (2 + count_same is_decimal_digit decimal p q r i) (1 + count_same is_decimal_digit decimal (d ∷ p) q r i)) 0

is_fraction_line : (p q r : List ℕ) → is_fraction (line p q) ≡ is_fraction (line p r)
unfolding is_fraction next_is next_passes
is_fraction_line [] q r = refl
is_fraction_line (c ∷ []) q r = refl
is_fraction_line (c ∷ d ∷ p) q r = refl

fraction_line : (p q r : List ℕ) → fraction_bytes (line p q) ≡ fraction_bytes (line p r)
unfolding fraction_bytes
fraction_line p q r = up_to q ∙ ap (λ (n : ℕ). count_while is_decimal_digit p + n) (exponent_line rest q r) ∙ sym (up_to r)
  where
    rest : List ℕ
    rest = drop (count_while is_decimal_digit p) p

    up_to : (x : List ℕ) → fraction_bytes (line p x) ≡ count_while is_decimal_digit p + exponent_bytes (line rest x)
    up_to x = λ i. count_line is_decimal_digit decimal p x i + exponent_bytes (rest_line is_decimal_digit decimal p x i)

tail_line : (p q r : List ℕ) → tail_bytes (line p q) ≡ tail_bytes (line p r)
unfolding tail_bytes next_is
tail_line [] q r = exponent_line [] q r
tail_line (c ∷ p) q r =
    λ i. pick (eqb c dot) (pick (is_fraction_line p q r i) (1 + fraction_line p q r i) 0) (exponent_line (c ∷ p) q r i)

zero_line : (p q r : List ℕ) → zero_bytes (line p q) ≡ zero_bytes (line p r)
unfolding zero_bytes next_is
zero_line [] q r = tail_line [] q r
zero_line (c ∷ p) q r =
    λ i. pick (eqb c letter_b) (1 + count_same is_binary_digit binary p q r i)
    (pick (eqb c letter_o) (1 + count_same is_octal_digit octal p q r i)
    (pick (eqb c letter_x) (1 + count_same is_hex_digit hex p q r i) (tail_line (c ∷ p) q r i)))

number_bytes_line : (c : ℕ) (p q r : List ℕ) → number_bytes (c ∷ line p q) ≡ number_bytes (c ∷ line p r)
unfolding number_bytes next_is
number_bytes_line c p q r =
    up_to q
    ∙ (λ i. 1 + k + pick (eqb c zero_digit && eqb (1 + k) 1) (zero_line rest q r i) (tail_line rest q r i))
    ∙ sym (up_to r)
  where
    k : ℕ
    k = count_while is_decimal_digit p

    rest : List ℕ
    rest = drop k p

    behind : (x : List ℕ) → drop (1 + count_while is_decimal_digit (line p x)) (c ∷ line p x) ≡ line rest x
    behind x =
        let e : 1 + count_while is_decimal_digit (line p x) ≡ suc (count_while is_decimal_digit (line p x)) = omega arith in
        ap (λ (n : ℕ). drop n (c ∷ line p x)) e ∙ rest_line is_decimal_digit decimal p x

    up_to : (x : List ℕ) → number_bytes (c ∷ line p x)
        ≡ 1 + k + pick (eqb c zero_digit && eqb (1 + k) 1) (zero_bytes (line rest x)) (tail_bytes (line rest x))
    up_to x =
        λ i. 1 + count_line is_decimal_digit decimal p x i
        + pick (eqb c zero_digit && eqb (1 + count_line is_decimal_digit decimal p x i) 1) (zero_bytes (behind x i)) (tail_bytes (behind x i))

pub number_line : (c : ℕ) (p q r : List ℕ) (l : Lexer) → consume_number (c ∷ line p q) l ≡ consume_number (c ∷ line p r) l
number_line c p q r l = ap (λ (n : ℕ). token_along number n l) (number_bytes_line c p q r)

-- ---- words

-- no byte of a word is a newline
abbrev free : List ℕ → Bool
free [] = true
free (c ∷ w) = pick (eqb lf c) false (free w)

abbrev all_free : List Entry → Bool
all_free [] = true
all_free (e ∷ es) = pick (free e.text) (all_free es) false

free_first : (t u : Bool) → pick t false u ≡ true → (t ≡ false) × (u ≡ true)
free_first true u e = let z : ◌≡◌ {A = ℕ} 0 1 = cc in absurd (omega arith)
free_first false u e = (refl, e)

all_first : (t u : Bool) → pick t u false ≡ true → (t ≡ true) × (u ≡ true)
all_first true u e = (refl, e)
all_first false u e = let z : ◌≡◌ {A = ℕ} 0 1 = cc in absurd (omega arith)

starts_line : (w : List ℕ) → free w ≡ true → (a x y : List ℕ) → starts_with w (line a x) ≡ starts_with w (line a y)
unfolding starts_with
starts_line [] f a x y = refl
starts_line (c ∷ w) f [] x y =
    let e = (free_first (eqb lf c) (free w) f).0 in
    ap (λ (b : Bool). b && starts_with w x) e ∙ sym (ap (λ (b : Bool). b && starts_with w y) e)
starts_line (c ∷ w) f (b ∷ a) x y = λ i. eqb b c && starts_line w (free_first (eqb lf c) (free w) f).1 a x y i

symbol_in_line : (es : List Entry) → all_free es ≡ true → (a x y : List ℕ) → symbol_in es (line a x) ≡ symbol_in es (line a y)
unfolding symbol_in first_in
symbol_in_line [] f a x y = refl
symbol_in_line (e ∷ es) f a x y =
    let g = all_first (free e.text) (all_free es) f in
    λ i. pick (starts_line e.text g.0 a x y i) (found e) (symbol_in_line es g.1 a x y i)

-- the newline is one byte
pub bytes_line : (p q : List ℕ) → encode_all (line p q) ≡ line (encode_all p) (encode_all q)
unfolding encode_all encode
bytes_line p q = all_append p (lf ∷ q)

pub symbol_of_line : (p q r : List ℕ) → symbol_of (encode_all (line p q)) ≡ symbol_of (encode_all (line p r))
unfolding symbol_of
symbol_of_line p q r =
    ap (symbol_in symbols) (bytes_line p q)
    ∙ symbol_in_line symbols refl (encode_all p) (encode_all q) (encode_all r)
    ∙ sym (ap (symbol_in symbols) (bytes_line p r))

-- ---- names

pub bytes_length : (p : List ℕ) → length (encode_all p) ≡ bytes_of p
unfolding encode_all bytes_of
bytes_length [] = refl
bytes_length (c ∷ p) = omega (arith, length-append (encode c) (encode_all p), bytes_length p)

hashless : is_hash lf ≡ false
hashless = refl

raw_start_line : (p q r : List ℕ) → parse_raw_string_start (line p q) ≡ parse_raw_string_start (line p r)
unfolding parse_raw_string_start
raw_start_line p q r =
    up_to q
    ∙ (λ i. found_at (next_line_lem double_quote rest q r i) (next_line_lem single_quote rest q r i) k)
    ∙ sym (up_to r)
  where
    k : ℕ
    k = count_while is_hash p

    rest : List ℕ
    rest = drop k p

    found_at : Bool → Bool → ℕ → Option ℕ
    found_at double single n = pick (ltb 255 n) None (pick double (Some (2 * n)) (pick single (Some (2 * n + 1)) None))

    up_to : (x : List ℕ) → parse_raw_string_start (line p x) ≡ found_at (next_is double_quote (line rest x)) (next_is single_quote (line rest x)) k
    up_to x =
        λ i. found_at (next_is double_quote (rest_line is_hash hashless p x i)) (next_is single_quote (rest_line is_hash hashless p x i)) (count_line is_hash hashless p x i)

module _ (l : Lexer) (end : Reach) (c : ℕ) (p q r : List ℕ) (within : name_bytes l end ≤ length (encode_all (c ∷ p))) where
  name_same : take (name_bytes l end) (encode_all (c ∷ line p q)) ≡ take (name_bytes l end) (encode_all (c ∷ line p r))
  name_same = up_to q ∙ sym (up_to r)
    where
      up_to : (x : List ℕ) → take (name_bytes l end) (encode_all (c ∷ line p x)) ≡ take (name_bytes l end) (encode_all (c ∷ p))
      up_to x =
          ap (take (name_bytes l end)) (bytes_line (c ∷ p) x)
          ∙ take-append-le (name_bytes l end) (encode_all (c ∷ p)) (lf ∷ encode_all x) within

  keyword_line : keyword_or_id (c ∷ line p q) end l ≡ keyword_or_id (c ∷ line p r) end l
  unfolding keyword_or_id
  keyword_line =
      ap (λ (name : List ℕ). pick (eqb l.previous_token kind.dot) (token_to id end l) (pick (eqb (keyword_of name) id) (token_to id end l) (token_along (keyword_of name) (name_bytes l end) l)))
      name_same

  name_token_line : name_token (c ∷ line p q) end l ≡ name_token (c ∷ line p r) end l
  unfolding name_token raw_or_name
  name_token_line =
      let if : starts_with else_if_word (encode_all (c ∷ line p q)) ≡ starts_with else_if_word (encode_all (c ∷ line p r)) =
      ap (starts_with else_if_word) (bytes_line (c ∷ p) q)
      ∙ starts_line else_if_word refl (encode_all (c ∷ p)) (encode_all q) (encode_all r)
      ∙ sym (ap (starts_with else_if_word) (bytes_line (c ∷ p) r)) in
      λ i. pick (is_word else_word (name_same i)) (pick (if i) (token_along else_if 7 l) (token_along else 4 l))
      (pick (is_word r_word (name_same i)) (or_else (raw_start_line p q r i) l (keyword_line i)) (keyword_line i))

module _ (look : ℕ → ℕ) (ends : xid_continue (look lf) ≡ false) (c : ℕ) (p q r : List ℕ) (l : Lexer) where
  name_end_line : (x : List ℕ) → name_end look (c ∷ line p x) l ≡ name_end look (c ∷ p) l
  unfolding name_end id_continue
  name_end_line x = run_line (test_utf8_of look id_continue) look ends (along_by (len_utf8 c) 1 (reach_of l)) p x

  name_most : name_bytes l (name_end look (c ∷ p) l) ≤ length (encode_all (c ∷ p))
  unfolding name_end bytes_of
  name_most = omega (arith, run_most (test_utf8_of look id_continue) look (along_by (len_utf8 c) 1 (reach_of l)) p, bytes_length (c ∷ p))

  pub id_or_keyword_line : consume_id_or_keyword look (c ∷ line p q) l ≡ consume_id_or_keyword look (c ∷ line p r) l
  id_or_keyword_line =
      ap (λ (end : Reach). name_token (c ∷ line p q) end l) (name_end_line q)
      ∙ name_token_line l (name_end look (c ∷ p) l) c p q r name_most
      ∙ sym (ap (λ (end : Reach). name_token (c ∷ line p r) end l) (name_end_line r))

  pub ignored_line : consume_ignored look (c ∷ line p q) l ≡ consume_ignored look (c ∷ line p r) l
  ignored_line = ap (λ (end : Reach). token_to underscore end l) (name_end_line q ∙ sym (name_end_line r))
