-- The row of symbols by a computed test at each place.
--     behind_few     there are four cases of the byte behind
--     sign_table     a row whose test holds at each of the 512 places
--     finds_entry    the value of a row tells the symbol at the lexer's place
-- Assumes nothing.
use Rattle.std.specs.Prelude.{ℕ, ◌+◌, ◌*◌, ◌/◌, ◌%◌, ◌<◌, ◌≡◌, Bool, true, not, ◌&&◌, ◌||◌, length, get_or, drop, Option, Some, None}
use Rattle.std.proofs.Common.{add-zero, arith, sym, ◌∙◌, length-drop, get_or-drop, eqb-true, ne_eqb, lt-ltb, le-ltb}
use Rattle.std.proofs.Math.Path.{refl, ap}
use Rattle.std.proofs.Math.Bool.{false, and-eq-true_iff}
use mathlib.Core.List.{List, [], ◌∷◌}
use Rattle.std.proofs.Math.Dec.{eqb}
use Rattle.std.proofs.lemmas.Bool.{not-true}
use Rattle.base.specs.All.{all_good}
use Rattle.base.specs.AllLaws.{good_at}
use Rattle.base.specs.Pick.{pick}
use Rattle.base.specs.PickLaws.{by_eq, split_eq, split_lt}
use Rattle.token.specs.Kind.{error}
use Rattle.words.specs.Words.{starts_with, Entry, first_in}
use Rattle.words.specs.WordsLaws.{every}
use Rattle.text.specs.Bytes.{byte_at}
use Rattle.text.specs.Stands.{Stands, chars_from}
use Rattle.state.specs.Lexer.{reach_of}
use Rattle.state.specs.declared.Change.TheVariants.{Keep}
use Rattle.state.specs.declared.Lexer.{Lexer}
use Rattle.symbols.specs.Symbols.{symbols, found, symbol_in, symbol_of, symbol}
use Rattle.symbols.specs.declared.Symbol.{Symbol}
use Rattle.symbol_tokens.specs.ConsumeSymbol.{consume_symbol}
use Rattle.plain.specs.Plain.{FindsPlain}
use Rattle.plain.specs.PlainLaws.{plain_is}
use Rattle.plain.specs.declared.Plain.{Plain}
use Rattle.signs.specs.SignsLaws.{starts_byte, and_true, longer, is_plain, plain_kind, sign_taken}
use Rattle.signs.specs.Table.{behind, entry_at, SignTable}

-- ---- one byte for all that symbols do not tell apart

abbrev instead : ℕ → ℕ
instead n = pick (eqb n 1) 61 (pick (eqb n 2) 62 (pick (eqb n 3) 46 0))

-- the byte n and the one that stands instead of it are "=", ">" and "." both or neither
record Alike (n m : ℕ) : Type 0 where
  equals : eqb n 61 ≡ eqb m 61
  greater : eqb n 62 ≡ eqb m 62
  dot : eqb n 46 ≡ eqb m 46

alike : (n : ℕ) → Alike n (instead (behind n))
unfolding behind
alike n =
    split_eq n 61 (λ e. rw e (record { equals = refl; greater = refl; dot = refl }))
    (λ a. split_eq n 62 (λ e. rw e (record { equals = refl; greater = refl; dot = refl }))
    (λ b. split_eq n 46 (λ e. rw e (record { equals = refl; greater = refl; dot = refl }))
    (λ c. rw (ne_eqb n 61 a, ne_eqb n 62 b, ne_eqb n 46 c)
    (record { equals = ne_eqb n 61 a; greater = ne_eqb n 62 b; dot = ne_eqb n 46 c }))))

-- ---- words by two bytes

-- the word's first two bytes, or its one, are b and n
abbrev begins : List ℕ → ℕ → ℕ → Bool
begins [] b n = true
begins (c ∷ []) b n = eqb b c
begins (c ∷ d ∷ w) b n = eqb b c && eqb n d

-- of one byte, or of two where the second is "=", ">" or "."; a longer one begins with two dots
abbrev fair : List ℕ → Bool
fair [] = false
fair (c ∷ []) = true
fair (c ∷ d ∷ []) = eqb d 61 || (eqb d 62 || eqb d 46)
fair (c ∷ d ∷ e ∷ w) = eqb c 46 && eqb d 46

all_fair : every (λ e. fair e.text) symbols ≡ true
all_fair = refl

and-false : (a : Bool) → (a && false) ≡ false
and-false true = refl
and-false false = refl

no_two : {A : Type 0} → false ≡ true → A
no_two e = let z : ◌≡◌ {A = ℕ} 0 1 = cc in absurd (omega arith)

of_three : (P : ℕ → Type 0) (d : ℕ) → (eqb d 61 || (eqb d 62 || eqb d 46)) ≡ true → P 61 → P 62 → P 46 → P d
of_three P d e x y z =
    split_eq d 61 (λ a. rw a x)
    (λ a. split_eq d 62 (λ b. rw b y) (λ b. split_eq d 46 (λ c. rw c z) (λ c. no_two (rw (ne_eqb d 61 a, ne_eqb d 62 b, ne_eqb d 46 c) at e))))

module _ (b : ℕ) (rest : List ℕ) where
  -- the byte behind b, and the one that stands instead
  abbrev next : ℕ
  next = byte_at rest 0

  abbrev stand : ℕ
  stand = instead (behind next)

  second : (d : ℕ) → (eqb d 61 || (eqb d 62 || eqb d 46)) ≡ true → starts_with (d ∷ []) rest ≡ eqb stand d
  second d e =
      of_three (λ (d : ℕ). starts_with (d ∷ []) rest ≡ eqb stand d) d e (starts_byte rest 0 61 (omega arith) ∙ (alike next).equals)
      (starts_byte rest 0 62 (omega arith) ∙ (alike next).greater)
      (starts_byte rest 0 46 (omega arith) ∙ (alike next).dot)

  -- the bytes b and rest do not begin with two dots
  module _ (n : (eqb b 46 && eqb stand 46) ≡ false) where
    no_dots : (e : ℕ) (w : List ℕ) → starts_with (46 ∷ 46 ∷ e ∷ w) (b ∷ rest) ≡ false
    unfolding starts_with
    no_dots e w =
        split_eq b 46
        (λ q. let m : starts_with (46 ∷ []) rest ≡ false = second 46 refl ∙ (rw q at n) in
        rw (longer 46 (e ∷ w) rest m) (and-false (eqb b 46)))
        (λ q. rw (ne_eqb b 46 q))

    two_dots : (c d e : ℕ) (w : List ℕ) → c ≡ 46 → d ≡ 46 → starts_with (c ∷ d ∷ e ∷ w) (b ∷ rest) ≡ (eqb b c && eqb stand d)
    two_dots c d e w p q = rw (p, q) (no_dots e w ∙ sym n)

    starts_fair : (w : List ℕ) → fair w ≡ true → starts_with w (b ∷ rest) ≡ begins w b stand
    unfolding starts_with
    starts_fair [] e = no_two e
    starts_fair (c ∷ []) e = and_true (eqb b c)
    starts_fair (c ∷ d ∷ []) e = ap (λ (t : Bool). eqb b c && t) (second d e)
    starts_fair (c ∷ d ∷ x ∷ w) e =
        let both = (and-eq-true_iff (eqb c 46) (eqb d 46)).0 e in
        two_dots c d x w (eqb-true c 46 both.0) (eqb-true d 46 both.1)

    pub symbol_by_lem : (es : List Entry) → every (λ e. fair e.text) es ≡ true
        → first_in (λ e. starts_with e.text (b ∷ rest)) found None es ≡ first_in (λ e. begins e.text b stand) found None es
    unfolding first_in
    symbol_by_lem [] h = refl
    symbol_by_lem (e ∷ es) h =
        let both = (and-eq-true_iff (fair e.text) _).0 h in
        rw (starts_fair e.text both.0, symbol_by_lem es both.1)

-- ---- the row

-- the symbol by two bytes
abbrev symbol_by : ℕ → ℕ → Option Symbol
symbol_by b m = first_in (λ e. begins e.text b m) found None symbols

abbrev is_sign : ℕ → ℕ → Option Symbol → Bool
is_sign kind len (Some x) = eqb x.kind kind && eqb x.len len
is_sign kind len None = false

sign_is : (kind len : ℕ) (x : Option Symbol) → is_sign kind len x ≡ true → x ≡ Some (symbol kind len)
sign_is kind len (Some x) e =
    let both = (and-eq-true_iff (eqb x.kind kind) (eqb x.len len)).0 e in
    λ i. Some (symbol (eqb-true x.kind kind both.0 i) (eqb-true x.len len both.1 i))
sign_is kind len None e = no_two e

-- the value v says nothing, or what is so of the byte b with such a byte behind it, and not of two dots
abbrev good : ℕ → ℕ → ℕ → Bool
good v b n =
    eqb (v % 128) error
    || (not (eqb b 46 && eqb (instead n) 46) && (is_plain (v % 128) && is_sign (v % 128) (1 + v / 128) (symbol_by b (instead n))))

abbrev pub good_row : List ℕ → Bool
good_row row = all_good (λ n. all_good (λ b. good (entry_at row b n) b n) 128) 4

pub behind_few : (n : ℕ) → behind n < 4
unfolding behind
behind_few n = by_eq (λ (k : ℕ). k < 4) n 61 (λ _. omega arith)
    (λ _. by_eq (λ (k : ℕ). k < 4) n 62 (λ _. omega arith) (λ _. by_eq (λ (k : ℕ). k < 4) n 46 (λ _. omega arith) (λ _. omega arith)))

told : (a b : Bool) → (a || b) ≡ true → a ≡ false → b ≡ true
told true b e f = no_two (sym f)
told false b e f = e

pub sign_table : (row : List ℕ) → good_row row ≡ true → SignTable row
unfolding symbol_of symbol_in
sign_table row h =
    record {
      tells = λ b rest l some.
          let n = behind (byte_at rest 0) in
          let v = entry_at row b n in
          let there = good_at (λ n. all_good (λ b. good (entry_at row b n) b n) 128) 4 n (behind_few _) h in
          let here = good_at (λ b. good (entry_at row b n) b n) 128 b l there in
          let both = (and-eq-true_iff (not (eqb b 46 && eqb (instead n) 46)) _).0 (told _ _ here some) in
          let rest_of = (and-eq-true_iff (is_plain (v % 128)) _).0 both.1 in
          record {
            plain = plain_kind (v % 128) rest_of.0;
            is = symbol_by_lem b rest (not-true _ both.0) symbols all_fair ∙ sign_is (v % 128) (1 + v / 128) _ rest_of.1;
          };
    }

-- ---- the symbol at the lexer's place

byte_behind : (s : List ℕ) (i : ℕ) → byte_at (drop i s) 0 ≡ byte_at s i
byte_behind s i =
    split_lt i (length s)
    (λ k. rw (lt-ltb 0 (length (drop i s)) (omega (arith, length-drop i s)), lt-ltb i (length s) k)
    (get_or-drop i s 0 0 ∙ ap (λ (x : ℕ). get_or s x 0) (add-zero i)))
    (λ k. rw (le-ltb 0 (length (drop i s)) (omega (arith, length-drop i s)), le-ltb i (length s) k))

-- by the value that stands where the byte and the one behind it say
pub finds_entry : (s row : List ℕ) (l : Lexer) → Stands s (reach_of l) → (reach_of l).byte.0 < length s → SignTable row → get_or s (reach_of l).byte.0 0 < 128
    → {next n : ℕ} → next ≡ byte_at s ((reach_of l).byte.0 + 1) → n ≡ 128 * behind next → {p : Plain}
    → p ≡ record { kind = get_or row (get_or s (reach_of l).byte.0 0 + n) 0 % 128; len = 1 + get_or row (get_or s (reach_of l).byte.0 0 + n) 0 / 128 }
    → FindsPlain Keep (consume_symbol (chars_from s (reach_of l)) l) l p
finds_entry s row l o h table low {next} {n} e f {p} q =
    let i = (reach_of l).byte.0 in
    let b = get_or s i 0 in
    let v = entry_at row b (behind (byte_at (drop (i + 1) s) 0)) in
    let same : get_or row (b + n) 0 ≡ v =
    ap (λ (x : ℕ). get_or row (b + x) 0) f ∙ ap (λ (x : ℕ). entry_at row b (behind x)) (e ∙ sym (byte_behind s (i + 1))) in
    plain_is (v % 128) (1 + v / 128) (q ∙ ap (λ (x : ℕ). record { kind = x % 128; len = 1 + x / 128 }) same)
    (λ some. let t = table.tells b (drop (i + 1) s) low some in
    sign_taken s l o h b (v % 128) (1 + v / 128) Keep refl t.is (t.plain.keeps l.mode))
