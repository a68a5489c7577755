-- Symbols at the lexer's place, by its byte and the one behind it.
--     starts_yes, starts_no                           whether the bytes from a place on begin with a byte
--     sign_taken                                      the token of a symbol
--     finds_sign, finds_sign_at                       what is found is the symbol
--     single_of, alone_of, equals_of                  what a kind means that the code tells by a byte; the byte is known
--     single_none, alone_none, equals_none            it tells none
--     minus_arrow, minus_equals, minus_alone, dot_alone    the symbols that it tells by the next byte
--     opens_map, opens_format, closes, stays, closes_map, closes_none     what the symbols of a template do to its modes
-- Assumes nothing.
use Rattle.std.specs.Prelude.{ℕ, suc, ◌+◌, ◌<◌, ◌≡◌, refl, Bool, true, false, not, ◌&&◌, List, [], ◌∷◌, eqb, length, get_or, drop, Option, Some}
use Rattle.std.proofs.Common.{add-one, arith, sym, ap, subst, ◌∙◌, drop_of_length-le, drop-cons}
use Rattle.std.proofs.Math.Bool.{and-eq-true_iff}
use borrow.Author.Tests.{lt-ltb, le-ltb, ne_eqb, not-true}
use Rattle.base.specs.Pick.{pick}
use Rattle.base.specs.PickLaws.{split_lt}
use Rattle.base.specs.CasesLaws.{told_yes, told_no}
use Rattle.utf8.specs.Encode.{encode_all}
use Rattle.utf8.specs.CharsLaws.{chars_well}
use Rattle.token.specs.Kind.{error, colon, curly_open, curly_close, arrow, subtract, subtract_assign, dot}
use Rattle.token.specs.Token.{token_of}
use Rattle.words.specs.Words.{starts_with, first_in}
use Rattle.symbols.specs.Symbols.{symbol_in, symbol_of, symbol}
use Rattle.symbols.specs.declared.Symbol.{Symbol}
use Rattle.text.specs.Bytes.{byte_at}
use Rattle.text.specs.Stands.{Stands, chars_from}
use Rattle.text.specs.FollowLaws.{byte_within}
use Rattle.state.specs.Modes.{template_expr, template_expr_inline_map, template_expr_format, mode_code}
use Rattle.state.specs.Lexer.{reach_of, advanced_line}
use Rattle.state.specs.declared.Change.{Change}
use Rattle.state.specs.declared.Change.TheVariants.{Keep, Push, Pop}
use Rattle.state.specs.declared.Lexer.{Lexer}
use Rattle.symbol_tokens.specs.ConsumeSymbol.{symbol_change, symbol_token, consume_symbol}
use Rattle.found.specs.Found.{found_along}
use Rattle.found.specs.FoundLaws.{finds_along}
use Rattle.found.specs.declared.Found.{Found}
use Rattle.signs.specs.Signs.{equals, Plain, Single, Alone, WithEquals, SignIs}

-- ---- bytes at a place

pub and_true : (a : Bool) → (a && true) ≡ a
and_true true = refl
and_true false = refl

pub starts_byte : (s : List ℕ) (i d : ℕ) → d < 256 → starts_with (d ∷ []) (drop i s) ≡ eqb (byte_at s i) d
unfolding starts_with
starts_byte s i d h =
    split_lt i (length s)
    (λ k. rw (drop-cons s i 0 k, lt-ltb i (length s) k) (and_true (eqb (get_or s i 0) d)))
    (λ k. rw (drop_of_length-le s k, le-ltb i (length s) k) (sym (ne_eqb 256 d (λ e. omega arith))))

-- the same, by the byte that was read there
pub starts_yes : (s : List ℕ) (i d r : ℕ) → d < 256 → r ≡ byte_at s i → r ≡ d → starts_with (d ∷ []) (drop i s) ≡ true
starts_yes s i d r h e f = starts_byte s i d h ∙ told_yes r (byte_at s i) d e f

pub starts_no : (s : List ℕ) (i d r : ℕ) → d < 256 → r ≡ byte_at s i → (r ≡ d → ⊥) → starts_with (d ∷ []) (drop i s) ≡ false
starts_no s i d r h e f = starts_byte s i d h ∙ told_no r (byte_at s i) d e f

-- ---- what is found

module _ (s : List ℕ) (l : Lexer) (o : Stands s (reach_of l)) (h : (reach_of l).byte.0 < length s) where
  left : (b : ℕ) → get_or s (reach_of l).byte.0 0 ≡ b → encode_all (chars_from s (reach_of l)) ≡ b ∷ drop ((reach_of l).byte.0 + 1) s
  left b e =
      rw add-one
      (sym (chars_well _ o.well).0 ∙ drop-cons s (reach_of l).byte.0 0 h ∙ ap (λ (x : ℕ). x ∷ drop (suc (reach_of l).byte.0) s) e)

  pub sign_taken : (b kind len : ℕ) (change : Change) → get_or s (reach_of l).byte.0 0 ≡ b → symbol_of (b ∷ drop ((reach_of l).byte.0 + 1) s) ≡ Some (symbol kind len)
      → symbol_change l.mode kind ≡ change
      → consume_symbol (chars_from s (reach_of l)) l ≡ record { token = token_of kind; lexer = advanced_line len l; change = change }
  sign_taken b kind len change e is c =
      ap (λ (x : List ℕ). symbol_token (symbol_of x) l) (left b e)
      ∙ ap (λ (x : Option Symbol). symbol_token x l) is
      ∙ ap (λ (x : Change). record { token = token_of kind; lexer = advanced_line len l; change = x }) c

  pub finds_sign : {f : Found} (b kind len : ℕ) (change : Change) → get_or s (reach_of l).byte.0 0 ≡ b → f ≡ found_along kind 0 len change l
      → (eqb kind error ≡ false → symbol_of (b ∷ drop ((reach_of l).byte.0 + 1) s) ≡ Some (symbol kind len)) → symbol_change l.mode kind ≡ change → SignIs s l f
  finds_sign {f} b kind len change e q is c =
      record {
        is = λ n.
            (finds_along {l = l} kind 0 len change q (sign_taken b kind len change e (is (ap (λ (x : Found). eqb x.kind error) (sym q) ∙ n)) c)
            ).is n;
      }

-- the same, where the byte is known
pub finds_sign_at : (s : List ℕ) (l : Lexer) → Stands s (reach_of l) → {f : Found} (b kind len : ℕ) (change : Change) → byte_at s (reach_of l).byte.0 ≡ b → b < 128
    → f ≡ found_along kind 0 len change l → symbol_of (b ∷ drop ((reach_of l).byte.0 + 1) s) ≡ Some (symbol kind len) → symbol_change l.mode kind ≡ change
    → SignIs s l f
finds_sign_at s l o b kind len change e k q is c =
    let h = byte_within s (reach_of l).byte.0 b e (omega arith) in
    let g : byte_at s (reach_of l).byte.0 ≡ get_or s (reach_of l).byte.0 0 = rw (lt-ltb (reach_of l).byte.0 (length s) h) in
    finds_sign s l o h b kind len change (sym g ∙ e) q (λ _. is) c

-- ---- kinds by a byte

either : {A : Type 0} (t : Bool) (a : A) → pick t a a ≡ a
either true a = refl
either false a = refl

-- no symbol of a template
abbrev pub is_plain : ℕ → Bool
is_plain kind = not (eqb kind curly_open) && (not (eqb kind colon) && not (eqb kind curly_close))

pub plain_kind : (kind : ℕ) → is_plain kind ≡ true → Plain kind
unfolding symbol_change
plain_kind kind e =
    let a = (and-eq-true_iff (not (eqb kind curly_open)) _).0 e in
    let b = (and-eq-true_iff (not (eqb kind colon)) _).0 a.1 in
    record {
      keeps = λ mode.
          rw (not-true (eqb kind curly_open) a.0, not-true (eqb kind colon) b.0, not-true (eqb kind curly_close) b.1, either (eqb mode (mode_code template_expr_inline_map 0)) Keep)
          (either (eqb mode (mode_code template_expr 0)) Keep);
    }

pub single_of : {b : ℕ} (d kind : ℕ) → is_plain kind ≡ true → ((rest : List ℕ) → symbol_of (d ∷ rest) ≡ Some (symbol kind 1)) → b ≡ d → Single b kind
single_of d kind p f e = subst (λ (x : ℕ). Single x kind) (sym e) (record { plain = plain_kind kind p; is = λ _. f })

pub alone_of : {b : ℕ} (d kind : ℕ) → is_plain kind ≡ true
    → ((rest : List ℕ) → starts_with (equals ∷ []) rest ≡ false → symbol_of (d ∷ rest) ≡ Some (symbol kind 1)) → b ≡ d → Alone b kind
alone_of d kind p f e = subst (λ (x : ℕ). Alone x kind) (sym e) (record { plain = plain_kind kind p; is = λ _. f })

pub equals_of : {b : ℕ} (d kind : ℕ) → is_plain kind ≡ true
    → ((rest : List ℕ) → starts_with (equals ∷ []) rest ≡ true → symbol_of (d ∷ rest) ≡ Some (symbol kind 2)) → b ≡ d → WithEquals b kind
equals_of d kind p f e = subst (λ (x : ℕ). WithEquals x kind) (sym e) (record { plain = plain_kind kind p; is = λ _. f })

-- the kind Error says nothing
no_two : {A : Type 0} → true ≡ false → A
no_two e = let z : ◌≡◌ {A = ℕ} 0 1 = cc in absurd (omega arith)

pub single_none : (b : ℕ) → Single b error
single_none b = record { plain = plain_kind error refl; is = no_two }

pub alone_none : (b : ℕ) → Alone b error
alone_none b = record { plain = plain_kind error refl; is = no_two }

pub equals_none : (b : ℕ) → WithEquals b error
equals_none b = record { plain = plain_kind error refl; is = no_two }

-- ---- by the next byte

pub minus_arrow : (rest : List ℕ) → starts_with (62 ∷ []) rest ≡ true → symbol_of (45 ∷ rest) ≡ Some (symbol arrow 2)
unfolding symbol_of symbol_in first_in starts_with
minus_arrow rest e = rw e

pub minus_equals : (rest : List ℕ) → starts_with (62 ∷ []) rest ≡ false → starts_with (equals ∷ []) rest ≡ true → symbol_of (45 ∷ rest) ≡ Some (symbol subtract_assign 2)
unfolding symbol_of symbol_in first_in starts_with
minus_equals rest e f = rw (e, f)

pub minus_alone : (rest : List ℕ) → starts_with (62 ∷ []) rest ≡ false → starts_with (equals ∷ []) rest ≡ false → symbol_of (45 ∷ rest) ≡ Some (symbol subtract 1)
unfolding symbol_of symbol_in first_in starts_with
minus_alone rest e f = rw (e, f)

-- no longer word begins there either
pub longer : (c : ℕ) (w l : List ℕ) → starts_with (c ∷ []) l ≡ false → starts_with (c ∷ w) l ≡ false
unfolding starts_with
longer c w [] e = refl
longer c w (b ∷ l) e = rw (sym (and_true (eqb b c)) ∙ e)

pub dot_alone : (rest : List ℕ) → starts_with (46 ∷ []) rest ≡ false → symbol_of (46 ∷ rest) ≡ Some (symbol dot 1)
unfolding symbol_of symbol_in first_in starts_with
dot_alone rest e = rw (longer 46 (46 ∷ []) rest e, longer 46 (61 ∷ []) rest e, e)

-- ---- a template's modes

module _ {mode : ℕ} (e : mode ≡ mode_code template_expr 0) where
  pub opens_map : symbol_change mode curly_open ≡ Push (mode_code template_expr_inline_map 0)
  unfolding symbol_change
  opens_map = rw e

  pub opens_format : symbol_change mode colon ≡ Push (mode_code template_expr_format 0)
  unfolding symbol_change
  opens_format = rw e

  pub closes : symbol_change mode curly_close ≡ Pop
  unfolding symbol_change
  closes = rw e

module _ {mode : ℕ} (n : mode ≡ mode_code template_expr 0 → ⊥) where
  -- neither "{" nor ":" does anything
  pub stays : (kind : ℕ) → eqb kind curly_close ≡ false → symbol_change mode kind ≡ Keep
  unfolding symbol_change
  stays kind e = rw (ne_eqb mode (mode_code template_expr 0) n, e) (either (eqb mode (mode_code template_expr_inline_map 0)) Keep)

  pub closes_map : mode ≡ mode_code template_expr_inline_map 0 → symbol_change mode curly_close ≡ Pop
  unfolding symbol_change
  closes_map e = rw e

  pub closes_none : (mode ≡ mode_code template_expr_inline_map 0 → ⊥) → symbol_change mode curly_close ≡ Keep
  unfolding symbol_change
  closes_none m = rw (ne_eqb mode (mode_code template_expr 0) n, ne_eqb mode (mode_code template_expr_inline_map 0) m)
