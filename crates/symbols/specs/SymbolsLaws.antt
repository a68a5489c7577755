-- What callers may use of symbols.
--     symbol_is                                        a symbol has one to three bytes, all ASCII, all there, and a symbol's kind
--     curly_open_is, curly_close_is, colon_is          the symbols that change a template's mode are told by their byte
--     never_symbol                                     a kind that no entry has is never answered
-- Assumes nothing.
use Rattle.std.specs.Prelude.{◌≡◌, refl, Bool, true, not, ◌&&◌, ◌||◌, ℕ, ◌≤◌, ◌<◌, eqb, leb, length, get_or, Option, Some, None}
use Rattle.std.proofs.Common.{subst, eqb-true, eq-eqb, leb-true}
use Rattle.std.proofs.lemmas.Bool.{false≢true, eqb-false, not-true}
use Rattle.std.proofs.Math.Bool.{and-eq-true_iff}
use mathlib.Core.List.{List, [], ◌∷◌}
use Rattle.token.specs.Kind.{at_kind, arrow, colon, curly_open, curly_close}
use Rattle.words.specs.Words.{is_word, starts_with, Entry, first_in}
use Rattle.words.specs.WordsLaws.{word_same, starts_within, starts_at, every, by_first, ascii, ascii_at, other_kind}
use Rattle.symbols.specs.Symbols.{symbols, found, symbol_in, symbol_of, symbol}
use Rattle.symbols.specs.declared.Symbol.{Symbol}

-- a symbol that the bytes l begin with
pub record SymbolIs (l : List ℕ) (kind len : ℕ) : Type 0 where
  pub some : 1 ≤ len
  pub few : len ≤ 3
  pub within : len ≤ length l
  pub one_byte_each : (i : ℕ) → i < len → get_or l i 0 < 128
  pub kind_from : at_kind ≤ kind
  pub kind_to : kind ≤ arrow

abbrev Shown : List ℕ → Option Symbol → Type 0
Shown l (Some x) = SymbolIs l x.kind x.len
Shown l None = Unit

-- what the table says of each symbol
abbrev fair : Entry → Bool
fair e = leb 1 (length e.text) && (leb (length e.text) 3 && (ascii e.text && (leb at_kind e.kind && leb e.kind arrow)))

fair_is : (l : List ℕ) (e : Entry) → fair e ≡ true → starts_with e.text l ≡ true → SymbolIs l e.kind (length e.text)
fair_is l e f t =
    let a = (and-eq-true_iff (leb 1 (length e.text)) _).0 f in
    let b = (and-eq-true_iff (leb (length e.text) 3) _).0 a.1 in
    let c = (and-eq-true_iff (ascii e.text) _).0 b.1 in
    let d = (and-eq-true_iff (leb at_kind e.kind) _).0 c.1 in
    record {
      some = leb-true 1 (length e.text) a.0;
      few = leb-true (length e.text) 3 b.0;
      within = starts_within e.text l t;
      one_byte_each = λ i h. rw (starts_at e.text l i t h) (ascii_at e.text i c.0 h);
      kind_from = leb-true at_kind e.kind d.0;
      kind_to = leb-true e.kind arrow d.1;
    }

pub symbol_is : (l : List ℕ) {x : Symbol} → symbol_of l ≡ Some x → SymbolIs l x.kind x.len
unfolding symbol_of symbol_in
symbol_is l e = subst (Shown l) e (by_first (Shown l) fair (λ e. starts_with e.text l) found None (fair_is l) tt symbols refl)

-- what each entry of a kind tells, a symbol of that kind tells
abbrev Tells : ℕ → Type 0 → Option Symbol → Type 0
Tells kind R (Some x) = x.kind ≡ kind → R
Tells kind R None = Unit

symbol_tells : {R : Type 0} (l : List ℕ) (kind : ℕ) (P : Entry → Bool) → ((e : Entry) → P e ≡ true → starts_with e.text l ≡ true → e.kind ≡ kind → R)
    → every P symbols ≡ true → {len : ℕ} → symbol_of l ≡ Some (symbol kind len) → R
unfolding symbol_of symbol_in
symbol_tells {R} l kind P f all e =
    subst (Tells kind R) e (by_first (Tells kind R) P (λ e. starts_with e.text l) found None f tt symbols all) refl

-- a symbol of one byte, which has its kind for itself
pub record ItsByte (byte kind : ℕ) : Type 0 where
  pub is : (l : List ℕ) → starts_with (byte ∷ []) l ≡ true → symbol_of l ≡ Some (symbol kind 1)
  pub only : (l : List ℕ) {len : ℕ} → symbol_of l ≡ Some (symbol kind len) → starts_with (byte ∷ []) l ≡ true

module _ (byte kind : ℕ) where
  -- what the table says of such a symbol
  abbrev alone : Entry → Bool
  alone e = not (eqb e.kind kind) || is_word (byte ∷ []) e.text

  its_byte_is : ((l : List ℕ) → symbol_of (byte ∷ l) ≡ Some (symbol kind 1)) → (l : List ℕ) → starts_with (byte ∷ []) l ≡ true → symbol_of l ≡ Some (symbol kind 1)
  unfolding starts_with
  its_byte_is here [] e = absurd (false≢true e)
  its_byte_is here (b ∷ l) e = rw (eqb-true b byte ((and-eq-true_iff (eqb b byte) true).0 e).0) (here l)

  its_byte_only : every alone symbols ≡ true → (l : List ℕ) {len : ℕ} → symbol_of l ≡ Some (symbol kind len) → starts_with (byte ∷ []) l ≡ true
  its_byte_only all l =
      symbol_tells l kind alone
      (λ e a t k. rw (← word_same (byte ∷ []) e.text (simp (eq-eqb e.kind kind k) at a)) t)
      all

  its_byte : ((l : List ℕ) → symbol_of (byte ∷ l) ≡ Some (symbol kind 1)) → every alone symbols ≡ true → ItsByte byte kind
  its_byte here all = record { is = its_byte_is here; only = its_byte_only all }

pub curly_open_is : ItsByte 123 curly_open
unfolding is_word starts_with first_in symbol_in symbol_of
curly_open_is = its_byte 123 curly_open (λ l. refl) refl

pub curly_close_is : ItsByte 125 curly_close
unfolding is_word starts_with first_in symbol_in symbol_of
curly_close_is = its_byte 125 curly_close (λ l. refl) refl

pub colon_is : ItsByte 58 colon
unfolding is_word starts_with first_in symbol_in symbol_of
colon_is = its_byte 58 colon (λ l. refl) refl

pub never_symbol : (l : List ℕ) (kind : ℕ) {len : ℕ} → every (other_kind kind) symbols ≡ true → symbol_of l ≡ Some (symbol kind len) → ⊥
never_symbol l kind all = symbol_tells l kind (other_kind kind) (λ e d _ k. eqb-false e.kind kind (not-true (eqb e.kind kind) d) k) all
