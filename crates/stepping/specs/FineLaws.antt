-- A step leaves the lexer fine: `take_goes`. No place before whole characters is inside one: `no_tail`. Each token leads to a place of the source, and not back; an unknown symbol may cut a
-- longer character, where the scan is over.
-- Assumes nothing.
use Rattle.std.specs.Prelude.{ℕ, zero, suc, ◌+◌, ◌/◌, ◌≤◌, ◌<◌, ◌≡◌, Bool, true, false, List, ◌++◌, eqb, length, get_or, drop, Option, Some, None}
use native.Mathlib.Omega.{arith}
use Rattle.std.proofs.Math.Path.{refl}
use Rattle.std.proofs.Common.{sym, ap, subst, ◌∙◌, length-drop, get_or-drop, eqb-true, lt-ltb, le-ltb, le-leb}
use Rattle.std.proofs.Math.ListN.{get_or-eq_default}
use Rattle.std.proofs.lemmas.Bool.{lt-leb}
use Rattle.base.specs.PickLaws.{by_test, by_lt, split_lt}
use Rattle.base.specs.Range.{inside}
use Rattle.base.specs.RangeLaws.{inside_is}
use Rattle.position.specs.Place.{along_by}
use Rattle.position.specs.declared.Reach.{Reach}
use Rattle.utf8.specs.Encode.{encode, encode_all, WellFormed}
use Rattle.utf8.specs.Read.{is_tail}
use Rattle.utf8.specs.Chars.{At}
use Rattle.utf8.specs.CharsLaws.{chars_well, ascii_byte}
use Rattle.property.specs.Parts.{xid_start}
use Rattle.property.specs.Table.{properties_at}
use Rattle.fitness.specs.Fit.{FitTable}
use Rattle.symbols.specs.Symbols.{symbol_of}
use Rattle.symbols.specs.declared.Symbol.{Symbol}
use Rattle.symbols.specs.SymbolsLaws.{symbol_is}
use Rattle.text.specs.Bytes.{byte_at}
use Rattle.text.specs.Tests.{is_whitespace, is_line_end, is_digit}
use Rattle.text.specs.Stands.{Stands, chars_from}
use Rattle.text.specs.FollowLaws.{Here, here}
use Rattle.text.specs.CountLaws.{whitespace_ascii}
use Rattle.state.specs.Modes.{literal, template_expr_format, raw_start, raw_end, tag_of, delimiter_of, quote_of}
use Rattle.state.specs.Lexer.{reach_of}
use Rattle.state.specs.declared.Lexer.{Lexer}
use Rattle.state.specs.declared.Taken.{Taken}
use Rattle.strings.specs.Delimited.{Delimited}
use Rattle.newlines.specs.StandsLaws.{Steps, newline_steps}
use Rattle.comments.specs.StandsLaws.{comment_steps}
use Rattle.strings.specs.StandsLaws.{literal_steps, contents_steps, end_steps}
use Rattle.options.specs.StandsLaws.{options_stands}
use Rattle.numbers.specs.Places.{PlaceIn, GoesOn}
use Rattle.numbers.specs.PlaceLaws.{place_of_lem, next_place}
use Rattle.numbers.specs.StandsLaws.{whitespace_goes, number_goes}
use Rattle.names.specs.StandsLaws.{id_or_keyword_goes, ignored_goes}
use Rattle.symbol_tokens.specs.ConsumeSymbol.{symbol_token}
use Rattle.lexer.specs.GetNextToken.{next_char, in_literal, in_code, take_token}
use Rattle.lexer.specs.Fine.{Fine, Cuts}
use Rattle.lexer.specs.NextLaws.{next_char_lem}
use Rattle.lexer.specs.ArmLaws.{quote_small}

-- the lexer after a token is fine, and not before the one it was read from; inside a character it is only where the token cut one
pub record Goes (s : List ℕ) (l : Lexer) (t : Taken) : Type 0 where
  pub fine : Fine s t.lexer
  pub on : (reach_of l).byte.0 ≤ (reach_of t.lexer).byte.0
  pub cut : is_tail (get_or s (reach_of t.lexer).byte.0 0) ≡ true → Cuts s (reach_of l).byte.0 t.token.kind (reach_of t.lexer).byte.0

fine_of : (s : List ℕ) (l : Lexer) → Stands s (reach_of l) → Fine s l
fine_of s l o = record { small = o.small; inside = o.inside; lines = o.lines; columns = o.columns; whole = λ _. o.well }

-- the first byte of a character's encoding is inside none
abbrev First : List ℕ → List ℕ → Type 0
First r l = is_tail (get_or (l ++ r) 0 0) ≡ false

first_in_lem : (c : ℕ) (r : List ℕ) → First r (encode c)
unfolding encode inside
first_in_lem c r =
    by_lt (First r) c 0x80 (λ h. rw (lt-ltb c 0x80 h))
    (λ h. by_lt (First r) c 0x800 (λ i. rw (le-ltb (0xc0 + c / 0x40) 0x80 (omega arith)) (lt-leb (0xc0 + c / 0x40) 0xbf (omega arith)))
    (λ i. by_lt (First r) c 0x10000 (λ j. rw (le-ltb (0xe0 + c / 0x1000) 0x80 (omega arith)) (lt-leb (0xe0 + c / 0x1000) 0xbf (omega arith)))
    (λ j. rw (le-ltb (0xf0 + c / 0x40000) 0x80 (omega arith)) (lt-leb (0xf0 + c / 0x40000) 0xbf (omega arith)))))

-- where whole characters are left, or nothing, the place is inside none
pub no_tail : (s : List ℕ) (i : ℕ) → WellFormed (drop i s) → is_tail (get_or s i 0) ≡ false
unfolding inside
no_tail s i w =
    split_lt i (length s)
    (λ h. let c = here s i w h in
    let z : i + 0 ≡ i = omega arith in
    let e : get_or s i 0 ≡ get_or (encode c.code ++ drop (i + c.len) s) 0 0 =
    ap (λ (k : ℕ). get_or s k 0) (sym z) ∙ sym (get_or-drop i s 0 0) ∙ ap (λ (l : List ℕ). get_or l 0 0) c.at.bytes in
    ap is_tail e ∙ first_in_lem c.code (drop (i + c.len) s))
    (λ h. ap is_tail (get_or-eq_default s 0 h))

stands_go : {s : List ℕ} {l : Lexer} {t : Taken} → Stands s (reach_of t.lexer) → (reach_of l).byte.0 ≤ (reach_of t.lexer).byte.0 → Goes s l t
stands_go {s} {l} {t} o h =
    record {
      fine = fine_of s t.lexer o;
      on = h;
      cut = λ e. absurd (let n = no_tail s (reach_of t.lexer).byte.0 o.well in let z : ◌≡◌ {A = ℕ} 0 1 = cc in omega arith);
    }

steps_go : {s : List ℕ} {l : Lexer} {t : Taken} → Steps s l t → Goes s l t
steps_go p = stands_go p.stands p.on

goes_go : {s : List ℕ} {l : Lexer} {t : Taken} → GoesOn s (reach_of l) (reach_of t.lexer) → Goes s l t
goes_go p = stands_go p.stands (omega (arith, p.on))

-- ---- inside a longer character

-- the second byte of a character's encoding
abbrev Second : List ℕ → List ℕ → Type 0
Second r l = 1 < length l → (0x80 ≤ get_or (l ++ r) 1 0) × (get_or (l ++ r) 1 0 ≤ 0xbf)

second_in : (c : ℕ) (r : List ℕ) → Second r (encode c)
unfolding encode
second_in c r =
    by_lt (Second r) c 0x80 (λ h k. absurd (omega arith))
    (λ h. by_lt (Second r) c 0x800 (λ i k. omega arith)
    (λ i. by_lt (Second r) c 0x10000 (λ j k. omega arith) (λ j k. omega arith)))

-- a character of two bytes or more goes on with a byte that begins none
goes_on_inside : (s : List ℕ) (i c n : ℕ) → At s i c n → 1 < n → is_tail (get_or s (i + 1) 0) ≡ true
unfolding inside
goes_on_inside s i c n a h =
    let e : get_or s (i + 1) 0 ≡ get_or (encode c ++ drop (i + n) s) 1 0 =
    sym (get_or-drop i s 1 0) ∙ ap (λ (l : List ℕ). get_or l 1 0) a.bytes in
    let b = second_in c (drop (i + n) s) (omega (arith, a.width)) in
    rw (le-ltb (get_or s (i + 1) 0) 0x80 (omega arith), le-leb (get_or s (i + 1) 0) 0xbf (omega arith))

module _ (s : List ℕ) (l : Lexer) (o : Stands s (reach_of l)) (h : (reach_of l).byte.0 < length s) where
  abbrev at : ℕ
  at = (reach_of l).byte.0

  abbrev cs : List ℕ
  cs = chars_from s (reach_of l)

  abbrev first : Here s at
  first = here s at o.well h

  byte_is : byte_at s at ≡ get_or s at 0
  byte_is = rw (lt-ltb at (length s) h)

  -- the next character is ASCII: it is the byte
  next_byte : (d : ℕ) → next_char cs ≡ d → d < 128 → byte_at s at ≡ d
  next_byte d e k =
      let q : first.code ≡ d = sym (next_char_lem s at first.code first.len first.at) ∙ e in
      byte_is ∙ (ascii_byte s at first.code first.len first.read (omega arith)).0 ∙ q

  -- so many ASCII bytes on
  ascii_goes : (n : ℕ) (t : Taken) → PlaceIn s (at + n) → reach_of t.lexer ≡ along_by n n (reach_of l) → Goes s l t
  ascii_goes n t p e =
      let q : Stands s (along_by n n (reach_of l)) =
      record {
        small = o.small;
        inside = p.inside;
        well = p.well;
        lines = omega (arith, o.lines);
        columns = omega (arith, o.columns);
      } in
      let b : (reach_of t.lexer).byte.0 ≡ at + n = ap (λ (r : Reach). r.byte.0) e in
      stands_go (subst (Stands s) (sym e) q) (omega arith)

  one : (d : ℕ) → next_char cs ≡ d → d < 128 → PlaceIn s (at + 1)
  one d e k = next_place (place_of_lem o) (omega (arith, next_byte d e k))

  -- ---- symbols

  places : (n : ℕ) → ((k : ℕ) → k < n → get_or (drop at s) k 0 < 128) → at + n ≤ length s → PlaceIn s (at + n)
  places zero f w = subst (PlaceIn s) (add_zero_at) (place_of_lem o)
    where
      add_zero_at : at ≡ at + 0
      add_zero_at = omega arith
  places (suc n) f w =
      let p = places n (λ k m. f k (omega arith)) (omega arith) in
      let b : byte_at s (at + n) ≡ get_or (drop at s) n 0 = rw (lt-ltb (at + n) (length s) (omega arith)) (sym (get_or-drop at s n 0)) in
      let q : at + n + 1 ≡ at + suc n = omega arith in
      subst (PlaceIn s) q (next_place p (omega (arith, f n (omega arith))))

  -- an unknown symbol: one byte on, and inside a longer character the scan is over
  unknown_goes : Goes s l (symbol_token None l)
  unknown_goes =
      record {
        fine = record {
          small = o.small;
          inside = omega arith;
          lines = omega (arith, o.lines);
          columns = omega (arith, o.columns);
          whole = λ e. split_lt 1 first.len
              (λ k. absurd (let f = goes_on_inside s at first.code first.len first.at k in let z : ◌≡◌ {A = ℕ} 0 1 = cc in omega arith))
              (λ k. let q : first.len ≡ 1 = omega (arith, first.at.some) in subst (λ (n : ℕ). WellFormed (drop (at + n) s)) q first.well);
        };
        on = omega arith;
        cut = λ e. record {
          is_error = refl;
          one_byte_lem = refl;
          code = first.code;
          len = first.len;
          character = first.read;
          longer = split_lt 1 first.len (λ k. k)
              (λ k. absurd
              (let q : first.len ≡ 1 = omega (arith, first.at.some) in
              let n = no_tail s (at + 1) (subst (λ (n : ℕ). WellFormed (drop (at + n) s)) q first.well) in
              let z : ◌≡◌ {A = ℕ} 0 1 = cc in omega arith));
        };
      }

  symbol_goes : (x : Option Symbol) → symbol_of (drop at s) ≡ x → Goes s l (symbol_token x l)
  symbol_goes (Some x) e =
      let i = symbol_is (drop at s) e in
      ascii_goes x.len (symbol_token (Some x) l) (places x.len i.one_byte_each (omega (arith, i.within, length-drop at s))) refl
  symbol_goes None e = unknown_goes

  left_bytes : symbol_of (encode_all cs) ≡ symbol_of (drop at s)
  left_bytes = ap symbol_of (sym (chars_well (drop at s) o.well).0)

  -- ---- the arms

  in_literal_goes : (look : ℕ → ℕ) (quote : ℕ) → quote < 128 → Goes s l (in_literal look quote (next_char cs) cs l)
  unfolding in_literal
  in_literal_goes look quote q =
      by_test (Goes s l) (eqb (next_char cs) quote) (λ e. ascii_goes 1 _ (one quote (eqb-true _ _ e) q) refl)
      (λ _. by_test (Goes s l) (eqb (next_char cs) 123) (λ e. ascii_goes 1 _ (one 123 (eqb-true _ _ e) (omega arith)) refl)
      (λ _. steps_go (literal_steps s l o look quote q)))

  blank_is : (c : ℕ) → is_whitespace c ≡ true → c < 128
  blank_is c e = whitespace_ascii c e

  in_code_goes : (table : List ℕ) → FitTable table → Goes s l (in_code (properties_at table) (next_char cs) cs l)
  unfolding in_code
  in_code_goes table fit =
      by_test (Goes s l) (is_whitespace (next_char cs))
      (λ e. goes_go
      (whitespace_goes s l o (ap is_whitespace (next_byte (next_char cs) refl (blank_is (next_char cs) e)) ∙ e)))
      (λ _. by_test (Goes s l) (is_line_end (next_char cs)) (λ _. steps_go (newline_steps s l o))
      (λ _. by_test (Goes s l) (eqb (next_char cs) 35)
      (λ e. steps_go (comment_steps s l o table fit (next_byte 35 (eqb-true _ _ e) (omega arith))))
      (λ _. by_test (Goes s l) (eqb (next_char cs) 34) (λ e. ascii_goes 1 _ (one 34 (eqb-true _ _ e) (omega arith)) refl)
      (λ _. by_test (Goes s l) (eqb (next_char cs) 39) (λ e. ascii_goes 1 _ (one 39 (eqb-true _ _ e) (omega arith)) refl)
      (λ _. by_test (Goes s l) (is_digit (next_char cs))
      (λ e. let d = inside_is (next_char cs) 48 57 e in
      let b = next_byte (next_char cs) refl (omega arith) in
      goes_go (number_goes s l o (omega arith, omega arith)))
      (λ _. by_test (Goes s l) (xid_start (properties_at table (next_char cs))) (λ _. goes_go (id_or_keyword_goes (properties_at table) s l o h))
      (λ _. by_test (Goes s l) (eqb (next_char cs) 95) (λ _. goes_go (ignored_goes (properties_at table) s l o h))
      (λ _. symbol_goes (symbol_of (encode_all cs)) (sym left_bytes)))))))))

  pub take_goes : (table : List ℕ) (edition : ℕ) → FitTable table → (tag_of l.mode ≡ raw_end → Delimited s (delimiter_of l.mode) at)
      → Goes s l (take_token (properties_at table) edition cs l)
  unfolding take_token
  take_goes table edition fit marked =
      by_test (Goes s l) (eqb (tag_of l.mode) literal)
      (λ _. in_literal_goes (properties_at table) (quote_of (delimiter_of l.mode)) (quote_small (delimiter_of l.mode)))
      (λ _. by_test (Goes s l) (eqb (tag_of l.mode) raw_start) (λ _. steps_go (contents_steps s l o (properties_at table) (delimiter_of l.mode)))
      (λ _. by_test (Goes s l) (eqb (tag_of l.mode) raw_end)
      (λ e. steps_go (end_steps s l o (delimiter_of l.mode) (marked (eqb-true (tag_of l.mode) raw_end e))))
      (λ _. by_test (Goes s l) (eqb (tag_of l.mode) template_expr_format)
      (λ _. let r = options_stands (properties_at table) edition s l o in stands_go r.stands r.on)
      (λ _. in_code_goes table fit))))
