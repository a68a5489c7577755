-- Laws of the definitions of names, keywords and the start of raw strings at a place of the bytes, where the code stands. Where a law
-- takes a reach q that is the lexer's, the code has asked the lexer for it.
--     raw_start_at, raw_small, raw_delimiter    `parse_raw_string_start` by the byte after the hashes; a delimiter is below 512
--     len_there, ascii_len             how long the first character of a name is
--     name_end_at, name_goes           one step of `name_end`; where it ends stands in the source, further on
--     left_at                          the bytes that are left
--     keyword_at, name_token_at, raw_opens, raw_not    the definition by what the code asks for
--     r_decides, no_decides, decided_at    what `raw_start` decides, and the token by it
--     word_starts, starts_next, r_stands, after_r     the bytes of a word that stands at a place
-- Assumes nothing.
use Rattle.std.specs.Prelude.{ℕ, zero, suc, ◌+◌, ◌*◌, ◌-◌, ◌<◌, ◌≡◌, refl, true, false, List, [], ◌∷◌, ltb, eqb, length, get_or, take, drop, Option, Some, None}
use Rattle.std.proofs.Common.{add-one, arith, ap, subst, ◌∙◌, length-drop, drop-cons, lt-ltb, eqb-true}
use Rattle.std.proofs.Math.Path.{sym}
use Rattle.std.proofs.Math.Bool.{and-eq-true_iff}
use Rattle.base.specs.Pick.{pick}
use Rattle.base.specs.PickLaws.{by_test, by_lt}
use Rattle.base.specs.CasesLaws.{pick_yes, pick_no}
use Rattle.position.specs.Place.{along_by}
use Rattle.position.specs.declared.Reach.{Reach}
use Rattle.utf8.specs.Chars.{chars, At}
use Rattle.utf8.specs.Encode.{WellFormed}
use Rattle.utf8.specs.CharsLaws.{chars_well, rest_at}
use Rattle.token.specs.Kind.{id, dot, else, else_if}
use Rattle.words.specs.Words.{is_word, starts_with, else_word, else_if_word, r_word}
use Rattle.keywords.specs.Keywords.{keyword_of}
use Rattle.words.specs.WordsLaws.{starts_within}
use Rattle.text.specs.Bytes.{byte_at}
use Rattle.text.specs.Tests.{double_quote, single_quote, is_hash, id_continue, test_utf8_of}
use Rattle.text.specs.Count.{len_utf8, count_while, run_test}
use Rattle.text.specs.Follow.{next_is}
use Rattle.text.specs.Stands.{Stands, chars_from}
use Rattle.text.specs.Chars.{LenIs}
use Rattle.text.specs.FollowLaws.{here, next_is_lem, ascii_read, ascii_head}
use Rattle.text.specs.CountLaws.{hash_ascii, skip_run, along_stands, run_stands}
use Rattle.state.specs.Lexer.{reach_of, token_along, token_to}
use Rattle.state.specs.declared.Lexer.{Lexer}
use Rattle.numbers.specs.Places.{PlaceIn, GoesOn}
use Rattle.numbers.specs.PlaceLaws.{place_of_lem, run_end, skip_next, next_place}
use Rattle.names.specs.ConsumeIdOrKeyword.{name_end, remaining, name_bytes, parse_raw_string_start, raw_string_start, keyword_or_id, or_else, raw_or_name, name_token}
use Rattle.names.specs.Decided.{Small, RawDecides}

-- ---- the start of a raw string

pub raw_start_at : {s : List ℕ} {i j : ℕ} → PlaceIn s i → j ≡ run_end is_hash s i
    → parse_raw_string_start (chars (drop i s))
    ≡ pick (ltb 255 (j - i)) None
    (pick (eqb (byte_at s j) double_quote) (Some (2 * (j - i))) (pick (eqb (byte_at s j) single_quote) (Some (2 * (j - i) + 1)) None))
unfolding parse_raw_string_start
raw_start_at {s} {i} {j} p e =
    let k = skip_run hash_ascii s i p.well in
    let n : count_while is_hash (chars (drop i s)) ≡ j - i = omega (arith, e) in
    rw (k.rest, next_is_lem s (run_end is_hash s i) double_quote k.well (omega arith), next_is_lem s (run_end is_hash s i) single_quote k.well (omega arith), ← e, n)

pub raw_small : (cs : List ℕ) → Small (parse_raw_string_start cs)
unfolding parse_raw_string_start
raw_small cs =
    let n = count_while is_hash cs in
    by_lt Small 255 n (λ _. tt)
    (λ h. by_test Small (next_is double_quote (drop n cs)) (λ _. omega arith)
    (λ _. by_test Small (next_is single_quote (drop n cs)) (λ _. omega arith) (λ _. tt)))

pub raw_delimiter : (cs : List ℕ) {delimiter : ℕ} → parse_raw_string_start cs ≡ Some delimiter → delimiter < 512
raw_delimiter cs e = subst Small e (raw_small cs)

-- ---- the name

pub stands_there : {s : List ℕ} {q r : Reach} → q ≡ r → Stands s r → Stands s q
stands_there {s} e o = subst (Stands s) (sym e) o

-- a character of that length stands at a reach that is the same
pub len_there : {s : List ℕ} {q r : Reach} {n : ℕ} → q ≡ r → LenIs s q.byte.0 n → LenIs s r.byte.0 n
len_there {s} {q} {r} {n} e d = subst (λ (x : Reach). LenIs s x.byte.0 n) e d

-- an ASCII character has one byte
pub ascii_len : {s : List ℕ} {i : ℕ} (d : ℕ) → WellFormed (drop i s) → byte_at s i ≡ d → d < 128 → LenIs s i 1
ascii_len {s} {i} d w e h = record { code = d; at = ascii_head s i d e h; well = rest_at s i d 1 w (ascii_read s i d e h) }

-- an end of a name as `name_end` has it
abbrev pub Ends : (ℕ → ℕ) → Lexer → (List ℕ → Reach) → Type 0
Ends look l end = (c : ℕ) (cs : List ℕ) → end (c ∷ cs) ≡ run_test look id_continue (along_by (len_utf8 c) 1 (reach_of l)) cs

-- the run after the first character, from where it ends
end_at : (look : ℕ → ℕ) (s : List ℕ) (l : Lexer) (end : List ℕ → Reach) {q r : Reach} {c n : ℕ} → Ends look l end
    → q ≡ reach_of l → At s q.byte.0 c n → r ≡ along_by n 1 q
    → run_test look id_continue r (chars (drop r.byte.0 s)) ≡ end (chars_from s (reach_of l))
end_at look s l end {q} {r} {c} {n} is e a f =
    ap (λ (x : Reach). run_test look id_continue x (chars (drop x.byte.0 s))) f
    ∙ ap (λ (k : ℕ). run_test look id_continue (along_by k 1 q) (chars (drop (q.byte.0 + n) s))) (sym a.width)
    ∙ ap (λ (x : Reach). run_test look id_continue (along_by (len_utf8 c) 1 x) (chars (drop (q.byte.0 + n) s))) e
    ∙ sym (is c _)
    ∙ ap end (sym a.step ∙ ap (chars_from s) e)

pub name_end_at : (look : ℕ → ℕ) (s : List ℕ) (l : Lexer) {q r : Reach} {c n : ℕ} → q ≡ reach_of l → At s q.byte.0 c n → r ≡ along_by n 1 q
    → run_test look id_continue r (chars (drop r.byte.0 s)) ≡ name_end look (chars_from s (reach_of l)) l
unfolding name_end
name_end_at look s l = end_at look s l (λ cs. name_end look cs l) (λ c cs. search refl)

pub end_goes : (look : ℕ → ℕ) (s : List ℕ) (l : Lexer) (end : List ℕ → Reach) → Ends look l end
    → Stands s (reach_of l) → (reach_of l).byte.0 < length s → GoesOn s (reach_of l) (end (chars_from s (reach_of l)))
end_goes look s l end is o h =
    let c = here s (reach_of l).byte.0 o.well h in
    let first = along_by c.len 1 (reach_of l) in
    let g = run_stands look (test_utf8_of look id_continue) s first (along_stands s (reach_of l) c.code c.len 1 o c.at c.well (omega arith)) in
    subst (GoesOn s (reach_of l)) (end_at look s l end {r = first} is refl c.at refl)
    (record { stands = g.stands; on = omega (arith, g.on, c.at.some) })

pub name_goes : (look : ℕ → ℕ) (s : List ℕ) (l : Lexer) → Stands s (reach_of l) → (reach_of l).byte.0 < length s
    → GoesOn s (reach_of l) (name_end look (chars_from s (reach_of l)) l)
unfolding name_end
name_goes look s l = end_goes look s l (λ cs. name_end look cs l) (λ c cs. search refl)

-- ---- keywords

pub left_at : {s : List ℕ} {q r : Reach} → Stands s r → q ≡ r → remaining (chars_from s r) ≡ drop q.byte.0 s
left_at {s} o e = sym (chars_well _ o.well).0 ∙ ap (λ (x : Reach). drop x.byte.0 s) (sym e)

module _ (s : List ℕ) (l : Lexer) (end : Reach) (o : Stands s (reach_of l)) (q : Reach) (e : q ≡ reach_of l) where
  name_bytes_lem : name_bytes l end ≡ end.byte.0 - q.byte.0
  name_bytes_lem = ap (λ (x : Reach). end.byte.0 - x.byte.0) (sym e)

  pub keyword_at : (kind : ℕ) → kind ≡ keyword_of (take (end.byte.0 - q.byte.0) (drop q.byte.0 s))
      → keyword_or_id (chars_from s (reach_of l)) end l
      ≡ pick (eqb l.previous_token dot) (token_to id end l)
      (pick (eqb kind id) (token_to id end l) (token_along kind (end.byte.0 - q.byte.0) l))
  unfolding keyword_or_id
  keyword_at kind k = rw (left_at o e, name_bytes_lem, ← k)

  pub name_token_at : name_token (chars_from s (reach_of l)) end l
      ≡ pick (is_word else_word (take (end.byte.0 - q.byte.0) (drop q.byte.0 s)))
      (pick (starts_with else_if_word (drop q.byte.0 s)) (token_along else_if 7 l) (token_along else 4 l))
      (pick (is_word r_word (take (end.byte.0 - q.byte.0) (drop q.byte.0 s))) (raw_or_name (chars_from s (reach_of l)) end l)
      (keyword_or_id (chars_from s (reach_of l)) end l))
  unfolding name_token
  name_token_at = rw (left_at o e, name_bytes_lem)

  -- what is found after the "r" decides
  module _ (h : byte_at s (reach_of l).byte.0 ≡ 114) {raw : Option ℕ} (k : raw ≡ parse_raw_string_start (chars (drop (q.byte.0 + 1) s))) where
    or_else_lem : {raw' : Option ℕ} → raw ≡ raw'
        → raw_or_name (chars_from s (reach_of l)) end l ≡ or_else raw' l (keyword_or_id (chars_from s (reach_of l)) end l)
    unfolding raw_or_name
    or_else_lem f =
        rw (skip_next (place_of_lem o) (omega arith)).rest
        (ap (λ (x : Option ℕ). or_else x l (keyword_or_id (chars_from s (reach_of l)) end l))
        (ap (λ (x : Reach). parse_raw_string_start (chars (drop (x.byte.0 + 1) s))) (sym e) ∙ sym k ∙ f))

    pub raw_opens : {delimiter : ℕ} → raw ≡ Some delimiter → raw_or_name (chars_from s (reach_of l)) end l ≡ raw_string_start delimiter l
    raw_opens f = or_else_lem f

    pub raw_not : raw ≡ None → raw_or_name (chars_from s (reach_of l)) end l ≡ keyword_or_id (chars_from s (reach_of l)) end l
    raw_not f = or_else_lem f

    -- the name is "r", and what is found after it decides
    pub r_decides : is_word r_word (take (end.byte.0 - q.byte.0) (drop q.byte.0 s)) ≡ true → RawDecides s l end raw
    r_decides f =
        record {
          decides = pick_yes _ _ _ _ (ap (λ (x : Reach). is_word r_word (take (end.byte.0 - x.byte.0) (drop x.byte.0 s))) (sym e) ∙ f) (or_else_lem refl);
          small = subst Small (sym k) (raw_small (chars (drop (q.byte.0 + 1) s)));
        }

  -- the name is another
  pub no_decides : is_word r_word (take (end.byte.0 - q.byte.0) (drop q.byte.0 s)) ≡ false → RawDecides s l end None
  no_decides f =
      record {
        decides = pick_no _ _ _ _ (ap (λ (x : Reach). is_word r_word (take (end.byte.0 - x.byte.0) (drop x.byte.0 s))) (sym e) ∙ f) refl;
        small = tt;
      }

  -- the token, where the name is not "else"
  pub decided_at : {r raw : Option ℕ} → is_word else_word (take (end.byte.0 - q.byte.0) (drop q.byte.0 s)) ≡ false → RawDecides s l end r → r ≡ raw
      → name_token (chars_from s (reach_of l)) end l ≡ or_else raw l (keyword_or_id (chars_from s (reach_of l)) end l)
  decided_at {r} {raw} f d g =
      name_token_at
      ∙ pick_no _ _ _ _ f
      (ap
      (λ (x : Reach). pick (is_word r_word (take (end.byte.0 - x.byte.0) (drop x.byte.0 s))) (raw_or_name (chars_from s (reach_of l)) end l)
      (keyword_or_id (chars_from s (reach_of l)) end l))
      e
      ∙ d.decides
      ∙ ap (λ (x : Option ℕ). or_else x l (keyword_or_id (chars_from s (reach_of l)) end l)) g)

-- ---- words at a place

no_two : {A : Type 0} → false ≡ true → A
no_two e = let z : ◌≡◌ {A = ℕ} 0 1 = cc in absurd (omega arith)

-- bytes of which the first n are a word begin with it
pub word_starts : (w l : List ℕ) (n : ℕ) → is_word w (take n l) ≡ true → starts_with w l ≡ true
unfolding is_word starts_with
word_starts [] l n e = refl
word_starts (c ∷ w) l zero e = no_two e
word_starts (c ∷ w) [] (suc n) e = no_two e
word_starts (c ∷ w) (b ∷ l) (suc n) e =
    let both = (and-eq-true_iff (eqb b c) (is_word w (take n l))).0 e in
    (and-eq-true_iff (eqb b c) (starts_with w l)).1 (both.0, word_starts w l n both.1)

-- a word's first byte stands there, and the others after it
pub starts_next : (c : ℕ) (w s : List ℕ) (i : ℕ) → starts_with (c ∷ w) (drop i s) ≡ true
    → (byte_at s i ≡ c) × (starts_with w (drop (i + 1) s) ≡ true)
unfolding starts_with
starts_next c w s i e =
    let h : i < length s = omega (arith, starts_within (c ∷ w) (drop i s) e, length-drop i s) in
    let both = (and-eq-true_iff (eqb (get_or s i 0) c) (starts_with w (drop (suc i) s))).0 (rw (drop-cons s i 0 h) at e) in
    (rw (lt-ltb i (length s) h) (eqb-true (get_or s i 0) c both.0), rw add-one both.1)

-- the byte after an "r" is a place
pub after_r : {s : List ℕ} {q r : Reach} → q ≡ r → Stands s r → byte_at s r.byte.0 ≡ 114 → PlaceIn s (q.byte.0 + 1)
after_r {s} e o h = subst (λ (x : Reach). PlaceIn s (x.byte.0 + 1)) (sym e) (next_place (place_of_lem o) (omega arith))

pub r_stands : {s : List ℕ} {q r end : Reach} → GoesOn s r end → q ≡ r
    → is_word r_word (take (end.byte.0 - q.byte.0) (drop q.byte.0 s)) ≡ true → byte_at s r.byte.0 ≡ 114
r_stands {s} {q} {r} {end} g e f =
    ap (λ (x : Reach). byte_at s x.byte.0) (sym e)
    ∙ (starts_next 114 [] s q.byte.0 (word_starts r_word (drop q.byte.0 s) (end.byte.0 - q.byte.0) f)).0
