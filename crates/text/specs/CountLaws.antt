-- Laws of the runs of characters that pass a test, at a place of the bytes.
--     ascii_properties_lem         the tests of `Ascii` give what a fit table gives
--     whitespace_ascii .. hash_ascii   only ASCII characters pass a test of `run_end`
--     no_line_end_once, id_continue_once    what passes at once is ASCII, passes, and takes one column
--     count_more, count_stop, count_end     one turn of `run_end`, and its ways out
--     run_more, run_stop, run_end_lem           the same of `run_utf8`
--     Skips, skip_none, skip_one, skip_run  ASCII characters that are passed are so many bytes too
--     count_within, run_stands              where a run ends, a character begins within the source, or it is the end
-- Assumes nothing.
use Rattle.std.specs.Prelude.{ℕ, zero, suc, ◌+◌, ◌-◌, ◌≤◌, ◌<◌, ◌≡◌, refl, Bool, true, false, not, ◌&&◌, ◌||◌, List, ◌∷◌, eqb, length, get_or, drop, Ok}
use Rattle.std.proofs.Common.{arith, sym, ap, subst, ◌∙◌, drop-drop, eqb-true, lt-ltb}
use Rattle.base.specs.PickLaws.{split_lt}
use Rattle.base.specs.Range.{inside}
use Rattle.base.specs.RangeLaws.{inside_is}
use Rattle.position.specs.Place.{along_by}
use Rattle.position.specs.declared.Reach.{Reach}
use Rattle.utf8.specs.Encode.{WellFormed}
use Rattle.utf8.specs.Read.{read_at}
use Rattle.utf8.specs.Chars.{chars, At}
use Rattle.utf8.specs.CharsLaws.{at_char, rest_at, ascii_at, ascii_byte}
use Rattle.property.specs.Parts.{xid_continue, width_of}
use Rattle.property.specs.Table.{last_from, properties_at}
use Rattle.fitness.specs.Small.{small_table}
use Rattle.fitness.specs.First.{first_bad}
use Rattle.fitness.specs.Fit.{FitTable}
use Rattle.fitness.specs.FitLaws.{ascii_rule}
use Rattle.fitness.specs.Ascii.{is_letter, is_name_part, is_printable}
use Rattle.text.specs.Bytes.{byte_at}
use Rattle.text.specs.Tests.{is_whitespace, is_binary_digit, is_octal_digit, is_decimal_digit, is_hex_digit, is_hash, is_line_end, no_line_end, id_continue, test_utf8_of}
use Rattle.text.specs.Ascii.{ascii_properties}
use Rattle.text.specs.Count.{len_utf8, count_while, run_utf8}
use Rattle.text.specs.Stands.{Stands}
use Rattle.text.specs.FollowLaws.{Here, here, chars_end, ascii_read}

pub ascii_properties_lem : (table : List ℕ) → FitTable table → (c : ℕ) → c < 128 → ascii_properties c ≡ properties_at table c
unfolding ascii_properties inside first_bad last_from small_table
ascii_properties_lem table fit c h = eqb-true _ _ (ascii_rule table fit c (λ k p. eqb (ascii_properties k) p) refl h)

-- ---- the tests

module _ (c : ℕ) where
  -- a test that only ASCII passes
  abbrev Narrow : Bool → Type 0
  Narrow t = t ≡ true → c < 128

  in_range : (lo hi : ℕ) → hi < 128 → Narrow (inside c lo hi)
  in_range lo hi h e = omega (arith, (inside_is c lo hi e).1)

  is_char : (d : ℕ) → d < 128 → Narrow (eqb c d)
  is_char d h e = omega (arith, eqb-true c d e)

  either : (s t : Bool) → Narrow s → Narrow t → Narrow (s || t)
  either true t f g e = f refl
  either false t f g e = g e

  pub whitespace_ascii : is_whitespace c ≡ true → c < 128
  unfolding is_whitespace
  whitespace_ascii = either (eqb c 32) (eqb c 9) (is_char 32 (omega arith)) (is_char 9 (omega arith))

  pub binary_ascii : is_binary_digit c ≡ true → c < 128
  unfolding is_binary_digit
  binary_ascii = either (inside c 48 49) (eqb c 95) (in_range 48 49 (omega arith)) (is_char 95 (omega arith))

  pub octal_ascii : is_octal_digit c ≡ true → c < 128
  unfolding is_octal_digit
  octal_ascii = either (inside c 48 55) (eqb c 95) (in_range 48 55 (omega arith)) (is_char 95 (omega arith))

  pub decimal_ascii : is_decimal_digit c ≡ true → c < 128
  unfolding is_decimal_digit
  decimal_ascii = either (inside c 48 57) (eqb c 95) (in_range 48 57 (omega arith)) (is_char 95 (omega arith))

  pub hex_ascii : is_hex_digit c ≡ true → c < 128
  unfolding is_hex_digit
  hex_ascii =
      either (inside c 48 57) _ (in_range 48 57 (omega arith))
      (either (inside c 97 102) _ (in_range 97 102 (omega arith))
      (either (inside c 65 70) (eqb c 95) (in_range 65 70 (omega arith)) (is_char 95 (omega arith))))

  pub hash_ascii : is_hash c ≡ true → c < 128
  hash_ascii = is_char 35 (omega arith)

  name_part_ascii : is_name_part c ≡ true → c < 128
  name_part_ascii =
      either (is_letter c) _
      (either (inside c 65 90) (inside c 97 122) (in_range 65 90 (omega arith)) (in_range 97 122 (omega arith)))
      (either (inside c 48 57) (eqb c 95) (in_range 48 57 (omega arith)) (is_char 95 (omega arith)))

  printable_ascii : is_printable c ≡ true → c < 128
  printable_ascii = in_range 32 126 (omega arith)

-- what passes at once passes, and takes one column
pub record Once (table : List ℕ) (test : ℕ → ℕ → Bool) (c : ℕ) : Type 0 where
  pub passes : test_utf8_of (properties_at table) test c ≡ true
  pub wide : width_of (properties_at table c) ≡ 1

-- `at_once` tells characters that are ASCII and pass the test at once, whatever the table
pub record AtOnce (test : ℕ → ℕ → Bool) (at_once : ℕ → Bool) : Type 0 where
  pub ascii : (c : ℕ) → at_once c ≡ true → c < 128
  pub passes : (table : List ℕ) → FitTable table → (c : ℕ) → at_once c ≡ true → Once table test c

-- a rule that is asked only of some
abbrev asked : Bool → Bool → ℕ → Bool
asked true t w = t && eqb w 1
asked false t w = true

told : (s t : Bool) (w : ℕ) → asked s t w ≡ true → s ≡ true → (t ≡ true) × (w ≡ 1)
told true true w e f = (refl, eqb-true w 1 e)
told true false w e f = let z : ◌≡◌ {A = ℕ} 0 1 = cc in absurd (omega arith)
told false t w e f = let z : ◌≡◌ {A = ℕ} 0 1 = cc in absurd (omega arith)

name_part_passes : (table : List ℕ) → FitTable table → (c : ℕ) → is_name_part c ≡ true → Once table id_continue c
unfolding id_continue inside first_bad last_from small_table
name_part_passes table fit c e =
    let k = told _ _ _ (ascii_rule table fit c (λ k p. asked (is_name_part k) (xid_continue p) (width_of p)) refl (name_part_ascii c e)) e in
    record { passes = k.0; wide = k.1 }

printable_passes : (table : List ℕ) → FitTable table → (c : ℕ) → is_printable c ≡ true → Once table no_line_end c
unfolding no_line_end is_line_end inside first_bad last_from small_table
printable_passes table fit c e =
    let k = told _ _ _ (ascii_rule table fit c (λ k p. asked (is_printable k) (not (is_line_end k)) (width_of p)) refl (printable_ascii c e)) e in
    record { passes = k.0; wide = k.1 }

pub no_line_end_once : AtOnce no_line_end is_printable
no_line_end_once = record { ascii = printable_ascii; passes = printable_passes }

pub id_continue_once : AtOnce id_continue is_name_part
id_continue_once = record { ascii = name_part_ascii; passes = name_part_passes }

-- ---- a run of characters that pass a test which only ASCII passes

is_false : (b : Bool) → (b ≡ true → ⊥) → b ≡ false
is_false true h = absurd (h refl)
is_false false h = refl

count_yes : (f : ℕ → Bool) (c : ℕ) (cs : List ℕ) → f c ≡ true → count_while f (c ∷ cs) ≡ suc (count_while f cs)
unfolding count_while
count_yes f c cs t = rw (t, count_while)

count_no : (f : ℕ → Bool) (c : ℕ) (cs : List ℕ) → f c ≡ false → count_while f (c ∷ cs) ≡ 0
unfolding count_while
count_no f c cs t = rw (t, count_while)

module _ (f : ℕ → Bool) (ascii : (c : ℕ) → f c ≡ true → c < 128) (s : List ℕ) (i : ℕ) (w : WellFormed (drop i s)) where
  pub count_more : i < length s → f (get_or s i 0) ≡ true
      → (count_while f (chars (drop i s)) ≡ suc (count_while f (chars (drop (i + 1) s)))) × WellFormed (drop (i + 1) s)
  count_more h t =
      let r : read_at s i ≡ Ok (get_or s i 0, 1) = ascii_at s i h (ascii (get_or s i 0) t) in
      let a = at_char s i (get_or s i 0) 1 r in
      (ap (count_while f) a.step ∙ count_yes f (get_or s i 0) _ t, rest_at s i (get_or s i 0) 1 w r)

  pub count_stop : i < length s → f (get_or s i 0) ≡ false → count_while f (chars (drop i s)) ≡ 0
  count_stop h t =
      let c = here s i w h in
      let n : f c.code ≡ true → ⊥ =
      λ e. let b = (ascii_byte s i c.code c.len c.read (ascii c.code e)).0 in
      let g : f c.code ≡ false = ap f (sym b) ∙ t in
      let z : ◌≡◌ {A = ℕ} 0 1 = cc in
      omega arith
      in
      ap (count_while f) c.at.step ∙ count_no f c.code _ (is_false (f c.code) n)

pub count_end : (f : ℕ → Bool) (s : List ℕ) (i : ℕ) → length s ≤ i → count_while f (chars (drop i s)) ≡ 0
unfolding count_while
count_end f s i h = rw (chars_end s i h)

-- where the run ends
pub record Ends (s : List ℕ) (i r : ℕ) : Type 0 where
  pub on : i ≤ r
  pub within : i ≤ length s → r ≤ length s
  pub well : WellFormed (drop r s)

module _ (f : ℕ → Bool) (ascii : (c : ℕ) → f c ≡ true → c < 128) (s : List ℕ) where
  abbrev end : ℕ → ℕ
  end i = i + count_while f (chars (drop i s))

  none_ends : (i : ℕ) → WellFormed (drop i s) → count_while f (chars (drop i s)) ≡ 0 → Ends s i (end i)
  none_ends i w e =
      let q : i ≡ end i = omega arith in
      record { on = omega arith; within = λ k. omega arith; well = subst (λ (j : ℕ). WellFormed (drop j s)) q w }

  one_ends : (i : ℕ) → WellFormed (drop i s) → i < length s → (b : Bool) → f (get_or s i 0) ≡ b
      → (WellFormed (drop (i + 1) s) → Ends s (i + 1) (end (i + 1))) → Ends s i (end i)
  one_ends i w k true e on =
      let m = count_more f ascii s i w k e in
      let r = on m.1 in
      let q : end (i + 1) ≡ end i = omega (arith, m.0) in
      subst (Ends s i) q (record { on = omega (arith, r.on); within = λ j. r.within (omega arith); well = r.well })
  one_ends i w k false e on = none_ends i w (count_stop f ascii s i w k e)

  all_ends : (fuel i : ℕ) → length s - i ≤ fuel → WellFormed (drop i s) → Ends s i (end i)
  all_ends zero i h w = none_ends i w (count_end f s i (omega arith))
  all_ends (suc fuel) i h w =
      split_lt i (length s) (λ k. one_ends i w k _ refl (λ v. all_ends fuel (i + 1) (omega arith) v)) (λ k. none_ends i w (count_end f s i k))

pub count_within : {f : ℕ → Bool} → ((c : ℕ) → f c ≡ true → c < 128) → (s : List ℕ) (i : ℕ) → WellFormed (drop i s)
    → Ends s i (i + count_while f (chars (drop i s)))
count_within {f} ascii s i w = all_ends f ascii s (length s - i) i (omega arith) w

-- ---- a run of any characters, with what they reach

run_yes : (look : ℕ → ℕ) (f : ℕ → Bool) (r : Reach) (c : ℕ) (cs : List ℕ) → f c ≡ true
    → run_utf8 look f r (c ∷ cs) ≡ run_utf8 look f (along_by (len_utf8 c) (width_of (look c)) r) cs
unfolding run_utf8
run_yes look f r c cs t = rw (t, run_utf8)

run_no : (look : ℕ → ℕ) (f : ℕ → Bool) (r : Reach) (c : ℕ) (cs : List ℕ) → f c ≡ false → run_utf8 look f r (c ∷ cs) ≡ r
unfolding run_utf8
run_no look f r c cs t = rw (t, run_utf8)

module _ (look : ℕ → ℕ) (f : ℕ → Bool) (r : Reach) (s : List ℕ) (i : ℕ) where
  pub run_more : (c n : ℕ) → At s i c n → f c ≡ true
      → run_utf8 look f r (chars (drop i s)) ≡ run_utf8 look f (along_by n (width_of (look c)) r) (chars (drop (i + n) s))
  run_more c n a t =
      ap (run_utf8 look f r) a.step
      ∙ run_yes look f r c _ t
      ∙ ap (λ (k : ℕ). run_utf8 look f (along_by k (width_of (look c)) r) (chars (drop (i + n) s))) a.width

  pub run_stop : (c n : ℕ) → At s i c n → f c ≡ false → run_utf8 look f r (chars (drop i s)) ≡ r
  run_stop c n a t = ap (run_utf8 look f r) a.step ∙ run_no look f r c _ t

  pub run_end_lem : length s ≤ i → run_utf8 look f r (chars (drop i s)) ≡ r
  unfolding run_utf8
  run_end_lem h = rw (chars_end s i h)

-- one character on
pub along_stands : (s : List ℕ) (r : Reach) (c n w : ℕ) → Stands s r → At s r.byte.0 c n → WellFormed (drop (r.byte.0 + n) s) → w ≤ 3
    → Stands s (along_by n w r)
along_stands s r c n w o a e h =
    record {
      small = o.small;
      inside = omega (arith, a.fits);
      well = e;
      lines = omega (arith, o.lines);
      columns = omega (arith, o.columns, a.some);
    }

-- the width of a character is at most 3
pub width_most_lem : (p : ℕ) → width_of p ≤ 3
width_most_lem p = omega arith

module _ (look : ℕ → ℕ) (f : ℕ → Bool) (s : List ℕ) where
  abbrev ran : Reach → Reach
  ran r = run_utf8 look f r (chars (drop r.byte.0 s))

  -- a reach that stands in s, from r on
  pub record Goes (r q : Reach) : Type 0 where
    pub stands : Stands s q
    pub on : r.byte.0 ≤ q.byte.0

  stays : (r : Reach) → Stands s r → ran r ≡ r → Goes r (ran r)
  stays r o e = subst (Goes r) (sym e) (record { stands = o; on = omega arith })

  one_goes : (r : Reach) → Stands s r → (c : Here s r.byte.0) → (b : Bool) → f c.code ≡ b
      → ((q : Reach) → Stands s q → r.byte.0 < q.byte.0 → Goes q (ran q)) → Goes r (ran r)
  one_goes r o c true e on =
      let q = along_by c.len (width_of (look c.code)) r in
      let k : r.byte.0 < q.byte.0 = omega (arith, c.at.some) in
      let g = on q (along_stands s r c.code c.len (width_of (look c.code)) o c.at c.well (width_most_lem (look c.code))) k in
      subst (Goes r) (sym (run_more look f r s r.byte.0 c.code c.len c.at e))
      (record { stands = g.stands; on = omega (arith, g.on) })
  one_goes r o c false e on = stays r o (run_stop look f r s r.byte.0 c.code c.len c.at e)

  all_goes : (fuel : ℕ) (r : Reach) → length s - r.byte.0 ≤ fuel → Stands s r → Goes r (ran r)
  all_goes zero r h o = stays r o (run_end_lem look f r s r.byte.0 (omega arith))
  all_goes (suc fuel) r h o =
      split_lt r.byte.0 (length s)
      (λ k. one_goes r o (here s r.byte.0 o.well k) _ refl (λ q v l. all_goes fuel q (omega (arith, v.inside)) v))
      (λ k. stays r o (run_end_lem look f r s r.byte.0 k))

  pub run_stands : (r : Reach) → Stands s r → Goes r (ran r)
  run_stands r o = all_goes (length s - r.byte.0) r (omega arith) o

-- ---- ASCII characters: so many characters on, and so many bytes on, is the same place

pub record Skips (s : List ℕ) (i k : ℕ) : Type 0 where
  pub rest : drop k (chars (drop i s)) ≡ chars (drop (i + k) s)
  pub well : WellFormed (drop (i + k) s)

pub skip_none : (s : List ℕ) (i : ℕ) → WellFormed (drop i s) → Skips s i 0
skip_none s i w =
    let e : i ≡ i + 0 = omega arith in
    record { rest = ap (λ (j : ℕ). chars (drop j s)) e; well = subst (λ (j : ℕ). WellFormed (drop j s)) e w }

-- one place after another
pub skip_both : (s : List ℕ) (i j k : ℕ) → Skips s i j → Skips s (i + j) k → Skips s i (j + k)
skip_both s i j k p q =
    let e : i + j + k ≡ i + (j + k) = omega arith in
    record {
      rest = sym (drop-drop k j (chars (drop i s)))
          ∙ ap (drop k) p.rest
          ∙ q.rest
          ∙ ap (λ (n : ℕ). chars (drop n s)) e;
      well = subst (λ (n : ℕ). WellFormed (drop n s)) e q.well;
    }

-- an ASCII character
pub skip_one : (s : List ℕ) (i d : ℕ) → WellFormed (drop i s) → byte_at s i ≡ d → d < 128 → Skips s i 1
skip_one s i d w e h =
    let r = ascii_read s i d e h in
    let a = at_char s i d 1 r in
    record { rest = ap (drop 1) a.step; well = rest_at s i d 1 w r }

module _ (f : ℕ → Bool) (ascii : (c : ℕ) → f c ≡ true → c < 128) (s : List ℕ) where
  no_skip : (i : ℕ) → WellFormed (drop i s) → count_while f (chars (drop i s)) ≡ 0 → Skips s i (count_while f (chars (drop i s)))
  no_skip i w e = subst (Skips s i) (sym e) (skip_none s i w)

  one_skip : (i : ℕ) → WellFormed (drop i s) → i < length s → (b : Bool) → f (get_or s i 0) ≡ b
      → (WellFormed (drop (i + 1) s) → Skips s (i + 1) (count_while f (chars (drop (i + 1) s)))) → Skips s i (count_while f (chars (drop i s)))
  one_skip i w k true e on =
      let m = count_more f ascii s i w k e in
      let b : byte_at s i ≡ get_or s i 0 = rw (lt-ltb i (length s) k) in
      let q : 1 + count_while f (chars (drop (i + 1) s)) ≡ count_while f (chars (drop i s)) = omega (arith, m.0) in
      subst (Skips s i) q
      (skip_both s i 1 (count_while f (chars (drop (i + 1) s))) (skip_one s i (get_or s i 0) w b (ascii (get_or s i 0) e)) (on m.1))
  one_skip i w k false e on = no_skip i w (count_stop f ascii s i w k e)

  all_skip : (fuel i : ℕ) → length s - i ≤ fuel → WellFormed (drop i s) → Skips s i (count_while f (chars (drop i s)))
  all_skip zero i h w = no_skip i w (count_end f s i (omega arith))
  all_skip (suc fuel) i h w =
      split_lt i (length s) (λ k. one_skip i w k _ refl (λ v. all_skip fuel (i + 1) (omega arith) v)) (λ k. no_skip i w (count_end f s i k))

-- a run of characters that pass a test which only ASCII passes
pub skip_run : {f : ℕ → Bool} → ((c : ℕ) → f c ≡ true → c < 128) → (s : List ℕ) (i : ℕ) → WellFormed (drop i s)
    → Skips s i (count_while f (chars (drop i s)))
skip_run {f} ascii s i w = all_skip f ascii s (length s - i) i (omega arith) w
