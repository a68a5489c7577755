-- Reading back, from the start: a string that is read as options is the candidate for them, or comes after it, and the candidate's fill fits.
--     first_prefix            the first cluster of a beginning that holds it, or ends with it
--     Least, start_least      what is known of a string that is read fine
--     ReadsAs, least          of any string that is read as options: the candidate is writable, and the string is not before it
-- Assumes nothing.
use Prim.Native.Nat.{ℕ, zero, suc, ◌+◌, ◌-◌, ◌/◌, ◌%◌, ◌<◌, ◌≤◌}
use native.Mathlib.Omega.{arith}
use Rattle.std.proofs.Math.Path.{◌≡◌, refl, sym, ap, subst}
use Rattle.std.proofs.Common.{◌∙◌, length-drop, take-append-drop, take_all, take-add, length-take-le, Option, Some, None, Ok}
use Rattle.std.specs.Prelude.{Bool, ◌&&◌, ◌||◌, ltb}
use Rattle.std.proofs.Math.Bool.{true, false}
use mathlib.Core.List.{List, [], ◌∷◌, ◌++◌, append-nil}
use Rattle.std.proofs.Math.Dec.{eqb}
use Rattle.std.proofs.Math.ListN.{length, take, drop, length-append}
use Rattle.std.proofs.Math.Seq.{take-append_seam, drop-append_seam}
use borrow.Author.Tests.{eqb-true, ltb-true, lt-ltb, le-leb, eq-eqb, ne_eqb}
use Rattle.base.specs.Pick.{pick}
use Rattle.base.specs.Range.{inside}
use Rattle.base.specs.PickLaws.{split_lt}
use Rattle.base.specs.AllLaws.{and_left, and_right}
use Rattle.base.specs.Refusal.{format_most}
use Rattle.utf8.specs.Encode.{Scalar, Scalars, encode, encode_all, WellFormed}
use Rattle.utf8.specs.EncodeLaws.{encode1, encode_some, all_append}
use Rattle.utf8.specs.Chars.{chars_in, chars}
use Rattle.utf8.specs.CharsLaws.{chars_past, fine_of_well, chars_well}
use Rattle.uax29.specs.Uax29.{joined}
use Rattle.cluster.specs.First.{go_on, first_size, first_end}
use Rattle.cluster.specs.FirstLaws.{first_within}
use Rattle.format_options.specs.Options.{no_options, with_alignment, with_fill}
use Rattle.format_options.specs.Letters.{no_char, less, caret, greater, zero_digit, is_sign, is_digit, char_to_alignment, representation_of}
use Rattle.format_number.specs.Number.{peeked}
use Rattle.format_arms.specs.Arms.{start, alignment, dot, on_shown, arm_of}
use Rattle.format.specs.Parse.{len_utf8, OnePass, parse, append, string_of}
use Rattle.format_options.specs.declared.Alignment.{Alignment}
use Rattle.format_options.specs.declared.Alignment.TheVariants as align
use Rattle.format_options.specs.declared.Representation.{Representation}
use Rattle.format_options.specs.declared.Representation.TheVariants as representation
use Rattle.format_options.specs.declared.Part.{Part}
use Rattle.format_options.specs.declared.Options.{Options}
use Rattle.format_arms.specs.declared.Arm.{Arm}
use Rattle.format_arms.specs.declared.Arm.TheVariants as arm
use Rattle.decimal.specs.Decimal.{digits}
use Rattle.decimal.specs.DecimalLaws.{digits_small, digits_more}
use Rattle.wanted.specs.Wanted.{Filled, Bytes, Unfilled, filled_of, equal, smaller, Before, shorter, level}
use Rattle.wanted.specs.Candidate.{Wanted, letter, letter_part, precision_part, width_part, sign_part, fill_part, tail_for, candidate}
use Rattle.wanted.specs.Candidate.{is_bare, is_default, is_taken, chars_fit, fill_fits, writable}
use Rattle.decimal.specs.Over.{Over, same, longer, over_append, over_cons, over_least}
use Rattle.wanted.specs.TailLaws.{PrecisionEnd, WidthEnd, kept, zeros, tail_of, Runs, stays, goes, expected, of_type, shown_end, dot_end, number_end, width_end}
use Rattle.wanted.specs.TailLaws.{arm_start, arm_alignment, zero_part, rest_on}

-- ---- reading back as options, and not yet as their numbers

-- options that were read from s
abbrev pub wanted_of : List ℕ → Options → Wanted
wanted_of s o =
    record { alignment = o.alignment; width = o.width; precision = o.precision; representation = o.representation; fill = filled_of s o.fill }

pub record ReadsAs (look : ℕ → ℕ) (edition : ℕ) (w : Wanted) (s : List ℕ) : Type 0 where
  pub small : length s ≤ format_most
  pub well : WellFormed s
  pub fine : (parse look edition (chars s)).outcome ≡ Ok tt
  pub same : wanted_of s (parse look edition (chars s)).options ≡ w

-- ---- what is written after the sign is its own encoding

pub one_low : (c : ℕ) → c < 128 → encode_all (c ∷ []) ≡ c ∷ []
unfolding encode_all
one_low c h = append-nil (encode c) ∙ encode1 c h

both_low : (a b : List ℕ) → encode_all a ≡ a → encode_all b ≡ b → encode_all (a ++ b) ≡ a ++ b
both_low a b e f = all_append a b ∙ cc

digits_low : (most n : ℕ) → n ≤ most → encode_all (digits n) ≡ digits n
digits_low zero n h = rw (digits_small n (omega arith)) (one_low (zero_digit + n) (omega arith))
digits_low (suc most) n h =
    split_lt n 10 (λ l. rw (digits_small n l) (one_low (zero_digit + n) (omega arith)))
    (λ l. rw (digits_more n l)
    (both_low (digits (n / 10)) ((zero_digit + n % 10) ∷ []) (digits_low most (n / 10) (omega arith)) (one_low (zero_digit + n % 10) (omega arith))))

pub letter_low : (r : Representation) → letter r < 128
letter_low representation.Debug = omega arith
letter_low representation.HexLower = omega arith
letter_low representation.HexUpper = omega arith
letter_low representation.Binary = omega arith
letter_low representation.Octal = omega arith
letter_low representation.ExpLower = omega arith
letter_low representation.ExpUpper = omega arith

width_low : (g : Option ℕ) → encode_all (width_part g) ≡ width_part g
unfolding encode_all
width_low (Some n) = digits_low n n (omega arith)
width_low None = refl

precision_low : (g : Option ℕ) → encode_all (precision_part g) ≡ precision_part g
unfolding encode_all
precision_low (Some n) = both_low (dot ∷ []) (digits n) (one_low dot (omega arith)) (digits_low n n (omega arith))
precision_low None = refl

shown_low : (x : Option Representation) → encode_all (letter_part x) ≡ letter_part x
unfolding encode_all
shown_low (Some r) = one_low (letter r) (letter_low r)
shown_low None = refl

pub tail_low : (g h : Option ℕ) (x : Option Representation) → encode_all (tail_for g h x) ≡ tail_for g h x
tail_low g h x =
    both_low (width_part g) (precision_part h ++ letter_part x) (width_low g) (both_low (precision_part h) (letter_part x) (precision_low h) (shown_low x))

-- there are no more characters than bytes
pub many_bytes : (cs : List ℕ) → length cs ≤ length (encode_all cs)
unfolding encode_all
many_bytes [] = omega arith
many_bytes (c ∷ cs) = omega (arith, many_bytes cs, encode_some c, length-append (encode c) (encode_all cs))

-- over, in bytes
over_bytes : {c t : List ℕ} → encode_all c ≡ c → Over c t → Over c (encode_all t)
over_bytes {c} {t} l (same e) = same (ap encode_all e ∙ l)
over_bytes {c} {t} l (longer h) = longer (omega (arith, many_bytes t))

over_before : {c t : List ℕ} → Over c t → Before c t
over_before (same e) = level (sym (ap length e)) (equal (sym e))
over_before (longer h) = shorter h

pub own_chars : (fs : List ℕ) → Scalars fs → chars (encode_all fs) ≡ fs
unfolding chars_in
own_chars fs sc = ap chars (sym (append-nil (encode_all fs))) ∙ chars_past fs [] sc ∙ append-nil fs

-- ---- the signs

pub record Sign (c : ℕ) : Type 0 where
  pub part : sign_part (char_to_alignment c) ≡ c ∷ []
  pub signed : is_default (char_to_alignment c) ≡ false
  pub above : zero_digit < c
  pub low : c < 128

or_either : {G : Type 0} (s t : Bool) → (s ≡ true → G) → (t ≡ true → G) → (s || t) ≡ true → G
or_either true t f g e = f refl
or_either false t f g e = g e

pub sign_is : (c : ℕ) → is_sign c ≡ true → Sign c
unfolding is_sign char_to_alignment
sign_is c =
    or_either (eqb c less) _ (λ e. subst Sign (sym (eqb-true c less e)) (record { part = refl; signed = refl; above = omega arith; low = omega arith }))
    (or_either (eqb c caret) _ (λ e. subst Sign (sym (eqb-true c caret e)) (record { part = refl; signed = refl; above = omega arith; low = omega arith }))
    (λ e. subst Sign (sym (eqb-true c greater e)) (record { part = refl; signed = refl; above = omega arith; low = omega arith })))

-- ---- the first cluster of a beginning

module _ (look : ℕ → ℕ) (edition : ℕ) where
  pub goes_prefix : (left cs : List ℕ) (k : ℕ) → go_on look edition left cs ≤ k → go_on look edition left (take k cs) ≡ go_on look edition left cs
  unfolding go_on
  goes_prefix left [] zero h = refl
  goes_prefix left [] (suc k) h = refl
  goes_prefix left (c ∷ cs) zero h = omega arith
  goes_prefix left (c ∷ cs) (suc k) h = go (joined edition left (look c)) refl (λ i. goes_prefix (look c ∷ left) cs k i)
    where
      go : (t : Bool) → joined edition left (look c) ≡ t
          → (go_on look edition (look c ∷ left) cs ≤ k → go_on look edition (look c ∷ left) (take k cs) ≡ go_on look edition (look c ∷ left) cs)
          → go_on look edition left (c ∷ take k cs) ≡ go_on look edition left (c ∷ cs)
      go true t ih = rw t (ap suc (ih (let i : suc (go_on look edition (look c ∷ left) cs) ≤ suc k = rw t at h in omega arith)))
      go false t ih = rw t

  pub first_prefix : (c : ℕ) (cs : List ℕ) (k : ℕ) → go_on look edition (look c ∷ []) cs ≤ k
      → first_size look edition (c ∷ take k cs) ≡ first_size look edition (c ∷ cs)
  first_prefix c cs k h = ap suc (goes_prefix (look c ∷ []) cs k h)

  -- ---- a string that is read fine

  module _ (s : List ℕ) where
    pub record Least (r : Options) : Type 0 where
      pub fits : fill_fits look edition (wanted_of s r) (filled_of s r.fill) ≡ true
      pub before : Before (candidate (wanted_of s r)) s

    least_none : (r : Options) → r.fill ≡ None → Over (sign_part r.alignment ++ tail_of r) s → Least r
    least_none r e v =
        let p : filled_of s r.fill ≡ Unfilled = ap (filled_of s) e in
        record {
          fits = subst (λ (x : Filled). fill_fits look edition (wanted_of s r) x ≡ true) (sym p) refl;
          before = subst (λ (x : Filled). Before (fill_part x ++ (sign_part r.alignment ++ tail_of r)) s) (sym p) (over_before v);
        }

    least_filled : (r : Options) (part : Part) (f : List ℕ) → r.fill ≡ Some part → string_of s part ≡ f
        → fill_fits look edition (wanted_of s r) (Bytes f) ≡ true → Before (f ++ (sign_part r.alignment ++ tail_of r)) s → Least r
    least_filled r part f e z t v =
        let p : filled_of s r.fill ≡ Bytes f = ap (filled_of s) e ∙ ap Bytes z in
        record {
          fits = subst (λ (x : Filled). fill_fits look edition (wanted_of s r) x ≡ true) (sym p) t;
          before = subst (λ (x : Filled). Before (fill_part x ++ (sign_part r.alignment ++ tail_of r)) s) (sym p) v;
        }

    -- the fill of the characters fs fits
    fits_by : (w : Wanted) (fs : List ℕ) → Scalars fs → chars_fit look edition w fs ≡ true → fill_fits look edition w (Bytes (encode_all fs)) ≡ true
    fits_by w fs sc t =
        let well : WellFormed (encode_all fs) = record { points = fs; scalars = sc; same = refl } in
        rw (fine_of_well 0 (encode_all fs) well, own_chars fs sc) t

    zero_scalars : Scalars (zero_digit ∷ [])
    zero_scalars = (record { small = omega arith; whole = λ h k. omega arith }, tt)

    -- one character fits before a sign
    one_signed : (w : Wanted) (c : ℕ) → is_default w.alignment ≡ false → chars_fit look edition w (c ∷ []) ≡ true
    one_signed w c e = rw e

    -- the fill "0" before a sign, and before a width
    zero_signed : (w : Wanted) → is_default w.alignment ≡ false → fill_fits look edition w (Bytes (zero_digit ∷ [])) ≡ true
    zero_signed w e =
        subst (λ (f : List ℕ). fill_fits look edition w (Bytes f) ≡ true) (one_low zero_digit (omega arith))
        (fits_by w (zero_digit ∷ []) zero_scalars (one_signed w zero_digit e))

    zero_wide : (w : Wanted) (n : ℕ) → w.width ≡ Some n → is_default w.alignment ≡ true → fill_fits look edition w (Bytes (zero_digit ∷ [])) ≡ true
    zero_wide w n e d =
        subst (λ (f : List ℕ). fill_fits look edition w (Bytes f) ≡ true) (one_low zero_digit (omega arith))
        (fits_by w (zero_digit ∷ []) zero_scalars (rw (d, e) refl))

    -- from behind the first k characters after c
    rest_from : (k c : ℕ) (cs : List ℕ) → s ≡ encode_all (c ∷ cs) → drop (0 + len_utf8 c + length (encode_all (take k cs))) s ≡ encode_all (drop k cs)
    unfolding encode_all
    rest_from k c cs w =
        let passed = encode_all (take (suc k) (c ∷ cs)) in
        let whole : s ≡ passed ++ encode_all (drop k cs) =
        w ∙ ap encode_all (sym (take-append-drop (suc k) (c ∷ cs))) ∙ all_append (take (suc k) (c ∷ cs)) (drop k cs) in
        let i : 0 + len_utf8 c + length (encode_all (take k cs)) ≡ length passed = omega (arith, length-append (encode c) (encode_all (take k cs))) in
        ap (λ (j : ℕ). drop j s) i ∙ ap (drop (length passed)) whole ∙ drop-append_seam passed (encode_all (drop k cs))

    -- the first k characters as a part
    front : (k : ℕ) (cs : List ℕ) → s ≡ encode_all cs → take (length (encode_all (take k cs))) s ≡ encode_all (take k cs)
    front k cs w =
        ap (take (length (encode_all (take k cs)))) (w ∙ ap encode_all (sym (take-append-drop k cs)) ∙ all_append (take k cs) (drop k cs))
        ∙ take-append_seam (encode_all (take k cs)) (encode_all (drop k cs))

    -- ---- after a sign

    module _ (o r : Options) (ds : List ℕ) (g : ℕ) (sg : Sign g) (al : o.alignment ≡ char_to_alignment g) where
      low : encode_all (tail_of r) ≡ tail_of r
      low = tail_low r.width r.precision r.representation

      low_zero : encode_all (zero_digit ∷ tail_of r) ≡ zero_digit ∷ tail_of r
      low_zero = both_low (zero_digit ∷ []) (tail_of r) (one_low zero_digit (omega arith)) low

      part_is : r.alignment ≡ o.alignment → sign_part r.alignment ≡ g ∷ []
      part_is a = ap sign_part (a ∙ al) ∙ sg.part

      not_default : r.alignment ≡ o.alignment → is_default r.alignment ≡ false
      not_default a = ap is_default (a ∙ al) ∙ sg.signed

      -- the characters fs before it are the fill
      signed_filled : {part : Part} (fs : List ℕ) → s ≡ encode_all fs ++ g ∷ encode_all ds → 0 < length fs → Scalars fs
          → o.fill ≡ Some part → string_of s part ≡ encode_all fs → (r.alignment ≡ char_to_alignment g → chars_fit look edition (wanted_of s r) fs ≡ true)
          → WidthEnd s o r ds → Least r
      signed_filled {part} fs w h sc fi st cf (kept a f d v) =
          let u : Over (g ∷ tail_of r) (g ∷ encode_all ds) = over_cons g g refl (over_bytes low v) in
          let both : Over (encode_all fs ++ g ∷ tail_of r) (encode_all fs ++ g ∷ encode_all ds) = over_append {c = encode_all fs} {t = encode_all fs} (same refl) u in
          let whole : Over (encode_all fs ++ g ∷ tail_of r) s = subst (Over (encode_all fs ++ g ∷ tail_of r)) (sym w) both in
          least_filled r part (encode_all fs) (f ∙ fi) st (fits_by (wanted_of s r) fs sc (cf (a ∙ al)))
          (subst (λ (x : List ℕ). Before (encode_all fs ++ (x ++ tail_of r)) s) (sym (part_is a)) (over_before whole))
      signed_filled {part} fs w h sc fi st cf (zeros other n a f y d v) =
          let few : length (zero_digit ∷ g ∷ tail_of r) < length s =
          omega (arith, ap length w, length-append (encode_all fs) (g ∷ encode_all ds), many_bytes fs, many_bytes ds, over_least v) in
          least_filled r other (zero_digit ∷ []) f y (zero_signed (wanted_of s r) (not_default a))
          (subst (λ (x : List ℕ). Before ((zero_digit ∷ []) ++ (x ++ tail_of r)) s) (sym (part_is a)) (shorter few))

      -- nothing stands before it: here "0" and a sign may change places
      tied : s ≡ g ∷ encode_all ds → Over (zero_digit ∷ tail_of r) (encode_all ds) → Before (zero_digit ∷ g ∷ tail_of r) s
      tied w (same e) = level (omega (arith, ap length w, ap length e)) (smaller [] zero_digit g (g ∷ tail_of r) (encode_all ds) refl w sg.above)
      tied w (longer h) = shorter (omega (arith, ap length w))

      signed_bare : s ≡ g ∷ encode_all ds → o.fill ≡ None → WidthEnd s o r ds → Least r
      signed_bare w fi (kept a f d v) =
          let u : Over (g ∷ tail_of r) (g ∷ encode_all ds) = over_cons g g refl (over_bytes low v) in
          let whole : Over (g ∷ tail_of r) s = subst (Over (g ∷ tail_of r)) (sym w) u in
          least_none r (f ∙ fi) (subst (λ (x : List ℕ). Over (x ++ tail_of r) s) (sym (part_is a)) whole)
      signed_bare w fi (zeros other n a f y d v) =
          least_filled r other (zero_digit ∷ []) f y (zero_signed (wanted_of s r) (not_default a))
          (subst (λ (x : List ℕ). Before ((zero_digit ∷ []) ++ (x ++ tail_of r)) s) (sym (part_is a)) (tied w (over_bytes low_zero v)))

    -- ---- a zero and a digit at the start

    zero_bare : {o r : Options} {part : Part} {cs : List ℕ} → s ≡ zero_digit ∷ encode_all cs → o.alignment ≡ align.Default → o.fill ≡ Some part
        → string_of s part ≡ zero_digit ∷ [] → is_digit (peeked cs) ≡ true → WidthEnd s o r cs → Least r
    zero_bare {o} {r} {part} {cs} w al fi st t (kept a f d v) =
        let whole : Over (zero_digit ∷ tail_of r) s =
        subst (Over (zero_digit ∷ tail_of r)) (sym w) (over_cons zero_digit zero_digit refl (over_bytes (tail_low r.width r.precision r.representation) v)) in
        least_filled r part (zero_digit ∷ []) (f ∙ fi) st (zero_wide (wanted_of s r) (d t).0 (d t).1 (ap is_default (a ∙ al)))
        (subst (λ (x : Alignment). Before ((zero_digit ∷ []) ++ (sign_part x ++ tail_of r)) s) (sym (a ∙ al)) (over_before whole))
    zero_bare {o} {r} {part} {cs} w al fi st t (zeros other n a f y d v) =
        let few : length (zero_digit ∷ tail_of r) < length s = omega (arith, ap length w, many_bytes cs, over_least v) in
        least_filled r other (zero_digit ∷ []) f y (zero_wide (wanted_of s r) n d (ap is_default (a ∙ al)))
        (subst (λ (x : Alignment). Before ((zero_digit ∷ []) ++ (sign_part x ++ tail_of r)) s) (sym (a ∙ al)) (shorter few))

    -- ---- no fill and no sign

    bare_least : {r : Options} (cs : List ℕ) → s ≡ encode_all cs → r.alignment ≡ align.Default → r.fill ≡ None → Over (tail_of r) cs → Least r
    bare_least {r} cs w al fi v =
        let whole : Over (tail_of r) s = subst (Over (tail_of r)) (sym w) (over_bytes (tail_low r.width r.precision r.representation) v) in
        least_none r fi (subst (λ (x : Alignment). Over (sign_part x ++ tail_of r) s) (sym al) whole)

    -- ---- a cluster

    -- no arm before that of a cluster takes c
    record Untaken (c : ℕ) (cs : List ℕ) : Type 0 where
      no_sign : is_sign c ≡ false
      no_digit : is_digit c ≡ false
      no_letter : representation_of c ≡ None
      no_dot : (eqb c dot && ltb (peeked cs) no_char) ≡ false
      no_next : is_sign (peeked cs) ≡ false

    untaken : (c : ℕ) (cs : List ℕ) → Untaken c cs → is_taken c ≡ false
    untaken c cs u = rw (u.no_sign, u.no_digit, u.no_letter)

    not_zero : (c : ℕ) → is_digit c ≡ false → eqb c zero_digit ≡ false
    unfolding inside is_digit
    not_zero c e =
        ne_eqb c zero_digit (λ q. let x : is_digit zero_digit ≡ false = subst (λ (y : ℕ). is_digit y ≡ false) q e in
        let z : ◌≡◌ {A = ℕ} 0 1 = cc in omega arith)

    -- alone, with nothing else asked for
    one_alone : (part : Part) (c : ℕ) → Untaken c [] → chars_fit look edition (wanted_of s (with_fill part no_options)) (c ∷ []) ≡ true
    one_alone part c u = rw (not_zero c u.no_digit, untaken c [] u)

    and_first : (a b : Bool) → (a && b) ≡ false → b ≡ true → a ≡ false
    and_first true b e f = sym f ∙ e
    and_first false b e f = refl

    many_fit : (w : Wanted) (c d : ℕ) (ds : List ℕ) → Untaken c (d ∷ ds) → Scalar d
        → first_size look edition ((c ∷ d ∷ ds) ++ sign_part w.alignment) ≡ length (c ∷ d ∷ ds) → pick (is_default w.alignment) (is_bare w) true ≡ true
        → chars_fit look edition w (c ∷ d ∷ ds) ≡ true
    unfolding peeked
    many_fit w c d ds u sc n p =
        let dot : eqb c dot ≡ false = and_first (eqb c dot) (ltb d no_char) u.no_dot (lt-ltb d no_char sc.small) in
        let next : is_sign d ≡ false = u.no_next in
        rw (untaken c (d ∷ ds) u, dot, next, eq-eqb (first_size look edition ((c ∷ d ∷ ds) ++ sign_part w.alignment)) (length (c ∷ d ∷ ds)) n) p

    peek_take : (n : ℕ) (cs : List ℕ) (d : ℕ) (ds : List ℕ) → take n cs ≡ d ∷ ds → peeked cs ≡ d
    unfolding peeked
    peek_take zero cs d ds q = absurd (let z : ◌≡◌ {A = ℕ} 0 1 = cc in omega arith)
    peek_take (suc n) [] d ds q = absurd (let z : ◌≡◌ {A = ℕ} 0 1 = cc in omega arith)
    peek_take (suc n) (c ∷ cs) d ds q = cc

    scalars_take : (m : ℕ) (ds : List ℕ) → Scalars ds → Scalars (take m ds)
    scalars_take zero ds x = tt
    scalars_take (suc m) [] x = tt
    scalars_take (suc m) (d ∷ ds) x = (x.0, scalars_take m ds x.1)

    peek_cons : {m : ℕ} (d : ℕ) (ds : List ℕ) → m ≡ d → m ≡ peeked (d ∷ ds)
    unfolding peeked
    peek_cons d ds e = e

    -- before a sign, which the rules do not join to it
    module _ (w : Wanted) (c : ℕ) (cs : List ℕ) (u : Untaken c cs) (sc : Scalars cs) (g : ℕ) (gs : List ℕ) (sg : Sign g)
        (q : drop (go_on look edition (look c ∷ []) cs) cs ≡ g ∷ gs) (al : w.alignment ≡ char_to_alignment g) where
      cluster_fits : chars_fit look edition w (c ∷ take (go_on look edition (look c ∷ []) cs) cs) ≡ true
      cluster_fits = go (take n cs) refl
        where
          n : ℕ
          n = go_on look edition (look c ∷ []) cs

          size : first_size look edition ((c ∷ take n cs) ++ sign_part w.alignment) ≡ length (c ∷ take n cs)
          size =
              let one : take (n + 1) cs ≡ take n cs ++ g ∷ [] = take-add n 1 cs ∙ ap (λ (l : List ℕ). take n cs ++ take 1 l) q in
              let part : sign_part w.alignment ≡ g ∷ [] = ap sign_part al ∙ sg.part in
              let m : length (take n cs) ≡ n = length-take-le n cs (omega (arith, first_within look edition (c ∷ cs))) in
              ap (λ (l : List ℕ). first_size look edition ((c ∷ take n cs) ++ l)) part
              ∙ ap (λ (l : List ℕ). first_size look edition (c ∷ l)) (sym one)
              ∙ first_prefix c cs (n + 1) (omega arith)
              ∙ ap suc (sym m)

          go : (l : List ℕ) → take n cs ≡ l → chars_fit look edition w (c ∷ l) ≡ true
          go [] e = one_signed w c (ap is_default al ∙ sg.signed)
          go (d ∷ ds) e =
              let p : peeked cs ≡ peeked (d ∷ ds) = peek_cons d ds (peek_take n cs d ds e) in
              let x : Untaken c (d ∷ ds) =
              record {
                no_sign = u.no_sign;
                no_digit = u.no_digit;
                no_letter = u.no_letter;
                no_dot = subst (λ (y : ℕ). (eqb c dot && ltb y no_char) ≡ false) p u.no_dot;
                no_next = subst (λ (y : ℕ). is_sign y ≡ false) p u.no_next;
              } in
              let y : Scalars (d ∷ ds) = subst Scalars e (scalars_take n cs sc) in
              many_fit w c d ds x y.0
              (subst (λ (l : List ℕ). first_size look edition ((c ∷ l) ++ sign_part w.alignment) ≡ length (c ∷ l)) e size)
              (rw (ap is_default al ∙ sg.signed) refl)

    -- ---- all arms

    module _ {P : Type 0} (add : P → Part → P) {pool : P} {r : OnePass P} where
      cluster_start : (c : ℕ) (cs : List ℕ) → s ≡ encode_all (c ∷ cs) → Scalars (c ∷ cs) → Untaken c cs
          → arm_of c (peeked cs) start ≡ arm.FillCluster → Runs add look edition 0 start no_options pool (c ∷ cs) r → Least r.options
      unfolding peeked encode_all
      cluster_start c cs w sc u a v = go (drop k cs) refl
        where
          n : ℕ
          n = go_on look edition (look c ∷ []) cs

          k : ℕ
          k = first_size look edition (c ∷ cs) - 1

          i : ℕ
          i = 0 + len_utf8 c + length (encode_all (take k cs))

          part : Part
          part = record { place = 0; len = first_end look edition 0 (c ∷ cs) }

          filled : Options
          filled = with_fill part no_options

          k_is : k ≡ n
          k_is = omega arith

          n_within : n ≤ length cs
          n_within = omega (arith, first_within look edition (c ∷ cs))

          string_is : string_of s part ≡ encode_all (c ∷ take n cs)
          string_is =
              let e : first_end look edition 0 (c ∷ cs) ≡ length (encode_all (take (suc n) (c ∷ cs))) = omega arith in
              ap (λ (x : ℕ). take x s) e ∙ front (suc n) (c ∷ cs) w

          next : Runs add look edition i alignment filled (add pool part) (drop k cs) r
          next = goes add look edition v a refl

          fit : (ds : List ℕ) → Scalars (c ∷ ds) → Untaken c ds → first_size look edition (c ∷ ds) ≡ length (c ∷ ds)
              → chars_fit look edition (wanted_of s filled) (c ∷ ds) ≡ true
          fit [] y x size = one_alone part c x
          fit (d ∷ ds) y x size =
              many_fit (wanted_of s filled) c d ds x y.1.0 (ap (first_size look edition) (append-nil (c ∷ d ∷ ds)) ∙ size) refl

          -- nothing follows
          alone : drop k cs ≡ [] → Least filled
          alone q =
              let m : length cs ≤ n = omega (arith, ap length q, length-drop k cs) in
              let all : take n cs ≡ cs = take_all n cs m in
              let st : string_of s part ≡ encode_all (c ∷ cs) = string_is ∙ ap (λ (l : List ℕ). encode_all (c ∷ l)) all in
              let size : first_size look edition (c ∷ cs) ≡ length (c ∷ cs) = omega (arith, n_within) in
              least_filled filled part (encode_all (c ∷ cs)) refl st (fits_by (wanted_of s filled) (c ∷ cs) sc (fit cs sc u size))
              (over_before (same (w ∙ sym (append-nil (encode_all (c ∷ cs))))))

          -- a sign follows
          signed : (g : ℕ) (gs : List ℕ) → drop k cs ≡ g ∷ gs → is_sign g ≡ true → Least r.options
          signed g gs q t =
              let sg = sign_is g t in
              let b : arm_of g (peeked gs) alignment ≡ arm.Align = arm_alignment g (peeked gs) ∙ ap (λ (y : Bool). pick y arm.Align arm.Unexpected) t in
              let here = subst (λ (l : List ℕ). Runs add look edition i alignment filled (add pool part) l r) q next in
              let place : drop i s ≡ encode_all (g ∷ gs) = rest_from k c cs w ∙ ap encode_all q in
              let fs = c ∷ take n cs in
              let split : drop n cs ≡ g ∷ gs = ap (λ (x : ℕ). drop x cs) (sym k_is) ∙ q in
              let whole : s ≡ encode_all fs ++ g ∷ encode_all gs =
              w ∙ ap encode_all (sym (take-append-drop (suc n) (c ∷ cs))) ∙ all_append fs (drop n cs) ∙ ap (λ (l : List ℕ). encode_all fs ++ encode_all l) split
              ∙ ap (λ (l : List ℕ). encode_all fs ++ (l ++ encode_all gs)) (encode1 g sg.low) in
              signed_filled (with_alignment (char_to_alignment g) filled) r.options gs g sg refl fs whole (omega arith) (sc.0, scalars_take n cs sc.1) refl string_is (λ al. cluster_fits (wanted_of s r.options) c cs u sc.1 g gs sg split al)
              (width_end add look edition s gs (record { width = refl; precision = refl; representation = refl }) (rest_on s i g gs place)
              (goes add look edition here b refl))

          by_sign : (g : ℕ) (gs : List ℕ) → drop k cs ≡ g ∷ gs → (t : Bool) → is_sign g ≡ t → Least r.options
          by_sign g gs q true t = signed g gs q t
          by_sign g gs q false t =
              absurd (expected add look edition (subst (λ (l : List ℕ). Runs add look edition i alignment filled (add pool part) l r) q next)
              (arm_alignment g (peeked gs) ∙ ap (λ (y : Bool). pick y arm.Align arm.Unexpected) t))

          go : (l : List ℕ) → drop k cs ≡ l → Least r.options
          go [] q = subst Least (stays add look edition (subst (λ (l : List ℕ). Runs add look edition i alignment filled (add pool part) l r) q next)) (alone q)
          go (g ∷ gs) q = by_sign g gs q (is_sign g) refl

      -- a character before a sign
      fill_sign_start : (c : ℕ) (cs : List ℕ) → s ≡ encode_all (c ∷ cs) → Scalar c → is_sign (peeked cs) ≡ true
          → arm_of c (peeked cs) start ≡ arm.FillSign → Runs add look edition 0 start no_options pool (c ∷ cs) r → Least r.options
      unfolding peeked encode_all is_sign
      fill_sign_start c [] w sc t a v = absurd (let z : ◌≡◌ {A = ℕ} 0 1 = cc in omega arith)
      fill_sign_start c (g ∷ ds) w sc t a v =
          let sg = sign_is g t in
          let whole : s ≡ encode_all (c ∷ []) ++ g ∷ encode_all ds =
          w ∙ all_append (c ∷ []) (g ∷ ds) ∙ ap (λ (l : List ℕ). encode_all (c ∷ []) ++ (l ++ encode_all ds)) (encode1 g sg.low) in
          let n : len_utf8 c ≡ length (encode_all (c ∷ [])) = sym (ap length (append-nil (encode c))) in
          let st : take (len_utf8 c) s ≡ encode_all (c ∷ []) = ap (λ (x : ℕ). take x s) n ∙ front 1 (c ∷ g ∷ ds) w in
          signed_filled (with_fill (record { place = 0; len = len_utf8 c }) (with_alignment (char_to_alignment g) no_options)) r.options ds g sg refl (c ∷ []) whole (omega arith) (sc, tt) refl st
          (λ al. one_signed (wanted_of s r.options) c (ap is_default al ∙ sg.signed))
          (width_end add look edition s ds (record { width = refl; precision = refl; representation = refl }) (rest_from 1 c (g ∷ ds) w)
          (goes add look edition v a refl))

      align_start : (c : ℕ) (cs : List ℕ) → s ≡ encode_all (c ∷ cs) → is_sign c ≡ true → arm_of c (peeked cs) start ≡ arm.Align
          → Runs add look edition 0 start no_options pool (c ∷ cs) r → Least r.options
      unfolding encode_all
      align_start c cs w t a v =
          let sg = sign_is c t in
          let whole : s ≡ c ∷ encode_all cs = w ∙ ap (λ (l : List ℕ). l ++ encode_all cs) (encode1 c sg.low) in
          signed_bare (with_alignment (char_to_alignment c) no_options) r.options cs c sg refl whole refl
          (width_end add look edition s cs (record { width = refl; precision = refl; representation = refl }) (rest_from 0 c cs w) (goes add look edition v a refl))

      zero_start : (c : ℕ) (cs : List ℕ) → s ≡ encode_all (c ∷ cs) → c ≡ zero_digit → is_digit (peeked cs) ≡ true
          → arm_of c (peeked cs) start ≡ arm.ZeroFill → Runs add look edition 0 start no_options pool (c ∷ cs) r → Least r.options
      unfolding encode_all
      zero_start c cs w q t a v =
          let whole : s ≡ zero_digit ∷ encode_all cs =
          w ∙ ap (λ (l : List ℕ). l ++ encode_all cs) (encode1 c (omega arith)) ∙ ap (λ (x : ℕ). x ∷ encode_all cs) q in
          zero_bare whole refl refl (zero_part s 0 c cs w q) t
          (width_end add look edition s cs (record { width = refl; precision = refl; representation = refl }) (rest_from 0 c cs w) (goes add look edition v a refl))

      pub start_least : (cs : List ℕ) → s ≡ encode_all cs → Scalars cs → Runs add look edition 0 start no_options pool cs r → Least r.options
      start_least [] w sc v = subst Least (stays add look edition v) (bare_least [] w refl refl (same refl))
      start_least (c ∷ cs) w sc v =
          go (is_sign (peeked cs)) (is_sign c) (eqb c zero_digit && is_digit (peeked cs)) (is_digit c) (eqb c dot && ltb (peeked cs) no_char) (representation_of c)
          refl refl refl refl refl refl (arm_start c (peeked cs))
        where
          arms : Bool → Bool → Bool → Bool → Bool → Option Representation → Arm
          arms next sign nought digit point shown =
              pick next arm.FillSign
              (pick sign arm.Align
              (pick nought arm.ZeroFill
              (pick digit arm.MinWidth
              (pick point arm.Precision
              (on_shown shown arm.Represent arm.FillCluster)))))

          wide : {o : Options} → PrecisionEnd no_options o (c ∷ cs) → Over (tail_of o) (c ∷ cs)
          wide u = rw u.width_is u.over

          go : (next sign nought digit point : Bool) (shown : Option Representation) → is_sign (peeked cs) ≡ next → is_sign c ≡ sign
              → (eqb c zero_digit && is_digit (peeked cs)) ≡ nought → is_digit c ≡ digit → (eqb c dot && ltb (peeked cs) no_char) ≡ point → representation_of c ≡ shown
              → arm_of c (peeked cs) start ≡ arms next sign nought digit point shown → Least r.options
          go true sign nought digit point shown t1 t2 t3 t4 t5 t6 a = fill_sign_start c cs w sc.0 t1 a v
          go false true nought digit point shown t1 t2 t3 t4 t5 t6 a = align_start c cs w t2 a v
          go false false true digit point shown t1 t2 t3 t4 t5 t6 a =
              zero_start c cs w (eqb-true c zero_digit (and_left (eqb c zero_digit) _ t3)) (and_right (eqb c zero_digit) _ t3) a v
          go false false false true point shown t1 t2 t3 t4 t5 t6 a =
              let u = number_end add look edition refl refl v a in
              bare_least (c ∷ cs) w u.alignment_is u.fill_is u.over
          go false false false false true shown t1 t2 t3 t4 t5 t6 a =
              let u = dot_end add look edition cs refl v a (eqb-true c dot (and_left (eqb c dot) _ t5)) (ltb-true (peeked cs) no_char (and_right (eqb c dot) _ t5)) in
              bare_least (c ∷ cs) w u.alignment_is u.fill_is (wide u)
          go false false false false false (Some x) t1 t2 t3 t4 t5 t6 a =
              let u = of_type refl (shown_end add look edition v x t6 a) in
              bare_least (c ∷ cs) w u.alignment_is u.fill_is (wide u)
          go false false false false false None t1 t2 t3 t4 t5 t6 a =
              cluster_start c cs w sc (record { no_sign = t2; no_digit = t4; no_letter = t6; no_dot = t5; no_next = t1 }) a v

  -- ---- any string that reads back

  before_short : {s t : List ℕ} → Before s t → length s ≤ length t
  before_short (shorter h) = omega arith
  before_short (level e h) = omega arith

  pub record Told (w : Wanted) (t : List ℕ) : Type 0 where
    pub can : writable look edition w ≡ true
    pub before : Before (candidate w) t

  pub least : (w : Wanted) (t : List ℕ) → ReadsAs look edition w t → Told w t
  unfolding writable
  least w t v =
      let u = chars_well t v.well in
      let l = start_least t append {pool = []} (chars t) u.0 u.1 (record { is = refl; fine = v.fine }) in
      let b : Before (candidate w) t = subst (λ (x : Wanted). Before (candidate x) t) v.same l.before in
      let f : fill_fits look edition w w.fill ≡ true = subst (λ (x : Wanted). fill_fits look edition x x.fill ≡ true) v.same l.fits in
      record { can = rw (le-leb (length (candidate w)) format_most (omega (arith, before_short b, v.small)), f); before = b }
