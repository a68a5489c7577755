-- What is written is read back, whole; and so the candidate is the string for its options, or there is none.
--     reads             a writable candidate is read as its options
--     first, no_such    it is the first string that is read back; where none can be written, none is read back
--     one_first         no second string is
-- Assumes nothing.
use Prim.Native.Nat.{ℕ, zero, suc, ◌+◌, ◌-◌, ◌/◌, ◌%◌, ◌<◌, ◌≤◌}
use native.Mathlib.Omega.{arith}
use Rattle.std.proofs.Math.Path.{◌≡◌, refl, ap}
use Rattle.std.proofs.Common.{sym, subst, ◌∙◌, length-append, eqb-true, leb-true, ne_eqb, Option, Some, None, Ok}
use Rattle.std.specs.Prelude.{Bool, not, ◌&&◌, ◌||◌, eqb, ltb, leb, take, drop, Result, Ok, Err}
use Rattle.std.proofs.Math.Bool.{true, false}
use mathlib.Core.List.{List, [], ◌∷◌, ◌++◌, append_assoc, append-nil}
use Rattle.std.proofs.Math.ListN.{length}
use Rattle.std.proofs.Math.Seq.{take-append_seam, drop-append_seam, take-length, drop-length}
use Rattle.base.specs.Pick.{pick}
use Rattle.base.specs.Range.{inside}
use Rattle.base.specs.PickLaws.{split_lt}
use Rattle.base.specs.AllLaws.{and_left, and_right}
use Rattle.base.specs.Refusal.{format_most}
use Rattle.utf8.specs.Encode.{Scalar, Scalars, encode, encode_all}
use Rattle.utf8.specs.EncodeLaws.{encode1, all_append}
use Rattle.utf8.specs.Chars.{chars, check_from}
use Rattle.utf8.specs.CharsLaws.{well_of_fine, chars_well}
use Rattle.utf8.specs.declared.Utf8Error.{Utf8Error}
use Rattle.uax29.specs.Uax29.{joined}
use Rattle.cluster.specs.First.{go_on, first_size, first_end}
use Rattle.format_options.specs.Options.{alignment_number, no_options, with_fill}
use Rattle.format_options.specs.Letters.{no_char, less, caret, greater, zero_digit, is_sign, is_digit, char_to_alignment, representation_of}
use Rattle.format_number.specs.Number.{peeked}
use Rattle.format_arms.specs.Arms.{start, alignment, min_width, dot, arm_of}
use Rattle.format.specs.Parse.{len_utf8, OnePass, parse_from, parse, append, string_of}
use Rattle.format_options.specs.declared.Alignment.{Alignment}
use Rattle.format_options.specs.declared.Alignment.TheVariants as align
use Rattle.format_options.specs.declared.Part.{Part}
use Rattle.format_options.specs.declared.Options.{Options}
use Rattle.format_options.specs.declared.Representation.{Representation}
use Rattle.format_arms.specs.declared.Arm.TheVariants as arm
use Rattle.decimal.specs.Decimal.{digits}
use Rattle.decimal.specs.DecimalLaws.{digits_small, digits_more, spelled}
use Rattle.parse.specs.Numbers.{given_number, shown_number}
use Rattle.asked.specs.Fields.{are_fields}
use Rattle.asked.specs.FieldsLaws.{Small, fields_small, HasNumbers, has_numbers, one_of}
use Rattle.asked.specs.declared.Fields.{Fields}
use Rattle.wanted.specs.Wanted.{Filled, Bytes, Unfilled, Asked, ReadsBack, First, NoSuch, NotAfter, equal, smaller, Before, shorter, level}
use Rattle.wanted.specs.Candidate.{Wanted, wanted_by, wanted_for, letter_part, precision_part, width_part, sign_part, tail_for, candidate}
use Rattle.wanted.specs.Candidate.{is_given, is_shown, has_tail, is_taken, chars_fit, fill_fits, writable, can_write}
use Rattle.wanted.specs.TailLaws.{and_no, turn, arm_start, arm_alignment}
use Rattle.wanted.specs.SmallLaws.{parse_small}
use Rattle.wanted.proofs.StartLaws.{wanted_of, ReadsAs, one_low, tail_low, letter_low, own_chars, Sign, sign_is, least}
use Rattle.wanted.specs.BackLaws.{options_of, stop_dot, digit_sign, start_widths, width_widths, tail_reads}

-- ---- characters of one byte are scalar values

low_scalar : (c : ℕ) → c < 128 → Scalar c
low_scalar c h = record { small = omega arith; whole = λ a b. omega arith }

both_scalars : (a b : List ℕ) → Scalars a → Scalars b → Scalars (a ++ b)
both_scalars [] b v w = w
both_scalars (c ∷ a) b v w = (v.0, both_scalars a b v.1 w)

digits_scalars : (most n : ℕ) → n ≤ most → Scalars (digits n)
digits_scalars zero n h = subst Scalars (sym (digits_small n (omega arith))) (low_scalar (zero_digit + n) (omega arith), tt)
digits_scalars (suc most) n h =
    split_lt n 10 (λ l. subst Scalars (sym (digits_small n l)) (low_scalar (zero_digit + n) (omega arith), tt))
    (λ l. subst Scalars (sym (digits_more n l))
    (both_scalars (digits (n / 10)) ((zero_digit + n % 10) ∷ []) (digits_scalars most (n / 10) (omega arith)) (low_scalar (zero_digit + n % 10) (omega arith), tt)))

width_scalars : (g : Option ℕ) → Scalars (width_part g)
width_scalars (Some n) = digits_scalars n n (omega arith)
width_scalars None = tt

precision_scalars : (g : Option ℕ) → Scalars (precision_part g)
precision_scalars (Some n) = (low_scalar dot (omega arith), digits_scalars n n (omega arith))
precision_scalars None = tt

shown_scalars : (x : Option Representation) → Scalars (letter_part x)
shown_scalars (Some r) = (low_scalar _ (letter_low r), tt)
shown_scalars None = tt

tail_scalars : (w g : Option ℕ) (x : Option Representation) → Scalars (tail_for w g x)
tail_scalars w g x =
    both_scalars (width_part w) (precision_part g ++ letter_part x) (width_scalars w) (both_scalars (precision_part g) (letter_part x) (precision_scalars g) (shown_scalars x))

-- no sign begins a tail; a width does with a digit
tail_sign : (w g : Option ℕ) (x : Option Representation) → Small w → is_sign (peeked (tail_for w g x)) ≡ false
unfolding peeked
tail_sign (Some n) g x s =
    let v = spelled n n (omega arith) s in
    ap (λ (l : List ℕ). is_sign (peeked (l ++ (precision_part g ++ letter_part x)))) v.is ∙ digit_sign v.first v.digit
tail_sign None g x s = (stop_dot g x).no_sign

tail_digit : (n : ℕ) (g : Option ℕ) (x : Option Representation) → Small (Some n) → is_digit (peeked (tail_for (Some n) g x)) ≡ true
unfolding peeked
tail_digit n g x s =
    let v = spelled n n (omega arith) s in
    ap (λ (l : List ℕ). is_digit (peeked (l ++ (precision_part g ++ letter_part x)))) v.is ∙ v.digit

-- ---- the first cluster of a longer text

module _ (look : ℕ → ℕ) (edition : ℕ) where
  goes_extend : (left cs ds : List ℕ) → go_on look edition left cs < length cs → go_on look edition left (cs ++ ds) ≡ go_on look edition left cs
  unfolding go_on
  goes_extend left [] ds h = absurd (omega arith)
  goes_extend left (c ∷ cs) ds h = go (joined edition left (look c)) refl (λ i. goes_extend (look c ∷ left) cs ds i)
    where
      go : (t : Bool) → joined edition left (look c) ≡ t
          → (go_on look edition (look c ∷ left) cs < length cs → go_on look edition (look c ∷ left) (cs ++ ds) ≡ go_on look edition (look c ∷ left) cs)
          → go_on look edition left (c ∷ cs ++ ds) ≡ go_on look edition left (c ∷ cs)
      go true t ih = rw t (ap suc (ih (let i : suc (go_on look edition (look c ∷ left) cs) < suc (length cs) = rw t at h in omega arith)))
      go false t ih = rw t

  -- ---- a candidate that is read back

  back_by : (w : Wanted) (cs : List ℕ) (r : Options) (pool : List Part) → candidate w ≡ encode_all cs → Scalars cs → length (candidate w) ≤ format_most
      → parse look edition cs ≡ record { options = r; outcome = Ok tt; pool = pool } → wanted_of (candidate w) r ≡ w → ReadsAs look edition w (candidate w)
  back_by w cs r pool e sc h p q =
      let own : chars (candidate w) ≡ cs = ap chars e ∙ own_chars cs sc in
      let whole : parse look edition (chars (candidate w)) ≡ record { options = r; outcome = Ok tt; pool = pool } = ap (parse look edition) own ∙ p in
      record {
        small = h;
        well = record { points = cs; scalars = sc; same = e };
        fine = ap (λ (x : OnePass (List Part)). x.outcome) whole;
        same = ap (λ (x : OnePass (List Part)). wanted_of (candidate w) x.options) whole ∙ q;
      }

  low_cons : (b : ℕ) (l : List ℕ) → b < 128 → encode_all l ≡ l → encode_all (b ∷ l) ≡ b ∷ l
  unfolding encode_all
  low_cons b l h e = ap (λ (x : List ℕ). x ++ encode_all l) (encode1 b h) ∙ ap (λ (x : List ℕ). b ∷ x) e

  module _ (wd g : Option ℕ) (x : Option Representation) (sw : Small wd) (sg : Small g) where
    abbrev asked : Alignment → Filled → Wanted
    asked a f = record { alignment = a; width = wd; precision = g; representation = x; fill = f }

    -- no fill and no sign
    plain_back : length (candidate (asked align.Default Unfilled)) ≤ format_most
        → ReadsAs look edition (asked align.Default Unfilled) (candidate (asked align.Default Unfilled))
    plain_back h =
        back_by (asked align.Default Unfilled) (tail_for wd g x) (options_of align.Default None wd g x) [] (sym (tail_low wd g x)) (tail_scalars wd g x) h
        (tail_reads append look edition align.Default None [] 0 start start_widths wd g x sw sg) refl

    -- the fill "0" before a width
    zero_back : (n : ℕ) → wd ≡ Some n → length (candidate (asked align.Default (Bytes (zero_digit ∷ [])))) ≤ format_most
        → ReadsAs look edition (asked align.Default (Bytes (zero_digit ∷ []))) (candidate (asked align.Default (Bytes (zero_digit ∷ []))))
    unfolding is_sign encode
    zero_back n e h =
        let part : Part = record { place = 0; len = len_utf8 zero_digit } in
        let digit : is_digit (peeked (tail_for wd g x)) ≡ true =
        ap (λ (y : Option ℕ). is_digit (peeked (tail_for y g x))) e ∙ tail_digit n g x (subst Small e sw) in
        let a : arm_of zero_digit (peeked (tail_for wd g x)) start ≡ arm.ZeroFill =
        arm_start zero_digit (peeked (tail_for wd g x)) ∙ rw (tail_sign wd g x sw, digit) in
        back_by (asked align.Default (Bytes (zero_digit ∷ []))) (zero_digit ∷ tail_for wd g x) (options_of align.Default (Some part) wd g x) (part ∷ [])
        (sym (low_cons zero_digit (tail_for wd g x) (omega arith) (tail_low wd g x))) (low_scalar zero_digit (omega arith), tail_scalars wd g x) h
        (turn append look edition 0 start no_options [] zero_digit (tail_for wd g x) a refl
        ∙ tail_reads append look edition align.Default (Some part) (part ∷ []) _ min_width width_widths wd g x sw sg)
        refl

    module _ (b : ℕ) (t : is_sign b ≡ true) where
      bs : Sign b
      bs = sign_is b t

      low_tail : encode_all (b ∷ tail_for wd g x) ≡ b ∷ tail_for wd g x
      low_tail = low_cons b (tail_for wd g x) bs.low (tail_low wd g x)

      sign_back : length (candidate (asked (char_to_alignment b) Unfilled)) ≤ format_most
          → ReadsAs look edition (asked (char_to_alignment b) Unfilled) (candidate (asked (char_to_alignment b) Unfilled))
      sign_back h =
          let a : arm_of b (peeked (tail_for wd g x)) start ≡ arm.Align = arm_start b (peeked (tail_for wd g x)) ∙ rw (tail_sign wd g x sw, t) in
          back_by (asked (char_to_alignment b) Unfilled) (b ∷ tail_for wd g x) (options_of (char_to_alignment b) None wd g x) []
          (ap (λ (l : List ℕ). l ++ tail_for wd g x) bs.part ∙ sym low_tail) (low_scalar b bs.low, tail_scalars wd g x) h
          (turn append look edition 0 start no_options [] b (tail_for wd g x) a refl
          ∙ tail_reads append look edition (char_to_alignment b) None [] _ min_width width_widths wd g x sw sg)
          refl

      -- characters before the sign
      signed_is : (fs : List ℕ) → candidate (asked (char_to_alignment b) (Bytes (encode_all fs))) ≡ encode_all (fs ++ b ∷ tail_for wd g x)
      signed_is fs =
          ap (λ (l : List ℕ). encode_all fs ++ (l ++ tail_for wd g x)) bs.part ∙ ap (λ (l : List ℕ). encode_all fs ++ l) (sym low_tail)
          ∙ sym (all_append fs (b ∷ tail_for wd g x))

      -- the fill is what stands in front
      same_by : (a : Alignment) (part : Part) (fs rest : List ℕ) → part.place ≡ 0 → part.len ≡ length (encode_all fs)
          → wanted_of (encode_all fs ++ rest) (options_of a (Some part) wd g x) ≡ asked a (Bytes (encode_all fs))
      same_by a part fs rest p q =
          let st : string_of (encode_all fs ++ rest) part ≡ encode_all fs =
          ap (λ (i : ℕ). take part.len (drop i (encode_all fs ++ rest))) p ∙ ap (λ (i : ℕ). take i (encode_all fs ++ rest)) q
          ∙ take-append_seam (encode_all fs) rest in
          ap (λ (f : List ℕ). asked a (Bytes f)) st

      one_back : (c : ℕ) → Scalar c → length (candidate (asked (char_to_alignment b) (Bytes (encode_all (c ∷ []))))) ≤ format_most
          → ReadsAs look edition (asked (char_to_alignment b) (Bytes (encode_all (c ∷ [])))) (candidate (asked (char_to_alignment b) (Bytes (encode_all (c ∷ [])))))
      unfolding peeked encode_all
      one_back c sc h =
          let part : Part = record { place = 0; len = len_utf8 c } in
          let a : arm_of c (peeked (b ∷ tail_for wd g x)) start ≡ arm.FillSign = arm_start c b ∙ rw t in
          back_by (asked (char_to_alignment b) (Bytes (encode_all (c ∷ [])))) (c ∷ b ∷ tail_for wd g x) (options_of (char_to_alignment b) (Some part) wd g x) (part ∷ [])
          (signed_is (c ∷ [])) (sc, (low_scalar b bs.low, tail_scalars wd g x)) h
          (turn append look edition 0 start no_options [] c (b ∷ tail_for wd g x) a refl
          ∙ tail_reads append look edition (char_to_alignment b) (Some part) (part ∷ []) _ min_width width_widths wd g x sw sg)
          (same_by (char_to_alignment b) part (c ∷ []) _ refl (sym (ap length (append-nil (encode c)))))

      many_back : (c : ℕ) (cs : List ℕ) → Scalars (c ∷ cs) → arm_of c (peeked (cs ++ b ∷ tail_for wd g x)) start ≡ arm.FillCluster
          → first_size look edition ((c ∷ cs) ++ b ∷ []) ≡ length (c ∷ cs) → length (candidate (asked (char_to_alignment b) (Bytes (encode_all (c ∷ cs))))) ≤ format_most
          → ReadsAs look edition (asked (char_to_alignment b) (Bytes (encode_all (c ∷ cs)))) (candidate (asked (char_to_alignment b) (Bytes (encode_all (c ∷ cs)))))
      many_back c cs sc a n h =
          back_by (asked (char_to_alignment b) (Bytes (encode_all (c ∷ cs)))) (c ∷ all) (options_of (char_to_alignment b) (Some part) wd g x) (part ∷ [])
          (signed_is (c ∷ cs)) (both_scalars (c ∷ cs) (b ∷ T) sc (low_scalar b bs.low, tail_scalars wd g x)) h
          (turn append look edition 0 start no_options [] c all a refl
          ∙ ap (λ (l : List ℕ). parse_from append look edition 0 i alignment (with_fill part no_options) (part ∷ []) l) left
          ∙ turn append look edition i alignment (with_fill part no_options) (part ∷ []) b T to_align refl
          ∙ tail_reads append look edition (char_to_alignment b) (Some part) (part ∷ []) _ min_width width_widths wd g x sw sg)
          (same_by (char_to_alignment b) part (c ∷ cs) _ refl len_is)
        where
          T : List ℕ
          T = tail_for wd g x

          i : ℕ
          i = 0 + len_utf8 c + length (encode_all (take (first_size look edition (c ∷ cs ++ b ∷ T) - 1) (cs ++ b ∷ T)))

          all : List ℕ
          all = cs ++ b ∷ T

          part : Part
          part = record { place = 0; len = first_end look edition 0 (c ∷ all) }

          to_align : arm_of b (peeked T) alignment ≡ arm.Align
          to_align = arm_alignment b (peeked T) ∙ rw t

          short : go_on look edition (look c ∷ []) (cs ++ b ∷ []) < length (cs ++ b ∷ [])
          short = omega (arith, n, length-append cs (b ∷ []))

          size : first_size look edition (c ∷ all) ≡ suc (length cs)
          size =
              ap (λ (l : List ℕ). first_size look edition (c ∷ l)) (sym (append_assoc cs (b ∷ []) T))
              ∙ ap suc (goes_extend (look c ∷ []) (cs ++ b ∷ []) T short) ∙ n

          left : drop (first_size look edition (c ∷ all) - 1) all ≡ b ∷ T
          left = ap (λ (i : ℕ). drop i all) (let q : first_size look edition (c ∷ all) - 1 ≡ length cs = omega (arith, size) in q) ∙ drop-append_seam cs (b ∷ T)

          len_is : part.len ≡ length (encode_all (c ∷ cs))
          len_is =
              let front : take (first_size look edition (c ∷ all)) (c ∷ all) ≡ c ∷ cs =
              ap (λ (i : ℕ). take i (c ∷ all)) size ∙ ap {B = List ℕ} (λ (l : List ℕ). c ∷ l) (take-append_seam cs (b ∷ T)) in
              omega (arith, ap (λ (l : List ℕ). length (encode_all l)) front)

  -- a fill and nothing else
  abbrev lone : List ℕ → Wanted
  lone f = record { alignment = align.Default; width = None; precision = None; representation = None; fill = Bytes f }

  alone_back : (c : ℕ) (cs : List ℕ) → Scalars (c ∷ cs) → arm_of c (peeked cs) start ≡ arm.FillCluster
      → first_size look edition (c ∷ cs) ≡ length (c ∷ cs) → length (candidate (lone (encode_all (c ∷ cs)))) ≤ format_most
      → ReadsAs look edition (lone (encode_all (c ∷ cs))) (candidate (lone (encode_all (c ∷ cs))))
  unfolding parse_from
  alone_back c cs sc a n h =
      back_by (lone (encode_all (c ∷ cs))) (c ∷ cs) (with_fill part no_options) (part ∷ []) (append-nil (encode_all (c ∷ cs))) sc h
      (turn append look edition 0 start no_options [] c cs a refl
      ∙ ap (λ (l : List ℕ). parse_from append look edition 0 i alignment (with_fill part no_options) (part ∷ []) l) left)
      (ap lone string_is)
    where
      part : Part
      part = record { place = 0; len = first_end look edition 0 (c ∷ cs) }

      i : ℕ
      i = 0 + len_utf8 c + length (encode_all (take (first_size look edition (c ∷ cs) - 1) cs))

      left : drop (first_size look edition (c ∷ cs) - 1) cs ≡ []
      left = ap (λ (i : ℕ). drop i cs) (let q : first_size look edition (c ∷ cs) - 1 ≡ length cs = omega (arith, n) in q) ∙ drop-length cs

      string_is : string_of (encode_all (c ∷ cs) ++ []) part ≡ encode_all (c ∷ cs)
      string_is =
          let front : take (first_size look edition (c ∷ cs)) (c ∷ cs) ≡ c ∷ cs = ap (λ (i : ℕ). take i (c ∷ cs)) n ∙ take-length (c ∷ cs) in
          let q : part.len ≡ length (encode_all (c ∷ cs)) = omega (arith, ap (λ (l : List ℕ). length (encode_all l)) front) in
          ap (λ (i : ℕ). take i (encode_all (c ∷ cs) ++ [])) q ∙ take-append_seam (encode_all (c ∷ cs)) []

-- ---- the tests of `writable`, taken apart

or_left : (a b : Bool) → (a || b) ≡ false → a ≡ false
or_left true b e = e
or_left false b e = refl

or_right : (a b : Bool) → (a || b) ≡ false → b ≡ false
or_right true b e = absurd (let z : ◌≡◌ {A = ℕ} 0 1 = cc in omega arith)
or_right false b e = e

not_is : (a : Bool) → not a ≡ true → a ≡ false
not_is true e = sym e
not_is false e = refl

none_shown : (x : Option Representation) → is_shown x ≡ false → x ≡ None
none_shown (Some r) e = absurd (let z : ◌≡◌ {A = ℕ} 0 1 = cc in omega arith)
none_shown None e = refl

none_given : (g : Option ℕ) → is_given g ≡ false → g ≡ None
none_given (Some n) e = absurd (let z : ◌≡◌ {A = ℕ} 0 1 = cc in omega arith)
none_given None e = refl

not_zero : (c : ℕ) → is_digit c ≡ false → eqb c zero_digit ≡ false
unfolding inside is_digit
not_zero c e =
    ne_eqb c zero_digit (λ q. let x : is_digit zero_digit ≡ false = subst (λ (y : ℕ). is_digit y ≡ false) q e in
    let z : ◌≡◌ {A = ℕ} 0 1 = cc in omega arith)

-- no arm before that of a cluster is taken
cluster_arm : (c peek : ℕ) → is_taken c ≡ false → is_sign peek ≡ false → (eqb c dot && ltb peek no_char) ≡ false → arm_of c peek start ≡ arm.FillCluster
cluster_arm c peek t s d =
    let a = or_left (is_sign c) _ t in
    let b = or_left (is_digit c) _ (or_right (is_sign c) _ t) in
    let l = none_shown (representation_of c) (or_right (is_digit c) _ (or_right (is_sign c) _ t)) in
    arm_start c peek ∙ rw (s, a, not_zero c b, b, d, l)

-- ---- all together

-- the options with these parts
abbrev pub asked_for : Alignment → Option ℕ → Option ℕ → Option Representation → Filled → Wanted
asked_for a w g x f = record { alignment = a; width = w; precision = g; representation = x; fill = f }

module _ (look : ℕ → ℕ) (edition : ℕ) where
  -- the candidate for the fill f reads back
  abbrev Back : Alignment → Option ℕ → Option ℕ → Option Representation → Filled → Type 0
  Back a w g x f = length (candidate (asked_for a w g x f)) ≤ format_most → ReadsAs look edition (asked_for a w g x f) (candidate (asked_for a w g x f))

  many_arm : (c d : ℕ) (ds : List ℕ) → (is_taken c || (eqb c dot || is_sign d)) ≡ false → arm_of c (peeked (d ∷ ds)) start ≡ arm.FillCluster
  unfolding peeked
  many_arm c d ds e =
      let t = or_right (is_taken c) _ e in
      cluster_arm c d (or_left (is_taken c) _ e) (or_right (eqb c dot) _ t) (rw (or_left (eqb c dot) _ t))

  module _ (w g : Option ℕ) (x : Option Representation) (sw : Small w) (sg : Small g) where
    -- before a sign
    signed_chars : (b : ℕ) → is_sign b ≡ true → (fs : List ℕ) → Scalars fs
        → chars_fit look edition (asked_for (char_to_alignment b) w g x (Bytes (encode_all fs))) fs ≡ true → Back (char_to_alignment b) w g x (Bytes (encode_all fs))
    signed_chars b t [] sc e h = absurd (let z : ◌≡◌ {A = ℕ} 0 1 = cc in omega arith)
    signed_chars b t (c ∷ []) sc e h = one_back look edition w g x sw sg b t c sc.0 h
    signed_chars b t (c ∷ d ∷ ds) sc e h =
        let fs = c ∷ d ∷ ds in
        let size = and_left (eqb (first_size look edition (fs ++ sign_part (char_to_alignment b))) (length fs)) _ (and_right (not (is_taken c || (eqb c dot || is_sign d))) _ e) in
        let n : first_size look edition (fs ++ b ∷ []) ≡ length fs =
        ap (λ (l : List ℕ). first_size look edition (fs ++ l)) (sym (sign_is b t).part) ∙ eqb-true (first_size look edition (fs ++ sign_part (char_to_alignment b))) (length fs) size in
        many_back look edition w g x sw sg b t c (d ∷ ds) sc
        (many_arm c d (ds ++ b ∷ tail_for w g x) (not_is _ (and_left (not (is_taken c || (eqb c dot || is_sign d))) _ e))) n h

  -- alone
  lone_chars : (w g : Option ℕ) (x : Option Representation) (c : ℕ) (cs : List ℕ) → not (has_tail w g x) ≡ true → Scalars (c ∷ cs)
      → arm_of c (peeked cs) start ≡ arm.FillCluster → first_size look edition (c ∷ cs) ≡ length (c ∷ cs) → Back align.Default w g x (Bytes (encode_all (c ∷ cs)))
  lone_chars (Some n) g x c cs e sc a s h = absurd (let z : ◌≡◌ {A = ℕ} 0 1 = cc in omega arith)
  lone_chars None (Some n) x c cs e sc a s h = absurd (let z : ◌≡◌ {A = ℕ} 0 1 = cc in omega arith)
  lone_chars None None (Some r) c cs e sc a s h = absurd (let z : ◌≡◌ {A = ℕ} 0 1 = cc in omega arith)
  lone_chars None None None c cs e sc a s h = alone_back look edition c cs sc a s h

  some_given : (g : Option ℕ) → is_given g ≡ true → (n : ℕ) × (g ≡ Some n)
  some_given (Some n) e = (n, refl)
  some_given None e = absurd (let z : ◌≡◌ {A = ℕ} 0 1 = cc in omega arith)

  one_arm : (c : ℕ) → is_taken c ≡ false → arm_of c (peeked []) start ≡ arm.FillCluster
  unfolding peeked is_sign
  one_arm c t = cluster_arm c no_char t refl (and_no (eqb c dot))

  one_size : (c : ℕ) → first_size look edition (c ∷ []) ≡ 1
  unfolding go_on
  one_size c = refl

  default_one : (w g : Option ℕ) (x : Option Representation) → Small w → Small g → (c : ℕ) → Scalar c
      → pick (eqb c zero_digit) (is_given w) (not (has_tail w g x) && not (is_taken c)) ≡ true
      → Back align.Default w g x (Bytes (encode_all (c ∷ [])))
  default_one w g x sw sg c sc e = go (eqb c zero_digit) refl
    where
      go : (t : Bool) → eqb c zero_digit ≡ t → Back align.Default w g x (Bytes (encode_all (c ∷ [])))
      go true t =
          let n = some_given w (rw t at e) in
          let q : zero_digit ∷ [] ≡ encode_all (c ∷ []) = sym (one_low zero_digit (omega arith)) ∙ ap (λ (y : ℕ). encode_all (y ∷ [])) (sym (eqb-true c zero_digit t)) in
          subst (λ (f : List ℕ). Back align.Default w g x (Bytes f)) q (zero_back look edition w g x sw sg n.0 n.1)
      go false t =
          let y : (not (has_tail w g x) && not (is_taken c)) ≡ true = rw t at e in
          lone_chars w g x c [] (and_left (not (has_tail w g x)) _ y) (sc, tt)
          (one_arm c (not_is _ (and_right (not (has_tail w g x)) _ y))) (one_size c)

  default_chars : (w g : Option ℕ) (x : Option Representation) → Small w → Small g → (fs : List ℕ) → Scalars fs
      → chars_fit look edition (asked_for align.Default w g x (Bytes (encode_all fs))) fs ≡ true → Back align.Default w g x (Bytes (encode_all fs))
  default_chars w g x sw sg [] sc e = absurd (let z : ◌≡◌ {A = ℕ} 0 1 = cc in omega arith)
  default_chars w g x sw sg (c ∷ []) sc e = default_one w g x sw sg c sc.0 e
  default_chars w g x sw sg (c ∷ d ∷ ds) sc e =
      let fs = c ∷ d ∷ ds in
      let more = and_right (not (is_taken c || (eqb c dot || is_sign d))) _ e in
      let size = eqb-true (first_size look edition (fs ++ [])) (length fs) (and_left (eqb (first_size look edition (fs ++ [])) (length fs)) _ more) in
      lone_chars w g x c (d ∷ ds) (and_right (eqb (first_size look edition (fs ++ [])) (length fs)) _ more) sc
      (many_arm c d ds (not_is _ (and_left (not (is_taken c || (eqb c dot || is_sign d))) _ e)))
      (ap (first_size look edition) (sym (append-nil fs)) ∙ size)

  -- every fill
  fill_reads : (a : Alignment) (w g : Option ℕ) (x : Option Representation) → Small w → Small g → (fs : List ℕ) → Scalars fs
      → chars_fit look edition (asked_for a w g x (Bytes (encode_all fs))) fs ≡ true → Back a w g x (Bytes (encode_all fs))
  unfolding char_to_alignment is_sign
  fill_reads align.Default w g x sw sg fs sc e = default_chars w g x sw sg fs sc e
  fill_reads align.Left w g x sw sg fs sc e = signed_chars w g x sw sg less refl fs sc e
  fill_reads align.Center w g x sw sg fs sc e = signed_chars w g x sw sg caret refl fs sc e
  fill_reads align.Right w g x sw sg fs sc e = signed_chars w g x sw sg greater refl fs sc e

  bare_reads : (a : Alignment) (w g : Option ℕ) (x : Option Representation) → Small w → Small g → Back a w g x Unfilled
  unfolding char_to_alignment is_sign
  bare_reads align.Default w g x sw sg h = plain_back look edition w g x sw sg h
  bare_reads align.Left w g x sw sg h = sign_back look edition w g x sw sg less refl h
  bare_reads align.Center w g x sw sg h = sign_back look edition w g x sw sg caret refl h
  bare_reads align.Right w g x sw sg h = sign_back look edition w g x sw sg greater refl h

  by_fill : (a : Alignment) (w g : Option ℕ) (x : Option Representation) (f : Filled) → Small w → Small g → fill_fits look edition (asked_for a w g x f) f ≡ true → Back a w g x f
  by_fill a w g x Unfilled sw sg e = bare_reads a w g x sw sg
  by_fill a w g x (Bytes f) sw sg e = go (check_from 0 f) refl
    where
      Q : List ℕ → List ℕ → Type 0
      Q fs l = chars_fit look edition (asked_for a w g x (Bytes l)) fs ≡ true → Back a w g x (Bytes l)

      go : (k : Result (Unit {0}) Utf8Error) → check_from 0 f ≡ k → Back a w g x (Bytes f)
      go (Ok _) p =
          let v = chars_well f (well_of_fine 0 f p) in
          subst (Q (chars f)) (sym v.0) (fill_reads a w g x sw sg (chars f) v.1) (rw p at e)
      go (Err _) p =
          let y : false ≡ true = rw p at e in
          absurd (let z : ◌≡◌ {A = ℕ} 0 1 = cc in omega arith)

  module _ (w : Wanted) where
    pub reads : Small w.width → Small w.precision → writable look edition w ≡ true → ReadsAs look edition w (candidate w)
    unfolding writable
    reads sw sg e =
        by_fill w.alignment w.width w.precision w.representation w.fill sw sg (and_right (leb (length (candidate w)) format_most) _ e)
        (leb-true (length (candidate w)) format_most (and_left (leb (length (candidate w)) format_most) _ e))

-- ---- in numbers

module _ (look : ℕ → ℕ) (edition : ℕ) (a : Asked) where
  abbrev are : Bool
  are = are_fields a.alignment a.width a.precision a.representation

  -- the numbers of options
  abbrev numbered : Wanted → Asked
  numbered w =
      record {
        alignment = alignment_number w.alignment;
        width = given_number w.width;
        precision = given_number w.precision;
        representation = shown_number w.representation;
        fill = w.fill;
      }

  -- what is read as the options of the numbers is read back as the numbers
  in_numbers : are ≡ true → {t : List ℕ} → ReadsAs look edition (wanted_for a) t → ReadsBack look edition a t
  in_numbers e v =
      let h = has_numbers a.alignment a.width a.precision a.representation e in
      let own : numbered (wanted_for a) ≡ a =
      λ i. record {
        alignment = h.alignment_is i;
        width = h.width_is i;
        precision = h.precision_is i;
        representation = h.representation_is i;
        fill = a.fill;
      } in
      record { small = v.small; well = v.well; fine = v.fine; same = ap numbered v.same ∙ own }

  pub record AsOptions (t : List ℕ) : Type 0 where
    pub some : are ≡ true
    pub reads_as : ReadsAs look edition (wanted_for a) t

  -- and the other way round
  as_options : {t : List ℕ} → ReadsBack look edition a t → AsOptions t
  as_options {t} v =
      let o = (parse look edition (chars t)).options in
      let s = parse_small look edition (chars t) in
      let f : Fields = record { alignment = o.alignment; width = o.width; precision = o.precision; representation = o.representation } in
      let h : HasNumbers a.alignment a.width a.precision a.representation f =
      record {
        alignment_is = ap (λ (x : Asked). x.alignment) v.same;
        width_is = ap (λ (x : Asked). x.width) v.same;
        precision_is = ap (λ (x : Asked). x.precision) v.same;
        representation_is = ap (λ (x : Asked). x.representation) v.same;
      } in
      let u = one_of a.alignment a.width a.precision a.representation f s.0 s.1 h in
      record {
        some = u.are;
        reads_as = record { small = v.small; well = v.well; fine = v.fine; same = λ i. wanted_by (sym u.only i) (v.same i).fill };
      }

  pub first : can_write look edition a ≡ true → First look edition a (candidate (wanted_for a))
  unfolding can_write
  first e =
      let t = and_left are _ e in
      let s = fields_small a.alignment a.width a.precision a.representation t in
      record {
        reads_back = in_numbers t (reads look edition (wanted_for a) s.0 s.1 (and_right are _ e));
        least = λ u v. (least look edition (wanted_for a) u (as_options v).reads_as).before;
      }

  pub no_such : can_write look edition a ≡ false → NoSuch look edition a
  unfolding can_write
  no_such e t v =
      let u = as_options v in
      let c : can_write look edition a ≡ true = rw (u.some, (least look edition (wanted_for a) t u.reads_as).can) in
      let z : ◌≡◌ {A = ℕ} 0 1 = cc in omega arith

-- ---- no second string

apart : (p q : List ℕ) (a b c d : ℕ) (k l m n : List ℕ) → p ++ a ∷ k ≡ q ++ d ∷ n → p ++ b ∷ l ≡ q ++ c ∷ m → a < b → c < d → ⊥
apart [] [] a b c d k l m n e f h i =
    let x : a ≡ d = cc in
    let y : b ≡ c = cc in
    omega arith
apart [] (y ∷ q) a b c d k l m n e f h i =
    let u : a ≡ y = cc in
    let v : b ≡ y = cc in
    omega arith
apart (x ∷ p) [] a b c d k l m n e f h i =
    let u : x ≡ d = cc in
    let v : x ≡ c = cc in
    omega arith
apart (x ∷ p) (y ∷ q) a b c d k l m n e f h i =
    apart p q a b c d k l m n (let u : p ++ a ∷ k ≡ q ++ d ∷ n = cc in u) (let u : p ++ b ∷ l ≡ q ++ c ∷ m = cc in u) h i

same_order : {s t : List ℕ} → NotAfter s t → NotAfter t s → s ≡ t
same_order (equal e) v = e
same_order (smaller p a b k l e f h) (equal i) = sym i
same_order (smaller p a b k l e f h) (smaller q c d m n i j o) = absurd (apart p q a b c d k l m n (sym e ∙ j) (sym f ∙ i) h o)

pub one_string : {s t : List ℕ} → Before s t → Before t s → s ≡ t
one_string (shorter h) (shorter i) = absurd (omega arith)
one_string (shorter h) (level e i) = absurd (omega arith)
one_string (level e i) (shorter h) = absurd (omega arith)
one_string (level e i) (level f j) = same_order i j

pub one_first : (look : ℕ → ℕ) (edition : ℕ) (a : Asked) (s t : List ℕ) → First look edition a s → First look edition a t → s ≡ t
one_first look edition a s t u v = one_string (u.least t v.reads_back) (v.least s u.reads_back)
