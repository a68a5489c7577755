-- What stands after the sign, read backwards: any characters that `parse` reads fine from a position on are those of the options that it
-- comes to, or longer.
--     end_is, TypeEnd, type_end             from the positions End and Type
--     PrecisionEnd, precision_end           from Precision
--     WidthEnd, width_end                   from MinWidth, where zeros in front make a fill
-- Assumes nothing.
use Prim.Native.Nat.{ℕ, zero, suc, ◌+◌, ◌<◌}
use Rattle.std.proofs.Common.{arith, add-zero, ◌∙◌, take-append-drop, drop-drop, eqb-true, ltb-true, Option, Some, None, Result, Ok, Err}
use Rattle.std.specs.Prelude.{◌≡◌, true, false, ◌&&◌, eqb, ltb, length, take}
use Rattle.std.proofs.Math.Path.{refl, sym, ap, subst}
use Rattle.std.proofs.Math.Bool.{Bool}
use mathlib.Core.List.{List, [], ◌∷◌, ◌++◌}
use Rattle.std.proofs.Math.ListN.{drop, length-append}
use Rattle.std.proofs.Math.Seq.{take-append_seam, drop-append_seam}
use Rattle.base.specs.Pick.{pick}
use Rattle.base.specs.Range.{inside}
use Rattle.base.specs.PickLaws.{by_test}
use Rattle.base.specs.AllLaws.{and_left, and_right}
use Rattle.utf8.specs.Encode.{encode, encode_all}
use Rattle.utf8.specs.EncodeLaws.{encode1}
use Rattle.format_options.specs.Options.{with_width, with_precision, with_fill}
use Rattle.format_options.specs.Letters.{no_char, zero_digit, is_sign, is_digit, representation_of}
use Rattle.format_number.specs.declared.Number.{Number}
use Rattle.format_number.specs.Number.{peeked, consume_u32}
use Rattle.format_arms.specs.declared.Position.{Position}
use Rattle.format_arms.specs.Arms.{start, alignment, min_width, precision, type, end, dot, letter_of, on_shown, last_arm, arm_of}
use Rattle.format.specs.Parse.{len_utf8, Body, Goes, Fails, on_consumed, body_of, OnePass, add_fill, parse_from, string_of}
use Rattle.format_options.specs.declared.Representation.{Representation}
use Rattle.format_options.specs.declared.Representation.TheVariants as representation
use Rattle.format_options.specs.declared.Part.{Part}
use Rattle.format_options.specs.declared.Options.{Options}
use Rattle.format_options.specs.declared.FormatError.{FormatError}
use Rattle.format_arms.specs.declared.Arm.{Arm}
use Rattle.format_arms.specs.declared.Arm.TheVariants as arm
use Rattle.decimal.specs.Decimal.{digits}
use Rattle.decimal.specs.DecimalLaws.{number_taken}
use Rattle.wanted.specs.Candidate.{letter, letter_part, precision_part, tail_for}
use Rattle.decimal.specs.Over.{Over, same, longer, over_append, over_cons, over_more}

-- ---- the arms after the sign

pub and_no : (b : Bool) → (b && false) ≡ false
and_no true = refl
and_no false = refl

pub and_yes : (b : Bool) → (b && true) ≡ b
and_yes true = refl
and_yes false = refl

-- a letter, or an error
abbrev pub lettered : ℕ → Arm
lettered c = on_shown (representation_of c) arm.Represent arm.Unexpected

-- a dot and what follows it, or that
abbrev pub dotted : ℕ → ℕ → Arm
dotted c peek = pick (eqb c dot && ltb peek no_char) arm.Precision (lettered c)

module _ (c peek : ℕ) where
  pub arm_end : arm_of c peek end ≡ arm.Unexpected
  unfolding arm_of last_arm letter_of
  arm_end = simp and_no

  pub arm_type : arm_of c peek type ≡ lettered c
  unfolding arm_of last_arm letter_of
  arm_type = simp and_no

  pub arm_precision : arm_of c peek precision ≡ dotted c peek
  unfolding arm_of last_arm letter_of
  arm_precision = simp (and_no, and_yes)

  pub arm_alignment : arm_of c peek alignment ≡ pick (is_sign c) arm.Align arm.Unexpected
  unfolding arm_of last_arm letter_of
  arm_alignment = simp (and_no, and_yes)

  pub arm_start : arm_of c peek start
      ≡ pick (is_sign peek) arm.FillSign
      (pick (is_sign c) arm.Align
      (pick (eqb c zero_digit && is_digit peek) arm.ZeroFill
      (pick (is_digit c) arm.MinWidth
      (pick (eqb c dot && ltb peek no_char) arm.Precision
      (on_shown (representation_of c) arm.Represent arm.FillCluster)))))
  unfolding arm_of last_arm letter_of
  arm_start = simp and_yes

  pub arm_width : arm_of c peek min_width ≡ pick (eqb c zero_digit && is_digit peek) arm.ZeroFill (pick (is_digit c) arm.MinWidth (dotted c peek))
  unfolding arm_of last_arm letter_of
  arm_width = simp (and_no, and_yes)

-- a letter names one representation
letter_is : (c : ℕ) (r : Representation) → representation_of c ≡ Some r → c ≡ letter r
unfolding representation_of
letter_is c r =
    by_test Q (eqb c 63) (λ t e. go 63 representation.Debug t e refl)
    (λ _. by_test Q (eqb c 98) (λ t e. go 98 representation.Binary t e refl)
    (λ _. by_test Q (eqb c 111) (λ t e. go 111 representation.Octal t e refl)
    (λ _. by_test Q (eqb c 120) (λ t e. go 120 representation.HexLower t e refl)
    (λ _. by_test Q (eqb c 88) (λ t e. go 88 representation.HexUpper t e refl)
    (λ _. by_test Q (eqb c 101) (λ t e. go 101 representation.ExpLower t e refl)
    (λ _. by_test Q (eqb c 69) (λ t e. go 69 representation.ExpUpper t e refl)
    (λ _ e. absurd (let z : ◌≡◌ {A = ℕ} 0 1 = cc in omega arith))))))))
  where
    Q : Option Representation → Type 0
    Q x = x ≡ Some r → c ≡ letter r

    go : (n : ℕ) (x : Representation) → eqb c n ≡ true → Some x ≡ Some r → letter x ≡ n → c ≡ letter r
    go n x t e l =
        let q : x ≡ r = cc in
        eqb-true c n t ∙ sym l ∙ ap letter q

-- ---- what is known of characters that were read fine: o is what the options were before them, and r what they are after

-- from Type: the letter of r
pub record TypeEnd (o r : Options) (cs : List ℕ) : Type 0 where
  pub alignment_is : r.alignment ≡ o.alignment
  pub width_is : r.width ≡ o.width
  pub precision_is : r.precision ≡ o.precision
  pub fill_is : r.fill ≡ o.fill
  pub over : Over (letter_part r.representation) cs

-- from Precision: the precision and the letter
pub record PrecisionEnd (o r : Options) (cs : List ℕ) : Type 0 where
  pub alignment_is : r.alignment ≡ o.alignment
  pub width_is : r.width ≡ o.width
  pub fill_is : r.fill ≡ o.fill
  pub over : Over (precision_part r.precision ++ letter_part r.representation) cs

-- all after the sign, of r
abbrev pub tail_of : Options → List ℕ
tail_of r = tail_for r.width r.precision r.representation

-- a width and what follows
pub record NumberEnd (o r : Options) (cs : List ℕ) : Type 0 where
  pub alignment_is : r.alignment ≡ o.alignment
  pub fill_is : r.fill ≡ o.fill
  pub number : ℕ
  pub width_is : r.width ≡ Some number
  pub over : Over (tail_of r) cs

-- the options as yet have nothing that comes after the sign
pub record Bare (o : Options) : Type 0 where
  pub width : o.width ≡ None
  pub precision : o.precision ≡ None
  pub representation : o.representation ≡ None

-- from MinWidth: all after the sign, with the fill that there was; or with a zero in front, as the fill. s is the format string
pub data WidthEnd (s : List ℕ) (o r : Options) (cs : List ℕ) : Type 0 where
  kept : r.alignment ≡ o.alignment → r.fill ≡ o.fill → (is_digit (peeked cs) ≡ true → (n : ℕ) × (r.width ≡ Some n))
      → Over (tail_of r) cs → WidthEnd s o r cs
  zeros : (part : Part) (n : ℕ) → r.alignment ≡ o.alignment → r.fill ≡ Some part → string_of s part ≡ zero_digit ∷ [] → r.width ≡ Some n
      → Over (zero_digit ∷ tail_of r) cs → WidthEnd s o r cs

-- nothing is left
type_none : (o : Options) → o.representation ≡ None → TypeEnd o o []
type_none o h = record { alignment_is = refl; width_is = refl; precision_is = refl; fill_is = refl; over = rw h (same refl) }

-- no precision
pub of_type : {o r : Options} {cs : List ℕ} → o.precision ≡ None → TypeEnd o r cs → PrecisionEnd o r cs
of_type {o} {r} {cs} h v =
    record {
      alignment_is = v.alignment_is;
      width_is = v.width_is;
      fill_is = v.fill_is;
      over = rw (v.precision_is, h) v.over;
    }

-- no width, as no digit stands there
of_precision : {s : List ℕ} {o r : Options} {cs : List ℕ} → Bare o → is_digit (peeked cs) ≡ false → PrecisionEnd o r cs → WidthEnd s o r cs
of_precision {s} {o} {r} {cs} b t v =
    kept v.alignment_is v.fill_is (λ u. absurd (let z : ◌≡◌ {A = ℕ} 0 1 = cc in omega arith)) (rw (v.width_is, b.width) v.over)

-- one zero more in front
onward : {s : List ℕ} {o r : Options} {c : ℕ} {cs : List ℕ} (part : Part) → c ≡ zero_digit → is_digit (peeked cs) ≡ true
    → string_of s part ≡ zero_digit ∷ [] → WidthEnd s (with_fill part o) r cs → WidthEnd s o r (c ∷ cs)
onward {s} {o} {r} {c} {cs} part q d z (kept a f g v) = zeros part (g d).0 a f z (g d).1 (over_cons c zero_digit q v)
onward {s} {o} {r} {c} {cs} part q d z (zeros other n a f y w v) = zeros other n a f y w (longer (over_more c v))

module _ (s : List ℕ) (at c : ℕ) (cs : List ℕ) (w : drop at s ≡ encode_all (c ∷ cs)) where
  pub zero_part : c ≡ zero_digit → string_of s (record { place = at; len = len_utf8 c }) ≡ zero_digit ∷ []
  unfolding encode_all
  zero_part q = ap (take (len_utf8 c)) w ∙ take-append_seam (encode c) (encode_all cs) ∙ encode1 c (omega arith) ∙ ap (λ (x : ℕ). x ∷ []) q

  pub rest_on : drop (at + len_utf8 c + length (encode_all (take 0 cs))) s ≡ encode_all cs
  unfolding encode_all
  rest_on =
      let n = len_utf8 c in
      ap (λ (i : ℕ). drop i s) (add-zero (at + n)) ∙ sym (drop-drop n at s) ∙ ap (drop n) w ∙ drop-append_seam (encode c) (encode_all cs)

-- ---- one step of the loop

module _ {P : Type 0} (add : P → Part → P) (look : ℕ → ℕ) (edition : ℕ) where
  -- from the byte `at` on, at the position p, the characters cs are read fine, and r comes of it
  pub record Runs (at : ℕ) (p : Position) (o : Options) (pool : P) (cs : List ℕ) (r : OnePass P) : Type 0 where
    pub is : parse_from add look edition 0 at p o pool cs ≡ r
    pub fine : r.outcome ≡ Ok tt

  -- k characters are passed over
  skip : (k at : ℕ) (p : Position) (o : Options) (pool : P) (cs : List ℕ)
      → parse_from add look edition k at p o pool cs
      ≡ parse_from add look edition 0 (at + length (encode_all (take k cs))) p o pool (drop k cs)
  unfolding parse_from encode_all
  skip zero at p o pool cs = ap (λ (i : ℕ). parse_from add look edition 0 i p o pool cs) (sym (add-zero at))
  skip (suc k) at p o pool [] = refl
  skip (suc k) at p o pool (c ∷ cs) =
      skip k (at + len_utf8 c) p o pool cs
      ∙ ap (λ (i : ℕ). parse_from add look edition 0 i p o pool (drop k cs)) (omega (arith, length-append (encode c) (encode_all (take k cs))))

  -- nothing is left
  pub stays : {at : ℕ} {p : Position} {o : Options} {pool : P} {r : OnePass P} → Runs at p o pool [] r → o ≡ r.options
  unfolding parse_from
  stays v = ap (λ (x : OnePass P). x.options) v.is

  -- the arm goes on, and what comes of it is read from behind the k characters
  pub turn : (at : ℕ) (p : Position) (o : Options) (pool : P) (c : ℕ) (cs : List ℕ) {result : Options} {next : Position} {k : ℕ} {fill : Option Part} {a : Arm}
      → arm_of c (peeked cs) p ≡ a → body_of look edition at o c cs a ≡ Goes result next k fill
      → parse_from add look edition 0 at p o pool (c ∷ cs)
      ≡ parse_from add look edition 0 (at + len_utf8 c + length (encode_all (take k cs))) next result (add_fill add pool fill) (drop k cs)
  unfolding parse_from
  turn at p o pool c cs {result} {next} {k} {fill} {a} x b =
      let y : body_of look edition at o c cs (arm_of c (peeked cs) p) ≡ Goes result next k fill = ap (body_of look edition at o c cs) x ∙ b in
      rw (y, parse_from) (skip k (at + len_utf8 c) next result (add_fill add pool fill) cs)

  module _ {at : ℕ} {p : Position} {o : Options} {pool : P} {c : ℕ} {cs : List ℕ} {r : OnePass P} (v : Runs at p o pool (c ∷ cs) r) where
    pub goes : {result : Options} {next : Position} {k : ℕ} {fill : Option Part} {a : Arm} → arm_of c (peeked cs) p ≡ a
        → body_of look edition at o c cs a ≡ Goes result next k fill
        → Runs (at + len_utf8 c + length (encode_all (take k cs))) next result (add_fill add pool fill) (drop k cs) r
    goes x b = record { is = sym (turn at p o pool c cs x b) ∙ v.is; fine = v.fine }

    -- the arm does not fail
    pub fails : {x : FormatError} {a : Arm} → arm_of c (peeked cs) p ≡ a → body_of look edition at o c cs a ≡ Fails x → ⊥
    unfolding parse_from
    fails {x} {a} q b =
        let y : body_of look edition at o c cs (arm_of c (peeked cs) p) ≡ Fails x = ap (body_of look edition at o c cs) q ∙ b in
        let w : OnePass P = record { options = o; outcome = Err x; pool = pool } in
        let z : w ≡ r = rw (y, parse_from) at v.is in
        let e : w.outcome ≡ Ok tt = ap (λ (u : OnePass P). u.outcome) z ∙ v.fine in
        let n : ◌≡◌ {A = ℕ} 0 1 = cc in omega arith

    pub expected : arm_of c (peeked cs) p ≡ arm.Unexpected → ⊥
    expected a = fails a refl

  -- ---- from End

  pub record Ended (o : Options) (cs : List ℕ) (r : OnePass P) : Type 0 where
    pub none : cs ≡ []
    pub same_options : o ≡ r.options

  end_is : {at : ℕ} {o : Options} {pool : P} (cs : List ℕ) {r : OnePass P} → Runs at end o pool cs r → Ended o cs r
  end_is [] v = record { none = refl; same_options = stays v }
  end_is (c ∷ cs) v = absurd (expected v (arm_end c (peeked cs)))

  -- ---- from Type

  module _ {at : ℕ} {p : Position} {o : Options} {pool : P} {c : ℕ} {cs : List ℕ} {r : OnePass P} (v : Runs at p o pool (c ∷ cs) r) where
    -- a letter, wherever its arm is taken
    pub shown_end : (x : Representation) → representation_of c ≡ Some x → arm_of c (peeked cs) p ≡ arm.Represent x → TypeEnd o r.options (c ∷ cs)
    shown_end x q b =
        let u = end_is cs (goes v b refl) in
        let whole : Over (letter x ∷ []) (c ∷ cs) = over_cons c (letter x) (letter_is c x q) (same u.none) in
        subst (λ (y : Options). TypeEnd o y (c ∷ cs)) u.same_options
        (record { alignment_is = refl; width_is = refl; precision_is = refl; fill_is = refl; over = whole })

    -- at a position where only a letter is taken
    letter_end : arm_of c (peeked cs) p ≡ lettered c → TypeEnd o r.options (c ∷ cs)
    letter_end a = go (representation_of c) refl
      where
        go : (x : Option Representation) → representation_of c ≡ x → TypeEnd o r.options (c ∷ cs)
        go (Some x) q = shown_end x q (a ∙ ap (λ (y : Option Representation). on_shown y arm.Represent arm.Unexpected) q)
        go None q = absurd (expected v (a ∙ ap (λ (y : Option Representation). on_shown y arm.Represent arm.Unexpected) q))

  type_end : {at : ℕ} {o : Options} {pool : P} (cs : List ℕ) {r : OnePass P} → o.representation ≡ None → Runs at type o pool cs r
      → TypeEnd o r.options cs
  type_end {o = o} [] h v = subst (λ (x : Options). TypeEnd o x []) (stays v) (type_none o h)
  type_end (c ∷ cs) h v = letter_end v (arm_type c (peeked cs))

  -- ---- from Precision

  -- a dot and a number, wherever that arm is taken
  pub dot_end : {at : ℕ} {p : Position} {o : Options} {pool : P} {c : ℕ} (cs : List ℕ) {r : OnePass P} → o.representation ≡ None → Runs at p o pool (c ∷ cs) r
      → arm_of c (peeked cs) p ≡ arm.Precision → c ≡ dot → peeked cs < no_char → PrecisionEnd o r.options (c ∷ cs)
  unfolding peeked
  dot_end [] plain v a d h = absurd (omega arith)
  dot_end {at} {p} {o} {pool} {c} (x ∷ ds) {r} plain v a d h = go (consume_u32 x ds) refl
    where
      b : Result Number FormatError → Body
      b y = on_consumed y (λ n k. Goes (with_precision n o) type (suc k) None)

      go : (y : Result Number FormatError) → consume_u32 x ds ≡ y → PrecisionEnd o r.options (c ∷ x ∷ ds)
      go (Ok y) t =
          let n = y.n in
          let k = y.digits in
          let u = type_end (drop k ds) plain (goes v a (ap b t)) in
          let m = number_taken x ds n k t in
          let joined : (x ∷ take k ds) ++ drop k ds ≡ x ∷ ds = ap {B = List ℕ} (λ (l : List ℕ). x ∷ l) (take-append-drop k ds) in
          let whole : Over (dot ∷ digits n ++ letter_part r.options.representation) (c ∷ x ∷ ds) =
          over_cons c dot d (subst (Over (digits n ++ letter_part r.options.representation)) joined (over_append m.over u.over)) in
          record {
            alignment_is = u.alignment_is;
            width_is = u.width_is;
            fill_is = u.fill_is;
            over = rw u.precision_is whole;
          }
      go (Err y) t = absurd (fails v a (ap b t))

  -- at a position where a dot or a letter is taken
  dotted_end : {at : ℕ} {p : Position} {o : Options} {pool : P} {c : ℕ} {cs : List ℕ} {r : OnePass P} → o.precision ≡ None → o.representation ≡ None
      → Runs at p o pool (c ∷ cs) r → arm_of c (peeked cs) p ≡ dotted c (peeked cs) → PrecisionEnd o r.options (c ∷ cs)
  dotted_end {o = o} {c = c} {cs = cs} {r = r} none plain v a = go (eqb c dot && ltb (peeked cs) no_char) refl
    where
      go : (t : Bool) → (eqb c dot && ltb (peeked cs) no_char) ≡ t → PrecisionEnd o r.options (c ∷ cs)
      go true t =
          dot_end cs plain v (a ∙ ap (λ (y : Bool). pick y arm.Precision (lettered c)) t) (eqb-true c dot (and_left (eqb c dot) _ t))
          (ltb-true (peeked cs) no_char (and_right (eqb c dot) _ t))
      go false t = of_type none (letter_end v (a ∙ ap (λ (y : Bool). pick y arm.Precision (lettered c)) t))

  pub precision_end : {at : ℕ} {o : Options} {pool : P} (cs : List ℕ) {r : OnePass P} → o.precision ≡ None → o.representation ≡ None
      → Runs at precision o pool cs r → PrecisionEnd o r.options cs
  precision_end {o = o} [] none plain v = subst (λ (x : Options). PrecisionEnd o x []) (stays v) (of_type none (type_none o plain))
  precision_end (c ∷ cs) none plain v = dotted_end none plain v (arm_precision c (peeked cs))

  -- ---- a number, wherever the arm of a width is taken

  pub number_end : {at : ℕ} {p : Position} {o : Options} {pool : P} {c : ℕ} {cs : List ℕ} {r : OnePass P} → o.precision ≡ None → o.representation ≡ None
      → Runs at p o pool (c ∷ cs) r → arm_of c (peeked cs) p ≡ arm.MinWidth → NumberEnd o r.options (c ∷ cs)
  number_end {o = o} {c = c} {cs = cs} {r = r} none plain v a = go (consume_u32 c cs) refl
    where
      b : Result Number FormatError → Body
      b y = on_consumed y (λ n k. Goes (with_width n o) precision k None)

      go : (y : Result Number FormatError) → consume_u32 c cs ≡ y → NumberEnd o r.options (c ∷ cs)
      go (Ok y) t =
          let n = y.n in
          let k = y.digits in
          let u = precision_end (drop k cs) none plain (goes v a (ap b t)) in
          let m = number_taken c cs n k t in
          let after = precision_part r.options.precision ++ letter_part r.options.representation in
          let joined : (c ∷ take k cs) ++ drop k cs ≡ c ∷ cs = ap {B = List ℕ} (λ (l : List ℕ). c ∷ l) (take-append-drop k cs) in
          let whole : Over (digits n ++ after) (c ∷ cs) = subst (Over (digits n ++ after)) joined (over_append m.over u.over) in
          record {
            alignment_is = u.alignment_is;
            fill_is = u.fill_is;
            number = n;
            width_is = u.width_is;
            over = rw u.width_is whole;
          }
      go (Err x) t = absurd (fails v a (ap b t))

  -- ---- from MinWidth

  module _ (s : List ℕ) where
    pub width_end : {at : ℕ} {o : Options} {pool : P} (cs : List ℕ) {r : OnePass P} → Bare o → drop at s ≡ encode_all cs → Runs at min_width o pool cs r
        → WidthEnd s o r.options cs
    unfolding inside is_digit peeked
    width_end {o = o} [] b w v =
        subst (λ (x : Options). WidthEnd s o x []) (stays v) (of_precision b refl (of_type b.precision (type_none o b.representation)))
    width_end {at} {o} {pool} (c ∷ cs) {r} b w v =
        go (eqb c zero_digit && is_digit (peeked cs)) refl (is_digit c) refl (λ b' w' v'. width_end {at = at + len_utf8 c + length (encode_all (take 0 cs))} cs b' w' v')
      where
        rest : Bool → Arm
        rest t = pick t arm.MinWidth (dotted c (peeked cs))

        part : Part
        part = record { place = at; len = len_utf8 c }

        go : (t : Bool) → (eqb c zero_digit && is_digit (peeked cs)) ≡ t → (u : Bool) → is_digit c ≡ u
            → (Bare (with_fill part o) → drop (at + len_utf8 c + length (encode_all (take 0 cs))) s ≡ encode_all cs
            → Runs (at + len_utf8 c + length (encode_all (take 0 cs))) min_width (with_fill part o) (add pool part) cs r
            → WidthEnd s (with_fill part o) r.options cs)
            → WidthEnd s o r.options (c ∷ cs)
        go true t u d ih =
            let q : c ≡ zero_digit = eqb-true c zero_digit (and_left (eqb c zero_digit) _ t) in
            let a : arm_of c (peeked cs) min_width ≡ arm.ZeroFill = arm_width c (peeked cs) ∙ ap (λ (y : Bool). pick y arm.ZeroFill (rest (is_digit c))) t in
            onward part q (and_right (eqb c zero_digit) _ t) (zero_part s at c cs w q)
            (ih (record { width = b.width; precision = b.precision; representation = b.representation }) (rest_on s at c cs w) (goes v a refl))
        go false t true d ih =
            let a : arm_of c (peeked cs) min_width ≡ arm.MinWidth =
            arm_width c (peeked cs) ∙ ap (λ (y : Bool). pick y arm.ZeroFill (rest (is_digit c))) t ∙ ap rest d in
            let u = number_end b.precision b.representation v a in
            kept u.alignment_is u.fill_is (λ _. (u.number, u.width_is)) u.over
        go false t false d ih =
            let a : arm_of c (peeked cs) min_width ≡ dotted c (peeked cs) =
            arm_width c (peeked cs) ∙ ap (λ (y : Bool). pick y arm.ZeroFill (rest (is_digit c))) t ∙ ap rest d in
            of_precision b d (dotted_end b.precision b.representation v a)
