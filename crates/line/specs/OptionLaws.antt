-- C-7, of format options: the fill and the alignment are clusters, and a newline ends one; the brace is searched for past newlines. So the
-- token is the same whatever stands behind the newline, or its brace stands there, or there is none. This asks of the look-up only what every
-- fit table says of "\n" and "}".
--     go_line, size_line     a cluster never goes on behind a newline
--     go_short               nor takes one, but after CR
--     brace_line             the search for the brace
--     options_line           what `consume_format_options` takes
-- Assumes nothing.
use Prim.Native.Nat.{ℕ, zero, suc, ◌+◌, ◌-◌, ◌≤◌, ◌<◌}
use native.Mathlib.Omega.{arith}
use Rattle.std.specs.Prelude.{◌≡◌, Bool, true, false, ◌&&◌, ◌||◌, ◌⊎◌, eqb, get_or, Option, Some, None}
use Rattle.std.proofs.Math.Path.{refl, sym, ap, subst}
use Rattle.std.proofs.Common.{◌∙◌, inl, length-append, eqb-true, ne_eqb}
use Rattle.std.proofs.Math.Logic.{inr}
use mathlib.Core.List.{List, [], ◌∷◌, ◌++◌}
use Rattle.std.proofs.Math.ListN.{length, take, drop}
use Rattle.std.proofs.lemmas.List.{take-append-le}
use Rattle.base.specs.Pick.{pick}
use Rattle.base.specs.PickLaws.{by_test, by_eq, split_lt, split_eq}
use Rattle.base.specs.AllLaws.{and_left}
use Rattle.utf8.specs.Encode.{encode, encode_all}
use Rattle.utf8.specs.EncodeLaws.{encode1, encode_some}
use Rattle.property.specs.Parts.{class_of}
use Rattle.property.specs.Parts as class
use Rattle.uax29.specs.Uax29.{is_control, gb3, pair_rule, ends_linked, ends_pict_zwj, ends_odd, gb9c, gb11, gb12, on_open, joined}
use Rattle.cluster.specs.First.{before, go_on, cluster_size, first_size, second_is}
use Rattle.text.specs.Tests.{lf, less, caret, greater, curly_close}
use Rattle.text.specs.Count.{len_utf8, bytes_of}
use Rattle.text.specs.Follow.{drop_bytes}
use Rattle.state.specs.Lexer.{reach_of}
use Rattle.state.specs.declared.Lexer.{Lexer}
use Rattle.options.specs.ConsumeFormatOptions.{is_aligned, skip_bytes, find_brace, options_token, consume_format_options}
use Rattle.line.specs.Line.{line, Whole}
use Rattle.line.specs.LineLaws.{drop_line, whole_none}
use Rattle.line.specs.NameLaws.{bytes_length}
use Rattle.line.specs.Past.{Either}

-- ---- pairs of classes

and_none : (t : Bool) → (t && false) ≡ false
and_none true = refl
and_none false = refl

-- the rules on the two characters break, whatever those that look back would say
abbrev Breaks : ℕ → ℕ → Type 0
Breaks b a = (t : Bool) → on_open (pair_rule b a) t ≡ false

-- before a control there is a break, but between CR and LF
control_breaks : (b a : ℕ) → is_control a ≡ true → gb3 b a ≡ false → Breaks b a
unfolding pair_rule
control_breaks b a c g t = go (is_control b) refl
  where
    go : (v : Bool) → is_control b ≡ v → on_open (pair_rule b a) t ≡ false
    go true e = rw (g, e)
    go false e = rw (g, e, c)

-- after LF there is a break
line_breaks : (b a : ℕ) → b ≡ class.lf → Breaks b a
unfolding pair_rule gb3 is_control
line_breaks b a e t = ap (λ (x : ℕ). on_open (pair_rule x a) t) e

cr_breaks : (b a : ℕ) → a ≡ class.cr → Breaks b a
unfolding gb3 is_control
cr_breaks b a e = control_breaks b a (ap is_control e) (ap (λ (x : ℕ). gb3 b x) e ∙ and_none (eqb b class.cr))

before_line : (b a : ℕ) → a ≡ class.lf → (b ≡ class.cr → ⊥) → Breaks b a
unfolding gb3 is_control
before_line b a e n = control_breaks b a (ap is_control e) (rw (ne_eqb b class.cr n))

-- after CR only LF is joined
after_cr : (b a : ℕ) → b ≡ class.cr → (a ≡ class.lf → ⊥) → Breaks b a
unfolding pair_rule gb3 is_control
after_cr b a e n t = ap (λ (x : ℕ). on_open (pair_rule x a) t) e ∙ rw (ne_eqb a class.lf n)

-- ---- clusters

never : (t : Bool) → t ≡ true → t ≡ false → ⊥
never t e f = let z : ◌≡◌ {A = ℕ} 0 1 = cc in omega arith

module _ (look : ℕ → ℕ) (edition : ℕ) where
  breaks : (b : ℕ) (left : List ℕ) (p : ℕ) → Breaks (class_of b) (class_of p) → joined edition (b ∷ left) p ≡ false
  breaks b left p e = e (gb9c edition (ends_linked (b ∷ left)) p || (gb11 (ends_pict_zwj (b ∷ left)) p || gb12 (ends_odd (b ∷ left)) p))

  -- a cluster that ends in LF goes on with nothing
  stop_line : (b : ℕ) (left : List ℕ) → class_of b ≡ class.lf → (cs : List ℕ) → go_on look edition (b ∷ left) cs ≡ 0
  unfolding go_on
  stop_line b left e [] = refl
  stop_line b left e (c ∷ cs) =
      ap (λ (t : Bool). pick t (suc (go_on look edition (look c ∷ b ∷ left) cs)) 0)
      (breaks b left (look c) (line_breaks (class_of b) (class_of (look c)) e))

  -- one that ends in CR goes on with LF alone
  go_cr : (b : ℕ) (left : List ℕ) → class_of b ≡ class.cr → (d : ℕ) (cs : List ℕ) → go_on look edition (b ∷ left) (d ∷ cs) ≤ 1
  unfolding go_on
  go_cr b left e d cs =
      by_test (λ (n : ℕ). n ≤ 1) (joined edition (b ∷ left) (look d))
      (λ t. split_eq (class_of (look d)) class.lf (λ f. omega (arith, stop_line (look d) (b ∷ left) f cs))
      (λ f. absurd (never (joined edition (b ∷ left) (look d)) t (breaks b left (look d) (after_cr (class_of b) (class_of (look d)) e f)))))
      (λ _. omega arith)

  module _ (ends : class_of (look lf) ≡ class.lf) where
    go_line : (left p q r : List ℕ) → go_on look edition left (line p q) ≡ go_on look edition left (line p r)
    unfolding go_on
    go_line left [] q r =
        λ i. pick (joined edition left (look lf)) (suc ((stop_line (look lf) left ends q ∙ sym (stop_line (look lf) left ends r)) i)) 0
    go_line left (c ∷ p) q r = λ i. pick (joined edition left (look c)) (suc (go_line (look c ∷ left) p q r i)) 0

    size_line : (left p q r : List ℕ) → cluster_size look edition left (line p q) ≡ cluster_size look edition left (line p r)
    size_line left [] q r = ap suc (stop_line (look lf) left ends q ∙ sym (stop_line (look lf) left ends r))
    size_line left (c ∷ p) q r = ap suc (go_line (look c ∷ left) p q r)

    go_short : (b : ℕ) (left p q : List ℕ) → (class_of b ≡ class.cr → ⊥) → go_on look edition (b ∷ left) (line p q) ≤ length p
    unfolding go_on
    go_short b left [] q n =
        let e = breaks b left (look lf) (before_line (class_of b) (class_of (look lf)) ends n) in
        by_test (λ (k : ℕ). k ≤ 0) (joined edition (b ∷ left) (look lf)) (λ t. absurd (never _ t e)) (λ _. omega arith)
    go_short b left (d ∷ p) q n =
        by_test (λ (k : ℕ). k ≤ suc (length p)) (joined edition (b ∷ left) (look d))
        (λ t. omega (
          arith,
          go_short (look d) (b ∷ left) p q
              (λ e. never (joined edition (b ∷ left) (look d)) t (breaks b left (look d) (cr_breaks (class_of b) (class_of (look d)) e))),
        ))
        (λ _. omega arith)

    -- ---- the fill and the alignment

    before_same : (left : List ℕ) (k : ℕ) (p q r : List ℕ) → k ≤ length p → before look left k (line p q) ≡ before look left k (line p r)
    before_same left zero p q r h = refl
    before_same left (suc k) [] q r h = absurd (omega arith)
    before_same left (suc k) (c ∷ p) q r h = before_same (look c ∷ left) k p q r (omega arith)

    next_same : (p q r : List ℕ) → get_or (line p q) 0 0 ≡ get_or (line p r) 0 0
    next_same [] q r = refl
    next_same (c ∷ p) q r = refl

    module _ (p q r : List ℕ) (short : first_size look edition (line p q) ≤ length p) where
      abbrev size : ℕ
      size = first_size look edition (line p q)

      second_at : ℕ → ℕ → List ℕ → Bool
      second_at d k x =
          eqb (get_or (drop k (line p x)) 0 0) d && eqb (cluster_size look edition (before look [] k (line p x)) (drop k (line p x))) 1

      second_line : (d : ℕ) → second_is look edition (line p q) d ≡ second_is look edition (line p r) d
      unfolding second_at
      second_line d = there ∙ ap (λ (k : ℕ). second_at d k r) (size_line [] p q r)
        where
          rest : List ℕ
          rest = drop size p

          left : List ℕ → List ℕ
          left x = before look [] size (line p x)

          up_to : (x : List ℕ) → second_at d size x ≡ (eqb (get_or (line rest x) 0 0) d && eqb (cluster_size look edition (left x) (line rest x)) 1)
          up_to x =
              λ i. eqb (get_or (drop_line size p x short i) 0 0) d && eqb (cluster_size look edition (left x) (drop_line size p x short i)) 1

          sizes : cluster_size look edition (left q) (line rest q) ≡ cluster_size look edition (left r) (line rest r)
          sizes =
              ap (λ (b : List ℕ). cluster_size look edition b (line rest q)) (before_same [] size p q r short) ∙ size_line (left r) rest q r

          there : second_at d size q ≡ second_at d size r
          there = up_to q ∙ (λ i. eqb (next_same rest q r i) d && eqb (sizes i) 1) ∙ sym (up_to r)

      aligned_line : is_aligned look edition (line p q) ≡ is_aligned look edition (line p r)
      unfolding is_aligned
      aligned_line = λ i. second_line less i || (second_line caret i || second_line greater i)

      take_line : (k : ℕ) → k ≤ length p → take k (line p q) ≡ take k (line p r)
      take_line k h = take-append-le k p (lf ∷ q) h ∙ sym (take-append-le k p (lf ∷ r) h)

      skip_line : skip_bytes look edition (line p q) ≡ skip_bytes look edition (line p r)
      unfolding skip_bytes
      skip_line =
          let taken : take size (line p q) ≡ take (first_size look edition (line p r)) (line p r) =
          take_line size short ∙ ap (λ (k : ℕ). take k (line p r)) (size_line [] p q r) in
          λ i. pick (aligned_line i) (0 + length (encode_all (taken i)) + 1) 0

-- ---- bytes that are whole characters

whole_take : (k b : ℕ) (p : List ℕ) → k ≤ length p → Whole b (drop k p) → Whole (bytes_of (take k p) + b) p
unfolding bytes_of
whole_take zero b p h w = subst (λ (n : ℕ). Whole n p) (omega arith) w
whole_take (suc k) b [] h w = absurd (omega arith)
whole_take (suc k) b (c ∷ p) h w =
    let e : bytes_of (take k p) + b ≡ len_utf8 c + bytes_of (take k p) + b - len_utf8 c = omega arith in
    inr (omega arith, subst (λ (n : ℕ). Whole n p) e (whole_take k b p (omega arith) w))

-- what is left behind whole characters
drop_whole : (m : ℕ) (p q : List ℕ) → Whole m p → (drop_bytes m (line p q) ≡ line (drop_bytes m p) q) × (m + bytes_of (drop_bytes m p) ≡ bytes_of p)
unfolding drop_bytes bytes_of
drop_whole zero [] q w = (refl, omega arith)
drop_whole (suc m) [] q w = absurd (omega arith)
drop_whole zero (c ∷ p) q w = (refl, omega arith)
drop_whole (suc m) (c ∷ p) q (inl w) = absurd (omega arith)
drop_whole (suc m) (c ∷ p) q (inr w) = let d = drop_whole (suc m - len_utf8 c) p q w.1 in (d.0, omega (arith, d.1, w.0))

drop_zero : (cs : List ℕ) → drop_bytes 0 cs ≡ cs
unfolding drop_bytes
drop_zero [] = refl
drop_zero (c ∷ cs) = refl

take_long : (k : ℕ) (p x : List ℕ) → length p ≤ k → bytes_of p ≤ length (encode_all (take k (p ++ x)))
unfolding bytes_of encode_all
take_long k [] x h = omega arith
take_long zero (c ∷ p) x h = absurd (omega arith)
take_long (suc k) (c ∷ p) x h =
    omega (arith, take_long k p x (omega arith), length-append (encode c) (encode_all (take k (p ++ x))))

-- ---- the brace

-- the brace stands behind the byte n, or nowhere
abbrev Behind : ℕ → Option ℕ → Type 0
Behind n (Some e) = n < e
Behind n None = Unit {0}

brace_behind : (n j : ℕ) (cs : List ℕ) → n < j → Behind n (find_brace j cs)
unfolding find_brace
brace_behind n j [] h = tt
brace_behind n j (c ∷ cs) h =
    by_test (Behind n) (eqb c curly_close) (λ _. h) (λ _. brace_behind n (j + len_utf8 c) cs (omega arith))

pub brace_line : (n j : ℕ) (p q r : List ℕ) → n ≡ j + bytes_of p
    → (find_brace j (line p q) ≡ find_brace j (line p r)) ⊎ Behind n (find_brace j (line p q))
unfolding find_brace bytes_of
brace_line n j [] q r e = inr (brace_behind n (j + len_utf8 lf) q (omega (arith, encode_some lf)))
brace_line n j (c ∷ p) q r e =
    elim (eqb c curly_close) as (λ (t : Bool). (pick t (Some j) (find_brace (j + len_utf8 c) (line p q)) ≡ pick t (Some j) (find_brace (j + len_utf8 c) (line p r))) ⊎ Behind n (pick t (Some j) (find_brace (j + len_utf8 c) (line p q)))) [ true ↦ inl refl | false ↦ brace_line n (j + len_utf8 c) p q r (omega arith) ]

either : {G : Type 0} (s t : Bool) → (s ≡ true → G) → (t ≡ true → G) → (s || t) ≡ true → G
either true t f g e = f refl
either false t f g e = g e

module _ (look : ℕ → ℕ) (edition : ℕ) (ends : class_of (look lf) ≡ class.lf) (brace : class_of (look curly_close) ≡ class.cr → ⊥) where
  -- a first cluster that takes the newline has no brace
  first_long : (n j : ℕ) (p q : List ℕ) → n ≡ j + bytes_of p → length p < first_size look edition (line p q) → Behind n (find_brace j (line p q))
  unfolding find_brace bytes_of
  first_long n j [] q e h = brace_behind n (j + len_utf8 lf) q (omega (arith, encode_some lf))
  first_long n j (c ∷ []) q e h =
      by_eq (Behind n) c curly_close
      (λ f. let k : class_of (look c) ≡ class.cr → ⊥ = λ g. brace (ap (λ (x : ℕ). class_of (look x)) (sym f) ∙ g) in
      absurd (omega (arith, go_short look edition ends (look c) [] [] q k)))
      (λ _. brace_behind n (j + len_utf8 c + len_utf8 lf) q (omega (arith, encode_some lf)))
  first_long n j (c ∷ d ∷ p) q e h =
      split_eq (class_of (look c)) class.cr
      (λ f. absurd (omega (arith, go_cr look edition (look c) [] f d (line p q))))
      (λ f. absurd (omega (arith, go_short look edition ends (look c) [] (d ∷ p) q f)))

  module _ (n : ℕ) (p q r : List ℕ) (l : Lexer) (at : n ≡ (reach_of l).byte.0 + bytes_of p) where
    abbrev from : List ℕ → Option ℕ
    from x = find_brace ((reach_of l).byte.0 + skip_bytes look edition (line p x)) (drop_bytes (skip_bytes look edition (line p x)) (line p x))

    long : length p < first_size look edition (line p q) → Behind n (from q)
    unfolding skip_bytes
    long h =
        let i = (reach_of l).byte.0 in
        let k = first_size look edition (line p q) in
        by_test (λ (m : ℕ). Behind n (find_brace (i + m) (drop_bytes m (line p q)))) (is_aligned look edition (line p q))
        (λ _. brace_behind n (i + (0 + length (encode_all (take k (line p q))) + 1)) _ (omega (arith, take_long k p (lf ∷ q) (omega arith))))
        (λ _. subst (λ (cs : List ℕ). Behind n (find_brace (i + 0) cs)) (sym (drop_zero (line p q))) (first_long n (i + 0) p q (omega arith) h))

    module _ (short : first_size look edition (line p q) ≤ length p) where
      -- the alignment is a character of one byte before the newline
      sign_whole : (rest : List ℕ) (d : ℕ) → d < 128 → (lf ≡ d → ⊥) → get_or (line rest q) 0 0 ≡ d → Whole 1 rest
      sign_whole [] d h m e = absurd (m e)
      sign_whole (c ∷ rest) d h m e =
          let k : len_utf8 c ≡ 1 = ap len_utf8 e ∙ ap length (encode1 d h) in
          let j : 0 ≡ 1 - len_utf8 c = omega arith in
          inr (omega arith, subst (λ (x : ℕ). Whole x rest) j (whole_none rest))

      second_whole : (d : ℕ) → d < 128 → (lf ≡ d → ⊥) → second_is look edition (line p q) d ≡ true → Whole 1 (drop (first_size look edition (line p q)) p)
      second_whole d h m e =
          let k = first_size look edition (line p q) in
          let f : get_or (drop k (line p q)) 0 0 ≡ d = eqb-true _ d (and_left _ _ e) in
          sign_whole (drop k p) d h m (ap (λ (x : List ℕ). get_or x 0 0) (sym (drop_line k p q short)) ∙ f)

      skip_whole : Whole (skip_bytes look edition (line p q)) p
      unfolding skip_bytes is_aligned
      skip_whole =
          let k = first_size look edition (line p q) in
          by_test (λ (m : ℕ). Whole m p) (is_aligned look edition (line p q))
          (λ e. let w : Whole 1 (drop k p) =
          either _ _ (second_whole less (omega arith) (λ z. omega arith))
          (either _ _ (second_whole caret (omega arith) (λ z. omega arith)) (second_whole greater (omega arith) (λ z. omega arith))) e in
          let m : bytes_of (take k p) + 1 ≡ 0 + length (encode_all (take k (line p q))) + 1 =
          omega (arith, bytes_length (take k p), ap (λ (x : List ℕ). length (encode_all x)) (take-append-le k p (lf ∷ q) short)) in
          subst (λ (x : ℕ). Whole x p) m (whole_take k 1 p short w))
          (λ _. whole_none p)

      there : (from q ≡ from r) ⊎ Behind n (from q)
      there =
          let i = (reach_of l).byte.0 in
          let m = skip_bytes look edition (line p q) in
          let w = skip_whole in
          let d = drop_whole m p q w in
          let b = brace_line n (i + m) (drop_bytes m p) q r (omega (arith, d.1)) in
          let E : Option ℕ → Option ℕ → Type 0 = λ x y. (x ≡ y) ⊎ Behind n x in
          subst (λ (k : ℕ). E (from q) (find_brace (i + k) (drop_bytes k (line p r)))) (skip_line look edition ends p q r short)
          (subst (λ (cs : List ℕ). E (from q) (find_brace (i + m) cs)) (sym (drop_whole m p r w).0)
          (subst (λ (cs : List ℕ). E (find_brace (i + m) cs) (find_brace (i + m) (line (drop_bytes m p) r))) (sym d.0) b))

    brace_token : (a b : Option ℕ) → (a ≡ b) ⊎ Behind n a → Either n l (options_token l a) (options_token l b)
    brace_token a b (inl e) = inl (ap (options_token l) e)
    brace_token (Some x) b (inr h) = inr (inr (omega arith, λ e. omega arith))
    brace_token None b (inr h) = inr (inl refl)

    pub options_line : Either n l (consume_format_options look edition (line p q) l) (consume_format_options look edition (line p r) l)
    unfolding consume_format_options
    options_line =
        brace_token (from q) (from r)
        (split_lt (length p) (first_size look edition (line p q)) (λ h. inr (long h)) (λ h. there h))
