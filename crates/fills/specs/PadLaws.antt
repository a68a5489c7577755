-- Laws of the padded text.
--     width_within     a width that is one has 32 bits
--     reaches          the clusters and the fills are the greater of the width and the clusters
--     all_fills        the fills before the text and those behind it are all
--     default_left, left_behind, right_before    Default, Left and Right put all of them on one side
--     odd_right        Center puts as many behind the text as before it, or one more
--     no_fills         with no fill it is the text
--     copied, at_width    without a width, and at or above it, the text is copied
--     length_repeated, length_padded    how many bytes there are
--     fills_within     no more fills than the greatest width
--     one_behind       one fill more behind the others
-- Assumes nothing.
use Rattle.std.specs.Prelude.{ℕ, zero, suc, ◌+◌, ◌-◌, ◌*◌, ◌≤◌, ◌≡◌, refl, List, ◌++◌, true, ltb, length}
use Rattle.std.proofs.Common.{arith, zero-mul, suc-mul, add-mul, sym, ap, ◌∙◌, append_assoc, append-nil, length-append, ne_eqb, leb-true}
use Rattle.base.specs.Pick.{pick}
use Rattle.base.specs.PickLaws.{by_lt, by_eq}
use Rattle.fills.specs.Pad.{default, left, center, right, no_width, width_most, is_width, fills, leading, trailing, repeated, filled, padded, padded_length}

-- the greater of two numbers
abbrev pub greater : ℕ → ℕ → ℕ
greater m n = pick (ltb m n) n m

pub reaches : (width clusters : ℕ) → (width ≡ no_width → ⊥) → clusters + fills width clusters ≡ greater width clusters
reaches width clusters h =
    rw (ne_eqb width no_width h)
    (by_lt (λ (r : ℕ). clusters + (width - clusters) ≡ r) width clusters (λ h. omega arith) (λ h. omega arith))

pub width_within : (width : ℕ) → is_width width ≡ true → (width ≡ no_width → ⊥) → width ≤ width_most
unfolding is_width
width_within width e n = leb-true width width_most (rw (ne_eqb width no_width n) at e)

pub fills_within : (width clusters : ℕ) → is_width width ≡ true → fills width clusters ≤ width_most
fills_within width clusters e =
    by_eq (λ (k : ℕ). k ≤ width_most) width no_width (λ _. omega arith) (λ n. omega (arith, width_within width e n))

leading_within : (alignment n : ℕ) → leading alignment n ≤ n
leading_within alignment n =
    by_eq (λ (k : ℕ). k ≤ n) alignment center (λ _. omega arith)
    (λ _. by_eq (λ (k : ℕ). k ≤ n) alignment right (λ _. omega arith) (λ _. omega arith))

pub all_fills : (alignment n : ℕ) → leading alignment n + trailing alignment n ≡ n
all_fills alignment n = omega (arith, leading_within alignment n)

pub default_left : (n : ℕ) → leading default n ≡ leading left n
default_left n = refl

pub left_behind : (n : ℕ) → (leading left n ≡ 0) × (trailing left n ≡ n)
left_behind n = (refl, omega arith)

pub right_before : (n : ℕ) → (leading right n ≡ n) × (trailing right n ≡ 0)
right_before n = (refl, omega arith)

pub odd_right : (n : ℕ) → (leading center n ≤ trailing center n) × (trailing center n ≤ leading center n + 1)
odd_right n = (omega arith, omega arith)

none_filled : (alignment n : ℕ) (fill text : List ℕ) → n ≡ 0 → filled alignment n fill text ≡ text
unfolding repeated
none_filled alignment n fill text e =
    let a : leading alignment n ≡ 0 = omega (arith, leading_within alignment n) in
    let b : trailing alignment n ≡ 0 = omega arith in
    ap (λ (k : ℕ). repeated k fill ++ (text ++ repeated (trailing alignment n) fill)) a
    ∙ ap (λ (k : ℕ). text ++ repeated k fill) b
    ∙ append-nil text

pub no_fills : (alignment : ℕ) (fill text : List ℕ) → filled alignment 0 fill text ≡ text
no_fills alignment fill text = none_filled alignment 0 fill text refl

pub copied : (alignment : ℕ) (fill text : List ℕ) (clusters : ℕ) → padded alignment no_width fill text clusters ≡ text
copied alignment fill text clusters = none_filled alignment (fills no_width clusters) fill text refl

pub at_width : (alignment width : ℕ) (fill text : List ℕ) (clusters : ℕ) → width ≤ clusters → padded alignment width fill text clusters ≡ text
at_width alignment width fill text clusters h =
    none_filled alignment (fills width clusters) fill text
    (by_eq (λ (k : ℕ). k ≡ 0) width no_width (λ _. refl) (λ _. omega arith))

pub length_repeated : (n : ℕ) (fill : List ℕ) → length (repeated n fill) ≡ n * length fill
unfolding repeated
length_repeated zero fill = sym (zero-mul (length fill))
length_repeated (suc n) fill = omega (arith, length-append fill (repeated n fill), length_repeated n fill, suc-mul n (length fill))

length_filled : (alignment n : ℕ) (fill text : List ℕ) → length (filled alignment n fill text) ≡ length text + n * length fill
length_filled alignment n fill text =
    let a = leading alignment n in
    let b = trailing alignment n in
    let e : (a + b) * length fill ≡ n * length fill = ap (λ (k : ℕ). k * length fill) (all_fills alignment n) in
    omega (
      arith,
      length-append (repeated a fill) (text ++ repeated b fill),
      length-append text (repeated b fill),
      length_repeated a fill,
      length_repeated b fill,
      add-mul a b (length fill),
      e,
    )

pub length_padded : (alignment width : ℕ) (fill text : List ℕ) (clusters : ℕ)
    → length (padded alignment width fill text clusters) ≡ padded_length width fill text clusters
length_padded alignment width fill text clusters = length_filled alignment (fills width clusters) fill text

pub one_behind : (n : ℕ) (fill : List ℕ) → repeated n fill ++ fill ≡ repeated (suc n) fill
unfolding repeated
one_behind zero fill = sym (append-nil fill)
one_behind (suc n) fill = append_assoc fill (repeated n fill) fill ∙ ap (λ (r : List ℕ). fill ++ r) (one_behind n fill)
