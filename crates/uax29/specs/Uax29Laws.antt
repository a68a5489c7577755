-- The looks back of `Uax29.antt` are the annex's expressions: each holds exactly where there are such places to the left. Place 0 is the
-- nearest character.
--     Pict, pict_at, at_pict         GB11: ExtPict Extend*
--     Linked, linked_at, at_linked   GB9c: Consonant [Extend Linker]* Linker [Extend Linker]*
--     odd_is                         GB12 and GB13: the run of Regional_Indicator is of odd length
-- Assumes nothing.
use Rattle.std.specs.Prelude.{ℕ, zero, suc, ◌<◌, ◌%◌, ◌≡◌, refl, ◌⊎◌, List, [], ◌∷◌, Bool, true, false, not, ◌&&◌, ◌||◌, eqb, length, get_or}
use Rattle.std.proofs.Common.{arith, inl, inr, ⊎_elim, eqb-true, eq-eqb, ne_eqb}
use Rattle.std.proofs.lemmas.Bool.{eqb-false}
use Rattle.base.specs.Pick.{pick}
use Rattle.base.specs.PickLaws.{split_eq}
use Rattle.base.specs.CasesLaws.{or_yes, and_yes}
use Rattle.property.specs.Parts.{class_of, is_pict, incb_of, extend, regional_indicator, consonant, incb_extend, linker}
use Rattle.uax29.specs.Uax29.{ends_pict, ends_odd, ends_consonant, ends_linked}

or_cases : (a b : Bool) → (a || b) ≡ true → (a ≡ true) ⊎ (b ≡ true)
or_cases true b e = inl refl
or_cases false b e = inr e

pub or_right : (a b : Bool) → b ≡ true → (a || b) ≡ true
or_right true b e = refl
or_right false b e = e

and_parts : (a b : Bool) → (a && b) ≡ true → (a ≡ true) × (b ≡ true)
and_parts true b e = (refl, e)
and_parts false b e = absurd (let z : ◌≡◌ {A = ℕ} 0 1 = cc in omega arith)

never : false ≡ true → ⊥
never e = let z : ◌≡◌ {A = ℕ} 0 1 = cc in omega arith

-- ---- GB11

-- a pictograph at the place n, and Extend at every place nearer
pub record Pict (left : List ℕ) (n : ℕ) : Type 0 where
  pub within : n < length left
  pub pict : is_pict (get_or left n 0) ≡ true
  pub extends : (k : ℕ) → k < n → class_of (get_or left k 0) ≡ extend

pict_on : (p : ℕ) (left : List ℕ) (n : ℕ) → class_of p ≡ extend → Pict left n → Pict (p ∷ left) (suc n)
pict_on p left n e w = record { within = omega (arith, w.within); pict = w.pict; extends = go }
  where
    go : (k : ℕ) → k < suc n → class_of (get_or (p ∷ left) k 0) ≡ extend
    go zero h = e
    go (suc k) h = w.extends k (omega arith)

pub pict_at : (left : List ℕ) → ends_pict left ≡ true → (n : ℕ) × Pict left n
unfolding ends_pict
pict_at [] e = absurd (never e)
pict_at (p ∷ left) e =
    ⊎_elim (λ t. (0, record { within = omega arith; pict = t; extends = λ k h. absurd (omega arith) }))
    (λ t. let w = and_parts (eqb (class_of p) extend) (ends_pict left) t in
    let r = pict_at left w.1 in
    (suc r.0, pict_on p left r.0 (eqb-true (class_of p) extend w.0) r.1))
    (or_cases (is_pict p) (eqb (class_of p) extend && ends_pict left) e)

pub at_pict : (left : List ℕ) (n : ℕ) → Pict left n → ends_pict left ≡ true
unfolding ends_pict
at_pict [] n w = absurd (omega (arith, w.within))
at_pict (p ∷ left) zero w = or_yes (is_pict p) _ w.pict
at_pict (p ∷ left) (suc n) w =
    let v : Pict left n =
    record { within = omega (arith, w.within); pict = w.pict; extends = λ k h. w.extends (suc k) (omega arith) } in
    or_right (is_pict p) _ (and_yes _ _ true (eq-eqb (class_of p) extend (w.extends 0 (omega arith))) (at_pict left n v))

-- ---- GB12 and GB13

-- how many Regional_Indicator stand nearest
abbrev pub flag_run : List ℕ → ℕ
flag_run [] = 0
flag_run (p ∷ left) = pick (eqb (class_of p) regional_indicator) (suc (flag_run left)) 0

pub odd_is : (left : List ℕ) → ends_odd left ≡ eqb (flag_run left % 2) 1
unfolding ends_odd
odd_is [] = refl
odd_is (p ∷ left) = go (eqb (class_of p) regional_indicator) (odd_is left)
  where
    next : (n : ℕ) → not (eqb (n % 2) 1) ≡ eqb (suc n % 2) 1
    next n =
        split_eq (n % 2) 1 (λ e. rw (eq-eqb (n % 2) 1 e, ne_eqb (suc n % 2) 1 (λ h. omega arith)))
        (λ e. rw (ne_eqb (n % 2) 1 e, eq-eqb (suc n % 2) 1 (omega arith)))

    go : (t : Bool) → ends_odd left ≡ eqb (flag_run left % 2) 1 → (t && not (ends_odd left)) ≡ eqb (pick t (suc (flag_run left)) 0 % 2) 1
    go true e = rw e (next (flag_run left))
    go false e = refl

-- ---- GB9c

-- a consonant at the place n, Extend or Linker at every place nearer
pub record Consonant (left : List ℕ) (n : ℕ) : Type 0 where
  pub within : n < length left
  pub found : incb_of (get_or left n 0) ≡ consonant
  pub between : (k : ℕ) → k < n → (incb_of (get_or left k 0) ≡ incb_extend) ⊎ (incb_of (get_or left k 0) ≡ linker)

-- and a Linker among these, at the place m
pub record Linked (left : List ℕ) (n m : ℕ) : Type 0 where
  pub base : Consonant left n
  pub nearer : m < n
  pub link : incb_of (get_or left m 0) ≡ linker

consonant_on : (p : ℕ) (left : List ℕ) (n : ℕ) → (incb_of p ≡ incb_extend) ⊎ (incb_of p ≡ linker) → Consonant left n → Consonant (p ∷ left) (suc n)
consonant_on p left n e w = record { within = omega (arith, w.within); found = w.found; between = go }
  where
    go : (k : ℕ) → k < suc n → (incb_of (get_or (p ∷ left) k 0) ≡ incb_extend) ⊎ (incb_of (get_or (p ∷ left) k 0) ≡ linker)
    go zero h = e
    go (suc k) h = w.between k (omega arith)

consonant_off : (p : ℕ) (left : List ℕ) (n : ℕ) → Consonant (p ∷ left) (suc n) → Consonant left n
consonant_off p left n w =
    record { within = omega (arith, w.within); found = w.found; between = λ k h. w.between (suc k) (omega arith) }

pub consonant_at : (left : List ℕ) → ends_consonant left ≡ true → (n : ℕ) × Consonant left n
unfolding ends_consonant
consonant_at [] e = absurd (never e)
consonant_at (p ∷ left) e =
    let extends = eqb (incb_of p) incb_extend in
    let links = eqb (incb_of p) linker in
    ⊎_elim
    (λ t. (0, record { within = omega arith; found = eqb-true (incb_of p) consonant t; between = λ k h. absurd (omega arith) }))
    (λ t. let w = and_parts (extends || links) (ends_consonant left) t in
    let r = consonant_at left w.1 in
    let o : (incb_of p ≡ incb_extend) ⊎ (incb_of p ≡ linker) =
    ⊎_elim (λ x. inl (eqb-true (incb_of p) incb_extend x)) (λ x. inr (eqb-true (incb_of p) linker x)) (or_cases extends links w.0) in
    (suc r.0, consonant_on p left r.0 o r.1))
    (or_cases (eqb (incb_of p) consonant) ((extends || links) && ends_consonant left) e)

pub at_consonant : (left : List ℕ) (n : ℕ) → Consonant left n → ends_consonant left ≡ true
unfolding ends_consonant
at_consonant [] n w = absurd (omega (arith, w.within))
at_consonant (p ∷ left) zero w = or_yes (eqb (incb_of p) consonant) _ (eq-eqb (incb_of p) consonant w.found)
at_consonant (p ∷ left) (suc n) w =
    let extends = eqb (incb_of p) incb_extend in
    let links = eqb (incb_of p) linker in
    let o : (extends || links) ≡ true =
    ⊎_elim (λ x. or_yes extends links (eq-eqb (incb_of p) incb_extend x)) (λ x. or_right extends links (eq-eqb (incb_of p) linker x)) (w.between 0 (omega arith)) in
    or_right (eqb (incb_of p) consonant) _ (and_yes (extends || links) _ true o (at_consonant left n (consonant_off p left n w)))

pub linked_at : (left : List ℕ) → ends_linked left ≡ true → (n : ℕ) × (m : ℕ) × Linked left n m
unfolding ends_linked
linked_at [] e = absurd (never e)
linked_at (p ∷ left) e = go (eqb (incb_of p) linker) refl e (λ h. linked_at left h)
  where
    go : (t : Bool) → eqb (incb_of p) linker ≡ t → pick t (ends_consonant left) (eqb (incb_of p) incb_extend && ends_linked left) ≡ true
        → (ends_linked left ≡ true → (n : ℕ) × (m : ℕ) × Linked left n m) → (n : ℕ) × (m : ℕ) × Linked (p ∷ left) n m
    go true s e ih =
        let r = consonant_at left e in
        let x = eqb-true (incb_of p) linker s in
        (suc r.0, 0, record { base = consonant_on p left r.0 (inr x) r.1; nearer = omega arith; link = x })
    go false s e ih =
        let w = and_parts (eqb (incb_of p) incb_extend) (ends_linked left) e in
        let r = ih w.1 in
        let v = r.2 in (
          suc r.0,
          suc r.1,
          record {
            base = consonant_on p left r.0 (inl (eqb-true (incb_of p) incb_extend w.0)) v.base;
            nearer = omega (arith, v.nearer);
            link = v.link;
          },
        )

pub at_linked : (left : List ℕ) (n m : ℕ) → Linked left n m → ends_linked left ≡ true
unfolding ends_linked
at_linked [] n m w = absurd (omega (arith, w.base.within))
at_linked (p ∷ left) zero m w = absurd (omega (arith, w.nearer))
at_linked (p ∷ left) (suc n) m w = go (eqb (incb_of p) linker) refl m w.nearer w.link (λ k v. at_linked left n k v)
  where
    rest : Consonant left n
    rest = consonant_off p left n w.base

    go : (t : Bool) → eqb (incb_of p) linker ≡ t → (m : ℕ) → m < suc n → incb_of (get_or (p ∷ left) m 0) ≡ linker
        → ((k : ℕ) → Linked left n k → ends_linked left ≡ true) → pick t (ends_consonant left) (eqb (incb_of p) incb_extend && ends_linked left) ≡ true
    go true s m h l ih = at_consonant left n rest
    go false s zero h l ih = absurd (eqb-false (incb_of p) linker s l)
    go false s (suc m) h l ih =
        let extends : incb_of p ≡ incb_extend = ⊎_elim (λ x. x) (λ x. absurd (eqb-false (incb_of p) linker s x)) (w.base.between 0 (omega arith)) in
        and_yes _ _ true (eq-eqb (incb_of p) incb_extend extends) (ih m (record { base = rest; nearer = omega arith; link = l }))
