-- For the code, which has the fill alone: whether the fill before a sign is still one cluster.
--     plain_joins     a plain character is joined to Prepend, and to nothing else (GB9b)
--     apart_by        fs is the first cluster of fs and a sign exactly if fs is one cluster and the sign is not joined to its last character
-- Assumes nothing.
use Prim.Native.Nat.{ℕ, suc, ◌+◌}
use Rattle.std.proofs.Common.{arith, zero-add, ◌∙◌, eqb-true, eq-eqb, ne_eqb}
use Rattle.std.specs.Prelude.{◌≡◌, Bool, not, ◌&&◌, eqb, get_or}
use Rattle.std.proofs.Math.Path.{refl, sym, ap}
use Rattle.std.proofs.Math.Bool.{true, false}
use mathlib.Core.List.{List, [], ◌∷◌, ◌++◌}
use Rattle.std.proofs.Math.ListN.{length}
use Rattle.std.proofs.Math.Seq.{take-append_seam}
use Rattle.base.specs.Pick.{pick}
use Rattle.base.specs.PickLaws.{split_eq}
use Rattle.property.specs.Parts.{class_of, prepend}
use Rattle.uax29.specs.Uax29.{is_control, gb3, gb6, gb7, gb8, gb9, pair_rule, gb9c, gb11, gb12, on_open, joined}
use Rattle.cluster.specs.First.{go_on, first_size}
use Rattle.cluster.specs.FirstLaws.{plain}
use Rattle.format_options.specs.Letters.{less}
use Rattle.wanted.specs.TailLaws.{and_no}
use Rattle.wanted.proofs.StartLaws.{goes_prefix}
use Rattle.fill_fits.specs.Apart.{last_of, joins_sign}

-- the second of two tests that do not both hold, told by an answer of three cases
second_of : {X : Type 0} (f : X → Bool) (joins breaks opens : X) (t u : Bool) → (t ≡ true → u ≡ true → ⊥) → f joins ≡ true → f breaks ≡ false → f opens ≡ false
    → f (pick t breaks (pick u joins opens)) ≡ u
second_of f joins breaks opens false true n a b c = a
second_of f joins breaks opens false false n a b c = c
second_of f joins breaks opens true false n a b c = b
second_of f joins breaks opens true true n a b c = absurd (n refl refl)

no_control : (b : ℕ) → is_control b ≡ true → eqb b prepend ≡ true → ⊥
unfolding is_control
no_control b p q =
    let x : is_control prepend ≡ true = ap is_control (sym (eqb-true b prepend q)) ∙ p in
    let z : ◌≡◌ {A = ℕ} 0 1 = cc in omega arith

-- the rules on the two characters, where the second is plain
pair_plain : (b : ℕ) → on_open (pair_rule b 0) false ≡ eqb b prepend
unfolding is_control gb3 gb6 gb7 gb8 gb9 pair_rule
pair_plain b = simp and_no (second_of (λ q. on_open q false) _ _ _ (is_control b) (eqb b prepend) (no_control b) refl refl refl)

module _ (edition : ℕ) where
  pub plain_joins : (left : List ℕ) → joined edition left plain ≡ eqb (class_of (get_or left 0 0)) prepend
  unfolding gb9c gb11 gb12
  plain_joins left = simp and_no (pair_plain (class_of (get_or left 0 0)))

  module _ (look : ℕ → ℕ) (g : ℕ) (e : look g ≡ plain) where
    -- 1 where a plain character would be joined to c
    abbrev one : ℕ → ℕ
    one c = pick (eqb (class_of (look c)) prepend) 1 0

    ends : (c : ℕ) (left cs : List ℕ) → go_on look edition (look c ∷ left) cs ≡ length cs
        → go_on look edition (look c ∷ left) (cs ++ g ∷ []) ≡ length cs + one (last_of c cs)
    unfolding go_on
    ends c left [] h =
        ap (λ (p : ℕ). pick (joined edition (look c ∷ left) p) 1 0) e ∙ ap (λ (t : Bool). pick t 1 0) (plain_joins (look c ∷ left)) ∙ sym (zero-add (one c))
    ends c left (d ∷ ds) h = go (joined edition (look c ∷ left) (look d)) refl (λ i. ends d (look c ∷ left) ds i)
      where
        go : (t : Bool) → joined edition (look c ∷ left) (look d) ≡ t
            → (go_on look edition (look d ∷ look c ∷ left) ds ≡ length ds → go_on look edition (look d ∷ look c ∷ left) (ds ++ g ∷ []) ≡ length ds + one (last_of d ds))
            → go_on look edition (look c ∷ left) (d ∷ ds ++ g ∷ []) ≡ suc (length ds) + one (last_of d ds)
        go true t ih =
            let i : suc (go_on look edition (look d ∷ look c ∷ left) ds) ≡ suc (length ds) = rw t at h in
            rw t (omega (arith, ih (omega arith)))
        go false t ih = absurd (let i : 0 ≡ suc (length ds) = rw t at h in omega arith)

    by_prepend : (c : ℕ) (cs : List ℕ) → eqb (first_size look edition ((c ∷ cs) ++ g ∷ [])) (length (c ∷ cs))
        ≡ (eqb (first_size look edition (c ∷ cs)) (length (c ∷ cs)) && not (eqb (class_of (look (last_of c cs))) prepend))
    by_prepend c cs = split_eq n (length cs) whole (λ q. ne_eqb (suc m) (suc (length cs)) (λ x. q (part (omega arith))) ∙ sym (rw (ne_eqb (suc n) (suc (length cs)) (λ x. q (omega arith)))))
      where
        n : ℕ
        n = go_on look edition (look c ∷ []) cs

        m : ℕ
        m = go_on look edition (look c ∷ []) (cs ++ g ∷ [])

        -- a cluster with the sign after it is one without
        part : m ≡ length cs → n ≡ length cs
        part x =
            let p = goes_prefix look edition (look c ∷ []) (cs ++ g ∷ []) (length cs) (omega arith) in
            sym (ap (go_on look edition (look c ∷ [])) (take-append_seam cs (g ∷ []))) ∙ p ∙ x

        by_last : n ≡ length cs → (t : Bool) → eqb (class_of (look (last_of c cs))) prepend ≡ t
            → eqb (suc m) (suc (length cs)) ≡ not (eqb (class_of (look (last_of c cs))) prepend)
        by_last q true p =
            let x : m ≡ length cs + 1 = ends c [] cs q ∙ rw p refl in
            rw p (ne_eqb (suc m) (suc (length cs)) (λ y. omega arith))
        by_last q false p =
            let x : m ≡ length cs + 0 = ends c [] cs q ∙ rw p refl in
            rw p (eq-eqb (suc m) (suc (length cs)) (omega arith))

        whole : n ≡ length cs → eqb (suc m) (suc (length cs)) ≡ (eqb (suc n) (suc (length cs)) && not (eqb (class_of (look (last_of c cs))) prepend))
        whole q = rw (eq-eqb (suc n) (suc (length cs)) (omega arith)) (by_last q (eqb (class_of (look (last_of c cs))) prepend) refl)

    pub apart_by : look less ≡ plain → (c : ℕ) (cs : List ℕ) → eqb (first_size look edition ((c ∷ cs) ++ g ∷ [])) (length (c ∷ cs))
        ≡ (eqb (first_size look edition (c ∷ cs)) (length (c ∷ cs)) && not (joins_sign look edition (c ∷ cs)))
    apart_by f c cs =
        let last = look (last_of c cs) in
        let same : eqb (class_of last) prepend ≡ joins_sign look edition (c ∷ cs) =
        sym (plain_joins (last ∷ [])) ∙ ap (λ (p : ℕ). joined edition (last ∷ []) p) (sym f) in
        by_prepend c cs ∙ ap (λ (t : Bool). eqb (first_size look edition (c ∷ cs)) (length (c ∷ cs)) && not t) same
