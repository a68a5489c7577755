-- Laws of a text cut at its breaks.
--     cut_count    there are as many parts as clusters are counted
--     cut_all      put together again they are the text
--     cut_some     none of them is empty
-- That it is cut at exactly the breaks are `each_break` and `no_other` of `CountLaws`.
-- Assumes nothing.
use Prim.Native.Nat.{ℕ, zero, suc, ◌+◌, ◌-◌, ◌<◌, ◌≤◌}
use native.Mathlib.Omega.{arith}
use Rattle.std.specs.Prelude.{◌≡◌, Bool, get_or}
use Rattle.std.proofs.Math.Path.{refl, sym, ap}
use Rattle.std.proofs.Common.{◌∙◌, length-drop, length-take-le, le-ltb}
use mathlib.Core.List.{List, [], ◌∷◌, ◌++◌}
use Rattle.std.proofs.Math.Bool.{true, false}
use Rattle.std.proofs.Math.ListN.{length, take, drop, take-append-drop}
use Rattle.std.proofs.Math.Seq.{drop-drop, drop-length}
use Rattle.base.specs.Pick.{pick}
use Rattle.cluster.specs.First.{break_after}
use Rattle.cluster_count.specs.Count.{breaks_from, breaks, cluster_count, cut_at, clusters_of, together}

as_many : (start : ℕ) (ks cs : List ℕ) → length (cut_at start ks cs) ≡ length ks
unfolding cut_at
as_many start [] cs = refl
as_many start (k ∷ ks) cs = ap suc (as_many k ks (drop (k - start) cs))

module _ (look : ℕ → ℕ) (edition : ℕ) (cs : List ℕ) where
  pub cut_count : length (clusters_of look edition cs) ≡ cluster_count look edition cs
  cut_count = as_many 0 (breaks look edition cs) cs

  -- what is left from `start` on, cut at the breaks from k on
  abbrev parts : ℕ → ℕ → ℕ → List (List ℕ)
  parts start k n = cut_at start (breaks_from look edition cs k n) (drop start cs)

  -- the end of the text is a break
  end_break : (k : ℕ) → break_after look edition cs k ≡ false → length cs ≤ k → ⊥
  end_break k e h =
      let t = le-ltb k (length cs) h in
      let z : ◌≡◌ {A = Bool} true false = rw t at e in
      let y : ◌≡◌ {A = ℕ} 0 1 = cc in
      omega arith

  -- behind a part come those from its end on
  next : (start k n : ℕ) → start ≤ k
      → cut_at k (breaks_from look edition cs (suc k) n) (drop (k - start) (drop start cs)) ≡ parts k (suc k) n
  next start k n h =
      let e : start + (k - start) ≡ k = omega arith in
      ap (cut_at k (breaks_from look edition cs (suc k) n)) (drop-drop (k - start) start cs ∙ ap (λ (j : ℕ). drop j cs) e)

  all_from : (n start k : ℕ) → start < k → k + n ≡ suc (length cs) → (n ≡ 0 → length cs ≤ start) → together (parts start k n) ≡ drop start cs
  unfolding breaks_from cut_at together
  all_from zero start k s e h =
      let l : start ≡ length cs = omega (arith, h refl) in
      rw (l, drop-length cs)
  all_from (suc n) start k s e h =
      go (break_after look edition cs k) refl
      (all_from n k (suc k) (omega arith) (omega arith) (λ z. omega arith))
      (λ b. all_from n start (suc k) (omega arith) (omega arith) (λ z. absurd (end_break k b (omega arith))))
    where
      go : (t : Bool) → break_after look edition cs k ≡ t → together (parts k (suc k) n) ≡ drop k cs
          → (break_after look edition cs k ≡ false → together (parts start (suc k) n) ≡ drop start cs)
          → together (cut_at start (pick t (k ∷ breaks_from look edition cs (suc k) n) (breaks_from look edition cs (suc k) n)) (drop start cs))
          ≡ drop start cs
      go true b more none =
          let a = take (k - start) (drop start cs) in
          let q : start + (k - start) ≡ k = omega arith in
          let d : drop (k - start) (drop start cs) ≡ drop k cs = drop-drop (k - start) start cs ∙ ap (λ (j : ℕ). drop j cs) q in
          ap (λ (l : List (List ℕ)). a ++ together l) (next start k n (omega arith))
          ∙ ap (λ (l : List ℕ). a ++ l) (more ∙ sym d)
          ∙ take-append-drop (k - start) (drop start cs)
      go false b more none = none b

  pub cut_all : together (clusters_of look edition cs) ≡ cs
  unfolding breaks_from cut_at together
  cut_all = go cs refl
    where
      -- no characters, or some
      go : (l : List ℕ) → cs ≡ l → together (clusters_of look edition cs) ≡ cs
      go [] e = rw e
      go (c ∷ l) e = all_from (length cs) 0 1 (omega arith) (omega arith) (λ z. omega (arith, ap length e))

  -- the first of the parts, where the break after it is at k
  first_some : (start k : ℕ) → start < k → k ≤ length cs → 0 < length (take (k - start) (drop start cs))
  first_some start k s h =
      let l = length-drop start cs in
      omega (arith, length-take-le (k - start) (drop start cs) (omega arith))

  some_from : (n start k i : ℕ) → start < k → k + n ≡ suc (length cs) → i < length (parts start k n) → 0 < length (get_or (parts start k n) i [])
  unfolding breaks_from cut_at
  some_from zero start k i s e h = absurd (omega arith)
  some_from (suc n) start k i s e h =
      go (break_after look edition cs k) i h
      (λ j g. some_from n k (suc k) j (omega arith) (omega arith) g)
      (λ j g. some_from n start (suc k) j (omega arith) (omega arith) g)
    where
      rest : List ℕ
      rest = breaks_from look edition cs (suc k) n

      go : (t : Bool) (i : ℕ) → i < length (cut_at start (pick t (k ∷ rest) rest) (drop start cs))
          → ((j : ℕ) → j < length (parts k (suc k) n) → 0 < length (get_or (parts k (suc k) n) j []))
          → ((j : ℕ) → j < length (parts start (suc k) n) → 0 < length (get_or (parts start (suc k) n) j []))
          → 0 < length (get_or (cut_at start (pick t (k ∷ rest) rest) (drop start cs)) i [])
      go true zero h more none = first_some start k s (omega arith)
      go true (suc j) h more none =
          let q = next start k n (omega arith) in
          rw q (more j (omega (arith, ap length q)))
      go false i h more none = none i h

  pub cut_some : (i : ℕ) → i < cluster_count look edition cs → 0 < length (get_or (clusters_of look edition cs) i [])
  cut_some i h = some_from (length cs) 0 1 i (omega arith) (omega arith) (omega (arith, cut_count))
