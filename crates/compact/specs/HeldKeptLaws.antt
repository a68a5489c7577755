-- Laws of what the kept entries of an owner hold.
--     held_kept            what the kept ones of the first n entries hold that an owner added
--     held_laid           it is what that owner holds in the rows after a compaction
--     kept_most           it is no more than the owner held
--     kept_adds_up        where the two desks held all, they hold all that is kept
-- Assumes nothing.
use Prim.Native.Nat.{ℕ, zero, suc, ◌+◌, ◌*◌, ◌<◌, ◌≤◌}
use native.Mathlib.Omega.{arith}
use Rattle.std.proofs.Common.{add-one, sym, ap, ◌∙◌, length-append}
use Rattle.std.specs.Prelude.{◌≡◌, Bool, true, false, eqb, length, get_or}
use Rattle.std.proofs.Math.Path.{refl}
use mathlib.Core.List.{List, [], ◌∷◌, ◌++◌, append_assoc, append-nil}
use Rattle.std.proofs.lemmas.List.{get_or_at}
use borrow.Author.Tests.{eqb-true}
use Rattle.base.specs.Pick.{pick}
use Rattle.pool_rows.specs.Rows.{length_of, string_at}
use Rattle.pool.specs.Pool.{one_more}
use Rattle.pool_rows.specs.declared.Counts.{Counts}
use Rattle.desks.specs.Desks.{held_by}
use Rattle.desks.specs.HeldLaws.{held_more}
use Rattle.slide.specs.Slide.{kept, kept_strings, kept_owners, new_index, joined, laid_out}
use Rattle.slide.specs.SlideLaws.{kept_long, kept_with, kept_without, joined_more, laid_more, laid_long}
use Rattle.compact.specs.LaidLaws.{long_here}

unfoldable pub held_kept : (ℕ → Bool) → List ℕ → List ℕ → ℕ → ℕ → Counts
held_kept keep entries owners owner zero = record { entries = 0; bytes = 0 }
held_kept keep entries owners owner (suc n) =
    pick (keep n)
    (pick (eqb (get_or owners n 0) owner) (one_more (held_kept keep entries owners owner n) (length_of entries n)) (held_kept keep entries owners owner n))
    (held_kept keep entries owners owner n)

module _ (keep : ℕ → Bool) (bytes entries owners : List ℕ) where
  -- the strings of the first n entries lie in the bytes
  abbrev Long : ℕ → Type 0
  Long n = (k : ℕ) → k < n → length (string_at bytes entries k) ≡ length_of entries k

  abbrev some_owners : ℕ → List ℕ
  some_owners n = kept_owners keep owners n

  new_yes : (n : ℕ) → keep n ≡ true → new_index keep (suc n) ≡ suc (new_index keep n)
  unfolding new_index
  new_yes n e = rw e (add-one (new_index keep n))

  new_no : (n : ℕ) → keep n ≡ false → new_index keep (suc n) ≡ new_index keep n
  unfolding new_index
  new_no n e = rw e (omega arith)

  pub held_laid : (owner n : ℕ) → Long n → (rest restOwners : List ℕ)
      → held_by (laid_out 0 (kept_strings keep bytes entries n) ++ rest) (some_owners n ++ restOwners) owner (new_index keep n)
      ≡ held_kept keep entries owners owner n
  unfolding held_kept held_by new_index kept
  held_laid owner zero h rest restOwners = refl
  held_laid owner (suc n) h rest restOwners = go (keep n) refl (held_laid owner n (λ k l. h k (omega arith)))
    where
      S : List (List ℕ)
      S = kept_strings keep bytes entries n

      go : (t : Bool) → keep n ≡ t
          → ((r o : List ℕ) → held_by (laid_out 0 (kept_strings keep bytes entries n) ++ r) (some_owners n ++ o) owner (new_index keep n)
          ≡ held_kept keep entries owners owner n)
          → held_by (laid_out 0 (kept_strings keep bytes entries (suc n)) ++ rest) (some_owners (suc n) ++ restOwners) owner (new_index keep (suc n))
          ≡ pick t
          (pick (eqb (get_or owners n 0) owner) (one_more (held_kept keep entries owners owner n) (length_of entries n)) (held_kept keep entries owners owner n))
          (held_kept keep entries owners owner n)
      go true e i =
          let ss = kept_strings keep bytes entries n in
          let s = string_at bytes entries n in
          let end = 0 + length (joined ss) in
          let long = h n (omega arith) in
          let m = new_index keep n in
          let r = end ∷ length s ∷ rest in
          let o = get_or owners n 0 ∷ restOwners in
          let rows : laid_out 0 (kept_strings keep bytes entries (suc n)) ++ rest ≡ laid_out 0 ss ++ r =
          ap (λ (l : List (List ℕ)). laid_out 0 l ++ rest) (sym (kept_with keep (string_at bytes entries) n e))
          ∙ ap (λ (l : List ℕ). l ++ rest) (laid_more 0 ss s)
          ∙ append_assoc (laid_out 0 ss) (end ∷ length s ∷ []) rest in
          let owns : some_owners (suc n) ++ restOwners ≡ some_owners n ++ o =
          ap (λ (l : List ℕ). l ++ restOwners) (sym (kept_with keep (λ (k : ℕ). get_or owners k 0) n e))
          ∙ append_assoc (some_owners n) (get_or owners n 0 ∷ []) restOwners in
          let its : get_or (some_owners n ++ o) m 0 ≡ get_or owners n 0 =
          get_or_at (some_owners n) (get_or owners n 0) restOwners 0 m (kept_long keep (λ (k : ℕ). get_or owners k 0) n) in
          let size : length_of (laid_out 0 ss ++ r) m ≡ length_of entries n =
          long_here (laid_out 0 ss) m end (length s) rest (laid_long 0 ss ∙ ap (λ (k : ℕ). 2 * k) (kept_long keep (string_at bytes entries) n)) ∙ long in
          ap (λ (l : List ℕ). held_by l (some_owners (suc n) ++ restOwners) owner (new_index keep (suc n))) rows
          ∙ ap (λ (l : List ℕ). held_by (laid_out 0 ss ++ r) l owner (new_index keep (suc n))) owns
          ∙ ap (held_by (laid_out 0 ss ++ r) (some_owners n ++ o) owner) (new_yes n e)
          ∙ sym (held_more (laid_out 0 ss ++ r) (some_owners n ++ o) owner m)
          ∙ rw (its, size, i r o)
      go false e i =
          ap (λ (l : List (List ℕ)). held_by (laid_out 0 l ++ rest) (some_owners (suc n) ++ restOwners) owner (new_index keep (suc n)))
          (sym (kept_without keep (string_at bytes entries) n e))
          ∙ ap (λ (l : List ℕ). held_by (laid_out 0 (kept_strings keep bytes entries n) ++ rest) (l ++ restOwners) owner (new_index keep (suc n)))
          (sym (kept_without keep (λ (k : ℕ). get_or owners k 0) n e))
          ∙ ap (held_by (laid_out 0 (kept_strings keep bytes entries n) ++ rest) (some_owners n ++ restOwners) owner) (new_no n e)
          ∙ i rest restOwners

  pub kept_most : (owner n : ℕ)
      → ((held_kept keep entries owners owner n).entries ≤ (held_by entries owners owner n).entries)
      × ((held_kept keep entries owners owner n).bytes ≤ (held_by entries owners owner n).bytes)
  unfolding held_kept held_by
  kept_most owner zero = (omega arith, omega arith)
  kept_most owner (suc n) = go (keep n) (eqb (get_or owners n 0) owner) (kept_most owner n)
    where
      K : Counts
      K = held_kept keep entries owners owner n

      H : Counts
      H = held_by entries owners owner n

      go : (t u : Bool) → (K.entries ≤ H.entries) × (K.bytes ≤ H.bytes)
          → ((pick t (pick u (one_more K (length_of entries n)) K) K).entries ≤ (pick u (one_more H (length_of entries n)) H).entries)
          × ((pick t (pick u (one_more K (length_of entries n)) K) K).bytes ≤ (pick u (one_more H (length_of entries n)) H).bytes)
      go true true p = (omega arith, omega arith)
      go true false p = p
      go false true p = (omega arith, omega arith)
      go false false p = p

  two_most : (n : ℕ) → (held_by entries owners 0 n).entries + (held_by entries owners 1 n).entries ≤ n
  unfolding held_by
  two_most zero = omega arith
  two_most (suc n) =
      go (eqb (get_or owners n 0) 0) (eqb (get_or owners n 0) 1) (λ a b. omega (arith, eqb-true (get_or owners n 0) 0 a, eqb-true (get_or owners n 0) 1 b)) (two_most n)
    where
      A : Counts
      A = held_by entries owners 0 n

      B : Counts
      B = held_by entries owners 1 n

      go : (t u : Bool) → (t ≡ true → u ≡ true → ⊥) → A.entries + B.entries ≤ n
          → (pick t (one_more A (length_of entries n)) A).entries + (pick u (one_more B (length_of entries n)) B).entries ≤ suc n
      go true true x p = absurd (x refl refl)
      go true false x p = omega arith
      go false true x p = omega arith
      go false false x p = omega arith

  pub kept_adds_up : (n : ℕ) → Long n → (held_by entries owners 0 n).entries + (held_by entries owners 1 n).entries ≡ n
      → ((held_kept keep entries owners 0 n).entries + (held_kept keep entries owners 1 n).entries ≡ new_index keep n)
      × ((held_kept keep entries owners 0 n).bytes + (held_kept keep entries owners 1 n).bytes ≡ length (joined (kept_strings keep bytes entries n)))
  unfolding held_by held_kept new_index kept joined
  kept_adds_up zero h e = (refl, refl)
  kept_adds_up (suc n) h e =
      go (eqb (get_or owners n 0) 0) (eqb (get_or owners n 0) 1) (keep n)
      (λ a b. omega (arith, eqb-true (get_or owners n 0) 0 a, eqb-true (get_or owners n 0) 1 b)) e (two_most n)
      (λ q. kept_adds_up n (λ k l. h k (omega arith)) q) (h n (omega arith))
      (length-append (joined (kept_strings keep bytes entries n)) (string_at bytes entries n))
      (joined_more (kept_strings keep bytes entries n) (string_at bytes entries n))
    where
      A : Counts
      A = held_by entries owners 0 n

      B : Counts
      B = held_by entries owners 1 n

      C : Counts
      C = held_kept keep entries owners 0 n

      D : Counts
      D = held_kept keep entries owners 1 n

      S : List (List ℕ)
      S = kept_strings keep bytes entries n

      s : List ℕ
      s = string_at bytes entries n

      L : ℕ
      L = length_of entries n

      go : (t u v : Bool) → (t ≡ true → u ≡ true → ⊥) → (pick t (one_more A L) A).entries + (pick u (one_more B L) B).entries ≡ suc n
          → A.entries + B.entries ≤ n
          → (A.entries + B.entries ≡ n → (C.entries + D.entries ≡ new_index keep n) × (C.bytes + D.bytes ≡ length (joined S)))
          → length s ≡ L → length (joined S ++ s) ≡ length (joined S) + length s → joined (S ++ (s ∷ [])) ≡ joined S ++ s
          → ((pick v (pick t (one_more C L) C) C).entries + (pick v (pick u (one_more D L) D) D).entries ≡ new_index keep n + pick v 1 0)
          × ((pick v (pick t (one_more C L) C) C).bytes + (pick v (pick u (one_more D L) D) D).bytes ≡ length (joined (S ++ pick {A = List (List ℕ)} v (s ∷ []) [])))
      go true true v x q m i g j w = absurd (x refl refl)
      go false false v x q m i g j w = absurd (omega arith)
      go true false true x q m i g j w = let p = i (omega arith) in (omega arith, rw w (omega (arith, p.1, g, j)))
      go true false false x q m i g j w = let p = i (omega arith) in (omega (arith, p.0), rw (append-nil S) p.1)
      go false true true x q m i g j w = let p = i (omega arith) in (omega arith, rw w (omega (arith, p.1, g, j)))
      go false true false x q m i g j w = let p = i (omega arith) in (omega (arith, p.0), rw (append-nil S) p.1)
