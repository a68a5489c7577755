-- Laws of an owner given to the entries from n on: `owned_up owner owners n i`.
--     owned_none, owned_more                  to none, and to one more
--     Owning, own_none, own_one, own_all_lem      what a loop over the entries keeps
-- Assumes nothing.
use Rattle.std.specs.Prelude.{ℕ, suc, ◌+◌, ◌-◌, ◌<◌, ◌≤◌, ◌≡◌, refl, List, [], ◌∷◌, ◌++◌, length, get_or, set, take, drop, replicate}
use Rattle.std.proofs.Common.{arith, add-one, sym, ap, ◌∙◌, append_assoc, length-set, length-append, take-append-drop, length-take-le, drop-cons}
use Rattle.std.proofs.lemmas.List.{length-replicate, replicate-append-replicate, set_at}
use Rattle.desk_parse.specs.Own.{owned_up}

module _ (owner : ℕ) (owners : List ℕ) where
  pub owned_none : (n : ℕ) → owners ≡ owned_up owner owners n n
  owned_none n = let z : n - n ≡ 0 = omega arith in rw z (sym (take-append-drop n owners))

  pub owned_more : (n i : ℕ) → n ≤ i → i < length owners → set (owned_up owner owners n i) i owner ≡ owned_up owner owners n (i + 1)
  owned_more n i h l =
      let head = take n owners in
      let given = replicate (i - n) owner in
      let rest = drop (suc i) owners in
      let more : i + 1 - n ≡ i - n + 1 = omega arith in
      let long : length (head ++ given) ≡ i =
      length-append head given ∙ omega (arith, length-take-le n owners (omega arith), length-replicate (i - n) owner) in
      ap (λ (r : List ℕ). set (head ++ (given ++ r)) i owner) (drop-cons owners i 0 l)
      ∙ ap (λ (r : List ℕ). set r i owner) (sym (append_assoc head given (get_or owners i 0 ∷ rest)))
      ∙ set_at (head ++ given) (get_or owners i 0) rest owner i long
      ∙ append_assoc head given (owner ∷ rest)
      ∙ ap (λ (r : List ℕ). head ++ r)
      (sym (append_assoc given (owner ∷ []) rest) ∙ ap (λ (r : List ℕ). r ++ rest) (replicate-append-replicate (i - n) 1 owner))
      ∙ rw (more, add-one i)

  -- what a loop over the entries keeps, for the entries n to m: those to i have the owner
  module _ (n m : ℕ) where
    pub record Owning (row : List ℕ) (i : ℕ) : Type 0 where
      pub from : n ≤ i
      pub to : i ≤ m
      pub long : length row ≡ length owners
      pub holds : row ≡ owned_up owner owners n i

    pub own_none : n ≤ m → Owning owners n
    own_none h = record { from = omega arith; to = h; long = refl; holds = owned_none n }

    pub own_one : (row : List ℕ) (i : ℕ) → Owning row i → i < m → m ≤ length owners → Owning (set row i owner) (i + 1)
    own_one row i o h l =
        record {
          from = omega (arith, o.from);
          to = omega arith;
          long = length-set row i owner ∙ o.long;
          holds = ap (λ (r : List ℕ). set r i owner) o.holds ∙ owned_more n i o.from (omega arith);
        }

    pub own_all_lem : (row : List ℕ) (i : ℕ) → Owning row i → m ≤ i → row ≡ owned_up owner owners n m
    own_all_lem row i o h = let e : i ≡ m = omega (arith, o.to) in o.holds ∙ ap (owned_up owner owners n) e
