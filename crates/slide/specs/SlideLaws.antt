-- Laws of what is kept, and of strings laid out end to end.
--     kept_long, new_most, translated_long    how many are kept, and how long the translation is
--     kept_with, kept_without                 one index more
--     joined_more, laid_more, laid_long       one string more
--     kept_bytes                              what is kept is no longer than what there was
--     compacted_same                          only what is kept of the entries in use counts, and what stands behind their words
-- Assumes nothing.
use Prim.Native.Nat.{ℕ, zero, suc, ◌+◌, ◌*◌, ◌<◌, ◌≤◌}
use native.Mathlib.Omega.{arith}
use Rattle.std.specs.Prelude.{◌≡◌, Bool, get_or, drop}
use Rattle.std.proofs.Math.Path.{refl, ap}
use Rattle.std.proofs.Common.{sym, ◌∙◌, length-take}
use Rattle.std.proofs.Math.Bool.{true, false}
use mathlib.Core.List.{List, [], ◌∷◌, ◌++◌, append_assoc, append-nil}
use Rattle.std.proofs.Math.ListN.{length, length-append}
use Rattle.base.specs.Pick.{pick}
use Rattle.base.specs.PickLaws.{by_test}
use Rattle.pool_rows.specs.Rows.{start_of, length_of, string_at}
use Rattle.desks.specs.SpentLaws.{spent}
use Rattle.pool_rows.specs.declared.Counts.{Counts}
use Rattle.slide.specs.Slide.{kept, kept_strings, new_index, gone, translated, joined, laid_out, headed, Compacted}

-- ---- what is kept

module _ (keep : ℕ → Bool) where
  pub new_most : (n : ℕ) → new_index keep n ≤ n
  unfolding new_index
  new_most zero = omega arith
  new_most (suc n) = by_test (λ (k : ℕ). new_index keep n + k ≤ suc n) (keep n) (λ e. omega (arith, new_most n)) (λ e. omega (arith, new_most n))

  pub translated_long : (n : ℕ) → length (translated keep n) ≡ n
  unfolding translated
  translated_long zero = refl
  translated_long (suc n) = length-append (translated keep n) (pick (keep n) (new_index keep n) gone ∷ []) ∙ omega (arith, translated_long n)

  pub translated_more : (n v : ℕ) → pick (keep n) (new_index keep n) gone ≡ v → translated keep n ++ (v ∷ []) ≡ translated keep (suc n)
  unfolding translated
  translated_more n v e = ap (λ (w : ℕ). translated keep n ++ (w ∷ [])) (sym e)

  module _ {A : Type 0} (f : ℕ → A) where
    pub kept_long : (n : ℕ) → length (kept keep f n) ≡ new_index keep n
    unfolding kept new_index
    kept_long zero = refl
    kept_long (suc n) =
        length-append (kept keep f n) (pick (keep n) (f n ∷ []) []) ∙ go (keep n) (kept_long n)
      where
        go : (t : Bool) → length (kept keep f n) ≡ new_index keep n → length (kept keep f n) + length (pick {A = List A} t (f n ∷ []) []) ≡ new_index keep n + pick t 1 0
        go true e = omega arith
        go false e = omega arith

    pub kept_with : (n : ℕ) → keep n ≡ true → kept keep f n ++ (f n ∷ []) ≡ kept keep f (suc n)
    unfolding kept
    kept_with n e = rw e

    pub kept_without : (n : ℕ) → keep n ≡ false → kept keep f n ≡ kept keep f (suc n)
    unfolding kept
    kept_without n e = rw e (sym (append-nil (kept keep f n)))

-- ---- strings laid out end to end

pub joined_more : (ss : List (List ℕ)) (s : List ℕ) → joined (ss ++ (s ∷ [])) ≡ joined ss ++ s
unfolding joined
joined_more [] s = append-nil s
joined_more (x ∷ xs) s = ap (λ (l : List ℕ). x ++ l) (joined_more xs s) ∙ sym (append_assoc x (joined xs) s)

pub laid_more : (start : ℕ) (ss : List (List ℕ)) (s : List ℕ)
    → laid_out start (ss ++ (s ∷ [])) ≡ laid_out start ss ++ ((start + length (joined ss)) ∷ length s ∷ [])
unfolding laid_out joined
laid_more start [] s = let e : start + 0 ≡ start = omega arith in rw e
laid_more start (x ∷ xs) s =
    let e : start + length x + length (joined xs) ≡ start + length (x ++ joined xs) = omega (arith, length-append x (joined xs)) in
    ap (λ (l : List ℕ). start ∷ length x ∷ l) (laid_more (start + length x) xs s ∙ rw e)

pub laid_long : (start : ℕ) (ss : List (List ℕ)) → length (laid_out start ss) ≡ 2 * length ss
unfolding laid_out
laid_long start [] = refl
laid_long start (x ∷ xs) = omega (arith, laid_long (start + length x) xs)

-- ---- what is kept is no longer than what there was

pub kept_bytes : (keep : ℕ → Bool) (bytes entries : List ℕ) (n : ℕ) → length (joined (kept_strings keep bytes entries n)) ≤ spent entries n
unfolding spent kept joined
kept_bytes keep bytes entries zero = omega arith
kept_bytes keep bytes entries (suc n) =
    by_test
    (λ (l : List (List ℕ)). length (joined (kept_strings keep bytes entries n ++ l)) ≤ spent entries n + length_of entries n)
    (keep n)
    (λ e.
    let s = string_at bytes entries n in
    let ss = kept_strings keep bytes entries n in
    rw (joined_more ss s)
    (omega (arith, length-append (joined ss) s, length-take (length_of entries n) (drop (start_of entries n) bytes), kept_bytes keep bytes entries n)))
    (λ e. rw (append-nil (kept_strings keep bytes entries n)) (omega (arith, kept_bytes keep bytes entries n)))

-- ---- only what is kept counts

module _ (keep keep' : ℕ → Bool) where
  kept_same : {A : Type 0} (f : ℕ → A) (n : ℕ) → ((k : ℕ) → k < n → keep k ≡ keep' k) → kept keep f n ≡ kept keep' f n
  unfolding kept
  kept_same f zero h = refl
  kept_same f (suc n) h = rw (h n (omega arith), kept_same f n (λ k l. h k (omega arith)))

  new_same : (n : ℕ) → ((k : ℕ) → k < n → keep k ≡ keep' k) → new_index keep n ≡ new_index keep' n
  unfolding new_index
  new_same zero h = refl
  new_same (suc n) h = rw (h n (omega arith), new_same n (λ k l. h k (omega arith)))

  translated_same : (n : ℕ) → ((k : ℕ) → k < n → keep k ≡ keep' k) → translated keep n ≡ translated keep' n
  unfolding translated
  translated_same zero h = refl
  translated_same (suc n) h =
      rw (h n (omega arith), new_same n (λ k l. h k (omega arith)), translated_same n (λ k l. h k (omega arith)))

  pub compacted_same : (n : ℕ) (b e o m m' b' e' o' r : List ℕ) (counts : Counts) → ((k : ℕ) → k < n → keep k ≡ keep' k) → drop n m ≡ drop n m'
      → Compacted keep n b e o m b' e' o' r counts → Compacted keep' n b e o m' b' e' o' r counts
  compacted_same n b e o m m' b' e' o' r counts h d c =
      let s = kept_same (string_at b e) n h in
      let w = kept_same (λ (k : ℕ). get_or o k 0) n h in
      let t = translated_same n h in
      record {
        counts_are = rw (← s) c.counts_are;
        bytes_left = rw (← s) c.bytes_left;
        entries_left = rw (← s) c.entries_left;
        owners_left = rw (← w) c.owners_left;
        moved_left =
            c.moved_left
            ∙ ap (λ (l : ℕ). translated keep n ++ drop l m) (translated_long keep n)
            ∙ ap (λ (l : List ℕ). translated keep n ++ l) d
            ∙ ap (λ (l : ℕ). translated keep n ++ drop l m') (sym (translated_long keep n))
            ∙ ap (λ (l : List ℕ). headed l m') t;
      }
