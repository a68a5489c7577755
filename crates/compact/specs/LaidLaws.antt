-- Laws of strings laid out at the start of the rows.
--     laid_runs, laid_strings     their entries run end to end, and their strings are these
--     at-start                    the same at the start of a row that is headed by them
-- Assumes nothing.
use Rattle.std.specs.Prelude.{ℕ, suc, ◌+◌, ◌*◌, ◌≡◌, refl, true, List, [], ◌∷◌, ◌++◌, length, get_or, take, drop}
use Rattle.std.proofs.Common.{arith, sym, ap, ◌∙◌, append_assoc, length-append, get_or-append-add, drop_at, take_at, eq-eqb}
use Rattle.std.proofs.lemmas.List.{get_or_at}
use Rattle.pool_rows.specs.Rows.{start_of, length_of, string_at, strings_from, strings_of, runs_to}
use Rattle.slide.specs.Slide.{joined, laid_out, headed}

-- the two numbers of the entry behind some words
module _ (pre : List ℕ) (k start long : ℕ) (rest : List ℕ) (h : length pre ≡ 2 * k) where
  abbrev row : List ℕ
  row = pre ++ (start ∷ long ∷ rest)

  pub start_here : start_of row k ≡ start
  start_here = get_or_at pre start (long ∷ rest) 0 (2 * k) h

  pub long_here : length_of row k ≡ long
  long_here =
      let e : length pre + 1 ≡ 2 * k + 1 = omega arith in
      ap (λ (j : ℕ). get_or row j 0) (sym e) ∙ get_or-append-add pre (start ∷ long ∷ rest) 1 0

pub laid_runs : (ss : List (List ℕ)) (pre : List ℕ) (k start : ℕ) (rest : List ℕ) → length pre ≡ 2 * k
    → runs_to (pre ++ (laid_out start ss ++ rest)) k (length ss) start (start + length (joined ss)) ≡ true
unfolding runs_to laid_out joined
laid_runs [] pre k start rest h = eq-eqb start (start + 0) (omega arith)
laid_runs (s ∷ ss) pre k start rest h =
    let tail = laid_out (start + length s) ss ++ rest in
    let a = start_here pre k start (length s) tail h in
    let b = long_here pre k start (length s) tail h in
    let q : start + length s + length (joined ss) ≡ start + length (s ++ joined ss) = omega (arith, length-append s (joined ss)) in
    let i = laid_runs ss (pre ++ (start ∷ length s ∷ [])) (suc k) (start + length s) rest
    (length-append pre (start ∷ length s ∷ []) ∙ omega arith) in
    let j : runs_to (pre ++ (start ∷ length s ∷ tail)) (suc k) (length ss) (start + length s) (start + length (s ++ joined ss)) ≡ true =
    rw (append_assoc pre (start ∷ length s ∷ []) tail, q) at i in
    rw (a, b, eq-eqb start start refl) j

pub laid_strings : (ss : List (List ℕ)) (pre preBytes : List ℕ) (k start : ℕ) (rest restBytes : List ℕ) → length pre ≡ 2 * k
    → length preBytes ≡ start
    → strings_from (preBytes ++ (joined ss ++ restBytes)) (pre ++ (laid_out start ss ++ rest)) k (length ss) ≡ ss
unfolding strings_from laid_out joined
laid_strings [] pre preBytes k start rest restBytes h g = refl
laid_strings (s ∷ ss) pre preBytes k start rest restBytes h g =
    let tail = laid_out (start + length s) ss ++ rest in
    let a = start_here pre k start (length s) tail h in
    let b = long_here pre k start (length s) tail h in
    let bytes = preBytes ++ ((s ++ joined ss) ++ restBytes) in
    let head : string_at bytes (pre ++ (start ∷ length s ∷ tail)) k ≡ s =
    rw (a, b)
    (ap (take (length s)) (drop_at preBytes ((s ++ joined ss) ++ restBytes) start g ∙ append_assoc s (joined ss) restBytes)
    ∙ take_at s (joined ss ++ restBytes) (length s) refl) in
    let i = laid_strings ss (pre ++ (start ∷ length s ∷ [])) (preBytes ++ s) (suc k) (start + length s) rest restBytes
    (length-append pre (start ∷ length s ∷ []) ∙ omega arith) (length-append preBytes s ∙ omega arith) in
    let c : (preBytes ++ s) ++ (joined ss ++ restBytes) ≡ bytes =
    append_assoc preBytes s (joined ss ++ restBytes) ∙ ap (λ (l : List ℕ). preBytes ++ l) (sym (append_assoc s (joined ss) restBytes)) in
    let j : strings_from bytes (pre ++ (start ∷ length s ∷ tail)) (suc k) (length ss) ≡ ss =
    rw (append_assoc pre (start ∷ length s ∷ []) tail, c) at i in
    cc

-- at the start of the rows
module _ (ss : List (List ℕ)) (bytes entries : List ℕ) where
  pub runs_there : runs_to (headed (laid_out 0 ss) entries) 0 (length ss) 0 (length (joined ss)) ≡ true
  runs_there =
      let z : 0 + length (joined ss) ≡ length (joined ss) = omega arith in
      rw z at (laid_runs ss [] 0 0 (drop (length (laid_out 0 ss)) entries) refl)

  pub strings_there : strings_of (headed (joined ss) bytes) (headed (laid_out 0 ss) entries) (length ss) ≡ ss
  strings_there = laid_strings ss [] [] 0 0 (drop (length (laid_out 0 ss)) entries) (drop (length (joined ss)) bytes) refl refl
