-- Laws of a row of entries and of its numbers.
--     numbers_long           a row has two numbers for each entry
--     start_is, length_is    numbers 2k and 2k + 1 are the start and the length of entry k
--     numbers_set            to set an entry is to set its two numbers
--     same_numbers           rows with the same numbers are the same
--     one_outcome            no second answer, and no second rows and counts, fit `AddsEntry`
-- Assumes nothing.
use Rattle.std.specs.Prelude.{ℕ, zero, suc, ◌+◌, ◌*◌, ◌≡◌, refl, Result, List, [], ◌∷◌, length, get_or, set}
use Rattle.std.proofs.Common.{arith, sym, ap, ◌∙◌}
use Rattle.pool_rows.specs.Rows.{start_of, length_of}
use Rattle.pool.specs.Pool.{entered, counts_after}
use Rattle.pool.specs.PoolLaws.{one_answer}
use Rattle.pool_rows.specs.declared.Counts.{Counts}
use Rattle.pool.specs.declared.Added.{Added}
use Rattle.pool.specs.declared.AddError.{AddError}
use Rattle.pool_lent.specs.Entries.{entry_of, numbers_of, AddsEntry}
use Rattle.pool_lent.specs.declared.Entry.{Entry}

-- what stands past the end of a row
abbrev pub none : Entry
none = entry_of 0 0

-- entry k
abbrev pub entry_at : List Entry → ℕ → Entry
entry_at entries k = get_or entries k none

-- one entry more is two numbers more
twice_suc : (k : ℕ) → 2 * suc k ≡ suc (suc (2 * k))
twice_suc k = omega arith

odd_suc : (k : ℕ) → 2 * suc k + 1 ≡ suc (suc (2 * k + 1))
odd_suc k = omega arith

pub numbers_long : (es : List Entry) → length (numbers_of es) ≡ 2 * length es
unfolding numbers_of
numbers_long [] = refl
numbers_long (e ∷ es) = omega (arith, numbers_long es)

pub start_is : (es : List Entry) (k : ℕ) → start_of (numbers_of es) k ≡ (entry_at es k).start
unfolding numbers_of
start_is [] k = refl
start_is (e ∷ es) zero = refl
start_is (e ∷ es) (suc k) = rw (twice_suc k) (start_is es k)

pub length_is : (es : List Entry) (k : ℕ) → length_of (numbers_of es) k ≡ (entry_at es k).len
unfolding numbers_of
length_is [] k = refl
length_is (e ∷ es) zero = refl
length_is (e ∷ es) (suc k) = rw (odd_suc k) (length_is es k)

pub numbers_set : (es : List Entry) (k start long : ℕ) → numbers_of (set es k (entry_of start long)) ≡ entered (numbers_of es) k start long
unfolding numbers_of
numbers_set [] k start long = refl
numbers_set (e ∷ es) zero start long = refl
numbers_set (e ∷ es) (suc k) start long =
    rw (odd_suc k, twice_suc k) (ap (λ (l : List ℕ). e.start ∷ e.len ∷ l) (numbers_set es k start long))

pub same_numbers : (es fs : List Entry) → numbers_of es ≡ numbers_of fs → es ≡ fs
unfolding numbers_of
same_numbers [] [] e = refl
same_numbers [] (y ∷ ys) e = cc
same_numbers (x ∷ xs) [] e = cc
same_numbers (x ∷ xs) (y ∷ ys) e =
    let s : x.start ≡ y.start = cc in
    let l : x.len ≡ y.len = cc in
    let rest : numbers_of xs ≡ numbers_of ys = cc in
    let tail = same_numbers xs ys rest in
    let head : x ≡ y = λ i. entry_of (s i) (l i) in
    cc

pub one_outcome : {string bytes new_bytes newBytes' : List ℕ} {entries new_entries newEntries' : List Entry}
    {counts newCounts newCounts' : Counts} {r q : Result Added AddError}
    → AddsEntry string counts bytes entries new_bytes new_entries newCounts r
    → AddsEntry string counts bytes entries newBytes' newEntries' newCounts' q
    → (r ≡ q) × (new_bytes ≡ newBytes') × (new_entries ≡ newEntries') × (newCounts ≡ newCounts')
one_outcome {counts} v w =
    let p = one_answer v.same w.same in
    (p.0, p.1, same_numbers _ _ p.2, v.counts_left ∙ ap (counts_after counts) p.0 ∙ sym w.counts_left)
