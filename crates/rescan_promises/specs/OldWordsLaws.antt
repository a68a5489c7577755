-- The words and the ends of the first records of a list that a scan has left.
--     rows_of_take       the first records of more
--     end_of_rows        where the last of the first n ends
--     copied_is          copied word for word they are put as records
-- Assumes nothing.
use Rattle.std.specs.Prelude.{ℕ, zero, suc, ◌≤◌, ◌<◌, ◌≡◌, refl, List, [], ◌∷◌, length, get_or, take, drop}
use Rattle.std.proofs.Common.{arith, sym, ap, ◌∙◌}
use Rattle.rows.specs.Row.{row_words, first_row, put_rows, put_rows_at, copy_rows, rows_of}
use Rattle.rows.specs.RowLaws.{rows_of_length, rows_of_at, rows_one_by_one, copy_put}
use Rattle.rows.specs.declared.Row.{Row}
use Rattle.reading.specs.Scan.{end_of}
use Rattle.keep.specs.Keep.{row_before}

pub rows_of_take : (n m : ℕ) (l : List ℕ) → n ≤ m → take n (rows_of m l) ≡ rows_of n l
unfolding rows_of
rows_of_take zero m l h = refl
rows_of_take (suc n) zero l h = absurd (omega arith)
rows_of_take (suc n) (suc m) l h = ap {B = List Row} (λ rows. first_row l ∷ rows) (rows_of_take n m (drop row_words l) (omega arith))

-- the end of the last of the first n
end_at : (rows : List Row) (b n : ℕ) (d : Row) → n < length rows → end_of b (take (suc n) rows) ≡ (get_or rows n d).end
unfolding end_of
end_at [] b n d h = absurd (omega arith)
end_at (row ∷ rows) b zero d h = refl
end_at (row ∷ rows) b (suc n) d h = end_at rows row.end n d (omega arith)

pub end_of_rows : (l : List ℕ) (m n : ℕ) (d : Row) → n ≤ m → end_of 0 (take n (rows_of m l)) ≡ (row_before l n).end
unfolding end_of
end_of_rows l m zero d h = refl
end_of_rows l m (suc n) d h =
    end_at (rows_of m l) 0 n d (omega (arith, rows_of_length m l)) ∙ ap (λ (r : Row). r.end) (rows_of_at m l n d h)

pub copied_is : (n m : ℕ) (old from to : List ℕ) → n ≤ m → from ≡ put_rows old (rows_of m from) → put_rows_at to 0 (take n (rows_of m from)) ≡ copy_rows n from to
copied_is n m old from to h e =
    rows_one_by_one to (take n (rows_of m from))
    ∙ sym (ap (λ (l : List ℕ). copy_rows n l to) e ∙ copy_put n old (rows_of m from) to (omega (arith, rows_of_length m from)))
