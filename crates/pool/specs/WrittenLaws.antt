-- Laws of a row of bytes with a string written into it.
--     write_none       nothing is written
--     length_written   the row stays as long as it is
--     write_behind     a string written behind another is both written at once
-- Assumes nothing.
use Rattle.std.specs.Prelude.{ℕ, ◌+◌, ◌≤◌, ◌≡◌, List, [], ◌++◌, length, take, drop}
use Rattle.std.proofs.Common.{arith, sym, ap, ◌∙◌, append_assoc, length-append, length-drop, take-append-drop, take_at, drop_at, drop-drop, length-take-le}
use Rattle.pool.specs.Pool.{written}

pub write_none : (old : List ℕ) (at : ℕ) → old ≡ written old at []
write_none old at = let z : at + 0 ≡ at = omega arith in rw z (sym (take-append-drop at old))

pub length_written : (old : List ℕ) (at : ℕ) (a : List ℕ) → at + length a ≤ length old → length (written old at a) ≡ length old
length_written old at a h =
    omega (
      arith,
      length-append (take at old) (a ++ drop (at + length a) old),
      length-append a (drop (at + length a) old),
      length-take-le at old (omega arith),
      length-drop (at + length a) old,
    )

pub write_behind : (old : List ℕ) (at end : ℕ) (a b : List ℕ) → end ≡ at + length a → end + length b ≤ length old
    → written (written old at a) end b ≡ written old at (a ++ b)
write_behind old at end a b e h =
    let front = take at old ++ a in
    let rest = drop (at + length a) old in
    let q : written old at a ≡ front ++ rest = sym (append_assoc (take at old) a rest) in
    let l : length front ≡ end = omega (arith, length-append (take at old) a, length-take-le at old (omega arith)) in
    let t : take end (front ++ rest) ≡ front = take_at front rest end l in
    let k : at + length a + length b ≡ at + length (a ++ b) = omega (arith, length-append a b) in
    let d : drop (end + length b) (front ++ rest) ≡ drop (at + length (a ++ b)) old =
    sym (drop-drop (length b) end (front ++ rest)) ∙ ap (λ (r : List ℕ). drop (length b) r) (drop_at front rest end l)
    ∙ drop-drop (length b) (at + length a) old
    ∙ ap (λ (m : ℕ). drop m old) k in
    rw (q, t, d)
    (append_assoc (take at old) a (b ++ drop (at + length (a ++ b)) old)
    ∙ ap (λ (r : List ℕ). take at old ++ r) (sym (append_assoc a b (drop (at + length (a ++ b)) old))))
