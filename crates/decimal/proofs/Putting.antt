-- What the loop of `put_digits` keeps: the digits behind those of the number that is left stand in the row.
--     Putting              so it is at each turn
--     put_start, put_room, put_more, put_last    it holds at the start, leaves room for a digit, holds after one more, and what it gives at the last
-- Assumes nothing.
use Prim.Native.Nat.{ℕ, suc, ◌+◌, ◌-◌, ◌/◌, ◌%◌, ◌<◌, ◌≤◌}
use native.Mathlib.Omega.{arith}
use mathlib.Core.Path.{◌≡◌, refl, sym, ap, ◌∙◌}
use mathlib.Core.List.{List, [], ◌∷◌, ◌++◌, append_assoc, append-nil}
use lib.ListN.{length, set, take, drop, length-set, length-append}
use lib.Seq.{set_split, take-append-le, take-take, drop_at, length-take-le}
use Rattle.format_options.specs.Letters.{zero_digit}
use Rattle.pool.specs.Pool.{written}
use Rattle.pool.specs.WrittenLaws.{write_none}
use Rattle.decimal.specs.Decimal.{digits}
use Rattle.decimal.specs.DecimalLaws.{digits_small, digits_more, one_more_lem, some_digits}

-- a byte written before what is written
before : (old : List ℕ) (i d : ℕ) (ds : List ℕ) → suc i + length ds ≤ length old
    → set (written old (suc i) ds) i d ≡ written old i (d ∷ ds)
before old i d ds h =
    let rest = ds ++ drop (suc i + length ds) old in
    let l : length (take (suc i) old) ≡ suc i = length-take-le (suc i) old (omega arith) in
    let w : i < length (take (suc i) old ++ rest) = omega (arith, length-append (take (suc i) old) rest) in
    let k : suc i + length ds ≡ i + suc (length ds) = omega arith in
    set_split (take (suc i) old ++ rest) i d w
    ∙ ap (λ (x : List ℕ). x ++ d ∷ drop (suc i) (take (suc i) old ++ rest)) (take-append-le i (take (suc i) old) rest (omega arith) ∙ take-take i (suc i) old (omega arith))
    ∙ ap (λ (x : List ℕ). take i old ++ d ∷ x) (drop_at (take (suc i) old) rest (suc i) l)
    ∙ ap (λ (j : ℕ). take i old ++ (d ∷ ds ++ drop j old)) k

pub record Putting (old : List ℕ) (at n : ℕ) (row : List ℕ) (i rest : ℕ) : Type 0 where
  pub done : List ℕ
  pub whole : digits n ≡ digits rest ++ done
  pub here : i ≡ at + length (digits rest)
  pub long : length row ≡ length old
  pub holds : row ≡ written old i done

module _ (old : List ℕ) (at n : ℕ) (room : at + length (digits n) ≤ length old) where
  pub put_start : (end : ℕ) → end ≡ at + length (digits n) → Putting old at n old end n
  put_start end e = record { done = []; whole = sym (append-nil (digits n)); here = e; long = refl; holds = write_none old end }

  module _ (row : List ℕ) (i rest : ℕ) (v : Putting old at n row i rest) where
    pub put_room : (0 < i) × (i ≤ length row)
    put_room = (
      omega (arith, v.here, some_digits rest),
      omega (arith, v.here, v.long, ap length v.whole, length-append (digits rest) v.done),
    )

    -- the digit that is written
    abbrev pub digit : ℕ
    digit = zero_digit + rest % 10

    stored : set row (i - 1) digit ≡ written old (i - 1) (digit ∷ v.done)
    stored =
        let k : suc (i - 1) ≡ i = omega (arith, put_room.0) in
        ap (λ (l : List ℕ). set l (i - 1) digit) (v.holds ∙ ap (λ (j : ℕ). written old j v.done) (sym k))
        ∙ before old (i - 1) digit v.done (omega (arith, k, v.here, ap length v.whole, length-append (digits rest) v.done))

    pub put_more : 10 ≤ rest → Putting old at n (set row (i - 1) digit) (i - 1) (rest / 10)
    put_more h =
        record {
          done = digit ∷ v.done;
          whole = v.whole ∙ ap (λ (l : List ℕ). l ++ v.done) (digits_more rest h) ∙ append_assoc (digits (rest / 10)) (digit ∷ []) v.done;
          here = omega (arith, v.here, one_more_lem rest h);
          long = length-set row (i - 1) digit ∙ v.long;
          holds = stored;
        }

    pub put_last : rest < 10 → set row (i - 1) digit ≡ written old at (digits n)
    put_last h =
        let small = digits_small rest h in
        let d : digit ≡ zero_digit + rest = omega arith in
        let whole : digits n ≡ digit ∷ v.done = v.whole ∙ ap (λ (l : List ℕ). l ++ v.done) (small ∙ ap (λ (x : ℕ). x ∷ []) (sym d)) in
        let k : i - 1 ≡ at = omega (arith, v.here, ap length small) in
        stored ∙ ap (λ (j : ℕ). written old j (digit ∷ v.done)) k ∙ ap (written old at) (sym whole)
