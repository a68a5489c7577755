-- Parts written one behind the other.
--     Put                     a part stands in the row from index `at` on, all else is as it was, and `end` is behind it
--     put_one                 a byte stored is a part of one byte
--     first_room .. fifth_room, all_put    five parts: the room that each asks for, and what stands there after the last
-- Assumes nothing.
use Prim.Native.Nat.{ℕ, ◌+◌, ◌<◌, ◌≤◌}
use native.Mathlib.Omega.{arith}
use native.Mathlib.Numerals.{add-one}
use mathlib.Core.Path.{◌≡◌, sym, ap, ◌∙◌}
use mathlib.Core.List.{List, [], ◌∷◌, ◌++◌}
use lib.ListN.{length, set, take, drop, length-append}
use lib.Seq.{set_split}
use Rattle.pool.specs.Pool.{written}
use Rattle.pool.specs.WrittenLaws.{length_written, write_behind}

pub put_one : (old : List ℕ) (at byte : ℕ) → at < length old → set old at byte ≡ written old at (byte ∷ [])
put_one old at byte h = set_split old at byte h ∙ ap (λ (k : ℕ). take at old ++ byte ∷ drop k old) (sym (add-one at))

-- what a function that writes a part ensures
abbrev pub Put : List ℕ → ℕ → List ℕ → List ℕ → ℕ → Type 0
Put old at part row end = (end ≡ at + length part) × (row ≡ written old at part)

less : (at n : ℕ) (p q : List ℕ) → at + length (p ++ q) ≤ n → at + length p ≤ n
less at n p q h = omega (arith, length-append p q)

module _ (old : List ℕ) (at : ℕ) (p q : List ℕ) (room : at + length (p ++ q) ≤ length old) (row : List ℕ) (end : ℕ) (v : Put old at p row end) where
  put_room : end + length q ≤ length row
  put_room = omega (arith, v.0, length-append p q, ap length v.1, length_written old at p (less at (length old) p q room))

  put_next : (next : List ℕ) (behind : ℕ) → Put row end q next behind → Put old at (p ++ q) next behind
  put_next next behind w = (
    omega (arith, v.0, w.0, length-append p q),
    w.1 ∙ ap (λ (l : List ℕ). written l end q) v.1 ∙ write_behind old at end p q v.0 (omega (arith, v.0, length-append p q)),
  )

-- five parts, each with the room that the next one asks for
module _ (old : List ℕ) (at : ℕ) (a b c d e : List ℕ) (room : at + length (a ++ b ++ c ++ d ++ e) ≤ length old) where
  four : at + length (a ++ b ++ c ++ d) ≤ length old
  four = less at (length old) (a ++ b ++ c ++ d) e room

  three : at + length (a ++ b ++ c) ≤ length old
  three = less at (length old) (a ++ b ++ c) d four

  two : at + length (a ++ b) ≤ length old
  two = less at (length old) (a ++ b) c three

  pub first_room : at + length a ≤ length old
  first_room = less at (length old) a b two

  module _ (i : ℕ) (row : List ℕ) (u : Put old at a row i) where
    pub second_room : i + length b ≤ length row
    second_room = put_room old at a b two row i u

    module _ (j : ℕ) (row' : List ℕ) (v : Put row i b row' j) where
      ab : Put old at (a ++ b) row' j
      ab = put_next old at a b two row i u row' j v

      pub third_room : j + length c ≤ length row'
      third_room = put_room old at (a ++ b) c three row' j ab

      module _ (k : ℕ) (row'' : List ℕ) (w : Put row' j c row'' k) where
        abc : Put old at (a ++ b ++ c) row'' k
        abc = put_next old at (a ++ b) c three row' j ab row'' k w

        pub fourth_room : k + length d ≤ length row''
        fourth_room = put_room old at (a ++ b ++ c) d four row'' k abc

        module _ (l : ℕ) (row''' : List ℕ) (x : Put row'' k d row''' l) where
          abcd : Put old at (a ++ b ++ c ++ d) row''' l
          abcd = put_next old at (a ++ b ++ c) d four row'' k abc row''' l x

          pub fifth_room : l + length e ≤ length row'''
          fifth_room = put_room old at (a ++ b ++ c ++ d) e room row''' l abcd

          pub all_put : (m : ℕ) (last : List ℕ) → Put row''' l e last m → Put old at (a ++ b ++ c ++ d ++ e) last m
          all_put m last y = put_next old at (a ++ b ++ c ++ d) e room row''' l abcd last m y
