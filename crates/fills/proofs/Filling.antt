-- What the loop of `put_fill` keeps.
--     Filled               the fill stands n times in the row from index `at` on, and all else is as it was
--     fill_none, fill_one    it holds at the start, and after one more
-- And what `put_padded` has after each of its calls.
--     room_lead, room_text, room_trail    the room that the next call asks for
--     all_put                             the whole
-- Assumes nothing.
use Prim.Native.Nat.{ℕ, suc, ◌+◌, ◌-◌, ◌*◌, ◌<◌, ◌≤◌}
use native.Mathlib.Omega.{arith}
use native.Mathlib.Nat.{zero-mul, suc-mul, add-mul, mul-le-mul_right}
use native.Mathlib.Numerals.{add-one}
use mathlib.Core.Path.{◌≡◌, refl, ap, ◌∙◌}
use mathlib.Core.List.{List, ◌++◌, append_assoc}
use lib.ListN.{length, length-append}
use Rattle.pool.specs.Pool.{written}
use Rattle.pool.specs.WrittenLaws.{write_none, length_written, write_behind}
use Rattle.fills.specs.Pad.{leading, repeated, filled}
use Rattle.fills.specs.PadLaws.{all_fills, length_repeated, one_behind}

-- ---- the loop

pub record Filled (old : List ℕ) (at : ℕ) (fill : List ℕ) (times : ℕ) (row : List ℕ) (end n : ℕ) : Type 0 where
  pub within : n ≤ times
  pub long : length row ≡ length old
  pub behind : end ≡ at + n * length fill
  pub holds : row ≡ written old at (repeated n fill)

module _ (old : List ℕ) (at : ℕ) (fill : List ℕ) (times : ℕ) where
  pub fill_none : Filled old at fill times old at 0
  unfolding repeated
  fill_none =
      record { within = omega arith; long = refl; behind = omega (arith, zero-mul (length fill)); holds = write_none old at }

  module _ (row : List ℕ) (end n : ℕ) (v : Filled old at fill times row end n) (room : at + times * length fill ≤ length old) where
    -- there is room for one more
    pub fill_room : n < times → end + length fill ≤ length row
    fill_room h =
        let m : suc n * length fill ≤ times * length fill = mul-le-mul_right (length fill) h in
        omega (arith, v.long, v.behind, suc-mul n (length fill))

    pub fill_one : n < times → (next : List ℕ) → next ≡ written row end fill → Filled old at fill times next (end + length fill) (n + 1)
    fill_one h next e =
        let r = fill_room h in
        let o : end + length fill ≤ length old = omega (arith, v.long) in
        let b : end ≡ at + length (repeated n fill) = omega (arith, v.behind, length_repeated n fill) in
        record {
          within = omega arith;
          long = ap length e ∙ length_written row end fill r ∙ v.long;
          behind = rw (add-one n) (omega (arith, v.behind, suc-mul n (length fill)));
          holds =
              e
              ∙ ap (λ (l : List ℕ). written l end fill) v.holds
              ∙ write_behind old at end (repeated n fill) fill b o
              ∙ rw (add-one n) (ap (written old at) (one_behind n fill));
        }

-- ---- the fills before, the text, the fills behind

pub lead_within : (alignment n lead : ℕ) → lead ≡ leading alignment n → lead ≤ n
lead_within alignment n lead e = omega (arith, e, all_fills alignment n)

module _ (old text fill : List ℕ) (alignment n : ℕ) (room : length text + n * length fill ≤ length old)
    (lead : ℕ) (e : lead ≡ leading alignment n) where
  -- all fills, in bytes
  parts : lead * length fill + (n - lead) * length fill ≡ n * length fill
  parts =
      let h = lead_within alignment n lead e in
      let k : lead + (n - lead) ≡ n = omega arith in
      let m : (lead + (n - lead)) * length fill ≡ n * length fill = ap (λ (j : ℕ). j * length fill) k in
      omega (arith, m, add-mul lead (n - lead) (length fill))

  pub room_lead : 0 + lead * length fill ≤ length old
  room_lead = omega (arith, parts, room)

  module _ (start : ℕ) (row : List ℕ) (f : (start ≡ 0 + lead * length fill) × (row ≡ written old 0 (repeated lead fill))) where
    begun : start ≡ 0 + length (repeated lead fill)
    begun = omega (arith, f.0, length_repeated lead fill)

    row_long : length row ≡ length old
    row_long =
        ap length f.1
        ∙ length_written old 0 (repeated lead fill) (omega (arith, length_repeated lead fill, parts, room))

    pub room_old : start + length text ≤ length old
    room_old = omega (arith, f.0, parts, room)

    pub room_text : start + length text ≤ length row
    room_text = omega (arith, row_long, room_old)

    module _ (next : List ℕ) (g : next ≡ written row start text) where
      two : next ≡ written old 0 (repeated lead fill ++ text)
      two =
          g
          ∙ ap (λ (l : List ℕ). written l start text) f.1
          ∙ write_behind old 0 start (repeated lead fill) text begun room_old

      pub room_trail : start + length text + (n - lead) * length fill ≤ length next
      room_trail = omega (arith, ap length g, length_written row start text room_text, row_long, f.0, parts, room)

      pub all_put : (end : ℕ) (last : List ℕ)
          → (end ≡ start + length text + (n - lead) * length fill)
          × (last ≡ written next (start + length text) (repeated (n - lead) fill))
          → (end ≡ length text + n * length fill) × (last ≡ written old 0 (filled alignment n fill text))
      all_put end last h =
          let a = repeated lead fill in
          let z = repeated (n - lead) fill in
          let b : start + length text ≡ 0 + length (a ++ text) = omega (arith, begun, length-append a text) in
          let o : start + length text + length z ≤ length old = omega (arith, length_repeated (n - lead) fill, f.0, parts, room) in
          let w : last ≡ written old 0 ((a ++ text) ++ z) =
          h.1
          ∙ ap (λ (l : List ℕ). written l (start + length text) z) two
          ∙ write_behind old 0 (start + length text) (a ++ text) z b o in
          let q : (a ++ text) ++ z ≡ filled alignment n fill text =
          append_assoc a text z ∙ ap (λ (j : ℕ). repeated j fill ++ (text ++ repeated (n - j) fill)) e in
          (omega (arith, h.0, f.0, parts), w ∙ ap (written old 0) q)
