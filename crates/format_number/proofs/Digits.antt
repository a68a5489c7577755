-- What the loop of `digits_from` keeps.
--     Digits                          so many digits have been taken, and the answer from here is the answer from the start
--     digits_start, digits_more       it holds before the first turn, and after one more digit
--     digits_stop, digits_large       what it gives where no digit follows, and where the number is too large
-- Assumes nothing.
use Rattle.std.specs.Prelude.{Err}
use Prim.Native.Nat.{ℕ, ◌+◌, ◌≤◌, ◌<◌}
use native.Mathlib.Omega.{arith}
use native.Mathlib.Nat.{add-zero}
use mathlib.Core.Path.{◌≡◌, sym, ap, ◌∙◌}
use mathlib.Core.Bool.{true, false}
use mathlib.Core.List.{List}
use lib.ListN.{length, drop}
use Rattle.utf8.specs.Chars.{chars}
use Rattle.format_options.specs.Letters.{is_digit}
use Rattle.format_options.specs.LettersLaws.{digit_is}
use Rattle.format_options.specs.declared.FormatError.TheVariants.{TooLarge}
use Rattle.format_number.specs.Number.{index_max, peeked, value, digits_from}
use Rattle.format_number.specs.PeekLaws.{AsciiHere, ascii_here}
use Rattle.format_number.specs.NumberLaws.{with, step_more, step_large, step_stop}

module _ (s : List ℕ) (at first : ℕ) where
  -- n is the number after k digits
  pub record Digits (n k : ℕ) : Type 0 where
    pub small : n ≤ index_max
    pub within : k ≤ length s
    pub answer : digits_from n k (chars (drop (at + k) s)) ≡ digits_from first 0 (chars (drop at s))

  pub digits_start : first ≤ 9 → Digits first 0
  digits_start h =
      record { small = omega arith; within = omega arith; answer = ap (λ (i : ℕ). digits_from first 0 (chars (drop i s))) (add-zero at) }

  module _ (n k : ℕ) (v : Digits n k) where
    pub digits_stop : is_digit (peeked (chars (drop (at + k) s))) ≡ false → value n k ≡ digits_from first 0 (chars (drop at s))
    digits_stop e = sym (step_stop n k (chars (drop (at + k) s)) e) ∙ v.answer

    module _ (d : ℕ) (p : d ≡ peeked (chars (drop (at + k) s))) (t : is_digit d ≡ true) where
      pub digit_here : AsciiHere s (at + k) d
      digit_here = ascii_here s (at + k) d (sym p) (omega (arith, digit_is d t))

      pub digits_large : index_max < with n d → Err (TooLarge (with n d)) ≡ digits_from first 0 (chars (drop at s))
      digits_large h =
          sym (step_large n k d (chars (drop (at + k + 1) s)) t h) ∙ ap (digits_from n k) (sym digit_here.rest) ∙ v.answer

      pub digits_more : with n d ≤ index_max → Digits (with n d) (k + 1)
      digits_more h =
          let a = digit_here in
          let i : at + (k + 1) ≡ at + k + 1 = omega arith in
          record {
            small = h;
            within = omega (arith, a.inside);
            answer =
                ap (λ (j : ℕ). digits_from (with n d) (k + 1) (chars (drop j s))) i
                ∙ sym (step_more n k d (chars (drop (at + k + 1) s)) t h)
                ∙ ap (digits_from n k) (sym a.rest)
                ∙ v.answer;
          }
