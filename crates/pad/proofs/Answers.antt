-- What `pad_text` ensures, by its two cases, and the fill that `pad` hands it.
--     too_short    the buffer is too short: nothing is written
--     enough       it is long enough, and the padded text stands in it
--     fill_used    the fill that is given, or one space
--     fill_short   it is not too long
-- Assumes nothing.
use Prim.Native.Nat.{ℕ, ◌+◌, ◌*◌, ◌<◌, ◌≤◌}
use native.Mathlib.Omega.{arith}
use mathlib.Core.Path.{◌≡◌, refl, sym, ap, ◌∙◌}
use mathlib.Core.List.{List, []}
use mathlib.Core.Bool.{Bool, true, false}
use denote.Bor.{Bor}
use Rattle.std.specs.Prelude.{Ok, Err, Option, Some, None, is_some, unwrap_or}
use Rattle.std.specs.Option.{option_copied}
use lib.ListN.{length}
use borrow.Author.Tests.{lt-ltb, le-ltb}
use Rattle.utf8.specs.Chars.{chars}
use Rattle.pool.specs.Pool.{written}
use Rattle.cluster_count.specs.Count.{cluster_count}
use Rattle.fills.specs.Pad.{space, fills, filled}
use Rattle.fills.specs.PadLaws.{length_padded}
use Rattle.pad_input.specs.Check.{text_most}
use Rattle.pad.specs.Call.{padded_by, PadsText, fill_of}
use Rattle.pad.specs.declared.PadError.TheVariants.{NoRoom}

module _ (look : ℕ → ℕ) (edition : ℕ) (text : List ℕ) (alignment width : ℕ) (fill buffer : List ℕ) (k n : ℕ)
    (e : k ≡ cluster_count look edition (chars text)) (f : n ≡ fills width k) where
  abbrev p : List ℕ
  p = padded_by look edition text alignment width fill

  same_fills : n ≡ fills width (cluster_count look edition (chars text))
  same_fills = f ∙ ap (fills width) e

  long : length p ≡ length text + n * length fill
  long =
      length_padded alignment width fill text (cluster_count look edition (chars text))
      ∙ ap (λ (j : ℕ). length text + j * length fill) (sym same_fills)

  pub too_short : length buffer < length text + n * length fill
      → PadsText look edition text alignment width fill buffer buffer (Err NoRoom)
  too_short h =
      let t = lt-ltb (length buffer) (length p) (omega (arith, long)) in
      record { answer = rw t refl; contents = refl }

  pub enough : length text + n * length fill ≤ length buffer → (end : ℕ) (row : List ℕ)
      → (end ≡ length text + n * length fill) × (row ≡ written buffer 0 (filled alignment n fill text))
      → PadsText look edition text alignment width fill buffer row (Ok end)
  enough h end row w =
      let t = le-ltb (length buffer) (length p) (omega (arith, long)) in
      record {
        answer = rw t (ap Ok (w.0 ∙ sym long));
        contents = w.1 ∙ ap (λ (j : ℕ). written buffer 0 (filled alignment j fill text)) same_fills;
      }

pub fill_used : (fill : Option (Bor (List ℕ))) (other : Bor (List ℕ)) → other.now ≡ space
    → (unwrap_or fill other).now ≡ fill_of (is_some fill) (unwrap_or (option_copied fill) [])
fill_used (Some b) other e = refl
fill_used None other e = e

pub fill_short : (given : Bool) (fill : List ℕ) → (given ≡ true → length fill ≤ text_most) → length (fill_of given fill) ≤ text_most
fill_short true fill h = h refl
fill_short false fill h = omega arith
