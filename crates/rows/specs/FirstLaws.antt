-- The parts of a record's first number, and the records that may be shown.
--     kind_back, detail_back, depth_back    what was put into the first number is read back, whatever stands above the depth
--     above_back, nothing_above             and so is that
--     fits_packs                            a record that may be shown can be put
--     fits_first                            and may be shown where nothing stands above its depth
--     below_fit, below_unfit                what is shown, by the test
--     upper_over, upper_low                 the depth and what stands above it, tested as one number
-- Assumes nothing.
use Rattle.std.specs.Prelude.{◌≡◌, true, false, ◌&&◌, ℕ, ◌+◌, ◌*◌, ◌/◌, ◌≤◌, ◌<◌, eqb, leb, Some, None}
use Rattle.std.proofs.Math.Bool.{and-eq-true_iff}
use Rattle.std.proofs.Common.{arith}
use borrow.Author.Tests.{leb-true, eq-eqb, ne_eqb, le-leb, lt-leb}
use Rattle.base.specs.PickLaws.{split_eq}
use Rattle.base.specs.CasesLaws.{and_no}
use Rattle.token.specs.Kind.{kind_most}
use Rattle.token.specs.Detail.{detail_allowed, fits}
use Rattle.token.specs.DetailLaws.{allowed_most}
use Rattle.rows.specs.First.{depth_unit, above_unit, first_of, Packs, kind_in, detail_in, depth_in, above_in, depth_most, row_fits, fits_below, shown_below}
use Rattle.rows.specs.declared.Row.{Row}

-- a first number with something above the depth
module _ (r : Row) (p : Packs r) (first above : ℕ) (e : first ≡ first_of r + above_unit * above) where
  pub kind_back : kind_in first ≡ r.kind
  kind_back = omega (arith, p.kind_fits)

  pub detail_back : detail_in first ≡ r.detail
  detail_back = omega (arith, p.kind_fits, p.detail_fits)

  pub depth_back : depth_in first ≡ r.depth
  depth_back = omega (arith, p.kind_fits, p.detail_fits, p.depth_fits)

  pub above_back : above_in first ≡ above
  above_back = omega (arith, p.kind_fits, p.detail_fits, p.depth_fits)

-- and one with nothing
pub nothing_above : (r : Row) → first_of r ≡ first_of r + above_unit * 0
nothing_above r = omega arith

pub fits_packs : (r : Row) → row_fits r ≡ true → Packs r
unfolding row_fits
fits_packs r e =
    let both = (and-eq-true_iff (leb r.depth depth_most) (fits r.kind r.detail)).0 e in
    let tests = (and-eq-true_iff (leb r.kind kind_most) (detail_allowed r.kind r.detail)).0 both.1 in
    record {
      kind_fits = omega (arith, leb-true r.kind kind_most tests.0);
      detail_fits = omega (arith, allowed_most r.kind r.detail tests.1);
      depth_fits = omega (arith, leb-true r.depth depth_most both.0);
    }

pub fits_first : (r : Row) (above : ℕ) → above ≡ 0 → row_fits r ≡ true → fits_below above r ≡ true
unfolding fits_below
fits_first r above e f = rw (e, f)

pub below_fit : (above : ℕ) (r : Row) → fits_below above r ≡ true → shown_below above r ≡ Some r
below_fit above r e = rw e

pub below_unfit : (above : ℕ) (r : Row) → fits_below above r ≡ false → shown_below above r ≡ None
below_unfit above r e = rw e

-- ---- the depth and what stands above it, as one number

module _ (first : ℕ) (r : Row) (e : r.depth ≡ depth_in first) where
  pub upper_over : depth_most < first / depth_unit → fits_below (above_in first) r ≡ false
  unfolding fits_below row_fits
  upper_over h =
      split_eq (above_in first) 0
      (λ z. rw (eq-eqb (above_in first) 0 z, lt-leb r.depth depth_most (omega arith)))
      (λ n. and_no (eqb (above_in first) 0) (leb r.depth depth_most && fits r.kind r.detail) (ne_eqb (above_in first) 0 n))

  pub upper_low : first / depth_unit ≤ depth_most → fits_below (above_in first) r ≡ fits r.kind r.detail
  unfolding fits_below row_fits
  upper_low h = rw (eq-eqb (above_in first) 0 (omega arith), le-leb r.depth depth_most (omega arith))
