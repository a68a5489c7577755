-- The small table is fit, and what every fit table says of code points 0 to 127.
--     small_fit, small_is_fit      the small table passes the check
--     ascii_start, ascii_continue  the letters begin a name; with the digits and "_" they go on with it
--     ascii_width, ascii_class_lem     1 from " " to "~", else 0; Other there, else Control, but for CR and LF
--     ascii_not_pict, ascii_no_incb
-- Each is a computed test over the small table, by `ascii_rule`. A caller's own rule of these code points goes the same way.
-- Assumes nothing.
use Rattle.std.specs.Prelude.{ℕ, ◌<◌, ◌≡◌, List, Bool, true, false, not, Ok}
use Rattle.std.proofs.Math.Path.{refl}
use Rattle.std.proofs.Math.Dec.{eqb}
use borrow.Author.Tests.{eqb-true}
use Rattle.base.specs.Pick.{pick}
use Rattle.base.specs.Range.{inside}
use Rattle.property.specs.Parts.{xid_start, xid_continue, width_of, class_of, is_pict, incb_of, incb_none}
use Rattle.property.specs.Table.{last_from, properties_at}
use Rattle.fitness.specs.Small.{small_table}
use Rattle.fitness.specs.Ascii.{is_letter, is_name_part, is_printable, ascii_class}
use Rattle.fitness.specs.First.{first_bad}
use Rattle.fitness.specs.Fit.{start_ok, properties_ok, run_ok, table_check, FitTable}
use Rattle.fitness.specs.FitLaws.{fit_of, ascii_rule}

pub small_fit : table_check small_table ≡ Ok tt
unfolding table_check first_bad run_ok start_ok properties_ok last_from small_table
small_fit = refl

pub small_is_fit : FitTable small_table
small_is_fit = fit_of small_table small_fit

-- ---- code points 0 to 127

-- two truth values are the same
abbrev same : Bool → Bool → Bool
same true b = b
same false b = not b

same_is : (a b : Bool) → same a b ≡ true → a ≡ b
same_is true true e = refl
same_is true false e = cc
same_is false true e = cc
same_is false false e = refl

module _ (table : List ℕ) (fit : FitTable table) (c : ℕ) (h : c < 128) where
  pub ascii_start : xid_start (properties_at table c) ≡ is_letter c
  unfolding inside first_bad last_from small_table
  ascii_start = same_is _ _ (ascii_rule table fit c (λ k p. same (xid_start p) (is_letter k)) refl h)

  pub ascii_continue : xid_continue (properties_at table c) ≡ is_name_part c
  unfolding inside first_bad last_from small_table
  ascii_continue = same_is _ _ (ascii_rule table fit c (λ k p. same (xid_continue p) (is_name_part k)) refl h)

  pub ascii_width : width_of (properties_at table c) ≡ pick (is_printable c) 1 0
  unfolding inside first_bad last_from small_table
  ascii_width = eqb-true _ _ (ascii_rule table fit c (λ k p. eqb (width_of p) (pick (is_printable k) 1 0)) refl h)

  pub ascii_class_lem : class_of (properties_at table c) ≡ ascii_class c
  unfolding inside first_bad last_from small_table
  ascii_class_lem = eqb-true _ _ (ascii_rule table fit c (λ k p. eqb (class_of p) (ascii_class k)) refl h)

  pub ascii_not_pict : is_pict (properties_at table c) ≡ false
  unfolding first_bad last_from small_table
  ascii_not_pict = same_is _ _ (ascii_rule table fit c (λ k p. same (is_pict p) false) refl h)

  pub ascii_no_incb : incb_of (properties_at table c) ≡ incb_none
  unfolding first_bad last_from small_table
  ascii_no_incb = eqb-true _ _ (ascii_rule table fit c (λ k p. eqb (incb_of p) incb_none) refl h)
