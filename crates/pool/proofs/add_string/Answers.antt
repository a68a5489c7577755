-- `pool::add_string` meets its contract: the code takes the tests of `added` in its order, and a refusal leaves the rows. Assumes nothing.
use Rattle.std.specs.Prelude.{Err}
use Rattle.std.proofs.Common.{rules}
use mathlib.Core.Path.{◌≡◌, refl, sym, ◌∙◌}
use Rattle.pool.specs.Pool.{of_utf8}
use Rattle.pool.specs.PoolLaws.{refused, unfit, settled, adds_fine, old_bytes, old_entries}
use Rattle.pool.proofs.add_string.Goals as goal

pub returns-then-not-is_pool_fit : goal.returns-then-not-is_pool_fit
returns-then-not-is_pool_fit c =
    let fine = sym c.check_utf8.ensures ∙ c.in_ok-check_utf8.was in
    let no = sym c.is_pool_fit.ensures ∙ c.if-not-is_pool_fit.true in
    settled _ _ _ _ (sym (unfit _ _ _ _ fine no)) (sym (old_bytes _ _ _ refl _)) (sym (old_entries _ _ _ refl _))

pub add_to_fit-requires : goal.add_to_fit-requires
add_to_fit-requires c = sym c.is_pool_fit.ensures ∙ c.if-not-is_pool_fit.false

pub returns-in_err-check_utf8 : goal.returns-in_err-check_utf8
returns-in_err-check_utf8 c =
    let r : c.from_residual.result ≡ Err (of_utf8 _) = search rules in
    let e = refused _ _ _ _ _ (sym c.check_utf8.ensures ∙ c.in_err-check_utf8.was) in
    rw r (settled _ _ _ _ (sym e) (sym (old_bytes _ _ _ refl _)) (sym (old_entries _ _ _ refl _)))

pub returns : goal.returns
returns c =
    let fine = sym c.check_utf8.ensures ∙ c.in_ok-check_utf8.was in
    let yes = sym c.is_pool_fit.ensures ∙ c.if-not-is_pool_fit.false in
    adds_fine _ _ _ _ fine yes c.add_to_fit.ensures
