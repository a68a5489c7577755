-- `cluster::first_cluster` meets its contract: a refusal of `check_input` is the answer, and else the cluster's end is its length.
-- Assumes nothing.
use Rattle.std.proofs.Common.{rules}
use mathlib.Core.Path.{refl, sym, ◌∙◌}
use Rattle.fitness.specs.FitLaws.{fit_of}
use Rattle.input.specs.InputLaws.{fine_of}
use Rattle.cluster.specs.CallLaws.{refused, unrefused}
use Rattle.cluster.proofs.first_cluster.Goals as goal

pub cluster_end-requires : goal.cluster_end-requires
cluster_end-requires c =
    let g = fine_of _ _ _ _ (sym c.check_input.ensures ∙ c.in_ok-check_input.was) in
    (g.well, (fit_of _ g.fit).rises)

pub returns-in_err-check_input : goal.returns-in_err-check_input
returns-in_err-check_input c = rw (refused _ _ _ (sym c.check_input.ensures ∙ c.in_err-check_input.was)) (search rules)

pub returns : goal.returns
returns c =
    let g = fine_of _ _ _ _ (sym c.check_input.ensures ∙ c.in_ok-check_input.was) in
    let a = c.args in
    rw (unrefused a.source.now a.table.now a.edition g, c.cluster_end.ensures) refl
