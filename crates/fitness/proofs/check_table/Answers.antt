-- `fitness::check_table` meets its contract: each return is a case of `table_check`. Assumes nothing.
use mathlib.Core.Path.{sym}
use Rattle.base.specs.CasesLaws.{cases}
use Rattle.fitness.specs.Fit.{table_check}
use Rattle.fitness.specs.FitLaws.{runs_done, runs_rise}
use Rattle.fitness.proofs.check_table.Goals as goal

pub returns-then-count-lt1 : goal.returns-then-count-lt1
unfolding table_check
returns-then-count-lt1 c = sym (search cases)

pub returns-then-count-gt-MOST : goal.returns-then-count-gt-MOST
unfolding table_check
returns-then-count-gt-MOST c = sym (search cases)

pub returns-then-run-count : goal.returns-then-run-count
unfolding table_check
returns-then-run-count c = rw (← c.first_bad_run-run.ensures) (sym (search cases))

pub first_bad_ascii-requires : goal.first_bad_ascii-requires
first_bad_ascii-requires c =
    let runs = runs_done _ (rw c.first_bad_run-run.ensures at c.if-run-count.false) in
    record { rises = runs_rise _ runs c.if-count-lt1.false; small_value = c.small_table-small.ensures }

pub returns-then-first_bad_ascii-lt128 : goal.returns-then-first_bad_ascii-lt128
unfolding table_check
returns-then-first_bad_ascii-lt128 c =
    rw (← c.first_bad_run-run.ensures, ← c.first_bad_ascii.ensures) (sym (search cases depth 8))

pub returns : goal.returns
unfolding table_check
returns c =
    rw (← c.first_bad_run-run.ensures, ← c.first_bad_ascii.ensures) (sym (search cases depth 8))
