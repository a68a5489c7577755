-- `fast::scan_fast` meets its contract: a refusal of `check_input` is the answer, and where there is none it reads on from the start.
-- Assumes nothing.
use Rattle.std.proofs.Common.{rules}
use Rattle.std.specs.Prelude.{Err}
use mathlib.Core.Path.{◌≡◌, sym, subst, ◌∙◌}
use native.Mathlib.Omega.{arith}
use Rattle.fitness.specs.FitLaws.{fit_of}
use Rattle.input.specs.InputLaws.{fine_of}
use Rattle.stepping.specs.Invariant.{Ok}
use Rattle.stepping.specs.InvariantLaws.{start_ok_lem}
use Rattle.reading.specs.declared.ScanError.TheVariants.{Refused}
use Rattle.reading.specs.ScanLaws.{scans_refused, scans_fine}
use Rattle.fast.proofs.scan_fast.Goals as goal

pub read_on-requires : goal.read_on-requires
read_on-requires c =
    let g = fine_of _ _ _ _ (sym c.check_input.ensures ∙ c.in_ok-check_input.was) in record {
      ok = (
        subst (Ok _) (sym c.new.ensures) (start_ok_lem _ g.short g.well),
        fit_of _ g.fit,
        omega arith,
      );
      class_table = c.classes-classes.ensures;
    }

pub returns-in_err-check_input : goal.returns-in_err-check_input
returns-in_err-check_input c =
    let e : c.from_residual.result ≡ Err (Refused _) = search rules in
    rw e (scans_refused (sym c.check_input.ensures ∙ c.in_err-check_input.was))

pub returns : goal.returns
returns c =
    scans_fine (sym c.check_input.ensures ∙ c.in_ok-check_input.was) c.new.ensures c.read_on.ensures
