-- `fast_options::skip_ascii` meets its contract: the test that it makes. Assumes nothing.
use native.Mathlib.Omega.{arith}
use mathlib.Core.Path.{◌≡◌, sym, ◌∙◌}
use mathlib.Core.Bool.{true, false}
use Rattle.fast_options.specs.FormatOptions.{is_alignment}
use Rattle.fast_options.proofs.skip_ascii.Goals as goal

pub returns-then-is_alignment : goal.returns-then-is_alignment
returns-then-is_alignment c =
    let e : is_alignment c.args.after_fill ≡ true = sym c.is_alignment.ensures ∙ c.if-is_alignment.true in
    rw e

pub returns : goal.returns
returns c =
    let e : is_alignment c.args.after_fill ≡ false = sym c.is_alignment.ensures ∙ c.if-is_alignment.false in
    rw e (omega arith)
