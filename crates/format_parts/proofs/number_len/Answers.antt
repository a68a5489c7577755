-- `format_parts::number_len` meets its contract: the digits of a number are its part. Assumes nothing.
use Rattle.std.specs.Prelude.{ℕ, Option}
use native.Mathlib.Omega.{arith}
use mathlib.Core.Path.{sym, ap, ◌∙◌}
use lib.ListN.{length}
use Rattle.decimal.specs.DecimalLaws.{few_digits}
use Rattle.wanted.specs.Candidate.{width_part}
use Rattle.format_parts.proofs.number_len.Goals as goal

pub returns-in-Some : goal.returns-in-Some
returns-in-Some c = (
  c.digit_count.ensures ∙ ap (λ (g : Option ℕ). length (width_part g)) (sym c.in-Some.is),
  omega (arith, c.digit_count.ensures, few_digits c.in-Some.n),
)
