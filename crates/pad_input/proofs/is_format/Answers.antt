-- `pad_input::is_format` meets its contract: each return is a case of its definition. Assumes nothing.
use mathlib.Core.Path.{sym}
use Rattle.base.specs.CasesLaws.{cases}
use Rattle.pad_input.specs.Check.{is_format}
use Rattle.pad_input.proofs.is_format.Goals as goal

pub returns-then-alignment-le-RIGHT : goal.returns-then-alignment-le-RIGHT
unfolding is_format
returns-then-alignment-le-RIGHT c = sym (search cases)

pub returns-else-alignment-le-RIGHT : goal.returns-else-alignment-le-RIGHT
unfolding is_format
returns-else-alignment-le-RIGHT c = sym (search cases)
