-- `pad_input::check_format` meets its contract: each return is a case of its definition. Assumes nothing.
use mathlib.Core.Path.{sym}
use Rattle.base.specs.CasesLaws.{cases}
use Rattle.pad_input.specs.Check.{format_check}
use Rattle.pad_input.proofs.check_format.Goals as goal

pub returns-then-is_format : goal.returns-then-is_format
unfolding format_check
returns-then-is_format c = sym (search cases)

pub returns : goal.returns
unfolding format_check
returns c = sym (search cases)
