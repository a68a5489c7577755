-- `format_state::Parsing::go_numbered` meets its contract: each return is a case of it. Assumes nothing.
use mathlib.Core.Path.{sym}
use Rattle.base.specs.CasesLaws.{cases}
use Rattle.format_state.proofs.Parsing.go_numbered.Goals as goal

pub returns-then-is_precision : goal.returns-then-is_precision
returns-then-is_precision c = rw (c.go.ensures, c.with_precision.ensures) (sym (search cases))

pub returns : goal.returns
returns c = rw (c.go-2.ensures, c.with_width.ensures) (sym (search cases))
