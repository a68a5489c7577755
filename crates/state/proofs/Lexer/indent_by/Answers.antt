-- `state::Lexer::indent_by` meets its contract: each return is a case of `indented`. Assumes nothing.
use mathlib.Core.Path.{sym}
use Rattle.base.specs.CasesLaws.{cases}
use Rattle.state.proofs.Lexer.indent_by.Goals as goal

pub returns : goal.returns
returns c = sym (search cases)
