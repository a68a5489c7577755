-- `state::Lexer::settle` meets its contract: each return is a case of `settled`. Assumes nothing.
use mathlib.Core.Path.{sym}
use Rattle.base.specs.CasesLaws.{cases}
use Rattle.state.proofs.Lexer.settle.Goals as goal

pub returns-then-self-eq-NEW_LINE : goal.returns-then-self-eq-NEW_LINE
returns-then-self-eq-NEW_LINE c = sym (search cases)

pub returns : goal.returns
returns c = sym (search cases)
