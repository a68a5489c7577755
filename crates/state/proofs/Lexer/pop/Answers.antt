-- `state::Lexer::pop` meets its contract: each return is a case of `popped`. Assumes nothing.
use mathlib.Core.Path.{sym}
use Rattle.base.specs.CasesLaws.{cases}
use Rattle.state.proofs.Lexer.pop.Goals as goal

pub returns-then-self-lt2 : goal.returns-then-self-lt2
returns-then-self-lt2 c = sym (search cases)

pub returns : goal.returns
returns c = sym (search cases)
