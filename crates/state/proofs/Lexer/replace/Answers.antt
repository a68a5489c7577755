-- `state::Lexer::replace` meets its contract: each return is a case of `replaced`. Assumes nothing.
use mathlib.Core.Path.{refl, sym, ◌∙◌}
use borrow.Author.Tests.{eq-eqb}
use Rattle.base.specs.CasesLaws.{cases, pick_yes}
use Rattle.state.proofs.Lexer.replace.Goals as goal

pub returns-then-self-eq0 : goal.returns-then-self-eq0
returns-then-self-eq0 c = c.push.ensures ∙ sym (pick_yes _ _ _ _ (eq-eqb _ _ c.if-self-eq0.true) refl)

pub returns : goal.returns
returns c = sym (search cases)
