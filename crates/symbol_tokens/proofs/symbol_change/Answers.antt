-- `symbol_tokens::symbol_change` meets its contract: each return is a case of `symbol_change`.
-- Assumes nothing.
use mathlib.Core.Path.{sym}
use mathlib.Core.Logic.{⊎_elim}
use Rattle.base.specs.CasesLaws.{cases}
use Rattle.symbol_tokens.specs.ConsumeSymbol.{symbol_change}
use Rattle.symbol_tokens.proofs.symbol_change.Goals as goal

pub returns-in-20 : goal.returns-in-20
unfolding symbol_change
returns-in-20 c = rw (c.if-mode.true, c.in-20.is)

pub returns-in-11 : goal.returns-in-11
unfolding symbol_change
returns-in-11 c = rw (c.if-mode.true, c.in-11.is)

pub returns-in-21 : goal.returns-in-21
unfolding symbol_change
returns-in-21 c = rw (c.if-mode.true, c.in-21.is)

pub returns-in_default : goal.returns-in_default
unfolding symbol_change
returns-in_default c = let r = c.in_default.in_default-own.rest in sym (search cases)

pub returns-then-kind-eq-CURLY_CLOSE : goal.returns-then-kind-eq-CURLY_CLOSE
unfolding symbol_change
returns-then-kind-eq-CURLY_CLOSE c = sym (search cases)

pub returns : goal.returns
unfolding symbol_change
returns c = ⊎_elim (λ w. sym (search cases)) (λ w. sym (search cases)) c.else-mode-2.either
