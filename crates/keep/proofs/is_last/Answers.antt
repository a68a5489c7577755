-- `keep::is_last` meets its contract: each return is a case of `closes`. Assumes nothing.
use mathlib.Core.Path.{sym}
use Rattle.base.specs.CasesLaws.{cases}
use Rattle.keep.specs.Keep.{closes}
use Rattle.keep.proofs.is_last.Goals as goal

pub returns-then-row-line : goal.returns-then-row-line
unfolding closes
returns-then-row-line c = sym (search cases)

pub returns-then-first : goal.returns-then-first
unfolding closes
returns-then-first c = sym (search cases)

pub returns-then-row-ne0 : goal.returns-then-row-ne0
unfolding closes
returns-then-row-ne0 c = sym (search cases)

pub returns-then-row : goal.returns-then-row
unfolding closes
returns-then-row c = sym (search cases)

pub returns : goal.returns
unfolding closes
returns c = sym (search cases)
