-- `cluster_count::begins` meets its contract: each return is a case of its `pick`. Assumes nothing.
use mathlib.Core.Path.{sym}
use Rattle.base.specs.CasesLaws.{cases}
use Rattle.cluster_count.proofs.begins.Goals as goal

pub returns-then-is_joined : goal.returns-then-is_joined
returns-then-is_joined c = sym (search cases)

pub returns : goal.returns
returns c = sym (search cases)
