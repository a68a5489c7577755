-- `profile::judge` meets its contract: each return is a case of its `pick`. Assumes nothing.
use Rattle.profile.proofs.ProfileLaws.{judged_out, judged_in}
use Rattle.profile.proofs.judge.Goals as goal

pub returns-then-index-count : goal.returns-then-index-count
returns-then-index-count c = judged_out _ _ c.first_forbidden-index.ensures c.if-index-count.true

pub returns : goal.returns
returns c = judged_in _ _ c.first_forbidden-index.ensures c.if-index-count.false
