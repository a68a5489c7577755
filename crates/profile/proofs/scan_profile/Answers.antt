-- `profile::scan_profile` meets its contract: a scan that is not refused is judged by the pass over its list, and another is the answer.
-- Assumes nothing.
use Rattle.std.proofs.Common.{rules}
use mathlib.Core.Path.{ap, ◌∙◌}
use Rattle.std.specs.Prelude.{Ok}
use Rattle.reading.specs.declared.Scan.{Scan}
use Rattle.profile.proofs.ProfileLaws.{end_room, stuck_room, profiles_end, profiles_stuck, profiles_by}
use Rattle.profile.proofs.scan_profile.Goals as goal

-- what the scan ensures, of the answer that was matched
pub judge-requires : goal.judge-requires
judge-requires c = end_room _ _ _ _ _ c.scan.ensures (c.in_ok-scan.was ∙ ap (λ (s : Scan). Ok s) c.in-End.is)

pub judge-requires-in-Stuck : goal.judge-requires-in-Stuck
judge-requires-in-Stuck c = stuck_room _ _ _ _ _ c.scan.ensures (c.in_ok-scan.was ∙ ap (λ (s : Scan). Ok s) c.in-Stuck.is)

pub returns-in-End : goal.returns-in-End
returns-in-End c = profiles_end _ _ _ _ _ c.scan.ensures (c.in_ok-scan.was ∙ ap (λ (s : Scan). Ok s) c.in-End.is) c.judge.ensures

pub returns-in-Stuck : goal.returns-in-Stuck
returns-in-Stuck c = profiles_stuck _ _ _ _ _ c.scan.ensures (c.in_ok-scan.was ∙ ap (λ (s : Scan). Ok s) c.in-Stuck.is) c.judge-in-Stuck.ensures

pub returns-in_err-scan : goal.returns-in_err-scan
returns-in_err-scan c = profiles_by _ _ _ _ _ c.scan.ensures c.in_err-scan.was (search rules)
