-- `profile::forbidden_at` meets its contract: what stands at the index is what was matched. Assumes nothing.
use mathlib.Core.Path.{sym, ap, ◌∙◌}
use Rattle.forbidden.specs.Pass.{forbidden_at}
use Rattle.profile.proofs.forbidden_at.Goals as goal

pub returns-in-Some : goal.returns-in-Some
returns-in-Some c = c.is_forbidden.ensures ∙ sym (ap (forbidden_at c.args.opener) c.in-Some.is)
