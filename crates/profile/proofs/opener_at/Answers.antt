-- `profile::opener_at` meets its contract: what stands at the index is what was matched. Assumes nothing.
use mathlib.Core.Path.{sym, ap, ◌∙◌}
use Rattle.forbidden.specs.Pass.{opener_at}
use Rattle.profile.proofs.opener_at.Goals as goal

pub returns-in-Some : goal.returns-in-Some
returns-in-Some c = c.opener_after.ensures ∙ sym (ap (opener_at c.args.opener) c.in-Some.is)
