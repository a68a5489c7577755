-- `replay_step::steps_agree` meets its contract: each step keeps the invariant of the state that the loop goes by. Assumes nothing.
use Rattle.std.proofs.Common.{◌≡◌, ℕ, List, sym, subst}
use Rattle.property.specs.Table.{properties_at}
use Rattle.fitness.specs.Fit.{FitTable}
use Rattle.state.specs.declared.State.{State}
use Rattle.lexer.specs.Step.{step}
use Rattle.lexer.specs.declared.Step.{Step}
use Rattle.stepping.specs.Invariant.{Ok}
use Rattle.stepping.specs.InvariantLaws.{step_ok}
use Rattle.replay_step.proofs.steps_agree.Goals as goal

-- a step keeps the invariant
kept : {s table : List ℕ} (edition : ℕ) {st : State} {r : Step} → FitTable table → Ok s st → r ≡ step (properties_at table) edition s st → Ok s r.state
kept {s} {table} edition {st} {r} fit ok e = subst (λ (x : Step). Ok s x.state) (sym e) (step_ok s table edition fit st ok)

pub loop-k-preserved : goal.loop-k-preserved
loop-k-preserved c = kept 2 c.requires.0 c.loop-k.invariant c.read_token-step.ensures
