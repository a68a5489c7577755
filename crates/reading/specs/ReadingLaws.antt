-- The reading satisfies its equation, in which no steps are counted: running out of steps is no answer.
--     same_steps      any number of steps that is large enough gives the same
--     reading_step    the reading from a state is its step, and the reading from the state after it
-- Assumes nothing.
use Prim.Native.Nat.{ℕ, zero, suc, ◌<◌}
use Rattle.std.proofs.Common.{arith, ap}
use Rattle.std.specs.Prelude.{◌≡◌, List}
use Rattle.std.proofs.Math.Path.{refl}
use Rattle.property.specs.Table.{properties_at}
use Rattle.fitness.specs.Fit.{FitTable}
use Rattle.state.specs.declared.State.{State}
use Rattle.lexer.specs.Step.{step}
use Rattle.stepping.specs.Invariant.{Ok, measure}
use Rattle.stepping.specs.InvariantLaws.{step_ok}
use Rattle.stepping.specs.MeasureLaws.{step_falls}
use Rattle.lexer.specs.declared.What.{What}
use Rattle.lexer.specs.declared.What.TheVariants as what
use Rattle.reading.specs.Reading.{Reading, row_of, onto, after_step, read_in, read_from}

module _ (s table : List ℕ) (edition : ℕ) (fit : FitTable table) where
  abbrev next : State → State
  next st = (step (properties_at table) edition s st).state

  abbrev in_steps : ℕ → State → Reading
  in_steps n st = read_in n (properties_at table) edition s st

  -- two ways to read on that agree wherever a token leads
  after_same : (go other : State → Reading) (st : State) (w : What) → (step (properties_at table) edition s st).what ≡ w
      → ((t : State) → measure s t < measure s st → Ok s t → go t ≡ other t) → Ok s st
      → after_step go st.lexer (next st) w ≡ after_step other st.lexer (next st) w
  after_same go other st (what.Token u) e h ok =
      ap (onto (row_of u st.lexer (next st).lexer)) (h (next st) (step_falls s table edition fit st ok u e) (step_ok s table edition fit st ok))
  after_same go other st what.Stuck e h ok = refl
  after_same go other st what.ModesFull e h ok = refl
  after_same go other st what.End e h ok = refl

  pub same_steps : (m n : ℕ) (st : State) → Ok s st → measure s st < m → measure s st < n → in_steps m st ≡ in_steps n st
  unfolding read_in
  same_steps zero n st ok h k = absurd (omega arith)
  same_steps (suc m) zero st ok h k = absurd (omega arith)
  same_steps (suc m) (suc n) st ok h k =
      after_same (in_steps m) (in_steps n) st (step (properties_at table) edition s st).what refl
      (λ t less o. same_steps m n t o (omega arith) (omega arith)) ok

  pub reading_step : (st : State) → Ok s st
      → read_from (properties_at table) edition s st
      ≡ after_step (read_from (properties_at table) edition s) st.lexer (next st) (step (properties_at table) edition s st).what
  unfolding read_from read_in
  reading_step st ok =
      after_same (in_steps (measure s st)) (read_from (properties_at table) edition s) st (step (properties_at table) edition s st).what refl
      (λ t less o. same_steps (measure s st) (suc (measure s t)) t o less (omega arith)) ok
