-- Every record is paid for: what is left to pay with falls by 3 at each token, and where reading stops before the end, 3 are left.
--     start_nested, start_potential    at the start there is no mode, and there are 4 for each byte
--     step_nested                      a step keeps a template below every format mode
--     step_pays                        a token costs 3
--     stop_pays                        an Error that stands still, and modes that are full, find 3
-- Assumes nothing.
use Rattle.std.specs.Prelude.{ℕ, ◌+◌, ◌*◌, ◌≤◌, ◌<◌, ◌≡◌, true, false, ◌⊎◌, List, length}
use Rattle.std.proofs.Common.{arith, sym, ◌∙◌, inl, inr}
use Rattle.std.proofs.Math.Path.{ap, subst}
use Rattle.std.proofs.Math.Bool.{false≢true}
use Rattle.base.specs.PickLaws.{by_test}
use Rattle.position.specs.Place as place
use Rattle.position.specs.declared.Place.{Place}
use Rattle.property.specs.Table.{properties_at}
use Rattle.fitness.specs.Fit.{FitTable}
use Rattle.token.specs.Kind.{curly_close}
use Rattle.token.specs.declared.Token.{Token}
use Rattle.text.specs.Stands.{Stands}
use Rattle.token.specs.Token.{token_of}
use Rattle.state.specs.Lexer.{reach_of, settled}
use Rattle.state.specs.State.{start_state}
use Rattle.state.specs.Stack.{top, changed, codes_of, stack_of}
use Rattle.state.specs.declared.Change.TheVariants.{Keep, Pop}
use Rattle.state.specs.declared.Lexer.{Lexer}
use Rattle.state.specs.declared.State.{State}
use Rattle.state.specs.declared.Taken.{Taken}
use Rattle.lexer.specs.GetNextToken.{one_byte}
use Rattle.lexer.specs.Step.{is_full, stood_still, what_of, half_of, half, step}
use Rattle.lexer.specs.StepLaws.{step_stack}
use Rattle.stepping.specs.MirrorsLaws.{change_same}
use Rattle.stepping.specs.FineLaws.{Goes}
use Rattle.stepping.specs.FallsLaws as falls
use Rattle.stepping.specs.FallsLaws.{Falls}
use Rattle.stepping.specs.CasesLaws.{still_is, by_half}
use Rattle.stepping.specs.Invariant.{Ok}
use Rattle.lexer.specs.declared.Half.{Half}
use Rattle.lexer.specs.declared.Step.{Step}
use Rattle.lexer.specs.declared.What.{What}
use Rattle.lexer.specs.declared.What.TheVariants as what
use Rattle.reading.specs.Potential.{own_all, closes, worth, potential, NestedIn, Nested}
use Rattle.reading.specs.PaidLaws.{Asks, Paid, take_paid, take_closes}
use Rattle.reading.proofs.WorthLaws.{change_nested, closes_is, owes_none, change_pays}

-- ---- at the start

pub start_nested : Nested start_state
unfolding codes_of NestedIn
start_nested = tt

pub start_potential : (s : List ℕ) → potential s start_state ≡ 4 * length s
unfolding codes_of top closes own_all
start_potential s = omega arith

-- ---- a step

-- what is due, by what a step answers: before it, and after it
abbrev Due : ℕ → ℕ → What → Type 0
Due before after (what.Token u) = after + 3 ≤ before
Due before after what.Stuck = 3 ≤ before
Due before after what.ModesFull = 3 ≤ before
Due before after what.End = Unit {0}

module _ (s table : List ℕ) (edition : ℕ) (fit : FitTable table) (st : State) (ok : Ok s st) (nest : Nested st) where
  abbrev l : Lexer
  l = st.lexer

  abbrev i : ℕ
  i = (reach_of l).byte.0

  abbrev ms : List ℕ
  ms = stack_of st.modes

  abbrev halved : Half
  halved = half (properties_at table) edition s l

  abbrev stepped : Step
  stepped = step (properties_at table) edition s st

  -- what holds of the lexer's half
  record Fair (x : Half) : Type 0 where
    due : Due (worth s i ms) (worth s (reach_of x.lexer).byte.0 (changed x.change ms)) x.what
    nested : NestedIn (changed x.change ms)

  module _ (t : Taken) (h : i < length s) (g : Goes s (settled l) t) (p : Paid s (settled l) t) (f : Falls (settled l) t)
      (z : closes s i (top ms) ≡ true → t ≡ one_byte (token_of curly_close) Pop (settled l)) where
    abbrev j : ℕ
    j = (reach_of t.lexer).byte.0

    asks : Asks s (top ms) i j t.change
    asks = subst (λ (m : ℕ). Asks s m i j t.change) ok.agrees.mode p

    -- a token that changes no mode goes on by a byte, unless it stands still
    goes_on : Falls (settled l) t → stood_still l t ≡ false → t.change ≡ Keep → i < j
    goes_on (falls.On k) n e = k
    goes_on (falls.Pops q m) n e = absurd (let x : ◌≡◌ {A = ℕ} 0 1 = cc in omega arith)
    goes_on (falls.Turns code q m k) n e = absurd (let x : ◌≡◌ {A = ℕ} 0 1 = cc in omega arith)
    goes_on (falls.Stands q k) n e = absurd (false≢true (sym n ∙ still_is l t q k))

    -- the closing brace of a template does not stand still, and pushes nothing
    moves : stood_still l t ≡ true → closes s i (top ms) ≡ true → ⊥
    unfolding stood_still
    moves e c = false≢true (sym (ap (stood_still l) (z c)) ∙ e)

    fits : is_full t.change l.depth ≡ true → closes s i (top ms) ≡ true → ⊥
    fits e c = false≢true (sym (ap (λ (x : Taken). is_full x.change l.depth) (z c)) ∙ e)

    -- a byte is left, and nothing is owed
    stops : (closes s i (top ms) ≡ true → ⊥) → 3 ≤ worth s i ms
    stops n = omega (arith, owes_none s i (top ms) n)

    taken_due : Due (worth s i ms) (worth s j (changed t.change ms)) (what_of l t)
    taken_due =
        by_test (Due (worth s i ms) (worth s j (changed t.change ms))) (stood_still l t) (λ e. stops (moves e))
        (λ e. change_pays s i j ms g.on g.fine.inside t.change asks nest (λ c. ap (λ (x : Taken). x.change) (z c)) (goes_on f e))

    taken_fair : Fair (half_of l t)
    taken_fair =
        by_test Fair (is_full t.change l.depth) (λ e. record { due = stops (fits e); nested = nest })
        (λ _. record { due = taken_due; nested = change_nested s i j ms t.change asks nest })

  fair : Fair halved
  fair =
      by_half s table edition fit st ok Fair (λ _. record { due = tt; nested = nest })
      (λ o h _ g f. taken_fair _ h g (take_paid s (settled l) (properties_at table) edition o) f
      (λ z. let b = closes_is s i (top ms) z in take_closes s (settled l) table edition fit (ok.agrees.mode ∙ b.0) b.1))

  stack_is : stack_of stepped.state.modes ≡ changed halved.change ms
  stack_is = step_stack (properties_at table) edition s st ok.agrees

  -- what the lexer's half comes to is what the step comes to
  worth_is : worth s (reach_of halved.lexer).byte.0 (changed halved.change ms) ≡ potential s stepped.state
  unfolding step
  worth_is =
      ap (worth s (reach_of halved.lexer).byte.0) (sym stack_is)
      ∙ ap (λ (p : Place). worth s (place.reach_of p).byte.0 (stack_of stepped.state.modes))
      (sym (change_same halved.change (record { lexer = halved.lexer; modes = st.modes })).place)

  step_due : {w : What} → stepped.what ≡ w → Due (potential s st) (potential s stepped.state) w
  unfolding step
  step_due {w} e =
      subst (Due (potential s st) (potential s stepped.state)) e
      (subst (λ (n : ℕ). Due (potential s st) n halved.what) worth_is fair.due)

  pub step_nested : Nested stepped.state
  step_nested = subst NestedIn (sym stack_is) fair.nested

  pub step_pays : {u : Token} → stepped.what ≡ what.Token u → potential s stepped.state + 3 ≤ potential s st
  step_pays e = step_due e

  pub stop_pays : (stepped.what ≡ what.Stuck) ⊎ (stepped.what ≡ what.ModesFull) → 3 ≤ potential s st
  stop_pays (inl e) = step_due e
  stop_pays (inr e) = step_due e
