-- Every record of a reading may be shown, and a reading that is stuck has one.
--     depth_low        a lexer whose copies agree has at most 64 modes
--     row_fits_lem         so the record of a token that may be shown may be shown
--     reading_shown    each of its records
--     steps_some, stuck_some    the Error that advanced nothing is a record
--     still_last       so no other record stands still
-- Assumes nothing.
use Prim.Native.Nat.{ℕ, zero, suc, ◌≤◌, ◌<◌}
use Rattle.std.proofs.Common.{arith, le-leb}
use Rattle.std.specs.Prelude.{◌≡◌, true, false, List, [], ◌∷◌, leb, length, get_or}
use Rattle.std.proofs.Math.Path.{refl}
use Rattle.std.proofs.Math.Bool.{and-eq-true_iff}
use Rattle.property.specs.Table.{properties_at}
use Rattle.fitness.specs.Fit.{FitTable}
use Rattle.token.specs.Kind.{error}
use Rattle.token.specs.Detail.{fits}
use Rattle.token.specs.Token.{token_of}
use Rattle.token.specs.declared.Token.{Token}
use Rattle.rows.specs.First.{depth_most, row_fits}
use Rattle.rows.specs.declared.Row.{Row}
use Rattle.state.specs.Stack.{Agrees}
use Rattle.state.specs.declared.Lexer.{Lexer}
use Rattle.state.specs.declared.State.{State}
use Rattle.lexer.specs.Step.{step}
use Rattle.stepping.specs.Invariant.{Ok, measure}
use Rattle.stepping.specs.InvariantLaws.{step_ok}
use Rattle.stepping.specs.ReadsLaws.{token_reads}
use Rattle.lexer.specs.declared.What.{What}
use Rattle.lexer.specs.declared.What.TheVariants as what
use Rattle.reading.specs.Reading.{row_of, Stop, ended, stuck, deep, Reading, after_step, read_in, read_from}
use Rattle.reading.specs.Scan.{stands_still}

pub depth_low : (st : State) → Agrees st → st.lexer.depth ≤ depth_most
depth_low st a = omega (arith, a.depth, a.most)

pub row_fits_lem : (u : Token) (before after : Lexer) → before.depth ≤ depth_most → fits u.kind u.detail ≡ true
    → row_fits (row_of u before after) ≡ true
unfolding row_fits
row_fits_lem u before after h e =
    (and-eq-true_iff (leb before.depth depth_most) (fits u.kind u.detail)).1 (le-leb before.depth depth_most h, e)

-- each of these may be shown
unfoldable AllShown : List Row → Type 0
AllShown [] = Unit {0}
AllShown (r ∷ rows) = (row_fits r ≡ true) × AllShown rows

each_shown : (rows : List Row) → AllShown rows → (i : ℕ) (d : Row) → i < length rows → row_fits (get_or rows i d) ≡ true
unfolding AllShown
each_shown [] a i d h = absurd (omega arith)
each_shown (r ∷ rows) a zero d h = a.0
each_shown (r ∷ rows) a (suc i) d h = each_shown rows a.1 i d (omega arith)

module _ (s table : List ℕ) (edition : ℕ) (fit : FitTable table) where
  abbrev next : State → State
  next st = (step (properties_at table) edition s st).state

  -- after a step, if what is read on from there may be shown
  after_shown : (go : State → Reading) (st : State) → Ok s st → (w : What) → (step (properties_at table) edition s st).what ≡ w
      → AllShown (go (next st)).rows → AllShown (after_step go st.lexer (next st) w).rows
  unfolding AllShown
  after_shown go st ok (what.Token u) e a =
      (row_fits_lem u st.lexer (next st).lexer (depth_low st ok.agrees) (token_reads s table edition fit st ok u e).shown, a)
  after_shown go st ok what.Stuck e a = (row_fits_lem (token_of error) st.lexer (next st).lexer (depth_low st ok.agrees) refl, tt)
  after_shown go st ok what.ModesFull e a = tt
  after_shown go st ok what.End e a = tt

  in_steps : (n : ℕ) (st : State) → Ok s st → AllShown (read_in n (properties_at table) edition s st).rows
  unfolding read_in AllShown
  in_steps zero st ok = tt
  in_steps (suc n) st ok =
      after_shown (read_in n (properties_at table) edition s) st ok (step (properties_at table) edition s st).what refl
      (in_steps n (next st) (step_ok s table edition fit st ok))

  pub reading_shown : (st : State) → Ok s st → (i : ℕ) (d : Row) → i < length (read_from (properties_at table) edition s st).rows
      → row_fits (get_or (read_from (properties_at table) edition s st).rows i d) ≡ true
  unfolding read_from
  reading_shown st ok =
      each_shown (read_from (properties_at table) edition s st).rows (in_steps (suc (measure s st)) st ok)

-- ---- a reading that is stuck

after_some : (go : State → Reading) (before : Lexer) (after : State) (w : What) → (after_step go before after w).stop ≡ stuck
    → 0 < length (after_step go before after w).rows
after_some go before after (what.Token u) e = omega arith
after_some go before after what.Stuck e = omega arith
after_some go before after what.ModesFull e = let z : ◌≡◌ {A = ℕ} 0 1 = cc in absurd (omega arith)
after_some go before after what.End e = let z : ◌≡◌ {A = ℕ} 0 1 = cc in absurd (omega arith)

pub steps_some : (n : ℕ) (look : ℕ → ℕ) (edition : ℕ) (s : List ℕ) (st : State) → (read_in n look edition s st).stop ≡ stuck
    → 0 < length (read_in n look edition s st).rows
unfolding read_in
steps_some zero look edition s st e = let z : ◌≡◌ {A = ℕ} 0 1 = cc in absurd (omega arith)
steps_some (suc n) look edition s st e =
    after_some (read_in n look edition s) st.lexer (step look edition s st).state (step look edition s st).what e

pub stuck_some : (look : ℕ → ℕ) (edition : ℕ) (s : List ℕ) (st : State) → (read_from look edition s st).stop ≡ stuck
    → 0 < length (read_from look edition s st).rows
unfolding read_from
stuck_some look edition s st = steps_some (suc (measure s st)) look edition s st

-- so no record stands still behind which a reading goes on
pub still_last : (why : Stop) (rows : List Row) → (why ≡ stuck → 0 < length rows) → stands_still why rows ≡ false
still_last stuck [] some = absurd (omega (arith, some refl))
still_last stuck (r ∷ rows) some = refl
still_last ended rows some = refl
still_last deep rows some = refl
