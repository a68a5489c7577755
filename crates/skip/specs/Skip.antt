-- Bytes that a loop passes one after the other: each passes a test. What is passed need not be all that could be.
-- Assumes nothing.
use Rattle.std.specs.Prelude.{ℕ, ◌+◌, ◌-◌, ◌≤◌, ◌<◌, ◌≡◌, Bool, true, false, not, ◌&&◌, List, eqb, length, get_or}
use Rattle.position.specs.Place.{along_by}
use Rattle.position.specs.declared.Reach.{Reach}
use Rattle.fitness.specs.Ascii.{is_printable}

-- a printable ASCII character that is none of the three
unfoldable pub stays_but : ℕ → ℕ → ℕ → ℕ → Bool
stays_but a b c x = is_printable x && not (eqb x a) && not (eqb x b) && not (eqb x c)

-- the bytes of s from i on and before j pass the test
pub record Passed (test : ℕ → Bool) (s : List ℕ) (i j : ℕ) : Type 0 where
  pub on : i ≤ j
  pub within : j ≤ length s
  pub stays : (k : ℕ) → i ≤ k → k < j → test (get_or s k 0) ≡ true

-- of the k bytes from i on that were looked at, those before the nth pass the test, and the nth does not, if it is one of the block
pub record Counts (test : ℕ → Bool) (s : List ℕ) (i most k n : ℕ) : Type 0 where
  pub less : n ≤ most
  pub stays : (j : ℕ) → j < n → j < k → test (get_or s (i + j) 0) ≡ true
  pub out : n < most → test (get_or s (i + n) 0) ≡ false

-- reading has come from r to q, past bytes that pass the test and take one column each
pub record Past (test : ℕ → Bool) (s : List ℕ) (r q : Reach) : Type 0 where
  pub passed : Passed test s r.byte.0 q.byte.0
  pub along : q ≡ along_by (q.byte.0 - r.byte.0) (q.byte.0 - r.byte.0) r
