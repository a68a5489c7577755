-- The depth of a record, and the machine's stack (document 02, C-4).
--     lexed_depth    a token's depth is the length of the stack before it
--     change_near    a change of the modes makes the stack longer or shorter by at most one
--     call_near      so does a call
--     hands_depth    in a reading that the machine hands out, record i has the depth of the stack that i calls leave
--     hands_near     and neighbours differ by at most one
-- Assumes nothing.
use Prim.Native.Nat.{ℕ, zero, suc, ◌≤◌, ◌<◌}
use Rattle.std.proofs.Common.{arith, sym, ap, ◌∙◌}
use Rattle.std.specs.Prelude.{◌≡◌, List, [], ◌∷◌, length, Option, Some, None}
use Rattle.std.proofs.Math.Path.{refl}
use Rattle.base.specs.PickLaws.{split_lt}
use Rattle.rows.specs.declared.Row.{Row}
use Rattle.state.specs.Lexer.{settled}
use Rattle.state.specs.Stack.{rest, changed}
use Rattle.state.specs.declared.Change.{Change}
use Rattle.state.specs.declared.Change.TheVariants.{Keep, Push, Pop, Replace}
use Rattle.token.specs.declared.Token.{Token}
use Rattle.lexer.specs.GetNextToken.{take_token, remaining_at}
use Rattle.reading.specs.Reading.{Reading}
use Rattle.queue.specs.Queue.{get}
use Rattle.queue.specs.StreamLaws.{get_past}
use Rattle.rust.specs.TokenLexer.{TokenLexer, view_of, given_at, get_next_token, lexed_of, lexed, state_at, handed}
use Rattle.rust.specs.Hands.{Hands}

-- two counts that differ by at most one
pub record Near (m n : ℕ) : Type 0 where
  pub up : n ≤ suc m
  pub down : m ≤ suc n

-- ---- a call

rest_near : (ms : List ℕ) → Near (length ms) (length (rest ms))
unfolding rest
rest_near [] = record { up = omega arith; down = omega arith }
rest_near (m ∷ ms) = record { up = omega arith; down = omega arith }

replace_near : (m : ℕ) (ms : List ℕ) → Near (length ms) (suc (length (rest ms)))
unfolding rest
replace_near m [] = record { up = omega arith; down = omega arith }
replace_near m (n ∷ ms) = record { up = omega arith; down = omega arith }

pub change_near : (c : Change) (ms : List ℕ) → Near (length ms) (length (changed c ms))
change_near Keep ms = record { up = omega arith; down = omega arith }
change_near (Push m) ms = record { up = omega arith; down = omega arith }
change_near Pop ms = rest_near ms
change_near (Replace m) ms = replace_near m ms

module _ (look : ℕ → ℕ) (edition : ℕ) (s : List ℕ) where
  abbrev height : TokenLexer → ℕ
  height x = length x.string_mode_stack

  abbrev next : TokenLexer → TokenLexer
  next x = (get_next_token look edition s x).after

  given_near : (cs : List ℕ) (x : TokenLexer) → Near (height x) (height (given_at look edition cs x).after)
  given_near [] x = record { up = omega arith; down = omega arith }
  given_near (c ∷ cs) x =
      let n = change_near (take_token look edition (c ∷ cs) (settled (view_of x))).change x.string_mode_stack in
      record { up = omega (arith, n.up); down = omega (arith, n.down) }

  pub call_near : (x : TokenLexer) → Near (height x) (height (next x))
  call_near x = given_near (remaining_at s x.current_byte.0) x

  depth_of : (x : TokenLexer) (o : Option Token) (after : TokenLexer) (row : Row) → lexed_of x o after ≡ Some row → row.depth ≡ height x
  depth_of x None after row e = absurd (let z : ◌≡◌ {A = ℕ} 0 1 = cc in omega arith)
  depth_of x (Some t) after row e = omega (arith, ap (λ (o : Option Row). depth_in o) (sym e))
    where
      depth_in : Option Row → ℕ
      depth_in None = 0
      depth_in (Some r) = r.depth

  pub lexed_depth : (x : TokenLexer) (row : Row) → lexed look edition s x ≡ Some row → row.depth ≡ height x
  lexed_depth x = depth_of x (get_next_token look edition s x).token (next x)

  -- ---- call after call

  -- the state after one call more
  pub state_next : (i : ℕ) (x : TokenLexer) → state_at look edition s (suc i) x ≡ next (state_at look edition s i x)
  unfolding state_at
  state_next zero x = refl
  state_next (suc i) x = state_next i (next x)

  module _ (r : Reading) (x : TokenLexer) (h : Hands look edition s r x) where
    within : (i : ℕ) (row : Row) → get r.rows i ≡ Some row → i < length r.rows
    within i row e =
        split_lt i (length r.rows) (λ k. k)
        (λ k. absurd (let n = get_past r.rows i k in let z : ◌≡◌ {A = ℕ} 0 1 = cc in omega arith))

    pub hands_depth : (i : ℕ) (row : Row) → get r.rows i ≡ Some row → row.depth ≡ height (state_at look edition s i x)
    unfolding handed
    hands_depth i row e = lexed_depth (state_at look edition s i x) row (h.each i (within i row e) ∙ e)

    pub hands_near : (i : ℕ) (row other : Row) → get r.rows i ≡ Some row → get r.rows (suc i) ≡ Some other → Near row.depth other.depth
    hands_near i row other e f =
        let n = call_near (state_at look edition s i x) in
        let m = ap height (state_next i x) in
        record {
          up = omega (arith, n.up, m, hands_depth i row e, hands_depth (suc i) other f);
          down = omega (arith, n.down, m, hands_depth i row e, hands_depth (suc i) other f);
        }
