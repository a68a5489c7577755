-- `numbers::consume_number` meets its contract: `number_end` is the byte after the definition's bytes, and a place of the source.
-- Assumes nothing.
use native.Mathlib.Omega.{arith}
use Prim.Native.Nat.{ℕ}
use mathlib.Core.Path.{ap, ◌∙◌}
use Rattle.token.specs.Kind.{number}
use Rattle.state.specs.Lexer.{token_along}
use Rattle.numbers.specs.PlaceLaws.{place_of_lem, token_fits, bytes_read, read_place}
use Rattle.numbers.specs.ConsumeNumber.{number_bytes}
use Rattle.numbers.specs.NumberLaws.{number_place}
use Rattle.numbers.proofs.consume_number.Goals as goal

pub number_end-requires : goal.number_end-requires
number_end-requires c =
    let pre = c.requires in
    record { place_in = rw c.reach-reach.ensures (place_of_lem pre.stands); bound = rw c.reach-reach.ensures pre.bound }

pub token-requires : goal.token-requires
token-requires c =
    let pre = c.requires in
    record { self_bound = (token_fits c.reach-reach.result.byte.0 pre.stands (read_place number_bytes c.reach-reach.ensures c.number_end.ensures (number_place (place_of_lem pre.stands) (omega arith)))).0; self_bound_2 = (token_fits c.reach-reach.result.byte.0 pre.stands (read_place number_bytes c.reach-reach.ensures c.number_end.ensures (number_place (place_of_lem pre.stands) (omega arith)))).1 }

pub returns : goal.returns
returns c =
    c.token.ensures
    ∙ ap (λ (n : ℕ). token_along number n c.args.lexer)
    (bytes_read number_bytes _ c.reach-reach.ensures c.number_end.ensures)
