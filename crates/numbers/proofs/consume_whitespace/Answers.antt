-- `numbers::consume_whitespace` meets its contract: `run_end` is the byte after the definition's run, and a place of the source.
-- Assumes nothing.
use native.Mathlib.Omega.{arith}
use Prim.Native.Nat.{ℕ}
use mathlib.Core.Path.{ap, ◌∙◌}
use Rattle.token.specs.Kind.{whitespace}
use Rattle.text.specs.Tests.{is_whitespace}
use Rattle.text.specs.Count.{count_while}
use Rattle.text.specs.CountLaws.{whitespace_ascii}
use Rattle.state.specs.Lexer.{indented, token_along}
use Rattle.numbers.specs.PlaceLaws.{place_of_lem, run_place, token_fits, bytes_read, read_place}
use Rattle.numbers.proofs.consume_whitespace.Goals as goal

pub run_end-requires : goal.run_end-requires
run_end-requires c = rw c.reach-reach.ensures c.requires.well

pub overflow_cast-count : goal.overflow_cast-count
overflow_cast-count c =
    let o = c.requires in
    let p = read_place (count_while is_whitespace) c.reach-reach.ensures c.run_end.ensures (run_place (place_of_lem o) whitespace_ascii) in
    omega (arith, (token_fits c.reach-reach.result.byte.0 o p).0.1)

pub token-requires : goal.token-requires
token-requires c =
    let o = c.requires in
    let p = read_place (count_while is_whitespace) c.reach-reach.ensures c.run_end.ensures (run_place (place_of_lem o) whitespace_ascii) in
    record { self_bound = rw c.indent_by.ensures (token_fits c.reach-reach.result.byte.0 o p).0; self_bound_2 = rw c.indent_by.ensures (token_fits c.reach-reach.result.byte.0 o p).1 }

pub returns : goal.returns
returns c =
    let l = c.args.lexer in
    c.token.ensures
    ∙ ap (token_along whitespace _) c.indent_by.ensures
    ∙ ap (λ (n : ℕ). token_along whitespace n (indented n l)) (bytes_read (count_while is_whitespace) _ c.reach-reach.ensures c.run_end.ensures)
