-- `fast_options::find_options` meets its contract: the plain token that is found pops the mode. Assumes nothing.
use borrow.Author.Tests.{ne_eqb}
use native.Mathlib.Omega.{arith}
use Rattle.token.specs.Kind.{error}
use Rattle.state.specs.declared.Change.TheVariants.{Pop}
use Rattle.found.specs.FoundLaws.{finds_along, finds_nothing}
use Rattle.fast_options.specs.OptionsLaws.{options_short}
use Rattle.fast_options.proofs.find_options.Goals as goal

pub returns-then-kind-eq-ERROR : goal.returns-then-kind-eq-ERROR
returns-then-kind-eq-ERROR c table fit edition = finds_nothing c.nothing.ensures

pub along-requires : goal.along-requires
along-requires c =
    let short = options_short c.args.source.now c.args.lexer c.requires c.format_options-plain.ensures (ne_eqb c.format_options-plain.result.kind error c.if-kind-eq-ERROR.false) in
    record { lexer_bound = omega (arith, c.requires, short); lexer_bound_2 = omega (arith, c.requires, short) }

pub returns : goal.returns
returns c table fit edition =
    finds_along c.format_options-plain.result.kind 0 c.format_options-plain.result.len Pop c.along.ensures
    ((c.format_options-plain.ensures table fit edition).is (ne_eqb c.format_options-plain.result.kind error c.if-kind-eq-ERROR.false))
