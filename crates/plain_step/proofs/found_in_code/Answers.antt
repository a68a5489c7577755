-- `plain_step::found_in_code` meets its contract: a space is whitespace; else the plain token that is found keeps the modes. Assumes nothing.
use borrow.Author.Tests.{ne_eqb}
use native.Mathlib.Omega.{arith}
use Rattle.token.specs.Kind.{error}
use Rattle.found.specs.FoundLaws.{finds_nothing}
use Rattle.plain_step.specs.PlainStepLaws.{code_short, found_plain, found_blank}
use Rattle.plain_step.proofs.found_in_code.Goals as goal

pub returns-then-source-at-eq32 : goal.returns-then-source-at-eq32
returns-then-source-at-eq32 c =
    let p = c.requires.stands in
    found_blank c.args.source.now c.args.lexer p.0 p.1 c.if-source-at-eq32.true c.blank.ensures

pub returns-then-kind-eq-ERROR : goal.returns-then-kind-eq-ERROR
returns-then-kind-eq-ERROR c table fit = finds_nothing c.nothing.ensures

pub along-requires : goal.along-requires
along-requires c =
    let p = c.requires.stands in
    let short =
    code_short c.args.source.now c.args.lexer p.0 p.1 p.2 c.code_plain-plain.ensures
    (ne_eqb c.code_plain-plain.result.kind error c.if-kind-eq-ERROR.false) in
    record { lexer_bound = omega (arith, p.0, short); lexer_bound_2 = omega (arith, p.0, short) }

pub returns : goal.returns
returns c =
    let p = c.requires.stands in
    found_plain c.args.source.now c.args.lexer p.0 p.1 c.code_plain-plain.ensures
    (ne_eqb c.code_plain-plain.result.kind error c.if-kind-eq-ERROR.false) c.along.ensures
