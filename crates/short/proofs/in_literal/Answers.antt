-- `short::in_literal` meets its contract: its end quote, a template's brace, or nothing is found. Assumes nothing.
use native.Mathlib.Omega.{arith}
use mathlib.Core.Path.{◌∙◌}
use Rattle.base.specs.CasesLaws.{told_yes, told_no}
use Rattle.token.specs.Kind.{string_end, curly_open}
use Rattle.lexer.specs.NextLaws.{next_test}
use Rattle.lexer.specs.ArmLaws.{literal_end, literal_brace}
use Rattle.found.specs.FoundLaws.{finds_along, finds_nothing}
use Rattle.short.proofs.in_literal.Goals as goal

pub returns-then-b-quote : goal.returns-then-b-quote
returns-then-b-quote c =
    let p = c.requires in
    finds_along string_end 0 1 _ c.along.ensures
    (literal_end _ c.args.quote _ _ c.args.lexer
    (next_test c.args.source.now _ p.0.well p.1 c.args.quote p.2 ∙ told_yes _ _ _ c.byte_at-b.ensures c.if-b-quote.true))

pub returns-then-b-eq-CURLY_OPEN : goal.returns-then-b-eq-CURLY_OPEN
returns-then-b-eq-CURLY_OPEN c =
    let p = c.requires in
    finds_along curly_open 0 1 _ c.along-then-b-eq-CURLY_OPEN.ensures
    (literal_brace _ c.args.quote _ _ c.args.lexer
    (next_test c.args.source.now _ p.0.well p.1 c.args.quote p.2 ∙ told_no _ _ _ c.byte_at-b.ensures c.if-b-quote.false)
    (next_test c.args.source.now _ p.0.well p.1 123 (omega arith) ∙ told_yes _ _ _ c.byte_at-b.ensures c.if-b-eq-CURLY_OPEN.true))

pub returns : goal.returns
returns c = finds_nothing c.nothing.ensures
