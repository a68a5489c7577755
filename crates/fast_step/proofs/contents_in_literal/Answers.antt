-- `fast_step::contents_in_literal` meets its contract: where neither the quote nor a brace stands, the arm is that of the contents. Assumes nothing.
use native.Mathlib.Omega.{arith}
use mathlib.Core.Path.{sym, ◌∙◌}
use Rattle.base.specs.CasesLaws.{told_no}
use Rattle.property.specs.Table.{properties_at}
use Rattle.text.specs.Stands.{chars_from}
use Rattle.state.specs.Lexer.{reach_of}
use Rattle.lexer.specs.GetNextToken.{next_char}
use Rattle.lexer.specs.NextLaws.{next_test}
use Rattle.lexer.specs.ArmLaws.{literal_rest}
use Rattle.found.specs.FoundLaws.{finds_same, finds_nothing, finds_of}
use Rattle.fast_step.specs.FastStepLaws.{literal_of}
use Rattle.fast_step.proofs.contents_in_literal.Goals as goal

pub returns-then-b-quote : goal.returns-then-b-quote
returns-then-b-quote c = finds_nothing c.nothing.ensures

pub returns-then-b-eq-CURLY_OPEN : goal.returns-then-b-eq-CURLY_OPEN
returns-then-b-eq-CURLY_OPEN c = finds_nothing c.nothing-then-b-eq-CURLY_OPEN.ensures

pub consume_string_literal-requires : goal.consume_string_literal-requires
consume_string_literal-requires c =
    let p = c.requires in
    record { stands = (p.stands.0, p.fit_table.0); quote_bound = p.fit_table.1 }

pub returns : goal.returns
returns c =
    let p = c.requires in
    let l = c.args.lexer in
    let s = c.args.source.now in
    let i = (reach_of l).byte.0 in
    let look = properties_at c.args.table.now in
    let cs = chars_from s (reach_of l) in
    finds_same
    (sym
    (literal_rest look c.args.quote (next_char cs) cs l
    (next_test s i p.stands.0.well p.stands.1 c.args.quote p.fit_table.1 ∙ told_no _ _ _ c.byte_at-b.ensures c.if-b-quote.false)
    (next_test s i p.stands.0.well p.stands.1 123 (omega arith) ∙ told_no _ _ _ c.byte_at-b.ensures c.if-b-eq-CURLY_OPEN.false)))
    (finds_of c.of.ensures c.consume_string_literal.ensures (literal_of look c.args.quote cs l))
