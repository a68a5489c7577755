-- `lexer::in_literal` meets its contract: each return is an arm of `in_literal`. Assumes nothing.
use native.Mathlib.Omega.{arith}
use mathlib.Core.Path.{sym, ap, ◌∙◌}
use borrow.Author.Tests.{eq-eqb, ne_eqb}
use Rattle.token.specs.declared.Token.{Token}
use Rattle.state.specs.declared.Change.TheVariants.{Pop}
use Rattle.lexer.specs.GetNextToken.{one_byte}
use Rattle.lexer.specs.NextLaws.{next_test}
use Rattle.lexer.specs.ArmLaws.{literal_end, literal_brace, literal_rest}
use Rattle.lexer.proofs.in_literal.Goals as goal

pub returns-then-b-quote : goal.returns-then-b-quote
returns-then-b-quote c =
    let l = c.args.lexer in
    c.one_byte.ensures
    ∙ ap (λ (t : Token). one_byte t Pop l) c.token_of.ensures
    ∙ sym (literal_end _ _ _ _ l (next_test _ _ c.requires.stands.0.well c.requires.stands.1 _ c.requires.fit_table.1 ∙ eq-eqb _ _ (sym c.byte_at-b.ensures ∙ c.if-b-quote.true)))

pub returns-then-b-eq-CURLY_OPEN : goal.returns-then-b-eq-CURLY_OPEN
returns-then-b-eq-CURLY_OPEN c =
    let l = c.args.lexer in
    let w = c.requires.stands.0.well in
    let h = c.requires.stands.1 in
    c.one_byte-then-b-eq-CURLY_OPEN.ensures
    ∙ ap (λ (t : Token). one_byte t _ l) c.token_of-then-b-eq-CURLY_OPEN.ensures
    ∙ sym
    (literal_brace _ _ _ _ l (next_test _ _ w h _ c.requires.fit_table.1 ∙ ne_eqb _ _ (λ e. c.if-b-quote.false (c.byte_at-b.ensures ∙ e)))
    (next_test _ _ w h 123 (omega arith) ∙ eq-eqb _ _ (sym c.byte_at-b.ensures ∙ c.if-b-eq-CURLY_OPEN.true)))

pub returns : goal.returns
returns c =
    let l = c.args.lexer in
    let w = c.requires.stands.0.well in
    let h = c.requires.stands.1 in
    c.consume_string_literal.ensures
    ∙ sym
    (literal_rest _ _ _ _ l (next_test _ _ w h _ c.requires.fit_table.1 ∙ ne_eqb _ _ (λ e. c.if-b-quote.false (c.byte_at-b.ensures ∙ e)))
    (next_test _ _ w h 123 (omega arith) ∙ ne_eqb _ _ (λ e. c.if-b-eq-CURLY_OPEN.false (c.byte_at-b.ensures ∙ e))))
