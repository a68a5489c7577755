-- `newlines::consume_newline` meets its contract: it takes the tests of `newline_at` in their order. Assumes nothing.
use native.Mathlib.Omega.{arith}
use mathlib.Core.Path.{sym, ap, ◌∙◌}
use Rattle.base.specs.CasesLaws.{cases, pick_yes, pick_no, told_yes, told_no}
use Rattle.position.specs.declared.Reach.{Reach}
use Rattle.token.specs.Kind.{new_line}
use Rattle.state.specs.Lexer.{token_to}
use Rattle.newlines.specs.TurnLaws.{newline_at}
use Rattle.newlines.proofs.Loops.{stands_line}
use Rattle.newlines.proofs.consume_newline.Goals as goal

pub overflow_add-at : goal.overflow_add-at
overflow_add-at c =
    omega (arith, c.requires, ap (λ (r : Reach). r.byte.0) c.reach-reach.ensures)

pub next_line-requires : goal.next_line-requires
next_line-requires c =
    record { byte_le_source_most = (stands_line c.reach-reach.ensures c.requires 2 (omega arith)).0; line_le_source_most = (stands_line c.reach-reach.ensures c.requires 2 (omega arith)).1 }

pub returns-then-after-eq-LF : goal.returns-then-after-eq-LF
returns-then-after-eq-LF c =
    let e = c.token_to.ensures ∙ ap (λ (r : Reach). token_to new_line r c.args.lexer) c.next_line.ensures in
    sym
    (newline_at _ _ c.requires.well _ c.reach-reach.ensures
    ∙ pick_yes _ _ _ _ (told_yes _ _ _ c.byte_at-b.ensures c.if-b-eq-CR.true)
    (pick_yes _ _ _ _ (told_yes _ _ _ c.byte_at-after.ensures c.if-after-eq-LF.true) (sym e)))

pub returns-then-b-eq-CR : goal.returns-then-b-eq-CR
returns-then-b-eq-CR c =
    let e = sym c.stuck.ensures in
    sym (newline_at _ _ c.requires.well _ c.reach-reach.ensures ∙ search cases)

pub next_line-requires-then-b-eq-LF : goal.next_line-requires-then-b-eq-LF
next_line-requires-then-b-eq-LF c =
    record { byte_le_source_most = (stands_line c.reach-reach.ensures c.requires 1 (omega arith)).0; line_le_source_most = (stands_line c.reach-reach.ensures c.requires 1 (omega arith)).1 }

pub returns-then-b-eq-LF : goal.returns-then-b-eq-LF
returns-then-b-eq-LF c =
    let b = c.byte_at-b.ensures in
    let e = c.token_to-then-b-eq-LF.ensures ∙ ap (λ (r : Reach). token_to new_line r c.args.lexer) c.next_line-then-b-eq-LF.ensures in
    sym
    (newline_at _ _ c.requires.well _ c.reach-reach.ensures
    ∙ pick_no _ _ _ _ (told_no _ _ _ b c.if-b-eq-CR.false)
    (pick_yes _ _ _ _ (told_yes _ _ _ b c.if-b-eq-LF.true) (sym e)))

pub returns : goal.returns
returns c =
    let e = sym c.stuck-2.ensures in
    sym (newline_at _ _ c.requires.well _ c.reach-reach.ensures ∙ search cases)
