-- `lexer::in_code` meets its contract: each return is an arm of `in_code`, by the byte. Assumes nothing.
use native.Mathlib.Omega.{arith}
use mathlib.Core.Path.{refl, sym, ◌∙◌}
use mathlib.Core.Logic.{⊎_elim}
use Rattle.fitness.specs.SmallLaws.{ascii_start}
use Rattle.text.specs.Tests.{is_whitespace, is_line_end}
use Rattle.lexer.specs.ArmLaws.{code_by_lem, above, other, no_digit, mid_letter, blank_arm, line_arm, comment_arm, double_arm, single_arm, ignored_arm}
use Rattle.lexer.proofs.in_code.Goals as goal

pub returns-then-b-eq-SPACE : goal.returns-then-b-eq-SPACE
unfolding is_whitespace is_line_end
returns-then-b-eq-SPACE c =
    ⊎_elim
    (λ e. code_by_lem _ _ c.args.lexer 32 (sym c.byte_at-b.ensures ∙ e) (omega arith) (c.consume_whitespace.ensures ∙ sym (blank_arm _ 32 _ _ refl)))
    (λ e. code_by_lem _ _ c.args.lexer 9 (sym c.byte_at-b.ensures ∙ e.1) (omega arith) (c.consume_whitespace.ensures ∙ sym (blank_arm _ 9 _ _ refl)))
    c.then-b-eq-SPACE.either

pub returns-then-b-eq-LF : goal.returns-then-b-eq-LF
unfolding is_whitespace is_line_end
returns-then-b-eq-LF c =
    ⊎_elim
    (λ e. code_by_lem _ _ c.args.lexer 10 (sym c.byte_at-b.ensures ∙ e) (omega arith) (c.consume_newline.ensures ∙ sym (line_arm _ 10 _ _ refl refl)))
    (λ e. code_by_lem _ _ c.args.lexer 13 (sym c.byte_at-b.ensures ∙ e.1) (omega arith) (c.consume_newline.ensures ∙ sym (line_arm _ 13 _ _ refl refl)))
    c.then-b-eq-LF.either

pub returns-then-b-eq-HASH : goal.returns-then-b-eq-HASH
returns-then-b-eq-HASH c =
    code_by_lem _ _ c.args.lexer 35 (sym c.byte_at-b.ensures ∙ c.if-b-eq-HASH.true) (omega arith)
    (c.consume_comment.ensures ∙ sym (comment_arm _ _ _))

pub returns-then-b-eq-DOUBLE_QUOTE : goal.returns-then-b-eq-DOUBLE_QUOTE
returns-then-b-eq-DOUBLE_QUOTE c =
    code_by_lem _ _ c.args.lexer 34 (sym c.byte_at-b.ensures ∙ c.if-b-eq-DOUBLE_QUOTE.true) (omega arith)
    (c.start_string.ensures ∙ sym (double_arm _ _ _))

pub returns-then-b-eq-SINGLE_QUOTE : goal.returns-then-b-eq-SINGLE_QUOTE
returns-then-b-eq-SINGLE_QUOTE c =
    code_by_lem _ _ c.args.lexer 39 (sym c.byte_at-b.ensures ∙ c.if-b-eq-SINGLE_QUOTE.true) (omega arith)
    (c.start_string-then-b-eq-SINGLE_QUOTE.ensures ∙ sym (single_arm _ _ _))

pub consume_ignored-requires : goal.consume_ignored-requires
consume_ignored-requires c =
    record { stands = (c.requires.stands.0, c.requires.fit_table); lexer_value = sym c.byte_at-b.ensures ∙ c.if-b-eq-UNDERSCORE.true }

pub returns-then-b-eq-UNDERSCORE : goal.returns-then-b-eq-UNDERSCORE
returns-then-b-eq-UNDERSCORE c =
    code_by_lem _ _ c.args.lexer 95 (sym c.byte_at-b.ensures ∙ c.if-b-eq-UNDERSCORE.true) (omega arith)
    (c.consume_ignored.ensures
    ∙ sym (ignored_arm _ 95 _ _ (above 95 (omega arith)) (no_digit 95 (omega arith)) (ascii_start _ c.requires.fit_table 95 (omega arith) ∙ mid_letter 95 (omega arith) (omega arith)) refl))

pub in_rest-requires : goal.in_rest-requires
in_rest-requires c =
    record {
      stands = c.requires.stands;
      fit_table = (
        c.requires.fit_table,
        sym c.byte_at-b.ensures,
        other _ c.if-b-eq-SPACE.false c.if-b-eq-TAB.false
            c.if-b-eq-LF.false c.if-b-eq-CR.false c.if-b-eq-HASH.false
            c.if-b-eq-DOUBLE_QUOTE.false c.if-b-eq-SINGLE_QUOTE.false,
        c.if-b-eq-UNDERSCORE.false,
      );
    }
