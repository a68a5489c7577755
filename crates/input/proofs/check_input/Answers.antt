-- `input::check_input` meets its contract: the code takes the tests of `input_check` in its order. Assumes nothing.
use mathlib.Core.Path.{sym, ◌∙◌}
use Rattle.base.specs.CasesLaws.{cases}
use Rattle.input.specs.Input.{input_check}
use Rattle.input.specs.InputLaws.{is_rest}
use Rattle.input.proofs.check_input.Goals as goal

pub returns-then-most-bytes : goal.returns-then-most-bytes
unfolding input_check
returns-then-most-bytes c = sym (search cases)

pub returns-then-code_between : goal.returns-then-code_between
returns-then-code_between c =
    c.check_table_and_bytes.ensures
    ∙ sym (is_rest _ _ _ _ c.if-most-bytes.false (sym c.code_between.ensures ∙ c.if-code_between.true))

pub returns : goal.returns
unfolding input_check
returns c = sym (search cases)
