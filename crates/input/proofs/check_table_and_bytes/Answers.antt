-- `input::check_table_and_bytes` meets its contract: its arms are those of `on_table` and `on_utf8`. Assumes nothing.
use mathlib.Core.Path.{sym, ◌∙◌}
use Rattle.std.proofs.Common.{rules}
use Rattle.input.proofs.check_table_and_bytes.Goals as goal

pub returns-in_err-check_table : goal.returns-in_err-check_table
returns-in_err-check_table c = rw (sym c.check_table.ensures ∙ c.in_err-check_table.was) (search rules)

pub returns-in_err-check_utf8 : goal.returns-in_err-check_utf8
returns-in_err-check_utf8 c =
    rw (sym c.check_table.ensures ∙ c.in_ok-check_table.was, sym c.check_utf8.ensures ∙ c.in_err-check_utf8.was) (search rules)

pub returns : goal.returns
returns c =
    rw (sym c.check_table.ensures ∙ c.in_ok-check_table.was, sym c.check_utf8.ensures ∙ c.in_ok-check_utf8.was)
