-- `format_number::peek` meets its contract: where no character is read, none is left. Assumes nothing.
use mathlib.Core.Path.{sym, subst, ◌∙◌}
use Rattle.utf8.specs.CharsLaws.{Stops}
use Rattle.format_number.specs.PeekLaws.{peek_char, peek_none}
use Rattle.format_number.proofs.peek.Goals as goal

pub returns-in-Ok : goal.returns-in-Ok
returns-in-Ok c =
    let a = c.args in
    peek_char a.format.now a.at _ _ (sym c.read_char.ensures ∙ c.in-Ok.is)

pub returns-in-Err : goal.returns-in-Err
returns-in-Err c =
    let a = c.args in
    peek_none a.format.now a.at (subst Stops (sym c.in-Err.is ∙ c.read_char.ensures) tt)
