-- `koto_next::next_by` meets its contract: the inner call answers for the layout and the status that the number names. Assumes nothing.
use mathlib.Core.Path.{sym, ◌∙◌}
use Rattle.koto_next.proofs.next_by.Goals as goal

pub returns : goal.returns
returns c =
    rw (c.next.ensures, c.cursor_of.ensures, sym c.names.ensures ∙ c.in-Some.is)

pub returns-in_default : goal.returns-in_default
returns-in_default c = rw (sym c.names.ensures ∙ c.in_default.is)
