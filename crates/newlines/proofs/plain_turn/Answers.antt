-- `newlines::plain_turn` meets its contract: a printable ASCII character by `printable_at`, any other by the call. Assumes nothing.
use mathlib.Core.Path.{sym, ◌∙◌}
use Rattle.newlines.specs.TurnLaws.{printable_at}
use Rattle.newlines.proofs.plain_turn.Goals as goal

pub returns-then-is_printable : goal.returns-then-is_printable
returns-then-is_printable c =
    let p = c.requires in
    sym (printable_at _ _ p.well_formed.0 p.well_formed.1 _ p.fit_table _ (sym c.byte_at.ensures) (sym c.is_printable.ensures ∙ c.if-is_printable.true))
