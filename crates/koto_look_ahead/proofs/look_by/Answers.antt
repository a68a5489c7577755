-- `koto_look_ahead::look_by` meets its contract: the inner call answers for the layout and the status that the number names. Assumes nothing.
use mathlib.Core.Path.{sym, ◌∙◌}
use borrow.Author.Rules.{rules}
use Rattle.std.specs.Prelude.{ℕ, ◌≡◌, List, Some}
use Rattle.layout.specs.Layout.{room_in, shown_in}
use Rattle.layout.specs.declared.Layout.{Layout}
use Rattle.cursor.specs.declared.Status.{Status}
use Rattle.cursor.specs.declared.Cursor.{Cursor}
use Rattle.lookahead.specs.LookAhead.{look_ahead_of}
use Rattle.lookahead.specs.Peek.{Peeked}
use Rattle.cursor_numbers.specs.Cursors.{names, cursor_of, look_by}
use Rattle.koto_look_ahead.proofs.look_by.Goals as goal

looked_at : (list : List ℕ) (taken queued count number n : ℕ) {layout : Layout} {status : Status} {k : Cursor} {r : Peeked}
    → names number ≡ Some (layout, status) → k ≡ cursor_of taken queued count status
    → r ≡ look_ahead_of (room_in layout list) (shown_in layout list k.count) k n → r ≡ look_by list taken queued count number n
looked_at list taken queued count number n e f g = rw (g, f, e)

pub returns : goal.returns
returns c =
    let a = c.args in
    looked_at a.list.now a.taken a.queued a.count a.number a.n (sym c.names.ensures ∙ c.in-Some.is) c.cursor_of.ensures (search rules)

pub returns-in_default : goal.returns-in_default
returns-in_default c = rw (sym c.names.ensures ∙ c.in_default.is)
