-- `lookahead::look_ahead` meets its contract: the code takes the tests of `look_ahead_of` in its order. Assumes nothing.
use Rattle.std.proofs.Common.{rules}
use mathlib.Core.Path.{◌≡◌, sym, ◌∙◌}
use mathlib.Core.Bool.{true}
use borrow.Author.Tests.{ltb-false}
use Rattle.layout.specs.Layout.{room_in}
use Rattle.cursor.specs.Cursor.{is_fit}
use Rattle.cursor.specs.CursorLaws.{fits_of}
use Rattle.lookahead.specs.AnswerLaws.{look_unfit, look_full, look_is}
use Rattle.lookahead.proofs.look_ahead.Goals as goal
use Rattle.lookahead.proofs.look_ahead.Goals.{Else-not-is_fit}

-- the cursor is fit
fit : (c : Else-not-is_fit) → let a = c.args in is_fit (room_in a.layout a.list.now) a.cursor ≡ true
fit c = rw (← c.room.ensures) (sym c.is_fit.ensures ∙ c.if-not-is_fit.false)

pub returns-then-not-is_fit : goal.returns-then-not-is_fit
returns-then-not-is_fit c =
    look_unfit _ _ _ _ (rw (← c.room.ensures) (sym c.is_fit.ensures ∙ c.if-not-is_fit.true))

pub overfills-requires : goal.overfills-requires
overfills-requires c = let f = fits_of _ _ (fit c) in (f.taken, f.queued)

pub returns-then-overfills : goal.returns-then-overfills
returns-then-overfills c = look_full _ _ _ _ (fit (goal.at.returns-then-overfills c).Else-not-is_fit) (sym c.overfills.ensures ∙ c.if-overfills.true)

pub queued_for-after-requires : goal.queued_for-after-requires
queued_for-after-requires c =
    ((fits_of _ _ (fit (goal.at.queued_for-after-requires c).Else-not-is_fit)).taken, ltb-false _ _ (sym c.overfills.ensures ∙ c.if-overfills.false))

pub see-requires : goal.see-requires
see-requires c = (fits_of _ _ (fit (goal.at.see-requires c).Else-not-is_fit)).count

pub returns : goal.returns
returns c =
    look_is _ _ _ _ (fit (goal.at.returns c).Else-not-is_fit) (sym c.overfills.ensures ∙ c.if-overfills.false) c.queued_for-after.ensures
    c.see.ensures (search rules)
