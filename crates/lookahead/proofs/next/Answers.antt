-- `lookahead::next` meets its contract: an unfit cursor is refused, and else the answer is by what is shown where it stands, which is the record that
-- comes next. Assumes nothing.
use native.Mathlib.Omega.{arith}
use mathlib.Core.Path.{◌≡◌, sym, ◌∙◌}
use mathlib.Core.Bool.{true}
use Rattle.layout.specs.Layout.{room_in}
use Rattle.cursor.specs.Cursor.{is_fit}
use Rattle.cursor.specs.CursorLaws.{fits_of, ahead_none}
use Rattle.lookahead.specs.Next.{next_of}
use Rattle.lookahead.specs.AnswerLaws.{next_row, next_bad, next_none}
use Rattle.lookahead.proofs.next.Goals as goal
use Rattle.lookahead.proofs.next.Goals.{Else-not-is_fit}

-- the cursor is fit
fit : (c : Else-not-is_fit) → let a = c.args in is_fit (room_in a.layout a.list.now) a.cursor ≡ true
fit c = rw (← c.room.ensures) (sym c.is_fit.ensures ∙ c.if-not-is_fit.false)

pub returns-then-not-is_fit : goal.returns-then-not-is_fit
unfolding next_of
returns-then-not-is_fit c =
    let unfit = sym c.is_fit.ensures ∙ c.if-not-is_fit.true in
    rw (← c.room.ensures, unfit)

pub returns-then-cursor-i : goal.returns-then-cursor-i
returns-then-cursor-i c = let f = fit (goal.at.returns-then-cursor-i c).Else-not-is_fit in next_none _ _ _ f (ahead_none _ _ f) c.if-cursor-i.true

pub shown-requires : goal.shown-requires
shown-requires c = omega (arith, c.if-cursor-i.false, (fits_of _ _ (fit (goal.at.shown-requires c).Else-not-is_fit)).count)

pub returns-in_default : goal.returns-in_default
returns-in_default c =
    let f = fit (goal.at.returns-in_default c).Else-not-is_fit in
    next_bad _ _ _ f (ahead_none _ _ f) c.if-cursor-i.false (sym c.shown.ensures ∙ c.in_default.is)

pub returns : goal.returns
returns c =
    let f = fit (goal.at.returns c).Else-not-is_fit in
    rw c.moved_on.ensures
    (next_row _ _ _ f (ahead_none _ _ f) c.if-cursor-i.false (sym c.shown.ensures ∙ c.in-Some.is))
