-- `lookahead::peek` meets its contract: the code takes the tests of `peek_of` in its order. Assumes nothing.
use Rattle.std.proofs.Common.{rules}
use Prim.Native.Nat.{ℕ}
use native.Mathlib.Omega.{arith}
use mathlib.Core.Path.{◌≡◌, sym, ap, ◌∙◌}
use mathlib.Core.Bool.{true}
use Rattle.layout.specs.Layout.{room_in, shown_in}
use Rattle.cursor.specs.Cursor.{is_fit, queued_past}
use Rattle.cursor.specs.CursorLaws.{fits_of, past_count}
use Rattle.lookahead.specs.Peek.{queued_at, peek_of}
use Rattle.cursor.specs.declared.Cursor.{Cursor}
use Rattle.lookahead.specs.AnswerLaws.{peek_far, peek_no_more, peek_past}
use Rattle.lookahead.proofs.peek.Goals as goal
use Rattle.lookahead.proofs.peek.Goals.{Else-not-is_fit}

-- the cursor is fit
fit : (c : Else-not-is_fit) → let a = c.args in is_fit (room_in a.layout a.list.now) a.cursor ≡ true
fit c = rw (← c.room.ensures) (sym c.is_fit.ensures ∙ c.if-not-is_fit.false)

pub returns-then-not-is_fit : goal.returns-then-not-is_fit
unfolding peek_of
returns-then-not-is_fit c =
    let unfit = sym c.is_fit.ensures ∙ c.if-not-is_fit.true in
    rw (← c.room.ensures, unfit)

pub overflow_add-cursor : goal.overflow_add-cursor
overflow_add-cursor c = omega (arith, (fits_of _ _ (fit (goal.at.overflow_add-cursor c).Else-not-is_fit)).queued)

pub returns-then-cursor-n : goal.returns-then-cursor-n
returns-then-cursor-n c =
    let a = c.args in
    let e =
    peek_far (room_in a.layout a.list.now) (shown_in a.layout a.list.now a.cursor.count) a.cursor a.n
    (fit (goal.at.returns-then-cursor-n c).Else-not-is_fit) c.if-cursor-n.true in
    search (rules, e)

pub returns-then-is_full : goal.returns-then-is_full
returns-then-is_full c =
    peek_no_more _ _ _ _ (fit (goal.at.returns-then-is_full c).Else-not-is_fit) c.if-cursor-n.false (sym c.is_full.ensures ∙ c.if-is_full.true)

pub queued_past-after-requires : goal.queued_past-after-requires
queued_past-after-requires c = (fits_of _ _ (fit (goal.at.queued_past-after-requires c).Else-not-is_fit)).queued

pub see_queued-requires : goal.see_queued-requires
see_queued-requires c =
    let a = c.args in
    rw (c.queued_past-after.ensures, past_count a.cursor a.n) (fits_of _ _ (fit (goal.at.see_queued-requires c).Else-not-is_fit)).count

pub returns : goal.returns
returns c =
    let a = c.args in
    let d = queued_past a.cursor a.n in
    c.show.ensures
    ∙ c.see_queued.ensures
    ∙ ap (λ (x : Cursor). queued_at (shown_in a.layout a.list.now x.count) x a.n) c.queued_past-after.ensures
    ∙ ap (λ (k : ℕ). queued_at (shown_in a.layout a.list.now k) d a.n) (past_count a.cursor a.n)
    ∙ peek_past _ _ _ _ (fit (goal.at.returns c).Else-not-is_fit) c.if-cursor-n.false (sym c.is_full.ensures ∙ c.if-is_full.false)
