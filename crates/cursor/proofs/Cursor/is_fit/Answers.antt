-- `Cursor::is_fit` meets its contract: the code takes the tests of `is_fit` in its order. Assumes nothing.
use Rattle.std.proofs.Common.{rules}
use mathlib.Core.Path.{◌≡◌, sym}
use Rattle.base.specs.CasesLaws.{cases}
use Rattle.cursor.specs.Cursor.{fit_by, is_fit}
use Rattle.cursor.specs.CursorLaws.{fit_last}
use Rattle.cursor.specs.declared.Status.{Status}
use Rattle.cursor.specs.declared.Status.TheVariants.{End, Stuck}
use Rattle.cursor.proofs.Cursor.is_fit.Goals as goal
use Rattle.cursor.proofs.Cursor.is_fit.Goals.{Else-self-gt-QUEUE_MOST}

-- the other tests are passed
last_test : (c : Else-self-gt-QUEUE_MOST) (s : Status) → c.args.self.status ≡ s
    → fit_by c.args.self s ≡ is_fit c.args.room c.args.self
last_test c s e =
    fit_last _ c.args.self s c.if-room-self.false c.if-self.false c.if-self-gt-QUEUE_MOST.false e

pub returns-then-room-self : goal.returns-then-room-self
unfolding is_fit
returns-then-room-self c = sym (search cases)

pub returns-then-self : goal.returns-then-self
unfolding is_fit
returns-then-self c = sym (search cases)

pub returns-then-self-gt-QUEUE_MOST : goal.returns-then-self-gt-QUEUE_MOST
unfolding is_fit
returns-then-self-gt-QUEUE_MOST c = sym (search cases)

pub returns-in-End : goal.returns-in-End
returns-in-End c =
    last_test (goal.at.returns-in-End c).Else-self-gt-QUEUE_MOST End c.in-End.is

pub returns-in-Stuck : goal.returns-in-Stuck
returns-in-Stuck c =
    let e = last_test (goal.at.returns-in-Stuck c).Else-self-gt-QUEUE_MOST Stuck c.in-Stuck.is in
    search (rules, e)
