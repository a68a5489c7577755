-- `compact::compact` meets its contract: the code takes the tests of `call` in its order, and what is charged is counted anew. Assumes nothing.
use mathlib.Core.Path.{◌≡◌, sym, ◌∙◌}
use mathlib.Core.Bool.{true}
use native.Mathlib.Omega.{arith}
use Rattle.desks.specs.Desks.{Shared, shared, fit_desks}
use Rattle.desks.specs.FitLaws.{fit_of}
use Rattle.pool_rows.specs.FitLaws as pool
use Rattle.marks.specs.Marks.{is_marked, good_marks}
use Rattle.marks.specs.MarksLaws.{good_of}
use Rattle.compact.specs.CallLaws.{unfit, bad_mark_lem, Left, left_of_lem, settled, settled_kept}
use Rattle.compact.proofs.compact.Goals as goal
use Rattle.compact.proofs.compact.Goals.{After-compact_rows-after, Else-not-are_good}

-- the pool that is lent
abbrev lent : Else-not-are_good → Shared
lent q =
    let a = q.args in
    shared a.bytes.now a.entries.now a.owners.now a.counts a.desks

fits : (q : Else-not-are_good) → fit_desks (lent q) ≡ true
fits q = sym q.is_fit.ensures ∙ q.if-not-is_fit.false

good : (q : Else-not-are_good) → good_marks q.args.first.now q.args.second.now q.args.moved.now q.args.counts.entries ≡ true
good q = sym q.are_good.ensures ∙ q.if-not-are_good.false

left : (d : After-compact_rows-after)
    → Left d.args.bytes.now d.args.entries.now d.args.owners.now
    d.compact_rows-after.new.bytes d.compact_rows-after.new.entries d.compact_rows-after.new.owners
    d.args.counts d.compact_rows-after.result
left d =
    let a = d.args in
    left_of_lem (is_marked a.first.now a.second.now) _ _ _ _ _ _ _ _ _ _ a.desks
    (fit_of (lent (goal.at.After-compact_rows-after d).Else-not-are_good) (fits (goal.at.After-compact_rows-after d).Else-not-are_good)) d.compact_rows-after.ensures

pub returns-then-not-is_fit : goal.returns-then-not-is_fit
returns-then-not-is_fit c =
    settled _ _ _ _ _ (unfit _ _ _ _ (sym c.is_fit.ensures ∙ c.if-not-is_fit.true))

pub returns-then-not-are_good : goal.returns-then-not-are_good
returns-then-not-are_good c =
    settled _ _ _ _ _
    (bad_mark_lem _ _ _ _ (sym c.is_fit.ensures ∙ c.if-not-is_fit.false) (sym c.are_good.ensures ∙ c.if-not-are_good.true))

pub compact_rows-after-requires : goal.compact_rows-after-requires
compact_rows-after-requires c =
    let a = c.args in
    let f = fit_of (lent (goal.at.compact_rows-after-requires c).Else-not-are_good) (fits (goal.at.compact_rows-after-requires c).Else-not-are_good) in
    let p = pool.fit_of a.entries.now a.counts _ _ f.pool_fit in
    let g = good_of a.first.now a.second.now a.moved.now a.counts.entries (good (goal.at.compact_rows-after-requires c).Else-not-are_good) in
    record { counts_value = (f.pool_fit, omega (arith, f.owned, p.entries_fit), g.0); entries_value = (g.1, g.2) }

pub held_by-one-requires : goal.held_by-one-requires
held_by-one-requires c =
    let l = left (goal.at.held_by-one-requires c).After-compact_rows-after in
    (l.entries_in, l.owners_in, l.entries_small, l.bytes_small)

pub held_by-two-requires : goal.held_by-two-requires
held_by-two-requires c =
    let l = left (goal.at.held_by-two-requires c).After-compact_rows-after in
    (l.entries_in, l.owners_in, l.entries_small, l.bytes_small)

pub shape_of-bytes : goal.shape_of-bytes
shape_of-bytes c = (left (goal.at.shape_of-bytes c).After-compact_rows-after).bytes_long

pub shape_of-entries : goal.shape_of-entries
shape_of-entries c = (left (goal.at.shape_of-entries c).After-compact_rows-after).entries_long

pub returns : goal.returns
returns c =
    settled_kept _ _ _ _ _ _ _ _ _ _ _ _ (fits (goal.at.returns c).Else-not-are_good) (good (goal.at.returns c).Else-not-are_good) c.compact_rows-after.ensures c.held_by-one.ensures c.held_by-two.ensures c.recharge.ensures
