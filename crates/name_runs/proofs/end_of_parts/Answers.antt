-- `name_runs::end_of_parts` meets its contract. The loop's invariant is `Running`, as in `text::run_utf8`: the run from here on reaches as far as the run
-- from the start; and the run of the table that is kept is one. Assumes nothing.
use borrow.Author.Tests.{lt-ltb}
use native.Mathlib.Omega.{arith}
use Prim.Native.Nat.{ℕ, ◌-◌}
use mathlib.Core.Path.{◌≡◌, sym, ap, ◌∙◌}
use lib.ListN.{length}
use Rattle.position.specs.Place.{along_by}
use Rattle.property.specs.Parts.{width_of, xid_continue}
use Rattle.text.specs.Tests.{id_continue}
use Rattle.text.specs.Chars.{CharIs}
use Rattle.text.specs.CountLaws.{width_most_lem, id_continue_once}
use Rattle.text.proofs.Runs.{running, runs_well, runs_fit, runs_on, runs_fall, runs_stop, runs_end, once_on, once_fall}
use Rattle.name_runs.specs.RunsLaws.{char_by, point_is, name_over}
use Rattle.name_runs.proofs.end_of_parts.Goals as goal
use Rattle.name_runs.proofs.end_of_parts.Goals.{After-along-reach, After-run_with-run}

pub loop-i-init : goal.loop-i-init
loop-i-init c = let p = c.requires in (running _ _ _ _ p.0, p.2)

pub returns-then-not-is_part : goal.returns-then-not-is_part
returns-then-not-is_part c =
    let g = c.loop-i.invariant.0 in
    name_over _ _ c.requires.1 _ g.at (sym (rw (lt-ltb _ (length c.args.source.now) c.loop-i-test.true))) c.if-b-lt128.true
    (λ _. sym c.is_part.ensures ∙ c.if-not-is_part.true)
    ∙ g.same

pub along_ascii-reach-requires : goal.along_ascii-reach-requires
along_ascii-reach-requires c =
    record { byte_le_source_most = omega (arith, c.loop-i.invariant.0.stands); column_le_column_most = omega (arith, c.loop-i.invariant.0.stands) }

pub loop-i-smaller-then-b-lt128 : goal.loop-i-smaller-then-b-lt128
loop-i-smaller-then-b-lt128 c =
    once_fall _ _ _ c.loop-i.invariant.0 id_continue_once c.requires.1 c.loop-i-test.true
    (sym c.is_part.ensures ∙ c.if-not-is_part.false) _ c.along_ascii-reach.ensures

pub loop-i-preserved-then-b-lt128 : goal.loop-i-preserved-then-b-lt128
loop-i-preserved-then-b-lt128 c = (
  once_on _ _ _ c.loop-i.invariant.0 id_continue_once c.requires.1 c.loop-i-test.true
      (sym c.is_part.ensures ∙ c.if-not-is_part.false) _ c.along_ascii-reach.ensures,
  c.loop-i.invariant.1,
)

pub decode-c-requires : goal.decode-c-requires
decode-c-requires c =
    (runs_well _ _ _ c.loop-i.invariant.0, c.loop-i-test.true, c.if-b-lt128.false)

pub run_with-run-requires : goal.run_with-run-requires
run_with-run-requires c =
    (c.requires.1.rises, c.loop-i.invariant.1)

-- the character there
char : (d : After-run_with-run)
    → CharIs d.args.source.now d.args.table.now d.loop-i.i (char_by d.decode-c.result d.run_with-run.result)
char d = point_is (runs_well _ _ _ d.loop-i.invariant.0) d.decode-c.ensures d.run_with-run.ensures

pub returns-then-not-is_id_continue : goal.returns-then-not-is_id_continue
unfolding id_continue
returns-then-not-is_id_continue c =
    runs_stop _ _ _ c.loop-i.invariant.0 _ (char (goal.at.returns-then-not-is_id_continue c).After-run_with-run)
    (ap xid_continue (sym c.run_with-run.ensures.has) ∙ sym c.is_id_continue.ensures ∙ c.if-not-is_id_continue.true)

pub along-reach-requires : goal.along-reach-requires
along-reach-requires c =
    record { byte_le_source_most = (runs_fit _ _ _ c.loop-i.invariant.0 _ (char (goal.at.along-reach-requires c).After-run_with-run) c.width_of.result (rw c.width_of.ensures (width_most_lem _))).0; column_le_column_most = (runs_fit _ _ _ c.loop-i.invariant.0 _ (char (goal.at.along-reach-requires c).After-run_with-run) c.width_of.result (rw c.width_of.ensures (width_most_lem _))).1 }

-- the reach after a turn
after : (c : After-along-reach)
    → c.along-reach.result ≡ along_by c.decode-c.result.len (width_of c.run_with-run.result.properties) c.loop-i.reach
after c =
    c.along-reach.ensures
    ∙ ap (λ (w : ℕ). along_by c.decode-c.result.len w c.loop-i.reach) c.width_of.ensures

pub loop-i-smaller : goal.loop-i-smaller
loop-i-smaller c =
    runs_fall _ _ _ c.loop-i.invariant.0 _ (char (goal.at.loop-i-smaller c).After-run_with-run) _ (after c)

pub loop-i-preserved : goal.loop-i-preserved
unfolding id_continue
loop-i-preserved c = (
  runs_on _ _ _ c.loop-i.invariant.0 _ (char (goal.at.loop-i-preserved c).After-run_with-run)
      (ap xid_continue (sym c.run_with-run.ensures.has)
      ∙ sym c.is_id_continue.ensures
      ∙ c.if-not-is_id_continue.false)
      _ (after c),
  c.run_with-run.ensures.runs,
)

pub returns : goal.returns
returns c = runs_end _ _ _ c.loop-i.invariant.0 c.loop-i-test.false
