-- `fast_names::name_end_near` meets its contract: a character of that length stands where the lexer does; the parts of a name after it are passed at once,
-- and there the run is over, or goes on as `run_test`'s. Assumes nothing.
use native.Mathlib.Omega.{arith}
use Prim.Native.Nat.{◌-◌, ◌≤◌}
use mathlib.Core.Path.{◌≡◌, sym, ◌∙◌}
use Rattle.base.specs.Refusal.{source_most}
use Rattle.position.specs.Position.{column_most}
use Rattle.position.specs.Place.{along_by}
use Rattle.position.specs.declared.Reach.{Reach}
use Rattle.property.specs.Table.{properties_at}
use Rattle.text.specs.Tests.{id_continue}
use Rattle.text.specs.Chars.{LenIs}
use Rattle.text.specs.CountLaws.{along_stands, id_continue_once}
use Rattle.text.specs.Stands.{Stands}
use Rattle.names.specs.NameLaws.{stands_there, len_there, name_end_at}
use Rattle.skip.specs.PastLaws.{past_end, past_from, Ran, past_ran}
use Rattle.name_runs.specs.RunsLaws.{name_over}
use Rattle.fast_names.proofs.name_end_near.Goals as goal
use Rattle.fast_names.proofs.name_end_near.Goals.{After-along-start, After-parts_end-end, After-reach}

-- the first character, where the lexer's reach is
first : (r : After-reach) → LenIs r.args.source.now r.reach.result.byte.0 r.args.len
first r = len_there (sym r.reach.ensures) r.requires.2

-- behind it
behind : (c : After-along-start) → Stands c.args.source.now c.along-start.result
behind c =
    rw c.along-start.ensures (along_stands _ _ _ _ _ (stands_there c.reach.ensures c.requires.0) (first (goal.at.After-along-start c).After-reach).at (first (goal.at.After-along-start c).After-reach).well (omega arith))

-- past the parts of the name, however the reach is written
ran : (p : After-parts_end-end) {r : Reach}
    → r ≡ along_by (p.parts_end-end.result - p.along-start.result.byte.0) (p.parts_end-end.result - p.along-start.result.byte.0) p.along-start.result
    → Ran (properties_at p.args.table.now) id_continue p.args.source.now p.along-start.result r
ran p e = past_ran _ _ p.requires.1 id_continue_once (λ x e. e) (behind (goal.at.After-parts_end-end p).After-along-start) (past_from p.parts_end-end.ensures.passed e)

pub along-start-requires : goal.along-start-requires
along-start-requires c =
    let o = stands_there c.reach.ensures c.requires.0 in
    record { byte_le_source_most = omega (arith, o.small, o.inside, o.columns, (first c).at.fits); column_le_column_most = omega (arith, o.small, o.inside, o.columns, (first c).at.fits) }

pub parts_end-end-requires : goal.parts_end-end-requires
parts_end-end-requires c = (behind c).inside

pub overflow_sub-end : goal.overflow_sub-end
overflow_sub-end c = c.parts_end-end.ensures.passed.on

-- the reach past them fits
fits : (p : After-parts_end-end) → let r = p.along-start.result in
    ((r.byte.0 ≤ source_most) × (p.parts_end-end.result - r.byte.0 ≤ source_most)) × (r.position.column.0 ≤ column_most)
fits p =
    let o = behind (goal.at.After-parts_end-end p).After-along-start in
    let q = p.parts_end-end.ensures.passed in
    omega (arith, o.small, o.inside, o.columns, q.on, q.within)

pub along_ascii-reach-requires : goal.along_ascii-reach-requires
along_ascii-reach-requires c =
    record { byte_le_source_most = (fits c).0; column_le_column_most = (fits c).1 }

pub returns-then-byte_at-lt128 : goal.returns-then-byte_at-lt128
returns-then-byte_at-lt128 c =
    let parts = c.parts_end-end.ensures in
    let at = past_end _ parts.passed c.along_ascii-reach.ensures in
    name_over _ _ c.requires.1 _ at c.byte_at.ensures c.if-byte_at-lt128.true parts.over
    ∙ (ran (goal.at.returns-then-byte_at-lt128 c).After-parts_end-end c.along_ascii-reach.ensures).same
    ∙ name_end_at _ _ _ c.reach.ensures (first (goal.at.returns-then-byte_at-lt128 c).After-reach).at c.along-start.ensures

pub overflow_sub-end-2 : goal.overflow_sub-end-2
overflow_sub-end-2 c = c.parts_end-end.ensures.passed.on

pub along_ascii-requires : goal.along_ascii-requires
along_ascii-requires c =
    record { byte_le_source_most = (fits (goal.at.along_ascii-requires c).After-parts_end-end).0; column_le_column_most = (fits (goal.at.along_ascii-requires c).After-parts_end-end).1 }

pub run_by-requires : goal.run_by-requires
run_by-requires c = c.requires.1.rises

pub end_of_parts-requires : goal.end_of_parts-requires
end_of_parts-requires c =
    ((ran (goal.at.end_of_parts-requires c).After-parts_end-end c.along_ascii.ensures).stands, c.requires.1, c.run_by.ensures)

pub returns : goal.returns
returns c =
    c.end_of_parts.ensures
    ∙ (ran (goal.at.returns c).After-parts_end-end c.along_ascii.ensures).same
    ∙ name_end_at _ _ _ c.reach.ensures (first (goal.at.returns c).After-reach).at c.along-start.ensures
