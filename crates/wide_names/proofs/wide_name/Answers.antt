-- `wide_names::wide_name` meets its contract: the arm of `get_next_token` is that of names, the name reaches to `name_end`, and it is no keyword.
-- Assumes nothing.
use borrow.Author.Tests.{lt-ltb}
use native.Mathlib.Omega.{arith}
use mathlib.Core.Path.{◌≡◌, refl, sym, ap, subst, ◌∙◌}
use lib.ListN.{length, get_or}
use Rattle.position.specs.declared.Reach.{Reach}
use Rattle.utf8.specs.Chars.{At}
use Rattle.property.specs.Parts.{xid_start}
use Rattle.property.specs.Table.{properties_at}
use Rattle.token.specs.Kind.{id}
use Rattle.text.specs.Bytes.{byte_at}
use Rattle.text.specs.Chars.{CharIs}
use Rattle.text.specs.CountLaws.{along_stands}
use Rattle.text.specs.Stands.{Stands, chars_from}
use Rattle.state.specs.Lexer.{reach_of, token_to}
use Rattle.names.specs.ConsumeIdOrKeyword.{name_end}
use Rattle.names.specs.NameLaws.{stands_there, name_end_at}
use Rattle.lexer.specs.ArmLaws.{wide, wide_name}
use Rattle.found.specs.FoundLaws.{finds_nothing, finds_to}
use Rattle.name_runs.specs.RunsLaws.{char_by, point_is}
use Rattle.wide_names.specs.WideLaws.{id_token}
use Rattle.wide_names.proofs.wide_name.Goals as goal
use Rattle.wide_names.proofs.wide_name.Goals.{After-reach-reach, After-run_with-run}

-- the reach stands in the source
stands : (r : After-reach-reach) → Stands r.args.source.now r.reach-reach.result
stands r = stands_there r.reach-reach.ensures r.requires.stands.0

-- the first character
first : (d : After-run_with-run)
    → CharIs d.args.source.now d.args.table.now d.reach-reach.result.byte.0
    (char_by d.decode-first.result d.run_with-run.result)
first d = point_is (stands (goal.at.After-run_with-run d).After-reach-reach).well d.decode-first.ensures d.run_with-run.ensures

pub decode-first-requires : goal.decode-first-requires
decode-first-requires c = let p = c.requires in rw c.reach-reach.ensures (p.stands.0.well, p.stands.1, p.fit_table.1)

pub run_by-requires : goal.run_by-requires
run_by-requires c = c.requires.fit_table.0.rises

pub run_with-run-requires : goal.run_with-run-requires
run_with-run-requires c = (c.requires.fit_table.0.rises, c.run_by.ensures)

pub returns-then-not-is_id_start : goal.returns-then-not-is_id_start
returns-then-not-is_id_start c = finds_nothing c.nothing.ensures

pub along-requires : goal.along-requires
along-requires c =
    let o = stands (goal.at.along-requires c).After-reach-reach in
    record { byte_le_source_most = omega (arith, o.small, o.inside, o.columns, (first (goal.at.along-requires c).After-run_with-run).at.fits); column_le_column_most = omega (arith, o.small, o.inside, o.columns, (first (goal.at.along-requires c).After-run_with-run).at.fits) }

pub end_of_parts-ended-requires : goal.end_of_parts-ended-requires
end_of_parts-ended-requires c = (
  rw c.along.ensures (along_stands _ _ _ _ _ (stands (goal.at.end_of_parts-ended-requires c).After-reach-reach) (first (goal.at.end_of_parts-ended-requires c).After-run_with-run).at (first (goal.at.end_of_parts-ended-requires c).After-run_with-run).well (omega arith)),
  c.requires.fit_table.0,
  c.run_with-run.ensures.runs,
)

pub returns : goal.returns
returns c =
    let p = c.requires in
    let l = c.args.lexer in
    let s = c.args.source.now in
    let table = c.args.table.now in
    let look = properties_at table in
    let i = (reach_of l).byte.0 in
    let cs = chars_from s (reach_of l) in
    let point = c.decode-first.result in
    let at : At s i point.code point.len = subst (λ (x : Reach). At s x.byte.0 point.code point.len) c.reach-reach.ensures (first (goal.at.returns c).After-run_with-run).at in
    let byte : byte_at s i ≡ get_or s i 0 = rw (lt-ltb i (length s) p.stands.1) in
    let high = wide s i point.code point.len p.stands.0.well p.stands.1 (omega (arith, byte, p.fit_table.1)) at in
    let begins = ap xid_start (sym c.run_with-run.ensures.has) ∙ sym c.is_id_start.ensures ∙ c.if-not-is_id_start.false in
    let end : c.end_of_parts-ended.result.reach ≡ name_end look cs l =
    c.end_of_parts-ended.ensures ∙ name_end_at look s l c.reach-reach.ensures (first (goal.at.returns c).After-run_with-run).at c.along.ensures
    in
    finds_to id c.end_of_parts-ended.result.reach c.to.ensures
    (sym (wide_name s table l point.code point.len at high begins refl)
    ∙ id_token s l (name_end look cs l) p.stands.0 p.stands.1 p.fit_table.1
    ∙ ap (λ (x : Reach). token_to id x l) (sym end))
