-- `fill_fits::many_fits` meets its contract: each return is a case of `Many`. Assumes nothing.
use mathlib.Core.Path.{sym, ap, ◌∙◌}
use mathlib.Core.Bool.{not}
use Rattle.property.specs.Table.{properties_at}
use Rattle.fill_fits.specs.FitsLaws.{many, plains_of}
use Rattle.fill_fits.proofs.many_fits.Goals as goal

pub returns-then-is_taken : goal.returns-then-is_taken
returns-then-is_taken c =
    let v = many (properties_at c.args.table.now) c.args.edition c.args.fields c.args.fill.now c.args.c c.args.d (plains_of _ c.requires.2) c.requires.1 c.requires.0 in
    sym (v.by_taken (sym c.is_taken.ensures ∙ c.if-is_taken.true))

pub returns-then-c-eq-DOT : goal.returns-then-c-eq-DOT
returns-then-c-eq-DOT c =
    let v = many (properties_at c.args.table.now) c.args.edition c.args.fields c.args.fill.now c.args.c c.args.d (plains_of _ c.requires.2) c.requires.1 c.requires.0 in
    sym (v.by_dot (sym c.is_taken.ensures ∙ c.if-is_taken.false) c.if-c-eq-DOT.true)

pub returns-then-is_sign : goal.returns-then-is_sign
returns-then-is_sign c =
    let v = many (properties_at c.args.table.now) c.args.edition c.args.fields c.args.fill.now c.args.c c.args.d (plains_of _ c.requires.2) c.requires.1 c.requires.0 in
    sym (v.by_sign (sym c.is_taken.ensures ∙ c.if-is_taken.false) c.if-c-eq-DOT.false (sym c.is_sign.ensures ∙ c.if-is_sign.true))

pub returns-then-cluster_end-fill : goal.returns-then-cluster_end-fill
returns-then-cluster_end-fill c =
    let v = many (properties_at c.args.table.now) c.args.edition c.args.fields c.args.fill.now c.args.c c.args.d (plains_of _ c.requires.2) c.requires.1 c.requires.0 in
    sym (v.by_more (sym c.is_taken.ensures ∙ c.if-is_taken.false) c.if-c-eq-DOT.false (sym c.is_sign.ensures ∙ c.if-is_sign.false) _ c.cluster_end.ensures c.if-cluster_end-fill.true)

pub returns-then-is_default : goal.returns-then-is_default
returns-then-is_default c =
    let v = many (properties_at c.args.table.now) c.args.edition c.args.fields c.args.fill.now c.args.c c.args.d (plains_of _ c.requires.2) c.requires.1 c.requires.0 in
    ap not c.has_tail.ensures
    ∙ sym (v.by_alone (sym c.is_taken.ensures ∙ c.if-is_taken.false) c.if-c-eq-DOT.false (sym c.is_sign.ensures ∙ c.if-is_sign.false) _ c.cluster_end.ensures c.if-cluster_end-fill.false (sym c.is_default.ensures ∙ c.if-is_default.true))

pub returns : goal.returns
returns c =
    let v = many (properties_at c.args.table.now) c.args.edition c.args.fields c.args.fill.now c.args.c c.args.d (plains_of _ c.requires.2) c.requires.1 c.requires.0 in
    ap not c.joins_sign.ensures
    ∙ sym (v.by_joined (sym c.is_taken.ensures ∙ c.if-is_taken.false) c.if-c-eq-DOT.false (sym c.is_sign.ensures ∙ c.if-is_sign.false) _ c.cluster_end.ensures c.if-cluster_end-fill.false (sym c.is_default.ensures ∙ c.if-is_default.false))
