-- `pad::pad_text` meets its contract: it takes the test of `in_room`. Assumes nothing.
use native.Mathlib.Omega.{arith}
use lib.ListN.{length}
use Rattle.property.specs.Table.{properties_at}
use Rattle.pad.specs.CallLaws.{few_bytes}
use Rattle.pad.proofs.Answers.{too_short, enough}
use Rattle.pad.proofs.pad_text.Goals as goal

pub overflow_mul-needed : goal.overflow_mul-needed
overflow_mul-needed c = omega (arith, few_bytes c.fills_of-n.result (length c.args.fill.now) c.fills_of-n.ensures.1 c.requires.well_formed.3)

pub overflow_add-needed : goal.overflow_add-needed
overflow_add-needed c =
    omega (arith, c.requires.well_formed.2, few_bytes c.fills_of-n.result (length c.args.fill.now) c.fills_of-n.ensures.1 c.requires.well_formed.3)

pub returns-then-buffer-needed : goal.returns-then-buffer-needed
returns-then-buffer-needed c =
    too_short (properties_at c.args.table.now) c.args.edition c.args.text.now c.args.alignment c.args.width
    c.args.fill.now c.args.buffer.now _ _ c.count_clusters-clusters.ensures c.fills_of-n.ensures.0 c.if-buffer-needed.true

pub returns : goal.returns
returns c =
    enough (properties_at c.args.table.now) c.args.edition c.args.text.now c.args.alignment c.args.width
    c.args.fill.now c.args.buffer.now _ _ c.count_clusters-clusters.ensures c.fills_of-n.ensures.0 c.if-buffer-needed.false
    _ _ c.put_padded.ensures
