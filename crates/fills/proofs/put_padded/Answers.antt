-- `fills::put_padded` meets its contract: the laws of `Filling`, step by step. Assumes nothing.
use native.Mathlib.Omega.{arith}
use Rattle.fills.proofs.Filling.{lead_within, room_lead, room_text, room_old, room_trail, all_put}
use Rattle.fills.proofs.put_padded.Goals as goal

pub put_fill-start-requires : goal.put_fill-start-requires
put_fill-start-requires c =
    room_lead c.args.buffer.now c.args.text.now c.args.fill.now c.args.alignment c.args.n c.requires _ c.leading_of-lead.ensures

pub copy_in-requires : goal.copy_in-requires
copy_in-requires c =
    room_text c.args.buffer.now c.args.text.now c.args.fill.now c.args.alignment c.args.n c.requires _ c.leading_of-lead.ensures _ _ c.put_fill-start.ensures

pub overflow_add-end : goal.overflow_add-end
overflow_add-end c =
    omega (arith, c.well_formed.0, room_old c.args.buffer.now c.args.text.now c.args.fill.now c.args.alignment c.args.n c.requires _ c.leading_of-lead.ensures _ _ c.put_fill-start.ensures)

pub overflow_sub-n : goal.overflow_sub-n
overflow_sub-n c =
    omega (arith, lead_within c.args.alignment c.args.n _ c.leading_of-lead.ensures)

pub put_fill-requires : goal.put_fill-requires
put_fill-requires c =
    room_trail c.args.buffer.now c.args.text.now c.args.fill.now c.args.alignment c.args.n c.requires _ c.leading_of-lead.ensures _ _ c.put_fill-start.ensures _ c.copy_in.ensures

pub returns : goal.returns
returns c =
    all_put c.args.buffer.now c.args.text.now c.args.fill.now c.args.alignment c.args.n c.requires _ c.leading_of-lead.ensures _ _ c.put_fill-start.ensures _ c.copy_in.ensures _ _ c.put_fill.ensures
