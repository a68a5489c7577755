-- `fast_names::name_end` meets its contract: it hands on what `name_end_near` finds. Assumes nothing.
use Rattle.fast_names.proofs.name_end.Goals as goal

pub name_end_near-ended-requires : goal.name_end_near-ended-requires
name_end_near-ended-requires c = c.requires

pub returns : goal.returns
returns c = c.name_end_near-ended.ensures
