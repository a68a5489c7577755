-- `asked::fields_of` meets its contract: each field is that of its number. Assumes nothing.
use Rattle.asked.specs.FieldsLaws.{fields_width, fields_precision}
use Rattle.asked.proofs.fields_of.Goals as goal

pub number_of-requires : goal.number_of-requires
number_of-requires c = fields_width _ _ _ _ c.requires

pub number_of-requires-2 : goal.number_of-requires-2
number_of-requires-2 c = fields_precision _ _ _ _ c.requires
