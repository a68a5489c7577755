-- `property::lookup` meets its contract: the properties are those of the run that has the code point. Assumes nothing.
use mathlib.Core.Path.{sym, ◌∙◌}
use Rattle.property.specs.TableLaws.{run_properties}
use Rattle.property.proofs.lookup.Goals as goal

pub properties_in-requires : goal.properties_in-requires
properties_in-requires c = c.run_of.ensures.within

pub returns : goal.returns
returns c = c.properties_in.ensures ∙ sym (run_properties _ _ _ c.run_of.ensures)
