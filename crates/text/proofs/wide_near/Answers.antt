-- `text::wide_near` meets its contract: the character is what `decode` reads, and its properties are those of the run that has it.
-- Assumes nothing.
use mathlib.Core.Path.{sym, ◌∙◌}
use Rattle.property.specs.TableLaws.{run_properties}
use Rattle.text.proofs.Found.{read_is}
use Rattle.text.proofs.wide_near.Goals as goal

pub returns : goal.returns
returns c =
    read_is c.args.source.now c.args.at c.requires.well_formed.0 _ _ _ _ c.decode-c.ensures
    (c.properties_in.ensures ∙ sym (run_properties _ _ _ c.run_near-run.ensures))
