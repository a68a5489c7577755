-- `text::char_near` meets its contract: a byte below 128 is the character, with the properties that a fit table fixes; any other is
-- `wide_near`'s. Assumes nothing.
use Rattle.text.proofs.Found.{ascii_is}
use Rattle.text.proofs.char_near.Goals as goal

pub returns-then-b-lt128 : goal.returns-then-b-lt128
returns-then-b-lt128 c =
    ascii_is c.args.source.now c.args.at c.requires.well_formed.0 c.requires.well_formed.1 _ c.requires.fit_table c.if-b-lt128.true _
    c.ascii_properties.ensures
