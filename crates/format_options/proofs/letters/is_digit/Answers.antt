-- `format_options::letters::is_digit` meets its contract: a digit is a number in a range. Assumes nothing.
use Rattle.format_options.specs.Letters.{is_digit}
use Rattle.format_options.proofs.letters.is_digit.Goals as goal

pub returns : goal.returns
unfolding is_digit
returns c = c.code_between.ensures
