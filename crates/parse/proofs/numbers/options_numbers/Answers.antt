-- `numbers::options_numbers` meets its contract: each number is that of its option. Assumes nothing.
use Rattle.parse.proofs.numbers.options_numbers.Goals as goal

pub returns : goal.returns
returns c =
    rw (
      c.alignment_number.ensures,
      c.given_number.ensures,
      c.given_number-2.ensures,
      c.shown_number.ensures,
      c.fill_place.ensures,
      c.fill_len.ensures,
      c.given_number-3.ensures,
    )
