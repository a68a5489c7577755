-- `name_words::outs` meets its contract: its sums fit, and it is the definition. Assumes nothing.
use native.Mathlib.Omega.{arith}
use mathlib.Core.Path.{refl}
use lib.Bits.{bit_and, and_le_r, or_add_and}
use Rattle.name_words.specs.Outs.{outs_by, each}
use Rattle.name_words.proofs.outs.Goals as goal

pub overflow_add-letters : goal.overflow_add-letters
overflow_add-letters c = omega (arith, and_le_r c.args.x 0x7f7f7f7f7f7f7f7f, or_add_and (bit_and c.args.x 0x7f7f7f7f7f7f7f7f) 0x2020202020202020)

pub overflow_add-letters-2 : goal.overflow_add-letters-2
overflow_add-letters-2 c = omega (arith, and_le_r c.args.x 0x7f7f7f7f7f7f7f7f, or_add_and (bit_and c.args.x 0x7f7f7f7f7f7f7f7f) 0x2020202020202020)

pub overflow_add-digits : goal.overflow_add-digits
overflow_add-digits c = omega (arith, and_le_r c.args.x 0x7f7f7f7f7f7f7f7f)

pub overflow_add-digits-2 : goal.overflow_add-digits-2
overflow_add-digits-2 c = omega (arith, and_le_r c.args.x 0x7f7f7f7f7f7f7f7f)

pub overflow_add-underscores : goal.overflow_add-underscores
overflow_add-underscores c = omega (arith, and_le_r c.args.x 0x7f7f7f7f7f7f7f7f)

pub overflow_add-underscores-2 : goal.overflow_add-underscores-2
overflow_add-underscores-2 c = omega (arith, and_le_r c.args.x 0x7f7f7f7f7f7f7f7f)

pub returns : goal.returns
unfolding outs_by each
returns c = refl
