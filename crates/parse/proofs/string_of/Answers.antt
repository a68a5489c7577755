-- `parse::string_of` meets its contract: a fill is a part of the format string, and no fill is none of it. Assumes nothing.
use native.Mathlib.Omega.{arith}
use Rattle.parse.specs.PlanLaws.{string_is, part_in}
use Rattle.parse.proofs.string_of.Goals as goal

pub overflow_add-result : goal.overflow_add-result
overflow_add-result c = omega (arith, part_in c.args.format.now c.args.fill _ c.in-Some.is c.requires)

pub slice_bounds-result-end : goal.slice_bounds-result-end
slice_bounds-result-end c = part_in c.args.format.now c.args.fill _ c.in-Some.is c.requires

pub returns-in-Some : goal.returns-in-Some
returns-in-Some c = string_is c.args.format.now c.args.fill _ c.in-Some.is
