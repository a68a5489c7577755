-- `plain_step::find_plain` meets its contract: at an ASCII byte what is found of the token is found of the step. Assumes nothing.
use native.Mathlib.Omega.{arith}
use Rattle.fast_step.specs.FastStepLaws.{step_stands, step_by}
use Rattle.plain_step.proofs.find_plain.Goals as goal

pub found_by_mode-requires : goal.found_by_mode-requires
found_by_mode-requires c =
    let p = c.requires in
    record { stands = step_stands c.args.source.now c.args.lexer c.byte_at.result c.byte_at.ensures (omega arith) p.fine.0 c.settle.ensures; fit_table = (p.fine.1, p.class_table.0, p.class_table.1) }

pub returns : goal.returns
returns c =
    step_by c.args.source.now c.args.lexer c.byte_at.result c.byte_at.ensures (omega arith) c.args.table.now
    c.requires.fine.0 c.settle.ensures c.found_by_mode.ensures
