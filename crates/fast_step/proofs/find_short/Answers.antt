-- `fast_step::find_short` meets its contract: at an ASCII byte what is found of the token is found of the step. Assumes nothing.
use native.Mathlib.Omega.{arith}
use Rattle.fast_step.specs.FastStepLaws.{step_none, step_stands, step_by}
use Rattle.fast_step.proofs.find_short.Goals as goal

pub returns-then-byte_at-gt127 : goal.returns-then-byte_at-gt127
returns-then-byte_at-gt127 c = step_none c.nothing.ensures

pub find-requires : goal.find-requires
find-requires c =
    let p = c.requires in
    record { stands = step_stands c.args.source.now c.args.lexer c.byte_at.result c.byte_at.ensures (omega (arith, c.if-byte_at-gt127.false)) p.0 c.settle.ensures; fit_table = (p.1, p.2) }

pub returns : goal.returns
returns c =
    step_by c.args.source.now c.args.lexer c.byte_at.result c.byte_at.ensures (omega (arith, c.if-byte_at-gt127.false)) c.args.table.now
    c.requires.0 c.settle.ensures c.find.ensures
