-- `signs::operator` meets its contract: `with_equals` and `alone` tell its symbol, by the byte behind it. Assumes nothing.
use native.Mathlib.Omega.{arith}
use Prim.Native.Nat.{◌+◌}
use mathlib.Core.Path.{refl}
use Rattle.signs.specs.SignsLaws.{starts_yes, starts_no, finds_sign}
use Rattle.signs.proofs.operator.Goals as goal

pub returns-then-byte_at-eq-EQUALS : goal.returns-then-byte_at-eq-EQUALS
returns-then-byte_at-eq-EQUALS c =
    let r = c.with_equals.ensures in
    finds_sign _ c.args.lexer c.requires.0 c.requires.1 _ _ 2 _ refl c.along.ensures
    (λ n. r.is n _ (starts_yes c.args.source.now (c.args.lexer.place.current_byte.0 + 1) 61 _ (omega arith) c.byte_at.ensures c.if-byte_at-eq-EQUALS.true)) (r.plain.keeps _)

pub returns : goal.returns
returns c =
    let r = c.alone.ensures in
    finds_sign _ c.args.lexer c.requires.0 c.requires.1 _ _ 1 _ refl c.along-2.ensures
    (λ n. r.is n _ (starts_no c.args.source.now (c.args.lexer.place.current_byte.0 + 1) 61 _ (omega arith) c.byte_at.ensures c.if-byte_at-eq-EQUALS.false)) (r.plain.keeps _)
