-- `signs::dot` meets its contract: where no dot follows it is the symbol. Assumes nothing.
use native.Mathlib.Omega.{arith}
use Prim.Native.Nat.{◌+◌}
use mathlib.Core.Path.{refl}
use Rattle.token.specs.Kind.{dot}
use Rattle.found.specs.FoundLaws.{finds_nothing}
use Rattle.signs.specs.SignsLaws.{starts_no, finds_sign_at, plain_kind, dot_alone}
use Rattle.signs.proofs.dot.Goals as goal

pub returns-then-byte_at-eq-DOT : goal.returns-then-byte_at-eq-DOT
returns-then-byte_at-eq-DOT c = finds_nothing c.nothing.ensures

pub returns : goal.returns
returns c =
    finds_sign_at _ c.args.lexer c.requires.0 46 dot 1 _ c.requires.1 (omega arith) c.along.ensures
    (dot_alone _ (starts_no c.args.source.now (c.args.lexer.place.current_byte.0 + 1) 46 _ (omega arith) c.byte_at.ensures c.if-byte_at-eq-DOT.false)) ((plain_kind dot refl).keeps _)
