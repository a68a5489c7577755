-- `signs::minus` meets its contract: the byte behind it decides. Assumes nothing.
use native.Mathlib.Omega.{arith}
use Prim.Native.Nat.{◌+◌}
use mathlib.Core.Path.{refl}
use Rattle.token.specs.Kind.{arrow, subtract, subtract_assign}
use Rattle.signs.specs.SignsLaws.{starts_yes, starts_no, finds_sign_at, plain_kind, minus_arrow, minus_equals, minus_alone}
use Rattle.signs.proofs.minus.Goals as goal

pub returns-then-next-eq-GREATER : goal.returns-then-next-eq-GREATER
returns-then-next-eq-GREATER c =
    finds_sign_at _ c.args.lexer c.requires.0 45 arrow 2 _ c.requires.1 (omega arith) c.along.ensures
    (minus_arrow _ (starts_yes c.args.source.now (c.args.lexer.place.current_byte.0 + 1) 62 _ (omega arith) c.byte_at-next.ensures c.if-next-eq-GREATER.true)) ((plain_kind arrow refl).keeps _)

pub returns-then-next-eq-EQUALS : goal.returns-then-next-eq-EQUALS
returns-then-next-eq-EQUALS c =
    finds_sign_at _ c.args.lexer c.requires.0 45 subtract_assign 2 _ c.requires.1 (omega arith) c.along-then-next-eq-EQUALS.ensures
    (minus_equals _ (starts_no c.args.source.now (c.args.lexer.place.current_byte.0 + 1) 62 _ (omega arith) c.byte_at-next.ensures c.if-next-eq-GREATER.false)
    (starts_yes c.args.source.now (c.args.lexer.place.current_byte.0 + 1) 61 _ (omega arith) c.byte_at-next.ensures c.if-next-eq-EQUALS.true))
    ((plain_kind subtract_assign refl).keeps _)

pub returns : goal.returns
returns c =
    finds_sign_at _ c.args.lexer c.requires.0 45 subtract 1 _ c.requires.1 (omega arith) c.along-2.ensures
    (minus_alone _ (starts_no c.args.source.now (c.args.lexer.place.current_byte.0 + 1) 62 _ (omega arith) c.byte_at-next.ensures c.if-next-eq-GREATER.false)
    (starts_no c.args.source.now (c.args.lexer.place.current_byte.0 + 1) 61 _ (omega arith) c.byte_at-next.ensures c.if-next-eq-EQUALS.false))
    ((plain_kind subtract refl).keeps _)
