-- `signs::curly_close` meets its contract: it is a symbol of one byte, and the mode decides. Assumes nothing.
use native.Mathlib.Omega.{arith}
use mathlib.Core.Path.{refl}
use Rattle.token.specs.Kind.{curly_close}
use Rattle.words.specs.Words.{starts_with}
use Rattle.symbols.specs.SymbolsLaws.{curly_close_is}
use Rattle.signs.specs.SignsLaws.{finds_sign_at, closes, closes_map, closes_none}
use Rattle.signs.proofs.curly_close.Goals as goal

pub returns-then-lexer : goal.returns-then-lexer
unfolding starts_with
returns-then-lexer c =
    finds_sign_at _ c.args.lexer c.requires.0 125 curly_close 1 _ c.requires.1 (omega arith) c.along.ensures (curly_close_is.is _ refl)
    (closes c.if-lexer.true)

pub returns-then-lexer-2 : goal.returns-then-lexer-2
unfolding starts_with
returns-then-lexer-2 c =
    finds_sign_at _ c.args.lexer c.requires.0 125 curly_close 1 _ c.requires.1 (omega arith) c.along-then-lexer-2.ensures (curly_close_is.is _ refl)
    (closes_map c.if-lexer.false c.if-lexer-2.true)

pub returns : goal.returns
unfolding starts_with
returns c =
    finds_sign_at _ c.args.lexer c.requires.0 125 curly_close 1 _ c.requires.1 (omega arith) c.along-2.ensures (curly_close_is.is _ refl)
    (closes_none c.if-lexer.false c.if-lexer-2.false)
