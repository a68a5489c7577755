-- `signs::curly_open` meets its contract: it is a symbol of one byte, and the mode decides. Assumes nothing.
use native.Mathlib.Omega.{arith}
use mathlib.Core.Path.{refl}
use Rattle.token.specs.Kind.{curly_open}
use Rattle.words.specs.Words.{starts_with}
use Rattle.symbols.specs.SymbolsLaws.{curly_open_is}
use Rattle.signs.specs.SignsLaws.{finds_sign_at, opens_map, stays}
use Rattle.signs.proofs.curly_open.Goals as goal

pub returns-then-lexer : goal.returns-then-lexer
unfolding starts_with
returns-then-lexer c =
    finds_sign_at _ c.args.lexer c.requires.0 123 curly_open 1 _ c.requires.1 (omega arith) c.along.ensures (curly_open_is.is _ refl)
    (opens_map c.if-lexer.true)

pub returns : goal.returns
unfolding starts_with
returns c =
    finds_sign_at _ c.args.lexer c.requires.0 123 curly_open 1 _ c.requires.1 (omega arith) c.along-2.ensures (curly_open_is.is _ refl)
    (stays c.if-lexer.false curly_open refl)
