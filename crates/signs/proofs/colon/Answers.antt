-- `signs::colon` meets its contract: it is a symbol of one byte, and the mode decides. Assumes nothing.
use native.Mathlib.Omega.{arith}
use mathlib.Core.Path.{refl}
use Rattle.token.specs.Kind.{colon}
use Rattle.words.specs.Words.{starts_with}
use Rattle.symbols.specs.SymbolsLaws.{colon_is}
use Rattle.signs.specs.SignsLaws.{finds_sign_at, opens_format, stays}
use Rattle.signs.proofs.colon.Goals as goal

pub returns-then-lexer : goal.returns-then-lexer
unfolding starts_with
returns-then-lexer c =
    finds_sign_at _ c.args.lexer c.requires.0 58 colon 1 _ c.requires.1 (omega arith) c.along.ensures (colon_is.is _ refl)
    (opens_format c.if-lexer.true)

pub returns : goal.returns
unfolding starts_with
returns c =
    finds_sign_at _ c.args.lexer c.requires.0 58 colon 1 _ c.requires.1 (omega arith) c.along-2.ensures (colon_is.is _ refl)
    (stays c.if-lexer.false colon refl)
