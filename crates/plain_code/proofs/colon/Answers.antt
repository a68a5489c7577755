-- `plain_code::colon` meets its contract: outside a template it is a symbol of one byte. Assumes nothing.
use native.Mathlib.Omega.{arith}
use mathlib.Core.Path.{refl}
use Rattle.token.specs.Kind.{colon}
use Rattle.words.specs.Words.{starts_with}
use Rattle.symbols.specs.SymbolsLaws.{colon_is}
use Rattle.signs.specs.SignsLaws.{stays}
use Rattle.plain.specs.PlainLaws.{plain_none}
use Rattle.plain_code.specs.PlainCodeLaws.{finds_byte}
use Rattle.plain_code.proofs.colon.Goals as goal

pub returns-then-lexer : goal.returns-then-lexer
returns-then-lexer c = plain_none c.none.ensures

pub returns : goal.returns
unfolding starts_with
returns c =
    finds_byte _ c.args.lexer c.requires.0 58 colon c.requires.1 (omega arith) (colon_is.is _ refl) (stays c.if-lexer.false colon refl) refl
