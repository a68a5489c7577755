-- `plain_code::curly_close` meets its contract: where no mode is on top it is a symbol of one byte. Assumes nothing.
use native.Mathlib.Omega.{arith}
use Prim.Native.Nat.{ℕ}
use mathlib.Core.Path.{◌≡◌, refl}
use Rattle.token.specs.Kind.{curly_close}
use Rattle.words.specs.Words.{starts_with}
use Rattle.symbols.specs.SymbolsLaws.{curly_close_is}
use Rattle.state.specs.declared.Change.TheVariants.{Keep}
use Rattle.symbol_tokens.specs.ConsumeSymbol.{symbol_change}
use Rattle.plain_code.specs.PlainCodeLaws.{finds_byte}
use Rattle.plain_code.proofs.curly_close.Goals as goal

closes_none : {mode : ℕ} → mode ≡ 0 → symbol_change mode curly_close ≡ Keep
unfolding symbol_change
closes_none e = rw e

pub returns : goal.returns
unfolding starts_with
returns c =
    finds_byte _ c.args.lexer c.requires.0 125 curly_close c.requires.1 (omega arith) (curly_close_is.is _ refl) (closes_none (omega arith)) refl
