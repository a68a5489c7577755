-- `brackets::closes` meets its contract: it is a symbol of one byte, and the mode decides. Assumes nothing.
use native.Mathlib.Omega.{arith}
use mathlib.Core.Path.{refl}
use Rattle.base.specs.Range.{inside}
use Rattle.words.specs.Words.{starts_with}
use Rattle.symbols.specs.SymbolsLaws.{curly_close_is}
use Rattle.text.specs.Tests.{is_whitespace, is_line_end}
use Rattle.actions.specs.Actions.{action_of}
use Rattle.signs.specs.SignsLaws.{closes, closes_map}
use Rattle.brackets.specs.BracketsLaws.{closes_none, closes_in}
use Rattle.brackets.proofs.closes.Goals as goal

pub returns-then-source-at-ne125 : goal.returns-then-source-at-ne125
returns-then-source-at-ne125 c = closes_none

pub returns-then-lexer : goal.returns-then-lexer
unfolding action_of is_whitespace is_line_end inside starts_with
returns-then-lexer c =
    let p = c.requires in
    closes_in _ _ p.2 c.args.lexer p.0 p.1 125 (omega arith) refl c.if-source-at-ne125.false (curly_close_is.is _ refl) (closes c.if-lexer.true)

pub returns-then-lexer-2 : goal.returns-then-lexer-2
unfolding action_of is_whitespace is_line_end inside starts_with
returns-then-lexer-2 c =
    let p = c.requires in
    closes_in _ _ p.2 c.args.lexer p.0 p.1 125 (omega arith) refl c.if-source-at-ne125.false (curly_close_is.is _ refl) (closes_map c.if-lexer.false c.if-lexer-2.true)

pub returns : goal.returns
returns c = closes_none
