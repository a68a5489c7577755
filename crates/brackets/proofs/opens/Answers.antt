-- `brackets::opens` meets its contract: the byte decides, and for a symbol of a template the mode too. Assumes nothing.
use native.Mathlib.Omega.{arith}
use mathlib.Core.Path.{refl}
use Rattle.base.specs.Range.{inside}
use Rattle.token.specs.Kind.{colon, curly_open}
use Rattle.words.specs.Words.{starts_with}
use Rattle.symbols.specs.SymbolsLaws.{colon_is, curly_open_is}
use Rattle.text.specs.Tests.{is_whitespace, is_line_end}
use Rattle.actions.specs.Actions.{action_of}
use Rattle.signs.specs.SignsLaws.{opens_map, opens_format}
use Rattle.brackets.specs.BracketsLaws.{opens_none, opens_string, opens_in_template}
use Rattle.brackets.proofs.opens.Goals as goal

pub returns-then-b-eq34 : goal.returns-then-b-eq34
unfolding action_of is_whitespace is_line_end inside
returns-then-b-eq34 c =
    let p = c.requires in
    opens_string _ _ p.2 c.args.lexer p.0 p.1 34 3 0 512 (omega arith) refl refl c.if-b-eq34.true c.open_with.ensures

pub returns-then-b-eq39 : goal.returns-then-b-eq39
unfolding action_of is_whitespace is_line_end inside
returns-then-b-eq39 c =
    let p = c.requires in
    opens_string _ _ p.2 c.args.lexer p.0 p.1 39 4 1 513 (omega arith) refl refl c.if-b-eq39.true c.open_with-then-b-eq39.ensures

pub returns-then-lexer : goal.returns-then-lexer
returns-then-lexer c = opens_none c.none.ensures

pub returns-then-b-eq58 : goal.returns-then-b-eq58
unfolding action_of is_whitespace is_line_end inside starts_with
returns-then-b-eq58 c =
    let p = c.requires in
    opens_in_template _ _ p.2 c.args.lexer p.0 p.1 58 colon 2048 (omega arith) refl c.if-b-eq58.true (colon_is.is _ refl)
    (opens_format c.if-lexer.false) c.open_with-then-b-eq58.ensures

pub returns-then-b-eq123 : goal.returns-then-b-eq123
unfolding action_of is_whitespace is_line_end inside starts_with
returns-then-b-eq123 c =
    let p = c.requires in
    opens_in_template _ _ p.2 c.args.lexer p.0 p.1 123 curly_open 1536 (omega arith) refl c.if-b-eq123.true (curly_open_is.is _ refl)
    (opens_map c.if-lexer.false) c.open_with-then-b-eq123.ensures

pub returns : goal.returns
returns c = opens_none c.none-2.ensures
