-- `symbol_tokens::consume_symbol` meets its contract: the symbol at the bytes that are left is that of the characters that are left. Assumes nothing.
use native.Mathlib.Omega.{arith}
use mathlib.Core.Path.{◌≡◌, sym, ap, ◌∙◌}
use lib.ListN.{drop}
use Rattle.utf8.specs.Encode.{encode_all}
use Rattle.utf8.specs.CharsLaws.{chars_well}
use Rattle.symbols.specs.Symbols.{symbol_of}
use Rattle.symbols.specs.SymbolsLaws.{symbol_is}
use Rattle.text.specs.Stands.{chars_from}
use Rattle.state.specs.Lexer.{reach_of}
use Rattle.symbol_tokens.proofs.consume_symbol.Goals as goal
use Rattle.symbol_tokens.proofs.consume_symbol.Goals.{Start}

-- the characters that are left have the bytes that are left
found : (start : Start)
    → symbol_of (encode_all (chars_from start.args.source.now (reach_of start.args.lexer)))
    ≡ symbol_of (drop (reach_of start.args.lexer).byte.0 start.args.source.now)
found start = ap symbol_of (sym (chars_well _ start.requires.0.well).0)

pub advance_line-requires : goal.advance_line-requires
advance_line-requires c =
    let i = symbol_is (drop (reach_of c.args.lexer).byte.0 c.args.source.now) (sym c.symbol_at.ensures ∙ c.in-Some.is) in
    omega (arith, i.few, c.requires)

pub returns-in-Some : goal.returns-in-Some
returns-in-Some c =
    let e = found (goal.at.returns-in-Some c).Start ∙ sym c.symbol_at.ensures ∙ c.in-Some.is in
    rw e (cc)

pub returns-in-None : goal.returns-in-None
returns-in-None c =
    let e = found (goal.at.returns-in-None c).Start ∙ sym c.symbol_at.ensures ∙ c.in-None.is in
    rw e c.token.ensures
