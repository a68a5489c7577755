-- `lexer::in_rest` meets its contract: what the character begins is what the arm takes. Assumes nothing.
use mathlib.Core.Path.{◌≡◌, sym, ap, subst, ◌∙◌}
use mathlib.Core.List.{List}
use Prim.Native.Nat.{ℕ}
use Rattle.property.specs.Table.{properties_at}
use Rattle.text.specs.Stands.{chars_from}
use Rattle.state.specs.Lexer.{reach_of}
use Rattle.state.specs.declared.Lexer.{Lexer}
use Rattle.state.specs.declared.Taken.{Taken}
use Rattle.lexer.specs.Arms.{InCodeIs, taken_by, DigitAt, BeginsIs}
use Rattle.lexer.specs.declared.Begins.{Begins}
use Rattle.lexer.proofs.in_rest.Goals as goal

-- what is taken by what the character begins
taken : (s table : List ℕ) (l : Lexer) {r b : Begins} {t : Taken} → BeginsIs s table l r → r ≡ b
    → t ≡ taken_by (properties_at table) b (chars_from s (reach_of l)) l → InCodeIs s table l t
taken s table l {r} {b} o e q = q ∙ ap (λ (x : Begins). taken_by (properties_at table) x (chars_from s (reach_of l)) l) (sym e) ∙ o.arm

pub consume_number-requires : goal.consume_number-requires
consume_number-requires c =
    record { stands = c.requires.stands.0; bound = subst (DigitAt c.args.source.now (reach_of c.args.lexer).byte.0) c.in-Number.is c.what_begins.ensures.digit }

pub returns-in-Number : goal.returns-in-Number
returns-in-Number c = taken _ _ _ c.what_begins.ensures c.in-Number.is c.consume_number.ensures

pub returns-in-Name : goal.returns-in-Name
returns-in-Name c = taken _ _ _ c.what_begins.ensures c.in-Name.is c.consume_id_or_keyword.ensures

pub returns-in-Symbol : goal.returns-in-Symbol
returns-in-Symbol c = taken _ _ _ c.what_begins.ensures c.in-Symbol.is c.consume_symbol.ensures
