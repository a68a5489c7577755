-- `plain_step::found_by_mode` meets its contract: the mode's tag picks the arm of `take_token`. Assumes nothing.
use Prim.Native.Nat.{ℕ}
use mathlib.Core.Path.{sym, ap, ◌∙◌}
use Rattle.property.specs.Table.{properties_at}
use Rattle.text.specs.Stands.{chars_from}
use Rattle.state.specs.Modes.{delimiter_of}
use Rattle.state.specs.Lexer.{reach_of}
use Rattle.lexer.specs.GetNextToken.{next_char, in_literal}
use Rattle.lexer.specs.ArmLaws.{quote_small, take_literal, take_code}
use Rattle.found.specs.FoundLaws.{finds_same, finds_nothing}
use Rattle.plain_step.proofs.found_by_mode.Goals as goal

pub in_literal-requires : goal.in_literal-requires
in_literal-requires c =
    let p = c.requires in
    (p.stands.0, p.stands.1, rw c.quote_of.ensures (quote_small (delimiter_of c.args.lexer.mode)))

pub found_in_code-requires : goal.found_in_code-requires
found_in_code-requires c =
    let p = c.requires in
    let r = c.in_default.in_default-own.rest in
    record { stands = (p.stands.0, p.stands.1, record { no_literal = r.0.0.0.1; no_format = r.0.0.1; no_start = r.0.1; no_end = r.1 }); class_table = (p.fit_table.1, p.fit_table.2) }

pub returns-in-1 : goal.returns-in-1
returns-in-1 c =
    let l = c.args.lexer in
    let look = properties_at c.args.table.now in
    let cs = chars_from c.args.source.now (reach_of l) in
    λ edition.
    finds_same
    (ap (λ (q : ℕ). in_literal look q (next_char cs) cs l) c.quote_of.ensures
    ∙ sym (take_literal look edition cs l c.in-1.is))
    c.in_literal.ensures

pub returns-in-4 : goal.returns-in-4
returns-in-4 c = λ edition. finds_nothing c.nothing.ensures

pub returns-in-5 : goal.returns-in-5
returns-in-5 c = λ edition. finds_nothing c.nothing-in-5.ensures

pub returns-in-6 : goal.returns-in-6
returns-in-6 c = λ edition. finds_nothing c.nothing-in-6.ensures

pub returns-in_default : goal.returns-in_default
returns-in_default c =
    let l = c.args.lexer in
    let r = c.in_default.in_default-own.rest in
    λ edition.
    finds_same
    (sym
    (take_code (properties_at c.args.table.now) edition (chars_from c.args.source.now (reach_of l)) l r.0.0.0.1 r.0.0.1 r.0.1 r.1))
    (c.found_in_code.ensures c.args.table.now c.requires.fit_table.0)
