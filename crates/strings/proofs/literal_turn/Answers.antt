-- `strings::literal_turn` meets its contract: it takes the tests of `literal_at` in their order. Assumes nothing.
use native.Mathlib.Omega.{arith}
use mathlib.Core.Path.{sym, ◌∙◌}
use mathlib.Core.Logic.{⊎_elim}
use Rattle.base.specs.CasesLaws.{cases}
use Rattle.text.specs.Tests.{backslash}
use Rattle.text.specs.FollowLaws.{one_ascii}
use Rattle.strings.specs.TurnLaws.{literal_at}
use Rattle.newlines.specs.TurnLaws.{printable_at}
use Rattle.strings.proofs.literal_turn.Goals as goal

pub returns-then-b-quote : goal.returns-then-b-quote
returns-then-b-quote c =
    let p = c.requires in
    sym
    (literal_at _ _ p.well_formed.0 p.well_formed.1 _ _ p.fit_table.1
    ∙ ⊎_elim (λ w. search cases) (λ w. search cases) c.then-b-quote.either)

pub escape_turn-requires : goal.escape_turn-requires
escape_turn-requires c =
    let e = sym c.byte_at-b.ensures ∙ c.if-b-eq-BACKSLASH.true in
    let p = one_ascii c.args.source.now c.args.at backslash c.requires.well_formed.0 e (omega arith) in
    record { well_formed = (p.well, c.requires.well_formed.1); quote_bound = c.requires.fit_table.1 }

pub returns-then-b-eq-BACKSLASH : goal.returns-then-b-eq-BACKSLASH
returns-then-b-eq-BACKSLASH c =
    let p = c.requires in
    let e = sym c.escape_turn.ensures in
    sym (literal_at _ _ p.well_formed.0 p.well_formed.1 _ _ p.fit_table.1 ∙ search cases)

pub returns-then-is_printable : goal.returns-then-is_printable
returns-then-is_printable c =
    let p = c.requires in
    let e = printable_at _ _ p.well_formed.0 p.well_formed.1 _ p.fit_table.0 _ (sym c.byte_at-b.ensures) (sym c.is_printable.ensures ∙ c.if-is_printable.true) in
    sym (literal_at _ _ p.well_formed.0 p.well_formed.1 _ _ p.fit_table.1 ∙ search cases)

pub returns : goal.returns
returns c =
    let p = c.requires in
    let e = sym c.char_turn.ensures in
    sym (literal_at _ _ p.well_formed.0 p.well_formed.1 _ _ p.fit_table.1 ∙ search cases)
