-- `newlines::char_turn` meets its contract: it takes the tests of `plain_at` in their order. Assumes nothing.
use mathlib.Core.Path.{sym, ap, ◌∙◌}
use Rattle.base.specs.CasesLaws.{cases}
use Rattle.property.specs.Parts.{width_of}
use Rattle.newlines.specs.TurnLaws.{plain_at}
use Rattle.newlines.proofs.char_turn.Goals as goal

pub returns-then-byte_at-eq-LF : goal.returns-then-byte_at-eq-LF
returns-then-byte_at-eq-LF c =
    let d = c.char_at-c.ensures in
    sym (plain_at _ _ _ _ _ d.at d.well ∙ search cases)

pub returns-then-c-eq-CR : goal.returns-then-c-eq-CR
returns-then-c-eq-CR c =
    let d = c.char_at-c.ensures in
    sym (plain_at _ _ _ _ _ d.at d.well ∙ search cases)

pub returns-then-c-eq-LF : goal.returns-then-c-eq-LF
returns-then-c-eq-LF c =
    let d = c.char_at-c.ensures in
    sym (plain_at _ _ _ _ _ d.at d.well ∙ search cases)

pub returns : goal.returns
returns c =
    let d = c.char_at-c.ensures in
    let e = sym (c.width_of.ensures ∙ ap width_of d.properties) in
    sym (plain_at _ _ _ _ _ d.at d.well ∙ search cases)
