-- `strings::escape_turn` meets its contract: it takes the tests of `escape_at` in their order. Assumes nothing.
use mathlib.Core.Path.{sym, ◌∙◌}
use mathlib.Core.Logic.{⊎_elim}
use Rattle.base.specs.CasesLaws.{cases}
use Rattle.strings.specs.TurnLaws.{escape_at}
use Rattle.strings.proofs.escape_turn.Goals as goal

pub returns-then-byte_at-eq-CURLY_OPEN : goal.returns-then-byte_at-eq-CURLY_OPEN
returns-then-byte_at-eq-CURLY_OPEN c =
    sym (escape_at _ c.args.at _ c.requires.well_formed.0 c.requires.quote_bound ∙ search cases)

pub returns-then-c-eq-LETTER_U : goal.returns-then-c-eq-LETTER_U
returns-then-c-eq-LETTER_U c =
    sym (escape_at _ c.args.at _ c.requires.well_formed.0 c.requires.quote_bound ∙ search cases)

pub returns-then-c-eq-CURLY_OPEN : goal.returns-then-c-eq-CURLY_OPEN
returns-then-c-eq-CURLY_OPEN c =
    sym
    (escape_at _ c.args.at _ c.requires.well_formed.0 c.requires.quote_bound
    ∙ ⊎_elim (λ w. search cases) (λ w. ⊎_elim (λ x. search cases) (λ x. search cases) w) c.then-c-eq-CURLY_OPEN.either)

pub returns : goal.returns
returns c =
    sym (escape_at _ c.args.at _ c.requires.well_formed.0 c.requires.quote_bound ∙ search cases)
