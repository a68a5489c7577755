-- `short::keyword_or_id` meets its contract: it asks in the order of `keyword_at`, so each return is a case of it. Assumes nothing.
use borrow.Author.Tests.{eq-eqb, ne_eqb}
use mathlib.Core.Path.{refl, ◌∙◌}
use Rattle.base.specs.CasesLaws.{pick_yes, pick_no}
use Rattle.token.specs.Kind.{id}
use Rattle.names.specs.ConsumeIdOrKeyword.{keyword_or_id}
use Rattle.names.specs.NameLaws.{keyword_at}
use Rattle.found.specs.FoundLaws.{finds_along, finds_to}
use Rattle.short.proofs.keyword_or_id.Goals as goal

pub returns-then-previous_token-eq-DOT : goal.returns-then-previous_token-eq-DOT
unfolding keyword_or_id
returns-then-previous_token-eq-DOT c = finds_to id _ c.to.ensures (pick_yes _ _ _ _ (eq-eqb _ _ c.if-previous_token-eq-DOT.true) refl)

pub returns-then-kind-eq-ID : goal.returns-then-kind-eq-ID
returns-then-kind-eq-ID c =
    finds_to id _ c.to-then-kind-eq-ID.ensures
    (keyword_at _ _ _ c.requires.0 _ refl _ c.keyword-kind.ensures
    ∙ pick_no _ _ _ _ (ne_eqb _ _ c.if-previous_token-eq-DOT.false) (pick_yes _ _ _ _ (eq-eqb _ _ c.if-kind-eq-ID.true) refl))

pub returns : goal.returns
returns c =
    finds_along _ 0 _ _ c.along.ensures
    (keyword_at _ _ _ c.requires.0 _ refl _ c.keyword-kind.ensures
    ∙ pick_no _ _ _ _ (ne_eqb _ _ c.if-previous_token-eq-DOT.false) (pick_no _ _ _ _ (ne_eqb _ _ c.if-kind-eq-ID.false) refl))
