-- `names::keyword_or_id` meets its contract: it asks in the order of `keyword_at`, so each return is a case of it.
-- Assumes nothing.
use borrow.Author.Tests.{eq-eqb, ne_eqb}
use native.Mathlib.Omega.{arith}
use mathlib.Core.Path.{refl, sym, ap, ◌∙◌}
use Rattle.base.specs.CasesLaws.{pick_yes, pick_no}
use Rattle.position.specs.declared.Reach.{Reach}
use Rattle.names.specs.ConsumeIdOrKeyword.{keyword_or_id}
use Rattle.names.specs.NameLaws.{keyword_at}
use Rattle.names.proofs.keyword_or_id.Goals as goal

pub returns-then-lexer-eq-DOT : goal.returns-then-lexer-eq-DOT
unfolding keyword_or_id
returns-then-lexer-eq-DOT c = c.token_to.ensures ∙ sym (pick_yes _ _ _ _ (eq-eqb _ _ c.if-lexer-eq-DOT.true) refl)

pub overflow_sub-len : goal.overflow_sub-len
overflow_sub-len c = omega (arith, ap (λ (r : Reach). r.byte.0) c.reach-reach.ensures, c.requires.1.on)

pub returns-then-kind-eq-ID : goal.returns-then-kind-eq-ID
returns-then-kind-eq-ID c =
    let law = keyword_at _ _ _ c.requires.0 _ c.reach-reach.ensures _ c.keyword-kind.ensures in
    c.token_to-then-kind-eq-ID.ensures
    ∙ sym (law ∙ pick_no _ _ _ _ (ne_eqb _ _ c.if-lexer-eq-DOT.false) (pick_yes _ _ _ _ (eq-eqb _ _ c.if-kind-eq-ID.true) refl))

pub returns : goal.returns
returns c =
    let law = keyword_at _ _ _ c.requires.0 _ c.reach-reach.ensures _ c.keyword-kind.ensures in
    c.token.ensures
    ∙ sym (law ∙ pick_no _ _ _ _ (ne_eqb _ _ c.if-lexer-eq-DOT.false) (pick_no _ _ _ _ (ne_eqb _ _ c.if-kind-eq-ID.false) refl))
