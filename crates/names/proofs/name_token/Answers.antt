-- `names::name_token` meets its contract: it asks in the order of `name_token_at`, so each return is a case of it.
-- Assumes nothing.
use native.Mathlib.Omega.{arith}
use mathlib.Core.Path.{refl, sym, ap, subst, ◌∙◌}
use Rattle.std.specs.Prelude.{Some, None}
use Rattle.base.specs.CasesLaws.{pick_yes, pick_no}
use Rattle.position.specs.declared.Reach.{Reach}
use Rattle.names.specs.NameLaws.{name_token_at, decided_at}
use Rattle.names.specs.Decided.{Small}
use Rattle.names.proofs.name_token.Goals as goal

pub overflow_sub-len : goal.overflow_sub-len
overflow_sub-len c = omega (arith, ap (λ (r : Reach). r.byte.0) c.reach-reach.ensures, c.requires.1.on)

pub returns-then-is_else_if : goal.returns-then-is_else_if
returns-then-is_else_if c =
    let law = name_token_at _ _ _ c.requires.0 _ c.reach-reach.ensures in
    c.token.ensures
    ∙ sym
    (law
    ∙ pick_yes _ _ _ _ (sym c.is_else.ensures ∙ c.if-is_else.true)
    (pick_yes _ _ _ _ (sym c.is_else_if.ensures ∙ c.if-is_else_if.true) refl))

pub returns-then-is_else : goal.returns-then-is_else
returns-then-is_else c =
    let law = name_token_at _ _ _ c.requires.0 _ c.reach-reach.ensures in
    c.token-then-is_else.ensures
    ∙ sym
    (law
    ∙ pick_yes _ _ _ _ (sym c.is_else.ensures ∙ c.if-is_else.true)
    (pick_no _ _ _ _ (sym c.is_else_if.ensures ∙ c.if-is_else_if.false) refl))

pub raw_string_start-requires : goal.raw_string_start-requires
raw_string_start-requires c =
    let o = c.requires.0 in
    let d = subst Small c.in-Some.is c.raw_start.ensures.small in
    record { lexer_bound = omega (arith, o.small, o.inside, o.columns, d); lexer_bound_2 = omega (arith, o.small, o.inside, o.columns, d) }

pub returns-in-Some : goal.returns-in-Some
returns-in-Some c =
    c.raw_string_start.ensures
    ∙ sym
    (decided_at _ _ _ c.requires.0 _ c.reach-reach.ensures
    (sym c.is_else.ensures ∙ c.if-is_else.false) c.raw_start.ensures c.in-Some.is)

pub returns-in-None : goal.returns-in-None
returns-in-None c =
    c.keyword_or_id.ensures
    ∙ sym
    (decided_at _ _ _ c.requires.0 _ c.reach-reach.ensures
    (sym c.is_else.ensures ∙ c.if-is_else.false) c.raw_start.ensures c.in-None.is)
