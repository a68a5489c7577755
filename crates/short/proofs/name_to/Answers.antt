-- `short::name_to` meets its contract: it asks in the order of `name_token_at`; what is not "else" and not "r" is a keyword or a name. Assumes nothing.
use mathlib.Core.Path.{refl, sym, ◌∙◌}
use Rattle.base.specs.CasesLaws.{pick_no}
use Rattle.names.specs.NameLaws.{name_token_at}
use Rattle.found.specs.FoundLaws.{finds_same, finds_nothing}
use Rattle.short.proofs.name_to.Goals as goal

pub returns-then-is_else : goal.returns-then-is_else
returns-then-is_else c = finds_nothing c.nothing.ensures

pub returns-then-is_r : goal.returns-then-is_r
returns-then-is_r c = finds_nothing c.nothing-then-is_r.ensures

pub returns : goal.returns
returns c =
    finds_same
    (sym
    (name_token_at c.args.source.now c.args.lexer c.args.end c.requires.0 _ refl
    ∙ pick_no _ _ _ _ (sym c.is_else.ensures ∙ c.if-is_else.false) (pick_no _ _ _ _ (sym c.is_r.ensures ∙ c.if-is_r.false) refl)))
    c.keyword_or_id.ensures
