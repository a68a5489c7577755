-- `short::line_feed` meets its contract: it reaches to the start of the next line. Assumes nothing.
use borrow.Author.Rules.{rules}
use mathlib.Core.Path.{refl, ap, ◌∙◌}
use Rattle.position.specs.Place.{line_by}
use Rattle.position.specs.declared.Reach.{Reach}
use Rattle.token.specs.Kind.{new_line}
use Rattle.found.specs.Found.{found_to}
use Rattle.found.specs.FoundLaws.{finds_to}
use Rattle.short.proofs.line_feed.Goals as goal

pub next_line-requires : goal.next_line-requires
next_line-requires c =
    record { byte_le_source_most = rw c.reach-reach.ensures (search rules); line_le_source_most = rw c.reach-reach.ensures (search rules) }

pub returns : goal.returns
returns c = finds_to new_line _ (c.to.ensures ∙ ap (λ (r : Reach). found_to new_line r c.args.lexer) (c.next_line.ensures ∙ ap (line_by 1) c.reach-reach.ensures)) refl
