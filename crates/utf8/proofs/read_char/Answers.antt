-- `utf8::read_char` meets its contract: past the end nothing is left, and else the part from the place on is what is left.
-- Assumes nothing.
use mathlib.Core.Path.{sym, ap, ◌∙◌}
use Rattle.base.specs.ListLaws.{rest_all}
use Rattle.utf8.specs.Read.{decode_head}
use Rattle.utf8.specs.CharsLaws.{end_cut}
use Rattle.utf8.proofs.read_char.Goals as goal

pub returns-then-s-at : goal.returns-then-s-at
returns-then-s-at c = sym (end_cut _ _ c.if-s-at.true)

pub returns : goal.returns
returns c =
    c.read_head.ensures ∙ ap decode_head (rest_all c.args.s.now c.args.at)
