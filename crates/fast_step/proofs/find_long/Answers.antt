-- `fast_step::find_long` meets its contract: where a character begins, what is found of the token is found of the step. Assumes nothing.
use mathlib.Core.Path.{sym, ◌∙◌}
use Rattle.fast_step.specs.FastStepLaws.{step_none, whole_stands, whole_by}
use Rattle.fast_step.proofs.find_long.Goals as goal

pub returns-then-source-at : goal.returns-then-source-at
returns-then-source-at c = step_none c.nothing.ensures

pub returns-then-between : goal.returns-then-between
returns-then-between c = step_none c.nothing-then-between.ensures

pub find_by_blocks-requires : goal.find_by_blocks-requires
find_by_blocks-requires c =
    record {
      stands = whole_stands c.args.source.now c.args.lexer c.if-source-at.false (sym c.between.ensures ∙ c.if-between.false)
          c.requires.0 c.settle.ensures;
      fit_table = c.requires.1;
    }

pub returns : goal.returns
returns c =
    whole_by c.args.source.now c.args.lexer c.if-source-at.false (sym c.between.ensures ∙ c.if-between.false)
    c.args.table.now c.requires.0 c.settle.ensures c.find_by_blocks.ensures
