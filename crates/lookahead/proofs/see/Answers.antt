-- `lookahead::see` meets its contract: the record that is ahead is shown, if one is there. Assumes nothing.
use Rattle.lookahead.specs.AnswerLaws.{see_token, see_bad, see_nothing}
use Rattle.lookahead.proofs.see.Goals as goal

pub returns-then-cursor-i : goal.returns-then-cursor-i
returns-then-cursor-i c = see_nothing _ _ c.args.n c.ahead-i.ensures c.if-cursor-i.true

pub returns-in_default : goal.returns-in_default
returns-in_default c = see_bad _ _ c.args.n c.ahead-i.ensures c.if-cursor-i.false c.shown.ensures c.in_default.is

pub returns : goal.returns
returns c = see_token _ _ c.args.n c.ahead-i.ensures c.if-cursor-i.false c.shown.ensures c.in-Some.is
