-- `lexer::read_token` meets its contract: the half's change has room in the modes, and is made. Assumes nothing.
use Rattle.lexer.specs.StepLaws.{fits_codes, step_codes}
use Rattle.lexer.proofs.read_token.Goals as goal

pub apply-lexer-requires : goal.apply-lexer-requires
apply-lexer-requires c =
    fits_codes _ _ _ c.args.before c.requires.2 c.read_half-half.ensures

pub returns : goal.returns
returns c =
    step_codes _ _ _ c.args.before c.requires.2 c.read_half-half.ensures c.apply-lexer.ensures
