-- `names::name_end` meets its contract: a character of that length stands where the lexer does, and the run after it is `run_test`'s.
-- Assumes nothing.
use native.Mathlib.Omega.{arith}
use mathlib.Core.Path.{sym, ◌∙◌}
use Rattle.text.specs.Chars.{LenIs}
use Rattle.text.specs.CountLaws.{along_stands}
use Rattle.names.specs.NameLaws.{stands_there, len_there, name_end_at}
use Rattle.names.proofs.name_end.Goals as goal
use Rattle.names.proofs.name_end.Goals.{After-reach-reach}

-- the first character, where the lexer's reach is
first : (r : After-reach-reach) → LenIs r.args.source.now r.reach-reach.result.byte.0 r.args.len
first r = len_there (sym r.reach-reach.ensures) r.requires.2

pub along-requires : goal.along-requires
along-requires c =
    let o = stands_there c.reach-reach.ensures c.requires.0 in
    record { byte_le_source_most = omega (arith, o.small, o.inside, o.columns, (first c).at.fits); column_le_column_most = omega (arith, o.small, o.inside, o.columns, (first c).at.fits) }

pub run_utf8-requires : goal.run_utf8-requires
run_utf8-requires c =
    let o = stands_there c.reach-reach.ensures c.requires.0 in
    (rw c.along.ensures (along_stands _ _ _ _ _ o (first (goal.at.run_utf8-requires c).After-reach-reach).at (first (goal.at.run_utf8-requires c).After-reach-reach).well (omega arith)), c.requires.1)

pub returns : goal.returns
returns c =
    c.run_utf8.ensures ∙ name_end_at _ _ _ c.reach-reach.ensures (first (goal.at.returns c).After-reach-reach).at c.along.ensures
