-- `skip::pass_near` meets its contract: a column for each byte that is passed. Assumes nothing.
use native.Mathlib.Omega.{arith}
use Rattle.skip.specs.PastLaws.{past_from}
use Rattle.skip.proofs.pass_near.Goals as goal

pub skip_near-end-requires : goal.skip_near-end-requires
skip_near-end-requires c = c.requires.inside

pub overflow_sub-end : goal.overflow_sub-end
overflow_sub-end c = c.skip_near-end.ensures.on

pub along_ascii-requires : goal.along_ascii-requires
along_ascii-requires c =
    let o = c.requires in
    let p = c.skip_near-end.ensures in
    record { byte_le_source_most = omega (arith, o.small, o.inside, o.columns, p.on, p.within); column_le_column_most = omega (arith, o.small, o.inside, o.columns, p.on, p.within) }

pub returns : goal.returns
returns c = past_from c.skip_near-end.ensures c.along_ascii.ensures
