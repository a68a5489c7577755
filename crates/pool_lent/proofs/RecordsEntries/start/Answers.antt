-- An entry of `Records` has the numbers of the flat row. Assumes nothing.
use Rattle.std.proofs.Common.{◌<◌, rules, sym, arith, length}
use Rattle.pool_lent.specs.EntriesLaws.{numbers_long, start_is}
use Rattle.pool_lent.proofs.RecordsEntries.start.Goals as goal

pub bounds-self-i : goal.bounds-self-i
bounds-self-i c = omega (arith, c.requires, numbers_long c.args.self.now.entries.now)

pub offset_bounds-self-i : goal.offset_bounds-self-i
offset_bounds-self-i c =
    let h : c.args.i < length c.args.self.now.entries.now = omega (arith, c.requires, numbers_long c.args.self.now.entries.now) in
    search rules

pub returns : goal.returns
returns c = sym (start_is c.args.self.now.entries.now c.args.i)
