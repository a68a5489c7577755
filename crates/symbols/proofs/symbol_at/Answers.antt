-- `symbols::symbol_at` meets its contract: only the symbols that begin with the first byte can be there. Assumes nothing.
use mathlib.Core.Path.{◌≡◌}
use Prim.Native.Nat.{ℕ}
use lib.ListN.{get_or, drop}
use Rattle.std.specs.Prelude.{Option}
use Rattle.symbols.specs.Symbols.{symbol_in, symbol_of}
use Rattle.symbols.specs.declared.Symbol.{Symbol}
use Rattle.symbols.specs.Groups.{symbols_of}
use Rattle.symbols.proofs.Narrow.{by_symbol, by_none, past_end}
use Rattle.symbols.proofs.symbol_at.Goals as goal
use Rattle.symbols.proofs.symbol_at.Goals.{After-shared_slice_known-2-1}

-- b is the byte that was read, and r what was answered of the symbols that begin with it
arm : (p : After-shared_slice_known-2-1) (b : ℕ) {r : Option Symbol} → get_or p.args.source.now p.args.at 0 ≡ b
    → r ≡ symbol_in (symbols_of b) (drop p.args.at p.args.source.now)
    → r ≡ symbol_of (drop p.args.at p.args.source.now)
arm p b = let a = p.args in by_symbol a.source.now a.at p.if-source-at.false b

pub returns-then-source-at : goal.returns-then-source-at
returns-then-source-at c = past_end _ _ c.if-source-at.true

pub returns-in-33 : goal.returns-in-33
returns-in-33 c = arm (goal.at.returns-in-33 c).After-shared_slice_known-2-1 33 c.in-33.is c.check_not_equal.ensures

pub returns-in-37 : goal.returns-in-37
returns-in-37 c = arm (goal.at.returns-in-37 c).After-shared_slice_known-2-1 37 c.in-37.is c.check_two.ensures

pub returns-in-40 : goal.returns-in-40
returns-in-40 c = arm (goal.at.returns-in-40 c).After-shared_slice_known-2-1 40 c.in-40.is c.check_symbol.ensures

pub returns-in-41 : goal.returns-in-41
returns-in-41 c = arm (goal.at.returns-in-41 c).After-shared_slice_known-2-1 41 c.in-41.is c.check_symbol-in-41.ensures

pub returns-in-42 : goal.returns-in-42
returns-in-42 c = arm (goal.at.returns-in-42 c).After-shared_slice_known-2-1 42 c.in-42.is c.check_two-in-42.ensures

pub returns-in-43 : goal.returns-in-43
returns-in-43 c = arm (goal.at.returns-in-43 c).After-shared_slice_known-2-1 43 c.in-43.is c.check_two-in-43.ensures

pub returns-in-44 : goal.returns-in-44
returns-in-44 c = arm (goal.at.returns-in-44 c).After-shared_slice_known-2-1 44 c.in-44.is c.check_symbol-in-44.ensures

pub returns-in-45 : goal.returns-in-45
returns-in-45 c = arm (goal.at.returns-in-45 c).After-shared_slice_known-2-1 45 c.in-45.is c.check_minus.ensures

pub returns-in-46 : goal.returns-in-46
returns-in-46 c = arm (goal.at.returns-in-46 c).After-shared_slice_known-2-1 46 c.in-46.is c.check_dots.ensures

pub returns-in-47 : goal.returns-in-47
returns-in-47 c = arm (goal.at.returns-in-47 c).After-shared_slice_known-2-1 47 c.in-47.is c.check_two-in-47.ensures

pub returns-in-58 : goal.returns-in-58
returns-in-58 c = arm (goal.at.returns-in-58 c).After-shared_slice_known-2-1 58 c.in-58.is c.check_symbol-in-58.ensures

pub returns-in-59 : goal.returns-in-59
returns-in-59 c = arm (goal.at.returns-in-59 c).After-shared_slice_known-2-1 59 c.in-59.is c.check_symbol-in-59.ensures

pub returns-in-60 : goal.returns-in-60
returns-in-60 c = arm (goal.at.returns-in-60 c).After-shared_slice_known-2-1 60 c.in-60.is c.check_two-in-60.ensures

pub returns-in-61 : goal.returns-in-61
returns-in-61 c = arm (goal.at.returns-in-61 c).After-shared_slice_known-2-1 61 c.in-61.is c.check_two-in-61.ensures

pub returns-in-62 : goal.returns-in-62
returns-in-62 c = arm (goal.at.returns-in-62 c).After-shared_slice_known-2-1 62 c.in-62.is c.check_two-in-62.ensures

pub returns-in-63 : goal.returns-in-63
returns-in-63 c = arm (goal.at.returns-in-63 c).After-shared_slice_known-2-1 63 c.in-63.is c.check_symbol-in-63.ensures

pub returns-in-64 : goal.returns-in-64
returns-in-64 c = arm (goal.at.returns-in-64 c).After-shared_slice_known-2-1 64 c.in-64.is c.check_symbol-in-64.ensures

pub returns-in-91 : goal.returns-in-91
returns-in-91 c = arm (goal.at.returns-in-91 c).After-shared_slice_known-2-1 91 c.in-91.is c.check_symbol-in-91.ensures

pub returns-in-93 : goal.returns-in-93
returns-in-93 c = arm (goal.at.returns-in-93 c).After-shared_slice_known-2-1 93 c.in-93.is c.check_symbol-in-93.ensures

pub returns-in-94 : goal.returns-in-94
returns-in-94 c = arm (goal.at.returns-in-94 c).After-shared_slice_known-2-1 94 c.in-94.is c.check_two-in-94.ensures

pub returns-in-123 : goal.returns-in-123
returns-in-123 c = arm (goal.at.returns-in-123 c).After-shared_slice_known-2-1 123 c.in-123.is c.check_symbol-in-123.ensures

pub returns-in-124 : goal.returns-in-124
returns-in-124 c = arm (goal.at.returns-in-124 c).After-shared_slice_known-2-1 124 c.in-124.is c.check_symbol-in-124.ensures

pub returns-in-125 : goal.returns-in-125
returns-in-125 c = arm (goal.at.returns-in-125 c).After-shared_slice_known-2-1 125 c.in-125.is c.check_symbol-in-125.ensures

pub returns-in_default : goal.returns-in_default
returns-in_default c =
    let a = c.args in
    by_none a.source.now a.at c.if-source-at.false c.in_default.in_default-own.rest
