-- `lexer::what_begins` meets its contract: each return is an arm of `in_code`, by where the byte lies. Assumes nothing.
use native.Mathlib.Omega.{arith}
use mathlib.Core.Path.{refl}
use mathlib.Core.Logic.{inl, inr}
use Rattle.lexer.specs.ArmLaws.{rest_number, rest_name, rest_symbol, low_digit, no_digit, low_letter, mid_letter, high_letter, is_letter_lem}
use Rattle.lexer.proofs.what_begins.Goals as goal

pub returns-then-b-lt48 : goal.returns-then-b-lt48
returns-then-b-lt48 c =
    let p = c.requires in
    let b = c.args.b in
    record { arm = rest_symbol c.args.source.now c.args.table.now c.args.lexer b p.fit_table.0 p.fit_table.1 (omega arith) p.fit_table.2 p.fit_table.3 (low_digit b (omega arith)) (low_letter b (omega arith)) refl; digit = tt }

pub returns-then-b-le57 : goal.returns-then-b-le57
returns-then-b-le57 c =
    let p = c.requires in
    let b = c.args.b in
    record { arm = rest_number c.args.source.now c.args.table.now c.args.lexer b p.fit_table.0 p.fit_table.1 (omega arith) p.fit_table.2 (omega arith) (omega arith) refl; digit = rw p.fit_table.1 (omega arith) }

pub returns-then-b-lt65 : goal.returns-then-b-lt65
returns-then-b-lt65 c =
    let p = c.requires in
    let b = c.args.b in
    record { arm = rest_symbol c.args.source.now c.args.table.now c.args.lexer b p.fit_table.0 p.fit_table.1 (omega arith) p.fit_table.2 p.fit_table.3 (no_digit b (omega arith)) (low_letter b (omega arith)) refl; digit = tt }

pub returns-then-b-le90 : goal.returns-then-b-le90
returns-then-b-le90 c =
    let p = c.requires in
    let b = c.args.b in
    record { arm = rest_name c.args.source.now c.args.table.now c.args.lexer b p.fit_table.0 p.fit_table.1 (omega arith) p.fit_table.2 (no_digit b (omega arith)) (is_letter_lem b (omega arith) (omega arith) (inl (omega arith))) refl; digit = tt }

pub returns-then-b-lt97 : goal.returns-then-b-lt97
returns-then-b-lt97 c =
    let p = c.requires in
    let b = c.args.b in
    record { arm = rest_symbol c.args.source.now c.args.table.now c.args.lexer b p.fit_table.0 p.fit_table.1 (omega arith) p.fit_table.2 p.fit_table.3 (no_digit b (omega arith)) (mid_letter b (omega arith) (omega arith)) refl; digit = tt }

pub returns-then-b-le122 : goal.returns-then-b-le122
returns-then-b-le122 c =
    let p = c.requires in
    let b = c.args.b in
    record { arm = rest_name c.args.source.now c.args.table.now c.args.lexer b p.fit_table.0 p.fit_table.1 (omega arith) p.fit_table.2 (no_digit b (omega arith)) (is_letter_lem b (omega arith) (omega arith) (inr (omega arith))) refl; digit = tt }

pub returns-then-b-lt128 : goal.returns-then-b-lt128
returns-then-b-lt128 c =
    let p = c.requires in
    let b = c.args.b in
    record { arm = rest_symbol c.args.source.now c.args.table.now c.args.lexer b p.fit_table.0 p.fit_table.1 (omega arith) p.fit_table.2 p.fit_table.3 (no_digit b (omega arith)) (high_letter b (omega arith)) refl; digit = tt }
