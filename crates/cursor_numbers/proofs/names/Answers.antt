-- `cursor_numbers::names` meets its contract: each number is tried in the half that it stands in. Assumes nothing.
use native.Mathlib.Omega.{arith}
use borrow.Author.Tests.{ne_eqb}
use Rattle.reading.specs.Status.{end_number, stuck_number, end_half_number, stuck_half_number}
use Rattle.cursor_numbers.proofs.names.Goals as goal

pub returns-in-0 : goal.returns-in-0
returns-in-0 c = rw c.in-0.is

pub returns-in-1 : goal.returns-in-1
returns-in-1 c = rw c.in-1.is

pub returns-in_default : goal.returns-in_default
returns-in_default c =
    let number = c.args.number in
    let known = c.if-number-lt-END_HALF.true in
    let r = c.in_default.in_default-own.rest in
    rw (ne_eqb number end_number r.0.1, ne_eqb number stuck_number r.1, ne_eqb number end_half_number (λ e. omega arith), ne_eqb number stuck_half_number (λ e. omega arith))

pub returns-in-3 : goal.returns-in-3
returns-in-3 c = rw c.in-3.is

pub returns-in-4 : goal.returns-in-4
returns-in-4 c = rw c.in-4.is

pub returns-in_default-number : goal.returns-in_default-number
returns-in_default-number c =
    let number = c.args.number in
    let known = c.if-number-lt-END_HALF.false in
    let r = c.in_default-number.in_default-number-own.rest in
    rw (ne_eqb number end_number (λ e. omega arith), ne_eqb number stuck_number (λ e. omega arith), ne_eqb number end_half_number r.0.1, ne_eqb number stuck_half_number r.1)
