-- `koto_next::next_whole` meets its contract: the status is what its number names, and the inner call's answer is told. Assumes nothing.
use native.Mathlib.Omega.{arith}
use borrow.Author.Tests.{ne_eqb}
use Rattle.reading.specs.Status.{end_number, stuck_number, end_half_number, stuck_half_number}
use Rattle.koto_next.proofs.next_whole.Goals as goal

pub returns-in-0 : goal.returns-in-0
returns-in-0 c =
    rw (c.in-0.is, ← c.cursor_of.ensures, ← c.next-given.ensures) c.tell_given.ensures

pub returns-in-1 : goal.returns-in-1
returns-in-1 c =
    rw (c.in-1.is, ← c.cursor_of-in-1.ensures, ← c.next-given-in-1.ensures) c.tell_given-in-1.ensures

pub returns-in_default : goal.returns-in_default
returns-in_default c =
    let status = c.args.status in
    let known = c.requires in
    let r = c.in_default.in_default-own.rest in
    rw (ne_eqb status end_number r.0.1, ne_eqb status stuck_number r.1, ne_eqb status end_half_number (λ e. omega arith), ne_eqb status stuck_half_number (λ e. omega arith))
    c.tell_given-in_default.ensures
