-- `utf8::check_utf8` meets its contract. The loop's invariant: what the definition answers from here on is what it answers from the start.
-- A turn is one step of it: `passed` over a character, `bad_at` and `cut_at` where there is none.
-- Assumes nothing.
use Rattle.std.specs.Prelude.{Ok}
use native.Mathlib.Omega.{arith}
use Prim.Native.Nat.{◌+◌, ◌<◌}
use mathlib.Core.Path.{◌≡◌, refl, sym, ap, ◌∙◌}
use Rattle.utf8.specs.Read.{read_at}
use Rattle.utf8.specs.Lengths.{len_of}
use Rattle.utf8.specs.CharsLaws.{at_char, bad_at, cut_at, check_end}
use Rattle.utf8.proofs.Turns.{Going, single, measured, passed, passed_block}
use Rattle.utf8.proofs.check_utf8.Goals as goal
use Rattle.utf8.proofs.check_utf8.Goals.{Else-is_block, In-Ok, Then-is_block, Then-is_three, Then-is_two}

pub loop-i-init : goal.loop-i-init
loop-i-init c = record { inside = omega arith; rest = refl }

on_block : (c : Then-is_block) → Going c.args.s.now (c.loop-i.i + 128)
on_block c =
    passed_block c.args.s.now c.loop-i.i c.loop-i.invariant _ c.is_block.ensures c.if-is_block.true

pub overflow_add-i : goal.overflow_add-i
overflow_add-i c = omega (arith, (on_block c).inside)

pub loop-i-smaller-then-is_block : goal.loop-i-smaller-then-is_block
loop-i-smaller-then-is_block c = omega (arith, (on_block c).inside)

pub loop-i-preserved-then-is_block : goal.loop-i-preserved-then-is_block
loop-i-preserved-then-is_block c = on_block c

on1 : (c : Else-is_block) → Going c.args.s.now (c.loop-i.i + 1)
on1 c =
    passed c.args.s.now c.loop-i.i c.loop-i.invariant 1 (omega arith)
    (single c.args.s.now c.loop-i.i _ c.loop-i-test.true c.lead_len.ensures c.if-lead_len-eq1.true)

pub overflow_add-i-then-lead_len-eq1 : goal.overflow_add-i-then-lead_len-eq1
overflow_add-i-then-lead_len-eq1 c = omega (arith, (on1 c).inside)

pub loop-i-smaller-then-lead_len-eq1 : goal.loop-i-smaller-then-lead_len-eq1
loop-i-smaller-then-lead_len-eq1 c = omega (arith, (on1 c).inside)

pub loop-i-preserved-then-lead_len-eq1 : goal.loop-i-preserved-then-lead_len-eq1
loop-i-preserved-then-lead_len-eq1 c = on1 c

on3 : (c : Then-is_three) → Going c.args.s.now (c.loop-i.i + 3)
on3 c =
    passed c.args.s.now c.loop-i.i c.loop-i.invariant 3 (omega arith) (measured c.args.s.now c.loop-i.i 3 _ c.is_three.ensures c.if-is_three.true)

pub overflow_add-i-then-is_three : goal.overflow_add-i-then-is_three
overflow_add-i-then-is_three c = omega (arith, (on3 c).inside)

pub loop-i-smaller-then-is_three : goal.loop-i-smaller-then-is_three
loop-i-smaller-then-is_three c = omega (arith, (on3 c).inside)

pub loop-i-preserved-then-is_three : goal.loop-i-preserved-then-is_three
loop-i-preserved-then-is_three c = on3 c

on2 : (c : Then-is_two) → Going c.args.s.now (c.loop-i.i + 2)
on2 c =
    passed c.args.s.now c.loop-i.i c.loop-i.invariant 2 (omega arith) (measured c.args.s.now c.loop-i.i 2 _ c.is_two.ensures c.if-is_two.true)

pub overflow_add-i-then-is_two : goal.overflow_add-i-then-is_two
overflow_add-i-then-is_two c = omega (arith, (on2 c).inside)

pub loop-i-smaller-then-is_two : goal.loop-i-smaller-then-is_two
loop-i-smaller-then-is_two c = omega (arith, (on2 c).inside)

pub loop-i-preserved-then-is_two : goal.loop-i-preserved-then-is_two
loop-i-preserved-then-is_two c = on2 c

found : (c : In-Ok) → read_at c.args.s.now c.loop-i.i ≡ Ok (c.in-Ok.field-0-0, c.in-Ok.len)
found c = sym c.read_char.ensures ∙ c.in-Ok.is

some : (c : In-Ok) → 0 < c.in-Ok.len
some c = (at_char c.args.s.now c.loop-i.i _ _ (found c)).some

on : (c : In-Ok) → Going c.args.s.now (c.loop-i.i + c.in-Ok.len)
on c = passed c.args.s.now c.loop-i.i c.loop-i.invariant c.in-Ok.len (some c) (sym (ap len_of (found c)))

pub overflow_add-i-in-Ok : goal.overflow_add-i-in-Ok
overflow_add-i-in-Ok c = omega (arith, (on c).inside)

pub loop-i-smaller : goal.loop-i-smaller
loop-i-smaller c = omega (arith, (on c).inside, some c)

pub loop-i-preserved : goal.loop-i-preserved
loop-i-preserved c = on c

pub returns-in-Err-Bad : goal.returns-in-Err-Bad
returns-in-Err-Bad c =
    sym (bad_at _ _ c.loop-i-test.true (sym c.read_char.ensures ∙ rw c.in-Err-Bad.field-0-is at c.in-Err-Bad.is)) ∙ c.loop-i.invariant.rest

pub returns-in-Err-Cut : goal.returns-in-Err-Cut
returns-in-Err-Cut c =
    sym (cut_at _ _ c.loop-i-test.true (sym c.read_char.ensures ∙ rw c.in-Err-Cut.field-0-is at c.in-Err-Cut.is)) ∙ c.loop-i.invariant.rest

pub returns : goal.returns
returns c = sym (check_end _ _ c.loop-i-test.false) ∙ c.loop-i.invariant.rest
