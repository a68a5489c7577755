-- `fitness::first_bad_ascii` meets its contract. Where the table begins as the small table none is bad. The loop's invariant: the first
-- bad code point from c on is the first bad code point. The small table rises too, since it is fit.
-- Assumes nothing.
use native.Mathlib.Omega.{arith}
use mathlib.Core.Path.{◌≡◌, sym, ◌∙◌}
use borrow.Author.Tests.{eq-eqb, ne_eqb}
use Rattle.fitness.specs.SmallLaws.{small_is_fit}
use Rattle.fitness.specs.FirstLaws.{start, next, here, done}
use Rattle.fitness.specs.QuickLaws.{no_bad_ascii}
use Rattle.fitness.proofs.first_bad_ascii.Goals as goal

pub returns-then-begins_as_small : goal.returns-then-begins_as_small
returns-then-begins_as_small c =
    sym (no_bad_ascii _ (sym c.begins_as_small.ensures ∙ c.if-begins_as_small.true) c.requires.rises)

pub loop-c-init : goal.loop-c-init
loop-c-init c = start _ _

pub lookup-requires-in-loop-c : goal.lookup-requires-in-loop-c
lookup-requires-in-loop-c c = rw c.requires.small_value small_is_fit.rises

pub returns-then-lookup : goal.returns-then-lookup
returns-then-lookup c =
    let small = rw c.requires.small_value at c.lookup-in-loop-c.ensures in
    here _ _ _ c.loop-c.invariant (omega arith) (ne_eqb _ _ (λ e. c.if-lookup.true (c.lookup.ensures ∙ e ∙ sym small)))

pub loop-c-preserved : goal.loop-c-preserved
loop-c-preserved c =
    let small = rw c.requires.small_value at c.lookup-in-loop-c.ensures in
    next _ _ _ c.loop-c.invariant (omega arith) (eq-eqb _ _ (sym c.lookup.ensures ∙ c.if-lookup.false ∙ small))

pub returns : goal.returns
returns c =
    let all : c.loop-c.c ≡ 128 = omega arith in
    rw all at (done _ _ _ c.loop-c.invariant c.loop-c-test.false)
