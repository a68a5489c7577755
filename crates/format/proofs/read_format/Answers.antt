-- `format::read_format` meets its contract. The loop's invariant is `Going`: nothing has failed, and the reading from here on is the whole
-- reading. Assumes nothing.
use Rattle.std.specs.Prelude.{Ok}
use native.Mathlib.Omega.{arith}
use Prim.Native.Nat.{ℕ}
use mathlib.Core.Path.{◌≡◌, sym, subst, ◌∙◌}
use mathlib.Core.Bool.{Bool, true, false}
use mathlib.Core.List.{List}
use Rattle.utf8.specs.Read.{read_at}
use Rattle.utf8.specs.CharsLaws.{Stops}
use Rattle.utf8.proofs.Tags.{stopped}
use Rattle.property.specs.Table.{properties_at}
use Rattle.format.proofs.Going.{begins, ends, stands, Turned, turned}
use Rattle.format.proofs.read_format.Goals as goal
use Rattle.format.proofs.read_format.Goals.{After-is_err}

abbrev src : After-is_err → List ℕ
src t = t.args.format.now

abbrev look : After-is_err → ℕ → ℕ
look t = properties_at t.args.table.now

found : (t : After-is_err) → read_at (src t) t.loop-code.p.at ≡ Ok (t.in-Ok.code, t.in-Ok.len)
found t = sym t.read_char.ensures ∙ t.in-Ok.is

after : (t : After-is_err) (y : Bool) → t.is_err.result ≡ y
    → Turned (look t) t.args.edition (src t) _ t.loop-code.invariant _ _ (found t) y t.take_turn-p.result
after t y e = turned (look t) _ (src t) _ t.loop-code.invariant _ _ (found t) _ y t.take_turn-p.ensures (sym t.is_err.ensures.value ∙ e)

pub loop-code-init : goal.loop-code-init
loop-code-init c = rw c.new-p.ensures (begins (properties_at c.args.table.now) _ _ c.requires.0 c.requires.1)

-- no character is left
pub returns-in_default : goal.returns-in_default
returns-in_default c =
    c.end.ensures
    ∙ ends _ _ _ _ c.loop-code.invariant (subst Stops c.read_char.ensures (stopped c.read_char.result c.in_default.not-Ok))

pub take_turn-p-requires : goal.take_turn-p-requires
take_turn-p-requires c =
    (stands _ _ _ _ c.loop-code.invariant _ _ (sym c.read_char.ensures ∙ c.in-Ok.is), c.requires.2)

-- the arm has failed
pub returns-then-is_err : goal.returns-then-is_err
returns-then-is_err c = c.end-then-is_err.ensures ∙ after (goal.at.returns-then-is_err c).After-is_err true c.if-is_err.true

pub loop-code-smaller : goal.loop-code-smaller
loop-code-smaller c = let o = after (goal.at.loop-code-smaller c).After-is_err false c.if-is_err.false in omega (arith, o.later, o.going.within)

pub loop-code-preserved : goal.loop-code-preserved
loop-code-preserved c = (after (goal.at.loop-code-preserved c).After-is_err false c.if-is_err.false).going
