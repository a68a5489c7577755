-- `cluster::cluster_end` meets its contract. The loop's invariant: the state is that of the characters passed, and what the definition
-- answers from here on is what it answers from the start. Assumes nothing.
use Rattle.std.specs.Prelude.{Ok}
use native.Mathlib.Omega.{arith}
use Prim.Native.Nat.{ℕ}
use mathlib.Core.Path.{◌≡◌, sym, subst, ◌∙◌}
use mathlib.Core.List.{List}
use mathlib.Core.Bool.{Bool}
use lib.ListN.{length}
use Rattle.base.specs.PickLaws.{split_lt}
use Rattle.utf8.specs.Read.{read_at}
use Rattle.utf8.specs.Chars.{At}
use Rattle.utf8.specs.CharsLaws.{Stops, at_char, never_stops}
use Rattle.utf8.proofs.Tags.{stopped}
use Rattle.property.specs.Table.{properties_at}
use Rattle.uax29.specs.State.{joined_by}
use Rattle.cluster.proofs.Passing.{first, at_end, at_break, one_more_lem, nothing}
use Rattle.cluster.proofs.cluster_end.Goals as goal
use Rattle.cluster.proofs.cluster_end.Goals.{After-is_joined, After-pass-left}

abbrev src : After-pass-left → List ℕ
src b = b.args.source.now

abbrev look : After-pass-left → ℕ → ℕ
look b = properties_at b.args.table.now

found₀ : (b : After-pass-left) → read_at (src b) b.args.at ≡ Ok (b.in-Ok.code, b.in-Ok.len)
found₀ b = sym b.read_char.ensures ∙ b.in-Ok.is

here₀ : (b : After-pass-left) → At (src b) b.args.at b.in-Ok.code b.in-Ok.len
here₀ b = at_char (src b) b.args.at b.in-Ok.code b.in-Ok.len (found₀ b)

found : (c : After-is_joined) → read_at (src (goal.at.After-is_joined c).After-pass-left) c.loop-i.i ≡ Ok (c.in-Ok-read_char.code, c.in-Ok-read_char.len)
found c = sym c.read_char-in-loop-i.ensures ∙ c.in-Ok-read_char.is

here : (c : After-is_joined) → At (src (goal.at.After-is_joined c).After-pass-left) c.loop-i.i c.in-Ok-read_char.code c.in-Ok-read_char.len
here c = at_char (src (goal.at.After-is_joined c).After-pass-left) c.loop-i.i c.in-Ok-read_char.code c.in-Ok-read_char.len (found c)

-- the test's answer, of the properties that the table gives
tested : (c : After-is_joined) (t : Bool) → c.is_joined.result ≡ t
    → joined_by c.args.edition c.loop-i.left (look (goal.at.After-is_joined c).After-pass-left c.in-Ok-read_char.code) ≡ t
tested c t e = rw (← c.lookup-p.ensures) (sym c.is_joined.ensures ∙ e)

-- no character at the start: there are no bytes
pub returns-in_default : goal.returns-in_default
returns-in_default c =
    let s = c.args.source.now in
    let at = c.args.at in
    split_lt at (length s)
    (λ h. absurd (never_stops s at c.requires.0 h (subst Stops c.read_char.ensures (stopped c.read_char.result c.in_default.not-Ok))))
    (λ h. sym (nothing (properties_at c.args.table.now) c.args.edition s at h))

pub overflow_add-i : goal.overflow_add-i
overflow_add-i c = omega (arith, here₀ c)

pub loop-i-init : goal.loop-i-init
loop-i-init c =
    rw (c.pass-left.ensures, c.lookup.ensures, c.new.ensures)
    (first (look c) c.args.edition (src c) _ _ _ c.requires.0 (found₀ c))

-- inside well-formed bytes there always is a character
pub returns-in_default-read_char : goal.returns-in_default-read_char
returns-in_default-read_char c =
    absurd
    (never_stops (src (goal.at.returns-in_default-read_char c).After-pass-left) c.loop-i.i c.loop-i.invariant.well c.loop-i-test.true
    (subst Stops c.read_char-in-loop-i.ensures (stopped c.read_char-in-loop-i.result c.in_default-read_char.not-Ok)))

pub returns-then-not-is_joined : goal.returns-then-not-is_joined
returns-then-not-is_joined c =
    at_break _ _ _ _ _ _ c.loop-i.invariant _ _ (found (goal.at.returns-then-not-is_joined c).After-is_joined) (tested (goal.at.returns-then-not-is_joined c).After-is_joined _ c.if-not-is_joined.true)

pub overflow_add-i-in-loop-i : goal.overflow_add-i-in-loop-i
overflow_add-i-in-loop-i c = omega (arith, here (goal.at.overflow_add-i-in-loop-i c).After-is_joined)

pub loop-i-smaller : goal.loop-i-smaller
loop-i-smaller c = omega (arith, here (goal.at.loop-i-smaller c).After-is_joined)

pub loop-i-preserved : goal.loop-i-preserved
loop-i-preserved c =
    rw (c.pass-left-in-loop-i.ensures, c.lookup-p.ensures)
    (one_more_lem _ _ _ _ _ _ c.loop-i.invariant _ _ (found (goal.at.loop-i-preserved c).After-is_joined) (tested (goal.at.loop-i-preserved c).After-is_joined _ c.if-not-is_joined.false))

pub returns : goal.returns
returns c = at_end _ _ _ _ _ _ c.loop-i.invariant c.loop-i-test.false
