-- `text::decode` meets its contract: a character stands there, and its lead byte says which of the four forms it has. Assumes nothing.
use Rattle.std.specs.Prelude.{Ok}
use Prim.Native.Nat.{ℕ, ◌+◌, ◌≤◌}
use native.Mathlib.Omega.{arith}
use mathlib.Core.Path.{◌≡◌, sym, ap, ◌∙◌}
use lib.ListN.{length}
use Rattle.utf8.specs.Read.{Read, read_at}
use Rattle.utf8.specs.Lengths.{char_of}
use Rattle.utf8.specs.CharsLaws.{at_char}
use Rattle.text.proofs.Found.{short, long}
use Rattle.text.proofs.decode.Goals as goal
use Rattle.text.proofs.decode.Goals.{After-lead_len-n, Else-n-eq3, Then-n-eq3}

has : (c : After-lead_len-n) (m : ℕ) → c.lead_len-n.result ≡ m → read_at c.args.source.now c.args.at ≡ char_of m c.args.source.now c.args.at
has c m e =
    short c.args.source.now c.args.at c.requires.0 c.requires.1 _ c.lead_len-n.ensures m e

-- and its bytes are there
room : (c : After-lead_len-n) {x m : ℕ} → read_at c.args.source.now c.args.at ≡ Ok (x, m) → c.args.at + m ≤ length c.args.source.now
room c {x} {m} e = (at_char c.args.source.now c.args.at x m e).fits

pub overflow_cast-result : goal.overflow_cast-result
overflow_cast-result c = omega (arith, c.shared_slice_known-2-1.given c.args.at)

pub returns-then-n-eq1 : goal.returns-then-n-eq1
returns-then-n-eq1 c = has (goal.at.returns-then-n-eq1 c).After-lead_len-n 1 c.if-n-eq1.true

pub bounds-source-at-then-n-eq2 : goal.bounds-source-at-then-n-eq2
bounds-source-at-then-n-eq2 c =
    omega (arith, room (goal.at.bounds-source-at-then-n-eq2 c).After-lead_len-n (has (goal.at.bounds-source-at-then-n-eq2 c).After-lead_len-n 2 c.if-n-eq2.true))

pub returns-then-n-eq2 : goal.returns-then-n-eq2
returns-then-n-eq2 c =
    has (goal.at.returns-then-n-eq2 c).After-lead_len-n 2 c.if-n-eq2.true ∙ ap {B = Read} (λ x. Ok (x, 2)) (sym c.join2.ensures)

three : (t : Then-n-eq3) → read_at t.args.source.now t.args.at ≡ char_of 3 t.args.source.now t.args.at
three t = has (goal.at.Then-n-eq3 t).After-lead_len-n 3 t.if-n-eq3.true

pub bounds-source-at-then-n-eq3 : goal.bounds-source-at-then-n-eq3
bounds-source-at-then-n-eq3 c = omega (arith, room (goal.at.bounds-source-at-then-n-eq3 c).After-lead_len-n (three (goal.at.bounds-source-at-then-n-eq3 c).Then-n-eq3))

pub bounds-source-at-then-n-eq3-2 : goal.bounds-source-at-then-n-eq3-2
bounds-source-at-then-n-eq3-2 c = omega (arith, room (goal.at.bounds-source-at-then-n-eq3-2 c).After-lead_len-n (three (goal.at.bounds-source-at-then-n-eq3-2 c).Then-n-eq3))

pub returns-then-n-eq3 : goal.returns-then-n-eq3
returns-then-n-eq3 c = three (goal.at.returns-then-n-eq3 c).Then-n-eq3 ∙ ap {B = Read} (λ x. Ok (x, 3)) (sym c.join3.ensures)

four : (t : Else-n-eq3) → read_at t.args.source.now t.args.at ≡ char_of 4 t.args.source.now t.args.at
four t =
    long t.args.source.now t.args.at t.requires.0 t.requires.1 _ t.lead_len-n.ensures t.if-n-eq1.false t.if-n-eq2.false t.if-n-eq3.false

pub bounds-source-at-2 : goal.bounds-source-at-2
bounds-source-at-2 c = omega (arith, room (goal.at.bounds-source-at-2 c).After-lead_len-n (four (goal.at.bounds-source-at-2 c).Else-n-eq3))

pub bounds-source-at-3 : goal.bounds-source-at-3
bounds-source-at-3 c = omega (arith, room (goal.at.bounds-source-at-3 c).After-lead_len-n (four (goal.at.bounds-source-at-3 c).Else-n-eq3))

pub bounds-source-at-4 : goal.bounds-source-at-4
bounds-source-at-4 c = omega (arith, room (goal.at.bounds-source-at-4 c).After-lead_len-n (four (goal.at.bounds-source-at-4 c).Else-n-eq3))

pub returns : goal.returns
returns c = four (goal.at.returns c).Else-n-eq3 ∙ ap {B = Read} (λ x. Ok (x, 4)) (sym c.join4.ensures)
