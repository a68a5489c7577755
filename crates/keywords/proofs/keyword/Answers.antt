-- `keywords::keyword` meets its contract: only the keyword that has the name's place can be the name. Assumes nothing.
use Rattle.std.proofs.Common.{rules}
use mathlib.Core.Path.{◌≡◌, sym, ◌∙◌}
use Prim.Native.Nat.{ℕ, ◌+◌, ◌≤◌, ◌<◌}
use native.Mathlib.Nat.{add-zero}
use native.Mathlib.Omega.{arith}
use lib.ListN.{length, get_or, take, drop, length-take, length-drop}
use lib.Seq.{length-take-le}
use Rattle.base.specs.Pick.{pick}
use Rattle.token.specs.Kind.{id}
use Rattle.keywords.specs.Keywords.{keyword_of}
use Rattle.keywords.specs.Places.{kind_at}
use Rattle.keywords.proofs.Narrow.{eight, compared, differs}
use Rattle.keywords.proofs.keyword.Goals as goal
use Rattle.keywords.proofs.keyword.Goals.{After-starts_with, After-text_at-text, After-within-n}

-- the name's first two bytes are there
inside : (p : After-within-n) → 2 ≤ p.within-n.result → p.args.at + 1 < length p.args.source.now
inside p h =
    let a = p.args in
    omega (arith, p.within-n.ensures, length-take a.len (drop a.at a.source.now), length-drop a.at a.source.now)

pub bounds-source-at : goal.bounds-source-at
bounds-source-at c = omega (arith, inside (goal.at.bounds-source-at c).After-within-n (omega arith))

pub overflow_add-at : goal.overflow_add-at
overflow_add-at c = omega (arith, inside (goal.at.overflow_add-at c).After-within-n (omega arith))

pub bounds-source-at-2 : goal.bounds-source-at-2
bounds-source-at-2 c = omega (arith, inside (goal.at.bounds-source-at-2 c).After-within-n (omega arith))

-- what stands at the place has eight bytes
full : (p : After-text_at-text) → length p.text_at-text.result ≡ 8
full p =
    let a = p.args in
    eight a.source.now a.at a.len p.within-n.ensures (omega arith) (omega arith) p.place-place.ensures p.text_at-text.ensures

-- a name that has another byte there is no keyword
unlike : (p : After-text_at-text) (i : ℕ) → i < 2 → let a = p.args in
    (get_or a.source.now (a.at + i) 0 ≡ get_or p.text_at-text.result i 0 → ⊥) → id ≡ keyword_of (take a.len (drop a.at a.source.now))
unlike p =
    let a = p.args in
    differs a.source.now a.at a.len p.within-n.ensures (omega arith) (omega arith) p.place-place.ensures p.text_at-text.ensures

pub bounds-source-at-3 : goal.bounds-source-at-3
bounds-source-at-3 c = omega (arith, inside (goal.at.bounds-source-at-3 c).After-within-n (omega arith))

pub bounds-text-0 : goal.bounds-text-0
bounds-text-0 c = omega (arith, full (goal.at.bounds-text-0 c).After-text_at-text)

pub returns-then-source-at : goal.returns-then-source-at
returns-then-source-at c = unlike (goal.at.returns-then-source-at c).After-text_at-text 0 (omega arith) (rw (add-zero _) c.if-source-at.true)

pub overflow_add-at-2 : goal.overflow_add-at-2
overflow_add-at-2 c = omega (arith, inside (goal.at.overflow_add-at-2 c).After-within-n (omega arith))

pub bounds-source-at-4 : goal.bounds-source-at-4
bounds-source-at-4 c = omega (arith, inside (goal.at.bounds-source-at-4 c).After-within-n (omega arith))

pub bounds-text-1 : goal.bounds-text-1
bounds-text-1 c = omega (arith, full (goal.at.bounds-text-1 c).After-text_at-text)

pub returns-then-source-at-2 : goal.returns-then-source-at-2
returns-then-source-at-2 c = unlike (goal.at.returns-then-source-at-2 c).After-text_at-text 1 (omega arith) c.if-source-at-2.true

pub slice_bounds-text-end : goal.slice_bounds-text-end
slice_bounds-text-end c = omega (arith, full (goal.at.slice_bounds-text-end c).After-text_at-text)

pub slice_bounds-starts_with-end : goal.slice_bounds-starts_with-end
slice_bounds-starts_with-end c = sym (length-take-le _ _ (omega (arith, full (goal.at.slice_bounds-starts_with-end c).After-text_at-text)))

-- what the comparison says of the name
said : (c : After-starts_with) → let a = c.args in
    pick c.starts_with.result (kind_at c.place-place.result) id ≡ keyword_of (take a.len (drop a.at a.source.now))
said c =
    let a = c.args in
    compared a.source.now a.at a.len c.within-n.ensures (omega arith) (omega arith) c.place-place.ensures c.text_at-text.ensures
    (search rules)

pub returns-then-starts_with : goal.returns-then-starts_with
returns-then-starts_with c = c.kind_at.ensures ∙ (rw c.if-starts_with.true at (said (goal.at.returns-then-starts_with c).After-starts_with))

pub returns : goal.returns
returns c = rw c.if-starts_with.false at (said (goal.at.returns c).After-starts_with)
