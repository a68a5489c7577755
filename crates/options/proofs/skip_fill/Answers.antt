-- `options::skip_fill` meets its contract: nothing left of an alignment matters, so it may be read as a first cluster (`Alignment`).
-- Assumes nothing.
use native.Mathlib.Omega.{arith}
use Prim.Native.Nat.{ℕ}
use Rattle.std.proofs.Common.{rules}
use mathlib.Core.Path.{◌≡◌, sym, ◌∙◌}
use mathlib.Core.List.{List}
use mathlib.Core.Bool.{Bool, true, false}
use Rattle.options.proofs.Alignment.{Filled, behind, alignment, no_alignment, longer, aligned}
use Rattle.options.proofs.skip_fill.Goals as goal
use Rattle.options.proofs.skip_fill.Goals.{After-cluster_end-fill, After-is_alignment}

abbrev src : After-cluster_end-fill → List ℕ
src b = b.args.source.now

filled : (b : After-cluster_end-fill) → Filled b.args.edition b.args.table.now (src b) b.args.at b.cluster_end-fill.result
filled b =
    let p = b.requires in
    record { fit = p.fit_table; within = p.well_formed.1; well = p.well_formed.0; end = b.cluster_end-fill.ensures }

-- the answer of `is_alignment`, of the byte there
tested : (a : After-is_alignment) (t : Bool) → a.is_alignment.result ≡ t → alignment (filled (goal.at.After-is_alignment a).After-cluster_end-fill) ≡ t
tested a t e = rw (← a.byte_at.ensures) (sym a.is_alignment.ensures ∙ e)

pub returns-then-not-is_alignment : goal.returns-then-not-is_alignment
returns-then-not-is_alignment c =
    no_alignment (filled (goal.at.returns-then-not-is_alignment c).After-cluster_end-fill) (tested (goal.at.returns-then-not-is_alignment c).After-is_alignment false c.if-not-is_alignment.true)

pub cluster_end-requires : goal.cluster_end-requires
cluster_end-requires c =
    ((behind (filled (goal.at.cluster_end-requires c).After-cluster_end-fill)).well, c.requires.fit_table.rises)

pub overflow_add-fill : goal.overflow_add-fill
overflow_add-fill c = omega (arith, (behind (filled (goal.at.overflow_add-fill c).After-cluster_end-fill)).within, c.requires.well_formed)

pub returns-then-cluster_end-fill : goal.returns-then-cluster_end-fill
returns-then-cluster_end-fill c =
    let e = aligned (filled (goal.at.returns-then-cluster_end-fill c).After-cluster_end-fill) (tested (goal.at.returns-then-cluster_end-fill c).After-is_alignment true c.if-not-is_alignment.false) (search rules) in
    search (rules, e)

pub returns : goal.returns
returns c =
    longer (filled (goal.at.returns c).After-cluster_end-fill) (tested (goal.at.returns c).After-is_alignment true c.if-not-is_alignment.false) (λ e. c.if-cluster_end-fill.false (search (rules, e)))
