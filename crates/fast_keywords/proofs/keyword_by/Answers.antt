-- `fast_keywords::keyword_by` meets its contract: only the keyword that has the name's place can be the name, and it is where number and length are.
-- Assumes nothing.
use native.Mathlib.Omega.{arith}
use mathlib.Core.Path.{ap, ◌∙◌}
use Prim.Native.Nat.{ℕ, ◌*◌, ◌-◌, ◌^◌}
use lib.ListN.{drop, length-take, length-drop}
use Rattle.keywords.proofs.Narrow.{by_length}
use Rattle.fast_keywords.specs.SlotsLaws.{by_word}
use Rattle.fast_keywords.proofs.keyword_by.Goals as goal

pub mask-requires : goal.mask-requires
mask-requires c = omega (arith, c.min.ensures)

pub returns : goal.returns
returns c =
    let a = c.args in
    let s = a.source.now in
    c.kind_if.ensures
    ∙ by_word s a.at a.len (λ i. omega (arith, c.type_inv.source i)) c.requires.at_in_bounds.0 c.requires.at_in_bounds.1 c.requires.at_in_bounds.2
    c.place.ensures c.slot_at-slot.ensures c.requires.word_value
    (λ h. c.mask.ensures ∙ ap (λ (n : ℕ). 2 ^ (8 * n) - 1) (omega (arith, c.min.ensures, h)))
    (λ h. by_length _ (λ k. omega (arith, k.1, length-take a.len (drop a.at s), length-drop a.at s)))
