-- `names::raw_start` meets its contract: only "r" opens a raw string. Assumes nothing.
use native.Mathlib.Omega.{arith}
use mathlib.Core.Path.{◌≡◌, sym, ap, ◌∙◌}
use Rattle.position.specs.declared.Reach.{Reach}
use Rattle.text.specs.Bytes.{byte_at}
use Rattle.state.specs.Lexer.{reach_of}
use Rattle.names.specs.NameLaws.{after_r, r_stands, r_decides, no_decides}
use Rattle.names.proofs.raw_start.Goals as goal
use Rattle.names.proofs.raw_start.Goals.{Then-is_r}

pub overflow_sub-len : goal.overflow_sub-len
overflow_sub-len c = omega (arith, ap (λ (r : Reach). r.byte.0) c.reach-reach.ensures, c.requires.1.on)

-- the "r" that stands there
stands : (c : Then-is_r) → byte_at c.args.source.now (reach_of c.args.lexer).byte.0 ≡ 114
stands c =
    r_stands c.requires.1 c.reach-reach.ensures (sym c.is_r.ensures ∙ c.if-is_r.true)

pub overflow_add-at : goal.overflow_add-at
overflow_add-at c =
    let p = after_r c.reach-reach.ensures c.requires.0 (stands c) in
    omega (arith, p.small, p.inside)

pub parse_raw_string_start-requires : goal.parse_raw_string_start-requires
parse_raw_string_start-requires c =
    after_r c.reach-reach.ensures c.requires.0 (stands c)

pub returns-then-is_r : goal.returns-then-is_r
returns-then-is_r c =
    r_decides _ _ _ c.requires.0 _ c.reach-reach.ensures (stands (goal.at.returns-then-is_r c).Then-is_r) c.parse_raw_string_start.ensures
    (sym c.is_r.ensures ∙ c.if-is_r.true)

pub returns : goal.returns
returns c =
    no_decides _ _ _ c.requires.0 _ c.reach-reach.ensures (sym c.is_r.ensures ∙ c.if-is_r.false)
