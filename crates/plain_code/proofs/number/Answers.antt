-- `plain_code::number` meets its contract: what follows its first digits is no part of it, or `numbers` tells where it ends. Assumes nothing.
use native.Mathlib.Omega.{arith}
use Prim.Native.Nat.{ℕ}
use mathlib.Core.Path.{◌≡◌, refl, sym, ap, ◌∙◌}
use mathlib.Core.Bool.{Bool, true, false, ◌||◌, false≢true}
use lib.Dec.{eqb}
use Rattle.base.specs.Range.{inside}
use Rattle.text.specs.Bytes.{byte_at}
use Rattle.numbers.specs.PlaceLaws.{place_of_lem, next_place}
use Rattle.plain_code.specs.PlainCodeLaws.{number_whole, finds_number}
use Rattle.plain_code.proofs.number.Goals as goal

neither : (a b : Bool) → (a || b) ≡ false → (a ≡ false) × (b ≡ false)
neither true b e = absurd (false≢true (sym e))
neither false b e = (refl, e)

pub run_end-end-requires : goal.run_end-end-requires
run_end-end-requires c =
    let p = c.requires in
    (next_place (place_of_lem p.stands) (omega (arith, p.bound.1))).well

pub number_end-end-requires : goal.number_end-end-requires
number_end-end-requires c =
    let p = c.requires in
    record { place_in = place_of_lem p.stands; bound = p.bound }

pub overflow_sub-result : goal.overflow_sub-result
overflow_sub-result c = omega (arith, c.number_end-end.ensures)

pub returns-then-b-code_between : goal.returns-then-b-code_between
returns-then-b-code_between c =
    finds_number c.args.source.now c.args.lexer c.number_end-end.ensures refl

pub overflow_sub-result-2 : goal.overflow_sub-result-2
overflow_sub-result-2 c = omega (arith, c.run_end-end.ensures)

pub returns : goal.returns
returns c =
    let s = c.args.source.now in
    let b = c.byte_at-b.ensures ∙ ap (byte_at s) c.run_end-end.ensures in
    let no = neither _ _ c.if-b-code_between.false in
    finds_number s c.args.lexer
    (c.run_end-end.ensures
    ∙ sym
    (number_whole (place_of_lem c.requires.stands) (omega (arith, c.requires.bound.1)) (ap (λ (x : ℕ). eqb x 46) (sym b) ∙ no.0)
    (ap (λ (x : ℕ). inside x 97 122) (sym b) ∙ sym c.code_between.ensures ∙ no.1)))
    refl
