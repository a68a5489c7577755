-- `short::blank` meets its contract: so many bytes of whitespace are its token, with the indent that they make. Assumes nothing.
use native.Mathlib.Omega.{arith}
use Prim.Native.Nat.{ℕ}
use mathlib.Core.Path.{sym, ap, subst}
use Rattle.token.specs.Kind.{whitespace}
use Rattle.text.specs.CountLaws.{whitespace_ascii}
use Rattle.state.specs.Lexer.{indented, token_along}
use Rattle.numbers.specs.Places.{PlaceIn}
use Rattle.numbers.specs.PlaceLaws.{place_of_lem, run_place, token_fits}
use Rattle.found.specs.FoundLaws.{finds_indented}
use Rattle.short.proofs.blank.Goals as goal
use Rattle.short.proofs.blank.Goals.{After-run_end}

-- where the whitespace ends is a place of the source
ends : (e : After-run_end) → PlaceIn e.args.source.now e.run_end.result
ends e = subst (PlaceIn e.args.source.now) (sym e.run_end.ensures) (run_place (place_of_lem e.requires) whitespace_ascii)

pub overflow_cast-len : goal.overflow_cast-len
overflow_cast-len c = omega (arith, (ends c).inside, (ends c).small)

pub along-requires : goal.along-requires
along-requires c =
    record { lexer_bound = rw c.indent_by.ensures (token_fits _ c.requires (ends (goal.at.along-requires c).After-run_end)).0; lexer_bound_2 = rw c.indent_by.ensures (token_fits 0 c.requires (ends (goal.at.along-requires c).After-run_end)).1 }

pub returns : goal.returns
returns c =
    let l = c.args.lexer in
    finds_indented _ whitespace _ c.indent_by.ensures c.along.ensures
    (ap (λ (n : ℕ). token_along whitespace n (indented n l)) (omega (arith, c.run_end.ensures)))
