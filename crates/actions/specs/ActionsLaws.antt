-- An ASCII character outside a string is taken by the arm of its action.
--     in_code_by     `get_next_token`'s match, by the action of the character
-- Assumes nothing.
use Rattle.std.specs.Prelude.{ℕ, ◌<◌, ◌≡◌, refl, Bool, true, false, List, eqb}
use Rattle.base.specs.Pick.{pick}
use Rattle.property.specs.Table.{properties_at}
use Rattle.fitness.specs.Fit.{FitTable}
use Rattle.fitness.specs.Ascii.{is_letter}
use Rattle.fitness.specs.SmallLaws.{ascii_start}
use Rattle.text.specs.Tests as char
use Rattle.text.specs.Tests.{is_whitespace, is_digit, is_line_end}
use Rattle.state.specs.declared.Lexer.{Lexer}
use Rattle.lexer.specs.GetNextToken.{in_code}
use Rattle.actions.specs.Actions.{action_of, arm}

-- a test of the definition, and of the number
test : {A : Type 0} (f : ℕ → A) (t : Bool) (n m : ℕ) {x y : A} → x ≡ f n → y ≡ f m → pick t x y ≡ f (pick t n m)
test f true n m e d = e
test f false n m e d = d

pub in_code_by : (table : List ℕ) → FitTable table → (b : ℕ) → b < 128 → (cs : List ℕ) (l : Lexer)
    → in_code (properties_at table) b cs l ≡ arm (properties_at table) cs l (action_of b)
unfolding in_code action_of
in_code_by table fit b h cs l =
    let f = arm (properties_at table) cs l in
    let m7 : ℕ = pick (eqb b char.underscore) 7 8 in
    let m6 : ℕ = pick (is_letter b) 6 m7 in
    let m5 : ℕ = pick (is_digit b) 5 m6 in
    let m4 : ℕ = pick (eqb b char.single_quote) 4 m5 in
    let m3 : ℕ = pick (eqb b char.double_quote) 3 m4 in
    let m2 : ℕ = pick (eqb b char.hash) 2 m3 in
    let m1 : ℕ = pick (is_line_end b) 1 m2 in
    rw (ascii_start table fit b h)
    (test f (is_whitespace b) 0 m1 refl
    (test f (is_line_end b) 1 m2 refl
    (test f (eqb b char.hash) 2 m3 refl
    (test f (eqb b char.double_quote) 3 m4 refl
    (test f (eqb b char.single_quote) 4 m5 refl
    (test f (is_digit b) 5 m6 refl (test f (is_letter b) 6 m7 refl (test f (eqb b char.underscore) 7 8 refl refl))))))))
