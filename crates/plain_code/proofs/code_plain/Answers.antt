-- `plain_code::code_plain` meets its contract: the class of the byte decides the arm, by a computed test of the bytes that have it. Assumes nothing.
use native.Mathlib.Omega.{arith}
use Prim.Native.Nat.{ℕ}
use mathlib.Core.Path.{◌≡◌, refl, sym, ◌∙◌}
use lib.Dec.{ltb}
use lib.ListN.{get_or}
use borrow.Author.Tests.{ltb-true}
use Rattle.base.specs.All.{all_good}
use Rattle.base.specs.Range.{inside}
use Rattle.base.specs.RangeLaws.{inside_is}
use Rattle.fitness.specs.Ascii.{is_name_part}
use Rattle.text.specs.Tests.{is_whitespace, is_line_end}
use Rattle.state.specs.Lexer.{reach_of}
use Rattle.classes.specs.Classes.{class_of}
use Rattle.actions.specs.Actions.{action_of}
use Rattle.short.specs.ShortLaws.{byte_there, class_test, class_byte, arm_at}
use Rattle.plain.specs.PlainLaws.{plain_same, plain_none}
use Rattle.plain_code.proofs.code_plain.Goals as goal
use Rattle.plain_code.proofs.code_plain.Goals.{After-class_at}

abbrev byte : After-class_at → ℕ
byte a = get_or a.args.source.now (reach_of a.args.lexer).byte.0 0

-- the byte's class, where it is known
class : (a : After-class_at) {k : ℕ} → a.class_at.result ≡ k → class_of (byte a) ≡ k
class a e = sym a.class_at.ensures ∙ e

pub name-requires : goal.name-requires
unfolding class_of inside all_good
name-requires c =
    let p = c.requires in
    record { stands = p.stands; lexer_value = class_test 4 is_name_part (omega arith) refl (byte (goal.at.name-requires c).After-class_at) (class (goal.at.name-requires c).After-class_at c.in-4.is) }

pub number-requires : goal.number-requires
unfolding class_of inside all_good
number-requires c =
    let p = c.requires in
    let s = c.args.source.now in
    let i = (reach_of c.args.lexer).byte.0 in
    let digit = class_test 5 (λ b. inside b 48 57) (omega arith) refl (get_or s i 0) (class (goal.at.number-requires c).After-class_at c.in-5.is) in
    record { stands = p.stands.0; bound = rw (byte_there s i p.stands.1) (inside_is (get_or s i 0) 48 57 digit) }

pub sign-requires : goal.sign-requires
unfolding class_of inside all_good
sign-requires c =
    let p = c.requires in
    record { stands = p.stands; lexer_bound = (ltb-true (byte (goal.at.sign-requires c).After-class_at) 128 (class_test 8 (λ b. ltb b 128) (omega arith) refl (byte (goal.at.sign-requires c).After-class_at) (class (goal.at.sign-requires c).After-class_at c.in-8.is)), p.class_table.1) }

pub sign-requires-in-9 : goal.sign-requires-in-9
unfolding class_of inside all_good
sign-requires-in-9 c =
    let p = c.requires in
    record { stands = p.stands; lexer_bound = (ltb-true (byte (goal.at.sign-requires-in-9 c).After-class_at) 128 (class_test 9 (λ b. ltb b 128) (omega arith) refl (byte (goal.at.sign-requires-in-9 c).After-class_at) (class (goal.at.sign-requires-in-9 c).After-class_at c.in-9.is)), p.class_table.1) }

pub sign-requires-in-10 : goal.sign-requires-in-10
unfolding class_of inside all_good
sign-requires-in-10 c =
    let p = c.requires in
    record { stands = p.stands; lexer_bound = (ltb-true (byte (goal.at.sign-requires-in-10 c).After-class_at) 128 (class_test 10 (λ b. ltb b 128) (omega arith) refl (byte (goal.at.sign-requires-in-10 c).After-class_at) (class (goal.at.sign-requires-in-10 c).After-class_at c.in-10.is)), p.class_table.1) }

pub colon-requires : goal.colon-requires
unfolding class_of inside all_good
colon-requires c =
    let p = c.requires in
    (p.stands.0, class_byte 11 58 (omega arith) refl c.args.source.now _ p.stands.1 (class (goal.at.colon-requires c).After-class_at c.in-11.is))

pub curly_close-requires : goal.curly_close-requires
unfolding class_of inside all_good
curly_close-requires c =
    let p = c.requires in
    (p.stands.0, class_byte 12 125 (omega arith) refl c.args.source.now _ p.stands.1 (class (goal.at.curly_close-requires c).After-class_at c.in-12.is))

pub sign-requires-in-15 : goal.sign-requires-in-15
unfolding class_of inside all_good
sign-requires-in-15 c =
    let p = c.requires in
    record { stands = p.stands; lexer_bound = (ltb-true (byte (goal.at.sign-requires-in-15 c).After-class_at) 128 (class_test 15 (λ b. ltb b 128) (omega arith) refl (byte (goal.at.sign-requires-in-15 c).After-class_at) (class (goal.at.sign-requires-in-15 c).After-class_at c.in-15.is)), p.class_table.1) }

pub returns-in-4 : goal.returns-in-4
unfolding class_of action_of is_whitespace is_line_end inside all_good
returns-in-4 c table fit =
    plain_same
    (arm_at 4 6 (omega arith) refl c.args.source.now table fit c.args.lexer c.requires.stands.1 (class (goal.at.returns-in-4 c).After-class_at c.in-4.is))
    (c.name.ensures table fit)

pub returns-in-5 : goal.returns-in-5
unfolding class_of action_of is_whitespace is_line_end inside all_good
returns-in-5 c table fit =
    plain_same
    (arm_at 5 5 (omega arith) refl c.args.source.now table fit c.args.lexer c.requires.stands.1 (class (goal.at.returns-in-5 c).After-class_at c.in-5.is))
    c.number.ensures

pub returns-in-8 : goal.returns-in-8
unfolding class_of action_of is_whitespace is_line_end inside all_good
returns-in-8 c table fit =
    plain_same
    (arm_at 8 8 (omega arith) refl c.args.source.now table fit c.args.lexer c.requires.stands.1 (class (goal.at.returns-in-8 c).After-class_at c.in-8.is))
    c.sign.ensures

pub returns-in-9 : goal.returns-in-9
unfolding class_of action_of is_whitespace is_line_end inside all_good
returns-in-9 c table fit =
    plain_same
    (arm_at 9 8 (omega arith) refl c.args.source.now table fit c.args.lexer c.requires.stands.1 (class (goal.at.returns-in-9 c).After-class_at c.in-9.is))
    c.sign-in-9.ensures

pub returns-in-10 : goal.returns-in-10
unfolding class_of action_of is_whitespace is_line_end inside all_good
returns-in-10 c table fit =
    plain_same
    (arm_at 10 8 (omega arith) refl c.args.source.now table fit c.args.lexer c.requires.stands.1 (class (goal.at.returns-in-10 c).After-class_at c.in-10.is))
    c.sign-in-10.ensures

pub returns-in-11 : goal.returns-in-11
unfolding class_of action_of is_whitespace is_line_end inside all_good
returns-in-11 c table fit =
    plain_same
    (arm_at 11 8 (omega arith) refl c.args.source.now table fit c.args.lexer c.requires.stands.1 (class (goal.at.returns-in-11 c).After-class_at c.in-11.is))
    c.colon.ensures

pub returns-in-12 : goal.returns-in-12
unfolding class_of action_of is_whitespace is_line_end inside all_good
returns-in-12 c table fit =
    plain_same
    (arm_at 12 8 (omega arith) refl c.args.source.now table fit c.args.lexer c.requires.stands.1 (class (goal.at.returns-in-12 c).After-class_at c.in-12.is))
    c.curly_close.ensures

pub returns-in-15 : goal.returns-in-15
unfolding class_of action_of is_whitespace is_line_end inside all_good
returns-in-15 c table fit =
    plain_same
    (arm_at 15 8 (omega arith) refl c.args.source.now table fit c.args.lexer c.requires.stands.1 (class (goal.at.returns-in-15 c).After-class_at c.in-15.is))
    c.sign-in-15.ensures

pub returns-in_default : goal.returns-in_default
returns-in_default c table fit = plain_none c.none.ensures
