-- `short::in_code` meets its contract: the class of the byte decides the arm, by a computed test of the bytes that have it. Assumes nothing.
use native.Mathlib.Omega.{arith}
use mathlib.Core.Path.{refl, sym, ◌∙◌}
use lib.Dec.{ltb}
use lib.ListN.{get_or}
use borrow.Author.Tests.{ltb-true}
use Rattle.base.specs.All.{all_good}
use Rattle.base.specs.Range.{inside}
use Rattle.text.specs.Tests.{is_whitespace, is_line_end}
use Rattle.state.specs.Lexer.{reach_of}
use Rattle.classes.specs.Classes.{class_of}
use Rattle.actions.specs.Actions.{action_of}
use Rattle.found.specs.FoundLaws.{finds_same, finds_nothing}
use Rattle.short.specs.ShortLaws.{byte_there, class_test, class_byte, by_arm, feed_at}
use Rattle.short.proofs.in_code.Goals as goal

pub curly_open-requires : goal.curly_open-requires
unfolding class_of inside all_good
curly_open-requires c =
    let p = c.requires in
    (p.stands.0, class_byte 2 123 (omega arith) refl c.args.source.now _ p.stands.1 (sym c.class_at.ensures ∙ c.in-2.is))

pub name-requires : goal.name-requires
unfolding class_of inside all_good
name-requires c =
    let p = c.requires in
    let s = c.args.source.now in
    let i = (reach_of c.args.lexer).byte.0 in (
      p.stands.0,
      p.fit_table.0,
      rw (byte_there s i p.stands.1)
          (ltb-true (get_or s i 0) 128 (class_test 4 (λ b. ltb b 128) (omega arith) refl (get_or s i 0) (sym c.class_at.ensures ∙ c.in-4.is))),
    )

pub dot-requires : goal.dot-requires
unfolding class_of inside all_good
dot-requires c =
    let p = c.requires in
    (p.stands.0, class_byte 10 46 (omega arith) refl c.args.source.now _ p.stands.1 (sym c.class_at.ensures ∙ c.in-10.is))

pub colon-requires : goal.colon-requires
unfolding class_of inside all_good
colon-requires c =
    let p = c.requires in
    (p.stands.0, class_byte 11 58 (omega arith) refl c.args.source.now _ p.stands.1 (sym c.class_at.ensures ∙ c.in-11.is))

pub curly_close-requires : goal.curly_close-requires
unfolding class_of inside all_good
curly_close-requires c =
    let p = c.requires in
    (p.stands.0, class_byte 12 125 (omega arith) refl c.args.source.now _ p.stands.1 (sym c.class_at.ensures ∙ c.in-12.is))

pub minus-requires : goal.minus-requires
unfolding class_of inside all_good
minus-requires c =
    let p = c.requires in
    (p.stands.0, class_byte 15 45 (omega arith) refl c.args.source.now _ p.stands.1 (sym c.class_at.ensures ∙ c.in-15.is))

pub returns-in-0 : goal.returns-in-0
unfolding class_of action_of is_whitespace is_line_end inside all_good
returns-in-0 c =
    let p = c.requires in
    by_arm 0 3 (omega arith) refl c.args.source.now _ p.fit_table.0 c.args.lexer p.stands.1
    (sym c.class_at.ensures ∙ c.in-0.is) c.start_string.ensures

pub returns-in-1 : goal.returns-in-1
unfolding class_of action_of is_whitespace is_line_end inside all_good
returns-in-1 c =
    let p = c.requires in
    by_arm 1 4 (omega arith) refl c.args.source.now _ p.fit_table.0 c.args.lexer p.stands.1
    (sym c.class_at.ensures ∙ c.in-1.is) c.start_string-in-1.ensures

pub returns-in-2 : goal.returns-in-2
unfolding class_of action_of is_whitespace is_line_end inside all_good
returns-in-2 c =
    let p = c.requires in
    by_arm 2 8 (omega arith) refl c.args.source.now _ p.fit_table.0 c.args.lexer p.stands.1
    (sym c.class_at.ensures ∙ c.in-2.is) c.curly_open.ensures

pub returns-in-4 : goal.returns-in-4
unfolding class_of action_of is_whitespace is_line_end inside all_good
returns-in-4 c =
    let p = c.requires in
    by_arm 4 6 (omega arith) refl c.args.source.now _ p.fit_table.0 c.args.lexer p.stands.1
    (sym c.class_at.ensures ∙ c.in-4.is) c.name.ensures

pub returns-in-7 : goal.returns-in-7
unfolding class_of action_of is_whitespace is_line_end inside all_good
returns-in-7 c =
    let p = c.requires in
    by_arm 7 0 (omega arith) refl c.args.source.now _ p.fit_table.0 c.args.lexer p.stands.1
    (sym c.class_at.ensures ∙ c.in-7.is) c.blank.ensures

pub returns-in-8 : goal.returns-in-8
unfolding class_of action_of is_whitespace is_line_end inside all_good
returns-in-8 c =
    let p = c.requires in
    by_arm 8 8 (omega arith) refl c.args.source.now _ p.fit_table.0 c.args.lexer p.stands.1
    (sym c.class_at.ensures ∙ c.in-8.is) c.single_sign.ensures

pub returns-in-9 : goal.returns-in-9
unfolding class_of action_of is_whitespace is_line_end inside all_good
returns-in-9 c =
    let p = c.requires in
    by_arm 9 8 (omega arith) refl c.args.source.now _ p.fit_table.0 c.args.lexer p.stands.1
    (sym c.class_at.ensures ∙ c.in-9.is) c.operator.ensures

pub returns-in-10 : goal.returns-in-10
unfolding class_of action_of is_whitespace is_line_end inside all_good
returns-in-10 c =
    let p = c.requires in
    by_arm 10 8 (omega arith) refl c.args.source.now _ p.fit_table.0 c.args.lexer p.stands.1
    (sym c.class_at.ensures ∙ c.in-10.is) c.dot.ensures

pub returns-in-11 : goal.returns-in-11
unfolding class_of action_of is_whitespace is_line_end inside all_good
returns-in-11 c =
    let p = c.requires in
    by_arm 11 8 (omega arith) refl c.args.source.now _ p.fit_table.0 c.args.lexer p.stands.1
    (sym c.class_at.ensures ∙ c.in-11.is) c.colon.ensures

pub returns-in-12 : goal.returns-in-12
unfolding class_of action_of is_whitespace is_line_end inside all_good
returns-in-12 c =
    let p = c.requires in
    by_arm 12 8 (omega arith) refl c.args.source.now _ p.fit_table.0 c.args.lexer p.stands.1
    (sym c.class_at.ensures ∙ c.in-12.is) c.curly_close.ensures

pub returns-in-15 : goal.returns-in-15
unfolding class_of action_of is_whitespace is_line_end inside all_good
returns-in-15 c =
    let p = c.requires in
    by_arm 15 8 (omega arith) refl c.args.source.now _ p.fit_table.0 c.args.lexer p.stands.1
    (sym c.class_at.ensures ∙ c.in-15.is) c.minus.ensures

pub returns-in-16 : goal.returns-in-16
unfolding class_of action_of is_whitespace is_line_end inside all_good
returns-in-16 c =
    let p = c.requires in
    by_arm 16 0 (omega arith) refl c.args.source.now _ p.fit_table.0 c.args.lexer p.stands.1
    (sym c.class_at.ensures ∙ c.in-16.is) c.blank-in-16.ensures

pub returns-in-17 : goal.returns-in-17
unfolding class_of action_of is_whitespace is_line_end inside all_good
returns-in-17 c =
    let p = c.requires in
    by_arm 17 1 (omega arith) refl c.args.source.now _ p.fit_table.0 c.args.lexer p.stands.1
    (sym c.class_at.ensures ∙ c.in-17.is)
    (finds_same
    (sym
    (feed_at c.args.source.now c.args.lexer p.stands.0.well
    (class_byte 17 10 (omega arith) refl c.args.source.now _ p.stands.1 (sym c.class_at.ensures ∙ c.in-17.is))))
    c.line_feed.ensures)

pub returns-in_default : goal.returns-in_default
returns-in_default c = finds_nothing c.nothing.ensures
