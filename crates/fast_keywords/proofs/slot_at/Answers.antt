-- `fast_keywords::slot_at` meets its contract: at a known place `slot_at` computes, two lines for each. Assumes nothing.
use borrow.Author.Rules.{rules}
use mathlib.Core.Path.{sym, ap, ◌∙◌}
use Rattle.fast_keywords.specs.Slots.{number, place_by, keywords_at, first_slot, slot_at}
use Rattle.fast_keywords.specs.SlotsLaws.{by_none}
use Rattle.fast_keywords.proofs.slot_at.Goals as goal

pub slot_of-requires : goal.slot_of-requires
unfolding number place_by keywords_at slot_at
slot_of-requires c = search rules

pub slot_of-requires-in-5 : goal.slot_of-requires-in-5
unfolding number place_by keywords_at slot_at
slot_of-requires-in-5 c = search rules

pub slot_of-requires-in-7 : goal.slot_of-requires-in-7
unfolding number place_by keywords_at slot_at
slot_of-requires-in-7 c = search rules

pub slot_of-requires-in-8 : goal.slot_of-requires-in-8
unfolding number place_by keywords_at slot_at
slot_of-requires-in-8 c = search rules

pub slot_of-requires-in-9 : goal.slot_of-requires-in-9
unfolding number place_by keywords_at slot_at
slot_of-requires-in-9 c = search rules

pub slot_of-requires-in-10 : goal.slot_of-requires-in-10
unfolding number place_by keywords_at slot_at
slot_of-requires-in-10 c = search rules

pub slot_of-requires-in-13 : goal.slot_of-requires-in-13
unfolding number place_by keywords_at slot_at
slot_of-requires-in-13 c = search rules

pub slot_of-requires-in-17 : goal.slot_of-requires-in-17
unfolding number place_by keywords_at slot_at
slot_of-requires-in-17 c = search rules

pub slot_of-requires-in-18 : goal.slot_of-requires-in-18
unfolding number place_by keywords_at slot_at
slot_of-requires-in-18 c = search rules

pub slot_of-requires-in-20 : goal.slot_of-requires-in-20
unfolding number place_by keywords_at slot_at
slot_of-requires-in-20 c = search rules

pub slot_of-requires-in-23 : goal.slot_of-requires-in-23
unfolding number place_by keywords_at slot_at
slot_of-requires-in-23 c = search rules

pub slot_of-requires-in-26 : goal.slot_of-requires-in-26
unfolding number place_by keywords_at slot_at
slot_of-requires-in-26 c = search rules

pub slot_of-requires-in-28 : goal.slot_of-requires-in-28
unfolding number place_by keywords_at slot_at
slot_of-requires-in-28 c = search rules

pub slot_of-requires-in-29 : goal.slot_of-requires-in-29
unfolding number place_by keywords_at slot_at
slot_of-requires-in-29 c = search rules

pub slot_of-requires-in-30 : goal.slot_of-requires-in-30
unfolding number place_by keywords_at slot_at
slot_of-requires-in-30 c = search rules

pub slot_of-requires-in-31 : goal.slot_of-requires-in-31
unfolding number place_by keywords_at slot_at
slot_of-requires-in-31 c = search rules

pub slot_of-requires-in-33 : goal.slot_of-requires-in-33
unfolding number place_by keywords_at slot_at
slot_of-requires-in-33 c = search rules

pub slot_of-requires-in-34 : goal.slot_of-requires-in-34
unfolding number place_by keywords_at slot_at
slot_of-requires-in-34 c = search rules

pub slot_of-requires-in-37 : goal.slot_of-requires-in-37
unfolding number place_by keywords_at slot_at
slot_of-requires-in-37 c = search rules

pub slot_of-requires-in-39 : goal.slot_of-requires-in-39
unfolding number place_by keywords_at slot_at
slot_of-requires-in-39 c = search rules

pub slot_of-requires-in-40 : goal.slot_of-requires-in-40
unfolding number place_by keywords_at slot_at
slot_of-requires-in-40 c = search rules

pub slot_of-requires-in-41 : goal.slot_of-requires-in-41
unfolding number place_by keywords_at slot_at
slot_of-requires-in-41 c = search rules

pub slot_of-requires-in-43 : goal.slot_of-requires-in-43
unfolding number place_by keywords_at slot_at
slot_of-requires-in-43 c = search rules

pub slot_of-requires-in-46 : goal.slot_of-requires-in-46
unfolding number place_by keywords_at slot_at
slot_of-requires-in-46 c = search rules

pub slot_of-requires-in-47 : goal.slot_of-requires-in-47
unfolding number place_by keywords_at slot_at
slot_of-requires-in-47 c = search rules

pub slot_of-requires-in-52 : goal.slot_of-requires-in-52
unfolding number place_by keywords_at slot_at
slot_of-requires-in-52 c = search rules

pub slot_of-requires-in-54 : goal.slot_of-requires-in-54
unfolding number place_by keywords_at slot_at
slot_of-requires-in-54 c = search rules

pub slot_of-requires-in-57 : goal.slot_of-requires-in-57
unfolding number place_by keywords_at slot_at
slot_of-requires-in-57 c = search rules

pub slot_of-requires-in-58 : goal.slot_of-requires-in-58
unfolding number place_by keywords_at slot_at
slot_of-requires-in-58 c = search rules

pub slot_of-requires-in-59 : goal.slot_of-requires-in-59
unfolding number place_by keywords_at slot_at
slot_of-requires-in-59 c = search rules

pub slot_of-requires-in-60 : goal.slot_of-requires-in-60
unfolding number place_by keywords_at slot_at
slot_of-requires-in-60 c = search rules

pub slot_of-requires-in-61 : goal.slot_of-requires-in-61
unfolding number place_by keywords_at slot_at
slot_of-requires-in-61 c = search rules

pub slot_of-requires-in_default : goal.slot_of-requires-in_default
unfolding number place_by keywords_at slot_at
slot_of-requires-in_default c = search rules

pub returns-in-4 : goal.returns-in-4
unfolding number place_by keywords_at slot_at
returns-in-4 c = rw c.in-4.is c.slot_of.ensures

pub returns-in-5 : goal.returns-in-5
unfolding number place_by keywords_at slot_at
returns-in-5 c = rw c.in-5.is c.slot_of-in-5.ensures

pub returns-in-7 : goal.returns-in-7
unfolding number place_by keywords_at slot_at
returns-in-7 c = rw c.in-7.is c.slot_of-in-7.ensures

pub returns-in-8 : goal.returns-in-8
unfolding number place_by keywords_at slot_at
returns-in-8 c = rw c.in-8.is c.slot_of-in-8.ensures

pub returns-in-9 : goal.returns-in-9
unfolding number place_by keywords_at slot_at
returns-in-9 c = rw c.in-9.is c.slot_of-in-9.ensures

pub returns-in-10 : goal.returns-in-10
unfolding number place_by keywords_at slot_at
returns-in-10 c = rw c.in-10.is c.slot_of-in-10.ensures

pub returns-in-13 : goal.returns-in-13
unfolding number place_by keywords_at slot_at
returns-in-13 c = rw c.in-13.is c.slot_of-in-13.ensures

pub returns-in-17 : goal.returns-in-17
unfolding number place_by keywords_at slot_at
returns-in-17 c = rw c.in-17.is c.slot_of-in-17.ensures

pub returns-in-18 : goal.returns-in-18
unfolding number place_by keywords_at slot_at
returns-in-18 c = rw c.in-18.is c.slot_of-in-18.ensures

pub returns-in-20 : goal.returns-in-20
unfolding number place_by keywords_at slot_at
returns-in-20 c = rw c.in-20.is c.slot_of-in-20.ensures

pub returns-in-23 : goal.returns-in-23
unfolding number place_by keywords_at slot_at
returns-in-23 c = rw c.in-23.is c.slot_of-in-23.ensures

pub returns-in-26 : goal.returns-in-26
unfolding number place_by keywords_at slot_at
returns-in-26 c = rw c.in-26.is c.slot_of-in-26.ensures

pub returns-in-28 : goal.returns-in-28
unfolding number place_by keywords_at slot_at
returns-in-28 c = rw c.in-28.is c.slot_of-in-28.ensures

pub returns-in-29 : goal.returns-in-29
unfolding number place_by keywords_at slot_at
returns-in-29 c = rw c.in-29.is c.slot_of-in-29.ensures

pub returns-in-30 : goal.returns-in-30
unfolding number place_by keywords_at slot_at
returns-in-30 c = rw c.in-30.is c.slot_of-in-30.ensures

pub returns-in-31 : goal.returns-in-31
unfolding number place_by keywords_at slot_at
returns-in-31 c = rw c.in-31.is c.slot_of-in-31.ensures

pub returns-in-33 : goal.returns-in-33
unfolding number place_by keywords_at slot_at
returns-in-33 c = rw c.in-33.is c.slot_of-in-33.ensures

pub returns-in-34 : goal.returns-in-34
unfolding number place_by keywords_at slot_at
returns-in-34 c = rw c.in-34.is c.slot_of-in-34.ensures

pub returns-in-37 : goal.returns-in-37
unfolding number place_by keywords_at slot_at
returns-in-37 c = rw c.in-37.is c.slot_of-in-37.ensures

pub returns-in-39 : goal.returns-in-39
unfolding number place_by keywords_at slot_at
returns-in-39 c = rw c.in-39.is c.slot_of-in-39.ensures

pub returns-in-40 : goal.returns-in-40
unfolding number place_by keywords_at slot_at
returns-in-40 c = rw c.in-40.is c.slot_of-in-40.ensures

pub returns-in-41 : goal.returns-in-41
unfolding number place_by keywords_at slot_at
returns-in-41 c = rw c.in-41.is c.slot_of-in-41.ensures

pub returns-in-43 : goal.returns-in-43
unfolding number place_by keywords_at slot_at
returns-in-43 c = rw c.in-43.is c.slot_of-in-43.ensures

pub returns-in-46 : goal.returns-in-46
unfolding number place_by keywords_at slot_at
returns-in-46 c = rw c.in-46.is c.slot_of-in-46.ensures

pub returns-in-47 : goal.returns-in-47
unfolding number place_by keywords_at slot_at
returns-in-47 c = rw c.in-47.is c.slot_of-in-47.ensures

pub returns-in-52 : goal.returns-in-52
unfolding number place_by keywords_at slot_at
returns-in-52 c = rw c.in-52.is c.slot_of-in-52.ensures

pub returns-in-54 : goal.returns-in-54
unfolding number place_by keywords_at slot_at
returns-in-54 c = rw c.in-54.is c.slot_of-in-54.ensures

pub returns-in-57 : goal.returns-in-57
unfolding number place_by keywords_at slot_at
returns-in-57 c = rw c.in-57.is c.slot_of-in-57.ensures

pub returns-in-58 : goal.returns-in-58
unfolding number place_by keywords_at slot_at
returns-in-58 c = rw c.in-58.is c.slot_of-in-58.ensures

pub returns-in-59 : goal.returns-in-59
unfolding number place_by keywords_at slot_at
returns-in-59 c = rw c.in-59.is c.slot_of-in-59.ensures

pub returns-in-60 : goal.returns-in-60
unfolding number place_by keywords_at slot_at
returns-in-60 c = rw c.in-60.is c.slot_of-in-60.ensures

pub returns-in-61 : goal.returns-in-61
unfolding number place_by keywords_at slot_at
returns-in-61 c = rw c.in-61.is c.slot_of-in-61.ensures

pub returns-in_default : goal.returns-in_default
unfolding number place_by keywords_at slot_at
returns-in_default c = c.slot_of-in_default.ensures ∙ ap first_slot (sym (by_none _ c.in_default.in_default-own.rest))
