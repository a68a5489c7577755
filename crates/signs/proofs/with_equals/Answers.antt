-- `signs::with_equals` meets its contract: each arm is an entry of the table of symbols. Assumes nothing.
use mathlib.Core.Path.{refl}
use Rattle.token.specs.Kind.{not_equal, remainder_assign, multiply_assign, add_assign, divide_assign, less_or_equal, equal, greater_or_equal, power_assign}
use Rattle.words.specs.Words.{starts_with, first_in}
use Rattle.symbols.specs.Symbols.{symbol_in, symbol_of}
use Rattle.signs.specs.SignsLaws.{equals_of, equals_none}
use Rattle.signs.proofs.with_equals.Goals as goal

pub returns-in-33 : goal.returns-in-33
unfolding symbol_of symbol_in first_in starts_with
returns-in-33 c = equals_of 33 not_equal refl (λ rest e. rw e) c.in-33.is

pub returns-in-37 : goal.returns-in-37
unfolding symbol_of symbol_in first_in starts_with
returns-in-37 c = equals_of 37 remainder_assign refl (λ rest e. rw e) c.in-37.is

pub returns-in-42 : goal.returns-in-42
unfolding symbol_of symbol_in first_in starts_with
returns-in-42 c = equals_of 42 multiply_assign refl (λ rest e. rw e) c.in-42.is

pub returns-in-43 : goal.returns-in-43
unfolding symbol_of symbol_in first_in starts_with
returns-in-43 c = equals_of 43 add_assign refl (λ rest e. rw e) c.in-43.is

pub returns-in-47 : goal.returns-in-47
unfolding symbol_of symbol_in first_in starts_with
returns-in-47 c = equals_of 47 divide_assign refl (λ rest e. rw e) c.in-47.is

pub returns-in-60 : goal.returns-in-60
unfolding symbol_of symbol_in first_in starts_with
returns-in-60 c = equals_of 60 less_or_equal refl (λ rest e. rw e) c.in-60.is

pub returns-in-61 : goal.returns-in-61
unfolding symbol_of symbol_in first_in starts_with
returns-in-61 c = equals_of 61 equal refl (λ rest e. rw e) c.in-61.is

pub returns-in-62 : goal.returns-in-62
unfolding symbol_of symbol_in first_in starts_with
returns-in-62 c = equals_of 62 greater_or_equal refl (λ rest e. rw e) c.in-62.is

pub returns-in-94 : goal.returns-in-94
unfolding symbol_of symbol_in first_in starts_with
returns-in-94 c = equals_of 94 power_assign refl (λ rest e. rw e) c.in-94.is

pub returns-in_default : goal.returns-in_default
returns-in_default c = equals_none _
