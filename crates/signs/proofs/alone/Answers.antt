-- `signs::alone` meets its contract: each arm is an entry of the table of symbols, before which one with "=" stands. Assumes nothing.
use mathlib.Core.Path.{refl}
use Rattle.token.specs.Kind.{remainder, multiply, add, divide, less, assign, greater, power}
use Rattle.words.specs.Words.{starts_with, first_in}
use Rattle.symbols.specs.Symbols.{symbol_in, symbol_of}
use Rattle.signs.specs.SignsLaws.{alone_of, alone_none}
use Rattle.signs.proofs.alone.Goals as goal

pub returns-in-37 : goal.returns-in-37
unfolding symbol_of symbol_in first_in starts_with
returns-in-37 c = alone_of 37 remainder refl (λ rest e. rw e) c.in-37.is

pub returns-in-42 : goal.returns-in-42
unfolding symbol_of symbol_in first_in starts_with
returns-in-42 c = alone_of 42 multiply refl (λ rest e. rw e) c.in-42.is

pub returns-in-43 : goal.returns-in-43
unfolding symbol_of symbol_in first_in starts_with
returns-in-43 c = alone_of 43 add refl (λ rest e. rw e) c.in-43.is

pub returns-in-47 : goal.returns-in-47
unfolding symbol_of symbol_in first_in starts_with
returns-in-47 c = alone_of 47 divide refl (λ rest e. rw e) c.in-47.is

pub returns-in-60 : goal.returns-in-60
unfolding symbol_of symbol_in first_in starts_with
returns-in-60 c = alone_of 60 less refl (λ rest e. rw e) c.in-60.is

pub returns-in-61 : goal.returns-in-61
unfolding symbol_of symbol_in first_in starts_with
returns-in-61 c = alone_of 61 assign refl (λ rest e. rw e) c.in-61.is

pub returns-in-62 : goal.returns-in-62
unfolding symbol_of symbol_in first_in starts_with
returns-in-62 c = alone_of 62 greater refl (λ rest e. rw e) c.in-62.is

pub returns-in-94 : goal.returns-in-94
unfolding symbol_of symbol_in first_in starts_with
returns-in-94 c = alone_of 94 power refl (λ rest e. rw e) c.in-94.is

pub returns-in_default : goal.returns-in_default
returns-in_default c = alone_none _
