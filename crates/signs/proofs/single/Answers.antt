-- `signs::single` meets its contract: each arm is an entry of the table of symbols. Assumes nothing.
use mathlib.Core.Path.{refl}
use Rattle.token.specs.Kind.{round_open, round_close, comma, semicolon, question_mark, at_kind, square_open, square_close, function}
use Rattle.words.specs.Words.{starts_with, first_in}
use Rattle.symbols.specs.Symbols.{symbol_in, symbol_of}
use Rattle.signs.specs.SignsLaws.{single_of, single_none}
use Rattle.signs.proofs.single.Goals as goal

pub returns-in-40 : goal.returns-in-40
unfolding symbol_of symbol_in first_in starts_with
returns-in-40 c = single_of 40 round_open refl (λ rest. refl) c.in-40.is

pub returns-in-41 : goal.returns-in-41
unfolding symbol_of symbol_in first_in starts_with
returns-in-41 c = single_of 41 round_close refl (λ rest. refl) c.in-41.is

pub returns-in-44 : goal.returns-in-44
unfolding symbol_of symbol_in first_in starts_with
returns-in-44 c = single_of 44 comma refl (λ rest. refl) c.in-44.is

pub returns-in-59 : goal.returns-in-59
unfolding symbol_of symbol_in first_in starts_with
returns-in-59 c = single_of 59 semicolon refl (λ rest. refl) c.in-59.is

pub returns-in-63 : goal.returns-in-63
unfolding symbol_of symbol_in first_in starts_with
returns-in-63 c = single_of 63 question_mark refl (λ rest. refl) c.in-63.is

pub returns-in-64 : goal.returns-in-64
unfolding symbol_of symbol_in first_in starts_with
returns-in-64 c = single_of 64 at_kind refl (λ rest. refl) c.in-64.is

pub returns-in-91 : goal.returns-in-91
unfolding symbol_of symbol_in first_in starts_with
returns-in-91 c = single_of 91 square_open refl (λ rest. refl) c.in-91.is

pub returns-in-93 : goal.returns-in-93
unfolding symbol_of symbol_in first_in starts_with
returns-in-93 c = single_of 93 square_close refl (λ rest. refl) c.in-93.is

pub returns-in-124 : goal.returns-in-124
unfolding symbol_of symbol_in first_in starts_with
returns-in-124 c = single_of 124 function refl (λ rest. refl) c.in-124.is

pub returns-in_default : goal.returns-in_default
returns-in_default c = single_none _
