-- `words::is_word` meets its contract: the name is as long as the word and begins with it. Assumes nothing.
use borrow.Author.Tests.{ne_eqb}
use mathlib.Core.Path.{sym, ◌∙◌}
use lib.ListN.{take, drop}
use Rattle.words.proofs.Compare.{other_length, by_start}
use Rattle.words.proofs.is_word.Goals as goal

pub returns-then-within-word : goal.returns-then-within-word
returns-then-within-word c =
    let a = c.args in
    c.starts_with.ensures
    ∙ by_start a.word.now (drop a.at a.source.now) a.len (sym c.within.ensures ∙ c.if-within-word.true)

pub returns-else-within-word : goal.returns-else-within-word
returns-else-within-word c =
    let a = c.args in
    ne_eqb _ _ c.if-within-word.false
    ∙ sym (other_length a.word.now (take a.len (drop a.at a.source.now)) (λ e. c.if-within-word.false (c.within.ensures ∙ e)))
