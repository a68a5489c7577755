-- `token::Token::raw_string_start` meets its contract: the quote decides how the hashes are counted. Assumes nothing.
use borrow.Author.Tests.{eq-eqb, ne_eqb}
use Rattle.token.proofs.Token.raw_string_start.Goals as goal

pub returns-then-quote-eq-DOUBLE_QUOTE : goal.returns-then-quote-eq-DOUBLE_QUOTE
returns-then-quote-eq-DOUBLE_QUOTE c = simp (eq-eqb _ _ c.if-quote-eq-DOUBLE_QUOTE.true)

pub returns : goal.returns
returns c = simp (ne_eqb _ _ c.if-quote-eq-DOUBLE_QUOTE.false)
