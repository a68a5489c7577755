-- `token::Token::is_whitespace_including_newline` meets its contract: `is_whitespace` answers the first question. Assumes nothing.
use mathlib.Core.Path.{sym}
use Rattle.base.specs.CasesLaws.{cases}
use Rattle.token.proofs.Token.is_whitespace_including_newline.Goals as goal

pub returns-then-is_whitespace : goal.returns-then-is_whitespace
returns-then-is_whitespace c = sym (search cases)

pub returns-else-is_whitespace : goal.returns-else-is_whitespace
returns-else-is_whitespace c = sym (search cases)
