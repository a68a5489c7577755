-- `names::parse_raw_string_start` meets its contract: it asks in the order of `raw_start_at`, so each return is a case of it.
-- Assumes nothing.
use mathlib.Core.Path.{sym, ◌∙◌}
use Rattle.base.specs.CasesLaws.{cases}
use Rattle.names.specs.NameLaws.{raw_start_at}
use Rattle.names.proofs.parse_raw_string_start.Goals as goal

pub returns-then-quote-eq-DOUBLE_QUOTE : goal.returns-then-quote-eq-DOUBLE_QUOTE
returns-then-quote-eq-DOUBLE_QUOTE c = sym (raw_start_at c.requires c.run_end-quote_at.ensures ∙ search cases)

pub returns-then-quote-eq-SINGLE_QUOTE : goal.returns-then-quote-eq-SINGLE_QUOTE
returns-then-quote-eq-SINGLE_QUOTE c = sym (raw_start_at c.requires c.run_end-quote_at.ensures ∙ search cases)

pub returns : goal.returns
returns c = sym (raw_start_at c.requires c.run_end-quote_at.ensures ∙ search cases)
