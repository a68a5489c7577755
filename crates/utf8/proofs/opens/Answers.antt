-- `utf8::opens` meets its contract: its tests are the definition's, in the same order. Assumes nothing.
use borrow.Author.Tests.{eq-eqb, ne_eqb, le-leb, lt-leb}
use mathlib.Core.Path.{sym, ◌∙◌}
use lib.ListN.{length}
use Rattle.utf8.specs.Read.{seq_len}
use Rattle.utf8.proofs.opens.Goals as goal

pub returns-then-lead_len-n : goal.returns-then-lead_len-n
returns-then-lead_len-n c = rw (ne_eqb (seq_len _) _ (λ e. c.if-lead_len-n.true (c.lead_len.ensures ∙ e)))

pub returns-then-s-n : goal.returns-then-s-n
returns-then-s-n c =
    rw (eq-eqb (seq_len _) _ (sym c.lead_len.ensures ∙ c.if-lead_len-n.false), lt-leb _ (length _) c.if-s-n.true)

pub returns : goal.returns
returns c =
    rw (eq-eqb (seq_len _) _ (sym c.lead_len.ensures ∙ c.if-lead_len-n.false), le-leb _ (length _) c.if-s-n.false) c.second_ok.ensures
