-- C-14, of `parse`: fit tables that agree on the code points of a format string give the same call, with its answer and the pool after it.
--     call_agrees, parses_agree
-- Assumes nothing.
use Rattle.std.specs.Prelude.{ℕ, ◌≡◌, List, Err, Ok}
use Rattle.std.proofs.Common.{ap, ◌∙◌}
use Rattle.base.specs.Pick.{pick}
use Rattle.base.specs.Refusal.{format_most}
use Rattle.utf8.specs.Chars.{chars}
use Rattle.property.specs.Table.{properties_at}
use Rattle.fitness.specs.Fit.{table_check}
use Rattle.input.specs.Input.{on_input}
use Rattle.input.specs.declared.Refusal.{Refusal}
use Rattle.cluster.specs.FirstLaws.{Agree}
use Rattle.pool_rows.specs.Rows.{fit_pool}
use Rattle.pool_rows.specs.declared.Counts.{Counts}
use Rattle.format.specs.Parse.{string_of}
use Rattle.parse.specs.Call.{Pool, add_to, lent, parsed, answer, Comes, comes, call, Parses}
use Rattle.parse.specs.declared.After.{After}
use Rattle.parse.specs.declared.ParseError.TheVariants.{Refused, BadState}
use Rattle.agree.specs.ScanLaws.{inputs_agree}
use Rattle.agree_text.specs.FormatLaws.{parse_agrees}

module _ (format t u : List ℕ) (edition : ℕ) (fit : table_check t ≡ Ok tt) (also : table_check u ≡ Ok tt)
    (agree : Agree (properties_at t) (properties_at u) (chars format)) where
  parsed_agrees : (p : Pool) → parsed format t edition p ≡ parsed format u edition p
  unfolding parsed
  parsed_agrees p =
      parse_agrees (properties_at t) (properties_at u) edition (λ q part. add_to q (string_of format part)) p (chars format) agree

  pub call_agrees : (p : Pool) → call format t edition p ≡ call format u edition p
  unfolding call
  call_agrees p =
      λ i. on_input (λ (x : Refusal). comes (Err (Refused x)) p) (inputs_agree format_most format t u edition fit also i)
      (pick (fit_pool p.bytes p.entries p.counts) (comes (answer (parsed_agrees p i)) (parsed_agrees p i).pool) (comes (Err BadState) p))

  pub parses_agree : {bytes entries new_bytes new_entries : List ℕ} {counts : Counts} {r : After}
      → Parses format t edition bytes entries counts new_bytes new_entries r → Parses format u edition bytes entries counts new_bytes new_entries r
  parses_agree {bytes} {entries} {new_bytes} {new_entries} {counts} p =
      let e = call_agrees (lent bytes entries counts) in
      record {
        answer_is = p.answer_is ∙ ap (λ (c : Comes). c.answer) e;
        counts_left = p.counts_left ∙ ap (λ (c : Comes). c.pool.counts) e;
        bytes_left = p.bytes_left ∙ ap (λ (c : Comes). c.pool.bytes) e;
        entries_left = p.entries_left ∙ ap (λ (c : Comes). c.pool.entries) e;
      }
