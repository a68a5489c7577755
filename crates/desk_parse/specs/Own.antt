-- What the code makes of a parse in the part of the pool that a desk may fill: what was added is owned by the desk, and charged to it. No public
-- contract cites it.
-- Assumes nothing.
use Rattle.std.specs.Prelude.{ℕ, ◌+◌, ◌-◌, List, ◌++◌, take, drop, replicate, Result, Ok, Err}
use Rattle.pool_rows.specs.declared.Counts.{Counts}
use Rattle.format.specs.declared.FormatRead.{FormatRead}
use Rattle.parse.specs.declared.ParseError.{ParseError}
use Rattle.parse.specs.declared.ParseError.TheVariants.{BadState}
use Rattle.desks.specs.declared.Desk.{Desk}
use Rattle.desks.specs.declared.Desks.{Desks}
use Rattle.desks.specs.declared.Which.{Which}
use Rattle.desks.specs.declared.Which.TheVariants.{First, Second}

-- a desk with what was added charged to it: the counts before, and after
abbrev pub charged_up : Desk → Counts → Counts → Desk
charged_up desk before after =
    record {
      guaranteed = desk.guaranteed;
      charged =
          record {
            entries = desk.charged.entries + (after.entries - before.entries);
            bytes = desk.charged.bytes + (after.bytes - before.bytes);
          };
    }

abbrev pub desks_up : Which → Desks → Counts → Counts → Desks
desks_up First desks before after = record { first = charged_up desks.first before after; second = desks.second }
desks_up Second desks before after = record { first = desks.first; second = charged_up desks.second before after }

-- a row of owners in which entries n to m have this one
abbrev pub owned_up : ℕ → List ℕ → ℕ → ℕ → List ℕ
owned_up owner owners n m = take n owners ++ (replicate (m - n) owner ++ drop m owners)

-- the refusal where the desks are unfit, from what `parse::read` answers for an unfit pool, which is one
abbrev pub unfit_answer : Result FormatRead ParseError → ParseError
unfit_answer (Ok r) = BadState
unfit_answer (Err e) = e
