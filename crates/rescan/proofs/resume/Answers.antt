-- `rescan::resume` meets its contract: its parts are those of `resumed`. Assumes nothing.
use Rattle.rescan.proofs.resume.Goals as goal

pub returns : goal.returns
returns c =
    let row = c.args.row in
    λ i. record {
      lexer = record { place = c.place_of.ensures i; indent = row.indent; previous_token = row.kind; depth = 0; mode = 0 };
      modes = (c.new-start.ensures i).modes;
    }
