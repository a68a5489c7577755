-- `fast_turns::is_inside` meets its contract: each of the three is tested. Assumes nothing.
use borrow.Author.Tests.{ltb-true}
use native.Mathlib.Omega.{arith}
use lib.ListN.{get_or}
use Rattle.state.specs.Lexer.{reach_of}
use Rattle.fast_turns.specs.StepsLaws.{inside_no}
use Rattle.fast_turns.proofs.is_inside.Goals as goal

pub returns-then-source-at : goal.returns-then-source-at
returns-then-source-at c = inside_no

pub returns-then-room-count : goal.returns-then-room-count
returns-then-room-count c = inside_no

pub returns : goal.returns
returns c =
    record {
      is = λ e.
          record {
            within = omega (arith, c.if-source-at.false);
            ascii = ltb-true (get_or c.args.source.now (reach_of c.args.lexer).byte.0 0) 128 e;
            room = omega (arith, c.if-room-count.false, c.room.ensures);
          };
    }
