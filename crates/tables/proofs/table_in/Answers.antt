-- `tables::table_in` meets its contract: the count is the answer's, and what reading a file leaves in the row is told by the count (`in_row`).
-- Assumes nothing.
use Rattle.std.proofs.Common.{arith}
use Rattle.tables.specs.TablesLaws.{in_row}
use Rattle.tables.proofs.table_in.Goals as goal

pub returns-clause-prefix_len : goal.returns-clause-prefix_len
returns-clause-prefix_len c =
    (in_row _ _ _ (λ i. omega (arith, c.type_inv.file i)) _ _ c.read_table.ensures c.count_of.ensures).0

pub returns-clause-table_in : goal.returns-clause-table_in
returns-clause-table_in c =
    (in_row _ _ _ (λ i. omega (arith, c.type_inv.file i)) _ _ c.read_table.ensures c.count_of.ensures).1
