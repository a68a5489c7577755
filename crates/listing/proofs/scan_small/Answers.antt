-- `listing::scan_small` meets its contract: its test is that of `listed`, and the rest is a scan with the small table. Assumes nothing.
use Rattle.listing.specs.ListingLaws.{lists_long, lists_scan, lists_within}
use Rattle.listing.proofs.scan_small.Goals as goal

pub returns-then-source-gt-LIST_MOST-clause-lists : goal.returns-then-source-gt-LIST_MOST-clause-lists
returns-then-source-gt-LIST_MOST-clause-lists c = lists_long c.if-source-gt-LIST_MOST.true

pub returns-clause-lists : goal.returns-clause-lists
returns-clause-lists c = lists_scan c.if-source-gt-LIST_MOST.false c.small_table-table.ensures c.scan.ensures

pub returns-clause-result_bound : goal.returns-clause-result_bound
returns-clause-result_bound c =
    lists_within
    (lists_scan c.if-source-gt-LIST_MOST.false c.small_table-table.ensures c.scan.ensures)
    c.scan.auto.list
