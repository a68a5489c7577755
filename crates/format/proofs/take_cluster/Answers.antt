-- `format::take_cluster` meets its contract: the fill is the first cluster from here on. Assumes nothing.
use Rattle.format.proofs.take_cluster.Goals as goal

pub returns : goal.returns
returns c = rw (c.go_filled.ensures, c.cluster_end-end.ensures)
