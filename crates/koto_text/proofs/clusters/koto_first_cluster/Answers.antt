-- `clusters::koto_first_cluster` meets its contract: each number is that of the answer. Assumes nothing.
use mathlib.Core.Path.{ap, ◌∙◌}
use Rattle.cluster.specs.Call.{number_of, place_of, len_of}
use Rattle.koto_text.proofs.clusters.koto_first_cluster.Goals as goal

pub returns : goal.returns
returns c =
    let e = c.first_cluster-cluster.ensures in
    record {
      number = c.number_of.ensures ∙ ap number_of e;
      len_is = c.len_of.ensures ∙ ap len_of e;
      place_is = c.place_of.ensures ∙ ap place_of e;
    }
