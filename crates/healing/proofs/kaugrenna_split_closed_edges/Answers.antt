use Rattle.std.proofs.Common.{rules}
use Rattle.healing.proofs.Within.{host_parameters}
use Rattle.healing.proofs.kaugrenna_split_closed_edges.Goals as goal

pub returns : goal.returns
returns c =
    record {
      outcome = search rules;
      parameters = host_parameters c.split_closed_edges-answer.result c.tell_counts.ensures c.split_closed_edges-answer.ensures.parameters
          (search rules) (search rules) (search rules) (search rules);
    }
