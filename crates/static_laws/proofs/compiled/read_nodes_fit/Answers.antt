use Rattle.static_laws.proofs.Parts.{node-fits}
use Rattle.static_laws.proofs.PartsRows.{nodes-fit}
use Rattle.static_laws.proofs.compiled.read_nodes_fit.Goals as goal

pub returns : goal.returns
returns c = λ program processes s from b r refusals read headings at k node e.
    node-fits program from r.nodes k node ((nodes-fit program processes read headings).nodes at) e
