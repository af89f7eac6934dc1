use Rattle.static_laws.proofs.PartsRows.{nodes-fit}
use Rattle.static_laws.proofs.compiled.roots_name_behaviour.Goals as goal

pub returns : goal.returns
returns c = λ program processes s from b r refusals read headings at. (nodes-fit program processes read headings).last at
