use Rattle.static_laws.proofs.Whole.{construct-stands}
use Rattle.static_laws.proofs.compiled.read_constructs_fit.Goals as goal

pub returns : goal.returns
returns c = λ program processes s from b r refusals gates vars read agrees at.
    (construct-stands program processes read gates vars agrees).fits at
