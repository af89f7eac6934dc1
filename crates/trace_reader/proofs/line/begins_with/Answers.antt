use Rattle.std.proofs.Common.{rules, ◌≡◌, ◌∷◌, ◌++◌, subst}
use Rattle.std.specs.Prelude.{IsTrue}
use Rattle.spec_core.proofs.Lists.{untrue}
use Rattle.trace_reader.specs.Lines.{IsOneLine}
use Rattle.trace_reader.proofs.Steps.{begins_not, begins_other}
use Rattle.trace_reader.proofs.line.begins_with.Goals as goal

pub returns-in-None-clause-other : goal.returns-in-None-clause-other
returns-in-None-clause-other c f rest one e =
    let single : IsOneLine c.args.text.now = search rules in
    begins_not c.args.text.now c.args.line.now rest single e

pub returns-in-Some-clause-other : goal.returns-in-Some-clause-other
returns-in-Some-clause-other c f rest one e =
    let single : IsOneLine c.in-Some.first.now = search rules in
    let parts : c.args.text.now ≡ c.in-Some.first.now ++ (10 ∷ c.in-Some.field-0-1.now) = search rules in
    let same = begins_other c.args.text.now c.in-Some.first.now c.args.line.now c.in-Some.field-0-1.now rest single one parts e in
    untrue (subst IsTrue f (c.is_same.ensures.1 same))
