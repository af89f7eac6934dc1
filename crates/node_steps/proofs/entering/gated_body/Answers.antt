use Rattle.std.proofs.Common.{rules, ◌≡◌, ◌∙◌, map, refl, ap}
use Rattle.std.specs.List.{slice_get}
use Rattle.spec_core.specs.Code.{node_of, program_of}
use Rattle.spec_core.specs.Numbers.{gate_number}
use Rattle.rule_model.specs.Behaviours.{relabel}
use Rattle.rule_origins.specs.Parts.{behaviour_at}
use Rattle.node_steps.proofs.Keeping.{gate_enters}
use Rattle.node_steps.proofs.entering.gated_body.Goals as goal

pub returns-in_ok-renaming-in-Some : goal.returns-in_ok-renaming-in-Some
returns-in_ok-renaming-in-Some c =
    let program = program_of c.args.checked.now in
    let there = c.in-Some.ensures.some in
    let same : map gate_number c.in-Gates.gates.items ≡ map gate_number c.deref.result.now = search rules in
    gate_enters program c.args.values.now c.args.place _ _ _ there.0 (map gate_number c.in-Gates.gates.items)
    (node_of c.args.construct.now) _ _ (ap node_of c.in-Gates.is) there.1 (ap (λ l. slice_get l there.0) same ∙ there.2)
    (ap (λ l. relabel l (behaviour_at program c.in-Gates.part.0)) c.in_ok-renaming-in-Some.ensures.renaming) refl refl refl
