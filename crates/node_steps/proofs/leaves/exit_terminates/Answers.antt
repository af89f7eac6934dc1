use Rattle.std.proofs.Common.{rules, ◌≡◌, map, refl, ap, subst}
use Rattle.spec_core.specs.Code.{exit_value_of, node_of}
use Rattle.spec_core.proofs.Options.{if_none_at}
use Rattle.rule_origins.specs.Values.{assignment}
use Rattle.node_values.proofs.Finding.{of_some}
use Rattle.match_code.specs.Prepared.{program_in}
use Rattle.node_steps.specs.Knowing.{AreExitAt, HaveNoExit}
use Rattle.node_steps.proofs.Making.{exit_at, no_exit_at}
use Rattle.node_steps.proofs.leaves.exit_terminates.Goals as goal

pub returns-in-None-clause-turns : goal.returns-in-None-clause-turns
returns-in-None-clause-turns c =
    let theory = (program_in c.args.prepared.now).theory in
    let s = assignment theory c.args.values.now in
    let same : c.deref.result.now ≡ c.in-Exit.fields.items = search rules in
    no_exit_at (program_in c.args.prepared.now) s _ (node_of c.args.construct.now) (ap node_of c.in-Exit.is)
    (subst (λ l. HaveNoExit theory s (map exit_value_of l)) same
    (if_none_at c.in_ok-known_exit-in-Exit.field-0 c.in-None.is c.in_ok-known_exit-in-Exit.ensures.none))

pub returns-in-Some-clause-turns : goal.returns-in-Some-clause-turns
returns-in-Some-clause-turns c =
    let theory = (program_in c.args.prepared.now).theory in
    let s = assignment theory c.args.values.now in
    let same : c.deref.result.now ≡ c.in-Exit.fields.items = search rules in
    let known = c.in-Some.known in
    exit_at (program_in c.args.prepared.now) c.args.from s _ (node_of c.args.construct.now) known.items _ (ap node_of c.in-Exit.is)
    (subst (λ l. AreExitAt theory s c.args.from (map exit_value_of l) known.items) same
    (of_some (λ k. AreExitAt theory s c.args.from (map exit_value_of c.deref.result.now) k.items)
    c.in_ok-known_exit-in-Exit.field-0 c.in-Some.known c.in-Some.is c.in_ok-known_exit-in-Exit.ensures.some))
    refl refl
