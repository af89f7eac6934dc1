use Rattle.std.proofs.Common.{map, refl, ap, ◌∙◌, ◌∷◌}
use Rattle.spec_core.specs.Code.{exit_value_of}
use Rattle.spec_core.specs.Terms.{term_of}
use Rattle.symbolic_rules.specs.MarkedTerms.{marked_instance}
use Rattle.symbolic_plans.specs.Plans.{field_of}
use Rattle.match_code.specs.Prepared.{program_in}
use Rattle.node_values.specs.Found.{IsValueOf, ExitOpen}
use Rattle.node_values.specs.Scopes.{marks_of}
use Rattle.node_values.proofs.Fielding.{exit_given_by}
use Rattle.node_values.proofs.Finding.{of_some}
use Rattle.node_values.proofs.Splitting.{others, mapped}
use Rattle.node_values.proofs.fields.+open_exit.Goals as goal

pub returns-in_ok-in_front-in-Some-2-clause-some : goal.returns-in_ok-in_front-in-Some-2-clause-some
returns-in_ok-in_front-in-Some-2-clause-some t c =
    let theory = (program_in c.args.prepared.now).theory in
    let m = marks_of theory c.args.scope.now in
    exit_given_by theory m (map exit_value_of c.args.fields.now) (term_of c.in-Give.term) (map exit_value_of (others c.args.fields.now)) _
    (map field_of c.in-Some-2.others.items) c.in-Some.given
    (mapped exit_value_of c.args.fields.now c.first-item.result _ c.in-len1-up.len_at_least c.first-item.is c.in-Give.is)
    (of_some (IsValueOf theory (marked_instance theory m (term_of c.in-Give.term))) c.in_ok-value_of-in-Give.field-0 c.in-Some.given
    c.in-Some.is c.in_ok-value_of-in-Give.ensures.some)
    (of_some (λ cs. ExitOpen theory m (map exit_value_of (others c.args.fields.now)) (map field_of cs.items))
    c.in_ok-open_exit-in-Some.field-0 c.in-Some-2.others c.in-Some-2.is c.in_ok-open_exit-in-Some.ensures.some)
    (c.in_ok-in_front-in-Some-2.ensures.in_front ∙ ap (λ z. z ∷ map field_of c.in-Some-2.others.items) c.column_of.ensures)
