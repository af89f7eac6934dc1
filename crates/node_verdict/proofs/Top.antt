-- What comes of code with values for its variables, under a relabelling.
use Rattle.std.proofs.Common.{ℕ, ◌≡◌, List, [], ap, subst, ◌∙◌, Option, Result}
use Rattle.spec_core.specs.Code.{Program, Relabelling}
use Rattle.rule_model.specs.Behaviours.{Behaviour}
use Rattle.rule_model.specs.Derivations.{Derivation}
use Rattle.rule_model.specs.Substitution.{Assignment, put}
use Rattle.rule_origins.specs.Values.{assignment}
use Rattle.rule_origins.proofs.Reading.{values_close}
use Rattle.symbolic_rules.specs.Windows.{Windows}
use Rattle.symbolic_rules.specs.MarkedTerms.{plain, unmarked}
use Rattle.node_values.specs.declared.scope.Given.{Given}
use Rattle.node_values.specs.declared.stop.Stop.{Stop}
use Rattle.node_values.specs.Scopes.{marks_of, scope_over}
use Rattle.node_values.proofs.Scoping.{scope_known}
use Rattle.symbolic_actions.specs.declared.shown.Shown.{Shown}
use Rattle.node_trees.specs.Origins.{relabelled_by}
use Rattle.node_trees.proofs.Tidying.{put_relabelled}
use Rattle.node_verdict.specs.Judged.{Judged}
use Rattle.node_verdict.proofs.Putting.{derived_of_origin, asked_of_origin}
use Rattle.node_verdict.proofs.Rows.{carried}

-- what comes of the code with values for its variables comes of the closed behaviour
pub source_judged : (program : Program) (w : Windows) (budget : ℕ) (values : List (ℕ × List ℕ)) (scope : List (ℕ × Given))
    (pairs : List Relabelling) (b : Behaviour) (d : Derivation) (r : Result (Option Shown) Stop) → scope ≡ scope_over values [] →
    Judged program w budget (marks_of program.theory scope) (relabelled_by pairs b) d r →
    Judged program w budget unmarked (relabelled_by pairs (put (assignment program.theory values) b)) d r
source_judged program w budget values scope pairs b d r known h =
    let s : Assignment = assignment program.theory values in
    let closes = values_close program.theory values in
    let c = relabelled_by pairs b in
    let same : marks_of program.theory scope ≡ (λ y. plain (s y)) =
    ap (marks_of program.theory) known ∙ (λ i y. scope_known program.theory values y i) in
    subst (λ z. Judged program w budget unmarked z d r) (put_relabelled s pairs b)
    (carried program w budget (λ y. plain (s y)) unmarked (put s c) c d d (λ k fs. (derived_of_origin program w s closes c d k fs).1)
    (λ k fs. (derived_of_origin program w s closes c d k fs).0) (λ t. (asked_of_origin program w s closes c d t).1) r
    (subst (λ z. Judged program w budget z c d r) same h))
