-- Where bodies stand.
use Rattle.std.proofs.Common.{ℕ, ◌≡◌, ◌∙◌, ap, List, [], ◌∷◌}
use Rattle.lotos_ast.specs.declared.spec.Spec.{Spec}
use Rattle.static_constructs.specs.Written.{gates_in}
use Rattle.static_equations.specs.Variables.{all_variables}
use Rattle.static_readings.specs.Sites.{Heading, Site, bare, with_gates, with_variables}
use Rattle.static_processes.specs.Headings.{headings_from}
use Rattle.static_processes.specs.NamedParts.{headings_at}
use Rattle.static_processes.specs.Processes.{Entry, visible_in}
use Rattle.static_check.specs.Bodies.{body_site}
use Rattle.static_check.specs.Compiled.{start_site}
use Rattle.static_check.specs.Views.{data_of}

pub body_entered : (s0 s1 s2 s3 : Site) (g : ℕ) (table : List Entry) (number : ℕ) (e : Entry) (hs ps : List Heading)
    → hs ≡ headings_from (data_of s0.context) 0 table → ps ≡ headings_at hs (visible_in table (number ∷ e.around))
    → s1 ≡ bare s0.context g ps → s2 ≡ with_gates s1 e.process.gates
    → s3 ≡ with_variables s2 (all_variables s2.context.sorts e.process.parameters)
    → s3 ≡ body_site (record { context = data_of s0.context; gates = g; table = table }) number e
body_entered s0 s1 s2 s3 g table number e hs ps are is one two three =
    three ∙ ap (λ z. with_variables z (all_variables z.context.sorts e.process.parameters)) (two ∙ ap (λ z. with_gates z e.process.gates) one)
    ∙ ap (λ qs. with_variables (with_gates (bare s0.context g qs) e.process.gates) (all_variables s0.context.sorts e.process.parameters))
    (is ∙ ap (λ all. headings_at all (visible_in table (number ∷ e.around))) are)

pub start_entered : (s0 s1 s2 : Site) (g : ℕ) (table : List Entry) (spec : Spec) (hs ps : List Heading)
    → hs ≡ headings_from (data_of s0.context) 0 table → ps ≡ headings_at hs (visible_in table [])
    → s1 ≡ bare s0.context 0 ps → s2 ≡ with_gates s1 (gates_in spec.gates)
    → s2 ≡ start_site (record { context = data_of s0.context; gates = g; table = table }) spec
start_entered s0 s1 s2 g table spec hs ps are is one two =
    two ∙ ap (λ z. with_gates z (gates_in spec.gates)) one
    ∙ ap (λ qs. with_gates (bare s0.context 0 qs) (gates_in spec.gates)) (is ∙ ap (λ all. headings_at all (visible_in table [])) are)
