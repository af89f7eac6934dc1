-- Values that are handed on join those that are put in already.
use Rattle.std.proofs.Common.{ℕ, ◌≡◌, List, [], ◌∷◌, ◌++◌, refl, sym, ap, ◌∙◌}
use Rattle.spec_core.specs.Terms.{variable}
use Rattle.spec_core.specs.Theories.{Theory}
use Rattle.spec_core.specs.Code.{Variable}
use Rattle.rule_model.specs.Fields.{IsHandedOn}
use Rattle.rule_model.specs.Substitution.{Assignment, with_term, without, put}
use Rattle.rule_laws.proofs.Nothing.{same_term}
use Rattle.rule_laws.proofs.Putting.{closing_many, two_substitutions_are_one}
use Rattle.rule_laws.proofs.Returning.{handing_on_is_after}
use Rattle.rule_origins.specs.Laws.{HandedOnValuesJoin}
use Rattle.rule_origins.specs.Values.{term_spelled, with_values, assignment, values_for}
use Rattle.rule_origins.proofs.Reading.{values_are_read, values_close}

-- what is handed on is what is read
handed_is_read : (theory : Theory) (xs : List Variable) (handed : List (List ℕ)) (s u : Assignment) →
    IsHandedOn theory s xs handed u → u ≡ with_values theory (values_for xs handed) s
handed_is_read theory [] [] s u h = h
handed_is_read theory (x ∷ xs) (v ∷ handed) s u h =
    handed_is_read theory xs handed (with_term x h.0 s) u h.2
    ∙ ap (λ n. with_values theory (values_for xs handed) (with_term x n s)) (sym (values_are_read theory x.number v h.0 x.sort h.1))
handed_is_read theory _ _ s u h = absurd h

values_joined : (theory : Theory) (values more : List (ℕ × List ℕ)) (s : Assignment) →
    with_values theory (values ++ more) s ≡ with_values theory more (with_values theory values s)
values_joined theory [] more s = refl
values_joined theory (b ∷ values) more s =
    values_joined theory values more (with_term (record { number = b.0; sort = 0 }) (term_spelled theory b.0 b.1) s)

pub handed_on_values_join : HandedOnValuesJoin
unfolding assignment
handed_on_values_join theory values xs handed t h b =
    let s : Assignment = assignment theory values in
    let z = handing_on_is_after theory xs handed variable s s t (values_close theory values)
    (λ x. same_term variable (λ y. refl) (s x)) h in
    two_substitutions_are_one t (without xs s) z.0 (closing_many xs s (values_close theory values)) z.2 b
    ∙ ap (λ (u : Assignment). put u b)
    (handed_is_read theory xs handed s z.0 z.1 ∙ sym (values_joined theory values (values_for xs handed) variable))
