-- Bodies of processes that are called.
use Rattle.std.proofs.Common.{ℕ, ◌≡◌, List, [], refl, sym, subst, Some}
use Rattle.std.specs.List.{slice_get}
use Rattle.spec_core.specs.Code.{Program, Variable, process}
use Rattle.spec_core.specs.Ready.{IsReady}
use Rattle.spec_core.specs.Terms.{TermTree, variable}
use Rattle.spec_core.specs.Theories.{Theory}
use Rattle.rule_laws.proofs.OneStep.{one_definition}
use Rattle.rule_model.specs.Actions.{pairs_of}
use Rattle.rule_model.specs.Behaviours.{call, relabel}
use Rattle.rule_model.specs.Code.{IsDefinition}
use Rattle.rule_model.specs.Fields.{ArgumentsHave}
use Rattle.rule_model.specs.Substitution.{Assignment}
use Rattle.rule_origins.specs.Parts.{behaviour_at}
use Rattle.rule_origins.specs.Values.{assignment}
use Rattle.rule_origins.proofs.Standing.{behaviours_stand}
use Rattle.symbolic_plans.specs.declared.scheme.Row.TheVariants.{Call}
use Rattle.node_steps.specs.Parts.{own_or}
use Rattle.node_steps.specs.declared.turn.Entered.{Entered}
use Rattle.node_steps.specs.declared.turn.Frame.TheVariants.{Same}
use Rattle.node_steps.specs.declared.turn.Site.{Site}
use Rattle.node_steps.specs.Frames.{standing}
use Rattle.node_steps.specs.Turns.{Enters, NoPart}
use Rattle.node_steps.proofs.Keeping.{part_with}

-- without values each variable stands for itself
no_values : (theory : Theory) → assignment theory [] ≡ variable
unfolding assignment
no_values theory = refl

module _ (program : Program) (ready : IsReady program) (called n : ℕ) (formal : List ℕ) (xs : List Variable)
    (there : slice_get program.code called ≡ Some (process formal xs n)) where
  defined : IsDefinition program called formal xs (behaviour_at program n)
  defined = record {
    part = n;
    defines = there;
    stands = behaviours_stand program ready n (ready.parts called (process formal xs n) there).names.0;
  }

  pub call_enters : (actual : List ℕ) (terms : List TermTree) (values more empty : List (ℕ × List ℕ)) (x : Entered) (site : Site) →
      empty ≡ [] →
      ArgumentsHave program.theory (assignment program.theory values) (assignment program.theory empty) xs terms (assignment program.theory more) →
      standing program site ≡ relabel (pairs_of formal actual) (behaviour_at program n) → x.site ≡ site → own_or values x.values ≡ more →
      x.frame ≡ Same → Enters program Call values (call called actual terms) x
  call_enters actual terms values more empty x site none has stands at same frame =
      let s = assignment program.theory values in
      let t = assignment program.theory more in
      let argued : ArgumentsHave program.theory s variable xs terms t =
      subst (λ (r : Assignment). ArgumentsHave program.theory s r xs terms t) (no_values program.theory)
      (subst (λ (l : List (ℕ × List ℕ)). ArgumentsHave program.theory s (assignment program.theory l) xs terms t) none has) in
      part_with program Call values more (call called actual terms) x site Same at same frame refl
      (formal, xs, behaviour_at program n, t, defined, argued, (refl, sym stands))

  pub no_arguments : (actual : List ℕ) (terms : List TermTree) (values empty : List (ℕ × List ℕ)) → empty ≡ [] →
      ((u : Assignment) →
      ArgumentsHave program.theory (assignment program.theory values) (assignment program.theory empty) xs terms u → ⊥) →
      NoPart program Call values (call called actual terms)
  no_arguments actual terms values empty is none = record {
    none = λ h.
        let s = assignment program.theory values in
        let q = one_definition program called h.0 formal h.1 xs h.2 (behaviour_at program n) h.4 defined in
        none h.3
        (subst (λ (l : List (ℕ × List ℕ)). ArgumentsHave program.theory s (assignment program.theory l) xs terms h.3) (sym is)
        (subst (λ (r : Assignment). ArgumentsHave program.theory s r xs terms h.3) (sym (no_values program.theory))
        (subst (λ (ys : List Variable). ArgumentsHave program.theory s variable ys terms h.3) q.1 h.5)));
  }
