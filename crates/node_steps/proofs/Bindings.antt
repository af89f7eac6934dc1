-- Bindings and arguments with values.
use Rattle.std.proofs.Common.{ℕ, ◌≡◌, List, [], ◌∷◌, ◌++◌, sym, ap, subst, ◌∙◌}
use Rattle.spec_core.specs.Executable.{IsExecutable}
use Rattle.spec_core.specs.Terms.{TermTree, variable, instance}
use Rattle.spec_core.specs.Theories.{Theory}
use Rattle.spec_core.specs.Values.{HasValue}
use Rattle.spec_core.specs.Code.{Variable, Binding}
use Rattle.rule_model.specs.Fields.{BindingsHave, ArgumentsHave}
use Rattle.rule_model.specs.Substitution.{Assignment, with_term}
use Rattle.rule_laws.proofs.OneStep.{one_value}
use Rattle.rule_origins.specs.Values.{term_spelled, assignment}
use Rattle.node_values.specs.Found.{Spelled}
use Rattle.node_steps.proofs.Knowing.{with_joined}

module _ (theory : Theory) where
  -- one more value at the end
  pub one_more : (values : List (ℕ × List ℕ)) (x : Variable) (v : List ℕ) →
      assignment theory (values ++ (x.number, v) ∷ []) ≡ with_term x (term_spelled theory x.number v) (assignment theory values)
  unfolding assignment
  one_more values x v = with_joined theory values ((x.number, v) ∷ []) variable

  pub bound_first : (s u : Assignment) (inner more : List (ℕ × List ℕ)) (b : Binding) (bindings : List Binding) (v : List ℕ) →
      Spelled theory (instance s b.term) v → more ≡ inner ++ (b.variable.number, v) ∷ [] →
      BindingsHave theory s (assignment theory more) bindings u → BindingsHave theory s (assignment theory inner) (b ∷ bindings) u
  bound_first s u inner more b bindings v found e rest = (
    found.value,
    found.has,
    subst (λ (t : Assignment). BindingsHave theory s t bindings u)
        (ap (assignment theory) e
        ∙ one_more inner b.variable v
        ∙ ap (λ (n : TermTree). with_term b.variable n (assignment theory inner)) (found.read b.variable.number)) rest,
  )

  pub argued_first : (s u : Assignment) (inner more : List (ℕ × List ℕ)) (x : Variable) (xs : List Variable) (t : TermTree)
      (terms : List TermTree) (v : List ℕ) → Spelled theory (instance s t) v → more ≡ inner ++ (x.number, v) ∷ [] →
      ArgumentsHave theory s (assignment theory more) xs terms u → ArgumentsHave theory s (assignment theory inner) (x ∷ xs) (t ∷ terms) u
  argued_first s u inner more x xs t terms v found e rest = (
    found.value,
    found.has,
    subst (λ (r : Assignment). ArgumentsHave theory s r xs terms u)
        (ap (assignment theory) e
        ∙ one_more inner x v
        ∙ ap (λ (n : TermTree). with_term x n (assignment theory inner)) (found.read x.number)) rest,
  )

  pub bound_by : (s u : Assignment) (inner more : List (ℕ × List ℕ)) (all : List Binding) (b : Binding) (bindings : List Binding)
      (v : List ℕ) → all ≡ b ∷ bindings → Spelled theory (instance s b.term) v → more ≡ inner ++ (b.variable.number, v) ∷ [] →
      BindingsHave theory s (assignment theory more) bindings u → BindingsHave theory s (assignment theory inner) all u
  bound_by s u inner more all b bindings v is found e rest =
      subst (λ (l : List Binding). BindingsHave theory s (assignment theory inner) l u) (sym is)
      (bound_first s u inner more b bindings v found e rest)

  pub argued_by : (s u : Assignment) (inner more : List (ℕ × List ℕ)) (vars : List Variable) (x : Variable) (xs : List Variable)
      (all : List TermTree) (t : TermTree) (terms : List TermTree) (v : List ℕ) → vars ≡ x ∷ xs → all ≡ t ∷ terms →
      Spelled theory (instance s t) v → more ≡ inner ++ (x.number, v) ∷ [] → ArgumentsHave theory s (assignment theory more) xs terms u →
      ArgumentsHave theory s (assignment theory inner) vars all u
  argued_by s u inner more vars x xs all t terms v is has found e rest =
      subst (λ (l : List Variable). ArgumentsHave theory s (assignment theory inner) l all u) (sym is)
      (subst (λ (l : List TermTree). ArgumentsHave theory s (assignment theory inner) (x ∷ xs) l u) (sym has)
      (argued_first s u inner more x xs t terms v found e rest))

module _ (theory : Theory) (executable : IsExecutable theory) where
  found_is : (t n : TermTree) (v : List ℕ) (x : ℕ) → Spelled theory t v → HasValue theory t n → n ≡ term_spelled theory x v
  found_is t n v x found h = one_value theory executable t n found.value h found.has ∙ sym (found.read x)

  pub unbound_later : (s : Assignment) (inner more : List (ℕ × List ℕ)) (b : Binding) (bindings : List Binding) (v : List ℕ) →
      Spelled theory (instance s b.term) v → more ≡ inner ++ (b.variable.number, v) ∷ [] →
      ((u : Assignment) → BindingsHave theory s (assignment theory more) bindings u → ⊥) →
      (u : Assignment) → BindingsHave theory s (assignment theory inner) (b ∷ bindings) u → ⊥
  unbound_later s inner more b bindings v found e none u h =
      none u
      (subst (λ (t : Assignment). BindingsHave theory s t bindings u)
      (ap (λ (n : TermTree). with_term b.variable n (assignment theory inner))
      (found_is (instance s b.term) h.0 v b.variable.number found h.1)
      ∙ sym (ap (assignment theory) e ∙ one_more theory inner b.variable v)) h.2)

  pub unargued_later : (s : Assignment) (inner more : List (ℕ × List ℕ)) (x : Variable) (xs : List Variable) (t : TermTree)
      (terms : List TermTree) (v : List ℕ) → Spelled theory (instance s t) v → more ≡ inner ++ (x.number, v) ∷ [] →
      ((u : Assignment) → ArgumentsHave theory s (assignment theory more) xs terms u → ⊥) →
      (u : Assignment) → ArgumentsHave theory s (assignment theory inner) (x ∷ xs) (t ∷ terms) u → ⊥
  unargued_later s inner more x xs t terms v found e none u h =
      none u
      (subst (λ (r : Assignment). ArgumentsHave theory s r xs terms u)
      (ap (λ (n : TermTree). with_term x n (assignment theory inner)) (found_is (instance s t) h.0 v x.number found h.1)
      ∙ sym (ap (assignment theory) e ∙ one_more theory inner x v)) h.2)

  pub none_bound : (s : Assignment) (inner more : List (ℕ × List ℕ)) (all : List Binding) (b : Binding) (bindings : List Binding)
      (v : List ℕ) → all ≡ b ∷ bindings → Spelled theory (instance s b.term) v → more ≡ inner ++ (b.variable.number, v) ∷ [] →
      ((u : Assignment) → BindingsHave theory s (assignment theory more) bindings u → ⊥) →
      (u : Assignment) → BindingsHave theory s (assignment theory inner) all u → ⊥
  none_bound s inner more all b bindings v is found e none u h =
      unbound_later s inner more b bindings v found e none u
      (subst (λ (l : List Binding). BindingsHave theory s (assignment theory inner) l u) is h)

  pub none_argued : (s : Assignment) (inner more : List (ℕ × List ℕ)) (vars : List Variable) (x : Variable) (xs : List Variable)
      (all : List TermTree) (t : TermTree) (terms : List TermTree) (v : List ℕ) → vars ≡ x ∷ xs → all ≡ t ∷ terms →
      Spelled theory (instance s t) v → more ≡ inner ++ (x.number, v) ∷ [] →
      ((u : Assignment) → ArgumentsHave theory s (assignment theory more) xs terms u → ⊥) →
      (u : Assignment) → ArgumentsHave theory s (assignment theory inner) vars all u → ⊥
  none_argued s inner more vars x xs all t terms v is has found e none u h =
      unargued_later s inner more x xs t terms v found e none u
      (subst (λ (l : List TermTree). ArgumentsHave theory s (assignment theory inner) (x ∷ xs) l u) has
      (subst (λ (l : List Variable). ArgumentsHave theory s (assignment theory inner) l all u) is h))
