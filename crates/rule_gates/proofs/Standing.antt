-- At which gates the behaviours of a specification's code may act.
use Rattle.std.proofs.Common.{ℕ, ◌≡◌, ◌⊎◌, ◌++◌, ◌∙◌, ◌==◌, inl, inr, List, [], ◌∷◌, length, map, refl, ap, subst, Option, Some, Bool, true, false, if◌then◌else◌}
use Rattle.std.proofs.lemmas.Bool.{eq-eqb}
use Rattle.std.specs.List.{slice_get}
use Rattle.spec_core.specs.Code as code
use Rattle.spec_core.specs.Code.{ActionField, Binding, Node, Program, Relabelling, Synchronised, Variable}
use Rattle.spec_core.specs.Functionality.{AreGatesInScope, Functionality, HasFunctionality, IsGateInScope, NodeFits, RelabellingFits, at_node}
use Rattle.spec_core.specs.Functionality.{action_fits, bound_fits, call_fits, choice_fits, disable_fits, enable_fits, gate_choice_fits}
use Rattle.spec_core.specs.Functionality.{guarded_fits, hide_fits, inner_fits, parallel_fits, relabel_fits, value_choice_fits}
use Rattle.spec_core.specs.Lists.{Each, IsOneOf}
use Rattle.spec_core.specs.Terms.{TermTree}
use Rattle.spec_core.specs.Theories.{Premise}
use Rattle.spec_core.proofs.Members.{one_parts}
use Rattle.rule_model.specs.Actions.{renamed}
use Rattle.rule_model.specs.Behaviours.{Behaviour, stop, exit, inner, action, choice, guarded, bound, value_choice, gate_choice, parallel}
use Rattle.rule_model.specs.Behaviours.{hide, enable, disable, call, relabel}
use Rattle.rule_model.specs.Code.{StandsAt}
use Rattle.rule_gates.specs.Acting.{ActsAt, HasItsGates}
use Rattle.rule_gates.proofs.Keeping.{more}

-- a gate isn't another one
pub other_gate : (g h : ℕ) → g ≡ h → (g == h) ≡ false → ⊥
other_gate g h e f = let same : (g == h) ≡ true = eq-eqb g h e in let never : ⊥ = cc in never

-- a gate under a relabelling is one that stands in the place of another, or is its own
pub under_names : (P : ℕ → Type 0) (pairs : List Relabelling) → Each (λ m. P m.to) pairs → (g : ℕ) →
    IsOneOf g (map (λ (m : Relabelling). m.from) pairs) ⊎ P g → P (renamed pairs g)
under_names P [] to g (inl i) = absurd i
under_names P [] to g (inr p) = p
under_names P (m ∷ pairs) to g h = by_test (g == m.from) refl h (under_names P pairs to.1 g)
  where
    by_test : (b : Bool) → (g == m.from) ≡ b → IsOneOf g (map (λ (r : Relabelling). r.from) (m ∷ pairs)) ⊎ P g →
        (IsOneOf g (map (λ (r : Relabelling). r.from) pairs) ⊎ P g → P (renamed pairs g)) → P (if b then m.to else renamed pairs g)
    by_test true e h rest = to.0
    by_test false e (inl (inl same)) rest = absurd (other_gate g m.from same e)
    by_test false e (inl (inr i)) rest = rest (inl i)
    by_test false e (inr p) rest = rest (inr p)

module _ (program : Program) (fs : ℕ → Functionality) where
  -- with these gates in scope the part has some functionality
  pub record Fits (gates : List ℕ) (n : ℕ) : Type 0 where
    pub vars : ℕ → Option ℕ
    pub f : Functionality
    pub has : HasFunctionality program fs gates vars n f

  -- the same of a construct
  record NodeFitsIn (gates : List ℕ) (node : Node) : Type 0 where
    pub vars : ℕ → Option ℕ
    pub f : Functionality
    pub fits : NodeFits program fs gates vars node f

  opened : (gates : List ℕ) (vars : ℕ → Option ℕ) (n : ℕ) (f : Functionality) (node : Node) → slice_get program.code n ≡ Some node →
      HasFunctionality program fs gates vars n f → NodeFits program fs gates vars node f
  opened gates vars n f node e (at_node other g fits) =
      let same : other ≡ node = cc in subst (λ (z : Node). NodeFits program fs gates vars z f) same fits

  node_of : (gates : List ℕ) (n : ℕ) (node : Node) → slice_get program.code n ≡ Some node → Fits gates n → NodeFitsIn gates node
  node_of gates n node e h = record { vars = h.vars; f = h.f; fits = opened gates h.vars n h.f node e h.has }

  of_inner : (gates : List ℕ) (vars : ℕ → Option ℕ) (f : Functionality) (i : ℕ) → NodeFits program fs gates vars (code.inner i) f → Fits gates i
  of_inner gates vars f i (inner_fits h) = record { vars = _; f = _; has = h }

  of_action : (gates : List ℕ) (vars : ℕ → Option ℕ) (f : Functionality) (g : ℕ) (fields : List ActionField) (guard : Option Premise) (i : ℕ) →
      NodeFits program fs gates vars (code.action g fields guard i) f → IsGateInScope program gates g × Fits gates i
  of_action gates vars f g fields guard i (action_fits at e p h) = (at, record { vars = _; f = _; has = h })

  of_choice : (gates : List ℕ) (vars : ℕ → Option ℕ) (f : Functionality) (i j : ℕ) → NodeFits program fs gates vars (code.choice i j) f →
      Fits gates i × Fits gates j
  of_choice gates vars f i j (choice_fits l r h k e) = (record { vars = _; f = _; has = h }, record { vars = _; f = _; has = k })

  of_guarded : (gates : List ℕ) (vars : ℕ → Option ℕ) (f : Functionality) (p : Premise) (i : ℕ) →
      NodeFits program fs gates vars (code.guarded p i) f → Fits gates i
  of_guarded gates vars f p i (guarded_fits e h) = record { vars = _; f = _; has = h }

  of_bound : (gates : List ℕ) (vars : ℕ → Option ℕ) (f : Functionality) (bindings : List Binding) (i : ℕ) →
      NodeFits program fs gates vars (code.bound bindings i) f → Fits gates i
  of_bound gates vars f bindings i (bound_fits e h) = record { vars = _; f = _; has = h }

  of_value_choice : (gates : List ℕ) (vars : ℕ → Option ℕ) (f : Functionality) (x : Variable) (i : ℕ) →
      NodeFits program fs gates vars (code.value_choice x i) f → Fits gates i
  of_value_choice gates vars f x i (value_choice_fits e h) = record { vars = _; f = _; has = h }

  of_gate_choice : (gates : List ℕ) (vars : ℕ → Option ℕ) (f : Functionality) (g : ℕ) (among : List ℕ) (i : ℕ) →
      NodeFits program fs gates vars (code.gate_choice g among i) f → AreGatesInScope program gates among × Fits (g ∷ gates) i
  of_gate_choice gates vars f g among i (gate_choice_fits e h) = (e, record { vars = _; f = _; has = h })

  of_parallel : (gates : List ℕ) (vars : ℕ → Option ℕ) (f : Functionality) (together : Synchronised) (i j : ℕ) →
      NodeFits program fs gates vars (code.parallel together i j) f → Fits gates i × Fits gates j
  of_parallel gates vars f together i j (parallel_fits l r e h k b) = (
    record { vars = _; f = _; has = h },
    record { vars = _; f = _; has = k },
  )

  of_hide : (gates : List ℕ) (vars : ℕ → Option ℕ) (f : Functionality) (hidden : List ℕ) (i : ℕ) →
      NodeFits program fs gates vars (code.hide hidden i) f → Fits (hidden ++ gates) i
  of_hide gates vars f hidden i (hide_fits h) = record { vars = _; f = _; has = h }

  of_enable : (gates : List ℕ) (vars : ℕ → Option ℕ) (f : Functionality) (i : ℕ) (xs : List Variable) (j : ℕ) →
      NodeFits program fs gates vars (code.enable i xs j) f → Fits gates i × Fits gates j
  of_enable gates vars f i xs j (enable_fits l h a e k) = (record { vars = _; f = _; has = h }, record { vars = _; f = _; has = k })

  of_disable : (gates : List ℕ) (vars : ℕ → Option ℕ) (f : Functionality) (i j : ℕ) → NodeFits program fs gates vars (code.disable i j) f →
      Fits gates i × Fits gates j
  of_disable gates vars f i j (disable_fits l r h k e) = (record { vars = _; f = _; has = h }, record { vars = _; f = _; has = k })

  of_call : (gates : List ℕ) (vars : ℕ → Option ℕ) (p : ℕ) (f : Functionality) (actual : List ℕ) (values : List TermTree) →
      NodeFits program fs gates vars (code.call p actual values) f → AreGatesInScope program gates actual × HasItsGates program p actual
  of_call gates vars p f actual values (call_fits formal xs body e same fits v) = (
    fits,
    λ other ys part g. same ∙ ap length (let one : formal ≡ other = cc in one),
  )

  of_relabel : (gates : List ℕ) (vars : ℕ → Option ℕ) (f : Functionality) (pairs : List Relabelling) (i : ℕ) →
      NodeFits program fs gates vars (code.relabel pairs i) f →
      Each (RelabellingFits program gates) pairs × Fits (map (λ (m : Relabelling). m.from) pairs ++ gates) i
  of_relabel gates vars f pairs i (relabel_fits e h) = (e, record { vars = _; f = _; has = h })

  abbrev In : List ℕ → ℕ → Type 0
  In gates g = IsGateInScope program gates g

  -- a gate in scope below binders is one of them, or in scope above them
  below : (own gates : List ℕ) (g : ℕ) → In (own ++ gates) g → IsOneOf g own ⊎ In gates g
  below own gates g (inl low) = inr (inl low)
  below own gates g (inr among) = by_part (one_parts g own gates among)
    where
      by_part : IsOneOf g own ⊎ IsOneOf g gates → IsOneOf g own ⊎ In gates g
      by_part (inl i) = inl i
      by_part (inr i) = inr (inr i)

  below_one : (h : ℕ) (gates : List ℕ) (g : ℕ) → In (h ∷ gates) g → (g ≡ h) ⊎ In gates g
  below_one h gates g (inl low) = inr (inl low)
  below_one h gates g (inr (inl e)) = inl e
  below_one h gates g (inr (inr i)) = inr (inr i)

  pub stands : (b : Behaviour) (gates : List ℕ) (n : ℕ) → StandsAt program n b → Fits gates n → ActsAt program (In gates) b
  stands stop gates n h k = tt
  stands (exit fields) gates n h k = tt
  stands (inner b) gates n h k =
      let z = node_of gates n (code.inner h.0) h.1 k in stands b gates h.0 h.2 (of_inner gates z.vars z.f h.0 z.fits)
  stands (action g fields guard b) gates n h k =
      let z = node_of gates n (code.action g fields guard h.0) h.1 k in
      let y = of_action gates z.vars z.f g fields guard h.0 z.fits in (y.0, stands b gates h.0 h.2 y.1)
  stands (choice b c) gates n h k =
      let z = node_of gates n (code.choice h.0 h.1) h.2 k in
      let y = of_choice gates z.vars z.f h.0 h.1 z.fits in (stands b gates h.0 h.3 y.0, stands c gates h.1 h.4 y.1)
  stands (guarded p b) gates n h k =
      let z = node_of gates n (code.guarded p h.0) h.1 k in stands b gates h.0 h.2 (of_guarded gates z.vars z.f p h.0 z.fits)
  stands (bound bindings b) gates n h k =
      let z = node_of gates n (code.bound bindings h.0) h.1 k in stands b gates h.0 h.2 (of_bound gates z.vars z.f bindings h.0 z.fits)
  stands (value_choice x b) gates n h k =
      let z = node_of gates n (code.value_choice x h.0) h.1 k in stands b gates h.0 h.2 (of_value_choice gates z.vars z.f x h.0 z.fits)
  stands (gate_choice g among b) gates n h k =
      let z = node_of gates n (code.gate_choice g among h.0) h.1 k in
      let y = of_gate_choice gates z.vars z.f g among h.0 z.fits in (
        y.0,
        more program (In (g ∷ gates)) (λ o. (o ≡ g) ⊎ In gates o) (below_one g gates) b (stands b (g ∷ gates) h.0 h.2 y.1),
      )
  stands (parallel together b c) gates n h k =
      let z = node_of gates n (code.parallel together h.0 h.1) h.2 k in
      let y = of_parallel gates z.vars z.f together h.0 h.1 z.fits in (stands b gates h.0 h.3 y.0, stands c gates h.1 h.4 y.1)
  stands (hide hidden b) gates n h k =
      let z = node_of gates n (code.hide hidden h.0) h.1 k in
      more program (In (hidden ++ gates)) (λ o. IsOneOf o hidden ⊎ In gates o) (below hidden gates) b
      (stands b (hidden ++ gates) h.0 h.2 (of_hide gates z.vars z.f hidden h.0 z.fits))
  stands (enable b xs c) gates n h k =
      let z = node_of gates n (code.enable h.0 xs h.1) h.2 k in
      let y = of_enable gates z.vars z.f h.0 xs h.1 z.fits in (stands b gates h.0 h.3 y.0, stands c gates h.1 h.4 y.1)
  stands (disable b c) gates n h k =
      let z = node_of gates n (code.disable h.0 h.1) h.2 k in
      let y = of_disable gates z.vars z.f h.0 h.1 z.fits in (stands b gates h.0 h.3 y.0, stands c gates h.1 h.4 y.1)
  stands (call p actual terms) gates n h k =
      let z = node_of gates n (code.call p actual terms) h k in of_call gates z.vars p z.f actual terms z.fits
  stands (relabel pairs b) gates n h k =
      let z = node_of gates n (code.relabel pairs h.0) h.1 k in
      let y = of_relabel gates z.vars z.f pairs h.0 z.fits in (
        y.0,
        more program (In (map (λ (m : Relabelling). m.from) pairs ++ gates)) (λ o. In gates (renamed pairs o))
            (λ o i. under_names (In gates) pairs y.0 o (below (map (λ (m : Relabelling). m.from) pairs) gates o i)) b
            (stands b (map (λ (m : Relabelling). m.from) pairs ++ gates) h.0 h.2 y.1),
      )
