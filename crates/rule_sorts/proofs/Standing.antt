-- The behaviours of a specification's code fit.
use Rattle.std.proofs.Common.{ℕ, ◌≡◌, List, [], ◌∷◌, subst, Option, Some}
use Rattle.std.specs.List.{slice_get}
use Rattle.spec_core.specs.Code as code
use Rattle.spec_core.specs.Code.{ActionField, Binding, ExitValue, Node, Program, Relabelling, Synchronised, Variable, exit_any, exit_given}
use Rattle.spec_core.specs.Functionality.{BindingFits, ExitsWith, FieldFits, Functionality, GuardFits, HasFunctionality, NodeFits}
use Rattle.spec_core.specs.Functionality.{ValuesFit}
use Rattle.spec_core.specs.Functionality.{accepted, bound_variables, with_variable, with_variables}
use Rattle.spec_core.specs.Functionality.{action_fits, at_node, bound_fits, call_fits, choice_fits, disable_fits, enable_fits, exit_fits}
use Rattle.spec_core.specs.Functionality.{gate_choice_fits, guarded_fits, hide_fits, inner_fits, parallel_fits, relabel_fits}
use Rattle.spec_core.specs.Functionality.{value_choice_fits}
use Rattle.spec_core.specs.Lists.{Each}
use Rattle.spec_core.specs.Sorts.{PremiseFits}
use Rattle.spec_core.specs.Terms.{TermTree}
use Rattle.spec_core.specs.Theories.{Premise}
use Rattle.rule_model.specs.Behaviours.{Behaviour, stop, exit, inner, action, choice, guarded, bound, value_choice, gate_choice, parallel}
use Rattle.rule_model.specs.Behaviours.{hide, enable, disable, call, relabel}
use Rattle.rule_model.specs.Code.{StandsAt}
use Rattle.rule_sorts.specs.Fitting.{BehaviourFits, CallFits, ExitFits, HasFewGates}
use Rattle.rule_sorts.proofs.Suiting.{Sorts}

module _ (program : Program) (fs : ℕ → Functionality) (few : HasFewGates program) where
  -- with these sorts of the variables in scope the part has some functionality
  pub record Fits (vars : Sorts) (n : ℕ) : Type 0 where
    pub gates : List ℕ
    pub f : Functionality
    pub has : HasFunctionality program fs gates vars n f

  -- the same of a construct
  record NodeFitsIn (vars : Sorts) (node : Node) : Type 0 where
    pub gates : List ℕ
    pub f : Functionality
    pub fits : NodeFits program fs gates vars node f

  opened : (gates : List ℕ) (vars : Sorts) (n : ℕ) (f : Functionality) (node : Node) → slice_get program.code n ≡ Some node →
      HasFunctionality program fs gates vars n f → NodeFits program fs gates vars node f
  opened gates vars n f node e (at_node other g fits) =
      let same : other ≡ node = cc in subst (λ (z : Node). NodeFits program fs gates vars z f) same fits

  node_of : (vars : Sorts) (n : ℕ) (node : Node) → slice_get program.code n ≡ Some node → Fits vars n → NodeFitsIn vars node
  node_of vars n node e h = record { gates = h.gates; f = h.f; fits = opened h.gates vars n h.f node e h.has }

  each_exit : (vars : Sorts) (fields : List ExitValue) (sorts : List ℕ) → ExitsWith program.theory vars fields sorts →
      Each (ExitFits program vars) fields
  each_exit vars [] [] h = tt
  each_exit vars [] (sort ∷ sorts) h = absurd h
  each_exit vars (exit_given t ∷ fields) (sort ∷ sorts) h = ((sort, h.0), each_exit vars fields sorts h.1)
  each_exit vars (exit_any any ∷ fields) (sort ∷ sorts) h = (tt, each_exit vars fields sorts h.2)
  each_exit vars (exit_given t ∷ fields) [] h = absurd h
  each_exit vars (exit_any any ∷ fields) [] h = absurd h

  of_exit : (gates : List ℕ) (vars : Sorts) (f : Functionality) (fields : List ExitValue) →
      NodeFits program fs gates vars (code.exit fields) f →
      Each (ExitFits program vars) fields
  of_exit gates vars f fields (exit_fits h) = each_exit vars fields _ h

  of_inner : (gates : List ℕ) (vars : Sorts) (f : Functionality) (i : ℕ) → NodeFits program fs gates vars (code.inner i) f → Fits vars i
  of_inner gates vars f i (inner_fits h) = record { gates = _; f = _; has = h }

  of_action : (gates : List ℕ) (vars : Sorts) (f : Functionality) (g : ℕ) (fields : List ActionField) (guard : Option Premise) (i : ℕ) →
      NodeFits program fs gates vars (code.action g fields guard i) f →
      Each (FieldFits program.theory vars) fields × GuardFits program.theory (with_variables (accepted fields) vars) guard ×
      Fits (with_variables (accepted fields) vars) i
  of_action gates vars f g fields guard i (action_fits at e p h) = (e, p, record { gates = _; f = _; has = h })

  of_choice : (gates : List ℕ) (vars : Sorts) (f : Functionality) (i j : ℕ) → NodeFits program fs gates vars (code.choice i j) f →
      Fits vars i × Fits vars j
  of_choice gates vars f i j (choice_fits l r h k e) = (record { gates = _; f = _; has = h }, record { gates = _; f = _; has = k })

  of_guarded : (gates : List ℕ) (vars : Sorts) (f : Functionality) (p : Premise) (i : ℕ) →
      NodeFits program fs gates vars (code.guarded p i) f → PremiseFits program.theory vars p × Fits vars i
  of_guarded gates vars f p i (guarded_fits e h) = (e, record { gates = _; f = _; has = h })

  of_bound : (gates : List ℕ) (vars : Sorts) (f : Functionality) (bindings : List Binding) (i : ℕ) →
      NodeFits program fs gates vars (code.bound bindings i) f →
      Each (BindingFits program.theory vars) bindings × Fits (with_variables (bound_variables bindings) vars) i
  of_bound gates vars f bindings i (bound_fits e h) = (e, record { gates = _; f = _; has = h })

  of_value_choice : (gates : List ℕ) (vars : Sorts) (f : Functionality) (x : Variable) (i : ℕ) →
      NodeFits program fs gates vars (code.value_choice x i) f → Fits (with_variable x vars) i
  of_value_choice gates vars f x i (value_choice_fits e h) = record { gates = _; f = _; has = h }

  of_gate_choice : (gates : List ℕ) (vars : Sorts) (f : Functionality) (g : ℕ) (among : List ℕ) (i : ℕ) →
      NodeFits program fs gates vars (code.gate_choice g among i) f → Fits vars i
  of_gate_choice gates vars f g among i (gate_choice_fits e h) = record { gates = _; f = _; has = h }

  of_parallel : (gates : List ℕ) (vars : Sorts) (f : Functionality) (together : Synchronised) (i j : ℕ) →
      NodeFits program fs gates vars (code.parallel together i j) f → Fits vars i × Fits vars j
  of_parallel gates vars f together i j (parallel_fits l r e h k b) = (
    record { gates = _; f = _; has = h },
    record { gates = _; f = _; has = k },
  )

  of_hide : (gates : List ℕ) (vars : Sorts) (f : Functionality) (hidden : List ℕ) (i : ℕ) →
      NodeFits program fs gates vars (code.hide hidden i) f → Fits vars i
  of_hide gates vars f hidden i (hide_fits h) = record { gates = _; f = _; has = h }

  of_enable : (gates : List ℕ) (vars : Sorts) (f : Functionality) (i : ℕ) (xs : List Variable) (j : ℕ) →
      NodeFits program fs gates vars (code.enable i xs j) f → Fits vars i × Fits (with_variables xs vars) j
  of_enable gates vars f i xs j (enable_fits l h a e k) = (record { gates = _; f = _; has = h }, record { gates = _; f = _; has = k })

  of_disable : (gates : List ℕ) (vars : Sorts) (f : Functionality) (i j : ℕ) → NodeFits program fs gates vars (code.disable i j) f →
      Fits vars i × Fits vars j
  of_disable gates vars f i j (disable_fits l r h k e) = (record { gates = _; f = _; has = h }, record { gates = _; f = _; has = k })

  of_call : (gates : List ℕ) (vars : Sorts) (p : ℕ) (f : Functionality) (actual : List ℕ) (values : List TermTree) →
      NodeFits program fs gates vars (code.call p actual values) f → CallFits program vars p values
  of_call gates vars p f actual values (call_fits formal xs body e same fits v) =
      λ other ys part g. let one : xs ≡ ys = cc in subst (ValuesFit program.theory vars values) one v

  of_relabel : (gates : List ℕ) (vars : Sorts) (f : Functionality) (pairs : List Relabelling) (i : ℕ) →
      NodeFits program fs gates vars (code.relabel pairs i) f → Fits vars i
  of_relabel gates vars f pairs i (relabel_fits e h) = record { gates = _; f = _; has = h }

  pub stands : (b : Behaviour) (vars : Sorts) (n : ℕ) → StandsAt program n b → Fits vars n → BehaviourFits program vars b
  stands stop vars n h k = tt
  stands (exit fields) vars n h k = let z = node_of vars n (code.exit fields) h k in of_exit z.gates vars z.f fields z.fits
  stands (inner b) vars n h k =
      let z = node_of vars n (code.inner h.0) h.1 k in stands b vars h.0 h.2 (of_inner z.gates vars z.f h.0 z.fits)
  stands (action g fields guard b) vars n h k =
      let z = node_of vars n (code.action g fields guard h.0) h.1 k in
      let y = of_action z.gates vars z.f g fields guard h.0 z.fits in
      (y.0, y.1, stands b (with_variables (accepted fields) vars) h.0 h.2 y.2)
  stands (choice b c) vars n h k =
      let z = node_of vars n (code.choice h.0 h.1) h.2 k in
      let y = of_choice z.gates vars z.f h.0 h.1 z.fits in (stands b vars h.0 h.3 y.0, stands c vars h.1 h.4 y.1)
  stands (guarded p b) vars n h k =
      let z = node_of vars n (code.guarded p h.0) h.1 k in
      let y = of_guarded z.gates vars z.f p h.0 z.fits in (y.0, stands b vars h.0 h.2 y.1)
  stands (bound bindings b) vars n h k =
      let z = node_of vars n (code.bound bindings h.0) h.1 k in
      let y = of_bound z.gates vars z.f bindings h.0 z.fits in
      (y.0, stands b (with_variables (bound_variables bindings) vars) h.0 h.2 y.1)
  stands (value_choice x b) vars n h k =
      let z = node_of vars n (code.value_choice x h.0) h.1 k in
      stands b (with_variable x vars) h.0 h.2 (of_value_choice z.gates vars z.f x h.0 z.fits)
  stands (gate_choice g among b) vars n h k =
      let z = node_of vars n (code.gate_choice g among h.0) h.1 k in
      (few n g among h.0 h.1, stands b vars h.0 h.2 (of_gate_choice z.gates vars z.f g among h.0 z.fits))
  stands (parallel together b c) vars n h k =
      let z = node_of vars n (code.parallel together h.0 h.1) h.2 k in
      let y = of_parallel z.gates vars z.f together h.0 h.1 z.fits in (stands b vars h.0 h.3 y.0, stands c vars h.1 h.4 y.1)
  stands (hide hidden b) vars n h k =
      let z = node_of vars n (code.hide hidden h.0) h.1 k in stands b vars h.0 h.2 (of_hide z.gates vars z.f hidden h.0 z.fits)
  stands (enable b xs c) vars n h k =
      let z = node_of vars n (code.enable h.0 xs h.1) h.2 k in
      let y = of_enable z.gates vars z.f h.0 xs h.1 z.fits in (stands b vars h.0 h.3 y.0, stands c (with_variables xs vars) h.1 h.4 y.1)
  stands (disable b c) vars n h k =
      let z = node_of vars n (code.disable h.0 h.1) h.2 k in
      let y = of_disable z.gates vars z.f h.0 h.1 z.fits in (stands b vars h.0 h.3 y.0, stands c vars h.1 h.4 y.1)
  stands (call p actual terms) vars n h k =
      let z = node_of vars n (code.call p actual terms) h k in of_call z.gates vars p z.f actual terms z.fits
  stands (relabel pairs b) vars n h k =
      let z = node_of vars n (code.relabel pairs h.0) h.1 k in stands b vars h.0 h.2 (of_relabel z.gates vars z.f pairs h.0 z.fits)
