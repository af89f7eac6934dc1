-- What a construct is read as stands for it where what its parts are read as stands for them, construct by construct.
use Rattle.std.proofs.Common.{ℕ, ◌≡◌, List, [], ◌∷◌, ◌++◌, length, map, sym, subst}
use Rattle.std.specs.Prelude.{Option, Some, None, option_map, IfSome}
use Rattle.std.specs.List.{flat_map, range_with_len}
use Rattle.std.proofs.lemmas.Option.{IfSome_then}
use Rattle.lotos_ast.specs.declared.behaviour.Binding.{Binding}
use Rattle.lotos_ast.specs.declared.behaviour.ExitValue.{ExitValue}
use Rattle.lotos_ast.specs.declared.behaviour.GateChoice.{GateChoice}
use Rattle.lotos_ast.specs.declared.behaviour.Offer.{Offer}
use Rattle.lotos_ast.specs.declared.behaviour.Operator.{Operator}
use Rattle.lotos_ast.specs.declared.declaration.Declaration.{Declaration}
use Rattle.lotos_ast.specs.declared.expression.Premiss.{Premiss}
use Rattle.lotos_ast.specs.declared.refusal.Refusal.{Refusal}
use Rattle.lotos_ast.specs.declared.token.Token.{Token}
use Rattle.spec_core.specs.Code as code
use Rattle.spec_core.specs.Code.{Node, Variable, Program, ActionField, Synchronised, stop, exit, inner, action, choice, guarded, bound}
use Rattle.spec_core.specs.Code.{gate_choice, parallel, hide, enable, disable}
use Rattle.spec_core.specs.Functionality.{Functionality, noexit, exits, HasFunctionality, IsGateInScope, AreGatesInScope, SynchronisedFits}
use Rattle.spec_core.specs.Functionality.{GuardFits, FieldFits, VariableFits, accepted, bound_variables, stop_fits, exit_fits, inner_fits}
use Rattle.spec_core.specs.Functionality.{action_fits, choice_fits, guarded_fits, bound_fits, gate_choice_fits, parallel_fits, hide_fits}
use Rattle.spec_core.specs.Functionality.{enable_fits, disable_fits}
use Rattle.spec_core.specs.Functionality as core
use Rattle.spec_core.specs.Lists.{Each}
use Rattle.spec_core.specs.Theories.{Premise}
use Rattle.sort_overloads.specs.Readings.{Declared}
use Rattle.static_equations.specs.Premisses.{IsPremissJudged}
use Rattle.static_equations.specs.Variables.{all_variables}
use Rattle.static_readings.specs.Calls.{AreBindingsRead, variable_of}
use Rattle.static_readings.specs.Declarations.{gate_numbers, numbered_from, declared_variables}
use Rattle.static_readings.specs.Joins.{Read, after, single, around, either, both, joined}
use Rattle.static_readings.specs.Offers.{AreOffersRead, IsPredicateRead, AreExitValuesRead, offered_variables}
use Rattle.static_readings.specs.Readings.{ended, acting, under, chosen, synchronised, composed, enabled, accepting, copied}
use Rattle.static_readings.specs.Sites.{Site, gate_number, next_gate, with_gates, with_variables}
use Rattle.static_laws.specs.Standing.{Agrees}
use Rattle.static_laws.proofs.Copies.{stands-copied}
use Rattle.static_laws.proofs.Endings.{either-is, both-is, accepting-is}
use Rattle.static_laws.proofs.Fields.{offers-fit, predicate-fits}
use Rattle.static_laws.proofs.Gates.{gate-fits, gates-fit, synchronised-fits, more-gates}
use Rattle.static_laws.proofs.Judgements.{condition-fits}
use Rattle.static_laws.proofs.Options.{if-map}
use Rattle.static_laws.proofs.Standings.{Stands, stands-single, stands-around, stands-joined, stands-under, stands-choices}
use Rattle.static_laws.proofs.Values.{exit-values-fit, bindings-fit}
use Rattle.static_laws.proofs.CompiledVariables.{more-variables, declared-fit}

-- what is read in this site stands for what was written wherever the site agrees with the program
abbrev pub Holds : Program → (ℕ → Functionality) → Site → ℕ → Option Read → Type 0
Holds program processes s from found = (gates : List ℕ) (vars : ℕ → Option ℕ) →
    Agrees program processes s gates vars → IfSome found (Stands program processes gates vars from)

-- a site with further variables, and with further gates, agrees with the program where they are in scope

agrees-variables : (program : Program) (processes : ℕ → Functionality) (s : Site) (gates : List ℕ) (vars : ℕ → Option ℕ)
    (vs : List Declared) (xs : List Variable) → xs ≡ numbered_from (length s.context.variables) vs → Agrees program processes s gates vars →
    Agrees program processes (with_variables s vs) gates (core.with_variables xs vars)
agrees-variables program processes s gates vars vs xs e h =
    subst (λ ys. Agrees program processes (with_variables s vs) gates (core.with_variables ys vars)) (sym e) (record {
      data_agrees = more-variables program.theory s vs vars h.data_agrees;
      gates_in_scope = h.gates_in_scope;
      headings = h.headings;
    })

agrees-gates : (program : Program) (processes : ℕ → Functionality) (s : Site) (gates : List ℕ) (vars : ℕ → Option ℕ)
    (ts : List Token) → Agrees program processes s gates vars →
    Agrees program processes (with_gates s ts) (range_with_len (next_gate s) (length ts) ++ gates) vars
agrees-gates program processes s gates vars ts h = record {
  data_agrees = h.data_agrees;
  gates_in_scope = more-gates program s gates ts h.gates_in_scope;
  headings = h.headings;
}

module _ (program : Program) (processes : ℕ → Functionality) (s : Site) (from : ℕ) where
  pub stopped-row : Holds program processes s from (Some (single stop noexit))
  stopped-row gates vars h = stands-single program processes gates vars from stop noexit stop_fits

  pub exited-row : (values : List ExitValue) (found : Option (List (code.ExitValue × ℕ))) (rs : List Refusal) →
      AreExitValuesRead s values found rs → Holds program processes s from (option_map ended found)
  exited-row values found rs d gates vars h =
      if-map (Stands program processes gates vars from) ended found
      (IfSome_then found (exit-values-fit program.theory s vars h.data_agrees values found rs d)
      (λ vs e. stands-single program processes gates vars from (exit (map (λ v. v.0) vs)) (exits (map (λ v. v.1) vs)) (exit_fits e)))

  pub inner-row : (x : Option Read) → Holds program processes s from x → Holds program processes s from (option_map (around from inner) x)
  inner-row x ih gates vars h =
      if-map (Stands program processes gates vars from) (around from inner) x
      (IfSome_then x (ih gates vars h) (λ r st. stands-around program processes gates vars from gates vars inner r st (λ p. inner_fits p)))

  acting-row : (gates : List ℕ) (vars : ℕ → Option ℕ) (g : Option ℕ) (fields : Option (List (List ActionField)))
      (guard : Option (Option Premise)) (x : Option Read) → IfSome g (IsGateInScope program gates) →
      IfSome fields (λ fs. Each (FieldFits program.theory vars) (flat_map (λ f. f) fs)
      × IfSome guard (GuardFits program.theory (core.with_variables (accepted (flat_map (λ f. f) fs)) vars))
      × IfSome x (Stands program processes gates (core.with_variables (accepted (flat_map (λ f. f) fs)) vars) from)) →
      IfSome (acting from g fields guard x) (Stands program processes gates vars from)
  acting-row gates vars None fields guard x hg hf = tt
  acting-row gates vars (Some g) None guard x hg hf = tt
  acting-row gates vars (Some g) (Some fs) None x hg hf = tt
  acting-row gates vars (Some g) (Some fs) (Some guard) None hg hf = tt
  acting-row gates vars (Some g) (Some fs) (Some guard) (Some r) hg hf =
      stands-around program processes gates vars from gates (core.with_variables (accepted (flat_map (λ f. f) fs)) vars)
      (action g (flat_map (λ f. f) fs) guard) r hf.2 (λ p. action_fits hg hf.0 hf.1 p)

  pub acted-row : (gate : Token) (offers : List Offer) (predicate : Option Premiss)
      (fields : Option (List (List ActionField))) (guard : Option (Option Premise)) (x : Option Read) (ro rp : List Refusal) →
      AreOffersRead s offers fields ro → IsPredicateRead (with_variables s (offered_variables s offers)) predicate guard rp →
      Holds program processes (with_variables s (offered_variables s offers)) from x →
      Holds program processes s from (acting from (gate_number s gate) fields guard x)
  acted-row gate offers predicate fields guard x ro rp d p ih gates vars h =
      let vs : List Declared = offered_variables s offers in
      acting-row gates vars (gate_number s gate) fields guard x (gate-fits program s gates h.gates_in_scope gate)
      (IfSome_then fields (offers-fit program.theory s vars h.data_agrees offers fields ro d)
      (λ fs f. let xs : List Variable = accepted (flat_map (λ f. f) fs) in
      let h' : Agrees program processes (with_variables s vs) gates (core.with_variables xs vars) =
      agrees-variables program processes s gates vars vs xs f.1 h in (
        f.0,
        predicate-fits program.theory (with_variables s vs) (core.with_variables xs vars) h'.data_agrees predicate guard rp p,
        ih gates (core.with_variables xs vars) h',
      )))

  pub chosen-either-row : (x y : Option Read) → Holds program processes s from x → Holds program processes s (after from x) y →
      Holds program processes s from (joined from either choice x y)
  chosen-either-row x y ix iy gates vars h =
      stands-joined program processes gates vars from vars either choice x y (ix gates vars h) (iy gates vars h)
      (λ f g whole left right e l r. choice_fits f g l r (either-is f g whole e))

  pub asked-row : (p : Premiss) (found : Option Premise) (x : Option Read) (rp : List Refusal) →
      IsPremissJudged s.context p found rp → Holds program processes s from x →
      Holds program processes s from (under from guarded found x)
  asked-row p found x rp d ih gates vars h =
      stands-under program processes gates vars from guarded found x
      (IfSome_then found (condition-fits program.theory s.context vars h.data_agrees p.left p.right found rp d)
      (λ q f. IfSome_then x (ih gates vars h)
      (λ r st. stands-around program processes gates vars from gates vars (guarded q) r st (λ part. guarded_fits f part))))

  pub bound-row : (bindings : List Binding) (found : Option (List code.Binding)) (x : Option Read) (rv : List Refusal) →
      AreBindingsRead s bindings found rv → Holds program processes (with_variables s (map (variable_of s) bindings)) from x →
      Holds program processes s from (under from bound found x)
  bound-row bindings found x rv d ih gates vars h =
      stands-under program processes gates vars from bound found x
      (IfSome_then found (bindings-fit program.theory s vars h.data_agrees (length s.context.variables) bindings found rv d)
      (λ all f. IfSome_then x
      (ih gates (core.with_variables (bound_variables all) vars)
      (agrees-variables program processes s gates vars (map (variable_of s) bindings) (bound_variables all) f.1 h))
      (λ r st. stands-around program processes gates vars from gates (core.with_variables (bound_variables all) vars) (bound all) r st
      (λ part. bound_fits f.0 part))))

  choosing-row : (gates : List ℕ) (vars : ℕ → Option ℕ) (o : Option (List Variable)) (x : Option Read) →
      IfSome o (λ xs. Each (VariableFits program.theory) xs
      × IfSome x (Stands program processes gates (core.with_variables xs vars) from)) →
      IfSome (chosen from o x) (Stands program processes gates vars from)
  choosing-row gates vars None x h = tt
  choosing-row gates vars (Some xs) None h = tt
  choosing-row gates vars (Some xs) (Some r) h = stands-choices program processes gates vars from xs r h.0 h.1

  pub chosen-values-row : (ds : List Declaration) (x : Option Read) →
      Holds program processes (with_variables s (all_variables s.context.sorts ds)) from x →
      Holds program processes s from (chosen from (declared_variables s ds) x)
  chosen-values-row ds x ih gates vars h =
      choosing-row gates vars (declared_variables s ds) x
      (IfSome_then (declared_variables s ds) (declared-fit program.theory s vars h.data_agrees ds)
      (λ xs f. (
        f.0,
        ih gates (core.with_variables xs vars)
            (agrees-variables program processes s gates vars (all_variables s.context.sorts ds) xs f.1 h),
      )))

  pub gate-row : (c : GateChoice) (x : Option Read) → Holds program processes (with_gates s (c.gate ∷ [])) from x →
      Holds program processes s from (under from (gate_choice (next_gate s)) (gate_numbers s c.gates.gates.items) x)
  gate-row c x ih gates vars h =
      let among : Option (List ℕ) = gate_numbers s c.gates.gates.items in
      stands-under program processes gates vars from (gate_choice (next_gate s)) among x
      (IfSome_then among (gates-fit program s gates h.gates_in_scope c.gates.gates.items)
      (λ gs f. IfSome_then x
      (ih (next_gate s ∷ gates) vars (agrees-gates program processes s gates vars (c.gate ∷ []) h))
      (λ r st. stands-around program processes gates vars from (next_gate s ∷ gates) vars (gate_choice (next_gate s) gs) r st
      (λ part. gate_choice_fits f part))))

  composing-row : (gates : List ℕ) (vars : ℕ → Option ℕ) (o : Option Synchronised) (x y : Option Read) →
      IfSome o (SynchronisedFits program gates) → IfSome x (Stands program processes gates vars from) →
      IfSome y (Stands program processes gates vars (after from x)) →
      IfSome (composed from o x y) (Stands program processes gates vars from)
  composing-row gates vars None x y so sx sy = tt
  composing-row gates vars (Some among) x y so sx sy =
      stands-joined program processes gates vars from vars both (parallel among) x y sx sy
      (λ f g whole left right e l r. parallel_fits f g so l r (both-is f g whole e))

  pub composed-row : (operator : Operator) (x y : Option Read) → Holds program processes s from x →
      Holds program processes s (after from x) y → Holds program processes s from (composed from (synchronised s operator) x y)
  composed-row operator x y ix iy gates vars h =
      composing-row gates vars (synchronised s operator) x y (synchronised-fits program s gates h.gates_in_scope operator)
      (ix gates vars h) (iy gates vars h)

  pub hidden-row : (ts : List Token) (x : Option Read) → Holds program processes (with_gates s ts) from x →
      Holds program processes s from (option_map (around from (hide (range_with_len (next_gate s) (length ts)))) x)
  hidden-row ts x ih gates vars h =
      let hidden : List ℕ = range_with_len (next_gate s) (length ts) in
      if-map (Stands program processes gates vars from) (around from (hide hidden)) x
      (IfSome_then x (ih (hidden ++ gates) vars (agrees-gates program processes s gates vars ts h))
      (λ r st. stands-around program processes gates vars from (hidden ++ gates) vars (hide hidden) r st (λ p. hide_fits p)))

  enabling-row : (gates : List ℕ) (vars : ℕ → Option ℕ) (o : Option (List Variable)) (x y : Option Read) →
      IfSome x (Stands program processes gates vars from) →
      IfSome o (λ xs. Each (VariableFits program.theory) xs
      × IfSome y (Stands program processes gates (core.with_variables xs vars) (after from x))) →
      IfSome (enabled from o x y) (Stands program processes gates vars from)
  enabling-row gates vars None x y sx so = tt
  enabling-row gates vars (Some xs) x y sx so =
      stands-joined program processes gates vars from (core.with_variables xs vars) (λ f. accepting f xs)
      (λ left right. enable left xs right) x y sx so.1
      (λ f g whole left right e l r. let k = accepting-is f xs g whole e in
      subst (λ i. core.NodeFits program processes gates vars (enable left xs right) i) (sym k.1) (enable_fits f l k.0 so.0 r))

  pub enabled-row : (ds : List Declaration) (x y : Option Read) → Holds program processes s from x →
      Holds program processes (with_variables s (all_variables s.context.sorts ds)) (after from x) y →
      Holds program processes s from (enabled from (declared_variables s ds) x y)
  enabled-row ds x y ix iy gates vars h =
      enabling-row gates vars (declared_variables s ds) x y (ix gates vars h)
      (IfSome_then (declared_variables s ds) (declared-fit program.theory s vars h.data_agrees ds)
      (λ xs f. (
        f.0,
        iy gates (core.with_variables xs vars)
            (agrees-variables program processes s gates vars (all_variables s.context.sorts ds) xs f.1 h),
      )))

  pub disabled-row : (x y : Option Read) → Holds program processes s from x → Holds program processes s (after from x) y →
      Holds program processes s from (joined from either disable x y)
  disabled-row x y ix iy gates vars h =
      stands-joined program processes gates vars from vars either disable x y (ix gates vars h) (iy gates vars h)
      (λ f g whole left right e l r. disable_fits f g l r (either-is f g whole e))

  pub copied-row : (gate : Token) (among : List Token) (operator : Operator) (x : Option Read) →
      Holds program processes (with_gates s (gate ∷ [])) from x →
      Holds program processes s from (copied from (next_gate s) (synchronised s operator) (gate_numbers s among) x)
  copied-row gate among operator x ih gates vars h =
      stands-copied program processes gates vars from (next_gate s) (synchronised s operator) (gate_numbers s among) x
      (synchronised-fits program s gates h.gates_in_scope operator)
      (gates-fit program s gates h.gates_in_scope among)
      (ih (next_gate s ∷ gates) vars (agrees-gates program processes s gates vars (gate ∷ []) h))
