-- What constructs of behaviour are read as where they stand, and what is refused of them (ISO 8807, static semantics of behaviour
-- expressions).
use Rattle.std.specs.Prelude.{ℕ, suc, ◌+◌, List, [], ◌∷◌, ◌++◌, map, length, Option, Some, None, option_map}
use Rattle.std.specs.List.{range_with_len, flat_map}
use Rattle.lotos_ast.specs.declared.behaviour.Binding.{Binding}
use Rattle.lotos_ast.specs.declared.behaviour.ExitValue.{ExitValue}
use Rattle.lotos_ast.specs.declared.behaviour.GateChoice.{GateChoice}
use Rattle.lotos_ast.specs.declared.behaviour.Offer.{Offer}
use Rattle.lotos_ast.specs.declared.behaviour.Operator.{Operator}
use Rattle.lotos_ast.specs.declared.behaviour.Operator.TheVariants.{Interleave, Synchronise, Shared}
use Rattle.lotos_ast.specs.declared.declaration.Declaration.{Declaration}
use Rattle.lotos_ast.specs.declared.expression.Expr.{Expr}
use Rattle.lotos_ast.specs.declared.expression.Premiss.{Premiss}
use Rattle.lotos_ast.specs.declared.place.Place.{Place}
use Rattle.lotos_ast.specs.declared.refusal.Refusal.{Refusal}
use Rattle.lotos_ast.specs.declared.token.Token.{Token}
use Rattle.spec_core.specs.Code as code
use Rattle.spec_core.specs.Code.{Node, Variable, ActionField, Synchronised, every_gate, these_gates}
use Rattle.spec_core.specs.Code.{stop, exit, inner, action, choice, guarded, bound, value_choice, gate_choice, parallel}
use Rattle.spec_core.specs.Code.{hide, enable, disable, relabel}
use Rattle.spec_core.specs.Functionality.{Functionality, noexit, exits, sort_of_variable}
use Rattle.spec_core.specs.Theories.{Premise}
use Rattle.static_equations.specs.Premisses.{IsPremissJudged}
use Rattle.static_equations.specs.Variables.{all_variables}
use Rattle.type_names.specs.DuplicateNames.{names_twice}
use Rattle.static_constructs.specs.Constructs.{Construct, stops, acts_inside, acts, chooses, asks, binds, chooses_values, chooses_gates}
use Rattle.static_constructs.specs.Constructs.{composes, hides, enables, disables, calls, copies}
use Rattle.static_constructs.specs.Constructs as written
use Rattle.static_readings.specs.Calls.{IsCallRead, AreBindingsRead, variable_of}
use Rattle.static_readings.specs.Declarations.{unknown_gate, unknown_gates, gate_numbers, declaration_refusals}
use Rattle.static_readings.specs.Declarations.{declared_variables}
use Rattle.static_readings.specs.Joins.{Read, root, after, single, around, if_same, either, both, joined, disagreement}
use Rattle.static_readings.specs.Offers.{AreOffersRead, IsPredicateRead, AreExitValuesRead, offered_variables, offered_names}
use Rattle.static_readings.specs.Sites.{Site, gate_number, next_gate, process_named, with_gates, with_variables}

abbrev pub ended : List (code.ExitValue × ℕ) → Read
ended values = single (exit (map (λ v. v.0) values)) (exits (map (λ v. v.1) values))

-- an action before what follows, where its parts are there
abbrev pub acting : ℕ → Option ℕ → Option (List (List ActionField)) → Option (Option Premise) → Option Read → Option Read
acting from (Some g) (Some fields) (Some guard) (Some r) = Some (around from (action g (flat_map (λ all. all) fields) guard) r)
acting from _ _ _ _ = None

-- a part under what is there
abbrev pub under : {B : Type 0} → ℕ → (B → ℕ → Node) → Option B → Option Read → Option Read
under from make (Some y) (Some r) = Some (around from (make y) r)
under from make _ _ = None

-- a choice of the value of each variable, the first one's outermost
abbrev pub value_choices : ℕ → List Variable → Read → Read
value_choices from [] r = r
value_choices from (x ∷ xs) r = around from (value_choice x) (value_choices from xs r)

abbrev pub chosen : ℕ → Option (List Variable) → Option Read → Option Read
chosen from (Some xs) (Some r) = Some (value_choices from xs r)
chosen from _ _ = None

-- the gates at which an operator synchronises, where they are in scope, and what is refused of it

abbrev pub gates_of : Operator → List Token
gates_of (Shared place gates) = gates.items
gates_of _ = []

abbrev pub synchronised : Site → Operator → Option Synchronised
synchronised s (Interleave place) = Some (these_gates [])
synchronised s (Synchronise place) = Some every_gate
synchronised s (Shared place gates) = option_map these_gates (gate_numbers s gates.items)

-- two parts side by side
abbrev pub composed : ℕ → Option Synchronised → Option Read → Option Read → Option Read
composed from (Some gates) x y = joined from both (parallel gates) x y
composed from None x y = None

abbrev pub composed_refusals : Place → Option Synchronised → Option Read → Option Read → List Refusal
composed_refusals place (Some gates) x y = disagreement place both x y
composed_refusals place None x y = []

-- an enabling: what the left part hands on must have the sorts of the variables that take it, unless it never ends

abbrev pub accepting : Functionality → List Variable → Functionality → Option Functionality
accepting noexit xs g = Some g
accepting (exits sorts) xs g = option_map (λ _. g) (if_same sorts (map sort_of_variable xs))

abbrev pub enabled : ℕ → Option (List Variable) → Option Read → Option Read → Option Read
enabled from (Some xs) x y = joined from (λ f. accepting f xs) (λ left right. enable left xs right) x y
enabled from None x y = None

abbrev pub enabled_refusals : Place → Option (List Variable) → Option Read → Option Read → List Refusal
enabled_refusals place (Some xs) x y = disagreement place (λ f. accepting f xs) x y
enabled_refusals place None x y = []

-- copies of a part at several gates, composed side by side and grouped to the right; they share the nodes of the part. Each copy is a
-- relabelling from this gate

abbrev pub relabelled : ℕ → ℕ → ℕ → Node
relabelled part g a = relabel (record { from = g; to = a } ∷ []) part

-- the nodes behind those of the part, which end at this number: the last copy first, and before each further one what stands behind it
abbrev pub copy_nodes : Synchronised → ℕ → ℕ → List ℕ → List Node
copy_nodes gates part g [] = []
copy_nodes gates part g (a ∷ []) = relabelled part g a ∷ []
copy_nodes gates part g (a ∷ b ∷ others) = copy_nodes gates part g (b ∷ others)
    ++ (relabelled part g a ∷ parallel gates (suc part + length (copy_nodes gates part g (b ∷ others)))
    (part + length (copy_nodes gates part g (b ∷ others))) ∷ [])

-- copies of a part, which stand for the part; copies of nothing are `stop`
abbrev pub copied : ℕ → ℕ → Option Synchronised → Option (List ℕ) → Option Read → Option Read
copied from g (Some gates) (Some []) (Some r) = Some (single stop noexit)
copied from g (Some gates) (Some (a ∷ among)) (Some r) =
    Some (record { nodes = r.nodes ++ copy_nodes gates (root from r) g (a ∷ among); functionality = r.functionality })
copied from g _ _ _ = None

-- in this site, a construct whose nodes begin at this number is read as this, if nothing hinders it, and these are its refusals
mutual
  pub data IsRead : Site → ℕ → Construct → Option Read → List Refusal → Type 0 where
    stopped : {s : Site} {from : ℕ} → IsRead s from stops (Some (single stop noexit)) []
    exited : {s : Site} {from : ℕ} (values : List ExitValue) (found : Option (List (code.ExitValue × ℕ))) (rs : List Refusal) →
        AreExitValuesRead s values found rs → IsRead s from (written.exits values) (option_map ended found) rs
    acted_inside : {s : Site} {from : ℕ} (b : Construct) (x : Option Read) (rs : List Refusal) → IsRead s from b x rs →
        IsRead s from (acts_inside b) (option_map (around from inner) x) rs
    acted : {s : Site} {from : ℕ} (gate : Token) (offers : List Offer) (predicate : Option Premiss) (b : Construct)
        (fields : Option (List (List ActionField))) (guard : Option (Option Premise)) (x : Option Read) (ro rp rb : List Refusal) →
        AreOffersRead s offers fields ro →
        IsPredicateRead (with_variables s (offered_variables s offers)) predicate guard rp →
        IsRead (with_variables s (offered_variables s offers)) from b x rb →
        IsRead s from (acts gate offers predicate b) (acting from (gate_number s gate) fields guard x)
        (unknown_gate s gate ++ (names_twice (offered_names offers) ++ (ro ++ (rp ++ rb))))
    chosen_either : {s : Site} {from : ℕ} (place : Place) (a b : Construct) (x y : Option Read) (ra rb : List Refusal) →
        IsRead s from a x ra → IsRead s (after from x) b y rb →
        IsRead s from (chooses place a b) (joined from either choice x y) ((ra ++ rb) ++ disagreement place either x y)
    asked : {s : Site} {from : ℕ} (p : Premiss) (b : Construct) (found : Option Premise) (x : Option Read) (rp rb : List Refusal) →
        IsPremissJudged s.context p found rp → IsRead s from b x rb →
        IsRead s from (asks p b) (under from guarded found x) (rp ++ rb)
    bound_to_values : {s : Site} {from : ℕ} (bindings : List Binding) (b : Construct) (found : Option (List code.Binding)) (x : Option Read)
        (rv rb : List Refusal) → AreBindingsRead s bindings found rv →
        IsRead (with_variables s (map (variable_of s) bindings)) from b x rb →
        IsRead s from (binds bindings b) (under from bound found x) (names_twice (map (λ b. b.name) bindings) ++ (rv ++ rb))
    chosen_values : {s : Site} {from : ℕ} (ds : List Declaration) (b : Construct) (x : Option Read) (rb : List Refusal) →
        IsRead (with_variables s (all_variables s.context.sorts ds)) from b x rb →
        IsRead s from (chooses_values ds b) (chosen from (declared_variables s ds) x) (declaration_refusals s ds ++ rb)
    chosen_gates : {s : Site} {from : ℕ} (cs : List GateChoice) (b : Construct) (x : Option Read) (rs : List Refusal) →
        AreGatesChosen s from cs b x rs →
        IsRead s from (chooses_gates cs b) x (names_twice (map (λ c. c.gate) cs) ++ rs)
    composed_with : {s : Site} {from : ℕ} (place : Place) (operator : Operator) (a b : Construct) (x y : Option Read)
        (ra rb : List Refusal) →
        IsRead s from a x ra → IsRead s (after from x) b y rb →
        IsRead s from (composes place operator a b) (composed from (synchronised s operator) x y)
        (unknown_gates s (gates_of operator) ++ ((ra ++ rb) ++ composed_refusals place (synchronised s operator) x y))
    hidden : {s : Site} {from : ℕ} (gates : List Token) (b : Construct) (x : Option Read) (rb : List Refusal) →
        IsRead (with_gates s gates) from b x rb →
        IsRead s from (hides gates b) (option_map (around from (hide (range_with_len (next_gate s) (length gates)))) x)
        (names_twice gates ++ rb)
    enabled_by : {s : Site} {from : ℕ} (place : Place) (a : Construct) (ds : List Declaration) (b : Construct) (x y : Option Read)
        (ra rb : List Refusal) → IsRead s from a x ra →
        IsRead (with_variables s (all_variables s.context.sorts ds)) (after from x) b y rb →
        IsRead s from (enables place a ds b) (enabled from (declared_variables s ds) x y)
        (ra ++ (declaration_refusals s ds ++ (rb ++ enabled_refusals place (declared_variables s ds) x y)))
    disabled_by : {s : Site} {from : ℕ} (place : Place) (a b : Construct) (x y : Option Read) (ra rb : List Refusal) →
        IsRead s from a x ra → IsRead s (after from x) b y rb →
        IsRead s from (disables place a b) (joined from either disable x y) ((ra ++ rb) ++ disagreement place either x y)
    called_with : {s : Site} {from : ℕ} (name : Token) (gates : List Token) (es : List Expr) (x : Option Read) (rs : List Refusal) →
        IsCallRead s name gates es (process_named s name) x rs → IsRead s from (calls name gates es) x rs
    copied_at : {s : Site} {from : ℕ} (gate : Token) (among : List Token) (operator : Operator) (b : Construct) (x : Option Read)
        (rb : List Refusal) → IsRead (with_gates s (gate ∷ [])) from b x rb →
        IsRead s from (copies gate among operator b) (copied from (next_gate s) (synchronised s operator) (gate_numbers s among) x)
        (unknown_gates s among ++ (unknown_gates s (gates_of operator) ++ rb))

  -- a choice of gates, the first one's outermost; a later list sees the gates that stand for earlier ones
  pub data AreGatesChosen : Site → ℕ → List GateChoice → Construct → Option Read → List Refusal → Type 0 where
    none_left : {s : Site} {from : ℕ} (b : Construct) (x : Option Read) (rs : List Refusal) → IsRead s from b x rs →
        AreGatesChosen s from [] b x rs
    one_more : {s : Site} {from : ℕ} (c : GateChoice) (cs : List GateChoice) (b : Construct) (x : Option Read) (rs : List Refusal) →
        AreGatesChosen (with_gates s (c.gate ∷ [])) from cs b x rs →
        AreGatesChosen s from (c ∷ cs) b (under from (gate_choice (next_gate s)) (gate_numbers s c.gates.gates.items) x)
        (unknown_gates s c.gates.gates.items ++ rs)
