-- The nodes of a construct fit where those of its parts do, construct by construct.
use Rattle.std.proofs.Common.{ℕ, suc, ◌≡◌, ◌<◌, ◌+◌, List, [], ◌∷◌, ◌++◌, length, map, refl, sym, ap, subst, ◌∙◌, arith}
use Rattle.std.proofs.Common.{length-append}
use Rattle.std.specs.Prelude.{pred, Option, Some, None, option_map, IfSome}
use Rattle.std.specs.List.{flat_map, range_with_len}
use Rattle.lotos_ast.specs.declared.behaviour.GateChoice.{GateChoice}
use Rattle.lotos_ast.specs.declared.expression.Expr.{Expr}
use Rattle.lotos_ast.specs.declared.refusal.Refusal.{Refusal}
use Rattle.lotos_ast.specs.declared.token.Token.{Token}
use Rattle.spec_core.specs.Code.{Node, Variable, Program, ActionField, Synchronised, stop, exit, inner, action, choice, guarded, bound}
use Rattle.spec_core.specs.Code.{value_choice, gate_choice, parallel, hide, enable, disable, call}
use Rattle.spec_core.specs.Functionality.{Functionality, noexit, exits}
use Rattle.spec_core.specs.Lists.{Each}
use Rattle.spec_core.specs.Ready.{NamesBehaviour, CallsProcess, IsProcess, parts_of}
use Rattle.spec_core.specs.Terms.{TermTree}
use Rattle.spec_core.specs.Theories.{Premise}
use Rattle.sort_overloads.specs.Listed.{is_same_name}
use Rattle.static_constructs.specs.Constructs.{Construct}
use Rattle.static_readings.specs.Calls.{called, IsCallRead, unknown, miscounted, counted}
use Rattle.static_readings.specs.Declarations.{gate_numbers, declared_variables}
use Rattle.static_readings.specs.Joins.{Read, root, after, single, around, over, joined, either, both}
use Rattle.static_readings.specs.Readings.{ended, acting, under, value_choices, chosen, composed, synchronised, enabled, accepting, copied}
use Rattle.static_readings.specs.Readings.{copy_nodes, relabelled}
use Rattle.static_readings.specs.Readings.{IsRead, stopped, exited, acted_inside, acted, chosen_either, asked, bound_to_values}
use Rattle.static_readings.specs.Readings.{chosen_values, chosen_gates, composed_with, hidden, enabled_by, disabled_by, called_with}
use Rattle.static_readings.specs.Readings.{copied_at, AreGatesChosen, none_left, one_more}
use Rattle.static_readings.specs.Sites.{Site, Heading, gate_number, next_gate, process_named}
use Rattle.static_laws.specs.Standing.{StandAt, HeadingAgrees}
use Rattle.static_laws.proofs.CalledRow.{each-found}
use Rattle.static_laws.proofs.Codes.{in-front, behind, node-at}
use Rattle.static_laws.proofs.Copies.{before-pred, suc-pred}
use Rattle.static_laws.proofs.Options.{if-map, if-all}
use Rattle.static_laws.proofs.Parts.{IsBehaviourNode, AreBehaviourNodes, NodesFit, append-fit, over-one, over-two, fits-single}
use Rattle.static_laws.proofs.Parts.{fits-around, fits-over}

module _ (program : Program) where
  without-parts : (number : ℕ) (node : Node) → parts_of node ≡ [] → CallsProcess program node → (IsProcess node → ⊥) →
      IsBehaviourNode program number node
  without-parts number node e calls other = (
    record {
      names = subst (λ l. Each (NamesBehaviour program) l) (sym e) tt;
      calls = calls;
      below = λ _. subst (λ l. Each (λ part. part < number) l) (sym e) tt;
    },
    other,
  )

  fits-joined : (from : ℕ) (combine : Functionality → Functionality → Option Functionality) (make : ℕ → ℕ → Node) (x y : Option Read) →
      ((left right : ℕ) → parts_of (make left right) ≡ left ∷ right ∷ []) →
      ((left right : ℕ) → CallsProcess program (make left right)) → ((left right : ℕ) → IsProcess (make left right) → ⊥) →
      IfSome x (NodesFit program from) → IfSome y (NodesFit program (after from x)) →
      IfSome (joined from combine make x y) (NodesFit program from)
  fits-joined from combine make None y parts calls other fx fy = tt
  fits-joined from combine make (Some x) None parts calls other fx fy = tt
  fits-joined from combine make (Some x) (Some y) parts calls other fx fy =
      if-map (NodesFit program from) (over from make x y) (combine x.functionality y.functionality)
      (if-all (λ f. fits-over program from make x y f parts calls other fx fy) (combine x.functionality y.functionality))

  fits-under : {B : Type 0} (from : ℕ) (make : B → ℕ → Node) (o : Option B) (x : Option Read) →
      ((y : B) (part : ℕ) → parts_of (make y part) ≡ part ∷ []) →
      ((y : B) (part : ℕ) → CallsProcess program (make y part)) → ((y : B) (part : ℕ) → IsProcess (make y part) → ⊥) →
      IfSome x (NodesFit program from) → IfSome (under from make o x) (NodesFit program from)
  fits-under from make None x parts calls other fx = tt
  fits-under from make (Some y) None parts calls other fx = tt
  fits-under from make (Some y) (Some r) parts calls other fx = fits-around program from (make y) r (parts y) (calls y) (other y) fx

  fits-if-around : (from : ℕ) (make : ℕ → Node) (x : Option Read) → ((part : ℕ) → parts_of (make part) ≡ part ∷ []) →
      ((part : ℕ) → CallsProcess program (make part)) → ((part : ℕ) → IsProcess (make part) → ⊥) →
      IfSome x (NodesFit program from) → IfSome (option_map (around from make) x) (NodesFit program from)
  fits-if-around from make None parts calls other fx = tt
  fits-if-around from make (Some r) parts calls other fx = fits-around program from make r parts calls other fx

  fits-acting : (from : ℕ) (g : Option ℕ) (fields : Option (List (List ActionField))) (guard : Option (Option Premise)) (x : Option Read) →
      IfSome x (NodesFit program from) → IfSome (acting from g fields guard x) (NodesFit program from)
  fits-acting from None fields guard x fx = tt
  fits-acting from (Some g) None guard x fx = tt
  fits-acting from (Some g) (Some fs) None x fx = tt
  fits-acting from (Some g) (Some fs) (Some guard) None fx = tt
  fits-acting from (Some g) (Some fs) (Some guard) (Some r) fx =
      fits-around program from (action g (flat_map (λ all. all) fs) guard) r (λ _. refl) (λ _. tt) (λ _ p. p) fx

  fits-choices : (from : ℕ) (xs : List Variable) (r : Read) → NodesFit program from r → NodesFit program from (value_choices from xs r)
  fits-choices from [] r fr = fr
  fits-choices from (x ∷ xs) r fr =
      fits-around program from (value_choice x) (value_choices from xs r) (λ _. refl) (λ _. tt) (λ _ p. p) (fits-choices from xs r fr)

  fits-chosen : (from : ℕ) (o : Option (List Variable)) (x : Option Read) → IfSome x (NodesFit program from) →
      IfSome (chosen from o x) (NodesFit program from)
  fits-chosen from None x fx = tt
  fits-chosen from (Some xs) None fx = tt
  fits-chosen from (Some xs) (Some r) fx = fits-choices from xs r fx

  fits-composed : (from : ℕ) (o : Option Synchronised) (x y : Option Read) → IfSome x (NodesFit program from) →
      IfSome y (NodesFit program (after from x)) → IfSome (composed from o x y) (NodesFit program from)
  fits-composed from None x y fx fy = tt
  fits-composed from (Some gates) x y fx fy =
      fits-joined from both (parallel gates) x y (λ _ _. refl) (λ _ _. tt) (λ _ _ p. p) fx fy

  fits-enabled : (from : ℕ) (o : Option (List Variable)) (x y : Option Read) → IfSome x (NodesFit program from) →
      IfSome y (NodesFit program (after from x)) → IfSome (enabled from o x y) (NodesFit program from)
  fits-enabled from None x y fx fy = tt
  fits-enabled from (Some xs) x y fx fy =
      fits-joined from (λ f. accepting f xs) (λ left right. enable left xs right) x y (λ _ _. refl) (λ _ _. tt) (λ _ _ p. p) fx fy

  copies-named : (sync : Synchronised) (part g : ℕ) (among : List ℕ) → NamesBehaviour program part →
      StandAt program (suc part) (copy_nodes sync part g among) →
      AreBehaviourNodes program (suc part) (copy_nodes sync part g among)
      × NamesBehaviour program (part + length (copy_nodes sync part g among))
  copies-named sync part g [] names at = (tt, subst (NamesBehaviour program) (omega arith) names)
  copies-named sync part g (a ∷ []) names at = (
    (over-one program (relabelled part g a) part (suc part) refl tt (λ p. p) names (omega arith), tt),
    subst (NamesBehaviour program) (omega arith) (relabelled part g a, node-at (relabelled part g a) [] at, λ p. p),
  )
  copies-named sync part g (a ∷ b ∷ others) names at =
      let rest : List Node = copy_nodes sync part g (b ∷ others) in
      let left : ℕ = suc part + length rest in
      let right : ℕ = part + length rest in
      let one : Node = relabelled part g a in
      let two : Node = parallel sync left right in
      let end : StandAt program left (one ∷ two ∷ []) = behind rest (one ∷ two ∷ []) at in
      let more = copies-named sync part g (b ∷ others) names (in-front rest (one ∷ two ∷ []) at) in
      let names-left : NamesBehaviour program left = (one, node-at one (two ∷ []) end, λ p. p) in
      let names-two : NamesBehaviour program (left + 1) = (two, node-at two [] (behind (one ∷ []) (two ∷ []) end), λ p. p) in (
        append-fit program (suc part) rest (one ∷ two ∷ []) more.0 (
          over-one program one part left refl tt (λ p. p) names (omega arith),
          (over-two program two left right (suc left) refl tt (λ p. p) names-left (omega arith) more.1 (omega arith), tt),
        ),
        subst (NamesBehaviour program) (omega (arith, length-append rest (one ∷ two ∷ []))) names-two,
      )

  fits-copied : (from g : ℕ) (o : Option Synchronised) (among : Option (List ℕ)) (x : Option Read) → IfSome x (NodesFit program from) →
      IfSome (copied from g o among x) (NodesFit program from)
  fits-copied from g None among x fx = tt
  fits-copied from g (Some sync) None x fx = tt
  fits-copied from g (Some sync) (Some []) None fx = tt
  fits-copied from g (Some sync) (Some (a ∷ among)) None fx = tt
  fits-copied from g (Some sync) (Some []) (Some r) fx = fits-single program from stop noexit (without-parts from stop refl tt (λ p. p))
  fits-copied from g (Some sync) (Some (a ∷ among)) (Some r) fx =
      let part : ℕ = root from r in
      let nodes : List Node = copy_nodes sync part g (a ∷ among) in
      let some : 0 < from + length r.nodes = omega (arith, fx.filled) in
      let e : (from + length r.nodes) + length nodes ≡ from + length (r.nodes ++ nodes) = omega (arith, length-append r.nodes nodes) in
      let copies : StandAt program from (r.nodes ++ nodes) → AreBehaviourNodes program (suc part) nodes
      × NamesBehaviour program (part + length nodes) =
      λ at. copies-named sync part g (a ∷ among) (fx.last (in-front r.nodes nodes at))
      (subst (λ n. StandAt program n nodes) (sym (suc-pred (from + length r.nodes) some)) (behind r.nodes nodes at)) in
      record {
        filled = omega (arith, fx.filled, length-append r.nodes nodes);
        nodes = λ at. append-fit program from r.nodes nodes (fx.nodes (in-front r.nodes nodes at))
            (subst (λ n. AreBehaviourNodes program n nodes) (suc-pred (from + length r.nodes) some) (copies at).0);
        last = λ at. subst (NamesBehaviour program)
            (sym (before-pred (from + length r.nodes) (length nodes) some) ∙ ap pred e) (copies at).1;
      }

  fits-called : (processes : ℕ → Functionality) (from : ℕ) (p : Heading) (gs : Option (List ℕ)) (values : Option (List TermTree)) →
      HeadingAgrees program processes p → IfSome (called p gs values) (NodesFit program from)
  fits-called processes from p None values h = tt
  fits-called processes from p (Some gs) None h = tt
  fits-called processes from p (Some gs) (Some ts) h =
      if-map (NodesFit program from) (single (call p.number gs ts)) p.functionality
      (if-all (λ f. fits-single program from (call p.number gs ts) f
      (without-parts from (call p.number gs ts) refl (h.formal, h.variables, h.body, h.defined) (λ q. q))) p.functionality)

  fits-call : (processes : ℕ → Functionality) (from : ℕ) (s : Site) (name : Token) (ts : List Token) (es : List Expr) (o : Option Heading) →
      IfSome o (HeadingAgrees program processes) → (x : Option Read) (rs : List Refusal) → IsCallRead s name ts es o x rs →
      IfSome x (NodesFit program from)
  fits-call processes from s name ts es o agree x rs unknown = tt
  fits-call processes from s name ts es o agree x rs (miscounted p other) = tt
  fits-call processes from s name ts es o agree x rs (counted p values refusals counts d) =
      fits-called processes from p (gate_numbers s ts) values agree

module _ (program : Program) (processes : ℕ → Functionality) where
  mutual
    pub nodes-fit : {s : Site} {from : ℕ} {b : Construct} {found : Option Read} {rs : List Refusal} → IsRead s from b found rs →
        Each (HeadingAgrees program processes) s.processes → IfSome found (NodesFit program from)
    nodes-fit {from = from} stopped h = fits-single program from stop noexit (without-parts program from stop refl tt (λ p. p))
    nodes-fit {from = from} (exited values found rs d) h =
        if-map (NodesFit program from) ended found
        (if-all (λ vs. fits-single program from (exit (map (λ v. v.0) vs)) (exits (map (λ v. v.1) vs))
        (without-parts program from (exit (map (λ v. v.0) vs)) refl tt (λ p. p))) found)
    nodes-fit {from = from} (acted_inside b x rs d) h =
        fits-if-around program from inner x (λ _. refl) (λ _. tt) (λ _ p. p) (nodes-fit d h)
    nodes-fit {s} {from} (acted gate offers predicate b fields guard x ro rp rb o p d) h =
        fits-acting program from (gate_number s gate) fields guard x (nodes-fit d h)
    nodes-fit {from = from} (chosen_either place a b x y ra rb d e) h =
        fits-joined program from either choice x y (λ _ _. refl) (λ _ _. tt) (λ _ _ p. p) (nodes-fit d h) (nodes-fit e h)
    nodes-fit {from = from} (asked p b found x rp rb q d) h =
        fits-under program from guarded found x (λ _ _. refl) (λ _ _. tt) (λ _ _ p. p) (nodes-fit d h)
    nodes-fit {from = from} (bound_to_values bindings b found x rv rb v d) h =
        fits-under program from bound found x (λ _ _. refl) (λ _ _. tt) (λ _ _ p. p) (nodes-fit d h)
    nodes-fit {s} {from} (chosen_values ds b x rb d) h = fits-chosen program from (declared_variables s ds) x (nodes-fit d h)
    nodes-fit (chosen_gates cs b x rs d) h = choices-fit d h
    nodes-fit {s} {from} (composed_with place operator a b x y ra rb d e) h =
        fits-composed program from (synchronised s operator) x y (nodes-fit d h) (nodes-fit e h)
    nodes-fit {s} {from} (hidden gates b x rb d) h =
        fits-if-around program from (hide (range_with_len (next_gate s) (length gates))) x (λ _. refl) (λ _. tt) (λ _ p. p) (nodes-fit d h)
    nodes-fit {s} {from} (enabled_by place a ds b x y ra rb d e) h =
        fits-enabled program from (declared_variables s ds) x y (nodes-fit d h) (nodes-fit e h)
    nodes-fit {from = from} (disabled_by place a b x y ra rb d e) h =
        fits-joined program from either disable x y (λ _ _. refl) (λ _ _. tt) (λ _ _ p. p) (nodes-fit d h) (nodes-fit e h)
    nodes-fit {s} {from} (called_with name gates es x rs d) h =
        fits-call program processes from s name gates es (process_named s name)
        (each-found (HeadingAgrees program processes) (λ p. is_same_name p.name name.text) s.processes h) x rs d
    nodes-fit {s} {from} (copied_at gate among operator b x rb d) h =
        fits-copied program from (next_gate s) (synchronised s operator) (gate_numbers s among) x (nodes-fit d h)

    choices-fit : {s : Site} {from : ℕ} {cs : List GateChoice} {b : Construct} {found : Option Read} {rs : List Refusal} →
        AreGatesChosen s from cs b found rs → Each (HeadingAgrees program processes) s.processes → IfSome found (NodesFit program from)
    choices-fit (none_left b x rs d) h = nodes-fit d h
    choices-fit {s} {from} (one_more c cs b x rs d) h =
        fits-under program from (gate_choice (next_gate s)) (gate_numbers s c.gates.gates.items) x (λ _ _. refl) (λ _ _. tt) (λ _ _ p. p)
        (choices-fit d h)
