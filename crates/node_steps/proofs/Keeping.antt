-- Parts of the code with the same values.
use Rattle.std.proofs.Common.{ℕ, suc, ◌≡◌, List, [], ◌∷◌, ◌++◌, refl, sym, ap, subst, ◌∙◌, Some}
use Rattle.std.specs.List.{slice_get}
use Rattle.spec_core.specs.Code as code
use Rattle.spec_core.specs.Code.{Program, Node, Variable}
use Rattle.rule_model.specs.declared.rules.Slot.{Slot}
use Rattle.rule_model.specs.declared.rules.Slot.TheVariants.{Of, Mark, Blank}
use Rattle.rule_model.specs.Behaviours.{Behaviour, choice, guarded, bound, value_choice, gate_choice, parallel, hide}
use Rattle.rule_model.specs.Behaviours.{enable, disable, call, relabel}
use Rattle.rule_model.specs.Substitution.{Assignment, with_term}
use Rattle.rule_origins.specs.Parts.{over_parts, behaviour_at}
use Rattle.rule_origins.specs.Values.{term_spelled, assignment}
use Rattle.symbolic_plans.specs.declared.scheme.Row.{Row}
use Rattle.symbolic_plans.specs.declared.scheme.Row.TheVariants.{Chl, Chr, Val, Gate, Guard, Let, Parl, Parr, Pass, Enstep, Disstep}
use Rattle.symbolic_plans.specs.declared.scheme.Row.TheVariants.{Disend, Distake, Call, Rel}
use Rattle.node_steps.specs.Parts.{own_or}
use Rattle.node_steps.specs.declared.turn.Entered.{Entered}
use Rattle.node_steps.specs.declared.turn.Frame.{Frame}
use Rattle.node_steps.specs.declared.turn.Frame.TheVariants.{Same}
use Rattle.node_steps.specs.declared.turn.Site.{Site}
use Rattle.node_steps.specs.declared.turn.Site.TheVariants.{At}
use Rattle.node_steps.specs.Frames.{surrounding_of, round_part, standing}
use Rattle.symbolic_reach.specs.Parts.{OnPart}
use Rattle.node_steps.specs.Turns.{Enters}
use Rattle.node_steps.proofs.Bindings.{one_more}

module _ (program : Program) where
  -- what holds of the part, where something else does
  pub on_part : (row : Row) (b : Behaviour) (s : Assignment) (P Q : Assignment → Behaviour → Type 0) →
      ((u : Assignment) (q : Behaviour) → P u q → Q u q) → OnPart program row s b P → OnPart program row s b Q
  on_part Chl (choice left right) s P Q f h = f s left h
  on_part Chr (choice left right) s P Q f h = f s right h
  on_part (Val (Of v)) (value_choice x body) s P Q f h = f _ body h
  on_part (Val (Of v)) _ s P Q f h = absurd h
  on_part (Val Mark) b s P Q f h = absurd h
  on_part (Val Blank) b s P Q f h = absurd h
  on_part (Gate j) (gate_choice g gates body) s P Q f h = (h.0, h.1, h.2, h.3, f s _ h.4)
  on_part Guard (guarded p body) s P Q f h = f s body h
  on_part Let (bound bindings body) s P Q f h = (h.0, h.1, f h.0 body h.2)
  on_part Parl (parallel gates left right) s P Q f h = f s left h
  on_part Parr (parallel gates left right) s P Q f h = f s right h
  on_part Pass (hide gates body) s P Q f h = f s body h
  on_part Enstep (enable left xs right) s P Q f h = f s left h
  on_part Disstep (disable left right) s P Q f h = f s left h
  on_part Disend (disable left right) s P Q f h = f s left h
  on_part Distake (disable left right) s P Q f h = f s right h
  on_part Call (call p actual terms) s P Q f h = (h.0, h.1, h.2, h.3, h.4, h.5, f h.3 _ h.6)
  on_part Rel (relabel pairs body) s P Q f h = f s body h
  on_part _ _ s P Q f h = absurd h

  -- a part of a behaviour, with these values
  pub part_with : (row : Row) (values more : List (ℕ × List ℕ)) (b : Behaviour) (x : Entered) (site : Site) (frame : Frame) →
      x.site ≡ site → own_or values x.values ≡ more → x.frame ≡ frame → surrounding_of program frame ≡ round_part row b →
      OnPart program row (assignment program.theory values) b (λ t c. (t ≡ assignment program.theory more) × (c ≡ standing program site)) →
      Enters program row values b x
  part_with row values more b x site frame at same is round part = record {
    round = ap (surrounding_of program) is ∙ round;
    part =
        on_part row b (assignment program.theory values) (λ t c. (t ≡ assignment program.theory more) × (c ≡ standing program site))
        (λ t c. (t ≡ assignment program.theory (own_or values x.values)) × (c ≡ standing program x.site))
        (λ u q h. (h.0 ∙ ap (assignment program.theory) (sym same), h.1 ∙ ap (standing program) (sym at))) part;
  }

  -- the same of what stands at a construct that is known
  pub node_with : (row : Row) (values more : List (ℕ × List ℕ)) (node other : Node) (x : Entered) (site : Site) (frame : Frame) →
      node ≡ other → x.site ≡ site → own_or values x.values ≡ more → x.frame ≡ frame →
      surrounding_of program frame ≡ round_part row (over_parts (behaviour_at program) (Some other)) →
      OnPart program row (assignment program.theory values) (over_parts (behaviour_at program) (Some other))
      (λ t c. (t ≡ assignment program.theory more) × (c ≡ standing program site)) →
      Enters program row values (over_parts (behaviour_at program) (Some node)) x
  node_with row values more node other x site frame is at same f round part =
      subst (λ (z : Node). Enters program row values (over_parts (behaviour_at program) (Some z)) x) (sym is)
      (part_with row values more (over_parts (behaviour_at program) (Some other)) x site frame at same f round part)

  -- the body of a choice of a value, with the value
  pub value_enters : (values : List (ℕ × List ℕ)) (slot : Slot) (v u : List ℕ) (x : Variable) (n : ℕ) (node : Node) (e : Entered) →
      slot ≡ Of v → u ≡ v → node ≡ code.value_choice x n → e.site ≡ At n → own_or values e.values ≡ values ++ (x.number, u) ∷ [] → e.frame ≡ Same →
      Enters program (Val slot) values (over_parts (behaviour_at program) (Some node)) e
  value_enters values slot v u x n node e chosen copied is at same frame =
      let s = assignment program.theory values in
      subst (λ (z : Slot). Enters program (Val z) values (over_parts (behaviour_at program) (Some node)) e) (sym chosen)
      (node_with (Val (Of v)) values (values ++ (x.number, u) ∷ []) node (code.value_choice x n) e (At n) Same is at same frame refl (
        ap (λ (w : List ℕ). with_term x (term_spelled program.theory x.number w) s) (sym copied)
            ∙ sym (one_more program.theory values x u),
        refl,
      ))

  -- the body of a choice of a gate, relabelled to the gate at a place
  pub gate_enters : (values : List (ℕ × List ℕ)) (place g to n i : ℕ) (gates : List ℕ) (node : Node) (e : Entered) (site : Site) →
      node ≡ code.gate_choice g gates n → place ≡ suc i → slice_get gates i ≡ Some to →
      standing program site ≡ relabel (record { from = g; to = to } ∷ []) (behaviour_at program n) → e.site ≡ site →
      own_or values e.values ≡ values → e.frame ≡ Same → Enters program (Gate place) values (over_parts (behaviour_at program) (Some node)) e
  gate_enters values place g to n i gates node e site is counted there stands at same frame =
      node_with (Gate place) values values node (code.gate_choice g gates n) e site Same is at same frame refl
      (i, to, counted, there, (refl, sym stands))
