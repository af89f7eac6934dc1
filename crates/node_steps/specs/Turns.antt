-- What is done by the trees of a plan, and what is left then.
use Rattle.std.specs.Prelude.{ℕ, ◌≡◌, List, ◌++◌, length, Option, Some, None}
use Rattle.spec_core.specs.Code.{Program, Node}
use Rattle.rule_model.specs.declared.action.Action.{Action}
use Rattle.rule_model.specs.declared.rules.Slot.{Slot}
use Rattle.rule_model.specs.Behaviours.{Behaviour}
use Rattle.rule_model.specs.Constructs.{OnHide, OnEnable}
use Rattle.rule_model.specs.Derivations.{Derivation, int}
use Rattle.rule_model.specs.Derives.{DerivesWith}
use Rattle.rule_model.specs.Substitution.{Assignment}
use Rattle.rule_origins.specs.Parts.{over_parts, behaviour_at}
use Rattle.rule_origins.specs.Values.{assignment}
use Rattle.symbolic_plans.specs.declared.scheme.Row.{Row}
use Rattle.symbolic_plans.specs.Plans.{Plan}
use Rattle.node_trees.specs.Rests.{slots_of, does_of, done_in, remainder_of, left_in}
use Rattle.node_steps.specs.declared.turn.Turn.{Turn}
use Rattle.node_steps.specs.declared.turn.Entered.{Entered}
use Rattle.node_steps.specs.Blanks.{IsTreeOf, IsClosed}
use Rattle.symbolic_reach.specs.Parts.{OnPart}
use Rattle.node_steps.specs.Parts.{own_or}
use Rattle.node_steps.specs.Frames.{Surrounding, surrounding_of, round_part, Makes, standing, turning_inside, handing}

-- the action, and what is left, where these values are chosen
pub record Agrees (program : Program) (chosen : List Slot) (t : Turn) (a : Action) (c : Behaviour) : Type 0 where
  pub action : a ≡ done_in chosen (does_of t.action)
  pub rest : c ≡ left_in program chosen (remainder_of t.rest)

module _ (program : Program) where
  -- What the behaviour does by a tree made of some slots is done and left so; the slots stand in the whole tree from this place on.
  pub record LeafTurns (from : ℕ) (s : Assignment) (b : Behaviour) (leaf : List Slot → Derivation) (t : Turn) : Type 0 where
    pub turns : (before after slots : List Slot) (a : Action) (c : Behaviour) → length before ≡ from →
        DerivesWith program s b (leaf slots) a c →
        Agrees program (before ++ (slots ++ after)) t a c

  -- it does nothing by such a tree
  pub record NoLeafTurn (s : Assignment) (b : Behaviour) (leaf : List Slot → Derivation) : Type 0 where
    pub none : (slots : List Slot) (a : Action) (c : Behaviour) → DerivesWith program s b (leaf slots) a c → ⊥

  abbrev pub LeafTurnsOr : ℕ → Assignment → Behaviour → (List Slot → Derivation) → Option Turn → Type 0
  LeafTurnsOr from s b leaf None = NoLeafTurn s b leaf
  LeafTurnsOr from s b leaf (Some t) = LeafTurns from s b leaf t

  -- the same of an internal action, which chooses nothing
  abbrev pub InnerTurnsOr : Assignment → Behaviour → Option Turn → Type 0
  InnerTurnsOr s b o = (from : ℕ) → LeafTurnsOr from s b (λ slots. int) o

  -- What the behaviour does by a tree of the plan is done and left so; its chosen values stand in the whole tree from this place on.
  pub record TurnsAt (from : ℕ) (s : Assignment) (b : Behaviour) (p : Plan) (t : Turn) : Type 0 where
    pub closed : IsClosed p
    pub turns : (before after : List Slot) (d : Derivation) (a : Action) (c : Behaviour) → length before ≡ from → IsTreeOf p d →
        DerivesWith program s b d a c →
        Agrees program (before ++ (slots_of d ++ after)) t a c

  -- it does nothing by such a tree
  pub record NoTurn (s : Assignment) (b : Behaviour) (p : Plan) : Type 0 where
    pub none : (d : Derivation) (a : Action) (c : Behaviour) → IsTreeOf p d → DerivesWith program s b d a c → ⊥

  abbrev pub TurnsOr : ℕ → Assignment → Behaviour → Plan → Option Turn → Type 0
  TurnsOr from s b p None = NoTurn s b p
  TurnsOr from s b p (Some t) = TurnsAt from s b p t

  -- the part that a rule is over, with what stands round it
  pub record Enters (row : Row) (values : List (ℕ × List ℕ)) (b : Behaviour) (x : Entered) : Type 0 where
    pub round : surrounding_of program x.frame ≡ round_part row b
    pub part : OnPart program row (assignment program.theory values) b
        (λ t c. (t ≡ assignment program.theory (own_or values x.values)) × (c ≡ standing program x.site))

  -- there is no such part
  pub record NoPart (row : Row) (values : List (ℕ × List ℕ)) (b : Behaviour) : Type 0 where
    pub none : OnPart program row (assignment program.theory values) b (λ t c. Unit {0}) → ⊥

  abbrev pub EntersOr : Row → List (ℕ × List ℕ) → Behaviour → Option Entered → Type 0
  EntersOr row values b None = NoPart row values b
  EntersOr row values b (Some x) = Enters row values b x

  -- the same of what stands at a construct of the code
  abbrev pub EntersNode : Row → List (ℕ × List ℕ) → Node → Option Entered → Type 0
  EntersNode row values node o = EntersOr row values (over_parts (behaviour_at program) (Some node)) o

  -- the same of the body of a hiding that acts at a hidden gate
  abbrev pub EntersHidden : List (ℕ × List ℕ) → Behaviour → Option Entered → Type 0
  EntersHidden values b None = OnHide b (λ gates body. Unit {0}) → ⊥
  EntersHidden values b (Some x) =
      OnHide b (λ gates body.
      (surrounding_of program x.frame ≡ turning_inside gates) ×
      (assignment program.theory values ≡ assignment program.theory (own_or values x.values)) × (body ≡ standing program x.site))

  -- the same of the left side of an enabling that terminates
  abbrev pub EntersEnding : List (ℕ × List ℕ) → Behaviour → Option Entered → Type 0
  EntersEnding values b None = OnEnable b (λ left xs right. Unit {0}) → ⊥
  EntersEnding values b (Some x) =
      OnEnable b (λ left xs right.
      (surrounding_of program x.frame ≡ handing xs right) ×
      (assignment program.theory values ≡ assignment program.theory (own_or values x.values)) × (left ≡ standing program x.site))

  -- what is done and left of the part becomes what is done and left of the whole
  pub record Leaves (values : List (ℕ × List ℕ)) (frame : Surrounding) (t u : Turn) : Type 0 where
    pub leaves : (chosen : List Slot) (e a : Action) (f c : Behaviour) → Agrees program chosen t e f →
        Makes program (assignment program.theory values) frame e f a c →
        Agrees program chosen u a c

  -- nothing is made of what is done and left of the part
  pub record NeverLeaves (values : List (ℕ × List ℕ)) (frame : Surrounding) (t : Turn) : Type 0 where
    pub none : (chosen : List Slot) (e a : Action) (f c : Behaviour) → Agrees program chosen t e f →
        Makes program (assignment program.theory values) frame e f a c →
        ⊥

  abbrev pub LeavesOr : List (ℕ × List ℕ) → Surrounding → Turn → Option Turn → Type 0
  LeavesOr values frame t None = NeverLeaves values frame t
  LeavesOr values frame t (Some u) = Leaves values frame t u

  -- What is done and left of the whole, where the part was entered, and its trees are those of a plan. The part's chosen values stand in
  -- the whole tree from this place on.
  pub record Within (from : ℕ) (values : List (ℕ × List ℕ)) (x : Entered) (p : Plan) (t : Turn) : Type 0 where
    pub closed : IsClosed p
    pub within : (before after : List Slot) (d : Derivation) (e a : Action) (f c : Behaviour) → length before ≡ from → IsTreeOf p d →
        DerivesWith program (assignment program.theory (own_or values x.values)) (standing program x.site) d e f →
        Makes program (assignment program.theory values) (surrounding_of program x.frame) e f a c →
        Agrees program (before ++ (slots_of d ++ after)) t a c

  -- no tree of the plan makes anything of the whole
  pub record NoneWithin (values : List (ℕ × List ℕ)) (x : Entered) (p : Plan) : Type 0 where
    pub none : (d : Derivation) (e a : Action) (f c : Behaviour) → IsTreeOf p d →
        DerivesWith program (assignment program.theory (own_or values x.values)) (standing program x.site) d e f →
        Makes program (assignment program.theory values) (surrounding_of program x.frame) e f a c →
        ⊥

  abbrev pub WithinOr : ℕ → List (ℕ × List ℕ) → Option Entered → Plan → Option Turn → Type 0
  WithinOr from values None p None = Unit {0}
  WithinOr from values None p (Some t) = ⊥
  WithinOr from values (Some x) p None = NoneWithin values x p
  WithinOr from values (Some x) p (Some t) = Within from values x p t
