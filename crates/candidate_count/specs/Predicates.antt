-- Whether a participant of a plan's trees has a selection predicate. (This profile.)
use Rattle.std.specs.Prelude.{◌||◌, [], Bool, false, Option, Some, None, is_some}
use Rattle.std.specs.List.{slice_get}
use Rattle.spec_core.specs.Code as code
use Rattle.spec_core.specs.Code.{Program, Node}
use Rattle.rule_model.specs.Behaviours.{Behaviour, action, choice, guarded, bound, value_choice, gate_choice, parallel, hide, enable}
use Rattle.rule_model.specs.Behaviours.{disable, call, relabel}
use Rattle.rule_origins.specs.Parts.{behaviour_at}
use Rattle.symbolic_plans.specs.declared.scheme.Row.{Row}
use Rattle.symbolic_plans.specs.declared.scheme.Row.TheVariants.{Chl, Chr, Val, Gate, Guard, Let, Parl, Parr, Pass, Enstep, Disstep}
use Rattle.symbolic_plans.specs.declared.scheme.Row.TheVariants.{Disend, Distake, Call, Rel}
use Rattle.symbolic_plans.specs.Plans.{Plan, prefix, internal, termination, below, hidden, handed_on, together}

-- an action prefix with a selection predicate
abbrev pub acts_by_predicate : Behaviour → Bool
acts_by_predicate (action g fields predicate rest) = is_some predicate
acts_by_predicate b = false

-- The body of a process, relabelled. Where gates are relabelled, which ones they are doesn't matter here, so there are no pairs.
abbrev pub body_in : Program → Option Node → Option Behaviour
body_in program (Some (code.process formal xs body)) = Some (relabel [] (behaviour_at program body))
body_in program n = None

-- The part of a behaviour that a rule is over, if the rule is about the behaviour's construct. What values there are for its variables
-- doesn't matter here.
abbrev pub part_under : Program → Row → Behaviour → Option Behaviour
part_under program Chl (choice left right) = Some left
part_under program Chr (choice left right) = Some right
part_under program (Val slot) (value_choice x body) = Some body
part_under program (Gate place) (gate_choice g gates body) = Some (relabel [] body)
part_under program Guard (guarded p body) = Some body
part_under program Let (bound bindings body) = Some body
part_under program Parl (parallel gates left right) = Some left
part_under program Parr (parallel gates left right) = Some right
part_under program Pass (hide gates body) = Some body
part_under program Enstep (enable left xs right) = Some left
part_under program Disstep (disable left right) = Some left
part_under program Disend (disable left right) = Some left
part_under program Distake (disable left right) = Some right
part_under program Call (call p gates terms) = body_in program (slice_get program.code p)
part_under program Rel (relabel pairs body) = Some body
part_under program row b = None

-- the test of the part, if there is one
abbrev pub in_part : Option Behaviour → (Behaviour → Bool) → Bool
in_part None test = false
in_part (Some b) test = test b

-- one of the tests of the sides of a parallel composition
abbrev pub in_sides : Behaviour → (Behaviour → Bool) → (Behaviour → Bool) → Bool
in_sides (parallel gates left right) first second = first left || second right
in_sides b first second = false

-- Along the plan, an action prefix of the behaviour has a selection predicate: one of its participants. What acts at a hidden gate is the
-- body of the hiding, as what passes it, and what hands on values is the left side of the enabling, as what goes on.
abbrev pub has_predicate : Program → Plan → Behaviour → Bool
has_predicate program (prefix takes) b = acts_by_predicate b
has_predicate program internal b = false
has_predicate program (termination takes) b = false
has_predicate program (below row p) b = in_part (part_under program row b) (has_predicate program p)
has_predicate program (hidden fields p) b = in_part (part_under program Pass b) (has_predicate program p)
has_predicate program (handed_on fields p) b = in_part (part_under program Enstep b) (has_predicate program p)
has_predicate program (together p q) b = in_sides b (has_predicate program p) (has_predicate program q)
