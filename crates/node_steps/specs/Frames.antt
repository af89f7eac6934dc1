-- What operators make of what their parts do.
use Rattle.std.specs.Prelude.{ℕ, ◌≡◌, List, map}
use Rattle.spec_core.specs.Code.{Program, Variable, Relabelling, Synchronised, variable_of, relabelling_of, synchronised_of}
use Rattle.spec_core.specs.Numbers.{gate_number}
use Rattle.spec_core.specs.Terms.{term_of}
use Rattle.rule_model.specs.declared.action.Action.{Action}
use Rattle.rule_model.specs.declared.action.Action.TheVariants.{Inner, Exit}
use Rattle.rule_model.specs.Actions.{renamed_action}
use Rattle.rule_model.specs.Behaviours.{Behaviour, parallel, hide, enable, disable, call, relabel}
use Rattle.rule_model.specs.Fields.{IsHandedOn}
use Rattle.rule_model.specs.Substitution.{Assignment, without, put, tidied}
use Rattle.rule_origins.specs.Parts.{behaviour_at}
use Rattle.symbolic_plans.specs.declared.scheme.Row.{Row}
use Rattle.symbolic_plans.specs.declared.scheme.Row.TheVariants.{Parl, Parr, Pass, Enstep, Disstep, Rel}
use Rattle.node_steps.specs.declared.turn.Frame.{Frame}
use Rattle.node_steps.specs.declared.turn.Frame.TheVariants.{Same, Renamed, Hidden, Inside, BesideRight, BesideLeft, Enabling, Handing, Disabling}
use Rattle.node_steps.specs.declared.turn.Site.{Site}
use Rattle.node_steps.specs.declared.turn.Site.TheVariants.{At, Renamed as RenamedAt, Called}

-- what stands round a part that acts
pub data Surrounding : Type 0 where
  unchanged : Surrounding
  renaming : List Relabelling → Surrounding
  hiding_more : List ℕ → Surrounding
  turning_inside : List ℕ → Surrounding
  before_right : Synchronised → Behaviour → Surrounding
  after_left : Synchronised → Behaviour → Surrounding
  still_enabling : List Variable → Behaviour → Surrounding
  handing : List Variable → Behaviour → Surrounding
  still_disabled : Behaviour → Surrounding

abbrev pub surrounding_of : Program → Frame → Surrounding
surrounding_of program Same = unchanged
surrounding_of program (Renamed pairs) = renaming (map relabelling_of pairs.items)
surrounding_of program (Hidden gates) = hiding_more (map gate_number gates.items)
surrounding_of program (Inside gates) = turning_inside (map gate_number gates.items)
surrounding_of program (BesideRight gates right) = before_right (synchronised_of gates) (behaviour_at program right)
surrounding_of program (BesideLeft gates left) = after_left (synchronised_of gates) (behaviour_at program left)
surrounding_of program (Enabling vars right) = still_enabling (map variable_of vars.items) (behaviour_at program right)
surrounding_of program (Handing vars right) = handing (map variable_of vars.items) (behaviour_at program right)
surrounding_of program (Disabling right) = still_disabled (behaviour_at program right)

-- what stands round the part that a rule is over
abbrev pub round_part : Row → Behaviour → Surrounding
round_part Parl (parallel gates left right) = before_right gates right
round_part Parr (parallel gates left right) = after_left gates left
round_part Pass (hide gates body) = hiding_more gates
round_part Enstep (enable left xs right) = still_enabling xs right
round_part Disstep (disable left right) = still_disabled right
round_part Rel (relabel pairs body) = renaming pairs
round_part _ b = unchanged

-- the part does e and becomes f, and the whole does a and becomes c; the other parts have the terms s for their variables
abbrev pub Makes : Program → Assignment → Surrounding → Action → Behaviour → Action → Behaviour → Type 0
Makes program s unchanged e f a c = (a ≡ e) × (c ≡ f)
Makes program s (renaming pairs) e f a c = (a ≡ renamed_action pairs e) × (c ≡ tidied pairs f)
Makes program s (hiding_more gates) e f a c = (a ≡ e) × (c ≡ hide gates f)
Makes program s (turning_inside gates) e f a c = (a ≡ Inner) × (c ≡ hide gates f)
Makes program s (before_right gates right) e f a c = (a ≡ e) × (c ≡ parallel gates f (put s right))
Makes program s (after_left gates left) e f a c = (a ≡ e) × (c ≡ parallel gates (put s left) f)
Makes program s (still_enabling xs right) e f a c = (a ≡ e) × (c ≡ enable f xs (put (without xs s) right))
Makes program s (handing xs right) e f a c =
    (values : List (List ℕ)) × (t : Assignment) × (e ≡ Exit values) × (a ≡ Inner) × IsHandedOn program.theory s xs values t ×
    (c ≡ put t right)
Makes program s (still_disabled right) e f a c = (a ≡ e) × (c ≡ disable f (put s right))

-- the behaviour at a number of the code, or this relabelled, or a call
abbrev pub standing : Program → Site → Behaviour
standing program (At n) = behaviour_at program n
standing program (RenamedAt pairs n) = relabel (map relabelling_of pairs.items) (behaviour_at program n)
standing program (Called p gates terms) = call p (map gate_number gates.items) (map term_of terms.items)
