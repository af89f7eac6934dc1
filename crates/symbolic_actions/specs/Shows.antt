-- What behaviours show by trees of rules, and what rules make of what the parts show. (This profile.)
use Rattle.std.specs.Prelude.{ℕ, ◌≡◌, ◌&&◌, not, List, [], Option, Some, None, Bool, if◌then◌else◌, option_map}
use Rattle.spec_core.specs.Theories.{Theory}
use Rattle.spec_core.specs.Code.{Program, Variable, Relabelling, Synchronised}
use Rattle.rule_model.specs.Actions.{Kind, inside}
use Rattle.rule_model.specs.Behaviours.{Behaviour, choice, parallel, hide, enable, disable, relabel}
use Rattle.rule_model.specs.Derivations.{Derivation, chl, chr, parl, parr, hiding, pass, enstep, enend, disstep, disend, distake, rel}
use Rattle.symbolic_rules.specs.Windows.{Windows}
use Rattle.symbolic_rules.specs.MarkedTerms.{MarkedAssignment, unmarked}
use Rattle.symbolic_rules.specs.MarkedFields.{MarkedField}
use Rattle.symbolic_rules.specs.MayDerive.{renamed_kind, MayDeriveWith}
use Rattle.symbolic_composites.specs.Kinds.{is_alone, is_joint, is_hidden, is_end, same_kind}
use Rattle.symbolic_actions.specs.Deciding.{all_agreed, have_sorts, all_within}

-- the kind of an action, and its fields
pub record Show : Type 0 where
  pub kind : Kind
  pub fields : List MarkedField

module _ (program : Program) (w : Windows) where
  -- By the tree d the behaviour b, with m x, a term or a mark, in the place of each free variable x, may do an action of this kind with
  -- these fields; or, where there is none, it may do nothing.
  abbrev pub ShowsWith : MarkedAssignment → Behaviour → Derivation → Option Show → Type 0
  ShowsWith m b d None = (k : Kind) (fs : List MarkedField) → MayDeriveWith program w m b d k fs → ⊥
  ShowsWith m b d (Some s) = MayDeriveWith program w m b d s.kind s.fields

  -- the same of a closed behaviour
  abbrev pub Shows : Behaviour → Derivation → Option Show → Type 0
  Shows b d o = ShowsWith unmarked b d o

-- a rule over one part of an operator, with what the operator itself has that the rule asks
pub data PartRule : Type 0 where
  of_left : PartRule
  of_right : PartRule
  left_alone : Synchronised → PartRule
  right_alone : Synchronised → PartRule
  hidden_in : List ℕ → PartRule
  seen_in : List ℕ → PartRule
  before_end : PartRule
  handed_to : List Variable → PartRule
  undisabled : PartRule
  ended : PartRule
  disabling : PartRule
  renamed_by : List Relabelling → PartRule

-- the tree of the whole, by the rule, from the tree of the part
abbrev pub tree_over : PartRule → Derivation → Derivation
tree_over of_left d = chl d
tree_over of_right d = chr d
tree_over (left_alone gates) d = parl d
tree_over (right_alone gates) d = parr d
tree_over (hidden_in gates) d = hiding d
tree_over (seen_in gates) d = pass d
tree_over before_end d = enstep d
tree_over (handed_to xs) d = enend d
tree_over undisabled d = disstep d
tree_over ended d = disend d
tree_over disabling d = distake d
tree_over (renamed_by pairs) d = rel d

-- the behaviour b is an operator of the rule, with what the rule has, over the part c
abbrev pub IsOver : PartRule → Behaviour → Behaviour → Type 0
IsOver of_left b c = (right : Behaviour) × (b ≡ choice c right)
IsOver of_right b c = (left : Behaviour) × (b ≡ choice left c)
IsOver (left_alone gates) b c = (right : Behaviour) × (b ≡ parallel gates c right)
IsOver (right_alone gates) b c = (left : Behaviour) × (b ≡ parallel gates left c)
IsOver (hidden_in gates) b c = b ≡ hide gates c
IsOver (seen_in gates) b c = b ≡ hide gates c
IsOver before_end b c = (xs : List Variable) × (right : Behaviour) × (b ≡ enable c xs right)
IsOver (handed_to xs) b c = (right : Behaviour) × (b ≡ enable c xs right)
IsOver undisabled b c = (right : Behaviour) × (b ≡ disable c right)
IsOver ended b c = (right : Behaviour) × (b ≡ disable c right)
IsOver disabling b c = (left : Behaviour) × (b ≡ disable left c)
IsOver (renamed_by pairs) b c = b ≡ relabel pairs c

-- what is shown, where the test is passed
abbrev pub show_where : Bool → Show → Option Show
show_where passed s = if passed then Some s else None

-- an internal action
abbrev pub internal_show : Show
internal_show = record { kind = inside; fields = [] }

module _ (theory : Theory) where
  -- What the whole shows, by the rule, where the part shows s; none where the rule doesn't let it pass. One side of a parallel composition
  -- does alone what isn't synchronised; what is hidden, and the termination that is handed on, turn internal, and what is only chosen lies
  -- in its window then; the left side of an enabling and of a disabling goes on with anything but the termination.
  abbrev pub over_part : Windows → PartRule → Show → Option Show
  over_part w of_left s = Some s
  over_part w of_right s = Some s
  over_part w (left_alone gates) s = show_where (is_alone gates s.kind) s
  over_part w (right_alone gates) s = show_where (is_alone gates s.kind) s
  over_part w (hidden_in gates) s = show_where (is_hidden gates s.kind && all_within theory w s.fields) internal_show
  over_part w (seen_in gates) s = show_where (not (is_hidden gates s.kind)) s
  over_part w before_end s = show_where (not (is_end s.kind)) s
  over_part w (handed_to xs) s =
      show_where (is_end s.kind && (have_sorts theory xs s.fields && all_within theory w s.fields)) internal_show
  over_part w undisabled s = show_where (not (is_end s.kind)) s
  over_part w ended s = show_where (is_end s.kind) s
  over_part w disabling s = Some s
  over_part w (renamed_by pairs) s = Some (record { kind = renamed_kind pairs s.kind; fields = s.fields })

  -- what a parallel composition shows where its sides, which show s and t, act together: one action, at a synchronised gate, or the
  -- termination, with fields that agree; none where they don't
  abbrev pub over_both : Synchronised → Show → Show → Option Show
  over_both gates s t =
      if same_kind s.kind t.kind && is_joint gates s.kind
      then option_map (λ fs. record { kind = s.kind; fields = fs }) (all_agreed theory s.fields t.fields)
      else None
