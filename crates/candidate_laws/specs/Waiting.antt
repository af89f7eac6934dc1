-- Composites and trees of a tree of nodes, of which those of each node are asked of its generation. (This profile.)
use Rattle.std.specs.Prelude.{ℕ, ◌≡◌, ◌==◌, ◌&&◌, ◌||◌, not, Bool, true, false, List, [], ◌∷◌, map, filter, flat_map, length}
use Rattle.std.specs.Str.{bytes_eq}
use Rattle.spec_core.specs.Theories.{Theory}
use Rattle.spec_core.specs.Code.{Program, Synchronised}
use Rattle.rule_model.specs.declared.offer.Field.{Field}
use Rattle.rule_model.specs.declared.offer.Field.TheVariants.{Give, Take}
use Rattle.rule_model.specs.declared.offer.Offer.{Offer}
use Rattle.rule_model.specs.declared.rules.Slot.{Slot}
use Rattle.rule_model.specs.declared.rules.Slot.TheVariants.{Of, Mark, Blank}
use Rattle.rule_model.specs.Actions.{Kind, inside, ends, at_gate}
use Rattle.rule_model.specs.Derivations.{Derivation, chl, chr, parl, parr, distake}
use Rattle.symbolic_rules.specs.Windows.{Windows, sort_of_value}
use Rattle.symbolic_rules.specs.MarkedTerms.{unmarked}
use Rattle.symbolic_rules.specs.Trees.{has_mark}
use Rattle.decision_trees.specs.Rules.{meeting, any, unseen, beyond, any_beyond, beyond_or_unseen, Next, takes, deadlocks, is_beyond, is_not_now}
use Rattle.decision_trees.specs.Rules.{goes_on, stalls, nothing}
use Rattle.decision_trees.specs.Lazy.{Lazy, nil, cons, waits, of_list, joined, each}
use Rattle.symbolic_composites.specs.Evaluations.{Evaluation}
use Rattle.symbolic_composites.specs.Kinds.{is_joint, same_kind}
use Rattle.symbolic_composites.specs.OpenFields.{OpenField, fixed, blank, all_choices, choices_at_once}
use Rattle.symbolic_composites.specs.Composites.{Composite, composites, under, relabelled, alone, joint, by_hiding, by_enabling, by_disabling}
use Rattle.symbolic_composites.specs.TreeLists.{offered}
use Rattle.node_trees.specs.Origins.{Source, meaning}
use Rattle.node_trees.specs.Shapes as nodes
use Rattle.node_trees.specs.Shapes.{Above, Held, Shape, leaf, ended, over, between, Unary, hidden, enabled, Binary, choosing, beside}
use Rattle.node_trees.specs.Shapes.{disabling, Stands}
use Rattle.candidate_laws.specs.Asked.{TreeQuery, offer_in}
use Rattle.candidate_laws.specs.Sought.{Sought, is_sought, seeks_some, sought_for, under_one, by_itself, with_another, as_another, sought_below}

-- a tree, and the query that asks for it
pub record Candidate : Type 0 where
  pub query : TreeQuery
  pub tree : Derivation

abbrev pub candidate : TreeQuery → Derivation → Candidate
candidate q d = record { query = q; tree = d }

-- an action of this kind meets no offer (`IsUnseenKind`)
abbrev pub is_unseen : Kind → Bool
is_unseen inside = true
is_unseen ends = true
is_unseen (at_gate g) = false

-- the value is one of these slots
abbrev pub is_slot : List ℕ → List Slot → Bool
is_slot u [] = false
is_slot u (Of v ∷ slots) = bytes_eq v u || is_slot u slots
is_slot u (Mark ∷ slots) = is_slot u slots
is_slot u (Blank ∷ slots) = is_slot u slots

-- the entry with the trees of its candidates
abbrev pub with_trees : {P : Type 0} → Next P Candidate → Next P Derivation
with_trees (takes p a) = takes p a.tree
with_trees deadlocks = deadlocks
with_trees (is_beyond p a) = is_beyond p a.tree
with_trees (is_not_now p) = is_not_now p
with_trees (goes_on all) = goes_on (map (λ (a : Candidate). a.tree) all)
with_trees stalls = stalls
with_trees nothing = nothing

-- of composites those whose actions are sought
abbrev pub sought_of : Sought → List Composite → List Composite
sought_of v cs = filter (λ (c : Composite). is_sought v c.kind) cs

-- one composite in the place of each
abbrev pub each_as : (Composite → Composite) → Lazy Composite Composite → Lazy Composite Composite
each_as f l = each (λ c. cons (f c) nil) l

-- the kinds of the actions that a query may ask for
abbrev pub sought_by : TreeQuery → Sought
sought_by q = sought_for (λ p. p.offer.gate.0) q

-- what is asked for only where the test says so
abbrev pub where_asked : Bool → Lazy Composite Composite → Lazy Composite Composite
where_asked true l = l
where_asked false l = nil

module _ (theory : Theory) where
  -- a field that is filled with these slots may meet a field of an offer
  abbrev pub may_meet : OpenField → List Slot → Field → Bool
  may_meet (fixed m v) slots (Give u) = bytes_eq v u
  may_meet (fixed m v) slots (Take sort) = sort_of_value theory v == sort.0
  may_meet (blank m sort) slots (Give u) = m && sort_of_value theory u == sort || is_slot u slots
  may_meet (blank m sort) slots (Take other) = sort == other.0

  abbrev pub all_may_meet : List OpenField → List (List Slot) → List Field → Bool
  all_may_meet [] choices [] = true
  all_may_meet (c ∷ cs) (slots ∷ choices) (field ∷ fields) = may_meet c slots field && all_may_meet cs choices fields
  all_may_meet _ choices fields = false

  -- an action of the composite's kind may meet the offer, where its fields are filled with these slots
  abbrev pub may_take : Offer → Composite → List (List Slot) → Bool
  may_take offer c choices = same_kind c.kind (at_gate offer.gate.0) && all_may_meet c.fields choices offer.fields

module _ (theory : Theory) (w : Windows) where
  -- both sides together: the right side is asked only for what may be done together with an action of the left one, by its kind
  abbrev pub together : Synchronised → Lazy Composite Composite → (Kind → Lazy Composite Composite) → Lazy Composite Composite
  together gates l k =
      each (λ c. where_asked (is_joint gates c.kind) (each (λ d. of_list (joint theory gates c d)) (k c.kind))) l

  -- the composites of an operator, from those of its parts

  abbrev pub over_one : Unary → Lazy Composite Composite → Lazy Composite Composite
  over_one (hidden gates) l = each_as (by_hiding theory w gates) l
  over_one (nodes.relabelled pairs) l = each_as (relabelled pairs) l
  over_one (enabled xs right values) l = each_as (by_enabling theory w) l

  abbrev pub over_two : Binary → Sought → (Sought → Lazy Composite Composite) → (Sought → Lazy Composite Composite) →
      Lazy Composite Composite
  over_two choosing v l k = joined (each_as (under chl) (l v)) (each_as (under chr) (k v))
  over_two (beside gates) v l k =
      joined (each (λ c. of_list (alone gates parl c)) (l (sought_below (by_itself gates) v)))
      (joined (each (λ c. of_list (alone gates parr c)) (k (sought_below (by_itself gates) v)))
      (together gates (l (sought_below (with_another gates) v)) (λ j. k (sought_below (as_another j) v))))
  over_two disabling v l k = joined (each_as by_disabling (l v)) (each_as (under distake) (k v))

  -- The composites of a tree whose actions are sought, in the order of trees. Those of a node are asked of its generation, where some action
  -- is sought of it.
  abbrev pub waiting_composites : Shape → Sought → Lazy Composite Composite
  waiting_composites (leaf n) v = where_asked (seeks_some v) (waits n.generation (λ cs. of_list (sought_of v cs)))
  waiting_composites ended v = nil
  waiting_composites (over o x) v = over_one o (waiting_composites x (sought_below (under_one o) v))
  waiting_composites (between o x y) v = over_two o v (waiting_composites x) (waiting_composites y)

  -- A query may ask for this tree of a composite whose fields are filled with these slots, as far as the kind, the fields and the marks
  -- say. What the predicates say isn't looked at.
  abbrev pub may_be_asked : TreeQuery → Composite → List (List Slot) → Derivation → Bool
  may_be_asked (meeting p) c choices d = not (has_mark d) && may_take theory p.offer c choices
  may_be_asked any c choices d = not (has_mark d)
  may_be_asked unseen c choices d = not (has_mark d) && is_unseen c.kind
  may_be_asked (beyond p) c choices d = has_mark d && may_take theory p.offer c choices
  may_be_asked any_beyond c choices d = has_mark d
  may_be_asked (beyond_or_unseen p) c choices d = has_mark d && (may_take theory p.offer c choices || is_unseen c.kind)

  -- the trees of a composite that a query may ask for, each value that may be seen for its offer being chosen
  abbrev pub trees_asked : TreeQuery → Composite → List Derivation
  trees_asked q c =
      flat_map (λ choices. filter (may_be_asked q c choices) (c.trees choices))
      (choices_at_once c.fields (all_choices theory w (offered (offer_in q)) c.fields))

  -- the candidates for a query over a tree of nodes, in order; a node is asked only where what the query may ask for can come from it
  abbrev pub waiting_trees : Shape → TreeQuery → Lazy Composite Candidate
  waiting_trees t q = each (λ c. of_list (map (candidate q) (trees_asked q c))) (waiting_composites t (sought_by q))

module _ (program : Program) (e : Evaluation) (w : Windows) where
  -- the composites of what an origin stands for
  abbrev pub composites_of : Source → List Composite
  composites_of o = composites program.theory e w (length program.code) unmarked (meaning program o)

  -- what is answered for each node is what its origin has
  abbrev pub AreItemsOf : (ℕ → List Composite) → Shape → Type 0
  AreItemsOf items t = (up : List Above) (n : Held) → Stands t up n → items n.generation ≡ composites_of n.source
