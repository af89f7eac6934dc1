-- Which gates and values a behaviour has doesn't matter for predicates.
use Rattle.std.proofs.Common.{ℕ, ◌≡◌, ◌||◌, map, ◌∙◌, List, [], ◌∷◌, refl, sym, ap, subst, Bool, false, Some, None}
use Rattle.spec_core.specs.Terms.{TermTree}
use Rattle.spec_core.specs.Functionality.{bound_variables}
use Rattle.spec_core.specs.Code.{Program, Relabelling}
use Rattle.rule_model.specs.Actions.{after, renamed}
use Rattle.rule_model.specs.Behaviours.{Behaviour, stop, action, choice, guarded, bound, value_choice, gate_choice, parallel, hide, enable}
use Rattle.rule_model.specs.Behaviours.{disable, call, relabel}
use Rattle.rule_model.specs.Substitution.{Assignment, put, without, tidied}
use Rattle.rule_origins.specs.Parts.{behaviour_at}
use Rattle.rule_origins.specs.Values.{assignment}
use Rattle.symbolic_plans.specs.declared.scheme.Row.{Row}
use Rattle.symbolic_plans.specs.declared.scheme.Row.TheVariants.{Chl, Chr, Val, Gate, Guard, Let, Parl, Parr, Pass, Enstep, Disstep}
use Rattle.symbolic_plans.specs.declared.scheme.Row.TheVariants.{Disend, Distake, Call, Rel}
use Rattle.symbolic_plans.specs.Plans.{Plan, prefix, internal, termination, below, hidden, handed_on, together}
use Rattle.node_trees.specs.Origins.{Source, scoped, relabelled_by, meaning}
use Rattle.node_trees.specs.declared.branch.Branch.{Branch}
use Rattle.node_trees.specs.declared.branch.Branch.TheVariants.{Ended}
use Rattle.node_trees.specs.Shapes.{shape_of, stands_for}
use Rattle.candidate_count.specs.Places.{renamed_by, renamed_once}
use Rattle.candidate_count.specs.Predicates.{acts_by_predicate, part_under, in_part, in_sides, has_predicate}

acts_put : (s : Assignment) (b : Behaviour) → acts_by_predicate (put s b) ≡ acts_by_predicate b
acts_put s (action g fields None rest) = refl
acts_put s (action g fields (Some p) rest) = refl
acts_put s b = refl

module _ (program : Program) where
  -- the part with terms put in is the part of the behaviour with terms put in
  part_put : (f : Behaviour → Bool) → ((s : Assignment) (c : Behaviour) → f (put s c) ≡ f c) →
      (row : Row) (s : Assignment) (b : Behaviour) →
      in_part (part_under program row (put s b)) f ≡ in_part (part_under program row b) f
  part_put f h Chl s (choice left right) = h s left
  part_put f h Chr s (choice left right) = h s right
  part_put f h (Val slot) s (value_choice x body) = h (without (x ∷ []) s) body
  part_put f h (Gate place) s (gate_choice g gates body) = h s (relabel [] body)
  part_put f h Guard s (guarded p body) = h s body
  part_put f h Let s (bound bindings body) = h (without (bound_variables bindings) s) body
  part_put f h Parl s (parallel gates left right) = h s left
  part_put f h Parr s (parallel gates left right) = h s right
  part_put f h Pass s (hide gates body) = h s body
  part_put f h Enstep s (enable left xs right) = h s left
  part_put f h Disstep s (disable left right) = h s left
  part_put f h Disend s (disable left right) = h s left
  part_put f h Distake s (disable left right) = h s right
  part_put f h Call s (call p gates terms) = refl
  part_put f h Rel s (relabel pairs body) = h s body
  part_put f h row s b = refl

  sides_put : (f g : Behaviour → Bool) → ((s : Assignment) (c : Behaviour) → f (put s c) ≡ f c) →
      ((s : Assignment) (c : Behaviour) → g (put s c) ≡ g c) → (s : Assignment) (b : Behaviour) →
      in_sides (put s b) f g ≡ in_sides b f g
  sides_put f g h k s (parallel gates left right) = ap (λ z. z || g (put s right)) (h s left) ∙ ap (λ z. f left || z) (k s right)
  sides_put f g h k s b = refl

  pub has_put : (p : Plan) (s : Assignment) (b : Behaviour) → has_predicate program p (put s b) ≡ has_predicate program p b
  has_put (prefix takes) s b = acts_put s b
  has_put internal s b = refl
  has_put (termination takes) s b = refl
  has_put (below row p) s b = part_put (has_predicate program p) (has_put p) row s b
  has_put (hidden fields p) s b = part_put (has_predicate program p) (has_put p) Pass s b
  has_put (handed_on fields p) s b = part_put (has_predicate program p) (has_put p) Enstep s b
  has_put (together p q) s b = sides_put (has_predicate program p) (has_predicate program q) (has_put p) (has_put q) s b

  -- the gates of a relabelling, and of a call, and its terms
  relabel_alike : (p : Plan) (pairs : List Relabelling) (b : Behaviour) →
      has_predicate program p (relabel pairs b) ≡ has_predicate program p (relabel [] b)
  relabel_alike (below Rel p) pairs b = refl
  relabel_alike p pairs b = refl

  call_alike : (p : Plan) (q : ℕ) (gates : List ℕ) (terms : List TermTree) →
      has_predicate program p (call q gates terms) ≡ has_predicate program p (call q [] [])
  call_alike (below Call p) q gates terms = refl
  call_alike p q gates terms = refl

  tidied_alike : (p : Plan) (b : Behaviour) (pairs : List Relabelling) →
      has_predicate program p (tidied pairs b) ≡ has_predicate program p (renamed_once b)
  tidied_alike p (relabel before b) pairs = tidied_alike p b (after pairs before)
  tidied_alike p (call q gates terms) pairs = call_alike p q (map (renamed pairs) gates) terms
  tidied_alike p b pairs = relabel_alike p pairs b

  renamed_put : (p : Plan) (s : Assignment) (b : Behaviour) →
      has_predicate program p (renamed_once (put s b)) ≡ has_predicate program p (renamed_once b)
  renamed_put p s (relabel pairs b) = renamed_put p s b
  renamed_put p s (call q gates terms) = refl
  renamed_put p s b = has_put p s (relabel [] b)

  -- along each plan the code under an origin's relabelling has a predicate where the origin has one
  pub origin_alike : (p : Plan) (o : Source) (b : Behaviour) → b ≡ renamed_by o.relabelling (behaviour_at program o.node) →
      has_predicate program p b ≡ has_predicate program p (meaning program o)
  origin_alike p o b e = ap (has_predicate program p) e ∙ sym (by_pairs o.relabelling)
    where
      by_pairs : (pairs : List Relabelling) →
          has_predicate program p (relabelled_by pairs (scoped program o.node o.values)) ≡
          has_predicate program p (renamed_by pairs (behaviour_at program o.node))
      by_pairs [] = has_put p (assignment program.theory o.values) (behaviour_at program o.node)
      by_pairs (m ∷ pairs) =
          tidied_alike p (scoped program o.node o.values) (m ∷ pairs)
          ∙ renamed_put p (assignment program.theory o.values) (behaviour_at program o.node)

  -- `stop` has none
  stop_under : (row : Row) (f : Behaviour → Bool) → false ≡ in_part (part_under program row stop) f
  stop_under Chl f = refl
  stop_under row f = refl

  stop_has_none : (p : Plan) → false ≡ has_predicate program p stop
  stop_has_none (below row p) = stop_under row (has_predicate program p)
  stop_has_none p = refl

  pub ended_has_none : (p : Plan) (t : Branch) → t ≡ Ended → false ≡ has_predicate program p (stands_for program (shape_of t))
  ended_has_none p t e = subst (λ z. false ≡ has_predicate program p (stands_for program (shape_of z))) (sym e) (stop_has_none p)
