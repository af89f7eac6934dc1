-- What the rules still need of a tree of nodes, and what they decide of it. (This profile.)
use Rattle.std.specs.Prelude.{ℕ, ◌≡◌, List, [], ◌∷◌, Option, None, true}
use Rattle.spec_core.specs.Lists.{IsOneOf}
use Rattle.spec_core.specs.Theories.{Theory}
use Rattle.rule_model.specs.Derivations.{Derivation}
use Rattle.rule_model.specs.States.{PendingOffer}
use Rattle.symbolic_rules.specs.Windows.{Windows}
use Rattle.decision_trees.specs.Gaps.{element, gap}
use Rattle.decision_trees.specs.Rules.{Query, meeting, any, unseen, beyond, any_beyond, beyond_or_unseen, Waiting, Next}
use Rattle.decision_order.specs.Rules.{next_decided}
use Rattle.decision_order.specs.Needed.{next_needed}
use Rattle.node_trees.specs.Shapes.{Held, Shape, IsNodeOf}
use Rattle.candidate_laws.specs.Asked.{TreeQuery}
use Rattle.candidate_verdicts.specs.Known.{NodePart, Pieces, missing_parts}
use Rattle.candidates.specs.Listed.{first_tree, all_trees, asked_for_first, asked_for_all, is_known_to_hold, known_trees}
use Rattle.candidates.specs.Jobs.{NodeJob, to_expand, to_judge, all_jobs}

module _ (theory : Theory) (w : Windows) (t : Shape) (pieces : Pieces) (state : Waiting PendingOffer) where
  -- the jobs at nodes that searches by the rules still ask
  abbrev pub jobs_needed : List NodeJob
  jobs_needed =
      next_needed (λ q. all_jobs pieces t (asked_for_first theory w pieces t q))
      (λ q. all_jobs pieces t (asked_for_all theory w pieces t q)) (is_known_to_hold theory w pieces t) state

  -- the entry that the rules decide, if they do
  abbrev pub entry_decided : Option (Next PendingOffer Derivation)
  entry_decided = next_decided (first_tree theory w pieces t) (all_trees theory w pieces t) state

-- the generation of the node of a job
abbrev pub generation_of : NodeJob → ℕ
generation_of (to_expand g) = g
generation_of (to_judge p) = p.generation

-- a node of this generation waits: it isn't expanded
pub record Waits (t : Shape) (g : ℕ) : Type 0 where
  pub node : Held
  pub is : IsNodeOf t g node
  pub waits : node.work ≡ None

-- the job isn't done: the node waits, or nothing is known of the part of a tree of rules
abbrev pub IsUndone : Pieces → Shape → NodeJob → Type 0
IsUndone pieces t (to_expand g) = Waits t g
IsUndone pieces t (to_judge p) = pieces p.generation p.rules ≡ None

-- The rules may come to this query where these offers wait: an offer that is to be met is one of them, and one that is answered beyond since
-- it only asks is the first of these. They come to what is unseen only where no offer only asks, and each open client waits.
abbrev pub IsOfRules : {P : Type 0} → Waiting P → Query P → Type 0
IsOfRules state (meeting p) = IsOneOf p state.pending
IsOfRules state any = Unit {0}
IsOfRules state unseen = (state.asks ≡ []) × (state.all_wait ≡ true)
IsOfRules {P = P} state (beyond p) = (others : List P) × (state.asks ≡ p ∷ others)
IsOfRules state any_beyond = Unit {0}
IsOfRules state (beyond_or_unseen p) = IsOneOf p state.by_client × (state.asks ≡ []) × (state.all_wait ≡ true)

-- The node is a gap among the trees for which a query of the rules may ask: what the query asks for can come from it.
pub record IsGapOfQuery (theory : Theory) (w : Windows) (t : Shape) (state : Waiting PendingOffer) (g : ℕ) : Type 0 where
  pub query : TreeQuery
  pub of_rules : IsOfRules state query
  pub listed : IsOneOf (gap g) (known_trees theory w t query)

-- the part is one that is missing of a tree of rules, for which a query of the rules may ask
pub record IsPartOfTree (theory : Theory) (w : Windows) (t : Shape) (pieces : Pieces) (state : Waiting PendingOffer) (part : NodePart) :
    Type 0 where
  pub query : TreeQuery
  pub of_rules : IsOfRules state query
  pub tree : Derivation
  pub listed : IsOneOf (element tree) (known_trees theory w t query)
  pub missing : IsOneOf part (missing_parts pieces t tree)
