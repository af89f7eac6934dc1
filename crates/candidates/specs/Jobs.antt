-- What is to be done at nodes, so that searches are decided. (This profile.)
use Rattle.std.specs.Prelude.{ℕ, ◌==◌, ◌&&◌, ◌||◌, not, nat_lt, List, [], ◌∷◌, ◌++◌, length, map, flat_map, Bool, false, if◌then◌else◌}
use Rattle.decision_trees.specs.Decisions.{Question, expand, judge}
use Rattle.rule_model.specs.Derivations.{Derivation}
use Rattle.candidate_laws.specs.Waiting.{Candidate}
use Rattle.node_trees.specs.declared.origin.Gen.{Gen}
use Rattle.node_trees.specs.Shapes.{Shape}
use Rattle.candidate_verdicts.specs.Known.{Pieces, NodePart, missing_parts}
use Rattle.candidate_verdicts.specs.Same.{same_rules}

-- a node is to be expanded; or a part of a tree of rules is to be judged at its node
pub data NodeJob : Type 0 where
  to_expand : ℕ → NodeJob
  to_judge : NodePart → NodeJob

module _ (pieces : Pieces) (t : Shape) where
  -- what a question asks of nodes: a tree of rules, each of its parts of which it isn't known what is shown by it
  abbrev pub jobs_of : Question Derivation → List NodeJob
  jobs_of (expand g) = to_expand g ∷ []
  jobs_of (judge d) = map to_judge (missing_parts pieces t d)

  abbrev pub all_jobs : List (Question Derivation) → List NodeJob
  all_jobs questions = flat_map jobs_of questions

-- the nodes of these generations are to be expanded
abbrev pub expansions_of : List Gen → List NodeJob
expansions_of generations = map (λ (g : Gen). to_expand g.0) generations

-- what a question about a candidate asks of its tree
abbrev pub of_tree : Question Candidate → Question Derivation
of_tree (expand g) = expand g
of_tree (judge a) = judge a.tree

-- two jobs are one
abbrev pub same_job : NodeJob → NodeJob → Bool
same_job (to_expand g) (to_expand h) = g == h
same_job (to_judge p) (to_judge q) = (p.generation == q.generation) && same_rules p.rules q.rules
same_job _ _ = false

-- the job is one of these, at which somebody works
abbrev pub is_out : List NodeJob → NodeJob → Bool
is_out [] job = false
is_out (other ∷ out) job = same_job other job || is_out out job

-- what is taken on with one more job: they are fewer than the number says, and it isn't out and not among them
abbrev pub with_job : ℕ → List NodeJob → List NodeJob → NodeJob → List NodeJob
with_job limit out taken job =
    if nat_lt (length taken) limit && (not (is_out out job) && not (is_out taken job)) then taken ++ job ∷ [] else taken
