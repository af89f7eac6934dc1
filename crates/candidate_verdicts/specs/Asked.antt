-- Whether a query asks for a tree of rules, by what is shown by it; and the verdicts that are known. (This profile.)
use Rattle.std.specs.Prelude.{◌&&◌, ◌||◌, Option, Some, None, Bool, false, option_map}
use Rattle.spec_core.specs.Theories.{Theory}
use Rattle.rule_model.specs.declared.offer.Offer.{Offer}
use Rattle.rule_model.specs.Derivations.{Derivation}
use Rattle.symbolic_rules.specs.Windows.{Windows}
use Rattle.decision_trees.specs.Rules.{Query, meeting, any, unseen, beyond, any_beyond, beyond_or_unseen}
use Rattle.symbolic_actions.specs.Deciding.{may_meet}
use Rattle.symbolic_actions.specs.Shows.{Show}
use Rattle.candidate_laws.specs.Waiting.{Candidate, is_unseen}
use Rattle.node_trees.specs.Shapes.{Shape}
use Rattle.candidate_search.specs.Searches.{for_offer, is_wanted}
use Rattle.candidate_verdicts.specs.Known.{Pieces, known_show}

module _ (theory : Theory) (w : Windows) where
  -- whether what is shown is what a query asks for, the marks of the tree aside
  abbrev pub suits : Query Offer → Show → Bool
  suits (meeting offer) s = may_meet theory w s.kind s.fields (Some offer)
  suits any s = may_meet theory w s.kind s.fields None
  suits unseen s = may_meet theory w s.kind s.fields None && is_unseen s.kind
  suits (beyond offer) s = may_meet theory w s.kind s.fields (Some offer)
  suits any_beyond s = may_meet theory w s.kind s.fields None
  suits (beyond_or_unseen offer) s =
      may_meet theory w s.kind s.fields (Some offer) || (may_meet theory w s.kind s.fields None && is_unseen s.kind)

  -- Whether the query asks for the tree, by which this is shown (`IsAsked`): it is one with marks, or one without, as the query wants, and
  -- what is shown is what it asks for. Where nothing is shown, no query asks for the tree.
  abbrev pub asked_by : Query Offer → Derivation → Option Show → Bool
  asked_by q d None = false
  asked_by q d (Some s) = is_wanted q d && suits q s

  -- whether a candidate holds in a tree of nodes, as far as it is known
  abbrev pub known_verdict : Pieces → Shape → Candidate → Option Bool
  known_verdict pieces t a = option_map (asked_by (for_offer a.query) a.tree) (known_show theory w pieces t a.tree)
