-- Which reasons to stop a session are so in a state. (This profile.)
use Rattle.std.specs.Prelude.{◌≡◌, ◌<◌, ◌⊎◌, [], length}
use Rattle.run_settings.specs.declared.settings.Settings.{Settings}
use Rattle.spec_core.specs.Budgets.{IsBeyond}
use Rattle.spec_core.specs.Code.{Program}
use Rattle.spec_core.specs.Lists.{IsOneOf}
use Rattle.spec_core.specs.Terms.{TermTree, term_of}
use Rattle.rewriter.specs.Answers.{MeetsTooLarge}
use Rattle.rule_model.specs.declared.reply.LimitKind.TheVariants.{Steps, Spread, Offers}
use Rattle.rule_model.specs.Behaviours.{Behaviour}
use Rattle.rule_model.specs.Derivations.{Derivation}
use Rattle.rule_model.specs.Legal.{AllWait}
use Rattle.rule_model.specs.States.{State}
use Rattle.symbolic_rules.specs.Windows.{Windows, AreWindows}
use Rattle.symbolic_rules.specs.MarkedTerms.{unmarked}
use Rattle.symbolic_composites.specs.Evaluations.{Evaluation, IsExact}
use Rattle.symbolic_composites.specs.Composites.{Composite, composites}
use Rattle.symbolic_reach.specs.Reached.{Reaches}
use Rattle.symbolic_reach.specs.Spread.{spread}
use Rattle.candidate_laws.specs.Asked.{TreeQuery}
use Rattle.candidate_laws.specs.Waiting.{trees_asked}
use Rattle.node_verdict.specs.Asking.{TreeAsks}
use Rattle.board_laws.specs.Needed.{IsOfRules}
use Rattle.candidate_count.specs.Counts.{offers, offers_limit}
use Rattle.board_offers.specs.Waiting.{waiting_in}
use Rattle.board_laws.specs.declared.stop_reason.StopReason.{StopReason}
use Rattle.board_laws.specs.declared.stop_reason.StopReason.TheVariants.{Spent, TooLarge, Limit}
use Rattle.board_laws.specs.Next.{GoesByRules, IsAtLimit}
use Rattle.board_laws.specs.Participants.{ActsIn}

-- The rules look for trees in this state: the session goes on by them, and doesn't wait for its clients, as it does where nothing is pending
-- and some open client has no offer.
pub record LooksForTrees (s : State) : Type 0 where
  pub goes : GoesByRules s
  pub busy : s.pending ≡ [] → (AllWait s → ⊥) → ⊥

module _ (program : Program) (settings : Settings) (s : State) where
  -- A query of the rules may ask for this tree of the behaviour that is reached: each value that it chooses lies in the window of its sort,
  -- or is given. What guards and predicates say of it isn't looked at.
  pub record IsCandidate (w : Windows) (d : Derivation) : Type 0 where
    pub evaluation : Evaluation
    pub exact : IsExact program evaluation
    pub query : TreeQuery
    pub of_rules : IsOfRules (waiting_in s) query
    pub composite : Composite
    pub among : IsOneOf composite (composites program.theory evaluation w (length program.code) unmarked s.behaviour)
    pub tree : IsOneOf d (trees_asked program.theory w query composite)

  -- The term is asked along such a tree, with the values that it chooses in their places: by a part of the behaviour that acts by it, whatever
  -- the other parts that act do.
  pub record IsAskedAlong (w : Windows) (t : TermTree) : Type 0 where
    pub tree : Derivation
    pub candidate : IsCandidate w tree
    pub part : Behaviour
    pub rules : Derivation
    pub acts : ActsIn part rules s.behaviour tree
    pub asks : TreeAsks program w unmarked part rules t

  -- The term is asked of the behaviour that is reached before its next action, with windows of so many values as are set: where no value is
  -- chosen but those that the windows show, or along a tree for which the rules may ask.
  pub record IsAskedNext (t : TermTree) : Type 0 where
    pub windows : Windows
    pub sized : AreWindows program.theory settings.values windows
    pub asked : Reaches program windows [] unmarked s.behaviour t ⊎ IsAskedAlong windows t

  -- the behaviour that is reached has more operators and actions, before its next action, than are looked at
  pub record IsTooWide : Type 0 where
    pub windows : Windows
    pub sized : AreWindows program.theory settings.values windows
    pub above : (e : Evaluation) → IsExact program e → 65536 < spread program.theory e windows (length program.code) unmarked s.behaviour

  -- it has more possible agreements than are looked at
  pub record HasTooManyOffers : Type 0 where
    pub windows : Windows
    pub sized : AreWindows program.theory settings.values windows
    pub above : (e : Evaluation) → IsExact program e → offers_limit < offers program e windows s.behaviour

  -- The reason is so in the state.
  --   spent, too large: the term is asked before the next action, and has no value within the budget, or meets a value that is too large;
  --   limits: an action would come next, but there were as many as are allowed; the behaviour is too wide; it has too many agreements
  abbrev pub IsReasonToStop : StopReason → Type 0
  IsReasonToStop (Spent term) = IsAskedNext (term_of term) × IsBeyond program.theory (term_of term) settings.budget
  IsReasonToStop (TooLarge term) = IsAskedNext (term_of term) × MeetsTooLarge program.theory (term_of term)
  IsReasonToStop (Limit Steps) = IsAtLimit program settings s
  IsReasonToStop (Limit Spread) = IsTooWide
  IsReasonToStop (Limit Offers) = HasTooManyOffers

  -- with windows of so many values as are set, a query of the rules may ask for a tree
  abbrev pub AsksForTree : Type 0
  AsksForTree = (w : Windows) × AreWindows program.theory settings.values w × (d : Derivation) × IsCandidate w d

  -- The rules have something left to ask where the reason comes: they look for trees; and where there are too many agreements, a query of
  -- theirs may ask for one. What comes next, the limit of steps says itself.
  abbrev pub IsAskedByRules : StopReason → Type 0
  IsAskedByRules (Limit Steps) = Unit {0}
  IsAskedByRules (Limit Offers) = LooksForTrees s × AsksForTree
  IsAskedByRules (Limit Spread) = LooksForTrees s
  IsAskedByRules (Spent term) = LooksForTrees s
  IsAskedByRules (TooLarge term) = LooksForTrees s
