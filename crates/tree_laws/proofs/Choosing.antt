-- The lists among which a session chooses hold no tree twice.
use Rattle.std.proofs.Common.{ap, subst, List, [], ◌∷◌, length, Option, Some, None, Bool, true, false}
use Rattle.rule_model.specs.Derivations.{Derivation}
use Rattle.rule_model.specs.States.{PendingOffer}
use Rattle.symbolic_composites.specs.TreeLists.{candidates}
use Rattle.decision_trees.specs.Lazy.{first}
use Rattle.decision_trees.specs.Rules.{Waiting, Next, takes, deadlocks, is_beyond, is_not_now, goes_on, stalls, nothing}
use Rattle.decision_trees.specs.Rules.{if_there, if_some, when, meeting, any, unseen, beyond, any_beyond, beyond_or_unseen}
use Rattle.decision_trees.specs.Rules.{first_answered, stalled_next, waiting_next, asked_next, dead_next, next_of}
use Rattle.candidate_laws.specs.Asked.{TreeQuery, offer_in}
use Rattle.candidate_laws.specs.TreeLaws.{lists_of}
use Rattle.tree_laws.specs.Drawing.{ListedTreesDiffer, DrawnTreesDiffer}
use Rattle.tree_laws.specs.Laws.{AllDiffer}
use Rattle.tree_laws.proofs.Differing.{differ_filter}
use Rattle.tree_laws.proofs.Listing.{candidates_differ}

pub listed_trees_differ : ListedTreesDiffer
listed_trees_differ program e w b is_asked windows q =
    differ_filter (is_asked q) (candidates program.theory e w (length program.code) b (offer_in q))
    (candidates_differ program.theory e w (length program.code) b (offer_in q) windows)

-- the trees among which the seed draws
abbrev drawn_among : Next PendingOffer Derivation → List Derivation
drawn_among (takes p d) = []
drawn_among deadlocks = []
drawn_among (is_beyond p d) = []
drawn_among (is_not_now p) = []
drawn_among (goes_on trees) = trees
drawn_among stalls = []
drawn_among nothing = []

abbrev Draws : Next PendingOffer Derivation → Type 0
Draws entry = AllDiffer (drawn_among entry)

there_draws : (o : Option Derivation) (f : Derivation → Next PendingOffer Derivation) (x : Next PendingOffer Derivation) →
    ((d : Derivation) → Draws (f d)) → Draws x → Draws (if_there o f x)
there_draws None f x h k = k
there_draws (Some d) f x h k = h d

when_draws : (b : Bool) (x y : Next PendingOffer Derivation) → Draws x → Draws y → Draws (when b x y)
when_draws true x y h k = h
when_draws false x y h k = k

pending_draws : (ps : List PendingOffer) (x : Next PendingOffer Derivation) → Draws x → Draws (if_some ps (λ qs. x) nothing)
pending_draws [] x h = tt
pending_draws (p ∷ ps) x h = h

trees_draw : (ds : List Derivation) (x : Next PendingOffer Derivation) → AllDiffer ds → Draws x → Draws (if_some ds goes_on x)
trees_draw [] x h k = k
trees_draw (d ∷ ds) x h k = h

module _ (lists : TreeQuery → List Derivation) (differ : (q : TreeQuery) → AllDiffer (lists q)) (state : Waiting PendingOffer) where
  answered_draws : (query : PendingOffer → TreeQuery) (entry : PendingOffer → Derivation → Next PendingOffer Derivation)
      (ps : List PendingOffer)
      (rest : Next PendingOffer Derivation) → ((p : PendingOffer) (d : Derivation) → Draws (entry p d)) → Draws rest →
      Draws (first_answered lists state query entry ps rest)
  answered_draws query entry [] rest h k = k
  answered_draws query entry (p ∷ ps) rest h k =
      there_draws (first (lists (query p))) (entry p) (first_answered lists state query entry ps rest) (h p)
      (answered_draws query entry ps rest h k)

  waiting_draws : Draws (waiting_next lists state)
  waiting_draws =
      when_draws state.all_wait
      (if_some (lists unseen) goes_on (first_answered lists state beyond_or_unseen is_beyond state.by_client (stalled_next lists state)))
      nothing
      (trees_draw (lists unseen) (first_answered lists state beyond_or_unseen is_beyond state.by_client (stalled_next lists state))
      (differ unseen)
      (answered_draws beyond_or_unseen is_beyond state.by_client (stalled_next lists state) (λ p d. tt)
      (pending_draws state.pending stalls tt)))
      tt

  asked_draws : (ps : List PendingOffer) → Draws (asked_next lists state ps)
  asked_draws [] = waiting_draws
  asked_draws (p ∷ ps) = there_draws (first (lists (beyond p))) (is_beyond p) (is_not_now p) (λ d. tt) tt

  next_draws : Draws (next_of lists state)
  next_draws =
      answered_draws meeting takes state.pending
      (if_there (first (lists any)) (λ a. asked_next lists state state.asks)
      (if_there (first (lists any_beyond)) (λ a. asked_next lists state state.asks) (dead_next lists state)))
      (λ p d. tt)
      (there_draws (first (lists any)) (λ a. asked_next lists state state.asks)
      (if_there (first (lists any_beyond)) (λ a. asked_next lists state state.asks) (dead_next lists state))
      (λ d. asked_draws state.asks)
      (there_draws (first (lists any_beyond)) (λ a. asked_next lists state state.asks) (dead_next lists state)
      (λ d. asked_draws state.asks)
      (pending_draws state.pending deadlocks tt)))

pub drawn_trees_differ : DrawnTreesDiffer
drawn_trees_differ program e w b is_asked windows state trees is =
    subst AllDiffer (ap drawn_among is)
    (next_draws (lists_of program e w b is_asked) (listed_trees_differ program e w b is_asked windows) state)
