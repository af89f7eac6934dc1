-- Why a job has no answer that a session needs is a reason to stop in its state.
use Rattle.std.proofs.Common.{ℕ, ◌≡◌, ◌∙◌, ◌<◌, inl, inr, [], sym, subst, Some, length, arith}
use Rattle.run_settings.specs.declared.settings.Settings.{Settings}
use Rattle.spec_core.specs.Code.{Program}
use Rattle.spec_core.specs.Lists.{IsOneOf}
use Rattle.spec_core.specs.Terms.{TermTree, term_of}
use Rattle.rule_model.specs.declared.reply.LimitKind.TheVariants.{Spread, Steps}
use Rattle.rule_model.specs.Behaviours.{Behaviour}
use Rattle.rule_model.specs.States.{State}
use Rattle.symbolic_rules.specs.Windows.{Windows}
use Rattle.symbolic_rules.specs.MarkedTerms.{unmarked}
use Rattle.symbolic_composites.specs.Composites.{composites}
use Rattle.symbolic_composites.specs.Evaluations.{Evaluation}
use Rattle.node_values.specs.declared.stop.Stop.{Stop}
use Rattle.node_values.specs.declared.stop.Stop.TheVariants as causes
use Rattle.node_values.specs.Stops.{Stops, Never}
use Rattle.symbolic_reach.specs.Reached.{Reaches}
use Rattle.symbolic_reach.specs.Spread.{spread}
use Rattle.expand.specs.Expansions.{IsTooWideFor}
use Rattle.node_verdict.specs.Asking.{TreeAsks}
use Rattle.node_trees.specs.Origins.{meaning}
use Rattle.node_trees.specs.Shapes.{Held, Shape, IsNodeOf, stands_for}
use Rattle.candidate_verdicts.specs.Known.{NodePart, Pieces}
use Rattle.board_laws.specs.Needed.{IsPartOfTree}
use Rattle.board_laws.proofs.Living.{needed_parts_are_of_trees}
use Rattle.candidate_count.specs.Counts.{offers, offers_limit, offers_of_tree}
use Rattle.candidate_count.proofs.Below.{trees_have_no_more_offers}
use Rattle.board_offers.specs.Waiting.{waiting_in}
use Rattle.board_laws.specs.declared.stop_reason.StopReason.{StopReason}
use Rattle.board_laws.specs.declared.stop_reason.StopReason.TheVariants.{Spent, TooLarge, Limit}
use Rattle.board_laws.specs.Given.{reason_of}
use Rattle.board_laws.specs.StoppingLaws.{IsKnownState, ExpansionsGiveReasons, VerdictsGiveReasons, VerdictsAreOfTrees, OffersGiveReasons}
use Rattle.board_laws.specs.StoppingLaws.{JobsGiveReasons}
use Rattle.board_laws.specs.Participants.{ActsIn}
use Rattle.board_laws.specs.Reasons.{IsAskedByRules, IsAskedNext, IsCandidate, IsReasonToStop, IsTooWide, LooksForTrees}
use Rattle.board_laws.proofs.Below.{reached_in_tree, wide_in_tree}
use Rattle.board_laws.proofs.StoppingParts.{missing_are_by_nodes}
use Rattle.board_laws.proofs.Plans.{listed_of_composite}

module _ (program : Program) (settings : Settings) (e : Evaluation) (w : Windows) (t : Shape) (pieces : Pieces) (s : State)
    (k : IsKnownState program settings e w t pieces s) where
  -- what is reached of a node is asked next
  asked_next : (n : Held) (g : ℕ) → IsNodeOf t g n → (x : TermTree) → Reaches program w [] unmarked (meaning program n.source) x →
      IsAskedNext program settings s x
  asked_next n g i x r = record {
    windows = w;
    sized = k.known.windows;
    asked =
        inl (subst (λ (b : Behaviour). Reaches program w [] unmarked b x) (sym k.reached)
        (reached_in_tree program w [] t i.up n i.stands x r));
  }

  too_wide : (n : Held) (g : ℕ) → IsNodeOf t g n → (m : ℕ) → IsTooWideFor program w (meaning program n.source) m →
      IsTooWide program settings s
  too_wide n g i m h = record {
    windows = w;
    sized = k.known.windows;
    above = λ f exact.
        subst (λ (b : Behaviour). 65536 < spread program.theory f w (length program.code) unmarked b) (sym k.reached)
        (let above = h.above in
        let wide = wide_in_tree program f w t i.up n i.stands (length program.code) m (h.spread_above f exact) in
        omega (arith, above, wide));
  }

  -- the reason for a stop that says why
  given : (A : TermTree → Type 0) (W : ℕ → Type 0) → ((x : TermTree) → A x → IsAskedNext program settings s x) →
      ((m : ℕ) → W m → IsTooWide program settings s) → (stop : Stop) → Stops program.theory settings.budget A W stop →
      (reason : StopReason) → reason_of stop ≡ Some reason → IsReasonToStop program settings s reason
  given A W asked wide (causes.Spent term) h reason q =
      let same : Spent term ≡ reason = cc in
      subst (IsReasonToStop program settings s) same (asked (term_of term) h.spent.0, h.spent.1)
  given A W asked wide (causes.TooLarge term) h reason q =
      let same : TooLarge term ≡ reason = cc in
      subst (IsReasonToStop program settings s) same (asked (term_of term) h.too_large.0, h.too_large.1)
  given A W asked wide (causes.Wide m) h reason q =
      let same : Limit Spread ≡ reason = cc in
      subst (IsReasonToStop program settings s) same (wide m h.wide)
  given A W asked wide causes.Memory h reason q = let never : ⊥ = cc in absurd never

  expansions_give : ExpansionsGiveReasons program settings w t pieces s
  expansions_give g n i stop h reason q =
      given (λ x. Reaches program w [] unmarked (meaning program n.source) x) (IsTooWideFor program w (meaning program n.source))
      (λ x r. asked_next n g i x r) (λ m r. too_wide n g i m r) stop h reason q

  -- a part that is to be judged is one of a candidate
  candidate_of : (part : NodePart) (from : IsPartOfTree program.theory w t pieces (waiting_in s) part) →
      IsCandidate program settings s w from.tree
  candidate_of part from =
      let c = listed_of_composite program e w from.query t (k.own e k.known.exact) from.tree from.listed in record {
        evaluation = e;
        exact = k.known.exact;
        query = from.query;
        of_rules = from.of_rules;
        composite = c.composite;
        among =
            subst (λ (b : Behaviour). IsOneOf c.composite (composites program.theory e w (length program.code) unmarked b)) (sym k.reached)
            c.among;
        tree = c.tree;
      }

  verdicts_asked : VerdictsAreOfTrees program settings w t pieces s
  verdicts_asked part i =
      let from = needed_parts_are_of_trees program.theory w t pieces (waiting_in s) part i in
      (w, k.known.windows, from.tree, candidate_of part from)

  -- why it isn't found what a node shows is a reason, where a part is missing there of a tree for which a query of the rules may ask
  pub part_gives : (part : NodePart) (n : Held) → IsPartOfTree program.theory w t pieces (waiting_in s) part → IsNodeOf t part.generation n →
      (stop : Stop) → Stops program.theory settings.budget (TreeAsks program w unmarked (meaning program n.source) part.rules) Never stop →
      (reason : StopReason) → reason_of stop ≡ Some reason → IsReasonToStop program settings s reason
  part_gives part n from node stop h reason q =
      let of = missing_are_by_nodes program pieces t from.tree part from.missing in
      let same = k.known.apart of.up node.up of.node n of.stands node.stands (of.same ∙ sym node.same) in
      given (TreeAsks program w unmarked (meaning program n.source) part.rules) Never
      (λ x r. record {
        windows = w;
        sized = k.known.windows;
        asked =
            inr (record {
              tree = from.tree;
              candidate = candidate_of part from;
              part = meaning program n.source;
              rules = part.rules;
              acts =
                  subst (λ (b : Behaviour). ActsIn (meaning program n.source) part.rules b from.tree) (sym k.reached)
                  (subst (λ (m : Held). ActsIn (meaning program m.source) part.rules (stands_for program t) from.tree) same.1 of.acts);
              asks = r;
            });
      })
      (λ m r. absurd r) stop h reason q

  verdicts_give : VerdictsGiveReasons program settings w t pieces s
  verdicts_give part n i = part_gives part n (needed_parts_are_of_trees program.theory w t pieces (waiting_in s) part i)

  offers_give : OffersGiveReasons program settings w t pieces s
  offers_give h = record {
    windows = w;
    sized = k.known.windows;
    above = λ f exact.
        subst (λ (b : Behaviour). offers_limit < offers program f w b) (sym k.reached)
        (let above : offers_limit < offers_of_tree program w t = h in
        let below = trees_have_no_more_offers program f w t (k.own f exact) in
        omega (arith, above, below));
  }

-- why a job has no answer is never the limit of steps
pub no_limit_of_steps : (stop : Stop) (reason : StopReason) → reason_of stop ≡ Some reason → reason ≡ Limit Steps → ⊥
no_limit_of_steps (causes.Spent term) reason q e = let never : ⊥ = cc in never
no_limit_of_steps (causes.TooLarge term) reason q e = let never : ⊥ = cc in never
no_limit_of_steps (causes.Wide m) reason q e = let never : ⊥ = cc in never
no_limit_of_steps causes.Memory reason q e = let never : ⊥ = cc in never

-- where the rules look for trees, they ask for what gives the reason for which a job has no answer
pub asked_by_rules : (program : Program) (settings : Settings) (s : State) → LooksForTrees s → (stop : Stop) (reason : StopReason) →
    reason_of stop ≡ Some reason → IsAskedByRules program settings s reason
asked_by_rules program settings s looks (causes.Spent term) reason q =
    let same : Spent term ≡ reason = cc in subst (IsAskedByRules program settings s) same looks
asked_by_rules program settings s looks (causes.TooLarge term) reason q =
    let same : TooLarge term ≡ reason = cc in subst (IsAskedByRules program settings s) same looks
asked_by_rules program settings s looks (causes.Wide m) reason q =
    let same : Limit Spread ≡ reason = cc in subst (IsAskedByRules program settings s) same looks
asked_by_rules program settings s looks causes.Memory reason q = let never : ⊥ = cc in absurd never

pub jobs_give_reasons : JobsGiveReasons
jobs_give_reasons program settings e w t pieces s k = record {
  expansions = expansions_give program settings e w t pieces s k;
  verdicts = verdicts_give program settings e w t pieces s k;
  asked = verdicts_asked program settings e w t pieces s k;
  offers = offers_give program settings e w t pieces s k;
}
