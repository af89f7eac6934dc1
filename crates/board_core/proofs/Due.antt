-- What the rules decide on a board is due.
use Rattle.std.proofs.Common.{◌≡◌, ◌∙◌, length, refl, sym, ap, subst, Option, None, Some}
use Rattle.std.specs.Prelude.{IfSome}
use Rattle.spec_core.specs.Lists.{IsOneOf}
use Rattle.spec_core.specs.Ready.{IsReady}
use Rattle.spec_core.proofs.Members.{each_from, each_one, contains_one}
use Rattle.rule_model.specs.declared.action.Action.{Action}
use Rattle.rule_model.specs.Answering.{name_of}
use Rattle.rule_model.specs.Behaviours.{Behaviour}
use Rattle.rule_model.specs.Derivations.{Derivation}
use Rattle.rule_model.specs.Derives.{Derives}
use Rattle.rule_model.specs.Events.{OfferName}
use Rattle.rule_model.specs.Legal.{IsAgreed}
use Rattle.rule_model.specs.States.{PendingOffer, start_state}
use Rattle.offer_index.proofs.Answers.{exact_answers_exist}
use Rattle.symbolic_rules.specs.MarkedTerms.{unmarked}
use Rattle.symbolic_composites.specs.Evaluations.{Evaluation, IsExact}
use Rattle.symbolic_plans.specs.Laws.{composites_of}
use Rattle.board_laws.proofs.Own.{own_plans_are_those}
use Rattle.decision_trees.specs.Rules.{Next, takes, deadlocks, is_beyond, is_not_now, goes_on, stalls, nothing, meeting, unseen, next_of}
use Rattle.candidate_laws.specs.Asked.{TestsAsked, TreeQuery, offer_in}
use Rattle.node_verdict.specs.Choosing.{ChoosesValues}
use Rattle.decision_trees.specs.Gaps.{element}
use Rattle.candidate_laws.specs.TreeLaws.{EntryHolds, lists_of}
use Rattle.node_trees.specs.Generations.{AreApart}
use Rattle.node_trees.specs.Origins.{meaning}
use Rattle.node_trees.specs.Shapes.{stands_for}
use Rattle.candidate_verdicts.specs.Known.{NodePart, missing_parts}
use Rattle.candidates.specs.Laws.{IsKnownTree}
use Rattle.candidates.specs.Listed.{known_trees}
use Rattle.candidates.proofs.Deciding.{decided_entries_are_next, decided_entries_are_so}
use Rattle.board_laws.specs.Complete.{IsSearched}
use Rattle.board_laws.proofs.Following.{searched_trees_follow}
use Rattle.board_laws.proofs.Finding.{found_trees_are_searched}
use Rattle.board_laws.specs.NeededLaws.{FirstTreesSay}
use Rattle.board_laws.proofs.Steps.{first_trees_are_so}
use Rattle.board_laws.specs.Next.{AreSessionWindows, IsNextOf}
use Rattle.board_offers.specs.Waiting.{waiting_in}
use Rattle.board_offers.proofs.Sound.{waiting_is_sound}
use Rattle.board_laws.specs.StoppingLaws.{GiveReasons, IsKnownState}
use Rattle.board_laws.proofs.StoppingGiven as given
use Rattle.board_laws.specs.JobValues.{GivesValues, HoldValues}
use Rattle.board_laws.proofs.JobValues.{listed_trees_choose_values, needed_jobs_choose_values}
use Rattle.board_record.specs.Records.{IsSession}
use Rattle.log_states.specs.Clients.{numbers_from}
use Rattle.board_core.specs.Boards.{AllOfferValues, IsBoard}
use Rattle.board_core.specs.Settled.{IsDue, MayBeDone, MayFollow}
use Rattle.board_core.specs.Views.{BoardView, program, events, state, tree, windows, pieces, decided_at, first_at, all_at}
use Rattle.board_core.specs.Working.{NeededChooseValues}
use Rattle.board_core.proofs.Found.{IsFound, decided_is_found}
use Rattle.board_core.proofs.Giving.{pending_gives, rows_hold_values}
use Rattle.board_core.proofs.Tables.{table_of_session}

module _ (v : BoardView) (is : IsBoard v) (ready : IsReady (program v)) (apart : AreApart (tree v))
    (reached : (state v).behaviour ≡ stands_for (program v) (tree v)) where
  pub of_session : AreSessionWindows (program v) v.settings (windows v)
  of_session = table_of_session (program v) v.settings v.windows is.0.rows_are is.0.all_sorts

  pub known_tree : (e : Evaluation) → IsExact (program v) e →
      IsKnownTree (program v) e v.settings.values (windows v) (tree v) (pieces v)
  known_tree e exact = record {
    ready = ready;
    exact = exact;
    windows = of_session.sized;
    apart = apart;
    expanded = λ up n s x h.
        ap (composites_of (program v).theory (windows v)) (is.0.expansions up n s x h e exact)
        ∙ own_plans_are_those (program v).theory e (windows v) (length (program v).code) unmarked (meaning (program v) n.source);
    shown = is.0.shown;
  }

  pub first_trees_say : FirstTreesSay (program v) (windows v) (tree v) (pieces v)
  first_trees_say =
      let exact = exact_answers_exist (program v) ready in
      first_trees_are_so (program v) exact.0 v.settings.values (windows v) (tree v) (pieces v) (known_tree exact.0 exact.1)

  pub known_state : (e : Evaluation) → IsExact (program v) e →
      IsKnownState (program v) v.settings e (windows v) (tree v) (pieces v) (state v)
  known_state e exact =
      record { known = known_tree e exact; own = λ f exact up n s x h. is.0.expansions up n s x h f exact; reached = reached }

  pub jobs_give_reasons : GiveReasons (program v) v.settings (windows v) (tree v) (pieces v) (state v)
  jobs_give_reasons =
      let exact = exact_answers_exist (program v) ready in
      given.jobs_give_reasons (program v) v.settings exact.0 (windows v) (tree v) (pieces v) (state v) (known_state exact.0 exact.1)

  hold : HoldValues (program v).theory (windows v)
  hold = rows_hold_values (program v).theory ready.executable v.settings.values v.windows is.0.rows_are

  -- each part of which nothing is known, of a tree among which a search looks for an offer that gives values, chooses values
  pub listed_choose_values : (q : TreeQuery) → IfSome (offer_in q) (GivesValues (program v).theory) → (d : Derivation) →
      IsOneOf (element d) (known_trees (program v).theory (windows v) (tree v) q) → (part : NodePart) →
      IsOneOf part (missing_parts (pieces v) (tree v) d) → ChoosesValues (program v).theory part.rules
  listed_choose_values q offers d listed =
      let exact = exact_answers_exist (program v) ready in
      listed_trees_choose_values (program v) exact.0 exact.1 (windows v) hold (tree v)
      ((known_state exact.0 exact.1).own exact.0 exact.1) (pieces v) q offers d listed

  -- so does the tree of each job that the rules need, if it has one
  pub needed_choose_values : AllOfferValues v.session → IsSession (program v) v.session.clients (events v) (state v) → NeededChooseValues v
  needed_choose_values offers session job needed =
      let exact = exact_answers_exist (program v) ready in
      needed_jobs_choose_values (program v) exact.0 exact.1 (windows v) hold (tree v)
      ((known_state exact.0 exact.1).own exact.0 exact.1) (pieces v) (waiting_in (state v)) (waiting_is_sound (state v))
      (λ p i. each_one (λ (o : PendingOffer). GivesValues (program v).theory o.offer) (state v).pending p
      (pending_gives (program v) (events v) (start_state session.behaviour (numbers_from 1 v.session.clients)) (state v) session.derivation
      offers tt) i) job needed

  module _ (entry : Next PendingOffer Derivation) (decided : decided_at v ≡ Some entry) where
    next : IsNextOf (program v) v.settings (state v) entry
    next = record {
      windows = windows v;
      of_session = of_session;
      next = λ e is_asked exact tests.
          subst (λ b. entry ≡ next_of (lists_of (program v) e (windows v) b is_asked) (waiting_in (state v))) (sym reached)
          (decided_entries_are_next (program v) e v.settings.values (windows v) (tree v) (pieces v) (known_tree e exact)
          (waiting_in (state v)) entry decided is_asked (subst (λ b. TestsAsked (program v) (windows v) b is_asked) reached tests));
    }

    holds : EntryHolds (program v) (windows v) (state v).behaviour (waiting_in (state v)) entry
    holds =
        let exact = exact_answers_exist (program v) ready in
        subst (λ b. EntryHolds (program v) (windows v) b (waiting_in (state v)) entry) (sym reached)
        (decided_entries_are_so (program v) exact.0 v.settings.values (windows v) (tree v) (pieces v) (known_tree exact.0 exact.1)
        (waiting_in (state v)) (waiting_is_sound (state v)) entry decided)

  may_follow : (by : Option OfferName) (q : TreeQuery) (d : Derivation) (a : Action) (c : Behaviour) →
      IsSearched (program v).theory (windows v) (tree v) q d → Derives (program v) (state v).behaviour d a c →
      IsAgreed (program v) (state v) a by → MayFollow (program v) (state v) (tree v) by d
  may_follow by q d a c searched derives agreed = record {
    may = record { action = a; rest = c; derives = derives; agreed = agreed };
    follows =
        searched_trees_follow (program v) (windows v) (tree v) is.0.complete q d a c searched
        (subst (λ b. Derives (program v) b d a c) reached derives);
  }

  done : (entry : Next PendingOffer Derivation) → IsFound (first_at v) (all_at v) (waiting_in (state v)) entry →
      EntryHolds (program v) (windows v) (state v).behaviour (waiting_in (state v)) entry →
      MayBeDone (program v) (state v) (tree v) entry
  done (takes p d) found h =
      may_follow (Some (name_of p)) (meeting p) d h.action h.rest
      ((found_trees_are_searched (program v).theory (windows v) (pieces v) (tree v) (meeting p) d).first found) h.derives
      (record { waits = p; among = contains_one p (state v).pending h.pending; client = refl; number = refl; holds = h.meets })
  done (goes_on trees) found h = (
    found.0,
    each_from (MayFollow (program v) (state v) (tree v) None) trees (λ d among.
        let acts = h.acts d among in
        may_follow None unseen d acts.0 acts.1
        ((found_trees_are_searched (program v).theory (windows v) (pieces v) (tree v) unseen d).all trees found.1 among) acts.2 acts.3),
  )
  done deadlocks found h = found
  done (is_beyond p d) found h = tt
  done (is_not_now p) found h = tt
  done stalls found h = tt
  done nothing found h = tt

  pub decided_is_due : (entry : Next PendingOffer Derivation) → decided_at v ≡ Some entry → IsDue v entry
  decided_is_due entry decided =
      let so = holds entry decided in record {
        decided = decided;
        next = next entry decided;
        holds = so;
        done =
            done entry (decided_is_found (first_at v) (all_at v) (waiting_in (state v)) entry decided) so;
      }
