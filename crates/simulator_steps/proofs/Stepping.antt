-- Steps that are chosen.
use Rattle.std.proofs.Common.{ℕ, zero, suc, ◌≡◌, ◌<◌, ◌-◌, ◌∙◌, inr, refl, sym, ap, subst, arith, List, [], ◌∷◌, ◌++◌, length, take, map}
use Rattle.std.proofs.Common.{Option, Some, None, false}
use Rattle.std.specs.List.{slice_get}
use Rattle.spec_core.specs.declared.items.Gate.{Gate}
use Rattle.run_settings.specs.declared.settings.Settings.{Settings}
use Rattle.spec_core.specs.Code.{Program, program_of}
use Rattle.spec_core.specs.Lists.{Each}
use Rattle.spec_core.specs.Ready.{IsReady}
use Rattle.spec_core.specs.Terms.{variable}
use Rattle.spec_core.specs.Theories.{Theory}
use Rattle.spec_core.proofs.Lists.{each_image}
use Rattle.rule_laws.specs.Spelled.{SpellsSome, HasSpelled}
use Rattle.rule_laws.proofs.Determined.{trees_determine_steps}
use Rattle.rule_laws.proofs.Spelling.{step_spelled}
use Rattle.rule_model.specs.declared.action.Action.{Action}
use Rattle.rule_model.specs.declared.action.Action.TheVariants.{At}
use Rattle.rule_model.specs.declared.offer.Field.TheVariants.{Give}
use Rattle.rule_model.specs.declared.offer.Offer.{Offer}
use Rattle.rule_model.specs.Actions.{kind_of}
use Rattle.rule_model.specs.Behaviours.{Behaviour}
use Rattle.rule_model.specs.Derivations.{Derivation, derivation_of}
use Rattle.rule_model.specs.Derives.{Derives}
use Rattle.rule_model.specs.Events.{Event, OfferName, acted}
use Rattle.rule_model.specs.Legal.{IsAgreed}
use Rattle.rule_model.specs.Meets.{FieldsMeet, Meets}
use Rattle.rule_model.specs.States.{State, after_offer}
use Rattle.rule_gates.specs.Acting.{IsAt, IsOfHeading}
use Rattle.rule_gates.specs.Laws.{ActionsAreAtGatesOfTheHeading}
use Rattle.board_record.specs.Records.{IsSession}
use Rattle.board_record.specs.Views.{HasActed}
use Rattle.board_laws.specs.JobValues.{FieldGivesValue, GivesValues}
use Rattle.node_trees.specs.Shapes.{stands_for}
use Rattle.board_core.specs.Views.{BoardView, events, program, state, tree, SameLog, SameSession, SameSetting}
use Rattle.decision_trees.specs.Rules.{any}
use Rattle.board_lists.specs.declared.list.Candidate.{Candidate}
use Rattle.board_lists.specs.declared.list.Listing.{Listing}
use Rattle.board_lists.specs.Listings.{AreFirst, HoldsOfTrees, IsCandidate, IsListing, tree_in}
use Rattle.simulator_steps.specs.declared.choosing.Chosen.{Chosen}
use Rattle.simulator_steps.specs.declared.choosing.Chosen.TheVariants.{Done, Told, Missing}
use Rattle.simulator_steps.specs.Choosing.{ComesOfChoice, ComesOfNumber, IsDoneBy, offered_before, taken_by}
use Rattle.simulator_steps.proofs.Pending.{alone, among_alone, pending_one}
use Rattle.simulator_steps.proofs.TwoLists.{holds_on, holds_weaker}
use Rattle.simulator_steps.proofs.Waiting.{one_log}

-- values meet fields that give just them
given_meet : (theory : Theory) (values : List (List ℕ)) → FieldsMeet theory values (map Give values)
given_meet theory [] = tt
given_meet theory (v ∷ values) = (refl, given_meet theory values)

-- the client agrees to an action for which it has made an offer of just the action's values
pub agrees : (program : Program) (s t : State) (n : ℕ) (gate : Gate) (values : List (List ℕ)) (offer : Offer) →
    offer ≡ record { gate = gate; fields = map Give values } → s.pending ≡ [] → t ≡ after_offer s 1 n offer false →
    IsAgreed program t (At gate values) (Some (1, n))
agrees program s t n gate values offer is none e = record {
  waits = pending_one n offer false;
  among = among_alone t.pending (pending_one n offer false) (alone s t n offer false none e);
  client = refl;
  number = refl;
  holds =
      subst (Meets program.theory (At gate values)) (sym is) (refl, given_meet program.theory values);
}

-- where the action's values are values, the offer gives values
pub gives_values : (theory : Theory) (gate : Gate) (values : List (List ℕ)) (offer : Offer) →
    offer ≡ record { gate = gate; fields = map Give values } → Each (SpellsSome theory) values → GivesValues theory offer
gives_values theory gate values offer is h =
    subst (GivesValues theory) (sym is) (each_image (SpellsSome theory) (FieldGivesValue theory) Give values (λ v k. k) h)

-- and what the behaviour that is reached does has values
pub has_spelled : (v : BoardView) (step : Candidate) → IsCandidate (program v) (state v) (tree v) step → (a : Action) → a ≡ step.action →
    HasSpelled (program v).theory a
has_spelled v step is a same =
    subst (HasSpelled (program v).theory) (sym same)
    (step_spelled (program v) (derivation_of step.rules) (state v).behaviour variable step.action is.rest is.derives)

-- what the behaviour that is reached does is at gates of the heading
pub at_heading : (v : BoardView) (clients : ℕ) → IsReady (program v) → IsSession (program v) clients (events v) (state v) →
    ActionsAreAtGatesOfTheHeading → (step : Candidate) → IsCandidate (program v) (state v) (tree v) step → (a : Action) → a ≡ step.action →
    IsAt (IsOfHeading (program v)) (kind_of a)
at_heading v clients ready session law step is a same =
    subst (λ (z : Action). IsAt (IsOfHeading (program v)) (kind_of z)) (sym same)
    (law (program v) ready session.behaviour session.start _ (events v) (state v) session.derivation (derivation_of step.rules) step.action
    is.rest is.derives)

-- The board before, with the offer, with all made ready, and after the action.
module _ (old offered reserved : BoardView) (step : Candidate) (is : IsCandidate (program old) (state old) (tree old) step) (action : Action)
    (same : action ≡ step.action) (setting : SameSetting old offered) (behaviour : (state offered).behaviour ≡ (state old).behaviour)
    (session : SameSession offered reserved) (log : SameLog offered reserved) (ready : IsReady (program old)) (new : BoardView)
    (by : Option OfferName) (acts : HasActed reserved.session new.session (derivation_of step.rules) by) where
  same_program : program reserved ≡ program old
  same_program = ap program_of (session.0.0.0 ∙ setting.0.0)

  derives_there : Derives (program reserved) (state reserved).behaviour (derivation_of step.rules) step.action is.rest
  derives_there =
      subst (λ (p : Program). Derives p (state reserved).behaviour (derivation_of step.rules) step.action is.rest) (sym same_program)
      (subst (λ (b : Behaviour). Derives (program old) b (derivation_of step.rules) step.action is.rest)
      (sym (ap (λ (s : State). s.behaviour) log.1 ∙ behaviour)) is.derives)

  one_action : acts.action ≡ action
  one_action =
      (trees_determine_steps (program reserved) (subst IsReady (sym same_program) ready).executable variable (state reserved).behaviour
      (derivation_of step.rules) acts.action step.action (stands_for (program reserved) (tree new)) is.rest acts.derives derives_there).0
      ∙ sym same

  pub log_goes_on : (n : ℕ) → by ≡ taken_by action n → events offered ≡ events old ++ offered_before action n →
      events new ≡ events old ++ offered_before action n ++ acted action (derivation_of step.rules) (taken_by action n) ∷ []
  log_goes_on n taken before =
      acts.log
      ∙ ap (λ (l : List Event). l ++ acted acts.action (derivation_of step.rules) by ∷ []) (log.0 ∙ before)
      ∙ ap (λ (a : Action). events old ++ offered_before action n ++ acted a (derivation_of step.rules) by ∷ []) one_action
      ∙ ap (λ (z : Option OfferName). events old ++ offered_before action n ++ acted action (derivation_of step.rules) z ∷ []) taken

-- The place of a step among those that are listed.

at_take : {A : Type 0} (n k : ℕ) (all : List A) (x : A) → slice_get (take n all) k ≡ Some x → slice_get all k ≡ Some x
at_take zero k [] x e = let never : ⊥ = cc in absurd never
at_take zero k (y ∷ all) x e = let never : ⊥ = cc in absurd never
at_take (suc n) k [] x e = let never : ⊥ = cc in absurd never
at_take (suc n) zero (y ∷ all) x e = e
at_take (suc n) (suc k) (y ∷ all) x e = at_take n k all x e

few_all : {A : Type 0} (n : ℕ) (all : List A) → length (take n all) < n → length all < n
few_all zero all h = absurd (omega (arith, h))
few_all (suc n) [] h = omega arith
few_all (suc n) (x ∷ all) h = let r = few_all n all (omega (arith, h)) in omega (arith, r)

-- What comes of a number among the steps that are listed is what comes of it among all.
module _ (old listed new : BoardView) (session : SameSession old listed) (log : SameLog old listed) (running : old.stop ≡ None)
    (number : ℕ) (listing : Listing)
    (is : IsListing (program listed) listed.settings (state listed) (tree listed) number listing) where
  abbrev pub trees : List Derivation
  trees = map tree_in listing.candidates.items

  among_all : (P : List Derivation → Type 0) → ((all : List Derivation) → AreFirst number trees listing.more all → P all) →
      HoldsOfTrees (program old) old.settings (state old) any P
  among_all P h =
      holds_on listed old any P (ap program_of (sym session.0.0.0)) (sym session.0.1) (ap (λ (s : State). s.behaviour) (sym log.1))
      (holds_weaker (program listed) listed.settings (state listed) any (AreFirst number trees listing.more) P h is.windowed)

  done_by : (tree : Derivation) (action : Action) → IsDoneBy listed new tree action → IsDoneBy old new tree action
  done_by tree action h = record {
    running = running;
    still = h.still;
    below =
        subst (λ (k : Settings). (state old).actions < k.steps) session.0.1
        (subst (λ (s : State). s.actions < listed.settings.steps) log.1 h.below);
    offer = h.offer;
    log =
        h.log ∙ ap (λ (l : List Event). l ++ offered_before action h.offer ++ acted action tree (taken_by action h.offer) ∷ []) log.0;
  }

  pub comes_of_choice : (chosen : Chosen) → ComesOfNumber listed new trees number chosen → ComesOfChoice old new number chosen
  comes_of_choice (Done action) (tree, at, h) = record {
    tree = tree;
    numbered =
        among_all (λ all. slice_get all (number - 1) ≡ Some tree)
        (λ all first. at_take number (number - 1) all tree (subst (λ (l : List Derivation). slice_get l (number - 1) ≡ Some tree) first.first at));
    by = done_by tree action h;
  }
  comes_of_choice (Told reply) (same, h) = (one_log old listed new log same, inr (running, h.1, h.2, h.3))
  comes_of_choice Missing (same, few) = (
    one_log old listed new log same,
    among_all (λ all. length all < number)
        (λ all first. few_all number all (subst (λ (l : List Derivation). length l < number) first.first few)),
  )
