-- What an entry that comes next says of the steps.
use Rattle.std.proofs.Common.{ℕ, ◌≡◌, ◌⊎◌, inl, inr, refl, sym, ap, subst, ◌∙◌, List, [], ◌∷◌, Some, None, Bool, true, false}
use Rattle.spec_core.specs.Lists.{IsOneOf}
use Rattle.spec_core.specs.Code.{Program}
use Rattle.spec_core.specs.Sorts.{FitsData}
use Rattle.rule_model.specs.declared.action.Action.{Action}
use Rattle.rule_model.specs.declared.action.Action.TheVariants.{Inner, Exit, At}
use Rattle.rule_model.specs.Actions.{Kind, inside, ends, at_gate, kind_of}
use Rattle.rule_model.specs.Behaviours.{Behaviour}
use Rattle.rule_model.specs.Derivations.{Derivation}
use Rattle.rule_model.specs.Derives.{NoStep}
use Rattle.rule_model.specs.States.{PendingOffer}
use Rattle.rule_model.specs.Meets.{NeverMeets, IsUnseen}
use Rattle.symbolic_rules.specs.Windows.{Windows}
use Rattle.symbolic_rules.specs.Trees.{IsWindowed, IsBeyond}
use Rattle.symbolic_rules.specs.Laws.{NoTree}
use Rattle.symbolic_rules.proofs.Acting.{windowed_trees_act}
use Rattle.symbolic_rules.proofs.Nothing.{no_tree_no_step, no_tree_for_the_offer_none_meets, no_unseen_tree_no_unseen_step}
use Rattle.decision_trees.specs.Lazy.{first}
use Rattle.decision_trees.specs.Rules.{Query, meeting, any, unseen, beyond, any_beyond, beyond_or_unseen}
use Rattle.decision_trees.specs.Rules.{Waiting, Next, takes, deadlocks, is_beyond, is_not_now, goes_on, stalls, nothing, if_there, if_some, when}
use Rattle.decision_trees.specs.Rules.{first_answered, stalled_next, waiting_next, asked_next, dead_next, next_of}
use Rattle.symbolic_composites.specs.Evaluations.{Evaluation}
use Rattle.symbolic_composites.proofs.Lists.{empty_has_none}
use Rattle.candidate_laws.specs.Asked.{TreeQuery, IsAsked, IsUnseenKind}
use Rattle.candidate_laws.specs.TreeLaws.{IsAnswered, IsSoundWaiting, lists_of, EntryHolds, NextEntriesHold}
use Rattle.candidate_laws.proofs.Listed.{asked_trees_are_listed}

-- what holds of the entries that are tried holds of the one that comes

there_holds : {A X : Type 0} (Q : X → Type 0) (xs : List A) (f : A → X) (rest : X) → ((a : A) → IsOneOf a xs → Q (f a)) → (xs ≡ [] → Q rest) →
    Q (if_there (first xs) f rest)
there_holds Q [] f rest some none = none refl
there_holds Q (a ∷ xs) f rest some none = some a (inl refl)

some_holds : {A X : Type 0} (Q : X → Type 0) (xs : List A) (f : List A → X) (rest : X) → ((a : A) → IsOneOf a xs → Q (f xs)) →
    (xs ≡ [] → Q rest) → Q (if_some xs f rest)
some_holds Q [] f rest some none = none refl
some_holds Q (a ∷ xs) f rest some none = some a (inl refl)

when_holds : {X : Type 0} (Q : X → Type 0) (b : Bool) (x y : X) → (b ≡ true → Q x) → (b ≡ false → Q y) → Q (when b x y)
when_holds Q true x y h k = h refl
when_holds Q false x y h k = k refl

module _ {P A : Type 0} (lists : Query P → List A) (state : Waiting P) (Q : Next P A → Type 0) where
  answered_holds : (query : P → Query P) (entry : P → A → Next P A) (ps : List P) (rest : Next P A) →
      ((p : P) → IsOneOf p ps → (a : A) → IsOneOf a (lists (query p)) → Q (entry p a)) →
      (((p : P) → IsOneOf p ps → lists (query p) ≡ []) → Q rest) →
      Q (first_answered lists state query entry ps rest)
  answered_holds query entry [] rest some none = none (λ p i. absurd i)
  answered_holds query entry (p ∷ ps) rest some none =
      there_holds Q (lists (query p)) (entry p) (first_answered lists state query entry ps rest) (λ a i. some p (inl refl) a i)
      (λ empty. answered_holds query entry ps rest (λ o i. some o (inr i)) (λ others. none (both empty others)))
    where
      both : lists (query p) ≡ [] → ((o : P) → IsOneOf o ps → lists (query o) ≡ []) → (o : P) → IsOneOf o (p ∷ ps) → lists (query o) ≡ []
      both empty others o (inl same) = ap (λ z. lists (query z)) same ∙ empty
      both empty others o (inr i) = others o i

unseen_action : (a : Action) (k : Kind) → kind_of a ≡ k → IsUnseenKind k → IsUnseen a
unseen_action Inner k e h = tt
unseen_action (Exit values) k e h = tt
unseen_action (At gate values) k e h = subst IsUnseenKind (sym e) h

module _ (program : Program) (e : Evaluation) (size : ℕ) (w : Windows) (b : Behaviour)
    (is_asked : TreeQuery → Derivation → Bool) (answered : IsAnswered program e size w b is_asked) (state : Waiting PendingOffer)
    (sound : IsSoundWaiting state) where
  abbrev lists : TreeQuery → List Derivation
  lists = lists_of program e w b is_asked

  abbrev Holds : Next PendingOffer Derivation → Type 0
  Holds = EntryHolds program w b state

  listed : (q : TreeQuery) (d : Derivation) → IsOneOf d (lists q) → IsAsked program w b q d
  listed q d i = (asked_trees_are_listed program e size w b is_asked answered q d).0 i

  -- where the list of a query is empty, it asks for no tree
  none_asked : (q : TreeQuery) → lists q ≡ [] → (d : Derivation) → IsAsked program w b q d → ⊥
  none_asked q empty d h =
      empty_has_none d (lists q) empty ((asked_trees_are_listed program e size w b is_asked answered q d).1 h)

  data_fit : FitsData program.theory
  data_fit = answered.ready.executable.fits

  taken : (p : PendingOffer) → IsOneOf p state.pending → (d : Derivation) → IsOneOf d (lists (meeting p)) → Holds (takes p d)
  taken p pending d i =
      let h = listed (meeting p) d i in
      let acts = windowed_trees_act program w data_fit b (Some p.offer) d h.0 h.1 in
      record { pending = pending; action = acts.0; rest = acts.1; derives = acts.2; meets = acts.4 }

  no_step : lists any ≡ [] → lists any_beyond ≡ [] → NoStep program b
  no_step none none_beyond = no_tree_no_step program size w answered.ready.executable answered.windows b none_seen
    where
      none_seen : (k : Kind) → NoTree program w b None k
      none_seen k d (inl i) = none_asked any none d (k, i)
      none_seen k d (inr i) = none_asked any_beyond none_beyond d (k, i)

  never : (p : PendingOffer) → lists (meeting p) ≡ [] → ((d : Derivation) (k : Kind) → IsBeyond program w b (Some p.offer) d k → ⊥) →
      NeverMeets program b p.offer
  never p none none_beyond = no_tree_for_the_offer_none_meets program size w answered.ready.executable answered.windows b p.offer none_seen
    where
      none_seen : NoTree program w b (Some p.offer) (at_gate p.offer.gate.0)
      none_seen d (inl i) = none_asked (meeting p) none d (at_gate p.offer.gate.0, i)
      none_seen d (inr i) = none_beyond d (at_gate p.offer.gate.0) i

  module _ (none_meets : (p : PendingOffer) → IsOneOf p state.pending → lists (meeting p) ≡ []) where
    no_windowed : (p : PendingOffer) → IsOneOf p state.pending → (f : Derivation) (k : Kind) → IsWindowed program w b (Some p.offer) f k → ⊥
    no_windowed p pending f k h = none_asked (meeting p) (none_meets p pending) f (k, h)

    going : state.all_wait ≡ true → Holds (goes_on (lists unseen))
    going waits = record {
      waits = waits;
      acts = λ d i.
          let h = listed unseen d i in
          let acts = windowed_trees_act program w data_fit b None d h.0 h.1 in
          (acts.0, acts.1, acts.2, unseen_action acts.0 h.0 acts.3 h.2);
    }

    answered_beyond : state.asks ≡ [] → (p : PendingOffer) → IsOneOf p state.by_client → (d : Derivation) → IsOneOf d (lists (beyond_or_unseen p)) →
        Holds (is_beyond p d)
    answered_beyond no_ask p i d h = record {
      pending = sound.pending p i;
      tree = by_case (listed (beyond_or_unseen p) d h);
      none = no_windowed p (sound.pending p i);
    }
      where
        by_case : ((k : Kind) × IsBeyond program w b (Some p.offer) d k) ⊎ ((k : Kind) × IsBeyond program w b None d k × IsUnseenKind k) →
            ((k : Kind) × IsBeyond program w b (Some p.offer) d k) ⊎
            ((state.asks ≡ []) × ((k : Kind) × IsBeyond program w b None d k × IsUnseenKind k))
        by_case (inl j) = inl j
        by_case (inr j) = inr (no_ask, j)

    stalling : state.all_wait ≡ true → lists unseen ≡ [] → ((p : PendingOffer) → IsOneOf p state.by_client → lists (beyond_or_unseen p) ≡ []) →
        (p : PendingOffer) → IsOneOf p state.pending → Holds stalls
    stalling waits none_unseen none_beyond p pending = record {
      waits = waits;
      some = (p, pending);
      unseen = no_unseen_tree_no_unseen_step program size w answered.ready.executable answered.windows b (no_tree inside tt) (no_tree ends tt);
      never = λ o i. never o (none_meets o i)
          (λ d k h. none_asked (beyond_or_unseen o) (none_beyond o (sound.by_client o i)) d (inl (k, h)));
    }
      where
        no_tree : (k : Kind) → IsUnseenKind k → NoTree program w b None k
        no_tree k u d (inl i) = none_asked unseen none_unseen d (k, i, u)
        no_tree k u d (inr i) = none_asked (beyond_or_unseen p) (none_beyond p (sound.by_client p pending)) d (inr (k, i, u))

    waiting_holds : state.asks ≡ [] → Holds (waiting_next lists state)
    waiting_holds no_ask =
        when_holds Holds state.all_wait
        (if_some (lists unseen) goes_on (first_answered lists state beyond_or_unseen is_beyond state.by_client (stalled_next lists state)))
        nothing
        (λ waits. some_holds Holds (lists unseen) goes_on
        (first_answered lists state beyond_or_unseen is_beyond state.by_client (stalled_next lists state))
        (λ d i. going waits)
        (λ none_unseen. answered_holds lists state Holds beyond_or_unseen is_beyond state.by_client (stalled_next lists state)
        (answered_beyond no_ask)
        (λ none_beyond. some_holds Holds state.pending (λ ps. stalls) nothing (stalling waits none_unseen none_beyond) (λ none. tt))))
        (λ other. tt)

    asked_holds : (ps : List PendingOffer) → state.asks ≡ ps → Holds (asked_next lists state ps)
    asked_holds [] same = waiting_holds same
    asked_holds (p ∷ ps) same =
        there_holds Holds (lists (beyond p)) (is_beyond p) (is_not_now p)
        (λ d i. record {
          pending = sound.asks p asks;
          tree = inl (listed (beyond p) d i);
          none = no_windowed p (sound.asks p asks);
        })
        (λ none_beyond. record {
          asks = asks;
          never = never p (none_meets p (sound.asks p asks)) (λ d k h. none_asked (beyond p) none_beyond d (k, h));
        })
      where
        asks : IsOneOf p state.asks
        asks = subst (λ l. IsOneOf p l) (sym same) (inl refl)

  holds : Holds (next_of lists state)
  holds =
      answered_holds lists state Holds meeting takes state.pending
      (if_there (first (lists any)) (λ a. asked_next lists state state.asks)
      (if_there (first (lists any_beyond)) (λ a. asked_next lists state state.asks) (dead_next lists state)))
      taken
      (λ none_meets. there_holds Holds (lists any) (λ a. asked_next lists state state.asks)
      (if_there (first (lists any_beyond)) (λ a. asked_next lists state state.asks) (dead_next lists state))
      (λ a i. asked_holds none_meets state.asks refl)
      (λ none. there_holds Holds (lists any_beyond) (λ a. asked_next lists state state.asks) (dead_next lists state)
      (λ a i. asked_holds none_meets state.asks refl)
      (λ none_beyond. some_holds Holds state.pending (λ ps. deadlocks) nothing (λ p i. no_step none none_beyond) (λ empty. tt))))

pub next_entries_hold : NextEntriesHold
next_entries_hold program e size w b is_asked answered state sound = holds program e size w b is_asked answered state sound
