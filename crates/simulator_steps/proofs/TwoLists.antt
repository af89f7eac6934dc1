-- What holds of the list of all trees.
use Rattle.std.proofs.Common.{◌≡◌, sym, subst, List}
use Rattle.run_settings.specs.declared.settings.Settings.{Settings}
use Rattle.spec_core.specs.Code.{Program}
use Rattle.spec_core.specs.Ready.{IsReady}
use Rattle.rule_model.specs.Behaviours.{Behaviour}
use Rattle.rule_model.specs.Derivations.{Derivation}
use Rattle.rule_model.specs.States.{State}
use Rattle.candidate_laws.proofs.Answers.{exact_answers_exist}
use Rattle.candidate_laws.proofs.Testing.{asked_can_be_tested}
use Rattle.candidate_laws.specs.Asked.{TestsAsked, TreeQuery}
use Rattle.candidate_laws.specs.TreeLaws.{lists_of}
use Rattle.client_laws.proofs.OneWindow.{one_windows}
use Rattle.board_core.specs.Views.{BoardView, program, state}
use Rattle.board_lists.specs.Listings.{HoldsOfTrees}

-- it holds whatever follows
pub holds_weaker : (program : Program) (settings : Settings) (s : State) (q : TreeQuery) (P Q : List Derivation → Type 0) →
    ((all : List Derivation) → P all → Q all) → HoldsOfTrees program settings s q P → HoldsOfTrees program settings s q Q
holds_weaker program settings s q P Q f h = record {
  windows = h.windows;
  of_session = h.of_session;
  holds = λ e is_asked exact tests. f (lists_of program e h.windows s.behaviour is_asked q) (h.holds e is_asked exact tests);
}

-- it holds in each state of the same behaviour
holds_there : (program : Program) (settings : Settings) (s t : State) (q : TreeQuery) (P : List Derivation → Type 0) →
    t.behaviour ≡ s.behaviour → HoldsOfTrees program settings s q P → HoldsOfTrees program settings t q P
holds_there program settings s t q P same h = record {
  windows = h.windows;
  of_session = h.of_session;
  holds = λ e is_asked exact tests.
      subst (λ (b : Behaviour). P (lists_of program e h.windows b is_asked q)) (sym same)
      (h.holds e is_asked exact (subst (λ (b : Behaviour). TestsAsked program h.windows b is_asked) same tests));
}

pub holds_on : (old new : BoardView) (q : TreeQuery) (P : List Derivation → Type 0) → program new ≡ program old →
    new.settings ≡ old.settings → (state new).behaviour ≡ (state old).behaviour →
    HoldsOfTrees (program old) old.settings (state old) q P → HoldsOfTrees (program new) new.settings (state new) q P
holds_on old new q P programs settings behaviours h =
    subst (λ (p : Program). HoldsOfTrees p new.settings (state new) q P) (sym programs)
    (subst (λ (k : Settings). HoldsOfTrees (program old) k (state new) q P) (sym settings)
    (holds_there (program old) old.settings (state old) (state new) q P behaviours h))

-- two facts that hold, hold of one list
pub both_hold : (program : Program) (settings : Settings) (s : State) (q : TreeQuery) (P Q : List Derivation → Type 0) → IsReady program →
    HoldsOfTrees program settings s q P → HoldsOfTrees program settings s q Q → (all : List Derivation) × P all × Q all
both_hold program settings s q P Q ready h k =
    let exact = exact_answers_exist program ready in
    let test = asked_can_be_tested program exact.0 h.windows exact.1 s.behaviour in
    let same : h.windows ≡ k.windows = one_windows program settings h.windows k.windows h.of_session k.of_session in
    let tests = subst (λ w. TestsAsked program w s.behaviour test.0) same test.1 in (
      lists_of program exact.0 h.windows s.behaviour test.0 q,
      h.holds exact.0 test.0 exact.1 test.1,
      subst (λ w. Q (lists_of program exact.0 w s.behaviour test.0 q)) (sym same) (k.holds exact.0 test.0 exact.1 tests),
    )
