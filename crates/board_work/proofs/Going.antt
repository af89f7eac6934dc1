-- Sessions that go on by themselves.
use Rattle.std.proofs.Common.{ℕ, ◌≡◌, ◌∙◌, refl, sym, ap, subst, [], ◌∷◌, ◌++◌, map, append_assoc, append-nil, Option, Some, None, is_some, Bool, false, true, inl, inr}
use Rattle.std.specs.Prelude.{IfSome, IfNone}
use Rattle.std.proofs.lemmas.List.{append_cancel_left, map-append}
use Rattle.run_settings.specs.declared.settings.Settings.{Settings}
use Rattle.spec_core.specs.Code.{Program}
use Rattle.spec_core.proofs.Lists.{each_append}
use Rattle.rule_model.specs.declared.log.Entry.{Entry}
use Rattle.rule_model.specs.declared.reply.LimitKind.TheVariants.{Steps}
use Rattle.rule_model.specs.Derivations.{Derivation}
use Rattle.rule_model.specs.Events.{Event, event_of}
use Rattle.rule_model.specs.States.{PendingOffer, State}
use Rattle.decision_trees.specs.Rules.{Next, takes, deadlocks, is_beyond, is_not_now, goes_on, stalls, nothing}
use Rattle.board_laws.specs.declared.stop_reason.StopReason.{StopReason}
use Rattle.board_laws.specs.declared.stop_reason.StopReason.TheVariants.{Limit}
use Rattle.board_laws.specs.Next.{IsNextEvent, next_ended, next_by_rules, IsEventOf, IsStopReply}
use Rattle.board_laws.specs.StoppingLaws.{GiveReasons}
use Rattle.board_core.specs.Settled.{HasSettled, IsQuiet, IsSettled, settled_next, settled_stopped, settled_limit}
use Rattle.board_core.specs.Views.{BoardView, program, events, state, pieces, tree, windows, SameLog, SameSession, SameSetting}
use Rattle.board_core.specs.Working.{WhyNone}
use Rattle.session_laws.specs.Logs.{IsOfClient}
use Rattle.board_work.specs.Driven.{StaysDriven}
use Rattle.board_work.specs.Going.{GoesOn}
use Rattle.board_work.specs.Handed.{HandsIn}
use Rattle.board_work.proofs.Driving as driving

pub one_session : (a b c : BoardView) → SameSession a b → SameSession b c → SameSession a c
one_session a b c x y = (
  ((y.0.0.0 ∙ x.0.0.0, y.0.0.1 ∙ x.0.0.1), y.0.1 ∙ x.0.1, y.0.2 ∙ x.0.2),
  y.1 ∙ x.1,
)

abbrev Own : Entry → Type 0
Own entry = IsOfClient (event_of entry) → ⊥

-- an event that comes next, and one that tells a reason, is no client's

entry_is_own : (program : Program) (settings : Settings) (s : State) (entry : Next PendingOffer Derivation) (event : Event) →
    IsEventOf program settings s entry event → IsOfClient event → ⊥
entry_is_own program settings s (takes p d) event (some, a, e) own = subst IsOfClient e own
entry_is_own program settings s deadlocks event (p, least, e) own = subst IsOfClient e own
entry_is_own program settings s (is_beyond p d) event e own = subst IsOfClient e own
entry_is_own program settings s (is_not_now p) event e own = subst IsOfClient e own
entry_is_own program settings s (goes_on trees) event (some, d, at, a, e) own = subst IsOfClient e own
entry_is_own program settings s stalls event e own = subst IsOfClient e own
entry_is_own program settings s nothing event e own = e

next_is_own : (program : Program) (settings : Settings) (s : State) (event : Event) → IsNextEvent program settings s event →
    IsOfClient event → ⊥
next_is_own program settings s event (next_ended p ended least e) own = subst IsOfClient e own
next_is_own program settings s event (next_by_rules entry goes next comes) own = entry_is_own program settings s entry event comes own

told_is_own : (s : State) (reason : StopReason) (event : Event) → IsStopReply s reason event → IsOfClient event → ⊥
told_is_own s reason event (p, least, e) own = subst IsOfClient e own

settled_is_own : (old new : BoardView) (event : Event) → IsSettled old new event → IsOfClient event → ⊥
settled_is_own old new event (settled_next e f next known) = next_is_own (program old) old.settings (state old) event next
settled_is_own old new event (settled_stopped reason e f told) = told_is_own (state old) reason event told
settled_is_own old new event (settled_limit e f limit told) = told_is_own (state old) (Limit Steps) event told

-- an entry that the board settles
pub settles : (old new : BoardView) → SameSetting old new → HasSettled old new → GoesOn old new
settles old new setting h =
    let entry = h.one_more.0 in
    let is : event_of entry ∷ [] ≡ h.event ∷ [] =
    append_cancel_left (events old) (event_of entry ∷ []) (h.event ∷ [])
    (sym (map-append event_of old.session.entries (entry ∷ [])) ∙ sym (ap (map event_of) h.one_more.1) ∙ h.log) in
    record {
      setting = setting;
      more = entry ∷ [];
      log = h.one_more.1;
      own = (λ own. settled_is_own old new h.event h.why (subst IsOfClient (first_is is) own), tt);
      driven = driving.settled old new setting h;
    }
  where
    first_is : {A : Type 0} {x y : A} → x ∷ [] ≡ y ∷ [] → x ≡ y
    first_is e = cc

-- no entry
pub stays : (old new : BoardView) → SameSetting old new → SameLog old new → StaysDriven old new → GoesOn old new
stays old new setting log driven = record {
  setting = setting;
  more = [];
  log = log.2 ∙ sym (append-nil old.session.entries);
  own = tt;
  driven = driven;
}

pub rests : (old new : BoardView) → SameSetting old new → SameLog old new → new.stop ≡ old.stop → GoesOn old new
rests old new setting log stop = stays old new setting log (driving.nothing_happens old new setting log stop)

pub at_first : (v : BoardView) → GoesOn v v
at_first v = rests v v ((refl, refl), refl, refl) (refl, refl, refl) refl

pub quiet : (old new : BoardView) → SameSetting old new → IsQuiet old new → GoesOn old new
quiet old new setting h = stays old new setting h.log (driving.quiet old new setting h)

pub handed : (old new : BoardView) → HandsIn old new → GoesOn old new
handed old new h = stays old new h.session.0 h.log (driving.handed old new h.session.0 h)

pub none_taken : (old new : BoardView) → SameSetting old new → SameLog old new →
    GiveReasons (program old) old.settings (windows old) (tree old) (pieces old) (state old) → WhyNone old new → GoesOn old new
none_taken old new setting log gives why = stays old new setting log (driving.none_taken old new setting log gives why)

pub onward : (a b c : BoardView) → GoesOn a b → GoesOn b c → GoesOn a c
onward a b c x y = record {
  setting = (
    (y.setting.0.0 ∙ x.setting.0.0, y.setting.0.1 ∙ x.setting.0.1),
    y.setting.1 ∙ x.setting.1,
    y.setting.2 ∙ x.setting.2,
  );
  more = x.more ++ y.more;
  log = y.log ∙ ap (λ l. l ++ y.more) x.log ∙ append_assoc a.session.entries x.more y.more;
  own = each_append Own x.more y.more x.own y.own;
  driven = driving.onward a b c x.driven y.driven;
}

-- after what a board settles, if anything
pub after_settling : (a b : BoardView) → SameSession a b → (o : Option ℕ) (n : ℕ) → IfSome o (λ m. HasSettled a b × (m ≡ n)) →
    IfNone o (IsQuiet a b) → GoesOn a b
after_settling a b same (Some m) n h k = settles a b same.0 h.0
after_settling a b same None n h k = quiet a b same.0 k
