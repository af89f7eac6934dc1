-- A log has one answer at most.
use Rattle.std.proofs.Common.{ℕ, ◌<◌, ◌≤◌, ◌≡◌, ◌∙◌, sym, ap, subst, arith, List, [], ◌∷◌, ◌++◌, length}
use Rattle.spec_core.specs.Code.{Program}
use Rattle.spec_core.specs.Executable.{IsExecutable}
use Rattle.spec_core.specs.Terms.{TermTree}
use Rattle.rule_model.specs.Events.{Event}
use Rattle.rule_model.specs.Legal.{IsPossible, IsDerivation}
use Rattle.rule_model.specs.States.{State}
use Rattle.log_check.proofs.OneWay.{begins_once, possible_once}
use Rattle.log_check.specs.Checked.{ComesTo, IsDerivationOf, EndsAt, LogAsks}
use Rattle.log_check.specs.Laws.{LogsHaveOneAnswer}

-- of two parts of a list, each behind its beginning, the one with the shorter beginning stands in the other's
inside : {A : Type 0} (b c : List A) (v w : A) (a d : List A) → b ++ v ∷ a ≡ c ++ w ∷ d → length b < length c → (r : List A) × (c ≡ b ++ v ∷ r)
inside [] [] v w a d e h = absurd (omega (arith, h))
inside [] (x ∷ c) v w a d e h = let same : v ≡ x = cc in (c, ap (λ z. z ∷ c) (sym same))
inside (y ∷ b) [] v w a d e h = absurd (omega (arith, h))
inside (y ∷ b) (x ∷ c) v w a d e h =
    let rest : b ++ v ∷ a ≡ c ++ w ∷ d = cc in
    let first : y ≡ x = cc in
    let k = inside b c v w a d rest (omega (arith, h)) in
    (k.0, ap (λ z. x ∷ z) k.1 ∙ ap (λ z. z ∷ (b ++ v ∷ k.0)) (sym first))

module _ (program : Program) (executable : IsExecutable program.theory) where
  -- entries lead from a state to one state
  derived_once : (log : List Event) (s t u : State) → IsDerivation program log s t → IsDerivation program log s u → t ≡ u
  derived_once [] s t u h k = h ∙ sym k
  derived_once (e ∷ log) s t u (n, p, d) (m, q, f) =
      derived_once log m t u (subst (λ z. IsDerivation program log z t) (possible_once program executable e s n m p q) d) f

  -- entries in which one isn't possible lead nowhere
  not_past : (b r : List Event) (e : Event) (s t w : State) → IsDerivation program (b ++ e ∷ r) s t → IsDerivation program b s w →
      ((next : State) → IsPossible program w e next → ⊥) → ⊥
  not_past [] r e s t w (n, p, d) h never = never n (subst (λ z. IsPossible program z e n) (sym h) p)
  not_past (x ∷ b) r e s t w (n, p, d) (m, q, f) never =
      not_past b r e m t w (subst (λ z. IsDerivation program (b ++ e ∷ r) z t) (possible_once program executable x s n m p q) d) f never

  -- an entry up to which the log is a derivation doesn't come behind the one that isn't possible
  not_behind : (log : List Event) (entry other : ℕ) (s : State) (e : Event) → EndsAt program log entry → ComesTo program log other s e →
      entry < other → ⊥
  not_behind log entry other s e h k before =
      let first : h.comes.leads.first ≡ k.leads.first =
      begins_once program log h.comes.leads.first k.leads.first h.comes.leads.begins k.leads.begins in
      let there = inside h.comes.before k.before h.event e h.comes.after k.after (sym h.comes.all ∙ k.all) (omega (arith, h.comes.place, k.place, before)) in
      not_past h.comes.before there.0 h.event k.leads.first s h.state
      (subst (λ z. IsDerivation program z k.leads.first s) there.1 k.leads.derivation)
      (subst (λ z. IsDerivation program h.comes.before z h.state) first h.comes.leads.derivation) h.impossible

  not_whole : (log : List Event) (actions entry : ℕ) → IsDerivationOf program log actions → EndsAt program log entry → ⊥
  not_whole log actions entry h k =
      let first : h.leads.first ≡ k.comes.leads.first =
      begins_once program log h.leads.first k.comes.leads.first h.leads.begins k.comes.leads.begins in
      not_past k.comes.before k.comes.after k.event h.leads.first h.last k.state
      (subst (λ z. IsDerivation program z h.leads.first h.last) k.comes.all h.leads.derivation)
      (subst (λ z. IsDerivation program k.comes.before z k.state) (sym first) k.comes.leads.derivation) k.impossible

  counted_once : (log : List Event) (actions others : ℕ) → IsDerivationOf program log actions → IsDerivationOf program log others → actions ≡ others
  counted_once log actions others h k =
      let first : h.leads.first ≡ k.leads.first = begins_once program log h.leads.first k.leads.first h.leads.begins k.leads.begins in
      let last : h.last ≡ k.last =
      derived_once log k.leads.first h.last k.last (subst (λ z. IsDerivation program log z h.last) first h.leads.derivation) k.leads.derivation in
      h.counted ∙ ap (λ (s : State). s.actions) last ∙ sym k.counted

  ended_once : (log : List Event) (entry other : ℕ) → EndsAt program log entry → EndsAt program log other → entry ≡ other
  ended_once log entry other h k =
      let no = not_behind log entry other k.state k.event h k.comes in
      let nor = not_behind log other entry h.state h.event k h.comes in
      grind (arith, no, nor)

  asked_before : (log : List Event) (entry : ℕ) (x : TermTree) → EndsAt program log entry → (k : LogAsks program log x) → k.entry ≤ entry
  asked_before log entry x h k =
      let no = not_behind log entry k.entry k.state k.event h k.comes in
      grind (arith, no)

pub logs_have_one_answer : LogsHaveOneAnswer
logs_have_one_answer program ready log = record {
  counted = counted_once program ready.executable log;
  derived = not_whole program ready.executable log;
  ended = ended_once program ready.executable log;
  asked = asked_before program ready.executable log;
}
