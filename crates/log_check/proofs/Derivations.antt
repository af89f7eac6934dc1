-- Logs, one entry after another.
use Rattle.std.proofs.Common.{ℕ, suc, zero, ◌+◌, ◌<◌, ◌≡◌, ◌∙◌, refl, sym, ap, subst, arith, List, [], ◌∷◌, ◌++◌, map, take, drop, length, get_or, max}
use Rattle.std.proofs.lemmas.List.{map-append}
use Rattle.spec_core.specs.Code.{Program}
use Rattle.spec_core.specs.Executable.{IsExecutable}
use Rattle.spec_core.proofs.Lists.{take_next}
use Rattle.rule_model.specs.declared.log.Entry.{Entry}
use Rattle.rule_model.specs.Events.{Event, event_of}
use Rattle.rule_model.specs.Legal.{IsPossible, IsDerivation}
use Rattle.rule_model.specs.States.{State}
use Rattle.log_check.specs.Checked.{LeadsTo, ComesTo, Explains, FailsFrom}
use Rattle.log_check.specs.Starting.{BeginsIn, greatest_in, greatest_client}
use Rattle.log_check.specs.declared.fault.CheckFault.{CheckFault}
use Rattle.log_check.specs.declared.fault.CheckFault.TheVariants.{NotPossible, Spent, TooLarge, Memory}
use Rattle.log_check.proofs.Asked.{ground_within}

-- the events of entries, one more at a time
pub events_next : (es : List Entry) (i : ℕ) (e : Entry) → i < length es → e ≡ get_or es i e → map event_of (take (i + 1) es) ≡ map event_of (take i es) ++ event_of e ∷ []
events_next es i e within at = ap (map event_of) (take_next es i e within at) ∙ map-append event_of (take i es) (e ∷ [])

split_at : {A : Type 0} (xs : List A) (i : ℕ) (x : A) → i < length xs → x ≡ get_or xs i x → xs ≡ take i xs ++ x ∷ drop (i + 1) xs
split_at [] i x within at = absurd (omega (arith, within))
split_at (y ∷ ys) zero x within at = ap (λ z. z ∷ ys) (sym at)
split_at (y ∷ ys) (suc i) x within at =
    let e : suc (i + 1) ≡ suc i + 1 = omega arith in
    ap (λ zs. y ∷ zs) (split_at ys i x (omega (arith, within)) at) ∙ ap (λ n. y ∷ (take i ys ++ x ∷ drop n (y ∷ ys))) e

pub events_split : (es : List Entry) (i : ℕ) (e : Entry) → i < length es → e ≡ get_or es i e →
    map event_of es ≡ map event_of (take i es) ++ event_of e ∷ map event_of (drop (i + 1) es)
events_split es i e within at = ap (map event_of) (split_at es i e within at) ∙ map-append event_of (take i es) (e ∷ drop (i + 1) es)

pub events_before : (es : List Entry) (i : ℕ) → i < length es → length (map event_of (take i es)) ≡ i
events_before [] i within = absurd (omega (arith, within))
events_before (x ∷ es) zero within = refl
events_before (x ∷ es) (suc i) within = ap suc (events_before es i (omega (arith, within)))

greatest_both : (xs : List Event) (e : Event) → greatest_client (xs ++ e ∷ []) ≡ max (greatest_client xs) (greatest_in e)
greatest_both [] e = omega arith
greatest_both (x ∷ xs) e = ap (λ n. max (greatest_in x) n) (greatest_both xs e) ∙ omega arith

pub greatest_next : (es : List Entry) (i : ℕ) (e : Entry) (n : ℕ) → i < length es → e ≡ get_or es i e → n ≡ greatest_client (map event_of (take i es)) →
    max n (greatest_in (event_of e)) ≡ greatest_client (map event_of (take (i + 1) es))
greatest_next es i e n within at h =
    ap (λ k. max k (greatest_in (event_of e))) h ∙ sym (greatest_both (map event_of (take i es)) (event_of e)) ∙ sym (ap greatest_client (events_next es i e within at))

module _ (program : Program) where
  pub further : (xs : List Event) (e : Event) (s t u : State) → IsDerivation program xs s t → IsPossible program t e u → IsDerivation program (xs ++ e ∷ []) s u
  further [] e s t u h k = (u, subst (λ z. IsPossible program z e u) h k, refl)
  further (x ∷ xs) e s t u (next, p, d) k = (next, p, further xs e next t u d k)

  comes_to : (log : List Event) (s : State) (budget : ℕ) (f : CheckFault) (entry : ℕ) → BeginsIn program log s → (h : FailsFrom program log s budget f) → entry ≡ length h.before →
      ComesTo program log entry h.state h.event
  comes_to log s budget f entry b h e =
      record { before = h.before; after = h.after; all = h.all; place = e; leads = record { first = s; begins = b; derivation = h.derivation } }

  -- what a fault of entries says of the log that begins with them
  pub explains : IsExecutable program.theory → (log : List Event) (s : State) (budget : ℕ) (f : CheckFault) → BeginsIn program log s → FailsFrom program log s budget f → Explains program log budget f
  explains executable log s budget (NotPossible entry) b h = (
    record { state = h.state; event = h.event; comes = comes_to log s budget (NotPossible entry) entry b h h.fails.0; impossible = h.fails.1 },
    ground_within program executable budget log h.before h.after h.event s h.state b h.all h.derivation h.within h.fails.1 h.fails.2,
  )
  explains executable log s budget (Spent term) b h =
      (record { entry = length h.before; state = h.state; event = h.event; comes = comes_to log s budget (Spent term) (length h.before) b h refl; asks = h.fails.0 }, h.fails.1)
  explains executable log s budget (TooLarge term) b h =
      (record { entry = length h.before; state = h.state; event = h.event; comes = comes_to log s budget (TooLarge term) (length h.before) b h refl; asks = h.fails.0 }, h.fails.1)
  explains executable log s budget Memory b h = tt
