-- The terms that entries ask.
use Rattle.std.proofs.Common.{ℕ, ◌≡◌, ◌⊎◌, sym, subst, inl, inr, Bool, true, false, List, [], ◌∷◌, ◌++◌, Result, Ok, Err, IfOk}
use Rattle.spec_core.specs.Code.{Program}
use Rattle.spec_core.specs.Executable.{IsExecutable}
use Rattle.spec_core.specs.Terms.{TermTree}
use Rattle.rewriter.specs.Answers.{IsWithin}
use Rattle.rule_model.specs.Events.{Event}
use Rattle.rule_model.specs.Legal.{IsPossible, IsDerivation}
use Rattle.rule_model.specs.States.{State}
use Rattle.log_check.specs.Checked.{LogAsks, LogTermsAreWithin, LogGroundTermsAreWithin, EntriesAsk, EntriesAreWithin}
use Rattle.log_check.specs.Entries.{BoundsEntry, EntryAsks, EntryTermsAreWithin, EntryGroundTermsAreWithin}
use Rattle.log_check.specs.Starting.{BeginsIn}
use Rattle.log_check.proofs.OneWay.{begins_once, possible_once}

module _ (program : Program) where
  -- an entry that asks no term
  pub asked_nowhere : {E : Type 0} (r : Result Bool E) (s : State) (e : Event) (budget : ℕ) → ((x : TermTree) → EntryAsks program s e x → ⊥) →
      IfOk r (BoundsEntry program s e budget)
  asked_nowhere (Ok true) s e budget none = λ x h. absurd (none x h)
  asked_nowhere (Ok false) s e budget none = λ x h fits. absurd (none x h)
  asked_nowhere (Err f) s e budget none = tt

  -- a term that is asked behind entries that are possible is asked by them all
  reached : (before : List Event) (e : Event) (after : List Event) (s t : State) (x : TermTree) → IsDerivation program before s t →
      EntryAsks program t e x → EntriesAsk program (before ++ e ∷ after) s x
  reached [] e after s t x h asks = inl (subst (λ z. EntryAsks program z e x) h asks)
  reached (y ∷ before) e after s t x (n, p, d) asks = inr (n, p, reached before e after n t x d asks)

  module _ (executable : IsExecutable program.theory) where
    -- what a log asks its entries ask, from the state on in which it begins
    asked_by_entries : (log : List Event) (s : State) (x : TermTree) → BeginsIn program log s → LogAsks program log x → EntriesAsk program log s x
    asked_by_entries log s x begins h =
        let first : h.comes.leads.first ≡ s = begins_once program log h.comes.leads.first s h.comes.leads.begins begins in
        let there : IsDerivation program h.comes.before s h.state =
        subst (λ z. IsDerivation program h.comes.before z h.state) first h.comes.leads.derivation in
        subst (λ l. EntriesAsk program l s x) (sym h.comes.all) (reached h.comes.before h.event h.comes.after s h.state x there h.asks)

    -- what entries ask is asked by those before, by this one, or by those behind it
    asked_where : (before : List Event) (e : Event) (after : List Event) (s t : State) (x : TermTree) → IsDerivation program before s t →
        EntriesAsk program (before ++ e ∷ after) s x →
        EntriesAsk program before s x ⊎ (EntryAsks program t e x ⊎ ((next : State) × IsPossible program t e next × EntriesAsk program after next x))
    asked_where [] e after s t x h (inl k) = inr (inl (subst (λ z. EntryAsks program z e x) (sym h) k))
    asked_where [] e after s t x h (inr k) = inr (inr (k.0, subst (λ z. IsPossible program z e k.0) (sym h) k.1, k.2))
    asked_where (y ∷ before) e after s t x h (inl k) = inl (inl k)
    asked_where (y ∷ before) e after s t x (n, p, d) (inr k) =
        let same : k.0 ≡ n = possible_once program executable y s k.0 n k.1 p in
        let rest = asked_where before e after n t x d (subst (λ z. EntriesAsk program (before ++ e ∷ after) z x) same k.2) in
        later rest
      where
        later : EntriesAsk program before n x ⊎ (EntryAsks program t e x ⊎ ((next : State) × IsPossible program t e next × EntriesAsk program after next x)) →
            EntriesAsk program (y ∷ before) s x ⊎ (EntryAsks program t e x ⊎ ((next : State) × IsPossible program t e next × EntriesAsk program after next x))
        later (inl m) = inl (inr (n, p, m))
        later (inr m) = inr m

    -- one entry more
    pub within_further : (budget : ℕ) (before : List Event) (e : Event) (s t : State) → IsDerivation program before s t →
        EntriesAreWithin program before s budget → EntryTermsAreWithin program t e budget → EntriesAreWithin program (before ++ e ∷ []) s budget
    within_further budget before e s t d earlier here x h = cases (asked_where before e [] s t x d h)
      where
        cases : EntriesAsk program before s x ⊎ (EntryAsks program t e x ⊎ ((next : State) × IsPossible program t e next × ⊥)) →
            IsWithin program.theory x budget
        cases (inl m) = earlier x m
        cases (inr (inl k)) = here x k
        cases (inr (inr k)) = absurd k.2

    -- a whole log, and one up to an entry that isn't possible
    pub log_within : (budget : ℕ) (log : List Event) (s : State) → BeginsIn program log s → EntriesAreWithin program log s budget →
        LogTermsAreWithin program log budget
    log_within budget log s begins within x h = within x (asked_by_entries log s x begins h)

    pub ground_within : (budget : ℕ) (log before after : List Event) (e : Event) (s t : State) → BeginsIn program log s →
        log ≡ before ++ e ∷ after → IsDerivation program before s t → EntriesAreWithin program before s budget →
        ((next : State) → IsPossible program t e next → ⊥) → EntryGroundTermsAreWithin program t e budget → LogGroundTermsAreWithin program log budget
    ground_within budget log before after e s t begins all d earlier never here x h fits =
        cases (asked_where before e after s t x d (subst (λ l. EntriesAsk program l s x) all (asked_by_entries log s x begins h)))
      where
        cases : EntriesAsk program before s x ⊎
            (EntryAsks program t e x ⊎ ((next : State) × IsPossible program t e next × EntriesAsk program after next x)) →
            IsWithin program.theory x budget
        cases (inl m) = earlier x m
        cases (inr (inl k)) = here x k fits
        cases (inr (inr k)) = absurd (never k.0 k.1)
