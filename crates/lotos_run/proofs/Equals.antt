-- What comes of the terms of a file that was fetched is due.
use Rattle.std.proofs.Common.{ℕ, ◌≡◌, subst, sym, List, take}
use Rattle.lotos_outside.specs.Shelf.{OnFetched}
use Rattle.spec_core.specs.Theories.{Theory}
use Rattle.command_equal.specs.declared.answer.Answer.{Answer}
use Rattle.command_equal.specs.declared.answer.Answer.TheVariants as came
use Rattle.lotos_run.specs.declared.status.Status.{Status}
use Rattle.lotos_run.specs.declared.status.Status.TheVariants.{Done, Refused, Usage, ReadFault, WriteFault, Memory, Spent, Limit}
use Rattle.lotos_run.specs.declared.status.Status.TheVariants.{ScriptRefused, NotADerivation}
use Rattle.lotos_run.specs.EqualTexts.{status_of}
use Rattle.lotos_run.specs.Equals.{IsCompared, IsComparedIn, IsEqualDue}
use Rattle.lotos_run.specs.Outside.{Shelved}
use Rattle.lotos_run.proofs.Fetched.{fetched_implied}

-- the statuses with which terms are answered
abbrev pub IsOfTerms : Status → Type 0
IsOfTerms Done = Unit {0}
IsOfTerms Spent = Unit {0}
IsOfTerms Limit = Unit {0}
IsOfTerms ScriptRefused = Unit {0}
IsOfTerms _ = ⊥

of_terms : (a : Answer) → IsOfTerms (status_of a)
of_terms came.Equal = tt
of_terms came.Unequal = tt
of_terms (came.Spent t) = tt
of_terms (came.TooLarge t) = tt
of_terms (came.Refused line kind) = tt

is_of_terms : (theory : Theory) (first second : List ℕ) (budget : ℕ) (status : Status) (answer : List ℕ) →
    IsCompared theory first second budget status answer → IsOfTerms status
is_of_terms theory first second budget status answer h = subst IsOfTerms (sym h.due) (of_terms h.came)

module _ (shelf : Shelved) (name first second bytes : List ℕ) (budget : ℕ) (answer : List ℕ)
    (fetched : OnFetched shelf.files name (λ text. bytes ≡ take 4194305 text)) where
  of_file : (status : Status) → IsComparedIn bytes first second budget status answer →
      OnFetched shelf.files name (λ text. IsComparedIn (take 4194305 text) first second budget status answer)
  of_file status h =
      fetched_implied (λ text. bytes ≡ take 4194305 text) (λ text. IsComparedIn (take 4194305 text) first second budget status answer)
      (λ text e. subst (λ b. IsComparedIn b first second budget status answer) e h) shelf.files name fetched

  pub compared_due : (status : Status) → IsComparedIn bytes first second budget status answer →
      IsEqualDue shelf name first second budget status answer
  compared_due Done h = of_file Done h
  compared_due Refused h = of_file Refused h
  compared_due Spent h = of_file Spent h
  compared_due Limit h = of_file Limit h
  compared_due ScriptRefused h = of_file ScriptRefused h
  compared_due Usage (program, accepted, h) = absurd (is_of_terms program.theory first second budget Usage answer h)
  compared_due ReadFault (program, accepted, h) = absurd (is_of_terms program.theory first second budget ReadFault answer h)
  compared_due WriteFault (program, accepted, h) = absurd (is_of_terms program.theory first second budget WriteFault answer h)
  compared_due Memory (program, accepted, h) = absurd (is_of_terms program.theory first second budget Memory answer h)
  compared_due NotADerivation (program, accepted, h) = absurd (is_of_terms program.theory first second budget NotADerivation answer h)
