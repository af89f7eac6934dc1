-- What comes of the file of a specification that is to be simulated.
use Rattle.std.proofs.Common.{ℕ, ◌≡◌, List, subst, take}
use Rattle.spec_core.specs.Code.{program_of}
use Rattle.lotos_front.specs.Answers.{IsAccepted}
use Rattle.lotos_outside.specs.Shelf.{OnFetched}
use Rattle.lotos_run.specs.declared.sim.Opened.{Opened}
use Rattle.lotos_run.specs.declared.sim.Opened.TheVariants.{Accepted, Instead}
use Rattle.lotos_run.specs.declared.status.Status.{Status}
use Rattle.lotos_run.specs.declared.status.Status.TheVariants.{Done, Refused, Usage, ReadFault, WriteFault, Memory, Spent, Limit}
use Rattle.lotos_run.specs.declared.status.Status.TheVariants.{ScriptRefused, NotADerivation}
use Rattle.lotos_run.specs.Checks.{IsReported}
use Rattle.lotos_run.specs.Outside.{Shelved}
use Rattle.lotos_run.specs.Sims.{IsFileOpened, IsOpened, IsOpeningDue, IsRefusedInstead}
use Rattle.lotos_run.proofs.Fetched.{fetched_implied}

module _ (shelf : Shelved) (specification bytes : List ℕ) (fetched : OnFetched shelf.files specification (λ text. bytes ≡ take 4194305 text)) where
  instead : (status : Status) (answer : List ℕ) → IsRefusedInstead bytes status answer → IsOpeningDue shelf specification status answer
  instead Refused answer h =
      fetched_implied (λ text. bytes ≡ take 4194305 text) (λ text. IsReported (take 4194305 text) answer)
      (λ text e. subst (λ b. IsReported b answer) e h) shelf.files specification fetched
  instead Done answer h = absurd h
  instead Usage answer h = absurd h
  instead ReadFault answer h = absurd h
  instead WriteFault answer h = absurd h
  instead Memory answer h = absurd h
  instead Spent answer h = absurd h
  instead Limit answer h = absurd h
  instead ScriptRefused answer h = absurd h
  instead NotADerivation answer h = absurd h

  pub file_opened : (opened : Opened) → IsOpened bytes opened → IsFileOpened shelf specification opened
  file_opened (Accepted checked) (accepted, ready) = (
    fetched_implied (λ text. bytes ≡ take 4194305 text) (λ text. IsAccepted (take 4194305 text) (program_of checked))
        (λ text e. subst (λ b. IsAccepted b (program_of checked)) e accepted) shelf.files specification fetched,
    ready,
  )
  file_opened (Instead answer) h = instead answer.status answer.text.items h
