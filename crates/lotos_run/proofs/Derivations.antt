-- The trace that `run` writes is that of a derivation.
use Rattle.std.proofs.Common.{ℕ, ◌≡◌, ◌∙◌, List, [], ◌∷◌, ◌++◌, Option, Some, None, ap, append-nil, arith, codes, drop}
use Rattle.std.proofs.Common.{sym, take}
use Rattle.std.specs.Prelude.{IsSomeAnd}
use Rattle.std.proofs.lemmas.List.{take-append-drop}
use Rattle.std.proofs.lemmas.Option.{same_Some}
use Rattle.lotos_front.specs.Answers.{IsAccepted}
use Rattle.lotos_outside.specs.Shelf.{OnFetched}
use Rattle.lotos_outside.specs.Sink.{AppendsPrefix, with_more}
use Rattle.spec_core.specs.Code.{Program}
use Rattle.run_settings.specs.declared.settings.Settings.{Settings}
use Rattle.rule_model.specs.Events.{ending_of}
use Rattle.rule_model.specs.Logs.{events_of}
use Rattle.command_run.specs.declared.answer.Answer.{Answer}
use Rattle.command_run.specs.declared.answer.Answer.TheVariants as came
use Rattle.command_run.specs.Runs.{Comes}
use Rattle.command_words.specs.Commands.{Command, check, equal, migrate, replay, run, selfrun, sim}
use Rattle.session_laws.proofs.Legal.{driven_logs_are_derivations}
use Rattle.trace_text.specs.declared.format.Format.{Format}
use Rattle.lotos_run.specs.declared.run_text.SessionText.TheVariants.{Trace}
use Rattle.lotos_run.specs.declared.second_file.Second.TheVariants.{Script}
use Rattle.lotos_run.specs.declared.status.Status.{Status}
use Rattle.lotos_run.specs.declared.status.Status.TheVariants.{Done, Limit, Memory, NotADerivation, ReadFault, Refused, ScriptRefused}
use Rattle.lotos_run.specs.declared.status.Status.TheVariants.{Spent}
use Rattle.lotos_run.specs.declared.status.Status.TheVariants.{Usage, WriteFault}
use Rattle.lotos_run.specs.Checks.{IsReported}
use Rattle.lotos_run.specs.Derivations.{BeginsTrace, IsOfDerivation, WritesDerivation}
use Rattle.lotos_run.specs.Due.{IsDueUnread, IsToSimulate}
use Rattle.lotos_run.specs.Outside.{Shelved}
use Rattle.lotos_run.specs.Runs.{IsScripted}
use Rattle.lotos_run.specs.RunTexts.{text_of}
use Rattle.lotos_run.specs.SecondFiles.{IsSecondDue}
use Rattle.lotos_run.specs.Statuses.{IsFinal}
use Rattle.lotos_run.proofs.Fetched.{fetched_implied}

some_of : {A : Type 0} (P : A → Type 0) (o : Option A) → IsSomeAnd o P → (x : A) × P x
some_of P None h = absurd h
some_of P (Some x) h = (x, h)

-- a text that begins as traces do begins with these bytes
first_bytes : (text behind answer : List ℕ) → BeginsTrace text → answer ≡ text ++ behind →
    (rest : List ℕ) × (answer ≡ 108 ∷ 111 ∷ rest)
first_bytes text behind answer (rest, e) f =
    (codes "tos-trace " ++ rest ++ behind, f ∙ ap (λ z. z ++ behind) e ∙ search)

no_other_first : (c : ℕ) (answer rest more : List ℕ) → answer ≡ 108 ∷ rest → answer ≡ c ∷ more → c ≡ 108
no_other_first c answer rest more e f = let same : 108 ∷ rest ≡ c ∷ more = sym e ∙ f in cc

no_other_second : (c : ℕ) (answer rest more : List ℕ) → answer ≡ 108 ∷ 111 ∷ rest → answer ≡ 108 ∷ c ∷ more → c ≡ 111
no_other_second c answer rest more e f = let same : 108 ∷ 111 ∷ rest ≡ 108 ∷ c ∷ more = sym e ∙ f in cc

module _ (status : Status) (answer text behind : List ℕ) (spelled : answer ≡ text ++ behind) (begins : BeginsTrace text)
    (whole : IsFinal status → behind ≡ []) where
  no_first : (c : ℕ) (more : List ℕ) → answer ≡ c ∷ more → c ≡ 108
  no_first c more f = let b = first_bytes text behind answer begins spelled in no_other_first c answer (111 ∷ b.0) more b.1 f

  no_second : (c : ℕ) (more : List ℕ) → answer ≡ 108 ∷ c ∷ more → c ≡ 111
  no_second c more f = let b = first_bytes text behind answer begins spelled in no_other_second c answer b.0 more b.1 f

  module _ (program : Program) (format : Format) (settings : Settings) (script : List ℕ) where
    of_answer : (a : Answer) → Comes program settings script a → answer ≡ text_of (Trace format) program a →
        IsOfDerivation program format status text
    of_answer (came.Ran log end) h e =
        let session = h.come.session.whole in
        let d = driven_logs_are_derivations program settings _ session.stop (events_of log) session.last session.driven in
        record {
          log = events_of log;
          ending = ending_of end;
          clients = _;
          behaviour = d.0;
          start = d.1;
          last = session.last;
          derivation = d.2;
          behind = behind;
          spelled = sym e ∙ spelled;
          whole = whole;
        }
    of_answer (came.Spent t) h e = let same : 115 ≡ 108 = no_first 115 _ e in let never : ⊥ = omega (arith, same) in absurd never
    of_answer (came.TooLarge t) h e = let same : 97 ≡ 111 = no_second 97 _ e in let never : ⊥ = omega (arith, same) in absurd never
    of_answer (came.Refused line kind) h e = let same : 115 ≡ 108 = no_first 115 _ e in let never : ⊥ = omega (arith, same) in absurd never

    scripted : (s : Status) → IsScripted program script settings format s answer → IsOfDerivation program format status text
    scripted s h = of_answer h.came h.comes h.reported

  abbrev Derived : Format → List ℕ → Type 0
  Derived format bytes = (program : Program) × IsAccepted (take 4194305 bytes) program × IsOfDerivation program format status text

  module _ (settings : Settings) (workers : ℕ) (format : Format) (specification script : List ℕ) where
    by_files : (files : Option (List ℕ → Option (List ℕ))) (s : Status) →
        OnFetched files specification (λ bytes.
        (program : Program) × IsAccepted (take 4194305 bytes) program ×
        OnFetched files script (λ more. IsScripted program (take 1048577 more) settings format s answer)) →
        OnFetched files specification (Derived format)
    by_files None s h = tt
    by_files (Some file_of) s h =
        fetched_implied (λ bytes.
        (program : Program) × IsAccepted (take 4194305 bytes) program ×
        IsSomeAnd (file_of script) (λ more. IsScripted program (take 1048577 more) settings format s answer)) (Derived format)
        (λ bytes k.
        let r = some_of (λ more. IsScripted k.0 (take 1048577 more) settings format s answer) (file_of script) k.2 in
        (k.0, k.1, scripted k.0 format settings (take 1048577 r.0) s r.1)) (Some file_of) specification h

    second_derives : (shelf : Shelved) (s : Status) → IsSecondDue shelf (Script settings workers format) specification script s answer →
        OnFetched shelf.files specification (Derived format)
    second_derives shelf Refused h =
        fetched_implied (λ bytes. IsReported (take 4194305 bytes) answer) (Derived format)
        (λ bytes k.
        let same : 114 ≡ 108 = no_first 114 _ k.reported in
        let never : ⊥ = omega (arith, same) in
        absurd never) shelf.files specification h
    second_derives shelf ReadFault h = let same : 114 ≡ 108 = no_first 114 _ h.0 in let never : ⊥ = omega (arith, same) in absurd never
    second_derives shelf Done h = by_files shelf.files Done h
    second_derives shelf NotADerivation h = by_files shelf.files NotADerivation h
    second_derives shelf Spent h = by_files shelf.files Spent h
    second_derives shelf Limit h = by_files shelf.files Limit h
    second_derives shelf ScriptRefused h = by_files shelf.files ScriptRefused h
    second_derives shelf Usage h = absurd h
    second_derives shelf WriteFault h = absurd h
    second_derives shelf Memory h = absurd h

same_behind : (held a b : List ℕ) → held ++ a ≡ held ++ b → a ≡ b
same_behind [] a b e = e
same_behind (x ∷ held) a b e = let rest : held ++ a ≡ held ++ b = cc in same_behind held a b rest

nothing_behind : (a b : List ℕ) → a ≡ a ++ b → b ≡ []
nothing_behind [] b e = sym e
nothing_behind (x ∷ a) b e = let rest : a ≡ a ++ b = cc in nothing_behind a b rest

-- what was written, where the sink tells it
written : (held text more : List ℕ) (before after : Option (List ℕ)) → before ≡ Some held → after ≡ Some (held ++ text) →
    after ≡ with_more more before → text ≡ more
written held text more before after e f g =
    same_behind held text more (same_Some _ _ (sym f ∙ g ∙ ap (with_more more) e))

module _ (shelf : Shelved) (before after : Option (List ℕ)) (status : Status) where
  -- of a text that was due, and of which a prefix was written
  pub written_derives : (s : Status) (answer : List ℕ) (command : Option Command) → IsDueUnread shelf command s answer →
      AppendsPrefix answer before after → (IsFinal status → after ≡ with_more answer before) →
      WritesDerivation shelf.files before after status command
  written_derives s answer (Some (run specification script settings workers format)) due (count, part) all = λ held text e f begins.
      let is : text ≡ take count answer = written held text (take count answer) before after e f part in
      let spelled : answer ≡ text ++ drop count answer = sym (take-append-drop count answer) ∙ ap (λ z. z ++ drop count answer) (sym is) in
      second_derives status answer text (drop count answer) spelled begins
      (λ final.
      let same : text ≡ answer = written held text answer before after e f (all final) in
      nothing_behind text (drop count answer) (same ∙ spelled))
      settings workers format specification script shelf s due
  written_derives s answer None due part all = tt
  written_derives s answer (Some (check specification)) due part all = tt
  written_derives s answer (Some (equal specification first second budget)) due part all = tt
  written_derives s answer (Some (replay specification trace budget)) due part all = tt
  written_derives s answer (Some (migrate specification trace)) due part all = tt
  written_derives s answer (Some (sim specification settings)) due part all = tt
  written_derives s answer (Some (selfrun seed size workers)) due part all = tt

  -- of a simulation nothing is said
  pub simulated_derives : (program : Program) (settings : Settings) (command : Option Command) →
      IsToSimulate shelf command program settings →
      WritesDerivation shelf.files before after status command
  simulated_derives program settings None h = tt
  simulated_derives program settings (Some (run specification script chosen workers format)) h = absurd h
  simulated_derives program settings (Some (check specification)) h = tt
  simulated_derives program settings (Some (equal specification first second budget)) h = tt
  simulated_derives program settings (Some (replay specification trace budget)) h = tt
  simulated_derives program settings (Some (migrate specification trace)) h = tt
  simulated_derives program settings (Some (sim specification chosen)) h = tt
  simulated_derives program settings (Some (selfrun seed size workers)) h = tt

  -- nothing was written
  pub nothing_derives : after ≡ before → (command : Option Command) → WritesDerivation shelf.files before after status command
  nothing_derives same (Some (run specification script settings workers format)) = λ held text e f begins.
      let is : text ≡ [] = same_behind held text [] (same_Some _ _ (sym f ∙ same ∙ e ∙ ap Some (sym (append-nil held)))) in
      let never : ⊥ = cc in absurd never
  nothing_derives same None = tt
  nothing_derives same (Some (check specification)) = tt
  nothing_derives same (Some (equal specification first second budget)) = tt
  nothing_derives same (Some (replay specification trace budget)) = tt
  nothing_derives same (Some (migrate specification trace)) = tt
  nothing_derives same (Some (sim specification settings)) = tt
  nothing_derives same (Some (selfrun seed size workers)) = tt
