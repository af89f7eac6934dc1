-- What is answered behind the last line of a trace.
use Rattle.std.proofs.Common.{ℕ, ◌≡◌, ◌+◌, ◌≤◌, List, [], length, Result, Ok, Err, IfOk, IfErr, refl, sym, subst}
use Rattle.lotos_ast.specs.declared.text_kind.TextKind.TheVariants.{Form}
use Rattle.spec_core.specs.Code.{Program}
use Rattle.rule_model.specs.Events.{Event, Ending, ending_of}
use Rattle.rule_model.specs.Logs.{events_of}
use Rattle.trace_text.specs.declared.format.Format.{Format}
use Rattle.trace_reader.specs.declared.fault.TraceFault.{TraceFault}
use Rattle.trace_reader.specs.declared.fault.TraceFault.TheVariants.{Line}
use Rattle.trace_reader.specs.declared.trace.Trace.{Trace}
use Rattle.trace_reader.specs.Traces.{IsFault, IsFirstBad, IsTrace, bad_form, trace_limit}

pub ended_well : {E : Type 0} (program : Program) (text : List ℕ) (format : Format) (log : List Event) (ending : Ending) (behind : List ℕ)
    (r : Result Trace E) → (behind ≡ [] → IsTrace program text format log ending) →
    IfOk r (λ t. (t.format ≡ format) × (events_of t.log ≡ log) × (ending_of t.end ≡ ending) × (behind ≡ [])) →
    IfOk r (λ t. IsTrace program text t.format (events_of t.log) (ending_of t.end))
ended_well program text format log ending behind (Ok t) h k =
    subst (λ f. IsTrace program text f (events_of t.log) (ending_of t.end)) (sym k.0)
    (subst (λ l. IsTrace program text format l (ending_of t.end)) (sym k.1) (subst (IsTrace program text format log) (sym k.2) (h k.3)))
ended_well program text format log ending behind (Err e) h k = tt

pub ended_badly : {T : Type 0} (program : Program) (text : List ℕ) (number : ℕ) (behind : List ℕ) (r : Result T TraceFault) →
    length text ≤ trace_limit → ((behind ≡ [] → ⊥) → IsFirstBad program text (number + 1)) →
    IfErr r (λ f. (f ≡ Line (number + 1) Form) × (behind ≡ [] → ⊥)) → IfErr r (IsFault program text)
ended_badly program text number behind (Ok t) short h k = tt
ended_badly program text number behind (Err f) short h k = subst (IsFault program text) (sym k.0) (bad_form short refl (h k.1))
