-- Pieces of an input, one behind another.
use Rattle.std.proofs.Common.{ℕ, ◌+◌, ◌-◌, ◌^◌, ◌≡◌, ◌≤◌, List, [], ◌++◌, Option, Some, None, Result, length, subst, arith}
use Rattle.std.specs.Prelude.{IsErrOf, OnErr}
use Rattle.std.proofs.Math.Nat.{le-min, min-le_left, min-le_right}
use Rattle.std.proofs.lemmas.List.{length-append}
use Rattle.run_settings.specs.declared.settings.Settings.{Settings}
use Rattle.spec_core.specs.Code.{Program}
use Rattle.lotos_outside.specs.Counts.{Rose, next_count}
use Rattle.lotos_outside.specs.Source.{with_first}
use Rattle.simulator.specs.Sims.{SimView}
use Rattle.command_lines.specs.Inputs.{Input, inlet}
use Rattle.command_lines.proofs.Inputs.{gave_both}
use Rattle.command_lines.proofs.Written.{prefix_both}
use Rattle.command_sim.specs.declared.end.End.{End}
use Rattle.command_sim.specs.Simulations.{input_limit, Begins, IsCut, IsSimulated, IsWritten, Reads}
use Rattle.command_sim.specs.Steps.{CutPiece, TookAll, TookPiece, Wrote}
use Rattle.command_sim.proofs.Simulating.{reads_both, written_behind}
use Rattle.command_sim.proofs.Steps.{wrote_both}

pub rose_more : (first second third : ℕ) → first ≤ second → Rose second third → Rose first third
rose_more first second third few rose =
    let low : next_count first ≤ next_count second =
    le-min (omega (arith, few, min-le_left (first + 1) (2 ^ 64 - 1))) (min-le_right (first + 1) (2 ^ 64 - 1)) in
    omega (arith, low, rose)

-- an error, which one it is known
pub by_error : {T E : Type 0} (r : Result T E) (e : E) (P : Type 0) → OnErr r P → IsErrOf r e → P
by_error r e P h is = subst (λ r. OnErr r P) is h

module _ (program : Program) where
  -- a simulation that begins

  pub simulated_by : (settings : Settings) (s : SimView) (input : Input) (before after : Option (List ℕ)) (end : End) →
      Begins program settings s → TookAll program s [] input_limit input before after end →
      (text : List ℕ) × IsSimulated program settings input text (Some end) × Wrote text before after
  simulated_by settings s input before after end begins (bytes, text, gave, written, wrote) =
      (text, record { begun = s; begins = begins; given = bytes; gave = gave; written = written }, wrote)

  pub cut_by : (settings : Settings) (s : SimView) (input : Input) (before after : Option (List ℕ)) → Begins program settings s →
      CutPiece program s [] input_limit input before after → IsCut program settings input before after
  cut_by settings s input before after begins (bytes, text, ending, gave, written, prefix) =
      (text, ending, record { begun = s; begins = begins; given = bytes; gave = gave; written = written }, prefix)

  -- so many pieces were taken, or more, and all lines that end in them were answered
  abbrev pub Came : ℕ → SimView → ℕ → Option (List ℕ) → Option (List ℕ) → Option (List ℕ) → SimView → List ℕ → ℕ → Option (List ℕ) → Type 0
  Came count old room rest rest_left before new left room_left after = (bytes text : List ℕ) × (rest ≡ with_first bytes rest_left) ×
      Reads program old bytes text new left × (room_left + length bytes ≡ room) × (count ≤ length bytes) × Wrote text before after

  module _ (count : ℕ) (old between : SimView) (room middle_room : ℕ) (rest middle_rest rest_left : Option (List ℕ)) (before middle : Option (List ℕ))
      (held : List ℕ) (faults middle_faults faults_left : ℕ)
      (came : Came count old room rest middle_rest before between held middle_room middle) where
    pub one_more : (new : SimView) (left : List ℕ) (room_left : ℕ) (after : Option (List ℕ)) →
        TookPiece program between held middle_room (inlet middle_rest rest_left middle_faults faults_left) middle new left room_left after None →
        Came (count + 1) old room rest rest_left before new left room_left after
    one_more new left room_left after (more, second, gave, (reads, sum, some), wrote) =
        let (bytes, first, given, read, total, many, wrote_first) = came in (
          bytes ++ more,
          first ++ second,
          gave_both rest middle_rest rest_left bytes more given gave,
          reads_both program old between new bytes more first second held left read reads,
          omega (arith, length-append bytes more, sum, total),
          omega (arith, length-append bytes more, many, some),
          wrote_both first second before middle after wrote_first wrote,
        )

    module _ (few : faults ≤ middle_faults) where
      written_more : (more second : List ℕ) (ending : Option End) (bytes first : List ℕ) → Reads program old bytes first between held →
          middle_room + length bytes ≡ room →
          IsWritten program between held middle_room (inlet middle_rest rest_left middle_faults faults_left) more second ending →
          IsWritten program old [] room (inlet rest rest_left faults faults_left) (bytes ++ more) (first ++ second) ending
      written_more more second ending bytes first read sum h =
          written_behind program old between [] bytes first held room middle_room read sum (inlet rest rest_left faults faults_left)
          (inlet middle_rest rest_left middle_faults faults_left) (λ at. at) (λ rose. rose_more faults middle_faults faults_left few rose)
          more second ending h

      pub all_taken : (new : SimView) (left : List ℕ) (room_left : ℕ) (after : Option (List ℕ)) (end : End) →
          TookPiece program between held middle_room (inlet middle_rest rest_left middle_faults faults_left) middle new left room_left after (Some end) →
          TookAll program old [] room (inlet rest rest_left faults faults_left) before after end
      all_taken new left room_left after end (more, second, gave, h, wrote) =
          let (bytes, first, given, read, total, many, wrote_first) = came in (
            bytes ++ more,
            first ++ second,
            gave_both rest middle_rest rest_left bytes more given gave,
            written_more more second (Some end) bytes first read total h,
            wrote_both first second before middle after wrote_first wrote,
          )

      pub all_cut : (after : Option (List ℕ)) →
          CutPiece program between held middle_room (inlet middle_rest rest_left middle_faults faults_left) middle after →
          CutPiece program old [] room (inlet rest rest_left faults faults_left) before after
      all_cut after (more, second, ending, gave, h, prefix) =
          let (bytes, first, given, read, total, many, wrote_first) = came in (
            bytes ++ more,
            first ++ second,
            ending,
            gave_both rest middle_rest rest_left bytes more given gave,
            written_more more second ending bytes first read total h,
            prefix_both first second before middle after wrote_first prefix,
          )
