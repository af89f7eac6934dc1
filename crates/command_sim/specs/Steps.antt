-- What the steps of a simulation come to: a line, bytes, a piece of the input; and what was written.
use Rattle.std.specs.Prelude.{ℕ, ◌+◌, ◌≡◌, ◌<◌, ◌++◌, ◌⊎◌, List, Option, Some, None, length}
use Rattle.spec_core.specs.Code.{Program}
use Rattle.lotos_outside.specs.Sink.{with_more, AppendsPrefix}
use Rattle.simulator.specs.Sims.{SimView}
use Rattle.command_lines.specs.Inputs.{Input, Gave}
use Rattle.command_lines.specs.Lines.{said}
use Rattle.command_sim.specs.declared.end.End.{End}
use Rattle.command_sim.specs.declared.end.End.TheVariants.{Done}
use Rattle.command_sim.specs.Simulations.{Answers, AreTaken, EndBy, IsAnswered, IsTaken, IsWritten, Reads, ReadsFront}

-- a text was written whole
abbrev pub Wrote : List ℕ → Option (List ℕ) → Option (List ℕ) → Type 0
Wrote text before after = after ≡ with_more text before

-- where a line ended the simulation: fewer bytes stand behind it
abbrev pub HasFewer : Option End → List ℕ → List ℕ → Type 0
HasFewer None behind bytes = Unit {0}
HasFewer (Some end) behind bytes = length behind < length bytes

module _ (program : Program) where
  -- a line is answered, and its answer was written
  abbrev pub TookAnswer : SimView → List ℕ → Option (List ℕ) → SimView → Option (List ℕ) → Option End → Type 0
  TookAnswer old line before new after ending = (text : List ℕ) × IsAnswered program old new line text ending × Wrote text before after

  -- the same, but of its answer nothing was written, or a prefix
  abbrev pub CutAnswer : SimView → List ℕ → Option (List ℕ) → Option (List ℕ) → Type 0
  CutAnswer old line before after = (after ≡ before) ⊎
      ((new : SimView) × (text : List ℕ) × (ending : Option End) × IsAnswered program old new line text ending × AppendsPrefix text before after)

  -- a line is answered if it isn't empty, and its answer was written
  abbrev pub TookLine : SimView → List ℕ → Option (List ℕ) → SimView → Option (List ℕ) → Option End → Type 0
  TookLine old line before new after ending = (text : List ℕ) × IsTaken program old new line text ending × Wrote text before after

  -- the same, but of its answer nothing was written, or a prefix
  abbrev pub CutLine : SimView → List ℕ → Option (List ℕ) → Option (List ℕ) → Type 0
  CutLine old line before after = (after ≡ before) ⊎
      ((new : SimView) × (text : List ℕ) × (ending : Option End) × IsTaken program old new line text ending × AppendsPrefix text before after)

  -- Bytes are taken behind those of a line that hasn't ended, and the answers were written: of all lines that end in them; or up to one that ends
  -- the simulation.
  abbrev pub TakesBytes : SimView → List ℕ → List ℕ → SimView → List ℕ → List ℕ → Option End → Type 0
  TakesBytes old held bytes new left text None = Reads program old (held ++ bytes) text new left
  TakesBytes old held bytes new left text (Some end) =
      (behind : List ℕ) × ReadsFront program old (held ++ bytes) text (Some end) behind × (length behind < length bytes)

  abbrev pub TookBytes : SimView → List ℕ → List ℕ → Option (List ℕ) → SimView → List ℕ → Option (List ℕ) → Option End → Type 0
  TookBytes old held bytes before new left after ending =
      (text : List ℕ) × TakesBytes old held bytes new left text ending × Wrote text before after

  -- the same, as far as the answers could be written
  abbrev pub CutBytes : SimView → List ℕ → List ℕ → Option (List ℕ) → Option (List ℕ) → Type 0
  CutBytes old held bytes before after = (behind text : List ℕ) × (ending : Option End) ×
      ReadsFront program old (held ++ bytes) text ending behind × HasFewer ending behind bytes × AppendsPrefix text before after

  -- The last line is taken, behind which the input ends, and its answer was written.
  abbrev pub TookLast : SimView → List ℕ → Option (List ℕ) → Option (List ℕ) → End → Type 0
  TookLast old held before after end = (text : List ℕ) × Wrote text before after ×
      (EndBy program old (said held) text end ⊎ (Answers program old (said held) text None × (end ≡ Done)))

  abbrev pub CutLast : SimView → List ℕ → Option (List ℕ) → Option (List ℕ) → Type 0
  CutLast old held before after = (after ≡ before) ⊎
      ((text : List ℕ) × (ending : Option End) × Answers program old (said held) text ending × AppendsPrefix text before after)

  -- Bytes that were read are taken, where so many may be, and the answers were written: of all lines that end in them, and then so many may be
  -- taken; or the simulation ended.
  abbrev pub TakesRead : SimView → List ℕ → ℕ → List ℕ → SimView → List ℕ → ℕ → List ℕ → Option End → Type 0
  TakesRead old held room bytes new left room_left text None =
      Reads program old (held ++ bytes) text new left × (room_left + length bytes ≡ room)
  TakesRead old held room bytes new left room_left text (Some end) = AreTaken program old held room bytes text (Some end)

  abbrev pub TookRead : SimView → List ℕ → ℕ → List ℕ → Option (List ℕ) → SimView → List ℕ → ℕ → Option (List ℕ) → Option End → Type 0
  TookRead old held room bytes before new left room_left after ending =
      (text : List ℕ) × TakesRead old held room bytes new left room_left text ending × Wrote text before after

  abbrev pub CutRead : SimView → List ℕ → ℕ → List ℕ → Option (List ℕ) → Option (List ℕ) → Type 0
  CutRead old held room bytes before after =
      (text : List ℕ) × (ending : Option End) × AreTaken program old held room bytes text ending × AppendsPrefix text before after

  -- The same of the bytes that come next of an input, some of them, or of its end, or of a fault.
  abbrev pub TakesPiece : SimView → List ℕ → ℕ → Input → List ℕ → SimView → List ℕ → ℕ → List ℕ → Option End → Type 0
  TakesPiece old held room input bytes new left room_left text None =
      Reads program old (held ++ bytes) text new left × (room_left + length bytes ≡ room) × (0 < length bytes)
  TakesPiece old held room input bytes new left room_left text (Some end) = IsWritten program old held room input bytes text (Some end)

  abbrev pub TookPiece : SimView → List ℕ → ℕ → Input → Option (List ℕ) → SimView → List ℕ → ℕ → Option (List ℕ) → Option End → Type 0
  TookPiece old held room input before new left room_left after ending = (bytes text : List ℕ) × Gave input bytes ×
      TakesPiece old held room input bytes new left room_left text ending × Wrote text before after

  abbrev pub CutPiece : SimView → List ℕ → ℕ → Input → Option (List ℕ) → Option (List ℕ) → Type 0
  CutPiece old held room input before after = (bytes text : List ℕ) × (ending : Option End) × Gave input bytes ×
      IsWritten program old held room input bytes text ending × AppendsPrefix text before after

  -- the same of all that comes of an input, up to how the simulation ends
  abbrev pub TookAll : SimView → List ℕ → ℕ → Input → Option (List ℕ) → Option (List ℕ) → End → Type 0
  TookAll old held room input before after end = (bytes text : List ℕ) × Gave input bytes ×
      IsWritten program old held room input bytes text (Some end) × Wrote text before after
