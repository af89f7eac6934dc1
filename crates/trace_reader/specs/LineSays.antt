-- What a line of a trace says.
use Rattle.std.specs.Prelude.{ℕ, ◌≡◌, List, ◌++◌, codes}
use Rattle.spec_core.specs.Code.{Program}
use Rattle.rule_model.specs.Events.{Event, Ending, event_of, ending_of}
use Rattle.trace_text.specs.declared.format.Format.{Format}
use Rattle.trace_text.specs.Fits.{EventFits, EndingFits}
use Rattle.trace_text.specs.Formats.{format_line}
use Rattle.trace_text.specs.Names.{names_in}
use Rattle.trace_text.specs.Trace.{end_word, event_line}
use Rattle.trace_reader.specs.declared.line.Line.{Line}
use Rattle.trace_reader.specs.declared.line.Line.TheVariants.{Says, Ends}
use Rattle.trace_reader.specs.Entries.{IsNumbered}

-- an entry whose line this is, behind a tree with the given text, is this one, but for the number in a reply
abbrev pub IsOnlyEntry : Program → Format → List ℕ → List ℕ → Event → Type 0
IsOnlyEntry program format tree text entry = (event : Event) → EventFits program event → text ≡ format_line (names_in program) format tree event →
    event_line (names_in program) entry ≡ event_line (names_in program) event

-- it isn't the line of an end
abbrev pub IsNoEnd : List ℕ → Type 0
IsNoEnd text = (rest : List ℕ) → text ≡ codes "end " ++ rest → ⊥

-- the line, without its LF, is that of this end; or, if it is any, it is that of this entry
abbrev pub LineIs : Program → Format → List ℕ → List ℕ → Line → Type 0
LineIs program format tree text (Says entry) = IsOnlyEntry program format tree text (event_of entry) × IsNoEnd text
LineIs program format tree text (Ends end) = text ≡ codes "end " ++ end_word (names_in program) (ending_of end)

abbrev pub LineFits : Program → Line → Type 0
LineFits program (Says entry) = EventFits program (event_of entry)
LineFits program (Ends end) = EndingFits program (ending_of end)

abbrev pub LineNumbered : ℕ → Line → Type 0
LineNumbered n (Says entry) = IsNumbered n (event_of entry)
LineNumbered n (Ends end) = Unit {0}

-- it is the line of no entry
abbrev pub IsNoEntry : Program → Format → List ℕ → List ℕ → Type 0
IsNoEntry program format tree text = (event : Event) → EventFits program event → text ≡ format_line (names_in program) format tree event → ⊥

-- nor is it that of an end
abbrev pub IsNoLine : Program → Format → List ℕ → List ℕ → Type 0
IsNoLine program format tree text = IsNoEntry program format tree text ×
    ((ending : Ending) → EndingFits program ending → text ≡ codes "end " ++ end_word (names_in program) ending → ⊥)
