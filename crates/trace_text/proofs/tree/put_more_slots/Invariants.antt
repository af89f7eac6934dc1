use Rattle.std.proofs.Common.{◌≡◌, ◌++◌, codes, flat_map, string_bytes, take}
use Rattle.trace_text.specs.Trace.{slot_text}
use Rattle.trace_text.specs.Names.{names_with}
use Rattle.trace_text.proofs.tree.put_more_slots.Given as goal

abbrev pub invariant-loop-slot : goal.invariant-loop-slot
invariant-loop-slot l =
    string_bytes l.out
    ≡ string_bytes l.initial.out ++ flat_map (λ other. codes "," ++ slot_text (names_with l.vocabulary) other) (take l.slot-index l.slots)
