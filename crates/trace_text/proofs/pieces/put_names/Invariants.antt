use Rattle.std.proofs.Common.{◌≡◌, ◌++◌, codes, flat_map, string_bytes, take}
use Rattle.trace_text.specs.Trace.{name_text}
use Rattle.trace_text.proofs.pieces.put_names.Given as goal

abbrev pub invariant-loop-name : goal.invariant-loop-name
invariant-loop-name l = string_bytes l.out ≡ string_bytes l.initial.out ++ flat_map (λ name. codes " " ++ name_text name) (take l.name-index l.names)
