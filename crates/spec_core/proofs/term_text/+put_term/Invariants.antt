use Rattle.std.proofs.Common.{◌≡◌, ◌++◌, map, take, length, string_bytes}
use Rattle.spec_core.specs.Terms.{terms, term_of}
use Rattle.spec_core.specs.TermText.{joined, separator, term_texts}
use Rattle.spec_core.specs.Theories.{operations_of}
use Rattle.spec_core.proofs.term_text.+put_term.Given as goal

abbrev pub invariant-loop-i : goal.invariant-loop-i
invariant-loop-i l =
    string_bytes l.out ≡
    string_bytes l.initial.out ++
    joined (separator l.declaration.name (length l.args.items))
    (term_texts l.signature.sorts.items (operations_of l.signature) l.names (terms (map term_of (take l.i l.args.items))))
