use Rattle.std.proofs.Common.{◌≡◌, ◌++◌, map, reverse, string_bytes}
use Rattle.spec_core.specs.Numbers.{op_number}
use Rattle.value_text.specs.Unfinished.{rest_text}
use Rattle.value_text.specs.Values.{terms_in, value_text}
use Rattle.value_text.specs.Vocabularies.{theory_in}
use Rattle.value_text.proofs.value.put_value.Given as goal

abbrev pub invariant-loop-turn : goal.invariant-loop-turn
invariant-loop-turn l =
    string_bytes l.out ++
    rest_text (theory_in l.vocabulary) (reverse l.frames.items) (terms_in (theory_in l.vocabulary).operations (map op_number l.rest))
    ≡ string_bytes l.fn.out ++ value_text (theory_in l.vocabulary) l.value
