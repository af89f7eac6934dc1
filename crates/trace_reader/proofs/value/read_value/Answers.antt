use Rattle.std.proofs.Common.{rules, ◌≡◌, ◌∙◌, ◌++◌, Some, ap, sym}
use Rattle.spec_core.specs.Code.{program_of}
use Rattle.value_reader.specs.Views.{bytes_of}
use Rattle.value_text.specs.Values.{value_text}
use Rattle.value_text.specs.Vocabularies.{theory_in}
use Rattle.trace_reader.proofs.Valued.{some_alike, value_found}
use Rattle.trace_reader.proofs.value.read_value.Goals as goal

pub returns-in-Some-2-clause-finds : goal.returns-in-Some-2-clause-finds
returns-in-Some-2-clause-finds c x rest fits ends e =
    let whole : Some c.in-Some.text.now ≡ Some (value_text (theory_in c.args.vocabulary.now) x ++ rest) =
    ap bytes_of (sym c.in-Some.is) ∙ c.rest.ensures ∙ e in
    let one =
    value_found (program_of c.args.vocabulary.now.checked.now) c.requires.readable.fits c.requires.readable.named c.in-Some.text.now
    c.in-Some-2.value c.in-Some-2.rest.now x rest (search rules) (search rules) (search rules) fits ends
    (some_alike c.in-Some.text.now (value_text (theory_in c.args.vocabulary.now) x ++ rest) whole) in
    (one.0, c.stand.ensures ∙ ap Some one.1)
