use Rattle.std.proofs.Common.{rules, ◌≡◌, ◌∙◌, ◌++◌, ap, sym, Some, None, ℕ, List}
use Rattle.std.proofs.lemmas.Bool.Decides.{Decides-eqb}
use Rattle.std.proofs.lemmas.Slice.Eq.{strip_prefix_is}
use Rattle.spec_core.specs.Code.{program_of}
use Rattle.value_text.specs.Values.{value_text}
use Rattle.value_text.specs.Vocabularies.{theory_in}
use Rattle.value_reader.proofs.Values.{no_end, no_prefix, none_read, only_read}
use Rattle.value_reader.proofs.value.read_value.Goals as goal

pub returns-in-None-clause-none : goal.returns-in-None-clause-none
returns-in-None-clause-none c =
    none_read (program_of c.args.vocabulary.now.checked.now) c.requires.fits c.requires.named c.args.text.now
    (sym c.in-None.is ∙ c.in_ok-candidate.ensures.read)

pub returns-in-None-strip_prefix-clause-none : goal.returns-in-None-strip_prefix-clause-none
returns-in-None-strip_prefix-clause-none c =
    let printed : c.as_bytes.result.now ≡ value_text (theory_in c.args.vocabulary.now) c.in-Some.value = search rules in
    no_prefix (program_of c.args.vocabulary.now.checked.now) c.requires.fits c.requires.named c.args.text.now c.in-Some.value
    c.as_bytes.result.now (sym c.in-Some.is ∙ c.in_ok-candidate.ensures.read) printed
    (strip_prefix_is Decides-eqb c.args.text.now c.as_bytes.result.now None c.in-None-strip_prefix.ensures.cases)

pub returns-then-ends_value-clause-spelled : goal.returns-then-ends_value-clause-spelled
returns-then-ends_value-clause-spelled c =
    let printed : c.as_bytes.result.now ≡ value_text (theory_in c.args.vocabulary.now) c.in-Some.value = search rules in
    strip_prefix_is Decides-eqb c.args.text.now c.as_bytes.result.now (Some c.in-Some-strip_prefix.rest) c.in-Some-strip_prefix.ensures.cases
    ∙ ap (λ (l : List ℕ). l ++ c.in-Some-strip_prefix.rest.now) printed

pub returns-then-ends_value-clause-only : goal.returns-then-ends_value-clause-only
returns-then-ends_value-clause-only c =
    let printed : c.as_bytes.result.now ≡ value_text (theory_in c.args.vocabulary.now) c.in-Some.value = search rules in
    only_read (program_of c.args.vocabulary.now.checked.now) c.requires.fits c.requires.named c.args.text.now c.in-Some.value
    c.in-Some-strip_prefix.rest.now (sym c.in-Some.is ∙ c.in_ok-candidate.ensures.read)
    (strip_prefix_is Decides-eqb c.args.text.now c.as_bytes.result.now (Some c.in-Some-strip_prefix.rest) c.in-Some-strip_prefix.ensures.cases
    ∙ ap (λ (l : List ℕ). l ++ c.in-Some-strip_prefix.rest.now) printed)

pub returns-clause-none : goal.returns-clause-none
returns-clause-none c =
    let printed : c.as_bytes.result.now ≡ value_text (theory_in c.args.vocabulary.now) c.in-Some.value = search rules in
    no_end (program_of c.args.vocabulary.now.checked.now) c.requires.fits c.requires.named c.args.text.now c.in-Some.value
    c.in-Some-strip_prefix.rest.now (sym c.in-Some.is ∙ c.in_ok-candidate.ensures.read)
    (strip_prefix_is Decides-eqb c.args.text.now c.as_bytes.result.now (Some c.in-Some-strip_prefix.rest) c.in-Some-strip_prefix.ensures.cases
    ∙ ap (λ (l : List ℕ). l ++ c.in-Some-strip_prefix.rest.now) printed) (sym c.ends_value.ensures ∙ c.if-ends_value.false)
