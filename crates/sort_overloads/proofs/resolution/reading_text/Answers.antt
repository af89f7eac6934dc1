use Rattle.std.proofs.Common.{map, ap, sym, ◌∙◌}
use Rattle.spec_core.specs.TermText.{term_text}
use Rattle.spec_core.specs.Terms.{term_of}
use Rattle.spec_core.specs.Theories.{operations_of}
use Rattle.sort_overloads.specs.Views.{declared_of, context_of}
use Rattle.sort_overloads.specs.Refused.{text_in}
use Rattle.sort_overloads.proofs.Loops.{map-through}
use Rattle.sort_overloads.proofs.resolution.reading_text.Goals as goal

pub returns : goal.returns
returns c =
    let names = c.deref.ensures.value ∙ c.in_ok-names.ensures ∙ sym (map-through (λ v. v.name) declared_of c.as_slice.result.now) ∙ ap (map (λ v. v.name)) c.as_slice.ensures.all in
    c.new.ensures ∙ c.in_ok-term_text.ensures.spelled
    ∙ ap (λ n. term_text c.args.scope.now.signature.sorts.items (operations_of c.args.scope.now.signature) n (term_of c.in_ok-term.term)) names
    ∙ ap (text_in (context_of c.args.scope.now)) c.in_ok-term.ensures
