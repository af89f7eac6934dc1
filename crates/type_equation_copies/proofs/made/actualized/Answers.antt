use Rattle.std.proofs.Common.{◌≡◌, ◌++◌, ap, subst, ◌∙◌, IfOk, map}
use Rattle.std.specs.List.{flat_map, slice_index_or}
use Rattle.type_contents.specs.Contents as items
use Rattle.type_images.specs.Same as same
use Rattle.type_images.specs.Views.{shared_of}
use Rattle.type_equation_copies.specs.Copies as copies
use Rattle.type_equation_copies.specs.Contents as contents
use Rattle.type_equation_copies.specs.Views.{made_at}
use Rattle.type_equation_copies.proofs.made.actualized.Goals as goal

pub returns-clause-all : goal.returns-clause-all
returns-clause-all c =
    let types = c.args.prepared.now.types.now in
    let table = map made_at c.args.found.now in
    subst (λ news. IfOk c.copied.result (λ e. map shared_of e.all.items ≡ same.firsts (flat_map (contents.all_of types table) c.args.actuals.now ++ contents.copied types table c.args.source.now news)))
    (c.in_ok-news.ensures types c.requires.numbers ∙ ap (λ f. copies.copy_numbers types f c.args.pairs.now)
    (c.of_type-content.ensures.formals ∙ ap (λ t. (slice_index_or t c.in_ok-number.number items.no_content).formals) c.requires.contents ∙ ap (λ k. (slice_index_or (items.contents types) k items.no_content).formals) c.in_ok-number.ensures))
    c.copied.ensures.all

pub returns-clause-brought : goal.returns-clause-brought
returns-clause-brought c =
    let types = c.args.prepared.now.types.now in
    let table = map made_at c.args.found.now in
    subst (λ news. IfOk c.copied.result (λ e. map shared_of e.brought.items ≡ contents.newly_copied types table c.args.source.now news))
    (c.in_ok-news.ensures types c.requires.numbers ∙ ap (λ f. copies.copy_numbers types f c.args.pairs.now)
    (c.of_type-content.ensures.formals ∙ ap (λ t. (slice_index_or t c.in_ok-number.number items.no_content).formals) c.requires.contents ∙ ap (λ k. (slice_index_or (items.contents types) k items.no_content).formals) c.in_ok-number.ensures))
    c.copied.ensures.brought
