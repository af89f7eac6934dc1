use Rattle.std.proofs.Common.{◌≡◌, ◌++◌, sym, subst, IfOk, map}
use Rattle.std.specs.List.{flat_map}
use Rattle.spec_core.specs.Theories.{equation_of}
use Rattle.type_contents.specs.Contents as items
use Rattle.type_images.specs.Same as same
use Rattle.type_images.specs.Views.{shared_of}
use Rattle.type_equation_copies.specs.Copies as copies
use Rattle.type_equation_copies.specs.Contents as contents
use Rattle.type_equation_copies.specs.Views.{made_at}
use Rattle.type_equation_copies.proofs.made.made_by.Goals as goal

pub returns-in-Renamed-clause-all : goal.returns-in-Renamed-clause-all
returns-in-Renamed-clause-all c =
    subst (λ body. IfOk c.renamed.result (λ e. map shared_of e.all.items ≡ same.firsts (contents.all_by c.args.prepared.now.types.now (map made_at c.args.found.now) (map equation_of c.args.own.now) body)))
    (sym c.in-Renamed.is) c.renamed.ensures.all

pub returns-in-Renamed-clause-brought : goal.returns-in-Renamed-clause-brought
returns-in-Renamed-clause-brought c =
    subst (λ body. IfOk c.renamed.result (λ e. map shared_of e.brought.items ≡ contents.brings_by c.args.prepared.now.types.now (map made_at c.args.found.now) (map equation_of c.args.own.now) body))
    (sym c.in-Renamed.is) c.renamed.ensures.brought

pub returns-in-Actualized-clause-all : goal.returns-in-Actualized-clause-all
returns-in-Actualized-clause-all c =
    let types = c.args.prepared.now.types.now in
    let table = map made_at c.args.found.now in
    let news = copies.copy_numbers types (items.formals_of types (items.contents types) c.in-Actualized.source) c.in-Actualized.pairs in
    subst (λ body. IfOk c.actualized.result (λ e. map shared_of e.all.items ≡ same.firsts (contents.all_by types table (map equation_of c.args.own.now) body)))
    (sym c.in-Actualized.is)
    (subst (λ names. IfOk c.actualized.result (λ e. map shared_of e.all.items ≡ same.firsts (flat_map (contents.all_of types table) names ++ contents.copied types table c.in-Actualized.source news))) c.deref.ensures.value c.actualized.ensures.all)

pub returns-in-Actualized-clause-brought : goal.returns-in-Actualized-clause-brought
returns-in-Actualized-clause-brought c =
    subst (λ body. IfOk c.actualized.result (λ e. map shared_of e.brought.items ≡ contents.brings_by c.args.prepared.now.types.now (map made_at c.args.found.now) (map equation_of c.args.own.now) body))
    (sym c.in-Actualized.is) c.actualized.ensures.brought
