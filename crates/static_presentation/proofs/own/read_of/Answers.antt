use Rattle.std.proofs.Common.{◌≡◌, map, subst, ap, ◌∙◌}
use Rattle.spec_core.specs.Theories.{equation_of}
use Rattle.sort_overloads.specs.Judged.{Adds}
use Rattle.static_equations.specs.Bodies.{IsBodyJudged}
use Rattle.static_equations.specs.Gathered.{Gathers}
use Rattle.type_contents.specs.Views.{described_of, items_at}
use Rattle.static_presentation.specs.Moved.{moved_equation}
use Rattle.static_presentation.specs.Signatures.{numbers_had, context_at}
use Rattle.static_presentation.proofs.Had.{context_had}
use Rattle.static_presentation.proofs.OwnReadings.{read-moved}
use Rattle.static_presentation.proofs.own.read_of.Goals as goal

pub returns : goal.returns
returns c =
    let sorts = map described_of c.args.flat.now.sorts.items in
    let operations = map described_of c.args.flat.now.operations.items in
    let items = items_at c.args.table.now c.args.items.now in
    let written = map (λ b. b.now) c.args.written.now in
    let found = map equation_of c.in_ok-read.read.items in
    let old = c.args.refusals.now.items in
    let now = c.read_bodies.new.refusals.items in
    let had_sorts : c.in_ok-sorts.sorts.items ≡ numbers_had items sorts = c.in_ok-sorts.ensures ∙ ap (λ z. numbers_had items (map described_of z)) c.deref.ensures.value in
    let had_operations : c.in_ok-operations.operations.items ≡ numbers_had items operations =
    c.in_ok-operations.ensures ∙ ap (λ z. numbers_had items (map described_of z)) c.deref-2.ensures.value in
    let e : map equation_of c.in_ok-moved.moved.items ≡ map (moved_equation (numbers_had items sorts) (numbers_had items operations)) found =
    c.in_ok-moved.ensures
    ∙ ap (λ r. map (moved_equation c.deref-6.result.now c.deref-7.result.now) (map equation_of r)) c.deref-5.ensures.value
    ∙ ap (λ s. map (moved_equation s c.deref-7.result.now) found) (c.deref-6.ensures.value ∙ had_sorts)
    ∙ ap (λ o. map (moved_equation (numbers_had items sorts) o) found) (c.deref-7.ensures.value ∙ had_operations) in
    let scope =
    c.in_ok-scope.ensures ∙ ap (λ n. context_at sorts operations n c.deref-4.result.now) (c.deref-3.ensures.value ∙ had_sorts)
    ∙ ap (λ n. context_at sorts operations (numbers_had items sorts) n) (c.deref-4.ensures.value ∙ had_operations) ∙ context_had sorts operations items in
    record {
      read = read-moved sorts operations items written found (map equation_of c.in_ok-moved.moved.items) old now
          (subst (λ z. Adds (Gathers (IsBodyJudged z) written found) old now) scope c.in_ok-read.ensures.read) e;
    }
