use Rattle.std.proofs.Common.{length, ◌+◌, ◌∷◌, [], ap, sym, subst, ◌∙◌}
use Rattle.std.proofs.lemmas.List.{length-append}
use Rattle.spec_core.specs.Lists.{Each}
use Rattle.spec_core.proofs.Lists.{each_push}
use Rattle.equation_check.specs.Groups.{group_of, IsIndexed}
use Rattle.equation_check.proofs.Indexing.{group_pushed, nothing_indexed}
use Rattle.equation_check.proofs.groups.no_groups.Goals as goal

pub loop-preserved : goal.loop-preserved
loop-preserved c =
    let groups = c.loop.groups.items in
    let g = c.no_group.result in
    let more = c.in_ok-push.ensures.items in
    record {
      sized = ap length more ∙ length-append groups (g ∷ []) ∙ ap (λ n. n + 1) c.loop.invariant.sized;
      empty = λ f. ap (λ gs. group_of gs f) more ∙ group_pushed groups g c.loop.invariant.empty c.no_group.ensures.equations f;
      indexed = subst (Each IsIndexed) (sym more)
          (each_push IsIndexed groups g c.loop.invariant.indexed
          (nothing_indexed g c.no_group.ensures.equations c.no_group.ensures.places c.no_group.ensures.others));
    }
