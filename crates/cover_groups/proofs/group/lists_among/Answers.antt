use Rattle.std.proofs.Common.{◌≡◌, map, take, refl, sym, subst}
use Rattle.std.proofs.lemmas.List.{take_all}
use Rattle.spec_core.specs.Orthogonality.{HasNoLooseVariables}
use Rattle.spec_core.specs.Terms.{term_of}
use Rattle.spec_core.proofs.Lists.{each-at, map_next}
use Rattle.spec_core.proofs.Members.{some_image}
use Rattle.cover_groups.specs.Groups.{AllGive, premises_of}
use Rattle.cover_search.specs.Heads.{equations_at, headed_equation}
use Rattle.cover_groups.proofs.Grouping.{from_more, give_more}
use Rattle.cover_groups.proofs.group.lists_among.Goals as goal

pub add_list-requires-clause-closed : goal.add_list-requires-clause-closed
add_list-requires-clause-closed c =
    each-at HasNoLooseVariables headed_equation _ _ _ c.one-item.result refl
    c.loop-one-test.true c.one-item.is c.requires.closed

pub loop-one-preserved : goal.loop-one-preserved
loop-one-preserved c =
    let l = term_of c.args.left.now in
    let e = headed_equation c.one-item.result in
    let old = map premises_of c.loop-one.lists.items in
    let new = map premises_of c.add_list.new.lists.items in
    record {
      from = from_more (equations_at c.args.equations.now) l e old new
          (some_image (λ y. e ≡ y) headed_equation c.args.equations.now c.args.equations.now c.loop-one.one-index
          c.one-item.result refl c.loop-one-test.true c.one-item.is refl)
          c.in_ok-add_list.ensures c.loop-one.invariant.from;
      give = subst (AllGive l new) (sym (map_next headed_equation c.args.equations.now c.loop-one.one-index c.one-item.result c.loop-one-test.true c.one-item.is))
          (give_more l e old new (equations_at (take c.loop-one.one-index c.args.equations.now)) c.in_ok-add_list.ensures c.loop-one.invariant.give);
    }

pub returns : goal.returns
returns c = record {
  from = c.loop-one.invariant.from;
  give = subst (λ xs. AllGive (term_of c.args.left.now) (map premises_of c.loop-one.lists.items) (equations_at xs))
      (take_all c.loop-one.one-index c.args.equations.now c.loop-one-test.false)
      c.loop-one.invariant.give;
}
