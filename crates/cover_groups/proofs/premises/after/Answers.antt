use Rattle.std.proofs.Common.{◌+◌, ◌∷◌, [], List, Bor, map, take, subst, sym, ap, ◌∙◌}
use Rattle.std.proofs.lemmas.List.{map-append}
use Rattle.std.specs.Prelude.{Vec}
use Rattle.std.specs.declared.alloc.Global.{Global}
use Rattle.spec_core.specs.declared.term.Term.{Term}
use Rattle.spec_core.specs.Cover.{IsAfter}
use Rattle.spec_core.specs.Terms.{term_of}
use Rattle.spec_core.specs.Theories.{theory_of}
use Rattle.cover_groups.specs.Groups.{premises_at}
use Rattle.cover_groups.proofs.Fullness.{after_add, after_leave}
use Rattle.cover_groups.proofs.premises.after.Goals as goal
use Rattle.cover_groups.proofs.premises.after.Goals.{in-Some+in_ok-push, in_default}

pub loop-list-preserved : goal.loop-list-preserved
loop-list-preserved c =
    let theory = theory_of c.args.algebra.now in
    let t = term_of c.args.term.now in
    let k = c.args.constant.0 in
    elim c.match-rest_after.branch [
      | in-Some+in_ok-push w ↦
          after_add theory premises_at t k c.args.lists.now c.loop-list.list-index c.list-item.result c.loop-list-test.true c.list-item.is
          (map premises_at c.loop-list.all.items) (map premises_at c.match-rest_after.all.items) (premises_at w.in-Some.rest)
          c.loop-list.invariant w.in-Some.ensures.some
          (ap (λ (v : Vec (Bor (List (Term × Term))) Global). map premises_at v.items) w.all-is ∙ ap (map premises_at) w.in_ok-push.ensures.items
          ∙ map-append premises_at c.loop-list.all.items (w.in-Some.rest ∷ []))
      | in_default w ↦
          subst (λ (v : Vec (Bor (List (Term × Term))) Global). IsAfter theory t k (map premises_at (take (c.loop-list.list-index + 1) c.args.lists.now)) (map premises_at v.items))
          (sym w.all-is)
          (after_leave theory premises_at t k c.args.lists.now c.loop-list.list-index c.list-item.result c.loop-list-test.true c.list-item.is
          (map premises_at c.loop-list.all.items) c.loop-list.invariant c.requires.begin w.in_default.ensures.none)
    ]
