use Rattle.std.proofs.Common.{◌≡◌, ◌++◌, ◌∙◌, ◌∷◌, [], false, true, refl, sym, ap, map, rules}
use Rattle.std.proofs.lemmas.Result.{IfOk-weaker}
use Rattle.spec_core.specs.Theories.{theory_of}
use Rattle.spec_core.specs.Code.{synchronised_of}
use Rattle.candidate_laws.specs.Sought.{under_one, sought_below}
use Rattle.node_trees.specs.Shapes.{shape_of, unary_of, over, between, choosing, beside, disabling}
use Rattle.candidate_composites.specs.Known.{found_of, sought_in}
use Rattle.candidate_composites.specs.Contexts.{over_by, all_through, alone_by, some_joint, turns_of}
use Rattle.candidate_composites.specs.Joining.{joining_of, right_of, free}
use Rattle.candidate_composites.specs.Kept.{kept_beside, kept_plans, meeting, offering, prunes, staying}
use Rattle.symbolic_plans.specs.declared.scheme.Row.TheVariants.{Parl}
use Rattle.candidate_composites.proofs.Contexts.{all_offered, rises_over, rises_whole, chosen, interrupted, sides_alone}
use Rattle.candidate_composites.proofs.known.+put_kept.Goals as goal

pub put_kept-returns-in_ok-below-in-Over : goal.put_kept-returns-in_ok-below-in-Over
put_kept-returns-in_ok-below-in-Over t c =
    let theory = theory_of c.args.algebra.now in
    let v = sought_in c.args.sought.now in
    let j = joining_of c.args.joining in
    let ts = turns_of c.args.context.now in
    let a = map found_of c.args.all.now.items in
    let o = unary_of c.in-Over.operator in
    let x = shape_of c.deref.result.now in
    let shape : shape_of c.args.branch.now ≡ over o x = search rules in
    IfOk-weaker c.put_kept.result _ _
    (λ _ e. e
    ∙ ap (λ u. a ++ all_through (over_by o ∷ ts) (kept_plans theory c.args.listed x u free)) c.in_ok-below-in-Over.ensures
    ∙ ap (λ z. a ++ z) (rises_over o ts (kept_plans theory c.args.listed x (sought_below (under_one o) v) free))
    ∙ ap (λ s. a ++ all_through ts (kept_plans theory c.args.listed s v j)) (sym shape))
    c.put_kept.ensures

pub put_kept-returns-in_ok-put_kept-in-Choice : goal.put_kept-returns-in_ok-put_kept-in-Choice
put_kept-returns-in_ok-put_kept-in-Choice t c =
    let theory = theory_of c.args.algebra.now in
    let v = sought_in c.args.sought.now in
    let j = joining_of c.args.joining in
    let ts = turns_of c.args.context.now in
    let a = map found_of c.args.all.now.items in
    let x = shape_of c.deref-in-Choice.result.now in
    let y = shape_of c.deref-in-Choice-2.result.now in
    let shape : shape_of c.args.branch.now ≡ between choosing x y = search rules in
    IfOk-weaker c.put_kept-in-Choice-2.result _ _
    (λ _ e. chosen theory (kept_plans theory c.args.listed x v j) (kept_plans theory c.args.listed y v j) ts
    (turns_of c.under-at_left.result) (turns_of c.under-at_right.result) c.under-at_left.ensures c.under-at_right.ensures a
    (map found_of c.put_kept-in-Choice.new.all.items) (map found_of c.put_kept-in-Choice-2.new.all.items)
    c.in_ok-put_kept-in-Choice.ensures e
    ∙ ap (λ s. a ++ all_through ts (kept_plans theory c.args.listed s v j)) (sym shape))
    c.put_kept-in-Choice-2.ensures

pub put_kept-returns-in_ok-put_kept-in-Disable : goal.put_kept-returns-in_ok-put_kept-in-Disable
put_kept-returns-in_ok-put_kept-in-Disable t c =
    let theory = theory_of c.args.algebra.now in
    let v = sought_in c.args.sought.now in
    let j = joining_of c.args.joining in
    let ts = turns_of c.args.context.now in
    let a = map found_of c.args.all.now.items in
    let x = shape_of c.deref-in-Disable.result.now in
    let y = shape_of c.deref-in-Disable-2.result.now in
    let shape : shape_of c.args.branch.now ≡ between disabling x y = search rules in
    IfOk-weaker c.put_kept-in-Disable-2.result _ _
    (λ _ e. interrupted theory (kept_plans theory c.args.listed x v j) (kept_plans theory c.args.listed y v j) ts
    (turns_of c.under-at_left-in-Disable.result) (turns_of c.under-at_right-in-Disable.result) c.under-at_left-in-Disable.ensures
    c.under-at_right-in-Disable.ensures a
    (map found_of c.put_kept-in-Disable.new.all.items) (map found_of c.put_kept-in-Disable-2.new.all.items)
    c.in_ok-put_kept-in-Disable.ensures e
    ∙ ap (λ s. a ++ all_through ts (kept_plans theory c.args.listed s v j)) (sym shape))
    c.put_kept-in-Disable-2.ensures

pub put_kept-returns-in-Par : goal.put_kept-returns-in-Par
put_kept-returns-in-Par t c =
    let theory = theory_of c.args.algebra.now in
    let v = sought_in c.args.sought.now in
    let j = joining_of c.args.joining in
    let ts = turns_of c.args.context.now in
    let a = map found_of c.args.all.now.items in
    let gates = synchronised_of c.in-Par.gates in
    let x = shape_of c.deref-in-Par.result.now in
    let y = shape_of c.deref-in-Par-2.result.now in
    let shape : shape_of c.args.branch.now ≡ between (beside gates) x y = search rules in
    IfOk-weaker c.put_parallel.result _ _
    (λ _ e. e ∙ ap (λ s. a ++ all_through ts (kept_plans theory c.args.listed s v j)) (sym shape))
    c.put_parallel.ensures

pub put_parallel-returns-in_ok-put_kept-2 : goal.put_parallel-returns-in_ok-put_kept-2
put_parallel-returns-in_ok-put_kept-2 t c =
    let theory = theory_of c.args.algebra.now in
    let v = sought_in c.args.sought.now in
    let j = joining_of c.args.joining in
    let ts = turns_of c.args.context.now in
    let a = map found_of c.args.all.now.items in
    let gates = synchronised_of c.args.gates.now in
    let ps = kept_plans theory c.args.listed (shape_of c.args.left.now) v j in
    let above = right_of (prunes c.args.listed) (beside gates) (offering (beside gates) v ps) j in
    let rs = kept_plans theory c.args.listed (shape_of c.args.right.now) v (joining_of c.right_of-above.result) in
    let qs = kept_plans theory c.args.listed (shape_of c.args.right.now) v above in
    let those = map found_of c.put_kept-then-meets.new.all.items in
    let first : map found_of c.put_kept.new.all.items ≡ ps =
    c.in_ok-put_kept.ensures ∙ ap (λ l. map found_of l ++ all_through [] ps) c.new-first.ensures.items ∙ rises_whole ps in
    let some : some_joint gates (meeting gates v ps) ≡ true =
    sym (c.in_ok-meets.ensures
    ∙ ap (λ l. some_joint gates (meeting gates v (map found_of l))) c.deref.ensures.value
    ∙ ap (λ l. some_joint gates (meeting gates v l)) first)
    ∙ c.if-meets.true in
    let joins : joining_of c.right_of-above.result ≡ above =
    c.right_of-above.ensures
    ∙ ap (λ l. right_of (prunes c.args.listed) (beside gates) (map found_of l) j) c.deref-then-meets.ensures.value
    ∙ ap (λ l. right_of (prunes c.args.listed) (beside gates) l j) (first ∙ sym (all_offered gates v ps some)) in
    let second : those ≡ qs =
    c.in_ok-put_kept-2.ensures
    ∙ ap (λ l. map found_of l ++ all_through [] rs) c.new-second.ensures.items
    ∙ rises_whole rs
    ∙ ap (kept_plans theory c.args.listed (shape_of c.args.right.now) v) joins in
    IfOk-weaker c.put_beside.result _ _
    (λ _ e. e
    ∙ ap (λ l. a ++ all_through ts (kept_beside theory gates v (staying gates v l) (meeting gates v l) those)) first
    ∙ ap (λ l. a ++ all_through ts (kept_beside theory gates v (staying gates v ps) (meeting gates v ps) l)) second)
    c.put_beside.ensures

pub put_parallel-returns-in_ok-put_left : goal.put_parallel-returns-in_ok-put_left
put_parallel-returns-in_ok-put_left t c =
    let theory = theory_of c.args.algebra.now in
    let v = sought_in c.args.sought.now in
    let j = joining_of c.args.joining in
    let ts = turns_of c.args.context.now in
    let a = map found_of c.args.all.now.items in
    let b = map found_of c.put_left.new.all.items in
    let gates = synchronised_of c.args.gates.now in
    let x = shape_of c.args.left.now in
    let y = shape_of c.args.right.now in
    let ps = kept_plans theory c.args.listed x v j in
    let first : map found_of c.put_kept.new.all.items ≡ ps =
    c.in_ok-put_kept.ensures ∙ ap (λ l. map found_of l ++ all_through [] ps) c.new-first.ensures.items ∙ rises_whole ps in
    let none : some_joint gates (meeting gates v ps) ≡ false =
    sym (c.in_ok-meets.ensures
    ∙ ap (λ l. some_joint gates (meeting gates v (map found_of l))) c.deref.ensures.value
    ∙ ap (λ l. some_joint gates (meeting gates v l)) first)
    ∙ c.if-meets.false in
    let us = alone_by gates Parl ∷ ts in
    let vs = turns_of c.under-at_right.result in
    let left : b ≡ a ++ all_through us (staying gates v ps) =
    c.in_ok-put_left.ensures ∙ ap (λ l. a ++ all_through us (staying gates v l)) first in
    let joins : joining_of c.right_of-above-else-meets.result ≡ right_of (prunes c.args.listed) (beside gates) [] j =
    c.right_of-above-else-meets.ensures in
    IfOk-weaker c.put_kept-else-meets.result _ _
    (λ _ e. sides_alone theory c.args.listed gates x y v j ts us vs refl c.under-at_right.ensures a b
    (map found_of c.put_kept-else-meets.new.all.items) none left
    (e ∙ ap (λ k. b ++ all_through vs (kept_plans theory c.args.listed y v k)) joins))
    c.put_kept-else-meets.ensures
