use Rattle.std.proofs.Common.{◌≡◌, ◌++◌, ◌∷◌, ◌∙◌, map, flat_map, refl, ap}
use Rattle.std.proofs.lemmas.Result.{IfOk-weaker}
use Rattle.spec_core.specs.Code.{synchronised_of}
use Rattle.spec_core.specs.Theories.{theory_of}
use Rattle.candidate_laws.specs.Sought.{with_another}
use Rattle.candidate_composites.specs.Contexts.{all_through, alone_by, turns_of}
use Rattle.candidate_composites.specs.Known.{found_of, sought_in, stepped}
use Rattle.candidate_composites.specs.Kept.{kept_partners, meeting, staying}
use Rattle.symbolic_plans.specs.declared.scheme.Row.TheVariants.{Parl}
use Rattle.candidate_composites.proofs.Contexts.{sides_and_both}
use Rattle.candidate_composites.proofs.known.put_beside.Goals as goal

pub returns : goal.returns
returns c =
    let theory = theory_of c.args.algebra.now in
    let gates = synchronised_of c.args.gates.now in
    let v = sought_in c.args.sought.now in
    let ps = map found_of c.args.left.items in
    let qs = map found_of c.args.right.items in
    let ts = turns_of c.args.context.now in
    let ms = meeting gates v ps in
    let both : map found_of c.in_ok-together.together.items ≡ flat_map (stepped (with_another gates) (kept_partners theory gates v qs)) ms =
    c.in_ok-together.ensures
    ∙ ap (λ l. flat_map (stepped (with_another gates) (kept_partners theory gates v (map found_of c.deref-2.result.now)))
    (meeting gates v (map found_of l))) c.deref.ensures.value
    ∙ ap (λ r. flat_map (stepped (with_another gates) (kept_partners theory gates v (map found_of r))) ms) c.deref-2.ensures.value in
    IfOk-weaker c.put_all_through-2.result _ _
    (λ _ e. sides_and_both theory gates v (staying gates v ps) ms qs ts (alone_by gates Parl ∷ ts) (turns_of c.under-at_right.result) refl
    c.under-at_right.ensures (map found_of c.args.all.now.items) (map found_of c.put_left.new.all.items)
    (map found_of c.put_all_through.new.all.items) (map found_of c.put_all_through-2.new.all.items) c.in_ok-put_left.ensures
    c.in_ok-put_all_through.ensures (e ∙ ap (λ z. map found_of c.put_all_through.new.all.items ++ all_through ts z) both))
    c.put_all_through-2.ensures
