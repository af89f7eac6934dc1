use Rattle.std.proofs.Common.{rules, IsTrue, map, subst, sym, ap, ◌∙◌}
use Rattle.spec_core.specs.Numbers.{op_number, sort_number}
use Rattle.spec_core.specs.Theories.{operation_of, theory_of}
use Rattle.sort_windows.specs.Found.{BeginsMembers}
use Rattle.sort_windows.proofs.Reached.{begins_members}
use Rattle.sort_windows.proofs.filling.fill_by.Goals as goal

pub fill_after-requires-clause-begins : goal.fill_after-requires-clause-begins
fill_after-requires-clause-begins c =
    let theory = theory_of c.args.algebra.now in
    let d = c.args.declaration.now in
    let yes : IsTrue c.is_constructor.result = search rules in
    let m = begins_members theory c.args.op.0 (operation_of d) (c.is_constructor.ensures.decides.0 yes) c.requires.declared in
    let n = subst (BeginsMembers theory d.result.0 (map sort_number d.args.items))
    (sym (c.new-front.ensures.spelled ∙ ap (map op_number) c.in_ok-vec.ensures.items)) m in
    subst (λ xs. BeginsMembers theory d.result.0 (map sort_number xs) c.new-front.result) (sym c.deref.ensures.value) n
