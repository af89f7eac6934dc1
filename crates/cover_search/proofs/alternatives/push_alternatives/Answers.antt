use Rattle.std.proofs.Common.{◌≡◌, ◌-◌, ◌<◌, length, map, take, get_or, ap, arith}
use Rattle.std.proofs.lemmas.List.{length-map}
use Rattle.spec_core.specs.declared.items.Op.{Op}
use Rattle.spec_core.specs.Numbers.{op_number}
use Rattle.spec_core.specs.Terms.{term_of, terms}
use Rattle.spec_core.specs.Theories.{operation_of, theory_of}
use Rattle.cover_search.specs.Search.{stack_of}
use Rattle.cover_search.proofs.Constructing.{one_comes, constructor_within, all_came, last_parted, declared}
use Rattle.cover_search.proofs.alternatives.push_alternatives.Goals as goal

pub index-declaration-requires : goal.index-declaration-requires
index-declaration-requires c =
    let theory = theory_of c.args.algebra.now in
    let ops = c.args.algebra.now.signature.ops.items in
    let cs = c.of_sort-constructors.result.now in
    let place = c.loop-place.place in
    let none : Op = record { 0 = 0 } in
    let within : (get_or cs (place - 1) none).0 < length theory.operations = constructor_within theory c.args.sort (terms (map term_of c.args.row.now)) (terms (map term_of c.args.pattern.now))
    (map op_number (take place cs)) (map op_number (take (place - 1) cs)) (get_or cs (place - 1) none).0
    (stack_of c.args.todo.now.items) (stack_of c.loop-place.todo.items)
    (last_parted cs place none c.loop-place-test.true c.loop-place.invariant.inside) c.loop-place.invariant.coming in
    omega (arith, within, length-map ops operation_of)

pub loop-place-preserved : goal.loop-place-preserved
loop-place-preserved c =
    let theory = theory_of c.args.algebra.now in
    let row = terms (map term_of c.args.row.now) in
    let ps = terms (map term_of c.args.pattern.now) in
    let ops = c.args.algebra.now.signature.ops.items in
    let cs = c.of_sort-constructors.result.now in
    let place = c.loop-place.place in
    let none : Op = record { 0 = 0 } in
    let parted = last_parted cs place none c.loop-place-test.true c.loop-place.invariant.inside in
    let within : (get_or cs (place - 1) none).0 < length theory.operations = constructor_within theory c.args.sort row ps (map op_number (take place cs)) (map op_number (take (place - 1) cs)) (get_or cs (place - 1) none).0
    (stack_of c.args.todo.now.items) (stack_of c.loop-place.todo.items) parted c.loop-place.invariant.coming in
    record {
      inside = omega (arith, c.loop-place.invariant.inside);
      coming = one_comes theory c.args.sort row ps (map op_number (take place cs)) (map op_number (take (place - 1) cs)) (get_or cs (place - 1) none).0
          (operation_of c.index-declaration.result.now) c.args.index.now.inhabited
          (stack_of c.args.todo.now.items) (stack_of c.loop-place.todo.items) (stack_of c.push_alternative.new.todo.items)
          c.requires.index.inhabited parted
          (declared ops (get_or cs (place - 1) none).0 c.index-declaration.result.now (omega (arith, within, length-map ops operation_of)) c.index-declaration.ensures)
          c.loop-place.invariant.coming c.in_ok-push_alternative.ensures.opened;
      candidates = λ rows numbers is h all. c.in_ok-push_alternative.ensures.candidates rows numbers is h (c.loop-place.invariant.candidates rows numbers is h all);
    }

pub returns-clause-alternatives : goal.returns-clause-alternatives
returns-clause-alternatives c =
    let cs = c.of_sort-constructors.result.now in
    let none : c.loop-place.place ≡ 0 = omega (arith, c.loop-place-test.false) in
    all_came (theory_of c.args.algebra.now) c.args.sort (terms (map term_of c.args.row.now)) (terms (map term_of c.args.pattern.now))
    (map op_number (take c.loop-place.place cs)) (stack_of c.args.todo.now.items) (stack_of c.loop-place.todo.items)
    (ap (λ n. map op_number (take n cs)) none) c.loop-place.invariant.coming
