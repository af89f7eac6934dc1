use Rattle.std.proofs.Common.{rules, ◌≡◌, subst}
use Rattle.std.specs.Prelude.{option_map}
use Rattle.std.proofs.lemmas.Result.{IfOk-weaker}
use Rattle.static_constructs.specs.Constructs.{stops}
use Rattle.static_constructs.specs.Views.{construct_of}
use Rattle.static_constructs.specs.declared.construct.Construct.TheFolds.{the_lemmas}
use Rattle.static_readings.specs.Views.{functionality_of, output_of}
use Rattle.static_compiler.specs.Overs.{whole_of}
use Rattle.static_compiler.specs.Parts.{OpensRight, IsPartRead}
use Rattle.static_compiler.specs.Views.{joining_of}
use Rattle.static_compiler.proofs.Whole.{ok_with, read_as, inside_read, choice_read, disable_read, parallel_read, enable_read}
use Rattle.static_compiler.proofs.reader.+reading.Goals as goal

pub read-returns-in-Stop-clause-read : goal.read-returns-in-Stop-clause-read
read-returns-in-Stop-clause-read t c =
    let e : construct_of c.args.construct.now ≡ stops = search (rules, the_lemmas) in
    IfOk-weaker c.read_stop.result _ _
    (λ ends h. read_as c.args.site.now (construct_of c.args.construct.now) stops (output_of c.args.out.now) (output_of c.read_stop.new.out) (option_map functionality_of ends) e
    (h c.args.site.now))
    c.read_stop.ensures

pub read_around-returns-clause-read : goal.read_around-returns-clause-read
read_around-returns-clause-read t c = ok_with c.close.result
    (λ ends h same. inside_read c.args.site.now c.open.new.site (whole_of c.args.over) (construct_of c.args.part.now) (output_of c.args.out.now) (output_of c.open.new.out)
    (output_of c.read.new.out) (output_of c.close.new.out) c.in_ok-opened.opened (option_map functionality_of c.in_ok-found.found) (option_map functionality_of ends)
    c.in_ok-found.ensures.read h same c.in_ok-opened.ensures)
    c.close.ensures.stands c.close.ensures.refusals

pub read_choice-returns-clause-read : goal.read_choice-returns-clause-read
read_choice-returns-clause-read t c =
    let a = construct_of c.args.left.now in
    let b = construct_of c.args.right.now in
    IfOk-weaker c.join.result _ _
    (λ ends j. choice_read c.args.site.now c.args.place a b (output_of c.args.out.now) (output_of c.read_part.new.out) (output_of c.read_part-2.new.out) _
    c.in_ok-first.first c.in_ok-second.second (option_map functionality_of ends) c.in_ok-first.ensures.read
    (subst (λ z. IsPartRead z b (output_of c.read_part.new.out) (output_of c.read_part-2.new.out) c.in_ok-second.second) c.in_ok-first.ensures.site
    c.in_ok-second.ensures.read) j)
    c.join.ensures

pub read_disable-returns-clause-read : goal.read_disable-returns-clause-read
read_disable-returns-clause-read t c =
    let a = construct_of c.args.left.now in
    let b = construct_of c.args.right.now in
    IfOk-weaker c.join.result _ _
    (λ ends j. disable_read c.args.site.now c.args.place a b (output_of c.args.out.now) (output_of c.read_part.new.out) (output_of c.read_part-2.new.out) _
    c.in_ok-first.first c.in_ok-second.second (option_map functionality_of ends) c.in_ok-first.ensures.read
    (subst (λ z. IsPartRead z b (output_of c.read_part.new.out) (output_of c.read_part-2.new.out) c.in_ok-second.second) c.in_ok-first.ensures.site
    c.in_ok-second.ensures.read) j)
    c.join.ensures

pub read_parallel-returns-clause-read : goal.read_parallel-returns-clause-read
read_parallel-returns-clause-read t c =
    let a = construct_of c.args.left.now in
    let b = construct_of c.args.right.now in
    IfOk-weaker c.join.result _ _
    (λ ends j. parallel_read c.args.site.now c.args.place c.args.operator.now a b (output_of c.args.out.now) (output_of c.open_parallel.new.out)
    (output_of c.read_part.new.out) (output_of c.read_part-2.new.out) _ (option_map joining_of c.in_ok-joining.joining)
    c.in_ok-first.first c.in_ok-second.second (option_map functionality_of ends) c.in_ok-joining.ensures.joining
    c.in_ok-joining.ensures.code c.in_ok-joining.ensures.refusals c.in_ok-first.ensures.read
    (subst (λ z. IsPartRead z b (output_of c.read_part.new.out) (output_of c.read_part-2.new.out) c.in_ok-second.second)
    c.in_ok-first.ensures.site c.in_ok-second.ensures.read) j)
    c.join.ensures

pub read_enable-returns-clause-read : goal.read_enable-returns-clause-read
read_enable-returns-clause-read t c =
    let a = construct_of c.args.left.now in
    let b = construct_of c.args.right.now in
    let ds = c.args.accepts.now in
    IfOk-weaker c.join.result _ _
    (λ ends j. enable_read c.args.site.now c.args.place a ds b (output_of c.args.out.now) (output_of c.read_part.new.out) (output_of c.open_right.new.out)
    (output_of c.read_part-2.new.out) _ c.open_right.new.site c.in_ok-opened.opened c.in_ok-first.first c.in_ok-second.second
    (option_map functionality_of ends) c.in_ok-first.ensures.read
    (subst (λ z. OpensRight z ds (output_of c.read_part.new.out) (output_of c.open_right.new.out) c.open_right.new.site c.in_ok-opened.opened)
    c.in_ok-first.ensures.site c.in_ok-opened.ensures)
    c.in_ok-second.ensures.read j)
    c.join.ensures
