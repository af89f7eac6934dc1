use Rattle.std.proofs.Common.{◌≡◌, length, ap, ◌∙◌, arith}
use Rattle.std.specs.List.{zip}
use Rattle.type_contents.specs.Rounds.{rounds}
use Rattle.type_equation_copies.specs.Contents.{no_equations, made_from}
use Rattle.type_equation_copies.specs.Views.{stated_by}
use Rattle.type_equation_copies.proofs.Schedules.{none_made, zip_size}
use Rattle.type_equation_copies.proofs.schedule.made_by_rounds.Goals as goal

pub loop-round-init : goal.loop-round-init
loop-round-init c = none_made c.args.prepared.now.types.now c.args.own.now c.in_ok-found.found.items c.requires.own c.in_ok-found.ensures

pub returns : goal.returns
returns c =
    let types = c.args.prepared.now.types.now in
    let all = zip types (stated_by c.args.own.now) in
    let last : c.loop-round._round ≡ length all = omega (arith, c.loop-round-test.false, c.loop-round.auto._round-end, zip_size types c.args.own.now c.requires.own) in
    c.loop-round.invariant ∙ ap (rounds no_equations (made_from types) all) last
