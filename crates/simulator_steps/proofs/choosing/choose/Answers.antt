use Rattle.std.proofs.Common.{List, map, subst}
use Rattle.std.proofs.lemmas.Result.{IfOk-weaker}
use Rattle.board_lists.specs.declared.list.Candidate.{Candidate}
use Rattle.board_lists.specs.Listings.{tree_in}
use Rattle.simulator_steps.specs.Choosing.{ComesOfNumber}
use Rattle.simulator_steps.specs.Listing.{ComesOfLook}
use Rattle.simulator_steps.proofs.Stepping.{comes_of_choice}
use Rattle.simulator_steps.proofs.choosing.choose.Goals as goal

pub returns-in-Steps-clause-choice : goal.returns-in-Steps-clause-choice
returns-in-Steps-clause-choice c =
    let old = c.args.board.now in
    let listed = c.steps.new.board in
    let new = c.do_numbered.new.board in
    let h = c.in_ok-reply.ensures in
    let look = subst (ComesOfLook old listed c.args.number) c.in-Steps.is h.look in
    IfOk-weaker c.do_numbered.result _ _
    (λ chosen comes.
    comes_of_choice old listed new h.session h.log look.0 c.args.number c.in-Steps.listing look.2 chosen
    (subst (λ (cs : List Candidate). ComesOfNumber listed new (map tree_in cs) c.args.number chosen) c.deref.ensures.value comes))
    c.do_numbered.ensures.choice
