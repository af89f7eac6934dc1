use Rattle.std.proofs.Common.{rules, List, ◌≡◌, subst, arith}
use Rattle.lotos_ast.specs.declared.token.Token.{Token}
use Rattle.lotos_ast.specs.Notation.{Syntax}
use Rattle.lotos_ast.specs.Nesting.{Nesting}
use Rattle.lotos_ast.specs.Reads.{Tree, Reads}
use Rattle.behaviour_parser.proofs.Levels.{behaviour_joined, disable_joined, parallel_joined, choice_joined, behaviour_steps, disable_steps, parallel_steps, choice_steps, unary_steps}
use Rattle.behaviour_parser.proofs.behaviour.+behaviour.Goals as goal

at_nesting : {n d : Nesting} {g : Syntax} {s r : List Token} {x : Tree} → n ≡ d → Reads n g s x r → Reads d g s x r
at_nesting {g = g} {s = s} {r = r} {x = x} e h = subst (λ z. Reads z g s x r) e h

pub behaviour-returns-in_ok-enabled-clause-read : goal.behaviour-returns-in_ok-enabled-clause-read
behaviour-returns-in_ok-enabled-clause-read h c =
    behaviour_joined _ _ _ _ _ _ _ _ _ _ _ _ c.place-place.ensures c.in_ok-first.ensures.read c.place-sign.ensures
    (search rules) c.in_ok-pass.ensures.read
    c.in_ok-accepts.ensures.read (at_nesting c.in_ok-inner.ensures c.in_ok-right.ensures.read) c.in_ok-enabled.ensures.tree

pub disable-returns-in_ok-disabled-clause-read : goal.disable-returns-in_ok-disabled-clause-read
disable-returns-in_ok-disabled-clause-read h c =
    disable_joined _ _ _ _ _ _ _ _ _ _ c.place-place.ensures c.in_ok-first.ensures.read c.place-sign.ensures
    (search rules) c.in_ok-pass.ensures.read
    (at_nesting c.in_ok-inner.ensures c.in_ok-right.ensures.read) c.in_ok-disabled.ensures.tree

pub parallel-returns-in_ok-composed-clause-read : goal.parallel-returns-in_ok-composed-clause-read
parallel-returns-in_ok-composed-clause-read h c =
    parallel_joined _ _ _ _ _ _ _ _ _ _ _ c.place-place.ensures c.in_ok-first.ensures.read c.place-sign.ensures
    (search rules) c.in_ok-operator.ensures.read
    (at_nesting c.in_ok-inner.ensures c.in_ok-right.ensures.read) c.in_ok-composed.ensures.tree

pub choice-returns-in_ok-chosen-clause-read : goal.choice-returns-in_ok-chosen-clause-read
choice-returns-in_ok-chosen-clause-read h c =
    choice_joined _ _ _ _ _ _ _ _ _ _ c.place-place.ensures c.in_ok-first.ensures.read c.place-sign.ensures
    (search rules) c.in_ok-pass.ensures.read
    (at_nesting c.in_ok-inner.ensures c.in_ok-right.ensures.read) c.in_ok-chosen.ensures.tree

pub behaviour-returns-in_err-first-clause-halts : goal.behaviour-returns-in_err-first-clause-halts
behaviour-returns-in_err-first-clause-halts h c = search (behaviour_steps, rules)

pub behaviour-returns-in_err-pass-clause-halts : goal.behaviour-returns-in_err-pass-clause-halts
behaviour-returns-in_err-pass-clause-halts h c = search (behaviour_steps, rules)

pub behaviour-returns-in_err-accepts-clause-halts : goal.behaviour-returns-in_err-accepts-clause-halts
behaviour-returns-in_err-accepts-clause-halts h c = search (behaviour_steps, rules)

pub behaviour-returns-in_err-right-clause-halts : goal.behaviour-returns-in_err-right-clause-halts
behaviour-returns-in_err-right-clause-halts h c = search (behaviour_steps, rules)

pub behaviour-returns-in_err-inner-clause-halts : goal.behaviour-returns-in_err-inner-clause-halts
behaviour-returns-in_err-inner-clause-halts h c = grind (arith, behaviour_steps)

pub behaviour-returns-in_err-enabled-clause-halts : goal.behaviour-returns-in_err-enabled-clause-halts
behaviour-returns-in_err-enabled-clause-halts h c = grind (arith, behaviour_steps)

pub behaviour-returns-in_err-behaviour_alone-clause-halts : goal.behaviour-returns-in_err-behaviour_alone-clause-halts
behaviour-returns-in_err-behaviour_alone-clause-halts h c = grind (arith, behaviour_steps)

pub behaviour-returns-in_ok-behaviour_alone-clause-read : goal.behaviour-returns-in_ok-behaviour_alone-clause-read
behaviour-returns-in_ok-behaviour_alone-clause-read h c = grind (arith, behaviour_steps)

pub disable-returns-in_err-first-clause-halts : goal.disable-returns-in_err-first-clause-halts
disable-returns-in_err-first-clause-halts h c = search (disable_steps, rules)

pub disable-returns-in_err-pass-clause-halts : goal.disable-returns-in_err-pass-clause-halts
disable-returns-in_err-pass-clause-halts h c = search (disable_steps, rules)

pub disable-returns-in_err-right-clause-halts : goal.disable-returns-in_err-right-clause-halts
disable-returns-in_err-right-clause-halts h c = search (disable_steps, rules)

pub disable-returns-in_err-inner-clause-halts : goal.disable-returns-in_err-inner-clause-halts
disable-returns-in_err-inner-clause-halts h c = grind (arith, disable_steps)

pub disable-returns-in_err-disabled-clause-halts : goal.disable-returns-in_err-disabled-clause-halts
disable-returns-in_err-disabled-clause-halts h c = grind (arith, disable_steps)

pub disable-returns-in_err-disable_alone-clause-halts : goal.disable-returns-in_err-disable_alone-clause-halts
disable-returns-in_err-disable_alone-clause-halts h c = grind (arith, disable_steps)

pub disable-returns-in_ok-disable_alone-clause-read : goal.disable-returns-in_ok-disable_alone-clause-read
disable-returns-in_ok-disable_alone-clause-read h c = grind (arith, disable_steps)

pub parallel-returns-in_err-first-clause-halts : goal.parallel-returns-in_err-first-clause-halts
parallel-returns-in_err-first-clause-halts h c = search (parallel_steps, rules)

pub parallel-returns-in_err-operator-clause-halts : goal.parallel-returns-in_err-operator-clause-halts
parallel-returns-in_err-operator-clause-halts h c = search (parallel_steps, rules)

pub parallel-returns-in_err-right-clause-halts : goal.parallel-returns-in_err-right-clause-halts
parallel-returns-in_err-right-clause-halts h c = search (parallel_steps, rules)

pub parallel-returns-in_err-inner-clause-halts : goal.parallel-returns-in_err-inner-clause-halts
parallel-returns-in_err-inner-clause-halts h c = grind (arith, parallel_steps)

pub parallel-returns-in_err-composed-clause-halts : goal.parallel-returns-in_err-composed-clause-halts
parallel-returns-in_err-composed-clause-halts h c = grind (arith, parallel_steps)

pub parallel-returns-in_err-parallel_alone-clause-halts : goal.parallel-returns-in_err-parallel_alone-clause-halts
parallel-returns-in_err-parallel_alone-clause-halts h c = grind (arith, parallel_steps)

pub parallel-returns-in_ok-parallel_alone-clause-read : goal.parallel-returns-in_ok-parallel_alone-clause-read
parallel-returns-in_ok-parallel_alone-clause-read h c = grind (arith, parallel_steps)

pub choice-returns-in_err-first-clause-halts : goal.choice-returns-in_err-first-clause-halts
choice-returns-in_err-first-clause-halts h c = search (choice_steps, rules)

pub choice-returns-in_err-pass-clause-halts : goal.choice-returns-in_err-pass-clause-halts
choice-returns-in_err-pass-clause-halts h c = search (choice_steps, rules)

pub choice-returns-in_err-right-clause-halts : goal.choice-returns-in_err-right-clause-halts
choice-returns-in_err-right-clause-halts h c = search (choice_steps, rules)

pub choice-returns-in_err-inner-clause-halts : goal.choice-returns-in_err-inner-clause-halts
choice-returns-in_err-inner-clause-halts h c = grind (arith, choice_steps)

pub choice-returns-in_err-chosen-clause-halts : goal.choice-returns-in_err-chosen-clause-halts
choice-returns-in_err-chosen-clause-halts h c = grind (arith, choice_steps)

pub choice-returns-in_err-choice_alone-clause-halts : goal.choice-returns-in_err-choice_alone-clause-halts
choice-returns-in_err-choice_alone-clause-halts h c = grind (arith, choice_steps)

pub choice-returns-in_ok-choice_alone-clause-read : goal.choice-returns-in_ok-choice_alone-clause-read
choice-returns-in_ok-choice_alone-clause-read h c = grind (arith, choice_steps)

pub unary-returns-in_err-inner-in-Before-clause-halts : goal.unary-returns-in_err-inner-in-Before-clause-halts
unary-returns-in_err-inner-in-Before-clause-halts h c = grind (arith, unary_steps)

pub unary-returns-in_err-rest-in-Before-clause-halts : goal.unary-returns-in_err-rest-in-Before-clause-halts
unary-returns-in_err-rest-in-Before-clause-halts h c = grind (arith, unary_steps)

pub unary-returns-in_err-before-in-Before-clause-halts : goal.unary-returns-in_err-before-in-Before-clause-halts
unary-returns-in_err-before-in-Before-clause-halts h c = grind (arith, unary_steps)

pub unary-returns-in_err-inner-in-Around-clause-halts : goal.unary-returns-in_err-inner-in-Around-clause-halts
unary-returns-in_err-inner-in-Around-clause-halts h c = grind (arith, unary_steps)

pub unary-returns-in_err-inside-in-Around-clause-halts : goal.unary-returns-in_err-inside-in-Around-clause-halts
unary-returns-in_err-inside-in-Around-clause-halts h c = grind (arith, unary_steps)

pub unary-returns-in_err-around-in-Around-clause-halts : goal.unary-returns-in_err-around-in-Around-clause-halts
unary-returns-in_err-around-in-Around-clause-halts h c = grind (arith, unary_steps)

pub unary-returns-in_err-inner-in-Parenthesis-clause-halts : goal.unary-returns-in_err-inner-in-Parenthesis-clause-halts
unary-returns-in_err-inner-in-Parenthesis-clause-halts h c = grind (arith, unary_steps)

pub unary-returns-in_err-group-in-Parenthesis-clause-halts : goal.unary-returns-in_err-group-in-Parenthesis-clause-halts
unary-returns-in_err-group-in-Parenthesis-clause-halts h c = grind (arith, unary_steps)

pub unary-returns-in_err-pass-in-Parenthesis-clause-halts : goal.unary-returns-in_err-pass-in-Parenthesis-clause-halts
unary-returns-in_err-pass-in-Parenthesis-clause-halts h c = grind (arith, unary_steps)

pub unary-returns-in_err-grouped-in-Parenthesis-clause-halts : goal.unary-returns-in_err-grouped-in-Parenthesis-clause-halts
unary-returns-in_err-grouped-in-Parenthesis-clause-halts h c = grind (arith, unary_steps)

pub unary-returns-in_ok-before-in-Before-clause-read : goal.unary-returns-in_ok-before-in-Before-clause-read
unary-returns-in_ok-before-in-Before-clause-read h c = grind (arith, unary_steps)

pub unary-returns-in_ok-around-in-Around-clause-read : goal.unary-returns-in_ok-around-in-Around-clause-read
unary-returns-in_ok-around-in-Around-clause-read h c = grind (arith, unary_steps)

pub unary-returns-in_ok-grouped-in-Parenthesis-clause-read : goal.unary-returns-in_ok-grouped-in-Parenthesis-clause-read
unary-returns-in_ok-grouped-in-Parenthesis-clause-read h c = grind (arith, unary_steps)
