-- The laws of the grammar.
use Rattle.std.proofs.Common.{List, [], ◌∷◌, ◌++◌, subst, sym}
use Rattle.std.proofs.lemmas.List.{append-nil, append_cancel_right}
use Rattle.lotos_ast.specs.declared.token.Token.{Token}
use Rattle.lotos_ast.specs.Notation.{Syntax}
use Rattle.lotos_ast.specs.declared.fault.Fault.{Fault}
use Rattle.lotos_ast.specs.Nesting.{unlimited}
use Rattle.lotos_ast.specs.Reads.{Stops}
use Rattle.lotos_ast.specs.Conditions.{NeverTakesEnd, HasShortestTexts}
use Rattle.lotos_ast.specs.Fronts.{IsFront, ComesAt, UnexpectedAt}
use Rattle.lotos_ast.specs.GrammarLaws.{OneTree, TreeOrFault, OneFault, RulesAreWellFormed, TypesAreWellFormed, StopsAtFirst, FrontsAreViable, SpelledIsRead, ReadWithoutLimits, StopsWithoutLimits, FrontBeforeFault, ReadOrTooDeep, StopsOrTooDeep}
use Rattle.lotos_ast.proofs.OneReading.{one_reading, never_both, one_place}
use Rattle.lotos_ast.proofs.Limits.{reads_unlimited, stops_unlimited, read_within, stops_within}
use Rattle.lotos_ast.proofs.Fronts.{before_is_front, none_goes_on, viable_front}
use Rattle.lotos_ast.proofs.Grows.{front_viable}
use Rattle.lotos_ast.proofs.Spelled.{onward_not_end, spells_whole, reads_spelled}

pub one_tree : OneTree
one_tree d g s r q x y h k = one_reading h k

pub tree_or_fault : TreeOrFault
tree_or_fault d f g s r q x h k = never_both k h

pub one_fault : OneFault
one_fault d f e g s r q h k = one_place h k

-- reading has at most one result
pub ruleset one_result = (one_tree, tree_or_fault, one_fault)

comes : (g : Syntax) (f : Fault) (before rest : List Token) → Stops unlimited f g (before ++ rest) rest → ComesAt g before rest
comes g f before [] h = λ w. never_both (subst (λ z. Stops unlimited f g z []) (append-nil before) h) w.1
comes g f before (t ∷ u) h = none_goes_on g f before u t h

pub unexpected_at : (g : Syntax) (f : Fault) (s rest : List Token) → NeverTakesEnd g → HasShortestTexts g → Stops unlimited f g s rest → UnexpectedAt g s rest
unexpected_at g f s rest o i h =
    let u = before_is_front unlimited g f s rest o h in
    record { before = u.0; all = u.1; front = front_viable g u.0 o i u.2; comes = comes g f u.0 rest (subst (λ z. Stops unlimited f g z rest) u.1 h) }

pub rules_are_well_formed : RulesAreWellFormed
rules_are_well_formed p = (tt, tt, tt, onward_not_end p)

pub types_are_well_formed : TypesAreWellFormed
types_are_well_formed = search

pub stops_at_first : StopsAtFirst
stops_at_first f g s r c h = unexpected_at g f s r c.0 c.1 h

pub fronts_are_viable : FrontsAreViable
fronts_are_viable g s c = (front_viable g s c.0 c.1, viable_front g s c.0)

pub spelled_is_read : SpelledIsRead
spelled_is_read g s c = (spells_whole g s c.2 c.3, λ w. reads_spelled w.1)

pub read_without_limits : ReadWithoutLimits
read_without_limits d g s r x h = reads_unlimited h

pub stops_without_limits : StopsWithoutLimits
stops_without_limits d f g s r n h = stops_unlimited h n

pub front_before_fault : FrontBeforeFault
front_before_fault d f g before rest c h =
    let u = before_is_front d g f (before ++ rest) rest c.0 h in
    subst (λ z. IsFront g z) (sym (append_cancel_right before u.0 rest u.1)) u.2

pub read_or_too_deep : ReadOrTooDeep
read_or_too_deep d g s r x h = read_within d h

pub stops_or_too_deep : StopsOrTooDeep
stops_or_too_deep d f g s r h = stops_within d h
