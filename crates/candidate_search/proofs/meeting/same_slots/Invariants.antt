use Rattle.std.proofs.Common.{◌≡◌, ◌∷◌, [], filter, map, take}
use Rattle.rule_model.specs.declared.rules.Slot.TheVariants.{Of}
use Rattle.candidate_laws.specs.Waiting.{is_slot}
use Rattle.candidate_search.proofs.meeting.same_slots.Given as goal

abbrev pub invariant-loop-value : goal.invariant-loop-value
invariant-loop-value l = l.all.items ≡ filter (λ own. is_slot l.given (own ∷ [])) (map Of (take l.value-index l.values))
