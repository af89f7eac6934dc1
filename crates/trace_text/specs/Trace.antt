-- The text of a log and of how it ends: traces, format 1.
use Rattle.std.specs.Prelude.{ℕ, Bool, true, false, List, [], ◌∷◌, ◌++◌, flat_map, Option, Some, None, codes, decimal}
use Rattle.spec_core.specs.declared.items.Sort.{Sort}
use Rattle.spec_core.specs.declared.items.Gate.{Gate}
use Rattle.spec_core.specs.Terms.{TermTree}
use Rattle.rule_model.specs.declared.action.Action.{Action}
use Rattle.rule_model.specs.declared.action.Action.TheVariants.{Inner, Exit, At}
use Rattle.rule_model.specs.declared.offer.Field.{Field}
use Rattle.rule_model.specs.declared.offer.Field.TheVariants.{Give, Take}
use Rattle.rule_model.specs.declared.offer.Offer.{Offer}
use Rattle.rule_model.specs.declared.rules.Slot.{Slot}
use Rattle.rule_model.specs.declared.rules.Slot.TheVariants.{Of, Mark, Blank}
use Rattle.rule_model.specs.declared.reply.LimitKind.{LimitKind}
use Rattle.rule_model.specs.declared.reply.LimitKind.TheVariants.{Steps, Spread, Offers}
use Rattle.rule_model.specs.Derivations.{Derivation, pre, int, exiting, chl, chr, val, gate, guard, letting, parl, parr, both, hiding, pass}
use Rattle.rule_model.specs.Derivations.{enstep, enend, disstep, disend, distake, calling, rel}
use Rattle.rule_model.specs.Answers.{Answer, taken, deadlock, stalls, beyond, not_now, ended, spent, too_large, limit}
use Rattle.rule_model.specs.Events.{OfferName, Event, pended, acted, replied, stalled, left, Ending, exits, deadlocked, waiting}
use Rattle.rule_model.specs.Events.{ends_beyond, ends_spent, ends_too_large, ends_at_limit}

-- how gates, sorts, terms and values are written
pub record Names : Type 0 where
  pub gate : Gate → List ℕ
  pub sort : Sort → List ℕ
  pub term : TermTree → List ℕ
  pub value : List ℕ → List ℕ

-- a client and the number of its offer, as 4.1
abbrev pub name_text : OfferName → List ℕ
name_text name = decimal name.0 ++ codes "." ++ decimal name.1

abbrev pub by_text : Option OfferName → List ℕ
by_text None = []
by_text (Some name) = codes " by " ++ name_text name

abbrev pub offer_word : Bool → List ℕ
offer_word true = codes "ask "
offer_word false = codes "pend "

abbrev pub limit_word : LimitKind → List ℕ
limit_word Steps = codes "limit steps"
limit_word Spread = codes "limit spread"
limit_word Offers = codes "limit offers"

module _ (names : Names) where
  abbrev pub field_text : Field → List ℕ
  field_text (Give value) = codes " !" ++ names.value value
  field_text (Take sort) = codes " ?" ++ names.sort sort

  abbrev pub offer_text : Offer → List ℕ
  offer_text offer = names.gate offer.gate ++ flat_map field_text offer.fields

  abbrev pub values_text : List (List ℕ) → List ℕ
  values_text values = flat_map (λ value. codes " !" ++ names.value value) values

  abbrev pub action_text : Action → List ℕ
  action_text Inner = codes "i"
  action_text (Exit values) = codes "exit" ++ values_text values
  action_text (At place values) = names.gate place ++ values_text values

  abbrev pub slot_text : Slot → List ℕ
  slot_text (Of value) = names.value value
  slot_text Mark = codes "?"
  slot_text Blank = []

  -- the values of a tree in square brackets, parted by commas; nothing where there are none
  abbrev pub slots_text : List Slot → List ℕ
  slots_text [] = []
  slots_text (slot ∷ slots) = codes "[" ++ slot_text slot ++ flat_map (λ other. codes "," ++ slot_text other) slots ++ codes "]"

  -- a tree: the word of its rule, its values, and the trees of its parts in brackets
  abbrev pub tree_text : Derivation → List ℕ
  tree_text (pre slots) = codes "pre" ++ slots_text slots
  tree_text int = codes "int"
  tree_text (exiting slots) = codes "exit" ++ slots_text slots
  tree_text (chl d) = codes "chl(" ++ tree_text d ++ codes ")"
  tree_text (chr d) = codes "chr(" ++ tree_text d ++ codes ")"
  tree_text (val slot d) = codes "val" ++ slots_text (slot ∷ []) ++ codes "(" ++ tree_text d ++ codes ")"
  tree_text (gate place d) = codes "gate[" ++ decimal place ++ codes "](" ++ tree_text d ++ codes ")"
  tree_text (guard d) = codes "guard(" ++ tree_text d ++ codes ")"
  tree_text (letting d) = codes "let(" ++ tree_text d ++ codes ")"
  tree_text (parl d) = codes "parl(" ++ tree_text d ++ codes ")"
  tree_text (parr d) = codes "parr(" ++ tree_text d ++ codes ")"
  tree_text (both d e) = codes "both(" ++ tree_text d ++ codes "," ++ tree_text e ++ codes ")"
  tree_text (hiding d) = codes "hide(" ++ tree_text d ++ codes ")"
  tree_text (pass d) = codes "pass(" ++ tree_text d ++ codes ")"
  tree_text (enstep d) = codes "enstep(" ++ tree_text d ++ codes ")"
  tree_text (enend d) = codes "enend(" ++ tree_text d ++ codes ")"
  tree_text (disstep d) = codes "disstep(" ++ tree_text d ++ codes ")"
  tree_text (disend d) = codes "disend(" ++ tree_text d ++ codes ")"
  tree_text (distake d) = codes "distake(" ++ tree_text d ++ codes ")"
  tree_text (calling d) = codes "call(" ++ tree_text d ++ codes ")"
  tree_text (rel d) = codes "rel(" ++ tree_text d ++ codes ")"

  -- The word of a reply. That an offer was taken, and that it was stalled, are lines of their own.
  abbrev pub answer_word : Answer → List ℕ
  answer_word (taken at values) = []
  answer_word (deadlock at) = codes "deadlock"
  answer_word (stalls at) = []
  answer_word (beyond at d) = codes "beyond " ++ tree_text d
  answer_word (not_now at) = codes "notnow"
  answer_word (ended at) = codes "ended"
  answer_word (spent at term) = codes "spent " ++ names.term term
  answer_word (too_large at term) = codes "large " ++ names.term term
  answer_word (limit at kind) = limit_word kind

  abbrev pub event_line : Event → List ℕ
  event_line (pended client number offer ask) = offer_word ask ++ name_text (client, number) ++ codes " " ++ offer_text offer
  event_line (acted action d by) = codes "act " ++ action_text action ++ by_text by ++ codes " rules " ++ tree_text d
  event_line (replied client number answer) = codes "reply " ++ name_text (client, number) ++ codes " " ++ answer_word answer
  event_line (stalled all) = codes "stall" ++ flat_map (λ name. codes " " ++ name_text name) all
  event_line (left client) = codes "leave " ++ decimal client

  abbrev pub end_word : Ending → List ℕ
  end_word exits = codes "exit"
  end_word deadlocked = codes "deadlock"
  end_word waiting = codes "waiting"
  end_word ends_beyond = codes "beyond"
  end_word (ends_spent term) = codes "spent " ++ names.term term
  end_word (ends_too_large term) = codes "large " ++ names.term term
  end_word (ends_at_limit kind) = limit_word kind

  abbrev pub line : Event → List ℕ
  line event = event_line event ++ codes "\n"

  -- a trace that may go on: its first line, and a line for each event
  abbrev pub begun_bytes : List Event → List ℕ
  begun_bytes log = codes "lotos-trace 1\n" ++ flat_map line log
