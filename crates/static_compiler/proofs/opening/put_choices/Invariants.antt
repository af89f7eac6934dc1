use Rattle.std.proofs.Common.{◌≡◌, map, take, drop}
use Rattle.std.specs.Prelude.{option_map}
use Rattle.sort_overloads.specs.Judged.{Adds}
use Rattle.static_readings.specs.Sites.{with_gates}
use Rattle.static_compiler.specs.Frames.{layers_if}
use Rattle.static_compiler.specs.Parts.{OpensChoices}
use Rattle.static_compiler.specs.Views.{maker_of}
use Rattle.static_compiler.proofs.opening.put_choices.Given as goal

abbrev pub invariant-loop-choice : goal.invariant-loop-choice
invariant-loop-choice l = record {
  layers : Adds (OpensChoices l.fn.site l.choices l.site (drop l.choice-index l.choices) (layers_if (option_map (map maker_of) (option_map (λ v. v.items) l.all))))
      l.initial.refusals.items l.refusals.items;
  site : l.site ≡ with_gates l.fn.site (map (λ c. c.gate) (take l.choice-index l.choices));
}
