use Rattle.std.proofs.Common.{◌≡◌, [], map, ap, sym, ◌∙◌, arith}
use Rattle.std.proofs.lemmas.Grind.{common_steps}
use Rattle.std.specs.List.{slice_index_or}
use Rattle.spec_core.specs.Theories.{equation_of}
use Rattle.type_contents.specs.Contents.{no_content}
use Rattle.type_contents.specs.Views.{described_of}
use Rattle.static_presentation.specs.Own.{bodies}
use Rattle.static_presentation.proofs.OwnReadings.{read-nothing}
use Rattle.static_presentation.proofs.own.own_of.Goals as goal

pub returns-then-is_empty : goal.returns-then-is_empty
returns-then-is_empty c =
    let nothing : c.in_ok-written.written.items ≡ [] = grind (arith, common_steps) in
    record {
      read = read-nothing (map described_of c.args.flat.now.sorts.items) (map described_of c.args.flat.now.operations.items) (slice_index_or c.args.flat.now.contents c.args.number no_content).items
          (bodies c.args.definition.now) (map equation_of c.new.result.items) c.args.refusals.now.items (sym c.in_ok-written.ensures ∙ ap (map (λ b. b.now)) nothing) (ap (map equation_of) c.new.ensures.items);
    }
