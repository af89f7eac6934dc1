use Rattle.std.proofs.Common.{◌≡◌, List, map, take}
use Rattle.spec_core.specs.Theories.{operation_of}
use Rattle.type_contents.specs.Items.{Described}
use Rattle.type_contents.specs.Views.{described_of}
use Rattle.type_equation_copies.specs.Indexes.{IsIndexOf, items_in}
use Rattle.type_data.specs.Data.{operation}
use Rattle.type_data.proofs.signature.operations.Given as goal

abbrev pub invariant-loop-one : goal.invariant-loop-one
invariant-loop-one l = (among : List Described) → IsIndexOf l.sorts (items_in among) → map operation_of l.all.items ≡ map (operation among) (map described_of (take l.one-index l.described))
