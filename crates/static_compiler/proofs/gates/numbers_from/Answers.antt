use Rattle.std.proofs.Common.{map, sym, ap, arith, ◌∙◌, ◌+◌, ◌++◌, ◌∷◌, []}
use Rattle.std.proofs.lemmas.List.{map-append}
use Rattle.spec_core.specs.Numbers.{gate_number}
use Rattle.static_compiler.proofs.Rows.{range_more}
use Rattle.static_compiler.proofs.gates.numbers_from.Goals as goal

pub loop-i-preserved : goal.loop-i-preserved
loop-i-preserved c =
    ap (map gate_number) c.in_ok-push.ensures.items ∙ map-append gate_number c.loop-i.gates.items (record { 0 = c.args.first + c.loop-i.i } ∷ [])
    ∙ ap (λ ns. ns ++ (c.args.first + c.loop-i.i) ∷ []) c.loop-i.invariant ∙ sym (range_more c.args.first c.loop-i.i)
