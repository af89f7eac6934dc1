use Rattle.std.proofs.Common.{rules, ◌≡◌, ◌++◌, ◌∷◌, [], map, sym, ap, ◌∙◌}
use Rattle.spec_core.specs.Numbers.{op_number}
use Rattle.value_nodes.specs.Parts.{words}
use Rattle.value_nodes.proofs.Parts.{words_push}
use Rattle.value_nodes.proofs.spelling.spell.Goals as goal

pub loop-turn-preserved : goal.loop-turn-preserved
loop-turn-preserved c =
    let e : c.loop-turn.parts.items ≡ c.pop.new.self.items ++ c.in-Some.part ∷ [] = search rules in
    record {
      there = c.in_ok-spell_part-in-Some.ensures.there;
      spelled =
          c.loop-turn.invariant.spelled
          ∙ ap (λ ps. map op_number c.loop-turn.ops.items ++ ps)
          (ap (words c.args.nodes.now) e ∙ words_push c.args.nodes.now c.pop.new.self.items c.in-Some.part)
          ∙ sym c.in_ok-spell_part-in-Some.ensures.spelled;
    }
