use Rattle.std.proofs.Common.{refl, ap, length, [], ◌∷◌, ◌∙◌}
use Rattle.std.specs.List.{range_with_len}
use Rattle.spec_core.specs.Code.{hide}
use Rattle.static_compiler.specs.Frames.{layers}
use Rattle.static_compiler.proofs.Begun.{hide_opens}
use Rattle.static_compiler.proofs.opening.open_hide.Goals as goal

pub returns : goal.returns
returns c = hide_opens c.args.site.now c.args.gates.now _ _ c.put_gates.new.self _ c.of-mark.ensures
    (c.in_ok-frame.ensures ∙ ap (λ ns. layers (hide ns ∷ []))
    (c.in_ok-numbers.ensures ∙ ap (λ n. range_with_len n (length c.args.gates.now)) c.next_gate.ensures)) refl
    c.in_ok-add_gates_twice.ensures c.in_ok-put_gates.ensures
