-- What the definitions see of the values of the code.
use Rattle.std.specs.Prelude.{ℕ, map}
use Rattle.spec_core.specs.Code.{Node, inner, action, guarded, bound, value_choice, gate_choice, hide}
use Rattle.spec_core.specs.Code.{variable_of, binding_of, action_field_of, synchronised_of, guard_of}
use Rattle.spec_core.specs.Numbers.{gate_number}
use Rattle.spec_core.specs.Terms.{term_of}
use Rattle.spec_core.specs.Theories.{premise}
use Rattle.static_compiler.specs.Frames as frames
use Rattle.static_compiler.specs.Frames.{hindered, layers, copies_from, in_choice, in_disabling, in_parallel, in_enabling}
use Rattle.static_compiler.specs.declared.frame.Frame.{Frame}
use Rattle.static_compiler.specs.declared.frame.Frame.TheVariants.{Hindered, Layers, Copies}
use Rattle.static_compiler.specs.declared.joining.Joining.{Joining}
use Rattle.static_compiler.specs.declared.joining.Joining.TheVariants.{Choice, Disable, Parallel, Enable}
use Rattle.static_compiler.specs.declared.layer.Layer.{Layer}
use Rattle.static_compiler.specs.declared.layer.Layer.TheVariants.{Inner, Act, Guard, Let, Values, Gates, Hide}

-- the node of a layer over what stands in it
abbrev pub maker_of : Layer → ℕ → Node
maker_of Inner part = inner part
maker_of (Act gate fields guard) part = action gate.0 (map action_field_of fields.items) (guard_of guard) part
maker_of (Guard left right) part = guarded (premise (term_of left) (term_of right)) part
maker_of (Let bindings) part = bound (map binding_of bindings.items) part
maker_of (Values x sort) part = value_choice (record { number = x; sort = sort.0 }) part
maker_of (Gates gate among) part = gate_choice gate.0 (map gate_number among.items) part
maker_of (Hide gates) part = hide (map gate_number gates.items) part

abbrev pub frame_of : Frame → frames.Frame
frame_of Hindered = hindered
frame_of (Layers all) = layers (map maker_of all.items)
frame_of (Copies gate gates among) = copies_from gate.0 (synchronised_of gates) (map gate_number among.items)

abbrev pub joining_of : Joining → frames.Joining
joining_of Choice = in_choice
joining_of Disable = in_disabling
joining_of (Parallel gates) = in_parallel (synchronised_of gates)
joining_of (Enable vars) = in_enabling (map variable_of vars.items)
