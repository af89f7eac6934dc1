use Rattle.std.proofs.Common.{rules, ◌≡◌, length, map, string_bytes, ◌∙◌}
use Rattle.std.proofs.lemmas.List.{length-map}
use Rattle.std.proofs.lemmas.Result.{IfOk-weaker}
use Rattle.spec_core.specs.Numbers.{op_number}
use Rattle.spec_core.specs.Theories.{operation_of}
use Rattle.value_text.specs.Values.{terms_in}
use Rattle.value_text.specs.Vocabularies.{theory_in}
use Rattle.value_text.proofs.Values.{argument_put}
use Rattle.value_text.proofs.value.put_argument.Goals as goal

pub returns : goal.returns
returns c =
    let same : c.len.result ≡ length (operation_of c.args.declaration.now).args = search (rules, length-map) in
    IfOk-weaker c.put_first.result _ _
    (λ rest h.
    h
    ∙ argument_put (theory_in c.args.vocabulary.now) c.args.frame (operation_of c.args.declaration.now) c.len.result c.args.frames.now.items
    c.push.new.self.items (terms_in (theory_in c.args.vocabulary.now).operations (map op_number c.args.ops.now))
    (string_bytes c.args.out.now) (string_bytes c.put_separator.new.out) c.requires.declared same (search rules) (search rules)
    (search rules))
    c.put_first.ensures
