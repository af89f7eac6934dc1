use Rattle.std.proofs.Common.{◌∙◌, ap, true, ◌||◌, string_bytes}
use Rattle.std.specs.Str.{bytes_eq}
use Rattle.std.proofs.lemmas.Map.Text.{hash_set_updates_text}
use Rattle.type_names.specs.NameSets.{has}
use Rattle.type_names.proofs.Sets.{either}
use Rattle.type_names.proofs.name_set.NameSet.add.Goals as goal

pub returns-clause-names : goal.returns-clause-names
returns-clause-names c = λ text.
    let name = string_bytes c.in_ok-small.field-0 in
    let old = has c.args.self.now text in
    hash_set_updates_text name c.args.self.now.names c.insert.new.self true c.in_ok-new.ensures.updates text ∙ either (bytes_eq name text) old
    ∙ ap (λ z. old || bytes_eq z text) c.in_ok-small.ensures
