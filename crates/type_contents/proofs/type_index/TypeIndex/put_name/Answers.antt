use Rattle.std.proofs.Common.{◌∙◌, ap, Some, string_bytes, if◌then◌else◌}
use Rattle.std.specs.Prelude.{unwrap_or}
use Rattle.std.specs.Str.{bytes_eq}
use Rattle.std.proofs.lemmas.Map.Text.{hash_map_updates_text}
use Rattle.indexmap.specs.IndexMap.{get_by_text}
use Rattle.type_contents.specs.TypeIndexes.{number_at}
use Rattle.type_contents.proofs.Indexed.{put_or_old}
use Rattle.type_contents.proofs.type_index.TypeIndex.put_name.Goals as goal

pub returns-clause-numbers : goal.returns-clause-numbers
returns-clause-numbers c = λ other.
    let text = string_bytes c.in_ok-text.text in
    let old = c.args.self.now in
    ap (λ z. unwrap_or z old.count) (hash_map_updates_text text old.numbers c.insert.new.self (Some c.args.number) c.in_ok-insert.ensures.updates other)
    ∙ put_or_old (bytes_eq text other) c.args.number (get_by_text old.numbers other) old.count
    ∙ ap (λ z. if bytes_eq z other then c.args.number else number_at old other) c.in_ok-text.ensures
