use Rattle.std.proofs.Common.{map, string_bytes, Some, None, if◌then◌else◌, ◌∙◌, sym, ap}
use Rattle.clap.specs.Walk.{is_empty}
use Rattle.clap.specs.Words.{app_of, matches_of}
use Rattle.command_words.proofs.reader.find.Goals as goal

pub returns-in-Ok : goal.returns-in-Ok
returns-in-Ok c =
    let rows = (c.in-Ok.ensures.matches c.requires.simple).0 in
    let none = c.in-Ok.ensures.kinds c.requires.free in
    ap Some rows
    ∙ sym (ap (λ kinds. if is_empty kinds then Some (matches_of (app_of c.args.reader) (map string_bytes c.args.words.now)) else None) none)
