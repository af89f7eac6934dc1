use Rattle.std.proofs.Common.{◌∙◌, sym, subst}
use Rattle.std.specs.Str.{IsAscii}
use Rattle.std.proofs.lemmas.Fmt.{IsAscii-decimal, parse-decimal}
use Rattle.std.proofs.lemmas.Str.{IsUtf8-from_ascii}
use Rattle.trace_reader.proofs.number.number_of.Goals as goal

pub returns-in-Err : goal.returns-in-Err
returns-in-Err c n small e =
    absurd (c.in-Err.ensures.cases.0 (IsUtf8-from_ascii c.args.digits.now (subst IsAscii (sym e) (IsAscii-decimal n small))))

pub returns-in-Err-parse : goal.returns-in-Err-parse
returns-in-Err-parse c n small e =
    let read = parse-decimal 64 n c.in-Ok.text.now c.parse.result small small (c.in-Ok.ensures.cases.0 ∙ e) c.parse.ensures.value.0 in
    let wrong = sym c.in-Err-parse.is ∙ read in
    cc

pub returns-in-Ok-parse : goal.returns-in-Ok-parse
returns-in-Ok-parse c n small e =
    let read = parse-decimal 64 n c.in-Ok.text.now c.parse.result small small (c.in-Ok.ensures.cases.0 ∙ e) c.parse.ensures.value.0 in
    let same = sym c.in-Ok-parse.is ∙ read in
    cc
