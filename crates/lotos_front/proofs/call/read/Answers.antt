use Rattle.std.proofs.Common.{subst}
use Rattle.lotos_ast.specs.Refusals.{OnRefusal}
use Rattle.lotos_front.specs.Parsed.{IsUnparsed}
use Rattle.lotos_front.proofs.Refusing.{refused_unparsed}
use Rattle.lotos_front.proofs.call.read.Goals as goal

pub returns-in-Err-Refused-clause-refused : goal.returns-in-Err-Refused-clause-refused
returns-in-Err-Refused-clause-refused c =
    let text = c.args.text.now in
    let tokens = c.args.tokens.now in
    refused_unparsed text tokens c.in-Err-Refused.refusal c.requires.lexed
    (subst (λ e. OnRefusal e (IsUnparsed text tokens)) c.in-Err-Refused.field-0-is c.in-Err-Refused.ensures.refused)
