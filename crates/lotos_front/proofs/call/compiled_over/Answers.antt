use Rattle.std.proofs.Common.{subst}
use Rattle.lotos_ast.specs.Refusals.{OnRefusal}
use Rattle.spec_core.specs.Theories.{theory_of}
use Rattle.static_check.specs.Compiled as static
use Rattle.lotos_front.proofs.Refusing.{refused_in_behaviour}
use Rattle.lotos_front.proofs.call.compiled_over.Goals as goal

pub returns-in-Err-Refused-clause-refused : goal.returns-in-Err-Refused-clause-refused
returns-in-Err-Refused-clause-refused c =
    let theory = theory_of c.args.algebra.now in
    let spec = c.in_ok-spec.spec in
    refused_in_behaviour c.args.text.now c.args.tokens.now spec theory c.in-Err-Refused.refusal
    c.requires.lexed c.in_ok-spec.ensures.read c.requires.executable
    (subst (λ e. OnRefusal e (static.IsFirstRefusal theory spec)) c.in-Err-Refused.field-0-is c.in-Err-Refused.ensures.refused)
