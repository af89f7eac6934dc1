use Rattle.std.proofs.Common.{rules, ◌≡◌, subst, sym}
use Rattle.lotos_ast.specs.declared.refusal.FrontFault.TheVariants.{Refused}
use Rattle.lotos_ast.specs.Refusals.{OnRefusal}
use Rattle.lotos_front.specs.Answers.{IsFirstRefusal}
use Rattle.command_selfrun.proofs.call.run_texts.Goals as goal

pub returns-in-Err-Refused : goal.returns-in-Err-Refused
returns-in-Err-Refused g c =
    let is : c.in-Err-Refused.field-0 ≡ Refused c.in-Err-Refused.refusal = search rules in
    let there : IsFirstRefusal c.args.specification.now c.in-Err-Refused.refusal =
    subst (λ fault. OnRefusal fault (IsFirstRefusal c.args.specification.now)) is c.in-Err-Refused.ensures.refused in
    subst (IsFirstRefusal c.args.specification.now) (sym c.in-Err-Refused.refusal-is) there
