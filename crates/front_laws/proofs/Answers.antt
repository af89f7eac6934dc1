-- A text has one answer.
use Rattle.std.proofs.Common.{ℕ, ◌≡◌, subst, List, [], Option, Some}
use Rattle.lotos_ast.specs.declared.refusal.Refusal.{Refusal}
use Rattle.lotos_ast.specs.declared.spec.Spec.{Spec}
use Rattle.lotos_ast.specs.TokenLaws.{OneTokenList}
use Rattle.spec_core.specs.Code.{Program}
use Rattle.spec_core.specs.Theories.{Theory}
use Rattle.static_check.specs.Compiled.{IsJudged}
use Rattle.static_check.specs.Compiled as static
use Rattle.static_laws.specs.Specification as specifications
use Rattle.static_uniqueness.specs.SpecificationsAlike.{AreSpecificationsAlike}
use Rattle.static_uniqueness.specs.Specifications.{SameIsJudged}
use Rattle.lotos_front.specs.Accepted.{IsExecutableIn}
use Rattle.lotos_front.specs.Answers.{IsSpelled, IsAccepted, IsFirstRefusal, of_data, of_behaviour}
use Rattle.lotos_front.specs.Parsed.{IsSpecification}
use Rattle.static_uniqueness.specs.Trees.{TokensDetermineSpecifications}
use Rattle.front_laws.specs.Accepted.{DataAnswersAreOne, AnswersAreOne}

module _ (data_one : DataAnswersAreOne) (one_list : OneTokenList) (same_judged : SameIsJudged) (judged_one : specifications.AnswersAreOne) (determined : TokensDetermineSpecifications) where
  spelled-alike : (text : List ℕ) (a b : Spec) → IsSpelled text a → IsSpelled text b → AreSpecificationsAlike a b
  spelled-alike text a b h k =
      determined k.tokens a b (subst (λ ts. IsSpecification ts a) (one_list text h.tokens k.tokens h.lexed.tokenized k.lexed.tokenized) h.read) k.read

  module _ (text : List ℕ) where
    theories-one : (t u : Theory) → IsExecutableIn text t → IsExecutableIn text u → t ≡ u
    theories-one = (data_one text).one_theory

    judged-there : (t u : Theory) (a b : Spec) → t ≡ u → AreSpecificationsAlike a b → (program : Option Program) (refusals : List Refusal) → IsJudged t a program refusals → IsJudged u b program refusals
    judged-there t u a b e al program refusals h = same_judged u a b al program refusals (subst (λ z. IsJudged z a program refusals) e h)

    refused-there : (t u : Theory) (a b : Spec) → t ≡ u → AreSpecificationsAlike a b → (r : Refusal) → static.IsFirstRefusal t a r → static.IsFirstRefusal u b r
    refused-there t u a b e al r h = record { program = h.program; refusals = h.refusals; judged = judged-there t u a b e al h.program h.refusals h.judged; first = h.first }

    program-one : (program other : Program) → IsAccepted text program → IsAccepted text other → program ≡ other
    program-one program other h k =
        let same = theories-one h.theory k.theory h.executable k.executable in
        let al = spelled-alike text h.spec k.spec h.spelled k.spelled in
        (judged_one k.theory k.spec).one_program program other (judged-there h.theory k.theory h.spec k.spec same al (Some program) [] h.compiled) k.compiled

    refusal-one : (r s : Refusal) → IsFirstRefusal text r → IsFirstRefusal text s → r ≡ s
    refusal-one r s (of_data h) (of_data k) = (data_one text).one_refusal r s h k
    refusal-one r s (of_data h) (of_behaviour b u q y g) = absurd ((data_one text).not_both u r y h)
    refusal-one r s (of_behaviour a t p x f) (of_data k) = absurd ((data_one text).not_both t s x k)
    refusal-one r s (of_behaviour a t p x f) (of_behaviour b u q y g) =
        (judged_one u b).one_refusal r s (refused-there t u a b (theories-one t u x y) (spelled-alike text a b p q) r f) g

    not-both : (program : Program) (r : Refusal) → IsAccepted text program → IsFirstRefusal text r → ⊥
    not-both program r h (of_data k) = (data_one text).not_both h.theory r h.executable k
    not-both program r h (of_behaviour b u q y g) =
        (judged_one u b).not_both program r (judged-there h.theory u h.spec b (theories-one h.theory u h.executable y) (spelled-alike text h.spec b h.spelled q) (Some program) [] h.compiled) g

  pub answers_one : AnswersAreOne
  answers_one text = record { one_program = program-one text; one_refusal = refusal-one text; not_both = not-both text }
