-- What a scope of the program stands for.
use Rattle.spec_core.specs.Terms.{variable, term_of}
use Rattle.rule_model.specs.Substitution.{Assignment, with_term}
use Rattle.rule_substitution.specs.declared.scope.Scope.{Scope}
use Rattle.rule_substitution.specs.declared.scope.Scope.TheVariants.{Empty, More'}

-- the terms for the variables; each other variable stands for itself
abbrev pub terms_of : Scope → Assignment
terms_of Empty = variable
terms_of (More' p before x term) = with_term (record { number = x; sort = 0 }) (term_of term) (terms_of before)
