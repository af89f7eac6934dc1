-- Specifications that are alike: they and their processes have the same parts, wherever these lie in memory.
use Rattle.std.specs.Prelude.{◌≡◌}
use Rattle.lotos_ast.specs.declared.declaration.Functionality.{Functionality}
use Rattle.lotos_ast.specs.declared.declaration.Functionality.TheVariants.{NoExit, Exit}
use Rattle.lotos_ast.specs.declared.spec.Spec.{Spec}
use Rattle.static_constructs.specs.Written.{gates_in, behaviour_written}
use Rattle.static_processes.specs.Processes.{Defined, Entry, entries}
use Rattle.syntax_laws.specs.Alike.{AreAlike, IfThere, HaveSame, AreDeclarationsAlike}
use Rattle.static_uniqueness.specs.ConstructsAlike.{AreConstructsAlike}

abbrev pub AreFunctionalitiesAlike : Functionality → Functionality → Type 0
AreFunctionalitiesAlike (NoExit p) (NoExit q) = p ≡ q
AreFunctionalitiesAlike (Exit p sorts) (Exit q others) = (p ≡ q) × IfThere HaveSame sorts others
AreFunctionalitiesAlike _ _ = ⊥

pub record AreDefinedAlike (p q : Defined) : Type 0 where
  pub name : p.name ≡ q.name
  pub gates : p.gates ≡ q.gates
  pub parameters : AreAlike AreDeclarationsAlike p.parameters q.parameters
  pub functionality : AreFunctionalitiesAlike p.functionality q.functionality
  pub body : AreConstructsAlike p.body q.body

pub record AreEntriesAlike (e f : Entry) : Type 0 where
  pub process : AreDefinedAlike e.process f.process
  pub around : e.around ≡ f.around

pub record AreSpecificationsAlike (a b : Spec) : Type 0 where
  pub name : a.name ≡ b.name
  pub gates : gates_in a.gates ≡ gates_in b.gates
  pub functionality : AreFunctionalitiesAlike a.functionality b.functionality
  pub processes : AreAlike AreEntriesAlike (entries a) (entries b)
  pub behaviour : AreConstructsAlike (behaviour_written a.behaviour) (behaviour_written b.behaviour)
