-- Each part of the front end with those before it.
use Rattle.std.proofs.Common.{ℕ, ◌≡◌, map, sym, subst, List, [], Some}
use Rattle.lotos_ast.specs.declared.refusal.Refusal.{Refusal}
use Rattle.lotos_ast.specs.declared.spec.Spec.{Spec}
use Rattle.lotos_ast.specs.declared.token.Token.{Token}
use Rattle.lotos_ast.specs.declared.types.TypeDef.{TypeDef}
use Rattle.lotos_ast.specs.FirstRefusals.{first_refusal}
use Rattle.lotos_ast.specs.SpecTrees.{spec_tree}
use Rattle.lotos_ast.specs.TypeTrees.{type_def_tree}
use Rattle.lotos_ast.specs.Tokenizes.{IsUnreadable}
use Rattle.spec_core.specs.Executable.{IsExecutable}
use Rattle.spec_core.specs.Orthogonality.{IsOrthogonal}
use Rattle.spec_core.specs.Theories.{Theory}
use Rattle.behaviour_parser.specs.Specifications.{IsNoSpecification}
use Rattle.flattening.specs.Refusals.{refusals_of}
use Rattle.static_presentation.specs.Presentations as presentation
use Rattle.equation_check.specs.Shape as equations
use Rattle.path_order.specs.Decrease as order
use Rattle.spec_core.specs.Code.{Program}
use Rattle.static_check.specs.Compiled.{IsCompiled}
use Rattle.static_check.specs.Compiled as static
use Rattle.lotos_front.specs.Accepted.{IsExecutableIn}
use Rattle.lotos_front.specs.Answers.{IsAccepted, IsFirstRefusal, of_data, of_behaviour}
use Rattle.lotos_front.specs.FirstRefusals.{IsFirstDataRefusal, lexing, parsing, flattening, overloads, shape, decrease}
use Rattle.lotos_front.specs.Libraries.{AreWithLibrary}
use Rattle.lotos_front.specs.Parsed.{IsSpecification, IsLexed, IsUnparsed, unparsed, in_text}
use Rattle.lotos_front.specs.Stages.{AreTypesIn, IsDataOf, IsDataIn}
use Rattle.lotos_front.specs.Types as types
use Rattle.lotos_front.specs.Types.{AreTypesOf}

pub unreadable : (text : List ℕ) (r : Refusal) → IsUnreadable text r → IsFirstDataRefusal text r
unreadable text r h = lexing h

pub no_specification : (text : List ℕ) (tokens : List Token) (r other : Refusal) → IsNoSpecification tokens r → other ≡ in_text text r → IsUnparsed text tokens other
no_specification text tokens r other h e = subst (IsUnparsed text tokens) (sym e) (unparsed r h)

pub types_read : (tokens : List Token) (spec : Spec) (own all : List TypeDef) → IsSpecification tokens spec → map type_def_tree own ≡ types.types_in (spec_tree spec) → AreWithLibrary own all → AreTypesOf tokens all
types_read tokens spec own all read is h = record { tree = spec_tree spec; read = read; own = own; trees = is; with_library = h }

pub not_parsed : (text : List ℕ) (tokens : List Token) (r : Refusal) → IsLexed text tokens → IsUnparsed text tokens r → IsFirstDataRefusal text r
not_parsed text tokens r lexed h = parsing tokens lexed h

pub types_in : (text : List ℕ) (tokens : List Token) (all : List TypeDef) → IsLexed text tokens → AreTypesOf tokens all → AreTypesIn text all
types_in text tokens all lexed read = record { tokens = tokens; lexed = lexed; read = read }

pub types_refused : (types : List TypeDef) (r : Refusal) → first_refusal (refusals_of types) ≡ Some r → (text : List ℕ) → AreTypesIn text types → IsFirstDataRefusal text r
types_refused types r h text i = flattening types i h

pub equations_refused : (types : List TypeDef) (r : Refusal) → refusals_of types ≡ [] → presentation.IsFirstRefusal types r → (text : List ℕ) → AreTypesIn text types → IsFirstDataRefusal text r
equations_refused types r none h text i = overloads types i none h

pub misshapen : (theory : Theory) (r : Refusal) → equations.IsFirstRefusal theory r → (text : List ℕ) → IsDataIn text theory → IsFirstDataRefusal text r
misshapen theory r h text i = shape theory i h

pub not_decreasing : (theory : Theory) (r : Refusal) → IsOrthogonal theory → order.IsFirstRefusal theory r → (text : List ℕ) → IsDataIn text theory → IsFirstDataRefusal text r
not_decreasing theory r orthogonal h text i = decrease theory i orthogonal h

pub data_in : (text : List ℕ) (tokens : List Token) (types : List TypeDef) (theory : Theory) → IsLexed text tokens → AreTypesOf tokens types → IsDataOf types theory → IsDataIn text theory
data_in text tokens types theory lexed read of_types = record { types = types; read = types_in text tokens types lexed read; of_types = of_types }

pub executable_in : (text : List ℕ) (tokens : List Token) (types : List TypeDef) (theory : Theory) → IsLexed text tokens → AreTypesOf tokens types → IsDataOf types theory →
    IsExecutable theory → IsExecutableIn text theory
executable_in text tokens types theory lexed read of_types executable =
    record { data_of = data_in text tokens types theory lexed read of_types; executable = executable }

pub ruleset stages = (not_parsed, types_in, data_in, executable_in)

pub refused_in_data : (text : List ℕ) (r : Refusal) → IsFirstDataRefusal text r → IsFirstRefusal text r
refused_in_data text r h = of_data h

pub refused_unparsed : (text : List ℕ) (tokens : List Token) (r : Refusal) → IsLexed text tokens → IsUnparsed text tokens r → IsFirstRefusal text r
refused_unparsed text tokens r lexed h = of_data (parsing tokens lexed h)

pub refused_in_behaviour : (text : List ℕ) (tokens : List Token) (spec : Spec) (theory : Theory) (r : Refusal) → IsLexed text tokens →
    IsSpecification tokens spec → IsExecutableIn text theory → static.IsFirstRefusal theory spec r → IsFirstRefusal text r
refused_in_behaviour text tokens spec theory r lexed read executable h =
    of_behaviour spec theory (record { tokens = tokens; lexed = lexed; read = read }) executable h

pub accepted : (text : List ℕ) (tokens : List Token) (spec : Spec) (theory : Theory) (program : Program) → IsLexed text tokens →
    IsSpecification tokens spec → IsExecutableIn text theory → IsCompiled theory spec program → IsAccepted text program
accepted text tokens spec theory program lexed read executable compiled =
    record { spec = spec; spelled = record { tokens = tokens; lexed = lexed; read = read }; theory = theory; executable = executable; compiled = compiled }

pub ruleset answers = (refused_in_data, refused_unparsed, refused_in_behaviour, accepted)
