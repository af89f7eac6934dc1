-- What is accepted is ready: by the laws of the names in texts, of the data that types present, and of what is compiled.
use Rattle.syntax_laws.specs.NameLaws.{TokensAreNamed}
use Rattle.static_laws.specs.Presentation.{PresentationsAreNamed}
use Rattle.static_laws.specs.Specification.{CompiledIsReady}
use Rattle.front_laws.specs.Named.{SpecificationsAreNamed, TextTypesAreNamed}
use Rattle.front_laws.specs.Accepted.{AcceptedIsReady}

pub accepted_ready : TokensAreNamed → TextTypesAreNamed → SpecificationsAreNamed → PresentationsAreNamed → CompiledIsReady → AcceptedIsReady
accepted_ready tokens_named types_named specifications_named presentations_named compiled_ready text program a =
    let s = a.spelled in
    let d = a.executable.data_of in
    let tokens = d.read.tokens in
    compiled_ready a.theory a.spec program a.compiled a.executable.executable
    (presentations_named d.types a.theory d.of_types.unrefused
    (types_named tokens d.types (tokens_named text tokens d.read.lexed.tokenized) d.read.read) d.of_types.presented)
    (specifications_named s.tokens a.spec (tokens_named text s.tokens s.lexed.tokenized) s.read).0
