-- What a list of types comes to: the types themselves, with how each is made and its equations, which aren't read yet; the sorts and
-- operations of all of them by number; the content of each; and which are formal.
use Rattle.std.specs.Prelude.{◌≡◌, List, map}
use Rattle.lotos_ast.specs.declared.types.TypeDef.{TypeDef}
use Rattle.type_contents.specs.Contents.{contents}
use Rattle.type_contents.specs.FormalTypes.{formal_types}
use Rattle.type_contents.specs.Numbering.{all_sorts, all_operations}
use Rattle.type_contents.specs.Views.{described_of}
use Rattle.type_contents.specs.declared.flat.FlatData.{FlatData}

pub record Flattens (types : List TypeDef) (flat : FlatData) : Type 0 where
  pub types_kept : flat.types.now ≡ types
  pub sorts : map described_of flat.sorts.items ≡ all_sorts types
  pub operations : map described_of flat.operations.items ≡ all_operations types
  pub contents : flat.contents ≡ contents types
  pub formal : flat.formal.items ≡ formal_types types
