-- What two expressions that are to be equal stand for (this profile): the first is read by itself, and the second with the sort of the
-- first. Where the first can't be read, the second is asked for its unknown names alone.
use Rattle.std.specs.Prelude.{◌≡◌, List, [], ◌++◌, Option, Some, None}
use Rattle.lotos_ast.specs.declared.place.Place.{Place}
use Rattle.lotos_ast.specs.declared.refusal.Refusal.{Refusal}
use Rattle.lotos_ast.specs.ListTrees.{tree_place}
use Rattle.lotos_ast.specs.Reads.{Tree}
use Rattle.spec_core.specs.declared.items.Sort.{Sort}
use Rattle.spec_core.specs.declared.term.Term.{Term}
use Rattle.spec_core.specs.Theories.{Premise, premise, premise_of}
use Rattle.sort_overloads.specs.Expressions.{Expression, expression}
use Rattle.sort_overloads.specs.Judged.{IsJudged}
use Rattle.sort_overloads.specs.Listed.{Typed}
use Rattle.sort_overloads.specs.Readings.{Context}
use Rattle.sort_overloads.specs.Refused.{unknowns}

-- one expression beside another, each at its place
pub record Sides : Type 0 where
  pub left : Expression
  pub left_place : Place
  pub right : Expression
  pub right_place : Place

-- the expressions of two trees, each at the place of its tree
abbrev pub sides_of : Tree → Tree → Sides
sides_of l r = record {
  left = expression l;
  left_place = tree_place l;
  right = expression r;
  right_place = tree_place r;
}

-- the expressions stand for these two terms, or have these refusals
pub data IsEqualityJudged (c : Context) (sides : Sides) : Option Premise → List Refusal → Type 0 where
  read : (x y : Typed) (sort : Sort) → sort.0 ≡ x.sort → IsJudged c sides.left None sides.left_place (Some x) [] →
      IsJudged c sides.right (Some sort) sides.right_place (Some y) [] → IsEqualityJudged c sides (Some (premise x.term y.term)) []
  right_unread : (x : Typed) (sort : Sort) (refusals : List Refusal) → sort.0 ≡ x.sort →
      IsJudged c sides.left None sides.left_place (Some x) [] →
      IsJudged c sides.right (Some sort) sides.right_place None refusals → IsEqualityJudged c sides None refusals
  left_unread : (refusals : List Refusal) → IsJudged c sides.left None sides.left_place None refusals →
      IsEqualityJudged c sides None (refusals ++ unknowns c sides.right)

abbrev pub premise_if_read : Option (Term × Term) → Option Premise
premise_if_read None = None
premise_if_read (Some terms) = Some (premise_of terms)
