-- Constructs that are alike: they have the same parts, wherever these lie in memory.
use Rattle.std.specs.Prelude.{◌≡◌, List, Option}
use Rattle.lotos_ast.specs.declared.behaviour.Binding.{Binding}
use Rattle.lotos_ast.specs.declared.behaviour.ExitValue.{ExitValue}
use Rattle.lotos_ast.specs.declared.behaviour.ExitValue.TheVariants.{Any}
use Rattle.lotos_ast.specs.declared.behaviour.GateChoice.{GateChoice}
use Rattle.lotos_ast.specs.declared.behaviour.Offer.{Offer}
use Rattle.lotos_ast.specs.declared.behaviour.Offer.TheVariants.{Variables}
use Rattle.lotos_ast.specs.declared.behaviour.Operator.{Operator}
use Rattle.lotos_ast.specs.declared.behaviour.Operator.TheVariants.{Interleave, Synchronise, Shared}
use Rattle.lotos_ast.specs.declared.declaration.Declaration.{Declaration}
use Rattle.lotos_ast.specs.declared.expression.Expr.{Expr}
use Rattle.lotos_ast.specs.declared.expression.Premiss.{Premiss}
use Rattle.lotos_ast.specs.declared.place.Place.{Place}
use Rattle.lotos_ast.specs.declared.token.Token.{Token}
use Rattle.lotos_ast.specs.ExpressionTrees.{expr_tree}
use Rattle.static_constructs.specs.Constructs.{Construct, stops, exits, acts_inside, acts, chooses, asks, binds, chooses_values, chooses_gates}
use Rattle.static_constructs.specs.Constructs.{composes, hides, enables, disables, calls, copies}
use Rattle.syntax_laws.specs.Alike.{AreAlike, IfThere, HaveSame, AreDeclarationsAlike, ArePremissesAlike}

-- of expressions the trees say all that is asked
abbrev pub AreExpressionsAlike : Expr → Expr → Type 0
AreExpressionsAlike e d = expr_tree e ≡ expr_tree d

abbrev pub AreExitValuesAlike : ExitValue → ExitValue → Type 0
AreExitValuesAlike (Any p sort) (Any q other) = (p ≡ q) × (sort ≡ other)
AreExitValuesAlike (ExitValue.Value p e) (ExitValue.Value q d) = (p ≡ q) × AreExpressionsAlike e d
AreExitValuesAlike _ _ = ⊥

abbrev pub AreOffersAlike : Offer → Offer → Type 0
AreOffersAlike (Offer.Value p e) (Offer.Value q d) = (p ≡ q) × AreExpressionsAlike e d
AreOffersAlike (Variables p names sort) (Variables q others other) = (p ≡ q) × HaveSame names others × (sort ≡ other)
AreOffersAlike _ _ = ⊥

abbrev pub AreOperatorsAlike : Operator → Operator → Type 0
AreOperatorsAlike (Interleave p) (Interleave q) = p ≡ q
AreOperatorsAlike (Synchronise p) (Synchronise q) = p ≡ q
AreOperatorsAlike (Shared p gates) (Shared q others) = (p ≡ q) × HaveSame gates others
AreOperatorsAlike _ _ = ⊥

pub record AreBindingsAlike (b c : Binding) : Type 0 where
  pub place : b.place ≡ c.place
  pub name : b.name ≡ c.name
  pub sort : b.sort ≡ c.sort
  pub value : AreExpressionsAlike b.value c.value

pub record AreGateChoicesAlike (c d : GateChoice) : Type 0 where
  pub place : c.place ≡ d.place
  pub gate : c.gate ≡ d.gate
  pub list_place : c.gates.place ≡ d.gates.place
  pub gates : HaveSame c.gates.gates d.gates.gates

pub data AreConstructsAlike : Construct → Construct → Type 0 where
  alike_stops : AreConstructsAlike stops stops
  alike_exits : {vs ws : List ExitValue} → AreAlike AreExitValuesAlike vs ws → AreConstructsAlike (exits vs) (exits ws)
  alike_inside : {b c : Construct} → AreConstructsAlike b c → AreConstructsAlike (acts_inside b) (acts_inside c)
  alike_acts : {gate : Token} {os ps : List Offer} {o p : Option Premiss} {b c : Construct} → AreAlike AreOffersAlike os ps →
      IfThere ArePremissesAlike o p → AreConstructsAlike b c → AreConstructsAlike (acts gate os o b) (acts gate ps p c)
  alike_chooses : {place : Place} {a b c d : Construct} → AreConstructsAlike a c → AreConstructsAlike b d →
      AreConstructsAlike (chooses place a b) (chooses place c d)
  alike_asks : {p q : Premiss} {b c : Construct} → ArePremissesAlike p q → AreConstructsAlike b c → AreConstructsAlike (asks p b) (asks q c)
  alike_binds : {vs ws : List Binding} {b c : Construct} → AreAlike AreBindingsAlike vs ws → AreConstructsAlike b c →
      AreConstructsAlike (binds vs b) (binds ws c)
  alike_values : {ds es : List Declaration} {b c : Construct} → AreAlike AreDeclarationsAlike ds es → AreConstructsAlike b c →
      AreConstructsAlike (chooses_values ds b) (chooses_values es c)
  alike_gates : {vs ws : List GateChoice} {b c : Construct} → AreAlike AreGateChoicesAlike vs ws → AreConstructsAlike b c →
      AreConstructsAlike (chooses_gates vs b) (chooses_gates ws c)
  alike_composes : {place : Place} {o p : Operator} {a b c d : Construct} → AreOperatorsAlike o p → AreConstructsAlike a c →
      AreConstructsAlike b d → AreConstructsAlike (composes place o a b) (composes place p c d)
  alike_hides : {gates : List Token} {b c : Construct} → AreConstructsAlike b c → AreConstructsAlike (hides gates b) (hides gates c)
  alike_enables : {place : Place} {ds es : List Declaration} {a b c d : Construct} → AreConstructsAlike a c →
      AreAlike AreDeclarationsAlike ds es → AreConstructsAlike b d → AreConstructsAlike (enables place a ds b) (enables place c es d)
  alike_disables : {place : Place} {a b c d : Construct} → AreConstructsAlike a c → AreConstructsAlike b d →
      AreConstructsAlike (disables place a b) (disables place c d)
  alike_calls : {name : Token} {gates : List Token} {es ds : List Expr} → AreAlike AreExpressionsAlike es ds →
      AreConstructsAlike (calls name gates es) (calls name gates ds)
  alike_copies : {gate : Token} {among : List Token} {o p : Operator} {b c : Construct} → AreOperatorsAlike o p → AreConstructsAlike b c →
      AreConstructsAlike (copies gate among o b) (copies gate among p c)
