-- What follows from the definitions.
use Rattle.std.specs.Prelude.{ℕ, ◌≡◌, ◌↔◌, ◌≤◌, List, [], ◌<◌, Option, Some, None, Bool, true, option_map}
use Rattle.spec_core.specs.Lists.{IsOneOf}
use Rattle.spec_core.specs.Theories.{Theory}
use Rattle.spec_core.specs.Code.{Program}
use Rattle.rule_model.specs.Behaviours.{Behaviour}
use Rattle.rule_model.specs.Derivations.{Derivation, derivation_of}
use Rattle.symbolic_rules.specs.Windows.{Windows}
use Rattle.symbolic_composites.specs.Evaluations.{Evaluation, IsExact}
use Rattle.candidate_laws.specs.Asked.{TreeQuery, IsAsked, TestsAsked}
use Rattle.symbolic_actions.specs.Shows.{Show, Shows}
use Rattle.candidate_laws.specs.Waiting.{Candidate}
use Rattle.node_trees.specs.Origins.{meaning}
use Rattle.node_trees.specs.Shapes.{Above, Held, Shape, Stands, Lives, stands_for, posted}
use Rattle.node_trees.specs.Rests.{Work}
use Rattle.node_trees.specs.declared.origin.Gen.{Gen}
use Rattle.board_tree.specs.Views.{IsStep}
use Rattle.candidate_search.specs.Searches.{for_offer}
use Rattle.symbolic_actions.specs.Models.{show_of}
use Rattle.candidate_verdicts.specs.declared.pieces.Piece.{Piece}
use Rattle.candidate_verdicts.specs.Same.{same_rules}
use Rattle.candidate_verdicts.specs.Stored.{with_piece, without}
use Rattle.candidate_verdicts.specs.Known.{Pieces, known_show, NodePart, missing_parts}
use Rattle.candidate_verdicts.specs.Asked.{asked_by, known_verdict}

-- what is known of the nodes of a tree is what their origins show
abbrev pub ArePiecesOf : Program → Windows → Pieces → Shape → Type 0
ArePiecesOf program w pieces t =
    (up : List Above) (n : Held) → Stands t up n → (d : Derivation) (o : Option Show) → pieces n.generation d ≡ Some o →
    Shows program w (meaning program n.source) d o

-- then what is known of the whole tree is what the behaviour shows that it stands for
abbrev pub KnownShowsAreSo : Type 0
KnownShowsAreSo =
    (program : Program) (e : Evaluation) (w : Windows) →
    IsExact program e →
    (pieces : Pieces) (t : Shape) →
    ArePiecesOf program w pieces t →
    (d : Derivation) (o : Option Show) →
    known_show program.theory w pieces t d ≡ Some o →
    Shows program w (stands_for program t) d o

-- What is missing: each part is one of a node, and nothing is known of it. There is some, where it isn't known what is shown, and none,
-- where something is known to be shown.
pub record IsMissing (theory : Theory) (w : Windows) (pieces : Pieces) (t : Shape) (d : Derivation) (parts : List NodePart) : Type 0 where
  pub lives : (p : NodePart) → IsOneOf p parts → Lives t p.generation
  pub unknown : (p : NodePart) → IsOneOf p parts → pieces p.generation p.rules ≡ None
  pub some : known_show theory w pieces t d ≡ None → parts ≡ [] → ⊥
  pub none : (s : Show) → known_show theory w pieces t d ≡ Some (Some s) → parts ≡ []

abbrev pub MissingPartsAreMissing : Type 0
MissingPartsAreMissing =
    (theory : Theory) (w : Windows) (pieces : Pieces) (t : Shape) (d : Derivation) →
    IsMissing theory w pieces t d (missing_parts pieces t d)

-- what a behaviour shows decides which queries ask for the tree
abbrev pub ShowsDecideQueries : Type 0
ShowsDecideQueries =
    (program : Program) (e : Evaluation) (w : Windows) →
    IsExact program e →
    (b : Behaviour) (d : Derivation) (o : Option Show) →
    Shows program w b d o →
    (q : TreeQuery) →
    (asked_by program.theory w (for_offer q) d o ≡ true) ↔ IsAsked program w b q d

-- a verdict that is known says whether the candidate's query asks for its tree
abbrev pub KnownVerdictsAreSo : Type 0
KnownVerdictsAreSo =
    (program : Program) (e : Evaluation) (w : Windows) →
    IsExact program e →
    (pieces : Pieces) (t : Shape) →
    ArePiecesOf program w pieces t →
    (is_asked : TreeQuery → Derivation → Bool) →
    TestsAsked program w (stands_for program t) is_asked →
    (a : Candidate) (b : Bool) →
    known_verdict program.theory w pieces t a ≡ Some b →
    is_asked a.query a.tree ≡ b

-- nothing is known of generations from this number on
abbrev pub NoneFrom : Pieces → ℕ → Type 0
NoneFrom pieces next = (g : ℕ) (d : Derivation) → next ≤ g → pieces g d ≡ None

-- what is known of the nodes of a tree stays so with each step
abbrev pub PiecesOutliveSteps : Type 0
PiecesOutliveSteps =
    (program : Program) (w : Windows) (pieces : Pieces) (old : Shape) (next : ℕ) (rules : Derivation) (new : Shape) (later : ℕ)
    (gone came : List Gen) →
    IsStep program old next rules new later gone came →
    NoneFrom pieces next →
    ArePiecesOf program w pieces old →
    ArePiecesOf program w pieces new × NoneFrom pieces later

-- the test of trees of rules says whether they are one
abbrev pub SameRulesAreOne : Type 0
SameRulesAreOne = (d e : Derivation) → (same_rules d e ≡ true) ↔ (d ≡ e)

-- a piece says what the origin shows of each node of its generation
abbrev pub IsPieceOf : Program → Windows → Piece → Shape → Type 0
IsPieceOf program w p t =
    (up : List Above) (n : Held) → Stands t up n → n.generation ≡ p.generation.0 →
    Shows program w (meaning program n.source) (derivation_of p.rules) (option_map show_of p.shown)

-- What is known of the nodes of a tree stays so with one more piece that is so, without what is known of some generations, and where a node
-- is expanded; and nothing comes to be known of generations from a number on.
pub record PiecesStay (program : Program) (w : Windows) (pieces others : Pieces) (t : Shape) : Type 0 where
  pub put : (p : Piece) → ((g : ℕ) (d : Derivation) → others g d ≡ with_piece pieces p g d) → ArePiecesOf program w pieces t →
      IsPieceOf program w p t → ArePiecesOf program w others t
  pub put_below : (p : Piece) (next : ℕ) → ((g : ℕ) (d : Derivation) → others g d ≡ with_piece pieces p g d) →
      p.generation.0 < next → NoneFrom pieces next → NoneFrom others next
  pub dropped : (gone : List Gen) → ((g : ℕ) (d : Derivation) → others g d ≡ without gone pieces g d) →
      ArePiecesOf program w pieces t → ArePiecesOf program w others t
  pub dropped_below : (gone : List Gen) (next : ℕ) → ((g : ℕ) (d : Derivation) → others g d ≡ without gone pieces g d) →
      NoneFrom pieces next → NoneFrom others next
  pub posted : (g : ℕ) (work : Work) → ArePiecesOf program w pieces t → ArePiecesOf program w pieces (posted g work t)

abbrev pub PiecesStaySo : Type 0
PiecesStaySo = (program : Program) (w : Windows) (pieces others : Pieces) (t : Shape) → PiecesStay program w pieces others t
