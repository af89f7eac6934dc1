-- What pieces say. (This profile.)
use Rattle.std.specs.Prelude.{ℕ, ◌==◌, ◌&&◌, ◌||◌, nat_eq, List, [], ◌∷◌, Option, Some, None, Bool, false, if◌then◌else◌, option_map}
use Rattle.std.specs.Option.{option_map_or}
use Rattle.indexmap.specs.IndexMap.{get}
use Rattle.rule_model.specs.Derivations.{Derivation, derivation_of}
use Rattle.symbolic_actions.specs.declared.shown.Shown.{Shown}
use Rattle.symbolic_actions.specs.Models.{show_of}
use Rattle.node_trees.specs.declared.origin.Gen.{Gen}
use Rattle.candidate_verdicts.specs.declared.pieces.Piece.{Piece}
use Rattle.candidate_verdicts.specs.declared.pieces.NodePieces.{NodePieces}
use Rattle.candidate_verdicts.specs.declared.pieces.NodeRules.{NodeRules}
use Rattle.candidate_verdicts.specs.declared.pieces.Pieces as declared
use Rattle.candidate_verdicts.specs.Known.{KnownShow, Pieces, NodePart, node_part}
use Rattle.candidate_verdicts.specs.Keys.{key_of}
use Rattle.candidate_verdicts.specs.Same.{same_rules}

-- what is known, in the words of the definitions
abbrev pub known_of : Option (Option Shown) → KnownShow
known_of o = option_map (option_map show_of) o

-- the piece is about this generation and this tree of rules
abbrev pub is_about : ℕ → Derivation → Piece → Bool
is_about g d p = (p.generation.0 == g) && same_rules (derivation_of p.rules) d

-- what the first piece says that is about the generation and the tree; nothing is known where there is none
abbrev pub pieces_of : List Piece → Pieces
pieces_of [] g d = None
pieces_of (p ∷ ps) g d = if is_about g d p then Some (option_map show_of p.shown) else pieces_of ps g d

-- the pieces about a node that stand under a key
abbrev pub group_of : NodePieces → ℕ → List Piece
group_of n key = option_map_or (λ group. group.items) (get nat_eq n.groups key) []

-- the pieces about a generation that stand under a key
abbrev pub group_at : declared.Pieces → ℕ → ℕ → List Piece
group_at s g key = option_map_or (λ n. group_of n key) (get nat_eq s.nodes g) []

-- what the pieces say that stand under the key of the tree
abbrev pub stored : declared.Pieces → Pieces
stored s g d = pieces_of (group_at s g (key_of d)) g d

-- what is known, and where nothing is, what another says
abbrev pub unless_none : KnownShow → KnownShow → KnownShow
unless_none None o = o
unless_none (Some s) o = Some s

-- what is known with one more piece: it says nothing where something is known
abbrev pub with_piece : Pieces → Piece → Pieces
with_piece pieces p g d = unless_none (pieces g d) (pieces_of (p ∷ []) g d)

-- whether a generation is one of these
abbrev pub is_gone : List Gen → ℕ → Bool
is_gone [] g = false
is_gone (h ∷ gone) g = (h.0 == g) || is_gone gone g

-- what is known without these generations
abbrev pub without : List Gen → Pieces → Pieces
without gone pieces g d = if is_gone gone g then None else pieces g d

abbrev pub node_part_of : NodeRules → NodePart
node_part_of p = node_part p.generation.0 (derivation_of p.rules.now)
