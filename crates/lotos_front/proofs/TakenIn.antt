-- Types of texts of the library, one after another.
use Rattle.std.proofs.Common.{ℕ, ◌≡◌, refl, sym, List, [], ◌∷◌, ◌++◌}
use Rattle.std.proofs.lemmas.List.{append-nil}
use Rattle.lotos_ast.specs.declared.types.TypeDef.{TypeDef}
use Rattle.lotos_front.specs.Libraries.{AreLibraryTypes, AreTakenIn}

pub one_text : (text : List ℕ) (all : List TypeDef) → AreLibraryTypes text all → AreTakenIn (text ∷ []) all
one_text text all h = (all, [], h, refl, sym (append-nil all))

pub two_texts : (one other : List ℕ) (first second all : List TypeDef) → AreLibraryTypes one first → AreLibraryTypes other second → all ≡ first ++ second → AreTakenIn (one ∷ other ∷ []) all
two_texts one other first second all h i e = (first, second, h, one_text other second i, e)
