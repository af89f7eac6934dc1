-- The data of a text that can be run are one, or their first refusal is.
use Rattle.std.proofs.Common.{ℕ, ◌≡◌, ◌⊎◌, ◌∙◌, refl, sym, ap, subst, List, [], ◌∷◌, Some, true, inl, inr}
use Rattle.std.proofs.lemmas.Option.{same_Some, none-some}
use Rattle.lotos_ast.specs.declared.refusal.Refusal.{Refusal}
use Rattle.lotos_ast.specs.declared.token.Token.{Token}
use Rattle.lotos_ast.specs.declared.types.TypeDef.{TypeDef}
use Rattle.lotos_ast.specs.FirstRefusals.{first_refusal}
use Rattle.lotos_ast.specs.GrammarLaws.{OneTree, TreeOrFault, OneFault}
use Rattle.lotos_ast.specs.Nesting.{outermost, fault_at}
use Rattle.lotos_ast.specs.Notation.{part, specification}
use Rattle.lotos_ast.specs.Parsing.{IsParsed, refusal_at}
use Rattle.lotos_ast.specs.Reads.{Tree}
use Rattle.lotos_ast.specs.TokenLaws.{NotBoth, OneTokenList, OneRefusal}
use Rattle.lotos_ast.specs.TokenMarks.{mark_of}
use Rattle.lotos_ast.specs.Tokenizes.{IsUnreadable}
use Rattle.spec_core.specs.Order.{IsDecreasing}
use Rattle.spec_core.specs.Orthogonality.{IsOrthogonal}
use Rattle.spec_core.specs.Sorts.{FitsData}
use Rattle.spec_core.specs.Theories.{Theory}
use Rattle.behaviour_parser.specs.Specifications.{IsNoSpecification, stopped, followed}
use Rattle.flattening.specs.Refusals.{refusals_of}
use Rattle.static_presentation.specs.Presentations.{IsPresentation}
use Rattle.static_presentation.specs.Presentations as presentation
use Rattle.type_data.specs.Data.{data_of}
use Rattle.static_presentation.specs.Laws.{OwnEquationsAreOne}
use Rattle.equation_check.specs.Shape as equations
use Rattle.path_order.specs.Decrease as order
use Rattle.equation_laws.specs.Laws.{ShapeHasOneAnswer, DecreaseHasOneAnswer}
use Rattle.syntax_laws.specs.Alike.{AreAlike, AreTypesAlike}
use Rattle.static_uniqueness.specs.Types.{SameIsRefused, SameIsRead, SameIsPresented}
use Rattle.lotos_front.specs.Accepted.{IsExecutableIn}
use Rattle.lotos_front.specs.FirstRefusals.{IsFirstDataRefusal, lexing, parsing, flattening, overloads, shape, decrease}
use Rattle.lotos_front.specs.Parsed.{IsLexed, in_text, IsUnparsed, unparsed}
use Rattle.lotos_front.specs.Types.{AreTypesOf}
use Rattle.front_laws.specs.Accepted.{DataAnswersAreOne}
use Rattle.front_laws.proofs.Texts.{types-of-alike}

-- what the data of a text come to

abbrev Answer : Type 0
Answer = Theory ⊎ Refusal

abbrev IsRefusedBy : Answer → (Refusal → Type 0) → Type 0
IsRefusedBy a P = (r : Refusal) × (a ≡ inr r) × P r

-- from each part of the front end on

abbrev AtDecrease : Theory → Answer → Type 0
AtDecrease theory a = IsRefusedBy a (order.IsFirstRefusal theory) ⊎ ((a ≡ inl theory) × IsDecreasing theory)

abbrev AtShape : Theory → Answer → Type 0
AtShape theory a = IsRefusedBy a (equations.IsFirstRefusal theory) ⊎ (IsOrthogonal theory × AtDecrease theory a)

abbrev IsPresentedAt : List TypeDef → Answer → Type 0
IsPresentedAt types a = (theory : Theory) × IsPresentation types theory × FitsData theory × AtShape theory a

abbrev AtOverloads : List TypeDef → Answer → Type 0
AtOverloads types a = IsRefusedBy a (presentation.IsFirstRefusal types) ⊎ IsPresentedAt types a

abbrev AtFlattening : List TypeDef → Answer → Type 0
AtFlattening types a = IsRefusedBy a (λ r. first_refusal (refusals_of types) ≡ Some r) ⊎ ((refusals_of types ≡ []) × AtOverloads types a)

abbrev AreTypesAt : List Token → Answer → Type 0
AreTypesAt tokens a = (types : List TypeDef) × AreTypesOf tokens types × AtFlattening types a

abbrev AtParsing : List ℕ → List Token → Answer → Type 0
AtParsing text tokens a = IsRefusedBy a (IsUnparsed text tokens) ⊎ AreTypesAt tokens a

abbrev AreTokensAt : List ℕ → Answer → Type 0
AreTokensAt text a = (tokens : List Token) × IsLexed text tokens × AtParsing text tokens a

abbrev AtLexing : List ℕ → Answer → Type 0
AtLexing text a = IsRefusedBy a (IsUnreadable text) ⊎ AreTokensAt text a

refused-at : (text : List ℕ) (r : Refusal) → IsFirstDataRefusal text r → AtLexing text (inr r)
refused-at text r (lexing h) = inl (r, refl, h)
refused-at text r (parsing tokens l h) = inr (tokens, l, inl (r, refl, h))
refused-at text r (flattening types a h) = inr (a.tokens, a.lexed, inr (types, a.read, inl (r, refl, h)))
refused-at text r (overloads types a e h) = inr (a.tokens, a.lexed, inr (types, a.read, inr (e, inl (r, refl, h))))
refused-at text r (shape theory d h) =
    inr (d.read.tokens, d.read.lexed, inr (d.types, d.read.read, inr (d.of_types.unrefused, inr (theory, d.of_types.presented, d.of_types.fits, inl (r, refl, h)))))
refused-at text r (decrease theory d o h) =
    inr (d.read.tokens, d.read.lexed, inr (d.types, d.read.read, inr (d.of_types.unrefused, inr (theory, d.of_types.presented, d.of_types.fits, inr (o, inl (r, refl, h))))))

executable-at : (text : List ℕ) (theory : Theory) → IsExecutableIn text theory → AtLexing text (inl theory)
executable-at text theory h =
    let d = h.data_of in
    let x = h.executable in
    inr (d.read.tokens, d.read.lexed, inr (d.types, d.read.read, inr (d.of_types.unrefused, inr (theory, d.of_types.presented, d.of_types.fits, inr (x.orthogonal, inr (refl, x.decreasing))))))

-- a part refuses one, or hands one on
either-one : (P : Refusal → Type 0) (Q : Answer → Type 0) (a b : Answer) → ((r s : Refusal) → P r → P s → r ≡ s) → ((r : Refusal) (c : Answer) → P r → Q c → ⊥) → (Q a → Q b → a ≡ b) →
    IsRefusedBy a P ⊎ Q a → IsRefusedBy b P ⊎ Q b → a ≡ b
either-one P Q a b one not both (inl h) (inl k) = h.1 ∙ ap inr (one h.0 k.0 h.2 k.2) ∙ sym k.1
either-one P Q a b one not both (inl h) (inr k) = absurd (not h.0 b h.2 k)
either-one P Q a b one not both (inr h) (inl k) = absurd (not k.0 a k.2 h)
either-one P Q a b one not both (inr h) (inr k) = both h k

module _ (shape_one : ShapeHasOneAnswer) (decrease_one : DecreaseHasOneAnswer) where
  shape-one : (theory : Theory) (a b : Answer) → AtShape theory a → AtShape theory b → a ≡ b
  shape-one theory a b =
      let s = shape_one theory in
      let d = decrease_one theory in
      either-one (equations.IsFirstRefusal theory) (λ c. IsOrthogonal theory × AtDecrease theory c) a b s.one_refusal (λ r c h k. s.not_both r h k.0) (λ h k.
      either-one (order.IsFirstRefusal theory) (λ c. (c ≡ inl theory) × IsDecreasing theory) a b d.one_refusal (λ r c h k. d.not_both r h k.1) (λ h k. h.0 ∙ sym k.0) h.1 k.1)

  module _ (own_one : OwnEquationsAreOne) where
    overloads-one : (types : List TypeDef) (a b : Answer) → AtOverloads types a → AtOverloads types b → a ≡ b
    overloads-one types a b = either-one (presentation.IsFirstRefusal types) (IsPresentedAt types) a b one not-both presented
      where
        one : (r s : Refusal) → presentation.IsFirstRefusal types r → presentation.IsFirstRefusal types s → r ≡ s
        one r s h k = same_Some r s (sym h.first ∙ ap first_refusal (own_one types h.own k.own h.refusals k.refusals h.read k.read).1 ∙ k.first)

        not-both : (r : Refusal) (c : Answer) → presentation.IsFirstRefusal types r → IsPresentedAt types c → ⊥
        not-both r c h k = none-some r (ap first_refusal (own_one types k.1.own h.own [] h.refusals k.1.read h.read).1 ∙ h.first)

        presented : IsPresentedAt types a → IsPresentedAt types b → a ≡ b
        presented h k =
            let own = (own_one types h.1.own k.1.own [] [] h.1.read k.1.read).0 in
            let same = h.1.presented ∙ ap (data_of types) own ∙ sym k.1.presented in
            shape-one k.0 a b (subst (λ t. AtShape t a) same h.3) k.3

    flattening-one : (types : List TypeDef) (a b : Answer) → AtFlattening types a → AtFlattening types b → a ≡ b
    flattening-one types a b =
        either-one (λ r. first_refusal (refusals_of types) ≡ Some r) (λ c. (refusals_of types ≡ []) × AtOverloads types c) a b
        (λ r s h k. same_Some r s (sym h ∙ k)) (λ r c h k. none-some r (ap first_refusal (sym k.0) ∙ h)) (λ h k. overloads-one types a b h.1 k.1)

    module _ (same_refused : SameIsRefused) (same_read : SameIsRead) (same_presented : SameIsPresented) where
      flattening-alike : (xs ys : List TypeDef) → AreAlike AreTypesAlike xs ys → (a : Answer) → AtFlattening xs a → AtFlattening ys a
      flattening-alike xs ys al a (inl h) = inl (h.0, h.1, ap first_refusal (sym (same_refused xs ys al)) ∙ h.2)
      flattening-alike xs ys al a (inr h) = inr (sym (same_refused xs ys al) ∙ h.0, overloads-alike h.1)
        where
          overloads-alike : AtOverloads xs a → AtOverloads ys a
          overloads-alike (inl k) = inl (k.0, k.1, record { own = k.2.own; refusals = k.2.refusals; read = same_read xs ys al k.2.own k.2.refusals k.2.read; first = k.2.first })
          overloads-alike (inr k) =
              inr (k.0, record { own = k.1.own; read = same_read xs ys al k.1.own [] k.1.read; presented = k.1.presented ∙ same_presented xs ys al k.1.own }, k.2, k.3)

      module _ (one_tree : OneTree) (tree_or_fault : TreeOrFault) (one_fault : OneFault) (one_list : OneTokenList) (not_both : NotBoth) (one_refusal : OneRefusal) where
        no-specification-one : (tokens : List Token) (r s : Refusal) → IsNoSpecification tokens r → IsNoSpecification tokens s → r ≡ s
        no-specification-one tokens r s (stopped f rest h) (stopped e left k) =
            let same = one_fault outermost f e (part specification) tokens rest left h.stopped k.stopped in
            λ i. refusal_at (same.0 i) tokens (same.1 i)
        no-specification-one tokens r s (stopped f rest h) (followed tree t u k) = absurd (tree_or_fault outermost f (part specification) tokens (t ∷ u) rest tree k.read h.stopped)
        no-specification-one tokens r s (followed tree t u k) (stopped f rest h) = absurd (tree_or_fault outermost f (part specification) tokens (t ∷ u) rest tree k.read h.stopped)
        no-specification-one tokens r s (followed tree t u h) (followed other x v k) =
            let rest : t ∷ u ≡ x ∷ v = (one_tree outermost (part specification) tokens (t ∷ u) (x ∷ v) tree other h.read k.read).1 in
            let first : t ≡ x = cc in
            let further : u ≡ v = cc in
            λ i. refusal_at (fault_at true (mark_of (first i))) tokens (first i ∷ further i)

        not-specification : (tokens : List Token) (r : Refusal) (tree : Tree) → IsNoSpecification tokens r → IsParsed (part specification) tokens tree [] → ⊥
        not-specification tokens r tree (stopped f rest h) k = tree_or_fault outermost f (part specification) tokens [] rest tree k.read h.stopped
        not-specification tokens r tree (followed other t u h) k =
            let rest : t ∷ u ≡ [] = (one_tree outermost (part specification) tokens (t ∷ u) [] other tree h.read k.read).1 in
            absurd (cc)

        unparsed-one : (text : List ℕ) (tokens : List Token) (r s : Refusal) → IsUnparsed text tokens r → IsUnparsed text tokens s → r ≡ s
        unparsed-one text tokens r s (unparsed q h) (unparsed p k) = ap (in_text text) (no-specification-one tokens q p h k)

        not-parsed : (text : List ℕ) (tokens : List Token) (r : Refusal) (tree : Tree) → IsUnparsed text tokens r → IsParsed (part specification) tokens tree [] → ⊥
        not-parsed text tokens r tree (unparsed q h) k = not-specification tokens q tree h k

        parsing-one : (text : List ℕ) (tokens : List Token) (a b : Answer) → AtParsing text tokens a → AtParsing text tokens b → a ≡ b
        parsing-one text tokens a b =
            either-one (IsUnparsed text tokens) (AreTypesAt tokens) a b (unparsed-one text tokens) (λ r c h k. not-parsed text tokens r k.1.tree h k.1.read) (λ h k.
            flattening-one k.0 a b (flattening-alike h.0 k.0 (types-of-alike one_tree one_list tokens h.0 k.0 h.1 k.1) a h.2) k.2)

        lexing-one : (text : List ℕ) (a b : Answer) → AtLexing text a → AtLexing text b → a ≡ b
        lexing-one text a b =
            either-one (IsUnreadable text) (AreTokensAt text) a b (one_refusal text) (λ r c h k. not_both text k.0 r k.1.short k.1.tokenized h) (λ h k.
            parsing-one text k.0 a b (subst (λ ts. AtParsing text ts a) (one_list text h.0 k.0 h.1.tokenized k.1.tokenized) h.2) k.2)

        theories-one : (t u : Theory) → ◌≡◌ {A = Answer} (inl t) (inl u) → t ≡ u
        theories-one t u e = cc

        refusals-one : (r s : Refusal) → ◌≡◌ {A = Answer} (inr r) (inr s) → r ≡ s
        refusals-one r s e = cc

        differ : (t : Theory) (r : Refusal) → ◌≡◌ {A = Answer} (inl t) (inr r) → ⊥
        differ t r e = cc

        pub data_answers_one : DataAnswersAreOne
        data_answers_one text = record {
          one_theory = λ t u h k. theories-one t u (lexing-one text (inl t) (inl u) (executable-at text t h) (executable-at text u k));
          one_refusal = λ r s h k. refusals-one r s (lexing-one text (inr r) (inr s) (refused-at text r h) (refused-at text s k));
          not_both = λ t r h k. differ t r (lexing-one text (inl t) (inr r) (executable-at text t h) (refused-at text r k));
        }
