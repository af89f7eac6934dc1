-- The operation that is found is the one that was written.
use Rattle.std.proofs.Common.{ℕ, zero, suc, ◌≡◌, ◌&&◌, Bool, true, false, if◌then◌else◌, List, [], ◌∷◌, ◌++◌}
use Rattle.std.proofs.Common.{Option, Some, None, option_map, refl, ap, sym, ◌∙◌, arith}
use Rattle.std.specs.List.{slice_get}
use Rattle.std.specs.Str.{bytes_eq}
use Rattle.std.proofs.lemmas.Slice.Eq.{bytes_eq-Decides}
use Rattle.std.proofs.lemmas.Bool.{and_parts}
use Rattle.spec_core.specs.Lists.{Each, NoTwo}
use Rattle.spec_core.specs.Names.{IsIdentifier, IsSameName}
use Rattle.spec_core.specs.Ready.{IsSameOperation}
use Rattle.spec_core.specs.Sorts.{FitsData, OperationFits}
use Rattle.spec_core.specs.Theories.{Operation, Theory}
use Rattle.spec_core.proofs.Lists.{each_slice_get}
use Rattle.value_text.specs.Values.{is_shared, name_at}
use Rattle.value_text.proofs.Names.{one_named}
use Rattle.value_text.proofs.Operations.{itself, one_operation, one_unshared}
use Rattle.value_reader.specs.Stands.{first_at, is_call}

-- what passes at no other place is found
abbrev IsFound : (Operation → Bool) → List Operation → Operation → Type 0
IsFound p ds d =
    (f : ℕ) → slice_get ds f ≡ Some d → ((g : ℕ) (e : Operation) → slice_get ds g ≡ Some e → p e ≡ true → g ≡ f) → first_at p ds ≡ Some f

found_behind : (p : Operation → Bool) (x d : Operation) (ds : List Operation) (c : Bool) → p x ≡ c → p d ≡ true → IsFound p ds d → (f : ℕ) →
    slice_get (x ∷ ds) f ≡ Some d → ((g : ℕ) (e : Operation) → slice_get (x ∷ ds) g ≡ Some e → p e ≡ true → g ≡ f) →
    (if c then Some 0 else option_map suc (first_at p ds)) ≡ Some f
found_behind p x d ds true passes here rest f at only = ap Some (only 0 x refl passes)
found_behind p x d ds false fails here rest zero at only =
    let same : x ≡ d = cc in
    let wrong : false ≡ true = sym fails ∙ ap p same ∙ here in
    absurd (cc)
found_behind p x d ds false fails here rest (suc f) at only =
    ap (option_map suc) (rest f at (λ g e a b. let one : suc g ≡ suc f = only (suc g) e a b in omega (arith, one)))

pub first_found : (p : Operation → Bool) (ds : List Operation) (d : Operation) → p d ≡ true → IsFound p ds d
first_found p [] d here zero at only = absurd (cc)
first_found p [] d here (suc f) at only = absurd (cc)
first_found p (x ∷ ds) d here f at only = found_behind p x d ds (p x) refl here (first_found p ds d here) f at only

all_true : (a b c : Bool) → a ≡ true → b ≡ true → c ≡ true → ((a && b) && c) ≡ true
all_true true true c x y z = z
all_true true false c x y z = absurd (cc)
all_true false b c x y z = absurd (cc)

-- the name of an operation's sort, where it is written
abbrev pub written_sort : Theory → Operation → Option (List ℕ)
written_sort theory d = if is_shared theory.operations d then Some (name_at theory.sorts d.result) else None

module _ (theory : Theory) (fits : FitsData theory) (sorts : Each IsIdentifier theory.sorts) (sorts_differ : NoTwo IsSameName theory.sorts)
    (operations_differ : NoTwo IsSameOperation theory.operations) where
  pub found : (f : ℕ) (d : Operation) → slice_get theory.operations f ≡ Some d →
      first_at (is_call theory.sorts d.name d.args (written_sort theory d)) theory.operations ≡ Some f
  found f d at = go (is_shared theory.operations d) refl
    where
      go : (c : Bool) → is_shared theory.operations d ≡ c →
          first_at (is_call theory.sorts d.name d.args (if c then Some (name_at theory.sorts d.result) else None)) theory.operations ≡ Some f
      go true shared =
          first_found (is_call theory.sorts d.name d.args (Some (name_at theory.sorts d.result))) theory.operations d
          (all_true (bytes_eq d.name d.name) (bytes_eq d.args d.args) (bytes_eq (name_at theory.sorts d.result) (name_at theory.sorts d.result))
          (itself d.name) (itself d.args) (itself (name_at theory.sorts d.result))) f at
          (λ g e a b.
          let k = and_parts (bytes_eq e.name d.name && bytes_eq e.args d.args) (bytes_eq (name_at theory.sorts e.result) (name_at theory.sorts d.result)) b in
          let l = and_parts (bytes_eq e.name d.name) (bytes_eq e.args d.args) k.0 in
          let sort : name_at theory.sorts e.result ++ [] ≡ name_at theory.sorts d.result ++ [] =
          ap (λ z. z ++ []) ((bytes_eq-Decides (name_at theory.sorts e.result) (name_at theory.sorts d.result)).0 k.1) in
          one_operation theory.operations g f e d operations_differ a at ((bytes_eq-Decides e.name d.name).0 l.0) ((bytes_eq-Decides e.args d.args).0 l.1)
          (one_named theory.sorts e.result d.result [] [] sorts sorts_differ
          (each_slice_get (OperationFits theory) theory.operations g e fits.operations a).0
          (each_slice_get (OperationFits theory) theory.operations f d fits.operations at).0 tt tt sort).0)
      go false alone =
          first_found (is_call theory.sorts d.name d.args None) theory.operations d
          (all_true (bytes_eq d.name d.name) (bytes_eq d.args d.args) true (itself d.name) (itself d.args) refl) f at
          (λ g e a b.
          let k = and_parts (bytes_eq e.name d.name && bytes_eq e.args d.args) true b in
          let l = and_parts (bytes_eq e.name d.name) (bytes_eq e.args d.args) k.0 in
          sym (one_unshared theory.operations f g d e at a (sym ((bytes_eq-Decides e.name d.name).0 l.0)) (sym ((bytes_eq-Decides e.args d.args).0 l.1)) alone))
