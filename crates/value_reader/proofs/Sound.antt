-- What is read from the right are terms of the data.
use Rattle.std.proofs.Common.{ℕ, zero, suc, ◌≡◌, ◌-◌, ◌&&◌, Bool, true, false, if◌then◌else◌, List, [], ◌∷◌, ◌++◌, length, take, drop}
use Rattle.std.proofs.Common.{Option, Some, None, option_map, refl, ap, sym, ◌∙◌, subst, arith, append_assoc}
use Rattle.std.specs.List.{slice_get}
use Rattle.std.specs.Str.{bytes_eq}
use Rattle.std.proofs.lemmas.List.{append-nil}
use Rattle.std.proofs.lemmas.Bool.{and_parts}
use Rattle.std.proofs.lemmas.Slice.Eq.{bytes_eq-Decides}
use Rattle.spec_core.specs.Sorts.{HaveSorts, OnSome, no_variables}
use Rattle.spec_core.specs.Terms.{TermTrees, apply, no_terms, and_term, preorder, preorders}
use Rattle.spec_core.specs.Theories.{Operation, Theory}
use Rattle.value_text.specs.Values.{IsGroundList}
use Rattle.value_reader.specs.Items.{Piece, word, opening, closing, comma, of_sort, other}
use Rattle.value_reader.specs.Stands.{Bracket, Stand, expects, has_term, calls, State, first_at, is_call, is_written, result_of, underscored, with_operation}
use Rattle.value_reader.specs.Stands.{applied, opened_by, step_at, step, step_on, run}

-- the sorts and the operations that were read are those of some terms
pub record AreTerms (theory : Theory) (sorts value : List ℕ) : Type 0 where
  pub terms : TermTrees
  pub have : HaveSorts theory no_variables terms sorts
  pub spelled : value ≡ preorders terms

abbrev pub IsSound : Theory → State → Type 0
IsSound theory s = AreTerms theory s.sorts s.value

abbrev pub OnState : Option State → (State → Type 0) → Type 0
OnState None P = Unit {0}
OnState (Some s) P = P s

-- terms parted behind the first n
pub record Parted (theory : Theory) (terms : TermTrees) (sorts : List ℕ) (n : ℕ) : Type 0 where
  pub first : TermTrees
  pub others : TermTrees
  pub of_first : HaveSorts theory no_variables first (take n sorts)
  pub of_others : HaveSorts theory no_variables others (drop n sorts)
  pub spelled : preorders terms ≡ preorders first ++ preorders others

parted : (theory : Theory) (terms : TermTrees) (sorts : List ℕ) (n : ℕ) → HaveSorts theory no_variables terms sorts → Parted theory terms sorts n
parted theory ts sorts zero h = record { first = no_terms; others = ts; of_first = tt; of_others = h; spelled = refl }
parted theory no_terms [] (suc n) h = record { first = no_terms; others = no_terms; of_first = tt; of_others = tt; spelled = refl }
parted theory no_terms (a ∷ sorts) (suc n) h = absurd h
parted theory (and_term t ts) [] (suc n) h = absurd h
parted theory (and_term t ts) (a ∷ sorts) (suc n) h =
    let p = parted theory ts sorts n h.1 in
    record {
      first = and_term t p.first;
      others = p.others;
      of_first = (h.0, p.of_first);
      of_others = p.of_others;
      spelled = ap (λ l. preorder t ++ l) p.spelled ∙ sym (append_assoc (preorder t) (preorders p.first) (preorders p.others));
    }

-- what is found passes
pub record Passes (p : Operation → Bool) (ds : List Operation) (f : ℕ) : Type 0 where
  pub operation : Operation
  pub at : slice_get ds f ≡ Some operation
  pub passes : p operation ≡ true

first_passes : (p : Operation → Bool) (ds : List Operation) (f : ℕ) → first_at p ds ≡ Some f → Passes p ds f
first_passes p [] f h = absurd (cc)
first_passes p (d ∷ ds) f h = go (p d) refl (first_at p ds) f h (first_passes p ds)
  where
    go : (c : Bool) → p d ≡ c → (o : Option ℕ) → (f : ℕ) → (if c then Some 0 else option_map suc o) ≡ Some f →
        ((g : ℕ) → o ≡ Some g → Passes p ds g) → Passes p (d ∷ ds) f
    go true here o zero h rest = record { operation = d; at = refl; passes = here }
    go true here o (suc f) h rest = absurd (let e : 0 ≡ suc f = cc in omega (arith, e))
    go false here None f h rest = absurd (cc)
    go false here (Some g) zero h rest = absurd (let e : suc g ≡ 0 = cc in omega (arith, e))
    go false here (Some g) (suc f) h rest =
        let e : suc g ≡ suc f = cc in
        let q = rest g refl in
        let same : g ≡ f = omega (arith, e) in
        record { operation = q.operation; at = ap (slice_get ds) (sym same) ∙ q.at; passes = q.passes }

module _ (theory : Theory) where
  over_terms : (f n : ℕ) (d : Operation) (bs : List Bracket) (sorts value : List ℕ) → slice_get theory.operations f ≡ Some d →
      d.args ≡ take n sorts → AreTerms theory sorts value → IsSound theory (with_operation theory bs sorts value n f)
  over_terms f n d bs sorts value at args sound =
      let p = parted theory sound.terms sorts n sound.have in
      record {
        terms = and_term (apply f p.first) p.others;
        have = (
          subst (λ o. OnSome o (λ e. (e.result ≡ result_of (slice_get theory.operations f)) × HaveSorts theory no_variables p.first e.args))
              (sym at)
              (ap result_of (sym at), subst (HaveSorts theory no_variables p.first) (sym args) p.of_first),
          p.of_others,
        );
        spelled = ap (λ l. f ∷ l) (sound.spelled ∙ p.spelled);
      }

  applied_sound : (name : List ℕ) (base : ℕ) (sort : Option (List ℕ)) (bs : List Bracket) (sorts value : List ℕ) → AreTerms theory sorts value →
      OnState (applied theory name base sort bs sorts value) (IsSound theory)
  applied_sound name base sort bs sorts value sound =
      go (first_at (is_call theory.sorts name (take n sorts) sort) theory.operations) refl
    where
      n : ℕ
      n = length sorts - base

      go : (o : Option ℕ) → first_at (is_call theory.sorts name (take n sorts) sort) theory.operations ≡ o →
          OnState (option_map (with_operation theory bs sorts value n) o) (IsSound theory)
      go None h = tt
      go (Some f) h =
          let p = first_passes (is_call theory.sorts name (take n sorts) sort) theory.operations f h in
          let k =
          and_parts (bytes_eq p.operation.name name && bytes_eq p.operation.args (take n sorts)) (is_written theory.sorts sort p.operation)
          p.passes in
          let l = and_parts (bytes_eq p.operation.name name) (bytes_eq p.operation.args (take n sorts)) k.0 in
          over_terms f n p.operation bs sorts value p.at ((bytes_eq-Decides p.operation.args (take n sorts)).0 l.1) sound

  pub step_sound : (p : Piece) (s : State) → IsSound theory s → OnState (step theory p s) (IsSound theory)
  step_sound p s sound = at s.stand p s.brackets
    where
      by : (o : Option (List ℕ)) (b : Bracket) (bs : List Bracket) → OnState (opened_by theory o b bs s.sorts s.value) (IsSound theory)
      by (Some w) b bs = applied_sound (underscored w) b.base b.sort bs s.sorts s.value sound
      by None b bs = sound

      at : (stand : Stand) (p : Piece) (bs : List Bracket) → OnState (step_at theory stand p bs s.sorts s.value) (IsSound theory)
      at (expects sort) (word w) bs = applied_sound w (length s.sorts) sort bs s.sorts s.value sound
      at (expects sort) opening bs = tt
      at (expects sort) closing bs = sound
      at (expects sort) comma bs = tt
      at (expects sort) (of_sort w) bs = sound
      at (expects sort) other bs = tt
      at has_term (word w) [] = tt
      at has_term (word w) (b ∷ bs) = sound
      at has_term opening [] = tt
      at has_term opening (b ∷ bs) = by b.between b bs
      at has_term closing bs = tt
      at has_term comma bs = sound
      at has_term (of_sort w) bs = tt
      at has_term other bs = tt
      at (calls sort base) (word w) bs = applied_sound w base sort bs s.sorts s.value sound
      at (calls sort base) opening bs = tt
      at (calls sort base) closing bs = tt
      at (calls sort base) comma bs = tt
      at (calls sort base) (of_sort w) bs = tt
      at (calls sort base) other bs = tt

  pub stepped : (p : Piece) (s t : State) → IsSound theory s → step theory p s ≡ Some t → IsSound theory t
  stepped p s t sound h = subst (λ o. OnState o (IsSound theory)) h (step_sound p s sound)

  behind_sound : (p : Piece) (o : Option State) (t : State) → ((u : State) → o ≡ Some u → IsSound theory u) → step_on theory p o ≡ Some t →
      IsSound theory t
  behind_sound p None t each h = absurd (cc)
  behind_sound p (Some u) t each h = stepped p u t (each u refl) h

  pub run_sound : (ps : List Piece) (s t : State) → IsSound theory s → run theory ps s ≡ Some t → IsSound theory t
  run_sound [] s t sound h = let same : s ≡ t = cc in subst (IsSound theory) same sound
  run_sound (p ∷ ps) s t sound h = behind_sound p (run theory ps s) t (λ u k. run_sound ps s u sound k) h

  -- one sort is left where one term was read
  pub ground : (a : ℕ) (value : List ℕ) → AreTerms theory (a ∷ []) value → IsGroundList theory value
  ground a value sound = one sound.terms sound.have sound.spelled
    where
      one : (ts : TermTrees) → HaveSorts theory no_variables ts (a ∷ []) → value ≡ preorders ts → IsGroundList theory value
      one no_terms h e = absurd h
      one (and_term t no_terms) h e = record { term = t; spelled = e ∙ append-nil (preorder t); fits = (a, h.0) }
      one (and_term t (and_term u ts)) h e = absurd h.1
