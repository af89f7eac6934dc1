-- The rows that the search looks at.
use Rattle.std.proofs.Common.{ℕ, zero, suc, ◌≡◌, ◌<◌, ◌≤◌, ◌+◌, ◌-◌, inl, inr, nat_eq, List, [], ◌∷◌, ◌++◌, length, take, drop, get_or, Bool, true, false, Option, Some, None, refl, sym, ap, subst, ◌∙◌, arith, if◌then◌else◌}
use Rattle.std.specs.List.{slice_get, range_with_len}
use Rattle.std.specs.Option.{option_map}
use Rattle.std.proofs.lemmas.Bool.{eq-eqb}
use Rattle.std.proofs.lemmas.List.{length-map, get_or-map, take_all}
use Rattle.std.proofs.lemmas.Option.{same_Some, slice_get-map, slice_get_within, slice_get-get_or}
use Rattle.spec_core.proofs.Lists.{slice_get_next, take_next, each-all, each_append, each_get_or, each_push, each_flat_map, each_implied, range_suc}
use Rattle.spec_core.proofs.Members.{each_one, each_from, one_left, one_right, one_flat_map, one_in_range}
use Rattle.spec_core.specs.Lists.{Each, OneOf, IsOneOf}
use Rattle.spec_core.specs.Sorts.{OnSome}
use Rattle.spec_core.specs.Terms.{TermTrees, apply, no_terms}
use Rattle.equation_shapes.specs.Shapes.{AreOfShape, MeetAll}
use Rattle.cover_search.specs.declared.arguments.Arguments.{Arguments}
use Rattle.cover_search.specs.declared.split.Split.{Split}
use Rattle.cover_search.specs.Candidates.{MeetsAt, CoversAt, AreCandidates, AreMeeting, IsMeetingAdded}
use Rattle.cover_search.specs.Search.{opened_any, operation_there_in, IsFirstMeeting, arguments_of, rows_of}
use Rattle.cover_search.specs.Splits.{number_if, numbers_at, operation_at, IsSplitOf}
use Rattle.cover_search.proofs.Options.{on_some}
use Rattle.cover_search.proofs.There.{meet_before, is_there_in}

-- rows by their numbers

pub row_at : (rows : List Arguments) (n : ℕ) (a : Arguments) → n < length rows → a ≡ get_or rows n a → slice_get (rows_of rows) n ≡ Some (arguments_of a)
row_at rows n a w at = slice_get-map arguments_of rows n ∙ ap (option_map arguments_of) (slice_get_next rows n a w at)

pub row_is : (rows : List Arguments) (n : ℕ) (d : Arguments) → n < length rows → slice_get (rows_of rows) n ≡ Some (arguments_of (get_or rows n d))
row_is rows n d w = slice_get-map arguments_of rows n ∙ ap (option_map arguments_of) (slice_get-get_or rows n d w)

pub operation_in : (rows : List Arguments) (row ps : TermTrees) (n : ℕ) (d : Arguments) → n < length rows →
    operation_there_in row ps (arguments_of (get_or rows n d)) ≡ operation_at (rows_of rows) row ps n
operation_in rows row ps n d w = ap (operation_there_in row ps) (sym (get_or-map arguments_of rows n d no_terms w))

pub inside : (rows : List Arguments) (numbers : List ℕ) → Each (λ n. n < length (rows_of rows)) numbers → Each (λ n. n < length rows) numbers
inside rows numbers h = subst (λ k. Each (λ n. n < k) numbers) (length-map rows arguments_of) h

meets_within : (rows : List TermTrees) (ps : TermTrees) (n : ℕ) → MeetsAt rows ps n → n < length rows
meets_within rows ps n m = let k = on_some (slice_get rows n) (λ r. MeetAll r ps) m in slice_get_within rows n k.0 k.1

some_at : {A : Type 0} (P : A → Type 0) (xs : List A) → OneOf P xs → (n : ℕ) × OnSome (slice_get xs n) P
some_at P [] o = absurd o
some_at P (x ∷ xs) (inl h) = (zero, h)
some_at P (x ∷ xs) (inr o) = let r = some_at P xs o in (suc r.0, r.1)

at_some : {A : Type 0} (P : A → Type 0) (xs : List A) (n : ℕ) → OnSome (slice_get xs n) P → OneOf P xs
at_some P [] n h = absurd h
at_some P (x ∷ xs) zero h = inl h
at_some P (x ∷ xs) (suc n) h = inr (at_some P xs n h)

-- rows that cover a pattern

pub covered_by : (rows : List TermTrees) (ps : TermTrees) (numbers : List ℕ) → OneOf (CoversAt rows ps) numbers → OneOf (λ r. AreOfShape r ps) rows
covered_by rows ps [] o = absurd o
covered_by rows ps (n ∷ numbers) (inl h) = at_some (λ r. AreOfShape r ps) rows n h
covered_by rows ps (n ∷ numbers) (inr o) = covered_by rows ps numbers o

-- rows that meet a pattern

pub empty_list : (numbers : List ℕ) → length numbers < 1 → numbers ≡ []
empty_list [] w = refl
empty_list (n ∷ numbers) w = absurd (omega (arith, w))

pub first_and_rest : (numbers : List ℕ) → 1 ≤ length numbers → get_or numbers 0 0 ∷ take (length numbers - 1) (drop 1 numbers) ≡ numbers
first_and_rest [] w = absurd (omega (arith, w))
first_and_rest (n ∷ numbers) w =
    let all : length numbers ≤ length (n ∷ numbers) - 1 = omega arith in ap (λ ns. n ∷ ns) (take_all (length (n ∷ numbers) - 1) numbers all)

pub none_meets : (rows : List TermTrees) (ps : TermTrees) → AreMeeting rows ps [] → Each (λ r. MeetAll r ps → ⊥) rows
none_meets rows ps h = each_from (λ r. MeetAll r ps → ⊥) rows (λ r i m.
    let k = some_at (λ y. r ≡ y) rows i in
    let y = on_some (slice_get rows k.0) (λ y. r ≡ y) k.1 in
    h.whole k.0 (subst (λ o. OnSome o (λ r. MeetAll r ps)) (sym y.1) (subst (λ x. MeetAll x ps) y.2 m)))

first_from : (rows : List TermTrees) (ps : TermTrees) (n : ℕ) (r : TermTrees) → slice_get rows n ≡ Some r → MeetAll r ps →
    ((k : ℕ) → k < n → MeetsAt rows ps k → ⊥) → IsFirstMeeting rows ps r
first_from [] ps n r at m before = absurd (cc)
first_from (x ∷ rows) ps zero r at m before =
    let e : r ≡ x = sym (same_Some _ _ at) in inl (subst (λ y. MeetAll y ps) e m, e)
first_from (x ∷ rows) ps (suc n) r at m before =
    inr (before zero (omega arith), first_from rows ps n r at m (λ k w. before (suc k) (omega (arith, w))))

pub first_of_least : (rows : List TermTrees) (ps : TermTrees) (numbers : List ℕ) (n : ℕ) (r : TermTrees) → AreMeeting rows ps numbers →
    IsOneOf n numbers → Each (λ k. n ≤ k) numbers → slice_get rows n ≡ Some r → IsFirstMeeting rows ps r
first_of_least rows ps numbers n r h one least at =
    first_from rows ps n r at (subst (λ o. OnSome o (λ r. MeetAll r ps)) at (each_one (MeetsAt rows ps) numbers n h.meet one))
    (λ k w m. let far = each_one (λ k. n ≤ k) numbers k least (h.whole k m) in omega (arith, w, far))

-- one more candidate is looked at

abbrev pub WholeIn : List TermTrees → TermTrees → List ℕ → List ℕ → Type 0
WholeIn rows ps meeting candidates = Each (λ n. MeetsAt rows ps n → IsOneOf n meeting) candidates

pub meeting_next : (rows : List TermTrees) (ps : TermTrees) (candidates old new : List ℕ) (i n : ℕ) → i < length candidates → n ≡ get_or candidates i n →
    IsMeetingAdded rows ps n old new → Each (MeetsAt rows ps) old → WholeIn rows ps old (take i candidates) →
    Each (MeetsAt rows ps) new × WholeIn rows ps new (take (i + 1) candidates)
meeting_next rows ps candidates old new i n w at (inl a) meet whole = (
  subst (Each (MeetsAt rows ps)) (sym a.1) (each_push (MeetsAt rows ps) old n meet a.0),
  subst (Each (λ k. MeetsAt rows ps k → IsOneOf k new)) (sym (take_next candidates i n w at))
      (each_push (λ k. MeetsAt rows ps k → IsOneOf k new) (take i candidates) n
      (each_implied (λ k. MeetsAt rows ps k → IsOneOf k old) (λ k. MeetsAt rows ps k → IsOneOf k new) (take i candidates)
      (λ k h m. subst (IsOneOf k) (sym a.1) (one_left k old (n ∷ []) (h m))) whole)
      (λ m. subst (IsOneOf n) (sym a.1) (one_right n old (n ∷ []) (inl refl)))),
)
meeting_next rows ps candidates old new i n w at (inr a) meet whole = (
  subst (Each (MeetsAt rows ps)) (sym a.1) meet,
  subst (λ ns. Each (λ k. MeetsAt rows ps k → IsOneOf k ns) (take (i + 1) candidates)) (sym a.1)
      (subst (Each (λ k. MeetsAt rows ps k → IsOneOf k old)) (sym (take_next candidates i n w at))
      (each_push (λ k. MeetsAt rows ps k → IsOneOf k old) (take i candidates) n whole (λ m. absurd (a.0 m)))),
)

pub candidate_within : (rows : List Arguments) (ps : TermTrees) (candidates : List ℕ) (i n : ℕ) → i < length candidates → n ≡ get_or candidates i n →
    AreCandidates (rows_of rows) ps candidates → n < length rows
candidate_within rows ps candidates i n w at h =
    subst (λ k. k < length rows) (sym at) (each_get_or (λ k. k < length rows) candidates i n w (inside rows candidates h.within))

pub all_meeting : (rows : List TermTrees) (ps : TermTrees) (candidates meeting : List ℕ) (i : ℕ) → AreCandidates rows ps candidates → length candidates ≤ i →
    Each (MeetsAt rows ps) meeting → WholeIn rows ps meeting (take i candidates) → AreMeeting rows ps meeting
all_meeting rows ps candidates meeting i h w meet whole = record {
  meet = meet;
  whole = λ n m.
      each_one (λ k. MeetsAt rows ps k → IsOneOf k meeting) candidates n
      (each-all (λ k. MeetsAt rows ps k → IsOneOf k meeting) candidates i w whole) (h.whole n m) m;
}

-- all numbers

pub range_next : (n : ℕ) → range_with_len 0 n ++ n ∷ [] ≡ range_with_len 0 (n + 1)
range_next n =
    let one : suc n ≡ n + 1 = omega arith in
    let here : 0 + n ≡ n = omega arith in
    ap (λ k. range_with_len 0 n ++ k ∷ []) (sym here) ∙ sym (range_suc 0 n) ∙ ap (range_with_len 0) one

range_within : (n a k : ℕ) → a + n ≤ k → Each (λ m. m < k) (range_with_len a n)
range_within zero a k w = tt
range_within (suc n) a k w = (omega (arith, w), range_within n (a + 1) k (omega (arith, w)))

pub all_candidates : (rows : List Arguments) (ps : TermTrees) (numbers : List ℕ) (n : ℕ) → numbers ≡ range_with_len 0 n → n ≡ length rows →
    AreCandidates (rows_of rows) ps numbers
all_candidates rows ps numbers n are all =
    let count : n ≡ length (rows_of rows) = all ∙ sym (length-map rows arguments_of) in
    record {
      within = subst (Each (λ m. m < length (rows_of rows))) (sym are) (range_within n 0 (length (rows_of rows)) (omega (arith, count)));
      whole = λ k m. subst (IsOneOf k) (sym are) (let w = meets_within (rows_of rows) ps k m in one_in_range n 0 k (omega arith) (omega (arith, w, count)));
    }

pub none_parted : (split : Split) → ((f : ℕ) → numbers_at split (Some f) ≡ []) → numbers_at split None ≡ [] → (o : Option ℕ) → numbers_at split o ≡ []
none_parted split places others None = others
none_parted split places others (Some f) = places f

-- the candidates of an opened pattern

one_placed : (o : Option ℕ) (n : ℕ) → IsOneOf n (number_if o o n)
one_placed None n = inl refl
one_placed (Some f) n = subst (λ b. IsOneOf n (if b then n ∷ [] else [])) (sym (eq-eqb f f refl)) (inl refl)

all_placed : (P : ℕ → Type 0) (o a : Option ℕ) (n : ℕ) → P n → Each P (number_if o a n)
all_placed P None None n h = (h, tt)
all_placed P (Some f) (Some g) n h = by_test (nat_eq f g)
  where
    by_test : (b : Bool) → Each P (if b then n ∷ [] else [])
    by_test true = (h, tt)
    by_test false = tt
all_placed P None (Some g) n h = tt
all_placed P (Some f) None n h = tt

pub opened_candidates : (rows : List TermTrees) (row ps : TermTrees) (c : ℕ) (us : TermTrees) (split : Split) (meeting numbers : List ℕ) →
    IsSplitOf split rows row ps meeting → AreMeeting rows ps meeting → numbers ≡ numbers_at split (Some c) ++ numbers_at split None →
    AreCandidates rows (opened_any (apply c us) row ps) numbers
opened_candidates rows row ps c us split meeting numbers is h are = record {
  within = subst (Each (λ n. n < length rows)) (sym are)
      (each_append (λ n. n < length rows) (numbers_at split (Some c)) (numbers_at split None) (part (Some c)) (part None));
  whole = λ n m. subst (IsOneOf n) (sym are) (found n (on_some (slice_get rows n) (λ r. MeetAll r (opened_any (apply c us) row ps)) m));
}
  where
    part : (o : Option ℕ) → Each (λ n. n < length rows) (numbers_at split o)
    part o = subst (Each (λ n. n < length rows)) (sym (is o))
        (each_flat_map (MeetsAt rows ps) (λ n. n < length rows) (λ n. number_if o (operation_at rows row ps n) n) meeting
        (λ n m. all_placed (λ n. n < length rows) o (operation_at rows row ps n) n (meets_within rows ps n m)) h.meet)

    there : (n : ℕ) (o : Option ℕ) → IsOneOf n meeting → operation_at rows row ps n ≡ o → IsOneOf n (numbers_at split o)
    there n o one e = subst (IsOneOf n) (sym (is o))
        (one_flat_map (λ n. number_if o (operation_at rows row ps n) n) n meeting n one (subst (λ a. IsOneOf n (number_if o a n)) (sym e) (one_placed o n)))

    by_operation : (n : ℕ) (r : TermTrees) → IsOneOf n meeting → operation_at rows row ps n ≡ operation_there_in row ps r → MeetAll r (opened_any (apply c us) row ps) →
        (o : Option ℕ) → operation_there_in row ps r ≡ o → IsOneOf n (numbers_at split (Some c) ++ numbers_at split None)
    by_operation n r one same m None e = one_right n (numbers_at split (Some c)) (numbers_at split None) (there n None one (same ∙ e))
    by_operation n r one same m (Some g) e =
        one_left n (numbers_at split (Some c)) (numbers_at split None) (there n (Some c) one (same ∙ e ∙ ap Some (is_there_in r row ps c g us e m)))

    found : (n : ℕ) → ((r : TermTrees) × (slice_get rows n ≡ Some r) × MeetAll r (opened_any (apply c us) row ps)) →
        IsOneOf n (numbers_at split (Some c) ++ numbers_at split None)
    found n k =
        let row_is : get_or rows n no_terms ≡ k.0 = same_Some _ _ (sym (slice_get-get_or rows n no_terms (slice_get_within rows n k.0 k.1)) ∙ k.1) in
        by_operation n k.0 (h.whole n (subst (λ o. OnSome o (λ r. MeetAll r ps)) (sym k.1) (meet_before k.0 row ps (apply c us) k.2)))
        (ap (operation_there_in row ps) row_is) k.2 (operation_there_in row ps k.0) refl
