-- Lists of shapes, pair by pair.
use Rattle.std.proofs.Common.{ℕ, ◌≡◌, ◌<◌, ◌≤◌, ◌+◌, List, length, map, take, get_or}
use Rattle.spec_core.specs.declared.term.Term.{Term}
use Rattle.spec_core.specs.Terms.{terms, term_of}
use Rattle.equation_shapes.specs.Shapes.{IsOfShape, AreOfShape, Meets, MeetAll}
use Rattle.equation_shapes.proofs.TermPairs.{lengths, pair_at, pairs_next, pairs_end}

pub shape_lengths : (xs ys : List Term) → AreOfShape (terms (map term_of xs)) (terms (map term_of ys)) → length xs ≡ length ys
shape_lengths = lengths IsOfShape AreOfShape tt (λ t u ts us r l. (r, l)) (λ t u ts us l. l.0) (λ t u ts us l. l.1) (λ t ts h. h) (λ t ts h. h)

pub shape_at : (xs ys : List Term) (i : ℕ) (x y : Term) → AreOfShape (terms (map term_of xs)) (terms (map term_of ys)) → i < length xs →
    x ≡ get_or xs i x → y ≡ get_or ys i y → IsOfShape (term_of x) (term_of y)
shape_at = pair_at IsOfShape AreOfShape tt (λ t u ts us r l. (r, l)) (λ t u ts us l. l.0) (λ t u ts us l. l.1) (λ t ts h. h) (λ t ts h. h)

pub shapes_next : (xs ys : List Term) (i : ℕ) (x y : Term) →
    AreOfShape (terms (map term_of (take i xs))) (terms (map term_of (take i ys))) → i < length xs → i < length ys → x ≡ get_or xs i x →
    y ≡ get_or ys i y → IsOfShape (term_of x) (term_of y) →
    AreOfShape (terms (map term_of (take (i + 1) xs))) (terms (map term_of (take (i + 1) ys)))
shapes_next = pairs_next IsOfShape AreOfShape tt (λ t u ts us r l. (r, l)) (λ t u ts us l. l.0) (λ t u ts us l. l.1) (λ t ts h. h) (λ t ts h. h)

pub shapes_end : (xs ys : List Term) (i : ℕ) → AreOfShape (terms (map term_of (take i xs))) (terms (map term_of (take i ys))) →
    length xs ≤ i → length xs ≡ length ys → AreOfShape (terms (map term_of xs)) (terms (map term_of ys))
shapes_end = pairs_end IsOfShape AreOfShape tt (λ t u ts us r l. (r, l)) (λ t u ts us l. l.0) (λ t u ts us l. l.1) (λ t ts h. h) (λ t ts h. h)

pub meet_lengths : (xs ys : List Term) → MeetAll (terms (map term_of xs)) (terms (map term_of ys)) → length xs ≡ length ys
meet_lengths = lengths Meets MeetAll tt (λ t u ts us r l. (r, l)) (λ t u ts us l. l.0) (λ t u ts us l. l.1) (λ t ts h. h) (λ t ts h. h)

pub meet_at : (xs ys : List Term) (i : ℕ) (x y : Term) → MeetAll (terms (map term_of xs)) (terms (map term_of ys)) → i < length xs →
    x ≡ get_or xs i x → y ≡ get_or ys i y → Meets (term_of x) (term_of y)
meet_at = pair_at Meets MeetAll tt (λ t u ts us r l. (r, l)) (λ t u ts us l. l.0) (λ t u ts us l. l.1) (λ t ts h. h) (λ t ts h. h)

pub meets_next : (xs ys : List Term) (i : ℕ) (x y : Term) → MeetAll (terms (map term_of (take i xs))) (terms (map term_of (take i ys))) →
    i < length xs → i < length ys → x ≡ get_or xs i x → y ≡ get_or ys i y → Meets (term_of x) (term_of y) →
    MeetAll (terms (map term_of (take (i + 1) xs))) (terms (map term_of (take (i + 1) ys)))
meets_next = pairs_next Meets MeetAll tt (λ t u ts us r l. (r, l)) (λ t u ts us l. l.0) (λ t u ts us l. l.1) (λ t ts h. h) (λ t ts h. h)

pub meets_end : (xs ys : List Term) (i : ℕ) → MeetAll (terms (map term_of (take i xs))) (terms (map term_of (take i ys))) → length xs ≤ i →
    length xs ≡ length ys → MeetAll (terms (map term_of xs)) (terms (map term_of ys))
meets_end = pairs_end Meets MeetAll tt (λ t u ts us r l. (r, l)) (λ t u ts us l. l.0) (λ t u ts us l. l.1) (λ t ts h. h) (λ t ts h. h)
