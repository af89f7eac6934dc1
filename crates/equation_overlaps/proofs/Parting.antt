-- Linear left sides that meet are apart exactly where the premises exclude each other.
use Rattle.std.proofs.Common.{◌↔◌, IsTrue, Bool, inl, inr}
use Rattle.spec_core.specs.Orthogonality.{IsLinear, ExcludeEachOther, AreApart}
use Rattle.spec_core.specs.Theories.{ConditionalEquation, Theory}
use Rattle.equation_shapes.specs.Shapes.{Meets}
use Rattle.equation_shapes.proofs.Linear.{united, have_meet}

pub without : (theory : Theory) (e d : ConditionalEquation) → (Meets e.left d.left → ⊥) → AreApart theory e d
without theory e d apart = inl (λ s z same. apart (have_meet e.left d.left record { one = s; other = z; same = same }))

pub by_premises : (theory : Theory) (e d : ConditionalEquation) (b : Bool) → IsLinear e.left → IsLinear d.left → Meets e.left d.left →
    IsTrue b ↔ ExcludeEachOther theory e d → IsTrue b ↔ AreApart theory e d
by_premises theory e d b l k m h = (
  λ t. inr (h.0 t),
  λ a. elim a [ inl apart ↦ (let u = united e.left d.left l k m in absurd (apart u.one u.other u.same)) | inr x ↦ h.1 x ],
)
