-- Laws of canonical certificates.
use Rattle.std.specs.Prelude.{◌≡◌, ◌↔◌, List, map}
use Rattle.spec_core.specs.Equality.{Equal}
use Rattle.spec_core.specs.Executable.{IsExecutable}
use Rattle.spec_core.specs.Sorts.{FitsGround}
use Rattle.spec_core.specs.Terms.{TermTree}
use Rattle.spec_core.specs.Theories.{Theory}
use Rattle.equal_proof.specs.declared.proof.ProofStep.{ProofStep}
use Rattle.equal_proof.specs.Certificates.{Proves}
use Rattle.canonical_proof.specs.Canonical.{IsCanonical}
use Rattle.canonical_proof.specs.Lines.{Line, line_of}

-- over executable data, the canonical certificate of an equation between terms of the data is a certificate, and proves it
abbrev pub CanonicalCertificatesProve : Type 0
CanonicalCertificatesProve =
    (theory : Theory) →
    IsExecutable theory →
    (steps : List ProofStep) (t u : TermTree) →
    FitsGround theory t →
    FitsGround theory u →
    IsCanonical theory t u (map line_of steps) →
    Proves theory steps t u

-- over executable data, an equation has one canonical certificate at most
abbrev pub CanonicalCertificatesAreOne : Type 0
CanonicalCertificatesAreOne =
    (theory : Theory) →
    IsExecutable theory →
    (t u : TermTree) (lines others : List Line) →
    IsCanonical theory t u lines →
    IsCanonical theory t u others →
    lines ≡ others

-- over executable data, an equation between terms of the data has one exactly where they are provably equal
abbrev pub EqualTermsHaveCanonicalCertificates : Type 0
EqualTermsHaveCanonicalCertificates =
    (theory : Theory) →
    IsExecutable theory →
    (t u : TermTree) →
    FitsGround theory t →
    FitsGround theory u →
    Equal theory t u ↔ ((lines : List Line) × IsCanonical theory t u lines)
