use Rattle.std.proofs.Common.{◌≡◌, [], length, map, arith}
use Rattle.spec_core.specs.Terms.{no_terms, terms, term_of}
use Rattle.spec_core.proofs.Lists.{untrue}
use Rattle.spec_core.proofs.Same.{lengths}
use Rattle.equation_overlaps.proofs.plain.is_nothing.Goals as goal

pub returns-in-len1-up : goal.returns-in-len1-up
returns-in-len1-up c = record {
  decides = (
    λ h. absurd (untrue h),
    λ (e : terms (map term_of c.args.all.now) ≡ no_terms).
        let h : length c.args.all.now ≡ 0 = lengths c.args.all.now [] e in absurd (omega (arith, h, c.in-len1-up.len_at_least)),
  );
}
