use Rattle.std.proofs.Common.{get_or, map}
use Rattle.spec_core.specs.Terms.{term_of, terms}
use Rattle.spec_core.proofs.Lists.{own_default}
use Rattle.cover_search.specs.Search.{rows_of}
use Rattle.cover_search.proofs.Candidates.{all_meeting, candidate_within, meeting_next}
use Rattle.cover_search.proofs.rows.meeting.Goals as goal

pub add_meeting-requires : goal.add_meeting-requires
add_meeting-requires c =
    let numbers = c.args.candidates.now in
    let i = c.loop-number.number-index in
    candidate_within c.args.rows.now (terms (map term_of c.args.pattern.now)) numbers i (get_or numbers i 0) c.loop-number-test.true
    (own_default numbers i 0 c.loop-number-test.true) c.requires

pub loop-number-preserved : goal.loop-number-preserved
loop-number-preserved c =
    let numbers = c.args.candidates.now in
    let i = c.loop-number.number-index in
    let r = meeting_next (rows_of c.args.rows.now) (terms (map term_of c.args.pattern.now)) numbers c.loop-number.all.items
    c.add_meeting.new.meeting.items i (get_or numbers i 0) c.loop-number-test.true (own_default numbers i 0 c.loop-number-test.true)
    c.in_ok-add_meeting.ensures c.loop-number.invariant.meet c.loop-number.invariant.whole in
    record { meet = r.0; whole = r.1 }

pub returns : goal.returns
returns c =
    all_meeting (rows_of c.args.rows.now) (terms (map term_of c.args.pattern.now)) c.args.candidates.now c.loop-number.all.items
    c.loop-number.number-index c.requires c.loop-number-test.false c.loop-number.invariant.meet c.loop-number.invariant.whole
