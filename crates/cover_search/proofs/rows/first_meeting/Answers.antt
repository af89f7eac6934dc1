use Rattle.std.proofs.Common.{◌<◌, ◌≤◌, length, subst}
use Rattle.spec_core.specs.Lists.{Each, IsOneOf}
use Rattle.spec_core.proofs.Members.{each_one}
use Rattle.cover_search.specs.Candidates.{AreMeeting}
use Rattle.cover_search.specs.Search.{arguments_of, rows_of}
use Rattle.cover_search.proofs.Candidates.{empty_list, first_and_rest, first_of_least, none_meets, row_at}
use Rattle.cover_search.proofs.rows.first_meeting.Goals as goal

pub returns-in-empty-clause-none : goal.returns-in-empty-clause-none
returns-in-empty-clause-none c = λ ps h.
    let rows = rows_of c.args.rows.now in
    none_meets rows ps (subst (AreMeeting rows ps) (empty_list c.args.meeting.now c.in-empty.len_below) h)

pub returns-in-len1-up-clause-some : goal.returns-in-len1-up-clause-some
returns-in-len1-up-clause-some c = λ ps h.
    let rows = c.args.rows.now in
    let numbers = c.args.meeting.now in
    let n = c.least-number.result in
    let whole = first_and_rest numbers c.in-len1-up.len_at_least in
    let one : IsOneOf n numbers = subst (IsOneOf n) whole c.least-number.ensures.one in
    let least : Each (λ k. n ≤ k) numbers = subst (Each (λ k. n ≤ k)) whole c.least-number.ensures.least in
    let w : n < length rows = each_one (λ k. k < length rows) numbers n c.requires one in
    first_of_least (rows_of rows) ps numbers n (arguments_of c.index-rows-number.result) h one least
    (row_at rows n c.index-rows-number.result w c.index-rows-number.is)
