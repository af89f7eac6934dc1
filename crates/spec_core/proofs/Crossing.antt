-- What a term and a checked specification consist of may go to other threads.
use denote.Param.Send.{IsSend, IsSync, sendable, struct_send, struct_sync}
use denote.Struct.Declared as struct
use Rattle.std.proofs.Crossing as heap
use Rattle.spec_core.proofs.term.Term.TheLaws.TheKnot as term
use Rattle.spec_core.specs.contracts.code.Checked as checked
use Rattle.spec_core.specs.contracts.term.Term as term_row

pub ruleset simple = (heap.crosses, sendable)

pub term_send : IsSend (term_row.the_field).row
term_send = search (term.crosses, simple) depth 60 fits 20000

pub checked_send : IsSend (checked.the_field).row
checked_send =
    struct_send (struct.shape checked.the_type) (
      search (term_send, simple) depth 60 fits 20000,
      (
        search (term_send, simple) depth 60 fits 20000,
        (
          search simple depth 60 fits 20000,
          (
            search simple depth 60 fits 20000,
            (
              search simple depth 60 fits 20000,
              tt,
            ),
          ),
        ),
      ),
    )

pub checked_sync : IsSync (checked.the_field).row
checked_sync =
    struct_sync (struct.shape checked.the_type) (
      search (term.crosses, simple) depth 60 fits 20000,
      (
        search (term.crosses, simple) depth 60 fits 20000,
        (
          search simple depth 60 fits 20000,
          (
            search simple depth 60 fits 20000,
            (
              search simple depth 60 fits 20000,
              tt,
            ),
          ),
        ),
      ),
    )
