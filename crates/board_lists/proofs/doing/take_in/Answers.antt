use Rattle.board_lists.proofs.doing.take_in.Goals as goal

pub expanded-requires-clause-origin : goal.expanded-requires-clause-origin
expanded-requires-clause-origin c = c.has_origin.ensures.origin c.if-not-has_origin.false

pub judged-requires-clause-origin : goal.judged-requires-clause-origin
judged-requires-clause-origin c = c.has_origin-in-Judge.ensures.origin c.if-not-has_origin-2.false
