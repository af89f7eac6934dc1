use Rattle.std.proofs.Common.{rules}
use Rattle.spec_core.specs.Theories.{theory_of}
use Rattle.symbolic_rules.specs.Tables.{windows_in}
use Rattle.candidate_verdicts.proofs.rule.over_part.Goals as goal

pub returns-in-LeftAlone : goal.returns-in-LeftAlone
returns-in-LeftAlone c = search (rules, c.alone.ensures.left (theory_of c.args.algebra.now) (windows_in c.args.windows.now))

pub returns-in-RightAlone : goal.returns-in-RightAlone
returns-in-RightAlone c = search (rules, c.alone-in-RightAlone.ensures.right (theory_of c.args.algebra.now) (windows_in c.args.windows.now))

pub returns-in-SeenIn : goal.returns-in-SeenIn
returns-in-SeenIn c = search (rules, c.seen.ensures.seen (theory_of c.args.algebra.now) (windows_in c.args.windows.now))

pub returns-in-BeforeEnd : goal.returns-in-BeforeEnd
returns-in-BeforeEnd c = search (rules, c.going_on.ensures.enabling (theory_of c.args.algebra.now) (windows_in c.args.windows.now))

pub returns-in-Undisabled : goal.returns-in-Undisabled
returns-in-Undisabled c =
    search (rules, c.going_on-in-Undisabled.ensures.disabling (theory_of c.args.algebra.now) (windows_in c.args.windows.now))

pub returns-in-Ended : goal.returns-in-Ended
returns-in-Ended c = search (rules, c.terminated.ensures.ended (theory_of c.args.algebra.now) (windows_in c.args.windows.now))

pub returns-in-RenamedBy : goal.returns-in-RenamedBy
returns-in-RenamedBy c = search (rules, c.relabelled.ensures.renamed (theory_of c.args.algebra.now) (windows_in c.args.windows.now))
