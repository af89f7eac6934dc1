use Rattle.std.proofs.Common.{inl, option_map, refl, subst, sym}
use Rattle.rule_model.specs.Derivations.{derivation_of}
use Rattle.candidates.specs.Jobs.{to_judge}
use Rattle.candidate_verdicts.specs.declared.pieces.Piece.{Piece}
use Rattle.candidate_verdicts.specs.Known.{node_part}
use Rattle.symbolic_actions.specs.Models.{show_of}
use Rattle.node_trees.specs.Origins.{source_of}
use Rattle.board_core.specs.Views.{program, tree, windows}
use Rattle.board_work.specs.declared.outcome.Outcome.{Outcome}
use Rattle.board_work.specs.Handed.{IsTakenIn}
use Rattle.board_work.specs.Outcomes.{ComesOf}
use Rattle.board_work.proofs.Taking.{kept_where, shown_of_node, unshown_gives}
use Rattle.board_work.proofs.Keeping.{keeps_post, keeps_same}
use Rattle.board_work.proofs.Quiet.{hands_nothing}
use Rattle.board_work.proofs.handing_in.judged.Goals as goal

pub judged-requires : goal.judged-requires
judged-requires c =
    let v = c.args.board.now in
    let o = source_of c.args.origin.now in
    let d = derivation_of c.args.rules in
    let g = c.args.generation.0 in
    record {
      piece =
          shown_of_node (program v) (windows v) (tree v) g o d (option_map show_of c.in-Judged.shown)
          (c.has_origin.ensures.origin c.if-not-has_origin.false)
          (subst (λ (x : Outcome). ComesOf (program v) (windows v) v.settings.budget o (to_judge (node_part g d)) x) c.in-Judged.is
          c.requires.outcome);
    }

pub give_reason-requires : goal.give_reason-requires
give_reason-requires c =
    let v = c.args.board.now in
    let o = source_of c.args.origin.now in
    let part = node_part c.args.generation.0 (derivation_of c.args.rules) in
    record {
      reason =
          unshown_gives v c.jobs_give_reasons.ensures o part c.in-Stopped.reason (c.has_origin.ensures.origin c.if-not-has_origin.false)
          (subst (λ (x : Outcome). ComesOf (program v) (windows v) v.settings.budget o (to_judge part) x) c.in-Stopped.is c.requires.outcome);
    }

pub returns-in_ok-judged-in-Judged-clause-taken : goal.returns-in_ok-judged-in-Judged-clause-taken
returns-in_ok-judged-in-Judged-clause-taken c = λ in_time.
    let h = c.in_ok-judged-in-Judged.ensures in
    let kept = kept_where c.in_ok-judged-in-Judged.field-0 in_time.1 h.stale in
    subst (IsTakenIn c.args.board.now c.judged.new.self (to_judge (node_part c.args.generation.0 (derivation_of c.args.rules))))
    (sym c.in-Judged.is)
    (record {
      piece = record { generation = c.args.generation; rules = c.args.rules; shown = c.in-Judged.shown };
      part_is = refl;
      shown_is = refl;
      known = (h.posted kept).1;
      nodes = h.tree;
      stop = h.stop;
    })

pub returns-then-not-has_origin-clause-handed : goal.returns-then-not-has_origin-clause-handed
returns-then-not-has_origin-clause-handed c =
    let e = c.give_back.ensures in
    hands_nothing c.args.board.now c.give_back.new.self e.session e.log e.nodes e.stop

pub returns-in_ok-judged-in-Judged-clause-handed : goal.returns-in_ok-judged-in-Judged-clause-handed
returns-in_ok-judged-in-Judged-clause-handed c =
    let h = c.in_ok-judged-in-Judged.ensures in
    let piece : Piece = record { generation = c.args.generation; rules = c.args.rules; shown = c.in-Judged.shown } in
    record {
      session = h.session;
      log = h.log;
      done =
          keeps_post c.args.board.now c.judged.new.self piece c.in_ok-judged-in-Judged.field-0 (λ e. (h.posted e).1) (λ e. (h.stale e).1) h.tree;
      stop = inl h.stop;
    }

pub returns-in_err-judged-in-Judged-clause-handed : goal.returns-in_err-judged-in-Judged-clause-handed
returns-in_err-judged-in-Judged-clause-handed c =
    let h = c.in_err-judged-in-Judged.ensures in
    record {
      session = h.session;
      log = h.log;
      done = keeps_same c.args.board.now c.judged.new.self h.tree h.known;
      stop = inl h.stop;
    }
