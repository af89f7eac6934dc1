-- What a thread is given may go to it, and what it leaves may come back.
use denote.RattleType.{RattleType}
use denote.Param.Send.{IsSend, IsSync, recorded_send, struct_send}
use denote.Struct.Declared as struct
use denote.Struct.Tuple as tuple
use mir.Syntax.{Sym}
use Rattle.std.proofs.Common.{[], ◌∷◌}
use Rattle.core.proofs.atomic.AtomicU64.TheSendSync as atomic
use Rattle.rule_model.specs.contracts.wish.ClientWish as wish
use Rattle.session_threads.specs.contracts.places.Refusals as refusals
use Rattle.session_threads.specs.contracts.rows.ServedClient as served_client
use Rattle.session_threads.specs.contracts.rows.ServedWorker as served_worker
use Rattle.spec_core.proofs.Crossing.{simple}
use Rattle.session.proofs.Crossing.{pass_send, work_pass_send}

pub wish_sync : IsSync wish.the_row
wish_sync = search simple depth 60 fits 20000

pub refusals_sync : IsSync refusals.the_row
refusals_sync = search (atomic.the_sync, simple) depth 60 fits 20000

-- a closure that takes six values with it
pub job_send : (ν : Sym) (A B C D E F : RattleType) → IsSend A → IsSend B → IsSend C → IsSend D → IsSend E → IsSend F →
    IsSend (tuple.TupleAt ν (A ∷ B ∷ C ∷ D ∷ E ∷ F ∷ []))
job_send ν A B C D E F a b c d e f =
    recorded_send (tuple.field_at ν (A ∷ B ∷ C ∷ D ∷ E ∷ F ∷ [])).row _ _ (tuple.type_at ν (A ∷ B ∷ C ∷ D ∷ E ∷ F ∷ [])).to_one
    (struct_send (struct.shape (tuple.type_at ν (A ∷ B ∷ C ∷ D ∷ E ∷ F ∷ []))) (a, (b, (c, (d, (e, (f, tt)))))))

pub served_client_send : IsSend served_client.the_row
served_client_send =
    recorded_send (served_client.the_field).row _ _ (served_client.the_type).to_one
    (struct_send (struct.shape served_client.the_type) (pass_send, (search simple depth 60 fits 20000, (search simple depth 60 fits 20000, tt))))

pub served_worker_send : IsSend served_worker.the_row
served_worker_send =
    recorded_send (served_worker.the_field).row _ _ (served_worker.the_type).to_one
    (struct_send (struct.shape served_worker.the_type) (work_pass_send, (search simple depth 60 fits 20000, (search simple depth 60 fits 20000, tt))))
