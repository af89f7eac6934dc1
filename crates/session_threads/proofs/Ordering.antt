-- Rows in order.
use Rattle.std.proofs.Common.{ℕ, zero, suc, ◌+◌, ◌<◌, ◌≡◌, ◌∙◌, sym, ap, subst, arith, List, [], ◌∷◌, ◌++◌, map, append_assoc}
use Rattle.std.proofs.Common.{length, drop, get_or, Vec}
use Rattle.std.specs.List.{remove}
use Rattle.std.specs.declared.alloc.Global.{Global}
use Rattle.rule_model.specs.declared.wish.ClientWish.{ClientWish}
use Rattle.session.specs.Passes.{PassView, WorkPassView}
use Rattle.session_threads.specs.declared.rows.Row.{Row}
use Rattle.session_threads.specs.declared.rows.Row.TheVariants.{Client, Worker}
use Rattle.session_threads.specs.Rows.{worker_row, AreClientRows}
use Rattle.session_threads.specs.Runs.{all_wishes_of}

pub first_taken : {A : Type 0} (xs rest : List A) (x : A) → 0 < length xs → x ≡ get_or xs 0 x → rest ≡ remove xs 0 → xs ≡ x ∷ rest
first_taken [] rest x some at is = absurd (omega (arith, some))
first_taken (y ∷ ys) rest x some at is = λ i. sym at i ∷ sym is i

-- one row more of a worker
pub worker_more : (all left rest : List WorkPassView) (pass : WorkPassView) (old new : List Row) → old ++ map worker_row left ≡ map worker_row all →
    left ≡ pass ∷ rest → new ≡ old ++ worker_row pass ∷ [] → new ++ map worker_row rest ≡ map worker_row all
worker_more all left rest pass old new so is more =
    ap (λ l. l ++ map worker_row rest) more ∙ append_assoc old (worker_row pass ∷ []) (map worker_row rest)
    ∙ ap (λ l. old ++ map worker_row l) (sym is) ∙ so

drop_next : {A B : Type 0} (f : A → B) (xs : List A) (n : ℕ) (x : A) → n < length xs → x ≡ get_or xs n x →
    drop n (map f xs) ≡ f x ∷ drop (n + 1) (map f xs)
drop_next f [] n x below at = absurd (omega (arith, below))
drop_next f (y ∷ ys) zero x below at = ap (λ z. f z ∷ map f ys) (sym at)
drop_next f (y ∷ ys) (suc n) x below at =
    drop_next f ys n x (omega (arith, below)) at ∙ ap (λ k. f x ∷ drop k (f y ∷ map f ys)) (let e : suc (n + 1) ≡ suc n + 1 = omega arith in e)

module _ (clients : List (Vec ClientWish Global)) where
  -- one row more of a client, before the others
  pub client_more : (done : List PassView) (pass : PassView) (wishes : Vec ClientWish Global) (n m : ℕ) (behind old new : List Row) (row : Row) →
      n < length clients → wishes ≡ get_or clients n wishes → m ≡ n + 1 → AreClientRows done (drop m (map all_wishes_of clients)) behind old →
      new ≡ row ∷ old → AreClientRows (pass ∷ []) (all_wishes_of wishes ∷ []) [] (row ∷ []) →
      AreClientRows (pass ∷ done) (drop n (map all_wishes_of clients)) behind new
  client_more done pass wishes n m behind old new (Worker q b) below at e so is one = absurd one
  client_more done pass wishes n m behind old new (Client q v b) below at e so is one =
      subst (λ l. AreClientRows (pass ∷ done) l behind new) (sym (drop_next all_wishes_of clients n wishes below at))
      (subst (λ l. AreClientRows (pass ∷ done) (all_wishes_of wishes ∷ drop (n + 1) (map all_wishes_of clients)) behind l) (sym is)
      (one.0, one.1, subst (λ k. AreClientRows done (drop k (map all_wishes_of clients)) behind old) e so))
