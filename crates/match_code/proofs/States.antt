-- The moves of a machine that remembers calls, over its steps and nodes.
use Rattle.std.proofs.Common.{ℕ, ◌≡◌, ◌+◌, ◌-◌, ◌<◌, ◌≤◌, List, [], ◌∷◌, ◌++◌, length, map, take, drop, reverse, refl, sym, ap, subst}
use Rattle.std.proofs.Common.{◌∙◌, arith, append_assoc}
use Rattle.std.proofs.lemmas.List.{length-map, length-take-le, map-append, take-append-drop, take_all, reverse-append}
use Rattle.spec_core.specs.Budgets.{IsBeyond}
use Rattle.spec_core.specs.Executable.{IsExecutable}
use Rattle.spec_core.specs.declared.items.Op.{Op}
use Rattle.spec_core.specs.Lists.{Each}
use Rattle.spec_core.specs.Terms.{TermTree, apply, no_terms, terms, instance, IsGround}
use Rattle.spec_core.specs.Theories.{Theory, Heads}
use Rattle.spec_core.proofs.Lists.{each_take}
use Rattle.value_nodes.specs.declared.node.Node.{Node}
use Rattle.value_nodes.specs.Nodes.{tree_at, IsNode, IsLonger, AreSmall}
use Rattle.value_nodes.specs.Own.{AreOwnValues}
use Rattle.value_nodes.specs.Sizes.{IsTooLarge}
use Rattle.value_nodes.proofs.Nodes.{longer_itself, same_trees, still_nodes}
use Rattle.rewriter.specs.declared.fault.Eval.{Eval}
use Rattle.rewriter.specs.declared.fault.Eval.TheVariants.{Spent, TooLarge}
use Rattle.rewriter.specs.declared.step.Step.{Step}
use Rattle.rewriter.specs.declared.step.Step.TheVariants.{Call}
use Rattle.rewriter.specs.Answers.{MeetsTooLarge}
use Rattle.rewriter.specs.Calls.{arguments_of}
use Rattle.rewriter.specs.Machine.{Evaluating, Trying, Through, Task, call, plan, top, Comes, Keeps, Exceeds, ComesTo, AreCounted}
use Rattle.rewriter.specs.Runs.{Coming, IsReady, MeetsLarge}
use Rattle.rewriter.specs.Steps.{equation_at, task_of, IsStep}
use Rattle.rewriter.proofs.Calling.{begins_call, calling_skips, calling_built}
use Rattle.rewriter.proofs.Calls.{match_heads, pending_skips, pending_stays, same_tasks, still_steps}
use Rattle.rewriter.proofs.Following.{all_held}
use Rattle.rewriter.proofs.Loop.{one_of_map}
use Rattle.rewriter.proofs.Moves.{keep_on}
use Rattle.rewriter.proofs.Tops.{top_terms, drop_map, each_reversed, each_under}
use Rattle.rewriter.proofs.Turns.{begin, begin_counted}
use Rattle.match_code.specs.declared.frames.Frame.{Frame}
use Rattle.match_code.specs.declared.memo.Entry.{Entry}
use Rattle.match_code.specs.declared.state.Store.{Store}
use Rattle.match_code.specs.Entries.{IsEntry, IsRemembered}
use Rattle.match_code.specs.Frames.{Waiting, Holds}
use Rattle.match_code.specs.States.{waiting_of, IsFrame, IsState, IsEnd, IsStore}
use Rattle.match_code.proofs.Runs.{in_order, remembered, remembered_spent, runs_step, runs_open, runs_close, runs_spent, runs_large, runs_ended}

-- arguments of which the last one is first, in their order
pub order_terms : (rows : List Node) (args : List ℕ) →
    in_order (map (tree_at rows) args) ≡ terms (map (tree_at rows) (reverse args))
order_terms rows args =
    ap (λ k. top k (map (tree_at rows) args) no_terms) (length-map args (tree_at rows))
    ∙ top_terms (tree_at rows) (length args) args
    ∙ ap (λ us. terms (map (tree_at rows) (reverse us))) (take_all (length args) args (omega arith))

module _ (theory : Theory) where
  abbrev pub with_parts : Frame → List TermTree → List Task → List TermTree → Waiting
  with_parts frame args todo there =
      record { op = frame.op.0; args = args; start = frame.start; todo = todo; there = there }

  module _ (old new : List Node) (longer : IsLonger old new) where
    same_frame : (f : Frame) → IsFrame theory old f → waiting_of theory new f ≡ waiting_of theory old f
    same_frame f h =
        ap (λ x. with_parts f x (map (task_of theory new) f.todo) (map (tree_at new) f.values)) (same_trees old new longer f.args h.args)
        ∙ ap (λ x. with_parts f (map (tree_at old) f.args) x (map (tree_at new) f.values))
        (same_tasks theory old new longer f.todo (all_held theory old f.todo h.steps))
        ∙ ap (λ x. with_parts f (map (tree_at old) f.args) (map (task_of theory old) f.todo) x)
        (same_trees old new longer f.values h.values)

    -- frames stand for the same in a longer table
    pub same_frames : (fs : List Frame) → Each (IsFrame theory old) fs → map (waiting_of theory new) fs ≡ map (waiting_of theory old) fs
    same_frames [] e = refl
    same_frames (f ∷ fs) e =
        ap (λ w. w ∷ map (waiting_of theory new) fs) (same_frame f e.0)
        ∙ ap (λ ws. waiting_of theory old f ∷ ws) (same_frames fs e.1)

    pub still_frame : (f : Frame) → IsFrame theory old f → IsFrame theory new f
    still_frame f h = record {
      args = still_nodes old new longer f.args h.args;
      steps = still_steps theory old new longer f.todo h.steps;
      values = still_nodes old new longer f.values h.values;
    }

    pub still_frames : (fs : List Frame) → Each (IsFrame theory old) fs → Each (IsFrame theory new) fs
    still_frames [] e = tt
    still_frames (f ∷ fs) e = (still_frame f e.0, still_frames fs e.1)

    still_entry : (e : Entry) → IsEntry theory old e → IsEntry theory new e
    still_entry e h =
        let a = same_trees old new longer (reverse e.args) (each_reversed (IsNode old) e.args h.args) in
        let b = subst (λ us. ComesTo (Trying theory theory.equations e.op.0 (terms us)) (tree_at old e.value) e.uses) (sym a)
        h.known.comes in
        record {
          args = still_nodes old new longer e.args h.args;
          known = record {
            there = omega (arith, longer.at_least, h.known.there);
            comes = subst (λ v.
                ComesTo (Trying theory theory.equations e.op.0 (terms (map (tree_at new) (reverse e.args)))) v e.uses)
                (sym (longer.same e.value h.known.there)) b;
          };
        }

    -- what is remembered stays so
    pub still_entries : (es : List Entry) → Each (IsEntry theory old) es → Each (IsEntry theory new) es
    still_entries [] h = tt
    still_entries (e ∷ es) h = (still_entry e h.0, still_entries es h.1)

abbrev pub framed : Op → ℕ → List ℕ → List Step → List ℕ → Frame
framed op start args todo values = record { op = op; args = args; start = start; todo = todo; values = values }

-- a frame that is told in other words
pub with_values : (op : Op) (start : ℕ) {args as_args : List ℕ} {todo as_todo : List Step} {values as_values : List ℕ} →
    args ≡ as_args → todo ≡ as_todo → values ≡ as_values →
    framed op start args todo values ≡ framed op start as_args as_todo as_values
with_values op start {args} {as_args} {todo} {as_todo} {values} {as_values} e f g =
    ap (λ x. framed op start x todo values) e ∙ ap (λ x. framed op start as_args x values) f ∙ ap (framed op start as_args as_todo) g

-- a store without nodes
pub none_kept : (theory : Theory) (store : Store) → store.nodes ≡ [] → store.memo.entries.items ≡ [] → IsStore theory store
none_kept theory store e f = record {
  own = λ i h. absurd (let n = ap length e in omega (arith, h, n));
  small = λ i h. absurd (let n = ap length e in omega (arith, h, n));
  remembers = subst (Each (IsEntry theory store.nodes)) (sym f) tt;
}

-- one cause isn't another
pub not_large : (e : Eval) → e ≡ Spent → e ≡ TooLarge → ⊥
not_large e p q = let n : Spent ≡ TooLarge = sym p ∙ q in cc

-- frames one by one in the opposite order
pub turn_one : {A : Type 0} (x : A) (xs ys : List A) → reverse (x ∷ xs) ++ ys ≡ reverse xs ++ x ∷ ys
turn_one x xs ys = ap (λ us. us ++ ys) (reverse-append (x ∷ []) xs) ∙ append_assoc (reverse xs) (x ∷ []) ys

-- a state that is told in other words
pub at_equal : (theory : Theory) (t : TermTree) (budget : ℕ) (rows : List Node) (frames gs : List Frame) (todo steps : List Step)
    (there us : List ℕ) (uses n : ℕ) →
    IsState theory t budget rows frames todo there uses → gs ≡ frames → steps ≡ todo → us ≡ there → n ≡ uses →
    IsState theory t budget rows gs steps us n
at_equal theory t budget rows frames gs todo steps there us uses n s e f g h =
    subst (λ x. IsState theory t budget rows x steps us n) (sym e)
    (subst (λ x. IsState theory t budget rows frames x us n) (sym f)
    (subst (λ x. IsState theory t budget rows frames todo x n) (sym g)
    (subst (λ x. IsState theory t budget rows frames todo there x) (sym h) s)))

-- what is counted is counted over what stands for the same in another table
pub counted_copies : (theory : Theory) (rows new : List Node) (todo steps : List Step) (there us : List ℕ) (uses : ℕ) →
    map (task_of theory new) steps ≡ map (task_of theory rows) todo → map (tree_at new) us ≡ map (tree_at rows) there →
    AreCounted theory uses (map (task_of theory rows) todo) (map (tree_at rows) there) →
    AreCounted theory uses (map (task_of theory new) steps) (map (tree_at new) us)
counted_copies theory rows new todo steps there us uses e f c =
    subst (λ tasks. AreCounted theory uses tasks (map (tree_at new) us)) (sym e)
    (subst (AreCounted theory uses (map (task_of theory rows) todo)) (sym f) c)

-- the same over nodes of another table that stand for the same
pub at_copies : (theory : Theory) (t : TermTree) (budget : ℕ) (rows new : List Node) (frames gs : List Frame) (todo steps : List Step)
    (there us : List ℕ) (uses : ℕ) →
    IsState theory t budget rows frames todo there uses → IsReady theory new steps us uses → Each (IsFrame theory new) gs →
    map (waiting_of theory new) gs ≡ map (waiting_of theory rows) frames → map (task_of theory new) steps ≡ map (task_of theory rows) todo →
    map (tree_at new) us ≡ map (tree_at rows) there → IsState theory t budget new gs steps us uses
at_copies theory t budget rows new frames gs todo steps there us uses s ready held e f g = record {
  ready = ready;
  frames = held;
  holds = subst (λ x. Holds theory t x (map (task_of theory new) steps) (map (tree_at new) us) uses) (sym e)
      (subst (λ x. Holds theory t (map (waiting_of theory rows) frames) x (map (tree_at new) us) uses) (sym f)
      (subst (λ x. Holds theory t (map (waiting_of theory rows) frames) (map (task_of theory rows) todo) x uses) (sym g) s.holds));
  within = s.within;
}

module _ (theory : Theory) (ex : IsExecutable theory) (t : TermTree) (budget : ℕ) where
  -- at the start
  pub state_begun : (rows : List Node) (todo : List Step) (s : ℕ → TermTree) → AreOwnValues theory rows → AreSmall rows → IsGround t →
      map (task_of theory rows) todo ≡ plan s t [] → Each (IsStep theory rows) todo → IsState theory t budget rows [] todo [] 0
  state_begun rows todo s own small ground e steps =
      let k = subst (λ tasks. Keeps (Evaluating theory t) 0 (Comes theory tasks []) 0) (sym e) (begin theory t ground s) in
      record {
        ready = record {
          steps = steps;
          values = tt;
          own = own;
          small = small;
          counted = subst (λ tasks. AreCounted theory 0 tasks []) (sym e) (begin_counted theory t ground ex.orthogonal.closed s);
        };
        frames = tt;
        holds = record { waiting = tt; kept = record { back = k.back; on = k.on; met = k.met; large = k.large } };
        within = omega arith;
      }

  module _ (rows : List Node) (frames : List Frame) where
    -- a step of the machine
    pub state_stepped : (new : List Node) (todo after : List Step) (there now : List ℕ) (uses u : ℕ) →
        IsState theory t budget rows frames todo there uses → IsLonger rows new → IsReady theory new after now u → u ≤ budget →
        Keeps (Coming theory rows todo there) uses (Coming theory new after now) u → IsState theory t budget new frames after now u
    state_stepped new todo after there now uses u s longer ready within k = record {
      ready = ready;
      frames = still_frames theory rows new longer frames s.frames;
      holds = subst (λ ws. Holds theory t ws (map (task_of theory new) after) (map (tree_at new) now) u)
          (sym (same_frames theory rows new longer frames s.frames))
          (runs_step theory ex t (map (waiting_of theory rows) frames) (map (task_of theory rows) todo) (map (task_of theory new) after)
          (map (tree_at rows) there) (map (tree_at new) now) uses u s.holds
          (record { back = k.back; on = k.on; met = k.met; large = k.large }));
      within = within;
    }

    -- what is too much, and what is too large
    pub state_spent : (todo : List Step) (there : List ℕ) (uses : ℕ) → IsState theory t budget rows frames todo there uses →
        Exceeds (Coming theory rows todo there) uses budget → IsBeyond theory t budget
    state_spent todo there uses s e =
        runs_spent theory ex t (map (waiting_of theory rows) frames) (map (task_of theory rows) todo) (map (tree_at rows) there) uses budget
        s.holds (λ v n l. e v n l)

    pub state_large : (todo : List Step) (there : List ℕ) (uses : ℕ) → IsState theory t budget rows frames todo there uses →
        MeetsLarge (Coming theory rows todo there) → MeetsTooLarge theory t
    state_large todo there uses s e =
        let m = runs_large theory ex t (map (waiting_of theory rows) frames) (map (task_of theory rows) todo) (map (tree_at rows) there)
        uses s.holds (e.0, e.1, e.2) in
        (m.0, m.1, m.2)

    -- no step is left, and there isn't one value, which can't be
    pub state_stuck : (there : List ℕ) (uses : ℕ) → IsState theory t budget rows frames [] there uses →
        ((n : ℕ) → there ≡ n ∷ [] → ⊥) → IsBeyond theory t budget
    state_stuck there uses s no_one =
        state_spent [] there uses s (λ v n l. let o = one_of_map (tree_at rows) there v l.0 in absurd (no_one o.0 o.1))

    module _ (op : Op) (k : ℕ) (todo : List Step) (there : List ℕ) (uses : ℕ)
        (s : IsState theory t budget rows frames (Call op k ∷ todo) there uses) where
      -- a remembered call is used
      pub state_used : (v c : ℕ) → IsRemembered theory rows op.0 (reverse (take k there)) v c → uses + c ≤ budget →
          IsState theory t budget rows frames todo (v ∷ drop k there) (uses + c)
      state_used v c r within =
          let q = remembered theory ex op.0 (terms (map (tree_at rows) (reverse (take k there)))) (tree_at rows v) c
          (λ w o. Comes theory (map (task_of theory rows) todo) (w ∷ drop k (map (tree_at rows) there)) o) uses r.comes in
          let a = subst (λ us. Keeps (Through (Trying theory theory.equations op.0 us)
          (λ w o. Comes theory (map (task_of theory rows) todo) (w ∷ drop k (map (tree_at rows) there)) o)) uses
          (Comes theory (map (task_of theory rows) todo) (tree_at rows v ∷ drop k (map (tree_at rows) there))) (uses + c))
          (sym (top_terms (tree_at rows) k there)) (record { back = q.back; on = q.on; met = q.met; large = q.large }) in
          let b = subst (λ vals. Keeps (Comes theory (call op.0 k ∷ map (task_of theory rows) todo) (map (tree_at rows) there)) uses
          (Comes theory (map (task_of theory rows) todo) (tree_at rows v ∷ vals)) (uses + c))
          (sym (drop_map (tree_at rows) k there)) (record { back = a.back; on = a.on; met = a.met; large = a.large }) in
          let comes = subst (λ us. ComesTo (Trying theory theory.equations op.0 us) (tree_at rows v) c)
          (sym (top_terms (tree_at rows) k there)) r.comes in
          state_stepped rows (Call op k ∷ todo) todo there (v ∷ drop k there) uses (uses + c) s (longer_itself rows)
          (record {
            steps = s.ready.steps.1;
            values = (r.there, each_under (IsNode rows) k there s.ready.values);
            own = s.ready.own;
            small = s.ready.small;
            counted = subst (λ vals. AreCounted theory (uses + c) (map (task_of theory rows) todo) (tree_at rows v ∷ vals))
                (sym (drop_map (tree_at rows) k there)) (s.ready.counted (tree_at rows v) c comes);
          }) within (record { back = b.back; on = b.on; met = b.met; large = b.large })

      -- and where its cost is too much
      pub state_refused : (v c : ℕ) → IsRemembered theory rows op.0 (reverse (take k there)) v c → budget < uses + c →
          IsBeyond theory t budget
      state_refused v c r over =
          let q = remembered_spent theory ex op.0 (terms (map (tree_at rows) (reverse (take k there)))) (tree_at rows v) c
          (λ w o. Comes theory (map (task_of theory rows) todo) (w ∷ drop k (map (tree_at rows) there)) o) uses budget r.comes over in
          let a = subst (λ us. Exceeds (Through (Trying theory theory.equations op.0 us)
          (λ w o. Comes theory (map (task_of theory rows) todo) (w ∷ drop k (map (tree_at rows) there)) o)) uses budget)
          (sym (top_terms (tree_at rows) k there)) q in
          state_spent (Call op k ∷ todo) there uses s (λ w n l. a w n l)

      -- a constructor's value that is there
      pub state_found : (n : ℕ) → ((j : ℕ) → j < length theory.equations → Heads op.0 (equation_at theory j) → ⊥) → IsNode rows n →
          tree_at rows n ≡ apply op.0 (terms (map (tree_at rows) (reverse (take k there)))) →
          IsState theory t budget rows frames todo (n ∷ drop k there) uses
      state_found n none there_is is =
          let e : tree_at rows n ≡ apply op.0 (arguments_of rows k there) = is ∙ ap (apply op.0) (sym (top_terms (tree_at rows) k there)) in
          let small : IsTooLarge (apply op.0 (arguments_of rows k there)) → ⊥ = λ b. s.ready.small n there_is (subst IsTooLarge (sym e) b) in
          let all = length theory.equations in
          let never : (j : ℕ) → 0 ≤ j → j < all → j < all → (z : ℕ → TermTree) →
          instance z (equation_at theory j).left ≡ apply op.0 (arguments_of rows k there) → ⊥ =
          λ j a b l z i. none j l (match_heads theory ex j op.0 (arguments_of rows k there) z l i) in
          let built : map (tree_at rows) (n ∷ drop k there) ≡ apply op.0 (arguments_of rows k there) ∷ drop k (map (tree_at rows) there) =
          ap (λ v. v ∷ map (tree_at rows) (drop k there)) e
          ∙ ap (λ vs. apply op.0 (arguments_of rows k there) ∷ vs) (drop_map (tree_at rows) k there) in
          let q = keep_on uses uses uses (pending_skips theory rows 0 all op.0 k todo there uses (omega arith) never)
          (pending_stays theory ex rows all op.0 k todo there rows (n ∷ drop k there) uses (omega arith) small (longer_itself rows)
          s.ready.steps.1 built) in
          let c = calling_skips theory rows op.0 k uses 0 all todo there uses (omega arith) never
          (begins_call theory rows op k todo there uses s.ready) in
          state_stepped rows (Call op k ∷ todo) todo there (n ∷ drop k there) uses uses s (longer_itself rows)
          (calling_built theory rows op.0 k uses all todo there uses (omega arith) c rows (n ∷ drop k there) (longer_itself rows)
          (there_is, each_under (IsNode rows) k there s.ready.values) s.ready.own s.ready.small small built)
          s.within (record { back = q.back; on = q.on; met = q.met; large = q.large })

      -- the call is run by itself
      pub state_opened : k ≤ length there →
          IsState theory t budget rows
          (record { op = op; args = take k there; start = uses; todo = todo; values = drop k there } ∷ frames)
          (Call op k ∷ []) (take k there) uses
      state_opened enough =
          let args = map (tree_at rows) (take k there) in
          let l : length args ≡ k = length-map (take k there) (tree_at rows) ∙ length-take-le k there enough in
          let j : map (tree_at rows) there ≡ args ++ map (tree_at rows) (drop k there) =
          ap (map (tree_at rows)) (sym (take-append-drop k there)) ∙ map-append (tree_at rows) (take k there) (drop k there) in
          let ws = map (waiting_of theory rows) frames in
          let a = subst (λ vs. Holds theory t ws (call op.0 k ∷ map (task_of theory rows) todo) vs uses) j s.holds in
          let b = subst (λ i. Holds theory t ws (call op.0 i ∷ map (task_of theory rows) todo)
          (args ++ map (tree_at rows) (drop k there)) uses) (sym l) a in
          let w : Waiting = record {
            op = op.0;
            args = args;
            start = uses;
            todo = map (task_of theory rows) todo;
            there = map (tree_at rows) (drop k there);
          } in
          let d = subst (AreCounted theory uses (call op.0 k ∷ map (task_of theory rows) todo)) j s.ready.counted in
          let n = subst (λ i. AreCounted theory uses (call op.0 i ∷ map (task_of theory rows) todo)
          (args ++ map (tree_at rows) (drop k there))) (sym l) d in
          let o = runs_open theory ex t w ws b n in
          record {
            ready = record {
              steps = (s.ready.steps.0, tt);
              values = each_take (IsNode rows) k there s.ready.values;
              own = s.ready.own;
              small = s.ready.small;
              counted = λ v c p. tt;
            };
            frames = (
              record {
                args = each_take (IsNode rows) k there s.ready.values;
                steps = s.ready.steps.1;
                values = each_under (IsNode rows) k there s.ready.values;
              },
              s.frames,
            );
            holds = subst (λ i. Holds theory t (w ∷ ws) (call op.0 i ∷ []) args uses) l o;
            within = s.within;
          }

  -- the run of a call has ended
  pub state_closed : (rows : List Node) (frame : Frame) (frames : List Frame) (n uses : ℕ) →
      IsState theory t budget rows (frame ∷ frames) [] (n ∷ []) uses →
      (frame.start ≤ uses) × IsEntry theory rows (record { op = frame.op; args = frame.args; value = n; uses = uses - frame.start }) ×
      IsState theory t budget rows frames frame.todo (n ∷ frame.values) uses
  state_closed rows frame frames n uses s =
      let e = order_terms rows frame.args in
      let r = runs_close theory ex t (waiting_of theory rows frame) (map (waiting_of theory rows) frames) (tree_at rows n) uses s.holds in
      let i : r.0 ≡ uses - frame.start = omega (arith, r.2) in
      let comes = subst (λ vs. ComesTo (Trying theory theory.equations frame.op.0 vs) (tree_at rows n) r.0) e r.1 in (
        omega (arith, r.2),
        record {
          args = s.frames.0.args;
          known = record {
            there = s.ready.values.0;
            comes = subst (λ m.
                ComesTo (Trying theory theory.equations frame.op.0 (terms (map (tree_at rows) (reverse frame.args)))) (tree_at rows n) m)
                i comes;
          };
        },
        record {
          ready = record {
            steps = s.frames.0.steps;
            values = (s.ready.values.0, s.frames.0.values);
            own = s.ready.own;
            small = s.ready.small;
            counted = r.3;
          };
          frames = s.frames.1;
          holds = r.4;
          within = s.within;
        },
      )

  -- the term's evaluation has ended
  pub state_ended : (rows : List Node) (n uses : ℕ) → IsState theory t budget rows [] [] (n ∷ []) uses → IsEnd theory t budget rows n
  state_ended rows n uses s =
      let r = runs_ended theory ex t (tree_at rows n) uses s.holds in
      record { there = s.ready.values.0; uses = uses; evaluates = r.0; enough = s.within; small = λ m. r.1 (m.0, m.1, m.2) }
