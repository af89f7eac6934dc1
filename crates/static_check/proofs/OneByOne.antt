-- Bodies are read one after another.
use Rattle.std.proofs.Common.{ℕ, zero, suc, pred, ◌≡◌, ◌∙◌, ◌<◌, ◌+◌, refl, sym, ap, subst, arith, List, [], ◌∷◌, ◌++◌, length, get_or, take, drop, map, append_assoc, append-nil, Option, Some, None}
use Rattle.std.specs.Prelude.{option_map}
use Rattle.std.specs.List.{slice_get}
use Rattle.std.proofs.lemmas.List.{length-append, length-map, length-take-le, map-append}
use Rattle.std.proofs.lemmas.Option.{slice_get-map, same_Some, none-some}
use Rattle.lotos_ast.specs.declared.refusal.Refusal.{Refusal}
use Rattle.static_constructs.specs.Constructs.{Construct}
use Rattle.spec_core.specs.Code.{Node}
use Rattle.spec_core.specs.Functionality.{Functionality}
use Rattle.spec_core.proofs.Lists.{slice_get_next, take_next}
use Rattle.sort_overloads.specs.Readings.{Context}
use Rattle.sort_overloads.proofs.Loops.{dropped-next}
use Rattle.static_equations.specs.Variables.{all_variables}
use Rattle.static_readings.specs.Joins.{Read, root, after}
use Rattle.static_readings.specs.Outputs.{Output, nodes_of, HasRead}
use Rattle.static_readings.specs.ReadsAll.{before, all_before}
use Rattle.static_readings.specs.Readings.{IsRead}
use Rattle.static_readings.specs.Sites.{Site}
use Rattle.static_readings.specs.declared.heading.Heading.{Heading}
use Rattle.static_readings.specs.Views.{heading_of, functionality_of}
use Rattle.static_readings.proofs.Together.{alone, first_alone, joined_before}
use Rattle.static_processes.specs.Headings.{headings_from, heading, declared, parameter_sorts}
use Rattle.static_processes.specs.Processes.{Entry}
use Rattle.static_processes.specs.declared.entry.Entry as code
use Rattle.static_processes.specs.Views.{entry_of}
use Rattle.static_call_cycles.specs.AtOnce.{calls_at_once}
use Rattle.static_call_cycles.specs.declared.call.Call.{Call}
use Rattle.static_check.specs.Bodies.{Setting, Placed, placed, body_site, body_ending_refusals, AreBodiesRead, none_left, one_more, calls_from}
use Rattle.static_check.specs.Compiled.{process_node, process_nodes, body_nodes}
use Rattle.static_check.specs.Steps.{node_over, IsBodyRead, AreReadSoFar, IsStartRead}

-- the functionality that a process is declared to have

headings_at : (c : Context) (n : ℕ) (es : List Entry) (i : ℕ) → slice_get (headings_from c n es) i ≡ option_map (λ e. heading c (n + i) e.process) (slice_get es i)
headings_at c n [] i = refl
headings_at c n (e ∷ es) zero = ap (λ k. Some (heading c k e.process)) (omega arith)
headings_at c n (e ∷ es) (suc i) =
    let sums : (n + 1) + i ≡ n + suc i = omega arith in
    headings_at c (n + 1) es i ∙ ap (λ k. option_map (λ e. heading c k e.process) (slice_get es i)) sums

length_headings : (c : Context) (n : ℕ) (es : List Entry) → length (headings_from c n es) ≡ length es
length_headings c n [] = refl
length_headings c n (e ∷ es) = ap suc (length_headings c (n + 1) es)

pub heading_within : (c : Context) (hs : List Heading) (table : List code.Entry) (number : ℕ) → map heading_of hs ≡ headings_from c 0 (map entry_of table)
    → number < length table → number < length hs
heading_within c hs table number are within =
    omega (arith, within, length-map hs heading_of, ap length are, length_headings c 0 (map entry_of table), length-map table entry_of)

heading_at : (c : Context) (hs : List Heading) (table : List code.Entry) (number : ℕ) (h : Heading) (e : code.Entry)
    → map heading_of hs ≡ headings_from c 0 (map entry_of table) → number < length table → h ≡ get_or hs number h → e ≡ get_or table number e
    → heading_of h ≡ heading c (0 + number) (entry_of e).process
heading_at c hs table number h e are within at there =
    let here : Some (heading_of h) ≡ Some (heading c (0 + number) (entry_of e).process) =
    sym (slice_get-map heading_of hs number ∙ ap (option_map heading_of) (slice_get_next hs number h (heading_within c hs table number are within) at))
    ∙ ap (λ all. slice_get all number) are ∙ headings_at c 0 (map entry_of table) number
    ∙ ap (option_map (λ e. heading c (0 + number) e.process)) (slice_get-map entry_of table number ∙ ap (option_map entry_of) (slice_get_next table number e within there)) in
    same_Some (heading_of h) (heading c (0 + number) (entry_of e).process) here

pub declared_at : (c : Context) (hs : List Heading) (table : List code.Entry) (number : ℕ) (h : Heading) (e : code.Entry)
    → map heading_of hs ≡ headings_from c 0 (map entry_of table) → number < length table → h ≡ get_or hs number h → e ≡ get_or table number e
    → option_map functionality_of h.functionality ≡ declared c (entry_of e).process.functionality
declared_at c hs table number h e are within at there = ap (λ z. z.functionality) (heading_at c hs table number h e are within at there)

pub sorts_at : (c : Context) (hs : List Heading) (table : List code.Entry) (number : ℕ) (h : Heading) (e : code.Entry)
    → map heading_of hs ≡ headings_from c 0 (map entry_of table) → number < length table → h ≡ get_or hs number h → e ≡ get_or table number e
    → (heading_of h).sorts ≡ parameter_sorts c (entry_of e).process.parameters
sorts_at c hs table number h e are within at there = ap (λ z. z.sorts) (heading_at c hs table number h e are within at there)

-- one body

pub body_read : (all : Setting) (number : ℕ) (e : Entry) (old read now : Output) (found : Option Functionality) (node : Option Node) (s : Site)
    → s ≡ body_site all number e → HasRead (λ from. IsRead s from e.process.body) old read found
    → node ≡ option_map (λ _. node_over all e s.context.variables (pred (length read.code))) found → now.code ≡ read.code
    → ((x : Option Read) → found ≡ option_map (λ r. r.functionality) x
    → now.refusals ≡ read.refusals ++ body_ending_refusals all.context e.process x)
    → IsBodyRead all number e old now node
body_read all number e old read now found node s stands r made same ended =
    let end = body_ending_refusals all.context e.process r.read in
    record {
      read = r.read;
      refusals = r.refusals;
      such = subst (λ z. IsRead z (length old.code) e.process.body r.read r.refusals) stands r.such;
      code = same ∙ r.code;
      refused = ended r.read r.ends ∙ ap (λ z. z ++ end) r.refused ∙ append_assoc old.refusals r.refusals end;
      made = made ∙ ap (option_map (λ _. node_over all e s.context.variables (pred (length read.code)))) r.ends ∙ by_read r.read r.code;
    }
  where
    by_read : (x : Option Read) → read.code ≡ old.code ++ nodes_of x
        → option_map (λ _. node_over all e s.context.variables (pred (length read.code))) (option_map (λ r. r.functionality) x)
        ≡ option_map (λ r. process_node all e (placed (length old.code) r)) x
    by_read None h = refl
    by_read (Some x) h =
        ap (λ z. Some (node_over all e z.context.variables (pred (length read.code)))) stands
        ∙ ap (λ c. Some (node_over all e (all_variables all.context.sorts e.process.parameters) (pred (length c)))) h
        ∙ ap (λ n. Some (node_over all e (all_variables all.context.sorts e.process.parameters) (pred n))) (length-append old.code x.nodes)

-- one body more

body_behind : (all : Setting) {number from mid : ℕ} {es : List Entry} {xs : Option (List Placed)} {rs : List Refusal} (e : Entry) (x : Option Read) (rb : List Refusal)
    → AreBodiesRead all number from mid es xs rs → IsRead (body_site all (number + length es) e) mid e.process.body x rb
    → AreBodiesRead all number from (after mid x) (es ++ e ∷ []) (all_before xs (alone (option_map (placed mid) x)))
    (rs ++ (rb ++ body_ending_refusals all.context e.process x))
body_behind all {number = number} {mid = mid} e x rb none_left h =
    let end = body_ending_refusals all.context e.process x in
    let sums : number + 0 ≡ number = omega arith in
    subst (λ z. AreBodiesRead all number mid (after mid x) (e ∷ []) z (rb ++ end)) (first_alone (option_map (placed mid) x))
    (subst (λ z. AreBodiesRead all number mid (after mid x) (e ∷ []) (before (option_map (placed mid) x) (Some [])) z) (append-nil (rb ++ end))
    (one_more e [] x (Some []) rb [] (subst (λ k. IsRead (body_site all k e) mid e.process.body x rb) sums h) none_left))
body_behind all {number = number} {from = from} {mid = mid} e x rb (one_more w ws v vs q qs h more) k =
    let end = body_ending_refusals all.context e.process x in
    let first = q ++ body_ending_refusals all.context w.process v in
    let sums : number + suc (length ws) ≡ (number + 1) + length ws = omega arith in
    let rest = body_behind all e x rb more (subst (λ n. IsRead (body_site all n e) mid e.process.body x rb) sums k) in
    subst (λ z. AreBodiesRead all number from (after mid x) (w ∷ (ws ++ e ∷ [])) z ((first ++ qs) ++ (rb ++ end)))
    (joined_before (option_map (placed from) v) vs (alone (option_map (placed mid) x)))
    (subst (λ z. AreBodiesRead all number from (after mid x) (w ∷ (ws ++ e ∷ []))
    (before (option_map (placed from) v) (all_before vs (alone (option_map (placed mid) x)))) z) (sym (append_assoc first qs (rb ++ end)))
    (one_more w (ws ++ e ∷ []) v (all_before vs (alone (option_map (placed mid) x))) q (qs ++ (rb ++ end)) h rest))

as_many : (all : Setting) {number from end : ℕ} (es : List Entry) (xs : Option (List Placed)) {rs : List Refusal} → AreBodiesRead all number from end es xs rs
    → (bs : List Placed) → xs ≡ Some bs → length bs ≡ length es
as_many all es xs none_left bs is = ap length (sym (same_Some [] bs is))
as_many all es xs (one_more e others x ys rb rs h more) bs is = by_parts (option_map (placed _) x) ys (λ zs e. as_many all others ys more zs e) is
  where
    by_parts : (y : Option Placed) (zs : Option (List Placed)) → ((cs : List Placed) → zs ≡ Some cs → length cs ≡ length others)
        → before y zs ≡ Some bs → length bs ≡ suc (length others)
    by_parts None zs many h = absurd (none-some bs h)
    by_parts (Some y) None many h = absurd (none-some bs h)
    by_parts (Some y) (Some zs) many h = ap length (sym (same_Some (y ∷ zs) bs h)) ∙ ap suc (many zs refl)

nodes_behind : (all : Setting) (es : List Entry) (bs : List Placed) (e : Entry) (b : Placed) → length bs ≡ length es
    → process_nodes all (es ++ e ∷ []) (bs ++ b ∷ []) ≡ process_nodes all es bs ++ process_node all e b ∷ []
nodes_behind all [] [] e b same = refl
nodes_behind all [] (c ∷ bs) e b same = absurd (omega arith)
nodes_behind all (w ∷ es) [] e b same = absurd (omega arith)
nodes_behind all (w ∷ es) (c ∷ bs) e b same = ap (λ ns. process_node all w c ∷ ns) (nodes_behind all es bs e b (omega arith))

bodies_behind : (bs : List Placed) (b : Placed) → body_nodes (bs ++ b ∷ []) ≡ body_nodes bs ++ b.read.nodes
bodies_behind [] b = append-nil b.read.nodes
bodies_behind (c ∷ bs) b = ap (λ ns. c.read.nodes ++ ns) (bodies_behind bs b) ∙ sym (append_assoc c.read.nodes (body_nodes bs) b.read.nodes)

all_nodes : (all : Setting) (es : List Entry) (e : Entry) (from : ℕ) (xs : Option (List Placed)) (x : Option Read) → ((bs : List Placed) → xs ≡ Some bs → length bs ≡ length es)
    → all_before (option_map (process_nodes all es) xs) (alone (option_map (λ r. process_node all e (placed from r)) x))
    ≡ option_map (process_nodes all (es ++ e ∷ [])) (all_before xs (alone (option_map (placed from) x)))
all_nodes all es e from None x many = refl
all_nodes all es e from (Some bs) None many = refl
all_nodes all es e from (Some bs) (Some r) many = ap Some (sym (nodes_behind all es bs e (placed from r) (many bs refl)))

all_code : (old mid now : List Node) (xs : Option (List Placed)) (from : ℕ) (x : Option Read) → ((bs : List Placed) → xs ≡ Some bs → mid ≡ old ++ body_nodes bs)
    → now ≡ mid ++ nodes_of x → (bs : List Placed) → all_before xs (alone (option_map (placed from) x)) ≡ Some bs → now ≡ old ++ body_nodes bs
all_code old mid now None from x stand put bs is = absurd (none-some bs is)
all_code old mid now (Some cs) from None stand put bs is = absurd (none-some bs is)
all_code old mid now (Some cs) from (Some r) stand put bs is =
    put ∙ ap (λ z. z ++ r.nodes) (stand cs refl) ∙ append_assoc old (body_nodes cs) r.nodes
    ∙ ap (λ z. old ++ z) (sym (bodies_behind cs (placed from r)) ∙ ap body_nodes (same_Some (cs ++ placed from r ∷ []) bs is))

length_after : (code : List Node) (x : Option Read) → length (code ++ nodes_of x) ≡ after (length code) x
length_after code None = ap length (append-nil code)
length_after code (Some r) = length-append code r.nodes

pub none_read : (all : Setting) (out : Output) → AreReadSoFar all [] out out (Some [])
none_read all out = record {
  bodies = Some [];
  refusals = [];
  are_read = none_left;
  code = λ bs is. sym (append-nil out.code) ∙ ap (λ cs. out.code ++ body_nodes cs) (same_Some [] bs is);
  refused = sym (append-nil out.refusals);
  made = refl;
}

pub one_read : (all : Setting) (es : List Entry) (e : Entry) (old mid now : Output) (nodes more : Option (List Node)) (node : Option Node) (number : ℕ) → number ≡ length es
    → AreReadSoFar all es old mid nodes → IsBodyRead all number e mid now node → more ≡ all_before nodes (alone node) → AreReadSoFar all (es ++ e ∷ []) old now more
one_read all es e old mid now nodes more node number counts h b is =
    let end = body_ending_refusals all.context e.process b.read in
    record {
      bodies = all_before h.bodies (alone (option_map (placed (length mid.code)) b.read));
      refusals = h.refusals ++ (b.refusals ++ end);
      are_read = subst (λ n. AreBodiesRead all 0 (length old.code) n (es ++ e ∷ []) (all_before h.bodies (alone (option_map (placed (length mid.code)) b.read)))
          (h.refusals ++ (b.refusals ++ end))) (sym (ap length b.code ∙ length_after mid.code b.read))
          (body_behind all e b.read b.refusals h.are_read (subst (λ k. IsRead (body_site all k e) (length mid.code) e.process.body b.read b.refusals) (counts ∙ sums) b.such));
      code = all_code old.code mid.code now.code h.bodies (length mid.code) b.read h.code b.code;
      refused = b.refused ∙ ap (λ z. z ++ (b.refusals ++ end)) h.refused ∙ append_assoc old.refusals h.refusals (b.refusals ++ end);
      made =
          is ∙ ap (λ z. all_before z (alone node)) h.made ∙ ap (λ z. all_before (option_map (process_nodes all es) h.bodies) (alone z)) b.made
          ∙ all_nodes all es e (length mid.code) h.bodies b.read (as_many all es h.bodies h.are_read);
    }
  where
    sums : length es ≡ 0 + length es
    sums = omega arith

-- as a loop goes over the processes

abbrev whole : List code.Entry → List Entry
whole table = map entry_of table

front_next : (table : List code.Entry) (i : ℕ) (e : code.Entry) → i < length table → e ≡ get_or table i e
    → whole (take (i + 1) table) ≡ whole (take i table) ++ entry_of e ∷ []
front_next table i e within at = ap whole (take_next table i e within at) ∙ map-append entry_of (take i table) (e ∷ [])

pub body_next : (all : Setting) (table : List code.Entry) (i : ℕ) (e : code.Entry) (old mid now : Output) (nodes more : Option (List Node)) (node : Option Node) → i < length table
    → e ≡ get_or table i e → AreReadSoFar all (map entry_of (take i table)) old mid nodes → IsBodyRead all i (entry_of e) mid now node
    → more ≡ all_before nodes (alone node) → AreReadSoFar all (map entry_of (take (i + 1) table)) old now more
body_next all table i e old mid now nodes more node within at h b is =
    let counts : i ≡ length (whole (take i table)) = sym (length-map (take i table) entry_of ∙ length-take-le i table (omega arith)) in
    subst (λ es. AreReadSoFar all es old now more) (sym (front_next table i e within at))
    (one_read all (whole (take i table)) (entry_of e) old mid now nodes more node i counts h b is)

pub calls_next : (all : Setting) (table : List code.Entry) (i : ℕ) (e : code.Entry) (now more rest : List (List Call)) (calls : List Call) → i < length table → e ≡ get_or table i e
    → now ++ calls_from all i (map entry_of (drop i table)) ≡ rest → calls ≡ calls_at_once (body_site all i (entry_of e)) (entry_of e).process.body
    → more ≡ now ++ calls ∷ [] → more ++ calls_from all (i + 1) (map entry_of (drop (i + 1) table)) ≡ rest
calls_next all table i e now more rest calls within at h made put =
    let others = calls_from all (i + 1) (whole (drop (i + 1) table)) in
    ap (λ z. z ++ others) put ∙ append_assoc now (calls ∷ []) others
    ∙ ap (λ z. now ++ (z ∷ others)) made
    ∙ ap (λ es. now ++ calls_from all i (whole es)) (sym (dropped-next table i e within at)) ∙ h

-- the behaviour of the specification

pub start_read : (s t : Site) (b : Construct) (old read now : Output) (found : Option Functionality) (more : Option Read → List Refusal) (start : Option ℕ)
    → t ≡ s → HasRead (λ from. IsRead t from b) old read found → start ≡ option_map (λ _. pred (length read.code)) found → now.code ≡ read.code
    → ((x : Option Read) → found ≡ option_map (λ r. r.functionality) x → now.refusals ≡ read.refusals ++ more x)
    → IsStartRead s b old now more start
start_read s t b old read now found more start stands r made same ended = record {
  read = r.read;
  refusals = r.refusals;
  such = subst (λ z. IsRead z (length old.code) b r.read r.refusals) stands r.such;
  code = same ∙ r.code;
  refused = ended r.read r.ends ∙ ap (λ z. z ++ more r.read) r.refused ∙ append_assoc old.refusals r.refusals (more r.read);
  made = made ∙ ap (option_map (λ _. pred (length read.code))) r.ends ∙ by_read r.read r.code;
}
  where
    by_read : (x : Option Read) → read.code ≡ old.code ++ nodes_of x
        → option_map (λ _. pred (length read.code)) (option_map (λ r. r.functionality) x) ≡ option_map (root (length old.code)) x
    by_read None h = refl
    by_read (Some x) h = ap (λ c. Some (pred (length c))) h ∙ ap (λ n. Some (pred n)) (length-append old.code x.nodes)
