-- The inputs of a module by their numbers, and which of them a node reaches.
use Rattle.std.proofs.Common.{◌≡◌, ◌⊎◌, ℕ, zero, suc, ◌+◌, ◌<◌, ◌≤◌, Bool, true, false, cond, List, [], ◌∷◌, ◌++◌, length, map, take, get_or, slice_get, Option, Some, None, refl, sym, ap, subst, ◌∙◌, inl, inr, arith, Result, Ok, Err}
use Rattle.std.specs.Result.{IfOk}
use Rattle.std.proofs.lemmas.List.{take_more, append-nil, map-append, take_all, length-map, length-append, length-take-le}
use Rattle.std.proofs.lemmas.Option.{slice_get_within, slice_get-get_or, get_or_from_slice_get}
use Rattle.wiring.specs.Wiring.{In, Chain}
use Rattle.wiring.proofs.Lists.{slice_get-append_left, slice_get-append_at}
use Rattle.hw_model.specs.Design.{Port}
use Rattle.hw_model.specs.Flat.{input_count}
use Rattle.ir_store.specs.Designs.{port_of}
use Rattle.ir_store.specs.declared.design.Port.{Port as CodePort}
use Rattle.graphs.specs.Graphs.{edges, has_mark, AreReached}
use Rattle.design_cycles.specs.Graphs.{LeadsTo}
use Rattle.design_cycles.specs.Local.{IsInput}
use Rattle.design_cycles.specs.Summing.{inputs_from, reached_numbers, AreInputs, AreOutputs}

-- ---- the positions of the inputs

length-inputs : (p : ℕ) (qs : List Port) → length (inputs_from p qs) ≤ length qs
length-inputs p [] = omega arith
length-inputs p (q ∷ qs) = go q.is_output (length-inputs (suc p) qs)
  where
    go : (b : Bool) → length (inputs_from (suc p) qs) ≤ length qs → length (cond b (inputs_from (suc p) qs) (p ∷ inputs_from (suc p) qs)) ≤ suc (length qs)
    go true rest = omega arith
    go false rest = omega arith

pub inputs_small : (qs : List CodePort) (xs : List ℕ) (n : ℕ) → length qs < n → xs ≡ inputs_from 0 (map port_of qs) → length xs < n
inputs_small qs xs n small are =
    let bound : length (inputs_from 0 (map port_of qs)) ≤ length (map port_of qs) = length-inputs 0 (map port_of qs) in
    let size : length (map port_of qs) ≡ length qs = length-map qs port_of in
    let same : length xs ≡ length (inputs_from 0 (map port_of qs)) = ap length are in
    omega arith

inputs-push : (p : ℕ) (qs : List Port) (q : Port) → inputs_from p (qs ++ q ∷ []) ≡ inputs_from p qs ++ cond q.is_output [] ((p + length qs) ∷ [])
inputs-push p [] q = let e : p ≡ p + 0 = omega arith in ap (λ n. cond q.is_output [] (n ∷ [])) e
inputs-push p (x ∷ qs) q =
    let e : suc p + length qs ≡ p + suc (length qs) = omega arith in
    go x.is_output (inputs-push (suc p) qs q ∙ ap (λ n. inputs_from (suc p) qs ++ cond q.is_output [] (n ∷ [])) e)
  where
    go : (b : Bool) → inputs_from (suc p) (qs ++ q ∷ []) ≡ inputs_from (suc p) qs ++ cond q.is_output [] ((p + suc (length qs)) ∷ [])
        → cond b (inputs_from (suc p) (qs ++ q ∷ [])) (p ∷ inputs_from (suc p) (qs ++ q ∷ []))
        ≡ cond b (inputs_from (suc p) qs) (p ∷ inputs_from (suc p) qs) ++ cond q.is_output [] ((p + suc (length qs)) ∷ [])
    go true rest = rest
    go false rest = ap (λ xs. p ∷ xs) rest

-- one more port
module _ (qs : List CodePort) (i : ℕ) (x : CodePort) (below : i < length qs) (new old : List ℕ) (before : old ≡ inputs_from 0 (map port_of (take i qs))) where
  more : inputs_from 0 (map port_of (take (i + 1) qs)) ≡ inputs_from 0 (map port_of (take i qs)) ++ cond (get_or qs i x).out [] (i ∷ [])
  more =
      ap (λ ys. inputs_from 0 (map port_of ys)) (take_more qs i x below) ∙ ap (inputs_from 0) (map-append port_of (take i qs) (get_or qs i x ∷ []))
      ∙ inputs-push 0 (map port_of (take i qs)) (port_of (get_or qs i x))
      ∙ ap (λ n. inputs_from 0 (map port_of (take i qs)) ++ cond (get_or qs i x).out [] (n ∷ [])) count
    where
      count : 0 + length (map port_of (take i qs)) ≡ i
      count =
          let size : length (map port_of (take i qs)) ≡ length (take i qs) = length-map (take i qs) port_of in
          let whole : length (take i qs) ≡ i = length-take-le i qs (omega arith) in
          omega arith

  pub input_more : (get_or qs i x).out ≡ false → new ≡ old ++ i ∷ [] → new ≡ inputs_from 0 (map port_of (take (i + 1) qs))
  input_more plain now = now ∙ ap (λ ys. ys ++ i ∷ []) before ∙ sym (more ∙ ap (λ b. inputs_from 0 (map port_of (take i qs)) ++ cond b [] (i ∷ [])) plain)

  pub output_more : (get_or qs i x).out ≡ true → new ≡ old → new ≡ inputs_from 0 (map port_of (take (i + 1) qs))
  output_more out now =
      now ∙ before ∙ sym (more ∙ ap (λ b. inputs_from 0 (map port_of (take i qs)) ++ cond b [] (i ∷ [])) out ∙ append-nil (inputs_from 0 (map port_of (take i qs))))

pub inputs_all : (qs : List CodePort) (i : ℕ) (xs : List ℕ) → length qs ≤ i → xs ≡ inputs_from 0 (map port_of (take i qs))
    → xs ≡ inputs_from 0 (map port_of qs)
inputs_all qs i xs all are = are ∙ ap (λ ys. inputs_from 0 (map port_of ys)) (take_all i qs all)

-- the number of an input says its position
pub from_input : (p : ℕ) (qs : List Port) (x v : ℕ) → slice_get (inputs_from p qs) x ≡ Some v → (j : ℕ) × (v ≡ p + j) × IsInput qs j x
from_input p [] x v at = cc
from_input p (q ∷ qs) x v at = go q.is_output refl (λ y is. from_input (suc p) qs y v is) x at
  where
    later : (j y : ℕ) → IsInput qs j y → (n : ℕ) → cond q.is_output y (suc y) ≡ n → IsInput (q ∷ qs) (suc j) n
    later j y input n is = record {
      port_there = input.port_there;
      has_port = input.has_port;
      is_in = input.is_in;
      number = ap (λ m. cond q.is_output m (suc m)) input.number ∙ is;
    }

    go : (b : Bool) → q.is_output ≡ b → ((y : ℕ) → slice_get (inputs_from (suc p) qs) y ≡ Some v → (j : ℕ) × (v ≡ suc p + j) × IsInput qs j y) → (x : ℕ)
        → slice_get (cond b (inputs_from (suc p) qs) (p ∷ inputs_from (suc p) qs)) x ≡ Some v → (j : ℕ) × (v ≡ p + j) × IsInput (q ∷ qs) j x
    go true out rest x at =
        let found = rest x at in
        let position : v ≡ p + suc found.0 = omega (arith, found.1) in
        (suc found.0, position, later found.0 x found.2 x (ap (λ b. cond b x (suc x)) out))
    go false plain rest zero at =
        let same : p ≡ v = cc in
        let position : v ≡ p + 0 = omega arith in
        (0, position, record { port_there = q; has_port = refl; is_in = plain; number = refl })
    go false plain rest (suc y) at =
        let found = rest y at in
        let position : v ≡ p + suc found.0 = omega (arith, found.1) in
        (suc found.0, position, later found.0 y found.2 (suc y) (ap (λ b. cond b y (suc y)) plain))

pub to_input : (p : ℕ) (qs : List Port) (j x : ℕ) → IsInput qs j x → slice_get (inputs_from p qs) x ≡ Some (p + j)
to_input p [] j x input = let e : None ≡ Some input.port_there = input.has_port in cc
to_input p (q ∷ qs) zero x input =
    let same : q ≡ input.port_there = let e : Some q ≡ Some input.port_there = input.has_port in cc in
    let plain : q.is_output ≡ false = ap (λ (y : Port). y.is_output) same ∙ input.is_in in
    let first : x ≡ 0 = sym input.number in
    let position : p ≡ p + 0 = omega arith in
    ap (slice_get (inputs_from p (q ∷ qs))) first ∙ ap (λ b. slice_get (cond b (inputs_from (suc p) qs) (p ∷ inputs_from (suc p) qs)) 0) plain ∙ ap Some position
to_input p (q ∷ qs) (suc j) x input = go q.is_output (λ y i. to_input (suc p) qs j y i) input.number
  where
    position : suc p + j ≡ p + suc j
    position = omega arith

    go : (b : Bool) → ((y : ℕ) → IsInput qs j y → slice_get (inputs_from (suc p) qs) y ≡ Some (suc p + j))
        → cond b (input_count (take j qs)) (suc (input_count (take j qs))) ≡ x
        → slice_get (cond b (inputs_from (suc p) qs) (p ∷ inputs_from (suc p) qs)) x ≡ Some (p + suc j)
    go true rest is = rest x (record { port_there = input.port_there; has_port = input.has_port; is_in = input.is_in; number = is }) ∙ ap Some position
    go false rest is =
        ap (slice_get (p ∷ inputs_from (suc p) qs)) (sym is)
        ∙ rest (input_count (take j qs)) (record { port_there = input.port_there; has_port = input.has_port; is_in = input.is_in; number = refl }) ∙ ap Some position

-- ---- numbers of marked nodes

numbers-push : (marks : List Bool) (n : ℕ) (vs : List ℕ) (v : ℕ)
    → reached_numbers marks n (vs ++ v ∷ []) ≡ reached_numbers marks n vs ++ cond (has_mark marks v) ((n + length vs) ∷ []) []
numbers-push marks n [] v = let e : n ≡ n + 0 = omega arith in ap (λ m. cond (has_mark marks v) (m ∷ []) []) e
numbers-push marks n (x ∷ vs) v =
    let e : suc n + length vs ≡ n + suc (length vs) = omega arith in
    go (has_mark marks x) (numbers-push marks (suc n) vs v ∙ ap (λ m. reached_numbers marks (suc n) vs ++ cond (has_mark marks v) (m ∷ []) []) e)
  where
    go : (b : Bool) → reached_numbers marks (suc n) (vs ++ v ∷ []) ≡ reached_numbers marks (suc n) vs ++ cond (has_mark marks v) ((n + suc (length vs)) ∷ []) []
        → cond b (n ∷ reached_numbers marks (suc n) (vs ++ v ∷ [])) (reached_numbers marks (suc n) (vs ++ v ∷ []))
        ≡ cond b (n ∷ reached_numbers marks (suc n) vs) (reached_numbers marks (suc n) vs) ++ cond (has_mark marks v) ((n + suc (length vs)) ∷ []) []
    go true rest = ap (λ xs. n ∷ xs) rest
    go false rest = rest

module _ (marks : List Bool) (vs : List ℕ) (i : ℕ) (below : i < length vs) (new old : List ℕ) (before : old ≡ reached_numbers marks 0 (take i vs)) where
  more_numbers : reached_numbers marks 0 (take (i + 1) vs) ≡ reached_numbers marks 0 (take i vs) ++ cond (has_mark marks (get_or vs i 0)) (i ∷ []) []
  more_numbers =
      ap (reached_numbers marks 0) (take_more vs i 0 below) ∙ numbers-push marks 0 (take i vs) (get_or vs i 0)
      ∙ ap (λ n. reached_numbers marks 0 (take i vs) ++ cond (has_mark marks (get_or vs i 0)) (n ∷ []) []) (let whole : length (take i vs) ≡ i = length-take-le i vs (omega arith) in let e : 0 + length (take i vs) ≡ i = omega arith in e)

  pub number_marked : (b : Bool) → b ≡ has_mark marks (get_or vs i 0) → b ≡ true → new ≡ old ++ i ∷ [] → new ≡ reached_numbers marks 0 (take (i + 1) vs)
  number_marked b is said now =
      now ∙ ap (λ ys. ys ++ i ∷ []) before ∙ sym (more_numbers ∙ ap (λ c. reached_numbers marks 0 (take i vs) ++ cond c (i ∷ []) []) (sym is ∙ said))

  pub number_open : (b : Bool) → b ≡ has_mark marks (get_or vs i 0) → b ≡ false → new ≡ old → new ≡ reached_numbers marks 0 (take (i + 1) vs)
  number_open b is said now =
      now ∙ before ∙ sym (more_numbers ∙ ap (λ c. reached_numbers marks 0 (take i vs) ++ cond c (i ∷ []) []) (sym is ∙ said) ∙ append-nil (reached_numbers marks 0 (take i vs)))

pub numbers_all : (marks : List Bool) (vs : List ℕ) (i : ℕ) (xs : List ℕ) → length vs ≤ i → xs ≡ reached_numbers marks 0 (take i vs)
    → xs ≡ reached_numbers marks 0 vs
numbers_all marks vs i xs all are = are ∙ ap (reached_numbers marks 0) (take_all i vs all)

from_numbers : (marks : List Bool) (n : ℕ) (vs : List ℕ) (x : ℕ) → In x (reached_numbers marks n vs)
    → (i v : ℕ) × (x ≡ n + i) × (slice_get vs i ≡ Some v) × (has_mark marks v ≡ true)
from_numbers marks n [] x here = absurd here
from_numbers marks n (v ∷ vs) x here = go (has_mark marks v) refl here (from_numbers marks (suc n) vs x)
  where
    later : ((i w : ℕ) × (x ≡ suc n + i) × (slice_get vs i ≡ Some w) × (has_mark marks w ≡ true))
        → (i w : ℕ) × (x ≡ n + i) × (slice_get (v ∷ vs) i ≡ Some w) × (has_mark marks w ≡ true)
    later (i, w, position, at, is) = let e : x ≡ n + suc i = omega arith in (suc i, w, e, at, is)

    go : (b : Bool) → has_mark marks v ≡ b → In x (cond b (n ∷ reached_numbers marks (suc n) vs) (reached_numbers marks (suc n) vs))
        → (In x (reached_numbers marks (suc n) vs) → (i w : ℕ) × (x ≡ suc n + i) × (slice_get vs i ≡ Some w) × (has_mark marks w ≡ true))
        → (i w : ℕ) × (x ≡ n + i) × (slice_get (v ∷ vs) i ≡ Some w) × (has_mark marks w ≡ true)
    go true is (inl same) rest = let e : x ≡ n + 0 = omega arith in (0, v, e, refl, is)
    go true is (inr there) rest = later (rest there)
    go false is there rest = later (rest there)

to_numbers : (marks : List Bool) (n : ℕ) (vs : List ℕ) (i v : ℕ) → slice_get vs i ≡ Some v → has_mark marks v ≡ true → In (n + i) (reached_numbers marks n vs)
to_numbers marks n [] i v at is = cc
to_numbers marks n (w ∷ vs) zero v at is =
    let same : w ≡ v = cc in
    let e : n ≡ n + 0 = omega arith in
    subst (λ m. In m (reached_numbers marks n (w ∷ vs))) e (subst (λ b. In n (cond b (n ∷ reached_numbers marks (suc n) vs) (reached_numbers marks (suc n) vs))) (sym (ap (has_mark marks) same ∙ is)) (inl refl))
to_numbers marks n (w ∷ vs) (suc i) v at is =
    go (has_mark marks w) (subst (λ m. In m (reached_numbers marks (suc n) vs)) (let e : suc n + i ≡ n + suc i = omega arith in e) (to_numbers marks (suc n) vs i v at is))
  where
    go : (b : Bool) → In (n + suc i) (reached_numbers marks (suc n) vs)
        → In (n + suc i) (cond b (n ∷ reached_numbers marks (suc n) vs) (reached_numbers marks (suc n) vs))
    go true there = inr there
    go false there = there

pub inputs_reached : (lists : List (List ℕ)) (inputs : List ℕ) (a : ℕ) (marks marks' : List Bool) (numbers : List ℕ) → AreReached lists (a ∷ []) marks
    → marks' ≡ marks → numbers ≡ reached_numbers marks' 0 inputs
    → AreInputs lists inputs (Some a) numbers
inputs_reached lists inputs a marks marks' numbers reached same are = record {
  sound = λ x here. sound x (from_numbers marks 0 inputs x (subst (In x) are' here));
  complete = λ x v at below leads. complete x v at below leads;
}
  where
    are' : numbers ≡ reached_numbers marks 0 inputs
    are' = are ∙ ap (λ ms. reached_numbers ms 0 inputs) same

    from : (v : ℕ) → ((b k : ℕ) × In b (a ∷ []) × Chain (edges lists) k b v) → LeadsTo lists (Some a) v
    from v (b, k, inl is, chain) = (a, refl, (k, subst (λ z. Chain (edges lists) k z v) is chain))
    from v (b, k, inr never, chain) = absurd never

    sound : (x : ℕ) → ((i v : ℕ) × (x ≡ 0 + i) × (slice_get inputs i ≡ Some v) × (has_mark marks v ≡ true))
        → (v : ℕ) × (slice_get inputs x ≡ Some v) × LeadsTo lists (Some a) v
    sound x (i, v, position, at, is) = let e : x ≡ i = omega arith in (v, ap (slice_get inputs) e ∙ at, from v (reached.sound v is))

    complete : (x v : ℕ) → slice_get inputs x ≡ Some v → v < length lists → LeadsTo lists (Some a) v → In x numbers
    complete x v at below leads =
        let start : leads.0 ≡ a = let e : Some a ≡ Some leads.0 = leads.1 in cc in
        let mark : has_mark marks v ≡ true = reached.complete a leads.2.0 v (inl refl) (subst (λ z. Chain (edges lists) leads.2.0 z v) start leads.2.1) below in
        let number : 0 + x ≡ x = omega arith in
        subst (In x) (sym are') (subst (λ n. In n (reached_numbers marks 0 inputs)) number (to_numbers marks 0 inputs x v at mark))

pub inputs_none : (lists : List (List ℕ)) (inputs numbers : List ℕ) → numbers ≡ [] → AreInputs lists inputs None numbers
inputs_none lists inputs numbers are = record {
  sound = λ x here. absurd (subst (In x) are here);
  complete = λ x v at below leads. (let e : None ≡ Some leads.0 = leads.1 in cc);
}

-- ---- one more output

pub outputs_none : (lists : List (List ℕ)) (inputs : List ℕ) (outputs : List (List ℕ)) → outputs ≡ [] → AreOutputs lists inputs [] outputs
outputs_none lists inputs outputs none = record { count = ap length none; each = λ k from at. cc }

outputs-push : (lists : List (List ℕ)) (inputs : List ℕ) (nodes : List (Option ℕ)) (outputs : List (List ℕ)) (node : Option ℕ) (numbers : List ℕ)
    → AreOutputs lists inputs nodes outputs
    → AreInputs lists inputs node numbers → AreOutputs lists inputs (nodes ++ node ∷ []) (outputs ++ numbers ∷ [])
outputs-push lists inputs nodes outputs node numbers are one = record {
  count = length-append outputs (numbers ∷ []) ∙ ap (λ n. n + 1) are.count ∙ sym (length-append nodes (node ∷ []));
  each = λ k from at. by_position k from at (grind arith);
}
  where
    same_count : length outputs ≡ length nodes
    same_count = are.count

    by_position : (k : ℕ) (from : Option ℕ) → slice_get (nodes ++ node ∷ []) k ≡ Some from → (k < length nodes) ⊎ (length nodes ≤ k)
        → AreInputs lists inputs from (edges (outputs ++ numbers ∷ []) k)
    by_position k from at (inl before) =
        let was : slice_get nodes k ≡ Some from = sym (slice_get-append_left nodes (node ∷ []) k before) ∙ at in
        let kept : edges (outputs ++ numbers ∷ []) k ≡ edges outputs k =
        get_or_from_slice_get (outputs ++ numbers ∷ []) k (edges outputs k) [] (slice_get-append_left outputs (numbers ∷ []) k (omega arith) ∙ slice_get-get_or outputs k [] (omega arith)) in
        subst (AreInputs lists inputs from) (sym kept) (are.each k from was)
    by_position k from at (inr past) =
        let bound : k < length (nodes ++ node ∷ []) = slice_get_within (nodes ++ node ∷ []) k from at in
        let size : length (nodes ++ node ∷ []) ≡ length nodes + 1 = length-append nodes (node ∷ []) in
        let last : k ≡ length nodes = omega arith in
        let last' : k ≡ length outputs = omega arith in
        let is : Some node ≡ Some from = sym (ap (slice_get (nodes ++ node ∷ [])) last ∙ slice_get-append_at nodes node []) ∙ at in
        let same : node ≡ from = cc in
        let bit_set : edges (outputs ++ numbers ∷ []) k ≡ numbers =
        get_or_from_slice_get (outputs ++ numbers ∷ []) k numbers [] (ap (slice_get (outputs ++ numbers ∷ [])) last' ∙ slice_get-append_at outputs numbers []) in
        subst (λ n. AreInputs lists inputs n (edges (outputs ++ numbers ∷ []) k)) same (subst (AreInputs lists inputs node) (sym bit_set) one)

pub outputs_more : {A : Type 0} (f : A → Option ℕ) (values : List A) (i : ℕ) (d : A) (lists : List (List ℕ)) (inputs : List ℕ) (new old : List (List ℕ)) (numbers : List ℕ) → i < length values
    → AreOutputs lists inputs (map f (take i values)) old → AreInputs lists inputs (f (get_or values i d)) numbers → new ≡ old ++ numbers ∷ []
    → AreOutputs lists inputs (map f (take (i + 1) values)) new
outputs_more f values i d lists inputs new old numbers below are one now =
    subst (AreOutputs lists inputs (map f (take (i + 1) values))) (sym now)
    (subst (λ ns. AreOutputs lists inputs ns (old ++ numbers ∷ [])) (sym (ap (map f) (take_more values i d below) ∙ map-append f (take i values) (get_or values i d ∷ [])))
    (outputs-push lists inputs (map f (take i values)) old (f (get_or values i d)) numbers are one))

pub outputs_all : {A : Type 0} (f : A → Option ℕ) (values : List A) (i : ℕ) (lists : List (List ℕ)) (inputs : List ℕ) (outputs : List (List ℕ))
    → length values ≤ i
    → AreOutputs lists inputs (map f (take i values)) outputs → AreOutputs lists inputs (map f values) outputs
outputs_all f values i lists inputs outputs all are = subst (λ vs. AreOutputs lists inputs (map f vs) outputs) (take_all i values all) are

-- ---- results

pub if_ok : {A E : Type 0} (P Q : A → Type 0) (r : Result A E) → ((x : A) → P x → Q x) → IfOk r P → IfOk r Q
if_ok P Q (Ok x) f is = f x is
if_ok P Q (Err e) f is = tt
