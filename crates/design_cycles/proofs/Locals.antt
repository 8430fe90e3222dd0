-- Within one body the wires of the table lead where chains of the flattened module lead.
use Rattle.std.proofs.Common.{◌≡◌, ◌⊎◌, ℕ, zero, suc, ◌+◌, ◌<◌, ◌≤◌, Bool, true, false, cond, List, [], ◌∷◌, length, map, take, slice_get, Option, Some, None, refl, sym, ap, subst, ◌∙◌, inl, inr, arith, option_and_then}
use Rattle.std.specs.Option.{option_to_list}
use Rattle.wiring.specs.Wiring.{In, Chain, Depends as IsReached}
use Rattle.wiring.proofs.Members.{In-map, from_In-map, In-append_left, In-append_right, In-append_cases}
use Rattle.wiring.proofs.Chains.{Chain-append}
use Rattle.hw_model.specs.Types.{Name, HwType}
use Rattle.hw_model.specs.Kinds.{Instance}
use Rattle.hw_model.specs.Design.{Ref, Port, Op, Module, Design, find_module, instance_in, is_register, is_output_op, result_type, output_refs, callee}
use Rattle.hw_model.specs.Design.Ref.{port, result, undefined}
use Rattle.hw_model.specs.Flat.{Net, net, instances, module_at, base, body_state, state, input_count, operand_for, port_ref, copy_of, joined_ref, joined_at, given_ref, held_of, made_of}
use Rattle.hw_model.specs.Meaning.{needs_of, needs}
use Rattle.hw_model.specs.Sound.{body_of, ports_of}
use Rattle.hw_model.specs.Hierarchy.{calls}
use Rattle.hw_model.proofs.Sorts.{Sort, sort_of, instance_found}
use Rattle.hw_model.proofs.Sorts.Sort.{a_register, an_instance, an_output, a_made}
use Rattle.hw_model.proofs.Paths.{module_inside, joined_body, port_of, output_of, op_in, result_in, result_here}
use Rattle.hw_model.proofs.Gone.{called_In}
use Rattle.wiring.proofs.Members.{In-slice_get}
use Rattle.design_cycles.specs.Local.{IsInput, Feeds, IsSummary, operands_at, where_typed, op_wires, result_wires, wires}
use Rattle.design_cycles.proofs.Inside.{lift_away, copied, no_needs_port, Leaves, chain_leaves, chain_lifts}
use Rattle.design_cycles.proofs.Inside.Leaves.{stays, leaves}

-- ---- operands by number

pub In-picked : (rs : List Ref) (x : ℕ) (r : Ref) (xs : List ℕ) → In x xs → slice_get rs x ≡ Some r → In r (operands_at rs xs)
In-picked rs x r [] here is = absurd here
In-picked rs x r (y ∷ ys) (inl same) is =
    let first : slice_get rs y ≡ Some r = ap (slice_get rs) (sym same) ∙ is in
    In-append_left r (option_to_list (slice_get rs y)) (operands_at rs ys) (subst (λ o. In r (option_to_list o)) (sym first) (inl refl))
In-picked rs x r (y ∷ ys) (inr here) is = In-append_right r (option_to_list (slice_get rs y)) (operands_at rs ys) (In-picked rs x r ys here is)

pub from_In-picked : (rs : List Ref) (r : Ref) (xs : List ℕ) → In r (operands_at rs xs) → (x : ℕ) × In x xs × (slice_get rs x ≡ Some r)
from_In-picked rs r [] here = absurd here
from_In-picked rs r (y ∷ ys) here = go (In-append_cases r (option_to_list (slice_get rs y)) (operands_at rs ys) here) (from_In-picked rs r ys)
  where
    only : (o : Option Ref) → slice_get rs y ≡ o → In r (option_to_list o) → (x : ℕ) × In x (y ∷ ys) × (slice_get rs x ≡ Some r)
    only None is never = absurd never
    only (Some z) is (inl same) = (y, inl refl, is ∙ ap Some (sym same))
    only (Some z) is (inr never) = absurd never

    go : In r (option_to_list (slice_get rs y)) ⊎ In r (operands_at rs ys) → (In r (operands_at rs ys) → (x : ℕ) × In x ys × (slice_get rs x ≡ Some r))
        → (x : ℕ) × In x (y ∷ ys) × (slice_get rs x ≡ Some r)
    go (inl first) rest = only (slice_get rs y) refl first
    go (inr later) rest = let found = rest later in (found.0, inr found.1, found.2)

-- ---- what an instance joins to a port

port_ref_from : (ports : List Port) (rs : List Ref) (j : ℕ) (r : Ref) → port_ref ports rs j ≡ Some r
    → (x : ℕ) × IsInput ports j x × (slice_get rs x ≡ Some r)
port_ref_from ports rs j r is = by_port (slice_get ports j) refl is
  where
    by_side : (q : Port) → slice_get ports j ≡ Some q → (b : Bool) → q.is_output ≡ b → cond b None (slice_get rs (input_count (take j ports))) ≡ Some r
        → (x : ℕ) × IsInput ports j x × (slice_get rs x ≡ Some r)
    by_side q there true out joins = cc
    by_side q there false out joins =
        (input_count (take j ports), record { port_there = q; has_port = there; is_in = out; number = refl }, joins)

    by_port : (o : Option Port) → slice_get ports j ≡ o → operand_for o rs (input_count (take j ports)) ≡ Some r
        → (x : ℕ) × IsInput ports j x × (slice_get rs x ≡ Some r)
    by_port None there joins = cc
    by_port (Some q) there joins = by_side q there q.is_output refl joins

port_ref_is : (ports : List Port) (rs : List Ref) (j x : ℕ) → IsInput ports j x → port_ref ports rs j ≡ slice_get rs x
port_ref_is ports rs j x input =
    ap (λ o. operand_for o rs (input_count (take j ports))) input.has_port
    ∙ ap (λ b. cond b None (slice_get rs (input_count (take j ports)))) input.is_in
    ∙ ap (slice_get rs) input.number

module _ (d : Design) (top : Name) where
  abbrev os : List Op
  os = body_of (find_module d top)

  abbrev position : ℕ → ℕ
  position j = length (instances (take j os))

  -- ---- an instance in the body

  module _ (j : ℕ) (o : Op) (i : Instance) (there : slice_get os j ≡ Some o) (inst : instance_in o.kind ≡ Some i) where
    callee_is : callee d o ≡ find_module d i.symbol
    callee_is = ap (λ y. option_and_then (λ (z : Instance). find_module d z.symbol) y) inst

    stands : module_at d top (position j ∷ []) ≡ find_module d i.symbol
    stands =
        module_inside d (position j) (find_module d top) ∙ ap (λ y. option_and_then (callee d) y) (instance_found os j o i there inst) ∙ callee_is

    joined_is : (q : ℕ) → option_and_then (joined_at d (position j) q) (module_at d top []) ≡ port_ref (ports_of (find_module d i.symbol)) o.operands q
    joined_is q =
        joined_body d (position j) q (find_module d top) ∙ ap (λ y. option_and_then (joined_ref d q) y) (instance_found os j o i there inst)
        ∙ ap (λ m. option_and_then (λ (c : Module). port_ref c.ports o.operands q) m) callee_is ∙ port_of (find_module d i.symbol) o.operands q

    given_is : (k : ℕ) → given_ref d k o ≡ slice_get (output_refs (body_of (find_module d i.symbol))) k
    given_is k = ap (λ m. option_and_then (λ (c : Module). slice_get (output_refs c.body) k) m) callee_is ∙ output_of (find_module d i.symbol) k

    port_needs : (q : ℕ) (b : Net) → In b (needs d top (net (position j ∷ []) (port q)))
        → (r : Ref) × (x : ℕ) × IsInput (ports_of (find_module d i.symbol)) q x × (slice_get o.operands x ≡ Some r) × (b ≡ net [] r)
    port_needs q b here =
        let out = copied [] (option_and_then (joined_at d (position j) q) (module_at d top [])) b here in
        let from = port_ref_from (ports_of (find_module d i.symbol)) o.operands q out.0 (sym (joined_is q) ∙ out.1) in
        (out.0, from.0, from.1, from.2, out.2)

    port_joined : (q x : ℕ) (r : Ref) → IsInput (ports_of (find_module d i.symbol)) q x → slice_get o.operands x ≡ Some r
        → In (net [] r) (needs d top (net (position j ∷ []) (port q)))
    port_joined q x r input is =
        let joins : option_and_then (joined_at d (position j) q) (module_at d top []) ≡ Some r =
        joined_is q ∙ port_ref_is (ports_of (find_module d i.symbol)) o.operands q x input ∙ is in
        subst (λ y. In (net [] r) (needs_of (copy_of [] y))) (sym joins) (inl refl)

  -- ---- from chains to wires and back

  module _ (table : Name → ℕ → List ℕ) (summary : (s : Name) → In s (calls d top) → IsSummary d table s) where
    abbrev local : Ref → List Ref
    local = wires table os

    of_instance : (j k : ℕ) (o : Op) (i : Instance) → slice_get os j ≡ Some o → is_register o ≡ false → instance_in o.kind ≡ Some i → (r : Ref)
        → In r (operands_at o.operands (table i.symbol k)) → In r (local (result j k))
    of_instance j k o i there unregistered inst r here =
        subst (λ x. In r (result_wires table k x)) (sym there)
        (subst (λ b. In r (cond b [] (op_wires table o k (instance_in o.kind)))) (sym unregistered)
        (subst (λ x. In r (op_wires table o k x)) (sym inst) here))

    -- what is first met on the way from a result of the body
    data Next (j k : ℕ) (c : Net) : Type 0 where
      plain : (r : Ref) → c ≡ net [] r → In r (local (result j k)) → Next j k c
      enters : (o : Op) (i : Instance) → slice_get os j ≡ Some o → is_register o ≡ false → instance_in o.kind ≡ Some i → (r : Ref)
          → slice_get (output_refs (body_of (find_module d i.symbol))) k ≡ Some r → c ≡ net (position j ∷ []) r → Next j k c

    next : (j k : ℕ) (c : Net) → In c (needs d top (net [] (result j k))) → Next j k c
    next j k c need = by_op (slice_get os j) refl (subst (λ s. In c (needs_of s)) (result_here d top [] j k) need)
      where
        by_type : (o : Op) → slice_get os j ≡ Some o → is_register o ≡ false → instance_in o.kind ≡ None → is_output_op o ≡ false → (t : Option HwType) → result_type o k ≡ t
            → In c (needs_of (made_of [] o k t)) → Next j k c
        by_type o there r n x None typed here = absurd here
        by_type o there r n x (Some t) typed here =
            let found = from_In-map (net []) c o.operands here in
            plain found.0 found.2
            (subst (λ z. In found.0 (result_wires table k z)) (sym there)
            (subst (λ b. In found.0 (cond b [] (op_wires table o k (instance_in o.kind)))) (sym r)
            (subst (λ z. In found.0 (op_wires table o k z)) (sym n)
            (subst (λ b. In found.0 (cond b [] (where_typed (result_type o k) o.operands))) (sym x)
            (subst (λ z. In found.0 (where_typed z o.operands)) (sym typed) found.1)))))

        by_held : (s : ℕ) (t : Option HwType) → In c (needs_of (held_of s t)) → Next j k c
        by_held s None here = absurd here
        by_held s (Some t) here = absurd here

        by_sort : (o : Op) → slice_get os j ≡ Some o → Sort o.kind → In c (needs_of (op_in d top [] os j k o)) → Next j k c
        by_sort o there (a_register f r n x) here = by_held (base d top [] + body_state (state d) (take j os)) (result_type o k) (simp r at here)
        by_sort o there (an_instance i r n x) here =
            let plainly : is_register o ≡ false = simp r in
            let here' : In c (needs_of (copy_of (position j ∷ []) (given_ref d k o))) = simp (r, n) (simp (r, n) at here) in
            let into = copied (position j ∷ []) (given_ref d k o) c here' in
            enters o i there plainly n into.0 (sym (given_is j o i there n k) ∙ into.1) into.2
        by_sort o there (an_output r n x) here = absurd (simp (r, n, x) at here)
        by_sort o there (a_made r n x) here =
            let plainly : is_register o ≡ false = simp r in
            by_type o there plainly n x (result_type o k) refl (simp (r, n, x) at here)

        by_op : (x : Option Op) → slice_get os j ≡ x → In c (needs_of (result_in d top [] os j k x)) → Next j k c
        by_op None there here = absurd here
        by_op (Some o) there here = by_sort o there (sort_of o.kind) here

    -- a chain between values of the body goes along wires
    pub data Along (n : ℕ) (a b : Ref) : Type 0 where
      along : (m : ℕ) → Chain local m a b → (0 < n → 0 < m) → Along n a b

    first_wire : (n j k : ℕ) (r b : Ref) {m : ℕ} → In r (local (result j k)) → Along m r b → Along (suc n) (result j k) b
    first_wire n j k r b here (along m chain long) = along (suc m) (r, here, chain) (λ _. omega arith)

    pub to_wires : (bound n : ℕ) (a b : Ref) → n ≤ bound → Chain (needs d top) n (net [] a) (net [] b) → Along n a b
    to_wires bound zero a b low same = along 0 (ap (λ (x : Net). x.ref) same) (λ h. absurd (omega arith))
    to_wires zero (suc n) a b low chain = absurd (omega arith)
    to_wires (suc bound) (suc n) a b low (c, need, chain) = by_ref (to_wires bound) a need
      where
        by_leaving : ((m : ℕ) (x y : Ref) → m ≤ bound → Chain (needs d top) m (net [] x) (net [] y) → Along m x y)
            → (j k : ℕ) (o : Op) (i : Instance) (there : slice_get os j ≡ Some o) → is_register o ≡ false → (inst : instance_in o.kind ≡ Some i) → (r : Ref)
            → slice_get (output_refs (body_of (find_module d i.symbol))) k ≡ Some r
            → Leaves d top (position j) i.symbol (stands j o i there inst) n (net [] r) (net [] b) → Along (suc n) (result j k) b
        by_leaving later j k o i there unregistered inst r given (stays x same inner) = absurd (lift_away (position j) x b same)
        by_leaving later j k o i there unregistered inst r given (leaves q m e s inner out outer size) =
            let joins = port_needs j o i there inst q (net [] s) out in
            let feeds : Feeds d i.symbol k joins.1 =
            record { given = r; position = q; steps = m; gives = given; takes = joins.2; chain = inner } in
            let named : In i.symbol (calls d top) = called_In os o i (In-slice_get o os j there) inst in
            let listed : In joins.1 (table i.symbol k) = (summary i.symbol named).complete k joins.1 feeds in
            let wire : In joins.0 (local (result j k)) =
            of_instance j k o i there unregistered inst joins.0 (In-picked o.operands joins.1 joins.0 (table i.symbol k) listed joins.3) in
            let same : s ≡ joins.0 = ap (λ (x : Net). x.ref) joins.4 in
            first_wire n j k joins.0 b wire (later e joins.0 b (omega arith) (subst (λ z. Chain (needs d top) e (net [] z) (net [] b)) same outer))

        by_next : ((m : ℕ) (x y : Ref) → m ≤ bound → Chain (needs d top) m (net [] x) (net [] y) → Along m x y) → (j k : ℕ) → Next j k c → Along (suc n) (result j k) b
        by_next later j k (plain r is wire) =
            first_wire n j k r b wire (later n r b (omega arith) (subst (λ z. Chain (needs d top) n z (net [] b)) is chain))
        by_next later j k (enters o i there unregistered inst r given is) =
            by_leaving later j k o i there unregistered inst r given
            (chain_leaves d top (position j) i.symbol (stands j o i there inst) n (net [] r) (net [] b) (subst (λ z. Chain (needs d top) n z (net [] b)) is chain))

        by_ref : ((m : ℕ) (x y : Ref) → m ≤ bound → Chain (needs d top) m (net [] x) (net [] y) → Along m x y) → (a : Ref) → In c (needs d top (net [] a)) → Along (suc n) a b
        by_ref later (port j) here = absurd (subst (In c) (no_needs_port d top j) here)
        by_ref later (result j k) here = by_next later j k (next j k c here)
        by_ref later undefined here = absurd here

    -- a wire is a chain
    wire_chain : (a b : Ref) → In b (local a) → (n : ℕ) × Chain (needs d top) (suc n) (net [] a) (net [] b)
    wire_chain (port j) b never = absurd never
    wire_chain undefined b never = absurd never
    wire_chain (result j k) b here = by_op (slice_get os j) refl here
      where
        by_type : (o : Op) → slice_get os j ≡ Some o → Sort o.kind → is_register o ≡ false → instance_in o.kind ≡ None → is_output_op o ≡ false
            → (t : Option HwType) → result_type o k ≡ t → In b (where_typed t o.operands) → (n : ℕ) × Chain (needs d top) (suc n) (net [] (result j k)) (net [] b)
        by_type o there sort r n x None typed never = absurd never
        by_type o there sort r n x (Some t) typed here =
            let source : needs d top (net [] (result j k)) ≡ map (net []) o.operands =
            ap needs_of (result_here d top [] j k) ∙ ap (λ z. needs_of (result_in d top [] os j k z)) there ∙ simp (r, n, x, typed) refl in
            (0, (net [] b, subst (In (net [] b)) (sym source) (In-map (net []) b o.operands here), refl))

        by_instance : (o : Op) (i : Instance) → slice_get os j ≡ Some o → is_register o ≡ false → instance_in o.kind ≡ Some i
            → In b (operands_at o.operands (table i.symbol k)) → (n : ℕ) × Chain (needs d top) (suc n) (net [] (result j k)) (net [] b)
        by_instance o i there r inst here =
            let found = from_In-picked o.operands b (table i.symbol k) here in
            let named : In i.symbol (calls d top) = called_In os o i (In-slice_get o os j there) inst in
            let feeds : Feeds d i.symbol k found.0 = (summary i.symbol named).sound k found.0 found.1 in
            let given : given_ref d k o ≡ Some feeds.given = given_is j o i there inst k ∙ feeds.gives in
            let source : needs d top (net [] (result j k)) ≡ needs_of (copy_of (position j ∷ []) (given_ref d k o)) =
            ap needs_of (result_here d top [] j k) ∙ ap (λ z. needs_of (result_in d top [] os j k z)) there ∙ by_sort o i r inst in
            let enter : In (net (position j ∷ []) feeds.given) (needs d top (net [] (result j k))) =
            subst (In (net (position j ∷ []) feeds.given)) (sym (source ∙ ap (λ z. needs_of (copy_of (position j ∷ []) z)) given)) (inl refl) in
            let through = chain_lifts d top (position j) i.symbol (stands j o i there inst) feeds.steps (net [] feeds.given) (net [] (port feeds.position)) feeds.chain in
            let out : In (net [] b) (needs d top (net (position j ∷ []) (port feeds.position))) = port_joined j o i there inst feeds.position found.0 b feeds.takes found.2 in (
              feeds.steps + 1,
              (
                net (position j ∷ []) feeds.given,
                enter,
                Chain-append (needs d top) feeds.steps 1 (net (position j ∷ []) feeds.given) (net (position j ∷ []) (port feeds.position)) (net [] b) through (net [] b, out, refl),
              ),
            )
          where
            by_sort : (o : Op) (i : Instance) → is_register o ≡ false → instance_in o.kind ≡ Some i
                → needs_of (op_in d top [] os j k o) ≡ needs_of (copy_of (position j ∷ []) (given_ref d k o))
            by_sort o i r inst = simp (r, inst) refl

        by_sort : (o : Op) → slice_get os j ≡ Some o → Sort o.kind → In b (cond (is_register o) [] (op_wires table o k (instance_in o.kind)))
            → (n : ℕ) × Chain (needs d top) (suc n) (net [] (result j k)) (net [] b)
        by_sort o there (a_register f r n x) here = absurd (simp r at here)
        by_sort o there (an_instance i r n x) here =
            let plainly : is_register o ≡ false = simp r in by_instance o i there plainly n (simp (r, n) at here)
        by_sort o there (an_output r n x) here = absurd (simp (r, n, x) at here)
        by_sort o there (a_made r n x) here =
            let plainly : is_register o ≡ false = simp r in
            by_type o there (sort_of o.kind) plainly n x (result_type o k) refl (simp (r, n, x) at here)

        by_op : (x : Option Op) → slice_get os j ≡ x → In b (result_wires table k x) → (n : ℕ) × Chain (needs d top) (suc n) (net [] (result j k)) (net [] b)
        by_op None there never = absurd never
        by_op (Some o) there here = by_sort o there (sort_of o.kind) here

    -- a chain of wires is a chain of the flattened module
    pub data Reached (n : ℕ) (a b : Ref) : Type 0 where
      reached : (m : ℕ) → Chain (needs d top) m (net [] a) (net [] b) → (0 < n → 0 < m) → Reached n a b

    pub from_wires : (n : ℕ) (a b : Ref) → Chain local n a b → Reached n a b
    from_wires zero a b same = reached 0 (ap (net []) same) (λ h. absurd (omega arith))
    from_wires (suc n) a b (c, here, chain) = go (from_wires n c b chain)
      where
        go : Reached n c b → Reached (suc n) a b
        go (reached m rest long) =
            let first = wire_chain a c here in
            reached (suc first.0 + m) (Chain-append (needs d top) (suc first.0) m (net [] a) (net [] c) (net [] b) first.1 rest) (λ _. omega arith)

    -- a value depends on itself along wires exactly where it does in the flattened module
    pub depends_wires : (a b : Ref) → IsReached (needs d top) (net [] a) (net [] b) → IsReached local a b
    depends_wires a b (n, chain) = go (to_wires (suc n) (suc n) a b (omega arith) chain)
      where
        go : Along (suc n) a b → IsReached local a b
        go (along zero wires long) = absurd (let more : 0 < 0 = long (omega arith) in omega arith)
        go (along (suc m) wires long) = (m, wires)

    pub wires_depend : (a b : Ref) → IsReached local a b → IsReached (needs d top) (net [] a) (net [] b)
    wires_depend a b (n, chain) = go (from_wires (suc n) a b chain)
      where
        go : Reached (suc n) a b → IsReached (needs d top) (net [] a) (net [] b)
        go (reached zero rest long) = absurd (let more : 0 < 0 = long (omega arith) in omega arith)
        go (reached (suc m) rest long) = (m, rest)

    -- what feeds an output, along wires
    pub record FeedsLocally (k x : ℕ) : Type 0 where
      pub given : Ref
      pub at : ℕ
      pub steps : ℕ
      pub gives : slice_get (output_refs os) k ≡ Some given
      pub takes : IsInput (ports_of (find_module d top)) at x
      pub chain : Chain local steps given (port at)

    pub feeds_from_local : (k x : ℕ) → FeedsLocally k x → Feeds d top k x
    feeds_from_local k x f = go (from_wires f.steps f.given (port f.at) f.chain)
      where
        go : Reached f.steps f.given (port f.at) → Feeds d top k x
        go (reached m rest long) = record { given = f.given; position = f.at; steps = m; gives = f.gives; takes = f.takes; chain = rest }

    pub feeds_to_local : (k x : ℕ) → Feeds d top k x → FeedsLocally k x
    feeds_to_local k x f = go (to_wires f.steps f.steps f.given (port f.position) (omega arith) f.chain)
      where
        go : Along f.steps f.given (port f.position) → FeedsLocally k x
        go (along m wires long) = record { given = f.given; at = f.position; steps = m; gives = f.gives; takes = f.takes; chain = wires }
