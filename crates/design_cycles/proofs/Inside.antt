-- The part of a flattened module that stands within one of its instances is the flattened module of that instance.
use Rattle.std.proofs.Common.{◌≡◌, ℕ, zero, suc, ◌+◌, Bool, true, false, cond, List, [], ◌∷◌, ◌++◌, length, map, take, slice_get, Option, Some, None, refl, sym, ap, ap₂, subst, ◌∙◌, inl, inr, arith, option_and_then}
use Rattle.wiring.specs.Wiring.{In, Chain, Depends as IsReached}
use Rattle.wiring.proofs.Members.{In-map, from_In-map, In-slice_get}
use Rattle.wiring.proofs.Lists.{map-map}
use Rattle.wiring.proofs.Chains.{Chain-append}
use Rattle.wiring.proofs.Heights.{by_heights}
use Rattle.hw_model.specs.Types.{Name, HwType, width}
use Rattle.hw_model.specs.Kinds.{Instance}
use Rattle.hw_model.specs.Design.{Ref, Port, Op, Module, Design, find_module, instance_in, callee, result_type}
use Rattle.hw_model.specs.Design.Ref.{port, result, undefined}
use Rattle.hw_model.specs.Flat.{Path, Net, net, instances, module_at, base, body_state, state, input_of, input_width, copy_of, joined_ref, joined_at, given_ref, held_of, made_of, port_ref}
use Rattle.hw_model.specs.Flat.Source.{nowhere, input}
use Rattle.hw_model.specs.Meaning.{needs_of, needs, HasNoCycle}
use Rattle.hw_model.specs.Sound.{body_of, ports_of}
use Rattle.hw_model.specs.Hierarchy.{calls, HasNoRecursion}
use Rattle.hw_model.proofs.Sorts.{Sort, sort_of}
use Rattle.hw_model.proofs.Sorts.Sort.{a_register, an_instance, an_output, a_made}
use Rattle.hw_model.proofs.Paths.{module_inside, input_ports, joined_body, op_in, result_in, result_here}
use Rattle.hw_model.proofs.Gone.{called_In, from_In-instances}
use Rattle.hw_model.proofs.Content.{call_heights}

-- ---- paths within instance u

-- a net of the instance's module, where that module stands as instance u
abbrev pub lift : ℕ → Net → Net
lift u n = net (n.path ++ u ∷ []) n.ref

snoc_apart : (p : Path) (u : ℕ) → p ++ u ∷ [] ≡ [] → ⊥
snoc_apart [] u same = cc
snoc_apart (v ∷ p) u same = cc

pub snoc_same : (p q : Path) (u v : ℕ) → p ++ u ∷ [] ≡ q ++ v ∷ [] → p ≡ q
snoc_same [] [] u v same = refl
snoc_same [] (w ∷ q) u v same = let rest : [] ≡ q ++ v ∷ [] = cc in absurd (snoc_apart q v (sym rest))
snoc_same (w ∷ p) [] u v same = let rest : p ++ u ∷ [] ≡ [] = cc in absurd (snoc_apart p u rest)
snoc_same (w ∷ p) (x ∷ q) u v same =
    let first : w ≡ x = cc in
    let rest : p ++ u ∷ [] ≡ q ++ v ∷ [] = cc in
    ap₂ (λ y ys. y ∷ ys) first (snoc_same p q u v rest)

-- a path is the module's own, or within an instance
pub data Split (p : Path) : Type 0 where
  own : p ≡ [] → Split p
  within : (q : Path) (u : ℕ) → p ≡ q ++ u ∷ [] → Split p

pub split : (p : Path) → Split p
split [] = own refl
split (v ∷ p) = go (split p)
  where
    go : Split p → Split (v ∷ p)
    go (own is) = within [] v (ap (λ q. v ∷ q) is)
    go (within q u is) = within (v ∷ q) u (ap (λ z. v ∷ z) is)

pub lift_away : (u : ℕ) (n : Net) (r : Ref) → net [] r ≡ lift u n → ⊥
lift_away u n r same = snoc_apart n.path u (sym (ap (λ (x : Net). x.path) same))

-- ---- what nothing needs

no_needs_input : (x : Option Port) (start : ℕ) → needs_of (input_of x start) ≡ []
no_needs_input None start = refl
no_needs_input (Some q) start = go q.is_output
  where
    go : (b : Bool) → needs_of (cond b nowhere (input start (width q.type))) ≡ []
    go true = refl
    go false = refl

pub copied : (p : Path) (x : Option Ref) (b : Net) → In b (needs_of (copy_of p x)) → (r : Ref) × (x ≡ Some r) × (b ≡ net p r)
copied p None b here = absurd here
copied p (Some r) b (inl same) = (r, refl, same)
copied p (Some r) b (inr here) = absurd here

-- what a copy needs, moved into an instance
copy_lifts : (u : ℕ) (p : Path) (x : Option Ref) → needs_of (copy_of (p ++ u ∷ []) x) ≡ map (lift u) (needs_of (copy_of p x))
copy_lifts u p None = refl
copy_lifts u p (Some r) = refl

module _ (d : Design) (top : Name) where
  -- a port of the module itself needs nothing
  pub no_needs_port : (j : ℕ) → needs d top (net [] (port j)) ≡ []
  no_needs_port j =
      ap needs_of (input_ports j (find_module d top)) ∙ no_needs_input (slice_get (ports_of (find_module d top)) j) (input_width (take j (ports_of (find_module d top))))

  -- ---- within an instance whose module is that of the symbol s
  module _ (u : ℕ) (s : Name) (there : module_at d top (u ∷ []) ≡ find_module d s) where
    pub module_within : (q : Path) → module_at d top (q ++ u ∷ []) ≡ module_at d s q
    module_within [] = there
    module_within (v ∷ q) = ap (λ o. option_and_then (λ (m : Module). option_and_then (callee d) (slice_get (instances m.body) v)) o) (module_within q)

    -- what a result needs there is what it needs in the module
    op_lifts : (q : Path) (os : List Op) (j k : ℕ) (o : Op) → Sort o.kind
        → needs_of (op_in d top (q ++ u ∷ []) os j k o) ≡ map (lift u) (needs_of (op_in d s q os j k o))
    op_lifts q os j k o (a_register f r n x) = simp r (go (result_type o k))
      where
        go : (t : Option HwType) → needs_of (held_of (base d top (q ++ u ∷ []) + body_state (state d) (take j os)) t)
            ≡ map (lift u) (needs_of (held_of (base d s q + body_state (state d) (take j os)) t))
        go None = refl
        go (Some t) = refl
    op_lifts q os j k o (an_instance i r n x) = simp (r, n) (simp n at (copy_lifts u (length (instances (take j os)) ∷ q) (given_ref d k o)))
    op_lifts q os j k o (an_output r n x) = simp (r, n, x)
    op_lifts q os j k o (a_made r n x) = simp (r, n, x) (go (result_type o k))
      where
        go : (t : Option HwType) → needs_of (made_of (q ++ u ∷ []) o k t) ≡ map (lift u) (needs_of (made_of q o k t))
        go None = refl
        go (Some t) = sym (map-map (lift u) (net q) o.operands)

    result_lifts : (q : Path) (os : List Op) (j k : ℕ) (x : Option Op)
        → needs_of (result_in d top (q ++ u ∷ []) os j k x) ≡ map (lift u) (needs_of (result_in d s q os j k x))
    result_lifts q os j k None = refl
    result_lifts q os j k (Some o) = op_lifts q os j k o (sort_of o.kind)

    pub needs_result : (q : Path) (j k : ℕ) → needs d top (net (q ++ u ∷ []) (result j k)) ≡ map (lift u) (needs d s (net q (result j k)))
    needs_result q j k =
        ap needs_of (result_here d top (q ++ u ∷ []) j k)
        ∙ ap (λ m. needs_of (result_in d top (q ++ u ∷ []) (body_of m) j k (slice_get (body_of m) j))) (module_within q)
        ∙ result_lifts q (body_of (module_at d s q)) j k (slice_get (body_of (module_at d s q)) j)
        ∙ ap (λ z. map (lift u) (needs_of z)) (sym (result_here d s q j k))

    pub needs_port : (v : ℕ) (q : Path) (j : ℕ) → needs d top (net ((v ∷ q) ++ u ∷ []) (port j)) ≡ map (lift u) (needs d s (net (v ∷ q) (port j)))
    needs_port v q j =
        ap (λ m. needs_of (copy_of (q ++ u ∷ []) (option_and_then (joined_at d v j) m))) (module_within q)
        ∙ copy_lifts u q (option_and_then (joined_at d v j) (module_at d s q))

    -- each need of the module is one there
    pub need_lifts : (a b : Net) → In b (needs d s a) → In (lift u b) (needs d top (lift u a))
    need_lifts a b need = go a.path a.ref need
      where
        go : (q : Path) (r : Ref) → In b (needs d s (net q r)) → In (lift u b) (needs d top (net (q ++ u ∷ []) r))
        go [] (port j) here = absurd (subst (In b) (no_needs_port' j) here)
          where
            no_needs_port' : (j : ℕ) → needs d s (net [] (port j)) ≡ []
            no_needs_port' j =
                ap needs_of (input_ports j (find_module d s)) ∙ no_needs_input (slice_get (ports_of (find_module d s)) j) (input_width (take j (ports_of (find_module d s))))
        go (v ∷ q) (port j) here = subst (In (lift u b)) (sym (needs_port v q j)) (In-map (lift u) b (needs d s (net (v ∷ q) (port j))) here)
        go q (result j k) here = subst (In (lift u b)) (sym (needs_result q j k)) (In-map (lift u) b (needs d s (net q (result j k))) here)
        go q undefined here = absurd here

    pub chain_lifts : (n : ℕ) (a b : Net) → Chain (needs d s) n a b → Chain (needs d top) n (lift u a) (lift u b)
    chain_lifts zero a b same = ap (lift u) same
    chain_lifts (suc n) a b (c, need, chain) = (lift u c, need_lifts a c need, chain_lifts n c b chain)

    -- a chain from a net there stays there, or leaves it by a port, and goes on from what the port is joined to
    pub data Leaves (n : ℕ) (a b : Net) : Type 0 where
      stays : (c : Net) → b ≡ lift u c → Chain (needs d s) n a c → Leaves n a b
      leaves : (j m k : ℕ) (r : Ref) → Chain (needs d s) m a (net [] (port j)) → In (net [] r) (needs d top (net (u ∷ []) (port j)))
          → Chain (needs d top) k (net [] r) b → n ≡ m + suc k → Leaves n a b

    leaves_later : (n : ℕ) (a c b : Net) → In c (needs d s a) → Leaves n c b → Leaves (suc n) a b
    leaves_later n a c b need (stays e is chain) = stays e is (c, need, chain)
    leaves_later n a c b need (leaves j m k r inner out outer size) = leaves j (suc m) k r (c, need, inner) out outer (omega arith)

    pub chain_leaves : (n : ℕ) (a b : Net) → Chain (needs d top) n (lift u a) b → Leaves n a b
    chain_leaves zero a b same = stays a (sym same) refl
    chain_leaves (suc n) a b (c, need, chain) = go (chain_leaves n) a.path a.ref need
      where
        inside : ((x y : Net) → Chain (needs d top) n (lift u x) y → Leaves n x y) → (q : Path) (r : Ref) → needs d top (net (q ++ u ∷ []) r) ≡ map (lift u) (needs d s (net q r))
            → In c (needs d top (net (q ++ u ∷ []) r)) → Leaves (suc n) (net q r) b
        inside later q r same here =
            let found = from_In-map (lift u) c (needs d s (net q r)) (subst (In c) same here) in
            leaves_later n (net q r) found.0 b found.1 (later found.0 b (subst (λ z. Chain (needs d top) n z b) found.2 chain))

        go : ((x y : Net) → Chain (needs d top) n (lift u x) y → Leaves n x y) → (q : Path) (r : Ref) → In c (needs d top (net (q ++ u ∷ []) r)) → Leaves (suc n) (net q r) b
        go later [] (port j) here =
            let out = copied [] (option_and_then (joined_at d u j) (module_at d top [])) c here in
            leaves j 0 n out.0 refl (subst (λ z. In z (needs d top (net (u ∷ []) (port j)))) out.2 here) (subst (λ z. Chain (needs d top) n z b) out.2 chain) (omega arith)
        go later (v ∷ q) (port j) here = inside later (v ∷ q) (port j) (needs_port v q j) here
        go later q (result j k) here = inside later q (result j k) (needs_result q j k) here
        go later q undefined here = absurd here

  -- ---- within an instance whose module is not there nothing is needed
  module _ (u : ℕ) (absent : module_at d top (u ∷ []) ≡ None) where
    module_absent : (q : Path) → module_at d top (q ++ u ∷ []) ≡ None
    module_absent [] = absent
    module_absent (v ∷ q) = ap (λ o. option_and_then (λ (m : Module). option_and_then (callee d) (slice_get (instances m.body) v)) o) (module_absent q)

    pub no_needs_absent : (q : Path) (r : Ref) (b : Net) → In b (needs d top (net (q ++ u ∷ []) r)) → ⊥
    no_needs_absent [] (port j) b here =
        let out = copied [] (option_and_then (joined_at d u j) (module_at d top [])) b here in
        go (slice_get (instances (body_of (find_module d top))) u) (sym (module_inside d u (find_module d top)) ∙ absent) (sym (joined_body d u j (find_module d top)) ∙ out.1)
      where
        go : {r : Ref} (x : Option Op) → option_and_then (callee d) x ≡ None → option_and_then (joined_ref d j) x ≡ Some r → ⊥
        go None none some = cc
        go (Some o) none some = let never : None ≡ Some _ = ap (λ m. option_and_then (λ (c : Module). port_ref c.ports o.operands j) m) (sym none) ∙ some in cc
    no_needs_absent (v ∷ q) (port j) b here = subst (λ m. In b (needs_of (copy_of (q ++ u ∷ []) (option_and_then (joined_at d v j) m)))) (module_absent q) here
    no_needs_absent q (result j k) b here =
        subst (λ m. In b (needs_of (result_in d top (q ++ u ∷ []) (body_of m) j k (slice_get (body_of m) j)))) (module_absent q)
        (subst (λ z. In b (needs_of z)) (result_here d top (q ++ u ∷ []) j k) here)
    no_needs_absent q undefined b here = here

  -- ---- what stands as instance u
  pub data Standing (u : ℕ) : Type 0 where
    module_of : (s : Name) → In s (calls d top) → module_at d top (u ∷ []) ≡ find_module d s → Standing u
    nothing : module_at d top (u ∷ []) ≡ None → Standing u

  pub standing : (u : ℕ) → Standing u
  standing u = by_op (slice_get (instances (body_of (find_module d top))) u) refl
    where
      by_instance : (o : Op) → slice_get (instances (body_of (find_module d top))) u ≡ Some o → (x : Option Instance) → instance_in o.kind ≡ x → Standing u
      by_instance o here None none =
          nothing (module_inside d u (find_module d top) ∙ ap (λ y. option_and_then (callee d) y) here ∙ ap (λ y. option_and_then (λ (i : Instance). find_module d i.symbol) y) none)
      by_instance o here (Some i) some =
          module_of i.symbol (called_In (body_of (find_module d top)) o i (from_In-instances (body_of (find_module d top)) o (In-slice_get o (instances (body_of (find_module d top))) u here)) some)
          (module_inside d u (find_module d top) ∙ ap (λ y. option_and_then (callee d) y) here ∙ ap (λ y. option_and_then (λ (i : Instance). find_module d i.symbol) y) some)

      by_op : (x : Option Op) → slice_get (instances (body_of (find_module d top))) u ≡ x → Standing u
      by_op None is = nothing (module_inside d u (find_module d top) ∙ ap (λ y. option_and_then (callee d) y) is)
      by_op (Some o) is = by_instance o is (instance_in o.kind) refl

-- ---- where no result of a module's own body depends on itself, in any module, no net at any path does

module _ (d : Design) (none : (s : Name) (j k : ℕ) → IsReached (needs d s) (net [] (result j k)) (net [] (result j k)) → ⊥) where
  none_own : (s : Name) (r : Ref) → IsReached (needs d s) (net [] r) (net [] r) → ⊥
  none_own s (port j) (n, (c, need, chain)) = subst (In c) (no_needs_port d s j) need
  none_own s (result j k) around = none s j k around
  none_own s undefined (n, (c, need, chain)) = need

  none_step : (s : Name) → ((t : Name) → In t (calls d s) → HasNoCycle d t) → HasNoCycle d s
  none_step s below a (n, around) = go (split a.path)
    where
      by_leaving : (q : Path) (u : ℕ) (t : Name) (there : module_at d s (u ∷ []) ≡ find_module d t) → HasNoCycle d t → a.path ≡ q ++ u ∷ []
          → Leaves d s u t there (suc n) (net q a.ref) a → ⊥
      by_leaving q u t there inner is (stays c same chain) =
          let path : q ≡ c.path = snoc_same q c.path u u (sym is ∙ ap (λ (x : Net). x.path) same) in
          let ref : a.ref ≡ c.ref = ap (λ (x : Net). x.ref) same in
          let back : net q a.ref ≡ c = ap₂ net path ref in
          inner (net q a.ref) (n, subst (λ z. Chain (needs d t) (suc n) (net q a.ref) z) (sym back) chain)
      by_leaving q u t there inner is (leaves j m k r chain out rest size) =
          let same : a ≡ lift u (net q a.ref) = ap (λ p. net p a.ref) is in
          let through : Chain (needs d s) m (lift u (net q a.ref)) (net (u ∷ []) (port j)) = chain_lifts d s u t there m (net q a.ref) (net [] (port j)) chain in
          let back : Chain (needs d s) (k + (m + 1)) (net [] r) (net [] r) =
          Chain-append (needs d s) k (m + 1) (net [] r) (lift u (net q a.ref)) (net [] r) (subst (λ z. Chain (needs d s) k (net [] r) z) same rest)
          (Chain-append (needs d s) m 1 (lift u (net q a.ref)) (net (u ∷ []) (port j)) (net [] r) through (net [] r, out, refl)) in
          let long : k + (m + 1) ≡ suc (k + m) = omega arith in
          none_own s r (k + m, subst (λ z. Chain (needs d s) z (net [] r) (net [] r)) long back)

      by_standing : (q : Path) (u : ℕ) → a.path ≡ q ++ u ∷ [] → Standing d s u → ⊥
      by_standing q u is (module_of t named there) =
          by_leaving q u t there (below t named) is
          (chain_leaves d s u t there (suc n) (net q a.ref) a (subst (λ p. Chain (needs d s) (suc n) (net p a.ref) a) is around))
      by_standing q u is (nothing absent) =
          no_needs_absent d s u absent q a.ref around.0 (subst (λ p. In around.0 (needs d s (net p a.ref))) is around.1)

      go : Split a.path → ⊥
      go (own is) = none_own s a.ref (n, subst (λ p. Chain (needs d s) (suc n) (net p a.ref) (net p a.ref)) is around)
      go (within q u is) = by_standing q u is (standing d s u)

  pub no_cycle_anywhere : HasNoRecursion d → (s : Name) → HasNoCycle d s
  no_cycle_anywhere finite s = by_heights (calls d) (HasNoCycle d) none_step (call_heights d finite) s
