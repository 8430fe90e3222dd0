-- Where no module is within itself, the nets that need others stand in a list.
use Rattle.std.proofs.Common.{◌≡◌, ◌⊎◌, ℕ, zero, suc, ◌+◌, ◌<◌, ◌≤◌, Bool, true, false, cond, List, [], ◌∷◌, ◌++◌, length, map, take, flat_map, slice_get, is_some, Option, Some, None, refl, sym, ap}
use Rattle.std.proofs.Common.{subst, ◌∙◌, inl, inr, arith, option_and_then}
use Rattle.std.proofs.lemmas.List.{length-map}
use Rattle.std.proofs.lemmas.Option.{slice_get_within}
use Rattle.std.specs.Cmp.Lexicographic.{same_text}
use Rattle.wiring.specs.Wiring.{In, Chain, IsWithin}
use Rattle.wiring.proofs.Options.{and_then_some, option_map_some}
use Rattle.wiring.proofs.Members.{In-append_left, In-append_right, In-map, In-flat_map}
use Rattle.wiring.proofs.Chains.{Chain-append, Chain-le}
use Rattle.wiring.proofs.Heights.{HasHeights-acyclic, IsAcyclic-heights, settles}
use Rattle.bits_core.specs.Word.{Word}
use Rattle.hw_model.specs.Types.{Name, HwType, width}
use Rattle.hw_model.specs.Kinds.{Instance}
use Rattle.hw_model.specs.Design.{Ref, Port, OpResult, Op, Module, Design, same_name, find_module, instance_in, register_form, result_type, output_refs, callee}
use Rattle.hw_model.specs.Design.Ref.{port, result, undefined}
use Rattle.hw_model.specs.Flat.{Path, Net, net, instances, module_at, base, body_state, state, input_width, port_ref, operand_for, input_count, input_of, copy_of, joined_ref, joined_at, given_ref, held_of, made_of}
use Rattle.hw_model.specs.Flat.Source.{nowhere, input}
use Rattle.hw_model.specs.Meaning.{needs_of, needs, value, HasNoCycle, HasHeights, machine}
use Rattle.hw_model.specs.Machine.{SettlesOnce}
use Rattle.hw_model.specs.Sound.{body_of, ports_of}
use Rattle.hw_model.specs.Hierarchy.{callee_symbols, called_by, calls, HasNoRecursion}
use Rattle.hw_model.proofs.Sorts.{Sort, sort_of}
use Rattle.hw_model.proofs.Sorts.Sort.{a_register, an_instance, an_output, a_made}
use Rattle.hw_model.proofs.Paths.{input_ports, output_of, op_in, result_in, result_here}
use Rattle.hw_model.proofs.NetWidths.{chosen_instance}

-- ---- symbols

-- a module that is found stands in the design, under that symbol
pub module_found : (d : Design) (s : Name) (m : Module) → find_module d s ≡ Some m → In s (map (λ (x : Module). x.symbol) d)
module_found [] s m is = cc
module_found (x ∷ d) s m is = go (same_name x.symbol s) refl is (module_found d s m)
  where
    go : (b : Bool) → same_name x.symbol s ≡ b → cond b (Some x) (find_module d s) ≡ Some m
        → (find_module d s ≡ Some m → In s (map (λ (y : Module). y.symbol) d)) → In s (x.symbol ∷ map (λ (y : Module). y.symbol) d)
    go true same found rest = inl (sym (same_text x.symbol s (sym same)))
    go false same found rest = inr (rest found)

pub calls_within : (d : Design) → IsWithin (calls d) (map (λ (m : Module). m.symbol) d)
calls_within d a b need = go (find_module d a) refl need
  where
    go : (o : Option Module) → find_module d a ≡ o → In b (callee_symbols (body_of o)) → In a (map (λ (m : Module). m.symbol) d)
    go None is here = absurd here
    go (Some m) is here = module_found d a m is

-- an instance's module is called
called_instance : (os : List Op) (u : ℕ) (o : Op) (i : Instance) → slice_get (instances os) u ≡ Some o → instance_in o.kind ≡ Some i → In i.symbol (callee_symbols os)
called_instance [] u o i is inst = cc
called_instance (y ∷ ys) u o i is inst = go (sort_of y.kind) u is (called_instance ys)
  where
    go : Sort y.kind → (u : ℕ) → slice_get (instances (y ∷ ys)) u ≡ Some o
        → ((u : ℕ) (o : Op) (i : Instance) → slice_get (instances ys) u ≡ Some o → instance_in o.kind ≡ Some i → In i.symbol (callee_symbols ys))
        → In i.symbol (callee_symbols (y ∷ ys))
    go (a_register f r n x) u is rest = In-append_right i.symbol (called_by (instance_in y.kind)) (callee_symbols ys) (rest u o i (simp n at is) inst)
    go (an_instance z r n x) zero is rest =
        let e : Some y ≡ Some o = simp n at is in
        let same : y ≡ o = cc in
        let kind : instance_in y.kind ≡ Some i = ap (λ w. instance_in w.kind) same ∙ inst in
        In-append_left i.symbol (called_by (instance_in y.kind)) (callee_symbols ys) (simp kind (inl refl))
    go (an_instance z r n x) (suc u) is rest = In-append_right i.symbol (called_by (instance_in y.kind)) (callee_symbols ys) (rest u o i (simp n at is) inst)
    go (an_output r n x) u is rest = In-append_right i.symbol (called_by (instance_in y.kind)) (callee_symbols ys) (rest u o i (simp n at is) inst)
    go (a_made r n x) u is rest = In-append_right i.symbol (called_by (instance_in y.kind)) (callee_symbols ys) (rest u o i (simp n at is) inst)

-- ---- paths

module _ (d : Design) (top : Name) where
  -- a path to a module is a chain of calls
  pub path_chain : (p : Path) (m : Module) → module_at d top p ≡ Some m → (s : Name) × Chain (calls d) (length p) top s × (find_module d s ≡ Some m)
  path_chain [] m is = (top, refl, is)
  path_chain (u ∷ p) m is =
      let outer = and_then_some (module_at d top p) (λ (x : Module). option_and_then (callee d) (slice_get (instances x.body) u)) is in
      let inner = and_then_some (slice_get (instances outer.0.body) u) (callee d) outer.2 in
      let named = and_then_some (instance_in inner.0.kind) (λ (i : Instance). find_module d i.symbol) inner.2 in
      let before = path_chain p outer.0 outer.1 in
      let need : In named.0.symbol (calls d before.0) =
      subst (λ o. In named.0.symbol (callee_symbols (body_of o))) (sym before.2) (called_instance outer.0.body u inner.0 named.0 inner.1 named.1) in
      let longer : Chain (calls d) (length p + 1) top named.0.symbol =
      Chain-append (calls d) (length p) 1 top before.0 named.0.symbol before.1 (named.0.symbol, need, refl) in
      let size : length p + 1 ≡ suc (length p) = omega arith in
      (named.0.symbol, subst (λ n. Chain (calls d) n top named.0.symbol) size longer, named.2)

  path_short : HasNoRecursion d → (p : Path) (m : Module) → module_at d top p ≡ Some m → length p ≤ length d
  path_short acyclic p m is =
      let chain = path_chain p m is in
      let bound : length p ≤ length (map (λ (x : Module). x.symbol) d) =
      Chain-le (calls d) (map (λ (x : Module). x.symbol) d) (calls_within d) acyclic (length p) top chain.0 chain.1 in
      subst (λ n. length p ≤ n) (length-map d (λ (x : Module). x.symbol)) bound

  abbrev upto : ℕ → List ℕ
  upto zero = []
  upto (suc n) = n ∷ upto n

  In-upto : (n j : ℕ) → j < n → In j (upto n)
  In-upto zero j below = absurd (omega arith)
  In-upto (suc n) j below = go (grind arith) (In-upto n j)
    where
      go : (j ≡ n) ⊎ (j < n) → (j < n → In j (upto n)) → In j (upto (suc n))
      go (inl same) rest = inl same
      go (inr lower) rest = inr (rest lower)

  -- one instance further along a path
  abbrev further : Path → List Path
  further p = map (λ u. u ∷ p) (upto (length (instances (body_of (module_at d top p)))))

  -- the paths of at most n instances
  abbrev paths : ℕ → List Path
  paths zero = [] ∷ []
  paths (suc n) = paths n ++ flat_map further (paths n)

  In-paths_top : (n : ℕ) → In [] (paths n)
  In-paths_top zero = inl refl
  In-paths_top (suc n) = In-append_left [] (paths n) (flat_map further (paths n)) (In-paths_top n)

  In-paths : (n : ℕ) (p : Path) (m : Module) → length p ≤ n → module_at d top p ≡ Some m → In p (paths n)
  In-paths n [] m short is = In-paths_top n
  In-paths zero (u ∷ p) m short is = absurd (omega arith)
  In-paths (suc n) (u ∷ p) m short is =
      let outer = and_then_some (module_at d top p) (λ (x : Module). option_and_then (callee d) (slice_get (instances x.body) u)) is in
      let inner = and_then_some (slice_get (instances outer.0.body) u) (callee d) outer.2 in
      let below : u < length (instances (body_of (module_at d top p))) =
      slice_get_within (instances (body_of (module_at d top p))) u inner.0
      (ap (λ o. slice_get (instances (body_of o)) u) outer.1 ∙ inner.1) in
      In-append_right (u ∷ p) (paths n) (flat_map further (paths n))
      (In-flat_map further p (paths n) (u ∷ p) (In-paths n p outer.0 (omega arith) outer.1)
      (In-map (λ w. w ∷ p) u (upto (length (instances (body_of (module_at d top p))))) (In-upto (length (instances (body_of (module_at d top p)))) u below)))

  -- ---- nets

  -- more than the results of an operation that need others
  abbrev result_count : Option Op → ℕ
  result_count None = 0
  result_count (Some o) = length o.results + length (output_refs (body_of (callee d o)))

  abbrev results_at : Path → ℕ → List Net
  results_at p i = map (λ k. net p (result i k)) (upto (result_count (slice_get (body_of (module_at d top p)) i)))

  abbrev ports_at : Path → List Net
  ports_at p = map (λ j. net p (port j)) (upto (length (ports_of (module_at d top p))))

  abbrev nets_at : Path → List Net
  nets_at p = ports_at p ++ flat_map (results_at p) (upto (length (body_of (module_at d top p))))

  abbrev pub all_nets : List Net
  all_nets = flat_map nets_at (paths (length d))

  module _ (acyclic : HasNoRecursion d) where
    at_path : (p : Path) (m : Module) (a : Net) → module_at d top p ≡ Some m → In a (nets_at p) → In a all_nets
    at_path p m a is here = In-flat_map nets_at p (paths (length d)) a (In-paths (length d) p m (path_short acyclic p m is) is) here

    -- a port of a module that is there
    port_within : (p : Path) (m : Module) (j : ℕ) → module_at d top p ≡ Some m → j < length m.ports → In (net p (port j)) all_nets
    port_within p m j is below =
        at_path p m (net p (port j)) is
        (In-append_left (net p (port j)) (ports_at p) (flat_map (results_at p) (upto (length (body_of (module_at d top p)))))
        (In-map (λ i. net p (port i)) j (upto (length (ports_of (module_at d top p))))
        (In-upto (length (ports_of (module_at d top p))) j (subst (λ o. j < length (ports_of o)) (sym is) below))))

    result_within : (p : Path) (m : Module) (i k : ℕ) (o : Op) → module_at d top p ≡ Some m → slice_get m.body i ≡ Some o
        → k < length o.results + length (output_refs (body_of (callee d o))) → In (net p (result i k)) all_nets
    result_within p m i k o is there below =
        let here : slice_get (body_of (module_at d top p)) i ≡ Some o = ap (λ x. slice_get (body_of x) i) is ∙ there in
        at_path p m (net p (result i k)) is
        (In-append_right (net p (result i k)) (ports_at p) (flat_map (results_at p) (upto (length (body_of (module_at d top p)))))
        (In-flat_map (results_at p) i (upto (length (body_of (module_at d top p)))) (net p (result i k))
        (In-upto (length (body_of (module_at d top p))) i (slice_get_within (body_of (module_at d top p)) i o here))
        (In-map (λ n. net p (result i n)) k (upto (result_count (slice_get (body_of (module_at d top p)) i)))
        (In-upto (result_count (slice_get (body_of (module_at d top p)) i)) k (subst (λ x. k < result_count x) (sym here) below)))))

    no_needs_input : (x : Option Port) (start : ℕ) → needs_of (input_of x start) ≡ []
    no_needs_input None start = refl
    no_needs_input (Some q) start = go q.is_output
      where
        go : (b : Bool) → needs_of (cond b nowhere (input start (width q.type))) ≡ []
        go true = refl
        go false = refl

    copied : (p : Path) (x : Option Ref) (b : Net) → In b (needs_of (copy_of p x)) → (r : Ref) × (x ≡ Some r)
    copied p None b here = absurd here
    copied p (Some r) b here = (r, refl)

    port_listed : (p : Path) (j : ℕ) (b : Net) → In b (needs d top (net p (port j))) → In (net p (port j)) all_nets
    port_listed [] j b need =
        let none : needs d top (net [] (port j)) ≡ [] =
        ap needs_of (input_ports j (find_module d top)) ∙ no_needs_input (slice_get (ports_of (find_module d top)) j) (input_width (take j (ports_of (find_module d top)))) in
        absurd (subst (In b) none need)
    port_listed (u ∷ p) j b need =
        let joins = copied p (option_and_then (joined_at d u j) (module_at d top p)) b need in
        let outer = and_then_some (module_at d top p) (joined_at d u j) joins.1 in
        let inner = and_then_some (slice_get (instances outer.0.body) u) (joined_ref d j) outer.2 in
        let inside = and_then_some (callee d inner.0) (λ (c : Module). port_ref c.ports inner.0.operands j) inner.2 in
        let there : module_at d top (u ∷ p) ≡ Some inside.0 =
        ap (λ o. option_and_then (λ (x : Module). option_and_then (callee d) (slice_get (instances x.body) u)) o) outer.1
        ∙ ap (λ x. option_and_then (callee d) x) inner.1 ∙ inside.1 in
        port_within (u ∷ p) inside.0 j there (within inside.0 inner.0 (slice_get inside.0.ports j) refl inside.2)
      where
        within : (c : Module) (o : Op) (x : Option Port) → slice_get c.ports j ≡ x → {r : Ref} → operand_for x o.operands (input_count (take j c.ports)) ≡ Some r → j < length c.ports
        within c o None is joins = cc
        within c o (Some q) is joins = slice_get_within c.ports j q is

    result_listed : (p : Path) (i k : ℕ) (b : Net) → In b (needs d top (net p (result i k))) → In (net p (result i k)) all_nets
    result_listed p i k b need = by_module (module_at d top p) refl
        (subst (λ s. In b (needs_of s)) (result_here d top p i k) need)
      where
        by_sort : (m : Module) → module_at d top p ≡ Some m → (os : List Op) (o : Op) → slice_get m.body i ≡ Some o → Sort o.kind → In b (needs_of (op_in d top p os i k o))
            → In (net p (result i k)) all_nets
        by_sort m is os o there (a_register f r n u) here = by_type (result_type o k) (simp r at here)
          where
            by_type : (t : Option HwType) → In b (needs_of (held_of (base d top p + body_state (state d) (take i os)) t)) → In (net p (result i k)) all_nets
            by_type None never = absurd never
            by_type (Some t) never = absurd never
        by_sort m is os o there (an_instance x r n u) here =
            let need' : In b (needs_of (copy_of (length (instances (take i os)) ∷ p) (given_ref d k o))) =
            subst (λ s. In b (needs_of s)) (chosen_instance (is_some (register_form o.kind)) (is_some (instance_in o.kind)) _ _ _ (ap is_some r) (ap is_some n)) here in
            let gives = copied (length (instances (take i os)) ∷ p) (given_ref d k o) b need' in
            let given : slice_get (output_refs (body_of (callee d o))) k ≡ Some gives.0 = sym (output_of (callee d o) k) ∙ gives.1 in
            let below : k < length (output_refs (body_of (callee d o))) = slice_get_within (output_refs (body_of (callee d o))) k gives.0 given in
            result_within p m i k o is there (omega arith)
        by_sort m is os o there (an_output r n u) here = let never : ⊥ = simp (r, n, u) at here in absurd never
        by_sort m is os o there (a_made r n u) here = by_type (result_type o k) refl (simp (r, n, u) at here)
          where
            by_type : (t : Option HwType) → result_type o k ≡ t → In b (needs_of (made_of p o k t)) → In (net p (result i k)) all_nets
            by_type None typed never = absurd never
            by_type (Some t) typed need' =
                let found = option_map_some (λ (x : OpResult). x.type) (slice_get o.results k) typed in
                let below : k < length o.results = slice_get_within o.results k found.0 found.1 in
                result_within p m i k o is there (omega arith)

        by_op : (m : Module) → module_at d top p ≡ Some m → (os : List Op) (x : Option Op) → slice_get m.body i ≡ x → In b (needs_of (result_in d top p os i k x)) → In (net p (result i k)) all_nets
        by_op m is os None there never = absurd never
        by_op m is os (Some o) there here = by_sort m is os o there (sort_of o.kind) here

        by_module : (x : Option Module) → module_at d top p ≡ x → In b (needs_of (result_in d top p (body_of (module_at d top p)) i k (slice_get (body_of (module_at d top p)) i)))
            → In (net p (result i k)) all_nets
        by_module None is here = absurd (subst (λ o. In b (needs_of (result_in d top p (body_of o) i k (slice_get (body_of o) i)))) is here)
        by_module (Some m) is here =
            by_op m is (body_of (module_at d top p)) (slice_get m.body i) refl
            (subst (λ o. In b (needs_of (result_in d top p (body_of (module_at d top p)) i k (slice_get (body_of o) i)))) is here)

    -- the nets that need others
    pub nets_within : IsWithin (needs d top) all_nets
    nets_within a b need = go a.path a.ref need
      where
        go : (p : Path) (r : Ref) → In b (needs d top (net p r)) → In (net p r) all_nets
        go p (port j) here = port_listed p j b here
        go p (result i k) here = result_listed p i k b here
        go p undefined never = absurd never

-- ---- the laws

-- where no module is within itself and no net needs itself, the nets have heights
pub heights_from_no_cycle : (d : Design) (top : Name) → HasNoRecursion d → HasNoCycle d top → HasHeights d top
heights_from_no_cycle d top finite acyclic = HasHeights-acyclic (needs d top) (all_nets d top) (nets_within d top finite) acyclic

pub no_cycle_from_heights : (d : Design) (top : Name) → HasHeights d top → HasNoCycle d top
no_cycle_from_heights d top = IsAcyclic-heights (needs d top)

-- exactly one map is settled
pub settles_with_heights : (d : Design) (top : Name) → HasHeights d top → (inputs content : Word) → SettlesOnce (machine d top) inputs content
settles_with_heights d top heights inputs content = settles (needs d top) (value d top inputs content) heights

pub settles_without_cycle : (d : Design) (top : Name) → HasNoRecursion d → HasNoCycle d top → (inputs content : Word) → SettlesOnce (machine d top) inputs content
settles_without_cycle d top finite acyclic = settles_with_heights d top (heights_from_no_cycle d top finite acyclic)
