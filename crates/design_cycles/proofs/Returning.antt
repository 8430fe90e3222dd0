-- Instances that lie on a cycle of modules, by numbers.
use Rattle.std.proofs.Common.{◌≡◌, ◌⊎◌, ◌↔◌, IsTrue, ℕ, zero, suc, ◌+◌, ◌<◌, ◌≤◌, Bool, true, false, List, [], ◌∷◌, length, map, get_or, slice_get, MatchBool, Option, Some, None, option_map, refl}
use Rattle.std.proofs.Common.{sym, ap, subst, ◌∙◌, inl, inr, arith, eqb, eq-eqb}
use Rattle.std.proofs.lemmas.Bool.{eqb-true, false≢true}
use Rattle.std.proofs.lemmas.Option.{slice_get-map, slice_get_within, slice_get-get_or}
use Rattle.std.proofs.lemmas.List.{length-map}
use Rattle.wiring.specs.Wiring.{In, Chain}
use Rattle.wiring.proofs.Lists.{map-map}
use Rattle.wiring.proofs.Members.{In-append_cases, In-slice_get}
use Rattle.hw_model.specs.Types.{Name}
use Rattle.hw_model.specs.Kinds.{Instance}
use Rattle.hw_model.specs.Design.{Op, Module, Design, find_module, instance_in}
use Rattle.hw_model.specs.Sound.{body_of}
use Rattle.hw_model.specs.Hierarchy.{callee_symbols, called_by, calls, HasNoRecursion}
use Rattle.hw_model.proofs.Gone.{called_In}
use Rattle.ir_store.specs.Symbols.{symbol_position}
use Rattle.ir_store.specs.declared.operation.OpId.{OpId}
use Rattle.ir_store.specs.BodyOps.{ids_in}
use Rattle.ir_store.specs.Bodies.{op_id}
use Rattle.ir_store.specs.Numbered.{ops_by_position}
use Rattle.ir_store.specs.Designs.{StoredModule, numbered_module}
use Rattle.ir_store.proofs.StoredModules.{stored_at}
use Rattle.design_cycles.specs.Positions.{IsFirstOp, IsFirst, ids_at, ids_of_module}
use Rattle.design_cycles.specs.Asked.{HasDistinctSymbols, Returns, IsRecursiveAt}
use Rattle.design_cycles.specs.Calls.{symbols_in, call_lists, callee_number, IsCalleeAt, IsFoundAt}
use Rattle.graphs.specs.Graphs.{edges, has_mark, AreReached}
use Rattle.design_cycles.specs.Graphs.{LeadsTo}
use Rattle.graphs.specs.Orders.{IsOrder}
use Rattle.design_cycles.proofs.Callees.{number, call_edges, position_found, number_found, In-numbers, chain_numbers, found_at, chain_symbols}
use Rattle.graphs.proofs.Placing.{placed_no_cycle}

-- an instance whose module is called
pub from_called : (os : List Op) (s : Name) → In s (callee_symbols os) → (j : ℕ) × (o : Op) × (i : Instance) × (slice_get os j ≡ Some o) × (instance_in o.kind ≡ Some i) × (i.symbol ≡ s)
from_called [] s here = absurd here
from_called (o ∷ os) s here = go (In-append_cases s (called_by (instance_in o.kind)) (callee_symbols os) here) (from_called os s)
  where
    first : (x : Option Instance) → instance_in o.kind ≡ x → In s (called_by x) → (j : ℕ) × (p : Op) × (i : Instance) × (slice_get (o ∷ os) j ≡ Some p) × (instance_in p.kind ≡ Some i) × (i.symbol ≡ s)
    first None is never = absurd never
    first (Some i) is (inl same) = (0, o, i, refl, is, sym same)
    first (Some i) is (inr never) = absurd never

    go : In s (called_by (instance_in o.kind)) ⊎ In s (callee_symbols os)
        → (In s (callee_symbols os) → (j : ℕ) × (p : Op) × (i : Instance) × (slice_get os j ≡ Some p) × (instance_in p.kind ≡ Some i) × (i.symbol ≡ s))
        → (j : ℕ) × (p : Op) × (i : Instance) × (slice_get (o ∷ os) j ≡ Some p) × (instance_in p.kind ≡ Some i) × (i.symbol ≡ s)
    go (inl here) rest = first (instance_in o.kind) refl here
    go (inr here) rest = let found = rest here in (suc found.0, found.1, found.2, found.3, found.4, found.5)

module _ (d : Design) (distinct : HasDistinctSymbols d) where
  returns_chain : (s t : Name) → Returns d s t → (k : ℕ) × Chain (calls d) k s t
  returns_chain s t (inl same) = (0, same)
  returns_chain s t (inr (k, chain)) = (suc k, chain)

  chain_returns : (k : ℕ) (s t : Name) → Chain (calls d) k s t → Returns d s t
  chain_returns zero s t same = inl same
  chain_returns (suc k) s t chain = inr (k, chain)

  -- what a recursive instance calls has a number, from which a chain leads back
  record Back (i : ℕ) (s : Name) : Type 0 where
    pub number_of : ℕ
    pub is : number d s ≡ Some number_of
    pub steps : ℕ
    pub chain : Chain (edges (call_lists d)) steps number_of i

  back_of : (i : ℕ) (m : Module) (s : Name) → slice_get d i ≡ Some m → Returns d s m.symbol → Back i s
  back_of i m s at returns =
      let chain = returns_chain s m.symbol returns in
      let own = found_at d distinct i m at in
      let has = by_chain chain.0 chain.1 in
      record { number_of = has.0; is = has.1; steps = chain.0; chain = chain_numbers d chain.0 s m.symbol has.0 i chain.1 has.1 own.0 }
    where
      found_number : (c : Name) → In c (calls d s) → (k : ℕ) × (number d s ≡ Some k)
      found_number c need = go (find_module d s) refl need
        where
          go : (o : Option Module) → find_module d s ≡ o → In c (callee_symbols (body_of o)) → (k : ℕ) × (number d s ≡ Some k)
          go None is never = absurd never
          go (Some n) is here = number_found d s n is

      by_chain : (k : ℕ) → Chain (calls d) k s m.symbol → (j : ℕ) × (number d s ≡ Some j)
      by_chain zero same = (i, ap (number d) same ∙ (found_at d distinct i m at).0)
      by_chain (suc k) (c, need, chain) = found_number c need

  -- a recursive instance, as one knows its position
  recursive_back : (i j : ℕ) (r : IsRecursiveAt d i j) → Back i r.instance_there.symbol
  recursive_back i j r = back_of i r.module_there r.instance_there.symbol r.has_module r.returns

  callee_of_recursive : (i j : ℕ) (m : Module) (n : Option ℕ) → slice_get d i ≡ Some m → IsCalleeAt (symbols_in d) m.body j n → (r : IsRecursiveAt d i j) → n ≡ number d r.instance_there.symbol
  callee_of_recursive i j m n at callee r =
      let same_module : Some r.module_there ≡ Some m = sym r.has_module ∙ at in
      let module_is : r.module_there ≡ m = cc in
      let same_op : Some callee.op_there ≡ Some r.op_there = sym callee.has_op ∙ ap (λ (x : Module). slice_get x.body j) (sym module_is) ∙ r.has_op in
      let op_is : callee.op_there ≡ r.op_there = cc in
      callee.number_is ∙ ap (λ (o : Op). callee_number (symbols_in d) (instance_in o.kind)) op_is ∙ ap (callee_number (symbols_in d)) r.is_instance

  pub leads_recursive : (i j : ℕ) (m : Module) (n : Option ℕ) → slice_get d i ≡ Some m → IsCalleeAt (symbols_in d) m.body j n → LeadsTo (call_lists d) n i → IsRecursiveAt d i j
  leads_recursive i j m n at callee leads = by_instance (instance_in callee.op_there.kind) refl (sym callee.number_is ∙ leads.1)
    where
      from : (x : Instance) → instance_in callee.op_there.kind ≡ Some x → symbol_position x.symbol (symbols_in d) ≡ Some leads.0 → (k : ℕ) → Chain (edges (call_lists d)) k leads.0 i → IsRecursiveAt d i j
      from x inst position k chain =
          let there = position_found d x.symbol leads.0 position in
          let led : Chain (calls d) k there.0.symbol m.symbol = chain_symbols d distinct k leads.0 i there.0 m there.1 at chain in
          record {
            module_there = m;
            op_there = callee.op_there;
            instance_there = x;
            has_module = at;
            has_op = callee.has_op;
            is_instance = inst;
            returns = chain_returns k x.symbol m.symbol (subst (λ z. Chain (calls d) k z m.symbol) there.2 led);
          }

      by_instance : (x : Option Instance) → instance_in callee.op_there.kind ≡ x → callee_number (symbols_in d) x ≡ Some leads.0 → IsRecursiveAt d i j
      by_instance None none is = cc
      by_instance (Some x) inst is = from x inst is leads.2.0 leads.2.1

  pub recursive_leads : (i j : ℕ) (m : Module) (n : Option ℕ) → slice_get d i ≡ Some m → IsCalleeAt (symbols_in d) m.body j n → IsRecursiveAt d i j → LeadsTo (call_lists d) n i
  recursive_leads i j m n at callee r =
      let back = recursive_back i j r in
      (back.number_of, callee_of_recursive i j m n at callee r ∙ back.is, (back.steps, back.chain))

  -- a module that has a position in an order has no such instance
  pub not_placed : (placed : List Bool) (nodes : List ℕ) → IsOrder (call_lists d) placed nodes → (i j : ℕ) → has_mark placed i ≡ true → IsRecursiveAt d i j → ⊥
  not_placed placed nodes order i j mark r =
      let back = recursive_back i j r in
      let edge : In back.number_of (edges (call_lists d) i) =
      subst (In back.number_of) (sym (call_edges d i r.module_there r.has_module))
      (In-numbers (symbols_in d) r.instance_there.symbol back.number_of (callee_symbols r.module_there.body)
      (called_In r.module_there.body r.op_there r.instance_there (In-slice_get r.op_there r.module_there.body j r.has_op) r.is_instance) back.is) in
      placed_no_cycle (call_lists d) placed nodes order i mark (back.steps, (back.number_of, edge, back.chain))

  -- where there is no such instance no module is within itself
  pub none_recursive : ((i j : ℕ) → IsRecursiveAt d i j → ⊥) → HasNoRecursion d
  none_recursive none s (k, (c, need, chain)) = go (find_module d s) refl need
    where
      go : (o : Option Module) → find_module d s ≡ o → In c (callee_symbols (body_of o)) → ⊥
      go None is never = absurd never
      go (Some m) is here =
          let at = number_found d s m is in
          let there = position_found d s at.0 at.1 in
          let same : Some there.0 ≡ Some m = sym there.3 ∙ is in
          let module_is : there.0 ≡ m = cc in
          let op = from_called m.body c here in
          let symbol : there.0.symbol ≡ s = there.2 in
          let own : m.symbol ≡ s = ap (λ (x : Module). x.symbol) (sym module_is) ∙ symbol in
          none at.0 op.0 (record {
            module_there = m;
            op_there = op.1;
            instance_there = op.2;
            has_module = there.1 ∙ same;
            has_op = op.3;
            is_instance = op.4;
            returns = chain_returns k op.2.symbol m.symbol (subst (λ z. Chain (calls d) k z m.symbol) (sym op.5) (subst (λ z. Chain (calls d) k c z) (sym own) chain));
          })

-- ---- whether one leads to another, by the marks of what it reaches

pub marks_lead : (lists : List (List ℕ)) (a v : ℕ) (marks : List Bool) → v < length lists → AreReached lists (a ∷ []) marks
    → (b : Bool) → b ≡ has_mark marks v → MatchBool b (LeadsTo lists (Some a) v) (LeadsTo lists (Some a) v → ⊥)
marks_lead lists a v marks below reached true is = from (reached.sound v (sym is))
  where
    from : ((c k : ℕ) × In c (a ∷ []) × Chain (edges lists) k c v) → LeadsTo lists (Some a) v
    from (c, k, inl same, chain) = (a, refl, (k, subst (λ z. Chain (edges lists) k z v) same chain))
    from (c, k, inr never, chain) = absurd never
marks_lead lists a v marks below reached false is = λ leads.
    let same : leads.0 ≡ a = let e : Some a ≡ Some leads.0 = leads.1 in cc in
    let mark : has_mark marks v ≡ true = reached.complete a leads.2.0 v (inl refl) (subst (λ z. Chain (edges lists) leads.2.0 z v) same leads.2.1) below in
    cc

pub none_leads : (lists : List (List ℕ)) (v : ℕ) → LeadsTo lists None v → ⊥
none_leads lists v leads = let e : None ≡ Some leads.0 = leads.1 in cc

-- ---- the loops

pub symbols_stored : (modules : List StoredModule) → map (λ (x : StoredModule). x.symbol) modules ≡ symbols_in (map numbered_module modules)
symbols_stored modules = sym (map-map (λ (x : Module). x.symbol) numbered_module modules)

module _ (modules : List StoredModule) (distinct : HasDistinctSymbols (map numbered_module modules)) (i : ℕ) (m : StoredModule) (at : Some m ≡ slice_get modules i) (j : ℕ) (n : Option ℕ)
    (callee : IsCalleeAt (map (λ (x : StoredModule). x.symbol) modules) (ops_by_position m.ops) j n) where
  abbrev design : Design
  design = map numbered_module modules

  callee_here : IsCalleeAt (symbols_in design) (ops_by_position m.ops) j n
  callee_here = subst (λ symbols. IsCalleeAt symbols (ops_by_position m.ops) j n) (symbols_stored modules) callee

  pub position_returns : LeadsTo (call_lists design) n i → IsRecursiveAt design i j
  position_returns leads = leads_recursive design distinct i j (numbered_module m) n (stored_at modules i m at) callee_here leads

  pub position_not : (LeadsTo (call_lists design) n i → ⊥) → IsRecursiveAt design i j → ⊥
  position_not not_leads r = not_leads (recursive_leads design distinct i j (numbered_module m) n (stored_at modules i m at) callee_here r)

-- what holds of no position before holds of none with one more
pub none_more : (P : ℕ → Type 0) (j : ℕ) → ((k : ℕ) → k < j → P k → ⊥) → (P j → ⊥) → (k : ℕ) → k < j + 1 → P k → ⊥
none_more P j before here k below holds = go (grind arith)
  where
    go : (k < j) ⊎ (k ≡ j) → ⊥
    go (inl lower) = before k lower holds
    go (inr same) = here (subst P same holds)

-- the first
pub first_found : (P : ℕ → Type 0) (ids : List ℕ) (j : ℕ) (op : OpId) → ((k : ℕ) → k < j → P k → ⊥) → P j → slice_get ids j ≡ Some op.index → IsFirstOp P ids op
first_found P ids j op before holds id = record { position = j; holds = holds; first = λ k h. not_lower k h; has_id = id }
  where
    not_lower : (k : ℕ) → P k → j ≤ k
    not_lower k h = go (grind arith)
      where
        go : (k < j) ⊎ (j ≤ k) → j ≤ k
        go (inl lower) = absurd (before k lower h)
        go (inr bound) = bound

-- a recursive instance stands within its module's operations
pub recursive_within : (modules : List StoredModule) (i : ℕ) (m : StoredModule) → Some m ≡ slice_get modules i → (j : ℕ) → IsRecursiveAt (map numbered_module modules) i j → j < length (ids_in m.ops)
recursive_within modules i m at j r =
    let same : Some r.module_there ≡ Some (numbered_module m) = sym r.has_module ∙ stored_at modules i m at in
    let is : r.module_there ≡ numbered_module m = cc in
    let bound : j < length (ops_by_position m.ops) = slice_get_within (ops_by_position m.ops) j r.op_there (ap (λ (x : Module). slice_get x.body j) (sym is) ∙ r.has_op) in
    let first : length (ops_by_position m.ops) ≡ length m.ops = length-map m.ops _ in
    let second : length (ids_in m.ops) ≡ length m.ops = length-map m.ops _ in
    omega arith

-- a module with such an instance is one of the design
pub recursive_module : (modules : List StoredModule) (i j : ℕ) → IsRecursiveAt (map numbered_module modules) i j → i < length modules
recursive_module modules i j r =
    let bound : i < length (map numbered_module modules) = slice_get_within (map numbered_module modules) i r.module_there r.has_module in
    let size : length (map numbered_module modules) ≡ length modules = length-map modules numbered_module in
    omega arith

-- the id of a position
pub id_at_position : (modules : List StoredModule) (i : ℕ) (m : StoredModule) (ids : List OpId) (j : ℕ) (op d : OpId) → Some m ≡ slice_get modules i → ids ≡ map op_id (ids_in m.ops)
    → j < length ids → op ≡ get_or ids j d → slice_get (ids_at modules i) j ≡ Some op.index
id_at_position modules i m ids j op d at all below is =
    let whole : ids_at modules i ≡ ids_in m.ops = ap ids_of_module (sym at) in
    let there : slice_get ids j ≡ Some op = slice_get-get_or ids j d below ∙ ap Some (sym is) in
    ap (λ xs. slice_get xs j) whole ∙ go (ids_in m.ops) j (ap (λ xs. slice_get xs j) (sym all) ∙ there)
  where
    go : (xs : List ℕ) (k : ℕ) → slice_get (map op_id xs) k ≡ Some op → slice_get xs k ≡ Some op.index
    go [] k at = cc
    go (x ∷ xs) zero at = let e : op_id x ≡ op = cc in ap (λ (y : OpId). Some y.index) e
    go (x ∷ xs) (suc k) at = go xs k at

-- one more module
pub no_module_more : (P : ℕ → ℕ → Type 0) (i : ℕ) → ((k : ℕ) → k < i → (j : ℕ) → P k j → ⊥) → ((j : ℕ) → P i j → ⊥) → (k : ℕ) → k < i + 1 → (j : ℕ) → P k j → ⊥
no_module_more P i before here k below j holds = go (grind arith)
  where
    go : (k < i) ⊎ (k ≡ i) → ⊥
    go (inl lower) = before k lower j holds
    go (inr same) = here j (subst (λ z. P z j) same holds)

-- the first position is in the first module where there is one
pub position_found_first : (modules : List StoredModule) (P : ℕ → ℕ → Type 0) (i : ℕ) (op : OpId) → ((k : ℕ) → k < i → (j : ℕ) → P k j → ⊥) → IsFirstOp (P i) (ids_at modules i) op
    → IsFirst modules P (record { «module» = i; op = op })
position_found_first modules P i op before found = record { found = found; earlier = λ k j holds. not_lower k j holds }
  where
    not_lower : (k j : ℕ) → P k j → i ≤ k
    not_lower k j holds = go (grind arith)
      where
        go : (k < i) ⊎ (i ≤ k) → i ≤ k
        go (inl lower) = absurd (before k lower j holds)
        go (inr bound) = bound

-- a module that is placed has none
pub placed_none : (modules : List StoredModule) → HasDistinctSymbols (map numbered_module modules) → (lists : List (List ℕ)) → lists ≡ call_lists (map numbered_module modules)
    → (placed : List Bool) (nodes : List ℕ) → IsOrder lists placed nodes → (i : ℕ) → i < length modules → (answer : Bool)
    → (IsTrue answer ↔ ((i < length placed) × (has_mark placed i ≡ false))) → answer ≡ false → (j : ℕ) → IsRecursiveAt (map numbered_module modules) i j → ⊥
placed_none modules distinct lists are placed nodes order i below answer says denied j r =
    not_placed (map numbered_module modules) distinct placed nodes (subst (λ ls. IsOrder ls placed nodes) are order) i j (mark (has_mark placed i) refl) r
  where
    mark : (b : Bool) → has_mark placed i ≡ b → has_mark placed i ≡ true
    mark true is = is
    mark false is =
        let size : length placed ≡ length lists = order.count in
        let size' : length lists ≡ length (call_lists (map numbered_module modules)) = ap length are in
        let size'' : length (call_lists (map numbered_module modules)) ≡ length (map numbered_module modules) = length-map (map numbered_module modules) _ in
        let size''' : length (map numbered_module modules) ≡ length modules = length-map modules numbered_module in
        let said : answer ≡ true = says.1 (omega arith, is) in
        cc

-- ---- symbols that differ

module _ (modules : List StoredModule) where
  stored_back : (i : ℕ) (m : Module) → slice_get (map numbered_module modules) i ≡ Some m → (s : StoredModule) × (slice_get modules i ≡ Some s) × (m ≡ numbered_module s)
  stored_back i m at = go (slice_get modules i) refl
    where
      go : (o : Option StoredModule) → slice_get modules i ≡ o → (s : StoredModule) × (slice_get modules i ≡ Some s) × (m ≡ numbered_module s)
      go None none = let e : None ≡ Some m = sym (ap (option_map numbered_module) none) ∙ sym (slice_get-map numbered_module modules i) ∙ at in cc
      go (Some s) is = let e : Some (numbered_module s) ≡ Some m = sym (ap (option_map numbered_module) is) ∙ sym (slice_get-map numbered_module modules i) ∙ at in (s, is, cc)

  pub distinct_found : ((i : ℕ) → i < length modules → IsFoundAt modules i) → HasDistinctSymbols (map numbered_module modules)
  distinct_found each i j m n at to same =
      let first = stored_back i m at in
      let second = stored_back j n to in
      let one : symbol_position m.symbol (map (λ (x : StoredModule). x.symbol) modules) ≡ Some i =
      ap (λ (x : Module). symbol_position x.symbol (map (λ (y : StoredModule). y.symbol) modules)) first.2 ∙ each i (slice_get_within modules i first.0 first.1) first.0 first.1 in
      let two : symbol_position n.symbol (map (λ (x : StoredModule). x.symbol) modules) ≡ Some j =
      ap (λ (x : Module). symbol_position x.symbol (map (λ (y : StoredModule). y.symbol) modules)) second.2 ∙ each j (slice_get_within modules j second.0 second.1) second.0 second.1 in
      let both : Some i ≡ Some j = sym one ∙ ap (λ z. symbol_position z (map (λ (x : StoredModule). x.symbol) modules)) same ∙ two in
      cc

  pub found_distinct : HasDistinctSymbols (map numbered_module modules) → (i : ℕ) → IsFoundAt modules i
  found_distinct distinct i m at =
      ap (symbol_position m.symbol) (symbols_stored modules)
      ∙ (found_at (map numbered_module modules) distinct i (numbered_module m) (stored_at modules i m (sym at))).0

module _ (modules : List StoredModule) (i : ℕ) (s : StoredModule) (at : Some s ≡ slice_get modules i) (text : Name) (is : text ≡ s.symbol) where
  abbrev symbols : List Name
  symbols = map (λ (x : StoredModule). x.symbol) modules

  found_position : IsFoundAt modules i → symbol_position text symbols ≡ Some i
  found_position found = ap (λ z. symbol_position z symbols) is ∙ found s (sym at)

  position_is_found : symbol_position text symbols ≡ Some i → IsFoundAt modules i
  position_is_found position m there =
      let same : Some s ≡ Some m = at ∙ there in
      let e : s ≡ m = cc in
      ap (λ (x : StoredModule). symbol_position x.symbol symbols) (sym e) ∙ ap (λ z. symbol_position z symbols) (sym is) ∙ position

  pub found_some : (first : ℕ) → Some first ≡ symbol_position text symbols → IsTrue (eqb first i) ↔ IsFoundAt modules i
  found_some first position = (
    λ same. position_is_found (sym position ∙ ap Some (eqb-true first i same)),
    λ found. (let e : Some first ≡ Some i = position ∙ found_position found in eq-eqb first i cc),
  )

  pub found_none : None ≡ symbol_position text symbols → IsTrue false ↔ IsFoundAt modules i
  found_none position = (λ never. absurd (false≢true never), λ found. (let e : None ≡ Some i = position ∙ found_position found in absurd (none_some e)))
    where
      none_some : None ≡ Some i → ⊥
      none_some e = cc

pub not_all_found : (modules : List StoredModule) (i : ℕ) (answer : Bool) → answer ≡ false → (IsTrue answer ↔ IsFoundAt modules i) → IsTrue false ↔ HasDistinctSymbols (map numbered_module modules)
not_all_found modules i answer denied says =
    (λ never. absurd (false≢true never), λ distinct. absurd (false≢true (sym denied ∙ says.1 (found_distinct modules distinct i))))

pub all_found : (modules : List StoredModule) (n : ℕ) → length modules ≤ n → ((i : ℕ) → i < n → IsFoundAt modules i) → IsTrue true ↔ HasDistinctSymbols (map numbered_module modules)
all_found modules n whole each = (λ said. distinct_found modules (λ i below. each i (omega arith)), λ distinct. refl)
