-- No net of a generated module depends on itself without a register between: nets have numbers that fall along needs.
use Rattle.std.proofs.Common.{◌≡◌, ◌⊎◌, ℕ, zero, suc, ◌+◌, ◌-◌, ◌*◌, ◌/◌, ◌<◌, ◌≤◌, Bool, true, false, cond, nat_lt, List, [], ◌∷◌, ◌++◌, length, take, slice_get, Option, Some, None, refl, sym, ap}
use Rattle.std.proofs.Common.{subst, ◌∙◌, inl, inr, arith, option_and_then}
use Rattle.std.proofs.lemmas.Bool.Decides.{nat_tests}
use Rattle.wiring.specs.Wiring.{In, FallsAlong}
use Rattle.wiring.proofs.Chains.{IsAcyclic-falling}
use Rattle.wiring.proofs.Members.{from_In-map, In-slice_get}
use Rattle.wiring.proofs.Options.{and_then_some}
use Rattle.hw_model.specs.Types.{Name, HwType}
use Rattle.hw_model.specs.Kinds.{Instance}
use Rattle.hw_model.specs.Design.{Ref, Op, Module, Design, find_module, instance_in, result_type, output_refs, callee}
use Rattle.hw_model.specs.Design.Ref.{port, result, undefined}
use Rattle.hw_model.specs.Flat.{Path, Net, net, instances, module_at, base, body_state, state, copy_of, joined_ref, joined_at, given_ref, held_of, made_of, port_ref}
use Rattle.hw_model.specs.Meaning.{needs_of, needs, HasNoCycle}
use Rattle.hw_model.specs.Sound.{body_of}
use Rattle.hw_model.proofs.Sorts.{Sort, sort_of}
use Rattle.hw_model.proofs.Sorts.Sort.{a_register, an_instance, an_output, a_made}
use Rattle.hw_model.proofs.Paths.{op_in, result_in, result_here}
use Rattle.hw_model.proofs.Gone.{from_In-instances}
use Rattle.design_cycles.specs.InOrder.{StandsBefore}
use Rattle.design_cycles.proofs.Inside.{copied, no_needs_port}
use Rattle.stored_form.specs.Bytes.{Each}
use Rattle.generator.specs.Draws.{state_after}
use Rattle.generator.specs.Generated.{generated_ports, module_symbol, instance_op, first_ops, last_ops, generated}
use Rattle.generator.proofs.FirstOps.{only_call, late_call, output_of}
use Rattle.generator.proofs.GeneratedModules.{made, found}

-- ---- operations take what stands before them

-- the operations, the first one at a position, take what stands before them
abbrev AreOrdered : ℕ → List Op → Type 0
AreOrdered j [] = Unit {0}
AreOrdered j (o ∷ os) = Each (StandsBefore j) o.operands × AreOrdered (suc j) os

ordered_at : (j : ℕ) (os : List Op) → AreOrdered j os → (i : ℕ) (o : Op) → slice_get os i ≡ Some o → Each (StandsBefore (j + i)) o.operands
ordered_at j [] all i o is = cc
ordered_at j (y ∷ os) all zero o is =
    let same : y ≡ o = cc in
    let at : j ≡ j + 0 = omega arith in
    subst (λ k. Each (StandsBefore k) o.operands) at (subst (λ (z : Op). Each (StandsBefore j) z.operands) same all.0)
ordered_at j (y ∷ os) all (suc i) o is =
    let at : suc j + i ≡ j + suc i = omega arith in
    subst (λ k. Each (StandsBefore k) o.operands) at (ordered_at (suc j) os all.1 i o is)

each_in : {A : Type 0} (P : A → Type 0) (xs : List A) (x : A) → Each P xs → In x xs → P x
each_in P [] x all here = absurd here
each_in P (y ∷ ys) x all (inl same) = subst P (sym same) all.0
each_in P (y ∷ ys) x all (inr here) = each_in P ys x all.1 here

ordered : (x k : ℕ) → AreOrdered 0 (first_ops x ++ last_ops k)
ordered x k = (tt, ((tt, (tt, tt)), ((omega arith, (omega arith, tt)), ((omega arith, (omega arith, tt)), ((omega arith, (tt, (tt, (omega arith, tt)))), last k)))))
  where
    last : (k : ℕ) → AreOrdered 5 (last_ops k)
    last zero = ((omega arith, (omega arith, tt)), ((omega arith, tt), tt))
    last (suc k) = ((tt, (tt, (omega arith, (omega arith, tt)))), ((omega arith, (omega arith, tt)), ((omega arith, tt), tt)))

pub before_op : (x k i : ℕ) (o : Op) (r : Ref) → slice_get (first_ops x ++ last_ops k) i ≡ Some o → In r o.operands → StandsBefore i r
before_op x k i o r there here =
    let at : 0 + i ≡ i = omega arith in
    subst (λ j. StandsBefore j r) at (each_in (StandsBefore (0 + i)) o.operands r (ordered_at 0 (first_ops x ++ last_ops k) (ordered x k) i o there) here)

-- ---- what the instance joins to the ports of its module

-- a port of another module
abbrev AtMost : ℕ → Ref → Type 0
AtMost n (port j) = Unit {0}
AtMost n (result i k) = i ≤ n
AtMost n undefined = Unit {0}

joined_low : (j : ℕ) (r : Ref) → port_ref generated_ports (port 0 ∷ port 1 ∷ result 4 0 ∷ result 3 0 ∷ []) j ≡ Some r → AtMost 4 r
joined_low zero r is = let same : port 0 ≡ r = cc in subst (AtMost 4) same tt
joined_low (suc zero) r is = let same : port 1 ≡ r = cc in subst (AtMost 4) same tt
joined_low (suc (suc zero)) r is = let same : result 4 0 ≡ r = cc in subst (AtMost 4) same (omega arith)
joined_low (suc (suc (suc zero))) r is = let same : result 3 0 ≡ r = cc in subst (AtMost 4) same (omega arith)
joined_low (suc (suc (suc (suc zero)))) r is = cc
joined_low (suc (suc (suc (suc (suc j))))) r is = cc

-- ---- numbers of nets, in a module

module _ (top : ℕ) where
  -- of a result: before the instance by the depth, from the instance on the higher the less deep
  abbrev result_height : ℕ → ℕ → ℕ
  result_height depth i = cond (nat_lt i 5) (8 * depth + suc i) (8 * (top + 1) + 8 * (top - depth) + i)

  abbrev ref_height : ℕ → Ref → ℕ
  ref_height depth (port j) = 8 * depth
  ref_height depth (result i k) = result_height depth i
  ref_height depth undefined = 0

  abbrev height : Net → ℕ
  height a = ref_height (length a.path) a.ref

  early : (depth i : ℕ) → i < 5 → result_height depth i ≡ 8 * depth + suc i
  early depth i low = go (nat_lt i 5) refl
    where
      go : (b : Bool) → nat_lt i 5 ≡ b → cond b (8 * depth + suc i) (8 * (top + 1) + 8 * (top - depth) + i) ≡ 8 * depth + suc i
      go true is = refl
      go false is = absurd (grind (arith, nat_tests))

  late : (depth i : ℕ) → 5 ≤ i → result_height depth i ≡ 8 * (top + 1) + 8 * (top - depth) + i
  late depth i high = go (nat_lt i 5) refl
    where
      go : (b : Bool) → nat_lt i 5 ≡ b → cond b (8 * depth + suc i) (8 * (top + 1) + 8 * (top - depth) + i) ≡ 8 * (top + 1) + 8 * (top - depth) + i
      go true is = absurd (grind (arith, nat_tests))
      go false is = refl

  -- an earlier value of the same body is lower
  lower_before : (depth i k : ℕ) (r : Ref) → depth ≤ top → StandsBefore i r → ref_height depth r < result_height depth i
  lower_before depth i k (port j) low before = go (grind arith)
    where
      go : (i < 5) ⊎ (5 ≤ i) → 8 * depth < result_height depth i
      go (inl less) = let is : result_height depth i ≡ 8 * depth + suc i = early depth i less in omega arith
      go (inr more) = let is : result_height depth i ≡ 8 * (top + 1) + 8 * (top - depth) + i = late depth i more in omega arith
  lower_before depth i k (result q m) low before = go (grind arith) (grind arith)
    where
      go : (q < 5) ⊎ (5 ≤ q) → (i < 5) ⊎ (5 ≤ i) → result_height depth q < result_height depth i
      go (inl a) (inl b) =
          let first : result_height depth q ≡ 8 * depth + suc q = early depth q a in
          let second : result_height depth i ≡ 8 * depth + suc i = early depth i b in
          let less : q < i = before in
          omega arith
      go (inl a) (inr b) =
          let first : result_height depth q ≡ 8 * depth + suc q = early depth q a in
          let second : result_height depth i ≡ 8 * (top + 1) + 8 * (top - depth) + i = late depth i b in
          omega arith
      go (inr a) (inl b) = let less : q < i = before in absurd (omega arith)
      go (inr a) (inr b) =
          let first : result_height depth q ≡ 8 * (top + 1) + 8 * (top - depth) + q = late depth q a in
          let second : result_height depth i ≡ 8 * (top + 1) + 8 * (top - depth) + i = late depth i b in
          let less : q < i = before in
          omega arith
  lower_before depth i k undefined low before = go (grind arith)
    where
      go : (i < 5) ⊎ (5 ≤ i) → 0 < result_height depth i
      go (inl less) = let is : result_height depth i ≡ 8 * depth + suc i = early depth i less in omega arith
      go (inr more) = let is : result_height depth i ≡ 8 * (top + 1) + 8 * (top - depth) + i = late depth i more in omega arith

  -- what the instance joins is lower than the port of its module
  lower_joined : (depth : ℕ) (r : Ref) → AtMost 4 r → ref_height depth r < 8 * suc depth
  lower_joined depth (port j) low = omega arith
  lower_joined depth (result i k) low =
      let small : i ≤ 4 = low in
      let is : result_height depth i ≡ 8 * depth + suc i = early depth i (omega arith) in
      omega arith
  lower_joined depth undefined low = omega arith

  -- what its module gives is lower than the result of the instance
  lower_given : (depth q i : ℕ) → suc depth ≤ top → q ≤ 6 → 5 ≤ i → result_height (suc depth) q < result_height depth i
  lower_given depth q i deep small high = go (grind arith)
    where
      second : result_height depth i ≡ 8 * (top + 1) + 8 * (top - depth) + i
      second = late depth i high

      go : (q < 5) ⊎ (5 ≤ q) → result_height (suc depth) q < result_height depth i
      go (inl a) =
          let first : result_height (suc depth) q ≡ 8 * suc depth + suc q = early (suc depth) q a in
          let other : result_height depth i ≡ 8 * (top + 1) + 8 * (top - depth) + i = second in
          omega arith
      go (inr a) =
          let first : result_height (suc depth) q ≡ 8 * (top + 1) + 8 * (top - suc depth) + q = late (suc depth) q a in
          let other : result_height depth i ≡ 8 * (top + 1) + 8 * (top - depth) + i = second in
          omega arith

-- ---- the flattened module

module _ (seed n : ℕ) (few : n ≤ 10000) (top : ℕ) (within : top < n) where
  abbrev design : Design
  design = generated seed n

  abbrev symbol : Name
  symbol = module_symbol top

  -- the module at the end of a path: the deeper, the smaller its number
  record IsMade (p : Path) (m : Module) : Type 0 where
    number : ℕ
    deep : number + length p ≤ top
    is : m ≡ made seed n number

  -- the module of an instance
  record IsCalled (k : ℕ) (o : Op) (m : Module) : Type 0 where
    number : ℕ
    earlier : number < k
    operands : o.operands ≡ port 0 ∷ port 1 ∷ result 4 0 ∷ result 3 0 ∷ []
    is : m ≡ made seed n number

  called : (k : ℕ) (o : Op) (m : Module) → k < n → In o (made seed n k).body → callee design o ≡ Some m → IsCalled k o m
  called k o m low here calls =
      let inst = and_then_some (instance_in o.kind) (λ (i : Instance). find_module design i.symbol) calls in
      let call = only_call (state_after seed (4 * k)) k o inst.0 here inst.1 in
      let next : k ≡ suc call.before = call.is_next in
      let half : call.before / 2 < n = omega (arith, next) in
      let there : callee design (instance_op (call.before / 2)) ≡ Some (made seed n (call.before / 2)) = found seed n few (call.before / 2) half in
      let same : Some m ≡ Some (made seed n (call.before / 2)) = sym calls ∙ ap (callee design) call.is ∙ there in
      record { number = call.before / 2; earlier = omega (arith, next); operands = ap (λ (z : Op). z.operands) call.is; is = cc }

  module_there : (p : Path) (m : Module) → module_at design symbol p ≡ Some m → IsMade p m
  module_there [] m is =
      let same : Some m ≡ Some (made seed n top) = sym is ∙ found seed n few top within in
      record { number = top; deep = omega arith; is = cc }
  module_there (u ∷ p) m is =
      let outer = and_then_some (module_at design symbol p) (λ (x : Module). option_and_then (callee design) (slice_get (instances x.body) u)) is in
      let inner = and_then_some (slice_get (instances outer.0.body) u) (callee design) outer.2 in
      let made_outer = module_there p outer.0 outer.1 in
      let deep : made_outer.number + length p ≤ top = made_outer.deep in
      let here : In inner.0 (made seed n made_outer.number).body =
      subst (λ (x : Module). In inner.0 x.body) made_outer.is (from_In-instances outer.0.body inner.0 (In-slice_get inner.0 (instances outer.0.body) u inner.1)) in
      let made_inner = called made_outer.number inner.0 m (omega arith) here inner.2 in
      let earlier : made_inner.number < made_outer.number = made_inner.earlier in
      record { number = made_inner.number; deep = omega arith; is = made_inner.is }

  -- a port of a module within
  falls_port : (p : Path) (j : ℕ) (b : Net) → In b (needs design symbol (net p (port j))) → height top b < height top (net p (port j))
  falls_port [] j b here = absurd (subst (In b) (no_needs_port design symbol j) here)
  falls_port (u ∷ p) j b here =
      let copy = copied p (option_and_then (joined_at design u j) (module_at design symbol p)) b here in
      let outer = and_then_some (module_at design symbol p) (joined_at design u j) copy.1 in
      let inner = and_then_some (slice_get (instances outer.0.body) u) (joined_ref design j) outer.2 in
      let joins = and_then_some (callee design inner.0) (λ (c : Module). port_ref c.ports inner.0.operands j) inner.2 in
      let made_outer = module_there p outer.0 outer.1 in
      let deep : made_outer.number + length p ≤ top = made_outer.deep in
      let within_body : In inner.0 (made seed n made_outer.number).body =
      subst (λ (x : Module). In inner.0 x.body) made_outer.is (from_In-instances outer.0.body inner.0 (In-slice_get inner.0 (instances outer.0.body) u inner.1)) in
      let made_inner = called made_outer.number inner.0 joins.0 (omega arith) within_body joins.1 in
      let ref_is : port_ref generated_ports (port 0 ∷ port 1 ∷ result 4 0 ∷ result 3 0 ∷ []) j ≡ Some copy.0 =
      sym (ap (λ rs. port_ref generated_ports rs j) made_inner.operands) ∙ sym (ap (λ (c : Module). port_ref c.ports inner.0.operands j) made_inner.is) ∙ joins.2 in
      subst (λ (c : Net). height top c < 8 * suc (length p)) (sym copy.2) (lower_joined top (length p) copy.0 (joined_low j copy.0 ref_is))

  -- a result of a module
  falls_result : (p : Path) (i k : ℕ) (b : Net) → In b (needs design symbol (net p (result i k))) → height top b < result_height top (length p) i
  falls_result p i k b here = by_module (module_at design symbol p) refl (subst (λ s. In b (needs_of s)) (result_here design symbol p i k) here)
    where
      by_type : (o : Op) (t : Option HwType) → In b (needs_of (made_of p o k t)) → (r : Ref) × In r o.operands × (b ≡ net p r)
      by_type o None never = absurd never
      by_type o (Some t) need = from_In-map (net p) b o.operands need

      by_held : (s : ℕ) (t : Option HwType) → In b (needs_of (held_of s t)) → ⊥
      by_held s None never = never
      by_held s (Some t) never = never

      by_sort : (m : Module) (o : Op) → module_at design symbol p ≡ Some m → slice_get m.body i ≡ Some o → Sort o.kind → In b (needs_of (op_in design symbol p m.body i k o))
          → height top b < result_height top (length p) i
      by_sort m o is there (a_register f r x y) need =
          absurd (by_held (base design symbol p + body_state (state design) (take i m.body)) (result_type o k) (simp r at need))
      by_sort m o is there (an_instance inst r x y) need =
          let need' : In b (needs_of (copy_of (length (instances (take i m.body)) ∷ p) (given_ref design k o))) = simp (r, x) (simp (r, x) at need) in
          let copy = copied (length (instances (take i m.body)) ∷ p) (given_ref design k o) b need' in
          let made_outer = module_there p m is in
          let deep : made_outer.number + length p ≤ top = made_outer.deep in
          let location : slice_get (made seed n made_outer.number).body i ≡ Some o = ap (λ (z : Module). slice_get z.body i) (sym made_outer.is) ∙ there in
          let gives = and_then_some (callee design o) (λ (c : Module). slice_get (output_refs c.body) k) copy.1 in
          let made_inner = called made_outer.number o gives.0 (omega arith) (In-slice_get o (made seed n made_outer.number).body i location) gives.1 in
          let earlier : made_inner.number < made_outer.number = made_inner.earlier in
          let given : slice_get (output_refs (made seed n made_inner.number).body) k ≡ Some copy.0 =
          ap (λ (z : Module). slice_get (output_refs z.body) k) (sym made_inner.is) ∙ gives.2 in
          let low = output_of (state_after seed (4 * made_inner.number)) made_inner.number k copy.0 given in
          let after : 5 ≤ i = late_call (state_after seed (4 * made_outer.number)) made_outer.number i o inst location x in
          subst (λ (c : Net). height top c < result_height top (length p) i) (sym copy.2)
          (subst (λ (z : Ref). ref_height top (suc (length p)) z < result_height top (length p) i) (sym low.1)
          (lower_given top (length p) low.0 i (omega arith) low.2 after))
      by_sort m o is there (an_output r x y) need = absurd (simp (r, x, y) at need)
      by_sort m o is there (a_made r x y) need =
          let from = by_type o (result_type o k) (simp (r, x, y) at need) in
          let made_outer = module_there p m is in
          let deep : made_outer.number + length p ≤ top = made_outer.deep in
          let location : slice_get (made seed n made_outer.number).body i ≡ Some o = ap (λ (z : Module). slice_get z.body i) (sym made_outer.is) ∙ there in
          subst (λ (c : Net). height top c < result_height top (length p) i) (sym from.2)
          (lower_before top (length p) i k from.0 (omega arith) (before_op (state_after seed (4 * made_outer.number)) made_outer.number i o from.0 location from.1))

      by_op : (m : Module) (x : Option Op) → module_at design symbol p ≡ Some m → slice_get m.body i ≡ x → In b (needs_of (result_in design symbol p m.body i k x))
          → height top b < result_height top (length p) i
      by_op m None is there never = absurd never
      by_op m (Some o) is there need = by_sort m o is there (sort_of o.kind) need

      by_module : (x : Option Module) → module_at design symbol p ≡ x → In b (needs_of (result_in design symbol p (body_of x) i k (slice_get (body_of x) i)))
          → height top b < result_height top (length p) i
      by_module None is never = absurd never
      by_module (Some m) is need = by_op m (slice_get m.body i) is refl need

  falls : FallsAlong (needs design symbol) (height top)
  falls a b here = by_ref a.path a.ref here
    where
      by_ref : (p : Path) (r : Ref) → In b (needs design symbol (net p r)) → height top b < ref_height top (length p) r
      by_ref p (port j) need = falls_port p j b need
      by_ref p (result i k) need = falls_result p i k b need
      by_ref p undefined never = absurd never

  pub no_cycle : HasNoCycle design symbol
  no_cycle = IsAcyclic-falling (needs design symbol) (height top) falls
