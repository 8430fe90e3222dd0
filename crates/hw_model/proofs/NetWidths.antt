-- Every net of a sound design whose nets have heights has as many bits as its type.
use Rattle.std.proofs.Common.{◌≡◌, ℕ, zero, suc, ◌+◌, Bool, true, false, cond, List, [], ◌∷◌, length, map, take, slice_get, is_some, Option, Some, None, refl, sym, ap, subst, ◌∙◌, inl, inr, option_and_then, option_map}
use Rattle.std.proofs.lemmas.Option.{slice_get-map}
use mathlib.Core.Path.{subst₂}
use Rattle.wiring.specs.Wiring.{In}
use Rattle.wiring.proofs.Options.{option_map_some}
use Rattle.wiring.proofs.Heights.{by_heights}
use Rattle.bits_core.specs.Word.{Word}
use Rattle.bits_core.proofs.First.{length-first}
use Rattle.hw_model.specs.Types.{Name, HwType, width}
use Rattle.hw_model.specs.Kinds.{Kind, Instance}
use Rattle.hw_model.specs.Kinds.Kind.{output}
use Rattle.hw_model.specs.Design.{Ref, Port, OpResult, Op, Module, Design, find_module, instance_in, is_output_kind, register_form, result_type, output_refs, callee}
use Rattle.hw_model.specs.Design.Ref.{port, result, undefined}
use Rattle.hw_model.specs.Flat.{Path, Net, net, Source, instances, module_at, base, body_state, state, port_ref, operand_for, input_count, input_width, input_of, copy_of, joined_ref, joined_at, given_ref, held_of, made_of, source}
use Rattle.hw_model.specs.Flat.Source.{nowhere, input}
use Rattle.hw_model.specs.Meaning.{needs_of, needs, value_of, HasHeights, Settled}
use Rattle.hw_model.specs.Sound.{HasWidth, HaveWidths, body_of, ports_of, input_types, output_types, input_type, type_in, InstanceFits, SoundBody, Sound, Fits}
use Rattle.hw_model.proofs.Sorts.{Sort, sort_of, instance_found}
use Rattle.hw_model.proofs.Sorts.Sort.{a_register, an_instance, an_output, a_made}
use Rattle.hw_model.proofs.Paths.{module_inside, joined_body, input_ports, output_of, op_in, result_in, result_here}
use Rattle.hw_model.proofs.Widths.{fits_width}

-- ---- soundness at a path

no_module_sound : (d : Design) → SoundBody d [] []
no_module_sound d = record { ops = λ j o is. cc; instances = λ j o is. cc; outputs = refl }

pub sound_found : (d : Design) → Sound d → (s : Name) → SoundBody d (ports_of (find_module d s)) (body_of (find_module d s))
sound_found d sound s = go (find_module d s) refl
  where
    go : (o : Option Module) → find_module d s ≡ o → SoundBody d (ports_of o) (body_of o)
    go None is = no_module_sound d
    go (Some m) is = sound s m is

pub sound_at : (d : Design) → Sound d → (top : Name) (p : Path) → SoundBody d (ports_of (module_at d top p)) (body_of (module_at d top p))
sound_at d sound top [] = sound_found d sound top
sound_at d sound top (u ∷ p) =
    subst (λ o. SoundBody d (ports_of o) (body_of o)) (sym (module_inside d u (module_at d top p))) (go (slice_get (instances (body_of (module_at d top p))) u))
  where
    by_symbol : (y : Option Instance) → SoundBody d (ports_of (option_and_then (λ (i : Instance). find_module d i.symbol) y)) (body_of (option_and_then (λ (i : Instance). find_module d i.symbol) y))
    by_symbol None = no_module_sound d
    by_symbol (Some i) = sound_found d sound i.symbol

    go : (x : Option Op) → SoundBody d (ports_of (option_and_then (callee d) x)) (body_of (option_and_then (callee d) x))
    go None = no_module_sound d
    go (Some o) = by_symbol (instance_in o.kind)

-- ---- positions

-- an instance of a body stands at a position of it
instance_position : (os : List Op) (u : ℕ) (o : Op) → slice_get (instances os) u ≡ Some o → (j : ℕ) × (slice_get os j ≡ Some o)
instance_position [] u o is = cc
instance_position (y ∷ ys) u o is = go (sort_of y.kind) u is (instance_position ys)
  where
    later : (j : ℕ) × (slice_get ys j ≡ Some o) → (j : ℕ) × (slice_get (y ∷ ys) j ≡ Some o)
    later (j, found) = (suc j, found)

    go : Sort y.kind → (u : ℕ) → slice_get (instances (y ∷ ys)) u ≡ Some o
        → ((u : ℕ) (o : Op) → slice_get (instances ys) u ≡ Some o → (j : ℕ) × (slice_get ys j ≡ Some o))
        → (j : ℕ) × (slice_get (y ∷ ys) j ≡ Some o)
    go (a_register f r i x) u is rest = later (rest u o (simp i at is))
    go (an_instance n r i x) zero is rest = let e : Some y ≡ Some o = simp i at is in (0, e)
    go (an_instance n r i x) (suc u) is rest = later (rest u o (simp i at is))
    go (an_output r i x) u is rest = later (rest u o (simp i at is))
    go (a_made r i x) u is rest = later (rest u o (simp i at is))

-- the type of an input, among the types of the inputs
pub input_found : (ps : List Port) (j : ℕ) (q : Port) → slice_get ps j ≡ Some q → q.is_output ≡ false → slice_get (input_types ps) (input_count (take j ps)) ≡ Some q.type
input_found [] j q is inward = cc
input_found (x ∷ ps) zero q is inward =
    let same : x ≡ q = cc in
    let inward' : x.is_output ≡ false = ap (λ (y : Port). y.is_output) same ∙ inward in
    simp inward' (ap (λ (y : Port). Some y.type) same)
input_found (x ∷ ps) (suc j) q is inward = go x.is_output refl (input_found ps j q is inward)
  where
    go : (b : Bool) → x.is_output ≡ b → slice_get (input_types ps) (input_count (take j ps)) ≡ Some q.type
        → slice_get (cond b (input_types ps) (x.type ∷ input_types ps)) (cond b (input_count (take j ps)) (suc (input_count (take j ps)))) ≡ Some q.type
    go true e rest = rest
    go false e rest = rest

-- what stands at a position of a list whose types are known
pub typed_at : (type_of : Ref → Option HwType) (rs : List Ref) (ts : List HwType) (n : ℕ) (t : HwType) → map type_of rs ≡ map (λ (u : HwType). Some u) ts → slice_get ts n ≡ Some t
    → (r : Ref) × (slice_get rs n ≡ Some r) × (type_of r ≡ Some t)
typed_at type_of rs ts n t same is =
    let e : option_map type_of (slice_get rs n) ≡ Some (Some t) =
    sym (slice_get-map type_of rs n) ∙ ap (λ xs. slice_get xs n) same ∙ slice_get-map (λ (u : HwType). Some u) ts n ∙ ap (option_map (λ (u : HwType). Some u)) is in
    option_map_some type_of (slice_get rs n) e

no_output : (kind : Kind) (ts : List HwType) (xs : List (Option HwType)) (t : HwType) (k : ℕ) → is_output_kind kind ≡ true → Fits kind ts xs t k → ⊥
no_output output ts xs t k is fits = fits
no_output kind ts xs t k is fits = cc

-- an instance's source, after the tests that choose it
pub chosen_instance : {A : Type 0} (a b : Bool) (x y z : A) → a ≡ false → b ≡ true → cond a x (cond b y z) ≡ y
chosen_instance false true x y z no_register is_one = refl
chosen_instance true b x y z no_register is_one = cc
chosen_instance false false x y z no_register is_one = cc

-- ---- nets

-- the type of a net
abbrev pub type_at : Design → Name → Net → Option HwType
type_at d top a = type_in (ports_of (module_at d top a.path)) (body_of (module_at d top a.path)) a.ref

module _ (d : Design) (top : Name) (sound : Sound d) (inputs content : Word) (ρ : Net → Word) where
  -- what a source gives has the width of the type where what it needs has
  abbrev Good : Source → Option HwType → Type 0
  Good s x = ((b : Net) → In b (needs_of s) → HasWidth (type_at d top b) (ρ b)) → HasWidth x (value_of inputs content s (map ρ (needs_of s)))

  good_input : (x : Option Port) (start : ℕ) → Good (input_of x start) (input_type x)
  good_input None start = λ needed. tt
  good_input (Some q) start = go q.is_output
    where
      go : (b : Bool) → Good (cond b nowhere (input start (width q.type))) (cond b None (Some q.type))
      go true needed = tt
      go false needed = length-first (width q.type) _

  good_held : (start : ℕ) (t : Option HwType) → Good (held_of start t) t
  good_held start None needed = tt
  good_held start (Some t) needed = length-first (width t) _

  good_copy : (p : Path) (x : Option Ref) (r : Ref) (t : HwType) → x ≡ Some r → type_at d top (net p r) ≡ Some t → Good (copy_of p x) (Some t)
  good_copy p None r t is typed needed = cc
  good_copy p (Some y) r t is typed needed =
      let same : y ≡ r = cc in
      subst (λ z. HasWidth z (ρ (net p y))) (ap (λ z. type_at d top (net p z)) same ∙ typed) (needed (net p y) (inl refl))

  -- the words of operands
  operands_have : (p : Path) (rs : List Ref) → ((b : Net) → In b (map (net p) rs) → HasWidth (type_at d top b) (ρ b))
      → HaveWidths (map (type_in (ports_of (module_at d top p)) (body_of (module_at d top p))) rs) (map ρ (map (net p) rs))
  operands_have p [] needed = tt
  operands_have p (r ∷ rs) needed = (needed (net p r) (inl refl), operands_have p rs (λ b here. needed b (inr here)))

  -- an input of an instance's module
  good_joined : (p : Path) (u j : ℕ) → Good (copy_of p (option_and_then (joined_at d u j) (module_at d top p))) (input_type (slice_get (ports_of (module_at d top (u ∷ p))) j))
  good_joined p u j =
      subst₂ Good (ap (copy_of p) (sym (joined_body d u j (module_at d top p)))) (ap (λ o. input_type (slice_get (ports_of o) j)) (sym (module_inside d u (module_at d top p))))
      (go (slice_get (instances (body_of (module_at d top p))) u) refl)
    where
      type_of : Ref → Option HwType
      type_of = type_in (ports_of (module_at d top p)) (body_of (module_at d top p))

      by_port : (o : Op) (c : Module) → map type_of o.operands ≡ map (λ (t : HwType). Some t) (input_types c.ports)
          → (x : Option Port) → slice_get c.ports j ≡ x → Good (copy_of p (operand_for x o.operands (input_count (take j c.ports)))) (input_type x)
      by_port o c typed None is = λ needed. tt
      by_port o c typed (Some q) is = by_way q.is_output refl
        where
          by_way : (b : Bool) → q.is_output ≡ b → Good (copy_of p (cond b None (slice_get o.operands (input_count (take j c.ports))))) (cond b None (Some q.type))
          by_way true way = λ needed. tt
          by_way false way =
              let found = typed_at type_of o.operands (input_types c.ports) (input_count (take j c.ports)) q.type typed (input_found c.ports j q is way) in
              good_copy p (slice_get o.operands (input_count (take j c.ports))) found.0 q.type found.1 found.2

      by_instance : (o : Op) → InstanceFits d type_of o → (y : Option Instance) → instance_in o.kind ≡ y
          → Good (copy_of p (option_and_then (λ (c : Module). port_ref c.ports o.operands j) (option_and_then (λ (i : Instance). find_module d i.symbol) y)))
          (input_type (slice_get (ports_of (option_and_then (λ (i : Instance). find_module d i.symbol) y)) j))
      by_instance o fits None is = λ needed. tt
      by_instance o fits (Some i) is =
          let there = fits i is in
          subst (λ m. Good (copy_of p (option_and_then (λ (c : Module). port_ref c.ports o.operands j) m)) (input_type (slice_get (ports_of m) j))) (sym there.1)
          (by_port o there.0 there.2 (slice_get there.0.ports j) refl)

      go : (x : Option Op) → slice_get (instances (body_of (module_at d top p))) u ≡ x
          → Good (copy_of p (option_and_then (joined_ref d j) x)) (input_type (slice_get (ports_of (option_and_then (callee d) x)) j))
      go None is = λ needed. tt
      go (Some o) is =
          let index = instance_position (body_of (module_at d top p)) u o is in
          by_instance o ((sound_at d sound top p).instances index.0 o index.1) (instance_in o.kind) refl

  -- an output of an instance's module
  good_given : (p : Path) (j k : ℕ) (o : Op) (i : Instance) → slice_get (body_of (module_at d top p)) j ≡ Some o → instance_in o.kind ≡ Some i
      → (t : Option HwType) → result_type o k ≡ t
      → Good (copy_of (length (instances (take j (body_of (module_at d top p)))) ∷ p) (given_ref d k o)) t
  good_given p j k o i is inst None none = λ needed. tt
  good_given p j k o i is inst (Some t) typed =
      let there = (sound_at d sound top p).instances j o is i inst in
      let c : Module = there.0 in
      let listed : slice_get (output_types c.ports) k ≡ Some t = ap (λ ts. slice_get ts k) (sym there.3) ∙ slice_get-map (λ (r : OpResult). r.type) o.results k ∙ typed in
      let gives = typed_at (type_in c.ports c.body) (output_refs c.body) (output_types c.ports) k t (sound i.symbol c there.1).outputs listed in
      let called : callee d o ≡ Some c = ap (λ y. option_and_then (λ (x : Instance). find_module d x.symbol) y) inst ∙ there.1 in
      let inside : module_at d top (length (instances (take j (body_of (module_at d top p)))) ∷ p) ≡ Some c =
      module_inside d (length (instances (take j (body_of (module_at d top p))))) (module_at d top p)
      ∙ ap (λ x. option_and_then (callee d) x) (instance_found (body_of (module_at d top p)) j o i is inst) ∙ called in
      good_copy (length (instances (take j (body_of (module_at d top p)))) ∷ p) (given_ref d k o) gives.0 t
      (output_of (callee d o) k ∙ ap (λ m. slice_get (output_refs (body_of m)) k) called ∙ gives.1)
      (ap (λ m. type_in (ports_of m) (body_of m) gives.0) inside ∙ gives.2)

  good_made : (p : Path) (j k : ℕ) (o : Op) → slice_get (body_of (module_at d top p)) j ≡ Some o → register_form o.kind ≡ None → instance_in o.kind ≡ None
      → (t : Option HwType) → result_type o k ≡ t → Good (made_of p o k t) t
  good_made p j k o is r i None none needed = tt
  good_made p j k o is r i (Some t) typed needed =
      fits_width o.kind o.types (map (type_in (ports_of (module_at d top p)) (body_of (module_at d top p))) o.operands) t k (map ρ (map (net p) o.operands)) r i
      ((sound_at d sound top p).ops j o is k t typed) (operands_have p o.operands needed)

  good_output : (p : Path) (j k : ℕ) (o : Op) → slice_get (body_of (module_at d top p)) j ≡ Some o → is_output_kind o.kind ≡ true
      → (t : Option HwType) → result_type o k ≡ t → Good nowhere t
  good_output p j k o is out None none needed = tt
  good_output p j k o is out (Some t) typed needed =
      absurd (no_output o.kind o.types (map (type_in (ports_of (module_at d top p)) (body_of (module_at d top p))) o.operands) t k out
      ((sound_at d sound top p).ops j o is k t typed))

  good_result : (p : Path) (j k : ℕ) → Good (source d top (net p (result j k))) (type_at d top (net p (result j k)))
  good_result p j k =
      subst (λ s. Good s (type_at d top (net p (result j k)))) (sym (result_here d top p j k)) (go (slice_get (body_of (module_at d top p)) j) refl)
    where
      by_sort : (o : Op) → slice_get (body_of (module_at d top p)) j ≡ Some o → Sort o.kind
          → Good (op_in d top p (body_of (module_at d top p)) j k o) (result_type o k)
      by_sort o is (a_register f r i u) = simp r (good_held (base d top p + body_state (state d) (take j (body_of (module_at d top p)))) (result_type o k))
      by_sort o is (an_instance x r i u) =
          let P : Source → Type 0 = λ s. Good s (result_type o k) in
          subst P (sym (chosen_instance (is_some (register_form o.kind)) (is_some (instance_in o.kind)) _ _ _ (ap is_some r) (ap is_some i)))
          (good_given p j k o x is i (result_type o k) refl)
      by_sort o is (an_output r i u) = simp (r, i, u) (good_output p j k o is u (result_type o k) refl)
      by_sort o is (a_made r i u) = simp (r, i, u) (good_made p j k o is r i (result_type o k) refl)

      go : (x : Option Op) → slice_get (body_of (module_at d top p)) j ≡ x
          → Good (result_in d top p (body_of (module_at d top p)) j k x) (option_and_then (λ (o : Op). result_type o k) x)
      go None is = λ needed. tt
      go (Some o) is = by_sort o is (sort_of o.kind)

  good_net : (p : Path) (r : Ref) → Good (source d top (net p r)) (type_at d top (net p r))
  good_net [] (port j) =
      subst (λ s. Good s (type_at d top (net [] (port j)))) (sym (input_ports j (find_module d top)))
      (good_input (slice_get (ports_of (find_module d top)) j) (input_width (take j (ports_of (find_module d top)))))
  good_net (u ∷ p) (port j) = good_joined p u j
  good_net p (result j k) = good_result p j k
  good_net p undefined = λ needed. tt

  pub net_widths : HasHeights d top → Settled d top inputs content ρ → (a : Net) → HasWidth (type_at d top a) (ρ a)
  net_widths heights settled =
      by_heights (needs d top) (λ a. HasWidth (type_at d top a) (ρ a))
      (λ a needed. subst (HasWidth (type_at d top a)) (sym (settled a)) (good_net a.path a.ref needed)) heights

  -- the same by the module at the end of a path
  pub value_widths : HasHeights d top → Settled d top inputs content ρ → (p : Path) (m : Module) (r : Ref) (t : HwType)
      → module_at d top p ≡ Some m → type_in m.ports m.body r ≡ Some t → length (ρ (net p r)) ≡ width t
  value_widths heights settled p m r t is typed =
      subst (λ x. HasWidth x (ρ (net p r))) (ap (λ o. type_in (ports_of o) (body_of o) r) is ∙ typed) (net_widths heights settled (net p r))
