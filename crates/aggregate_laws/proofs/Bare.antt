-- Operations without names: what they are to their module is as before.
use Rattle.std.proofs.Common.{◌≡◌, ℕ, zero, suc, pred, ◌+◌, Bool, true, false, cond, List, [], ◌∷◌, ◌++◌, map, take, drop, slice_get, Option, Some, None, is_some, refl, sym, ap, ap₂, ◌∙◌, option_and_then, option_map}
use Rattle.std.proofs.lemmas.List.{map-append}
use Rattle.std.proofs.lemmas.Option.{slice_get-map}
use Rattle.bits_core.specs.Word.{Word, first}
use Rattle.hw_model.specs.Types.{Name, HwType, width}
use Rattle.hw_model.specs.Kinds.{Kind, Instance}
use Rattle.hw_model.specs.Kinds.Kind.{instance}
use Rattle.hw_model.specs.Design.{Ref, Port, OpResult, Op, Design, RegisterForm, find_module, instance_in, register_form, is_instance, is_register, is_output_op, is_output_kind, result_type, output_refs, callee}
use Rattle.hw_model.specs.Flat.{Path, Slot, instances, before_instance, if_zero, op_state, body_state, held_width, width_of, op_registers, body_registers, register_parts, register_in, has_async_reset}
use Rattle.hw_model.specs.Flat.{async_parts, async_reset_in, port_ref, operand_for, input_count, input_width, input_of, instance_state, instance_registers}
use Rattle.hw_model.specs.Meaning.{map_slots}
use Rattle.hw_model.specs.Hierarchy.{callee_symbols, called_by}
use Rattle.hw_model.specs.Sound.{input_types, output_types, input_type}
use Rattle.aggregate_laws.specs.Leaves.{bare_port, bare_kind, bare_result, bare, result_types, bare_op}

-- ---- kinds

-- the symbol of the module that a kind instances
abbrev pub called_symbol : Kind → Option Name
called_symbol k = option_map (λ (i : Instance). i.symbol) (instance_in k)

pub called_bare : (k : Kind) → called_symbol (bare_kind k) ≡ called_symbol k
called_bare (instance i) = refl
called_bare k = refl

pub form_bare : (k : Kind) → register_form (bare_kind k) ≡ register_form k
form_bare (instance i) = refl
form_bare k = refl

pub output_bare : (k : Kind) → is_output_kind (bare_kind k) ≡ is_output_kind k
output_bare (instance i) = refl
output_bare k = refl

pub async_bare : (k : Kind) → has_async_reset (bare_kind k) ≡ has_async_reset k
async_bare (instance i) = refl
async_bare k = refl

pub instance_by_symbol : (k : Kind) → is_some (instance_in k) ≡ is_some (called_symbol k)
instance_by_symbol k = go (instance_in k)
  where
    go : (x : Option Instance) → is_some x ≡ is_some (option_map (λ (i : Instance). i.symbol) x)
    go None = refl
    go (Some i) = refl

pub instance_bare : (k : Kind) → is_some (instance_in (bare_kind k)) ≡ is_some (instance_in k)
instance_bare k = instance_by_symbol (bare_kind k) ∙ ap is_some (called_bare k) ∙ sym (instance_by_symbol k)

-- the module that an operation instances, by its symbol
pub callee_by_symbol : (d : Design) (o : Op) → callee d o ≡ option_and_then (find_module d) (called_symbol o.kind)
callee_by_symbol d o = go (instance_in o.kind)
  where
    go : (x : Option Instance) → option_and_then (λ (i : Instance). find_module d i.symbol) x ≡ option_and_then (find_module d) (option_map (λ (i : Instance). i.symbol) x)
    go None = refl
    go (Some i) = refl

-- how many bits of content an instance of the module of a symbol has
abbrev pub op_symbol_state : (Name → ℕ) → Option Name → ℕ
op_symbol_state inner None = 0
op_symbol_state inner (Some s) = inner s

pub state_by_symbol : (inner : Name → ℕ) (x : Option Instance) → instance_state inner x ≡ op_symbol_state inner (option_map (λ (i : Instance). i.symbol) x)
state_by_symbol inner None = refl
state_by_symbol inner (Some i) = refl

abbrev pub symbol_registers : (Path → Name → List Slot) → Path → ℕ → Option Name → List Slot
symbol_registers inner p u None = []
symbol_registers inner p u (Some s) = inner (u ∷ p) s

pub registers_by_symbol : (inner : Path → Name → List Slot) (p : Path) (u : ℕ) (x : Option Instance)
    → instance_registers inner p u x ≡ symbol_registers inner p u (option_map (λ (i : Instance). i.symbol) x)
registers_by_symbol inner p u None = refl
registers_by_symbol inner p u (Some i) = refl

abbrev pub symbol_list : Option Name → List Name
symbol_list None = []
symbol_list (Some s) = s ∷ []

pub called_by_symbol : (x : Option Instance) → called_by x ≡ symbol_list (option_map (λ (i : Instance). i.symbol) x)
called_by_symbol None = refl
called_by_symbol (Some i) = refl

-- ---- operations

pub types_bare : (ts : List HwType) → map (λ (x : OpResult). x.type) (map bare_result ts) ≡ ts
types_bare [] = refl
types_bare (t ∷ ts) = ap (λ xs. t ∷ xs) (types_bare ts)

-- the k-th result's type, by the list of types
pub type_listed : (o : Op) (k : ℕ) → result_type o k ≡ slice_get (result_types o) k
type_listed o k = sym (slice_get-map (λ (x : OpResult). x.type) o.results k)

pub bare_type : (kind : Kind) (rs : List Ref) (ts : List HwType) (k : ℕ) → result_type (bare kind rs ts) k ≡ slice_get ts k
bare_type kind rs ts k = type_listed (bare kind rs ts) k ∙ ap (λ xs. slice_get xs k) (types_bare ts)

pub type_bare : (o : Op) (k : ℕ) → result_type (bare_op o) k ≡ result_type o k
type_bare o k = bare_type (bare_kind o.kind) o.operands (result_types o) k ∙ sym (type_listed o k)

pub is_instance_bare : (o : Op) → is_instance (bare_op o) ≡ is_instance o
is_instance_bare o = instance_bare o.kind

pub is_register_bare : (o : Op) → is_register (bare_op o) ≡ is_register o
is_register_bare o = ap is_some (form_bare o.kind)

pub is_output_bare : (o : Op) → is_output_op (bare_op o) ≡ is_output_op o
is_output_bare o = output_bare o.kind

pub register_in_bare : (o : Op) → register_in (bare_op o) ≡ register_in o
register_in_bare o = ap (λ x. option_and_then (λ (f : RegisterForm). register_parts f.has_enable f.reset o.operands) x) (form_bare o.kind)

pub async_reset_bare : (o : Op) → async_reset_in (bare_op o) ≡ async_reset_in o
async_reset_bare o = ap (λ b. cond b (async_parts o.operands) None) (async_bare o.kind)

pub held_bare : (o : Op) → held_width (bare_op o) ≡ held_width o
held_bare o = ap width_of (type_bare o 0)

pub op_state_bare : (inner : Name → ℕ) (o : Op) → op_state inner (bare_op o) ≡ op_state inner o
op_state_bare inner o =
    ap₂ (λ b w. cond b w (instance_state inner (instance_in (bare_kind o.kind)))) (is_register_bare o) (held_bare o)
    ∙ ap (cond (is_register o) (held_width o))
    (state_by_symbol inner (instance_in (bare_kind o.kind)) ∙ ap (op_symbol_state inner) (called_bare o.kind) ∙ sym (state_by_symbol inner (instance_in o.kind)))

-- ---- bodies

pub body_state_bare : (inner : Name → ℕ) (os : List Op) → body_state inner (map bare_op os) ≡ body_state inner os
body_state_bare inner [] = refl
body_state_bare inner (o ∷ os) = ap₂ (λ a b. a + b) (op_state_bare inner o) (body_state_bare inner os)

pub instances_bare : (os : List Op) → instances (map bare_op os) ≡ map bare_op (instances os)
instances_bare [] = refl
instances_bare (o ∷ os) =
    ap₂ (λ b xs. cond b (bare_op o ∷ xs) xs) (is_instance_bare o) (instances_bare os) ∙ go (is_instance o)
  where
    go : (b : Bool) → cond b (bare_op o ∷ map bare_op (instances os)) (map bare_op (instances os)) ≡ map bare_op (cond b (o ∷ instances os) (instances os))
    go true = refl
    go false = refl

pub output_refs_bare : (os : List Op) → output_refs (map bare_op os) ≡ output_refs os
output_refs_bare [] = refl
output_refs_bare (o ∷ os) = ap₂ (λ b rs. cond b o.operands rs) (is_output_bare o) (output_refs_bare os)

pub before_bare : (u : ℕ) (os : List Op) → before_instance u (map bare_op os) ≡ map bare_op (before_instance u os)
before_bare u [] = refl
before_bare u (o ∷ os) =
    ap (λ b. cond b (if_zero u [] (bare_op o ∷ before_instance (pred u) (map bare_op os))) (bare_op o ∷ before_instance u (map bare_op os))) (is_instance_bare o)
    ∙ go (is_instance o) u (before_bare u os) (before_bare (pred u) os)
  where
    go : (b : Bool) (u : ℕ) → before_instance u (map bare_op os) ≡ map bare_op (before_instance u os)
        → before_instance (pred u) (map bare_op os) ≡ map bare_op (before_instance (pred u) os)
        → cond b (if_zero u [] (bare_op o ∷ before_instance (pred u) (map bare_op os))) (bare_op o ∷ before_instance u (map bare_op os))
        ≡ map bare_op (cond b (if_zero u [] (o ∷ before_instance (pred u) os)) (o ∷ before_instance u os))
    go true zero rest fewer = refl
    go true (suc u) rest fewer = ap (λ xs. bare_op o ∷ xs) fewer
    go false u rest fewer = ap (λ xs. bare_op o ∷ xs) rest

pub callee_symbols_bare : (os : List Op) → callee_symbols (map bare_op os) ≡ callee_symbols os
callee_symbols_bare [] = refl
callee_symbols_bare (o ∷ os) =
    ap₂ (λ xs ys. xs ++ ys)
    (called_by_symbol (instance_in (bare_kind o.kind)) ∙ ap symbol_list (called_bare o.kind) ∙ sym (called_by_symbol (instance_in o.kind)))
    (callee_symbols_bare os)

-- ---- registers

-- a register of the flattened module without names
abbrev pub bare_slot : Slot → Slot
bare_slot s = record { path = s.path; op = bare_op s.op }

pub body_registers_bare : (inner inner' : Path → Name → List Slot) → ((q : Path) (s : Name) → inner' q s ≡ map bare_slot (inner q s))
    → (p : Path) (u : ℕ) (os : List Op) → body_registers inner' p u (map bare_op os) ≡ map bare_slot (body_registers inner p u os)
body_registers_bare inner inner' same p u [] = refl
body_registers_bare inner inner' same p u (o ∷ os) =
    ap (λ b. op_registers inner' p u (bare_op o) ++ body_registers inner' p (cond b (suc u) u) (map bare_op os)) (is_instance_bare o)
    ∙ ap₂ (λ xs ys. xs ++ ys) here (body_registers_bare inner inner' same p (cond (is_instance o) (suc u) u) os)
    ∙ sym (map-append bare_slot (op_registers inner p u o) (body_registers inner p (cond (is_instance o) (suc u) u) os))
  where
    by_symbol : (x : Option Name) → symbol_registers inner' p u x ≡ map bare_slot (symbol_registers inner p u x)
    by_symbol None = refl
    by_symbol (Some s) = same (u ∷ p) s

    inside : instance_registers inner' p u (instance_in (bare_kind o.kind)) ≡ map bare_slot (instance_registers inner p u (instance_in o.kind))
    inside =
        registers_by_symbol inner' p u (instance_in (bare_kind o.kind)) ∙ ap (symbol_registers inner' p u) (called_bare o.kind)
        ∙ by_symbol (called_symbol o.kind) ∙ ap (map bare_slot) (sym (registers_by_symbol inner p u (instance_in o.kind)))

    go : (b : Bool) → cond b (record { path = p; op = bare_op o } ∷ []) (instance_registers inner' p u (instance_in (bare_kind o.kind)))
        ≡ map bare_slot (cond b (record { path = p; op = o } ∷ []) (instance_registers inner p u (instance_in o.kind)))
    go true = refl
    go false = inside

    here : op_registers inner' p u (bare_op o) ≡ map bare_slot (op_registers inner p u o)
    here =
        ap (λ b. cond b (record { path = p; op = bare_op o } ∷ []) (instance_registers inner' p u (instance_in (bare_kind o.kind)))) (is_register_bare o)
        ∙ go (is_register o)

-- what slots give, where it is the same without names
pub map_slots_bare : (gives : Slot → Word → Word) → ((s : Slot) (old : Word) → gives (bare_slot s) old ≡ gives s old)
    → (ss : List Slot) (c : Word) → map_slots gives (map bare_slot ss) c ≡ map_slots gives ss c
map_slots_bare gives same [] c = refl
map_slots_bare gives same (s ∷ ss) c =
    ap (λ w. first w (gives (bare_slot s) (first w c)) ++ map_slots gives (map bare_slot ss) (drop w c)) (held_bare s.op)
    ∙ ap₂ (λ x y. first (held_width s.op) x ++ y) (same s (first (held_width s.op) c)) (map_slots_bare gives same ss (drop (held_width s.op) c))

-- ---- ports

pub input_types_bare : (ps : List Port) → input_types (map bare_port ps) ≡ input_types ps
input_types_bare [] = refl
input_types_bare (q ∷ ps) = ap (λ ts. cond q.is_output ts (q.type ∷ ts)) (input_types_bare ps)

pub output_types_bare : (ps : List Port) → output_types (map bare_port ps) ≡ output_types ps
output_types_bare [] = refl
output_types_bare (q ∷ ps) = ap (λ ts. cond q.is_output (q.type ∷ ts) ts) (output_types_bare ps)

input_count_bare : (ps : List Port) (n : ℕ) → input_count (take n (map bare_port ps)) ≡ input_count (take n ps)
input_count_bare ps zero = refl
input_count_bare [] (suc n) = refl
input_count_bare (q ∷ ps) (suc n) = ap (λ k. cond q.is_output k (suc k)) (input_count_bare ps n)

input_width_bare : (ps : List Port) (n : ℕ) → input_width (take n (map bare_port ps)) ≡ input_width (take n ps)
input_width_bare ps zero = refl
input_width_bare [] (suc n) = refl
input_width_bare (q ∷ ps) (suc n) = ap (λ k. cond q.is_output k (width q.type + k)) (input_width_bare ps n)

pub port_ref_bare : (ps : List Port) (rs : List Ref) (j : ℕ) → port_ref (map bare_port ps) rs j ≡ port_ref ps rs j
port_ref_bare ps rs j =
    ap₂ (λ x k. operand_for x rs k) (slice_get-map bare_port ps j) (input_count_bare ps j) ∙ go (slice_get ps j)
  where
    go : (x : Option Port) → operand_for (option_map bare_port x) rs (input_count (take j ps)) ≡ operand_for x rs (input_count (take j ps))
    go None = refl
    go (Some q) = refl

-- what the inputs give to port j
pub input_bare : (ps : List Port) (j : ℕ)
    → input_of (slice_get (map bare_port ps) j) (input_width (take j (map bare_port ps))) ≡ input_of (slice_get ps j) (input_width (take j ps))
input_bare ps j = ap₂ input_of (slice_get-map bare_port ps j) (input_width_bare ps j) ∙ go (slice_get ps j)
  where
    go : (x : Option Port) → input_of (option_map bare_port x) (input_width (take j ps)) ≡ input_of x (input_width (take j ps))
    go None = refl
    go (Some q) = refl

pub input_type_bare : (ps : List Port) (j : ℕ) → input_type (slice_get (map bare_port ps) j) ≡ input_type (slice_get ps j)
input_type_bare ps j = ap input_type (slice_get-map bare_port ps j) ∙ go (slice_get ps j)
  where
    go : (x : Option Port) → input_type (option_map bare_port x) ≡ input_type x
    go None = refl
    go (Some q) = refl
