-- The positions of modules and operations in the source decide nothing of whether a header or an operation is refused.
use Rattle.std.proofs.Common.{◌≡◌, ℕ, suc, Bool, true, cond, not, ◌&&◌, ◌||◌, nat_eq, List, [], ◌∷◌, length, map, take, slice_get, Option, Some, None, option_map, is_some, refl, ap, ap₂, ◌∙◌, option_and_then}
use Rattle.std.specs.Prelude.{slice_index_or}
use Rattle.std.proofs.lemmas.Option.{slice_get-map}
use Rattle.std.proofs.lemmas.List.{take-map}
use Rattle.diag.specs.declared.cause.Cause.{Cause}
use Rattle.diag.specs.declared.cause.Cause.TheVariants.{Redefined, Undefined, OutputMismatch, DuplicateSymbol, DuplicatePort, MissingOutput, AsyncReset}
use Rattle.diag.specs.declared.refusal.Refusal.{Refusal}
use Rattle.hw_model.specs.Design.{Ref, Port, OpResult, Op, Module, Design, op_without_location, module_without_locations, without_locations, find_module, instance_in, is_output_op, result_type, callee}
use Rattle.hw_model.specs.Design.Ref.{port, result, undefined}
use Rattle.hw_model.specs.Sound.{type_in}
use Rattle.hw_model.specs.Flat.{async_reset_in, port_ref, ResetBy}
use Rattle.port_checks.specs.ResetPorts.{is_reset_port}
use Rattle.op_verifier.specs.Answers.{when, or_else}
use Rattle.op_checks.specs.OwnChecks.{own_cause}
use Rattle.op_verifier.specs.OpChecks.{has_again, has_undefined, settled_by, settled_type, is_nonzero_op, is_nonzero_ref, has_other_outputs, op_cause}
use Rattle.op_verifier.specs.ResetChecks.{is_input_port, is_constant_op, is_constant_ref, has_other_reset, has_other_join, reset_cause}
use Rattle.op_verifier.specs.Headers.{has_twice, has_output, ports_cause, header_cause}
use Rattle.op_verifier.specs.Faults.{header_refusal, op_refusal, is_empty, body_fault, module_fault, faults_from, first_fault}
use Rattle.port_checks.proofs.Unlocated.{instance_unlocated, reset_unlocated}
use Rattle.op_verifier.proofs.ResetJoins.{joins_same}
use Rattle.hw_model.proofs.Locations.{find_unlocated, callee_unlocated}

-- ---- what stands in a body

op_there : (os : List Op) (j : ℕ) {B : Type 0} (f : Option Op → B) → ((o : Option Op) → f (option_map op_without_location o) ≡ f o) → f (slice_get (map op_without_location os) j) ≡ f (slice_get os j)
op_there os j f same = ap f (slice_get-map op_without_location os j) ∙ same (slice_get os j)

type_unlocated : (ports : List Port) (os : List Op) (r : Ref) → type_in ports (map op_without_location os) r ≡ type_in ports os r
type_unlocated ports os (port j) = refl
type_unlocated ports os (result j k) = op_there os j (λ x. option_and_then (λ (o : Op). result_type o k) x) go
  where
    go : (x : Option Op) → option_and_then (λ (o : Op). result_type o k) (option_map op_without_location x) ≡ option_and_then (λ (o : Op). result_type o k) x
    go None = refl
    go (Some o) = refl
type_unlocated ports os undefined = refl

undefined_unlocated : (ports : List Port) (os : List Op) (rs : List Ref) → has_undefined ports (map op_without_location os) rs ≡ has_undefined ports os rs
undefined_unlocated ports os [] = refl
undefined_unlocated ports os (r ∷ rs) = ap₂ (λ t u. cond (is_some t) u true) (type_unlocated ports os r) (undefined_unlocated ports os rs)

settled_unlocated : (ports : List Port) (os : List Op) (r : Ref) → settled_type ports (map op_without_location os) r ≡ settled_type ports os r
settled_unlocated ports os (port j) = refl
settled_unlocated ports os (result j k) = op_there os j (λ x. option_and_then (λ (o : Op). slice_index_or (settled_by o) k None) x) go
  where
    go : (x : Option Op) → option_and_then (λ (o : Op). slice_index_or (settled_by o) k None) (option_map op_without_location x) ≡ option_and_then (λ (o : Op). slice_index_or (settled_by o) k None) x
    go None = refl
    go (Some o) = refl
settled_unlocated ports os undefined = refl

all_settled_unlocated : (ports : List Port) (os : List Op) (rs : List Ref) → map (settled_type ports (map op_without_location os)) rs ≡ map (settled_type ports os) rs
all_settled_unlocated ports os [] = refl
all_settled_unlocated ports os (r ∷ rs) = ap₂ (λ t ts. t ∷ ts) (settled_unlocated ports os r) (all_settled_unlocated ports os rs)

nonzero_unlocated : (os : List Op) (x : Option Ref) → is_nonzero_ref (map op_without_location os) x ≡ is_nonzero_ref os x
nonzero_unlocated os None = refl
nonzero_unlocated os (Some (port j)) = refl
nonzero_unlocated os (Some (result j k)) = op_there os j (λ x. nat_eq k 0 && is_nonzero_op x) go
  where
    go : (x : Option Op) → (nat_eq k 0 && is_nonzero_op (option_map op_without_location x)) ≡ (nat_eq k 0 && is_nonzero_op x)
    go None = refl
    go (Some o) = refl
nonzero_unlocated os (Some undefined) = refl

has_output_unlocated : (os : List Op) → has_output (map op_without_location os) ≡ has_output os
has_output_unlocated [] = refl
has_output_unlocated (o ∷ os) = ap (λ b. cond (is_output_op o) true b) (has_output_unlocated os)

-- ---- causes

constant_unlocated : (os : List Op) (r : Ref) → is_constant_ref (map op_without_location os) r ≡ is_constant_ref os r
constant_unlocated os (port j) = refl
constant_unlocated os (result j k) = op_there os j is_constant_op go
  where
    go : (x : Option Op) → is_constant_op (option_map op_without_location x) ≡ is_constant_op x
    go None = refl
    go (Some o) = refl
constant_unlocated os undefined = refl

other_reset_unlocated : (ports : List Port) (os : List Op) (x : Option ResetBy) → has_other_reset ports (map op_without_location os) x ≡ has_other_reset ports os x
other_reset_unlocated ports os None = refl
other_reset_unlocated ports os (Some r) = ap (λ b. not (is_input_port ports r.signal && b)) (constant_unlocated os r.value)

other_join_unlocated : (d : Design) (ports : List Port) (refs : List Ref) (x : Option Module)
    → has_other_join (without_locations d) ports refs (option_map module_without_locations x) ≡ has_other_join d ports refs x
other_join_unlocated d ports refs None = refl
other_join_unlocated d ports refs (Some c) =
    joins_same (is_reset_port (without_locations d) (module_without_locations c)) (is_reset_port d c) ports (port_ref c.ports refs) (length c.ports) (reset_unlocated d c)

reset_cause_unlocated : (d : Design) (ports : List Port) (os : List Op) (o : Op) → reset_cause (without_locations d) ports (map op_without_location os) (op_without_location o) ≡ reset_cause d ports os o
reset_cause_unlocated d ports os o =
    ap₂ (λ a b. when (a || b) AsyncReset) (other_reset_unlocated ports os (async_reset_in o))
    (ap (has_other_join (without_locations d) ports o.operands) (callee_unlocated d o) ∙ other_join_unlocated d ports o.operands (callee d o))

cause_unlocated : (d : Design) (ports : List Port) (os : List Op) (last : Bool) (o : Op) → op_cause (without_locations d) ports (map op_without_location os) last (op_without_location o) ≡ op_cause d ports os last o
cause_unlocated d ports os last o =
    ap₂ (λ a b. or_else a b) (ap (λ b. or_else (when (has_again o.results) Redefined) (when b Undefined)) (undefined_unlocated ports os o.operands))
    (ap₂ (λ a b. or_else a b)
    (ap₂ (λ xs b. own_cause o.kind o.types (map (λ (r : OpResult). r.type) o.results) o.named xs b) (all_settled_unlocated ports os o.operands) (nonzero_unlocated os (slice_get o.operands 1)))
    (ap₂ (λ a b. or_else a b)
    (ap (λ c. or_else (when (has_other_outputs ports o) OutputMismatch) (or_else c (when (is_output_op o && not last) MissingOutput))) (instance_unlocated d o.types (instance_in o.kind)))
    (reset_cause_unlocated d ports os o)))

header_unlocated : (d : Design) (n : ℕ) (m : Module) → header_cause (without_locations d) n (module_without_locations m) ≡ header_cause d n m
header_unlocated d n m =
    ap₂ (λ a b. or_else (ports_cause m.ports) (or_else (when a DuplicateSymbol) (or_else (when (has_twice (map (λ (q : Port). q.name) m.ports)) DuplicatePort) (when (not b) MissingOutput))))
    (ap (λ x. is_some (find_module x m.symbol)) (take-map module_without_locations n d) ∙ ap is_some (find_unlocated (take n d) m.symbol) ∙ go (find_module (take n d) m.symbol)) (has_output_unlocated m.body)
  where
    go : (x : Option Module) → is_some (option_map module_without_locations x) ≡ is_some x
    go None = refl
    go (Some y) = refl

-- ---- faults

-- one of two causes, or what follows them
either_unlocated : (c e : Option Cause) (f g : Cause → Refusal) (x y : Option Refusal) → c ≡ e → is_some x ≡ is_some y → is_some (or_else (option_map f c) x) ≡ is_some (or_else (option_map g e) y)
either_unlocated c e f g x y same rest = ap (λ z. is_some (or_else (option_map f z) x)) same ∙ go e
  where
    go : (z : Option Cause) → is_some (or_else (option_map f z) x) ≡ is_some (or_else (option_map g z) y)
    go None = rest
    go (Some z) = refl

empty_unlocated : (os : List Op) → is_empty (map op_without_location os) ≡ is_empty os
empty_unlocated [] = refl
empty_unlocated (o ∷ os) = refl

body_unlocated : (d : Design) (ports : List Port) (whole os : List Op)
    → is_some (body_fault (without_locations d) ports (map op_without_location whole) (map op_without_location os)) ≡ is_some (body_fault d ports whole os)
body_unlocated d ports whole [] = refl
body_unlocated d ports whole (o ∷ os) =
    either_unlocated (op_cause (without_locations d) ports (map op_without_location whole) (is_empty (map op_without_location os)) (op_without_location o)) (op_cause d ports whole (is_empty os) o)
    (op_refusal (op_without_location o)) (op_refusal o) (body_fault (without_locations d) ports (map op_without_location whole) (map op_without_location os)) (body_fault d ports whole os)
    (ap (λ last. op_cause (without_locations d) ports (map op_without_location whole) last (op_without_location o)) (empty_unlocated os) ∙ cause_unlocated d ports whole (is_empty os) o)
    (body_unlocated d ports whole os)

module_unlocated : (d : Design) (n : ℕ) (m : Module) → is_some (module_fault (without_locations d) n (module_without_locations m)) ≡ is_some (module_fault d n m)
module_unlocated d n m =
    either_unlocated (header_cause (without_locations d) n (module_without_locations m)) (header_cause d n m) (header_refusal (module_without_locations m)) (header_refusal m)
    (body_fault (without_locations d) m.ports (map op_without_location m.body) (map op_without_location m.body)) (body_fault d m.ports m.body m.body) (header_unlocated d n m)
    (body_unlocated d m.ports m.body m.body)

or_else_unlocated : (a b x y : Option Refusal) → is_some a ≡ is_some b → is_some x ≡ is_some y → is_some (or_else a x) ≡ is_some (or_else b y)
or_else_unlocated None None x y same rest = rest
or_else_unlocated None (Some b) x y same rest = cc
or_else_unlocated (Some a) None x y same rest = cc
or_else_unlocated (Some a) (Some b) x y same rest = refl

faults_unlocated : (d : Design) (n : ℕ) (ms : List Module) → is_some (faults_from (without_locations d) n (map module_without_locations ms)) ≡ is_some (faults_from d n ms)
faults_unlocated d n [] = refl
faults_unlocated d n (m ∷ ms) =
    or_else_unlocated (module_fault (without_locations d) n (module_without_locations m)) (module_fault d n m) (faults_from (without_locations d) (suc n) (map module_without_locations ms))
    (faults_from d (suc n) ms) (module_unlocated d n m) (faults_unlocated d (suc n) ms)

pub fault_unlocated : (d : Design) → is_some (first_fault (without_locations d)) ≡ is_some (first_fault d)
fault_unlocated d = faults_unlocated d 0 d
