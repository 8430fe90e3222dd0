-- A register with enable and reset meets what the theorem asks, and so behaves in Verilog as it does.
use Rattle.std.proofs.Common.{◌≡◌, ℕ, zero, suc, ◌+◌, ◌<◌, ◌≤◌, ◌^◌, Bool, true, false, cond, [], ◌∷◌, length, slice_get, Option, Some, None, pos, refl, sym, ◌∙◌, ap, subst, inl, inr, arith, codes, option_and_then}
use Rattle.wiring.specs.Wiring.{In}
use Rattle.hw_model.specs.Types.{Name, HwType, width}
use Rattle.hw_model.specs.Types.HwType.{int, clock}
use Rattle.hw_model.specs.Kinds.RegisterOp.{compreg_ce}
use Rattle.hw_model.specs.Kinds.Kind.{constant, output, register}
use Rattle.hw_model.specs.Kinds.Reset.{sync_reset}
use Rattle.hw_model.specs.Design.{Ref, Port, OpResult, Op, Module, Design, same_name, find_module, callee}
use Rattle.hw_model.specs.Design.Ref.{port, result, undefined}
use Rattle.hw_model.specs.Flat.{Path, source_at, module_at, instances, input_source, copy_of, joined_at, result_source, Register, ResetBy, register_in, async_reset_in}
use Rattle.hw_model.specs.Resets.{ResetsFromPorts}
use Rattle.hw_model.specs.Meaning.{needs_of, HasNoCycle, machine}
use Rattle.hw_model.specs.Machine.{Same}
use Rattle.hw_model.specs.Hierarchy.{calls, callee_symbols, HasNoRecursion}
use Rattle.hw_model.specs.Sound.{Sound, SoundBody, OpFits, InstanceFits, type_in, body_of}
use Rattle.hw_model.proofs.Samples.{operation}
use Rattle.verilog_model.specs.Meaning.{tree_machine}
use Rattle.verilog_expr.specs.Expressions.{value_width}
use Rattle.verilog_expr.specs.Spilling.{spilled, height}
use Rattle.lowering_options.specs.declared.lowering.Lowering.{Lowering}
use Rattle.export_verilog.specs.Identifiers.{module_identifiers}
use Rattle.export_verilog.specs.Exported.{symbol_name, tree_of}
use Rattle.export_verilog.specs.Exportable.{IsClocked, IsExportableOp, IsExportableModule, IsExportable}
use Rattle.export_verilog.proofs.text.Samples.{register_module}
use Rattle.export_verilog.proofs.behaviour.ModuleBehaviour.{exported_same}

abbrev one_register : Design
one_register = register_module ∷ []

abbrev nine_op : Op
nine_op = operation (constant (pos 9)) [] (int 8 ∷ []) (int 8 ∷ [])

abbrev register_op : Op
register_op = operation (register compreg_ce sync_reset) (port 3 ∷ port 0 ∷ port 2 ∷ port 1 ∷ result 0 0 ∷ []) (int 8 ∷ []) (int 8 ∷ [])

abbrev output_op : Op
output_op = operation output (result 1 0 ∷ []) (int 8 ∷ []) []

-- what holds of the three operations
each_op : (P : Op → Type 0) → P nine_op → P register_op → P output_op → (j : ℕ) (o : Op) → slice_get register_module.body j ≡ Some o → P o
each_op P first second third zero o is = subst P (let e : nine_op ≡ o = cc in e) first
each_op P first second third (suc zero) o is = subst P (let e : register_op ≡ o = cc in e) second
each_op P first second third (suc (suc zero)) o is = subst P (let e : output_op ≡ o = cc in e) third
each_op P first second third (suc (suc (suc j))) o is = cc

found_is : (s : Name) (m : Module) → find_module one_register s ≡ Some m → register_module ≡ m
found_is s m = go (same_name (codes "Reg") s) where
  go : (b : Bool) → cond b (Some register_module) None ≡ Some m → register_module ≡ m
  go true is = let e : register_module ≡ m = cc in e
  go false is = cc

-- ---- it is sound

abbrev type_of : Ref → Option HwType
type_of = type_in register_module.ports register_module.body

nine_fits : OpFits type_of nine_op
nine_fits k t typed = refl

register_fits : OpFits type_of register_op
register_fits zero t typed =
    let e : int 8 ≡ t = cc in
    subst (λ z. Some (int 8) ∷ Some clock ∷ Some (int 1) ∷ Some (int 1) ∷ Some (int 8) ∷ [] ≡ Some z ∷ Some clock ∷ Some (int 1) ∷ Some (int 1) ∷ Some z ∷ []) e refl
register_fits (suc k) t typed = cc

output_fits : OpFits type_of output_op
output_fits k t typed = cc

body_sound : SoundBody one_register register_module.ports register_module.body
body_sound = record {
  ops = each_op (OpFits type_of) nine_fits register_fits output_fits;
  instances = each_op (InstanceFits one_register type_of) (λ i is. cc) (λ i is. cc) (λ i is. cc);
  outputs = refl;
}

sound : Sound one_register
sound s m is = subst (λ (z : Module). SoundBody one_register z.ports z.body) (found_is s m is) body_sound

-- ---- nothing needs anything

no_calls : (s : Name) → calls one_register s ≡ []
no_calls s = go (same_name (codes "Reg") s) where
  go : (b : Bool) → callee_symbols (body_of (cond b (Some register_module) None)) ≡ []
  go true = refl
  go false = refl

finite : HasNoRecursion one_register
finite a (k, (c, need, chain)) = subst (In c) (no_calls a) need

module _ (top : Name) where
  no_module : (u : ℕ) (p : Path) → module_at one_register top (u ∷ p) ≡ None
  no_module u [] = go (same_name (codes "Reg") top) where
    go : (b : Bool) → option_and_then (λ (m : Module). option_and_then (callee one_register) (slice_get (instances m.body) u)) (cond b (Some register_module) None) ≡ None
    go true = refl
    go false = refl
  no_module u (v ∷ p) = ap (λ z. option_and_then (λ (m : Module). option_and_then (callee one_register) (slice_get (instances m.body) u)) z) (no_module v p)

  no_needs : (p : Path) (r : Ref) → needs_of (source_at one_register top p r) ≡ []
  no_needs p undefined = refl
  no_needs [] (port j) = go (same_name (codes "Reg") top) j where
    go : (b : Bool) (j : ℕ) → needs_of (input_source j (cond b (Some register_module) None)) ≡ []
    go false j = refl
    go true zero = refl
    go true (suc zero) = refl
    go true (suc (suc zero)) = refl
    go true (suc (suc (suc zero))) = refl
    go true (suc (suc (suc (suc zero)))) = refl
    go true (suc (suc (suc (suc (suc j))))) = refl
  no_needs (u ∷ []) (port j) = go (same_name (codes "Reg") top) where
    go : (b : Bool) → needs_of (copy_of [] (option_and_then (joined_at one_register u j) (cond b (Some register_module) None))) ≡ []
    go true = refl
    go false = refl
  no_needs (u ∷ v ∷ p) (port j) = ap (λ z. needs_of (copy_of (v ∷ p) (option_and_then (joined_at one_register u j) z))) (no_module v p)
  no_needs (u ∷ p) (result i k) = ap (λ z. needs_of (result_source one_register top (u ∷ p) i k z)) (no_module u p)
  no_needs [] (result i k) = go (same_name (codes "Reg") top) i k where
    go : (b : Bool) (i k : ℕ) → needs_of (result_source one_register top [] i k (cond b (Some register_module) None)) ≡ []
    go false i k = refl
    go true zero zero = refl
    go true zero (suc k) = refl
    go true (suc zero) zero = refl
    go true (suc zero) (suc k) = refl
    go true (suc (suc zero)) k = refl
    go true (suc (suc (suc i))) k = refl

  acyclic : HasNoCycle one_register top
  acyclic a (k, (c, need, chain)) = subst (In c) (no_needs a.path a.ref) need

-- ---- it is exportable

one_wide : (k : ℕ) (r : OpResult) → slice_get (record { type = int 8; again = false } ∷ []) k ≡ Some r → 1 ≤ width r.type
one_wide zero r is = subst (λ (z : OpResult). 1 ≤ width z.type) (let e : record { type = int 8; again = false } ≡ r = cc in e) (let h : 1 ≤ 8 = omega arith in h)
one_wide (suc k) r is = cc

abbrev parts : Register
parts = record { next = port 3; clock = port 0; enable = Some (port 2); reset = Some (record { signal = port 1; value = result 0 0 }) }

clocked : (r : Register) → register_in register_op ≡ Some r → IsClocked register_module.ports r
clocked r is = subst (IsClocked register_module.ports) (let e : parts ≡ r = cc in e) (record { number = 0; clock = record { name = codes "clk"; is_output = false; type = clock; again = false }; is_port = refl; there = refl; input = refl })

nine_exportable : IsExportableOp register_module.ports register_module.body nine_op
nine_exportable = record {
  integers = refl;
  one_result = λ e. (record { type = int 8; again = false }, refl);
  no_result = λ e. cc;
  bits = one_wide;
  filled = λ e. cc;
  division = λ e. cc;
  clocked = λ r e. cc;
}

register_exportable : IsExportableOp register_module.ports register_module.body register_op
register_exportable = record {
  integers = refl;
  one_result = λ e. (record { type = int 8; again = false }, refl);
  no_result = λ e. cc;
  bits = one_wide;
  filled = λ e. cc;
  division = λ e. cc;
  clocked = clocked;
}

output_exportable : IsExportableOp register_module.ports register_module.body output_op
output_exportable = record {
  integers = refl;
  one_result = λ e. cc;
  no_result = λ e. refl;
  bits = λ k r e. cc;
  filled = λ e. cc;
  division = λ e. cc;
  clocked = λ r e. cc;
}

abbrev SizeOf : HwType → Type 0
SizeOf t = (1 ≤ width t) × (width t < 2 ^ 64)

one_bit : SizeOf (int 1)
one_bit = (omega arith, omega arith)

eight_bits : SizeOf (int 8)
eight_bits = (omega arith, omega arith)

clock_bit : SizeOf clock
clock_bit = (omega arith, omega arith)

each_port : (j : ℕ) (p : Port) → slice_get register_module.ports j ≡ Some p → SizeOf p.type
each_port zero p is = subst SizeOf (let e : Some clock ≡ Some p.type = ap (λ z. option_and_then (λ (y : Port). Some y.type) z) is in let f : clock ≡ p.type = cc in f) clock_bit
each_port (suc zero) p is = subst SizeOf (let e : Some (int 1) ≡ Some p.type = ap (λ z. option_and_then (λ (y : Port). Some y.type) z) is in let f : int 1 ≡ p.type = cc in f) one_bit
each_port (suc (suc zero)) p is = subst SizeOf (let e : Some (int 1) ≡ Some p.type = ap (λ z. option_and_then (λ (y : Port). Some y.type) z) is in let f : int 1 ≡ p.type = cc in f) one_bit
each_port (suc (suc (suc zero))) p is = subst SizeOf (let e : Some (int 8) ≡ Some p.type = ap (λ z. option_and_then (λ (y : Port). Some y.type) z) is in let f : int 8 ≡ p.type = cc in f) eight_bits
each_port (suc (suc (suc (suc zero)))) p is = subst SizeOf (let e : Some (int 8) ≡ Some p.type = ap (λ z. option_and_then (λ (y : Port). Some y.type) z) is in let f : int 8 ≡ p.type = cc in f) eight_bits
each_port (suc (suc (suc (suc (suc j))))) p is = cc

nothing_wide : 0 < 2 ^ 64
nothing_wide = omega arith

narrow : (r : Ref) → value_width register_module.ports register_module.body r < 2 ^ 64
narrow undefined = nothing_wide
narrow (port zero) = clock_bit.1
narrow (port (suc zero)) = one_bit.1
narrow (port (suc (suc zero))) = one_bit.1
narrow (port (suc (suc (suc zero)))) = eight_bits.1
narrow (port (suc (suc (suc (suc zero))))) = nothing_wide
narrow (port (suc (suc (suc (suc (suc j)))))) = nothing_wide
narrow (result zero zero) = eight_bits.1
narrow (result zero (suc k)) = nothing_wide
narrow (result (suc zero) zero) = eight_bits.1
narrow (result (suc zero) (suc k)) = nothing_wide
narrow (result (suc (suc zero)) k) = nothing_wide
narrow (result (suc (suc (suc i))) k) = nothing_wide

clocks : (r : Ref) → type_in register_module.ports register_module.body r ≡ Some clock → (j : ℕ) × (r ≡ port j)
clocks undefined is = cc
clocks (port j) is = (j, refl)
clocks (result zero zero) is = cc
clocks (result zero (suc k)) is = cc
clocks (result (suc zero) zero) is = cc
clocks (result (suc zero) (suc k)) is = cc
clocks (result (suc (suc zero)) k) is = cc
clocks (result (suc (suc (suc i))) k) is = cc

identifier_room : length (module_identifiers register_module) + 130 < 2 ^ 64
unfolding spilled height
identifier_room = let e : length (module_identifiers register_module) ≡ 6 = refl in omega (arith, e)

module_exportable : IsExportableModule register_module
module_exportable = record {
  ops = each_op (IsExportableOp register_module.ports register_module.body) nine_exportable register_exportable output_exportable;
  bits = λ j p is. (each_port j p is).0;
  narrow = narrow;
  narrow_ports = λ j p is. (each_port j p is).1;
  clocks = clocks;
  room = identifier_room;
}

-- ---- it has no asynchronous reset

within_body : (s : Name) (m : Module) (o : Op) → find_module one_register s ≡ Some m → In o m.body → In o register_module.body
within_body s m o is within = subst (λ (z : Module). In o z.body) (sym (found_is s m is)) within

no_reset : (o : Op) (r : ResetBy) → In o register_module.body → async_reset_in o ≡ Some r → ⊥
no_reset o r (inl e) is = absurd (let h : None ≡ Some r = sym (ap async_reset_in e) ∙ is in cc)
no_reset o r (inr (inl e)) is = absurd (let h : None ≡ Some r = sym (ap async_reset_in e) ∙ is in cc)
no_reset o r (inr (inr (inl e))) is = absurd (let h : None ≡ Some r = sym (ap async_reset_in e) ∙ is in cc)
no_reset o r (inr (inr (inr never))) is = never

no_callee : (o : Op) (c : Module) → In o register_module.body → callee one_register o ≡ Some c → ⊥
no_callee o c (inl e) is = absurd (let h : None ≡ Some c = sym (ap (callee one_register) e) ∙ is in cc)
no_callee o c (inr (inl e)) is = absurd (let h : None ≡ Some c = sym (ap (callee one_register) e) ∙ is in cc)
no_callee o c (inr (inr (inl e))) is = absurd (let h : None ≡ Some c = sym (ap (callee one_register) e) ∙ is in cc)
no_callee o c (inr (inr (inr never))) is = never

no_resets : ResetsFromPorts one_register (λ m j. false)
no_resets = record {
  signals = λ s m o r is within at. absurd (no_reset o r (within_body s m o is within) at);
  values = λ s m o r is within at. absurd (no_reset o r (within_body s m o is within) at);
  joined = λ s m o c r is within at given. absurd (no_callee o c (within_body s m o is within) at);
}

pub register_is_exportable : IsExportable one_register
register_is_exportable = record {
  sound = sound;
  distinct = distinct;
  finite = finite;
  acyclic = acyclic;
  modules = each_module;
  room = (let h : 131 < 2 ^ 64 = omega arith in h);
  marked = λ m j. false;
  resets = no_resets;
}
  where
    distinct : (i j : ℕ) (m n : Module) → slice_get one_register i ≡ Some m → slice_get one_register j ≡ Some n → m.symbol ≡ n.symbol → i ≡ j
    distinct zero zero m n here there same = refl
    distinct zero (suc j) m n here there same = cc
    distinct (suc i) j m n here there same = cc

    each_module : (n : ℕ) (m : Module) → slice_get one_register n ≡ Some m → IsExportableModule m
    each_module zero m is = subst IsExportableModule (let e : register_module ≡ m = cc in e) module_exportable
    each_module (suc n) m is = cc

pub register_behaves_the_same : (via : Lowering) → Same (machine one_register (codes "Reg")) (tree_machine (tree_of via one_register) (symbol_name one_register (codes "Reg")))
register_behaves_the_same via = exported_same via one_register register_is_exportable 0 register_module refl
