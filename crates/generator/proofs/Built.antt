-- Operations and modules that are built in code, part by part.
use Rattle.std.proofs.Common.{◌≡◌, ℕ, ◌+◌, ◌*◌, nat_lt, List, [], ◌∷◌, ◌++◌, map, length, Result as Either, Ok, Err, refl, ap₂, ◌∙◌, rules}
use Rattle.std.specs.Prelude.{IfOk}
use Rattle.hw_model.specs.Types.{Name, HwType}
use Rattle.hw_model.specs.Types.HwType.{int, clock}
use Rattle.hw_model.specs.TypeViews.{type_of}
use Rattle.hw_model.specs.declared.types.Ty.{Int, Clock, the_lemmas}
use Rattle.hw_model.specs.Kinds.{Kind, Instance}
use Rattle.hw_model.specs.Kinds.Kind.{instance}
use Rattle.hw_model.specs.Design.{Location, Entry, Port, Op}
use Rattle.hw_model.specs.Design.Ref.{port}
use Rattle.ir_store.specs.declared.operation.NewOp.{NewOp}
use Rattle.ir_store.specs.declared.operation.Value.{Value}
use Rattle.ir_store.specs.declared.operation.Value.TheVariants.{Result}
use Rattle.ir_store.specs.Bodies.{op_id}
use Rattle.ir_store.specs.BodyOps.{BodyOp, ids_in}
use Rattle.ir_store.specs.Designs.{numbered_module}
use Rattle.ir_store.specs.Numbered.{ref_by, op_by, ops_by_position}
use Rattle.generator.specs.Generated.{word, first_location, generated_ports, module_symbol, word_op, instance_of_module, instance_op, first_ops, last_ops, generated_module}
use Rattle.ir_store.specs.OperationViews.{new_parts, typed_parts}
use Rattle.generator.specs.Views.{op_seen, numbers_from}
use Rattle.generator.proofs.NumberedBodies.{placed_ops}

-- ---- types

pub int_seen : (w : ℕ) → type_of (Int w) ≡ int w
int_seen w = search (rules, the_lemmas)

clock_seen : type_of Clock ≡ clock
clock_seen = search (rules, the_lemmas)

-- the types of an instance
pub types_seen : map type_of (Clock ∷ Int 1 ∷ Int 16 ∷ Int 16 ∷ Int 16 ∷ []) ≡ clock ∷ int 1 ∷ word ∷ word ∷ word ∷ []
types_seen =
    ap₂ (λ t ts. t ∷ ts) clock_seen
    (ap₂ (λ t ts. t ∷ ts) (int_seen 1) (ap₂ (λ t ts. t ∷ ts) (int_seen 16) (ap₂ (λ t ts. t ∷ ts) (int_seen 16) (ap₂ (λ t ts. t ∷ ts) (int_seen 16) refl))))

-- ---- parts

-- an operation with a result
pub word_seen : {E : Type 0} (r : Either NewOp E) (kind : Kind) (t : HwType) (operands : List Value) (location : Location) → t ≡ word → location ≡ first_location
    → IfOk r (λ op. new_parts op ≡ typed_parts kind t location) → IfOk r (λ op. op.operands.items ≡ operands)
    → IfOk r (λ op. op_seen op ≡ word_op kind (map (ref_by (λ i. i)) operands))
word_seen (Ok op) kind t operands location type at parts given =
    ap₂ (λ p os. op_by (λ i. i) (record { id = 0; parts = p; operands = os })) parts given
    ∙ ap₂ (λ x y. op_by (λ i. i) (record { id = 0; parts = typed_parts kind x y; operands = operands })) type at
word_seen (Err e) kind t operands location type at parts given = tt

-- an instance
pub instance_built : (o : Op) (i : Instance) (j : ℕ) (v w : Value) (ts : List HwType) → o ≡ word_op (instance i) (port 0 ∷ port 1 ∷ ref_by (λ i. i) v ∷ ref_by (λ i. i) w ∷ [])
    → i ≡ instance_of_module j → v ≡ Result (op_id 4) 0 → w ≡ Result (op_id 3) 0 → ts ≡ clock ∷ int 1 ∷ word ∷ word ∷ word ∷ [] → record o { types = ts } ≡ instance_op j
instance_built o i j v w ts is inner first second types = rw (is, inner, first, second, types) refl

-- a module
pub module_built : (n k x : ℕ) (symbol : Name) (ports : List Port) (entries : List Entry) (ops : List BodyOp) (location : Location) → symbol ≡ module_symbol k → ports ≡ generated_ports
    → entries ≡ [] → ids_in ops ≡ numbers_from 0 (length (ids_in ops)) → map (op_by (λ i. i)) ops ≡ first_ops x ++ last_ops k → location ≡ first_location
    → numbered_module (record { symbol = symbol; is_private = nat_lt (2 * k + 1) n; ports = ports; dictionary = entries; ops = ops; location = location }) ≡ generated_module n k x
module_built n k x symbol ports entries ops location named header empty ids are at =
    let body : ops_by_position ops ≡ first_ops x ++ last_ops k = placed_ops ops x k ids are in
    rw (named, header, empty, body, at) refl
