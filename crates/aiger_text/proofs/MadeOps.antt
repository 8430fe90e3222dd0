-- Operations that are made in code, part by part.
use Rattle.std.proofs.Common.{◌≡◌, ℕ, zero, suc, List, [], ◌∷◌, ◌++◌, map, length, refl, ap, ap₂, ◌∙◌, rules}
use Rattle.hw_model.specs.Types.{HwType}
use Rattle.hw_model.specs.Types.HwType.{int, clock}
use Rattle.hw_model.specs.TypeViews.{type_of}
use Rattle.hw_model.specs.declared.types.Ty.{Int, Clock, the_lemmas}
use Rattle.hw_model.specs.Kinds.{Kind}
use Rattle.hw_model.specs.Kinds.Kind.{output}
use Rattle.hw_model.specs.Design.{Location, Op, OpResult, Ref}
use Rattle.ir_store.specs.declared.operation.NewOp.{NewOp}
use Rattle.ir_store.specs.declared.operation.Value.{Value}
use Rattle.ir_store.specs.Numbered.{ref_by, op_by}
use Rattle.ir_store.specs.OperationViews.{new_parts, typed_parts}
use Rattle.aiger_design.specs.Operations.{one_bit, first_location, bit_op, output_op}
use Rattle.aiger_text.specs.Seen.{bit_types}

pub int_seen : (w : ℕ) → type_of (Int w) ≡ int w
int_seen w = search (rules, the_lemmas)

pub clock_seen : type_of Clock ≡ clock
clock_seen = search (rules, the_lemmas)

-- an operation with a result of one bit, once its operands are given
pub bit_seen : (op : NewOp) (kind : Kind) (t : HwType) (operands : List Value) (location : Location) → new_parts op ≡ typed_parts kind t location → t ≡ one_bit → location ≡ first_location
    → op_by (λ i. i) (record { id = 0; parts = new_parts op; operands = operands }) ≡ bit_op kind (map (ref_by (λ i. i)) operands)
bit_seen op kind t operands location parts type at =
    ap (λ p. op_by (λ i. i) (record { id = 0; parts = p; operands = operands })) parts
    ∙ ap₂ (λ x y. op_by (λ i. i) (record { id = 0; parts = typed_parts kind x y; operands = operands })) type at

-- an output
pub output_seen : (o : Op) (ts : List HwType) (ns : List OpResult) (rs : List Ref) → o ≡ bit_op output rs → ts ≡ bit_types (length rs) → ns ≡ []
    → record o { types = ts; results = ns; named = 0 } ≡ output_op rs
output_seen o ts ns rs is types none =
    ap₂ (λ (p : Op) us. record p { types = us; results = ns; named = 0 }) is (types ∙ copies rs) ∙ ap (λ ms. record (output_op rs) { results = ms }) none
  where
    copies : (xs : List Ref) → bit_types (length xs) ≡ map (λ r. one_bit) xs
    copies [] = refl
    copies (x ∷ xs) = ap (λ us. one_bit ∷ us) (copies xs)

-- one more type
pub types_step : (n : ℕ) (before : List HwType) (t : HwType) → before ≡ bit_types n → t ≡ one_bit → before ++ t ∷ [] ≡ bit_types (suc n)
types_step n before t is type = ap₂ (λ ts u. ts ++ u ∷ []) is type ∙ push n
  where
    push : (n : ℕ) → bit_types n ++ one_bit ∷ [] ≡ bit_types (suc n)
    push zero = refl
    push (suc n) = ap (λ ts. one_bit ∷ ts) (push n)
