-- What a step of a loop over ports or operations adds to a list and to what names stand for.
use Rattle.std.proofs.Common.{◌≡◌, ℕ, zero, suc, ◌+◌, Bool, true, false, List, [], ◌∷◌, ◌++◌, map, length, refl, ap, sym, ◌∙◌, append_assoc, arith}
use Rattle.std.specs.Prelude.{Option, Some, None, option_map, is_some, not}
use Rattle.std.specs.Borrow.{Bor}
use Rattle.hw_model.specs.TypeViews.{type_of}
use Rattle.mlir_operations.specs.ModuleText as text
use Rattle.std.proofs.lemmas.List.{map-append}
use Rattle.hw_model.specs.Design as hw
use Rattle.ir_store.specs.declared.design.Port.{Port}
use Rattle.ir_store.specs.Designs.{port_of}
use Rattle.mlir_reader.specs.Resolving.{Meanings, with_definitions, port_definition, port_definitions, ports_from, is_marked}
use Rattle.mlir_operations.specs.Views.{port_text_of}
use Rattle.mlir_reader.specs.Meanings.{numbers_from, numbers_below}
use Rattle.mlir_operations.specs.declared.syntax.PortText.{PortText}
use Rattle.mlir_reader.proofs.Defining.{definitions_append}
use Rattle.mlir_reader.proofs.Positions.{numbers_push}

-- ---- operations

length_numbers : (n f : ℕ) → length (numbers_from f n) ≡ n
length_numbers zero f = refl
length_numbers (suc n) f = ap suc (length_numbers n (f + 1))

pub count_is : (ids : List ℕ) (n : ℕ) → ids ≡ numbers_below n → length ids ≡ n
count_is ids n e = ap length e ∙ length_numbers n 0

-- one more number
pub numbers_more : (ids : List ℕ) (n id : ℕ) → ids ≡ numbers_below n → id ≡ length ids → ids ++ id ∷ [] ≡ numbers_below (n + 1)
numbers_more ids n id e h =
    let l : id ≡ 0 + n = omega (arith, count_is ids n e) in
    let s : suc n ≡ n + 1 = omega arith in
    ap (λ is. is ++ id ∷ []) e ∙ ap (λ x. numbers_below n ++ x ∷ []) l ∙ numbers_push n 0 ∙ ap numbers_below s

-- ---- ports

pub port_step : (done new : List Port) (p : Port) (t : PortText) (e f : Meanings) (j : ℕ) (rest next : List PortText) (all : List hw.Port) →
    new ≡ done ++ p ∷ [] → port_of p ∷ ports_from f (j + 1) (map port_text_of next) ≡ ports_from e j (map port_text_of (t ∷ next)) → rest ≡ t ∷ next →
    map port_of done ++ ports_from e j (map port_text_of rest) ≡ all →
    map port_of new ++ ports_from f (j + 1) (map port_text_of next) ≡ all
port_step done new p t e f j rest next all n s r h =
    let more = ports_from f (j + 1) (map port_text_of next) in
    ap (λ os. map port_of os ++ more) n ∙ ap (λ os. os ++ more) (map-append port_of done (p ∷ []))
    ∙ append_assoc (map port_of done) (port_of p ∷ []) more ∙ ap (λ xs. map port_of done ++ xs) s
    ∙ ap (λ ts. map port_of done ++ ports_from e j (map port_text_of ts)) (sym r) ∙ h

pub port_means : (e f : Meanings) (j : ℕ) (t : PortText) (rest next : List PortText) (all : Meanings) →
    f ≡ with_definitions e (port_definition j (port_text_of t).value) → rest ≡ t ∷ next →
    with_definitions e (port_definitions j (map port_text_of rest)) ≡ all → with_definitions f (port_definitions (j + 1) (map port_text_of next)) ≡ all
port_means e f j t rest next all m r h =
    ap (λ g. with_definitions g (port_definitions (j + 1) (map port_text_of next))) m
    ∙ sym (definitions_append e (port_definition j (port_text_of t).value) (port_definitions (j + 1) (map port_text_of next)))
    ∙ ap (λ ts. with_definitions e (port_definitions j (map port_text_of ts))) (sym r) ∙ h

pub port_is : (t : PortText) (e f : Meanings) (j : ℕ) (next : List text.PortText) (out again : Bool) → out ≡ not (is_some t.value) → again ≡ is_marked e (port_text_of t).value →
    f ≡ with_definitions e (port_definition j (port_text_of t).value) →
    record { name = t.name; is_output = out; type = type_of t.ty; again = again } ∷ ports_from f (j + 1) next ≡ ports_from e j (port_text_of t ∷ next)
port_is t e f j next out again o a m =
    ap (λ b. record { name = t.name; is_output = b; type = type_of t.ty; again = again } ∷ ports_from f (j + 1) next) (o ∙ same t.value)
    ∙ ap (λ b. record { name = t.name; is_output = not (is_some (port_text_of t).value); type = type_of t.ty; again = b } ∷ ports_from f (j + 1) next) a
    ∙ ap (λ g. record { name = t.name; is_output = not (is_some (port_text_of t).value); type = type_of t.ty; again = is_marked e (port_text_of t).value } ∷ ports_from g (j + 1) next) m
  where
    same : (v : Option (Bor (List ℕ))) → not (is_some v) ≡ not (is_some (option_map (λ (b : Bor (List ℕ)). b.now) v))
    same None = refl
    same (Some b) = refl

-- a test that is turned
pub turned : (b r : Bool) → b ≡ not r → r ≡ not b
turned b true e = sym (ap not e)
turned b false e = sym (ap not e)
