-- What an operation is to its module: a register, an instance, an output, or made of its operands.
use Rattle.std.proofs.Common.{◌≡◌, ℕ, zero, suc, true, false, List, [], ◌∷◌, length, take, slice_get, Some, None, refl, ap, ◌∙◌}
use Rattle.hw_model.specs.Kinds.{Kind, Instance}
use Rattle.hw_model.specs.Kinds.Reset.{sync_reset}
use Rattle.hw_model.specs.Kinds.Kind.{instance, output, register, async_firreg}
use Rattle.hw_model.specs.Design.{Op, RegisterForm, takes_enable, instance_in, register_form, is_output_kind}
use Rattle.hw_model.specs.Flat.{instances}

-- what a kind is: a register, an instance, an output, or an operation whose results are made of its operands
pub data Sort (k : Kind) : Type 0 where
  a_register : (f : RegisterForm) → register_form k ≡ Some f → instance_in k ≡ None → is_output_kind k ≡ false → Sort k
  an_instance : (i : Instance) → register_form k ≡ None → instance_in k ≡ Some i → is_output_kind k ≡ false → Sort k
  an_output : register_form k ≡ None → instance_in k ≡ None → is_output_kind k ≡ true → Sort k
  a_made : register_form k ≡ None → instance_in k ≡ None → is_output_kind k ≡ false → Sort k

pub sort_of : (k : Kind) → Sort k
sort_of (instance i) = an_instance i refl refl refl
sort_of output = an_output refl refl refl
sort_of (register f r) = a_register (record { has_enable = takes_enable f; reset = r }) refl refl refl
sort_of async_firreg = a_register (record { has_enable = false; reset = sync_reset }) refl refl refl
sort_of k = a_made refl refl refl

-- an instance stands, among the instances, after those before it
pub instance_found : (os : List Op) (j : ℕ) (o : Op) (x : Instance) → slice_get os j ≡ Some o → instance_in o.kind ≡ Some x
    → slice_get (instances os) (length (instances (take j os))) ≡ Some o
instance_found [] j o x is inst = cc
instance_found (y ∷ ys) zero o x is inst =
    let same : y ≡ o = cc in
    let inst' : instance_in y.kind ≡ Some x = ap (λ z. instance_in z.kind) same ∙ inst in
    simp inst' is
instance_found (y ∷ ys) (suc j) o x is inst = go (sort_of y.kind) (instance_found ys j o x is inst)
  where
    go : Sort y.kind → slice_get (instances ys) (length (instances (take j ys))) ≡ Some o
        → slice_get (instances (y ∷ ys)) (length (instances (take (suc j) (y ∷ ys)))) ≡ Some o
    go (a_register f r i u) rest = simp i rest
    go (an_instance n r i u) rest = simp i rest
    go (an_output r i u) rest = simp i rest
    go (a_made r i u) rest = simp i rest
