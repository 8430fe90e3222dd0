-- What a path of instances leads to, by the body and the ports of the module there.
use Rattle.std.proofs.Common.{◌≡◌, ℕ, ◌+◌, cond, List, ◌∷◌, length, take, slice_get, Option, Some, None, refl, option_and_then}
use Rattle.hw_model.specs.Types.{Name}
use Rattle.hw_model.specs.Design.{Ref, Op, Module, Design, is_instance, is_register, is_output_op, result_type, output_refs, callee}
use Rattle.hw_model.specs.Design.Ref.{result}
use Rattle.hw_model.specs.Flat.{Path, net, Source, Slot, instances, before_instance, module_at, body_state, state, state_of, state_before, base, port_ref, input_width, input_of, input_source, copy_of}
use Rattle.hw_model.specs.Flat.{joined_ref, joined_at, given_ref, held_of, made_of, result_source, result_source_of, source, body_registers, registers_of}
use Rattle.hw_model.specs.Flat.Source.{nowhere}
use Rattle.hw_model.specs.Meaning.{outputs_of}
use Rattle.hw_model.specs.Sound.{body_of, ports_of}

-- ---- a module that is not there is as one without operations and ports

pub module_inside : (d : Design) (u : ℕ) (o : Option Module)
    → option_and_then (λ (m : Module). option_and_then (callee d) (slice_get (instances m.body) u)) o ≡ option_and_then (callee d) (slice_get (instances (body_of o)) u)
module_inside d u None = refl
module_inside d u (Some m) = refl

pub state_body : (inner : Name → ℕ) (o : Option Module) → state_of inner o ≡ body_state inner (body_of o)
state_body inner None = refl
state_body inner (Some m) = refl

pub before_body : (d : Design) (u : ℕ) (o : Option Module) → state_before d u o ≡ body_state (state d) (before_instance u (body_of o))
before_body d u None = refl
before_body d u (Some m) = refl

pub registers_body : (inner : Path → Name → List Slot) (p : Path) (o : Option Module) → registers_of inner p o ≡ body_registers inner p 0 (body_of o)
registers_body inner p None = refl
registers_body inner p (Some m) = refl

pub outputs_body : (o : Option Module) → outputs_of o ≡ output_refs (body_of o)
outputs_body None = refl
outputs_body (Some m) = refl

pub input_ports : (j : ℕ) (o : Option Module) → input_source j o ≡ input_of (slice_get (ports_of o) j) (input_width (take j (ports_of o)))
input_ports j None = refl
input_ports j (Some m) = refl

pub joined_body : (d : Design) (u j : ℕ) (o : Option Module) → option_and_then (joined_at d u j) o ≡ option_and_then (joined_ref d j) (slice_get (instances (body_of o)) u)
joined_body d u j None = refl
joined_body d u j (Some m) = refl

pub port_of : (o : Option Module) (rs : List Ref) (j : ℕ) → option_and_then (λ (c : Module). port_ref c.ports rs j) o ≡ port_ref (ports_of o) rs j
port_of None rs j = refl
port_of (Some m) rs j = refl

pub output_of : (o : Option Module) (k : ℕ) → option_and_then (λ (c : Module). slice_get (output_refs c.body) k) o ≡ slice_get (output_refs (body_of o)) k
output_of None k = refl
output_of (Some m) k = refl

-- where result k of an operation at position j of a body at the end of a path comes from
abbrev pub op_in : Design → Name → Path → List Op → ℕ → ℕ → Op → Source
op_in d top p os j k o =
    cond (is_register o) (held_of (base d top p + body_state (state d) (take j os)) (result_type o k))
    (cond (is_instance o) (copy_of (length (instances (take j os)) ∷ p) (given_ref d k o))
    (cond (is_output_op o) nowhere (made_of p o k (result_type o k))))

abbrev pub result_in : Design → Name → Path → List Op → ℕ → ℕ → Option Op → Source
result_in d top p os j k None = nowhere
result_in d top p os j k (Some o) = op_in d top p os j k o

result_body : (d : Design) (top : Name) (p : Path) (j k : ℕ) (o : Option Module)
    → result_source d top p j k o ≡ result_in d top p (body_of o) j k (slice_get (body_of o) j)
result_body d top p j k None = refl
result_body d top p j k (Some m) = go (slice_get m.body j)
  where
    go : (x : Option Op) → result_source_of d top p m j k x ≡ result_in d top p m.body j k x
    go None = refl
    go (Some o) = refl

-- the source of a result in terms of the body at the end of its path
pub result_here : (d : Design) (top : Name) (p : Path) (j k : ℕ)
    → source d top (net p (result j k)) ≡ result_in d top p (body_of (module_at d top p)) j k (slice_get (body_of (module_at d top p)) j)
result_here d top p j k = result_body d top p j k (module_at d top p)
