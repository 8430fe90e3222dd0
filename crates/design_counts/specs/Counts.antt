-- How much there is in a design.
use Rattle.std.specs.Prelude.{ℕ, suc, ◌+◌, cond, List, [], ◌∷◌, length}
use Rattle.hw_model.specs.Design.{Op, Module, Design, is_register}

-- what is counted in each module of a design, in all
abbrev pub in_all : (Module → ℕ) → Design → ℕ
in_all count [] = 0
in_all count (m ∷ ms) = count m + in_all count ms

-- how many operations the bodies of a design have
abbrev pub operation_count : Design → ℕ
operation_count d = in_all (λ (m : Module). length m.body) d

-- one of a public module, none of a private one
abbrev pub one_if_public : Module → ℕ
one_if_public m = cond m.is_private 0 1

-- how many modules of a design are public
abbrev pub public_count : Design → ℕ
public_count d = in_all one_if_public d

-- how many registers there are among operations
abbrev pub register_count : List Op → ℕ
register_count [] = 0
register_count (o ∷ os) = cond (is_register o) (suc (register_count os)) (register_count os)

-- how many a module has, where it is public; of a private one none count
abbrev pub public_registers : Module → ℕ
public_registers m = cond m.is_private 0 (register_count m.body)

-- how many registers the public modules of a design have
abbrev pub public_register_count : Design → ℕ
public_register_count d = in_all public_registers d
