-- What names are wanted for the values of a body: none stands for the next number.
use Rattle.std.specs.Prelude.{ℕ, zero, suc, Bool, false, cond, nat_lt, List, [], ◌∷◌, ◌++◌, length, Option, Some, None, codes, decimal, ℤ}
use Rattle.hw_model.specs.Types.{Name, HwType}
use Rattle.hw_model.specs.Types.HwType.{int}
use Rattle.hw_model.specs.Kinds.{Kind}
use Rattle.hw_model.specs.Kinds.StructOp.{struct_explode}
use Rattle.hw_model.specs.Kinds.Kind.{constant, on_struct, wire, instance, output, register, async_firreg}
use Rattle.hw_model.specs.Design.{Port}
use Rattle.ir_store.specs.OperationViews.{OpParts}
use Rattle.printing_laws.specs.Numbers.{integer_bytes, truth_bytes, shown_number, is_shown_as_truth, is_one}

-- `cV_iW`, or `true` and `false`
unfoldable pub constant_name : ℕ → ℤ → Name
constant_name w z =
    cond (is_shown_as_truth (int w) z) (truth_bytes (is_one z)) (codes "c" ++ (integer_bytes (shown_number w z) ++ (codes "_i" ++ decimal w)))

-- what a constant wants: one that is no integer wants nothing
abbrev pub constant_name_hint : List HwType → ℤ → Option Name
constant_name_hint (int w ∷ ts) z = Some (constant_name w z)
constant_name_hint _ z = None

-- what a register or a wire wants: an empty name is none
abbrev pub own_name_hint : Name → Option Name
own_name_hint [] = None
own_name_hint (b ∷ bs) = Some (b ∷ bs)

-- `INSTANCE.PORT`
unfoldable pub instance_name : Name → Name → Name
instance_name u q = u ++ ((46 ∷ []) ++ q)

-- what the results of an instance want
abbrev pub instance_name_hints : Name → List Name → List (Option Name)
instance_name_hints u [] = []
instance_name_hints u (q ∷ qs) = Some (instance_name u q) ∷ instance_name_hints u qs

-- what the fields of a struct want together
abbrev pub pack_name_hints : ℕ → List (Option Name)
pack_name_hints zero = []
pack_name_hints (suc n) = None ∷ []

-- what the results of an operation want, a pack one name
unfoldable pub name_hints_of : Kind → List HwType → Name → ℕ → List (Option Name)
name_hints_of (constant z) ts own n = constant_name_hint ts z ∷ []
name_hints_of (on_struct struct_explode) ts own n = pack_name_hints n
name_hints_of wire ts own n = own_name_hint own ∷ []
name_hints_of (instance i) ts own n = instance_name_hints i.name i.outputs
name_hints_of output ts own n = []
name_hints_of (register f r) ts own n = own_name_hint own ∷ []
name_hints_of async_firreg ts own n = own_name_hint own ∷ []
name_hints_of _ ts own n = None ∷ []

-- what the results of an operation want
abbrev pub name_hints : OpParts → List (Option Name)
name_hints o = name_hints_of o.kind o.types o.name (length o.results)

-- how many names an operation takes
abbrev pub name_count : OpParts → ℕ
name_count o = length (name_hints o)

-- what the results of operations want, in order
abbrev pub body_name_hints : List OpParts → List (Option Name)
body_name_hints [] = []
body_name_hints (o ∷ os) = name_hints o ++ body_name_hints os

-- what a port wants: an input its name
abbrev pub port_name_hint : Port → List (Option Name)
port_name_hint p = cond p.is_output [] (Some p.name ∷ [])

abbrev pub port_name_hints : List Port → List (Option Name)
port_name_hints [] = []
port_name_hints (p ∷ ps) = port_name_hint p ++ port_name_hints ps

-- whether the results of an operation are a pack: those of a struct with two fields or more
abbrev pub is_pack : Kind → ℕ → Bool
is_pack (on_struct struct_explode) n = nat_lt 1 n
is_pack _ n = false
