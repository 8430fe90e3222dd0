-- Operations that have one value, since their kinds, operands and types are the same (MLIR documentation, "Passes": `cse`).
use Rattle.std.specs.Prelude.{◌≡◌, ◌<◌, ℕ, suc, ℤ, pos, Bool, true, ◌&&◌, cond, List, [], ◌∷◌, map, take, Option, Some, None, slice_get, option_and_then, option_map}
use Rattle.std.specs.Cmp.Lexicographic.{pointwise}
use Rattle.bits_core.specs.Word.{number, bits_of_ℤ}
use Rattle.hw_model.specs.Types.{HwType, width}
use Rattle.hw_model.specs.Kinds.{Kind, Literal, Literals}
use Rattle.hw_model.specs.Kinds.Kind.{constant, aggregate_constant}
use Rattle.hw_model.specs.Kinds.Literal.{leaf, parts}
use Rattle.hw_model.specs.Kinds.Literals.{no_literals, literal}
use Rattle.hw_model.specs.Design.{Op, OpResult, result_type}
use Rattle.hw_model.specs.SameKind.{same_kind}
use Rattle.hw_model.specs.SameType.{same_type}
use Rattle.ir_store.specs.Positions.{same_ref}
use Rattle.fold_laws.specs.Unused.{is_pure}

-- a number as a type of so many bits reads it: 255 and -1 are one of 8 bits
abbrev pub value_number : HwType → ℤ → ℤ
value_number t z = pos (number (bits_of_ℤ (width t) z))

-- so each number of a constant of an aggregate type
abbrev mutual
  pub value_literal : Literal → Literal
  value_literal (leaf z t) = leaf (value_number t z) t
  value_literal (parts ls) = parts (value_literals ls)

  pub value_literals : Literals → Literals
  value_literals no_literals = no_literals
  value_literals (literal l ls) = literal (value_literal l) (value_literals ls)

-- a kind with the attributes that decide the value, numbers being read so by the type of the result
abbrev pub value_kind : Option HwType → Kind → Kind
value_kind (Some t) (constant z) = constant (value_number t z)
value_kind t (aggregate_constant ls) = aggregate_constant (value_literals ls)
value_kind t kind = kind

-- the types of an operation's results
abbrev pub result_types : Op → List HwType
result_types o = map (λ (r : OpResult). r.type) o.results

-- whether two operations have the same kind, operands and types; names, dictionaries and the mark `bin` are not compared
abbrev pub are_equal : Op → Op → Bool
are_equal o p =
    same_kind (value_kind (result_type o 0) o.kind) (value_kind (result_type p 0) p.kind)
    && (pointwise same_ref o.operands p.operands && (pointwise same_type o.types p.types && pointwise same_type (result_types o) (result_types p)))

-- the first position of an operation that is equal
abbrev pub equal_position : Op → List Op → Option ℕ
equal_position o [] = None
equal_position o (p ∷ os) = cond (are_equal p o) (Some 0) (option_map suc (equal_position o os))

-- that before the pure operation at a position
abbrev pub equal_before : List Op → ℕ → Option ℕ
equal_before os i = option_and_then (λ (o : Op). cond (is_pure o.kind) (equal_position o (take i os)) None) (slice_get os i)

-- a pure operation and an equal one before it
pub record EqualFound (os : List Op) (i j : ℕ) : Type 0 where
  pub op : Op
  pub there : slice_get os i ≡ Some op
  pub pure : is_pure op.kind ≡ true
  pub first : Op
  pub first_there : slice_get os j ≡ Some first
  pub before : j < i
  pub equal : are_equal first op ≡ true
