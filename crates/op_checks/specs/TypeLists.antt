-- Tests of the types that an operation writes, gives and takes.
use Rattle.std.specs.Prelude.{ℕ, zero, suc, Bool, true, false, not, ◌||◌, List, [], ◌∷◌, map, Option, Some, None}
use Rattle.hw_model.specs.Types.{HwType}
use Rattle.hw_model.specs.Types.HwType.{int, array, struct}
use Rattle.hw_model.specs.SameType.{same_type}
use Rattle.op_checks.specs.TypeChecks.{is_int}

-- each of the types, as one that is known
abbrev pub known_types : List HwType → List (Option HwType)
known_types ts = map (λ (t : HwType). Some t) ts

-- whether a type is there and is no integer
abbrev pub is_no_int : Option HwType → Bool
is_no_int None = false
is_no_int (Some t) = not (is_int t)

-- whether a type is there and is no array
abbrev pub is_no_array : Option HwType → Bool
is_no_array None = false
is_no_array (Some (array n t)) = false
is_no_array (Some _) = true

-- whether a type is there and is no struct
abbrev pub is_no_struct : Option HwType → Bool
is_no_struct None = false
is_no_struct (Some (struct fs)) = false
is_no_struct (Some _) = true

-- the width of an integer's type
abbrev pub int_width : Option HwType → Option ℕ
int_width (Some (int w)) = Some w
int_width _ = None

-- the length of an array's type
abbrev pub array_length : Option HwType → Option ℕ
array_length (Some (array n t)) = Some n
array_length _ = None

-- whether two types are both there and differ: a type that is not settled is compared with nothing
abbrev pub differs : Option HwType → Option HwType → Bool
differs None y = false
differs (Some t) None = false
differs (Some t) (Some u) = not (same_type t u)

-- whether one of the types differs from a type
abbrev pub any_differs : List (Option HwType) → Option HwType → Bool
any_differs [] y = false
any_differs (x ∷ xs) y = differs x y || any_differs xs y

-- whether two lists differ at a position that both have
abbrev pub differ : List (Option HwType) → List (Option HwType) → Bool
differ [] ys = false
differ (x ∷ xs) [] = false
differ (x ∷ xs) (y ∷ ys) = differs x y || differ xs ys

-- the type at a position; none where there is no such position or it is not settled
abbrev pub settled_at : List (Option HwType) → ℕ → Option HwType
settled_at [] n = None
settled_at (x ∷ xs) zero = x
settled_at (x ∷ xs) (suc n) = settled_at xs n

-- whether one of the first two types differs from what it is to be
abbrev pub differ_in_two : List (Option HwType) → Option HwType → Option HwType → Bool
differ_in_two xs y z = differs (settled_at xs 0) y || differs (settled_at xs 1) z

-- whether one of the first three does
abbrev pub differ_in_three : List (Option HwType) → Option HwType → Option HwType → Option HwType → Bool
differ_in_three xs x y z = differs (settled_at xs 0) x || (differs (settled_at xs 1) y || differs (settled_at xs 2) z)
