-- The words that operations take here. An integer has 1 to 128 bits, and a number of bits is below 2^64 - 1.
use Rattle.std.specs.Prelude.{◌≡◌, ℕ, ◌+◌, ◌-◌, ◌^◌, ◌≤◌, ◌<◌, List, [], ◌∷◌, length, All, ⊤}
use Rattle.bits_core.specs.Word.{Word, number}
use Rattle.hw_model.specs.Types.{HwType, width}
use Rattle.hw_model.specs.Types.HwType.{array, struct}
use Rattle.hw_model.specs.Kinds.{Kind, Literal, Literals, ArrayOp, StructOp}
use Rattle.hw_model.specs.Kinds.Literal.{leaf, parts}
use Rattle.hw_model.specs.Kinds.Literals.{no_literals, literal}
use Rattle.hw_model.specs.Kinds.ArrayOp.{array_create, array_concat, array_get, array_slice, array_inject}
use Rattle.hw_model.specs.Kinds.StructOp.{struct_create, struct_extract, struct_inject, struct_explode}
use Rattle.hw_model.specs.Kinds.Kind.{concat, mux, aggregate_constant, on_array, on_struct, bitcast, wire, instance, output, register, async_firreg}
use Rattle.hw_model.specs.IntegerKinds.{TakesWords, OfTwo}

-- a width that integers have
abbrev pub IsIntegerWidth : ℕ → Type 0
IsIntegerWidth w = (1 ≤ w) × (w ≤ 128)

-- a word of an integer
abbrev pub IsInteger : Word → Type 0
IsInteger x = IsIntegerWidth (length x)

-- a number of bits that is counted
abbrev pub IsCounted : ℕ → Type 0
IsCounted n = n < 2 ^ 64 - 1

-- the parts of a constant of an aggregate type are integers
abbrev mutual
  pub HasIntegers : Literal → Type 0
  HasIntegers (leaf z t) = IsIntegerWidth (width t)
  HasIntegers (parts ls) = HaveIntegers ls

  pub HaveIntegers : Literals → Type 0
  HaveIntegers no_literals = ⊤
  HaveIntegers (literal l ls) = HasIntegers l × HaveIntegers ls

-- there are three words, and they are so
abbrev pub OfThree : (Word → Word → Word → Type 0) → List Word → Type 0
OfThree P (x ∷ y ∷ z ∷ []) = P x y z
OfThree P _ = ⊥

-- the first of the types that an operation writes is so
abbrev pub OnFirst : (HwType → Type 0) → List HwType → Type 0
OnFirst P [] = ⊥
OnFirst P (t ∷ ts) = P t

-- an array whose elements' bits are counted
abbrev pub IsArray : HwType → Type 0
IsArray (array n e) = IsCounted (width e)
IsArray _ = ⊥

abbrev pub IsStruct : HwType → Type 0
IsStruct (struct fs) = ⊤
IsStruct _ = ⊥

-- an array type, whose elements from the i-th on have numbers of 128 bits
abbrev pub ReachesFrom : ℕ → HwType → Type 0
ReachesFrom i (array m e) = i + m ≤ 2 ^ 128
ReachesFrom i _ = ⊥

-- any kind but concatenations and choices, which take words of any number of bits
abbrev pub IsOnIntegers : Kind → Type 0
IsOnIntegers concat = ⊥
IsOnIntegers mux = ⊥
IsOnIntegers _ = ⊤

-- the words are integers that the kind takes where its result has w bits
abbrev pub SuitIntegers : Kind → ℕ → List Word → Type 0
SuitIntegers kind w xs = IsIntegerWidth w × All IsInteger xs × TakesWords kind w xs

-- an operation on arrays that writes the types `ts`, with a result of type t, takes the words
abbrev pub ArraySuits : ArrayOp → List HwType → HwType → List Word → Type 0
ArraySuits array_create ts t xs = ⊤
ArraySuits array_concat ts t xs = ⊤
ArraySuits array_get ts t xs = OnFirst IsArray ts × OfTwo (λ a i. IsInteger i) xs
ArraySuits array_slice ts t xs = OnFirst IsArray ts × OfTwo (λ a i. IsInteger i × ReachesFrom (number i) t) xs
ArraySuits array_inject ts t xs = OnFirst IsArray ts × OfThree (λ a i v. IsInteger i) xs

-- an operation on structs
abbrev pub StructSuits : StructOp → List HwType → List Word → Type 0
StructSuits struct_create ts xs = ⊤
StructSuits (struct_extract name) ts xs = OnFirst IsStruct ts × (length xs ≡ 1)
StructSuits (struct_inject name) ts xs = OnFirst IsStruct ts × (length xs ≡ 2)
StructSuits struct_explode ts xs = OnFirst IsStruct ts × (length xs ≡ 1)

-- an operation that writes the types `ts`, with a result of type t, takes the words
abbrev pub Suits : Kind → List HwType → HwType → List Word → Type 0
Suits (aggregate_constant ls) ts t xs = HaveIntegers ls
Suits concat ts t xs = ⊤
Suits mux ts t xs = length xs ≡ 3
Suits bitcast ts t xs = length xs ≡ 1
Suits wire ts t xs = length xs ≡ 1
Suits (on_array a) ts t xs = ArraySuits a ts t xs
Suits (on_struct s) ts t xs = StructSuits s ts xs
Suits (instance i) ts t xs = ⊤
Suits output ts t xs = ⊤
Suits (register f r) ts t xs = ⊤
Suits async_firreg ts t xs = ⊤
Suits kind ts t xs = SuitIntegers kind (width t) xs
