-- What is known of operands that are chosen by their number and by tests.
use Rattle.std.proofs.Common.{◌≡◌, Bool, true, false, cond, List, [], ◌∷◌, Option, Some, refl, sym, ap, ◌∙◌, inl, inr}
use Rattle.wiring.specs.Wiring.{In}
use Rattle.hw_model.specs.Types.{HwType}
use Rattle.hw_model.specs.SameType.{type_from}
use Rattle.hw_model.specs.Design.{Ref}
use Rattle.fold_laws.specs.Standing.{when, only_operand, first_where, of_three_operands, first_operand, writes_one_type}

pub when_is : (b : Bool) (o : Option Ref) (x : Ref) → when b o ≡ Some x → (b ≡ true) × (o ≡ Some x)
when_is true o x is = (refl, is)
when_is false o x is = cc

pub only_is : (rs : List Ref) (x : Ref) → only_operand rs ≡ Some x → rs ≡ x ∷ []
only_is [] x is = cc
only_is (y ∷ []) x is = let same : y ≡ x = cc in ap (λ z. z ∷ []) same
only_is (y ∷ z ∷ rs) x is = cc

-- the first of two operands
pub record FirstOfTwo (test : Ref → Bool) (rs : List Ref) (x : Ref) : Type 0 where
  pub second : Ref
  pub operands : rs ≡ x ∷ second ∷ []
  pub met : test second ≡ true

pub first_is : (test : Ref → Bool) (rs : List Ref) (x : Ref) → first_where test rs ≡ Some x → FirstOfTwo test rs x
first_is test [] x is = cc
first_is test (a ∷ []) x is = cc
first_is test (a ∷ b ∷ []) x is =
    let met = when_is (test b) (Some a) x is in
    let same : a ≡ x = cc in
    record { second = b; operands = ap (λ z. z ∷ b ∷ []) same; met = met.0 }
first_is test (a ∷ b ∷ c ∷ rs) x is = cc

-- three operands
pub record OfThree (choose : Ref → Ref → Ref → Option Ref) (rs : List Ref) (x : Ref) : Type 0 where
  pub condition : Ref
  pub first : Ref
  pub second : Ref
  pub operands : rs ≡ condition ∷ first ∷ second ∷ []
  pub chosen : choose condition first second ≡ Some x

pub three_are : (choose : Ref → Ref → Ref → Option Ref) (rs : List Ref) (x : Ref) → of_three_operands choose rs ≡ Some x → OfThree choose rs x
three_are choose [] x is = cc
three_are choose (a ∷ []) x is = cc
three_are choose (a ∷ b ∷ []) x is = cc
three_are choose (a ∷ b ∷ c ∷ []) x is = record { condition = a; first = b; second = c; operands = refl; chosen = is }
three_are choose (a ∷ b ∷ c ∷ e ∷ rs) x is = cc

-- an operand that meets a test
pub first_operand_is : (test : Ref → Bool) (rs : List Ref) (x : Ref) → first_operand test rs ≡ Some x → In x rs × (test x ≡ true)
first_operand_is test [] x is = cc
first_operand_is test (y ∷ rs) x is = go (test y) refl is (first_operand_is test rs x)
  where
    go : (b : Bool) → test y ≡ b → cond b (Some y) (first_operand test rs) ≡ Some x → (first_operand test rs ≡ Some x → In x rs × (test x ≡ true))
        → In x (y ∷ rs) × (test x ≡ true)
    go true met is later = let same : x ≡ y = cc in (inl same, ap test same ∙ met)
    go false met is later = let rest = later is in (inr rest.0, rest.1)

-- two written types that are one
pub one_type_is : (ts : List HwType) → writes_one_type ts ≡ true → (t : HwType) × (ts ≡ t ∷ t ∷ [])
one_type_is [] is = cc
one_type_is (t ∷ []) is = cc
one_type_is (t ∷ u ∷ []) is = (t, ap (λ v. t ∷ v ∷ []) (sym (type_from t u is)))
one_type_is (t ∷ u ∷ v ∷ ts) is = cc
