-- An operation on integers whose operands all are constants may become the constant of its value.
use Rattle.std.proofs.Common.{◌≡◌, ℕ, ◌^◌, ◌<◌, ◌≤◌, max, Bool, true, false, cond, List, [], ◌∷◌, length, map, Option, Some, None, refl, sym, ap, ap₂, subst, ◌∙◌, arith, option_map}
use Rattle.std.specs.List.{list_any}
use Rattle.wiring.proofs.Options.{and_then_some, option_map_some}
use Rattle.bits_core.specs.Word.{Word, number, bits}
use Rattle.bits_core.proofs.Numbers.{bits-number, number_below}
use Rattle.hw_model.specs.Types.{Name, HwType, width}
use Rattle.hw_model.specs.Types.HwType.{int}
use Rattle.hw_model.specs.Kinds.{Kind}
use Rattle.hw_model.specs.Kinds.Kind.{variadic, sub, division, shift, icmp, parity, extract, concat, replicate, mux}
use Rattle.hw_model.specs.Design.{Ref, Op, register_form, instance_in}
use Rattle.hw_model.specs.Sound.{HasWidth, HaveWidths}
use Rattle.hw_model.specs.Value.{op_value}
use Rattle.hw_model.specs.Weight.{kind_weight}
use Rattle.hw_model.proofs.Widths.{fits_width}
use Rattle.type_inference.specs.ResultTypes.{first_type, result_type as type_of_result}
use Rattle.stored_form.specs.ResultTypes.{type_or_none}
use Rattle.op_checks.specs.CountChecks.{operands_written, type_count}
use Rattle.op_checks.specs.LimitChecks.{has_wide_concat}
use Rattle.op_checks.specs.OperandChecks.{has_other_form}
use Rattle.op_checks.specs.TypeChecks.{is_outside}
use Rattle.op_checks.proofs.Widths.{neither}
use Rattle.fold_laws.specs.Constants.{constant_at}
use Rattle.fold_laws.specs.Evaluated.{is_comb, constants_at, value_of_constants}
use Rattle.fold_laws.proofs.IntegerTypes.{IsIntegerType, integer_first, integer_second, integer_bit, integer_joined}
use Rattle.fold_laws.proofs.MadeKinds.{is_made}
use Rattle.fold_laws.proofs.Numbered.{Makes, IsNumbering}
use Rattle.fold_laws.proofs.Stands.{Known}

-- ---- kinds

comb_made : (kind : Kind) → is_comb kind ≡ true → (is_made kind ≡ true) × (register_form kind ≡ None) × (instance_in kind ≡ None)
comb_made (variadic v) is = (refl, refl, refl)
comb_made sub is = (refl, refl, refl)
comb_made (division d) is = (refl, refl, refl)
comb_made (shift s) is = (refl, refl, refl)
comb_made (icmp p) is = (refl, refl, refl)
comb_made parity is = (refl, refl, refl)
comb_made (extract low) is = (refl, refl, refl)
comb_made concat is = (refl, refl, refl)
comb_made replicate is = (refl, refl, refl)
comb_made mux is = (refl, refl, refl)
comb_made _ is = cc

-- ---- the operands' words

-- constants have the widths of their types
constants_wide : (os : List Op) (type_of : Ref → Option HwType) → ((r : Ref) (w : Word) → constant_at os r ≡ Some w → type_of r ≡ Some (int (length w)))
    → (rs : List Ref) (ws : List Word) → constants_at os rs ≡ Some ws → HaveWidths (map type_of rs) ws
constants_wide os type_of typed [] ws is = let none : [] ≡ ws = cc in subst (HaveWidths []) none tt
constants_wide os type_of typed (r ∷ rs) ws is =
    let word = and_then_some (constant_at os r) (λ (w : Word). option_map (λ (vs : List Word). w ∷ vs) (constants_at os rs)) is in
    let rest = option_map_some (λ (vs : List Word). word.0 ∷ vs) (constants_at os rs) word.2 in
    subst (HaveWidths (map type_of (r ∷ rs))) rest.2
    (subst (λ t. HasWidth t word.0) (sym (typed r word.0 word.1)) refl, constants_wide os type_of typed rs rest.0 rest.1)

-- and are the words of the operands
constants_are : (os : List Op) (τ : Ref → Word) → ((r : Ref) (w : Word) → constant_at os r ≡ Some w → τ r ≡ w)
    → (rs : List Ref) (ws : List Word) → constants_at os rs ≡ Some ws → map τ rs ≡ ws
constants_are os τ held [] ws is = let none : [] ≡ ws = cc in none
constants_are os τ held (r ∷ rs) ws is =
    let word = and_then_some (constant_at os r) (λ (w : Word). option_map (λ (vs : List Word). w ∷ vs) (constants_at os rs)) is in
    let rest = option_map_some (λ (vs : List Word). word.0 ∷ vs) (constants_at os rs) word.2 in
    ap₂ (λ v vs. v ∷ vs) (held r word.0 word.1) (constants_are os τ held rs rest.0 rest.1) ∙ rest.2

-- ---- the result

-- a type that is written alone, and is an integer's
integer_alone : (ts : List HwType) (t : HwType) (n : ℕ) → length ts ≡ 1 → list_any is_outside ts ≡ false → t ≡ type_or_none (first_type ts) → t ≡ int n → IsIntegerType t
integer_alone [] t n one limits settled is = absurd (omega arith)
integer_alone (u ∷ []) t n one limits settled is = record {
  bits_of = n;
  type_is = is;
  within = ap is_outside (sym is ∙ settled) ∙ (neither (is_outside u) false limits).0;
}
integer_alone (u ∷ v ∷ ts) t n one limits settled is = absurd (omega arith)

-- a branch of a mux of constants is an integer
integer_branch : (os : List Op) (type_of : Ref → Option HwType) (t : HwType) → ((r : Ref) (w : Word) → constant_at os r ≡ Some w → type_of r ≡ Some (int (length w)))
    → (rs : List Ref) (ws : List Word) → constants_at os rs ≡ Some ws → map type_of rs ≡ Some (int 1) ∷ Some t ∷ Some t ∷ [] → (n : ℕ) × (t ≡ int n)
integer_branch os type_of t typed [] ws are fits = cc
integer_branch os type_of t typed (c ∷ []) ws are fits = cc
integer_branch os type_of t typed (c ∷ x ∷ rs) ws are fits =
    let first = and_then_some (constant_at os c) (λ (w : Word). option_map (λ (vs : List Word). w ∷ vs) (constants_at os (x ∷ rs))) are in
    let rest = option_map_some (λ (vs : List Word). first.0 ∷ vs) (constants_at os (x ∷ rs)) first.2 in
    let word = and_then_some (constant_at os x) (λ (w : Word). option_map (λ (vs : List Word). w ∷ vs) (constants_at os rs)) rest.1 in
    let branch : type_of x ≡ Some t = cc in
    let both : Some t ≡ Some (int (length word.0)) = sym branch ∙ typed x word.0 word.1 in
    (length word.0, cc)

integer_made : (os : List Op) (kind : Kind) (ts : List HwType) (type_of : Ref → Option HwType) (t : HwType) (rs : List Ref) (ws : List Word)
    → is_comb kind ≡ true → constants_at os rs ≡ Some ws → Known os kind ts rs type_of t → IsIntegerType t
unfolding has_other_form has_wide_concat type_of_result operands_written type_count
integer_made os (variadic v) ts type_of t rs ws is are known = integer_first ts t known.written known.form known.limits known.settled
integer_made os sub ts type_of t rs ws is are known = integer_first ts t known.written known.form known.limits known.settled
integer_made os (division d) ts type_of t rs ws is are known = integer_first ts t known.written known.form known.limits known.settled
integer_made os (shift s) ts type_of t rs ws is are known = integer_first ts t known.written known.form known.limits known.settled
integer_made os (icmp p) ts type_of t rs ws is are known = integer_bit t known.settled
integer_made os parity ts type_of t rs ws is are known = integer_bit t known.settled
integer_made os (extract low) ts type_of t rs ws is are known = integer_second ts t known.written known.form known.limits known.settled
integer_made os concat ts type_of t rs ws is are known =
    let some : length rs ≡ max 1 (length rs) = known.operands in
    let same : length ts ≡ length rs = known.written in
    integer_joined ts t (omega arith) known.form known.limits known.narrow known.settled
integer_made os replicate ts type_of t rs ws is are known = integer_second ts t known.written known.form known.limits known.settled
integer_made os mux ts type_of t rs ws is are known =
    let branch = integer_branch os type_of t known.constants rs ws are known.fits in
    integer_alone ts t branch.0 known.written known.limits known.settled branch.1
integer_made os _ ts type_of t rs ws is are known = cc

-- an operation on integers weighs something
comb_weighs : (inner : Name → ℕ) (kind : Kind) (ts : List HwType) (n : ℕ) (t : HwType) (w : ℕ) → is_comb kind ≡ true → t ≡ int w
    → t ≡ type_or_none (type_of_result kind ts n) → length ts ≡ type_count kind n → 1 ≤ kind_weight inner kind ts n
unfolding type_of_result type_count
comb_weighs inner mux [] n t w comb is settled written = absurd (omega arith)
comb_weighs inner mux (u ∷ []) n t w comb is settled written =
    subst (λ v. 1 ≤ kind_weight inner mux (v ∷ []) n) (sym is ∙ settled) (omega arith)
comb_weighs inner mux (u ∷ v ∷ ts) n t w comb is settled written = absurd (omega arith)
comb_weighs inner (variadic v) ts n t w comb is settled written = omega arith
comb_weighs inner sub ts n t w comb is settled written = omega arith
comb_weighs inner (division d) ts n t w comb is settled written = omega arith
comb_weighs inner (shift s) ts n t w comb is settled written = omega arith
comb_weighs inner (icmp p) ts n t w comb is settled written = omega arith
comb_weighs inner parity ts n t w comb is settled written = omega arith
comb_weighs inner (extract low) ts n t w comb is settled written = omega arith
comb_weighs inner concat ts n t w comb is settled written = omega arith
comb_weighs inner replicate ts n t w comb is settled written = omega arith
comb_weighs inner _ ts n t w comb is settled written = cc

-- ---- the value

pub evaluated_makes : IsNumbering value_of_constants
evaluated_makes = record { made = made; makes = makes }
  where
    made : (os : List Op) (kind : Kind) (ts : List HwType) (t : HwType) (rs : List Ref) (n : ℕ) → value_of_constants os kind ts t rs ≡ Some n → is_made kind ≡ true
    made os kind ts t rs n is = go (is_comb kind) refl is
      where
        go : (b : Bool) → is_comb kind ≡ b → cond b (option_map (λ (ws : List Word). number (op_value kind ts t 0 ws)) (constants_at os rs)) None ≡ Some n → is_made kind ≡ true
        go true comb h = (comb_made kind comb).0
        go false comb h = cc

    of_comb : (os : List Op) (kind : Kind) (ts : List HwType) (rs : List Ref) (n : ℕ) (type_of : Ref → Option HwType) (t : HwType) → is_comb kind ≡ true
        → (ws : List Word) → constants_at os rs ≡ Some ws → number (op_value kind ts t 0 ws) ≡ n → Known os kind ts rs type_of t → Makes os kind ts rs n type_of t
    of_comb os kind ts rs n type_of t comb ws are is known =
        let plain = comb_made kind comb in
        let integer = integer_made os kind ts type_of t rs ws comb are known in
        let size : length (op_value kind ts t 0 ws) ≡ integer.bits_of =
        fits_width kind ts (map type_of rs) t 0 ws plain.1 plain.2 known.fits (constants_wide os type_of known.constants rs ws are) ∙ ap width integer.type_is in
        record {
          bits_of = integer.bits_of;
          type_is = integer.type_is;
          within = integer.within;
          small = subst (λ m. m < 2 ^ integer.bits_of) is (subst (λ m. number (op_value kind ts t 0 ws) < 2 ^ m) size (number_below (op_value kind ts t 0 ws)));
          weighs = λ inner. comb_weighs inner kind ts (length rs) t integer.bits_of comb integer.type_is known.settled known.written;
          words = λ τ held.
              ap (op_value kind ts t 0) (constants_are os τ held.constants rs ws are) ∙ sym (bits-number (op_value kind ts t 0 ws)) ∙ ap₂ bits size is;
        }

    makes : (os : List Op) (kind : Kind) (ts : List HwType) (rs : List Ref) (n : ℕ) (type_of : Ref → Option HwType) (t : HwType)
        → value_of_constants os kind ts t rs ≡ Some n → Known os kind ts rs type_of t → Makes os kind ts rs n type_of t
    makes os kind ts rs n type_of t is known = go (is_comb kind) refl is
      where
        go : (b : Bool) → is_comb kind ≡ b → cond b (option_map (λ (ws : List Word). number (op_value kind ts t 0 ws)) (constants_at os rs)) None ≡ Some n → Makes os kind ts rs n type_of t
        go true comb h =
            let words = option_map_some (λ (ws : List Word). number (op_value kind ts t 0 ws)) (constants_at os rs) h in
            of_comb os kind ts rs n type_of t comb words.0 words.1 words.2 known
        go false comb h = cc
