-- An operation's kind is told by its name and by what is said of it.
use Rattle.std.proofs.Common.{◌≡◌, ℕ, suc, ◌-◌, ◌*◌, ◌^◌, ◌<◌, ◌≤◌, Bool, true, false, cond, ◌&&◌, List, [], ◌∷◌, refl, ap, ◌∙◌, arith}
use Rattle.std.specs.Prelude.{ℤ, pos, negsuc, nat_lt, nat_le, Some}
use Rattle.std.proofs.Math.Nat.{pow-succ'}
use Rattle.std.proofs.lemmas.Bool.{and_parts, and_from, ltb-true, leb-true, lt-ltb}
use Rattle.hw_model.specs.Types.{HwType}
use Rattle.hw_model.specs.Types.HwType.{int, clock, array, struct}
use Rattle.hw_model.specs.Kinds.{Kind, Literal, Literals, Variadic, Division, Shift, ArrayOp}
use Rattle.hw_model.specs.Kinds.Reset.{no_reset, sync_reset}
use Rattle.hw_model.specs.Kinds.Literal.{leaf, parts}
use Rattle.hw_model.specs.Kinds.Literals.{no_literals, literal}
use Rattle.hw_model.specs.Kinds.StructOp.{struct_create}
use Rattle.hw_model.specs.Kinds.RegisterOp.{compreg, compreg_ce, firreg}
use Rattle.hw_model.specs.Kinds.Kind.{variadic, division, shift, constant, aggregate_constant, on_array, on_struct, register, async_firreg}
use Rattle.hw_model.specs.Opcodes.{opcode_of, variadic_opcode, division_opcode, shift_opcode, array_opcode, kind_named_by}
use Rattle.mlir_operations.specs.ElementText.{InherentAttributes}
use Rattle.mlir_operations.specs.ElementText.InherentAttributes.{nothing}
use Rattle.mlir_reader.specs.Resolving.{inherent_kind, kind_or, kind_named}
use Rattle.stored_form.specs.Constants.{has_negative, kept_number, kept_integer, kept_by_first, kept_literal, kept_literals}
use Rattle.printing_laws.specs.Numbers.{is_negative, shown_number, shown_integer, shown_by_first, shown_literal, shown_literals}
use Rattle.mlir_printer.specs.Texts.{inherent_shown}
use Rattle.stored_form.specs.Kinds.{KeepsConstants}

-- ---- constants

pub negative_parts : (w n : ℕ) → is_negative w n ≡ true → (1 < w) × (w < 129) × (2 ^ (w - 1) ≤ n) × (n < 2 ^ w)
negative_parts w n h =
    let a = and_parts (nat_lt 1 w) (nat_lt w 129 && (nat_le (2 ^ (w - 1)) n && nat_lt n (2 ^ w))) h in
    let b = and_parts (nat_lt w 129) (nat_le (2 ^ (w - 1)) n && nat_lt n (2 ^ w)) a.1 in
    let c = and_parts (nat_le (2 ^ (w - 1)) n) (nat_lt n (2 ^ w)) b.1 in
    (ltb-true 1 w a.0, ltb-true w 129 b.0, leb-true (2 ^ (w - 1)) n c.0, ltb-true n (2 ^ w) c.1)

-- 2^w is twice 2^(w - 1)
doubled : (w : ℕ) → 1 < w → 2 ^ w ≡ 2 * 2 ^ (w - 1)
doubled w lt = let e : w ≡ suc (w - 1) = omega (arith, lt) in ap (λ k. 2 ^ k) e ∙ pow-succ' 2 (w - 1)

number_again : (w : ℕ) (z : ℤ) → kept_number w z ≡ z → kept_number w (shown_number w z) ≡ z
number_again w (negsuc n) h = h
number_again w (pos n) h = go (is_negative w n) refl
  where
    go : (b : Bool) → is_negative w n ≡ b → kept_number w (cond b (negsuc (2 ^ w - 1 - n)) (pos n)) ≡ pos n
    go false e = refl
    go true e =
        let p = negative_parts w n e in
        let lo = p.2 in
        let hi = p.3 in
        let d = doubled w p.0 in
        let there : has_negative w (2 ^ w - 1 - n) ≡ true =
        and_from (nat_lt 0 w) (nat_lt w 129 && nat_lt (2 ^ w - 1 - n) (2 ^ (w - 1))) (lt-ltb 0 w (omega (arith, p.0)))
        (and_from (nat_lt w 129) (nat_lt (2 ^ w - 1 - n) (2 ^ (w - 1))) (lt-ltb w 129 p.1)
        (lt-ltb (2 ^ w - 1 - n) (2 ^ (w - 1)) (omega (arith, d, lo, hi)))) in
        let back : 2 ^ w - 1 - (2 ^ w - 1 - n) ≡ n = omega (arith, hi) in
        ap (λ b. cond b (pos (2 ^ w - 1 - (2 ^ w - 1 - n))) (negsuc (2 ^ w - 1 - n))) there ∙ ap (λ k. pos k) back

integer_again : (t : HwType) (z : ℤ) → kept_integer t z ≡ z → kept_integer t (shown_integer t z) ≡ z
integer_again (int w) z h = number_again w z h
integer_again clock z h = refl
integer_again (array n t) z h = refl
integer_again (struct fs) z h = refl

by_first_again : (ts : List HwType) (z : ℤ) → kept_by_first ts z ≡ z → kept_by_first ts (shown_by_first ts z) ≡ z
by_first_again [] z h = refl
by_first_again (t ∷ ts) z h = integer_again t z h

mutual
  literal_again : (l : Literal) → kept_literal l ≡ l → kept_literal (shown_literal l) ≡ l
  literal_again (leaf z t) h = let e : kept_integer t z ≡ z = cc in ap (λ y. leaf y t) (integer_again t z e)
  literal_again (parts ls) h = let e : kept_literals ls ≡ ls = cc in ap parts (literals_again ls e)

  literals_again : (ls : Literals) → kept_literals ls ≡ ls → kept_literals (shown_literals ls) ≡ ls
  literals_again no_literals h = refl
  literals_again (literal l ls) h =
      let e : kept_literal l ≡ l = cc in
      let f : kept_literals ls ≡ ls = cc in
      ap (λ k. literal k (kept_literals (shown_literals ls))) (literal_again l e) ∙ ap (λ ks. literal l ks) (literals_again ls f)

-- ---- kinds

-- a kind that its opcode alone tells
told : (k : Kind) (e : InherentAttributes) (ts : List HwType) → kind_named_by (opcode_of k) ≡ Some k → kind_named (opcode_of k) e ts ≡ k
told k e ts found = ap (λ o. kind_or o (inherent_kind (opcode_of k) e ts)) found

variadic_told : (v : Variadic) → kind_named_by (variadic_opcode v) ≡ Some (variadic v)
variadic_told v = grind arith

division_told : (d : Division) → kind_named_by (division_opcode d) ≡ Some (division d)
division_told d = grind arith

shift_told : (s : Shift) → kind_named_by (shift_opcode s) ≡ Some (shift s)
shift_told s = grind arith

array_told : (a : ArrayOp) → kind_named_by (array_opcode a) ≡ Some (on_array a)
array_told a = grind arith

pub kind_again : (k : Kind) (ts : List HwType) → KeepsConstants k ts → kind_named (opcode_of k) (inherent_shown k ts) ts ≡ k
unfolding inherent_shown inherent_kind
kind_again (variadic v) ts h = told (variadic v) nothing ts (variadic_told v)
kind_again (division d) ts h = told (division d) nothing ts (division_told d)
kind_again (shift s) ts h = told (shift s) nothing ts (shift_told s)
kind_again (on_array a) ts h = told (on_array a) nothing ts (array_told a)
kind_again (constant z) ts h = ap (λ y. constant y) (by_first_again ts z h)
kind_again (aggregate_constant ls) ts h = ap (λ y. aggregate_constant y) (literals_again ls h)
kind_again (on_struct struct_create) ts h = refl
kind_again (on_struct _) ts h = refl
kind_again (register compreg no_reset) ts h = refl
kind_again (register compreg sync_reset) ts h = refl
kind_again (register compreg_ce no_reset) ts h = refl
kind_again (register compreg_ce sync_reset) ts h = refl
kind_again (register firreg no_reset) ts h = refl
kind_again (register firreg sync_reset) ts h = refl
kind_again async_firreg ts h = refl
kind_again _ ts h = refl
