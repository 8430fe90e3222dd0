-- Operations whose results have the types that are settled for them.
use Rattle.std.proofs.Common.{◌≡◌, Bool, true, false, List, [], ◌∷◌, map, length, refl, sym, ap, arith, ◌||◌, not, nat_lt, ◌==◌, ℕ, zero, suc, ◌<◌, get_or}
use Rattle.std.specs.Prelude.{Option, Some, None, is_some, slice_index_or}
use Rattle.hw_model.specs.Types.{HwType}
use Rattle.hw_model.specs.Types.HwType.{int, clock}
use Rattle.hw_model.specs.TypeViews.{type_of}
use Rattle.ir_store.specs.declared.operation.NewResult.{NewResult}
use Rattle.op_checks.specs.TypeChecks.{has_bad_part, is_outside}
use Rattle.op_checks.specs.TypeLists.{known_types, differs, differ}
use Rattle.op_checks.proofs.Agreeing.{agreed}
use Rattle.std.proofs.lemmas.Bool.Decides.{nat_tests}
use Rattle.op_checks.proofs.Widths.{neither}

-- the only result, where its type does not differ from the one that is settled
pub one_owned : (rs : List HwType) (x : Option HwType) → length rs ≡ 1 → is_some x ≡ true → differ (known_types rs) (x ∷ []) ≡ false → x ∷ [] ≡ known_types rs
one_owned [] x one some same = absurd (omega arith)
one_owned (r ∷ []) None one some same = cc
one_owned (r ∷ []) (Some t) one some same =
    let is : r ≡ t = agreed r t (neither (differs (Some r) (Some t)) _ same).0 in
    ap (λ (u : HwType). Some u ∷ []) (sym is)
one_owned (r ∷ s ∷ rs) x one some same = absurd (omega arith)

-- an integer or a clock has one leaf, and no more bits than its parts may have
pub integer_outside : (w : ℕ) → is_outside (int w) ≡ has_bad_part (int w)
unfolding is_outside
integer_outside w = by_test (nat_lt 128 w) refl (nat_lt 4096 w) refl
  where
    absorbed : (a : Bool) → (a || false) ≡ a
    absorbed true = refl
    absorbed false = refl

    wide : (a b : Bool) → nat_lt 128 w ≡ false → nat_lt 4096 w ≡ true → ⊥
    wide a b low high = grind (arith, nat_tests)

    by_test : (a : Bool) → nat_lt 128 w ≡ a → (b : Bool) → nat_lt 4096 w ≡ b → (((w == 0) || a) || (b || false)) ≡ ((w == 0) || a)
    by_test a is false low = absorbed ((w == 0) || a)
    by_test true is true high = go (w == 0)
      where
        go : (c : Bool) → ((c || true) || (true || false)) ≡ (c || true)
        go true = refl
        go false = refl
    by_test false is true high = absurd (wide false true is high)

pub clock_outside : is_outside clock ≡ has_bad_part clock
unfolding is_outside
clock_outside = refl

-- the type of a result in its place
pub own_index : (rs : List NewResult) (n : ℕ) (r : NewResult) → n < length rs → r ≡ get_or rs n r → Some (type_of r.ty) ≡ slice_index_or (known_types (map (λ (x : NewResult). type_of x.ty) rs)) n None
own_index [] n r low is = absurd (omega arith)
own_index (x ∷ rs) zero r low is = ap (λ (y : NewResult). Some (type_of y.ty)) is
own_index (x ∷ rs) (suc n) r low is = own_index rs n r (omega arith) is
