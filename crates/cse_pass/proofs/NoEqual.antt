-- Where no pure operation is equal to an earlier one, none is once an operation without uses is gone.
use Rattle.std.proofs.Common.{◌≡◌, ◌<◌, ℕ, zero, suc, true, cond, List, length, map, remove, Option, Some, None, slice_get, refl, sym, ap, ap₂, subst, ◌∙◌, arith, option_map}
use Rattle.std.specs.Prelude.{is_some}
use Rattle.std.proofs.lemmas.List.{map-id}
use Rattle.std.proofs.lemmas.Option.{slice_get-map}
use Rattle.wiring.specs.Wiring.{In}
use Rattle.wiring.proofs.Lists.{map-map}
use Rattle.wiring.proofs.Members.{map_same}
use Rattle.wiring.proofs.Options.{option_map_some}
use Rattle.hw_model.specs.Design.{Ref, Op}
use Rattle.hw_model.specs.Design.Ref.{undefined}
use Rattle.edit_laws.specs.Edit.{retarget}
use Rattle.edit_laws.specs.Laws.{up, up_ref, without, erase_op, IsNotOf}
use Rattle.edit_laws.proofs.Positions.{down-up, get_taken}
use Rattle.edit_laws.proofs.TakeOut.{up-without}
use Rattle.fold_laws.specs.Edits.{Edit}
use Rattle.fold_laws.specs.Unused.{is_pure, fold_unused}
use Rattle.cse_pass.specs.EqualOps.{are_equal}
use Rattle.cse_pass.specs.Merges.{HasNoEqual}
use Rattle.cse_pass.specs.Trims.{trim_at, trim_sweep, trims}
use Rattle.cse_pass.specs.Cse.{IsCseOf}
use Rattle.cse_pass.proofs.EqualParts.{equal_ops_parts, equal_ops_from_parts}
use Rattle.cse_pass.proofs.EqualPositions.{none_before, has_no_equal}
use Rattle.cse_pass.proofs.UnusedOps.{unused_found, unused_operands}

-- positions keep their order where one is put in
pub up_less : (i a b : ℕ) → a < b → up i a < up i b
up_less zero a b less = omega (arith, less)
up_less (suc i) a zero less = absurd (omega (arith, less))
up_less (suc i) zero (suc b) less = omega arith
up_less (suc i) (suc a) (suc b) less = let rest : up i a < up i b = up_less i a b (omega (arith, less)) in omega (arith, rest)

-- an operation of the body without that at position i
left_at : (os : List Op) (i j : ℕ) (y : Op) → slice_get (erase_op i undefined os) j ≡ Some y → (o : Op) × (slice_get os (up i j) ≡ Some o) × (retarget (without i undefined) o ≡ y)
left_at os i j y is =
    option_map_some (retarget (without i undefined)) (slice_get os (up i j))
    (sym (slice_get-map (retarget (without i undefined)) (remove os i) j ∙ ap (option_map (retarget (without i undefined))) (get_taken os i (up i j) j (down-up i j))) ∙ is)

-- operands that are none of its results are found again
operands_again : (i : ℕ) (rs : List Ref) → ((r : Ref) → In r rs → IsNotOf i r) → map (up_ref i) (map (without i undefined) rs) ≡ rs
operands_again i rs other =
    map-map (up_ref i) (without i undefined) rs
    ∙ map_same (λ r. up_ref i (without i undefined r)) (λ r. r) rs (λ r here. up-without i undefined r (other r here))
    ∙ map-id rs

-- operations that are equal without it were equal
equal_before_too : (i : ℕ) (o p : Op) → ((r : Ref) → In r o.operands → IsNotOf i r) → ((r : Ref) → In r p.operands → IsNotOf i r)
    → are_equal (retarget (without i undefined) o) (retarget (without i undefined) p) ≡ true → are_equal o p ≡ true
equal_before_too i o p other_o other_p same =
    let parts = equal_ops_parts (retarget (without i undefined) o) (retarget (without i undefined) p) same in
    equal_ops_from_parts o p (sym (operands_again i o.operands other_o) ∙ ap (map (up_ref i)) parts.0 ∙ operands_again i p.operands other_p) parts.1 parts.2 parts.3

trimmed_none : (os : List Op) (i : ℕ) → HasNoEqual os → HasNoEqual (trim_at i os)
trimmed_none os i none = go (fold_unused os i) refl
  where
    go : (x : Option (List Edit)) → fold_unused os i ≡ x → HasNoEqual (cond (is_some x) (erase_op i undefined os) os)
    go None is = none
    go (Some es) is =
        let found = unused_found os i es is in
        has_no_equal (erase_op i undefined os) (λ b a y x at_b pure at_a less same.
        let old_y = left_at os i b y at_b in
        let old_x = left_at os i a x at_a in
        none_before os none (up i b) (up i a) old_y.0 old_x.0 old_y.1 (ap (λ (z : Op). is_pure z.kind) old_y.2 ∙ pure) old_x.1 (up_less i a b less)
        (equal_before_too i old_x.0 old_y.0 (λ r here. unused_operands i os found.unused (up i a) old_x.0 r old_x.1 here)
        (λ r here. unused_operands i os found.unused (up i b) old_y.0 r old_y.1 here)
        (ap₂ are_equal old_x.2 old_y.2 ∙ same)))

sweep_none : (n : ℕ) (os : List Op) → HasNoEqual os → HasNoEqual (trim_sweep n os)
sweep_none zero os none = none
sweep_none (suc n) os none = sweep_none n (trim_at n os) (trimmed_none os n none)

trims_none : (n : ℕ) (os : List Op) → HasNoEqual os → HasNoEqual (trims n os)
trims_none zero os none = none
trims_none (suc n) os none = trims_none n (trim_sweep (length os) os) (sweep_none (length os) os none)

-- what is made of operations has none
pub cse_none_equal : (os os' : List Op) → IsCseOf os os' → HasNoEqual os'
cse_none_equal os os' cse = subst HasNoEqual (sym cse.trimmed.is) (trims_none cse.trimmed.sweeps cse.between cse.merged.none_left)
