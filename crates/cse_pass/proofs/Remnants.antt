-- Operations without uses that go, in whatever order, leave one thing where each pure operation that is left has a use.
use Rattle.std.proofs.Common.{◌≡◌, ◌+◌, ◌-◌, ◌<◌, ◌≤◌, ℕ, zero, suc, Bool, true, false, cond, not, ◌&&◌, ◌||◌, nat_lt, List, [], ◌∷◌}
use Rattle.std.proofs.Common.{length, remove, Option, Some, None, slice_get, refl, sym, ap, subst, ◌∙◌, inl, inr, arith, option_and_then, option_map}
use Rattle.std.specs.List.{list_any}
use Rattle.std.proofs.lemmas.Bool.{ltb-true, ltb-false, eqb-true}
use Rattle.std.proofs.lemmas.List.{length-map, map-id}
use Rattle.std.proofs.lemmas.Option.{slice_get-map, slice_get_within}
use Rattle.wiring.specs.Wiring.{In}
use Rattle.wiring.proofs.Edits.{length-remove_suc}
use Rattle.wiring.proofs.Lists.{map-map, same_positions}
use Rattle.wiring.proofs.Members.{map_same, from_In-map}
use Rattle.wiring.proofs.Options.{option_map_some, and_then_some}
use Rattle.hw_model.specs.Design.{Ref, Op}
use Rattle.hw_model.specs.Design.Ref.{port, result, undefined}
use Rattle.edit_laws.specs.Edit.{retarget}
use Rattle.edit_laws.specs.Laws.{up, down, without, ref_after_erase, erase_op}
use Rattle.edit_laws.proofs.Positions.{down-up, up_from_down, down_none, get_taken}
use Rattle.fold_laws.specs.Edits.Edit.{erased}
use Rattle.fold_laws.specs.Unused.{is_pure, is_result_of, is_used}
use Rattle.cse_pass.specs.Trims.{IsTrim, HasNoUnused, TrimsBy}
use Rattle.cse_pass.proofs.NoEqual.{up_less}
use Rattle.cse_pass.proofs.Places.{up_past, up_less_from, up_above, or_at}
use Rattle.cse_pass.proofs.UnusedOps.{UnusedFound, unused_found, unused_operands}

-- ---- values that move with their operations, or are gone

abbrev kept_at : Option ℕ → ℕ → Ref
kept_at None k = undefined
kept_at (Some n) k = result n k

abbrev kept_ref : (ℕ → Option ℕ) → Ref → Ref
kept_ref f (port n) = port n
kept_ref f (result n k) = kept_at (f n) k
kept_ref f undefined = undefined

kept_same : (f g : ℕ → Option ℕ) → ((n : ℕ) → f n ≡ g n) → (r : Ref) → kept_ref f r ≡ kept_ref g r
kept_same f g same (port n) = refl
kept_same f g same (result n k) = ap (λ z. kept_at z k) (same n)
kept_same f g same undefined = refl

kept_stays : (f : ℕ → Option ℕ) → ((n : ℕ) → f n ≡ Some n) → (r : Ref) → kept_ref f r ≡ r
kept_stays f same (port n) = refl
kept_stays f same (result n k) = ap (λ z. kept_at z k) (same n)
kept_stays f same undefined = refl

abbrev chained : (ℕ → Option ℕ) → (ℕ → Option ℕ) → ℕ → Option ℕ
chained f g n = option_and_then f (g n)

kept_twice : (f g : ℕ → Option ℕ) (r : Ref) → kept_ref f (kept_ref g r) ≡ kept_ref (chained f g) r
kept_twice f g (port n) = refl
kept_twice f g undefined = refl
kept_twice f g (result n k) = go (g n)
  where
    go : (z : Option ℕ) → kept_ref f (kept_at z k) ≡ kept_at (option_and_then f z) k
    go None = refl
    go (Some m) = refl

retarget_same : (f g : Ref → Ref) → ((r : Ref) → f r ≡ g r) → (x : Option Op) → option_map (retarget f) x ≡ option_map (retarget g) x
retarget_same f g same None = refl
retarget_same f g same (Some o) = ap (λ rs. Some (record o { operands = rs })) (map_same f g o.operands (λ r here. same r))

retarget_twice : (f g : Ref → Ref) (x : Option Op) → option_map (retarget f) (option_map (retarget g) x) ≡ option_map (retarget (λ r. f (g r))) x
retarget_twice f g None = refl
retarget_twice f g (Some o) = ap (λ rs. Some (record o { operands = rs })) (map-map f g o.operands)

retarget_stays : (f : Ref → Ref) → ((r : Ref) → f r ≡ r) → (x : Option Op) → option_map (retarget f) x ≡ x
retarget_stays f same None = refl
retarget_stays f same (Some o) = ap (λ rs. Some (record o { operands = rs })) (map_same f (λ r. r) o.operands (λ r here. same r) ∙ map-id o.operands)

without_kept : (i : ℕ) (r : Ref) → without i (without i undefined undefined) r ≡ kept_ref (down i) r
without_kept i (port n) = refl
without_kept i undefined = refl
without_kept i (result n k) = go (down i n) k
  where
    go : (z : Option ℕ) (k : ℕ) → ref_after_erase z undefined k ≡ kept_at z k
    go None zero = refl
    go None (suc k) = refl
    go (Some m) k = refl

erased_get : (os : List Op) (i n : ℕ) → slice_get (erase_op i undefined os) n ≡ option_map (retarget (kept_ref (down i))) (slice_get os (up i n))
erased_get os i n =
    slice_get-map (retarget (without i (without i undefined undefined))) (remove os i) n
    ∙ ap (option_map (retarget (without i (without i undefined undefined)))) (get_taken os i (up i n) n (down-up i n))
    ∙ retarget_same (without i (without i undefined undefined)) (kept_ref (down i)) (without_kept i) (slice_get os (up i n))

erased_length : (os : List Op) (i : ℕ) → i < length os → suc (length (erase_op i undefined os)) ≡ length os
erased_length os i less = ap suc (length-map (remove os i) (retarget (without i (without i undefined undefined)))) ∙ length-remove_suc os i less

-- ---- what is left

-- operations of which some are gone: where each position went, and where each came from; positions past the end move along
pub record IsRemnant (a b : List Op) : Type 0 where
  pub to : ℕ → Option ℕ
  pub from : ℕ → ℕ
  pub back : (y : ℕ) → to (from y) ≡ Some y
  pub only : (x y : ℕ) → to x ≡ Some y → from y ≡ x
  pub rising : (x y : ℕ) → x < y → from x < from y
  pub past : (y : ℕ) → length b ≤ y → from y + length b ≡ y + length a
  pub there : (y : ℕ) → slice_get b y ≡ option_map (retarget (kept_ref to)) (slice_get a (from y))

pub remnant_self : (b : List Op) → IsRemnant b b
remnant_self b = record {
  to = λ x. Some x;
  from = λ y. y;
  back = λ y. refl;
  only = λ x y is. let same : x ≡ y = cc in sym same;
  rising = λ x y less. less;
  past = λ y least. refl;
  there = λ y. sym (retarget_stays (kept_ref (λ x. Some x)) (kept_stays (λ x. Some x) (λ n. refl)) (slice_get b y));
}

module _ (os os1 : List Op) (i : ℕ) (found : UnusedFound os i (erased i undefined ∷ [])) (is : os1 ≡ erase_op i undefined os) where
  trim_get : (n : ℕ) → slice_get os1 n ≡ option_map (retarget (kept_ref (down i))) (slice_get os (up i n))
  trim_get n = ap (λ z. slice_get z n) is ∙ erased_get os i n

  trim_within : i < length os
  trim_within = slice_get_within os i found.op found.there

  pub trim_length : suc (length os1) ≡ length os
  trim_length = ap (λ z. suc (length z)) is ∙ erased_length os i trim_within

  module _ (b : List Op) (left : IsRemnant os1 b) where
    only_before : (x y : ℕ) → chained left.to (down i) x ≡ Some y → up i (left.from y) ≡ x
    only_before x y at =
        let one = and_then_some (down i x) left.to at in
        ap (up i) (left.only one.0 y one.2) ∙ up_from_down i x one.0 one.1

    past_before : (y : ℕ) → length b ≤ y → up i (left.from y) + length b ≡ y + length os
    past_before y least =
        let sum : left.from y + length b ≡ y + length os1 = left.past y least in
        let moves : up i (left.from y) ≡ suc (left.from y) = up_past i (left.from y) (omega (arith, sum, least, trim_within, trim_length)) in
        omega (arith, sum, moves, trim_length)

    pub remnant_before : IsRemnant os b
    remnant_before = record {
      to = chained left.to (down i);
      from = λ y. up i (left.from y);
      back = λ y. ap (option_and_then left.to) (down-up i (left.from y)) ∙ left.back y;
      only = only_before;
      rising = λ x y less. up_less i (left.from x) (left.from y) (left.rising x y less);
      past = past_before;
      there = λ y. left.there y ∙ ap (option_map (retarget (kept_ref left.to))) (trim_get (left.from y))
          ∙ retarget_twice (kept_ref left.to) (kept_ref (down i)) (slice_get os (up i (left.from y)))
          ∙ retarget_same (λ r. kept_ref left.to (kept_ref (down i) r)) (kept_ref (chained left.to (down i))) (kept_twice left.to (down i)) (slice_get os (up i (left.from y)));
    }

  module _ (b : List Op) (none : HasNoUnused b) (left : IsRemnant os b) where
    -- a value of what is left is one of what was there
    kept_from : (y k : ℕ) (r : Ref) → kept_ref left.to r ≡ result y k → r ≡ result (left.from y) k
    kept_from y k (port n) same = cc
    kept_from y k undefined same = cc
    kept_from y k (result n m) same = go (left.to n) refl same
      where
        go : (z : Option ℕ) → left.to n ≡ z → kept_at z m ≡ result y k → result n m ≡ result (left.from y) k
        go None at e = cc
        go (Some x) at e =
            let place : x ≡ y = cc in
            let number : m ≡ k = cc in
            ap (λ p. result p m) (sym (left.only n y (at ∙ ap Some place))) ∙ ap (result (left.from y)) number

    -- what goes went to nothing
    gone : left.to i ≡ None
    gone = go (left.to i) refl
      where
        used_somewhere : (y : ℕ) → (ps : List Op) → is_used y ps ≡ true → (j : ℕ) × (q : Op) × (slice_get ps j ≡ Some q) × (r : Ref) × In r q.operands × ((k : ℕ) × (r ≡ result y k))
        used_somewhere y [] is_so = cc
        used_somewhere y (q ∷ ps) is_so = in_one (list_any (is_result_of y) q.operands) refl is_so (used_somewhere y ps)
          where
            of_result : (r : Ref) → is_result_of y r ≡ true → (k : ℕ) × (r ≡ result y k)
            of_result (port n) same = cc
            of_result undefined same = cc
            of_result (result n k) same = (k, ap (λ m. result m k) (is_at same))
              where
                is_at : is_result_of y (result n k) ≡ true → n ≡ y
                is_at e = eqb-true n y e

            in_list : (rs : List Ref) → list_any (is_result_of y) rs ≡ true → (r : Ref) × In r rs × ((k : ℕ) × (r ≡ result y k))
            in_list [] some = cc
            in_list (r ∷ rs) some = one (is_result_of y r) refl some (in_list rs)
              where
                one : (t : Bool) → is_result_of y r ≡ t → t || list_any (is_result_of y) rs ≡ true
                    → (list_any (is_result_of y) rs ≡ true → (r : Ref) × In r rs × ((k : ℕ) × (r ≡ result y k)))
                    → (q : Ref) × In q (r ∷ rs) × ((k : ℕ) × (q ≡ result y k))
                one true here e later = (r, inl refl, of_result r here)
                one false here e later = let rest = later e in (rest.0, inr rest.1, rest.2)

            in_one : (t : Bool) → list_any (is_result_of y) q.operands ≡ t → t || is_used y ps ≡ true
                → (is_used y ps ≡ true → (j : ℕ) × (p : Op) × (slice_get ps j ≡ Some p) × (r : Ref) × In r p.operands × ((k : ℕ) × (r ≡ result y k)))
                → (j : ℕ) × (p : Op) × (slice_get (q ∷ ps) j ≡ Some p) × (r : Ref) × In r p.operands × ((k : ℕ) × (r ≡ result y k))
            in_one true here e later = let named = in_list q.operands here in (0, q, refl, named.0, named.1, named.2)
            in_one false here e later = let rest = later e in (suc rest.0, rest.1, rest.2, rest.3, rest.4, rest.5)

        -- what is left there would have a use, and so would have had one
        used : (y : ℕ) → left.from y ≡ i → is_used y b ≡ true → ⊥
        used y from_is is_so =
            let one = used_somewhere y b is_so in
            let old = option_map_some (retarget (kept_ref left.to)) (slice_get os (left.from one.0)) (sym (left.there one.0) ∙ one.2) in
            let named = from_In-map (kept_ref left.to) one.3 old.0.operands (subst (λ (q : Op). In one.3 q.operands) (sym old.2) one.4) in
            let value : named.0 ≡ result (left.from y) one.5.0 = kept_from y one.5.0 named.0 (sym named.2 ∙ one.5.1) in
            unused_operands i os found.unused (left.from one.0) old.0 named.0 old.1 named.1 one.5.0 (value ∙ ap (λ n. result n one.5.0) from_is)

        stays : (y : ℕ) → left.to i ≡ Some y → ⊥
        stays y at = go_used (is_used y b) refl
          where
            from_is : left.from y ≡ i
            from_is = left.only i y at

            stands : slice_get b y ≡ Some (retarget (kept_ref left.to) found.op)
            stands = left.there y ∙ ap (λ n. option_map (retarget (kept_ref left.to)) (slice_get os n)) from_is ∙ ap (option_map (retarget (kept_ref left.to))) found.there

            go_used : (t : Bool) → is_used y b ≡ t → ⊥
            go_used true is_so = used y from_is is_so
            go_used false is_not =
                let clash : Some (erased y undefined ∷ []) ≡ None =
                sym (ap (λ x. option_and_then (λ (o : Op). cond (is_pure o.kind && not (is_used y b)) (Some (erased y undefined ∷ [])) None) x) stands
                ∙ ap (λ p. cond (p && not (is_used y b)) (Some (erased y undefined ∷ [])) None) found.pure
                ∙ ap (λ u. cond (not u) (Some (erased y undefined ∷ [])) None) is_not)
                ∙ none y in
                cc

        go : (z : Option ℕ) → left.to i ≡ z → z ≡ None
        go None at = refl
        go (Some y) at = absurd (stays y at)

    abbrev to_after : ℕ → Option ℕ
    to_after x = left.to (up i x)

    abbrev from_after : ℕ → ℕ
    from_after y = or_at 0 (down i (left.from y))

    from_is : (y : ℕ) → up i (from_after y) ≡ left.from y
    from_is y = go (down i (left.from y)) refl
      where
        go : (z : Option ℕ) → down i (left.from y) ≡ z → up i (or_at 0 z) ≡ left.from y
        go None at =
            let clash : Some y ≡ None = sym (left.back y) ∙ ap left.to (down_none i (left.from y) at) ∙ gone in
            cc
        go (Some n) at = up_from_down i (left.from y) n at

    to_gone : (n : ℕ) → chained to_after (down i) n ≡ left.to n
    to_gone n = go (down i n) refl
      where
        go : (z : Option ℕ) → down i n ≡ z → option_and_then to_after z ≡ left.to n
        go None at = sym gone ∙ ap left.to (sym (down_none i n at))
        go (Some m) at = ap left.to (up_from_down i n m at)

    past_after : (y : ℕ) → length b ≤ y → from_after y + length b ≡ y + length os1
    past_after y least =
        let sum : left.from y + length b ≡ y + length os = left.past y least in
        let at : up i (from_after y) ≡ left.from y = from_is y in
        let above : i ≤ from_after y = up_above i (from_after y) (omega (arith, sum, at, least, trim_within)) in
        let moves : up i (from_after y) ≡ suc (from_after y) = up_past i (from_after y) above in
        omega (arith, sum, at, moves, trim_length)

    there_after : (y : ℕ) → slice_get b y ≡ option_map (retarget (kept_ref to_after)) (slice_get os1 (from_after y))
    there_after y =
        left.there y
        ∙ sym (ap (λ n. option_map (retarget (kept_ref left.to)) (slice_get os n)) (from_is y))
        ∙ sym (retarget_same (kept_ref (chained to_after (down i))) (kept_ref left.to) (kept_same (chained to_after (down i)) left.to to_gone) (slice_get os (up i (from_after y))))
        ∙ sym (retarget_same (λ r. kept_ref to_after (kept_ref (down i) r)) (kept_ref (chained to_after (down i))) (kept_twice to_after (down i)) (slice_get os (up i (from_after y))))
        ∙ sym (retarget_twice (kept_ref to_after) (kept_ref (down i)) (slice_get os (up i (from_after y))))
        ∙ sym (ap (option_map (retarget (kept_ref to_after))) (trim_get (from_after y)))

    pub remnant_after : IsRemnant os1 b
    remnant_after = record {
      to = to_after;
      from = from_after;
      back = λ y. ap left.to (from_is y) ∙ left.back y;
      only = λ x y at. ap (λ n. or_at 0 (down i n)) (left.only (up i x) y at) ∙ ap (or_at 0) (down-up i x);
      rising = λ x y less. up_less_from i (from_after x) (from_after y)
          (let of_x : up i (from_after x) ≡ left.from x = from_is x in
          let of_y : up i (from_after y) ≡ left.from y = from_is y in
          let rises : left.from x < left.from y = left.rising x y less in
          omega (arith, of_x, of_y, rises));
      past = past_after;
      there = there_after;
    }

-- ---- trims, one after another

-- what a trim takes out
pub trim_found : (os os1 : List Op) (step : IsTrim os os1) → UnusedFound os step.0 (erased step.0 undefined ∷ [])
trim_found os os1 step = unused_found os step.0 (erased step.0 undefined ∷ []) step.1

remnants_before : (n : ℕ) (os os1 b : List Op) → TrimsBy n os os1 → IsRemnant os1 b → IsRemnant os b
remnants_before zero os os1 b same left = subst (λ z. IsRemnant z b) same left
remnants_before (suc n) os os1 b (between, leads, step) left =
    remnants_before n os between b leads (remnant_before between os1 step.0 (trim_found between os1 step) step.2 b left)

remnants_after : (b : List Op) → HasNoUnused b → (n : ℕ) (os os1 : List Op) → TrimsBy n os os1 → IsRemnant os b → IsRemnant os1 b
remnants_after b none zero os os1 same left = subst (λ z. IsRemnant z b) (sym same) left
remnants_after b none (suc n) os os1 (between, leads, step) left =
    remnant_after between os1 step.0 (trim_found between os1 step) step.2 b none (remnants_after b none n os between leads left)

-- ---- operations that are left of each other are one

module _ (a b : List Op) (left : IsRemnant a b) where
  at_least : (y : ℕ) → y ≤ left.from y
  at_least zero = omega arith
  at_least (suc y) =
      let rest : y ≤ left.from y = at_least y in
      let rises : left.from y < left.from (suc y) = left.rising y (suc y) (omega arith) in
      omega (arith, rest, rises)

  no_longer : length b ≤ length a
  no_longer =
      let sum : left.from (length b) + length b ≡ length b + length a = left.past (length b) (omega arith) in
      omega (arith, sum, at_least (length b))

  steadily : (y d : ℕ) → left.from y + d ≤ left.from (y + d)
  steadily y zero = let same : left.from y ≡ left.from (y + 0) = ap left.from (omega arith) in omega (arith, same)
  steadily y (suc d) =
      let rest : left.from y + d ≤ left.from (y + d) = steadily y d in
      let rises : left.from (y + d) < left.from (suc (y + d)) = left.rising (y + d) (suc (y + d)) (omega arith) in
      let same : left.from (suc (y + d)) ≡ left.from (y + suc d) = ap left.from (omega arith) in
      omega (arith, rest, rises, same)

  module _ (size : length a ≡ length b) where
    stays : (y : ℕ) → left.from y ≡ y
    stays y = go (nat_lt y (length b)) refl
      where
        go : (t : Bool) → nat_lt y (length b) ≡ t → left.from y ≡ y
        go true is =
            let less : y < length b = ltb-true y (length b) is in
            let rest : left.from y + (length b - y) ≤ left.from (y + (length b - y)) = steadily y (length b - y) in
            let end : left.from (y + (length b - y)) ≡ left.from (length b) = ap left.from (omega (arith, less)) in
            let sum : left.from (length b) + length b ≡ length b + length a = left.past (length b) (omega arith) in
            omega (arith, less, rest, end, sum, size, at_least y)
        go false is =
            let sum : left.from y + length b ≡ y + length a = left.past y (ltb-false y (length b) is) in
            omega (arith, sum, size)

    are_one : a ≡ b
    are_one =
        same_positions a b
        (λ y. sym (left.there y
        ∙ retarget_stays (kept_ref left.to) (kept_stays left.to (λ n. ap left.to (sym (stays n)) ∙ left.back n)) (slice_get a (left.from y))
        ∙ ap (slice_get a) (stays y)))

-- ---- trims in any order that leave no unused ones make one thing

pub trims_agree : (n m : ℕ) (os a b : List Op) → TrimsBy n os a → TrimsBy m os b → HasNoUnused a → HasNoUnused b → a ≡ b
trims_agree n m os a b to_a to_b none_a none_b =
    let of_b : IsRemnant a b = remnants_after b none_b n os a to_a (remnants_before m os b b to_b (remnant_self b)) in
    let of_a : IsRemnant b a = remnants_after a none_a m os b to_b (remnants_before n os a a to_a (remnant_self a)) in
    let most : length b ≤ length a = no_longer a b of_b in
    let least : length a ≤ length b = no_longer b a of_a in
    are_one a b of_b (omega (arith, most, least))
