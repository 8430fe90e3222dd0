-- Merges of equal operations, in whatever order, make one thing where they leave no equal ones.
use Rattle.std.proofs.Common.{◌≡◌, ◌+◌, ◌-◌, ◌<◌, ◌≤◌, ℕ, zero, suc, Bool, true, false, nat_lt, List, length, Option, Some, None, slice_get, refl, sym, ap, subst, ◌∙◌, arith, option_map}
use Rattle.std.proofs.lemmas.Bool.{ltb-true, ltb-false}
use Rattle.std.proofs.lemmas.Option.{slice_get_within}
use Rattle.wiring.proofs.Lists.{same_positions}
use Rattle.wiring.proofs.Options.{option_map_some}
use Rattle.hw_model.specs.Design.{Op}
use Rattle.edit_laws.specs.Edit.{retarget}
use Rattle.edit_laws.specs.Laws.{up, down}
use Rattle.edit_laws.proofs.Positions.{down-up, up_from_down, down_none}
use Rattle.fold_laws.specs.Unused.{is_pure}
use Rattle.cse_pass.specs.EqualOps.{are_equal}
use Rattle.cse_pass.specs.Merges.{HasNoEqual, IsMerge, MergesBy}
use Rattle.cse_pass.proofs.EqualPositions.{none_before}
use Rattle.cse_pass.proofs.Merging.{up_below}
use Rattle.cse_pass.proofs.NoEqual.{up_less}
use Rattle.cse_pass.proofs.Places.{up_past, up_least, up_least_from, up_less_from, up_above, moved_ref, or_at, gone_to, op_twice, op_moved, seen_twice, seen_moved, seen_stays}
use Rattle.cse_pass.proofs.Places.{merged_get, merged_length, equal_self, equal_turned, equal_then, equal_retarget, equal_pure, op_stays}

-- operations of which others were merged: where each position went, and the first that went there, which stands there still;
-- positions past the end move along
pub record IsImage (a b : List Op) : Type 0 where
  pub to : ℕ → ℕ
  pub from : ℕ → ℕ
  pub back : (y : ℕ) → to (from y) ≡ y
  pub first : (x : ℕ) → from (to x) ≤ x
  pub rising : (x y : ℕ) → x < y → from x < from y
  pub past : (y : ℕ) → length b ≤ y → from y + length b ≡ y + length a
  pub there : (y : ℕ) → slice_get b y ≡ option_map (retarget (moved_ref to)) (slice_get a (from y))
  pub alike : (x : ℕ) (o : Op) → slice_get a x ≡ Some o → (p : Op) × (slice_get b (to x) ≡ Some p) × (are_equal p (retarget (moved_ref to) o) ≡ true)

pub image_self : (b : List Op) → IsImage b b
image_self b = record {
  to = λ x. x;
  from = λ y. y;
  back = λ y. refl;
  first = λ x. omega arith;
  rising = λ x y less. less;
  past = λ y least. refl;
  there = λ y. sym (seen_stays (λ x. x) (λ n. refl) (slice_get b y));
  alike = λ x o is. (o, is, ap (are_equal o) (op_stays (λ x. x) (λ n. refl) o) ∙ equal_self o);
}

-- ---- a merge before

module _ (os os1 : List Op) (step : IsMerge os os1) where
  pub step_get : (n : ℕ) → slice_get os1 n ≡ option_map (retarget (moved_ref (gone_to step.at step.earlier))) (slice_get os (up step.at n))
  step_get n = ap (λ z. slice_get z n) step.is ∙ merged_get os step.at step.earlier n

  pub step_within : step.at < length os
  step_within = slice_get_within os step.at step.found.op step.found.there

  pub step_length : suc (length os1) ≡ length os
  step_length = ap (λ z. suc (length z)) step.is ∙ merged_length os step.at step.earlier step_within

  module _ (b : List Op) (image : IsImage os1 b) where
    abbrev to_before : ℕ → ℕ
    to_before x = image.to (gone_to step.at step.earlier x)

    abbrev from_before : ℕ → ℕ
    from_before y = up step.at (image.from y)

    first_before : (x : ℕ) → from_before (to_before x) ≤ x
    first_before x = go (down step.at x) refl
      where
        go : (z : Option ℕ) → down step.at x ≡ z → up step.at (image.from (image.to (or_at step.earlier z))) ≤ x
        go None is =
            let low : image.from (image.to step.earlier) ≤ step.earlier = image.first step.earlier in
            let before : step.earlier < step.at = step.found.before in
            let stays : up step.at (image.from (image.to step.earlier)) ≡ image.from (image.to step.earlier) =
            up_below step.at (image.from (image.to step.earlier)) (omega (arith, low, before)) in
            let here : x ≡ step.at = down_none step.at x is in
            omega (arith, low, before, stays, here)
        go (Some n) is =
            let low : up step.at (image.from (image.to n)) ≤ up step.at n = up_least step.at (image.from (image.to n)) n (image.first n) in
            let here : up step.at n ≡ x = up_from_down step.at x n is in
            omega (arith, low, here)

    past_before : (y : ℕ) → length b ≤ y → from_before y + length b ≡ y + length os
    past_before y least =
        let sum : image.from y + length b ≡ y + length os1 = image.past y least in
        let moves : up step.at (image.from y) ≡ suc (image.from y) = up_past step.at (image.from y) (omega (arith, sum, least, step_within, step_length)) in
        omega (arith, sum, moves, step_length)

    alike_before : (x : ℕ) (o : Op) → slice_get os x ≡ Some o → (p : Op) × (slice_get b (to_before x) ≡ Some p) × (are_equal p (retarget (moved_ref to_before) o) ≡ true)
    alike_before x o is = go (down step.at x) refl
      where
        -- the operation at a position of the merged ones
        at_merged : (n : ℕ) (z : Op) → slice_get os (up step.at n) ≡ Some z
            → (p : Op) × (slice_get b (image.to n) ≡ Some p) × (are_equal p (retarget (moved_ref to_before) z) ≡ true)
        at_merged n z there =
            let one = image.alike n (retarget (moved_ref (gone_to step.at step.earlier)) z)
            (step_get n ∙ ap (option_map (retarget (moved_ref (gone_to step.at step.earlier)))) there) in
            (one.0, one.1, sym (ap (are_equal one.0) (op_twice image.to (gone_to step.at step.earlier) z)) ∙ one.2)

        go : (t : Option ℕ) → down step.at x ≡ t
            → (p : Op) × (slice_get b (image.to (or_at step.earlier t)) ≡ Some p) × (are_equal p (retarget (moved_ref to_before) o) ≡ true)
        go (Some n) down_is = at_merged n o (ap (slice_get os) (up_from_down step.at x n down_is) ∙ is)
        go None down_is =
            let one = at_merged step.earlier step.found.first (ap (slice_get os) (up_below step.at step.earlier step.found.before) ∙ step.found.first_there) in
            let both : Some step.found.op ≡ Some o = sym step.found.there ∙ sym (ap (slice_get os) (down_none step.at x down_is)) ∙ is in
            let own : step.found.op ≡ o = cc in (
              one.0,
              one.1,
              equal_then one.0 (retarget (moved_ref to_before) step.found.first) (retarget (moved_ref to_before) o) one.2
                  (equal_retarget (moved_ref to_before) step.found.first o (sym (ap (are_equal step.found.first) own) ∙ step.found.equal)),
            )

    pub image_before : IsImage os b
    image_before = record {
      to = to_before;
      from = from_before;
      back = λ y. ap (λ z. image.to (or_at step.earlier z)) (down-up step.at (image.from y)) ∙ image.back y;
      first = first_before;
      rising = λ x y less. up_less step.at (image.from x) (image.from y) (image.rising x y less);
      past = past_before;
      there = λ y. image.there y ∙ ap (option_map (retarget (moved_ref image.to))) (step_get (image.from y))
          ∙ seen_twice image.to (gone_to step.at step.earlier) (slice_get os (up step.at (image.from y)));
      alike = alike_before;
    }

  -- ---- a merge after

  module _ (b : List Op) (none : HasNoEqual b) (image : IsImage os b) where
    -- both operations of the merge went to one place
    joined : image.to step.at ≡ image.to step.earlier
    joined = go (nat_lt (image.to step.at) (image.to step.earlier)) refl (nat_lt (image.to step.earlier) (image.to step.at)) refl
      where
        own : (p : Op) × (slice_get b (image.to step.at) ≡ Some p) × (are_equal p (retarget (moved_ref image.to) step.found.op) ≡ true)
        own = image.alike step.at step.found.op step.found.there

        one : (p : Op) × (slice_get b (image.to step.earlier) ≡ Some p) × (are_equal p (retarget (moved_ref image.to) step.found.first) ≡ true)
        one = image.alike step.earlier step.found.first step.found.first_there

        same : are_equal one.0 own.0 ≡ true
        same =
            equal_then one.0 (retarget (moved_ref image.to) step.found.op) own.0
            (equal_then one.0 (retarget (moved_ref image.to) step.found.first) (retarget (moved_ref image.to) step.found.op) one.2
            (equal_retarget (moved_ref image.to) step.found.first step.found.op step.found.equal))
            (equal_turned own.0 (retarget (moved_ref image.to) step.found.op) own.2)

        own_pure : is_pure (own.0).kind ≡ true
        own_pure = equal_pure own.0 (retarget (moved_ref image.to) step.found.op) own.2 step.found.pure

        one_pure : is_pure (one.0).kind ≡ true
        one_pure = equal_pure one.0 own.0 same own_pure

        go : (s : Bool) → nat_lt (image.to step.at) (image.to step.earlier) ≡ s → (t : Bool) → nat_lt (image.to step.earlier) (image.to step.at) ≡ t
            → image.to step.at ≡ image.to step.earlier
        go true is t other =
            absurd (none_before b none (image.to step.earlier) (image.to step.at) one.0 own.0 one.1 one_pure own.1 (ltb-true (image.to step.at) (image.to step.earlier) is)
            (equal_turned one.0 own.0 same))
        go false is true other =
            absurd (none_before b none (image.to step.at) (image.to step.earlier) own.0 one.0 own.1 own_pure one.1 (ltb-true (image.to step.earlier) (image.to step.at) other) same)
        go false is false other = omega (arith, ltb-false (image.to step.at) (image.to step.earlier) is, ltb-false (image.to step.earlier) (image.to step.at) other)

    -- so what stands in a place does not come from the one that goes
    not_gone : (y : ℕ) → image.from y ≡ step.at → ⊥
    not_gone y same =
        let low : image.from (image.to step.earlier) ≤ step.earlier = image.first step.earlier in
        let before : step.earlier < step.at = step.found.before in
        let here : image.from (image.to step.earlier) ≡ image.from y = ap image.from (sym joined ∙ sym (ap image.to same) ∙ image.back y) in
        omega (arith, low, before, here, same)

    abbrev to_after : ℕ → ℕ
    to_after x = image.to (up step.at x)

    abbrev from_after : ℕ → ℕ
    from_after y = or_at 0 (down step.at (image.from y))

    from_is : (y : ℕ) → up step.at (from_after y) ≡ image.from y
    from_is y = go (down step.at (image.from y)) refl
      where
        go : (z : Option ℕ) → down step.at (image.from y) ≡ z → up step.at (or_at 0 z) ≡ image.from y
        go None is = absurd (not_gone y (down_none step.at (image.from y) is))
        go (Some n) is = up_from_down step.at (image.from y) n is

    -- where a position is once the merge is made
    to_gone : (n : ℕ) → to_after (gone_to step.at step.earlier n) ≡ image.to n
    to_gone n = go (down step.at n) refl
      where
        go : (z : Option ℕ) → down step.at n ≡ z → image.to (up step.at (or_at step.earlier z)) ≡ image.to n
        go None is = ap image.to (up_below step.at step.earlier step.found.before) ∙ sym joined ∙ sym (ap image.to (down_none step.at n is))
        go (Some m) is = ap image.to (up_from_down step.at n m is)

    past_after : (y : ℕ) → length b ≤ y → from_after y + length b ≡ y + length os1
    past_after y least =
        let sum : image.from y + length b ≡ y + length os = image.past y least in
        let is : up step.at (from_after y) ≡ image.from y = from_is y in
        let above : step.at ≤ from_after y = up_above step.at (from_after y) (omega (arith, sum, is, least, step_within)) in
        let moves : up step.at (from_after y) ≡ suc (from_after y) = up_past step.at (from_after y) above in
        omega (arith, sum, is, moves, step_length)

    there_after : (y : ℕ) → slice_get b y ≡ option_map (retarget (moved_ref to_after)) (slice_get os1 (from_after y))
    there_after y =
        image.there y
        ∙ sym (ap (λ n. option_map (retarget (moved_ref image.to)) (slice_get os n)) (from_is y))
        ∙ sym (seen_moved (λ n. to_after (gone_to step.at step.earlier n)) image.to to_gone (slice_get os (up step.at (from_after y))))
        ∙ sym (seen_twice to_after (gone_to step.at step.earlier) (slice_get os (up step.at (from_after y))))
        ∙ sym (ap (option_map (retarget (moved_ref to_after))) (step_get (from_after y)))

    alike_after : (x : ℕ) (o : Op) → slice_get os1 x ≡ Some o → (p : Op) × (slice_get b (to_after x) ≡ Some p) × (are_equal p (retarget (moved_ref to_after) o) ≡ true)
    alike_after x o is =
        let old = option_map_some (retarget (moved_ref (gone_to step.at step.earlier))) (slice_get os (up step.at x)) (sym (step_get x) ∙ is) in
        let one = image.alike (up step.at x) old.0 old.1 in (
          one.0,
          one.1,
          ap (are_equal one.0)
              (sym (ap (retarget (moved_ref to_after)) old.2) ∙ op_twice to_after (gone_to step.at step.earlier) old.0
              ∙ op_moved (λ n. to_after (gone_to step.at step.earlier n)) image.to to_gone old.0)
              ∙ one.2,
        )

    pub image_after : IsImage os1 b
    image_after = record {
      to = to_after;
      from = from_after;
      back = λ y. ap image.to (from_is y) ∙ image.back y;
      first = λ x. up_least_from step.at (from_after (to_after x)) x
          (let is : up step.at (from_after (to_after x)) ≡ image.from (to_after x) = from_is (to_after x) in
          let low : image.from (to_after x) ≤ up step.at x = image.first (up step.at x) in
          omega (arith, is, low));
      rising = λ x y less. up_less_from step.at (from_after x) (from_after y)
          (let of_x : up step.at (from_after x) ≡ image.from x = from_is x in
          let of_y : up step.at (from_after y) ≡ image.from y = from_is y in
          let rises : image.from x < image.from y = image.rising x y less in
          omega (arith, of_x, of_y, rises));
      past = past_after;
      there = there_after;
      alike = alike_after;
    }

-- ---- merges, one after another

images_before : (n : ℕ) (os os1 b : List Op) → MergesBy n os os1 → IsImage os1 b → IsImage os b
images_before zero os os1 b same image = subst (λ z. IsImage z b) same image
images_before (suc n) os os1 b (between, leads, step) image = images_before n os between b leads (image_before between os1 step b image)

images_after : (b : List Op) → HasNoEqual b → (n : ℕ) (os os1 : List Op) → MergesBy n os os1 → IsImage os b → IsImage os1 b
images_after b none zero os os1 same image = subst (λ z. IsImage z b) (sym same) image
images_after b none (suc n) os os1 (between, leads, step) image = image_after between os1 step b none (images_after b none n os between leads image)

-- ---- operations that are images of each other are one

module _ (a b : List Op) (image : IsImage a b) where
  at_least : (y : ℕ) → y ≤ image.from y
  at_least zero = omega arith
  at_least (suc y) =
      let rest : y ≤ image.from y = at_least y in
      let rises : image.from y < image.from (suc y) = image.rising y (suc y) (omega arith) in
      omega (arith, rest, rises)

  pub no_longer : length b ≤ length a
  no_longer =
      let sum : image.from (length b) + length b ≡ length b + length a = image.past (length b) (omega arith) in
      omega (arith, sum, at_least (length b))

  steadily : (y d : ℕ) → image.from y + d ≤ image.from (y + d)
  steadily y zero = let same : image.from y ≡ image.from (y + 0) = ap image.from (omega arith) in omega (arith, same)
  steadily y (suc d) =
      let rest : image.from y + d ≤ image.from (y + d) = steadily y d in
      let rises : image.from (y + d) < image.from (suc (y + d)) = image.rising (y + d) (suc (y + d)) (omega arith) in
      let same : image.from (suc (y + d)) ≡ image.from (y + suc d) = ap image.from (omega arith) in
      omega (arith, rest, rises, same)

  module _ (size : length a ≡ length b) where
    stays : (y : ℕ) → image.from y ≡ y
    stays y = go (nat_lt y (length b)) refl
      where
        go : (t : Bool) → nat_lt y (length b) ≡ t → image.from y ≡ y
        go true is =
            let less : y < length b = ltb-true y (length b) is in
            let rest : image.from y + (length b - y) ≤ image.from (y + (length b - y)) = steadily y (length b - y) in
            let end : image.from (y + (length b - y)) ≡ image.from (length b) = ap image.from (omega (arith, less)) in
            let sum : image.from (length b) + length b ≡ length b + length a = image.past (length b) (omega arith) in
            omega (arith, less, rest, end, sum, size, at_least y)
        go false is =
            let sum : image.from y + length b ≡ y + length a = image.past y (ltb-false y (length b) is) in
            omega (arith, sum, size)

    pub are_one : a ≡ b
    are_one =
        same_positions a b
        (λ y. sym (image.there y
        ∙ seen_stays image.to (λ n. sym (ap image.to (stays n)) ∙ image.back n) (slice_get a (image.from y))
        ∙ ap (slice_get a) (stays y)))

-- ---- merges in any order that leave no equal ones make one thing

pub merges_agree : (n m : ℕ) (os a b : List Op) → MergesBy n os a → MergesBy m os b → HasNoEqual a → HasNoEqual b → a ≡ b
merges_agree n m os a b to_a to_b none_a none_b =
    let of_b : IsImage a b = images_after b none_b n os a to_a (images_before m os b b to_b (image_self b)) in
    let of_a : IsImage b a = images_after a none_a m os b to_b (images_before n os a a to_a (image_self a)) in
    let most : length b ≤ length a = no_longer a b of_b in
    let least : length a ≤ length b = no_longer b a of_a in
    are_one a b of_b (omega (arith, most, least))
