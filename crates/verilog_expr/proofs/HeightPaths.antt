-- Heights as they are found along paths of operations, each of which waits for the next.
use Rattle.std.proofs.Common.{◌≡◌, ℕ, zero, suc, ◌+◌, ◌*◌, ◌-◌, ◌<◌, ◌≤◌, max, Bool, true, false, cond, not, ◌&&◌, nat_eq, List, [], ◌∷◌, length, map, drop, get_or, set, ◌⊎◌, inl, inr, slice_get}
use Rattle.std.proofs.Common.{Option, Some, None, is_some, refl, sym, ap, subst, ◌∙◌, arith}
use Rattle.std.proofs.lemmas.List.{drop_all}
use Rattle.std.proofs.lemmas.Bool.{eqb-true, eqb-false}
use Rattle.wiring.specs.Wiring.{In, greatest, IsAcyclic}
use Rattle.wiring.proofs.Members.{In-slice_get}
use Rattle.wiring.proofs.Heights.{HasHeights-acyclic, height-le, FallsAlong-height}
use Rattle.hw_model.specs.Design.{Ref, Port, Op}
use Rattle.hw_model.specs.Design.Ref.{result}
use Rattle.verilog_expr.specs.Expressions.{op_at}
use Rattle.verilog_expr.specs.Spilling as told
use Rattle.verilog_expr.specs.Spilling.{is_pure, is_constant_kind, is_shared, height, operands_of, operands_at, inner_of, inner_needs}
use Rattle.verilog_expr.specs.PartTables.{height_get, AreStill, IsWaiting, IsDown, starting}
use Rattle.verilog_expr.specs.declared.height_table.Waiting.{Waiting}
use Rattle.verilog_expr.proofs.Nets.{results, length-results, IsWithin-results}

-- ---- operands one after another

drop_at : {A : Type 0} (xs : List A) (i : ℕ) (x : A) → slice_get xs i ≡ Some x → drop i xs ≡ x ∷ drop (suc i) xs
drop_at [] i x is = cc
drop_at (y ∷ xs) zero x is = let e : y ≡ x = cc in ap (λ z. z ∷ xs) e
drop_at (y ∷ xs) (suc i) x is = drop_at xs i x is

pub mapped_at : {A B : Type 0} (f : A → B) (xs : List A) (i : ℕ) (x : A) → i < length xs → get_or xs i x ≡ x → slice_get (map f xs) i ≡ Some (f x)
mapped_at f [] i x lt is = absurd (omega (arith, lt))
mapped_at f (y ∷ xs) zero x lt is = ap (λ z. Some (f z)) is
mapped_at f (y ∷ xs) (suc i) x lt is = mapped_at f xs i x (omega (arith, lt)) is

module _ (g : Ref → ℕ) where
  pub most_more : (rs : List Ref) (i : ℕ) (r : Ref) (m n new whole : ℕ) → slice_get rs i ≡ Some r → max m (greatest (map g (drop i rs))) ≡ whole
      → n ≡ g r → new ≡ max n m → max new (greatest (map g (drop (i + 1) rs))) ≡ whole
  most_more rs i r m n new whole at h p q =
      let d : greatest (map g (drop i rs)) ≡ max (g r) (greatest (map g (drop (suc i) rs))) = ap (λ l. greatest (map g l)) (drop_at rs i r at) in
      let next : i + 1 ≡ suc i = omega arith in
      let s : greatest (map g (drop (i + 1) rs)) ≡ greatest (map g (drop (suc i) rs)) = ap (λ j. greatest (map g (drop j rs))) next in
      omega (arith, h, d, s, p, q)

  pub most_all : (rs : List Ref) (i m whole : ℕ) → length rs ≤ i → max m (greatest (map g (drop i rs))) ≡ whole → m ≡ whole
  most_all rs i m whole le h =
      let d : greatest (map g (drop i rs)) ≡ 0 = ap (λ l. greatest (map g l)) (drop_all i rs le) in
      omega (arith, h, d)

-- ---- what an operation needs

module _ (ports : List Port) (os : List Op) where
  -- what is no name and no literal needs its operands
  pub above_needs : (r : Ref) → (told.part ports os r ≡ told.Part.flat → ⊥) → inner_needs os r ≡ operands_at os r
  above_needs r above = go (op_at os r) above where
    by_purity : (o : Op) (b c : Bool) (p : told.Part) → (cond (b && c) p told.Part.flat ≡ told.Part.flat → ⊥) → cond b o.operands [] ≡ o.operands
    by_purity o true c p above = refl
    by_purity o false c p above = absurd (above refl)

    go : (m : Option Op) → (told.part_of ports os r m ≡ told.Part.flat → ⊥) → inner_of m ≡ operands_of m
    go None above = refl
    go (Some o) above = by_purity o (is_pure o) (not (is_constant_kind o.kind)) (cond (is_shared ports os r o) told.Part.shared told.Part.nested) above

  pub operand_needed : (i k : ℕ) (x : Ref) → (told.part ports os (result i 0) ≡ told.Part.flat → ⊥) → slice_get (operands_at os (result i 0)) k ≡ Some x
      → In x (inner_needs os (result i 0))
  operand_needed i k x above at = subst (In x) (sym (above_needs (result i 0) above)) (In-slice_get x (operands_at os (result i 0)) k at)

-- ---- paths

abbrev pub nowhere : Waiting
nowhere = record { position = 0; passed = 0; most = 0 }

abbrev pub waiting_at : List Waiting → ℕ → Waiting
waiting_at path i = get_or path i nowhere

-- the first operations of a list wait, each for the next
pub record IsPath (ports : List Port) (os : List Op) (hs : List (Option ℕ)) (path : List Waiting) (depth : ℕ) : Type 0 where
  pub waiting : (i : ℕ) → i < depth → IsWaiting ports os (waiting_at path i)
  pub unknown : (i : ℕ) → i < depth → height_get hs (waiting_at path i).position ≡ None
  pub needed : (i : ℕ) → suc i < depth → In (result (waiting_at path (suc i)).position 0) (inner_needs os (result (waiting_at path i).position 0))

get_same : {A : Type 0} (xs : List A) (i : ℕ) (x d : A) → i < length xs → get_or (set xs i x) i d ≡ x
get_same [] i x d lt = absurd (omega (arith, lt))
get_same (y ∷ xs) zero x d lt = refl
get_same (y ∷ xs) (suc i) x d lt = get_same xs i x d (omega (arith, lt))

get_other : {A : Type 0} (xs : List A) (i j : ℕ) (x d : A) → (i ≡ j → ⊥) → get_or (set xs i x) j d ≡ get_or xs j d
get_other [] i j x d apart = refl
get_other (y ∷ xs) zero zero x d apart = absurd (apart refl)
get_other (y ∷ xs) zero (suc j) x d apart = refl
get_other (y ∷ xs) (suc i) zero x d apart = refl
get_other (y ∷ xs) (suc i) (suc j) x d apart = get_other xs i j x d (λ e. apart (ap suc e))

pub length_set : {A : Type 0} (xs : List A) (i : ℕ) (x : A) → length (set xs i x) ≡ length xs
length_set [] i x = refl
length_set (y ∷ xs) zero x = refl
length_set (y ∷ xs) (suc i) x = ap suc (length_set xs i x)

-- what falls with each step falls by one at least
falling : (f : ℕ → ℕ) (depth : ℕ) → ((i : ℕ) → suc i < depth → f (suc i) < f i) → (i j : ℕ) → i ≤ j → j < depth → f j + j ≤ f i + i
falling f depth falls zero zero le lt = omega arith
falling f depth falls (suc i) zero le lt = absurd (omega (arith, le))
falling f depth falls i (suc j) le lt = go (grind arith) (λ less. falling f depth falls i j less (omega (arith, lt))) where
  go : (i ≡ suc j) ⊎ (i ≤ j) → (i ≤ j → f j + j ≤ f i + i) → f (suc j) + suc j ≤ f i + i
  go (inl same) before = let e : f i ≡ f (suc j) = ap f same in omega (arith, e, same)
  go (inr less) before =
      let rest : f j + j ≤ f i + i = before less in
      let last : f (suc j) < f j = falls j lt in
      omega (arith, rest, last)

start_waits : (ports : List Port) (os : List Op) (i : ℕ) → i < length os → (told.part ports os (result i 0) ≡ told.Part.flat → ⊥) → IsWaiting ports os (starting i)
start_waits ports os i within above = record {
  within = within;
  above = above;
  most = omega arith;
  low = omega arith;
}

not_flat : (p : told.Part) → p ≡ told.Part.nested → p ≡ told.Part.flat → ⊥
not_flat p is other = cc

module _ (ports : List Port) (os : List Op) where
  pub path_start : (hs : List (Option ℕ)) (path : List Waiting) (position : ℕ) → 0 < length path → position < length os
      → (told.part ports os (result position 0) ≡ told.Part.flat → ⊥) → height_get hs position ≡ None → IsPath ports os hs (set path 0 (starting position)) 1
  path_start hs path position room within above unknown = record {
    waiting = λ i lt. subst (IsWaiting ports os) (sym (at i lt)) (start_waits ports os position within above);
    unknown = λ i lt. ap (λ (w : Waiting). height_get hs w.position) (at i lt) ∙ unknown;
    needed = λ i lt. absurd (omega (arith, lt));
  } where
    at : (i : ℕ) → i < 1 → waiting_at (set path 0 (starting position)) i ≡ starting position
    at i lt = ap (waiting_at (set path 0 (starting position))) (omega (arith, lt)) ∙ get_same path 0 (starting position) nowhere room

  pub start_first : (path : List Waiting) (position : ℕ) → 0 < length path → (waiting_at (set path 0 (starting position)) 0).position ≡ position
  start_first path position room = ap (λ (v : Waiting). v.position) (get_same path 0 (starting position) nowhere room)

  module _ (path : List Waiting) (d : ℕ) (w : Waiting) (below : ℕ) (room : suc d < length path) where
    abbrev down_path : List Waiting
    down_path = set (set path d w) (suc d) (starting below)

    last : waiting_at down_path (suc d) ≡ starting below
    last = get_same (set path d w) (suc d) (starting below) nowhere (omega (arith, room, length_set path d w))

    before : waiting_at down_path d ≡ w
    before = get_other (set path d w) (suc d) d (starting below) nowhere (λ e. omega (arith, e)) ∙ get_same path d w nowhere (omega (arith, room))

    first : (i : ℕ) → i < d → waiting_at down_path i ≡ waiting_at path i
    first i lt =
        get_other (set path d w) (suc d) i (starting below) nowhere (λ e. omega (arith, e, lt))
        ∙ get_other path d i w nowhere (λ e. omega (arith, e, lt))

    by_position : (P : Waiting → Type 0) → ((i : ℕ) → i < suc d → P (waiting_at path i)) → P w → P (starting below) → (i : ℕ) → i < suc (suc d) → P (waiting_at down_path i)
    by_position P all here there i lt = go (grind arith) where
      go : (i < d) ⊎ ((i ≡ d) ⊎ (i ≡ suc d)) → P (waiting_at down_path i)
      go (inl less) = subst P (sym (first i less)) (all i (omega (arith, less)))
      go (inr (inl same)) = subst (λ j. P (waiting_at down_path j)) (sym same) (subst P (sym before) here)
      go (inr (inr same)) = subst (λ j. P (waiting_at down_path j)) (sym same) (subst P (sym last) there)

    position_kept : w.position ≡ (waiting_at path d).position → (i : ℕ) → i < suc d → (waiting_at down_path i).position ≡ (waiting_at path i).position
    position_kept same i lt = go (grind arith) where
      go : (i < d) ⊎ (i ≡ d) → (waiting_at down_path i).position ≡ (waiting_at path i).position
      go (inl less) = ap (λ (v : Waiting). v.position) (first i less)
      go (inr is) = ap (λ j. (waiting_at down_path j).position) is ∙ ap (λ (v : Waiting). v.position) before ∙ same ∙ ap (λ j. (waiting_at path j).position) (sym is)

    module _ (hs : List (Option ℕ)) (is : IsPath ports os hs path (suc d)) (down : IsDown ports os hs (waiting_at path d) w below) where
      down_needed : (i : ℕ) → suc i < suc (suc d) → In (result (waiting_at down_path (suc i)).position 0) (inner_needs os (result (waiting_at down_path i).position 0))
      down_needed i lt = go (grind arith) where
        go : (suc i < suc d) ⊎ (i ≡ d) → In (result (waiting_at down_path (suc i)).position 0) (inner_needs os (result (waiting_at down_path i).position 0))
        go (inl less) =
            subst (λ b. In (result b 0) (inner_needs os (result (waiting_at down_path i).position 0))) (sym (position_kept down.same (suc i) less))
            (subst (λ a. In (result (waiting_at path (suc i)).position 0) (inner_needs os (result a 0))) (sym (position_kept down.same i (omega (arith, less)))) (is.needed i less))
        go (inr same) =
            subst (λ j. In (result (waiting_at down_path (suc j)).position 0) (inner_needs os (result (waiting_at down_path j).position 0))) (sym same)
            (subst (λ (v : Waiting). In (result v.position 0) (inner_needs os (result (waiting_at down_path d).position 0))) (sym last)
            (subst (λ (v : Waiting). In (result below 0) (inner_needs os (result v.position 0))) (sym before) down.needed))

      down_is : IsPath ports os hs down_path (suc (suc d))
      down_is = record {
        waiting = by_position (IsWaiting ports os) is.waiting down.waiting (start_waits ports os below down.unknown.within (not_flat _ down.unknown.nested));
        unknown = by_position (λ (v : Waiting). height_get hs v.position ≡ None) is.unknown (ap (height_get hs) down.same ∙ is.unknown d (omega arith)) down.unknown.unknown;
        needed = down_needed;
      }

  -- one step further down, and what stands first
  pub path_down : (hs : List (Option ℕ)) (path : List Waiting) (depth d : ℕ) (w : Waiting) (below : ℕ) → depth ≡ suc d → depth < length path
      → IsPath ports os hs path depth → IsDown ports os hs (waiting_at path d) w below → IsPath ports os hs (set (set path d w) depth (starting below)) (depth + 1)
  path_down hs path depth d w below e room is down =
      subst (λ k. IsPath ports os hs (set (set path d w) k (starting below)) (k + 1)) (sym e)
      (subst (IsPath ports os hs (set (set path d w) (suc d) (starting below))) more
      (down_is path d w below (subst (λ k. k < length path) e room) hs (subst (IsPath ports os hs path) e is) down)) where
        more : suc (suc d) ≡ suc d + 1
        more = omega arith

  pub path_first : (hs : List (Option ℕ)) (path : List Waiting) (depth d : ℕ) (w : Waiting) (below : ℕ) → depth ≡ suc d → depth < length path
      → w.position ≡ (waiting_at path d).position → (waiting_at (set (set path d w) depth (starting below)) 0).position ≡ (waiting_at path 0).position
  path_first hs path depth d w below e room same =
      ap (λ k. (waiting_at (set (set path d w) k (starting below)) 0).position) e
      ∙ position_kept path d w below (subst (λ k. k < length path) e room) same 0 (omega arith)

  module _ (acyclic : IsAcyclic (inner_needs os)) where
    -- how far a value is from those that need nothing
    far : Ref → ℕ
    far = (HasHeights-acyclic (inner_needs os) (results (length os)) (IsWithin-results os) acyclic).0

    far_falls : (a b : Ref) → In b (inner_needs os a) → far b < far a
    unfolding far
    far_falls = FallsAlong-height (inner_needs os) far (HasHeights-acyclic (inner_needs os) (results (length os)) (IsWithin-results os) acyclic).1

    far_within : (a : Ref) → far a ≤ suc (length os)
    unfolding far
    far_within a =
        let bound : far a ≤ suc (length (results (length os))) =
        height-le (inner_needs os) (results (length os)) (IsWithin-results os) far (HasHeights-acyclic (inner_needs os) (results (length os)) (IsWithin-results os) acyclic).1 a in
        let count : length (results (length os)) ≡ length os = length-results (length os) in
        omega (arith, bound, count)

    far_some : (a : Ref) → 1 ≤ far a
    unfolding far
    far_some a =
        let is : far a ≡ suc (greatest (map far (inner_needs os a))) = (HasHeights-acyclic (inner_needs os) (results (length os)) (IsWithin-results os) acyclic).1 a in
        omega (arith, is)

    along : (hs : List (Option ℕ)) (path : List Waiting) (depth : ℕ) → IsPath ports os hs path depth → (i j : ℕ) → i ≤ j → j < depth
        → far (result (waiting_at path j).position 0) + j ≤ far (result (waiting_at path i).position 0) + i
    along hs path depth is = falling (λ i. far (result (waiting_at path i).position 0)) depth (λ i lt. far_falls _ _ (is.needed i lt))

    room : (hs : List (Option ℕ)) (path : List Waiting) (d below : ℕ) → IsPath ports os hs path (suc d)
        → In (result below 0) (inner_needs os (result (waiting_at path d).position 0)) → suc d ≤ length os
    room hs path d below is need =
        let whole : far (result (waiting_at path d).position 0) + d ≤ far (result (waiting_at path 0).position 0) + 0 = along hs path (suc d) is 0 d (omega arith) (omega arith) in
        let lower : far (result below 0) < far (result (waiting_at path d).position 0) = far_falls (result (waiting_at path d).position 0) (result below 0) need in
        let some : 1 ≤ far (result below 0) = far_some (result below 0) in
        let bound : far (result (waiting_at path 0).position 0) ≤ suc (length os) = far_within (result (waiting_at path 0).position 0) in
        omega (arith, whole, lower, some, bound)

    -- a path is no longer than the body, before it goes further down too
    pub path_room : (hs : List (Option ℕ)) (path : List Waiting) (depth d : ℕ) (w : Waiting) (below : ℕ) → depth ≡ suc d → IsPath ports os hs path depth
        → IsDown ports os hs (waiting_at path d) w below → depth ≤ length os
    path_room hs path depth d w below e is down =
        let more : suc d ≤ length os =
        room hs path d below (subst (IsPath ports os hs path) e is) (subst (λ p. In (result below 0) (inner_needs os (result p 0))) down.same down.needed) in
        omega (arith, e, more)

    -- no operation stands twice on a path
    apart : (hs : List (Option ℕ)) (path : List Waiting) (d : ℕ) → IsPath ports os hs path (suc d) → (i : ℕ) → i < d
        → (waiting_at path d).position ≡ (waiting_at path i).position → ⊥
    apart hs path d is i lt same =
        let more : far (result (waiting_at path d).position 0) + d ≤ far (result (waiting_at path i).position 0) + i = along hs path (suc d) is i d (omega (arith, lt)) (omega arith) in
        let e : far (result (waiting_at path d).position 0) ≡ far (result (waiting_at path i).position 0) = ap (λ p. far (result p 0)) same in
        omega (arith, more, e, lt)

    up : (hs : List (Option ℕ)) (path : List Waiting) (d h : ℕ) → IsPath ports os hs path (suc d) → IsPath ports os (set hs (waiting_at path d).position (Some h)) path d
    up hs path d h is = record {
      waiting = λ i lt. is.waiting i (omega (arith, lt));
      unknown = λ i lt. get_other hs (waiting_at path d).position (waiting_at path i).position (Some h) None (apart hs path d is i lt) ∙ is.unknown i (omega (arith, lt));
      needed = λ i lt. is.needed i (omega (arith, lt));
    }

    pub path_up : (hs : List (Option ℕ)) (path : List Waiting) (depth d h : ℕ) → depth ≡ suc d → IsPath ports os hs path depth
        → IsPath ports os (set hs (waiting_at path d).position (Some h)) path d
    path_up hs path depth d h e is = up hs path d h (subst (IsPath ports os hs path) e is)

-- ---- how many heights are not known

abbrev pub unknowns : List (Option ℕ) → ℕ
unknowns [] = 0
unknowns (None ∷ hs) = suc (unknowns hs)
unknowns (Some h ∷ hs) = unknowns hs

pub unknowns_set : (hs : List (Option ℕ)) (i h : ℕ) → i < length hs → height_get hs i ≡ None → suc (unknowns (set hs i (Some h))) ≡ unknowns hs
unknowns_set [] i h lt none = absurd (omega (arith, lt))
unknowns_set (None ∷ hs) zero h lt none = refl
unknowns_set (Some g ∷ hs) zero h lt none = cc
unknowns_set (None ∷ hs) (suc i) h lt none = ap suc (unknowns_set hs i h (omega (arith, lt)) none)
unknowns_set (Some g ∷ hs) (suc i) h lt none = unknowns_set hs i h (omega (arith, lt)) none

-- the measure of a path: it falls where a height is found, and where the path grows
pub measure : List (Option ℕ) → ℕ → ℕ
measure hs depth = unknowns hs * (length hs + 2) + (length hs + 1 - depth)

pub measure_up : (hs : List (Option ℕ)) (i h depth d : ℕ) → depth ≡ suc d → i < length hs → height_get hs i ≡ None → measure (set hs i (Some h)) d < measure hs depth
unfolding measure
measure_up hs i h depth d e lt none =
    let u : suc (unknowns (set hs i (Some h))) ≡ unknowns hs = unknowns_set hs i h lt none in
    let n : length (set hs i (Some h)) ≡ length hs = length_set hs i (Some h) in
    let m : suc (unknowns (set hs i (Some h))) * (length hs + 2) ≡ unknowns hs * (length hs + 2) = ap (λ x. x * (length hs + 2)) u in
    let k : unknowns (set hs i (Some h)) * (length (set hs i (Some h)) + 2) ≡ unknowns (set hs i (Some h)) * (length hs + 2) =
    ap (λ x. unknowns (set hs i (Some h)) * (x + 2)) n in
    omega (arith, m, k, n, e)

pub measure_down : (hs : List (Option ℕ)) (depth : ℕ) → depth ≤ length hs → measure hs (depth + 1) < measure hs depth
unfolding measure
measure_down hs depth le = omega (arith, le)

-- ---- what stays

pub set_still : (hs : List (Option ℕ)) (i h : ℕ) → AreStill hs (set hs i (Some h))
set_still hs i h j there = go (nat_eq i j) refl where
  go : (b : Bool) → nat_eq i j ≡ b → is_some (height_get (set hs i (Some h)) j) ≡ true
  go false e = ap is_some (get_other hs i j (Some h) None (eqb-false i j e)) ∙ there
  go true e =
      let same : i ≡ j = eqb-true i j e in
      subst (λ k. is_some (height_get (set hs i (Some h)) k) ≡ true) same (ap is_some (get_same hs i (Some h) None (within hs i (subst (λ k. is_some (height_get hs k) ≡ true) (sym same) there))))
    where
      within : (xs : List (Option ℕ)) (k : ℕ) → is_some (height_get xs k) ≡ true → k < length xs
      within [] k some = cc
      within (x ∷ xs) zero some = omega arith
      within (x ∷ xs) (suc k) some = let rest : k < length xs = within xs k some in omega (arith, rest)

pub set_found : (hs : List (Option ℕ)) (i h : ℕ) → i < length hs → is_some (height_get (set hs i (Some h)) i) ≡ true
set_found hs i h lt = ap is_some (get_same hs i (Some h) None lt)
