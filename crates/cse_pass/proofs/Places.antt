-- Positions where an operation is taken out and another one stands for it, and equal operations.
use Rattle.std.proofs.Common.{◌≡◌, ◌<◌, ◌≤◌, ℕ, zero, suc, Bool, true, false, nat_lt, List, length, map, remove, Option, Some, None, slice_get, refl, sym, ap, ◌∙◌, arith, option_map}
use Rattle.std.proofs.lemmas.Bool.{ltb-true, ltb-false}
use Rattle.std.proofs.lemmas.List.{length-map, map-id}
use Rattle.std.proofs.lemmas.Option.{slice_get-map}
use Rattle.wiring.proofs.Edits.{length-remove_suc}
use Rattle.wiring.proofs.Lists.{map-map}
use Rattle.wiring.proofs.Members.{map_same}
use Rattle.hw_model.specs.Design.{Ref, Op, result_type}
use Rattle.hw_model.specs.Design.Ref.{port, result, undefined}
use Rattle.edit_laws.specs.Edit.{retarget}
use Rattle.edit_laws.specs.Laws.{up, down}
use Rattle.edit_laws.proofs.Positions.{down-up, get_taken}
use Rattle.fold_laws.specs.Unused.{is_pure}
use Rattle.cse_pass.specs.EqualOps.{are_equal}
use Rattle.cse_pass.specs.Merges.{merged_at, merged_ref, merge_op}
use Rattle.cse_pass.proofs.ConstantTypes.{pure_value}
use Rattle.cse_pass.proofs.EqualParts.{equal_ops_parts, equal_ops_from_parts}
use Rattle.cse_pass.proofs.Merging.{up_below}

-- ---- positions where one is put in

pub up_past : (i j : ℕ) → i ≤ j → up i j ≡ suc j
up_past zero j least = refl
up_past (suc i) zero least = absurd (omega (arith, least))
up_past (suc i) (suc j) least = ap suc (up_past i j (omega (arith, least)))

pub up_least : (i a b : ℕ) → a ≤ b → up i a ≤ up i b
up_least zero a b least = omega (arith, least)
up_least (suc i) zero zero least = omega arith
up_least (suc i) zero (suc b) least = omega arith
up_least (suc i) (suc a) zero least = absurd (omega (arith, least))
up_least (suc i) (suc a) (suc b) least = let rest : up i a ≤ up i b = up_least i a b (omega (arith, least)) in omega (arith, rest)

pub up_least_from : (i a b : ℕ) → up i a ≤ up i b → a ≤ b
up_least_from zero a b least = omega (arith, least)
up_least_from (suc i) zero b least = omega arith
up_least_from (suc i) (suc a) zero least = absurd (omega (arith, least))
up_least_from (suc i) (suc a) (suc b) least = let rest : a ≤ b = up_least_from i a b (omega (arith, least)) in omega (arith, rest)

pub up_less_from : (i a b : ℕ) → up i a < up i b → a < b
up_less_from i a b less = go (nat_lt a b) refl
  where
    go : (t : Bool) → nat_lt a b ≡ t → a < b
    go true is = ltb-true a b is
    go false is = let most : up i b ≤ up i a = up_least i b a (ltb-false a b is) in absurd (omega (arith, most, less))

-- one past the position that is put in comes from that position or past it
pub up_above : (i a : ℕ) → i < up i a → i ≤ a
up_above i a less = go (nat_lt a i) refl
  where
    go : (t : Bool) → nat_lt a i ≡ t → i ≤ a
    go true is = let same : up i a ≡ a = up_below i a (ltb-true a i is) in let below : a < i = ltb-true a i is in absurd (omega (arith, same, below, less))
    go false is = ltb-false a i is

-- ---- values that move with their operations

abbrev pub moved_ref : (ℕ → ℕ) → Ref → Ref
moved_ref f (port n) = port n
moved_ref f (result n k) = result (f n) k
moved_ref f undefined = undefined

-- a position, or one that stands for it
abbrev pub or_at : ℕ → Option ℕ → ℕ
or_at j None = j
or_at j (Some n) = n

-- where a position goes once position i is gone, position j standing for it
abbrev pub gone_to : ℕ → ℕ → ℕ → ℕ
gone_to i j n = or_at j (down i n)

merged_moved : (i j : ℕ) (r : Ref) → merged_ref i j r ≡ moved_ref (gone_to i j) r
merged_moved i j (port n) = refl
merged_moved i j undefined = refl
merged_moved i j (result n k) = go (down i n)
  where
    go : (z : Option ℕ) → merged_at z j k ≡ result (or_at j z) k
    go None = refl
    go (Some n') = refl

moved_twice : (f g : ℕ → ℕ) (r : Ref) → moved_ref f (moved_ref g r) ≡ moved_ref (λ n. f (g n)) r
moved_twice f g (port n) = refl
moved_twice f g (result n k) = refl
moved_twice f g undefined = refl

moved_same : (f g : ℕ → ℕ) → ((n : ℕ) → f n ≡ g n) → (r : Ref) → moved_ref f r ≡ moved_ref g r
moved_same f g same (port n) = refl
moved_same f g same (result n k) = ap (λ m. result m k) (same n)
moved_same f g same undefined = refl

stays_ref : (r : Ref) → moved_ref (λ n. n) r ≡ r
stays_ref (port n) = refl
stays_ref (result n k) = refl
stays_ref undefined = refl

retarget_same : (f g : Ref → Ref) → ((r : Ref) → f r ≡ g r) → (o : Op) → retarget f o ≡ retarget g o
retarget_same f g same o = ap (λ rs. record o { operands = rs }) (map_same f g o.operands (λ r here. same r))

-- operations whose operands move twice
pub op_twice : (f g : ℕ → ℕ) (o : Op) → retarget (moved_ref f) (retarget (moved_ref g) o) ≡ retarget (moved_ref (λ n. f (g n))) o
op_twice f g o =
    ap (λ rs. record o { operands = rs })
    (map-map (moved_ref f) (moved_ref g) o.operands
    ∙ map_same (λ r. moved_ref f (moved_ref g r)) (moved_ref (λ n. f (g n))) o.operands (λ r here. moved_twice f g r))

pub op_moved : (f g : ℕ → ℕ) → ((n : ℕ) → f n ≡ g n) → (o : Op) → retarget (moved_ref f) o ≡ retarget (moved_ref g) o
op_moved f g same o = retarget_same (moved_ref f) (moved_ref g) (moved_same f g same) o

pub op_stays : (f : ℕ → ℕ) → ((n : ℕ) → f n ≡ n) → (o : Op) → retarget (moved_ref f) o ≡ o
op_stays f same o =
    ap (λ rs. record o { operands = rs })
    (map_same (moved_ref f) (λ r. r) o.operands (λ r here. moved_same f (λ n. n) same r ∙ stays_ref r) ∙ map-id o.operands)

pub seen_twice : (f g : ℕ → ℕ) (x : Option Op) → option_map (retarget (moved_ref f)) (option_map (retarget (moved_ref g)) x) ≡ option_map (retarget (moved_ref (λ n. f (g n)))) x
seen_twice f g None = refl
seen_twice f g (Some o) = ap Some (op_twice f g o)

pub seen_moved : (f g : ℕ → ℕ) → ((n : ℕ) → f n ≡ g n) → (x : Option Op) → option_map (retarget (moved_ref f)) x ≡ option_map (retarget (moved_ref g)) x
seen_moved f g same None = refl
seen_moved f g same (Some o) = ap Some (op_moved f g same o)

pub seen_stays : (f : ℕ → ℕ) → ((n : ℕ) → f n ≡ n) → (x : Option Op) → option_map (retarget (moved_ref f)) x ≡ x
seen_stays f same None = refl
seen_stays f same (Some o) = ap Some (op_stays f same o)

-- ---- a merge

pub merged_get : (os : List Op) (i j n : ℕ) → slice_get (merge_op i j os) n ≡ option_map (retarget (moved_ref (gone_to i j))) (slice_get os (up i n))
merged_get os i j n =
    slice_get-map (retarget (merged_ref i j)) (remove os i) n
    ∙ ap (option_map (retarget (merged_ref i j))) (get_taken os i (up i n) n (down-up i n))
    ∙ of_moved (slice_get os (up i n))
  where
    of_moved : (x : Option Op) → option_map (retarget (merged_ref i j)) x ≡ option_map (retarget (moved_ref (gone_to i j))) x
    of_moved None = refl
    of_moved (Some o) = ap Some (retarget_same (merged_ref i j) (moved_ref (gone_to i j)) (merged_moved i j) o)

pub merged_length : (os : List Op) (i j : ℕ) → i < length os → suc (length (merge_op i j os)) ≡ length os
merged_length os i j less = ap suc (length-map (remove os i) (retarget (merged_ref i j))) ∙ length-remove_suc os i less

-- ---- equal operations

pub equal_self : (o : Op) → are_equal o o ≡ true
equal_self o = equal_ops_from_parts o o refl refl refl refl

pub equal_turned : (o p : Op) → are_equal o p ≡ true → are_equal p o ≡ true
equal_turned o p same = let s = equal_ops_parts o p same in equal_ops_from_parts p o (sym s.0) (sym s.1) (sym s.2) (sym s.3)

pub equal_then : (o p q : Op) → are_equal o p ≡ true → are_equal p q ≡ true → are_equal o q ≡ true
equal_then o p q one two =
    let s = equal_ops_parts o p one in
    let t = equal_ops_parts p q two in
    equal_ops_from_parts o q (s.0 ∙ t.0) (s.1 ∙ t.1) (s.2 ∙ t.2) (s.3 ∙ t.3)

pub equal_retarget : (f : Ref → Ref) (o p : Op) → are_equal o p ≡ true → are_equal (retarget f o) (retarget f p) ≡ true
equal_retarget f o p same =
    let s = equal_ops_parts o p same in
    equal_ops_from_parts (retarget f o) (retarget f p) (ap (map f) s.0) s.1 s.2 s.3

pub equal_pure : (o p : Op) → are_equal o p ≡ true → is_pure p.kind ≡ true → is_pure o.kind ≡ true
equal_pure o p same pure =
    sym (pure_value (result_type o 0) o.kind) ∙ ap is_pure (equal_ops_parts o p same).3 ∙ pure_value (result_type p 0) p.kind ∙ pure
