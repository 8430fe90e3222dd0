-- A new table shows the first state.
use Rattle.std.proofs.Common.{◌≡◌, ℕ, zero, suc, ◌+◌, ◌<◌, ◌≤◌, ◌⊎◌, inl, inr, List, [], ◌∷◌, ◌++◌, map, length, replicate, slice_get, get_or, length-append, Result, Ok, Err, Option, Some, slice_index, refl, sym, ap, subst, ◌∙◌, arith}
use Rattle.std.proofs.lemmas.List.{length-map, length-replicate}
use Rattle.std.specs.Prelude.{IfOk, IsOkAnd}
use mathlib.Core.Option.{some, some-injective, some-ne-none}
use lib.ListN.{get_elem?}
use Rattle.atomic_table.specs.Table.{opening}
use Rattle.atomic_table.proofs.Lists.{at_map, at_longer}
use Rattle.sched_core.specs.State.{first as first_state}
use Rattle.sched_core.specs.Runs.{AreCallees}
use Rattle.sched_core.proofs.Draws.{first-sound}
use Rattle.shared_schedule.specs.declared.plan.Plan.{Plan}
use Rattle.shared_schedule.specs.declared.slot.Slot.{Slot}
use Rattle.shared_schedule.specs.declared.slot.Slot.TheVariants.{Stored, Made, Bare}
use Rattle.shared_schedule.specs.declared.view.View.{View}
use Rattle.shared_schedule.specs.Views.{callees_in, new_view, ToldBy}
use Rattle.shared_schedule.specs.Rule.{edge_slot, slots_of, home, Rule}
use Rattle.shared_schedule.specs.Opened.{AreFirstWords, AreFirstSlots}
use Rattle.shared_schedule.proofs.Positions.{edge_slot-lt}

module _ {P B : Type 0} (first finished : P → ℕ → B → Type 0) (copied : P → ℕ → Option B → Type 0) where
  pub opens : (plan : Plan P) (words : List ℕ) (slots : List (Slot B)) → AreCallees (callees_in plan) → AreFirstWords (callees_in plan) words → AreFirstSlots first (callees_in plan) plan.pieces slots
      → Rule first finished copied plan (opening words slots (new_view (Some plan)))
  opens plan words slots lists counts bodies = (
    first_state (callees_in plan),
    record {
      callees = refl;
      lists = lists;
      sound = first-sound (callees_in plan);
      unput = λ c i at is. refl;
      wide = counts.wide;
      leaf = counts.leaf;
      pending = counts.pending;
      come = refl;
      shares = refl;
      told = λ w v at. told w v at;
      homes = length-map slots some ∙ bodies.long;
      bodies = λ m within. let body = bodies.stored m within in home (Stored body.0) (at_map some slots m (Stored body.0) body.1) (body.0, refl, body.2);
      edges = λ c i at. home Bare (at_map some slots (edge_slot (callees_in plan) c i) Bare (bodies.bare (edge_slot (callees_in plan) c i) (omega arith) (edge_slot-lt (callees_in plan) c i at))) refl;
    },
  )
    where
      told : (w : ℕ) (v : View P) → get_elem? (new_view (Some plan) ∷ []) w ≡ some v → ToldBy plan (first_state (callees_in plan)) w v v.plan
      told zero v at = subst (λ z. ToldBy plan (first_state (callees_in plan)) 0 z z.plan) (some-injective (new_view (Some plan)) v at)
          (refl, record { moves = λ m. refl; once = λ m. refl; emptied = λ c i edge. refl; told = λ c i edge. refl; passed = refl; here = refl; splits = λ e. refl; shares = omega arith })
      told (suc w) v at = absurd (some-ne-none v (sym at))

-- the words, from the lengths of the rows
pub first-words : {A : Type 0} (f : A → List ℕ) (rows : List A) (words : List ℕ) → words ≡ 0 ∷ map (λ row. length (f row)) rows → AreFirstWords (map f rows) words
first-words {A = A} f rows words is = record {
  wide = ap length is ∙ (let one : length (map (λ row. length (f row)) rows) ≡ length rows = length-map rows (λ row. length (f row)) in let two : length (map f rows) ≡ length rows = length-map rows f in omega arith);
  leaf = ap (λ ws. slice_index ws 0) is;
  pending = λ c below. ap (λ ws. slice_index ws (c + 1)) is ∙ ap (λ k. get_or (0 ∷ map (λ row. length (f row)) rows) k 0) (next c) ∙ lengths rows c (let two : length (map f rows) ≡ length rows = length-map rows f in omega arith);
}
  where
    next : (c : ℕ) → c + 1 ≡ suc c
    next c = omega arith

    lengths : (rows : List A) (c : ℕ) → c < length rows → get_or (map (λ row. length (f row)) rows) c 0 ≡ length (get_or (map f rows) c [])
    lengths [] c below = absurd (omega arith)
    lengths (row ∷ rows) zero below = refl
    lengths (row ∷ rows) (suc c) below = lengths rows c (omega arith)

module _ {A : Type 0} where
  bare-at : (xs : List A) (n : ℕ) (x : A) (k : ℕ) → length xs ≤ k → k < length xs + n → get_elem? (xs ++ replicate n x) k ≡ some x
  bare-at [] zero x k past below = absurd (omega arith)
  bare-at [] (suc n) x zero past below = refl
  bare-at [] (suc n) x (suc k) past below = bare-at [] n x k (omega arith) (omega arith)
  bare-at (y ∷ ys) n x zero past below = absurd (omega arith)
  bare-at (y ∷ ys) n x (suc k) past below = bare-at ys n x k (omega arith) (omega arith)

  has-position : (xs : List A) (k : ℕ) → k < length xs → (x : A) × (slice_get xs k ≡ Some x) × (get_elem? xs k ≡ some x)
  has-position [] k below = absurd (omega arith)
  has-position (x ∷ xs) zero below = (x, refl, refl)
  has-position (x ∷ xs) (suc k) below = has-position xs k (omega arith)

-- the slots, from the bodies
pub first-slots : {P B : Type 0} (first : P → ℕ → B → Type 0) (callees : List (List ℕ)) (p : P) (bodies : List B) (slots : List (Slot B)) (edges : ℕ) → slots ≡ map Stored bodies ++ replicate edges Bare
    → length bodies ≡ length callees → length callees + edges ≡ slots_of callees → ((m : ℕ) (b : B) → slice_get bodies m ≡ Some b → first p m b) → AreFirstSlots first callees p slots
first-slots {B = B} first callees p bodies slots edges is as_many all each = record {
  long = ap length is ∙ length-append (map Stored bodies) (replicate edges Bare) ∙ (let one : length (map Stored bodies)
      ≡ length bodies = length-map bodies Stored in let two : length (replicate {A = Slot B} edges Bare) ≡ edges = length-replicate edges Bare in omega arith);
  stored = λ m within. let body = has-position bodies m (omega arith) in
      (body.0, ap (λ s. get_elem? s m) is ∙ at_longer (map Stored bodies) (replicate edges Bare) m (Stored body.0) (at_map Stored bodies m body.0 body.2), each m body.0 body.1);
  bare = λ k past below. ap (λ s. get_elem? s k) is ∙ bare-at (map Stored bodies) edges Bare k (let one : length (map Stored bodies) ≡ length bodies = length-map bodies Stored in omega arith)
      (let one : length (map Stored bodies) ≡ length bodies = length-map bodies Stored in omega arith);
}

-- what holds of every value of a result
pub if-ok : {A E : Type 0} {P Q : A → Type 0} (r : Result A E) → ((a : A) → P a → Q a) → IfOk r P → IfOk r Q
if-ok (Ok a) step holds = step a holds
if-ok (Err e) step holds = tt

pub made-same : {B : Type 0} {b c : B} → Made b ≡ Made c → b ≡ c
made-same same = cc

-- what stands at a position of a list with one more element
pub get-last : {B : Type 0} (xs : List B) (x y : B) (k : ℕ) → slice_get (xs ++ x ∷ []) k ≡ Some y → ((k < length xs) × (slice_get xs k ≡ Some y)) ⊎ ((k ≡ length xs) × (x ≡ y))
get-last [] x y zero at = inr (refl, cc)
get-last [] x y (suc k) at = absurd (cc)
get-last (z ∷ zs) x y zero at = inl (omega arith, at)
get-last {B = B} (z ∷ zs) x y (suc k) at = further (get-last zs x y k at)
  where
    further : ((k < length zs) × (slice_get zs k ≡ Some y)) ⊎ ((k ≡ length zs) × (x ≡ y)) → ((suc k < length (z ∷ zs)) × (slice_get zs k ≡ Some y)) ⊎ ((suc k ≡ length (z ∷ zs)) × (x ≡ y))
    further (inl (below, is)) = inl (omega arith, is)
    further (inr (last, is)) = inr (ap suc last, is)

module _ {A B E : Type 0} (f : A → List B) (slot : Slot B) (n : ℕ) where
  -- one more finished body
  pub pushed-len : (before after : Result A E) → IfOk after (λ v. IsOkAnd before (λ old. (b : B) × (slot ≡ Made b) × (f v ≡ f old ++ b ∷ []))) → IfOk before (λ v. length (f v) ≡ n) → IfOk after (λ v. length (f v) ≡ n + 1)
  pushed-len before (Err e) pushed long = tt
  pushed-len (Err e) (Ok v) pushed long = absurd pushed
  pushed-len (Ok old) (Ok v) pushed long = ap length pushed.2 ∙ length-append (f old) (pushed.0 ∷ []) ∙ ap (λ k. k + 1) long

  pub pushed-bodies : (items : List (Slot B)) (before after : Result A E) → get_elem? items n ≡ some slot → IfOk after (λ v. IsOkAnd before (λ old. (b : B) × (slot ≡ Made b) × (f v ≡ f old ++ b ∷ [])))
      → IfOk before (λ v. length (f v) ≡ n) → IfOk before (λ v. (k : ℕ) (b : B) → slice_get (f v) k ≡ Some b → (k < n) × (get_elem? items k ≡ some (Made b)))
      → IfOk after (λ v. (k : ℕ) (b : B) → slice_get (f v) k ≡ Some b → (k < n + 1) × (get_elem? items k ≡ some (Made b)))
  pushed-bodies items before (Err e) here pushed long each = tt
  pushed-bodies items (Err e) (Ok v) here pushed long each = absurd pushed
  pushed-bodies items (Ok old) (Ok v) here pushed long each = λ k b at. by_position k b (get-last (f old) pushed.0 b k (ap (λ l. slice_get l k) (sym pushed.2) ∙ at))
    where
      by_position : (k : ℕ) (b : B) → ((k < length (f old)) × (slice_get (f old) k ≡ Some b)) ⊎ ((k ≡ length (f old)) × (pushed.0 ≡ b)) → (k < n + 1) × (get_elem? items k ≡ some (Made b))
      by_position k b (inl (below, is)) = let e = each k b is in (omega (arith, long), e.1)
      by_position k b (inr (last, is)) = (omega (arith, long), ap (get_elem? items) (last ∙ long) ∙ here ∙ ap some (pushed.1 ∙ ap (λ (z : B). Made z) is))
