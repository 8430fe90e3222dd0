-- Where the own operations of users stand, as code keeps it.
use Rattle.std.proofs.Common.{◌≡◌, ℕ, zero, suc, ◌+◌, ◌<◌, Bool, true, false, cond, List, [], ◌∷◌, ◌++◌, map, length, get_or, refl, sym, ap, ap₂, ◌∙◌, arith, length-append}
use Rattle.std.specs.Int.{from_bool}
use Rattle.std.proofs.lemmas.List.{map-append, length-map}
use Rattle.aiger_laws.specs.declared.tree.Latch.{Latch}
use Rattle.aiger_laws.specs.declared.tree.AndGate.{AndGate}
use Rattle.aiger_laws.specs.Trees.{Aiger}
use Rattle.aiger_design.specs.Positions.{User, latch_users, gate_user, output_user, users, needs_true, needs_false, constants, is_inverted, inverter_count, size, end_from}
use Rattle.aiger_design.specs.Operations.{constant_op}
use Rattle.aiger_design.proofs.Fronts.{first_users, users_are}
use Rattle.aiger_text.specs.declared.places.Places.{Places}
use Rattle.aiger_text.specs.Places.{ends_from, place_behind, latch_lists, gate_lists, ArePlaces, IsThere}
use Rattle.aiger_laws.specs.Drivers.{Driver, nothing, input_bit, held_bit, gate_bit, driver}
use Rattle.aiger_laws.proofs.GateDrivers.{driving_gate}
use Rattle.aiger_design.proofs.UsedLiterals.{input_within, latch_within}
use Rattle.std.proofs.lemmas.Option.{slice_get_within}

-- ---- inverters

pub count_one : (l : ℕ) → inverter_count (l ∷ []) ≡ cond (is_inverted l) 1 0
count_one l = go (is_inverted l)
  where
    go : (b : Bool) → cond b (suc (inverter_count [])) (inverter_count []) ≡ cond b 1 0
    go true = refl
    go false = refl

pub count_two : (l m : ℕ) → inverter_count (l ∷ m ∷ []) ≡ cond (is_inverted l) 1 0 + cond (is_inverted m) 1 0
count_two l m = go (is_inverted l) (is_inverted m)
  where
    go : (a b : Bool) → cond a (suc (cond b 1 0)) (cond b 1 0) ≡ cond a 1 0 + cond b 1 0
    go true true = refl
    go true false = refl
    go false true = refl
    go false false = refl

-- ---- lists of places

pub ends_append : (p : ℕ) (xs ys : List (List ℕ)) → ends_from p (xs ++ ys) ≡ ends_from p xs ++ ends_from (place_behind p xs) ys
ends_append p [] ys = refl
ends_append p (x ∷ xs) ys = ap (λ es. (p + inverter_count x) ∷ es) (ends_append (suc (p + inverter_count x)) xs ys)

length-ends : (p : ℕ) (xs : List (List ℕ)) → length (ends_from p xs) ≡ length xs
length-ends p [] = refl
length-ends p (x ∷ xs) = ap suc (length-ends (suc (p + inverter_count x)) xs)

ends_at : (p : ℕ) (us vs : List User) (k : ℕ) → k < length us → get_or (ends_from p (map (λ (u : User). u.literals) us)) k 0 ≡ end_from p (us ++ vs) k
ends_at p [] vs k low = absurd (omega (arith, low))
ends_at p (u ∷ us) vs zero low = refl
ends_at p (u ∷ us) vs (suc k) low =
    let at : suc (p + inverter_count u.literals) ≡ p + size u = omega arith in
    ap (λ q. get_or (ends_from q (map (λ (v : User). v.literals) us)) k 0) at ∙ ends_at (p + size u) us vs k (omega (arith, low))

latches_listed : (k : ℕ) (ls : List Latch) → map (λ (u : User). u.literals) (latch_users k ls) ≡ latch_lists ls
latches_listed k [] = refl
latches_listed k (l ∷ ls) = ap (λ xs. (l.next ∷ []) ∷ xs) (latches_listed (suc k) ls)

gates_listed : (gs : List AndGate) → map (λ (u : User). u.literals) (map gate_user gs) ≡ gate_lists gs
gates_listed [] = refl
gates_listed (g ∷ gs) = ap (λ xs. (g.left ∷ g.right ∷ []) ∷ xs) (gates_listed gs)

-- where the own operation of a user stands
abbrev pub own_end : Aiger → ℕ → ℕ
own_end t k = end_from (length (constants t)) (users t) k

module _ (t : Aiger) where
  lists_are : map (λ (u : User). u.literals) (first_users t) ≡ latch_lists t.latches ++ gate_lists t.gates
  lists_are = map-append (λ (u : User). u.literals) (latch_users 0 t.latches) (map gate_user t.gates) ∙ ap₂ (λ xs ys. xs ++ ys) (latches_listed 0 t.latches) (gates_listed t.gates)

  lists_count : length (latch_lists t.latches ++ gate_lists t.gates) ≡ length t.latches + length t.gates
  lists_count =
      length-append (latch_lists t.latches) (gate_lists t.gates)
      ∙ ap₂ (λ m n. m + n) (length-map t.latches (λ (l : Latch). l.next ∷ [])) (length-map t.gates (λ (g : AndGate). g.left ∷ g.right ∷ []))

  -- there is a place for each latch and each gate
  pub place_there : (p : Places) → ArePlaces t p → (k : ℕ) → k < length t.latches + length t.gates → k < length p.ends.items
  place_there p are k low =
      let count : length p.ends.items ≡ length t.latches + length t.gates =
      ap length are.ends ∙ length-ends (length (constants t)) (latch_lists t.latches ++ gate_lists t.gates) ∙ lists_count in
      omega (arith, count, low)

  -- and it is that of its own operation
  pub place_is : (p : Places) → ArePlaces t p → (k : ℕ) → k < length t.latches + length t.gates → get_or p.ends.items k 0 ≡ end_from (length (constants t)) (users t) k
  place_is p are k low =
      let count : length (first_users t) ≡ length t.latches + length t.gates =
      sym (length-map (first_users t) (λ (u : User). u.literals)) ∙ ap length lists_are ∙ lists_count in
      ap (λ es. get_or es k 0) (are.ends ∙ ap (ends_from (length (constants t))) (sym lists_are))
      ∙ ends_at (length (constants t)) (first_users t) (output_user t.outputs ∷ []) k (omega (arith, count, low))
      ∙ ap (λ us. end_from (length (constants t)) us k) (sym (users_are t))

  -- the constants are those that are used
  pub constants_count : (a b : Bool) (m n : ℕ) → m ≡ from_bool a → n ≡ from_bool b → a ≡ needs_true t → b ≡ needs_false t → m + n ≡ length (constants t)
  constants_count a b m n is_m is_n has_true has_false =
      ap₂ (λ x y. x + y) (is_m ∙ ap from_bool has_true) (is_n ∙ ap from_bool has_false) ∙ go (needs_true t) (needs_false t)
    where
      go : (x y : Bool) → from_bool x + from_bool y ≡ length (cond x (constant_op true ∷ []) [] ++ cond y (constant_op false ∷ []) [])
      go true true = refl
      go true false = refl
      go false true = refl
      go false false = refl

  -- places of latches and then of gates are all
  pub ends_joined : (first behind : ℕ) (start one two : List ℕ) → start ≡ [] → one ≡ start ++ ends_from first (latch_lists t.latches) → behind ≡ place_behind first (latch_lists t.latches)
      → two ≡ one ++ ends_from behind (gate_lists t.gates) → first ≡ length (constants t) → two ≡ ends_from (length (constants t)) (latch_lists t.latches ++ gate_lists t.gates)
  ends_joined first behind start one two empty latches at gates is =
      gates ∙ ap₂ (λ es p. es ++ ends_from p (gate_lists t.gates)) (latches ∙ ap (λ es. es ++ ends_from first (latch_lists t.latches)) empty) at
      ∙ sym (ends_append first (latch_lists t.latches) (gate_lists t.gates)) ∙ ap (λ p. ends_from p (latch_lists t.latches ++ gate_lists t.gates)) is

-- what gives a variable its bit is there
pub driver_there : (t : Aiger) (v : ℕ) → IsThere t (driver t v)
driver_there t v = go (driver t v) refl
  where
    go : (d : Driver) → driver t v ≡ d → IsThere t d
    go nothing is = tt
    go (input_bit k) is = input_within t v k is
    go (held_bit k) is = latch_within t v k is
    go (gate_bit k) is = let gate = driving_gate t v k is in slice_get_within t.gates k gate.0 gate.1
