-- No value of an imported design needs itself without a register between: positions have numbers that fall along needs. An operation of a gate has
-- twice the height of its variable, an inverter one more than twice the height of what it negates, and all others have 0.
use Rattle.std.proofs.Common.{◌≡◌, ℕ, zero, suc, ◌+◌, ◌*◌, ◌<◌, ◌≤◌, ◌&&◌, ◌==◌, not, Bool, true, false, cond, List, [], ◌∷◌, ◌++◌, map, length, get_or, slice_get, Option, Some, None, refl, sym, ap}
use Rattle.std.proofs.Common.{subst, ◌∙◌, inl, inr, arith, append_assoc, length-append, add-one}
use Rattle.std.proofs.lemmas.Bool.{and_parts}
use Rattle.std.proofs.lemmas.List.{length-map, get_or_append_left, get_or-append-add, get_or_at}
use Rattle.wiring.specs.Wiring.{In, FallsAlong}
use Rattle.wiring.proofs.Members.{In-append_left, In-append_right, In-map, position_of_In}
use Rattle.hw_model.specs.Design.{Ref, Op, is_register, is_output_op}
use Rattle.hw_model.specs.Design.Ref.{port, result, undefined}
use Rattle.aiger_laws.specs.declared.tree.Latch.{Latch}
use Rattle.aiger_laws.specs.declared.tree.AndGate.{AndGate}
use Rattle.aiger_laws.specs.Trees.{Aiger, variable, is_negated}
use Rattle.aiger_laws.specs.Drivers.{Driver, nothing, input_bit, held_bit, gate_bit, driver, needs, joined, operands as taken, GatesDrive}
use Rattle.aiger_laws.proofs.GateDrivers.{driving_gate}
use Rattle.aiger_design.specs.Operations.{constant_op, inverter_op, and_op}
use Rattle.aiger_design.specs.Positions.{User, latch_users, gate_user, output_user, users, needs_true, needs_false, constants, constant_ref, is_inverted, inverter_count, size, end_from, user_ref}
use Rattle.aiger_design.specs.Positions.{input_port, driver_ref, variable_ref, plain_ref, operands}
use Rattle.aiger_design.specs.Built.{inverters, group, groups, imported_body}
use Rattle.aiger_design.proofs.UsedLiterals.{uses_of, zero_literal, latch_within}

-- ---- numbers of positions

-- the numbers of inverters, from the heights of variables
abbrev pub inverter_numbers : (ℕ → ℕ) → List ℕ → List ℕ
inverter_numbers h [] = []
inverter_numbers h (l ∷ ls) = cond (is_inverted l) ((2 * h (variable l) + 1) ∷ inverter_numbers h ls) (inverter_numbers h ls)

-- those of the operations of a user whose own one has a number
abbrev pub group_numbers : (ℕ → ℕ) → ℕ → User → List ℕ
group_numbers h n u = inverter_numbers h u.literals ++ n ∷ []

-- those of the operations of users
abbrev pub user_numbers : (ℕ → ℕ) → List ℕ → List User → List ℕ
user_numbers h [] us = []
user_numbers h (n ∷ ns) [] = []
user_numbers h (n ∷ ns) (u ∷ us) = group_numbers h n u ++ user_numbers h ns us

-- the number of a gate's own operation
abbrev gate_number : (ℕ → ℕ) → AndGate → ℕ
gate_number h g = 2 * h (variable g.literal)

-- those of the own operations of the users
abbrev own_numbers : (ℕ → ℕ) → Aiger → List ℕ
own_numbers h t = map (λ (l : Latch). 0) t.latches ++ (map (gate_number h) t.gates ++ 0 ∷ [])

-- those of the constants
abbrev zeros : Bool → Bool → List ℕ
zeros a b = map (λ (o : Op). 0) (cond a (constant_op true ∷ []) [] ++ cond b (constant_op false ∷ []) [])

-- those of all positions
abbrev pub numbers : (ℕ → ℕ) → Aiger → List ℕ
numbers h t = zeros (needs_true t) (needs_false t) ++ user_numbers h (own_numbers h t) (users t)

-- the number of a value
abbrev pub number_at : List ℕ → Ref → ℕ
number_at ns (port j) = 0
number_at ns (result i k) = get_or ns i 0
number_at ns undefined = 0

-- ---- operations above what they take

-- an operation that is no register and no output has a greater number than each value that it takes
abbrev pub Falls : List ℕ → ℕ → Op → Type 0
Falls all n o = is_register o ≡ false → is_output_op o ≡ false → (r : Ref) → In r o.operands → number_at all r < n

-- each of the operations has, their numbers standing in order
abbrev AreFalling : List ℕ → List ℕ → List Op → Type 0
AreFalling all [] [] = Unit {0}
AreFalling all [] (o ∷ os) = ⊥
AreFalling all (n ∷ ns) [] = ⊥
AreFalling all (n ∷ ns) (o ∷ os) = Falls all n o × AreFalling all ns os

falling_append : (all ns ms : List ℕ) (os ps : List Op) → AreFalling all ns os → AreFalling all ms ps → AreFalling all (ns ++ ms) (os ++ ps)
falling_append all [] ms [] ps first second = second
falling_append all [] ms (o ∷ os) ps first second = absurd first
falling_append all (n ∷ ns) ms [] ps first second = absurd first
falling_append all (n ∷ ns) ms (o ∷ os) ps first second = (first.0, falling_append all ns ms os ps first.1 second)

falling_at : (all ns : List ℕ) (os : List Op) → AreFalling all ns os → (i : ℕ) (o : Op) → slice_get os i ≡ Some o → Falls all (get_or ns i 0) o
falling_at all [] [] falls i o is = absurd (let w : ⊥ = cc in w)
falling_at all [] (p ∷ os) falls i o is = absurd falls
falling_at all (n ∷ ns) [] falls i o is = absurd falls
falling_at all (n ∷ ns) (p ∷ os) falls zero o is = subst (Falls all n) (ap in_some is) falls.0
  where
    in_some : Option Op → Op
    in_some None = p
    in_some (Some q) = q
falling_at all (n ∷ ns) (p ∷ os) falls (suc i) o is = falling_at all ns os falls.1 i o is

-- ---- numbers that stand among all

abbrev NumbersStand : List ℕ → ℕ → List ℕ → Type 0
NumbersStand all p [] = Unit {0}
NumbersStand all p (n ∷ ns) = (get_or all p 0 ≡ n) × NumbersStand all (suc p) ns

one_longer : (before : List ℕ) (n p : ℕ) → length before ≡ p → length (before ++ n ∷ []) ≡ suc p
one_longer before n p is = length-append before (n ∷ []) ∙ add-one (length before) ∙ ap suc is

numbers_stand : (before : List ℕ) (p : ℕ) → length before ≡ p → (ns more : List ℕ) → NumbersStand (before ++ (ns ++ more)) p ns
numbers_stand before p is [] more = tt
numbers_stand before p is (n ∷ ns) more = (
  get_or_at before n (ns ++ more) 0 p is,
  subst (λ xs. NumbersStand xs (suc p) ns) (append_assoc before (n ∷ []) (ns ++ more)) (numbers_stand (before ++ n ∷ []) (suc p) (one_longer before n p is) ns more),
)

module _ (h : ℕ → ℕ) where
  length-inverter_numbers : (ls : List ℕ) → length (inverter_numbers h ls) ≡ inverter_count ls
  length-inverter_numbers [] = refl
  length-inverter_numbers (l ∷ ls) = go (is_inverted l) (length-inverter_numbers ls)
    where
      go : (b : Bool) → length (inverter_numbers h ls) ≡ inverter_count ls
          → length (cond b ((2 * h (variable l) + 1) ∷ inverter_numbers h ls) (inverter_numbers h ls)) ≡ cond b (suc (inverter_count ls)) (inverter_count ls)
      go true rest = ap suc rest
      go false rest = rest

  group_longer : (before : List ℕ) (p n : ℕ) (u : User) → length before ≡ p → length (before ++ group_numbers h n u) ≡ p + size u
  group_longer before p n u is =
      let first : length (before ++ group_numbers h n u) ≡ length before + length (group_numbers h n u) = length-append before (group_numbers h n u) in
      let second : length (group_numbers h n u) ≡ length (inverter_numbers h u.literals) + 1 = length-append (inverter_numbers h u.literals) (n ∷ []) in
      let third : length (inverter_numbers h u.literals) ≡ inverter_count u.literals = length-inverter_numbers u.literals in
      omega (arith, first, second, third, is)

  -- the own operation of a user has its number
  own_number : (before : List ℕ) (p : ℕ) → length before ≡ p → (ns : List ℕ) (us : List User) → length ns ≡ length us → (k : ℕ)
      → get_or (before ++ user_numbers h ns us) (end_from p us k) 0 ≡ get_or ns k 0
  own_number before p is [] [] same k =
      let at : p ≡ length before + 0 = omega (arith, is) in
      ap (λ i. get_or (before ++ []) i 0) at ∙ get_or-append-add before [] 0 0
  own_number before p is [] (u ∷ us) same k = absurd (let w : ⊥ = cc in w)
  own_number before p is (n ∷ ns) [] same k = absurd (let w : ⊥ = cc in w)
  own_number before p is (n ∷ ns) (u ∷ us) same zero =
      let count : length (inverter_numbers h u.literals) ≡ inverter_count u.literals = length-inverter_numbers u.literals in
      let all : length (group_numbers h n u) ≡ length (inverter_numbers h u.literals) + 1 = length-append (inverter_numbers h u.literals) (n ∷ []) in
      ap (λ i. get_or (before ++ (group_numbers h n u ++ user_numbers h ns us)) (i + inverter_count u.literals) 0) (sym is)
      ∙ get_or-append-add before (group_numbers h n u ++ user_numbers h ns us) (inverter_count u.literals) 0
      ∙ get_or_append_left (group_numbers h n u) (user_numbers h ns us) 0 (inverter_count u.literals) (omega (arith, count, all))
      ∙ get_or_at (inverter_numbers h u.literals) n [] 0 (inverter_count u.literals) count
  own_number before p is (n ∷ ns) (u ∷ us) same (suc k) =
      subst (λ xs. get_or xs (end_from (p + size u) us k) 0 ≡ get_or ns k 0) (append_assoc before (group_numbers h n u) (user_numbers h ns us))
      (own_number (before ++ group_numbers h n u) (p + size u) (group_longer before p n u is) ns us (omega (arith, same)) k)

-- ---- constants

constants_fall : (all : List ℕ) (a b : Bool) → AreFalling all (zeros a b) (cond a (constant_op true ∷ []) [] ++ cond b (constant_op false ∷ []) [])
constants_fall all true true = (λ is_none is_no r never. absurd never, (λ is_none is_no r never. absurd never, tt))
constants_fall all true false = (λ is_none is_no r never. absurd never, tt)
constants_fall all false true = (λ is_none is_no r never. absurd never, tt)
constants_fall all false false = tt

-- where a constant stands its number is 0
true_low : (a b : Bool) (more : List ℕ) → a ≡ true → get_or (zeros a b ++ more) 0 0 ≡ 0
true_low true b more is = refl
true_low false b more is = absurd (let w : ⊥ = cc in w)

false_low : (a b : Bool) (more : List ℕ) → b ≡ true → get_or (zeros a b ++ more) (cond a 1 0) 0 ≡ 0
false_low true true more is = refl
false_low false true more is = refl
false_low a false more is = absurd (let w : ⊥ = cc in w)

length-zeros : (a b : Bool) → length (zeros a b) ≡ length (cond a (constant_op true ∷ []) [] ++ cond b (constant_op false ∷ []) [])
length-zeros a b = length-map (cond a (constant_op true ∷ []) [] ++ cond b (constant_op false ∷ []) []) (λ (o : Op). 0)

-- ---- users

same_latches : (k : ℕ) (ls : List Latch) (ns : List ℕ) (us : List User) → length ns ≡ length us → length (map (λ (l : Latch). 0) ls ++ ns) ≡ length (latch_users k ls ++ us)
same_latches k [] ns us same = same
same_latches k (l ∷ ls) ns us same = ap suc (same_latches (suc k) ls ns us same)

same_gates : (h : ℕ → ℕ) (gs : List AndGate) (u : User) → length (map (gate_number h) gs ++ 0 ∷ []) ≡ length (map gate_user gs ++ u ∷ [])
same_gates h [] u = refl
same_gates h (g ∷ gs) u = ap suc (same_gates h gs u)

-- the numbers of latches are 0
latch_low : (ls : List Latch) (ns : List ℕ) (k : ℕ) → k < length ls → get_or (map (λ (l : Latch). 0) ls ++ ns) k 0 ≡ 0
latch_low [] ns k low = absurd (omega (arith, low))
latch_low (l ∷ ls) ns zero low = refl
latch_low (l ∷ ls) ns (suc k) low = latch_low ls ns k (omega (arith, low))

-- those of gates stand behind them
gate_low : (h : ℕ → ℕ) (ls : List Latch) (gs : List AndGate) (k : ℕ) (g : AndGate) → slice_get gs k ≡ Some g
    → get_or (map (λ (l : Latch). 0) ls ++ (map (gate_number h) gs ++ 0 ∷ [])) (length ls + k) 0 ≡ gate_number h g
gate_low h [] [] k g is = absurd (let w : ⊥ = cc in w)
gate_low h [] (f ∷ gs) zero g is = ap (gate_number h) (ap in_some is)
  where
    in_some : Option AndGate → AndGate
    in_some None = f
    in_some (Some x) = x
gate_low h [] (f ∷ gs) (suc k) g is =
    let at : 0 + suc k ≡ suc (0 + k) = omega arith in
    ap (λ i. get_or (map (gate_number h) (f ∷ gs) ++ 0 ∷ []) i 0) at ∙ gate_low h [] gs k g is
gate_low h (l ∷ ls) gs k g is =
    let at : suc (length ls) + k ≡ suc (length ls + k) = omega arith in
    ap (λ i. get_or (0 ∷ (map (λ (x : Latch). 0) ls ++ (map (gate_number h) gs ++ 0 ∷ []))) i 0) at ∙ gate_low h ls gs k g is

module _ (t : Aiger) (h : ℕ → ℕ) (falls : FallsAlong (needs t) h) (drives : GatesDrive t) where
  abbrev all : List ℕ
  all = numbers h t

  same_length : length (own_numbers h t) ≡ length (users t)
  same_length = same_latches 0 t.latches (map (gate_number h) t.gates ++ 0 ∷ []) (map gate_user t.gates ++ output_user t.outputs ∷ []) (same_gates h t.gates (output_user t.outputs))

  user_number : (k : ℕ) → number_at all (user_ref t k) ≡ get_or (own_numbers h t) k 0
  user_number k = own_number h (zeros (needs_true t) (needs_false t)) (length (constants t)) (length-zeros (needs_true t) (needs_false t)) (own_numbers h t) (users t) same_length k

  -- the value of a variable has twice its height at most
  variable_low : (v : ℕ) → number_at all (variable_ref t v) ≤ 2 * h v
  variable_low v = go (driver t v) refl
    where
      input_low : (ls : List Latch) (k : ℕ) → number_at all (input_port ls k) ≤ 2 * h v
      input_low [] k = omega arith
      input_low (l ∷ ls) k = omega arith

      go : (d : Driver) → driver t v ≡ d → number_at all (driver_ref t d) ≤ 2 * h v
      go nothing is = omega arith
      go (input_bit k) is = input_low t.latches k
      go (held_bit k) is =
          let low : number_at all (user_ref t k) ≡ 0 = user_number k ∙ latch_low t.latches (map (gate_number h) t.gates ++ 0 ∷ []) k (latch_within t v k is) in
          omega (arith, low)
      go (gate_bit k) is =
          let gate = driving_gate t v k is in
          let low : number_at all (user_ref t (length t.latches + k)) ≡ 2 * h (variable gate.0.literal) =
          user_number (length t.latches + k) ∙ gate_low h t.latches t.gates k gate.0 gate.1 in
          let height : h (variable gate.0.literal) ≡ h v = ap h gate.2 in
          omega (arith, low, height)

  -- ---- literals of users

  true_stands : (u : User) → In u (users t) → (l : ℕ) → In l u.literals → is_negated l ≡ true → number_at all (result 0 0) ≡ 0
  true_stands u here l within negated =
      true_low (needs_true t) (needs_false t) (user_numbers h (own_numbers h t) (users t)) (uses_of is_negated (users t) u l here within negated)

  false_stands : (u : User) → In u (users t) → (l : ℕ) → In l u.literals → (l == 0) ≡ true → number_at all (constant_ref t false) ≡ 0
  false_stands u here l within is_zero =
      false_low (needs_true t) (needs_false t) (user_numbers h (own_numbers h t) (users t)) (uses_of (λ k. k == 0) (users t) u l here within is_zero)

  -- the value of a literal without an inverter
  plain_low : (u : User) → In u (users t) → (l : ℕ) → In l u.literals → is_inverted l ≡ false → number_at all (plain_ref t l) ≤ 2 * h (variable l)
  plain_low u here l within plain = go (variable l == 0) (is_negated l) refl refl plain
    where
      go : (a b : Bool) → (variable l == 0) ≡ a → is_negated l ≡ b → (b && not a) ≡ false → number_at all (cond a (constant_ref t b) (variable_ref t (variable l))) ≤ 2 * h (variable l)
      go true true first second inner = let low : number_at all (constant_ref t true) ≡ 0 = true_stands u here l within second in omega (arith, low)
      go true false first second inner = let low : number_at all (constant_ref t false) ≡ 0 = false_stands u here l within (zero_literal l first second) in omega (arith, low)
      go false b first second inner = variable_low (variable l)

  -- each value that a user takes has at most one more than twice the height of a literal's variable
  abbrev IsLow : Ref → List ℕ → Type 0
  IsLow r ls = (l : ℕ) × In l ls × (number_at all r ≤ 2 * h (variable l) + 1)

  lower_in : (r : Ref) (l : ℕ) (ls : List ℕ) → IsLow r ls → IsLow r (l ∷ ls)
  lower_in r l ls low = (low.0, inr low.1, low.2)

  operands_low : (u : User) → In u (users t) → (p : ℕ) (ls : List ℕ) → ((l : ℕ) → In l ls → In l u.literals) → NumbersStand all p (inverter_numbers h ls) → (r : Ref) → In r (operands t p ls) → IsLow r ls
  operands_low u here p [] used stand r never = absurd never
  operands_low u here p (l ∷ ls) used stand r within =
      go (is_inverted l) refl stand within (operands_low u here (suc p) ls (λ k there. used k (inr there))) (operands_low u here p ls (λ k there. used k (inr there)))
    where
      go : (b : Bool) → is_inverted l ≡ b → NumbersStand all p (cond b ((2 * h (variable l) + 1) ∷ inverter_numbers h ls) (inverter_numbers h ls))
          → In r (cond b (result p 0 ∷ operands t (suc p) ls) (plain_ref t l ∷ operands t p ls))
          → (NumbersStand all (suc p) (inverter_numbers h ls) → (s : Ref) → In s (operands t (suc p) ls) → IsLow s ls)
          → (NumbersStand all p (inverter_numbers h ls) → (s : Ref) → In s (operands t p ls) → IsLow s ls) → IsLow r (l ∷ ls)
      go true is stands (inl same) behind beside =
          let at : number_at all (result p 0) ≡ 2 * h (variable l) + 1 = stands.0 in
          let r_is : number_at all r ≡ number_at all (result p 0) = ap (number_at all) same in
          (l, inl refl, omega (arith, at, r_is))
      go true is stands (inr there) behind beside = lower_in r l ls (behind stands.1 r there)
      go false is stands (inl same) behind beside =
          let low : number_at all (plain_ref t l) ≤ 2 * h (variable l) = plain_low u here l (used l (inl refl)) is in
          let r_is : number_at all r ≡ number_at all (plain_ref t l) = ap (number_at all) same in
          (l, inl refl, omega (arith, low, r_is))
      go false is stands (inr there) behind beside = lower_in r l ls (beside stands r there)

  -- ---- operations of users

  inverters_fall : (u : User) → In u (users t) → (ls : List ℕ) → ((l : ℕ) → In l ls → In l u.literals) → AreFalling all (inverter_numbers h ls) (inverters t ls)
  inverters_fall u here [] used = tt
  inverters_fall u here (l ∷ ls) used = go (is_inverted l) refl (inverters_fall u here ls (λ k there. used k (inr there)))
    where
      one : is_inverted l ≡ true → (r : Ref) → In r (variable_ref t (variable l) ∷ result 0 0 ∷ []) → number_at all r < 2 * h (variable l) + 1
      one is r (inl same) =
          let low : number_at all (variable_ref t (variable l)) ≤ 2 * h (variable l) = variable_low (variable l) in
          let r_is : number_at all r ≡ number_at all (variable_ref t (variable l)) = ap (number_at all) same in
          omega (arith, low, r_is)
      one is r (inr (inl same)) =
          let low : number_at all (result 0 0) ≡ 0 = true_stands u here l (used l (inl refl)) (and_parts (is_negated l) (not (variable l == 0)) is).0 in
          let r_is : number_at all r ≡ number_at all (result 0 0) = ap (number_at all) same in
          omega (arith, low, r_is)
      one is r (inr (inr never)) = absurd never

      go : (b : Bool) → is_inverted l ≡ b → AreFalling all (inverter_numbers h ls) (inverters t ls)
          → AreFalling all (cond b ((2 * h (variable l) + 1) ∷ inverter_numbers h ls) (inverter_numbers h ls))
          (cond b (inverter_op (variable_ref t (variable l)) ∷ inverters t ls) (inverters t ls))
      go true is rest = (λ is_none is_no. one is, rest)
      go false is rest = rest

  -- the own operation of each user, wherever its inverters stand
  abbrev OwnFall : List ℕ → List User → Type 0
  OwnFall [] [] = Unit {0}
  OwnFall [] (u ∷ us) = ⊥
  OwnFall (n ∷ ns) [] = ⊥
  OwnFall (n ∷ ns) (u ∷ us) = ((p : ℕ) → NumbersStand all p (inverter_numbers h u.literals) → Falls all n (u.made (operands t p u.literals))) × OwnFall ns us

  latches_fall : (k : ℕ) (ls : List Latch) (ns : List ℕ) (us : List User) → OwnFall ns us → OwnFall (map (λ (l : Latch). 0) ls ++ ns) (latch_users k ls ++ us)
  latches_fall k [] ns us rest = rest
  latches_fall k (l ∷ ls) ns us rest = (λ p stand never is_no r within. absurd (let w : ⊥ = cc in w), latches_fall (suc k) ls ns us rest)

  gates_fall : (gs : List AndGate) → ((g : AndGate) → In g gs → In g t.gates) → OwnFall (map (gate_number h) gs ++ 0 ∷ []) (map gate_user gs ++ output_user t.outputs ∷ [])
  gates_fall [] there = (λ p stand is_none never r within. absurd (let w : ⊥ = cc in w), tt)
  gates_fall (g ∷ gs) there = (one, gates_fall gs (λ f here. there f (inr here)))
    where
      needed : (l : ℕ) → In l (g.left ∷ g.right ∷ []) → h (variable l) < h (variable g.literal)
      needed l here =
          let place = position_of_In g t.gates (there g (inl refl)) in
          let needs_are : needs t (variable g.literal) ≡ variable g.left ∷ variable g.right ∷ [] =
          ap (λ (d : Driver). map variable (joined t.gates d)) (drives place.0 g place.1) ∙ ap (λ (o : Option AndGate). map variable (taken o)) place.1 in
          falls (variable g.literal) (variable l) (subst (In (variable l)) (sym needs_are) (In-map variable l (g.left ∷ g.right ∷ []) here))

      one : (p : ℕ) → NumbersStand all p (inverter_numbers h (g.left ∷ g.right ∷ [])) → Falls all (gate_number h g) (and_op (operands t p (g.left ∷ g.right ∷ [])))
      one p stand is_none is_no r within =
          let user_here : In (gate_user g) (users t) =
          In-append_right (gate_user g) (latch_users 0 t.latches) (map gate_user t.gates ++ output_user t.outputs ∷ [])
          (In-append_left (gate_user g) (map gate_user t.gates) (output_user t.outputs ∷ []) (In-map gate_user g t.gates (there g (inl refl)))) in
          let low = operands_low (gate_user g) user_here p (g.left ∷ g.right ∷ []) (λ l here. here) stand r within in
          let first : number_at all r ≤ 2 * h (variable low.0) + 1 = low.2 in
          let second : h (variable low.0) < h (variable g.literal) = needed low.0 low.1 in
          omega (arith, first, second)

  own_fall : OwnFall (own_numbers h t) (users t)
  own_fall = latches_fall 0 t.latches (map (gate_number h) t.gates ++ 0 ∷ []) (map gate_user t.gates ++ output_user t.outputs ∷ []) (gates_fall t.gates (λ g here. here))

  groups_fall : (before : List ℕ) (p : ℕ) → length before ≡ p → (ns : List ℕ) (us : List User) → all ≡ before ++ user_numbers h ns us → ((u : User) → In u us → In u (users t)) → OwnFall ns us
      → AreFalling all (user_numbers h ns us) (groups t p us)
  groups_fall before p is [] [] whole there own = tt
  groups_fall before p is [] (u ∷ us) whole there own = absurd own
  groups_fall before p is (n ∷ ns) [] whole there own = absurd own
  groups_fall before p is (n ∷ ns) (u ∷ us) whole there own =
      falling_append all (group_numbers h n u) (user_numbers h ns us) (group t p u) (groups t (p + size u) us)
      (falling_append all (inverter_numbers h u.literals) (n ∷ []) (inverters t u.literals) (u.made (operands t p u.literals) ∷ [])
      (inverters_fall u (there u (inl refl)) u.literals (λ l here. here)) (own.0 p stand, tt))
      (groups_fall (before ++ group_numbers h n u) (p + size u) (group_longer h before p n u is) ns us
      (whole ∙ sym (append_assoc before (group_numbers h n u) (user_numbers h ns us))) (λ v here. there v (inr here)) own.1)
    where
      stand : NumbersStand all p (inverter_numbers h u.literals)
      stand = subst (λ xs. NumbersStand xs p (inverter_numbers h u.literals))
          (sym (whole ∙ ap (λ xs. before ++ xs) (append_assoc (inverter_numbers h u.literals) (n ∷ []) (user_numbers h ns us))))
          (numbers_stand before p is (inverter_numbers h u.literals) (n ∷ user_numbers h ns us))

  -- each operation of the body stands above what it takes
  pub body_falls : (i : ℕ) (o : Op) → slice_get (imported_body t) i ≡ Some o → Falls all (get_or all i 0) o
  body_falls = falling_at all all (imported_body t)
      (falling_append all (zeros (needs_true t) (needs_false t)) (user_numbers h (own_numbers h t) (users t)) (constants t) (groups t (length (constants t)) (users t))
      (constants_fall all (needs_true t) (needs_false t))
      (groups_fall (zeros (needs_true t) (needs_false t)) (length (constants t)) (length-zeros (needs_true t) (needs_false t)) (own_numbers h t) (users t) refl (λ u here. here) own_fall))
