-- How a body grows by the operations of users.
use Rattle.std.proofs.Common.{◌≡◌, ℕ, suc, ◌+◌, ◌*◌, ◌<◌, ◌≤◌, ◌^◌, Bool, true, false, cond, List, [], ◌∷◌, ◌++◌, map, length, refl, sym, ap, ap₂, ◌∙◌, arith, append_assoc, length-append}
use Rattle.std.proofs.lemmas.List.{append-nil}
use Rattle.hw_model.specs.Design.{Ref, Op}
use Rattle.hw_model.specs.Design.Ref.{result}
use Rattle.aiger_laws.specs.Trees.{Aiger, variable}
use Rattle.aiger_design.specs.Operations.{inverter_op}
use Rattle.aiger_design.specs.Positions.{User, latch_users, gate_user, output_user, users, constants, is_inverted, inverter_count, size, variable_ref, plain_ref, operands}
use Rattle.aiger_design.specs.Built.{inverters, group, groups, imported_body}
use Rattle.aiger_design.proofs.GroupPlaces.{length-inverters, length-group}
use Rattle.aiger_design.proofs.Fronts.{sizes-append, groups-append, length-groups, first_users, front, length-front, front_few}
use Rattle.aiger_design.proofs.Forms.{sizes}

module _ (t : Aiger) where
  inverters_more : (l : ℕ) (ls : List ℕ) → inverters t (l ∷ ls) ≡ inverters t (l ∷ []) ++ inverters t ls
  inverters_more l ls = go (is_inverted l)
    where
      go : (b : Bool) → cond b (inverter_op (variable_ref t (variable l)) ∷ inverters t ls) (inverters t ls) ≡ cond b (inverter_op (variable_ref t (variable l)) ∷ []) [] ++ inverters t ls
      go true = refl
      go false = refl

  operands_more : (p l : ℕ) (ls : List ℕ) → operands t p (l ∷ ls) ≡ operands t p (l ∷ []) ++ operands t (p + length (inverters t (l ∷ []))) ls
  operands_more p l ls = go (is_inverted l)
    where
      go : (b : Bool) → cond b (result p 0 ∷ operands t (suc p) ls) (plain_ref t l ∷ operands t p ls)
          ≡ cond b (result p 0 ∷ []) (plain_ref t l ∷ []) ++ operands t (p + length (cond b (inverter_op (variable_ref t (variable l)) ∷ []) [])) ls
      go true = let at : suc p ≡ p + 1 = omega arith in ap (λ q. result p 0 ∷ operands t q ls) at
      go false = let at : p ≡ p + 0 = omega arith in ap (λ q. plain_ref t l ∷ operands t q ls) at

  pub count_more : (l : ℕ) (ls : List ℕ) → inverter_count (l ∷ ls) ≡ length (inverters t (l ∷ [])) + inverter_count ls
  count_more l ls = go (is_inverted l)
    where
      go : (b : Bool) → cond b (suc (inverter_count ls)) (inverter_count ls) ≡ length (cond b (inverter_op (variable_ref t (variable l)) ∷ []) []) + inverter_count ls
      go true = omega arith
      go false = omega arith

  -- ---- literal by literal

  pub inverters_step : (before now all : List Op) (l : ℕ) (rest others : List ℕ) → rest ≡ l ∷ others → now ≡ before ++ inverters t (l ∷ []) → before ++ inverters t rest ≡ all
      → now ++ inverters t others ≡ all
  inverters_step before now all l rest others at is left =
      ap (λ os. os ++ inverters t others) is ∙ append_assoc before (inverters t (l ∷ [])) (inverters t others)
      ∙ ap (λ os. before ++ os) (sym (inverters_more l others) ∙ ap (inverters t) (sym at)) ∙ left

  pub operands_step : (before now : List Op) (values new all : List Ref) (r : Ref) (l : ℕ) (rest others : List ℕ) → rest ≡ l ∷ others → now ≡ before ++ inverters t (l ∷ [])
      → r ∷ [] ≡ operands t (length before) (l ∷ []) → new ≡ values ++ r ∷ [] → values ++ operands t (length before) rest ≡ all → new ++ operands t (length now) others ≡ all
  operands_step before now values new all r l rest others at is value added left =
      ap₂ (λ rs n. rs ++ operands t n others) (added ∙ ap (λ rs. values ++ rs) value) (ap length is ∙ length-append before (inverters t (l ∷ [])))
      ∙ append_assoc values (operands t (length before) (l ∷ [])) (operands t (length before + length (inverters t (l ∷ []))) others)
      ∙ ap (λ rs. values ++ rs) (sym (operands_more (length before) l others) ∙ ap (operands t (length before)) (sym at)) ∙ left

  pub room_step : (before now : List Op) (l : ℕ) (rest others : List ℕ) → rest ≡ l ∷ others → now ≡ before ++ inverters t (l ∷ []) → length before + inverter_count rest + 1 < 2 ^ 32
      → length now + inverter_count others + 1 < 2 ^ 32
  room_step before now l rest others at is room =
      let count : inverter_count rest ≡ length (inverters t (l ∷ [])) + inverter_count others = ap inverter_count at ∙ count_more l others in
      let size : length now ≡ length before + length (inverters t (l ∷ [])) = ap length is ∙ length-append before (inverters t (l ∷ [])) in
      omega (arith, count, size, room)

  -- ---- user by user

  -- inverters and then the own operation are a group
  pub group_is : (before now new : List Op) (o : Op) (u : User) (rs : List Ref) → now ≡ before ++ inverters t u.literals → rs ≡ operands t (length before) u.literals → o ≡ u.made rs → new ≡ now ++ o ∷ []
      → new ≡ before ++ group t (length before) u
  group_is before now new o u rs first values made added =
      added ∙ ap₂ (λ os p. os ++ p ∷ []) first (made ∙ ap u.made values) ∙ append_assoc before (inverters t u.literals) (u.made (operands t (length before) u.literals) ∷ [])

  pub groups_step : (before now all : List Op) (u : User) (us : List User) → now ≡ before ++ group t (length before) u → before ++ groups t (length before) (u ∷ us) ≡ all
      → now ++ groups t (length now) us ≡ all
  groups_step before now all u us is left =
      ap₂ (λ os n. os ++ groups t n us) is (ap length is ∙ length-append before (group t (length before) u) ∙ ap (λ n. length before + n) (length-group t (length before) u))
      ∙ append_assoc before (group t (length before) u) (groups t (length before + size u) us) ∙ left

  pub length_step : (before now : List Op) (u : User) → now ≡ before ++ group t (length before) u → length now ≡ length before + size u
  length_step before now u is = ap length is ∙ length-append before (group t (length before) u) ∙ ap (λ n. length before + n) (length-group t (length before) u)

  -- constants, latches, gates and the output are the body
  pub whole_body : (first second third last : List Op) → first ≡ constants t → second ≡ first ++ groups t (length first) (latch_users 0 t.latches)
      → third ≡ second ++ groups t (length second) (map gate_user t.gates) → last ≡ third ++ group t (length third) (output_user t.outputs) → last ≡ imported_body t
  whole_body first second third last is_first is_second is_third is_last =
      sym (append-nil last)
      ∙ behind third last (output_user t.outputs ∷ []) [] (is_last ∙ ap (λ os. third ++ os) (sym (append-nil (group t (length third) (output_user t.outputs)))))
      ∙ behind second third (map gate_user t.gates) (output_user t.outputs ∷ []) is_third
      ∙ behind first second (latch_users 0 t.latches) (map gate_user t.gates ++ output_user t.outputs ∷ []) is_second
      ∙ ap (λ os. os ++ groups t (length os) (users t)) is_first
    where
      behind : (before now : List Op) (us vs : List User) → now ≡ before ++ groups t (length before) us → now ++ groups t (length now) vs ≡ before ++ groups t (length before) (us ++ vs)
      behind before now us vs is =
          let size_is : length now ≡ length before + sizes us = ap length is ∙ length-append before (groups t (length before) us) ∙ ap (λ n. length before + n) (length-groups t (length before) us) in
          ap₂ (λ os n. os ++ groups t n vs) is size_is ∙ append_assoc before (groups t (length before) us) (groups t (length before + sizes us) vs)
          ∙ ap (λ os. before ++ os) (sym (groups-append t (length before) us vs))

  -- ---- room

  -- once inverters are there, there is room for the own operation
  pub own_room : (before now : List Op) (ls : List ℕ) → now ≡ before ++ inverters t ls → length before + inverter_count ls + 1 < 2 ^ 32 → length now + 1 < 2 ^ 32
  own_room before now ls is room =
      let size_is : length now ≡ length before + length (inverters t ls) = ap length is ∙ length-append before (inverters t ls) in
      let count : length (inverters t ls) ≡ inverter_count ls = length-inverters t ls in
      omega (arith, size_is, count, room)

  grown : (before now : List Op) (us : List User) → now ≡ before ++ groups t (length before) us → length now ≡ length before + sizes us
  grown before now us is = ap length is ∙ length-append before (groups t (length before) us) ∙ ap (λ n. length before + n) (length-groups t (length before) us)

  -- there is room for the gates, and then for the output
  pub rooms : (first second third : List Op) → first ≡ constants t → second ≡ first ++ groups t (length first) (latch_users 0 t.latches)
      → third ≡ second ++ groups t (length second) (map gate_user t.gates) → length third + inverter_count t.outputs ≤ 2 + 2 * length t.latches + 3 * length t.gates + length t.outputs
  rooms first second third is_first is_second is_third =
      let one : length first ≡ length (constants t) = ap length is_first in
      let two : length second ≡ length first + sizes (latch_users 0 t.latches) = grown first second (latch_users 0 t.latches) is_second in
      let three : length third ≡ length second + sizes (map gate_user t.gates) = grown second third (map gate_user t.gates) is_third in
      let split : sizes (first_users t) ≡ sizes (latch_users 0 t.latches) + sizes (map gate_user t.gates) = sizes-append (latch_users 0 t.latches) (map gate_user t.gates) in
      let all : length (front t) ≡ length (constants t) + sizes (first_users t) + inverter_count t.outputs = length-front t in
      let few : length (front t) ≤ 2 + 2 * length t.latches + 3 * length t.gates + length t.outputs = front_few t in
      omega (arith, one, two, three, split, all, few)

  pub room_for_gates : (first second : List Op) → first ≡ constants t → second ≡ first ++ groups t (length first) (latch_users 0 t.latches)
      → length second ≤ 2 + 2 * length t.latches + 3 * length t.gates + length t.outputs
  room_for_gates first second is_first is_second =
      let all : length (second ++ groups t (length second) (map gate_user t.gates)) + inverter_count t.outputs ≤ 2 + 2 * length t.latches + 3 * length t.gates + length t.outputs =
      rooms first second (second ++ groups t (length second) (map gate_user t.gates)) is_first is_second refl in
      let more : length (second ++ groups t (length second) (map gate_user t.gates)) ≡ length second + length (groups t (length second) (map gate_user t.gates)) =
      length-append second (groups t (length second) (map gate_user t.gates)) in
      omega (arith, all, more)
