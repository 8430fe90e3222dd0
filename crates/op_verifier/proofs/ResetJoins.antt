-- A walk over the ports of an instance's module: whether a reset port among them is joined to another value than an input
-- port.
use Rattle.std.proofs.Common.{◌≡◌, ℕ, zero, suc, ◌+◌, ◌<◌, ◌≤◌, Bool, true, false, cond, ◌&&◌, ◌||◌, nat_eq, List, [], ◌∷◌, map, length, take, get_or, slice_get, Option, Some, option_map, refl, sym, ap, ap₂, ◌∙◌, arith, add-one, eqb-true}
use Rattle.std.proofs.lemmas.Bool.{eqb-false}
use Rattle.std.proofs.lemmas.List.{length-map}
use Rattle.std.proofs.lemmas.Option.{slice_get-map, slice_get-get_or}
use Rattle.hw_model.specs.Design.{Ref, Port, Module, Design}
use Rattle.hw_model.specs.Flat.{input_count, operand_for, port_ref}
use Rattle.ir_store.specs.declared.design.Port as code
use Rattle.ir_store.specs.Designs.{port_of}
use Rattle.linked_lists.proofs.IdLemmas.{below_unless}
use Rattle.port_checks.specs.ResetPorts.{is_reset_port}
use Rattle.op_verifier.specs.ResetChecks.{is_no_input, joins_other, has_other_join}

-- ---- one port more

-- how many inputs are among the ports before a position
count_more : (qs : List Port) (i : ℕ) (q : Port) → slice_get qs i ≡ Some q → input_count (take (suc i) qs) ≡ input_count (take i qs) + cond q.is_output 0 1
count_more [] i q there = cc
count_more (x ∷ qs) zero q there =
    let same : x ≡ q = cc in
    let e : cond q.is_output 0 1 ≡ 0 + cond q.is_output 0 1 = omega arith in
    ap (λ (y : Port). cond y.is_output 0 1) same ∙ e
count_more (x ∷ qs) (suc i) q there = go x.is_output (count_more qs i q there)
  where
    go : (b : Bool) → input_count (take (suc i) qs) ≡ input_count (take i qs) + cond q.is_output 0 1
        → cond b (input_count (take (suc i) qs)) (suc (input_count (take (suc i) qs)))
        ≡ cond b (input_count (take i qs)) (suc (input_count (take i qs))) + cond q.is_output 0 1
    go true rest = rest
    go false rest = let e : suc (input_count (take (suc i) qs)) ≡ suc (input_count (take i qs)) + cond q.is_output 0 1 = omega (arith, rest) in e

-- the port at a position
port_there : (ps : List code.Port) (i : ℕ) (p : code.Port) → i < length ps → p ≡ get_or ps i p → slice_get (map port_of ps) i ≡ Some (port_of p)
port_there ps i p less is = slice_get-map port_of ps i ∙ ap (option_map port_of) (slice_get-get_or ps i p less ∙ ap Some (sym is))

pub counted_more : (ps : List code.Port) (i inputs more : ℕ) (p : code.Port) → i < length ps → p ≡ get_or ps i p → more ≡ cond p.out 0 1
    → inputs ≡ input_count (take i (map port_of ps)) → inputs + more ≡ input_count (take (i + 1) (map port_of ps))
counted_more ps i inputs more p less is one so_far =
    ap₂ (λ (a b : ℕ). a + b) so_far one ∙ sym (count_more (map port_of ps) i (port_of p) (port_there ps i p less is))
    ∙ ap (λ (n : ℕ). input_count (take n (map port_of ps))) (sym (add-one i))

-- ---- the walk

module _ (resets : ℕ → Bool) (own : List Port) (ps : List code.Port) (refs : List Ref) where
  abbrev joins : ℕ → Bool
  joins n = joins_other resets own (port_ref (map port_of ps) refs) n

  -- what is found at some position is found up to each later one
  found_more : (i n : ℕ) → i ≤ n → joins i ≡ true → joins n ≡ true
  found_more i zero within found = let e : i ≡ 0 = omega (arith, within) in ap joins (sym e) ∙ found
  found_more i (suc n) within found = go (nat_eq i (suc n)) refl (λ before. found_more i n before found)
    where
      go : (b : Bool) → nat_eq i (suc n) ≡ b → (i ≤ n → joins n ≡ true) → joins (suc n) ≡ true
      go true e rest = ap joins (sym (eqb-true i (suc n) e)) ∙ found
      go false e rest =
          let below : i < suc n = below_unless i (suc n) within (eqb-false i (suc n) e) in
          let before : i ≤ n = omega (arith, below) in
          ap (λ (b : Bool). b || (resets n && is_no_input own (port_ref (map port_of ps) refs n))) (rest before)

  module _ (i inputs : ℕ) (p : code.Port) (is_reset found : Bool) (less : i < length ps) (is : p ≡ get_or ps i p) (counted : inputs ≡ input_count (take i (map port_of ps)))
      (marked : is_reset ≡ resets i) (test : found ≡ (is_reset && is_no_input own (operand_for (Some (port_of p)) refs inputs))) (none : joins i ≡ false) where
    at_position : joins (i + 1) ≡ found
    at_position =
        ap joins (add-one i)
        ∙ ap₂ (λ (a : Bool) (x : Option Ref). a || (resets i && is_no_input own x)) none
        (ap (λ (x : Option Port). operand_for x refs (input_count (take i (map port_of ps)))) (port_there ps i p less is)
        ∙ ap (operand_for (Some (port_of p)) refs) (sym counted))
        ∙ ap (λ (b : Bool). b && is_no_input own (operand_for (Some (port_of p)) refs inputs)) (sym marked) ∙ sym test

    pub found_at : found ≡ true → true ≡ joins (length ps)
    found_at is_true = sym (found_more (i + 1) (length ps) (omega (arith, less)) (at_position ∙ is_true))

    pub none_at : found ≡ false → joins (i + 1) ≡ false
    none_at is_false = at_position ∙ is_false

  pub none_joined : (i : ℕ) → length ps ≤ i → joins i ≡ false → false ≡ joins (length ps)
  none_joined i past none = go (joins (length ps)) refl
    where
      go : (b : Bool) → joins (length ps) ≡ b → false ≡ joins (length ps)
      go true e = let never : true ≡ false = sym (found_more (length ps) i past e) ∙ none in cc
      go false e = sym e

-- ---- the module that is found

-- the same reset ports give the same
pub joins_same : (f g : ℕ → Bool) (own : List Port) (joined : ℕ → Option Ref) (n : ℕ) → ((k : ℕ) → f k ≡ g k) → joins_other f own joined n ≡ joins_other g own joined n
joins_same f g own joined zero same = refl
joins_same f g own joined (suc n) same = ap₂ (λ (a b : Bool). a || (b && is_no_input own (joined n))) (joins_same f g own joined n same) (same n)

pub join_found : (d : Design) (own : List Port) (refs : List Ref) (ps : List code.Port) (resets : ℕ → Bool) (c : Module) (x : Option Module) (found : Bool)
    → x ≡ Some c → map port_of ps ≡ c.ports → ((k : ℕ) → resets k ≡ is_reset_port d c k)
    → found ≡ joins_other resets own (port_ref (map port_of ps) refs) (length ps) → found ≡ has_other_join d own refs x
join_found d own refs ps resets c x found is ports marked test =
    test ∙ joins_same resets (is_reset_port d c) own (port_ref (map port_of ps) refs) (length ps) marked
    ∙ ap (λ (n : ℕ). joins_other (is_reset_port d c) own (port_ref (map port_of ps) refs) n) (sym (length-map ps port_of))
    ∙ ap (λ (qs : List Port). joins_other (is_reset_port d c) own (port_ref qs refs) (length qs)) ports
    ∙ ap (has_other_join d own refs) (sym is)
