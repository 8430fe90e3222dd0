-- The clock of each register of a flat module is a port; its registers have several clocks exactly where two of them have other ones.
use Rattle.std.proofs.Common.{◌≡◌, refl, sym, ap, subst, ◌∙◌, ℕ, Bool, true, false, not, ◌==◌, ◌||◌, List, [], ◌∷◌, slice_get, Option, Some, None, ◌↔◌, inl, inr, option_and_then}
use Rattle.std.specs.List.{list_any}
use Rattle.std.proofs.lemmas.Bool.{eqb-true, eqb-false}
use Rattle.std.proofs.lemmas.Option.{slice_get-map}
use Rattle.wiring.specs.Wiring.{In}
use Rattle.wiring.proofs.Members.{position_of_In, In-flat_map, from_In-flat_map}
use Rattle.hw_model.specs.Types.{Name, HwType}
use Rattle.hw_model.specs.Types.HwType.{clock}
use Rattle.hw_model.specs.Kinds.{Kind}
use Rattle.hw_model.specs.Design.{Ref, OpResult, Op, Module, Design, RegisterForm, register_form, result_type}
use Rattle.hw_model.specs.Design.Ref.{port, result, undefined}
use Rattle.hw_model.specs.Flat.{Register, register_parts, register_in}
use Rattle.hw_model.specs.Sound.{type_in}
use Rattle.op_checks.specs.TypeChecks.{is_clock}
use Rattle.op_verifier.proofs.NoCauseAlone.{types_of, NoCauseAlone}
use Rattle.flat_module_laws.specs.Sides.{IsPlain, IsFlat}
use Rattle.flat_module_laws.proofs.FlatBodies.{flat_body, no_own_cause}
use Rattle.flat_module_laws.proofs.FlatGateLists.{plain_kind}
use Rattle.flat_module_laws.proofs.FlatSources.{held_type, ResultFrom, result_is}
use Rattle.flat_module_laws.proofs.FlatSources.ResultFrom.{from_register, from_output, from_operands}
use Rattle.flat_module_gates.proofs.PlainOrders.{plain_has_order}
use Rattle.and_gates.specs.Clocks.{port_in, clock_in, clock_of, clock_ports, are_several, has_several_clocks, HasOneClock}
use Rattle.and_gates.proofs.ClockTypes.{made_no_clock, held_no_clock, output_no_clock, clock_typed}

-- ---- clocks are ports

formed : (kind : Kind) (rs : List Ref) (r : Register) → option_and_then (λ (f : RegisterForm). register_parts f.has_enable f.reset rs) (register_form kind) ≡ Some r
    → (f : RegisterForm) × (register_form kind ≡ Some f)
formed kind rs r is = go (register_form kind) refl is
  where
    go : (x : Option RegisterForm) → register_form kind ≡ x → option_and_then (λ (f : RegisterForm). register_parts f.has_enable f.reset rs) x ≡ Some r
        → (f : RegisterForm) × (register_form kind ≡ Some f)
    go None at is = cc
    go (Some f) at is = (f, at)

module _ (c : Design) (top : Name) (m : Module) (order : List ℕ) (flat : IsFlat c top m order) where
  result_no_clock : (i k : ℕ) (o : Op) → slice_get m.body i ≡ Some o → (t : HwType) → result_type o k ≡ Some t → is_clock t ≡ false
  result_no_clock i k o at t typed = go (result_is c top m order flat i o at k)
    where
      listed : slice_get (types_of o.results) k ≡ Some t
      listed = slice_get-map (λ (y : OpResult). y.type) o.results k ∙ typed

      own : NoCauseAlone m.ports m.body o
      own = no_own_cause c top m order flat i o at

      go : ResultFrom c top m order flat i o at k → is_clock t ≡ false
      go (from_register f is from) = held_no_clock _ _ _ _ o.types (types_of o.results) k t listed o.kind f is own
      go (from_output is from) = output_no_clock _ _ _ _ o.types (types_of o.results) k t listed o.kind is own
      go (from_operands r n u from) = made_no_clock _ _ _ _ o.types (types_of o.results) k t listed o.kind (plain_kind c top m order flat i k o at r n u t typed) own

  clock_value : (r : Ref) → type_in m.ports m.body r ≡ Some clock → (j : ℕ) × (r ≡ port j)
  clock_value (port j) typed = (j, refl)
  clock_value undefined typed = cc
  clock_value (result i k) typed = go (slice_get m.body i) refl typed
    where
      go : (x : Option Op) → slice_get m.body i ≡ x → option_and_then (λ (o : Op). result_type o k) x ≡ Some clock → (j : ℕ) × (result i k ≡ port j)
      go None at is = cc
      go (Some o) at is = let clash : is_clock clock ≡ false = result_no_clock i k o at clock is in cc

  clock_is_port : (o : Op) → In o m.body → (r : Register) → register_in o ≡ Some r → (j : ℕ) × (r.clock ≡ port j)
  clock_is_port o here r is =
      let at = position_of_In o m.body here in
      let form = formed o.kind o.operands r is in
      let held = held_type c top m order flat at.0 o at.1 form.0 form.1 in
      let fits = (flat_body c top m order flat).ops at.0 o at.1 0 held.0 held.1 in
      clock_value r.clock (clock_typed (type_in m.ports m.body) o.kind o.types held.0 0 o.operands r fits is)

-- ---- one clock

same_number : (x y : ℕ) → not (y == x) ≡ false → y ≡ x
same_number x y is = go (y == x) refl is
  where
    go : (b : Bool) → (y == x) ≡ b → not b ≡ false → y ≡ x
    go true at none = eqb-true y x at
    go false at none = cc

all_same : (x : ℕ) (xs : List ℕ) → list_any (λ y. not (y == x)) xs ≡ false → (y : ℕ) → In y xs → y ≡ x
all_same x [] none y here = absurd here
all_same x (z ∷ xs) none y here = go (not (z == x)) refl none here (λ free later. all_same x xs free y later)
  where
    go : (b : Bool) → not (z == x) ≡ b → (b || list_any (λ w. not (w == x)) xs) ≡ false → In y (z ∷ xs)
        → (list_any (λ w. not (w == x)) xs ≡ false → In y xs → y ≡ x) → y ≡ x
    go true is none here rest = cc
    go false is none (inl same) rest = same ∙ same_number x z is
    go false is none (inr later) rest = rest none later

one_number : (xs : List ℕ) → are_several xs ≡ false → (y z : ℕ) → In y xs → In z xs → y ≡ z
one_number [] none y z one two = absurd one
one_number (x ∷ xs) none y z one two = same y one ∙ sym (same z two)
  where
    same : (w : ℕ) → In w (x ∷ xs) → w ≡ x
    same w (inl is) = is
    same w (inr later) = all_same x xs none w later

-- a member that is not the first
other_number : (x : ℕ) (xs : List ℕ) → list_any (λ y. not (y == x)) xs ≡ true → ((y : ℕ) → In y xs → y ≡ x) → ⊥
other_number x [] some all = cc
other_number x (z ∷ xs) some all = go (z == x) refl some (λ later. other_number x xs later (λ y here. all y (inr here)))
  where
    go : (b : Bool) → (z == x) ≡ b → (not b || list_any (λ w. not (w == x)) xs) ≡ true → (list_any (λ w. not (w == x)) xs ≡ true → ⊥) → ⊥
    go true is some rest = rest some
    go false is some rest = eqb-false z x is (all z (inl refl))

two_numbers : (xs : List ℕ) → are_several xs ≡ true → ((y z : ℕ) → In y xs → In z xs → y ≡ z) → ⊥
two_numbers [] some all = cc
two_numbers (x ∷ xs) some all = other_number x xs some (λ y here. all y x (inr here) (inl refl))

-- ---- of registers

-- the port of a clock, and back
clock_listed : (o : Op) (r : Register) (j : ℕ) → register_in o ≡ Some r → r.clock ≡ port j → In j (clock_of o)
clock_listed o r j is at = subst (In j) (sym (ap clock_in is ∙ ap port_in at)) (inl refl)

listed_clock : (o : Op) (j : ℕ) → In j (clock_of o) → (r : Register) × (register_in o ≡ Some r) × (r.clock ≡ port j)
listed_clock o j here = go (register_in o) refl here
  where
    by_clock : (x : Ref) → In j (port_in x) → x ≡ port j
    by_clock (port k) (inl same) = ap port (sym same)
    by_clock (port k) (inr never) = absurd never
    by_clock (result i k) never = absurd never
    by_clock undefined never = absurd never

    go : (x : Option Register) → register_in o ≡ x → In j (clock_in x) → (r : Register) × (register_in o ≡ Some r) × (r.clock ≡ port j)
    go None is never = absurd never
    go (Some r) is here = (r, is, by_clock r.clock here)

module _ (c : Design) (m : Module) (plain : IsPlain c m.symbol m) where
  -- each clock is a port
  pub clocks_are_ports : (o : Op) → In o m.body → (r : Register) → register_in o ≡ Some r → (j : ℕ) × (r.clock ≡ port j)
  clocks_are_ports =
      let order = plain_has_order c m.symbol m plain in
      clock_is_port c m.symbol m order.0 (record { plain = plain; stands = order.1 })

  one_clock : has_several_clocks m.body ≡ false → HasOneClock m.body
  one_clock none o p one two r s is also =
      let j = clocks_are_ports o one r is in
      let k = clocks_are_ports p two s also in
      let same : j.0 ≡ k.0 = one_number (clock_ports m.body) none j.0 k.0
      (In-flat_map clock_of o m.body j.0 one (clock_listed o r j.0 is j.1))
      (In-flat_map clock_of p m.body k.0 two (clock_listed p s k.0 also k.1)) in
      j.1 ∙ ap port same ∙ sym k.1

  not_several : HasOneClock m.body → has_several_clocks m.body ≡ false
  not_several one = go (has_several_clocks m.body) refl
    where
      port_of : (j k : ℕ) → port j ≡ port k → j ≡ k
      port_of j k same = cc

      alike : (y z : ℕ) → In y (clock_ports m.body) → In z (clock_ports m.body) → y ≡ z
      alike y z first second =
          let o = from_In-flat_map clock_of y m.body first in
          let p = from_In-flat_map clock_of z m.body second in
          let r = listed_clock o.0 y o.2 in
          let s = listed_clock p.0 z p.2 in
          port_of y z (sym r.2 ∙ one o.0 p.0 o.1 p.1 r.0 s.0 r.1 s.1 ∙ s.2)

      go : (b : Bool) → has_several_clocks m.body ≡ b → has_several_clocks m.body ≡ false
      go false is = is
      go true is = absurd (two_numbers (clock_ports m.body) is alike)

  -- no other clock than one
  pub several_clocks : (has_several_clocks m.body ≡ false) ↔ HasOneClock m.body
  several_clocks = (one_clock, not_several)
