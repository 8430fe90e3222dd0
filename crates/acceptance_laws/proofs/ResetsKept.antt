-- Where modules are kept, asynchronous resets come from the ports that were reset ports.
use Rattle.std.proofs.Common.{◌≡◌, ◌⊎◌, ℕ, Bool, true, false, cond, List, [], ◌∷◌, take, Option, Some, None, slice_get, refl, sym, ap, subst, ◌∙◌, inl, inr, option_and_then}
use Rattle.wiring.specs.Wiring.{In}
use Rattle.wiring.proofs.Members.{position_of_In}
use Rattle.wiring.proofs.Options.{and_then_some}
use Rattle.hw_model.specs.Types.{Name}
use Rattle.hw_model.specs.Kinds.{Instance}
use Rattle.hw_model.specs.Design.{Ref, Port, Op, Module, Design, find_module, instance_in, callee}
use Rattle.hw_model.specs.Design.Ref.{port}
use Rattle.hw_model.specs.Flat.{ResetBy, has_async_reset, async_parts, async_reset_in, input_count, operand_for, port_ref}
use Rattle.hw_model.specs.Resets.{IsMarkedInput, IsConstantOf, ResetsFromPorts}
use Rattle.edit_laws.specs.Resets.{has_mark, marks_by_symbol}
use Rattle.acceptance_laws.specs.Asked.{operand_in, operands_in, AllowsMore, AllowMore}
use Rattle.acceptance_laws.specs.Keeps.{IsMoved, IsPlainFitting, KeepsModule, KeepsDesign}
use Rattle.acceptance_laws.proofs.Resets.{constant_told}
use Rattle.edit_laws.proofs.ResetsKept.{find_symbol}
use Rattle.op_verifier.proofs.InputResets.{constant_is}
use Rattle.op_verifier.proofs.WholeDesigns.{some_from}

-- ---- operands of a register that is moved

-- the reset that a register had, and where its parts stand among the operands
record WasReset (ports : List Port) (os os' : List Op) (was : Op) (rs : List Ref) (r : ResetBy) : Type 0 where
  reset : ResetBy
  has_reset : async_reset_in was ≡ Some reset
  old_signal : slice_get was.operands 2 ≡ Some reset.signal
  new_signal : slice_get rs 2 ≡ Some r.signal
  value : AllowsMore (operand_in ports os reset.value) (operand_in ports os' r.value)

was_reset : (ports : List Port) (os os' : List Op) (was : Op) (rs : List Ref) (r : ResetBy) → AllowMore (operands_in ports os was.operands) (operands_in ports os' rs)
    → cond (has_async_reset was.kind) (async_parts rs) None ≡ Some r → WasReset ports os os' was rs r
was_reset ports os os' was rs r allow is = go (has_async_reset was.kind) refl was.operands refl rs refl allow is
  where
    go : (b : Bool) → has_async_reset was.kind ≡ b → (qs : List Ref) → was.operands ≡ qs → (ss : List Ref) → rs ≡ ss
        → AllowMore (operands_in ports os qs) (operands_in ports os' ss) → cond b (async_parts ss) None ≡ Some r → WasReset ports os os' was rs r
    go true kind (d ∷ c ∷ s ∷ v ∷ []) old (d' ∷ c' ∷ s' ∷ v' ∷ []) new more at =
        let same : record { signal = s'; value = v' } ≡ r = some_from at in
        record {
          reset = record { signal = s; value = v };
          has_reset = ap (λ b. cond b (async_parts was.operands) None) kind ∙ ap async_parts old;
          old_signal = ap (λ z. slice_get z 2) old;
          new_signal = ap (λ z. slice_get z 2) new ∙ ap (λ (z : ResetBy). Some z.signal) same;
          value = subst (λ (z : ResetBy). AllowsMore (operand_in ports os v) (operand_in ports os' z.value)) same more.1.1.1.0;
        }
    go true kind [] old (d' ∷ c' ∷ s' ∷ v' ∷ []) new more at = absurd more
    go true kind (d ∷ []) old (d' ∷ c' ∷ s' ∷ v' ∷ []) new more at = absurd more.1
    go true kind (d ∷ c ∷ []) old (d' ∷ c' ∷ s' ∷ v' ∷ []) new more at = absurd more.1.1
    go true kind (d ∷ c ∷ s ∷ []) old (d' ∷ c' ∷ s' ∷ v' ∷ []) new more at = absurd more.1.1.1
    go true kind (d ∷ c ∷ s ∷ v ∷ x ∷ qs) old (d' ∷ c' ∷ s' ∷ v' ∷ []) new more at = absurd more.1.1.1.1
    go true kind qs old [] new more at = cc
    go true kind qs old (d' ∷ []) new more at = cc
    go true kind qs old (d' ∷ c' ∷ []) new more at = cc
    go true kind qs old (d' ∷ c' ∷ s' ∷ []) new more at = cc
    go true kind qs old (d' ∷ c' ∷ s' ∷ v' ∷ x ∷ ss) new more at = cc
    go false kind qs old ss new more at = cc

-- ---- designs

module _ (d e : Design) (marked : Module → ℕ → Bool) (keeps : KeepsDesign d e) (resets : ResetsFromPorts d marked) where
  abbrev marks : Module → ℕ → Bool
  marks = marks_by_symbol d marked

  module _ (s : Name) (n : Module) (is : find_module e s ≡ Some n) where
    abbrev old : Module
    old = (keeps.modules s n is).was

    abbrev keeps_old : KeepsModule (keeps.modules s n is).was n
    keeps_old = (keeps.modules s n is).keeps

    marks_same : (j : ℕ) → marks n j ≡ marked old j
    marks_same j = ap (λ z. has_mark marked j (find_module d z)) (find_symbol e s n is) ∙ ap (has_mark marked j) (keeps.modules s n is).is_found

    -- a port that was a marked input is one
    marked_now : (r : Ref) → IsMarkedInput marked old r → (q : Ref) → q ≡ r → IsMarkedInput marks n q
    marked_now r i q same = record {
      number = i.number;
      is_port = same ∙ i.is_port;
      port_of = i.port_of;
      there = ap (λ ps. slice_get ps i.number) keeps_old.ports_are ∙ i.there;
      is_input = i.is_input;
      has_mark = marks_same i.number ∙ i.has_mark;
    }

    marked_then : (r : Ref) → IsMarkedInput marks n r → IsMarkedInput marked old r
    marked_then r i = record {
      number = i.number;
      is_port = i.is_port;
      port_of = i.port_of;
      there = ap (λ ps. slice_get ps i.number) (sym keeps_old.ports_are) ∙ i.there;
      is_input = i.is_input;
      has_mark = sym (marks_same i.number) ∙ i.has_mark;
    }

    register_now : (o : Op) (r : ResetBy) → async_reset_in o ≡ Some r → IsMoved old.ports old.body n.body o ⊎ IsPlainFitting old.ports old.body n.body o
        → IsMarkedInput marks n r.signal × IsConstantOf n.body r.value
    register_now o r async (inl x) =
        let w = was_reset old.ports old.body n.body x.was o.operands r x.operands
        (sym (ap (λ (z : Op). cond (has_async_reset z.kind) (async_parts o.operands) None) x.same) ∙ async) in
        let signal = resets.signals s old x.was w.reset (keeps.modules s n is).is_found x.was_there w.has_reset in
        let value = resets.values s old x.was w.reset (keeps.modules s n is).is_found x.was_there w.has_reset in
        let stays : slice_get o.operands 2 ≡ Some (port signal.number) = x.ports_stay 2 signal.number (w.old_signal ∙ ap Some signal.is_port) in (
          marked_now w.reset.signal signal r.signal (some_from (sym w.new_signal ∙ stays) ∙ sym signal.is_port),
          constant_is n.body r.value (w.value.constant (constant_told old.body w.reset.value value)),
        )
    register_now o r async (inr x) =
        let stays = x.reset r async in
        let signal = resets.signals s old stays.was stays.reset (keeps.modules s n is).is_found stays.was_there stays.has_reset in
        (marked_now stays.reset.signal signal r.signal (sym stays.signal), constant_is n.body r.value stays.constant)

    register_in_body : (o : Op) (r : ResetBy) → In o n.body → async_reset_in o ≡ Some r → IsMarkedInput marks n r.signal × IsConstantOf n.body r.value
    register_in_body o r here async =
        let position = position_of_In o n.body here in
        register_now o r async (keeps_old.body.each position.0 o position.1)

  -- what is joined to a port, where it was a port
  port_stays : (p : Option Port) (qs rs : List Ref) (k j : ℕ) → ((n i : ℕ) → slice_get qs n ≡ Some (port i) → slice_get rs n ≡ Some (port i))
      → operand_for p qs k ≡ Some (port j) → operand_for p rs k ≡ Some (port j)
  port_stays None qs rs k j stay is = cc
  port_stays (Some p) qs rs k j stay is = go p.is_output is
    where
      go : (b : Bool) → cond b None (slice_get qs k) ≡ Some (port j) → cond b None (slice_get rs k) ≡ Some (port j)
      go true h = cc
      go false h = stay k j h

  joined_now : (s : Name) (n : Module) (is : find_module e s ≡ Some n) (o : Op) (c : Module) (r : Ref) → In o n.body → callee e o ≡ Some c
      → (given : IsMarkedInput marks c r) → (q : Ref) × (port_ref c.ports o.operands given.number ≡ Some q) × IsMarkedInput marks n q
  unfolding marked_then
  joined_now s n is o c r here leads given =
      let position = position_of_In o n.body here in
      go ((keeps_old s n is).body.each position.0 o position.1)
    where
      inst : (i : Instance) × (instance_in o.kind ≡ Some i) × (find_module e i.symbol ≡ Some c)
      inst = and_then_some (instance_in o.kind) (λ (i : Instance). find_module e i.symbol) leads

      go : IsMoved (old s n is).ports (old s n is).body n.body o ⊎ IsPlainFitting (old s n is).ports (old s n is).body n.body o
          → (q : Ref) × (port_ref c.ports o.operands given.number ≡ Some q) × IsMarkedInput marks n q
      go (inr x) = let clash : None ≡ Some inst.0 = sym x.no_instance ∙ inst.1 in cc
      go (inl x) =
          let called = keeps.modules inst.0.symbol c inst.2 in
          let kind : instance_in x.was.kind ≡ Some inst.0 = sym (ap (λ (z : Op). instance_in z.kind) x.same) ∙ inst.1 in
          let old_leads : callee d x.was ≡ Some called.was = ap (λ z. option_and_then (λ (i : Instance). find_module d i.symbol) z) kind ∙ called.is_found in
          let was = marked_then inst.0.symbol c inst.2 r given in
          let joins = resets.joined s (old s n is) x.was called.was r (keeps.modules s n is).is_found x.was_there old_leads was in
          let at : port_ref called.was.ports x.was.operands was.number ≡ Some (port joins.2.number) = joins.1 ∙ ap Some joins.2.is_port in
          let stays : port_ref called.was.ports o.operands was.number ≡ Some (port joins.2.number) =
          port_stays (slice_get called.was.ports was.number) x.was.operands o.operands (input_count (take was.number called.was.ports)) joins.2.number x.ports_stay at in (
            port joins.2.number,
            ap (λ ps. port_ref ps o.operands given.number) called.keeps.ports_are ∙ stays,
            marked_now s n is joins.0 joins.2 (port joins.2.number) (sym joins.2.is_port),
          )

  pub resets_kept : ResetsFromPorts e (marks_by_symbol d marked)
  resets_kept = record {
    signals = λ s n o r is here async. (register_in_body s n is o r here async).0;
    values = λ s n o r is here async. (register_in_body s n is o r here async).1;
    joined = λ s n o c r is. joined_now s n is o c r;
  }
