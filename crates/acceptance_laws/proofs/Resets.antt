-- Asynchronous resets that come from marked ports: each reset port has a mark, and no operation is refused for its reset.
use Rattle.std.proofs.Common.{◌≡◌, ℕ, zero, suc, Bool, true, false, cond, not, ◌&&◌, List, length, Option, Some, None, refl, sym, ap, ap₂, ◌∙◌}
use Rattle.std.specs.Prelude.{is_some}
use Rattle.wiring.specs.Wiring.{In}
use Rattle.wiring.proofs.Options.{and_then_some}
use Rattle.hw_model.specs.Types.{Name}
use Rattle.hw_model.specs.Kinds.{Instance}
use Rattle.hw_model.specs.Design.{Ref, Op, Module, Design, find_module, instance_in, callee}
use Rattle.hw_model.specs.Design.Ref.{port}
use Rattle.hw_model.specs.Flat.{ResetBy, async_reset_in, port_ref}
use Rattle.hw_model.specs.Resets.{IsMarkedInput, IsConstantOf, ResetsFromPorts}
use Rattle.hw_model.specs.Sound.{input_type}
use Rattle.port_checks.specs.ResetPorts.{IsBitInput, IsResetPort, is_reset_port}
use Rattle.port_checks.specs.ResetPorts.IsResetPort.{named, joined}
use Rattle.port_checks.proofs.Least.{is_sound}
use Rattle.op_verifier.specs.ResetChecks.{is_input_port, is_no_input, is_constant_op, is_constant_ref, has_other_reset, joins_other, has_other_join}
use Rattle.op_verifier.proofs.WholeDesigns.{some_from}
use Rattle.std.proofs.lemmas.Bool.{or_from}

-- ---- values

pub input_told : (marked : Module → ℕ → Bool) (m : Module) (r : Ref) → IsMarkedInput marked m r → is_input_port m.ports r ≡ true
input_told marked m r i =
    ap (is_input_port m.ports) i.is_port ∙ ap (λ p. is_some (input_type p)) i.there ∙ ap (λ b. is_some (cond b None (Some i.port_of.type))) i.is_input

pub constant_told : (os : List Op) (r : Ref) → IsConstantOf os r → is_constant_ref os r ≡ true
constant_told os r i = ap (is_constant_ref os) i.is_result ∙ ap is_constant_op i.there ∙ i.is_one

-- a port that is a marked input has its mark
mark_at : (marked : Module → ℕ → Bool) (m : Module) (r : Ref) (j : ℕ) → IsMarkedInput marked m r → r ≡ port j → marked m j ≡ true
mark_at marked m r j i is =
    let ports : port i.number ≡ port j = sym i.is_port ∙ is in
    let same : i.number ≡ j = cc in
    ap (marked m) (sym same) ∙ i.has_mark

bit_of : (e : Design) (m : Module) (j : ℕ) → IsResetPort e m j → IsBitInput m j
bit_of e m j (named _ _ o r bit here async signal) = bit
bit_of e m j (joined _ _ o c k bit here leads allowed has ref) = bit

module _ (e : Design) (marked : Module → ℕ → Bool) (resets : ResetsFromPorts e marked) where
  -- a port that is joined to a marked port of an instance's module
  given_at : (c : Module) (k : ℕ) → IsBitInput c k → marked c k ≡ true → IsMarkedInput marked c (port k)
  given_at c k bit has = record { number = k; is_port = refl; port_of = bit.port_there; there = bit.there; is_input = bit.is_input; has_mark = has }

  -- each reset port has a mark
  pub reset_marked : (m : Module) (j : ℕ) → IsResetPort e m j → (s : Name) → find_module e s ≡ Some m → marked m j ≡ true
  unfolding given_at
  reset_marked m j (named _ _ o r bit here async signal) s found = mark_at marked m r.signal j (resets.signals s m o r found here async) signal
  reset_marked m j (joined _ _ o c k bit here leads allowed has ref) s found =
      let inst = and_then_some (instance_in o.kind) (λ (i : Instance). find_module e i.symbol) leads in
      let joins = resets.joined s m o c (port k) found here leads (given_at c k (bit_of e c k has) (reset_marked c k has inst.0.symbol inst.2)) in
      mark_at marked m joins.0 j joins.2 (some_from (sym joins.1 ∙ ref))

  module _ (s : Name) (m : Module) (found : find_module e s ≡ Some m) (o : Op) (here : In o m.body) where
    -- no operation is refused for its reset
    pub no_other_reset : has_other_reset m.ports m.body (async_reset_in o) ≡ false
    no_other_reset = go (async_reset_in o) refl
      where
        go : (x : Option ResetBy) → async_reset_in o ≡ x → has_other_reset m.ports m.body x ≡ false
        go None is = refl
        go (Some r) is =
            ap₂ (λ a b. not (a && b)) (input_told marked m r.signal (resets.signals s m o r found here is))
            (constant_told m.body r.value (resets.values s m o r found here is))

    pub no_other_join : has_other_join e m.ports o.operands (callee e o) ≡ false
    unfolding given_at
    no_other_join = go (callee e o) refl
      where
        at : (c : Module) → callee e o ≡ Some c → (n : ℕ) → joins_other (is_reset_port e c) m.ports (port_ref c.ports o.operands) n ≡ false
        at c leads zero = refl
        at c leads (suc n) =
            or_from (joins_other (is_reset_port e c) m.ports (port_ref c.ports o.operands) n) (is_reset_port e c n && is_no_input m.ports (port_ref c.ports o.operands n))
            (at c leads n) (by_port (is_reset_port e c n) refl)
          where
            by_port : (b : Bool) → is_reset_port e c n ≡ b → (b && is_no_input m.ports (port_ref c.ports o.operands n)) ≡ false
            by_port false is = refl
            by_port true is =
                let reset = is_sound e c n is in
                let inst = and_then_some (instance_in o.kind) (λ (i : Instance). find_module e i.symbol) leads in
                let joins = resets.joined s m o c (port n) found here leads (given_at c n (bit_of e c n reset) (reset_marked c n reset inst.0.symbol inst.2)) in
                ap (is_no_input m.ports) joins.1 ∙ ap not (input_told marked m joins.0 joins.2)

        go : (x : Option Module) → callee e o ≡ x → has_other_join e m.ports o.operands x ≡ false
        go None is = refl
        go (Some c) is = at c is (length c.ports)
