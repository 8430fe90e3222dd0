-- What an answer without a refusal says of each part that was asked.
use Rattle.std.proofs.Common.{◌≡◌, ℕ, zero, suc, Bool, true, false, cond, not, ◌&&◌, List, [], ◌∷◌, map, take, slice_get, is_some, Option, Some, None, option_map, refl, sym, ap, ◌∙◌}
use Rattle.diag.specs.declared.cause.Cause.{Cause}
use Rattle.diag.specs.declared.cause.Cause.TheVariants.{Redefined, Undefined, WidthLimit, Field, ClockOperand, OutputMismatch, DuplicateSymbol, DuplicatePort, MissingOutput, AsyncReset}
use Rattle.hw_model.specs.Types.{Name}
use Rattle.hw_model.specs.Design.{Port, Op, Module, Design, same_name, find_module, instance_in, is_output_op, callee}
use Rattle.hw_model.specs.Flat.{async_reset_in}
use Rattle.port_checks.specs.InstanceChecks.{instance_cause}
use Rattle.op_verifier.specs.Answers.{when, or_else}
use Rattle.op_verifier.specs.OpChecks.{has_again, has_undefined, has_other_outputs, value_cause, alone_cause, outer_cause, op_cause}
use Rattle.op_verifier.specs.ResetChecks.{has_other_reset, has_other_join, reset_cause}
use Rattle.op_checks.specs.TypeChecks.{is_outside, has_bad_field}
use Rattle.op_verifier.specs.Headers.{has_port, has_wrong_clock, has_twice, has_output, ports_cause, names_cause, header_cause}
use Rattle.op_verifier.specs.Faults.{op_refusal, header_refusal, is_empty, body_fault, module_fault, faults_from, first_fault}
use Rattle.op_checks.proofs.Widths.{neither}
use Rattle.std.proofs.lemmas.Bool.{not-false}

pub or_none : {A : Type 0} (a b : Option A) → or_else a b ≡ None → (a ≡ None) × (b ≡ None)
or_none None b h = (refl, h)
or_none (Some x) b h = cc

pub map_none : {A B : Type 0} (f : A → B) (o : Option A) → option_map f o ≡ None → o ≡ None
map_none f None h = refl
map_none f (Some x) h = cc

pub when_none : (b : Bool) (c : Cause) → when b c ≡ None → b ≡ false
when_none false c h = refl
when_none true c h = cc

-- what holds of an operation of a body that is refused for no cause, `last` saying whether it is the last
pub record NoOpCause (d : Design) (ports : List Port) (os : List Op) (last : Bool) (o : Op) : Type 0 where
  pub again : has_again o.results ≡ false
  pub defined : has_undefined ports os o.operands ≡ false
  pub alone : alone_cause ports os o ≡ None
  pub outputs : has_other_outputs ports o ≡ false
  pub called : instance_cause d o.types (instance_in o.kind) ≡ None
  pub ends : (is_output_op o && not last) ≡ false
  pub reset : has_other_reset ports os (async_reset_in o) ≡ false
  pub join : has_other_join d ports o.operands (callee d o) ≡ false

pub no_op_cause : (d : Design) (ports : List Port) (os : List Op) (last : Bool) (o : Op) → op_cause d ports os last o ≡ None
    → NoOpCause d ports os last o
no_op_cause d ports os last o h =
    let a = or_none (value_cause ports os o) (or_else (alone_cause ports os o) (or_else (outer_cause d ports last o) (reset_cause d ports os o))) h in
    let v = or_none (when (has_again o.results) Redefined) (when (has_undefined ports os o.operands) Undefined) a.0 in
    let b = or_none (alone_cause ports os o) (or_else (outer_cause d ports last o) (reset_cause d ports os o)) a.1 in
    let w = or_none (outer_cause d ports last o) (reset_cause d ports os o) b.1 in
    let c = or_none (when (has_other_outputs ports o) OutputMismatch) _ w.0 in
    let e = or_none (instance_cause d o.types (instance_in o.kind)) (when (is_output_op o && not last) MissingOutput) c.1 in
    let r = neither (has_other_reset ports os (async_reset_in o)) (has_other_join d ports o.operands (callee d o)) (when_none _ AsyncReset w.1) in
    record {
      again = when_none (has_again o.results) Redefined v.0;
      defined = when_none (has_undefined ports os o.operands) Undefined v.1;
      alone = b.0;
      outputs = when_none (has_other_outputs ports o) OutputMismatch c.0;
      called = e.0;
      ends = when_none (is_output_op o && not last) MissingOutput e.1;
      reset = r.0;
      join = r.1;
    }

-- what holds of a module, which stands as number n in a design, whose header is refused for no cause
pub record NoHeaderCause (d : Design) (n : ℕ) (m : Module) : Type 0 where
  pub again : has_port (λ (q : Port). q.again) m.ports ≡ false
  pub types : has_port (λ (q : Port). is_outside q.type) m.ports ≡ false
  pub fields : has_port (λ (q : Port). has_bad_field q.type) m.ports ≡ false
  pub clocks : has_port has_wrong_clock m.ports ≡ false
  pub symbol : is_some (find_module (take n d) m.symbol) ≡ false
  pub names : has_twice (map (λ (q : Port). q.name) m.ports) ≡ false
  pub ends : has_output m.body ≡ true

pub no_header_cause : (d : Design) (n : ℕ) (m : Module) → header_cause d n m ≡ None → NoHeaderCause d n m
no_header_cause d n m h =
    let a = or_none (ports_cause m.ports) (names_cause d n m.symbol m.ports m.body) h in
    let b = or_none (when (has_port (λ (q : Port). q.again) m.ports) Redefined) _ a.0 in
    let c = or_none (when (has_port (λ (q : Port). is_outside q.type) m.ports) WidthLimit) _ b.1 in
    let e = or_none (when (has_port (λ (q : Port). has_bad_field q.type) m.ports) Field) (when (has_port has_wrong_clock m.ports) ClockOperand) c.1 in
    let f = or_none (when (is_some (find_module (take n d) m.symbol)) DuplicateSymbol) _ a.1 in
    let g = or_none (when (has_twice (map (λ (q : Port). q.name) m.ports)) DuplicatePort) (when (not (has_output m.body)) MissingOutput) f.1 in
    record {
      again = when_none (has_port (λ (q : Port). q.again) m.ports) Redefined b.0;
      types = when_none (has_port (λ (q : Port). is_outside q.type) m.ports) WidthLimit c.0;
      fields = when_none (has_port (λ (q : Port). has_bad_field q.type) m.ports) Field e.0;
      clocks = when_none (has_port has_wrong_clock m.ports) ClockOperand e.1;
      symbol = when_none (is_some (find_module (take n d) m.symbol)) DuplicateSymbol f.0;
      names = when_none (has_twice (map (λ (q : Port). q.name) m.ports)) DuplicatePort g.0;
      ends = not-false (has_output m.body) (when_none (not (has_output m.body)) MissingOutput g.1);
    }

-- what is refused of no operation, each by itself
pub record IsUnrefused (d : Design) (ports : List Port) (whole : List Op) (o : Op) : Type 0 where
  pub last : Bool
  pub none : op_cause d ports whole last o ≡ None

pub ops_unrefused : (d : Design) (ports : List Port) (whole os : List Op) → body_fault d ports whole os ≡ None
    → (j : ℕ) (o : Op) → slice_get os j ≡ Some o → IsUnrefused d ports whole o
ops_unrefused d ports whole [] h j o there = cc
ops_unrefused d ports whole (p ∷ os) h zero o there =
    let both = or_none (option_map (op_refusal p) (op_cause d ports whole (is_empty os) p)) (body_fault d ports whole os) h in
    let same : p ≡ o = cc in
    record { last = is_empty os; none = ap (op_cause d ports whole (is_empty os)) (sym same) ∙ map_none (op_refusal p) (op_cause d ports whole (is_empty os) p) both.0 }
ops_unrefused d ports whole (p ∷ os) h (suc j) o there =
    let both = or_none (option_map (op_refusal p) (op_cause d ports whole (is_empty os) p)) (body_fault d ports whole os) h in
    ops_unrefused d ports whole os both.1 j o there

-- what is refused of no module
pub record IsUnrefusedModule (d : Design) (m : Module) : Type 0 where
  pub number : ℕ
  pub header : header_cause d number m ≡ None
  pub body : body_fault d m.ports m.body m.body ≡ None

modules_unrefused : (d : Design) (n : ℕ) (ms : List Module) → faults_from d n ms ≡ None → (s : Name) (m : Module) → find_module ms s ≡ Some m → IsUnrefusedModule d m
modules_unrefused d n [] h s m found = cc
modules_unrefused d n (x ∷ ms) h s m found = go (same_name x.symbol s) found (λ f. modules_unrefused d (suc n) ms both.1 s m f)
  where
    both : (module_fault d n x ≡ None) × (faults_from d (suc n) ms ≡ None)
    both = or_none (module_fault d n x) (faults_from d (suc n) ms) h

    parts : (option_map (header_refusal x) (header_cause d n x) ≡ None) × (body_fault d x.ports x.body x.body ≡ None)
    parts = or_none (option_map (header_refusal x) (header_cause d n x)) (body_fault d x.ports x.body x.body) both.0

    go : (b : Bool) → cond b (Some x) (find_module ms s) ≡ Some m → (find_module ms s ≡ Some m → IsUnrefusedModule d m) → IsUnrefusedModule d m
    go true e rest =
        let same : x ≡ m = cc in
        record {
          number = n;
          header = ap (header_cause d n) (sym same) ∙ map_none (header_refusal x) (header_cause d n x) parts.0;
          body = ap (λ (y : Module). body_fault d y.ports y.body y.body) (sym same) ∙ parts.1;
        }
    go false e rest = rest e

pub module_unrefused : (d : Design) → first_fault d ≡ None → (s : Name) (m : Module) → find_module d s ≡ Some m → IsUnrefusedModule d m
module_unrefused d h s m found = modules_unrefused d 0 d h s m found
