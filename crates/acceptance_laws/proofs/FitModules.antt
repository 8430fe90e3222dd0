-- A design is fit where each of its modules is.
use Rattle.std.proofs.Common.{◌≡◌, ℕ, suc, ◌+◌, ◌<◌, Bool, true, false, cond, not, ◌&&◌, ◌||◌, List, [], ◌∷◌, map, take, length, Option, Some, None, option_map, slice_get, refl, sym, ap, ◌∙◌, inl, inr, arith}
use Rattle.std.specs.Prelude.{is_some}
use Rattle.std.proofs.lemmas.Bool.{or_from}
use Rattle.std.proofs.lemmas.List.{length-take-le}
use Rattle.std.proofs.lemmas.Option.{slice_get_within}
use Rattle.wiring.specs.Wiring.{In}
use Rattle.wiring.proofs.Lists.{slice_get-take}
use Rattle.wiring.proofs.Members.{position_of_In, In-slice_get}
use Rattle.diag.specs.declared.cause.Cause.TheVariants as cause
use Rattle.hw_model.specs.Kinds.{Kind, Instance}
use Rattle.hw_model.specs.Kinds.Kind.{instance}
use Rattle.hw_model.specs.Design.{Port, Op, Module, Design, find_module, instance_in, is_output_op, callee}
use Rattle.hw_model.specs.Flat.{async_reset_in}
use Rattle.opcode.specs.declared.listed.Listed.TheVariants as listed
use Rattle.stored_form.specs.Bytes.{Each, AreBytes}
use Rattle.stored_form.specs.Dictionaries.{IsKeptDictionary, module_keys}
use Rattle.edit_laws.specs.Follows.{Valid}
use Rattle.edit_laws.proofs.ResetsKept.{find_symbol}
use Rattle.design_cycles.specs.Asked.{HasDistinctSymbols}
use Rattle.port_checks.specs.InstanceChecks.{instance_cause}
use Rattle.port_checks.proofs.Least.{found_module}
use Rattle.op_verifier.specs.Answers.{when}
use Rattle.op_verifier.specs.OpChecks.{has_again, has_undefined, has_other_outputs, value_cause, alone_cause, outer_cause, op_cause}
use Rattle.op_verifier.specs.ResetChecks.{has_other_reset, has_other_join}
use Rattle.op_verifier.specs.Headers.{has_twice, has_output, ports_cause, names_cause, header_cause}
use Rattle.op_verifier.specs.Faults.{op_refusal, header_refusal, body_fault, module_fault, faults_from}
use Rattle.op_verifier.proofs.WholeDesigns.{some_from}
use Rattle.op_verifier.proofs.Unrefused.{or_none, no_op_cause, no_header_cause, IsUnrefusedModule, ops_unrefused, module_unrefused}
use Rattle.printing_laws.specs.Printable.{IsPrintablePort, EndsWithOutput}
use Rattle.acceptance_laws.specs.Keeps.{IsFitting, IsPrintableBody, IsFit}
use Rattle.acceptance_laws.proofs.Accepted.{each_at, each_from, fit_found}
use Rattle.acceptance_laws.proofs.Causes.{none_or, when_false}

-- nothing is refused of an operation of a module, wherever it stands, and it can be printed
pub record IsFitOp (d : Design) (m : Module) (o : Op) : Type 0 where
  pub fits : IsFitting m.ports m.body o
  pub outputs : has_other_outputs m.ports o ≡ false
  pub called : instance_cause d o.types (instance_in o.kind) ≡ None
  pub reset : has_other_reset m.ports m.body (async_reset_in o) ≡ false
  pub join : has_other_join d m.ports o.operands (callee d o) ≡ false

-- nothing is refused of a module but for its symbol, and it can be printed
pub record IsFitModule (d : Design) (m : Module) : Type 0 where
  pub symbol : AreBytes m.symbol
  pub unrefused : ports_cause m.ports ≡ None
  pub names : has_twice (map (λ (q : Port). q.name) m.ports) ≡ false
  pub ports : Each IsPrintablePort m.ports
  pub dictionary : IsKeptDictionary listed.HwModule module_keys m.dictionary
  pub ops : (o : Op) → In o m.body → IsFitOp d m o
  pub ends : EndsWithOutput m.body

-- ---- of a fit design

pub fit_module : (d : Design) → IsFit d → (i : ℕ) (m : Module) → slice_get d i ≡ Some m → IsFitModule d m
fit_module d fit i m at = record {
  symbol = printed.symbol;
  unrefused = (or_none (ports_cause m.ports) (names_cause d there.number m.symbol m.ports m.body) there.header).0;
  names = (no_header_cause d there.number m there.header).names;
  ports = printed.ports;
  dictionary = printed.dictionary;
  ops = λ o here. let position = position_of_In o m.body here in op_at position.0 o position.1;
  ends = printed.ends;
}
  where
    there : IsUnrefusedModule d m
    there = module_unrefused d fit.unrefused m.symbol m (fit_found d fit i m at)

    printed : IsPrintableBody m
    printed = each_at IsPrintableBody d i m fit.printable at

    op_at : (j : ℕ) (o : Op) → slice_get m.body j ≡ Some o → IsFitOp d m o
    op_at j o is =
        let one = ops_unrefused d m.ports m.body m.body there.body j o is in
        let none = no_op_cause d m.ports m.body one.last o one.none in
        record {
          fits = record {
            values = none_or (when (has_again o.results) cause.Redefined) (when (has_undefined m.ports m.body o.operands) cause.Undefined)
                (when_false (has_again o.results) cause.Redefined none.again) (when_false (has_undefined m.ports m.body o.operands) cause.Undefined none.defined);
            alone = none.alone;
            printable = each_at _ m.body j o printed.operations is;
          };
          outputs = none.outputs;
          called = none.called;
          reset = none.reset;
          join = none.join;
        }

-- ---- of a design of fit modules

op_unrefused : (d : Design) (m : Module) (last : Bool) (o : Op) → IsFitOp d m o → (is_output_op o ≡ true → last ≡ true) → op_cause d m.ports m.body last o ≡ None
op_unrefused d m last o is ends =
    none_or (value_cause m.ports m.body o) _ is.fits.values
    (none_or (alone_cause m.ports m.body o) _ is.fits.alone
    (none_or (outer_cause d m.ports last o) _
    (none_or (when (has_other_outputs m.ports o) cause.OutputMismatch) _ (when_false (has_other_outputs m.ports o) cause.OutputMismatch is.outputs)
    (none_or (instance_cause d o.types (instance_in o.kind)) _ is.called
    (when_false (is_output_op o && not last) cause.MissingOutput (at_end (is_output_op o) ends))))
    (when_false (has_other_reset m.ports m.body (async_reset_in o) || has_other_join d m.ports o.operands (callee d o)) cause.AsyncReset
    (or_from (has_other_reset m.ports m.body (async_reset_in o)) (has_other_join d m.ports o.operands (callee d o)) is.reset is.join))))
  where
    at_end : (b : Bool) → (b ≡ true → last ≡ true) → (b && not last) ≡ false
    at_end true h = ap not (h refl)
    at_end false h = refl

ops_are_unrefused : (d : Design) (m : Module) (os : List Op) → ((o : Op) → In o os → IsFitOp d m o) → EndsWithOutput os → body_fault d m.ports m.body os ≡ None
ops_are_unrefused d m [] all ends = refl
ops_are_unrefused d m (o ∷ []) all ends =
    none_or (option_map (op_refusal o) (op_cause d m.ports m.body true o)) None (ap (option_map (op_refusal o)) (op_unrefused d m true o (all o (inl refl)) (λ out. refl))) refl
ops_are_unrefused d m (o ∷ p ∷ os) all (plain, ends) =
    none_or (option_map (op_refusal o) (op_cause d m.ports m.body false o)) (body_fault d m.ports m.body (p ∷ os))
    (ap (option_map (op_refusal o)) (op_unrefused d m false o (all o (inl refl)) (λ out. sym plain ∙ out)))
    (ops_are_unrefused d m (p ∷ os) (λ q here. all q (inr here)) ends)

gives_output : (os : List Op) → EndsWithOutput os → has_output os ≡ true
gives_output [] ends = absurd ends
gives_output (o ∷ []) ends = ap (λ b. cond b true false) ends
gives_output (o ∷ p ∷ os) (plain, ends) = ap (λ b. cond b true (has_output (p ∷ os))) plain ∙ gives_output (p ∷ os) ends

-- no module before one has its symbol
none_earlier : (d : Design) → HasDistinctSymbols d → (i : ℕ) (m : Module) → slice_get d i ≡ Some m → is_some (find_module (take i d) m.symbol) ≡ false
none_earlier d distinct i m at = go (find_module (take i d) m.symbol) refl
  where
    go : (x : Option Module) → find_module (take i d) m.symbol ≡ x → is_some x ≡ false
    go None is = refl
    go (Some n) is =
        let position = position_of_In n (take i d) (found_module (take i d) m.symbol n is) in
        let within : i < length d = slice_get_within d i m at in
        let some : length (take i d) ≡ i = length-take-le i d (omega arith) in
        let less : position.0 < length (take i d) = slice_get_within (take i d) position.0 n position.1 in
        let before : position.0 < i = omega arith in
        let same : position.0 ≡ i = distinct position.0 i n m (sym (slice_get-take i d position.0 before) ∙ position.1) at (find_symbol (take i d) m.symbol n is) in
        absurd (omega arith)

module_unfaulted : (d : Design) → HasDistinctSymbols d → (i : ℕ) (m : Module) → slice_get d i ≡ Some m → IsFitModule d m → module_fault d i m ≡ None
module_unfaulted d distinct i m at is =
    none_or (option_map (header_refusal m) (header_cause d i m)) (body_fault d m.ports m.body m.body)
    (ap (option_map (header_refusal m))
    (none_or (ports_cause m.ports) (names_cause d i m.symbol m.ports m.body) is.unrefused
    (none_or _ _ (when_false (is_some (find_module (take i d) m.symbol)) cause.DuplicateSymbol (none_earlier d distinct i m at))
    (none_or _ _ (when_false (has_twice (map (λ (q : Port). q.name) m.ports)) cause.DuplicatePort is.names)
    (when_false (not (has_output m.body)) cause.MissingOutput (ap not (gives_output m.body is.ends)))))))
    (ops_are_unrefused d m m.body is.ops is.ends)

modules_unfaulted : (d : Design) (n : ℕ) (ms : List Module) → ((i : ℕ) (m : Module) → slice_get ms i ≡ Some m → module_fault d (n + i) m ≡ None) → faults_from d n ms ≡ None
modules_unfaulted d n [] all = refl
modules_unfaulted d n (x ∷ ms) all =
    let here : n ≡ n + 0 = omega arith in
    none_or (module_fault d n x) (faults_from d (suc n) ms) (ap (λ k. module_fault d k x) here ∙ all 0 x refl)
    (modules_unfaulted d (suc n) ms (λ i m at. let next : suc n + i ≡ n + suc i = omega arith in ap (λ k. module_fault d k m) next ∙ all (suc i) m at))

-- a valid design of fit modules with distinct symbols is fit
pub fit_of_modules : (d : Design) → HasDistinctSymbols d → Valid d → ((i : ℕ) (m : Module) → slice_get d i ≡ Some m → IsFitModule d m) → IsFit d
fit_of_modules d distinct valid all = record {
  unrefused = modules_unfaulted d 0 d
      (λ i m at. let same : 0 + i ≡ i = omega arith in ap (λ k. module_fault d k m) same ∙ module_unfaulted d distinct i m at (all i m at));
  valid = valid;
  printable = each_from IsPrintableBody d (λ i m at. printed m (all i m at));
}
  where
    printed : (m : Module) → IsFitModule d m → IsPrintableBody m
    printed m is = record {
      symbol = is.symbol;
      ports = is.ports;
      dictionary = is.dictionary;
      operations = each_from _ m.body (λ j o at. (is.ops o (In-slice_get o m.body j at)).fits.printable);
      ends = is.ends;
    }

-- an operation that instances a module is an instance
pub instance_kind : (k : Kind) (i : Instance) → instance_in k ≡ Some i → k ≡ instance i
instance_kind (instance x) i is = ap instance (some_from is)
instance_kind k i is = cc
