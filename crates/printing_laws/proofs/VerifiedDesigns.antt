-- A design in canonical form of which nothing is refused can be printed, and its text spells it.
use Rattle.std.proofs.Common.{◌≡◌, ℕ, zero, suc, ◌*◌, ◌^◌, ◌<◌, ◌≤◌, Bool, true, false, cond, ◌&&◌, List, [], ◌∷◌, ◌++◌, map, length, refl, ap, ◌∙◌, sym, arith, length-append, option_and_then, option_map}
use Rattle.std.specs.Prelude.{not, Option, Some, None, is_some, slice_get, ⊤}
use Rattle.hw_model.specs.Types.{HwType}
use Rattle.hw_model.specs.Kinds.{Kind}
use Rattle.hw_model.specs.Kinds.StructOp.{struct_create}
use Rattle.hw_model.specs.Kinds.Kind.{on_struct}
use Rattle.hw_model.specs.Sound.{type_in, input_type}
use Rattle.hw_model.specs.Design.{Ref, Port, OpResult, Op, Module, Design, is_output_op, result_type}
use Rattle.hw_model.specs.Design.Ref.{port, result, undefined}
use Rattle.type_inference.specs.ResultTypes.{result_types}
use Rattle.stored_form.specs.Bytes.{Each}
use Rattle.stored_form.specs.ResultTypes.{type_or_none, HaveTypes}
use Rattle.stored_form.specs.Canonical.{IsCanonicalOp, IsCanonicalPort, IsCanonicalModule, IsCanonical}
use Rattle.op_checks.specs.CountChecks.{operands_written, operand_count}
use Rattle.op_verifier.specs.OpChecks.{has_again, has_undefined, op_cause}
use Rattle.op_verifier.specs.Headers.{has_port, has_output, header_cause}
use Rattle.op_verifier.specs.Faults.{op_refusal, header_refusal, is_empty, body_fault, module_fault, faults_from}
use Rattle.op_verifier.specs.Verdict.{IsAccepted}
use Rattle.op_verifier.proofs.AcceptedDesigns.{no_fault}
use Rattle.op_verifier.proofs.NoCauseAlone.{no_cause_alone, result_number}
use Rattle.op_verifier.proofs.Unrefused.{or_none, map_none, no_op_cause, no_header_cause}
use Rattle.printing_laws.specs.NameHints.{name_hints, port_name_hints, body_name_hints}
use Rattle.printing_laws.specs.Parts.{parts_in}
use Rattle.printing_laws.specs.Printable.{IsDefined, settled_result, IsPrintableOp, IsPrintablePort, EndsWithOutput, IsPrintableModule, Printable}
use Rattle.printing_laws.proofs.NameCounts.{types_counted, few_names}

-- ---- the counts of an operation that is not refused

-- its operands are as many as are written
counts_written : (k : Kind) (ts : List HwType) (n : ℕ) → n ≡ operand_count k ts n → n ≡ operands_written k n
unfolding operand_count operands_written
counts_written (on_struct struct_create) ts n h = refl
counts_written _ ts n h = h

-- ---- results

-- results of the types that are settled, as many, of which none was defined earlier
settled : (rs : List OpResult) (ts : List (Option HwType)) → HaveTypes rs ts → length rs ≡ length ts → has_again rs ≡ false → rs ≡ map settled_result ts
settled [] [] h e g = refl
settled (r ∷ rs) [] h e g = absurd (omega (arith, e))
settled [] (t ∷ ts) h e g = absurd h
settled (r ∷ rs) (t ∷ ts) h e g = go r.again refl g (settled rs ts h.1 (omega (arith, e)))
  where
    go : (b : Bool) → r.again ≡ b → cond b true (has_again rs) ≡ false → (has_again rs ≡ false → rs ≡ map settled_result ts)
        → r ∷ rs ≡ settled_result t ∷ map settled_result ts
    go true f k rest = cc
    go false f k rest =
        let one : r ≡ settled_result t =
        ap (λ x. record { type = x; again = r.again }) h.0 ∙ ap (λ x. record { type = type_or_none t; again = x }) f in
        ap (λ x. x ∷ rs) one ∙ ap (λ l. settled_result t ∷ l) (rest k)

-- ---- operands

slice_within : {A B : Type 0} (f : A → B) (xs : List A) (k : ℕ) → is_some (option_map f (slice_get xs k)) ≡ true → k < length xs
slice_within f [] k h = cc
slice_within f (x ∷ xs) zero h = omega arith
slice_within f (x ∷ xs) (suc k) h = let e = slice_within f xs k h in omega (arith, e)

pub defined_of : (ports : List Port) (os : List Op) (r : Ref) → is_some (type_in ports os r) ≡ true → IsDefined ports os r
defined_of ports os (port j) h = go (slice_get ports j) refl h
  where
    input : (b : Bool) (t : HwType) → is_some (cond b None (Some t)) ≡ true → b ≡ false
    input true t e = cc
    input false t e = refl

    go : (q : Option Port) → slice_get ports j ≡ q → is_some (input_type q) ≡ true → (p : Port) × (slice_get ports j ≡ Some p) × (p.is_output ≡ false)
    go None e g = cc
    go (Some q) e g = (q, e, input q.is_output q.type g)
defined_of ports os (result j k) h = go (slice_get os j) refl h
  where
    go : (q : Option Op) → slice_get os j ≡ q → is_some (option_and_then (λ (o : Op). result_type o k) q) ≡ true
        → (o : Op) × (slice_get os j ≡ Some o) × (k < length o.results)
    go None e g = cc
    go (Some o) e g = (o, e, slice_within (λ (r : OpResult). r.type) o.results k g)
defined_of ports os undefined h = cc

pub all_defined : (ports : List Port) (os : List Op) (rs : List Ref) → has_undefined ports os rs ≡ false → Each (IsDefined ports os) rs
all_defined ports os [] h = tt
all_defined ports os (r ∷ rs) h = go (is_some (type_in ports os r)) refl h (all_defined ports os rs)
  where
    go : (b : Bool) → is_some (type_in ports os r) ≡ b → cond b (has_undefined ports os rs) true ≡ false
        → (has_undefined ports os rs ≡ false → Each (IsDefined ports os) rs) → IsDefined ports os r × Each (IsDefined ports os) rs
    go true e g rest = (defined_of ports os r e, rest g)
    go false e g rest = cc

-- ---- operations

op_printable : (d : Design) (ports : List Port) (whole : List Op) (last : Bool) (o : Op) → op_cause d ports whole last o ≡ None → IsCanonicalOp o
    → IsPrintableOp ports whole o
op_printable d ports whole last o h form =
    let none = no_op_cause d ports whole last o h in
    let right = no_cause_alone ports whole o none.alone in
    let count = result_number ports whole o right in
    let written = counts_written o.kind o.types (length o.operands) right.operands in
    let ts = result_types o.kind o.types (length o.operands) in
    let size : length o.results ≡ length ts = count ∙ sym (types_counted o.kind o.types (length o.operands)) in
    let some : o.named ≡ length o.results = right.names ∙ sym count in
    let named = form.named in
    record {
      defined = all_defined ports whole o.operands none.defined;
      operands = written;
      types = right.types;
      readable = form.readable;
      results = settled o.results ts form.types size none.again;
      named = some;
      few = λ p. omega (arith, some, named);
      kept = form.kept;
      written = form.written;
      nameless = form.nameless;
      name = form.name;
      dictionary = form.dictionary;
      bin = form.bin;
    }

-- an output is the last
abbrev OutputsLast : List Op → Type 0
OutputsLast [] = ⊤
OutputsLast (o ∷ os) = ((is_output_op o && not (is_empty os)) ≡ false) × OutputsLast os

-- a body that can be printed, where outputs are the last and not too many names are taken
record IsPrintableBody (ports : List Port) (whole os : List Op) : Type 0 where
  each : Each (IsPrintableOp ports whole) os
  last : OutputsLast os
  few : length (body_name_hints (map parts_in os)) ≤ length os * (2 ^ 32)

body_printable : (d : Design) (ports : List Port) (whole os : List Op) → body_fault d ports whole os ≡ None → Each IsCanonicalOp os
    → IsPrintableBody ports whole os
body_printable d ports whole [] h form = record { each = tt; last = tt; few = omega arith }
body_printable d ports whole (o ∷ os) h form =
    let a = or_none _ _ h in
    let none = map_none (op_refusal o) (op_cause d ports whole (is_empty os) o) a.0 in
    let rest = body_printable d ports whole os a.1 form.1 in
    let printable = op_printable d ports whole (is_empty os) o none form.0 in
    let names = few_names ports whole o printable in
    let results = printable.named in
    let named = form.0.named in
    let more = rest.few in
    let both = length-append (name_hints (parts_in o)) (body_name_hints (map parts_in os)) in
    record {
      each = (printable, rest.each);
      last = ((no_op_cause d ports whole (is_empty os) o none).ends, rest.last);
      few = omega (arith, names, results, named, more, both);
    }

ends_so : (os : List Op) → has_output os ≡ true → OutputsLast os → EndsWithOutput os
ends_so [] h l = cc
ends_so (o ∷ []) h l = go (is_output_op o) h
  where
    go : (b : Bool) → cond b true false ≡ true → b ≡ true
    go true e = refl
    go false e = cc
ends_so (o ∷ p ∷ os) h l = go (is_output_op o) refl h l.0 (λ e. ends_so (p ∷ os) e l.1)
  where
    go : (b : Bool) → is_output_op o ≡ b → cond b true (has_output (p ∷ os)) ≡ true → (b && true) ≡ false
        → (has_output (p ∷ os) ≡ true → EndsWithOutput (p ∷ os))
        → (is_output_op o ≡ false) × EndsWithOutput (p ∷ os)
    go true e g f r = cc
    go false e g f r = (e, r g)

-- ---- modules

none_again : (ps : List Port) → has_port (λ (q : Port). q.again) ps ≡ false → Each IsCanonicalPort ps → Each IsPrintablePort ps
none_again [] h read = tt
none_again (p ∷ ps) h read = go p.again refl h (λ e. none_again ps e read.1)
  where
    go : (b : Bool) → p.again ≡ b → cond b true (has_port (λ (q : Port). q.again) ps) ≡ false
        → (has_port (λ (q : Port). q.again) ps ≡ false → Each IsPrintablePort ps) → IsPrintablePort p × Each IsPrintablePort ps
    go true e g r = cc
    go false e g r = (record { first = e; name = read.0.name; type = read.0.type }, r g)

pub port_names : (ps : List Port) → length (port_name_hints ps) ≤ length ps
port_names [] = omega arith
port_names (p ∷ ps) = go p.is_output (port_names ps)
  where
    go : (b : Bool) → length (port_name_hints ps) ≤ length ps → length (cond b [] (Some p.name ∷ []) ++ port_name_hints ps) ≤ suc (length ps)
    go true r = omega (arith, r)
    go false r = omega (arith, r)

module_printable : (d : Design) (n : ℕ) (m : Module) → module_fault d n m ≡ None → IsCanonicalModule m → IsPrintableModule m
module_printable d n m h form =
    let a = or_none _ _ h in
    let header = no_header_cause d n m (map_none (header_refusal m) (header_cause d n m) a.0) in
    let body = body_printable d m.ports m.body m.body a.1 form.operations in
    let from_ports = port_names m.ports in
    let from_body = body.few in
    let ports = form.few_ports in
    let operations = form.few_operations in
    let both = length-append (port_name_hints m.ports) (body_name_hints (map parts_in m.body)) in
    record {
      symbol = form.symbol;
      ports = none_again m.ports header.again form.ports;
      dictionary = form.dictionary;
      operations = body.each;
      ends = ends_so m.body header.ends body.last;
      few = omega (arith, from_ports, from_body, ports, operations, both);
    }

modules_printable : (d : Design) (n : ℕ) (ms : List Module) → faults_from d n ms ≡ None → Each IsCanonicalModule ms → Each IsPrintableModule ms
modules_printable d n [] h form = tt
modules_printable d n (m ∷ ms) h form =
    let a = or_none (module_fault d n m) (faults_from d (suc n) ms) h in
    (module_printable d n m a.0 form.0, modules_printable d (suc n) ms a.1 form.1)

-- a design in canonical form of which nothing is refused can be printed
pub canonical_designs_are_printable : (d : Design) → IsAccepted d → IsCanonical d → Printable d
canonical_designs_are_printable d accepted form = modules_printable d 0 d (no_fault d accepted) form
