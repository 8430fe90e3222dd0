-- An operation of a body that is not refused by itself: what the absence of each cause says of it.
use Rattle.std.proofs.Common.{◌≡◌, List, length, map, sym, ◌∙◌}
use Rattle.std.specs.Prelude.{None}
use Rattle.std.proofs.lemmas.List.{length-map}
use Rattle.hw_model.specs.Types.{HwType}
use Rattle.hw_model.specs.Design.{Port, OpResult, Op}
use Rattle.type_inference.specs.ResultTypes.{result_count}
use Rattle.op_verifier.specs.OpChecks.{settled_type, divides_by_constant, alone_cause}
use Rattle.op_checks.proofs.NoOwnCause.{NoOwnCause, no_own_cause}

-- the types of an operation's results
abbrev pub types_of : List OpResult → List HwType
types_of rs = map (λ (r : OpResult). r.type) rs

-- what holds of an operation of a body that is not refused by itself
abbrev pub NoCauseAlone : List Port → List Op → Op → Type 0
NoCauseAlone ports os o =
    NoOwnCause o.kind o.types (types_of o.results) o.named (length o.operands) (map (settled_type ports os) o.operands) (divides_by_constant os o.operands)

pub no_cause_alone : (ports : List Port) (os : List Op) (o : Op) → alone_cause ports os o ≡ None → NoCauseAlone ports os o
no_cause_alone ports os o h =
    no_own_cause o.kind o.types (types_of o.results) o.named (length o.operands) (map (settled_type ports os) o.operands) (divides_by_constant os o.operands)
    (length-map o.operands (settled_type ports os)) h

-- its results are as many as its kind and its types ask for
pub result_number : (ports : List Port) (os : List Op) (o : Op) → NoCauseAlone ports os o → length o.results ≡ result_count o.kind o.types
result_number ports os o h = sym (length-map o.results (λ (r : OpResult). r.type)) ∙ h.results
