-- The values that operations of an imported design use are of operations that are there; nothing of it is refused, and its text is short.
use Rattle.std.proofs.Common.{◌≡◌, ℕ, ◌+◌, ◌<◌, ◌≤◌, ◌^◌, Bool, true, false, cond, List, [], ◌∷◌, length, slice_get, Option, Some, None, is_some, refl, sym, ap, ◌∙◌, inl, inr, arith, option_and_then}
use Rattle.std.proofs.lemmas.Option.{slice_get_within}
use Rattle.wiring.specs.Wiring.{In}
use Rattle.wiring.proofs.Members.{position_of_In}
use Rattle.hw_model.specs.Design.{Ref, Port, Op, Design, result_type}
use Rattle.hw_model.specs.Design.Ref.{result}
use Rattle.hw_model.specs.Sound.{type_in}
use Rattle.op_verifier.specs.OpChecks.{has_undefined}
use Rattle.op_verifier.proofs.Unrefused.{no_op_cause, ops_unrefused}
use Rattle.aiger_laws.specs.Trees.{Aiger}
use Rattle.aiger_laws.specs.Grammar.{IsAiger}
use Rattle.aiger_design.specs.Built.{imported_ports, imported_body, imported_design}
use Rattle.aiger_design.proofs.DefinedUsers.{imported_defined}
use Rattle.aiger_design.proofs.AcceptedOps.{no_body_fault}
use Rattle.aiger_laws.proofs.Lengths.{least_bytes}
use Rattle.aiger_reader.specs.Told.{line_count}
use Rattle.aiger_design.proofs.AcceptedDesign.{few_lines}
use Rattle.diag.specs.declared.refusal.Refusal.{Refusal}
use Rattle.op_verifier.specs.Verdict.{IsAccepted, IsRefusal}
use Rattle.op_verifier.specs.Verdict.IsRefusal.{unfit, recursive, too_large, cyclic}
use Rattle.op_verifier.proofs.AcceptedDesigns.{no_fault}
use Rattle.aiger_text.proofs.NumberedBodies.{IsBelow}

-- what is defined is there
each_there : (ports : List Port) (os : List Op) (rs : List Ref) → has_undefined ports os rs ≡ false → (r : Ref) → In r rs → is_some (type_in ports os r) ≡ true
each_there ports os [] none r never = absurd never
each_there ports os (s ∷ rs) none r here = go (is_some (type_in ports os s)) refl none here (each_there ports os rs)
  where
    go : (b : Bool) → is_some (type_in ports os s) ≡ b → cond b (has_undefined ports os rs) true ≡ false → In r (s ∷ rs)
        → (has_undefined ports os rs ≡ false → (q : Ref) → In q rs → is_some (type_in ports os q) ≡ true) → is_some (type_in ports os r) ≡ true
    go false is h within rest = absurd (let w : ⊥ = cc in w)
    go true is h (inl same) rest = ap (λ q. is_some (type_in ports os q)) same ∙ is
    go true is h (inr there) rest = rest h r there

-- a result that is there is one of an operation that is there
result_low : (ports : List Port) (os : List Op) (i k : ℕ) → is_some (type_in ports os (result i k)) ≡ true → i < length os
result_low ports os i k there = go (slice_get os i) refl there
  where
    go : (x : Option Op) → slice_get os i ≡ x → is_some (option_and_then (λ (o : Op). result_type o k) x) ≡ true → i < length os
    go None at h = absurd (let w : ⊥ = cc in w)
    go (Some o) at h = slice_get_within os i o at

pub all_below : (bytes : List ℕ) (t : Aiger) → IsAiger bytes t → (o : Op) → In o (imported_body t) → (r : Ref) → In r o.operands → IsBelow (length (imported_body t)) r
all_below bytes t says o here r within i k is =
    let at = position_of_In o (imported_body t) here in
    let none = no_body_fault t (imported_design t) (imported_defined bytes t says) in
    let unrefused = ops_unrefused (imported_design t) (imported_ports t) (imported_body t) (imported_body t) none at.0 o at.1 in
    let causes = no_op_cause (imported_design t) (imported_ports t) (imported_body t) unrefused.last o unrefused.none in
    result_low (imported_ports t) (imported_body t) i k
    (ap (λ q. is_some (type_in (imported_ports t) (imported_body t) q)) (sym is) ∙ each_there (imported_ports t) (imported_body t) o.operands causes.defined r within)

-- a text has few lines
pub lines_few : (bytes : List ℕ) (t : Aiger) → IsAiger bytes t → length bytes ≤ 2 ^ 26 → line_count t ≤ 2 ^ 26
lines_few bytes t says short = let few : least_bytes t ≤ 2 ^ 26 + 1 = few_lines bytes t says short in omega (arith, few)

-- an accepted design has no refusal
pub never_refused : (d : Design) (r : Refusal) → IsAccepted d → IsRefusal d r → ⊥
never_refused d r accepted (unfit _ is) = let e : None ≡ Some r = sym (no_fault d accepted) ∙ is in absurd (let w : ⊥ = cc in w)
never_refused d r accepted (recursive n j m o none first) = accepted.no_recursion n j m o first.there first.meets
never_refused d r accepted (too_large n m none recursion first) = accepted.light n m first.there first.meets
never_refused d r accepted (cyclic n j m o none recursion light first) = accepted.no_cycle n j m o first.there first.meets
