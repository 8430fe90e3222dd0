-- What is asked of a value of a body, by the operation that it is a result of.
use Rattle.std.proofs.Common.{◌≡◌, ℕ, Bool, true, false, ◌&&◌, nat_eq, List, Option, Some, None, refl, sym, ap, ◌∙◌, option_and_then, option_map}
use Rattle.std.specs.Prelude.{is_some, slice_index_or}
use Rattle.std.proofs.lemmas.List.{length-map}
use Rattle.hw_model.specs.Design.{Ref, Port, Op, result_type}
use Rattle.hw_model.specs.Resets.{is_constant}
use Rattle.type_inference.specs.ResultTypes.{result_types}
use Rattle.op_verifier.specs.OpChecks.{settled_by, is_nonzero_kind, is_nonzero_op, alone_cause}
use Rattle.op_verifier.specs.ResetChecks.{is_constant_op}
use Rattle.edit_laws.specs.Edit.{retarget}
use Rattle.acceptance_laws.specs.Asked.{Operand, AllowsMore}
use Rattle.acceptance_laws.proofs.FitBodies.{settled_result}

-- what is asked of result k of an operation
abbrev pub result_operand : ℕ → Option Op → Operand
result_operand k x = record {
  defined = is_some (option_and_then (λ (o : Op). result_type o k) x);
  type = option_and_then (λ (o : Op). slice_index_or (settled_by o) k None) x;
  known = nat_eq k 0 && is_nonzero_op x;
  constant = is_constant_op x;
  input = false;
}

-- other operands change nothing of it
pub operand_retarget : (f : Ref → Ref) (k : ℕ) (x : Option Op) → result_operand k (option_map (retarget f) x) ≡ result_operand k x
operand_retarget f k None = refl
operand_retarget f k (Some o) =
    ap (λ n. record {
      defined = is_some (result_type o k);
      type = slice_index_or (result_types o.kind o.types n) k None;
      known = nat_eq k 0 && is_nonzero_kind o.kind;
      constant = is_constant o.kind;
      input = false;
    }) (length-map o.operands f)

-- no more is refused of the result of another operation with results of the same types, which is a constant where the
-- first one is
pub result_allows : (ports : List Port) (os : List Op) (o o' : Op) → alone_cause ports os o ≡ None → alone_cause ports os o' ≡ None
    → ((k : ℕ) → result_type o' k ≡ result_type o k) → (is_nonzero_kind o.kind ≡ true → is_nonzero_kind o'.kind ≡ true)
    → (is_constant o.kind ≡ true → is_constant o'.kind ≡ true) → (k : ℕ) → AllowsMore (result_operand k (Some o)) (result_operand k (Some o'))
result_allows ports os o o' none none' same known constant k = record {
  type = settled_result ports os o' none' k ∙ same k ∙ sym (settled_result ports os o none k);
  defined = λ h. ap is_some (same k) ∙ h;
  known = both (nat_eq k 0);
  constant = constant;
  input = λ h. h;
}
  where
    both : (b : Bool) → (b && is_nonzero_kind o.kind) ≡ true → (b && is_nonzero_kind o'.kind) ≡ true
    both true h = known h
    both false h = h
