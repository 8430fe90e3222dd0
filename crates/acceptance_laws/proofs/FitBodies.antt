-- What is known of the operations of a fit design, and of operations that are moved to another body.
use Rattle.std.proofs.Common.{◌≡◌, ℕ, Bool, true, false, cond, List, [], ◌∷◌, map, Option, Some, None, slice_get, refl, sym, ap, ap₂, ◌∙◌, inl, inr, option_and_then}
use Rattle.std.specs.Prelude.{is_some, slice_index_or}
use Rattle.std.proofs.lemmas.List.{length-map}
use Rattle.std.proofs.lemmas.Option.{slice_get-map}
use Rattle.wiring.specs.Wiring.{In}
use Rattle.diag.specs.declared.cause.Cause.{Cause}
use Rattle.diag.specs.declared.cause.Cause.TheVariants as cause
use Rattle.hw_model.specs.Types.{HwType}
use Rattle.hw_model.specs.Design.{Ref, Port, OpResult, Op, Module, Design, find_module, result_type}
use Rattle.hw_model.specs.Design.Ref.{port, result, undefined}
use Rattle.hw_model.specs.Sound.{type_in}
use Rattle.op_verifier.specs.Answers.{when}
use Rattle.op_checks.specs.OwnChecks.{own_cause}
use Rattle.op_verifier.specs.OpChecks.{has_again, has_undefined, settled_by, settled_type, alone_cause}
use Rattle.op_verifier.proofs.NoCauseAlone.{no_cause_alone}
use Rattle.op_checks.proofs.Settled.{settles}
use Rattle.op_verifier.proofs.Unrefused.{or_none, when_none, NoOpCause, no_op_cause, ops_unrefused, module_unrefused}
use Rattle.acceptance_laws.specs.Asked.{Operand, operand_in, operands_in, second_known, AllowMore}
use Rattle.acceptance_laws.specs.Keeps.{IsFitting, IsFit}
use Rattle.acceptance_laws.proofs.Causes.{undefined_told, types_told, known_told, undefined_more, types_more, known_more, length_more, own_more, none_or, when_false}
use Rattle.acceptance_laws.proofs.Accepted.{printable_with, fit_found}
use Rattle.op_verifier.proofs.SoundDesigns.{known_at}
use Rattle.printing_laws.proofs.VerifiedDesigns.{all_defined}

-- ---- types that are settled

-- an operation without a cause of its own settles the types of its results
pub settled_result : (ports : List Port) (os : List Op) (o : Op) → alone_cause ports os o ≡ None → (k : ℕ) → slice_index_or (settled_by o) k None ≡ result_type o k
settled_result ports os o none k =
    ap (λ xs. slice_index_or xs k None) (settles o.kind o.types (map (λ (r : OpResult). r.type) o.results) (no_cause_alone ports os o none))
    ∙ known_at (map (λ (r : OpResult). r.type) o.results) k
    ∙ slice_get-map (λ (r : OpResult). r.type) o.results k

-- ---- operations that are moved

-- the cause of an operation by itself, over the types of its operands and whether its divisor is known
abbrev own_of : Op → List (Option HwType) → Bool → Option Cause
own_of o ts known = own_cause o.kind o.types (map (λ (r : OpResult). r.type) o.results) o.named ts known

-- an operation that fits a body fits another one with operands of which no more is refused
pub fitting_moved : (ports : List Port) (os os' : List Op) (o : Op) (rs : List Ref) → IsFitting ports os o → AllowMore (operands_in ports os o.operands) (operands_in ports os' rs)
    → IsFitting ports os' (record o { operands = rs })
fitting_moved ports os os' o rs fits more =
    let values = or_none (when (has_again o.results) cause.Redefined) (when (has_undefined ports os o.operands) cause.Undefined) fits.values in
    let before : has_undefined ports os o.operands ≡ false = when_none (has_undefined ports os o.operands) cause.Undefined values.1 in
    let defined : has_undefined ports os' rs ≡ false =
    undefined_told ports os' rs ∙ undefined_more (operands_in ports os o.operands) (operands_in ports os' rs) more (sym (undefined_told ports os o.operands) ∙ before) in
    record {
      values = none_or (when (has_again o.results) cause.Redefined) (when (has_undefined ports os' rs) cause.Undefined) values.0 (when_false (has_undefined ports os' rs) cause.Undefined defined);
      alone = ap₂ (own_of o) (types_told ports os' rs) (known_told ports os' rs)
          ∙ ap (λ ts. own_of o ts (second_known (operands_in ports os' rs))) (types_more (operands_in ports os o.operands) (operands_in ports os' rs) more)
          ∙ own_more o.kind o.types (map (λ (r : OpResult). r.type) o.results) o.named (map (λ (x : Operand). x.type) (operands_in ports os o.operands))
          (second_known (operands_in ports os o.operands)) (second_known (operands_in ports os' rs))
          (known_more (operands_in ports os o.operands) (operands_in ports os' rs) more)
          (sym (ap₂ (own_of o) (types_told ports os o.operands) (known_told ports os o.operands)) ∙ fits.alone);
      printable = printable_with ports os os' o rs
          (sym (length-map rs (operand_in ports os')) ∙ length_more (operands_in ports os o.operands) (operands_in ports os' rs) more ∙ length-map o.operands (operand_in ports os))
          (all_defined ports os' rs defined) fits.printable;
    }

-- ---- a body of a fit design

module _ (d : Design) (fit : IsFit d) (k : ℕ) (md : Module) (at : slice_get d k ≡ Some md) where
  pub found_md : find_module d md.symbol ≡ Some md
  found_md = fit_found d fit k md at

  -- an operation of the body has no cause
  record HasNoCause (o : Op) : Type 0 where
    last : Bool
    no_cause : NoOpCause d md.ports md.body last o

  no_cause_at : (j : ℕ) (o : Op) → slice_get md.body j ≡ Some o → HasNoCause o
  no_cause_at j o is =
      let body = (module_unrefused d fit.unrefused md.symbol md found_md).body in
      let none = ops_unrefused d md.ports md.body md.body body j o is in
      record { last = none.last; no_cause = no_op_cause d md.ports md.body none.last o none.none }

  pub own_cause_none : (j : ℕ) (o : Op) → slice_get md.body j ≡ Some o → alone_cause md.ports md.body o ≡ None
  own_cause_none j o is = (no_cause_at j o is).no_cause.alone

  each_defined : (rs : List Ref) (r : Ref) → has_undefined md.ports md.body rs ≡ false → In r rs → is_some (type_in md.ports md.body r) ≡ true
  each_defined [] r h here = absurd here
  each_defined (q ∷ rs) r h here = go (is_some (type_in md.ports md.body q)) refl h here (each_defined rs r)
    where
      go : (b : Bool) → is_some (type_in md.ports md.body q) ≡ b → cond b (has_undefined md.ports md.body rs) true ≡ false → In r (q ∷ rs)
          → (has_undefined md.ports md.body rs ≡ false → In r rs → is_some (type_in md.ports md.body r) ≡ true) → is_some (type_in md.ports md.body r) ≡ true
      go true is g (inl same) rest = ap (λ z. is_some (type_in md.ports md.body z)) same ∙ is
      go true is g (inr later) rest = rest g later
      go false is g there rest = cc

  -- an operand is a value of the body
  pub operand_there : (j : ℕ) (o : Op) (r : Ref) → slice_get md.body j ≡ Some o → In r o.operands → is_some (type_in md.ports md.body r) ≡ true
  operand_there j o r is here = each_defined o.operands r (no_cause_at j o is).no_cause.defined here

  -- a value has the type that its operation settles
  pub settled_here : (r : Ref) → settled_type md.ports md.body r ≡ type_in md.ports md.body r
  settled_here (port j) = refl
  settled_here undefined = refl
  settled_here (result j n) = go (slice_get md.body j) refl
    where
      go : (x : Option Op) → slice_get md.body j ≡ x → option_and_then (λ (o : Op). slice_index_or (settled_by o) n None) x ≡ option_and_then (λ (o : Op). result_type o n) x
      go None is = refl
      go (Some o) is = settled_result md.ports md.body o (own_cause_none j o is) n
