-- What is known of a register of a fit design, and of its operands.
use Rattle.std.proofs.Common.{◌≡◌, ℕ, ◌+◌, Bool, true, false, List, [], ◌∷◌, length, map, Option, Some, None, slice_get, refl, ap, subst, ◌∙◌, inl, inr, option_map}
use Rattle.wiring.specs.Wiring.{In}
use Rattle.hw_model.specs.Types.{HwType}
use Rattle.hw_model.specs.Types.HwType.{int, clock}
use Rattle.hw_model.specs.Kinds.{Kind, Reset, RegisterOp}
use Rattle.hw_model.specs.Kinds.RegisterOp.{compreg, compreg_ce, firreg}
use Rattle.hw_model.specs.Kinds.Reset.{no_reset, sync_reset}
use Rattle.hw_model.specs.Kinds.Kind.{register, async_firreg}
use Rattle.hw_model.specs.Design.{Ref, OpResult, Op, Module, Design, takes_enable, result_type}
use Rattle.hw_model.specs.Flat.{Register, ResetBy, register_parts}
use Rattle.hw_model.specs.Sound.{type_in, register_types, Fits}
use Rattle.hw_model.specs.Weight.{register_weight, reset_weight}
use Rattle.type_inference.specs.ResultTypes.{result_types, result_type as type_of_result}
use Rattle.op_checks.specs.CountChecks.{type_count}
use Rattle.op_verifier.proofs.NoCauseAlone.{NoCauseAlone, no_cause_alone}
use Rattle.printing_laws.specs.Printable.{IsPrintableOp, settled_result}
use Rattle.acceptance_laws.specs.Keeps.{IsPrintableBody, IsFit}
use Rattle.acceptance_laws.proofs.Accepted.{each_at, fit_found}
use Rattle.acceptance_laws.proofs.FitBodies.{own_cause_none}
use Rattle.seq_lower.specs.Lowered.{clocked_register}

-- ---- operands

-- the weight, for each leaf, of what decides a register's next value
abbrev pub mux_weight : Option Ref → Option ResetBy → ℕ
mux_weight None None = 0
mux_weight (Some e) None = 4
mux_weight None (Some b) = 4
mux_weight (Some e) (Some b) = 8

-- a register's operands have the types that a register of type t asks for, and are among some values
pub record AreParts (type_of : Ref → Option HwType) (t : HwType) (rs : List Ref) (r : Register) : Type 0 where
  pub next_typed : type_of r.next ≡ Some t
  pub next_named : In r.next rs
  pub clock_typed : type_of r.clock ≡ Some clock
  pub clock_named : In r.clock rs
  pub enable : (e : Ref) → r.enable ≡ Some e → (type_of e ≡ Some (int 1)) × In e rs
  pub reset : (b : ResetBy) → r.reset ≡ Some b → (type_of b.signal ≡ Some (int 1)) × (type_of b.value ≡ Some t) × In b.signal rs × In b.value rs

module _ (type_of : Ref → Option HwType) (t : HwType) where
  plain_parts : (d c : Ref) → map type_of (d ∷ c ∷ []) ≡ register_types false no_reset t
      → AreParts type_of t (d ∷ c ∷ []) (record { next = d; clock = c; enable = None; reset = None })
  plain_parts d c typed = record {
    next_typed = cc;
    next_named = inl refl;
    clock_typed = cc;
    clock_named = inr (inl refl);
    enable = λ e is. cc;
    reset = λ b is. cc;
  }

  enabled_parts : (d c e : Ref) → map type_of (d ∷ c ∷ e ∷ []) ≡ register_types true no_reset t
      → AreParts type_of t (d ∷ c ∷ e ∷ []) (record { next = d; clock = c; enable = Some e; reset = None })
  enabled_parts d c e typed = record {
    next_typed = cc;
    next_named = inl refl;
    clock_typed = cc;
    clock_named = inr (inl refl);
    enable = λ x is. let same : e ≡ x = cc in subst (λ z. (type_of z ≡ Some (int 1)) × In z (d ∷ c ∷ e ∷ [])) same (cc, inr (inr (inl refl)));
    reset = λ b is. cc;
  }

  reset_parts : (d c s v : Ref) → map type_of (d ∷ c ∷ s ∷ v ∷ []) ≡ register_types false sync_reset t
      → AreParts type_of t (d ∷ c ∷ s ∷ v ∷ []) (record { next = d; clock = c; enable = None; reset = Some (record { signal = s; value = v }) })
  reset_parts d c s v typed = record {
    next_typed = cc;
    next_named = inl refl;
    clock_typed = cc;
    clock_named = inr (inl refl);
    enable = λ x is. cc;
    reset = λ b is.
        let same : record { signal = s; value = v } ≡ b = cc in
        subst (λ (z : ResetBy). (type_of z.signal ≡ Some (int 1)) × (type_of z.value ≡ Some t) × In z.signal (d ∷ c ∷ s ∷ v ∷ []) × In z.value (d ∷ c ∷ s ∷ v ∷ [])) same
        (cc, cc, inr (inr (inl refl)), inr (inr (inr (inl refl))));
  }

  both_parts : (d c e s v : Ref) → map type_of (d ∷ c ∷ e ∷ s ∷ v ∷ []) ≡ register_types true sync_reset t
      → AreParts type_of t (d ∷ c ∷ e ∷ s ∷ v ∷ []) (record { next = d; clock = c; enable = Some e; reset = Some (record { signal = s; value = v }) })
  both_parts d c e s v typed = record {
    next_typed = cc;
    next_named = inl refl;
    clock_typed = cc;
    clock_named = inr (inl refl);
    enable = λ x is. let same : e ≡ x = cc in subst (λ z. (type_of z ≡ Some (int 1)) × In z (d ∷ c ∷ e ∷ s ∷ v ∷ [])) same (cc, inr (inr (inl refl)));
    reset = λ b is.
        let same : record { signal = s; value = v } ≡ b = cc in
        subst (λ (z : ResetBy). (type_of z.signal ≡ Some (int 1)) × (type_of z.value ≡ Some t) × In z.signal (d ∷ c ∷ e ∷ s ∷ v ∷ []) × In z.value (d ∷ c ∷ e ∷ s ∷ v ∷ [])) same
        (cc, cc, inr (inr (inr (inl refl))), inr (inr (inr (inr (inl refl)))));
  }

  -- operands of those types are a register's, whose weight is that of a plain one and of the muxes
  parts_typed : (e : Bool) (s : Reset) (rs : List Ref) (r : Register) → map type_of rs ≡ register_types e s t → register_parts e s rs ≡ Some r → AreParts type_of t rs r
  parts_typed false no_reset (d ∷ c ∷ []) r typed is =
      let same : record { next = d; clock = c; enable = None; reset = None } ≡ r = cc in subst (AreParts type_of t (d ∷ c ∷ [])) same (plain_parts d c typed)
  parts_typed true no_reset (d ∷ c ∷ x ∷ []) r typed is =
      let same : record { next = d; clock = c; enable = Some x; reset = None } ≡ r = cc in subst (AreParts type_of t (d ∷ c ∷ x ∷ [])) same (enabled_parts d c x typed)
  parts_typed false sync_reset (d ∷ c ∷ s ∷ v ∷ []) r typed is =
      let same : record { next = d; clock = c; enable = None; reset = Some (record { signal = s; value = v }) } ≡ r = cc in
      subst (AreParts type_of t (d ∷ c ∷ s ∷ v ∷ [])) same (reset_parts d c s v typed)
  parts_typed true sync_reset (d ∷ c ∷ x ∷ s ∷ v ∷ []) r typed is =
      let same : record { next = d; clock = c; enable = Some x; reset = Some (record { signal = s; value = v }) } ≡ r = cc in
      subst (AreParts type_of t (d ∷ c ∷ x ∷ s ∷ v ∷ [])) same (both_parts d c x s v typed)
  parts_typed _ _ rs r typed is = cc

pub parts_weight : (e : Bool) (s : Reset) (rs : List Ref) (r : Register) → register_parts e s rs ≡ Some r → (f : RegisterOp) → takes_enable f ≡ e
    → register_weight f + reset_weight s ≡ 3 + mux_weight r.enable r.reset
parts_weight e s rs r is f form = go e s rs is f form
  where
    of_none : (f : RegisterOp) → takes_enable f ≡ false → register_weight f ≡ 3
    of_none compreg h = refl
    of_none compreg_ce h = cc
    of_none firreg h = refl

    of_some : (f : RegisterOp) → takes_enable f ≡ true → register_weight f ≡ 7
    of_some compreg h = cc
    of_some compreg_ce h = refl
    of_some firreg h = cc

    go : (e : Bool) (s : Reset) (rs : List Ref) → register_parts e s rs ≡ Some r → (f : RegisterOp) → takes_enable f ≡ e → register_weight f + reset_weight s ≡ 3 + mux_weight r.enable r.reset
    go false no_reset (d ∷ c ∷ []) is f form =
        let same : record { next = d; clock = c; enable = None; reset = None } ≡ r = cc in
        ap (λ n. n + 0) (of_none f form) ∙ ap (λ (z : Register). 3 + mux_weight z.enable z.reset) same
    go true no_reset (d ∷ c ∷ x ∷ []) is f form =
        let same : record { next = d; clock = c; enable = Some x; reset = None } ≡ r = cc in
        ap (λ n. n + 0) (of_some f form) ∙ ap (λ (z : Register). 3 + mux_weight z.enable z.reset) same
    go false sync_reset (d ∷ c ∷ s ∷ v ∷ []) is f form =
        let same : record { next = d; clock = c; enable = None; reset = Some (record { signal = s; value = v }) } ≡ r = cc in
        ap (λ n. n + 4) (of_none f form) ∙ ap (λ (z : Register). 3 + mux_weight z.enable z.reset) same
    go true sync_reset (d ∷ c ∷ x ∷ s ∷ v ∷ []) is f form =
        let same : record { next = d; clock = c; enable = Some x; reset = Some (record { signal = s; value = v }) } ≡ r = cc in
        ap (λ n. n + 4) (of_some f form) ∙ ap (λ (z : Register). 3 + mux_weight z.enable z.reset) same
    go _ _ rs is f form = cc

-- ---- the operation

-- a register is of a form, and has its operands
pub record HasForm (o : Op) (r : Register) : Type 0 where
  pub form : RegisterOp
  pub with_reset : Reset
  pub kind : o.kind ≡ register form with_reset
  pub parts : register_parts (takes_enable form) with_reset o.operands ≡ Some r

pub form_of : (o : Op) (r : Register) → clocked_register o ≡ Some r → HasForm o r
form_of o r is = go o.kind refl is
  where
    go : (k : Kind) → o.kind ≡ k → clocked_register (record o { kind = k }) ≡ Some r → HasForm o r
    go (register f s) kind h = record { form = f; with_reset = s; kind = kind; parts = h }
    go async_firreg kind h = cc
    go _ kind h = cc

-- the register o at position i of a module, of type t
pub record IsRegister (md : Module) (i : ℕ) (o : Op) (r : Register) (t : HwType) : Type 0 where
  pub there : slice_get md.body i ≡ Some o
  pub is : clocked_register o ≡ Some r
  pub types : o.types ≡ t ∷ []
  pub results : o.results ≡ record { type = t; again = false } ∷ []
  pub parts : AreParts (type_in md.ports md.body) t o.operands r
  pub alone : NoCauseAlone md.ports md.body o
  pub printable : IsPrintableOp md.ports md.body o

one_type : (ts : List HwType) → length ts ≡ 1 → (t : HwType) × (ts ≡ t ∷ [])
one_type [] is = cc
one_type (t ∷ []) is = (t, refl)
one_type (t ∷ u ∷ ts) is = cc

module _ (d : Design) (fit : IsFit d) (k : ℕ) (md : Module) (at : slice_get d k ≡ Some md) (i : ℕ) (o : Op) (there : slice_get md.body i ≡ Some o) (r : Register)
    (clocked : clocked_register o ≡ Some r) where
  f : HasForm o r
  f = form_of o r clocked

  printable_here : IsPrintableOp md.ports md.body o
  printable_here = each_at (IsPrintableOp md.ports md.body) md.body i o (each_at IsPrintableBody d k md fit.printable at).operations there

  pub only_type : (t : HwType) × (o.types ≡ t ∷ [])
  unfolding type_count
  only_type = one_type o.types (printable_here.types ∙ ap (λ x. type_count x (length o.operands)) f.kind)

  only_result : o.results ≡ record { type = only_type.0; again = false } ∷ []
  unfolding result_types type_of_result
  only_result =
      printable_here.results ∙ ap (λ x. map settled_result (result_types x o.types (length o.operands))) f.kind
      ∙ ap (λ ts. map settled_result (result_types (register f.form f.with_reset) ts (length o.operands))) only_type.1

  pub result_typed : result_type o 0 ≡ Some only_type.0
  result_typed = ap (λ (rs : List OpResult). option_map (λ (x : OpResult). x.type) (slice_get rs 0)) only_result

  operand_types : map (type_in md.ports md.body) o.operands ≡ register_types (takes_enable f.form) f.with_reset only_type.0
  operand_types =
      subst (λ x. Fits x o.types (map (type_in md.ports md.body) o.operands) only_type.0 0) f.kind
      ((fit.valid.sound md.symbol md (fit_found d fit k md at)).ops i o there 0 only_type.0 result_typed)

  pub is_register_of : IsRegister md i o r only_type.0
  is_register_of = record {
    there = there;
    is = clocked;
    types = only_type.1;
    results = only_result;
    parts = parts_typed (type_in md.ports md.body) only_type.0 (takes_enable f.form) f.with_reset o.operands r operand_types f.parts;
    alone = no_cause_alone md.ports md.body o (own_cause_none d fit k md at i o there);
    printable = printable_here;
  }
