-- A design that keeps the modules of a fit one is fit, and accepted where it is light.
use Rattle.std.proofs.Common.{◌≡◌, ◌⊎◌, ◌<◌, ◌≤◌, ◌+◌, ◌^◌, ℕ, zero, suc, Bool, true, false, cond, not, ◌&&◌, ◌||◌, List, [], ◌∷◌, map, take, length, Option, Some, None, option_map, slice_get, refl}
use Rattle.std.proofs.Common.{sym, ap, subst, ◌∙◌, inl, inr, arith, option_and_then}
use Rattle.std.specs.Prelude.{is_some}
use Rattle.std.specs.Cmp.Lexicographic.{pointwise}
use Rattle.std.proofs.lemmas.List.{length-map}
use Rattle.wiring.specs.Wiring.{In, Depends as IsDependent}
use Rattle.wiring.proofs.Chains.{Depends-direct, Depends-step}
use Rattle.wiring.proofs.Members.{In-slice_get, position_of_In, In-append_left, In-append_right}
use Rattle.diag.specs.declared.cause.Cause.TheVariants as cause
use Rattle.hw_model.specs.Types.{Name, HwType}
use Rattle.hw_model.specs.Kinds.{Instance}
use Rattle.hw_model.specs.Design.{Ref, Port, OpResult, Op, Module, Design, find_module, instance_in, is_output_op, callee}
use Rattle.hw_model.specs.Design.Ref.{result}
use Rattle.hw_model.specs.Flat.{net, async_reset_in}
use Rattle.hw_model.specs.Hierarchy.{called_by, callee_symbols, calls}
use Rattle.hw_model.specs.Resets.{ResetsFromPorts}
use Rattle.hw_model.specs.Sound.{body_of}
use Rattle.hw_model.specs.SameType.{same_type}
use Rattle.hw_model.specs.Weight.{weight_of, module_weight, weight}
use Rattle.hw_model.proofs.Finite.{heights_from_no_cycle, no_cycle_from_heights}
use Rattle.type_inference.specs.ResultTypes.{result_types}
use Rattle.op_checks.specs.CountChecks.{operands_written, type_count}
use Rattle.design_cycles.proofs.Callees.{found_at}
use Rattle.port_checks.specs.InstanceChecks.{port_types, instance_cause}
use Rattle.port_checks.specs.ResetPorts.{is_reset_port}
use Rattle.port_checks.proofs.Least.{found_module, is_sound}
use Rattle.op_verifier.specs.Answers.{when}
use Rattle.op_verifier.specs.OpChecks.{has_other_outputs, value_cause, alone_cause, outer_cause, op_cause}
use Rattle.op_verifier.specs.ResetChecks.{has_other_reset, has_other_join}
use Rattle.op_verifier.specs.Headers.{has_twice, has_output, ports_cause, names_cause, header_cause}
use Rattle.op_verifier.specs.Faults.{op_refusal, header_refusal, body_fault, module_fault, first_fault}
use Rattle.op_verifier.specs.Verdict.{IsRecursive, IsAccepted}
use Rattle.op_verifier.proofs.AcceptedDesigns.{no_fault, accepted_finite, accepted_acyclic}
use Rattle.op_verifier.proofs.Distinct.{distinct_symbols}
use Rattle.op_verifier.proofs.InputResets.{resets_from_ports}
use Rattle.op_verifier.proofs.NoFaults.{no_faults, none_before}
use Rattle.op_verifier.proofs.SoundDesigns.{sound_design}
use Rattle.op_verifier.proofs.Unrefused.{or_none, no_op_cause, no_header_cause, IsUnrefusedModule, ops_unrefused, module_unrefused}
use Rattle.opcode.specs.declared.listed.Listed.TheVariants as listed
use Rattle.stored_form.specs.Dictionaries.{module_keys}
use Rattle.stored_form.specs.Bytes.{Each, AreBytes}
use Rattle.printing_laws.specs.Printable.{IsDefined, settled_result, IsPrintableOp, IsPrintablePort, EndsWithOutput, IsPrintableModule, Printable}
use Rattle.stored_form.specs.Dictionaries.{IsKeptDictionary}
use Rattle.edit_laws.specs.Follows.{Valid}
use Rattle.edit_laws.specs.Resets.{has_mark, marks_by_symbol}
use Rattle.acceptance_laws.specs.Asked.{operand_in, operands_in, called_as, around, CallsMore}
use Rattle.acceptance_laws.specs.Keeps.{IsMoved, IsPlainFitting, KeepsModule, KeepsFound, KeepsDesign, IsPrintableBody, IsFit}
use Rattle.acceptance_laws.proofs.Causes.{cause_told, fewer_causes, none_or, when_false, length_more}
use Rattle.acceptance_laws.proofs.ResetsKept.{resets_kept}
use Rattle.acceptance_laws.proofs.Resets.{reset_marked, no_other_reset}
use Rattle.edit_laws.proofs.ResetsKept.{find_symbol}
use Rattle.std.proofs.lemmas.Bool.{or_from}
use Rattle.printing_laws.proofs.VerifiedDesigns.{all_defined}

-- ---- lists

pub each_at : {A : Type 0} (P : A → Type 0) (xs : List A) (i : ℕ) (x : A) → Each P xs → slice_get xs i ≡ Some x → P x
each_at P [] i x all is = cc
each_at P (y ∷ ys) zero x all is = let same : y ≡ x = cc in subst P same all.0
each_at P (y ∷ ys) (suc i) x all is = each_at P ys i x all.1 is

pub each_from : {A : Type 0} (P : A → Type 0) (xs : List A) → ((i : ℕ) (x : A) → slice_get xs i ≡ Some x → P x) → Each P xs
each_from P [] all = tt
each_from P (x ∷ xs) all = (all 0 x refl, each_from P xs (λ i y is. all (suc i) y is))

-- ---- what is refused of modules, by their positions

-- an operation of a body that ends with its output, as an output the last, is not refused, and so the body is not
no_body_fault : (d : Design) (ports : List Port) (whole os : List Op)
    → ((last : Bool) (o : Op) → In o os → (is_output_op o ≡ true → last ≡ true) → op_cause d ports whole last o ≡ None)
    → EndsWithOutput os → body_fault d ports whole os ≡ None
no_body_fault d ports whole [] all ends = refl
no_body_fault d ports whole (o ∷ []) all ends =
    none_or (option_map (op_refusal o) (op_cause d ports whole true o)) None (ap (option_map (op_refusal o)) (all true o (inl refl) (λ out. refl))) refl
no_body_fault d ports whole (o ∷ p ∷ os) all (plain, ends) =
    none_or (option_map (op_refusal o) (op_cause d ports whole false o)) (body_fault d ports whole (p ∷ os))
    (ap (option_map (op_refusal o)) (all false o (inl refl) (λ out. let clash : true ≡ false = sym out ∙ plain in cc)))
    (no_body_fault d ports whole (p ∷ os) (λ last q here. all last q (inr here)) ends)

ends_has_output : (os : List Op) → EndsWithOutput os → has_output os ≡ true
ends_has_output [] ends = absurd ends
ends_has_output (o ∷ []) ends = ap (λ b. cond b true false) ends
ends_has_output (o ∷ p ∷ os) (plain, ends) = ap (λ b. cond b true (has_output (p ∷ os))) plain ∙ ends_has_output (p ∷ os) ends

-- ---- values that are there

input_inward : (b : Bool) (t : HwType) → is_some (cond b None (Some t)) ≡ true → b ≡ false
input_inward true t h = cc
input_inward false t h = refl

within_results : (rs : List OpResult) (k : ℕ) → is_some (option_map (λ (r : OpResult). r.type) (slice_get rs k)) ≡ true → k < length rs
within_results [] k h = cc
within_results (r ∷ rs) zero h = omega arith
within_results (r ∷ rs) (suc k) h = let less : k < length rs = within_results rs k h in omega arith

-- an operation that can be printed can be printed with other operands, as many, that are values of the body
pub printable_with : (ports : List Port) (os os' : List Op) (o : Op) (rs : List Ref) → length rs ≡ length o.operands → Each (IsDefined ports os') rs
    → IsPrintableOp ports os o → IsPrintableOp ports os' (record o { operands = rs })
printable_with ports os os' o rs count defined was = record {
  defined = defined;
  operands = subst (λ n. n ≡ operands_written o.kind n) (sym count) was.operands;
  types = was.types ∙ ap (type_count o.kind) (sym count);
  readable = was.readable;
  results = was.results ∙ ap (λ n. map settled_result (result_types o.kind o.types n)) (sym count);
  named = was.named;
  few = was.few;
  kept = was.kept;
  written = was.written;
  nameless = was.nameless;
  name = was.name;
  dictionary = was.dictionary;
  bin = was.bin;
}

-- ---- operations that fit

-- what is no instance and no output has no cause where it fits and its reset is not refused
plain_no_cause : (d : Design) (ports : List Port) (before os : List Op) (last : Bool) (o : Op) → IsPlainFitting ports before os o → has_other_reset ports os (async_reset_in o) ≡ false
    → op_cause d ports os last o ≡ None
plain_no_cause d ports before os last o x reset =
    none_or (value_cause ports os o) _ x.fits.values
    (none_or (alone_cause ports os o) _ x.fits.alone
    (none_or (outer_cause d ports last o) _
    (none_or (when (has_other_outputs ports o) cause.OutputMismatch) _
    (when_false (has_other_outputs ports o) cause.OutputMismatch (ap (λ b. b && not (pointwise same_type o.types (port_types true ports))) x.no_output))
    (none_or (instance_cause d o.types (instance_in o.kind)) _ (ap (instance_cause d o.types) x.no_instance)
    (when_false (is_output_op o && not last) cause.MissingOutput (ap (λ b. b && not last) x.no_output))))
    (when_false (has_other_reset ports os (async_reset_in o) || has_other_join d ports o.operands (callee d o)) cause.AsyncReset
    (or_from (has_other_reset ports os (async_reset_in o)) (has_other_join d ports o.operands (callee d o)) reset
    (ap (λ y. has_other_join d ports o.operands (option_and_then (λ (i : Instance). find_module d i.symbol) y)) x.no_instance)))))

-- an instance of a body is called
called_at : (os : List Op) (j : ℕ) (o : Op) (x : Instance) → slice_get os j ≡ Some o → instance_in o.kind ≡ Some x → In x.symbol (callee_symbols os)
called_at [] j o x is inst = cc
called_at (y ∷ os) zero o x is inst =
    let same : y ≡ o = cc in
    In-append_left x.symbol (called_by (instance_in y.kind)) (callee_symbols os)
    (subst (λ z. In x.symbol (called_by z)) (sym (ap (λ (z : Op). instance_in z.kind) same ∙ inst)) (inl refl))
called_at (y ∷ os) (suc j) o x is inst = In-append_right x.symbol (called_by (instance_in y.kind)) (callee_symbols os) (called_at os j o x is inst)

-- ---- the theorem

module _ (d e : Design) (fit : IsFit d) (keeps : KeepsDesign d e) (valid : Valid e) where
  resets : ResetsFromPorts e (marks_by_symbol d (is_reset_port d))
  resets = resets_kept d e (is_reset_port d) keeps (resets_from_ports d fit.unrefused)

  found_here : (i : ℕ) (n : Module) → slice_get e i ≡ Some n → find_module e n.symbol ≡ Some n
  found_here i n there = (found_at e keeps.distinct i n there).1

  -- the module that an instance names is called with no more reset ports
  calls_more : (s : Name) (n m : Module) → find_module e s ≡ Some n → find_module d s ≡ Some m → (j : ℕ) (o : Op) → slice_get m.body j ≡ Some o
      → CallsMore (option_map (called_as d) (callee d o)) (option_map (called_as e) (callee e o))
  calls_more s n m now was j o at = go (instance_in o.kind) refl
    where
      fewer : (t : Name) (c f : Module) → find_module d t ≡ Some c → find_module e t ≡ Some f → (k : ℕ) → is_reset_port e f k ≡ true → is_reset_port d c k ≡ true
      fewer t c f old new k is =
          ap (has_mark (is_reset_port d) k) (sym (ap (find_module d) (find_symbol e t f new) ∙ old))
          ∙ reset_marked e (marks_by_symbol d (is_reset_port d)) resets f k (is_sound e f k is) t new

      by_module : (t : Name) → In t (calls d s) → (x y : Option Module) → find_module d t ≡ x → find_module e t ≡ y → CallsMore (option_map (called_as d) x) (option_map (called_as e) y)
      by_module t need None None old new = tt
      by_module t need None (Some f) old new =
          let keeps_it = keeps.modules t f new in
          let clash : None ≡ Some keeps_it.was = sym old ∙ keeps_it.is_found in cc
      by_module t need (Some c) None old new =
          let clash : true ≡ false = sym (keeps.called s t (ap is_some now) need (ap is_some old)) ∙ ap is_some new in cc
      by_module t need (Some c) (Some f) old new =
          let keeps_it = keeps.modules t f new in
          let same : Some keeps_it.was ≡ Some c = sym keeps_it.is_found ∙ old in
          let one : keeps_it.was ≡ c = cc in
          (keeps_it.keeps.ports_are ∙ ap (λ (y : Module). y.ports) one, fewer t c f old new)

      go : (x : Option Instance) → instance_in o.kind ≡ x
          → CallsMore (option_map (called_as d) (option_and_then (λ (i : Instance). find_module d i.symbol) x)) (option_map (called_as e) (option_and_then (λ (i : Instance). find_module e i.symbol) x))
      go None inst = tt
      go (Some i) inst =
          by_module i.symbol (subst (λ y. In i.symbol (callee_symbols (body_of y))) (sym was) (called_at m.body j o i at inst))
          (find_module d i.symbol) (find_module e i.symbol) refl refl

  module _ (i : ℕ) (n : Module) (there : slice_get e i ≡ Some n) where
    before : KeepsFound (find_module d n.symbol) n
    before = keeps.modules n.symbol n (found_here i n there)

    abbrev keeps_it : KeepsModule before.was n
    keeps_it = before.keeps

    unrefused_before : IsUnrefusedModule d before.was
    unrefused_before = module_unrefused d fit.unrefused n.symbol before.was before.is_found

    printed_before : IsPrintableBody before.was
    printed_before =
        let position = position_of_In before.was d (found_module d n.symbol before.was before.is_found) in
        each_at IsPrintableBody d position.0 before.was fit.printable position.1

    ends_now : EndsWithOutput n.body
    ends_now = keeps_it.body.ends printed_before.ends

    -- an operation of the new body is not refused
    op_kept : (last : Bool) (o : Op) → In o n.body → (is_output_op o ≡ true → last ≡ true) → op_cause e before.was.ports n.body last o ≡ None
    op_kept last o here is_last =
        let at = position_of_In o n.body here in
        go (keeps_it.body.each at.0 o at.1)
      where
        if_moved : (x : IsMoved before.was.ports before.was.body n.body o) → op_cause e before.was.ports n.body last (record x.was { operands = o.operands }) ≡ None
        if_moved x =
            let at = position_of_In x.was before.was.body x.was_there in
            let old = ops_unrefused d before.was.ports before.was.body before.was.body unrefused_before.body at.0 x.was at.1 in
            cause_told e before.was.ports n.body last (record x.was { operands = o.operands })
            ∙ fewer_causes x.was (operands_in before.was.ports before.was.body x.was.operands) (operands_in before.was.ports n.body o.operands)
            (around d before.was.ports old.last x.was) (around e before.was.ports last x.was) x.operands
            (record { ports = refl; last = λ out old_last. is_last (ap is_output_op x.same ∙ out); called = calls_more n.symbol n before.was (found_here i n there) before.is_found at.0 x.was at.1 })
            (sym (cause_told d before.was.ports before.was.body old.last x.was) ∙ old.none)

        go : IsMoved before.was.ports before.was.body n.body o ⊎ IsPlainFitting before.was.ports before.was.body n.body o → op_cause e before.was.ports n.body last o ≡ None
        go (inl x) = subst (λ z. op_cause e before.was.ports n.body last z ≡ None) (sym x.same) (if_moved x)
        go (inr x) =
            plain_no_cause e before.was.ports before.was.body n.body last o x
            (ap (λ ps. has_other_reset ps n.body (async_reset_in o)) (sym keeps_it.ports_are)
            ∙ no_other_reset e (marks_by_symbol d (is_reset_port d)) resets n.symbol n (found_here i n there) o here)

    -- its header is not refused
    header_kept : header_cause e i n ≡ None
    header_kept =
        let was = no_header_cause d unrefused_before.number before.was unrefused_before.header in
        let ports = or_none (ports_cause before.was.ports) (names_cause d unrefused_before.number before.was.symbol before.was.ports before.was.body) unrefused_before.header in
        none_or (ports_cause n.ports) (names_cause e i n.symbol n.ports n.body) (ap ports_cause keeps_it.ports_are ∙ ports.0)
        (none_or _ _
        (when_false (is_some (find_module (take i e) n.symbol)) cause.DuplicateSymbol (none_before e keeps.distinct i n there))
        (none_or _ _
        (when_false (has_twice (map (λ (q : Port). q.name) n.ports)) cause.DuplicatePort
        (ap (λ ps. has_twice (map (λ (q : Port). q.name) ps)) keeps_it.ports_are ∙ was.names))
        (when_false (not (has_output n.body)) cause.MissingOutput (ap not (ends_has_output n.body ends_now)))))

    module_kept : module_fault e i n ≡ None
    module_kept =
        none_or (option_map (header_refusal n) (header_cause e i n)) (body_fault e n.ports n.body n.body) (ap (option_map (header_refusal n)) header_kept)
        (ap (λ ps. body_fault e ps n.body n.body) keeps_it.ports_are ∙ no_body_fault e before.was.ports n.body n.body op_kept ends_now)

    op_printed : (j : ℕ) (o : Op) → slice_get n.body j ≡ Some o → IsPrintableOp before.was.ports n.body o
    op_printed j o at = go (keeps_it.body.each j o at)
      where
        if_moved : (x : IsMoved before.was.ports before.was.body n.body o) → IsPrintableOp before.was.ports n.body (record x.was { operands = o.operands })
        if_moved x =
            let position = position_of_In x.was before.was.body x.was_there in
            let here = In-slice_get o n.body j at in
            printable_with before.was.ports before.was.body n.body x.was o.operands
            (sym (length-map o.operands (operand_in before.was.ports n.body))
            ∙ length_more (operands_in before.was.ports before.was.body x.was.operands) (operands_in before.was.ports n.body o.operands) x.operands
            ∙ length-map x.was.operands (operand_in before.was.ports before.was.body))
            (all_defined before.was.ports n.body o.operands (no_op_cause e before.was.ports n.body true o (op_kept true o here (λ out. refl))).defined)
            (each_at (IsPrintableOp before.was.ports before.was.body) before.was.body position.0 x.was printed_before.operations position.1)

        go : IsMoved before.was.ports before.was.body n.body o ⊎ IsPlainFitting before.was.ports before.was.body n.body o → IsPrintableOp before.was.ports n.body o
        go (inl x) = subst (IsPrintableOp before.was.ports n.body) (sym x.same) (if_moved x)
        go (inr x) = x.fits.printable

    module_printed : IsPrintableBody n
    module_printed = record {
      symbol = subst AreBytes (sym keeps_it.symbol_is) printed_before.symbol;
      ports = subst (Each IsPrintablePort) (sym keeps_it.ports_are) printed_before.ports;
      dictionary = subst (IsKeptDictionary listed.HwModule module_keys) (sym keeps_it.dictionary_is) printed_before.dictionary;
      operations = each_from (IsPrintableOp n.ports n.body) n.body
          (λ j o at. subst (λ ps. IsPrintableOp ps n.body o) (sym keeps_it.ports_are) (op_printed j o at));
      ends = ends_now;
    }

  unrefused_kept : first_fault e ≡ None
  unrefused_kept = no_faults e 0 e (λ i n there. let same : 0 + i ≡ i = omega arith in ap (λ k. module_fault e k n) same ∙ module_kept i n there)

  pub fit_kept : IsFit e
  fit_kept = record { unrefused = unrefused_kept; valid = valid; printable = each_from IsPrintableBody e module_printed }

-- ---- fit designs

module _ (e : Design) (fit : IsFit e) where
  pub fit_found : (i : ℕ) (n : Module) → slice_get e i ≡ Some n → find_module e n.symbol ≡ Some n
  fit_found i n there = (found_at e (distinct_symbols e fit.unrefused) i n there).1

  -- no instance is on a cycle of modules
  no_return : (i : ℕ) (n : Module) → slice_get e i ≡ Some n → (j : ℕ) (o : Op) → slice_get n.body j ≡ Some o → IsRecursive e n j o → ⊥
  no_return i n there j o at (x, inst, around) = go around
    where
      called : In x.symbol (calls e n.symbol)
      called = subst (λ y. In x.symbol (callee_symbols (body_of y))) (sym (fit_found i n there)) (called_at n.body j o x at inst)

      go : (x.symbol ≡ n.symbol) ⊎ IsDependent (calls e) x.symbol n.symbol → ⊥
      go (inl same) = fit.valid.finite n.symbol (Depends-direct (calls e) n.symbol n.symbol (subst (λ s. In s (calls e n.symbol)) same called))
      go (inr more) = fit.valid.finite n.symbol (Depends-step (calls e) n.symbol x.symbol n.symbol called more)

  -- with the weights of an accepted design, or less, it is accepted
  pub light_is_accepted : (d : Design) → IsAccepted d → ((s : Name) → weight e s ≤ weight d s) → IsAccepted e
  light_is_accepted d accepted lighter = record {
    unrefused = ap is_some fit.unrefused;
    no_recursion = λ i j n o at around. no_return i n at.module_there j o at.op_there around;
    light = λ i n there heavy. not_heavy n.symbol (find_module d n.symbol) refl (let less : weight e n.symbol ≤ weight d n.symbol = lighter n.symbol in omega arith);
    no_cycle = λ i j n o at around. no_cycle_from_heights e n.symbol (fit.valid.heights n.symbol) (net [] (result j around.0)) around.1;
  }
    where
      not_heavy : (s : Name) (x : Option Module) → find_module d s ≡ x → 2 ^ 28 < weight d s → ⊥
      not_heavy s None is heavy = let light : weight d s ≡ 0 = ap (weight_of (module_weight (length d) d)) is in absurd (omega arith)
      not_heavy s (Some m) is heavy =
          let position = position_of_In m d (found_module d s m is) in
          accepted.light position.0 m position.1 (subst (λ z. 2 ^ 28 < weight d z) (sym (find_symbol d s m is)) heavy)

-- an accepted design that can be printed is fit
pub accepted_fit : (d : Design) → IsAccepted d → Printable d → IsFit d
accepted_fit d accepted printable = record {
  unrefused = no_fault d accepted;
  valid = record {
    sound = sound_design d (no_fault d accepted);
    finite = accepted_finite d accepted;
    heights = λ top. heights_from_no_cycle d top (accepted_finite d accepted) (accepted_acyclic d accepted top);
  };
  printable = each_from IsPrintableBody d (λ i m there. printed (each_at IsPrintableModule d i m printable there));
}
  where
    printed : {m : Module} → IsPrintableModule m → IsPrintableBody m
    printed p = record { symbol = p.symbol; ports = p.ports; dictionary = p.dictionary; operations = p.operations; ends = p.ends }
