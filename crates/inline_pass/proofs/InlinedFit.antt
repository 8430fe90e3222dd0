-- A fit design stays fit where an instance is inlined.
use Rattle.std.proofs.Common.{◌≡◌, ◌⊎◌, ℕ, zero, suc, true, false, List, [], ◌∷◌, ◌++◌, map, take, drop, set, Some, slice_get, refl, sym, ap, subst, ◌∙◌, inl, inr, append_assoc}
use Rattle.std.proofs.lemmas.Option.{slice_get_within}
use Rattle.wiring.specs.Wiring.{In}
use Rattle.wiring.proofs.Lists.{slice_get-set_same}
use Rattle.wiring.proofs.Members.{position_of_In, In-slice_get, In-append_cases, from_In-map}
use Rattle.wiring.proofs.Options.{and_then_some}
use Rattle.hw_model.specs.Types.{Name}
use Rattle.hw_model.specs.Kinds.{Kind, Instance}
use Rattle.hw_model.specs.Kinds.Kind.{instance}
use Rattle.hw_model.specs.Resets.{ResetsFromPorts}
use Rattle.hw_model.specs.Design.{Ref, Op, Module, Design, find_module, instance_in, is_output_op, is_output_kind, callee, output_refs}
use Rattle.stored_form.specs.Bytes.{AreBytes}
use Rattle.stored_form.specs.Kinds.{IsWritten}
use Rattle.design_cycles.specs.Asked.{HasDistinctSymbols}
use Rattle.design_cycles.proofs.Callees.{found_at}
use Rattle.port_checks.specs.ResetPorts.{is_reset_port}
use Rattle.port_checks.proofs.Least.{found_module}
use Rattle.op_verifier.proofs.Distinct.{distinct_symbols}
use Rattle.op_verifier.proofs.WholeDesigns.{some_from}
use Rattle.printing_laws.specs.Printable as printer
use Rattle.edit_laws.specs.Edit.{retarget}
use Rattle.edit_laws.specs.Resets.{marks_by_symbol}
use Rattle.edit_laws.specs.Laws.{with_body}
use Rattle.acceptance_laws.specs.Keeps.{IsFit}
use Rattle.acceptance_laws.proofs.Ends.{ends_retarget}
use Rattle.acceptance_laws.proofs.Resets.{no_other_reset, no_other_join}
use Rattle.inline_laws.specs.Inline.{EndsWithOutput, wire_count, inner_ref, inlined_wires, inlined_between, inline_op, IsInlined}
use Rattle.inline_laws.specs.Unwire.{unwire, inline_without_wires}
use Rattle.inline_laws.proofs.Ends.{HasNoOutput, before_has_none, are_wires, wires_no_output}
use Rattle.inline_laws.proofs.Inlining.{Finds, Inlining, inner, outer_stand, inner_stand, new_prefix, new_wires, new_inner, new_back, new_body, new_module}
use Rattle.inline_laws.proofs.Inlining.Finds.{changed, unchanged}
use Rattle.inline_laws.proofs.Follows.{length_before, valid_inlined, inlining}
use Rattle.inline_laws.proofs.WithoutWires.{bare_wires, set_twice, prefix_part, back_part, part_length, wires_are}
use Rattle.inline_pass.specs.Renaming.{renamed}
use Rattle.inline_pass.specs.Flattening.{instance_name, inlined_at}
use Rattle.inline_pass.proofs.Renaming.{renamed_only}
use Rattle.inline_pass.proofs.RenamedKinds.{kind_same}
use Rattle.pass_laws.proofs.FitWithoutWires.{fit_without_wires}
use Rattle.acceptance_laws.proofs.FitModules.{IsFitModule, fit_module, fit_of_modules, instance_kind}
use Rattle.inline_pass.proofs.InlinedResets.{resets_inlined}
use Rattle.inline_pass.proofs.InlinedFitting.{called_still, all_inside}

-- ---- ends of bodies

-- a body of a fit design ends with its output
ends_here : (os : List Op) → printer.EndsWithOutput os → EndsWithOutput os
ends_here [] ends = ends
ends_here (o ∷ []) ends = ends
ends_here (o ∷ y ∷ os) (plain, ends) = (plain, ends_here (y ∷ os) ends)

ends_after : (x : Op) (os : List Op) → is_output_op x ≡ false → printer.EndsWithOutput os → printer.EndsWithOutput (x ∷ os)
ends_after x [] plain ends = absurd ends
ends_after x (y ∷ os) plain ends = (plain, ends)

ends_joined : (xs ys : List Op) → HasNoOutput xs → printer.EndsWithOutput ys → printer.EndsWithOutput (xs ++ ys)
ends_joined [] ys none ends = ends
ends_joined (x ∷ xs) ys none ends = ends_after x (xs ++ ys) (none x (inl refl)) (ends_joined xs ys (λ y here. none y (inr here)) ends)

-- other operations stand for one that is no output
ends_replaced : (f : Ref → Ref) (xs : List Op) (y : Op) (ys zs : List Op) → is_output_op y ≡ false → HasNoOutput zs → printer.EndsWithOutput (xs ++ y ∷ ys)
    → printer.EndsWithOutput (map (retarget f) xs ++ (zs ++ map (retarget f) ys))
ends_replaced f [] y [] zs plain none ends = let clash : false ≡ true = sym plain ∙ ends in cc
ends_replaced f [] y (w ∷ ys) zs plain none (first, ends) = ends_joined zs (map (retarget f) (w ∷ ys)) none (ends_retarget f (w ∷ ys) ends)
ends_replaced f (x ∷ []) y ys zs plain none (first, ends) =
    ends_after (retarget f x) (zs ++ map (retarget f) ys) first (ends_replaced f [] y ys zs plain none ends)
ends_replaced f (x ∷ w ∷ xs) y ys zs plain none (first, ends) =
    ends_after (retarget f x) (map (retarget f) (w ∷ xs) ++ (zs ++ map (retarget f) ys)) first (ends_replaced f (w ∷ xs) y ys zs plain none ends)

-- ---- modules by their positions

-- the module at a position of a design in which one is changed has the symbol of the one at that position
same_symbol : (d : Design) (k : ℕ) (m new : Module) → slice_get d k ≡ Some m → new.symbol ≡ m.symbol → (i : ℕ) (n : Module) → slice_get (set d k new) i ≡ Some n
    → (was : Module) × (slice_get d i ≡ Some was) × (n.symbol ≡ was.symbol)
same_symbol [] k m new at same i n is = cc
same_symbol (x ∷ d) zero m new at same zero n is =
    let first : x ≡ m = cc in
    let now : new ≡ n = cc in
    (x, refl, ap (λ (z : Module). z.symbol) (sym now) ∙ same ∙ ap (λ (z : Module). z.symbol) (sym first))
same_symbol (x ∷ d) zero m new at same (suc i) n is = (n, is, refl)
same_symbol (x ∷ d) (suc k) m new at same zero n is = (n, is, refl)
same_symbol (x ∷ d) (suc k) m new at same (suc i) n is = same_symbol d k m new at same i n is

still_distinct : (d : Design) (k : ℕ) (m new : Module) → slice_get d k ≡ Some m → new.symbol ≡ m.symbol → HasDistinctSymbols d → HasDistinctSymbols (set d k new)
still_distinct d k m new at same distinct i j x y at_i at_j equal =
    let was = same_symbol d k m new at same i x at_i in
    let other = same_symbol d k m new at same j y at_j in
    distinct i j was.0 other.0 was.1 other.1 (sym was.2 ∙ equal ∙ other.2)

-- ---- with wires

module _ (S : Inlining) (u : Name) (is_renamed : S.rename ≡ renamed u) (bytes : AreBytes u) (fit : IsFit S.d) (k : ℕ) (at : slice_get S.d k ≡ Some S.md)
    (distinct : HasDistinctSymbols S.e) where
  resets : ResetsFromPorts S.e (marks_by_symbol S.d (is_reset_port S.d))
  resets = resets_inlined S u is_renamed fit k at

  new_ends : printer.EndsWithOutput (new_body S)
  new_ends =
      subst (λ os. printer.EndsWithOutput (new_prefix S ++ os)) (append_assoc (new_wires S) (new_inner S) (new_back S))
      (ends_replaced (outer_stand S) S.prefix S.o S.back (new_wires S ++ new_inner S) o_plain both_none
      (subst printer.EndsWithOutput S.body_is (fit_module S.d fit k S.md at).ends))
    where
      o_plain : is_output_op S.o ≡ false
      o_plain = ap is_output_kind (instance_kind S.o.kind S.target S.is_instance)

      inner_none : HasNoOutput (new_inner S)
      inner_none y here =
          let from = from_In-map (λ (z : Op). S.rename (retarget (inner_stand S) z)) y (inner S) here in
          ap is_output_op (from.2 ∙ ap (λ g. g (retarget (inner_stand S) from.0)) is_renamed)
          ∙ kind_same is_output_kind (λ i n. refl) u from.0.kind ∙ before_has_none S.c.body from.0 from.1

      both_none : HasNoOutput (new_wires S ++ new_inner S)
      both_none y here = go (In-append_cases y (new_wires S) (new_inner S) here)
        where
          go : In y (new_wires S) ⊎ In y (new_inner S) → is_output_op y ≡ false
          go (inl there) = wires_no_output (new_wires S) (are_wires S.o.location (inner_stand S) S.o.results (output_refs S.c.body)) y there
          go (inr there) = inner_none y there

  new_fit : find_module S.e S.md.symbol ≡ Some (new_module S) → IsFitModule S.e (new_module S)
  new_fit found = record {
    symbol = was.symbol;
    unrefused = was.unrefused;
    names = was.names;
    ports = was.ports;
    dictionary = was.dictionary;
    ops = λ z here.
        let inside = all_inside S u is_renamed bytes fit k at z here in
        record {
          fits = inside.fits;
          outputs = inside.outputs;
          called = inside.called;
          reset = no_other_reset S.e (marks_by_symbol S.d (is_reset_port S.d)) resets S.md.symbol (new_module S) found z here;
          join = no_other_join S.e (marks_by_symbol S.d (is_reset_port S.d)) resets S.md.symbol (new_module S) found z here;
        };
    ends = new_ends;
  }
    where
      was : IsFitModule S.d S.md
      was = fit_module S.d fit k S.md at

  other_fit : (n : Module) → find_module S.e n.symbol ≡ Some n → IsFitModule S.d n → IsFitModule S.e n
  other_fit n found was = record {
    symbol = was.symbol;
    unrefused = was.unrefused;
    names = was.names;
    ports = was.ports;
    dictionary = was.dictionary;
    ops = λ z here.
        let is = was.ops z here in
        record {
          fits = is.fits;
          outputs = is.outputs;
          called = called_still S u is_renamed bytes fit k at z.types (instance_in z.kind) is.called;
          reset = no_other_reset S.e (marks_by_symbol S.d (is_reset_port S.d)) resets n.symbol n found z here;
          join = no_other_join S.e (marks_by_symbol S.d (is_reset_port S.d)) resets n.symbol n found z here;
        };
    ends = was.ends;
  }

  each_fit : (i : ℕ) (n : Module) → slice_get S.e i ≡ Some n → IsFitModule S.e n
  each_fit i n there = go (S.finds n.symbol)
    where
      found : find_module S.e n.symbol ≡ Some n
      found = (found_at S.e distinct i n there).1

      go : Finds S.d S.e S.md (new_module S) n.symbol → IsFitModule S.e n
      go (changed was now) =
          let one : new_module S ≡ n = some_from (sym now ∙ found) in
          subst (IsFitModule S.e) one
          (new_fit (ap (find_module S.e) (ap (λ (x : Module). x.symbol) one) ∙ found ∙ ap Some (sym one)))
      go (unchanged same) =
          let spot = position_of_In n S.d (found_module S.d n.symbol n (sym same ∙ found)) in
          other_fit n found (fit_module S.d fit spot.0 n spot.1)

  fit_with_wires : IsFit S.e
  fit_with_wires = fit_of_modules S.e distinct (valid_inlined S) each_fit

-- ---- an instance

-- an instance of a module of a fit design may be inlined
pub is_inlined : (d : Design) (k : ℕ) (m : Module) (i : ℕ) (o : Op) (c : Module) → IsFit d → slice_get d k ≡ Some m → slice_get m.body i ≡ Some o → callee d o ≡ Some c
    → IsInlined d m i o c
is_inlined d k m i o c fit at there leads =
    let named = and_then_some (instance_in o.kind) (λ (x : Instance). find_module d x.symbol) leads in
    let spot = position_of_In c d (found_module d named.0.symbol c named.2) in
    record { there = there; target = named.0; is_instance = named.1; is_found = named.2; ends = ends_here c.body (fit_module d fit spot.0 c spot.1).ends }

name_written : (o : Op) (i : Instance) → o.kind ≡ instance i → IsWritten o.kind → AreBytes (instance_name o)
name_written o i kind written =
    subst AreBytes (sym (ap name_in kind)) (subst IsWritten kind written).name
  where
    name_in : Kind → Name
    name_in z = instance_name (record o { kind = z })

module _ (d : Design) (k : ℕ) (m : Module) (i : ℕ) (o : Op) (c : Module) (fit : IsFit d) (at : slice_get d k ≡ Some m) (is : IsInlined d m i o c) where
  instance_inlined : Inlining
  instance_inlined = inlining d k m i o c (renamed (instance_name o)) (renamed_only (instance_name o)) fit.valid at is

  name_bytes : AreBytes (instance_name o)
  name_bytes =
      let spot = (fit_module d fit k m at).ops o (In-slice_get o m.body i is.there) in
      name_written o is.target (instance_kind o.kind is.target is.is_instance) spot.fits.printable.written

  fit_wired : IsFit (with_body d k m (inline_op (renamed (instance_name o)) i o c m.body))
  unfolding instance_inlined inlining
  fit_wired =
      subst (λ n. IsFit (with_body d k m (inlined_between (renamed (instance_name o)) n o c (take i m.body) (drop (suc i) m.body)))) (length_before m.body i o is.there)
      (fit_with_wires instance_inlined (instance_name o) refl name_bytes fit k at (still_distinct d k m (new_module instance_inlined) at refl (distinct_symbols d fit.unrefused)))

  -- a fit design stays fit
  fit_here : IsFit (with_body d k m (inlined_at i o c m.body))
  fit_here =
      subst IsFit (set_twice d k now (record m { body = inline_without_wires (renamed (instance_name o)) i o c m.body }))
      (subst (λ n. IsFit (set (with_body d k m now.body) k (record m { body = unwire n (wire_count o) now.body }))) (part_length d m i o c (renamed (instance_name o)) is)
      (fit_without_wires (wire_count o) (prefix_part d m i o c (renamed (instance_name o)) is) (inlined_wires i o c) (back_part d m i o c (renamed (instance_name o)) is)
      (wires_are d m i o c (renamed (instance_name o)) is) (bare_wires o.location (inner_ref i o c) o.results (output_refs c.body))
      (with_body d k m now.body) k now fit_wired (slice_get-set_same d k now (slice_get_within d k m at)) refl))
    where
      now : Module
      now = record m { body = inline_op (renamed (instance_name o)) i o c m.body }

pub fit_inlined : (d : Design) (k : ℕ) (m : Module) (i : ℕ) (o : Op) (c : Module) → IsFit d → slice_get d k ≡ Some m → IsInlined d m i o c
    → IsFit (with_body d k m (inlined_at i o c m.body))
fit_inlined d k m i o c fit at is = fit_here d k m i o c fit at is
