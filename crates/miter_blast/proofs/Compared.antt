-- What is compared of two modules, by copies of both.
use Rattle.std.proofs.Common.{◌≡◌, refl, sym, ap, ap₂, subst, ◌∙◌, ℕ, ◌+◌, ◌<◌, ◌≤◌, Bool, true, false, cond, List, [], ◌∷◌, ◌++◌, map, length, slice_get, Some, min, arith}
use Rattle.std.specs.List.{filter, flat_map}
use mathlib.Core.Path.{subst₂}
use Rattle.diag.specs.declared.cause.Cause.TheVariants.{TooManyGates}
use Rattle.hw_model.specs.Types.{Name, width, leaves}
use Rattle.hw_model.specs.Design.{Op, Module, Design, find_module, is_register, result_type}
use Rattle.hw_model.specs.Flat.{Slot, input_width, width_of, held_width, state}
use Rattle.hw_model.specs.Sound.{input_types}
use Rattle.aggregate_laws.specs.Scalars.{has_aggregates, has_aggregate_value}
use Rattle.edit_laws.proofs.ResetsKept.{find_symbol}
use Rattle.op_verifier.specs.Verdict.{IsAccepted}
use Rattle.printing_laws.specs.Printable.{Printable}
use Rattle.pass_laws.specs.PassLaw.{register_types}
use Rattle.net_gates.specs.Miters.{formula_of}
use Rattle.net_gates.specs.RegisterMiters.{register_miter}
use Rattle.flat_module_laws.specs.Sides.{side_of, IsPlain, IsFlat, AreAlike}
use Rattle.miter_blast.specs.FlatCopy.{IsFlatCopy, IsFlatCopyAt, KeepsFlat}
use Rattle.miter_blast.proofs.Alone.{found_alone}
use Rattle.miter_blast.proofs.CopyLaw.{copy_keeps}
use Rattle.flat_module_gates.specs.FlatSteps.{slot, content_width}
use Rattle.flat_module_gates.specs.Stepped.{IsAlone}
use Rattle.flat_module_gates.proofs.LinkedRegisters.{registers_are, state_is_content}
use Rattle.flat_module_gates.proofs.PlainOrders.{plain_has_order}
use Rattle.miter_blast.specs.Comparable.{register_widths, AreComparable}
use Rattle.miter_blast.specs.ComparisonPrices.{copy_price, comparison_price}
use Rattle.miter_blast.proofs.CopyWidths.{kept_input_types, kept_widths}
use Rattle.miter_blast.proofs.ComparedCopies.{copies_alike}
use Rattle.miter_blast.specs.BodyPrices.{body_price}
use Rattle.miter_blast.proofs.PricedBodies.{price_of_body}
use Rattle.miter_blast.specs.Building.{most_gates, modules_price, pair_price, AreReady, IsBuilt}
use Rattle.miter_blast.specs.Comparisons.{IsPriceOf, IsComparisonRefusal, IsRefusedComparison, IsComparison, no_pair, price as price_above}
use Rattle.miter_blast.specs.Leaves.{held_widths, input_widths}
use Rattle.miter_blast.specs.MiterForms.{MiterForm}
use Rattle.miter_blast.specs.Pairs.{IsPair, at_module, IsRefusedPair}
use Rattle.miter_blast.specs.declared.fail.MiterFail.{MiterFail}
use Rattle.miter_blast.specs.declared.fail.MiterFail.TheVariants.{Refused, NoMemory}
use Rattle.ir_store.specs.Designs.{StoredModule, numbered_module}
use Rattle.std.proofs.lemmas.List.{length-map}
use Rattle.miter_blast.proofs.Finding.{same_there}

-- ---- pairs

-- why there is none is why nothing is compared
pub pair_refused : (d : Design) (a : Name) (e : Design) (b : Name) (fail : MiterFail) → IsRefusedPair d a e b fail → IsRefusedComparison d a e b fail
pair_refused d a e b (Refused r) is = no_pair r is
pair_refused d a e b NoMemory is = tt

-- a number of a module is one of those that are stored
pub stored_below : (ms : List StoredModule) (i : ℕ) → i < length (map numbered_module ms) → i < length ms
stored_below ms i below = let l = length-map ms numbered_module in omega (arith, l, below)

-- a design of one module has one
pub alone_some : (e : Design) → IsAlone e → 0 < length e
alone_some e (m, is, plain) = let l = ap length is in omega (arith, l)

-- ---- the registers of a flat module

slots_wide : (xs : List Op) → map width_of (map (λ (r : Slot). result_type r.op 0) (map slot xs)) ≡ map held_width xs
slots_wide [] = refl
slots_wide (o ∷ xs) = ap (λ ws. held_width o ∷ ws) (slots_wide xs)

plain_widths : (c : Design) (s : Name) (m : Module) → IsPlain c s m → held_widths m.body ≡ map width_of (register_types c s)
plain_widths c s m plain =
    let order = plain_has_order c s m plain in
    let are = registers_are c s m order.0 (record { plain = plain; stands = order.1 }) in
    sym (ap (λ ss. map width_of (map (λ (r : Slot). result_type r.op 0) ss)) are ∙ slots_wide (filter is_register m.body))

plain_state : (c : Design) (s : Name) (m : Module) → IsPlain c s m → state c s ≡ content_width m.body
plain_state c s m plain =
    let order = plain_has_order c s m plain in
    state_is_content c s m order.0 (record { plain = plain; stands = order.1 })

no_aggregate : (b : Bool) → cond b true false ≡ false → b ≡ false
no_aggregate true h = cc
no_aggregate false h = refl

-- ---- one copy

module _ (d : Design) (m : Module) (c : Design) (kept : KeepsFlat d m c) where
  -- what it keeps makes it plain
  pub kept_plain : IsPlain c kept.one.symbol kept.one
  kept_plain = record {
    accepted = kept.accepted;
    found = subst (λ (e : Design). find_module e kept.one.symbol ≡ Some kept.one) (sym kept.is_one) (found_alone kept.one);
    alone = kept.flat;
    scalar = no_aggregate (has_aggregate_value kept.one) (subst (λ (e : Design). has_aggregates e ≡ false) kept.is_one kept.scalar);
  }

  pub kept_alone : IsAlone c
  kept_alone = (kept.one, kept.is_one, kept_plain)

module _ (d : Design) (s : Name) (i : ℕ) (m : Module) (accepted : IsAccepted d) (printable : Printable d) (at : slice_get d i ≡ Some m) (found : find_module d s ≡ Some m)
    (c : Design) (copied : IsFlatCopyAt d i c) where
  own_symbol : m.symbol ≡ s
  own_symbol = find_symbol d s m found

  own_copy : IsFlatCopy d m.symbol c
  own_copy = subst (λ (x : Module). IsFlatCopy d x.symbol c) (same_there d i copied.0 m copied.1 at) copied.2

  pub copy_is : IsFlatCopy d s c
  copy_is = subst (λ t. IsFlatCopy d t c) own_symbol own_copy

  pub keeps : KeepsFlat d m c
  keeps = copy_keeps d c i m accepted printable at own_copy

  module _ (one : Module) (is : c ≡ one ∷ []) where
    kept_one : keeps.one ≡ one
    kept_one = let lists : keeps.one ∷ [] ≡ one ∷ [] = sym keeps.is_one ∙ is in cc

    pub copy_symbol : one.symbol ≡ s
    copy_symbol = ap (λ (x : Module). x.symbol) (sym kept_one) ∙ keeps.symbol ∙ own_symbol

    pub copy_plain : IsPlain c one.symbol one
    copy_plain = subst (λ (x : Module). IsPlain c x.symbol x) kept_one (kept_plain d m c keeps)

    pub copy_held : held_widths one.body ≡ register_widths d s
    copy_held =
        plain_widths c one.symbol one copy_plain
        ∙ ap (λ t. map width_of (register_types c t)) (copy_symbol ∙ sym own_symbol)
        ∙ kept_widths d c m keeps ∙ ap (register_widths d) own_symbol

    pub copy_inputs : input_widths one.ports ≡ map width (flat_map leaves (input_types m.ports))
    copy_inputs = ap (λ (x : Module). input_widths x.ports) (sym kept_one) ∙ ap (map width) (kept_input_types d c m keeps)

  pub copy_alone : IsAlone c
  copy_alone = kept_alone d m c keeps

-- ---- two copies

module _ (d : Design) (a : Name) (e : Design) (b : Name) (i j : ℕ) (pair : IsPair d a e b i j) (d_accepted : IsAccepted d) (d_printable : Printable d) (e_accepted : IsAccepted e) (e_printable : Printable e)
    (c : Design) (c_copied : IsFlatCopyAt d i c) (f : Design) (f_copied : IsFlatCopyAt e j f) where
  abbrev pub first_keeps : KeepsFlat d pair.left c
  first_keeps = keeps d a i pair.left d_accepted d_printable pair.left_at pair.found.one c c_copied

  abbrev pub second_keeps : KeepsFlat e pair.right f
  second_keeps = keeps e b j pair.right e_accepted e_printable pair.right_at pair.found.two f f_copied

  abbrev pub one : Module
  one = first_keeps.one

  abbrev pub two : Module
  two = second_keeps.one

  abbrev pub first_one : Module
  first_one = one

  pub first_one_is : c ≡ first_one ∷ []
  first_one_is = first_keeps.is_one

  module _ (same : register_widths d a ≡ register_widths e b) where
    abbrev comparable : AreComparable d a e b
    comparable = record {
      one = pair.left;
      one_found = pair.found.one;
      two = pair.right;
      two_found = pair.found.two;
      inputs = pair.ports.0;
      outputs = pair.ports.1;
      held = same;
    }

    abbrev first_copy : IsFlatCopy d a c
    first_copy = copy_is d a i pair.left d_accepted d_printable pair.left_at pair.found.one c c_copied

    abbrev second_copy : IsFlatCopy e b f
    second_copy = copy_is e b j pair.right e_accepted e_printable pair.right_at pair.found.two f f_copied

    first_symbol : (m : Module) → c ≡ m ∷ [] → m.symbol ≡ a
    first_symbol m is = copy_symbol d a i pair.left d_accepted d_printable pair.left_at pair.found.one c c_copied m is

    second_symbol : (m : Module) → f ≡ m ∷ [] → m.symbol ≡ b
    second_symbol m is = copy_symbol e b j pair.right e_accepted e_printable pair.right_at pair.found.two f f_copied m is

    first_plain : IsPlain c one.symbol one
    first_plain = copy_plain d a i pair.left d_accepted d_printable pair.left_at pair.found.one c c_copied one first_keeps.is_one

    second_plain : IsPlain f two.symbol two
    second_plain = copy_plain e b j pair.right e_accepted e_printable pair.right_at pair.found.two f f_copied two second_keeps.is_one

    alike : AreAlike c one.symbol one f two.symbol two
    alike =
        subst₂ (λ s t. AreAlike c s one f t two) (sym (first_symbol one first_keeps.is_one)) (sym (second_symbol two second_keeps.is_one))
        (copies_alike d a e b d_accepted d_printable e_accepted e_printable comparable c one f two first_copy first_keeps.is_one second_copy second_keeps.is_one)

    pub ready : (held : List ℕ) → held ≡ held_widths one.body → AreReady c f held
    ready held is = record {
      alone = record {
        one = one;
        first_is = first_keeps.is_one;
        first_plain = first_plain;
        two = two;
        second_is = second_keeps.is_one;
        second_plain = second_plain;
        alike = alike;
      };
      held_are = is;
    }

    -- ---- the price

    pub price_is : pair_price c f ≡ comparison_price c a one f b two
    price_is =
        let lists : pair_price c f ≡ modules_price one two = ap₂ (λ x y. pair_price x y) first_keeps.is_one second_keeps.is_one in
        let own : copy_price c a one ≡ body_price one.ports one.body =
        ap (λ s. copy_price c s one) (sym (first_symbol one first_keeps.is_one)) ∙ price_of_body c one.symbol one first_plain in
        let other : copy_price f b two ≡ body_price two.ports two.body =
        ap (λ s. copy_price f s two) (sym (second_symbol two second_keeps.is_one)) ∙ price_of_body f two.symbol two second_plain in
        let content : state c a ≡ content_width one.body = ap (state c) (sym (first_symbol one first_keeps.is_one)) ∙ plain_state c one.symbol one first_plain in
        omega (arith, lists, own, other, content)

    priced : IsPriceOf d a e b (pair_price c f)
    priced = record {
      first = c;
      first_copy = first_copy;
      one = one;
      first_is = first_keeps.is_one;
      second = f;
      second_copy = second_copy;
      two = two;
      second_is = second_keeps.is_one;
      is = price_is;
    }

    -- a price that is not more is too high
    pub refused_least : (least : ℕ) → least ≤ pair_price c f → most_gates < least → IsComparisonRefusal d a e b (at_module 0 pair.left.location TooManyGates)
    refused_least least low many = price_above pair.left pair.right pair.found comparable (pair_price c f) priced (omega (arith, low, many))

    pub refused_price : (p : ℕ) → p ≡ min (pair_price c f) 18446744073709551615 → most_gates < p → IsComparisonRefusal d a e b (at_module 0 pair.left.location TooManyGates)
    refused_price p is many = price_above pair.left pair.right pair.found comparable (pair_price c f) priced (omega (arith, is, many))

    pub few_gates : (p : ℕ) → p ≡ min (pair_price c f) 18446744073709551615 → p ≤ most_gates → pair_price c f ≤ most_gates
    few_gates p is few = omega (arith, is, few)

    -- ---- the formula

    pub compared : (miter : MiterForm) → IsBuilt c f miter → pair_price c f ≤ most_gates → IsComparison d a e b miter
    compared miter built few =
        let s = first_symbol built.are.one built.are.first_is in
        let t = second_symbol built.are.two built.are.second_is in
        record {
          comparable = comparable;
          price = pair_price c f;
          priced = priced;
          within = few;
          formula = record {
            first = c;
            first_copy = first_copy;
            one = built.are.one;
            first_is = built.are.first_is;
            first_order = built.are.first_order;
            first_flat = subst (λ x. IsFlat c x built.are.one built.are.first_order) s built.are.first_flat;
            second = f;
            second_copy = second_copy;
            two = built.are.two;
            second_is = built.are.second_is;
            second_order = built.are.second_order;
            second_flat = subst (λ x. IsFlat f x built.are.two built.are.second_order) t built.are.second_flat;
            formula = built.formula
                ∙ ap₂ (λ x y. formula_of (input_width built.are.one.ports + state c x)
                (register_miter (input_width built.are.one.ports) (side_of c x built.are.first_order) (side_of f y built.are.second_order))) s t;
          };
          widths = built.widths
              ∙ ap₂ (λ (x y : List ℕ). x ++ y)
              (copy_inputs d a i pair.left d_accepted d_printable pair.left_at pair.found.one c c_copied built.are.one built.are.first_is)
              (copy_held d a i pair.left d_accepted d_printable pair.left_at pair.found.one c c_copied built.are.one built.are.first_is);
        }
