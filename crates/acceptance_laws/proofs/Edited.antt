-- An edit of one module by which no more is refused of operands keeps a design fit.
use Rattle.std.proofs.Common.{◌≡◌, ◌⊎◌, ℕ, zero, suc, true, false, cond, List, [], ◌∷◌, map, set, Option, Some, None, slice_get, refl, sym, ap, subst, ◌∙◌, inl, inr}
use Rattle.std.specs.Prelude.{is_some}
use Rattle.wiring.specs.Wiring.{In}
use Rattle.wiring.proofs.Members.{In-slice_get}
use Rattle.wiring.proofs.Options.{option_map_some}
use Rattle.hw_model.specs.Kinds.{Kind}
use Rattle.hw_model.specs.Kinds.Kind.{async_firreg}
use Rattle.hw_model.specs.Design.{Ref, Port, Op, Module, Design, register_form, instance_in, is_output_op, is_register}
use Rattle.hw_model.specs.Design.Ref.{port}
use Rattle.hw_model.specs.Flat.{ResetBy, has_async_reset, async_parts, async_reset_in}
use Rattle.hw_model.proofs.Sorts.{Sort, sort_of}
use Rattle.hw_model.proofs.Sorts.Sort.{a_register, an_instance, an_output, a_made}
use Rattle.edit_laws.specs.Edit.{retarget, is_anchor}
use Rattle.edit_laws.specs.Follows.{ValidEdit, Valid}
use Rattle.edit_laws.specs.Laws.{with_body}
use Rattle.edit_laws.proofs.Follows.{valid_set}
use Rattle.acceptance_laws.specs.Asked.{Operand, operand_in, operands_in, AllowsMore, AllowMore}
use Rattle.acceptance_laws.specs.Keeps.{IsMoved, IsPlainFitting, KeepsModule, KeepsModules, IsFit, KeepsAsked}
use Rattle.op_verifier.proofs.Distinct.{distinct_symbols}
use Rattle.acceptance_laws.proofs.Accepted.{fit_kept}
use Rattle.acceptance_laws.proofs.Modules.{design_kept}

-- ---- values

-- no more is refused of a value than of itself
pub allows_itself : (a : Operand) → AllowsMore a a
allows_itself a = record { type = refl; defined = λ h. h; known = λ h. h; constant = λ h. h; input = λ h. h }

pub allow_themselves : (xs : List Operand) → AllowMore xs xs
allow_themselves [] = tt
allow_themselves (a ∷ xs) = (allows_itself a, allow_themselves xs)

-- so of operands one by one
pub operands_allow : (ports : List Port) (os os' : List Op) (f : Ref → Ref) (rs : List Ref) → ((r : Ref) → In r rs → AllowsMore (operand_in ports os r) (operand_in ports os' (f r)))
    → AllowMore (operands_in ports os rs) (operands_in ports os' (map f rs))
operands_allow ports os os' f [] each = tt
operands_allow ports os os' f (r ∷ rs) each = (each r (inl refl), operands_allow ports os os' f rs (λ q here. each q (inr here)))

-- a port among operands stays one
pub get_stood : (f : Ref → Ref) → ((j : ℕ) → f (port j) ≡ port j) → (rs : List Ref) (n j : ℕ) → slice_get rs n ≡ Some (port j) → slice_get (map f rs) n ≡ Some (port j)
get_stood f same [] n j is = cc
get_stood f same (r ∷ rs) zero j is = let e : r ≡ port j = cc in ap Some (ap f e ∙ same j)
get_stood f same (r ∷ rs) (suc n) j is = get_stood f same rs n j is

-- what is no register has no asynchronous reset
pub no_async : (o : Op) (r : ResetBy) → is_register o ≡ false → async_reset_in o ≡ Some r → ⊥
no_async o r plain is = go o.kind refl
  where
    go : (k : Kind) → o.kind ≡ k → ⊥
    go async_firreg here = let clash : true ≡ false = sym (ap (λ z. is_some (register_form z)) here) ∙ plain in cc
    go _ here = let never : None ≡ Some r = sym (ap (λ z. cond (has_async_reset z) (async_parts o.operands) None) here) ∙ is in cc

-- what an operation that is made of its operands is not
pub plain_parts : (o : Op) → is_anchor o ≡ false → (instance_in o.kind ≡ None) × (is_output_op o ≡ false) × (is_register o ≡ false)
plain_parts o plain = go (sort_of o.kind)
  where
    go : Sort o.kind → (instance_in o.kind ≡ None) × (is_output_op o ≡ false) × (is_register o ≡ false)
    go (a_register f r n u) = let clash : true ≡ false = simp r at plain in cc
    go (an_instance x r n u) = let clash : true ≡ false = simp (r, n) at plain in cc
    go (an_output r n u) = let clash : true ≡ false = simp (r, n, u) at plain in cc
    go (a_made r n u) = (n, u, ap is_some r)

-- ---- modules that stay

-- a module keeps itself
pub kept_self : (m : Module) → KeepsModule m m
kept_self m = record {
  symbol_is = refl;
  ports_are = refl;
  dictionary_is = refl;
  body = record {
    each = λ j o at. inl (record {
      was = o;
      was_there = In-slice_get o m.body j at;
      same = refl;
      operands = allow_themselves (operands_in m.ports m.body o.operands);
      ports_stay = λ n i is. is;
    });
    ends = λ h. h;
  };
}

all_kept : (d : Design) → KeepsModules d d
all_kept [] = tt
all_kept (m ∷ d) = (kept_self m, all_kept d)

-- one module is changed to one that keeps it
kept_set : (d : Design) (k : ℕ) (m n : Module) → slice_get d k ≡ Some m → KeepsModule m n → KeepsModules d (set d k n)
kept_set [] k m n at keeps = cc
kept_set (x ∷ d) zero m n at keeps = let same : m ≡ x = cc in (subst (λ y. KeepsModule y n) same keeps, all_kept d)
kept_set (x ∷ d) (suc k) m n at keeps = (kept_self x, kept_set d k m n at keeps)

-- ---- designs

pub fit_modules : (d e : Design) → IsFit d → KeepsModules d e → Valid e → IsFit e
fit_modules d e fit keeps valid = fit_kept d e fit (design_kept d e (distinct_symbols d fit.unrefused) keeps) valid

-- a fit design stays fit where a module is changed to one that keeps it, and it stays valid
pub fit_set : (d : Design) (k : ℕ) (m n : Module) → IsFit d → slice_get d k ≡ Some m → KeepsModule m n → Valid (set d k n) → IsFit (set d k n)
fit_set d k m n fit at keeps valid = fit_modules d (set d k n) fit (kept_set d k m n at keeps) valid

-- ---- the edit

module _ (d : Design) (k : ℕ) (m : Module) (os : List Op) (edit : ValidEdit (Some m) (Some (record m { body = os }))) (fit : IsFit d)
    (at : slice_get d k ≡ Some m) (keeps : KeepsAsked m os edit) where
  op_kept : (j : ℕ) (o : Op) → slice_get os j ≡ Some o → IsMoved m.ports m.body os o ⊎ IsPlainFitting m.ports m.body os o
  op_kept j o here = go (edit.falls.home j) refl
    where
      go : (x : Option ℕ) → edit.falls.home j ≡ x → IsMoved m.ports m.body os o ⊎ IsPlainFitting m.ports m.body os o
      go None new =
          let plain = plain_parts o (edit.falls.fresh_is j o new here) in
          inr (record { no_instance = plain.0; no_output = plain.1; fits = keeps.fresh j o new here; reset = λ r is. absurd (no_async o r plain.2 is) })
      go (Some i) came =
          let stays = edit.edited.edit.kept i j (edit.falls.home_is j i came) in
          let from = option_map_some (retarget edit.edited.edit.stand) (slice_get m.body i) (sym stays.op ∙ here) in
          inl (subst (IsMoved m.ports m.body os) from.2 (record {
            was = from.0;
            was_there = In-slice_get from.0 m.body i from.1;
            same = refl;
            ports_stay = λ n j was. get_stood edit.edited.edit.stand edit.edited.edit.port_is from.0.operands n j was;
            operands = operands_allow m.ports m.body os edit.edited.edit.stand from.0.operands (λ r named. keeps.operands i from.0 r from.1 named);
          }))

  module_kept : KeepsModule m (record m { body = os })
  module_kept = record {
    symbol_is = refl;
    ports_are = refl;
    dictionary_is = refl;
    body = record { each = op_kept; ends = keeps.ends };
  }

  pub fit_after : IsFit (with_body d k m os)
  fit_after =
      fit_set d k m (record m { body = os }) fit at module_kept
      (valid_set d k m (record m { body = os }) at refl edit fit.valid)
