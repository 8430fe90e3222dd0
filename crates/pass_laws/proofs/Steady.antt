-- Designs that follow from one another by edits of bodies: from themselves, one after another, by one edit; and that the law
-- of passes that keep all modules holds of them.
use Rattle.std.proofs.Common.{◌≡◌, ◌≤◌, ℕ, zero, suc, Bool, true, false, cond, List, [], ◌∷◌, length, map, flat_map, Some, slice_get, refl, sym, ap, ap₂, subst, ◌∙◌, length-set}
use Rattle.hw_model.specs.Types.{Name}
use Rattle.hw_model.specs.Design.{Op, Module, Design, find_module, same_name, result_type}
use Rattle.hw_model.specs.Flat.{Slot, module_registers}
use Rattle.hw_model.specs.Hierarchy.{calls}
use Rattle.hw_model.specs.Meaning.{machine}
use Rattle.hw_model.specs.Sound.{body_of}
use Rattle.hw_model.specs.Weight.{weight}
use Rattle.hw_model.proofs.Machines.{same_self, same_then}
use Rattle.op_verifier.specs.Verdict.{IsAccepted}
use Rattle.edit_laws.specs.Follows.{Follows}
use Rattle.edit_laws.specs.Laws.{with_body}
use Rattle.edit_laws.proofs.Follows.{valid_settles, set_each}
use Rattle.acceptance_laws.specs.Keeps.{IsFit}
use Rattle.acceptance_laws.proofs.NameCounts.{accepted_again}
use Rattle.aggregate_laws.specs.LeafPorts.{split_ports}
use Rattle.pass_pipeline.specs.declared.pass.Pass.{Pass}
use Rattle.pass_laws.specs.PassLaw.{InstancesStay, leaf_types, register_types, IsAfter}
use Rattle.pass_laws.specs.Remaining.{is_flatten, is_symbol_dce, is_lowering, has_pass, symbols, IsKept, AreThose}
use Rattle.pass_laws.specs.Steady.{SameShape, SameHeader, SameHeaders, IsSteady}
use Rattle.pass_laws.proofs.Shapes.{types_held, held_same}
use Rattle.pass_laws.proofs.Those.{all_those}
use Rattle.pass_laws.proofs.Unchanged.{all_remain, stays_unlowered}

-- ---- headers

header_self : (m : Module) → SameHeader m m
header_self m = record { symbol = refl; mark = refl; location = refl; ports = refl }

headers_self : (d : Design) → SameHeaders d d
headers_self [] = tt
headers_self (m ∷ d) = (header_self m, headers_self d)

headers_then : (d e f : Design) → SameHeaders d e → SameHeaders e f → SameHeaders d f
headers_then [] [] [] first second = tt
headers_then [] [] (z ∷ f) first second = absurd second
headers_then [] (y ∷ e) f first second = absurd first
headers_then (x ∷ d) [] f first second = absurd first
headers_then (x ∷ d) (y ∷ e) [] first second = absurd second
headers_then (x ∷ d) (y ∷ e) (z ∷ f) (a, first) (b, second) =
    (record { symbol = b.symbol ∙ a.symbol; mark = b.mark ∙ a.mark; location = b.location ∙ a.location; ports = b.ports ∙ a.ports }, headers_then d e f first second)

headers_set : (d : Design) (k : ℕ) (m : Module) (os : List Op) → slice_get d k ≡ Some m → SameHeaders d (with_body d k m os)
headers_set [] k m os at = cc
headers_set (x ∷ d) zero m os at =
    let same : m ≡ x = cc in
    (subst (λ y. SameHeader y (record m { body = os })) same (record { symbol = refl; mark = refl; location = refl; ports = refl }), headers_self d)
headers_set (x ∷ d) (suc k) m os at = (header_self x, headers_set d k m os at)

same_symbols : (d e : Design) → SameHeaders d e → symbols e ≡ symbols d
same_symbols [] [] same = refl
same_symbols [] (y ∷ e) same = absurd same
same_symbols (x ∷ d) [] same = absurd same
same_symbols (x ∷ d) (y ∷ e) (first, rest) = ap₂ (λ s ss. s ∷ ss) first.symbol (same_symbols d e rest)

found_headers : (d e : Design) → SameHeaders d e → (s : Name) (m n : Module) → find_module d s ≡ Some m → find_module e s ≡ Some n → SameHeader m n
found_headers [] e same s m n was now = cc
found_headers (x ∷ d) [] same s m n was now = cc
found_headers (x ∷ d) (y ∷ e) (first, rest) s m n was now =
    go (same_name x.symbol s) was (subst (λ z. cond (same_name z s) (Some y) (find_module e s) ≡ Some n) first.symbol now) (found_headers d e rest s m n)
  where
    go : (b : Bool) → cond b (Some x) (find_module d s) ≡ Some m → cond b (Some y) (find_module e s) ≡ Some n
        → (find_module d s ≡ Some m → find_module e s ≡ Some n → SameHeader m n) → SameHeader m n
    go true old new later =
        let a : x ≡ m = cc in
        let b : y ≡ n = cc in
        subst (λ z. SameHeader z n) a (subst (SameHeader x) b first)
    go false old new later = later old new

-- ---- steady designs

pub steady_self : (d : Design) → IsFit d → IsSteady d d
steady_self d fit = record {
  fit = fit;
  same = λ s. same_self (machine d s) (valid_settles d fit.valid s);
  headers = headers_self d;
  registers = λ s. refl;
  instances = λ s. refl;
}

pub steady_then : (d e f : Design) → IsSteady d e → IsSteady e f → IsSteady d f
steady_then d e f first second = record {
  fit = second.fit;
  same = λ s. same_then (machine d s) (machine e s) (machine f s) (first.same s) (second.same s);
  headers = headers_then d e f first.headers second.headers;
  registers = λ s. second.registers s ∙ first.registers s;
  instances = λ s. second.instances s ∙ first.instances s;
}

-- a body of the same shape, by which the design follows and is fit
pub steady_with_body : (d : Design) (k : ℕ) (m : Module) (os : List Op) → slice_get d k ≡ Some m → Follows d (with_body d k m os) → IsFit (with_body d k m os)
    → SameShape m.body os → IsSteady d (with_body d k m os)
steady_with_body d k m os at follows fit shape = record {
  fit = fit;
  same = follows.same;
  headers = headers_set d k m os at;
  registers = λ s.
      types_held (suc (length (with_body d k m os))) (with_body d k m os) [] s
      ∙ held_same d (with_body d k m os) each (suc (length (with_body d k m os))) s
      ∙ sym (types_held (suc (length (with_body d k m os))) d [] s)
      ∙ ap (λ n. map (λ (r : Slot). result_type r.op 0) (module_registers (suc n) d [] s)) (length-set d k (record m { body = os }));
  instances = λ s. (each s).called;
}
  where
    each : (s : Name) → SameShape (body_of (find_module d s)) (body_of (find_module (with_body d k m os) s))
    each = set_each (λ o o'. SameShape (body_of o) (body_of o')) (λ o. record { held = λ inner. refl; called = refl }) d k m (record m { body = os }) at refl shape

-- the law of passes that keep all modules
pub steady_is_after : (passes : List Pass) (d e : Design) → has_pass is_flatten passes ≡ false → has_pass is_symbol_dce passes ≡ false → has_pass is_lowering passes ≡ false
    → IsAccepted d → IsSteady d e → ((s : Name) → weight e s ≤ weight d s) → IsAfter passes d e
steady_is_after passes d e flat gone kept accepted steady lighter =
    let again = accepted_again e steady.fit d accepted lighter in
    record {
      accepted = again.0;
      printable = again.1;
      order = subst (AreThose (IsKept passes d) (symbols d)) (sym (same_symbols d e steady.headers))
          (all_those (IsKept passes d) (symbols d) (all_remain (has_pass is_flatten passes) (has_pass is_symbol_dce passes) flat gone d));
      modules = λ s m n was now.
          let header = found_headers d e steady.headers s m n was now in
          record {
            mark = header.mark;
            location = header.location;
            ports = header.ports ∙ stays_unlowered (has_pass is_lowering passes) kept split_ports m.ports;
            registers = steady.registers s ∙ stays_unlowered (has_pass is_lowering passes) kept (flat_map leaf_types) (register_types d s);
            instances = instances_stay (has_pass is_flatten passes) flat s;
            weight = lighter s;
          };
      same = λ s public. steady.same s;
    }
  where
    instances_stay : (a : Bool) → a ≡ false → (s : Name) → InstancesStay a d (calls d s) (calls e s)
    instances_stay true flat s = cc
    instances_stay false flat s = steady.instances s
