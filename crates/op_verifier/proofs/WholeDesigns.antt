-- From positions in code to operations and modules of a design.
use Rattle.std.proofs.Common.{◌≡◌, ℕ, ◌<◌, inl, inr, List, [], map, length, slice_get, Option, Some, None, option_map, is_some, Contains, refl, sym, ap, ◌∙◌, subst, arith}
use Rattle.std.proofs.lemmas.Option.{slice_get-map, slice_get_within, get_or_from_slice_get}
use Rattle.diag.specs.declared.cause.Cause.{Cause}
use Rattle.diag.specs.declared.refusal.Refusal.{Refusal}
use Rattle.hw_model.specs.Design.{Op, Module, Design, instance_in}
use Rattle.hw_model.specs.Design.Ref.{result}
use Rattle.hw_model.specs.Flat.{net}
use Rattle.hw_model.specs.Meaning.{Depends}
use Rattle.ir_store.specs.BodyOps.{BodyOp, op_at, ids_in}
use Rattle.ir_store.specs.Numbered.{position_of, op_by}
use Rattle.ir_store.specs.Designs.{StoredModule, module_of, modules_of, numbered_module, design_of}
use Rattle.ir_store.specs.Live.{AreDistinct}
use Rattle.ir_store.specs.declared.design.Design as code_design
use Rattle.ir_store.proofs.BodyLemmas.{ids_once}
use Rattle.design_cycles.specs.declared.op_site.OpSite.{OpSite}
use Rattle.design_cycles.specs.Asked.{Returns, IsRecursiveAt, IsTooLargeAt, IsCyclicAt}
use Rattle.design_cycles.specs.Positions.{ids_of_module, ids_at, IsFirst, Finds, IsFirstNumber, FindsNumber}
use Rattle.diag.specs.declared.cause.Cause.TheVariants.{RecursiveInstance, TooLarge, CombinationalCycle}
use Rattle.op_verifier.specs.Faults.{op_refusal, header_refusal, first_fault}
use Rattle.op_verifier.specs.Verdict.{OpAt, IsEarlier, FirstOp, NoOp, FirstModule, NoModule, IsRecursive, IsTooLarge, IsOnCycle, IsAccepted, IsRefusal}
use Rattle.op_verifier.specs.Verdict.IsRefusal.{recursive, too_large, cyclic}
use Rattle.op_verifier.specs.Answered.{IsRefusedModule, IsRefusedOp}
use Rattle.ir_store.proofs.Walks.{found_by_id}
use Rattle.ir_store.proofs.StoredModules.{stored_at}

pub some_from : {A : Type 0} {a b : A} → Some a ≡ Some b → a ≡ b
some_from {a = a} h = ap (λ (o : Option _). value a o) h
  where
    value : {A : Type 0} → A → Option A → A
    value d None = d
    value d (Some x) = x

-- what a changed list has at a position, the list has too
pub unmapped : {A B : Type 0} (f : A → B) (xs : List A) (i : ℕ) (y : B) → slice_get (map f xs) i ≡ Some y → (x : A) × (slice_get xs i ≡ Some x) × (f x ≡ y)
unmapped f xs i y h = go (slice_get xs i) refl (sym (slice_get-map f xs i) ∙ h)
  where
    go : (o : Option _) → slice_get xs i ≡ o → option_map f o ≡ Some y → (x : _) × (slice_get xs i ≡ Some x) × (f x ≡ y)
    go None e g = cc
    go (Some x) e g = (x, e, some_from g)

-- no id stands twice in a module
abbrev pub AreApart : List StoredModule → Type 0
AreApart modules = (n : ℕ) (m : StoredModule) → slice_get modules n ≡ Some m → AreDistinct (ids_in m.ops)

pub apart : (d : code_design.Design) → AreApart (modules_of d)
apart d n m there =
    let x = unmapped module_of d.modules.items n m there in
    subst (λ (one : StoredModule). AreDistinct (ids_in one.ops)) x.2 (ids_once x.0.body)

-- ---- an operation at a position

-- the operation at a position that is found
record Located (modules : List StoredModule) (site : OpSite) (position : ℕ) : Type 0 where
  stored : StoredModule
  op : BodyOp
  has_module : slice_get modules site.module ≡ Some stored
  has_op : slice_get stored.ops position ≡ Some op
  has_id : op_at stored.ops site.op.index ≡ Some op

located : (modules : List StoredModule) (site : OpSite) (position : ℕ) → AreApart modules → slice_get (ids_at modules site.module) position ≡ Some site.op.index
    → Located modules site position
located modules site position distinct there = go (slice_get modules site.module) refl there
  where
    go : (m : Option StoredModule) → slice_get modules site.module ≡ m → slice_get (ids_of_module m) position ≡ Some site.op.index → Located modules site position
    go None e h = cc
    go (Some m) e h =
        let x = unmapped (λ (o : BodyOp). o.id) m.ops position site.op.index h in
        record {
          stored = m;
          op = x.0;
          has_module = e;
          has_op = x.1;
          has_id = ap (op_at m.ops) (sym x.2) ∙ found_by_id m.ops (distinct site.module m e) position x.0 x.1;
        }

-- the module is within the design, and the id is one of its body
pub site_within : (modules : List StoredModule) (P : ℕ → ℕ → Type 0) (site : OpSite) → IsFirst modules P site → site.module < length modules
site_within modules P site h = go (slice_get modules site.module) refl h.found.has_id
  where
    go : (m : Option StoredModule) → slice_get modules site.module ≡ m → slice_get (ids_of_module m) h.found.position ≡ Some site.op.index → site.module < length modules
    go None e there = cc
    go (Some m) e there = slice_get_within modules site.module m e

pub site_live : (modules : List StoredModule) (P : ℕ → ℕ → Type 0) (site : OpSite) → IsFirst modules P site → Contains (ids_at modules site.module) site.op.index
site_live modules P site h =
    let ids = ids_at modules site.module in
    let j = h.found.position in
    (j, slice_get_within ids j site.op.index h.found.has_id, get_or_from_slice_get ids j site.op.index site.op.index h.found.has_id)

-- ---- from one form of what is asked to the other

-- the one form gives the other at each operation
pub record Forms (d : Design) (P : ℕ → ℕ → Type 0) (Q : Module → ℕ → Op → Type 0) : Type 0 where
  pub to : (n j : ℕ) (m : Module) (o : Op) → OpAt d n j m o → Q m j o → P n j
  pub from : (n j : ℕ) (m : Module) (o : Op) → OpAt d n j m o → P n j → Q m j o

pub recursive_forms : (d : Design) → Forms d (IsRecursiveAt d) (IsRecursive d)
recursive_forms d = record {
  to = λ n j m o at q. record { module_there = m; op_there = o; instance_there = q.0; has_module = at.module_there; has_op = at.op_there; is_instance = q.1; returns = q.2 };
  from = from;
}
  where
    from : (n j : ℕ) (m : Module) (o : Op) → OpAt d n j m o → IsRecursiveAt d n j → IsRecursive d m j o
    from n j m o at h =
        let e : h.module_there ≡ m = some_from (sym h.has_module ∙ at.module_there) in
        let f : h.op_there ≡ o = some_from (sym h.has_op ∙ ap (λ (x : Module). slice_get x.body j) e ∙ at.op_there) in
        (h.instance_there, ap (λ (x : Op). instance_in x.kind) (sym f) ∙ h.is_instance, subst (λ (x : Module). Returns d h.instance_there.symbol x.symbol) e h.returns)

pub cyclic_forms : (d : Design) → Forms d (IsCyclicAt d) (IsOnCycle d)
cyclic_forms d = record {
  to = λ n j m o at q. record { module_there = m; number = q.0; has_module = at.module_there; depends = q.1 };
  from = from;
}
  where
    from : (n j : ℕ) (m : Module) (o : Op) → OpAt d n j m o → IsCyclicAt d n j → IsOnCycle d m j o
    from n j m o at h =
        let e : h.module_there ≡ m = some_from (sym h.has_module ∙ at.module_there) in
        (h.number, subst (λ (x : Module). Depends d x.symbol (net [] (result j h.number)) (net [] (result j h.number))) e h.depends)

-- an operation that is found is the first, and its refusal is that of its position
pub record Found (modules : List StoredModule) (Q : Module → ℕ → Op → Type 0) (site : OpSite) : Type 0 where
  pub position : ℕ
  pub module_found : Module
  pub op_found : Op
  pub first : FirstOp (map numbered_module modules) Q site.module position module_found op_found
  pub refusal : (cause : Cause) (r : Refusal) → IsRefusedOp modules site cause r → r ≡ op_refusal op_found cause

pub found_first : (modules : List StoredModule) (P : ℕ → ℕ → Type 0) (Q : Module → ℕ → Op → Type 0) (site : OpSite) → AreApart modules
    → Forms (map numbered_module modules) P Q → IsFirst modules P site → Found modules Q site
found_first modules P Q site distinct forms h =
    let x = located modules site h.found.position distinct h.found.has_id in
    let m = numbered_module x.stored in
    let o = op_by (position_of (ids_in x.stored.ops)) x.op in
    let at : OpAt (map numbered_module modules) site.module h.found.position m o = record {
      module_there = stored_at modules site.module x.stored (sym x.has_module);
      op_there = slice_get-map (op_by (position_of (ids_in x.stored.ops))) x.stored.ops h.found.position ∙ ap (option_map (op_by (position_of (ids_in x.stored.ops)))) x.has_op;
    } in
    record {
      position = h.found.position;
      module_found = m;
      op_found = o;
      first = record {
        there = at;
        meets = forms.from site.module h.found.position m o at h.found.holds;
        first = λ n' j' m' o' earlier there q. none_earlier n' j' earlier (forms.to n' j' m' o' there q);
      };
      refusal = λ cause r is. is x.stored x.op x.has_module x.has_id;
    }
  where
    none_earlier : (n' j' : ℕ) → IsEarlier n' j' site.module h.found.position → P n' j' → ⊥
    none_earlier n' j' (inl less) p = let least = h.earlier n' j' p in omega (arith, less, least)
    none_earlier n' j' (inr same) p = let least = h.found.first j' (subst (λ (n : ℕ). P n j') same.0 p) in let less = same.1 in omega (arith, less, least)

pub found_none : (modules : List StoredModule) (P : ℕ → ℕ → Type 0) (Q : Module → ℕ → Op → Type 0) → Forms (map numbered_module modules) P Q
    → Finds modules P None → NoOp (map numbered_module modules) Q
found_none modules P Q forms h n j m o at q = h n j (forms.to n j m o at q)

-- ---- modules by number

pub record FoundModule (modules : List StoredModule) (n : ℕ) : Type 0 where
  pub module_found : Module
  pub first : FirstModule (map numbered_module modules) (IsTooLarge (map numbered_module modules)) n module_found
  pub refusal : (cause : Cause) (r : Refusal) → IsRefusedModule modules n cause r → r ≡ header_refusal module_found cause

pub module_within : (modules : List StoredModule) (n : ℕ) → IsFirstNumber (IsTooLargeAt (map numbered_module modules)) n → n < length modules
module_within modules n h =
    let x = unmapped numbered_module modules n h.holds.module_there h.holds.has_module in
    slice_get_within modules n x.0 x.1

pub found_module : (modules : List StoredModule) (n : ℕ) → IsFirstNumber (IsTooLargeAt (map numbered_module modules)) n → FoundModule modules n
found_module modules n h =
    let x = unmapped numbered_module modules n h.holds.module_there h.holds.has_module in
    record {
      module_found = h.holds.module_there;
      first = record {
        there = h.holds.has_module;
        meets = h.holds.is_large;
        first = λ n' m' less there large. let least = h.first n' (record { module_there = m'; has_module = there; is_large = large }) in omega (arith, less, least);
      };
      refusal = λ cause r is. is x.0 x.1 ∙ ap (λ (m : Module). header_refusal m cause) x.2;
    }

pub found_no_module : (modules : List StoredModule) → FindsNumber (IsTooLargeAt (map numbered_module modules)) None
    → NoModule (map numbered_module modules) (IsTooLarge (map numbered_module modules))
found_no_module modules h n m there large = h n (record { module_there = m; has_module = there; is_large = large })

-- ---- the refusals of a design as a whole, and none

pub recursive_refusal : (d : code_design.Design) (site : OpSite) (r : Refusal) → first_fault (design_of d) ≡ None
    → Finds (modules_of d) (IsRecursiveAt (design_of d)) (Some site) → IsRefusedOp (modules_of d) site RecursiveInstance r → IsRefusal (design_of d) r
recursive_refusal d site r none found is =
    let f = found_first (modules_of d) (IsRecursiveAt (design_of d)) (IsRecursive (design_of d)) site (apart d) (recursive_forms (design_of d)) found in
    subst (IsRefusal (design_of d)) (sym (f.refusal RecursiveInstance r is)) (recursive site.module f.position f.module_found f.op_found none f.first)

pub large_refusal : (d : code_design.Design) (n : ℕ) (r : Refusal) → first_fault (design_of d) ≡ None → Finds (modules_of d) (IsRecursiveAt (design_of d)) None
    → FindsNumber (IsTooLargeAt (design_of d)) (Some n) → IsRefusedModule (modules_of d) n TooLarge r → IsRefusal (design_of d) r
large_refusal d n r none no_recursion found is =
    let f = found_module (modules_of d) n found in
    subst (IsRefusal (design_of d)) (sym (f.refusal TooLarge r is))
    (too_large n f.module_found none (found_none (modules_of d) (IsRecursiveAt (design_of d)) (IsRecursive (design_of d)) (recursive_forms (design_of d)) no_recursion) f.first)

pub cyclic_refusal : (d : code_design.Design) (site : OpSite) (r : Refusal) → first_fault (design_of d) ≡ None → Finds (modules_of d) (IsRecursiveAt (design_of d)) None
    → FindsNumber (IsTooLargeAt (design_of d)) None → Finds (modules_of d) (IsCyclicAt (design_of d)) (Some site) → IsRefusedOp (modules_of d) site CombinationalCycle r
    → IsRefusal (design_of d) r
cyclic_refusal d site r none no_recursion light found is =
    let f = found_first (modules_of d) (IsCyclicAt (design_of d)) (IsOnCycle (design_of d)) site (apart d) (cyclic_forms (design_of d)) found in
    subst (IsRefusal (design_of d)) (sym (f.refusal CombinationalCycle r is))
    (cyclic site.module f.position f.module_found f.op_found none
    (found_none (modules_of d) (IsRecursiveAt (design_of d)) (IsRecursive (design_of d)) (recursive_forms (design_of d)) no_recursion)
    (found_no_module (modules_of d) light) f.first)

pub nothing_refused : (d : code_design.Design) → first_fault (design_of d) ≡ None → Finds (modules_of d) (IsRecursiveAt (design_of d)) None
    → FindsNumber (IsTooLargeAt (design_of d)) None → Finds (modules_of d) (IsCyclicAt (design_of d)) None → IsAccepted (design_of d)
nothing_refused d none no_recursion light no_cycle = record {
  unrefused = ap is_some none;
  no_recursion = found_none (modules_of d) (IsRecursiveAt (design_of d)) (IsRecursive (design_of d)) (recursive_forms (design_of d)) no_recursion;
  light = found_no_module (modules_of d) light;
  no_cycle = found_none (modules_of d) (IsCyclicAt (design_of d)) (IsOnCycle (design_of d)) (cyclic_forms (design_of d)) no_cycle;
}
