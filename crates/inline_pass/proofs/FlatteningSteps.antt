-- Designs that come of one another by inlining instances of private modules: from themselves, one after another, by one
-- instance, and by all of a body.
use Rattle.std.proofs.Common.{◌≡◌, ℕ, zero, suc, ◌+◌, ◌≤◌, Bool, true, false, cond, List, [], ◌∷◌, ◌++◌, take, drop, Option, Some, None, slice_get, refl, sym, ap, subst, ◌∙◌, ◌⊎◌, inl, inr, arith, option_and_then}
use Rattle.std.proofs.lemmas.Option.{slice_get_within}
use Rattle.wiring.specs.Wiring.{In}
use Rattle.wiring.proofs.Lists.{slice_get-set_same, set_some}
use Rattle.hw_model.specs.Types.{Name}
use Rattle.hw_model.specs.Design.{Op, Module, Design, find_module, instance_in, callee}
use Rattle.hw_model.specs.Hierarchy.{callee_symbols, called_by, calls}
use Rattle.hw_model.specs.Machine.{Same}
use Rattle.hw_model.specs.Meaning.{machine}
use Rattle.hw_model.specs.Sound.{body_of}
use Rattle.hw_model.specs.Weight.{weight}
use Rattle.hw_model.proofs.Machines.{same_self, same_then}
use Rattle.edit_laws.specs.Laws.{with_body}
use Rattle.edit_laws.proofs.Follows.{valid_settles, set_each}
use Rattle.acceptance_laws.specs.Keeps.{IsFit}
use Rattle.pass_laws.specs.PassLaw.{register_types, InstancesStay}
use Rattle.pass_laws.specs.Remaining.{IsPublic, AreThose, AreWithin}
use Rattle.pass_laws.proofs.Those.{those_meet, within_then, within_those}
use Rattle.inline_laws.specs.Inline.{IsInlined, moved_count}
use Rattle.inline_laws.proofs.Instances.{called_before, called_after}
use Rattle.inline_laws.proofs.Weights.{inlining_is_lighter}
use Rattle.inline_laws.proofs.WithoutWires.{FollowsAlike, inlined_alike, set_twice}
use Rattle.inline_pass.specs.Renaming.{renamed}
use Rattle.inline_pass.specs.Flattening.{if_private, private_found, by_symbol, instance_name, inlined_at, inline_from}
use Rattle.inline_pass.proofs.Renaming.{renamed_only}
use Rattle.inline_pass.proofs.InlinedFit.{fit_inlined, is_inlined}
use Rattle.inline_pass.proofs.FlatteningWork.{named_some, called_whole, step_past, step_over, step_into}

-- ---- instances that stand in order

module _ (d : Design) where
  is_public_or : (s : Name) → IsPublic d s ⊎ (IsPublic d s → ⊥)
  is_public_or s = go (find_module d s) refl
    where
      by_mark : (m : Module) (b : Bool) → find_module d s ≡ Some m → m.is_private ≡ b → IsPublic d s ⊎ (IsPublic d s → ⊥)
      by_mark m false is mark = inl (m, is, mark)
      by_mark m true is mark =
          inr (λ (x, found, public).
          let both : Some x ≡ Some m = sym found ∙ is in
          let same : x ≡ m = cc in
          let clash : false ≡ true = sym public ∙ ap (λ (y : Module). y.is_private) same ∙ mark in cc)

      go : (x : Option Module) → find_module d s ≡ x → IsPublic d s ⊎ (IsPublic d s → ⊥)
      go None none = inr (λ (x, found, public). let clash : Some x ≡ None = sym found ∙ none in cc)
      go (Some m) is = by_mark m m.is_private is refl

  -- those that are instances of public modules stand in order in another list
  abbrev Stay : List Name → List Name → Type 0
  Stay xs ys = (public : List Name) × AreThose (IsPublic d) xs public × AreWithin public ys

  stay_one : (x : Name) (xs ys : List Name) → Stay xs ys → Stay (x ∷ xs) (x ∷ ys)
  stay_one x xs ys (public, those, within) = go (is_public_or x)
    where
      go : IsPublic d x ⊎ (IsPublic d x → ⊥) → Stay (x ∷ xs) (x ∷ ys)
      go (inl is) = (x ∷ public, inl (public, refl, is, those), inl (public, refl, within))
      go (inr not) = (public, inr (not, those), inr within)

  stay_self : (xs : List Name) → Stay xs xs
  stay_self [] = ([], refl, refl)
  stay_self (x ∷ xs) = stay_one x xs xs (stay_self xs)

  stay_more : (zs xs ys : List Name) → Stay xs ys → Stay xs (zs ++ ys)
  stay_more [] xs ys stay = stay
  stay_more (z ∷ zs) xs ys stay = let rest = stay_more zs xs ys stay in (rest.0, rest.1, inr rest.2)

  stay_inlined : (prefix inside back : List Name) (t : Name) → (IsPublic d t → ⊥) → Stay (prefix ++ (t ∷ back)) (prefix ++ (inside ++ back))
  stay_inlined [] inside back t not = let rest = stay_more inside back back (stay_self back) in (rest.0, inr (not, rest.1), rest.2)
  stay_inlined (x ∷ prefix) inside back t not = stay_one x (prefix ++ (t ∷ back)) (prefix ++ (inside ++ back)) (stay_inlined prefix inside back t not)

-- ---- designs

-- e is fit; its modules do what those of d do, with the types of their registers, and are no heavier; public ones stay, and
-- instances of public ones stay in order
pub record Inlines (d e : Design) : Type 0 where
  pub fit : IsFit e
  pub same : (s : Name) → Same (machine d s) (machine e s)
  pub registers : (s : Name) → register_types e s ≡ register_types d s
  pub public : (s : Name) → IsPublic d s → IsPublic e s
  pub instances : (s : Name) → InstancesStay true d (calls d s) (calls e s)
  pub lighter : (s : Name) → weight e s ≤ weight d s

pub inlines_self : (d : Design) → IsFit d → Inlines d d
inlines_self d fit = record {
  fit = fit;
  same = λ s. same_self (machine d s) (valid_settles d fit.valid s);
  registers = λ s. refl;
  public = λ s is. is;
  instances = λ s. stay_self d (calls d s);
  lighter = λ s. omega arith;
}

pub inlines_then : (d e f : Design) → Inlines d e → Inlines e f → Inlines d f
inlines_then d e f first second = record {
  fit = second.fit;
  same = λ s. same_then (machine d s) (machine e s) (machine f s) (first.same s) (second.same s);
  registers = λ s. second.registers s ∙ first.registers s;
  public = λ s is. second.public s (first.public s is);
  instances = λ s. both s (first.instances s) (second.instances s);
  lighter = λ s. let one : weight e s ≤ weight d s = first.lighter s in let other : weight f s ≤ weight e s = second.lighter s in omega arith;
}
  where
    both : (s : Name) → InstancesStay true d (calls d s) (calls e s) → InstancesStay true e (calls e s) (calls f s) → InstancesStay true d (calls d s) (calls f s)
    both s (public, those, within) (more, these, inside) = (
      public,
      those,
      within_then public more (calls f s)
          (within_those (IsPublic e) public (calls e s) more (λ x here. first.public x (those_meet (IsPublic d) x (calls d s) public those here)) within these) inside,
    )

-- ---- one instance

private_is : (x : Option Module) (c : Module) → option_and_then if_private x ≡ Some c → (x ≡ Some c) × (c.is_private ≡ true)
private_is None c is = cc
private_is (Some m) c is = go m.is_private refl is
  where
    go : (b : Bool) → m.is_private ≡ b → cond b (Some m) None ≡ Some c → (Some m ≡ Some c) × (c.is_private ≡ true)
    go true mark e = let same : m ≡ c = cc in (e, ap (λ (y : Module). y.is_private) (sym same) ∙ mark)
    go false mark e = cc

module _ (d : Design) (k : ℕ) (m : Module) (i : ℕ) (o : Op) (c : Module) (fit : IsFit d) (at : slice_get d k ≡ Some m) (is : IsInlined d m i o c) (private : c.is_private ≡ true) where
  abbrev now : List Op
  now = inlined_at i o c m.body

  not_public : IsPublic d is.target.symbol → ⊥
  not_public (x, found, public) =
      let both : Some x ≡ Some c = sym found ∙ is.is_found in
      let same : x ≡ c = cc in
      let clash : false ≡ true = sym public ∙ ap (λ (y : Module). y.is_private) same ∙ private in cc

  pub inlines_one : Inlines d (with_body d k m now)
  inlines_one = record {
    fit = fit_inlined d k m i o c fit at is;
    same = alike.follows.same;
    registers = alike.types;
    public = λ s (x, found, mark).
        set_each (λ old new. (y : Module) → old ≡ Some y → y.is_private ≡ false → (z : Module) × (new ≡ Some z) × (z.is_private ≡ false)) (λ old y is mark. (y, is, mark))
        d k m (record m { body = now }) at refl changed s x found mark;
    instances = λ s.
        set_each (λ old new. Stay d (callee_symbols (body_of old)) (callee_symbols (body_of new))) (λ old. stay_self d (callee_symbols (body_of old)))
        d k m (record m { body = now }) at refl stay s;
    lighter = inlining_is_lighter d m i o c (renamed (instance_name o)) (renamed_only (instance_name o)) is k at fit.valid.finite;
  }
    where
      alike : FollowsAlike d (with_body d k m now)
      alike = inlined_alike d m i o c (renamed (instance_name o)) is k at (renamed_only (instance_name o)) fit.valid

      changed : (y : Module) → Some m ≡ Some y → y.is_private ≡ false → (z : Module) × (Some (record m { body = now }) ≡ Some z) × (z.is_private ≡ false)
      changed y same mark = let e : m ≡ y = cc in (record m { body = now }, refl, ap (λ (x : Module). x.is_private) e ∙ mark)

      stay : Stay d (callee_symbols m.body) (callee_symbols now)
      stay =
          subst (λ xs. Stay d xs (callee_symbols now)) (sym (called_before d m i o c is))
          (subst (Stay d (callee_symbols (take i m.body) ++ (is.target.symbol ∷ callee_symbols (drop (suc i) m.body))))
          (sym (called_after d m i o c (renamed (instance_name o)) (renamed_only (instance_name o)) is))
          (stay_inlined d (callee_symbols (take i m.body)) (callee_symbols c.body) (callee_symbols (drop (suc i) m.body)) is.target.symbol not_public))

-- ---- all of a body

module _ (d : Design) (k : ℕ) (m : Module) (at : slice_get d k ≡ Some m) where
  at_now : (os : List Op) → slice_get (with_body d k m os) k ≡ Some (record m { body = os })
  at_now os = slice_get-set_same d k (record m { body = os }) (slice_get_within d k m at)

  -- a module that the body instances is found as it was
  still_found : (os : List Op) → IsFit (with_body d k m os) → (s : Name) → In s (callee_symbols os) → (c : Module) → find_module d s ≡ Some c → find_module (with_body d k m os) s ≡ Some c
  still_found os fit s here c found =
      set_each (λ old new. old ≡ Some c → (new ≡ Some (record m { body = os }) → ⊥) → new ≡ Some c) (λ old is not. is) d k m (record m { body = os }) at refl
      (λ is not. absurd (not refl)) s found (λ itself. fit.valid.finite s (0, (s, subst (λ x. In s (callee_symbols (body_of x))) (sym itself) here, refl)))

  inlines_from : (n i : ℕ) (os : List Op) → Inlines d (with_body d k m os) → Inlines d (with_body d k m (inline_from (by_symbol (private_found d)) n i os))
  inlines_from zero i os so_far = so_far
  inlines_from (suc n) i os so_far = go (slice_get os i) refl (inlines_from n)
    where
      inner : Op → Option Module
      inner = by_symbol (private_found d)

      go : (x : Option Op) → slice_get os i ≡ x
          → ((j : ℕ) (xs : List Op) → Inlines d (with_body d k m xs) → Inlines d (with_body d k m (inline_from inner n j xs)))
          → Inlines d (with_body d k m (inline_from inner (suc n) i os))
      go None past again =
          subst (λ xs. Inlines d (with_body d k m xs)) (sym (step_past inner (λ j xs. inline_from inner n j xs) i os past)) so_far
      go (Some o) there again = by_module (inner o) refl
        where
          by_module : (x : Option Module) → inner o ≡ x → Inlines d (with_body d k m (inline_from inner (suc n) i os))
          by_module None none =
              subst (λ xs. Inlines d (with_body d k m xs)) (sym (step_over inner (λ j xs. inline_from inner n j xs) i os o there none)) (again (suc i) os so_far)
          by_module (Some c) some =
              subst (λ xs. Inlines d (with_body d k m xs)) (sym (step_into inner (λ j xs. inline_from inner n j xs) i os o c there some))
              (again (i + moved_count c) (inlined_at i o c os) next)
            where
              e : Design
              e = with_body d k m os

              named : (s : Name) × In s (called_by (instance_in o.kind)) × (private_found d s ≡ Some c)
              named = named_some (private_found d) o c some

              found : (find_module d named.0 ≡ Some c) × (c.is_private ≡ true)
              found = private_is (find_module d named.0) c named.2

              leads : callee e o ≡ Some c
              leads = named_leads (instance_in o.kind) named.0 named.1 (still_found os so_far.fit named.0 (called_whole os i o there named.0 named.1) c found.0)
                where
                  named_leads : (x : Option _) (s : Name) → In s (called_by x) → find_module e s ≡ Some c → option_and_then (λ i. find_module e i.symbol) x ≡ Some c
                  named_leads None s here is = absurd here
                  named_leads (Some y) s (inl same) is = ap (find_module e) (sym same) ∙ is
                  named_leads (Some y) s (inr never) is = absurd never

              once : Inlines e (with_body e k (record m { body = os }) (inlined_at i o c os))
              once =
                  inlines_one e k (record m { body = os }) i o c so_far.fit (at_now os) (is_inlined e k (record m { body = os }) i o c so_far.fit (at_now os) there leads) found.1

              next : Inlines d (with_body d k m (inlined_at i o c os))
              next =
                  subst (Inlines d) (set_twice d k (record m { body = os }) (record m { body = inlined_at i o c os }))
                  (inlines_then d e (with_body e k (record m { body = os }) (inlined_at i o c os)) so_far once)

  -- all instances of private modules in the body of a module
  pub inlines_body : IsFit d → (n i : ℕ) → Inlines d (with_body d k m (inline_from (by_symbol (private_found d)) n i m.body))
  inlines_body fit n i = inlines_from n i m.body (subst (Inlines d) (sym (set_some d k m at)) (inlines_self d fit))
