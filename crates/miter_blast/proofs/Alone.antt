-- A module alone in its design has no instances: one would be of the module itself.
use Rattle.std.proofs.Common.{◌≡◌, zero, Bool, true, false, List, [], ◌∷◌, ◌++◌, Option, Some, None, refl, sym, ap, subst, ◌∙◌, inl, inr}
use Rattle.std.specs.Prelude.{is_some, cond}
use Rattle.wiring.specs.Wiring.{In}
use Rattle.wiring.proofs.Members.{In-append_right, position_of_In}
use Rattle.hw_model.specs.Types.{Name}
use Rattle.hw_model.specs.Kinds.{Instance}
use Rattle.hw_model.specs.Design.{Op, Module, find_module, instance_in, same_name}
use Rattle.hw_model.specs.Flat.{instances}
use Rattle.hw_model.specs.Hierarchy.{called_by, callee_symbols, calls}
use Rattle.hw_model.specs.Sound.{body_of}
use Rattle.hw_model.specs.Equality.{name_self, name_from}
use Rattle.edit_laws.specs.Follows.{Valid}

-- a body in which no operation is an instance has none
no_instances : (os : List Op) → ((o : Op) → In o os → instance_in o.kind ≡ None) → instances os ≡ []
no_instances [] none = refl
no_instances (o ∷ os) none =
    ap (λ x. cond (is_some x) (o ∷ instances os) (instances os)) (none o (inl refl)) ∙ no_instances os (λ p here. none p (inr here))

-- the module of an instance is among those that its body calls
called_here : (os : List Op) (o : Op) (i : Instance) → In o os → instance_in o.kind ≡ Some i → In i.symbol (callee_symbols os)
called_here [] o i here is = absurd here
called_here (p ∷ os) o i (inl same) is = first (instance_in p.kind) (ap (λ (q : Op). instance_in q.kind) (sym same) ∙ is)
  where
    first : (x : Option Instance) → x ≡ Some i → In i.symbol (called_by x ++ callee_symbols os)
    first x e = subst (λ y. In i.symbol (called_by y ++ callee_symbols os)) (sym e) (inl refl)
called_here (p ∷ os) o i (inr later) is = In-append_right i.symbol (called_by (instance_in p.kind)) (callee_symbols os) (called_here os o i later is)

pub found_alone : (m : Module) → find_module (m ∷ []) m.symbol ≡ Some m
found_alone m = ap (λ b. cond b (Some m) None) (name_self m.symbol)

module _ (m : Module) (valid : Valid (m ∷ [])) where
  -- what is found is the module itself
  only_itself : (s : Name) (c : Module) → find_module (m ∷ []) s ≡ Some c → s ≡ m.symbol
  only_itself s c is = go (same_name m.symbol s) refl is
    where
      go : (b : Bool) → same_name m.symbol s ≡ b → cond b (Some m) None ≡ Some c → s ≡ m.symbol
      go true same found = sym (name_from m.symbol s same)
      go false other found = cc

  pub alone_is_flat : instances m.body ≡ []
  alone_is_flat = no_instances m.body (λ o here. go (instance_in o.kind) o here refl)
    where
      go : (x : Option Instance) (o : Op) → In o m.body → instance_in o.kind ≡ x → x ≡ None
      go None o here is = refl
      go (Some i) o here is =
          let position = position_of_In o m.body here in
          let there = (valid.sound m.symbol m (found_alone m)).instances position.0 o position.1 i is in
          let itself : i.symbol ≡ m.symbol = only_itself i.symbol there.0 there.1 in
          let called : In i.symbol (calls (m ∷ []) m.symbol) = subst (λ x. In i.symbol (callee_symbols (body_of x))) (sym (found_alone m)) (called_here m.body o i here is) in
          absurd (valid.finite m.symbol (zero, (i.symbol, called, itself)))
