-- An edit that keeps the constants to which registers are reset keeps where asynchronous resets come from.
use Rattle.std.proofs.Common.{◌≡◌, ℕ, zero, suc, Bool, true, false, cond, List, [], ◌∷◌, map, take, slice_get, Option, Some, None, is_some, refl, sym, ap, subst, ◌∙◌, inl, inr, option_and_then, option_map}
use Rattle.std.specs.Cmp.Lexicographic.{same_text}
use Rattle.wiring.specs.Wiring.{In}
use Rattle.wiring.proofs.Options.{and_then_some}
use Rattle.wiring.proofs.Members.{from_In-map}
use Rattle.hw_model.specs.Types.{Name}
use Rattle.hw_model.specs.Kinds.{Kind, Instance}
use Rattle.hw_model.specs.Kinds.Kind.{async_firreg}
use Rattle.hw_model.specs.Design.{Ref, Port, Op, Module, Design, same_name, find_module, instance_in, callee}
use Rattle.hw_model.specs.Design.Ref.{result}
use Rattle.hw_model.specs.Flat.{ResetBy, port_ref, has_async_reset, async_parts, async_reset_in, input_count, operand_for}
use Rattle.hw_model.specs.Resets.{IsMarkedInput, IsConstantOf, ResetsFromPorts}
use Rattle.hw_model.specs.Sound.{body_of, ports_of}
use Rattle.hw_model.proofs.Sorts.{Sort, sort_of}
use Rattle.hw_model.proofs.Sorts.Sort.{a_register, an_instance, an_output, a_made}
use Rattle.edit_laws.specs.Edit.{retarget, is_anchor, anchors, Edit, EditedModule}
use Rattle.edit_laws.specs.Resets.{has_mark, marks_by_symbol, KeepsResetValues}

-- ---- anchors among the operations of a body

In-anchors : (o : Op) (os : List Op) → In o (anchors os) → In o os
In-anchors o [] never = never
In-anchors o (y ∷ ys) here = go (is_anchor y) (In-anchors o ys) here
  where
    go : (b : Bool) → (In o (anchors ys) → In o ys) → In o (cond b (y ∷ anchors ys) (anchors ys)) → In o (y ∷ ys)
    go true rest (inl same) = inl same
    go true rest (inr later) = inr (rest later)
    go false rest later = inr (rest later)

anchor_within : (o : Op) (os : List Op) → is_anchor o ≡ true → In o os → In o (anchors os)
anchor_within o [] is never = never
anchor_within o (y ∷ ys) is (inl same) =
    subst (λ b. In o (cond b (y ∷ anchors ys) (anchors ys))) (sym (ap is_anchor (sym same) ∙ is)) (inl same)
anchor_within o (y ∷ ys) is (inr later) = go (is_anchor y) (anchor_within o ys is later)
  where
    go : (b : Bool) → In o (anchors ys) → In o (cond b (y ∷ anchors ys) (anchors ys))
    go true there = inr there
    go false there = there

async_anchor : (o : Op) (r : ResetBy) → async_reset_in o ≡ Some r → is_anchor o ≡ true
async_anchor o r is = go o.kind refl
  where
    go : (k : Kind) → o.kind ≡ k → is_anchor o ≡ true
    go async_firreg here = rw here refl
    go _ here = let never : None ≡ Some r = sym (ap (λ z. cond (has_async_reset z) (async_parts o.operands) None) here) ∙ is in cc

instance_anchor : (o : Op) (i : Instance) → instance_in o.kind ≡ Some i → is_anchor o ≡ true
instance_anchor o i is = go (sort_of o.kind)
  where
    go : Sort o.kind → is_anchor o ≡ true
    go (a_register f r n u) = simp r
    go (an_instance x r n u) = simp (r, n)
    go (an_output r n u) = let never : None ≡ Some i = sym n ∙ is in cc
    go (a_made r n u) = let never : None ≡ Some i = sym n ∙ is in cc

-- ---- what other operands make of a register and of an instance

retarget_reset : (f : Ref → Ref) (o : Op) (r : ResetBy) → async_reset_in (retarget f o) ≡ Some r
    → (was : ResetBy) × (async_reset_in o ≡ Some was) × (r.signal ≡ f was.signal) × (r.value ≡ f was.value)
retarget_reset f o r is = go (has_async_reset o.kind) o.operands is
  where
    go : (b : Bool) (rs : List Ref) → cond b (async_parts (map f rs)) None ≡ Some r
        → (was : ResetBy) × (cond b (async_parts rs) None ≡ Some was) × (r.signal ≡ f was.signal) × (r.value ≡ f was.value)
    go true (d ∷ c ∷ s ∷ v ∷ []) h = (record { signal = s; value = v }, refl, cc, cc)
    go true _ h = cc
    go false rs h = cc

retarget_port : (f : Ref → Ref) (ps : List Port) (rs : List Ref) (j : ℕ) (q : Ref) → port_ref ps rs j ≡ Some q → port_ref ps (map f rs) j ≡ Some (f q)
retarget_port f ps rs j q is = go (slice_get ps j) is
  where
    at : (n : ℕ) (xs : List Ref) → slice_get xs n ≡ Some q → slice_get (map f xs) n ≡ Some (f q)
    at n [] h = cc
    at zero (x ∷ xs) h = let same : x ≡ q = cc in ap (λ z. Some (f z)) same
    at (suc n) (x ∷ xs) h = at n xs h

    by_side : (b : Bool) (n : ℕ) → cond b None (slice_get rs n) ≡ Some q → cond b None (slice_get (map f rs) n) ≡ Some (f q)
    by_side true n h = cc
    by_side false n h = at n rs h

    go : (p : Option Port) → operand_for p rs (input_count (take j ps)) ≡ Some q → operand_for p (map f rs) (input_count (take j ps)) ≡ Some (f q)
    go None h = cc
    go (Some p) h = by_side p.is_output (input_count (take j ps)) h

-- ---- modules

pub find_symbol : (d : Design) (s : Name) (m : Module) → find_module d s ≡ Some m → m.symbol ≡ s
find_symbol [] s m is = cc
find_symbol (x ∷ d) s m is = go (same_name x.symbol s) refl (find_symbol d s m) is
  where
    go : (b : Bool) → same_name x.symbol s ≡ b → (find_module d s ≡ Some m → m.symbol ≡ s) → cond b (Some x) (find_module d s) ≡ Some m → m.symbol ≡ s
    go true same later here = let first : x ≡ m = cc in ap (λ (y : Module). y.symbol) (sym first) ∙ same_text x.symbol s (sym same)
    go false other later there = later there

-- what was found where something is found now
was_found : (o n : Option Module) → is_some n ≡ is_some o → (m : Module) → n ≡ Some m → (was : Module) × (o ≡ Some was)
was_found (Some x) n same m is = (x, refl)
was_found None n same m is = let never : true ≡ false = sym (ap is_some is) ∙ same in cc

-- ---- one module

module _ (d e : Design) (marked : Module → ℕ → Bool) (each : (s : Name) → EditedModule (find_module d s) (find_module e s))
    (keeps : (s : Name) → KeepsResetValues (find_module d s) (find_module e s) (each s)) (resets : ResetsFromPorts d marked) where
  abbrev marks : Module → ℕ → Bool
  marks = marks_by_symbol d marked

  module _ (s : Name) (m : Module) (is : find_module e s ≡ Some m) where
    abbrev was : (x : Module) × (find_module d s ≡ Some x)
    was = was_found (find_module d s) (find_module e s) (each s).is_there m is

    abbrev old : Module
    old = was.0

    ports_same : m.ports ≡ old.ports
    ports_same = sym (ap ports_of is) ∙ (each s).ports_are ∙ ap ports_of was.1

    marks_same : (j : ℕ) → marks m j ≡ marked old j
    marks_same j = ap (λ n. has_mark marked j (find_module d n)) (find_symbol e s m is) ∙ ap (has_mark marked j) was.1

    abbrev stand : Ref → Ref
    stand = (each s).edit.stand

    -- an anchor of the new body was one of the old, with other operands
    came_from : (o : Op) → In o m.body → is_anchor o ≡ true → (x : Op) × In x old.body × (o ≡ retarget stand x)
    came_from o within anchor =
        let all : anchors m.body ≡ map (retarget stand) (anchors old.body) =
        ap (λ z. anchors (body_of z)) (sym is) ∙ (each s).edit.anchors_are ∙ ap (λ z. map (retarget stand) (anchors (body_of z))) was.1 in
        let from = from_In-map (retarget stand) o (anchors old.body) (subst (In o) all (anchor_within o m.body anchor within)) in
        (from.0, In-anchors from.0 old.body from.1, from.2)

    -- a marked input of the old module is one of the new module
    marked_after : (r : Ref) → IsMarkedInput marked old r → IsMarkedInput marks m (stand r)
    marked_after r from = record {
      number = from.number;
      is_port = ap stand from.is_port ∙ (each s).edit.port_is from.number;
      port_of = from.port_of;
      there = ap (λ ps. slice_get ps from.number) ports_same ∙ from.there;
      is_input = from.is_input;
      has_mark = marks_same from.number ∙ from.has_mark;
    }

    marked_before : (r : Ref) → IsMarkedInput marks m r → IsMarkedInput marked old r
    marked_before r from = record {
      number = from.number;
      is_port = from.is_port;
      port_of = from.port_of;
      there = ap (λ ps. slice_get ps from.number) (sym ports_same) ∙ from.there;
      is_input = from.is_input;
      has_mark = sym (marks_same from.number) ∙ from.has_mark;
    }

    signal_after : (o : Op) (r : ResetBy) → In o m.body → async_reset_in o ≡ Some r → IsMarkedInput marks m r.signal
    signal_after o r within async =
        let from = came_from o within (async_anchor o r async) in
        let reset = retarget_reset stand from.0 r (ap async_reset_in (sym from.2) ∙ async) in
        subst (IsMarkedInput marks m) (sym reset.2) (marked_after reset.0.signal (resets.signals s old from.0 reset.0 was.1 from.1 reset.1))

    value_after : (o : Op) (r : ResetBy) → In o m.body → async_reset_in o ≡ Some r → IsConstantOf m.body r.value
    value_after o r within async =
        let from = came_from o within (async_anchor o r async) in
        let reset = retarget_reset stand from.0 r (ap async_reset_in (sym from.2) ∙ async) in
        let old_value : IsConstantOf (body_of (find_module d s)) reset.0.value =
        subst (λ z. IsConstantOf (body_of z) reset.0.value) (sym was.1) (resets.values s old from.0 reset.0 was.1 from.1 reset.1) in
        let new_value : IsConstantOf (body_of (find_module e s)) (stand reset.0.value) =
        keeps s from.0 reset.0 (subst (λ z. In from.0 (body_of z)) (sym was.1) from.1) reset.1 old_value in
        subst (IsConstantOf m.body) (sym reset.3) (subst (λ z. IsConstantOf (body_of z) (stand reset.0.value)) is new_value)

  joined_after : (s : Name) (m : Module) (is : find_module e s ≡ Some m) (o : Op) (c : Module) (r : Ref) → In o m.body → callee e o ≡ Some c
      → (given : IsMarkedInput marks c r) → (q : Ref) × (port_ref c.ports o.operands given.number ≡ Some q) × IsMarkedInput marks m q
  unfolding marked_before
  joined_after s m is o c r within leads given = (
    stand s m is joins.0,
    ap (λ ps. port_ref ps o.operands given.number) (ports_same i.0.symbol c i.2)
        ∙ ap (λ (z : Op). port_ref (old i.0.symbol c i.2).ports z.operands given.number) from.2
        ∙ retarget_port (stand s m is) (old i.0.symbol c i.2).ports from.0.operands given.number joins.0 joins.1,
    marked_after s m is joins.0 joins.2,
  )
    where
      i : (x : Instance) × (instance_in o.kind ≡ Some x) × (find_module e x.symbol ≡ Some c)
      i = and_then_some (instance_in o.kind) (λ (x : Instance). find_module e x.symbol) leads

      from : (x : Op) × In x (old s m is).body × (o ≡ retarget (stand s m is) x)
      from = came_from s m is o within (instance_anchor o i.0 i.1)

      old_leads : callee d from.0 ≡ Some (old i.0.symbol c i.2)
      old_leads =
          ap (λ z. option_and_then (λ (x : Instance). find_module d x.symbol) z) (ap (λ (z : Op). instance_in z.kind) (sym from.2) ∙ i.1)
          ∙ (was i.0.symbol c i.2).1

      joins : (q : Ref) × (port_ref (old i.0.symbol c i.2).ports from.0.operands given.number ≡ Some q) × IsMarkedInput marked (old s m is) q
      joins = resets.joined s (old s m is) from.0 (old i.0.symbol c i.2) r (was s m is).1 from.1 old_leads (marked_before i.0.symbol c i.2 r given)

  -- the edited design has its resets from ports too
  pub resets_after : ResetsFromPorts e (marks_by_symbol d marked)
  resets_after = record {
    signals = λ s m o r is within async. signal_after s m is o r within async;
    values = λ s m o r is within async. value_after s m is o r within async;
    joined = λ s m o c r is within leads given. joined_after s m is o c r within leads given;
  }

-- ---- constants of a body

-- a constant that an edit keeps in its place, or elsewhere, is one still
pub constant_kept : (os os' : List Op) (edit : Edit os os') (j j' k : ℕ) → edit.position j ≡ Some j' → IsConstantOf os (result j k)
    → IsConstantOf os' (edit.stand (result j k))
constant_kept os os' edit j j' k at is = record {
  position = j';
  number = k;
  is_result = (edit.kept j j' at).stands k;
  op = retarget edit.stand is.op;
  there = (edit.kept j j' at).op ∙ ap (option_map (retarget edit.stand)) (ap (slice_get os) same ∙ is.there);
  is_one = is.is_one;
}
  where
    same : j ≡ is.position
    same = let e : result j k ≡ result is.position is.number = is.is_result in cc
