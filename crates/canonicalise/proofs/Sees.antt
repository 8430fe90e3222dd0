-- Where an edit keeps an operation and what its operands were made by, the operation sees no more than before.
use Rattle.std.proofs.Common.{◌≡◌, ℕ, zero, suc, ◌+◌, ◌≤◌, Bool, true, false, cond, not, ◌&&◌, nat_eq, List, Option, Some, None, slice_get, refl, sym, ap, ap₂, ◌∙◌, arith, eq-eqb, ne_eqb, option_and_then, option_map}
use Rattle.std.proofs.lemmas.Bool.{eqb-true, eqb-false}
use Rattle.wiring.specs.Wiring.{In}
use Rattle.hw_model.specs.Equality.{number_from}
use Rattle.hw_model.specs.Kinds.{Kind}
use Rattle.hw_model.specs.Design.{Ref, Op}
use Rattle.hw_model.specs.Design.Ref.{port, result, undefined}
use Rattle.edit_laws.specs.Edit.{retarget}
use Rattle.ir_store.specs.Positions.{same_ref}
use Rattle.fold_laws.specs.Nested.{uses_among, use_count, has_one_use, Nested, nested_result, nested_at}
use Rattle.fold_laws.specs.Parts.{maker}
use Rattle.fold_laws.specs.Unused.{is_used}
use Rattle.fold_laws.proofs.NestedUses.{unused_then}
use Rattle.canonicalise.specs.Kept.{Keeps}
use Rattle.canonicalise.specs.Reach.{SeesNoMore}
use Rattle.canonicalise.proofs.Counts.{used_among, used_by_one, unused_count}

module _ (gone : ℕ → Type 0) (name : Ref → Ref) (renumbered : ℕ → ℕ) (lost gained : ℕ → ℕ) (os os' : List Op) (k : Keeps gone name renumbered lost gained os os') where
  -- positions are equal where their positions are
  position_equal : (i j : ℕ) → (gone i → ⊥) → (gone j → ⊥) → nat_eq (renumbered i) (renumbered j) ≡ nat_eq i j
  position_equal i j one two = go (nat_eq i j) refl
    where
      go : (b : Bool) → nat_eq i j ≡ b → nat_eq (renumbered i) (renumbered j) ≡ b
      go true is = eq-eqb (renumbered i) (renumbered j) (ap renumbered (eqb-true i j is))
      go false is = ne_eqb (renumbered i) (renumbered j) (λ same. eqb-false i j is (k.apart i j one two same))

  -- no value is a result of what is gone
  abbrev Stay : List Ref → Type 0
  Stay rs = (j n : ℕ) → In (result j n) rs → gone j → ⊥

  same_named : (rs : List Ref) → Stay rs → (x y : Ref) → In x rs → In y rs → same_ref (name x) (name y) ≡ same_ref x y
  same_named rs stay (port m) (port n) one two = ap₂ same_ref (k.ports m) (k.ports n)
  same_named rs stay (port m) undefined one two = ap₂ same_ref (k.ports m) k.nothing
  same_named rs stay (port m) (result j n) one two = ap₂ same_ref (k.ports m) (k.results j n (stay j n two))
  same_named rs stay undefined (port n) one two = ap₂ same_ref k.nothing (k.ports n)
  same_named rs stay undefined undefined one two = ap₂ same_ref k.nothing k.nothing
  same_named rs stay undefined (result j n) one two = ap₂ same_ref k.nothing (k.results j n (stay j n two))
  same_named rs stay (result i m) (port n) one two = ap₂ same_ref (k.results i m (stay i m one)) (k.ports n)
  same_named rs stay (result i m) undefined one two = ap₂ same_ref (k.results i m (stay i m one)) k.nothing
  same_named rs stay (result i m) (result j n) one two =
      ap₂ same_ref (k.results i m (stay i m one)) (k.results j n (stay j n two)) ∙ ap (λ b. b && nat_eq m n) (position_equal i j (stay i m one) (stay j n two))

  made_named : (rs : List Ref) → Stay rs → (x : Ref) → In x rs → maker os' (name x) ≡ option_map (retarget name) (maker os x)
  made_named rs stay (port m) here = ap (maker os') (k.ports m)
  made_named rs stay undefined here = ap (maker os') k.nothing
  made_named rs stay (result j zero) here = ap (maker os') (k.results j 0 (stay j 0 here)) ∙ k.ops j (stay j 0 here)
  made_named rs stay (result j (suc n)) here = ap (maker os') (k.results j (suc n) (stay j (suc n) here))

  module _ (p : ℕ) (op : Op) (there : slice_get os p ≡ Some op) (here : gone p → ⊥) (stay : Stay op.operands)
      (unused : use_count (renumbered p) os' ≡ 0 → lost p ≤ gained p)
      (single : (j : ℕ) → In (result j 0) op.operands → use_count (renumbered j) os' ≡ 1 → lost j ≤ gained j) where
    -- what has one use had one
    one_use : (j : ℕ) → In (result j 0) op.operands → has_one_use os' (renumbered j) ≡ true → has_one_use os j ≡ true
    one_use j used is =
        let now : use_count (renumbered j) os' ≡ 1 = number_from (use_count (renumbered j) os') 1 is in
        let some : 1 ≤ uses_among j op.operands = used_among j 0 op.operands used in
        let own : uses_among j op.operands ≤ use_count j os = used_by_one j os p op there in
        let few : use_count j os + gained j ≤ use_count (renumbered j) os' + lost j = k.uses j (stay j 0 used) in
        eq-eqb (use_count j os) 1 (omega (arith, now, some, own, few, single j used now))

    inner_result : (test : Kind → Bool) (j : ℕ) (c : Op) → In (result j 0) op.operands → nested_result test os p j c ≡ None
        → nested_result test os' (renumbered p) (renumbered j) (retarget name c) ≡ None
    inner_result test j c used none =
        ap (λ b. cond {A = Option Nested} (test c.kind && (not b && has_one_use os' (renumbered j))) (Some (record { number = 0; position = renumbered j; inner = retarget name c })) None)
        (position_equal j p (stay j 0 used) here)
        ∙ go (test c.kind) (nat_eq j p) (has_one_use os' (renumbered j)) refl (has_one_use os j) refl none
      where
        go : (t e h' : Bool) → has_one_use os' (renumbered j) ≡ h' → (h : Bool) → has_one_use os j ≡ h
            → cond {A = Option Nested} (t && (not e && h)) (Some (record { number = 0; position = j; inner = c })) None ≡ None
            → cond {A = Option Nested} (t && (not e && h')) (Some (record { number = 0; position = renumbered j; inner = retarget name c })) None ≡ None
        go false e h' is' h is n = refl
        go true true h' is' h is n = refl
        go true false false is' h is n = refl
        go true false true is' true is n = cc
        go true false true is' false is n = let clash : true ≡ false = sym (one_use j used is') ∙ is in cc

    inner_named : (test : Kind → Bool) (x : Ref) → In x op.operands → nested_at test os p x ≡ None → nested_at test os' (renumbered p) (name x) ≡ None
    inner_named test (port m) used none = ap (nested_at test os' (renumbered p)) (k.ports m)
    inner_named test undefined used none = ap (nested_at test os' (renumbered p)) k.nothing
    inner_named test (result j (suc n)) used none = ap (nested_at test os' (renumbered p)) (k.results j (suc n) (stay j (suc n) used))
    inner_named test (result j zero) used none =
        ap (nested_at test os' (renumbered p)) (k.results j 0 (stay j 0 used))
        ∙ ap (λ z. option_and_then (nested_result test os' (renumbered p) (renumbered j)) z) (k.ops j (stay j 0 used))
        ∙ go (slice_get os j) none
      where
        go : (c : Option Op) → option_and_then (nested_result test os p j) c ≡ None → option_and_then (nested_result test os' (renumbered p) (renumbered j)) (option_map (retarget name) c) ≡ None
        go None h = refl
        go (Some c) h = inner_result test j c used h

    unused_before : is_used (renumbered p) os' ≡ false → is_used p os ≡ false
    unused_before none =
        let now : use_count (renumbered p) os' ≡ 0 = unused_count (renumbered p) os' none in
        let few : use_count p os + gained p ≤ use_count (renumbered p) os' + lost p = k.uses p here in
        unused_then p os (omega (arith, now, few, unused now))

    -- the operation sees no more
    pub sees_no_more : SeesNoMore os p os' (renumbered p)
    sees_no_more = record {
      name = name;
      op = op;
      there = there;
      still = k.ops p here ∙ ap (option_map (retarget name)) there;
      alike = record { apart = same_named op.operands stay; made = made_named op.operands stay };
      inner = inner_named;
      used = unused_before;
    }
