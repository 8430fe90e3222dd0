-- The names of a module's things: each thing has one, and no two have the same.
use Rattle.std.proofs.Common.{◌≡◌, ◌⊎◌, Bool, true, false, ◌&&◌, ◌||◌, not, cond, nat_eq, List, [], ◌∷◌, length, Some, refl, sym, ◌∙◌, ap, ap₂, inl, inr, eq-eqb, eqb-true, IsTrue, arith}
use Rattle.wiring.specs.Wiring.{In}
use Rattle.hw_model.specs.Types.{Name}
use Rattle.hw_model.specs.Design.{same_name, Module}
use Rattle.hw_model.specs.Equality.{both_of, name_self}
use Rattle.verilog_model.specs.Checks.{contains_name, are_distinct, is_identifier, all_identifiers, names_check}
use Rattle.verilog_model.proofs.Numerals.{and_first, and_second}
use Rattle.export_verilog.specs.Identifiers.{Identifier, same_identifier, module_identifiers, names, name_among, identifier_name, identifier_text, name_or_nothing}
use Rattle.export_verilog.specs.Identifiers.Identifier.{port_identifier, value_identifier, instance_identifier}

-- ---- keys are told apart

pub identifier_self : (k : Identifier) → same_identifier k k ≡ true
identifier_self (port_identifier i) = eq-eqb i i refl
identifier_self (value_identifier i k) = ap₂ (λ a b. a && b) (eq-eqb i i refl) (eq-eqb k k refl)
identifier_self (instance_identifier i) = eq-eqb i i refl

pub identifier_from : (k l : Identifier) → same_identifier k l ≡ true → k ≡ l
identifier_from (port_identifier i) (port_identifier j) h = ap port_identifier (eqb-true i j h)
identifier_from (port_identifier i) (value_identifier j l) h = cc
identifier_from (port_identifier i) (instance_identifier j) h = cc
identifier_from (value_identifier i k) (port_identifier j) h = cc
identifier_from (value_identifier i k) (value_identifier j l) h = let p = both_of (nat_eq i j) (nat_eq k l) h in ap₂ value_identifier (eqb-true i j p.0) (eqb-true k l p.1)
identifier_from (value_identifier i k) (instance_identifier j) h = cc
identifier_from (instance_identifier i) (port_identifier j) h = cc
identifier_from (instance_identifier i) (value_identifier j l) h = cc
identifier_from (instance_identifier i) (instance_identifier j) h = ap instance_identifier (eqb-true i j h)

-- ---- names among keys

pub among_in : (ks : List Identifier) (ns : List Name) (k : Identifier) → length ns ≡ length ks → In k ks → (n : Name) × (name_among ks ns k ≡ Some n)
among_in [] ns k same here = absurd here
among_in (l ∷ ks) [] k same here = cc
among_in (l ∷ ks) (n ∷ ns) k same here = go (same_identifier l k) refl here (among_in ks ns k (let e : length ns ≡ length ks = omega (arith, same) in e)) where
  go : (b : Bool) → same_identifier l k ≡ b → (k ≡ l) ⊎ In k ks → (In k ks → (v : Name) × (name_among ks ns k ≡ Some v)) → (v : Name) × (cond b (Some n) (name_among ks ns k) ≡ Some v)
  go true e h rest = (n, refl)
  go false e (inl h) rest = let other : same_identifier l k ≡ true = ap (λ x. same_identifier x k) (sym h) ∙ identifier_self k in cc
  go false e (inr h) rest = rest h

pub among_identifier : (ks : List Identifier) (ns : List Name) (k : Identifier) (n : Name) → name_among ks ns k ≡ Some n → In k ks
among_identifier [] ns k n e = cc
among_identifier (l ∷ ks) [] k n e = cc
among_identifier (l ∷ ks) (m ∷ ns) k n e = go (same_identifier l k) refl e (among_identifier ks ns k n) where
  go : (b : Bool) → same_identifier l k ≡ b → cond b (Some m) (name_among ks ns k) ≡ Some n → (name_among ks ns k ≡ Some n → In k ks) → (k ≡ l) ⊎ In k ks
  go true h e rest = inl (sym (identifier_from l k h))
  go false h e rest = inr (rest e)

pub among_name : (ks : List Identifier) (ns : List Name) (k : Identifier) (n : Name) → name_among ks ns k ≡ Some n → In n ns
among_name [] ns k n e = cc
among_name (l ∷ ks) [] k n e = cc
among_name (l ∷ ks) (m ∷ ns) k n e = go (same_identifier l k) e (among_name ks ns k n) where
  go : (b : Bool) → cond b (Some m) (name_among ks ns k) ≡ Some n → (name_among ks ns k ≡ Some n → In n ns) → (n ≡ m) ⊎ In n ns
  go true e rest = inl (let same : n ≡ m = cc in same)
  go false e rest = inr (rest e)

pub contains_in : (n : Name) (ns : List Name) → In n ns → contains_name n ns ≡ true
contains_in n [] here = absurd here
contains_in n (m ∷ ns) here = go (same_name m n) refl here (contains_in n ns) where
  go : (b : Bool) → same_name m n ≡ b → (n ≡ m) ⊎ In n ns → (In n ns → contains_name n ns ≡ true) → (b || contains_name n ns) ≡ true
  go true e h rest = refl
  go false e (inl h) rest = let other : same_name m n ≡ true = ap (λ x. same_name x n) (sym h) ∙ name_self n in cc
  go false e (inr h) rest = rest h

pub among_apart : (ks : List Identifier) (ns : List Name) (k l : Identifier) (n : Name) → IsTrue (are_distinct ns) → name_among ks ns k ≡ Some n → name_among ks ns l ≡ Some n → k ≡ l
among_apart [] ns k l n distinct e f = cc
among_apart (h ∷ ks) [] k l n distinct e f = cc
among_apart (h ∷ ks) (m ∷ ns) k l n distinct e f =
    go (same_identifier h k) (same_identifier h l) refl refl e f (among_apart ks ns k l n (later (contains_name m ns) (are_distinct ns) distinct)) where
      later : (c d : Bool) → IsTrue (not c && d) → IsTrue d
      later c d t = and_second (not c) d t

      away : (c d : Bool) → IsTrue (not c && d) → c ≡ true → ⊥
      away true d t e = cc
      away false d t e = cc

      go : (a b : Bool) → same_identifier h k ≡ a → same_identifier h l ≡ b → cond a (Some m) (name_among ks ns k) ≡ Some n → cond b (Some m) (name_among ks ns l) ≡ Some n
          → (name_among ks ns k ≡ Some n → name_among ks ns l ≡ Some n → k ≡ l) → k ≡ l
      go true true x y e f rest = sym (identifier_from h k x) ∙ identifier_from h l y
      go true false x y e f rest = absurd (away (contains_name m ns) (are_distinct ns) distinct (let same : n ≡ m = cc in contains_in m ns (rw (sym same) (among_name ks ns l n f))))
      go false true x y e f rest = absurd (away (contains_name m ns) (are_distinct ns) distinct (let same : n ≡ m = cc in contains_in m ns (rw (sym same) (among_name ks ns k n e))))
      go false false x y e f rest = rest e f

-- ---- identifiers

pub identifier_among : (ns : List Name) (n : Name) → IsTrue (all_identifiers ns) → In n ns → IsTrue (is_identifier n)
identifier_among [] n are here = absurd here
identifier_among (m ∷ ns) n are (inl same) = rw (same) (and_first (is_identifier m) (all_identifiers ns) are)
identifier_among (m ∷ ns) n are (inr here) = identifier_among ns n (and_second (is_identifier m) (all_identifiers ns) are) here

-- ---- the names of a module

-- the names are as many as the things, legal and distinct
pub record AreNames (m : Module) : Type 0 where
  pub many : length (names m) ≡ length (module_identifiers m)
  pub check : IsTrue (names_check (names m))

module _ (m : Module) (are : AreNames m) where
  pub identifier_has_name : (k : Identifier) → In k (module_identifiers m) → (n : Name) × (identifier_name m k ≡ Some n)
  identifier_has_name k here = among_in (module_identifiers m) (names m) k are.many here

  pub name_has_identifier : (k : Identifier) (n : Name) → identifier_name m k ≡ Some n → In k (module_identifiers m)
  name_has_identifier k n e = among_identifier (module_identifiers m) (names m) k n e

  pub names_apart : (k l : Identifier) (n : Name) → identifier_name m k ≡ Some n → identifier_name m l ≡ Some n → k ≡ l
  names_apart k l n e f = among_apart (module_identifiers m) (names m) k l n (and_first (are_distinct (names m)) (all_identifiers (names m)) are.check) e f

  pub name_is_identifier : (k : Identifier) (n : Name) → identifier_name m k ≡ Some n → IsTrue (is_identifier n)
  name_is_identifier k n e =
      identifier_among (names m) n (and_second (are_distinct (names m)) (all_identifiers (names m)) are.check) (among_name (module_identifiers m) (names m) k n e)

  -- the text of a thing's name
  pub text_of_identifier : (k : Identifier) (n : Name) → identifier_name m k ≡ Some n → identifier_text m k ≡ n
  text_of_identifier k n e = ap name_or_nothing e

  pub text_named : (k : Identifier) → In k (module_identifiers m) → identifier_name m k ≡ Some (identifier_text m k)
  text_named k here = let h = identifier_has_name k here in h.1 ∙ ap (λ x. Some x) (sym (text_of_identifier k h.0 h.1))

  -- two things of one text are one thing
  pub texts_apart : (k l : Identifier) → In k (module_identifiers m) → In l (module_identifiers m) → identifier_text m k ≡ identifier_text m l → k ≡ l
  texts_apart k l here there e = names_apart k l (identifier_text m l) (text_named k here ∙ ap (λ x. Some x) e) (text_named l there)
