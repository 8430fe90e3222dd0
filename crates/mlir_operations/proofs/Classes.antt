-- The class of a name, by the listed operation that has it.
use Rattle.std.proofs.Common.{◌≡◌, ◌≢◌, ℕ, Bool, true, false, cond, not, ◌&&◌, ◌==◌, length, List, [], ◌∷◌, Some, None, refl, ap, sym, ◌∙◌, nat_eq, ne_eqb}
use Rattle.mlir_lexer.specs.Runs.{run}
use Rattle.mlir_syntax.specs.AttributeText.{is_among}
use Rattle.std.specs.Cmp.Lexicographic.{pointwise, bytes_decides}
use Rattle.opcode.specs.Listed.{name_of_listed, first_named}
use Rattle.opcode.proofs.Names.{listed_operations}
use Rattle.opcode.specs.declared.listed.Listed.{Listed}
use Rattle.opcode.specs.declared.listed.Listed.TheVariants as listed
use Rattle.mlir_operations.specs.OperationText.{class_of, class_by, known_dialects, is_foreign, class_of_listed, class_of_other}
use Rattle.stored_form.specs.Dictionaries.{dialect}

-- a listed operation is the first of its name
first_of : (o : Listed) → first_named (name_of_listed o) listed_operations ≡ Some o
unfolding name_of_listed
first_of listed.HwModule = refl
first_of _ = refl

-- no operation of a list has a name that none has
none_of : (name : List ℕ) (os : List Listed) → ((o : Listed) → name_of_listed o ≢ name) → first_named name os ≡ None
none_of name [] none = refl
none_of name (o ∷ os) none = go (pointwise nat_eq (name_of_listed o) name) refl (none_of name os none)
  where
    go : (b : Bool) → pointwise nat_eq (name_of_listed o) name ≡ b → first_named name os ≡ None → cond b (Some o) (first_named name os) ≡ None
    go true e later = absurd (none o ((bytes_decides (name_of_listed o) name).0 e))
    go false e later = later

pub known : (o : Listed) (name : List ℕ) → name_of_listed o ≡ name → class_of name ≡ class_of_listed o
known o name e = rw (sym e) (ap (class_by (name_of_listed o)) (first_of o))

pub unknown : (name : List ℕ) → ((o : Listed) → name_of_listed o ≢ name) → class_of name ≡ class_of_other name
unknown name none = ap (class_by name) (none_of name listed_operations none)

-- a name that has a dot is foreign where its dialect is none of those known
pub foreign_at : (name : List ℕ) (n : ℕ) (r : Bool) → n ≡ run (λ b. not (b == 46)) name → (n ≡ length name → ⊥)
    → r ≡ is_among (dialect name) known_dialects → not r ≡ is_foreign name
foreign_at name n r e some known =
    ap not known ∙ ap (λ b. b && not (is_among (dialect name) known_dialects)) (sym (ap (λ m. not (m == length name)) (sym e) ∙ ap not (ne_eqb n (length name) some)))
