-- What stands for the operands of a register with a reset, one after another.
use Rattle.std.proofs.Common.{◌≡◌, ℕ, false, true, List, [], ◌∷◌, ◌++◌, length, refl, ap, ap₂, ◌∙◌, arith, append_assoc}
use Rattle.std.proofs.lemmas.List.{map-append}
use Rattle.hw_model.specs.Kinds.Reset.{sync_reset}
use Rattle.hw_model.specs.Design.{Ref}
use Rattle.ir_store.specs.declared.operation.Value.{Value}
use Rattle.aggregate_laws.specs.Leaves.{part, leaf_operands}
use Rattle.aggregate_laws.specs.OperationRules.{argument}
use Rattle.lowering_rules.specs.Reading.{new_ref, new_refs}

-- of four operands, and of five
pub of_four : (args : List (List Ref)) (i : ℕ) → length args ≡ 4
    → part (argument 0 args) i ∷ (argument 1 args ++ (argument 2 args ++ (part (argument 3 args) i ∷ []))) ≡ leaf_operands false sync_reset args i
of_four [] i four = cc
of_four (a ∷ []) i four = absurd (omega arith)
of_four (a ∷ b ∷ []) i four = absurd (omega arith)
of_four (a ∷ b ∷ c ∷ []) i four = absurd (omega arith)
of_four (a ∷ b ∷ c ∷ d ∷ []) i four = refl
of_four (a ∷ b ∷ c ∷ d ∷ e ∷ args) i four = absurd (omega arith)

pub of_five : (args : List (List Ref)) (i : ℕ) → length args ≡ 5
    → part (argument 0 args) i ∷ (argument 1 args ++ (argument 2 args ++ (argument 3 args ++ (part (argument 4 args) i ∷ [])))) ≡ leaf_operands true sync_reset args i
of_five [] i five = cc
of_five (a ∷ []) i five = absurd (omega arith)
of_five (a ∷ b ∷ []) i five = absurd (omega arith)
of_five (a ∷ b ∷ c ∷ []) i five = absurd (omega arith)
of_five (a ∷ b ∷ c ∷ d ∷ []) i five = absurd (omega arith)
of_five (a ∷ b ∷ c ∷ d ∷ e ∷ []) i five = refl
of_five (a ∷ b ∷ c ∷ d ∷ e ∷ f ∷ args) i five = absurd (omega arith)

-- values that are put after others are what stands for them, after what stands for the others
pub refs_more : (before own after : List Value) (seen given : List Ref) → after ≡ before ++ own → new_refs before ≡ seen → new_refs own ≡ given → new_refs after ≡ seen ++ given
refs_more before own after seen given put was is = ap new_refs put ∙ map-append new_ref before own ∙ ap₂ (λ rs ss. rs ++ ss) was is

pub first_ref : (before after : List Value) (v : Value) (r : Ref) → before ≡ [] → after ≡ before ++ v ∷ [] → new_ref v ≡ r → new_refs after ≡ r ∷ []
first_ref before after v r none put is = ap new_refs (put ∙ ap (λ vs. vs ++ v ∷ []) none) ∙ ap (λ s. s ∷ []) is

-- three lists and four lists, one after another
pub joined_four : (a : Ref) (bs cs ds : List Ref) → (((a ∷ []) ++ bs) ++ cs) ++ ds ≡ a ∷ (bs ++ (cs ++ ds))
joined_four a bs cs ds = append_assoc ((a ∷ []) ++ bs) cs ds

pub joined_five : (a : Ref) (bs cs ds es : List Ref) → ((((a ∷ []) ++ bs) ++ cs) ++ ds) ++ es ≡ a ∷ (bs ++ (cs ++ (ds ++ es)))
joined_five a bs cs ds es = append_assoc (((a ∷ []) ++ bs) ++ cs) ds es ∙ joined_four a bs cs (ds ++ es)
