-- The first of several patterns by which a value stands for the result is one such pattern, by the kind of the operation.
use Rattle.std.proofs.Common.{◌≡◌, ℕ, List, [], ◌∷◌, Option, Some, None, slice_get, refl, sym, ◌∙◌, ◌⊎◌, inl, inr, option_and_then, option_map}
use Rattle.hw_model.specs.Types.{HwType}
use Rattle.hw_model.specs.Kinds.{Kind}
use Rattle.hw_model.specs.Kinds.ArrayOp.{array_get}
use Rattle.hw_model.specs.Kinds.StructOp.{struct_extract}
use Rattle.hw_model.specs.Kinds.Kind.{concat, replicate, bitcast, on_array, on_struct}
use Rattle.hw_model.specs.Design.{Ref, Op}
use Rattle.ir_store.specs.declared.body.Body.{Body}
use Rattle.fold_laws.specs.Edits.{Edit, FoldPattern}
use Rattle.fold_laws.specs.Edits.Edit.{erased}
use Rattle.fold_laws.specs.Parts.{struct_part, array_part}
use Rattle.fold_laws.specs.Standing.{by_stand, trivial_concat, trivial_replicate, trivial_bitcast}
use Rattle.fold_laws.specs.Table.{or_edits, fold_trivial, fold_made_part}
use Rattle.fold_laws.proofs.ArrayParts.{array_part_law}
use Rattle.fold_laws.proofs.Parts.{struct_part_law}
use Rattle.fold_laws.proofs.WholeValues.{trivial_concat_stands, trivial_replicate_stands, trivial_bitcast_stands}
use Rattle.comb_fold.specs.Choices.{trivial, made_part}
use Rattle.body_edits.specs.Folded.{IsFolded}
use Rattle.comb_fold.specs.Patterns.{StandsInFit}
use Rattle.body_edits.specs.Views.{body_ops}
use Rattle.comb_fold.proofs.FitPatterns.{stands_in_fit, maker_operand_in_fit}

-- what a pattern makes of a body another one does that is the same
pub same_folded : (pattern other : FoldPattern) → ((os : List Op) (i : ℕ) → pattern os i ≡ other os i) → (b b' : Body) (i : ℕ) → IsFolded pattern b b' i → IsFolded other b b' i
same_folded pattern other same b b' i folded = record {
  edits = folded.edits;
  matches = sym (same (body_ops b) i) ∙ folded.matches;
  form = folded.form;
  ops = folded.ops;
  fresh = folded.fresh;
  is_fresh = folded.is_fresh;
  ids = folded.ids;
}

or_none : (x : Option (List Edit)) → x ≡ or_edits x None
or_none None = refl
or_none (Some es) = refl

-- the edits by which a value stands for the result
abbrev edits_of : ℕ → Option Ref → Option (List Edit)
edits_of i x = option_map (λ (y : Ref). erased i y ∷ []) x

-- ---- concat, replicate, bitcast

trivial_at : (os : List Op) (i : ℕ) (k : Kind) (ts : List HwType) (rs : List Ref)
    → edits_of i (trivial os k ts rs) ≡ or_edits (edits_of i (trivial_concat os k ts rs)) (or_edits (edits_of i (trivial_replicate os k ts rs)) (or_edits (edits_of i (trivial_bitcast os k ts rs)) None))
trivial_at os i concat ts rs = or_none _
trivial_at os i replicate ts rs = or_none _
trivial_at os i bitcast ts rs = or_none _
trivial_at os i _ ts rs = refl

pub trivial_pattern : (os : List Op) (i : ℕ) → by_stand trivial os i ≡ fold_trivial os i
trivial_pattern os i = go (slice_get os i)
  where
    go : (x : Option Op) → option_and_then (λ (o : Op). edits_of i (trivial os o.kind o.types o.operands)) x
        ≡ or_edits (option_and_then (λ (o : Op). edits_of i (trivial_concat os o.kind o.types o.operands)) x)
        (or_edits (option_and_then (λ (o : Op). edits_of i (trivial_replicate os o.kind o.types o.operands)) x)
        (or_edits (option_and_then (λ (o : Op). edits_of i (trivial_bitcast os o.kind o.types o.operands)) x) None))
    go None = refl
    go (Some o) = trivial_at os i o.kind o.types o.operands

which_trivial : (os : List Op) (k : Kind) (ts : List HwType) (rs : List Ref) (x : Ref) → trivial os k ts rs ≡ Some x
    → (trivial_concat os k ts rs ≡ Some x) ⊎ ((trivial_replicate os k ts rs ≡ Some x) ⊎ (trivial_bitcast os k ts rs ≡ Some x))
which_trivial os concat ts rs x is = inl is
which_trivial os replicate ts rs x is = inr (inl is)
which_trivial os bitcast ts rs x is = inr (inr is)
which_trivial os _ ts rs x is = cc

pub trivial_in_fit : StandsInFit trivial
trivial_in_fit = record {
  may = λ d k md i o x fit at there is.
      elim (which_trivial md.body o.kind o.types o.operands x is) [
        | inl made ↦ (stands_in_fit trivial_concat trivial_concat_stands).may d k md i o x fit at there made
        | inr (inl made) ↦ (stands_in_fit trivial_replicate trivial_replicate_stands).may d k md i o x fit at there made
        | inr (inr made) ↦ (stands_in_fit trivial_bitcast trivial_bitcast_stands).may d k md i o x fit at there made
      ];
}

-- ---- fields and elements

made_at : (os : List Op) (i : ℕ) (k : Kind) (ts : List HwType) (rs : List Ref)
    → edits_of i (made_part os k ts rs) ≡ or_edits (edits_of i (struct_part os k ts rs)) (or_edits (edits_of i (array_part os k ts rs)) None)
made_at os i (on_struct (struct_extract name)) ts rs = or_none _
made_at os i (on_array array_get) ts rs = or_none _
made_at os i _ ts rs = refl

pub made_part_pattern : (os : List Op) (i : ℕ) → by_stand made_part os i ≡ fold_made_part os i
made_part_pattern os i = go (slice_get os i)
  where
    go : (x : Option Op) → option_and_then (λ (o : Op). edits_of i (made_part os o.kind o.types o.operands)) x
        ≡ or_edits (option_and_then (λ (o : Op). edits_of i (struct_part os o.kind o.types o.operands)) x) (or_edits (option_and_then (λ (o : Op). edits_of i (array_part os o.kind o.types o.operands)) x) None)
    go None = refl
    go (Some o) = made_at os i o.kind o.types o.operands

which_part : (os : List Op) (k : Kind) (ts : List HwType) (rs : List Ref) (x : Ref) → made_part os k ts rs ≡ Some x → (struct_part os k ts rs ≡ Some x) ⊎ (array_part os k ts rs ≡ Some x)
which_part os (on_struct (struct_extract name)) ts rs x is = inl is
which_part os (on_array array_get) ts rs x is = inr is
which_part os _ ts rs x is = cc

pub made_part_in_fit : StandsInFit made_part
made_part_in_fit = record {
  may = λ d k md i o x fit at there is.
      elim (which_part md.body o.kind o.types o.operands x is) [
        | inl made ↦ (maker_operand_in_fit struct_part struct_part_law).may d k md i o x fit at there made
        | inr made ↦ (maker_operand_in_fit array_part array_part_law).may d k md i o x fit at there made
      ];
}
