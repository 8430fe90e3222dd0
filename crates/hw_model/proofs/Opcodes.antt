-- Kinds by their opcodes, and opcodes computed.
use Rattle.std.proofs.Common.{◌≡◌, [], ◌∷◌, map, Option, Some, None, refl, ap, sym, ◌∙◌}
use Rattle.opcode.specs.declared.listed.Listed.{Listed}
use Rattle.opcode.specs.declared.listed.Listed.TheVariants as listed
use Rattle.hw_model.specs.Kinds.{Kind}
use Rattle.hw_model.specs.Kinds.Reset.{no_reset}
use Rattle.hw_model.specs.Kinds.Shift.{shrs}
use Rattle.hw_model.specs.Kinds.StructOp.{struct_extract}
use Rattle.hw_model.specs.Kinds.RegisterOp.{compreg_ce}
use Rattle.hw_model.specs.Kinds.Kind.{shift, on_struct, output, register}
use Rattle.hw_model.specs.Opcodes.{opcode_of, kind_named_by}

-- the opcode of a kind, or another one where there is none
opcode_or : Listed → Option Kind → Listed
opcode_or l None = l
opcode_or l (Some k) = opcode_of k

each : (l : Listed) → opcode_or l (kind_named_by l) ≡ l
unfolding opcode_or
each listed.HwModule = refl
each _ = refl

told_by : (l : Listed) (o : Option Kind) → opcode_or l o ≡ l → (k : Kind) → o ≡ Some k → opcode_of k ≡ l
unfolding opcode_or
told_by l None e k g = cc
told_by l (Some j) e k g = let h : j ≡ k = cc in ap opcode_of (sym h) ∙ e

-- a kind that is told by an opcode has that opcode
pub opcode_told : (l : Listed) (k : Kind) → kind_named_by l ≡ Some k → opcode_of k ≡ l
opcode_told l k is = told_by l (kind_named_by l) (each l) k is

-- ---- computed

opcodes : map opcode_of (shift shrs ∷ on_struct (struct_extract []) ∷ register compreg_ce no_reset ∷ output ∷ [])
    ≡ listed.CombShrs ∷ listed.HwStructExtract ∷ listed.SeqCompregCe ∷ listed.HwOutput ∷ []
opcodes = refl

kinds : map kind_named_by (listed.CombShrs ∷ listed.HwStructExtract ∷ listed.HwModule ∷ listed.HwOutput ∷ [])
    ≡ Some (shift shrs) ∷ None ∷ None ∷ Some output ∷ []
kinds = refl
