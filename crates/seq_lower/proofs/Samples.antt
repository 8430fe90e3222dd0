-- Registers with an enable and a reset, lowered.
use Rattle.std.proofs.Common.{◌≡◌, pos, List, [], ◌∷◌, refl}
use Rattle.hw_model.specs.Types.{HwType}
use Rattle.hw_model.specs.Types.HwType.{int}
use Rattle.hw_model.specs.Kinds.RegisterOp.{compreg, compreg_ce, firreg}
use Rattle.hw_model.specs.Kinds.Reset.{no_reset, sync_reset}
use Rattle.hw_model.specs.Kinds.Kind.{mux, constant, output, register, async_firreg}
use Rattle.hw_model.specs.Design.{Ref, Op}
use Rattle.hw_model.specs.Design.Ref.{port, result}
use Rattle.hw_model.proofs.Samples.{operation}
use Rattle.seq_lower.specs.Lowered.{lowered}

abbrev byte : List HwType
byte = int 8 ∷ []

-- hw.constant 9 : i8
abbrev nine : Op
nine = operation (constant (pos 9)) [] byte byte

abbrev gives : Ref → Op
gives r = operation output (r ∷ []) byte []

-- %r = seq.compreg.ce %d, %clk, %en reset %rst, %c9_i8 : i8, with ports %d, %clk, %en and %rst, and what it becomes
both_lowered : lowered (nine ∷ operation (register compreg_ce sync_reset) (port 0 ∷ port 1 ∷ port 2 ∷ port 3 ∷ result 0 0 ∷ []) byte byte ∷ gives (result 1 0) ∷ [])
    ≡ nine
    ∷ operation mux (port 2 ∷ port 0 ∷ result 3 0 ∷ []) byte byte
    ∷ operation mux (port 3 ∷ result 0 0 ∷ result 1 0 ∷ []) byte byte
    ∷ operation (register compreg no_reset) (result 2 0 ∷ port 1 ∷ []) byte byte
    ∷ gives (result 3 0)
    ∷ []
both_lowered = refl

-- two registers that load one another, one with an enable and one with a reset
two_lowered : lowered (operation (register compreg_ce no_reset) (result 1 0 ∷ port 0 ∷ port 1 ∷ []) byte byte
    ∷ operation (register firreg sync_reset) (result 0 0 ∷ port 0 ∷ port 1 ∷ port 2 ∷ []) byte byte
    ∷ gives (result 1 0) ∷ [])
    ≡ operation mux (port 1 ∷ result 3 0 ∷ result 1 0 ∷ []) byte byte
    ∷ operation (register compreg no_reset) (result 0 0 ∷ port 0 ∷ []) byte byte
    ∷ operation mux (port 1 ∷ port 2 ∷ result 1 0 ∷ []) byte byte
    ∷ operation (register firreg no_reset) (result 2 0 ∷ port 0 ∷ []) byte byte
    ∷ gives (result 3 0)
    ∷ []
two_lowered = refl

-- an asynchronous reset stays
async_stays : lowered (nine ∷ operation async_firreg (port 0 ∷ port 1 ∷ port 2 ∷ result 0 0 ∷ []) byte byte ∷ gives (result 1 0) ∷ [])
    ≡ nine ∷ operation async_firreg (port 0 ∷ port 1 ∷ port 2 ∷ result 0 0 ∷ []) byte byte ∷ gives (result 1 0) ∷ []
async_stays = refl
