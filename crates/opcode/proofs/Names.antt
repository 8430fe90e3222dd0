-- The listed operation of a name.
use Rattle.std.proofs.Common.{◌≡◌, ◌≢◌, ℕ, zero, suc, Bool, true, false, cond, List, [], ◌∷◌, Option, None, Some, IfSome, IfNone, refl, sym, ap, ◌∙◌, nat_eq}
use Rattle.std.specs.Cmp.Lexicographic.{pointwise, bytes_decides}
use Rattle.opcode.specs.Listed.{name_of_listed, first_named}
pub use Rattle.opcode.specs.Listed.{listed_operations}
use Rattle.opcode.specs.declared.listed.Listed.{Listed}
use Rattle.opcode.specs.declared.listed.Listed.TheVariants.{HwModule, CombAdd, CombMul, CombAnd, CombOr, CombXor, CombSub, CombDivu, CombModu, CombDivs, CombMods, CombShl, CombShru, CombShrs}
use Rattle.opcode.specs.declared.listed.Listed.TheVariants.{CombIcmp, CombParity, CombExtract, CombConcat, CombReplicate, CombMux, HwConstant, HwAggregateConstant, HwArrayCreate, HwArrayConcat}
use Rattle.opcode.specs.declared.listed.Listed.TheVariants.{HwArrayGet, HwArraySlice, HwArrayInject, HwStructCreate, HwStructExtract, HwStructInject, HwStructExplode, HwBitcast, HwWire, HwInstance}
use Rattle.opcode.specs.declared.listed.Listed.TheVariants.{HwOutput, SeqCompreg, SeqCompregCe, SeqFirreg}

-- what is found has the name
pub first_named-name : (name : List ℕ) (table : List Listed) → IfSome (first_named name table) (λ listed. name_of_listed listed ≡ name)
first_named-name name [] = tt
first_named-name name (listed ∷ others) = go (pointwise nat_eq (name_of_listed listed) name) refl (first_named-name name others)
  where
    go : (b : Bool) → pointwise nat_eq (name_of_listed listed) name ≡ b → IfSome (first_named name others) (λ other. name_of_listed other ≡ name)
        → IfSome (cond b (Some listed) (first_named name others)) (λ other. name_of_listed other ≡ name)
    go true e later = (bytes_decides (name_of_listed listed) name).0 e
    go false e later = later

-- the operation at a position of a list
abbrev pub operation_at : ℕ → List Listed → Option Listed
operation_at k [] = None
operation_at zero (listed ∷ others) = Some listed
operation_at (suc k) (listed ∷ others) = operation_at k others

-- where nothing is found, no operation of the list has the name
pub first_named-none : (name : List ℕ) (table : List Listed) (k : ℕ) (other : Listed) → first_named name table ≡ None
    → operation_at k table ≡ Some other → name_of_listed other ≢ name
first_named-none name [] k other none here = cc
first_named-none name (listed ∷ others) zero other none here =
    λ e. go (pointwise nat_eq (name_of_listed listed) name) refl none ((bytes_decides (name_of_listed listed) name).1 (ap name_of_listed same ∙ e))
  where
    same : listed ≡ other
    same = cc

    go : (b : Bool) → pointwise nat_eq (name_of_listed listed) name ≡ b → cond b (Some listed) (first_named name others) ≡ None → b ≡ true → ⊥
    go true e found is = cc
    go false e found is = cc
first_named-none name (listed ∷ others) (suc k) other none here =
    go (pointwise nat_eq (name_of_listed listed) name) (λ later. first_named-none name others k other later here) none
  where
    go : (b : Bool) → (first_named name others ≡ None → name_of_listed other ≢ name)
        → cond b (Some listed) (first_named name others) ≡ None → name_of_listed other ≢ name
    go true later found = cc
    go false later found = later found

-- each operation is among them
pub listed_position : (listed : Listed) → (k : ℕ) × (operation_at k listed_operations ≡ Some listed)
listed_position HwModule = (0, refl)
listed_position CombAdd = (1, refl)
listed_position CombMul = (2, refl)
listed_position CombAnd = (3, refl)
listed_position CombOr = (4, refl)
listed_position CombXor = (5, refl)
listed_position CombSub = (6, refl)
listed_position CombDivu = (7, refl)
listed_position CombModu = (8, refl)
listed_position CombDivs = (9, refl)
listed_position CombMods = (10, refl)
listed_position CombShl = (11, refl)
listed_position CombShru = (12, refl)
listed_position CombShrs = (13, refl)
listed_position CombIcmp = (14, refl)
listed_position CombParity = (15, refl)
listed_position CombExtract = (16, refl)
listed_position CombConcat = (17, refl)
listed_position CombReplicate = (18, refl)
listed_position CombMux = (19, refl)
listed_position HwConstant = (20, refl)
listed_position HwAggregateConstant = (21, refl)
listed_position HwArrayCreate = (22, refl)
listed_position HwArrayConcat = (23, refl)
listed_position HwArrayGet = (24, refl)
listed_position HwArraySlice = (25, refl)
listed_position HwArrayInject = (26, refl)
listed_position HwStructCreate = (27, refl)
listed_position HwStructExtract = (28, refl)
listed_position HwStructInject = (29, refl)
listed_position HwStructExplode = (30, refl)
listed_position HwBitcast = (31, refl)
listed_position HwWire = (32, refl)
listed_position HwInstance = (33, refl)
listed_position HwOutput = (34, refl)
listed_position SeqCompreg = (35, refl)
listed_position SeqCompregCe = (36, refl)
listed_position SeqFirreg = (37, refl)

pub none_listed : (name : List ℕ) (found : Option Listed) → found ≡ first_named name listed_operations
    → IfNone found ((listed : Listed) → name_of_listed listed ≢ name)
none_listed name None e = λ listed. first_named-none name listed_operations (listed_position listed).0 listed (sym e) (listed_position listed).1
none_listed name (Some found) e = tt

pub some_listed : (name : List ℕ) (found : Option Listed) → found ≡ first_named name listed_operations
    → IfSome found (λ listed. name_of_listed listed ≡ name)
some_listed name found e = rw e (first_named-name name listed_operations)
