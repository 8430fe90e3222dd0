-- Values within a depth, a step at a time, and words that are padded.
use Rattle.std.proofs.Common.{◌≡◌, ℕ, zero, suc, ◌-◌, ◌<◌, List, [], ◌∷◌, ◌++◌, false, Option, Some, None, map, take, length, option_map, slice_get, refl, ap, sym, ◌∙◌, arith}
use Rattle.std.proofs.lemmas.Option.{slice_get-map}
use Rattle.bits_core.specs.Word.{Word, first, zeros}
use Rattle.bits_core.proofs.First.{first-nil}
use Rattle.hw_model.specs.Types.{Name, HwType}
use Rattle.hw_model.specs.Design.{Design, OpResult}
use Rattle.hw_model.specs.Flat.{Net, source}
use Rattle.hw_interpreter.specs.DesignViews.{result_of}
use Rattle.hw_interpreter.specs.Depth.{value_from, value_within}

-- a net's value within a depth is made of those within one less
pub within_more : (d : Design) (top : Name) (inputs content : Word) (depth : ℕ) (n : Net) → 0 < depth
    → value_within d top inputs content depth n ≡ value_from inputs content (value_within d top inputs content (depth - 1)) (source d top n)
within_more d top inputs content zero n positive = absurd (omega arith)
within_more d top inputs content (suc depth) n positive = let e : suc depth - 1 ≡ depth = omega arith in rw e refl

-- the first bits are those that there are, and bits of 0
pub first_parts : (w : ℕ) (x : Word) → first w x ≡ take w x ++ zeros (w - length (take w x))
first_parts zero x = refl
first_parts (suc w) [] =
    let e : suc w - 0 ≡ suc w = omega arith in ap (λ z. false ∷ z) (first-nil w) ∙ ap zeros (sym e)
first_parts (suc w) (b ∷ x) =
    let e : suc w - length (b ∷ take w x) ≡ w - length (take w x) = omega arith in
    ap (λ z. b ∷ z) (first_parts w x) ∙ ap (λ z. (b ∷ take w x) ++ zeros z) (sym e)

type_back : (t : Option HwType) → option_map (λ (r : OpResult). r.type) (option_map result_of t) ≡ t
type_back None = refl
type_back (Some t) = refl

-- the type of a result by its number
pub result_at : (ts : List HwType) (k : ℕ) → option_map (λ (r : OpResult). r.type) (slice_get (map result_of ts) k) ≡ slice_get ts k
result_at ts k = ap (λ o. option_map (λ (r : OpResult). r.type) o) (slice_get-map result_of ts k) ∙ type_back (slice_get ts k)
