-- The texts of modules, made one by one.
use Rattle.std.proofs.Common.{◌≡◌, ℕ, zero, suc, ◌+◌, ◌-◌, ◌<◌, List, Vec, Global, [], ◌∷◌, map, length, Some, slice_get, get_or, Result, Ok, Err, refl, sym, ap, subst, ◌∙◌, arith}
use Rattle.std.specs.Prelude.{IfOk, MatchResult, Contains}
use Rattle.std.specs.List.{AllZip, range_with_len}
use Rattle.std.proofs.lemmas.Option.{slice_get_within, slice_get-get_or}
use Rattle.hw_model.specs.Design.{Module, Design}
use Rattle.lowering_options.specs.declared.lowering.Lowering.{Lowering}
use Rattle.export_verilog.specs.Exported.{vmodule}
use Rattle.export_verilog.specs.Layout.{Text, module_text}
use Rattle.export_verilog.specs.ModuleTextLists.{IsTextOf, AreTextsOf}

-- the text of a module that is there
pub text_at : (via : Lowering) (d : Design) (texts : List Text) (i : ℕ) (default : Text) → AreTextsOf via d texts → (m : Module) → slice_get d i ≡ Some m
    → get_or texts i default ≡ module_text (vmodule via d m) []
text_at via d texts i default are m at =
    let below : i < length texts = (let inside : i < length d = slice_get_within d i m at in omega (arith, inside, are.count)) in
    are.each i (get_or texts i default) (slice_get-get_or texts i default below) m at

-- results that are all there are what each number gives
numbered : (via : Lowering) (E : Type 0) (d : Design) (first n : ℕ) (texts : List Text) → AllZip (λ (i : ℕ) (r : Result Text E). IfOk r (IsTextOf via d i)) (range_with_len first n) (map Ok texts)
    → (length texts ≡ n) × ((i : ℕ) (text : Text) → slice_get texts i ≡ Some text → IsTextOf via d (first + i) text)
numbered via E d first zero [] all = (refl, λ i text at. cc)
numbered via E d first zero (t ∷ texts) all = absurd all
numbered via E d first (suc n) [] all = absurd all
numbered via E d first (suc n) (t ∷ texts) (one, rest) =
    let more = numbered via E d (first + 1) n texts rest in
    (ap suc more.0, λ i text at. by_position i text at more.1)
  where
    by_position : (i : ℕ) (text : Text) → slice_get (t ∷ texts) i ≡ Some text → ((k : ℕ) (u : Text) → slice_get texts k ≡ Some u → IsTextOf via d (first + 1 + k) u) → IsTextOf via d (first + i) text
    by_position zero text at later =
        let same : t ≡ text = cc in
        let position : first ≡ first + 0 = omega arith in
        subst (λ k. IsTextOf via d k text) position (subst (IsTextOf via d first) same one)
    by_position (suc k) text at later = let position : first + 1 + k ≡ first + suc k = omega arith in subst (λ j. IsTextOf via d j text) position (later k text at)

pub all_texts : (via : Lowering) (E : Type 0) (d : Design) (n : ℕ) (rs : List (Result Text E)) (texts : List Text) → n ≡ length d
    → AllZip (λ (i : ℕ) (r : Result Text E). IfOk r (IsTextOf via d i)) (range_with_len 0 n) rs → rs ≡ map Ok texts
    → AreTextsOf via d texts
all_texts via E d n rs texts size all are =
    let told = numbered via E d 0 n texts (subst (AllZip (λ i r. IfOk r (IsTextOf via d i)) (range_with_len 0 n)) are all) in record {
      count = told.0 ∙ size;
      each = λ i text at. let position : 0 + i ≡ i = omega arith in subst (λ k. IsTextOf via d k text) position (told.1 i text at);
    }

-- a number of a range is below its end
pub number_within : (first n k d : ℕ) → k < length (range_with_len first n) → get_or (range_with_len first n) k d < first + n
number_within first zero k d below = absurd (omega arith)
number_within first (suc n) zero d below = omega arith
number_within first (suc n) (suc k) d below = let rest = number_within (first + 1) n k d (omega arith) in omega (arith, rest)

-- so are those that are gathered, where none wanted memory in vain
pub texts_gathered : (via : Lowering) (E : Type 0) (d : Design) (first end : ℕ) (rs : List (Result Text E)) (r : Result (Vec Text Global) E) → first ≡ 0 → end ≡ length d
    → AllZip (λ (i : ℕ) (r : Result Text E). IfOk r (IsTextOf via d i)) (range_with_len first (end - first)) rs
    → MatchResult r (λ (v : Vec Text Global). (ys : List Text) × (rs ≡ map Ok ys) × (v.items ≡ ys)) (λ e. Contains rs (Err e)) → IfOk r (λ v. AreTextsOf via d v.items)
texts_gathered via E d first end rs (Err e) start size all are = tt
texts_gathered via E d first end rs (Ok v) start size all are =
    let ranged : (first, end - first) ≡ (0, length d) = λ k. (start k, (let n : end - first ≡ length d = omega (arith, start, size) in n) k) in
    subst (AreTextsOf via d) (sym are.2)
    (all_texts via E d (length d) rs are.0 refl (subst (λ (z : ℕ × ℕ). AllZip (λ (i : ℕ) (r : Result Text E). IfOk r (IsTextOf via d i)) (range_with_len z.0 z.1) rs) ranged all) are.1)
