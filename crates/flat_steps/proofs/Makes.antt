-- An operation that fits takes the words of its operands.
use Rattle.std.proofs.Common.{◌≡◌, refl, sym, ap, ap₂, subst, ◌∙◌, ℕ, suc, ◌+◌, ◌%◌, ◌≤◌, List, [], ◌∷◌, map, length, Option, Some, inl, inr, arith}
use Rattle.std.proofs.Math.Nat.{mul-mod_left}
use Rattle.wiring.specs.Wiring.{In}
use Rattle.wiring.specs.Lists.{total}
use Rattle.wiring.proofs.Members.{All-from_members}
use Rattle.bits_core.specs.Word.{Word}
use Rattle.hw_model.specs.Types.{HwType, width}
use Rattle.hw_model.specs.Kinds.{Kind}
use Rattle.hw_model.specs.Kinds.Kind.{variadic, sub, division, shift, icmp, parity, extract, concat, replicate, mux, constant, bitcast, wire, aggregate_constant, on_array, on_struct, instance, output, register, async_firreg}
use Rattle.hw_model.specs.IntegerKinds.{OfOne, OfTwo}
use Rattle.hw_model.specs.Sound.{HasWidth, HaveWidths, AllAre, Fits}
use Rattle.operation_gates.specs.Operands.{IsPlain}
use Rattle.flat_steps.specs.Tables.{Makes}

member_width : (t : HwType) (types : List (Option HwType)) (us : List Word) → AllAre t types → HaveWidths types us → (w : Word) → In w us → length w ≡ width t
member_width t [] [] all have w here = absurd here
member_width t [] (u ∷ us) all have w here = absurd have
member_width t (x ∷ types) [] all have w here = absurd have
member_width t (x ∷ types) (u ∷ us) all have w (inl same) =
    let first : HasWidth (Some t) u = subst (λ y. HasWidth y u) (all x (inl refl)) have.0 in
    ap length same ∙ first
member_width t (x ∷ types) (u ∷ us) all have w (inr here) = member_width t types us (λ y there. all y (inr there)) have.1 w here

as_many : (types : List (Option HwType)) (us : List Word) → HaveWidths types us → length us ≡ length types
as_many [] [] have = refl
as_many [] (u ∷ us) have = absurd have
as_many (x ∷ types) [] have = absurd have
as_many (x ∷ types) (u ∷ us) have = ap suc (as_many types us have.1)

no_words : (us : List Word) → length us ≡ 0 → us ≡ []
no_words [] is = refl
no_words (u ∷ us) is = absurd (omega (arith, is))

same_two : (a : HwType) (us : List Word) → HaveWidths (Some a ∷ Some a ∷ []) us → OfTwo (λ x y. length x ≡ length y) us
same_two a [] have = absurd have
same_two a (u ∷ []) have = absurd have.1
same_two a (u ∷ v ∷ []) have = have.0 ∙ sym have.1.0
same_two a (u ∷ v ∷ w ∷ us) have = absurd have.1.1

one_word : (a : HwType) (P : Word → Type 0) (us : List Word) → HaveWidths (Some a ∷ []) us → ((x : Word) → length x ≡ width a → P x) → OfOne P us
one_word a P [] have each = absurd have
one_word a P (u ∷ []) have each = each u have.0
one_word a P (u ∷ v ∷ us) have each = absurd have.1

widths_are : (ts : List HwType) (us : List Word) → HaveWidths (map (λ (t : HwType). Some t) ts) us → map length us ≡ map width ts
widths_are [] [] have = refl
widths_are [] (u ∷ us) have = absurd have
widths_are (t ∷ ts) [] have = absurd have
widths_are (t ∷ ts) (u ∷ us) have = ap₂ (λ (n : ℕ) (ns : List ℕ). n ∷ ns) have.0 (widths_are ts us have.1)

at_types : (types others : List (Option HwType)) (us : List Word) → types ≡ others → HaveWidths types us → HaveWidths others us
at_types types others us is have = subst (λ (ys : List (Option HwType)). HaveWidths ys us) is have

-- an operation of a plain kind that fits
pub makes : (kind : Kind) (ts : List HwType) (types : List (Option HwType)) (t : HwType) (k : ℕ) (us : List Word) → IsPlain kind → Fits kind ts types t k → HaveWidths types us
    → Makes kind (width t) us
makes (variadic v) ts types t k us plain fits have = All-from_members (λ (w : Word). length w ≡ width t) us (member_width t types us fits have)
makes sub ts types t k us plain fits have = same_two t us (at_types types (Some t ∷ Some t ∷ []) us fits have)
makes (division d) ts types t k us plain fits have = same_two t us (at_types types (Some t ∷ Some t ∷ []) us fits have)
makes (shift s) ts types t k us plain fits have = as_many types us have ∙ ap length fits
makes (icmp p) ts types t k us plain (u, is, bit) have = same_two u us (at_types types (Some u ∷ Some u ∷ []) us is have)
makes parity ts types t k us plain (u, is, bit) have = as_many types us have ∙ ap length is
makes (extract low) ts types t k us plain (u, is, below) have =
    one_word u (λ x. low + width t ≤ length x) us (at_types types (Some u ∷ []) us is have) (λ x size. omega (arith, size, below))
makes concat ts types t k us plain (vs, is, sum) have =
    ap total (widths_are vs us (at_types types (map (λ (u : HwType). Some u) vs) us is have)) ∙ sym sum
makes replicate ts types t k us plain (u, n, is, some, whole) have =
    one_word u (λ x. width t % length x ≡ 0) us (at_types types (Some u ∷ []) us is have) (λ x size. ap₂ (λ (a b : ℕ). a % b) whole size ∙ mul-mod_left n (width u))
makes mux ts types t k us plain fits have = as_many types us have ∙ ap length fits
makes (constant z) ts types t k us plain fits have = no_words us (as_many types us have ∙ ap length fits)
makes bitcast ts types t k us plain (u, is, wide) have = as_many types us have ∙ ap length is
makes wire ts types t k us plain fits have = as_many types us have ∙ ap length fits
makes (aggregate_constant ls) ts types t k us plain fits have = absurd plain
makes (on_array a) ts types t k us plain fits have = absurd plain
makes (on_struct s) ts types t k us plain fits have = absurd plain
makes (instance i) ts types t k us plain fits have = absurd plain
makes output ts types t k us plain fits have = absurd plain
makes (register f r) ts types t k us plain fits have = absurd plain
makes async_firreg ts types t k us plain fits have = absurd plain
