-- What is compared is not refused.
use Rattle.std.proofs.Common.{◌≡◌, ℕ, [], ◌∷◌, Some, None, sym, subst, ◌∙◌, arith}
use Rattle.diag.specs.declared.refusal.Refusal.{Refusal}
use Rattle.hw_model.specs.Types.{Name}
use Rattle.hw_model.specs.Design.{Module, Design, find_module}
use Rattle.miter_blast.proofs.CopyLaw.{copies_once}
use Rattle.miter_blast.specs.Comparable.{AreComparable}
use Rattle.miter_blast.specs.Pairs.{HaveSamePorts, IsNoPair, no_left, no_right, ports}
use Rattle.miter_blast.specs.Comparisons.{IsPriceOf, IsComparisonRefusal, no_pair, registers, price}
use Rattle.lec_tool.specs.Verdicts.{IsAffordable}

-- a comparison has one price
price_once : (d : Design) (a : Name) (e : Design) (b : Name) (p q : ℕ) → IsPriceOf d a e b p → IsPriceOf d a e b q → p ≡ q
price_once d a e b p q x y =
    let first : x.first ≡ y.first = copies_once d a x.first y.first x.first_copy y.first_copy in
    let second : x.second ≡ y.second = copies_once e b x.second y.second x.second_copy y.second_copy in
    let ones : ◌≡◌ {A = Design} (x.one ∷ []) (y.one ∷ []) = sym x.first_is ∙ first ∙ y.first_is in
    let twos : ◌≡◌ {A = Design} (x.two ∷ []) (y.two ∷ []) = sym x.second_is ∙ second ∙ y.second_is in
    let one : x.one ≡ y.one = cc in
    let two : x.two ≡ y.two = cc in
    x.is ∙ rw (first, second, one, two) (sym y.is)

-- the module of a symbol is one
module_once : (d : Design) (s : Name) (m n : Module) → find_module d s ≡ Some m → find_module d s ≡ Some n → m ≡ n
module_once d s m n h k = let both : Some m ≡ Some n = sym h ∙ k in cc

-- modules that can be compared are there, and their ports are the same
no_pair_left : (d : Design) (a : Name) (e : Design) (b : Name) (r : Refusal) → AreComparable d a e b → IsNoPair d a e b r → ⊥
no_pair_left d a e b r are (no_left h) = let clash : None ≡ Some are.one = sym h ∙ are.one_found in cc
no_pair_left d a e b r are (no_right m found h) = let clash : None ≡ Some are.two = sym h ∙ are.two_found in cc
no_pair_left d a e b r are (ports m n found differ) =
    let one : are.one ≡ m = module_once d a are.one m are.one_found found.one in
    let two : are.two ≡ n = module_once e b are.two n are.two_found found.two in
    differ (subst (λ (x : Module). HaveSamePorts x.ports n.ports) one (subst (λ (y : Module). HaveSamePorts are.one.ports y.ports) two (are.inputs, are.outputs)))

-- what can be compared, and does not take too many gates, is not refused
pub compared_unrefused : (d : Design) (a : Name) (e : Design) (b : Name) (r : Refusal) → AreComparable d a e b → IsAffordable d a e b → IsComparisonRefusal d a e b r → ⊥
compared_unrefused d a e b r are paid (no_pair x is) = no_pair_left d a e b x are is
compared_unrefused d a e b r are paid (registers m n found same differ) = differ are.held
compared_unrefused d a e b r are paid (price m n found also p is big) =
    let one : p ≡ paid.price = price_once d a e b p paid.price is paid.is_price in
    absurd (omega (arith, one, big, paid.within))
