-- The numbers of ports: each port of a design has one, and no two have the same.
use Rattle.std.proofs.Common.{◌≡◌, ◌⊎◌, inl, inr, ℕ, zero, suc, ◌+◌, ◌-◌, ◌<◌, Bool, true, false, cond, nat_lt, List, [], ◌∷◌, ◌++◌, length, take, slice_get, Some, None, refl, sym, ap, ◌∙◌, arith}
use Rattle.std.proofs.Common.{get_or, option_to_list, lt-ltb, ltb-true, length-append, append_assoc, option_and_then}
use Rattle.std.proofs.lemmas.List.{append-nil}
use Rattle.std.proofs.lemmas.Option.{slice_get_within}
use Rattle.wiring.proofs.Lists.{slice_get_some, slice_get-append_left, slice_get-append_at}
use Rattle.wiring.proofs.Options.{and_then_some}
use Rattle.hw_model.specs.Design.{Module, Design}
use Rattle.port_checks.specs.ResetPorts.{port_count}
use Rattle.port_checks.specs.Numbers.{AreStarts, port_number, numbers_of}
use Rattle.port_checks.specs.declared.named.PortPosition.{PortPosition}

-- ---- how many ports stand before a module

pub count_next : (d : Design) (i : ℕ) (m : Module) → slice_get d i ≡ Some m → port_count (take (suc i) d) ≡ port_count (take i d) + length m.ports
count_next [] i m is = cc
count_next (x ∷ d) zero m is =
    let same : x ≡ m = cc in
    let e : length x.ports ≡ length m.ports = ap (λ (y : Module). length y.ports) same in
    omega arith
count_next (x ∷ d) (suc i) m is =
    let rest : port_count (take (suc i) d) ≡ port_count (take i d) + length m.ports = count_next d i m is in
    omega arith

pub count_within : (d : Design) (i : ℕ) (m : Module) (j : ℕ) → slice_get d i ≡ Some m → j < length m.ports → port_count (take i d) + j < port_count d
count_within [] i m j is below = cc
count_within (x ∷ d) zero m j is below =
    let same : x ≡ m = cc in
    let e : length x.ports ≡ length m.ports = ap (λ (y : Module). length y.ports) same in
    omega arith
count_within (x ∷ d) (suc i) m j is below =
    let rest : port_count (take i d) + j < port_count d = count_within d i m j is below in
    omega arith

-- two ports at one position are the same
pub count_once : (d : Design) (i k : ℕ) (m n : Module) (j l : ℕ) → slice_get d i ≡ Some m → slice_get d k ≡ Some n → j < length m.ports → l < length n.ports
    → port_count (take i d) + j ≡ port_count (take k d) + l → (i ≡ k) × (j ≡ l)
count_once [] i k m n j l is at below within same = cc
count_once (x ∷ d) zero zero m n j l is at below within same = (refl, omega arith)
count_once (x ∷ d) zero (suc k) m n j l is at below within same =
    let first : x ≡ m = cc in
    let e : length x.ports ≡ length m.ports = ap (λ (y : Module). length y.ports) first in
    absurd (omega arith)
count_once (x ∷ d) (suc i) zero m n j l is at below within same =
    let first : x ≡ n = cc in
    let e : length x.ports ≡ length n.ports = ap (λ (y : Module). length y.ports) first in
    absurd (omega arith)
count_once (x ∷ d) (suc i) (suc k) m n j l is at below within same =
    let rest = count_once d i k m n j l is at below within (omega arith) in
    (ap suc rest.0, rest.1)

-- ---- where modules start, as they are told one after another

-- the starts of the first modules
pub record HaveStarts (d : Design) (n : ℕ) (starts : List ℕ) : Type 0 where
  pub count : length starts ≡ n
  pub each : (i : ℕ) → i < length starts → slice_get starts i ≡ Some (port_count (take i d))

pub no_starts : (d : Design) → HaveStarts d 0 []
no_starts d = record {
  count = refl;
  each = λ i below. absurd (omega arith);
}

pub more_starts : (d : Design) (n : ℕ) (starts : List ℕ) (start : ℕ) → HaveStarts d n starts → start ≡ port_count (take n d) → HaveStarts d (suc n) (starts ++ start ∷ [])
more_starts d n starts start have is = record {
  count = let e : length (starts ++ start ∷ []) ≡ length starts + 1 = length-append starts (start ∷ []) in let f : length starts ≡ n = have.count in omega arith;
  each = λ i below. go i (let e : length (starts ++ start ∷ []) ≡ length starts + 1 = length-append starts (start ∷ []) in grind arith);
}
  where
    go : (i : ℕ) → (i < length starts) ⊎ (i ≡ length starts) → slice_get (starts ++ start ∷ []) i ≡ Some (port_count (take i d))
    go i (inl below) = slice_get-append_left starts (start ∷ []) i below ∙ have.each i below
    go i (inr last) =
        ap (slice_get (starts ++ start ∷ [])) last ∙ slice_get-append_at starts start [] ∙ ap Some is
        ∙ ap (λ k. Some (port_count (take k d))) (sym (last ∙ have.count))

pub all_starts : (d : Design) (starts : List ℕ) → HaveStarts d (suc (length d)) starts → AreStarts d starts
all_starts d starts have = record {
  count = have.count;
  each = have.each;
}

-- ---- numbers

module _ (d : Design) (starts : List ℕ) (are : AreStarts d starts) where
  start_at : (i : ℕ) (m : Module) → slice_get d i ≡ Some m → slice_get starts i ≡ Some (port_count (take i d))
  start_at i m is =
      let bound : i < length d = slice_get_within d i m is in
      let count : length starts ≡ suc (length d) = are.count in
      are.each i (omega arith)

  end_at : (i : ℕ) (m : Module) → slice_get d i ≡ Some m → slice_get starts (i + 1) ≡ Some (port_count (take i d) + length m.ports)
  end_at i m is =
      let bound : i < length d = slice_get_within d i m is in
      let count : length starts ≡ suc (length d) = are.count in
      let next : i + 1 ≡ suc i = omega arith in
      are.each (i + 1) (omega arith) ∙ ap (λ k. Some (port_count (take k d))) next ∙ ap Some (count_next d i m is)

  pub number_some : (i j : ℕ) (m : Module) → slice_get d i ≡ Some m → j < length m.ports → port_number starts i j ≡ Some (port_count (take i d) + j)
  number_some i j m is below =
      ap (λ x. option_and_then (λ start. option_and_then (λ end. cond (nat_lt j (end - start)) (Some (start + j)) None) (slice_get starts (i + 1))) x) (start_at i m is)
      ∙ ap (λ x. option_and_then (λ end. cond (nat_lt j (end - port_count (take i d))) (Some (port_count (take i d) + j)) None) x) (end_at i m is)
      ∙ ap (λ b. cond b (Some (port_count (take i d) + j)) None) (lt-ltb j ((port_count (take i d) + length m.ports) - port_count (take i d)) (omega arith))

  -- what has a number is a port
  pub some_number : (i j v : ℕ) → port_number starts i j ≡ Some v → (m : Module) × (slice_get d i ≡ Some m) × (j < length m.ports) × (v ≡ port_count (take i d) + j)
  some_number i j v is =
      let first = and_then_some (slice_get starts i) (λ start. option_and_then (λ end. cond (nat_lt j (end - start)) (Some (start + j)) None) (slice_get starts (i + 1))) is in
      let second = and_then_some (slice_get starts (i + 1)) (λ end. cond (nat_lt j (end - first.0)) (Some (first.0 + j)) None) first.2 in
      let bound : i + 1 < length starts = slice_get_within starts (i + 1) second.0 second.1 in
      let count : length starts ≡ suc (length d) = are.count in
      let there = slice_get_some d i (omega arith) in
      let begins : Some first.0 ≡ Some (port_count (take i d)) = sym first.1 ∙ start_at i there.0 there.1 in
      let ends : Some second.0 ≡ Some (port_count (take i d) + length there.0.ports) = sym second.1 ∙ end_at i there.0 there.1 in
      let begin : first.0 ≡ port_count (take i d) = cc in
      let end : second.0 ≡ port_count (take i d) + length there.0.ports = cc in
      go first.0 second.0 there.0 there.1 begin end (nat_lt j (second.0 - first.0)) refl second.2
    where
      go : (a b : ℕ) (m : Module) → slice_get d i ≡ Some m → a ≡ port_count (take i d) → b ≡ port_count (take i d) + length m.ports
          → (t : Bool) → nat_lt j (b - a) ≡ t → cond t (Some (a + j)) None ≡ Some v
          → (m : Module) × (slice_get d i ≡ Some m) × (j < length m.ports) × (v ≡ port_count (take i d) + j)
      go a b m at begin end true less told =
          let below : j < b - a = ltb-true j (b - a) less in
          let value : a + j ≡ v = cc in
          (m, at, omega arith, omega arith)
      go a b m at begin end false less told = cc

  pub number_once : (i j k l v : ℕ) → port_number starts i j ≡ Some v → port_number starts k l ≡ Some v → (i ≡ k) × (j ≡ l)
  number_once i j k l v is at =
      let first = some_number i j v is in
      let second = some_number k l v at in
      count_once d i k first.0 second.0 j l first.1 second.1 first.2 second.2 (sym first.3 ∙ second.3)

numbers_next : (starts : List ℕ) (ps : List PortPosition) (n : ℕ) (p : PortPosition) → n < length ps
    → numbers_of starts (take (suc n) ps) ≡ numbers_of starts (take n ps) ++ option_to_list (port_number starts (get_or ps n p).owner (get_or ps n p).port)
numbers_next starts [] n p below = absurd (omega arith)
numbers_next starts (q ∷ ps) zero p below = append-nil (option_to_list (port_number starts q.owner q.port))
numbers_next starts (q ∷ ps) (suc n) p below =
    ap (λ ns. option_to_list (port_number starts q.owner q.port) ++ ns) (numbers_next starts ps n p (omega arith))
    ∙ sym (append_assoc (option_to_list (port_number starts q.owner q.port)) (numbers_of starts (take n ps)) (option_to_list (port_number starts (get_or ps n p).owner (get_or ps n p).port)))

-- the numbers of one position more
pub numbers_more : (starts : List ℕ) (ps : List PortPosition) (n : ℕ) (p : PortPosition) → n < length ps
    → numbers_of starts (take (n + 1) ps) ≡ numbers_of starts (take n ps) ++ option_to_list (port_number starts (get_or ps n p).owner (get_or ps n p).port)
numbers_more starts ps n p below =
    let next : n + 1 ≡ suc n = omega arith in
    ap (λ k. numbers_of starts (take k ps)) next ∙ numbers_next starts ps n p below
