-- Lists of callees in which each module stands after its callees, as a test that computes.
use Rattle.std.proofs.Common.{◌≡◌, ℕ, zero, suc, ◌+◌, ◌^◌, ◌<◌, Bool, true, ◌&&◌, List, [], ◌∷◌, length, inl, inr, arith}
use Rattle.std.specs.Prelude.{nat_lt}
use Rattle.std.proofs.lemmas.Bool.{and_parts, ltb-true}
use Rattle.wiring.specs.Wiring.{In}
use Rattle.wiring.proofs.Chains.{IsAcyclic-falling}
use Rattle.sched_core.specs.State.{callees_of}
use Rattle.sched_core.specs.Runs.{AreCallees}
use Rattle.sched_core.proofs.RunLemmas.{has_callees}

-- each entry is below n
abbrev pub all_below : ℕ → List ℕ → Bool
all_below n [] = true
all_below n (k ∷ ks) = nat_lt k n && all_below n ks

-- each module from the number n on stands after its callees, and the lists are short
abbrev pub falls : ℕ → List (List ℕ) → Bool
falls n [] = true
falls n (row ∷ rest) = all_below n row && (nat_lt (length row) 4294967296 && falls (n + 1) rest)

below_all : (n : ℕ) (row : List ℕ) (k : ℕ) → all_below n row ≡ true → In k row → k < n
below_all n [] k is here = absurd here
below_all n (j ∷ js) k is (inl same) = let first : j < n = ltb-true j n (and_parts (nat_lt j n) (all_below n js) is).0 in omega arith
below_all n (j ∷ js) k is (inr later) = below_all n js k (and_parts (nat_lt j n) (all_below n js) is).1 later

row_falls : (n : ℕ) (callees : List (List ℕ)) (m k : ℕ) → falls n callees ≡ true → In k (callees_of callees m) → k < n + m
row_falls n [] m k is here = absurd here
row_falls n (row ∷ rest) zero k is here =
    let below : k < n = below_all n row k (and_parts (all_below n row) (nat_lt (length row) 4294967296 && falls (n + 1) rest) is).0 here in omega arith
row_falls n (row ∷ rest) (suc m) k is here =
    let parts = (and_parts (all_below n row) (nat_lt (length row) 4294967296 && falls (n + 1) rest) is).1 in
    let below : k < n + 1 + m = row_falls (n + 1) rest m k (and_parts (nat_lt (length row) 4294967296) (falls (n + 1) rest) parts).1 here in
    omega arith

row_short : (n : ℕ) (callees : List (List ℕ)) (m : ℕ) → falls n callees ≡ true → length (callees_of callees m) < 2 ^ 32
row_short n [] m is = omega arith
row_short n (row ∷ rest) zero is =
    let parts = (and_parts (all_below n row) (nat_lt (length row) 4294967296 && falls (n + 1) rest) is).1 in
    ltb-true (length row) 4294967296 (and_parts (nat_lt (length row) 4294967296) (falls (n + 1) rest) parts).0
row_short n (row ∷ rest) (suc m) is =
    let parts = (and_parts (all_below n row) (nat_lt (length row) 4294967296 && falls (n + 1) rest) is).1 in
    row_short (n + 1) rest m (and_parts (nat_lt (length row) 4294967296) (falls (n + 1) rest) parts).1

-- such lists are those of a schedule
pub AreCallees-falling : (callees : List (List ℕ)) → falls 0 callees ≡ true → length callees < 2 ^ 32 → AreCallees callees
AreCallees-falling callees is few = record {
  acyclic = IsAcyclic-falling (callees_of callees) (λ m. m) (λ m k here. let lower : k < 0 + m = row_falls 0 callees m k is here in omega arith);
  within = λ m k here.
      let lower : k < 0 + m = row_falls 0 callees m k is here in
      let is_module : m < length callees = has_callees callees m k here in
      omega arith;
  modules = few;
  entries = λ m. row_short 0 callees m is;
}
