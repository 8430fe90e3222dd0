-- The formula of a building is satisfied just by evaluations under which its signal is 1.
use Rattle.std.proofs.Common.{◌≡◌, refl, sym, ◌∙◌, ℕ, ◌+◌, ◌==◌, ◌&&◌, ◌||◌, Bool, true, false, List, [], ◌++◌, length, eq-eqb, eqb-true, ap, nat_le, le_refl}
use Rattle.std.proofs.lemmas.Bool.{le-leb}
use Rattle.std.specs.List.{list_all}
use Rattle.resolution_proof.specs.Clause.{is_clause}
use Rattle.resolution_proof.specs.Formula.{makes_true, satisfies, are_clauses}
use Rattle.hw_model.specs.Equality.{both, both_of}
use Rattle.gates.specs.declared.signal.Signal.{Signal}
use Rattle.gates.specs.declared.signal.Signal.TheVariants.{Fixed, Wire}
use Rattle.gates.specs.Signals.{pin_bit, signal_bit}
use Rattle.gates.specs.Build.{Build}
use Rattle.gates.specs.Order.{IsSignalWithin, AreInOrder, AreKept}
use Rattle.gates.specs.Clauses.{clauses_from}
use Rattle.gates.proofs.Tseitin.{list_all-append, true_from_kept, kept_from_true, clauses_are_clauses}
use Rattle.net_gates.specs.Miters.{signal_clauses, formula_of}

padded : (b : Bool) → ((b || false) && true) ≡ b
padded true = refl
padded false = refl

signal_true : (m : List Bool) (s : Signal) → list_all (makes_true m) (signal_clauses s) ≡ signal_bit m s
signal_true m (Fixed true) = refl
signal_true m (Fixed false) = refl
signal_true m (Wire p) = padded (pin_bit m p)

-- what an assignment that satisfies the formula is
pub record Satisfied (m : List Bool) (inputs : ℕ) (p : Build Signal) : Type 0 where
  pub size : length m ≡ inputs + length (p inputs []).gates
  pub kept : AreKept m inputs (p inputs []).gates
  pub bit : signal_bit m (p inputs []).got ≡ true

pub satisfied_from : (m : List Bool) (inputs : ℕ) (p : Build Signal) → satisfies m (formula_of inputs p) ≡ true → Satisfied m inputs p
satisfied_from m inputs p h =
    let gates = (p inputs []).gates in
    let s = (p inputs []).got in
    let one = both_of (length m == inputs + length gates) (list_all (makes_true m) (clauses_from inputs gates ++ signal_clauses s)) h in
    let two = both_of (list_all (makes_true m) (clauses_from inputs gates)) (list_all (makes_true m) (signal_clauses s))
    (sym (list_all-append (makes_true m) (clauses_from inputs gates) (signal_clauses s)) ∙ one.1) in
    record {
      size = eqb-true (length m) (inputs + length gates) one.0;
      kept = kept_from_true m inputs gates two.0;
      bit = sym (signal_true m s) ∙ two.1;
    }

pub satisfies_from : (m : List Bool) (inputs : ℕ) (p : Build Signal) → Satisfied m inputs p → satisfies m (formula_of inputs p) ≡ true
satisfies_from m inputs p is =
    let gates = (p inputs []).gates in
    let s = (p inputs []).got in
    both (length m == inputs + length gates) (list_all (makes_true m) (clauses_from inputs gates ++ signal_clauses s))
    (eq-eqb (length m) (inputs + length gates) is.size)
    (list_all-append (makes_true m) (clauses_from inputs gates) (signal_clauses s)
    ∙ both (list_all (makes_true m) (clauses_from inputs gates)) (list_all (makes_true m) (signal_clauses s))
    (true_from_kept m inputs gates is.kept) (signal_true m s ∙ is.bit))

-- ---- clauses

signal_is_clause : (n : ℕ) (s : Signal) → IsSignalWithin n s → are_clauses n (signal_clauses s) ≡ true
signal_is_clause n (Fixed true) h = refl
signal_is_clause n (Fixed false) h = refl
signal_is_clause n (Wire p) h =
    let among : (nat_le 1 p.variable && nat_le p.variable n) ≡ true = both (nat_le 1 p.variable) (nat_le p.variable n) (le-leb 1 p.variable h.0) (le-leb p.variable n h.1) in
    ap (λ t. (t && true) && true) among

pub clauses_of_formula : (inputs : ℕ) (p : Build Signal) → AreInOrder inputs (p inputs []).gates → IsSignalWithin (inputs + length (p inputs []).gates) (p inputs []).got
    → are_clauses (formula_of inputs p).variables (formula_of inputs p).clauses ≡ true
clauses_of_formula inputs p order within =
    let gates = (p inputs []).gates in
    let n = inputs + length gates in
    list_all-append (is_clause n) (clauses_from inputs gates) (signal_clauses (p inputs []).got)
    ∙ both (list_all (is_clause n) (clauses_from inputs gates)) (list_all (is_clause n) (signal_clauses (p inputs []).got))
    (clauses_are_clauses inputs n gates order (le_refl n)) (signal_is_clause n (p inputs []).got within)
