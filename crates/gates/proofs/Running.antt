-- Buildings that were run one after another.
use Rattle.std.proofs.Common.{◌≡◌, refl, sym, ap, ap₂, ◌∙◌, ◌++◌, append_assoc, append-nil, Result, Ok, Err, IfOk}
use Rattle.gates.specs.Build.{Build, done, and_then}
use Rattle.gates.specs.Circuits.{Circuit, Runs}

pub runs-done : {A : Type 0} {s : Circuit} {a : A} → Runs (done a) s s a
unfolding done
runs-done {s = s} = record { inputs = refl; gates = sym (append-nil s.gates); is = refl }

pub runs_then : {A B : Type 0} {p : Build A} (f : A → Build B) {s t u : Circuit} {a : A} {b : B}
    → Runs p s t a → Runs (f a) t u b → Runs (and_then p f) s u b
unfolding and_then
runs_then {p = p} f {s = s} {t = t} {a = a} first second = record {
  inputs = second.inputs ∙ first.inputs;
  gates = second.gates ∙ ap₂ (λ xs ys. xs ++ ys) first.gates (ap (λ x. x.gates) start)
      ∙ append_assoc s.gates (p s.inputs s.gates).gates _;
  is = second.is ∙ ap (λ x. x.got) start;
}
  where
    start : f a t.inputs t.gates ≡ f (p s.inputs s.gates).got s.inputs (s.gates ++ (p s.inputs s.gates).gates)
    start = ap₂ (λ x y. f a x y) first.inputs first.gates ∙ ap (λ x. f x s.inputs (s.gates ++ (p s.inputs s.gates).gates)) first.is

-- the same where the second may want memory
pub runs_last : {A B E : Type 0} {p : Build A} (f : A → Build B) {s t : Circuit} (u : Circuit) {a : A} (r : Result B E)
    → Runs p s t a → IfOk r (Runs (f a) t u) → IfOk r (Runs (and_then p f) s u)
runs_last f u (Ok b) first second = runs_then f first second
runs_last f u (Err e) first second = second
