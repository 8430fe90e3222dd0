-- Buildings that build the same gates and signals from the same circuit.
use Rattle.std.proofs.Common.{◌≡◌, refl, ap, ap₂, ◌∙◌, ℕ, List, [], ◌∷◌, ◌++◌, take, drop, inl, inr}
use Rattle.wiring.specs.Wiring.{In}
use Rattle.gates.specs.declared.signal.Gate.{Gate}
use Rattle.gates.specs.declared.signal.Signal.{Signal}
use Rattle.gates.specs.Build.{Build, Built, and_then}
use Rattle.hw_model.specs.Flat.{Slot, held_width}
use Rattle.net_gates.specs.RegisterGateLists.{slots_gate_list}

-- the same gates were built, and R holds of what both gave
pub record Alike {A B : Type 0} (R : A → B → Type 0) (a : Built A) (b : Built B) : Type 0 where
  pub gates : a.gates ≡ b.gates
  pub words : R a.got b.got

-- gates, then those of a building
abbrev put_before : {C : Type 0} → List Gate → Built C → Built C
put_before hs b = record { gates = hs ++ b.gates; got = b.got }

-- what follows builds the same
pub alike_then : {A B C : Type 0} (R : A → B → Type 0) (p : Build A) (q : Build B) (f : A → Build C) (g : B → Build C) (n : ℕ) (gates : List Gate) → Alike R (p n gates) (q n gates)
    → ((a : A) (b : B) (hs : List Gate) → R a b → f a n hs ≡ g b n hs) → and_then p f n gates ≡ and_then q g n gates
unfolding and_then
alike_then R p q f g n gates alike each =
    ap₂ (λ hs b. put_before hs b) alike.gates
    (each (p n gates).got (q n gates).got (gates ++ (p n gates).gates) alike.words ∙ ap (λ (hs : List Gate). g (q n gates).got n (gates ++ hs)) alike.gates)

pub then_same : {A C : Type 0} (p q : Build A) (f g : A → Build C) (n : ℕ) (gates : List Gate) → p n gates ≡ q n gates
    → ((a : A) (hs : List Gate) → f a n hs ≡ g a n hs) → and_then p f n gates ≡ and_then q g n gates
then_same {A = A} p q f g n gates same each =
    alike_then (λ (a b : A). a ≡ b) p q f g n gates (record { gates = ap (λ (z : Built A). z.gates) same; words = ap (λ (z : Built A). z.got) same })
    (λ a b hs is. each a hs ∙ ap (λ z. g z n hs) is)

-- slot by slot
pub slots_same : (each other : Slot → List Signal → Build (List Signal)) (ss : List Slot)
    → ((s : Slot) → In s ss → (xs : List Signal) (n : ℕ) (gates : List Gate) → each s xs n gates ≡ other s xs n gates)
    → (content : List Signal) (n : ℕ) (gates : List Gate) → slots_gate_list each ss content n gates ≡ slots_gate_list other ss content n gates
unfolding slots_gate_list
slots_same each other [] same content n gates = refl
slots_same each other (s ∷ ss) same content n gates =
    let rest = slots_same each other ss (λ t here. same t (inr here)) (drop (held_width s.op) content) n in
    then_same (each s (take (held_width s.op) content)) (other s (take (held_width s.op) content)) _ _ n gates (same s (inl refl) (take (held_width s.op) content) n gates)
    (λ x hs. then_same (slots_gate_list each ss (drop (held_width s.op) content)) (slots_gate_list other ss (drop (held_width s.op) content)) _ _ n hs (rest hs) (λ xs ks. refl))
