-- Two registers of eight bits, one after the other, in one module and as instances of a module: their texts, trees and
-- steps, computed.
use Rattle.std.proofs.Common.{◌≡◌, ℕ, zero, suc, Bool, true, false, List, [], ◌∷◌, ◌++◌, Option, Some, None, refl, sym, ◌∙◌, ap, subst, ◌||◌, codes, option_and_then}
use Rattle.bits_core.specs.Word.{Word, bits}
use Rattle.std.specs.Cmp.Lexicographic.{bytes_decides}
use Rattle.hw_model.specs.Types.{Name}
use Rattle.hw_model.specs.Design.{same_name}
use Rattle.hw_model.specs.Machine.{RunAfter, Run}
use Rattle.verilog_model.specs.Checks.{contains_name}
use Rattle.verilog_model.specs.Tree.{VPort, Connection, Item, VModule, Tree}
use Rattle.verilog_model.specs.Tree.Expr.{name, literal}
use Rattle.verilog_model.specs.Tree.Block.{if_else_if}
use Rattle.verilog_model.specs.Tree.Item.{wire, reg, assign, always, instance}
use Rattle.verilog_model.specs.Reserved.{reserved_words}
use Rattle.verilog_model.specs.Hierarchy.{VNet, VPath, VInstance, vnet, Drive, drive, drive_at, find_instance, find_vmodule, vmodule_at, width_at, vregisters, vstate}
use Rattle.verilog_model.specs.Hierarchy.Drive.{nothing}
use Rattle.verilog_model.specs.Meaning.{TreeSettled, tree_machine, drive_value, tree_outputs, next_vcontent, risen_vcontent}
use Rattle.verilog_model.specs.Behaviour.{IsVerilog}

abbrev pub high : Option Name
high = Some (codes "7")

abbrev pub input_port : Option Name → Name → VPort
input_port h n = record { is_output = false; high = h; name = n }

abbrev pub output_port : Name → VPort
output_port n = record { is_output = true; high = high; name = n }

-- resets `r` to 9, or loads it with `d`
abbrev register : Name → Name → Item
register r d = always (codes "clk") (if_else_if (name (codes "rst")) (record { target = r; value = literal (codes "8") false (codes "9") })
    (name (codes "en")) (record { target = r; value = name d }))

abbrev shared_ports : List VPort
shared_ports = input_port None (codes "clk") ∷ input_port None (codes "rst") ∷ input_port None (codes "en") ∷ input_port high (codes "d") ∷ []

-- ---- one module

abbrev flat : Tree
flat = record {
  name = codes "Two";
  ports = shared_ports ++ (output_port (codes "a") ∷ output_port (codes "b") ∷ []);
  items = reg high (codes "u1_r") ∷ reg high (codes "u2_r") ∷ register (codes "u1_r") (codes "d") ∷ register (codes "u2_r") (codes "u1_r") ∷
      assign (codes "a") (name (codes "u1_r")) ∷ assign (codes "b") (name (codes "u2_r")) ∷ [];
} ∷ []

abbrev flat_text : List ℕ
flat_text = codes "module Two(input wire clk, input wire rst, input wire en, input wire [7:0] d, output wire [7:0] a, output wire [7:0] b); reg [7:0] u1_r; reg [7:0] u2_r; always @(posedge clk) if (rst) u1_r <= 8'h9; else if (en) u1_r <= d; always @(posedge clk) if (rst) u2_r <= 8'h9; else if (en) u2_r <= u1_r; assign a = u1_r; assign b = u2_r; endmodule"

flat_is_verilog : IsVerilog flat_text flat
unfolding reserved_words
flat_is_verilog = record { spelled = refl; fits = refl; checks = refl }

-- ---- a module and two instances of it

abbrev join : Name → Name → Connection
join p n = record { port = p; value = name n }

abbrev joins : Name → Name → List Connection
joins d q = join (codes "clk") (codes "clk") ∷ join (codes "rst") (codes "rst") ∷ join (codes "en") (codes "en") ∷ join (codes "d") d ∷ join (codes "q") q ∷ []

abbrev layered : Tree
layered = record {
  name = codes "Reg";
  ports = shared_ports ++ (output_port (codes "q") ∷ []);
  items = reg high (codes "r") ∷ register (codes "r") (codes "d") ∷ assign (codes "q") (name (codes "r")) ∷ [];
} ∷ record {
  name = codes "Two";
  ports = shared_ports ++ (output_port (codes "a") ∷ output_port (codes "b") ∷ []);
  items = wire high (codes "u1_q") ∷ instance (codes "Reg") (codes "u1") (joins (codes "d") (codes "u1_q")) ∷
      wire high (codes "u2_q") ∷ instance (codes "Reg") (codes "u2") (joins (codes "u1_q") (codes "u2_q")) ∷
      assign (codes "a") (name (codes "u1_q")) ∷ assign (codes "b") (name (codes "u2_q")) ∷ [];
} ∷ []

abbrev layered_text : List ℕ
layered_text = codes "module Reg(input wire clk, input wire rst, input wire en, input wire [7:0] d, output wire [7:0] q); reg [7:0] r; always @(posedge clk) if (rst) r <= 8'h9; else if (en) r <= d; assign q = r; endmodule module Two(input wire clk, input wire rst, input wire en, input wire [7:0] d, output wire [7:0] a, output wire [7:0] b); wire [7:0] u1_q; Reg u1(.clk(clk), .rst(rst), .en(en), .d(d), .q(u1_q)); wire [7:0] u2_q; Reg u2(.clk(clk), .rst(rst), .en(en), .d(u1_q), .q(u2_q)); assign a = u1_q; assign b = u2_q; endmodule"

layered_is_verilog : IsVerilog layered_text layered
unfolding reserved_words
layered_is_verilog = record { spelled = refl; fits = refl; checks = refl }

-- ---- four steps

-- the map of the nets after k rounds from none
abbrev rounds : ℕ → Tree → Word → Word → VNet → Word
rounds zero t inputs content v = []
rounds (suc k) t inputs content v = drive_value t (codes "Two") inputs content (rounds k t inputs content) (width_at (vmodule_at t (codes "Two") v.path) v.name) (drive t (codes "Two") v)

-- the content after the first phase of a step, where a map is given for inputs and content
abbrev risen_over : Tree → (Word → Word → VNet → Word) → Word → Word → Word → Word
risen_over t ρ before s content = risen_vcontent (vregisters t (codes "Two")) (ρ before content) (ρ s content) content

-- the content after the rest of the step
abbrev next_over : Tree → (Word → Word → VNet → Word) → Word → Word → Word
next_over t ρ s content = next_vcontent (vregisters t (codes "Two")) (ρ s content) content

-- the outputs of each step after one with the inputs `before`
abbrev outputs_over : Tree → (Word → Word → VNet → Word) → Word → Word → List Word → List Word
outputs_over t ρ before content [] = []
outputs_over t ρ before content (s ∷ steps) =
    tree_outputs t (codes "Two") (ρ s (risen_over t ρ before s content)) ∷ outputs_over t ρ s (next_over t ρ s (risen_over t ρ before s content)) steps

-- where those maps are settled they are a run
runs_along : (t : Tree) (ρ : Word → Word → VNet → Word) → ((s content : Word) → TreeSettled t (codes "Two") s content (ρ s content)) → (before content : Word) (steps : List Word) →
    RunAfter (tree_machine t (codes "Two")) before content steps (outputs_over t ρ before content steps)
runs_along t ρ settled before content [] = tt
runs_along t ρ settled before content (s ∷ steps) = (
  next_over t ρ s (risen_over t ρ before s content),
  record {
    earlier = ρ before content;
    first_map = ρ s content;
    map_of = ρ s (risen_over t ρ before s content);
    settled_earlier = settled before content;
    settled_first = settled s content;
    settled = settled s (risen_over t ρ before s content);
    read = refl;
    taken = refl;
  },
  runs_along t ρ settled s (next_over t ρ s (risen_over t ρ before s content)) steps,
)

-- the clock's rise, the reset, the enable, and `d`
abbrev inputs : Bool → Bool → Bool → ℕ → Word
inputs rise rst en d = rise ∷ rst ∷ en ∷ bits 8 d

abbrev steps : List Word
steps = inputs true false true 17 ∷ inputs true false false 34 ∷ inputs true true false 51 ∷ inputs false true true 68 ∷ []

abbrev pair : ℕ → ℕ → Word
pair a b = bits 8 a ++ bits 8 b

abbrev outputs : List Word
outputs = pair 5 6 ∷ pair 17 5 ∷ pair 17 5 ∷ pair 9 9 ∷ []

sizes : (vstate flat (codes "Two") ≡ 16) × (vstate layered (codes "Two") ≡ 16)
sizes = (refl, refl)

flat_steps : outputs_over flat (rounds 2 flat) [] (pair 5 6) steps ≡ outputs
flat_steps = refl

layered_steps : outputs_over layered (rounds 4 layered) [] (pair 5 6) steps ≡ outputs
layered_steps = refl

-- ---- the maps are settled

-- after k rounds another round changes nothing of what the drive gives
abbrev Steady : Tree → ℕ → Drive → Type 0
Steady t k d =
    (s content : Word) (w : ℕ) → drive_value t (codes "Two") s content (rounds k t s content) w d ≡ drive_value t (codes "Two") s content (rounds (suc k) t s content) w d

-- what holds of each name of a list
abbrev Each : (Name → Type 0) → List Name → Type 0
Each Q [] = Unit {0}
Each Q (n ∷ ns) = Q n × Each Q ns

-- what holds of each of them, and of each name that is none of them, holds of every name
by_name : (Q : Name → Type 0) (n : Name) (ns : List Name) → Each Q ns → (contains_name n ns ≡ false → Q n) → Q n
by_name Q n [] each other = other refl
by_name Q n (m ∷ ns) each other = go (same_name m n) refl (by_name Q n ns each.1) where
  go : (b : Bool) → same_name m n ≡ b → ((contains_name n ns ≡ false → Q n) → Q n) → Q n
  go true e f = subst Q ((bytes_decides m n).0 e) each.0
  go false e f = f (λ h. other (ap (λ b. b || contains_name n ns) e ∙ h))

-- a name of a list is not a name that is none of them
apart : (m n : Name) (ns : List Name) → contains_name n ns ≡ false → contains_name m ns ≡ true → same_name m n ≡ false
apart m n ns h g = go (same_name m n) refl where
  go : (b : Bool) → same_name m n ≡ b → b ≡ false
  go false e = refl
  go true e = let f : contains_name n ns ≡ true = subst (λ k. contains_name k ns ≡ true) ((bytes_decides m n).0 e) g in cc (f, h)

abbrev flat_names : List Name
flat_names = codes "clk" ∷ codes "rst" ∷ codes "en" ∷ codes "d" ∷ codes "a" ∷ codes "b" ∷ codes "u1_r" ∷ codes "u2_r" ∷ []

flat_other : (n : Name) → contains_name n flat_names ≡ false → drive flat (codes "Two") (vnet [] n) ≡ nothing
flat_other n h = rw (away (codes "clk") refl, away (codes "rst") refl, away (codes "en") refl, away (codes "d") refl, away (codes "a") refl, away (codes "b") refl, away (codes "u1_r") refl, away (codes "u2_r") refl, away (codes "a") refl, away (codes "b") refl) refl where
  away : (m : Name) → contains_name m flat_names ≡ true → same_name m n ≡ false
  away m g = apart m n flat_names h g

flat_steady : (n : Name) → Steady flat 1 (drive flat (codes "Two") (vnet [] n))
flat_steady n =
    by_name (λ n. Steady flat 1 (drive flat (codes "Two") (vnet [] n))) n flat_names
    (λ s c w. refl, (λ s c w. refl, (λ s c w. refl, (λ s c w. refl, (λ s c w. refl, (λ s c w. refl, (λ s c w. refl, (λ s c w. refl, tt))))))))
    (λ h. subst (Steady flat 1) (sym (flat_other n h)) (λ s c w. refl))

-- there is no other module
flat_outside : (u : Name) (q : VPath) → vmodule_at flat (codes "Two") (u ∷ q) ≡ None
flat_outside u [] = refl
flat_outside u (w ∷ q) = ap (λ o. option_and_then (λ (m : VModule). option_and_then (λ (i : VInstance). find_vmodule flat i.module_name) (find_instance m.items u)) o) (flat_outside w q)

flat_settled : (s content : Word) → TreeSettled flat (codes "Two") s content (rounds 2 flat s content)
flat_settled s content v = go v.path where
  go : (q : VPath) → rounds 2 flat s content (vnet q v.name)
      ≡ drive_value flat (codes "Two") s content (rounds 2 flat s content) (width_at (vmodule_at flat (codes "Two") q) v.name) (drive flat (codes "Two") (vnet q v.name))
  go [] = flat_steady v.name s content (width_at (vmodule_at flat (codes "Two") []) v.name)
  go (u ∷ q) = subst (λ o. Steady flat 1 (drive_at flat (codes "Two") (u ∷ q) v.name o)) (sym (flat_outside u q)) (λ s c w. refl) s content (width_at (vmodule_at flat (codes "Two") (u ∷ q)) v.name)

-- the four steps are a run of the one module
flat_runs : Run (tree_machine flat (codes "Two")) (pair 5 6) steps outputs
flat_runs = runs_along flat (rounds 2 flat) flat_settled [] (pair 5 6) steps

-- ---- the same of the module of two instances

abbrev top_names : List Name
top_names = codes "clk" ∷ codes "rst" ∷ codes "en" ∷ codes "d" ∷ codes "a" ∷ codes "b" ∷ codes "u1_q" ∷ codes "u2_q" ∷ []

abbrev inner_names : List Name
inner_names = codes "clk" ∷ codes "rst" ∷ codes "en" ∷ codes "d" ∷ codes "q" ∷ codes "r" ∷ []

top_other : (n : Name) → contains_name n top_names ≡ false → drive layered (codes "Two") (vnet [] n) ≡ nothing
top_other n h =
    rw (away (codes "clk") refl, away (codes "rst") refl, away (codes "en") refl, away (codes "d") refl, away (codes "a") refl, away (codes "b") refl, away (codes "u1_q") refl, away (codes "u2_q") refl, away (codes "a") refl, away (codes "b") refl) refl where
      away : (m : Name) → contains_name m top_names ≡ true → same_name m n ≡ false
      away m g = apart m n top_names h g

abbrev Inner : Name → Name → Type 0
Inner u n = Steady layered 3 (drive layered (codes "Two") (vnet (u ∷ []) n))

first_other : (n : Name) → contains_name n inner_names ≡ false → drive layered (codes "Two") (vnet (codes "u1" ∷ []) n) ≡ nothing
first_other n h =
    rw (away (codes "clk") refl, away (codes "rst") refl, away (codes "en") refl, away (codes "d") refl, away (codes "q") refl, away (codes "r") refl, away (codes "q") refl) refl where
      away : (m : Name) → contains_name m inner_names ≡ true → same_name m n ≡ false
      away m g = apart m n inner_names h g

second_other : (n : Name) → contains_name n inner_names ≡ false → drive layered (codes "Two") (vnet (codes "u2" ∷ []) n) ≡ nothing
second_other n h =
    rw (away (codes "clk") refl, away (codes "rst") refl, away (codes "en") refl, away (codes "d") refl, away (codes "q") refl, away (codes "r") refl, away (codes "q") refl) refl where
      away : (m : Name) → contains_name m inner_names ≡ true → same_name m n ≡ false
      away m g = apart m n inner_names h g

top_steady : (n : Name) → Steady layered 3 (drive layered (codes "Two") (vnet [] n))
top_steady n =
    by_name (λ n. Steady layered 3 (drive layered (codes "Two") (vnet [] n))) n top_names
    (λ s c w. refl, (λ s c w. refl, (λ s c w. refl, (λ s c w. refl, (λ s c w. refl, (λ s c w. refl, (λ s c w. refl, (λ s c w. refl, tt))))))))
    (λ h. subst (Steady layered 3) (sym (top_other n h)) (λ s c w. refl))

first_steady : (n : Name) → Inner (codes "u1") n
first_steady n =
    by_name (Inner (codes "u1")) n inner_names
    (λ s c w. refl, (λ s c w. refl, (λ s c w. refl, (λ s c w. refl, (λ s c w. refl, (λ s c w. refl, tt))))))
    (λ h. subst (Steady layered 3) (sym (first_other n h)) (λ s c w. refl))

second_steady : (n : Name) → Inner (codes "u2") n
second_steady n =
    by_name (Inner (codes "u2")) n inner_names
    (λ s c w. refl, (λ s c w. refl, (λ s c w. refl, (λ s c w. refl, (λ s c w. refl, (λ s c w. refl, tt))))))
    (λ h. subst (Steady layered 3) (sym (second_other n h)) (λ s c w. refl))

abbrev instance_names : List Name
instance_names = codes "u1" ∷ codes "u2" ∷ []

-- the module of another instance is none
no_instance : (u : Name) → contains_name u instance_names ≡ false → vmodule_at layered (codes "Two") (u ∷ []) ≡ None
no_instance u h = rw (apart (codes "u1") u instance_names h refl, apart (codes "u2") u instance_names h refl) refl

inner_steady : (u n : Name) → Inner u n
inner_steady u n =
    by_name (λ u. Inner u n) u instance_names (first_steady n, (second_steady n, tt))
    (λ h. subst (λ o. Steady layered 3 (drive_at layered (codes "Two") (u ∷ []) n o)) (sym (no_instance u h)) (λ s c w. refl))

-- a module, if there is one, that has no instances
abbrev HasNone : Option VModule → Type 0
HasNone None = Unit {0}
HasNone (Some m) = (u : Name) → find_instance m.items u ≡ None

within_none : (u : Name) (o : Option VModule) → HasNone o → option_and_then (λ (m : VModule). option_and_then (λ (i : VInstance). find_vmodule layered i.module_name) (find_instance m.items u)) o ≡ None
within_none u None h = refl
within_none u (Some m) h = ap (λ x. option_and_then (λ (i : VInstance). find_vmodule layered i.module_name) x) (h u)

inner_has_none : (u : Name) (q : VPath) → HasNone (vmodule_at layered (codes "Two") (u ∷ q))
inner_has_none u [] = by_name (λ u. HasNone (vmodule_at layered (codes "Two") (u ∷ []))) u instance_names (λ w. refl, (λ w. refl, tt)) (λ h. subst HasNone (sym (no_instance u h)) tt)
inner_has_none u (w ∷ q) = subst HasNone (sym (within_none u (vmodule_at layered (codes "Two") (w ∷ q)) (inner_has_none w q))) tt

layered_settled : (s content : Word) → TreeSettled layered (codes "Two") s content (rounds 4 layered s content)
layered_settled s content v = go v.path where
  go : (q : VPath) → rounds 4 layered s content (vnet q v.name)
      ≡ drive_value layered (codes "Two") s content (rounds 4 layered s content) (width_at (vmodule_at layered (codes "Two") q) v.name) (drive layered (codes "Two") (vnet q v.name))
  go [] = top_steady v.name s content (width_at (vmodule_at layered (codes "Two") []) v.name)
  go (u ∷ []) = inner_steady u v.name s content (width_at (vmodule_at layered (codes "Two") (u ∷ [])) v.name)
  go (u ∷ w ∷ q) =
      subst (λ o. Steady layered 3 (drive_at layered (codes "Two") (u ∷ w ∷ q) v.name o)) (sym (within_none u (vmodule_at layered (codes "Two") (w ∷ q)) (inner_has_none w q))) (λ s c w. refl) s content
      (width_at (vmodule_at layered (codes "Two") (u ∷ w ∷ q)) v.name)

-- and of the two instances
layered_runs : Run (tree_machine layered (codes "Two")) (pair 5 6) steps outputs
layered_runs = runs_along layered (rounds 4 layered) layered_settled [] (pair 5 6) steps
