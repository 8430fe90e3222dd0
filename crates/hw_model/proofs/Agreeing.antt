-- Modules that agree have the same runs, where asynchronous resets come from inputs.
use Rattle.std.proofs.Common.{◌≡◌, ◌↔◌, ℕ, zero, suc, ◌+◌, ◌≤◌, Bool, true, false, cond, List, [], ◌∷◌, length, map, take, drop, slice_get, Option, Some, None, refl, sym, ap, ap₂, subst, ◌∙◌, arith, length-append}
use Rattle.std.proofs.lemmas.List.{drop_all}
use Rattle.bits_core.specs.Word.{Word, first}
use Rattle.bits_core.proofs.First.{length-first}
use Rattle.hw_model.specs.Types.{Name, HwType, width}
use Rattle.hw_model.specs.Design.{Ref, Port, Op, Module, Design, find_module, is_instance, is_register, is_output_op, result_type}
use Rattle.hw_model.specs.Design.Ref.{port, result, undefined}
use Rattle.hw_model.specs.Flat.{Path, Net, net, Source, source, module_at, input_width, input_of, copy_of, held_of, made_of, given_ref, instances, base, body_state, Slot, held_width, registers, state, depth}
use Rattle.hw_model.specs.Flat.Source.{nowhere, input, held, copy, op_result}
use Rattle.hw_model.specs.Machine.{Step, RunAfter, Run}
use Rattle.hw_model.specs.Meaning.{needs_of, value_of, Settled, HasHeights, map_slots, next_in, next_content, risen_content, outputs as outputs_under, machine}
use Rattle.hw_model.specs.Sound.{body_of, ports_of}
use Rattle.hw_model.specs.Resets.{ResetsFromPorts, StepsAreReset}
use Rattle.hw_model.specs.Agreement.{input_bits, levelled, LevelStep, AgreeAt, Agree}
use Rattle.hw_model.proofs.Machines.{AlwaysSettles, settled_same, step_exists, run_exists}
use Rattle.hw_model.proofs.Finite.{settles_with_heights}
use Rattle.hw_model.proofs.Content.{slots_width, registers_width}
use Rattle.hw_model.proofs.Paths.{op_in, result_in, result_here, input_ports}
use Rattle.hw_model.proofs.Resets.{run_reset}

-- ---- content

-- the content slot by slot is as wide as the slots
pub length-map_slots : (each : Slot → Word → Word) (ss : List Slot) (q : Word) → length (map_slots each ss q) ≡ slots_width ss
length-map_slots each [] q = refl
length-map_slots each (s ∷ ss) q =
    length-append (first (held_width s.op) (each s (first (held_width s.op) q))) (map_slots each ss (drop (held_width s.op) q))
    ∙ ap₂ (λ a b. a + b) (length-first (held_width s.op) (each s (first (held_width s.op) q))) (length-map_slots each ss (drop (held_width s.op) q))

-- what a module's registers hold has as many bits as its content
pub length-content : (each : Slot → Word → Word) (d : Design) (top : Name) (q : Word) → length (map_slots each (registers d top) q) ≡ state d top
length-content each d top q = length-map_slots each (registers d top) q ∙ registers_width d (depth d) [] top

-- ---- inputs past those of a module

first_within : (n start w : ℕ) (x : Word) → start + w ≤ n → first w (drop start (first n x)) ≡ first w (drop start x)
first_within n start zero x h = refl
first_within zero zero (suc w) x h = absurd (omega arith)
first_within (suc n) zero (suc w) [] h = ap (λ (bs : Word). false ∷ bs) (first_within n zero w [] (omega arith))
first_within (suc n) zero (suc w) (b ∷ x) h = ap (λ (bs : Word). b ∷ bs) (first_within n zero w x (omega arith))
first_within zero (suc start) (suc w) x h = absurd (omega arith)
first_within (suc n) (suc start) (suc w) [] h = first_within n start (suc w) [] (omega arith) ∙ ap (first (suc w)) (drop_all start [] (omega arith))
first_within (suc n) (suc start) (suc w) (b ∷ x) h = first_within n start (suc w) x (omega arith)

-- an input port's bits are among the inputs
pub port_within : (ps : List Port) (j : ℕ) (q : Port) → slice_get ps j ≡ Some q → q.is_output ≡ false → input_width (take j ps) + width q.type ≤ input_width ps
port_within [] j q at inward = cc
port_within (p ∷ ps) zero q at inward =
    let same : p ≡ q = cc in
    let way : p.is_output ≡ false = ap (λ (z : Port). z.is_output) same ∙ inward in
    let own : width p.type ≡ width q.type = ap (λ (z : Port). width z.type) same in
    simp way (omega (arith, own))
port_within (p ∷ ps) (suc j) q at inward = go p.is_output (port_within ps j q at inward)
  where
    go : (b : Bool) → input_width (take j ps) + width q.type ≤ input_width ps
        → cond b (input_width (take j ps)) (width p.type + input_width (take j ps)) + width q.type ≤ cond b (input_width ps) (width p.type + input_width ps)
    go true h = h
    go false h = omega (arith, h)

-- the source's bits of inputs are among the first n
abbrev TakesWithin : ℕ → Source → Type 0
TakesWithin n (input start w) = start + w ≤ n
TakesWithin n _ = Unit {0}

module _ (d : Design) (top : Name) where
  input_within : (j : ℕ) (y : Option Port) → slice_get (ports_of (find_module d top)) j ≡ y
      → TakesWithin (input_bits d top) (input_of y (input_width (take j (ports_of (find_module d top)))))
  input_within j None at = tt
  input_within j (Some p) at = go p.is_output refl
    where
      go : (b : Bool) → p.is_output ≡ b
          → TakesWithin (input_bits d top) (cond b nowhere (input (input_width (take j (ports_of (find_module d top)))) (width p.type)))
      go true way = tt
      go false way = port_within (ports_of (find_module d top)) j p at way

  copy_within : (p : Path) (r : Option Ref) → TakesWithin (input_bits d top) (copy_of p r)
  copy_within p None = tt
  copy_within p (Some r) = tt

  held_within : (start : ℕ) (t : Option HwType) → TakesWithin (input_bits d top) (held_of start t)
  held_within start None = tt
  held_within start (Some t) = tt

  made_within : (p : Path) (o : Op) (k : ℕ) (t : Option HwType) → TakesWithin (input_bits d top) (made_of p o k t)
  made_within p o k None = tt
  made_within p o k (Some t) = tt

  op_within : (p : Path) (os : List Op) (j k : ℕ) (o : Op) → TakesWithin (input_bits d top) (op_in d top p os j k o)
  op_within p os j k o = go (is_register o) (is_instance o) (is_output_op o)
    where
      go : (a b c : Bool) → TakesWithin (input_bits d top)
          (cond a (held_of (base d top p + body_state (state d) (take j os)) (result_type o k))
          (cond b (copy_of (length (instances (take j os)) ∷ p) (given_ref d k o))
          (cond c nowhere (made_of p o k (result_type o k)))))
      go true b c = held_within (base d top p + body_state (state d) (take j os)) (result_type o k)
      go false true c = copy_within (length (instances (take j os)) ∷ p) (given_ref d k o)
      go false false true = tt
      go false false false = made_within p o k (result_type o k)

  result_within : (p : Path) (os : List Op) (j k : ℕ) (y : Option Op) → TakesWithin (input_bits d top) (result_in d top p os j k y)
  result_within p os j k None = tt
  result_within p os j k (Some o) = op_within p os j k o

  source_within : (p : Path) (r : Ref) → TakesWithin (input_bits d top) (source d top (net p r))
  source_within [] (port j) =
      subst (TakesWithin (input_bits d top)) (sym (input_ports j (find_module d top))) (input_within j (slice_get (ports_of (find_module d top)) j) refl)
  source_within (u ∷ p) (port j) = copy_within p _
  source_within p (result j k) =
      subst (TakesWithin (input_bits d top)) (sym (result_here d top p j k))
      (result_within p (body_of (module_at d top p)) j k (slice_get (body_of (module_at d top p)) j))
  source_within p undefined = tt

  -- a settled map is settled under the first bits of the inputs
  settled_first_bits : (x q : Word) (ρ : Net → Word) → Settled d top x q ρ → Settled d top (first (input_bits d top) x) q ρ
  settled_first_bits x q ρ settled n = settled n ∙ go (source d top n) (source_within n.path n.ref)
    where
      go : (s : Source) → TakesWithin (input_bits d top) s
          → value_of x q s (map ρ (needs_of s)) ≡ value_of (first (input_bits d top) x) q s (map ρ (needs_of s))
      go nowhere within = refl
      go (input start w) within = sym (first_within (input_bits d top) start w x within)
      go (held start w) within = refl
      go (copy m) within = refl
      go (op_result kind types t k ns) within = refl

  step_first_bits : (x q given after : Word) → LevelStep d top x q given after → LevelStep d top (first (input_bits d top) x) q given after
  step_first_bits x q given after step = record {
    first_map = step.first_map;
    map_of = step.map_of;
    settled_first = settled_first_bits x q step.first_map step.settled_first;
    settled = settled_first_bits x (levelled d top step.first_map q) step.map_of step.settled;
    read = step.read;
    taken = step.taken;
  }

  -- a step whose first phase gives what the levels of the resets give is one by these levels
  level_step : (before x q given after : Word) (step : Step (machine d top) before x q given after)
      → risen_content (registers d top) step.earlier step.first_map q ≡ levelled d top step.first_map q → LevelStep d top x q given after
  level_step before x q given after step levels = record {
    first_map = step.first_map;
    map_of = step.map_of;
    settled_first = step.settled_first;
    settled = subst (λ c. Settled d top x c step.map_of) levels step.settled;
    read = step.read;
    taken = step.taken ∙ ap (next_content (registers d top) step.map_of) levels;
  }

  left_wide : (x q given after : Word) → LevelStep d top x q given after → length after ≡ state d top
  left_wide x q given after step = ap length step.taken ∙ length-content (next_in step.map_of) d top (levelled d top step.first_map q)

-- ---- steps by levels and first steps

module _ (d : Design) (top : Name) where
  -- a step by levels has one list of outputs and leaves one content
  level_unique : HasHeights d top → (x q given after given' after' : Word) → LevelStep d top x q given after → LevelStep d top x q given' after'
      → (given ≡ given') × (after ≡ after')
  level_unique heights x q given after given' after' step step' =
      let once : AlwaysSettles (machine d top) = settles_with_heights d top heights in
      let firsts : step.first_map ≡ step'.first_map =
      settled_same (machine d top) x q (once x q) step.first_map step'.first_map step.settled_first step'.settled_first in
      let contents : levelled d top step.first_map q ≡ levelled d top step'.first_map q = ap (λ ρ. levelled d top ρ q) firsts in
      let maps : step.map_of ≡ step'.map_of =
      settled_same (machine d top) x (levelled d top step'.first_map q) (once x (levelled d top step'.first_map q)) step.map_of step'.map_of
      (subst (λ c. Settled d top x c step.map_of) contents step.settled) step'.settled in
      (step.read ∙ ap (outputs_under d top) maps ∙ sym step'.read, step.taken ∙ ap₂ (next_content (registers d top)) maps contents ∙ sym step'.taken)

  module _ (marked : Module → ℕ → Bool) (resets : ResetsFromPorts d marked) where
    -- the first step of a run is one by levels
    level_of_first : (x q given after : Word) → Step (machine d top) [] x q given after → LevelStep d top x q given after
    level_of_first x q given after step =
        let run : Run (machine d top) q (x ∷ []) (given ∷ []) = (after, step, tt) in
        let levels : StepsAreReset d top [] q (x ∷ []) (given ∷ []) run = run_reset d top marked resets q (x ∷ []) (given ∷ []) run in
        level_step d top [] x q given after step levels.0

    first_of_level : HasHeights d top → (x q given after : Word) → LevelStep d top x q given after → Step (machine d top) [] x q given after
    first_of_level heights x q given after level =
        let one = step_exists (machine d top) (settles_with_heights d top heights) [] x q in
        let same = level_unique heights x q one.0 one.1 given after (level_of_first x q one.0 one.1 one.2) level in
        subst (λ c. Step (machine d top) [] x q given c) same.1 (subst (λ os. Step (machine d top) [] x q os one.1) same.0 one.2)

    -- the steps by levels are the first steps of runs
    pub first_steps : HasHeights d top → (x q given after : Word) → LevelStep d top x q given after ↔ Step (machine d top) [] x q given after
    first_steps heights x q given after = (first_of_level heights x q given after, level_of_first x q given after)

-- ---- runs

module _ (d : Design) (a : Name) (e : Design) (b : Name) (agree : Agree d a e b) where
  -- whatever inputs come after those of the modules
  agree_past : (x q : Word) → length q ≡ state d a → AgreeAt d a e b x q
  agree_past x q wide given after given' after' one two =
      agree.steps (first (input_bits d a) x) q (length-first (input_bits d a) x) wide given after given' after'
      (step_first_bits d a x q given after one)
      (subst (λ n. LevelStep e b (first n x) q given' after') (sym agree.inputs) (step_first_bits e b x q given' after' two))

  runs_agree : (before content before' content' : Word) (steps outputs others : List Word) → content ≡ content' → length content ≡ state d a
      → (run : RunAfter (machine d a) before content steps outputs) → StepsAreReset d a before content steps outputs run
      → (run' : RunAfter (machine e b) before' content' steps others) → StepsAreReset e b before' content' steps others run' → outputs ≡ others
  runs_agree before content before' content' [] [] [] same wide run levels run' levels' = refl
  runs_agree before content before' content' [] [] (o' ∷ others) same wide run levels run' levels' = absurd run'
  runs_agree before content before' content' [] (o ∷ outputs) others same wide run levels run' levels' = absurd run
  runs_agree before content before' content' (s ∷ steps) [] others same wide run levels run' levels' = absurd run
  runs_agree before content before' content' (s ∷ steps) (o ∷ outputs) [] same wide run levels run' levels' = absurd run'
  runs_agree before content before' content' (s ∷ steps) (o ∷ outputs) (o' ∷ others) same wide
      (after, step, rest) (level, held_reset, more) (after', step', rest') (level', held_reset', more') =
      let mine : LevelStep d a s content o after = level_step d a before s content o after step level in
      let theirs : LevelStep e b s content' o' after' = level_step e b before' s content' o' after' step' level' in
      let both : (o ≡ o') × (after ≡ after') =
      agree_past s content wide o after o' after' mine (subst (λ c. LevelStep e b s c o' after') (sym same) theirs) in
      ap₂ (λ x xs. x ∷ xs) both.0
      (runs_agree s after s after' steps outputs others both.1 (left_wide d a s content o after mine) rest more rest' more')

  module _ (marked marked' : Module → ℕ → Bool) (resets : ResetsFromPorts d marked) (resets' : ResetsFromPorts e marked') where
    pub agreeing_outputs : (content : Word) (steps outputs others : List Word) → length content ≡ state d a
        → Run (machine d a) content steps outputs → Run (machine e b) content steps others → outputs ≡ others
    agreeing_outputs content steps outputs others wide run run' =
        runs_agree [] content [] content steps outputs others refl wide run (run_reset d a marked resets content steps outputs run)
        run' (run_reset e b marked' resets' content steps others run')

    -- modules that agree have the same runs
    pub agreeing_runs : HasHeights d a → HasHeights e b → (content : Word) (steps outputs : List Word) → length content ≡ state d a
        → Run (machine d a) content steps outputs ↔ Run (machine e b) content steps outputs
    agreeing_runs heights heights' content steps outputs wide = (forth, back)
      where
        forth : Run (machine d a) content steps outputs → Run (machine e b) content steps outputs
        forth run =
            let theirs = run_exists (machine e b) (settles_with_heights e b heights') content steps in
            subst (λ os. Run (machine e b) content steps os) (sym (agreeing_outputs content steps outputs theirs.0 wide run theirs.1)) theirs.1

        back : Run (machine e b) content steps outputs → Run (machine d a) content steps outputs
        back run =
            let mine = run_exists (machine d a) (settles_with_heights d a heights) content steps in
            subst (λ os. Run (machine d a) content steps os) (agreeing_outputs content steps mine.0 outputs wide mine.1 run) mine.1
