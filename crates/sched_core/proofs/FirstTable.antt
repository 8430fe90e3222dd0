-- The tables of a new scheduler.
use Rattle.std.proofs.Common.{◌≡◌, ℕ, zero, suc, ◌+◌, ◌^◌, ◌<◌, List, [], ◌∷◌, length, set, get_or, map, refl, sym, ap, subst, ◌∙◌, arith}
use Rattle.std.specs.Prelude.{replicate}
use Rattle.std.proofs.lemmas.List.{length-map, length-replicate}
use mathlib.Core.Path.{fun_ext}
use Rattle.sched_core.specs.declared.parts.Stage.TheVariants.{Waiting}
use Rattle.sched_core.specs.Sums.{one_if, put}
use Rattle.sched_core.specs.State.{State, callees_of, leaves, is_busy_with, new_edge, new_worker, no_worker, first}
use Rattle.sched_core.specs.Sound.{Sound}
use Rattle.sched_core.specs.Counts.{uses_of, untold_of}
use Rattle.sched_core.specs.Runs.{AreCallees}
use Rattle.sched_core.specs.Table.{Table, state_of, stage_with_heirs, HasPositions, IsKept}
use Rattle.sched_core.proofs.SumLemmas.{sum_below-none}
use Rattle.sched_core.proofs.EdgeSums.{sum_edges-none}
use Rattle.sched_core.proofs.Draws.{first-sound}
use Rattle.sched_core.proofs.Reading.{parts-set}

-- each entry of a list of copies, and what stands past it
pub get_or-replicate : {A : Type 0} (n : ℕ) (x : A) (k : ℕ) → get_or (replicate n x) k x ≡ x
get_or-replicate zero x k = refl
get_or-replicate (suc n) x zero = refl
get_or-replicate (suc n) x (suc k) = get_or-replicate n x k

-- the tables that are made from lists of callees
pub record IsNew {A : Type 0} (f : A → List ℕ) (rows : List A) (t : Table) : Type 0 where
  pub callees : t.callees ≡ map f rows
  pub leaf_modules : t.leaf_modules ≡ leaves (map f rows)
  pub size : length t.uses ≡ length rows
  pub uses : (m : ℕ) → m < length rows → get_or t.uses m 0 ≡ uses_of (map f rows) m
  pub stages : t.stages ≡ replicate (length rows) Waiting
  pub edges : t.edges ≡ map (λ row. replicate (length (f row)) new_edge) rows
  pub pending_edges : t.pending_edges ≡ map (λ row. length (f row)) rows
  pub leaf : t.leaf ≡ 0
  pub splits : t.splits ≡ 0
  pub workers : t.workers ≡ set (replicate 64 no_worker) 0 new_worker
  pub many : length t.heirs ≡ 64
  pub heirs : (w : ℕ) → w < 64 → get_or t.heirs w 64 ≡ w
  pub busy : t.busy ≡ replicate 64 0
  pub untold : t.untold ≡ replicate 64 0

-- two states with the same parts are equal
same_state : (s u : State) → s.callees ≡ u.callees → s.stage ≡ u.stage → s.edge ≡ u.edge → s.pending_edges ≡ u.pending_edges → s.leaf ≡ u.leaf → s.worker ≡ u.worker
    → s.workers ≡ u.workers → s.splits ≡ u.splits → s ≡ u
same_state s u callees stage edge pending_edges leaf worker workers splits =
    ap (λ x. record s { callees = x }) callees
    ∙ ap (λ x. record s { callees = u.callees; stage = x }) stage
    ∙ ap (λ x. record s { callees = u.callees; stage = u.stage; edge = x }) edge
    ∙ ap (λ x. record s { callees = u.callees; stage = u.stage; edge = u.edge; pending_edges = x }) pending_edges
    ∙ ap (λ x. record s { callees = u.callees; stage = u.stage; edge = u.edge; pending_edges = u.pending_edges; leaf = x }) leaf
    ∙ ap (λ x. record s { callees = u.callees; stage = u.stage; edge = u.edge; pending_edges = u.pending_edges; leaf = u.leaf; worker = x }) worker
    ∙ ap (λ x. record s { callees = u.callees; stage = u.stage; edge = u.edge; pending_edges = u.pending_edges; leaf = u.leaf; worker = u.worker; workers = x }) workers
    ∙ ap (λ x. record u { splits = x }) splits

module _ {A : Type 0} (f : A → List ℕ) (rows : List A) (t : Table) (new : IsNew f rows t) where
  new_row : (c : ℕ) → (n : ℕ) × (get_or t.edges c [] ≡ replicate n new_edge) × (n ≡ length (callees_of t.callees c))
  new_row c = by_position rows c new.edges new.callees
    where
      by_position : (xs : List A) (k : ℕ) → t.edges ≡ map (λ row. replicate (length (f row)) new_edge) xs → t.callees ≡ map f xs
          → (n : ℕ) × (get_or t.edges k [] ≡ replicate n new_edge) × (n ≡ length (callees_of t.callees k))
      by_position xs k edges callees =
          let found = at xs k in
          (found.0, ap (λ es. get_or es k []) edges ∙ found.1, found.2 ∙ ap (λ cs. length (callees_of cs k)) (sym callees))
        where
          at : (ys : List A) (j : ℕ) → (n : ℕ) × (get_or (map (λ row. replicate (length (f row)) new_edge) ys) j [] ≡ replicate n new_edge) × (n ≡ length (callees_of (map f ys) j))
          at [] j = (0, refl, refl)
          at (y ∷ ys) zero = (length (f y), refl, refl)
          at (y ∷ ys) (suc j) = at ys j

  new_stage : (m : ℕ) → (state_of t).stage m ≡ Waiting
  new_stage m = ap (λ xs. stage_with_heirs t.heirs (get_or xs m Waiting)) new.stages ∙ ap (stage_with_heirs t.heirs) (get_or-replicate (length rows) Waiting m)

  new_edges : (c i : ℕ) → (state_of t).edge c i ≡ new_edge
  new_edges c i = let row = new_row c in ap (λ xs. get_or xs i new_edge) row.1 ∙ get_or-replicate row.0 new_edge i

  new_pending : (c : ℕ) → (state_of t).pending_edges c ≡ length (callees_of (map f rows) c)
  new_pending c = ap (λ xs. get_or xs c 0) new.pending_edges ∙ at rows c
    where
      at : (xs : List A) (j : ℕ) → get_or (map (λ row. length (f row)) xs) j 0 ≡ length (callees_of (map f xs) j)
      at [] j = refl
      at (x ∷ xs) zero = refl
      at (x ∷ xs) (suc j) = at xs j

  new_workers : (state_of t).worker ≡ put 0 new_worker (λ w. no_worker)
  new_workers =
      ap (λ xs. λ (w : ℕ). get_or xs w no_worker) new.workers
      ∙ parts-set (λ y. y) no_worker (replicate 64 no_worker) 0 new_worker (omega arith)
      ∙ ap (put 0 new_worker) (fun_ext (λ w. get_or-replicate 64 no_worker w))

  pub new-state : state_of t ≡ first (map f rows)
  new-state = same_state (state_of t) (first (map f rows)) new.callees (fun_ext new_stage) (fun_ext (λ c. fun_ext (new_edges c))) (fun_ext new_pending)
      new.leaf new_workers (ap (λ n. n + 1) new.splits) new.splits

  new_positions : AreCallees (map f rows) → HasPositions t
  new_positions are =
      let count : length t.callees ≡ length rows = ap length new.callees ∙ length-map rows f in
      record {
        stages = ap length new.stages ∙ length-replicate (length rows) Waiting ∙ sym count;
        edges = ap length new.edges ∙ length-map rows (λ row. replicate (length (f row)) new_edge) ∙ sym count;
        rows = λ c. let row = new_row c in ap length row.1 ∙ length-replicate row.0 new_edge ∙ row.2;
        pending_edges = ap length new.pending_edges ∙ length-map rows (λ row. length (f row)) ∙ sym count;
        uses = new.size ∙ sym count;
        workers = ap length new.workers;
        heirs = new.many;
        busy = ap length new.busy;
        untold = ap length new.untold;
        modules = subst (λ cs. length cs < 2 ^ 32) (sym new.callees) are.modules;
        entries = λ m. subst (λ cs. length (callees_of cs m) < 2 ^ 32) (sym new.callees) (are.entries m);
      }

  pub new-kept : AreCallees (map f rows) → IsKept t
  new-kept are =
      let count : length t.callees ≡ length rows = ap length new.callees ∙ length-map rows f in
      record {
        positions = new_positions are;
        sound = subst Sound (sym new-state) (first-sound (map f rows));
        leaf_modules = new.leaf_modules ∙ ap leaves (sym new.callees);
        uses = λ m below. new.uses m (omega arith) ∙ ap (λ cs. uses_of cs m) (sym new.callees);
        own = λ w below stays. new.heirs w below;
        busy = λ w below. ap (λ xs. get_or xs w 0) new.busy ∙ get_or-replicate 64 0 w
            ∙ sym (sum_below-none (length t.callees) (λ m. one_if (is_busy_with w ((state_of t).stage m))) (λ m within. ap (λ x. one_if (is_busy_with w x)) (new_stage m)));
        untold = λ w below. ap (λ xs. get_or xs w 0) new.untold ∙ get_or-replicate 64 0 w ∙ sym (none_untold w);
      }
    where
      none_untold : (w : ℕ) → untold_of (state_of t) w ≡ 0
      none_untold w = ap (λ s. untold_of s w) new-state ∙ sum_edges-none (map f rows) (λ c i. 0) (λ c i edge. refl)
