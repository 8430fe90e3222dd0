-- Worked values of the definitions: two leaves 0 and 1 and their caller 2, and one callee twice.
use Rattle.std.proofs.Common.{◌≡◌, ℕ, true, false, List, [], ◌∷◌, refl}
use Rattle.sched_core.specs.declared.parts.Stage.TheVariants.{Waiting, Owed, Done}
use Rattle.sched_core.specs.declared.parts.Fill.TheVariants.{Full, Emptied}
use Rattle.sched_core.specs.declared.event.Event.{Event}
use Rattle.sched_core.specs.declared.event.Event.TheVariants.{Claim, Take, TakeEdge, PutDone, PutEdge, Report, Split, Join}
use Rattle.sched_core.specs.Sums.{sum_below, one_if, put}
use Rattle.sched_core.specs.State.{State, callee, leaves, first}
use Rattle.sched_core.specs.Events.{step}
use Rattle.sched_core.specs.Sound.{unreported_edges, holders, passed_workers}
use Rattle.sched_core.specs.Counts.{times_in, uses_of, busy_of, untold_of}
use Rattle.sched_core.specs.Runs.{after, times_done}
use Rattle.sched_core.specs.Table.{stage_with_heirs, heir_after}

abbrev two_leaves : List (List ℕ)
two_leaves = [] ∷ [] ∷ (0 ∷ 1 ∷ []) ∷ []

abbrev twice : List (List ℕ)
twice = [] ∷ (0 ∷ 0 ∷ []) ∷ []

-- until both leaves are done, by two workers
abbrev leaves_done : List Event
leaves_done = Split ∷ Claim 0 ∷ Claim 1 ∷ Take 0 0 ∷ Take 1 1 ∷ PutDone 1 1 ∷ PutDone 0 0 ∷ []

abbrev told_once : List Event
told_once = PutEdge 1 2 1 ∷ Report 1 2 1 ∷ []

abbrev told_twice : List Event
told_twice = PutEdge 0 2 0 ∷ Report 0 2 0 ∷ []

abbrev halfway : State
halfway = after (after (first two_leaves) leaves_done) told_once

abbrev caller_owed : State
caller_owed = after halfway told_twice

sums : sum_below 4 (λ k. k) ≡ 6
sums = refl

ones : one_if (put 2 true (λ k. false) 2) ≡ 1
ones = refl

leaves_in_order : leaves ((1 ∷ []) ∷ [] ∷ (1 ∷ []) ∷ [] ∷ []) ≡ 1 ∷ 3 ∷ []
leaves_in_order = refl

second_callee : callee two_leaves 2 1 ≡ 1
second_callee = refl

drawn : halfway.leaf ≡ 2
drawn = refl

-- each leaf is owed to the worker that drew it
first_leaf : (after (first two_leaves) (Split ∷ Claim 0 ∷ Claim 1 ∷ [])).stage 0 ≡ Owed 0
first_leaf = refl

second_leaf : (after (first two_leaves) (Split ∷ Claim 0 ∷ Claim 1 ∷ [])).stage 1 ≡ Owed 1
second_leaf = refl

-- a third draw finds no leaf
third_draw : passed_workers (after (first two_leaves) (Split ∷ Claim 0 ∷ Claim 0 ∷ Claim 1 ∷ [])) ≡ 1
third_draw = refl

-- after one report the caller waits, after two it is owed to the worker that reported last
one_report : halfway.stage 2 ≡ Waiting
one_report = refl

one_pending : halfway.pending_edges 2 ≡ 1
one_pending = refl

one_unreported : unreported_edges halfway 2 ≡ 1
one_unreported = refl

two_reports : caller_owed.stage 2 ≡ Owed 0
two_reports = refl

edge_filled : (caller_owed.edge 2 0).fill ≡ Full
edge_filled = refl

one_holder : holders caller_owed.workers (caller_owed.stage 2) ≡ 1
one_holder = refl

still_to_report : untold_of (after (first two_leaves) leaves_done) 1 ≡ 1
still_to_report = refl

nothing_to_report : untold_of caller_owed 1 ≡ 0
nothing_to_report = refl

busy_again : busy_of caller_owed 0 ≡ 1
busy_again = refl

-- the caller's worker takes the edge
edge_emptied : ((step (step caller_owed (Take 0 2)) (TakeEdge 0 2 1)).edge 2 1).fill ≡ Emptied
edge_emptied = refl

-- a join passes on what the joined worker did
passed : (step caller_owed (Join 0 1)).stage 1 ≡ Done 0
passed = refl

gone : ((step caller_owed (Join 0 1)).worker 1).gone ≡ true
gone = refl

count : times_done 1 leaves_done ≡ 1
count = refl

-- a callee that stands twice in a list has two edges
entries : times_in (0 ∷ 0 ∷ []) 0 ≡ 2
entries = refl

uses : uses_of twice 0 ≡ 2
uses = refl

-- a done module is its doer's heir's
heir : stage_with_heirs (0 ∷ 0 ∷ 2 ∷ []) (Done 1) ≡ Done 0
heir = refl

heir_of_other : heir_after 0 1 2 ≡ 2
heir_of_other = refl
