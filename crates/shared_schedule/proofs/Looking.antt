-- A look at the table changes nothing, and shows that the lists of a view agree.
use Rattle.std.proofs.Common.{◌≡◌, ℕ, Bool, true, false, ◌&&◌, set, Option, Some, refl, sym, ap, subst, ◌∙◌}
use Rattle.std.proofs.lemmas.Bool.{false≢true, false_from_ne_true}
use mathlib.Core.Option.{none}
use Rattle.atomic_table.specs.Table.{Me, keeps, Allows, step}
use Rattle.atomic_table.proofs.Lists.{set_again}
use Rattle.sched_core.specs.declared.parts.Stage.{Stage}
use Rattle.sched_core.specs.declared.parts.Stage.TheVariants.{Waiting, Owed, Taken, Done}
use Rattle.sched_core.specs.State.{State, callee, is_waiting, is_begun, is_emptied}
use Rattle.sched_core.specs.Sound.{Sound}
use Rattle.sched_core.proofs.Edges.{reported_unless_waiting}
use Rattle.shared_schedule.specs.declared.plan.Plan.{Plan}
use Rattle.shared_schedule.specs.declared.slot.Slot.{Slot}
use Rattle.shared_schedule.specs.declared.view.View.{View}
use Rattle.shared_schedule.specs.Views.{callees_in, hold_of, is_held, is_over, has_edge, Tells}
use Rattle.shared_schedule.specs.Rule.{Shows, Rule}
use Rattle.shared_schedule.specs.Seats.{Agrees}
use Rattle.shared_schedule.specs.Plays.{Looks}
use Rattle.shared_schedule.proofs.Stages.{due-stage}
use Rattle.shared_schedule.proofs.Positions.{set-read}
use Rattle.shared_schedule.proofs.Drawing.{tells-now}

both-true : (a b : Bool) → (a && b) ≡ true → (a ≡ true) × (b ≡ true)
both-true true b is = (refl, is)
both-true false b is = absurd (false≢true is)

-- a stage that is something to a worker does not wait
held-waits : (w : ℕ) (x : Stage) → is_held (hold_of w x) ≡ true → is_waiting x ≡ false
held-waits w Waiting is = absurd (false≢true is)
held-waits w (Owed v) is = refl
held-waits w (Taken v) is = refl
held-waits w (Done v) is = refl

-- a true view's lists agree
pub agrees : {P : Type 0} (s : State) (w : ℕ) (v : View P) → Sound s → Tells s w v → Agrees s.callees v
agrees s w v sound t = record {
  told = λ c i at has. ap is_over (t.moves (callee s.callees c i)) ∙ (both-true (s.edge c i).reported (is_over (hold_of w (s.stage (callee s.callees c i)))) (sym (t.told c i at) ∙ has)).1;
  held = λ c i at held over.
      let reported : (s.edge c i).reported ≡ true = reported_unless_waiting s c i sound (held-waits w (s.stage c) (ap is_held (sym (t.moves c)) ∙ held)) at in
      t.told c i at ∙ ap (λ r. r && is_over (hold_of w (s.stage (callee s.callees c i)))) reported ∙ ap is_over (sym (t.moves (callee s.callees c i))) ∙ over;
  due = λ c i at due. false_from_ne_true (has_edge v.emptied c i) (λ has.
      let emptied : is_emptied (s.edge c i).fill ≡ true = (both-true (is_emptied (s.edge c i).fill) (is_held (hold_of w (s.stage c))) (sym (t.emptied c i at) ∙ has)).0 in
      false≢true (sym (ap is_begun (due-stage w (s.stage c) (sym (t.moves c) ∙ due))) ∙ sound.emptied c i at emptied));
}

module _ {P B : Type 0} (first finished : P → ℕ → B → Type 0) (copied : P → ℕ → Option B → Type 0) where
  pub looks : (plan : Plan P) (slots w : ℕ) (me : Me (Slot B) (View P)) → me.0.plan ≡ Some plan → Allows (Rule first finished copied plan) slots w me 0 (λ n. n) (Looks first copied (step slots 0 0 0 none) me)
  looks plan slots w me mine t (s, shows) long at fits = (
    me.0,
    keeps,
    tt,
    (
      s,
      subst (λ ws. Shows first finished copied plan (record { words = ws; homes = t.homes; views = set t.views w me.0 }) s) (sym (set-read t.words 0))
          (subst (λ vs. Shows first finished copied plan (record { words = t.words; homes = t.homes; views = vs }) s) (sym (set_again t.views w me.0 at)) shows),
    ),
    λ plan' mine'. let e : Some plan ≡ Some plan' = sym mine ∙ mine' in let same : plan ≡ plan' = cc in
        (refl, subst (λ cs. Agrees cs me.0) (shows.callees ∙ ap callees_in same) (agrees s w me.0 shows.sound (tells-now first finished copied plan t s w me.0 shows mine at))),
  )
