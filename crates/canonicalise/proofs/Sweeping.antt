-- Sweeps: each has one end, and single folds lead there.
use Rattle.std.proofs.Common.{◌≡◌, ℕ, zero, suc, ◌+◌, ◌-◌, ◌<◌, ◌≤◌, Bool, true, false, cond, nat_lt, List, length, Option, Some, None, refl, sym, ap, subst, ◌∙◌, arith, zero-add, suc-add}
use Rattle.std.proofs.lemmas.Bool.{ltb-true, ltb-false}
use Rattle.hw_model.specs.Design.{Op}
use Rattle.fold_laws.specs.Edits.{Edit, FoldPattern, edited_by}
use Rattle.canonicalise.specs.Canonical.{table, IsCanonicalOf, IsFoldOf, LeadsBy, Leads}
use Rattle.canonicalise.specs.Sweeps.{Sweep, sweep_of, with_edits, visit, visits, IsSwept, IsSweptBy, IsSweptOut}

-- ---- visits

-- after the last operation nothing is left to visit
not_less : (m n : ℕ) → n ≤ m → nat_lt m n ≡ false
not_less m n less = go (nat_lt m n) refl
  where
    go : (b : Bool) → nat_lt m n ≡ b → nat_lt m n ≡ false
    go true below = absurd (omega (arith, ltb-true m n below, less))
    go false below = below

visit_ended : (pattern : FoldPattern) (s : Sweep) → length s.ops ≤ s.position → visit pattern s ≡ s
visit_ended pattern s ended = ap (λ b. cond b (with_edits s (pattern s.ops s.position)) s) (not_less s.position (length s.ops) ended)

visits_ended : (pattern : FoldPattern) (n : ℕ) (s : Sweep) → length s.ops ≤ s.position → visits pattern n s ≡ s
visits_ended pattern zero s ended = refl
visits_ended pattern (suc n) s ended = ap (visit pattern) (visits_ended pattern n s ended) ∙ visit_ended pattern s ended

visits_more : (pattern : FoldPattern) (m n : ℕ) (s : Sweep) → visits pattern (n + m) s ≡ visits pattern n (visits pattern m s)
visits_more pattern m zero s = ap (λ k. visits pattern k s) (zero-add m)
visits_more pattern m (suc n) s = ap (λ k. visits pattern k s) (suc-add n m) ∙ ap (visit pattern) (visits_more pattern m n s)

-- a sweep that has ended has ended so after more visits
later : (pattern : FoldPattern) (m n : ℕ) (s e : Sweep) → m ≤ n → visits pattern m s ≡ e → length e.ops ≤ e.position → visits pattern n s ≡ e
later pattern m n s e less is ended =
    let sum : n ≡ (n - m) + m = omega (arith, less) in
    ap (λ k. visits pattern k s) sum ∙ visits_more pattern m (n - m) s ∙ ap (visits pattern (n - m)) is ∙ visits_ended pattern (n - m) e ended

one_end : (pattern : FoldPattern) (m n : ℕ) (s e f : Sweep) → visits pattern m s ≡ e → length e.ops ≤ e.position → visits pattern n s ≡ f → length f.ops ≤ f.position → e ≡ f
one_end pattern m n s e f is ended also stopped = go (nat_lt m n) refl
  where
    go : (b : Bool) → nat_lt m n ≡ b → e ≡ f
    go true below = sym (later pattern m n s e (omega (arith, ltb-true m n below)) is ended) ∙ also
    go false below = sym is ∙ later pattern n m s f (omega (arith, ltb-false m n below)) also stopped

pub swept_once : (pattern : FoldPattern) (os x y : List Op) (a b : Bool) → IsSwept pattern os a x → IsSwept pattern os b y → (a ≡ b) × (x ≡ y)
swept_once pattern os x y a b one other =
    let same = one_end pattern one.count other.count (sweep_of os) (record { ops = x; position = one.position; changed = a }) (record { ops = y; position = other.position; changed = b }) one.is one.ended other.is other.ended in
    (ap (λ (s : Sweep). s.changed) same, ap (λ (s : Sweep). s.ops) same)

swept_out_once : (pattern : FoldPattern) (m n : ℕ) (os x y : List Op) → IsSweptBy pattern m os x → IsSweptBy pattern n os y → x ≡ y
swept_out_once pattern zero zero os x y one other = (swept_once pattern os x y false false one other).1
swept_out_once pattern zero (suc n) os x y one (z, swept, rest) = let clash : false ≡ true = (swept_once pattern os x z false true one swept).0 in cc
swept_out_once pattern (suc m) zero os x y (z, swept, rest) other = let clash : true ≡ false = (swept_once pattern os z y true false swept other).0 in cc
swept_out_once pattern (suc m) (suc n) os x y (z, swept, rest) (w, also, others) =
    let same : z ≡ w = (swept_once pattern os z w true true swept also).1 in
    swept_out_once pattern m n w x y (subst (λ v. IsSweptBy pattern m v x) same rest) others

pub once : (pattern : FoldPattern) (os x y : List Op) → IsSweptOut pattern os x → IsSweptOut pattern os y → x ≡ y
once pattern os x y one other = swept_out_once pattern one.sweeps other.sweeps os x y one.swept other.swept

-- ---- what has changed nothing

-- a sweep that has changed nothing yet has the operations that it had, and no pattern matches at those that it visited
record Unchanged (pattern : FoldPattern) (os : List Op) (s : Sweep) : Type 0 where
  same : s.ops ≡ os
  none : (i : ℕ) → i < s.position → pattern os i ≡ None

unchanged_visit : (pattern : FoldPattern) (os : List Op) (s : Sweep) → (s.changed ≡ false → Unchanged pattern os s) → (visit pattern s).changed ≡ false → Unchanged pattern os (visit pattern s)
unchanged_visit pattern os s before = go (nat_lt s.position (length s.ops)) (pattern s.ops s.position) refl
  where
    go : (b : Bool) (x : Option (List Edit)) → pattern s.ops s.position ≡ x → (cond b (with_edits s x) s).changed ≡ false → Unchanged pattern os (cond b (with_edits s x) s)
    go false x is quiet = before quiet
    go true (Some es) is quiet = cc
    go true None is quiet =
        let so = before quiet in
        record { same = so.same; none = λ i less. here so i less (nat_lt i s.position) refl }
      where
        here : Unchanged pattern os s → (i : ℕ) → i < suc s.position → (b : Bool) → nat_lt i s.position ≡ b → pattern os i ≡ None
        here so i less true below = so.none i (ltb-true i s.position below)
        here so i less false below =
            let at : i ≡ s.position = omega (arith, less, ltb-false i s.position below) in
            ap (pattern os) at ∙ ap (λ zs. pattern zs s.position) (sym so.same) ∙ is

unchanged : (pattern : FoldPattern) (os : List Op) (n : ℕ) → (visits pattern n (sweep_of os)).changed ≡ false → Unchanged pattern os (visits pattern n (sweep_of os))
unchanged pattern os zero quiet = record { same = refl; none = λ i less. absurd (omega (arith, less)) }
unchanged pattern os (suc n) quiet = unchanged_visit pattern os (visits pattern n (sweep_of os)) (unchanged pattern os n) quiet

-- a sweep that changes nothing leaves the operations, and no pattern matches at any
pub swept_false : (pattern : FoldPattern) (os x : List Op) → IsSwept pattern os false x → (x ≡ os) × ((i : ℕ) → i < length os → pattern os i ≡ None)
swept_false pattern os x swept =
    let so : Unchanged pattern os (record { ops = x; position = swept.position; changed = false }) =
    subst (Unchanged pattern os) swept.is (unchanged pattern os swept.count (ap (λ (s : Sweep). s.changed) swept.is)) in
    let size : length os ≤ swept.position = subst (λ zs. length zs ≤ swept.position) so.same swept.ended in
    (so.same, λ i less. so.none i (omega (arith, less, size)))

last_swept : (pattern : FoldPattern) (n : ℕ) (os x : List Op) → IsSweptBy pattern n os x → (i : ℕ) → i < length x → pattern x i ≡ None
last_swept pattern zero os x swept i less =
    let so = swept_false pattern os x swept in
    let within : i < length os = subst (λ zs. i < length zs) so.0 less in
    ap (λ zs. pattern zs i) so.0 ∙ so.1 i within
last_swept pattern (suc n) os x (z, swept, rest) i less = last_swept pattern n z x rest i less

-- in the end no pattern matches
pub none_left : (pattern : FoldPattern) (os x : List Op) → IsSweptOut pattern os x → (i : ℕ) → i < length x → pattern x i ≡ None
none_left pattern os x out = last_swept pattern out.sweeps os x out.swept

-- ---- single folds

pub leads_self : (pattern : FoldPattern) (os : List Op) → Leads pattern os os
leads_self pattern os = record { folds = 0; leads = refl }

pub leads_more : (pattern : FoldPattern) (x y z : List Op) → Leads pattern x y → IsFoldOf pattern y z → Leads pattern x z
leads_more pattern x y z one fold = record { folds = suc one.folds; leads = (y, one.leads, fold) }

leads_by : (pattern : FoldPattern) (n : ℕ) (x y z : List Op) → Leads pattern x y → LeadsBy pattern n y z → Leads pattern x z
leads_by pattern zero x y z one same = subst (Leads pattern x) (sym same) one
leads_by pattern (suc n) x y z one (w, leads, fold) = leads_more pattern x w z (leads_by pattern n x y w one leads) fold

pub leads_then : (pattern : FoldPattern) (x y z : List Op) → Leads pattern x y → Leads pattern y z → Leads pattern x z
leads_then pattern x y z one two = leads_by pattern two.folds x y z one two.leads

visit_leads : (pattern : FoldPattern) (os : List Op) (s : Sweep) → Leads pattern os s.ops → Leads pattern os (visit pattern s).ops
visit_leads pattern os s before = go (nat_lt s.position (length s.ops)) (pattern s.ops s.position) refl
  where
    go : (b : Bool) (x : Option (List Edit)) → pattern s.ops s.position ≡ x → Leads pattern os (cond b (with_edits s x) s).ops
    go false x is = before
    go true None is = before
    go true (Some es) is = leads_more pattern os s.ops (edited_by es s.ops) before (s.position, es, is, refl)

visits_lead : (pattern : FoldPattern) (os : List Op) (n : ℕ) → Leads pattern os (visits pattern n (sweep_of os)).ops
visits_lead pattern os zero = leads_self pattern os
visits_lead pattern os (suc n) = visit_leads pattern os (visits pattern n (sweep_of os)) (visits_lead pattern os n)

pub swept_leads : (pattern : FoldPattern) (os x : List Op) (any : Bool) → IsSwept pattern os any x → Leads pattern os x
swept_leads pattern os x any swept = subst (Leads pattern os) (ap (λ (s : Sweep). s.ops) swept.is) (visits_lead pattern os swept.count)

swept_by_leads : (pattern : FoldPattern) (n : ℕ) (os x : List Op) → IsSweptBy pattern n os x → Leads pattern os x
swept_by_leads pattern zero os x swept = swept_leads pattern os x false swept
swept_by_leads pattern (suc n) os x (z, swept, rest) = leads_then pattern os z x (swept_leads pattern os z true swept) (swept_by_leads pattern n z x rest)

pub out_leads : (pattern : FoldPattern) (os x : List Op) → IsSweptOut pattern os x → Leads pattern os x
out_leads pattern os x out = swept_by_leads pattern out.sweeps os x out.swept

-- ---- sweeps one after another

pub out_after : (pattern : FoldPattern) (x y z : List Op) → IsSwept pattern x true y → IsSweptOut pattern y z → IsSweptOut pattern x z
out_after pattern x y z swept out = record { sweeps = suc out.sweeps; swept = (y, swept, out.swept) }

-- sweeps over the first operations have come to the second, and what is made of these in the end is made of those
pub record IsOnWay (first now : List Op) : Type 0 where
  pub leads : Leads table first now
  pub ends : (x : List Op) → IsCanonicalOf now x → IsCanonicalOf first x

pub way_begins : (os : List Op) → IsOnWay os os
way_begins os = record { leads = leads_self table os; ends = λ x out. out }

pub way_goes_on : (first now next : List Op) → IsOnWay first now → IsSwept table now true next → IsOnWay first next
way_goes_on first now next way swept = record {
  leads = leads_then table first now next way.leads (swept_leads table now next true swept);
  ends = λ x out. way.ends x (out_after table now next x swept out);
}

pub way_ends : (first now next : List Op) → IsOnWay first now → IsSwept table now false next → IsCanonicalOf first next
way_ends first now next way swept = way.ends next (record { sweeps = 0; swept = swept })

pub way_leads : (first now next : List Op) → IsOnWay first now → Leads table now next → Leads table first next
way_leads first now next way leads = leads_then table first now next way.leads leads
