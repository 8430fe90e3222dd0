-- Pairs of ports that are added to lists.
use Rattle.std.proofs.Common.{◌≡◌, ◌⊎◌, ℕ, zero, suc, ◌<◌, ◌≢◌, Bool, true, false, eqb, List, [], ◌∷◌, ◌++◌, length, set, get_or, replicate, Option, Some, None, refl, sym, ap, ap₂, subst, ◌∙◌, inl, inr, arith, length-set}
use Rattle.std.proofs.lemmas.List.{get_or-set_same, get_or-set_other}
use Rattle.std.proofs.lemmas.Bool.{eqb-true, eqb-false}
use Rattle.wiring.specs.Wiring.{In}
use Rattle.wiring.proofs.Members.{In-append_left, In-append_right, In-append_cases}
use Rattle.hw_model.specs.Design.{Op}
use Rattle.ir_store.specs.declared.operation.OpId.{OpId}
use Rattle.ir_store.specs.BodyOps.{BodyOp, op_at}
use Rattle.port_checks.specs.Seen.{body_op_seen}
use Rattle.ir_store.proofs.Walks.{ops_at, walk}
use Rattle.port_checks.proofs.Making.{made_of}
use Rattle.graphs.specs.Graphs.{lists_of, edges}
use Rattle.port_checks.specs.Pairs.{Pair, pair, pair_of, AddsPairs}
use Rattle.graphs.specs.declared.graph.NodeList.{NodeList}

pub adds_none : (lists : List (List ℕ)) → AddsPairs [] lists lists
adds_none lists = record {
  count = refl;
  kept = λ v w here. here;
  from = λ v w here. inl here;
  all = λ v w here below. absurd here;
}

-- pairs are added one list after another
pub adds_both : (ps qs : List Pair) (old between new : List (List ℕ)) → AddsPairs ps old between → AddsPairs qs between new → AddsPairs (ps ++ qs) old new
adds_both ps qs old between new first second = record {
  count = second.count ∙ first.count;
  kept = λ v w here. second.kept v w (first.kept v w here);
  from = λ v w here. go v w (second.from v w here);
  all = λ v w here below. back v w below (In-append_cases (pair v w) ps qs here);
}
  where
    go : (v w : ℕ) → In w (edges between v) ⊎ In (pair v w) qs → In w (edges old v) ⊎ In (pair v w) (ps ++ qs)
    go v w (inr later) = inr (In-append_right (pair v w) ps qs later)
    go v w (inl here) = before (first.from v w here)
      where
        before : In w (edges old v) ⊎ In (pair v w) ps → In w (edges old v) ⊎ In (pair v w) (ps ++ qs)
        before (inl was) = inl was
        before (inr earlier) = inr (In-append_left (pair v w) ps qs earlier)

    back : (v w : ℕ) → v < length old → In (pair v w) ps ⊎ In (pair v w) qs → In w (edges new v)
    back v w below (inl earlier) = second.kept v w (first.all v w earlier below)
    back v w below (inr later) = second.all v w later (subst (λ n. v < n) (sym first.count) below)

-- one pair is added to lists that have its first port
pub adds_one : (old new : List (List ℕ)) (a b : ℕ) → a < length old → new ≡ set old a (edges old a ++ b ∷ []) → AddsPairs (pair a b ∷ []) old new
adds_one old new a b below is =
    subst (AddsPairs (pair a b ∷ []) old) (sym is) (record {
      count = length-set old a (edges old a ++ b ∷ []);
      kept = λ v w here. kept v w here (eqb v a) refl;
      from = λ v w here. from v w here (eqb v a) refl;
      all = λ v w here within. all v w here;
    })
  where
    there : edges (set old a (edges old a ++ b ∷ [])) a ≡ edges old a ++ b ∷ []
    there = get_or-set_same old a (edges old a ++ b ∷ []) [] below

    elsewhere : (v : ℕ) → v ≢ a → edges (set old a (edges old a ++ b ∷ [])) v ≡ edges old v
    elsewhere v other = get_or-set_other old a v (edges old a ++ b ∷ []) [] other

    kept : (v w : ℕ) → In w (edges old v) → (t : Bool) → eqb v a ≡ t → In w (edges (set old a (edges old a ++ b ∷ [])) v)
    kept v w here true e =
        let same : v ≡ a = eqb-true v a e in
        subst (λ z. In w (edges (set old a (edges old a ++ b ∷ [])) z)) (sym same)
        (subst (In w) (sym there) (In-append_left w (edges old a) (b ∷ []) (subst (λ z. In w (edges old z)) same here)))
    kept v w here false e = subst (In w) (sym (elsewhere v (eqb-false v a e))) here

    from : (v w : ℕ) → In w (edges (set old a (edges old a ++ b ∷ [])) v) → (t : Bool) → eqb v a ≡ t
        → In w (edges old v) ⊎ In (pair v w) (pair a b ∷ [])
    from v w here false e = inl (subst (In w) (elsewhere v (eqb-false v a e)) here)
    from v w here true e = go (In-append_cases w (edges old a) (b ∷ []) (subst (In w) there (subst (λ z. In w (edges (set old a (edges old a ++ b ∷ [])) z)) (eqb-true v a e) here)))
      where
        go : In w (edges old a) ⊎ In w (b ∷ []) → In w (edges old v) ⊎ In (pair v w) (pair a b ∷ [])
        go (inl was) = inl (subst (λ z. In w (edges old z)) (sym (eqb-true v a e)) was)
        go (inr (inl same)) = inr (inl (ap₂ (λ x y. pair x y) (eqb-true v a e) same))
        go (inr (inr never)) = absurd never

    all : (v w : ℕ) → In (pair v w) (pair a b ∷ []) → In w (edges (set old a (edges old a ++ b ∷ [])) v)
    all v w (inl same) =
        let to_is : v ≡ a = ap (λ (p : Pair). p.to) same in
        let port_is : w ≡ b = ap (λ (p : Pair). p.port) same in
        subst (λ z. In w (edges (set old a (edges old a ++ b ∷ [])) z)) (sym to_is)
        (subst (In w) (sym there) (In-append_right w (edges old a) (b ∷ []) (inl port_is)))
    all v w (inr never) = absurd never

-- ---- lists in code

pub joined_set : (joined : List NodeList) (a : ℕ) (x y : NodeList) (ports : List ℕ) → a < length joined → x ≡ get_or joined a x → ports ≡ x.nodes.items
    → (b : ℕ) → y.nodes.items ≡ ports ++ b ∷ [] → lists_of (set joined a y) ≡ set (lists_of joined) a (edges (lists_of joined) a ++ b ∷ [])
joined_set [] a x y ports below is are b pushed = absurd (omega arith)
joined_set (z ∷ joined) zero x y ports below is are b pushed =
    ap (λ ns. ns ∷ lists_of joined) (pushed ∙ ap (λ ns. ns ++ b ∷ []) (are ∙ ap (λ (p : NodeList). p.nodes.items) is))
joined_set (z ∷ joined) (suc a) x y ports below is are b pushed =
    ap (λ ls. z.nodes.items ∷ ls) (joined_set joined a x y ports (omega arith) is are b pushed)

pub no_edges : (n v : ℕ) → edges (replicate n []) v ≡ []
no_edges zero v = refl
no_edges (suc n) zero = refl
no_edges (suc n) (suc v) = no_edges n v

-- ---- a pair

pub pair_some : (x y : Option ℕ) (p : Pair) → In p (pair_of x y) → (x ≡ Some p.to) × (y ≡ Some p.port)
pair_some (Some a) (Some b) p (inl same) = (ap (λ (q : Pair). Some q.to) (sym same), ap (λ (q : Pair). Some q.port) (sym same))
pair_some (Some a) (Some b) p (inr never) = absurd never
pair_some (Some a) None p here = absurd here
pair_some None (Some b) p here = absurd here
pair_some None None p here = absurd here

pub some_pair : (x y : Option ℕ) (a b : ℕ) → x ≡ Some a → y ≡ Some b → In (pair a b) (pair_of x y)
some_pair x y a b is also = subst (In (pair a b)) (sym (ap₂ pair_of is also)) (inl refl)

-- ---- the operations of a body, one after another

-- one step more
pub pairs_step : (f : Op → List Pair) (whole : List BodyOp) (all : List Pair) (first old new : List (List ℕ)) (i : OpId) (before left : List OpId) (o : BodyOp)
    → op_at whole i.index ≡ Some o → before ≡ i ∷ left → AddsPairs (f (body_op_seen o)) old new
    → ((end : List (List ℕ)) → AddsPairs (made_of f (ops_at whole before)) old end → AddsPairs all first end)
    → (end : List (List ℕ)) → AddsPairs (made_of f (ops_at whole left)) new end → AddsPairs all first end
pairs_step f whole all first old new i before left o found steps adds so_far end rest =
    so_far end
    (subst (λ os. AddsPairs (made_of f os) old end) (sym (walk whole i before left o found steps))
    (adds_both (f (body_op_seen o)) (made_of f (ops_at whole left)) old new end adds rest))
