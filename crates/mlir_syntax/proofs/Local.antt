-- Readers that look no further than the token after what they pass, and whose refusals are of the first token that they do not pass.
use Rattle.std.proofs.Common.{◌≡◌, ℕ, zero, suc, ◌+◌, ◌≤◌, ◌<◌, Bool, true, false, cond, List, [], ◌∷◌, ◌++◌, length, map, Option, Ok, Err, refl, sym, ◌∙◌, ap, subst, arith}
use Rattle.std.proofs.lemmas.Bool.{cond-true, cond-false}
use Rattle.std.proofs.lemmas.List.{append_assoc, map-append}
use Rattle.diag.specs.declared.refusal.Location.{Location}
use Rattle.diag.specs.declared.refusal.Refusal.{Refusal}
use Rattle.diag.specs.declared.refusal.OpName.{OpName}
use Rattle.diag.specs.declared.cause.Cause.{Cause}
use Rattle.mlir_lexer.specs.Tokens.{TextToken}
use Rattle.mlir_syntax.specs.Stream.{StreamToken, token, bad, end, first, is_first, after, refusal_at, unexpected_refusal}
use Rattle.mlir_syntax.specs.Reads.{Read, Reads, on}
use Rattle.mlir_syntax.proofs.Sound.{joined}

-- ---- texts

-- a text that ends in something that is no token
abbrev pub Whole : List StreamToken → Type 0
Whole [] = ⊥
Whole (token t ∷ s) = Whole s
Whole (bad p ∷ s) = Unit {0}
Whole (end p ∷ s) = Unit {0}

-- texts with the same first token
abbrev pub Same : List StreamToken → List StreamToken → Type 0
Same [] [] = Unit {0}
Same [] (y ∷ b) = ⊥
Same (x ∷ a) [] = ⊥
Same (x ∷ a) (y ∷ b) = x ≡ y

-- the location of the first token
abbrev pub location_first : List StreamToken → Location
location_first [] = record { line = 1; col = 1 }
location_first (token t ∷ s) = t.location
location_first (bad p ∷ s) = p
location_first (end p ∷ s) = p

pub whole_after : (a : List TextToken) (w : List StreamToken) → Whole (map token a ++ w) → Whole w
whole_after [] w h = h
whole_after (t ∷ a) w h = whole_after a w h

pub whole_prefix : (a : List TextToken) (w : List StreamToken) → Whole w → Whole (map token a ++ w)
whole_prefix [] w h = h
whole_prefix (t ∷ a) w h = whole_prefix a w h

pub none_whole : (s : List StreamToken) → Whole s → length s ≤ 0 + 0 → ⊥
none_whole [] w h = w
none_whole (x ∷ s) w h = omega (arith, h)

same_prefix : (b : List TextToken) (u v : List StreamToken) → Same u v → Same (map token b ++ u) (map token b ++ v)
same_prefix [] u v h = h
same_prefix (t ∷ b) u v h = refl

same_at : (s u v : List StreamToken) (b : List TextToken) → s ≡ map token b ++ u → Same u v → Same s (map token b ++ v)
same_at s u v b e h = subst (λ y. Same y (map token b ++ v)) (sym e) (same_prefix b u v h)

-- what looks at the first token alone is the same of texts with the same first token
pub same_of : {B : Type 0} (g : List StreamToken → B) → ((y : StreamToken) (a b : List StreamToken) → g (y ∷ a) ≡ g (y ∷ b)) → (u v : List StreamToken) → Same u v → g u ≡ g v
same_of g h [] [] s = refl
same_of g h [] (y ∷ b) s = absurd s
same_of g h (x ∷ a) [] s = absurd s
same_of g h (x ∷ a) (y ∷ b) s = ap (λ z. g (z ∷ a)) s ∙ h y a b

pub same_is_first : (test : TextToken → Bool) (u v : List StreamToken) → Same u v → is_first test u ≡ is_first test v
same_is_first test = same_of (is_first test) go
  where
    go : (y : StreamToken) (a b : List StreamToken) → is_first test (y ∷ a) ≡ is_first test (y ∷ b)
    go (token t) a b = refl
    go (bad p) a b = refl
    go (end p) a b = refl

same_first : (u v : List StreamToken) → Same u v → first u ≡ first v
same_first = same_of first go
  where
    go : (y : StreamToken) (a b : List StreamToken) → first (y ∷ a) ≡ first (y ∷ b)
    go (token t) a b = refl
    go (bad p) a b = refl
    go (end p) a b = refl

pub after_short : (a : List TextToken) (w : List StreamToken) → length w ≤ length (map token a ++ w)
after_short [] w = omega arith
after_short (t ∷ a) w = let h = after_short a w in omega (arith, h)

pub map_joined : (a b : List TextToken) (v : List StreamToken) → map token (a ++ b) ++ v ≡ map token a ++ (map token b ++ v)
map_joined a b v = ap (λ x. x ++ v) (map-append token a b) ∙ append_assoc (map token a) (map token b) v

-- ---- readers

-- a reader with fuel gives an answer, whatever the fuel, if there is enough
abbrev pub Given : {A : Type 0} → ℕ → (ℕ → Reads A) → List StreamToken → Read A → Type 0
Given c R s m = (k : ℕ) → length s ≤ c + k → R k s ≡ m

-- an answer is that of each text with the same tokens before and the same token after them
abbrev pub Near : {A : Type 0} → (List StreamToken → Read A → Type 0) → List StreamToken → Read A → Type 0
Near G s (Ok p) = (ts : List TextToken) × (s ≡ map token ts ++ p.1) × ((v : List StreamToken) → Whole v → Same p.1 v → G (map token ts ++ v) (Ok (p.0, v)))
Near G s (Err e) =
    (ts : List TextToken) × (u : List StreamToken) × (s ≡ map token ts ++ u) × (location_first u ≡ e.location)
    × ((v : List StreamToken) → Whole v → Same u v → G (map token ts ++ v) (Err e))

pub record Loc {A : Type 0} (c n : ℕ) (R : ℕ → Reads A) : Type 0 where
  pub near : (s : List StreamToken) → Whole s → length s ≤ c + n → Near (Given c R) s (R n s)

-- a reader without fuel
abbrev pub Local : {A : Type 0} → Reads A → Type 0
Local r = (c n : ℕ) → Loc c n (λ _. r)

-- ---- what changes nothing

near_as : {A : Type 0} (c : ℕ) (R T : ℕ → Reads A) (s : List StreamToken) → ((x : List StreamToken) → Same s x → (k : ℕ) → T k x ≡ R k x) → (m : Read A) → Near (Given c R) s m
    → Near (Given c T) s m
near_as c R T s to (Ok p) h = (h.0, h.1, λ v wv sv k le. to (map token h.0 ++ v) (same_at s p.1 v h.0 h.1 sv) k ∙ h.2 v wv sv k le)
near_as c R T s to (Err e) h = (h.0, h.1, h.2, h.3, λ v wv sv k le. to (map token h.0 ++ v) (same_at s h.1 v h.0 h.2 sv) k ∙ h.4 v wv sv k le)

pub loc_same : {A : Type 0} {c n : ℕ} {R T : ℕ → Reads A} → ((k : ℕ) (s : List StreamToken) → T k s ≡ R k s) → Loc c n R → Loc c n T
loc_same {c} {n} {R} {T} same one = record {
  near = λ s w l. subst (Near (Given c T) s) (sym (same n s)) (near_as c R T s (λ x _ k. same k x) (R n s) (one.near s w l));
}

-- ---- one reader and then another

both_given : {A B : Type 0} (c d : ℕ) (R : ℕ → Reads A) (F : A → ℕ → Reads B) (x : A) (left u v : List StreamToken) (a b : List TextToken) (m : Read B) (k : ℕ)
    → ((w : List StreamToken) → R k (map token a ++ w) ≡ Ok (x, w) → length (map token a ++ w) ≤ c + k → length w ≤ d + k)
    → left ≡ map token b ++ u → Whole v → Same u v → ((v : List StreamToken) → Whole v → Same left v → Given c R (map token a ++ v) (Ok (x, v)))
    → Given d (F x) (map token b ++ v) m → length (map token (a ++ b) ++ v) ≤ c + k → on (R k (map token (a ++ b) ++ v)) (λ x. F x k) ≡ m
both_given c d R F x left u v a b m k drop e w s f g le =
    let same = map_joined a b v in
    let short : length (map token a ++ (map token b ++ v)) ≤ c + k = subst (λ y. length y ≤ c + k) same le in
    let h = f (map token b ++ v) (whole_prefix b v w) (same_at left u v b e s) k short in
    ap (λ y. on (R k y) (λ x. F x k)) same ∙ ap (λ m. on m (λ x. F x k)) h ∙ g k (drop (map token b ++ v) h short)

then_near : {A B : Type 0} (c d : ℕ) (R : ℕ → Reads A) (F : A → ℕ → Reads B) (x : A) (s left : List StreamToken) (a : List TextToken)
    → ((k : ℕ) (w : List StreamToken) → R k (map token a ++ w) ≡ Ok (x, w) → length (map token a ++ w) ≤ c + k → length w ≤ d + k)
    → s ≡ map token a ++ left → ((v : List StreamToken) → Whole v → Same left v → Given c R (map token a ++ v) (Ok (x, v)))
    → (m : Read B) → Near (Given d (F x)) left m → Near (Given c (λ k s. on (R k s) (λ x. F x k))) s m
then_near c d R F x s left a drop e f (Ok q) h = (
  a ++ h.0,
  joined s left q.1 a h.0 e h.1,
  λ v w sv k le. both_given c d R F x left q.1 v a h.0 (Ok (q.0, v)) k (drop k) h.1 w sv f (h.2 v w sv) le,
)
then_near c d R F x s left a drop e f (Err r) h = (
  a ++ h.0,
  h.1,
  joined s left h.1 a h.0 e h.2,
  h.3,
  λ v w sv k le. both_given c d R F x left h.1 v a h.0 (Err r) k (drop k) h.2 w sv f (h.4 v w sv) le,
)

on_near : {A B : Type 0} (c d n : ℕ) (R : ℕ → Reads A) (F : A → ℕ → Reads B)
    → ((k : ℕ) (a : List TextToken) (w : List StreamToken) (x : A) → R k (map token a ++ w) ≡ Ok (x, w) → length (map token a ++ w) ≤ c + k → length w ≤ d + k)
    → ((x : A) → Loc d n (F x)) → (s : List StreamToken) → Whole s → length s ≤ c + n → (m : Read A) → R n s ≡ m → Near (Given c R) s m
    → Near (Given c (λ k s. on (R k s) (λ x. F x k))) s (on m (λ x. F x n))
on_near c d n R F drop rest s w l (Err e) same h = (h.0, h.1, h.2, h.3, λ v wv sv k le. ap (λ m. on m (λ x. F x k)) (h.4 v wv sv k le))
on_near c d n R F drop rest s w l (Ok p) same h =
    then_near c d R F p.0 s p.1 h.0 (λ k w. drop k h.0 w p.0) h.1 h.2 (F p.0 n p.1)
    ((rest p.0).near p.1 (whole_after h.0 p.1 (subst Whole h.1 w))
    (drop n h.0 p.1 p.0 (subst (λ y. R n y ≡ Ok p) h.1 same) (subst (λ y. length y ≤ c + n) h.1 l)))

pub loc_on : {A B : Type 0} {c n : ℕ} {R : ℕ → Reads A} {F : A → ℕ → Reads B} → Loc c n R → ((x : A) → Loc c n (F x))
    → Loc c n (λ k s. on (R k s) (λ x. F x k))
loc_on {c} {n} {R} {F} one rest = record {
  near = λ s w l. on_near c c n R F (λ k a w x _ le. let h = after_short a w in omega (arith, h, le)) rest s w l (R n s) refl (one.near s w l);
}

-- a reader that passes a token at least, and then one with less fuel
pub loc_on_less : {A B : Type 0} {n : ℕ} {r : Reads A} {F : A → ℕ → Reads B} → ((s left : List StreamToken) (x : A) → r s ≡ Ok (x, left) → length left < length s)
    → Loc 1 n (λ _. r) → ((x : A) → Loc 0 n (F x)) → Loc 1 n (λ k s. on (r s) (λ x. F x k))
loc_on_less {n} {r} {F} takes one rest = record {
  near = λ s w l. on_near 1 0 n (λ _. r) F (λ k a w x e le. let h = takes (map token a ++ w) w x e in omega (arith, h, le)) rest s w l (r s) refl (one.near s w l);
}

-- ---- choices

pub loc_if : {A : Type 0} {c n : ℕ} {R Q : ℕ → Reads A} (test : List StreamToken → Bool) → ((x y : List StreamToken) → Same x y → test x ≡ test y)
    → Loc c n R → Loc c n Q → Loc c n (λ k s. cond (test s) (R k s) (Q k s))
loc_if {c} {n} {R} {Q} test agree one other = record { near = λ s w l. go s w l (test s) refl }
  where
    go : (s : List StreamToken) → Whole s → length s ≤ c + n → (b : Bool) → test s ≡ b
        → Near (Given c (λ k s. cond (test s) (R k s) (Q k s))) s (cond b (R n s) (Q n s))
    go s w l true e =
        near_as c R (λ k s. cond (test s) (R k s) (Q k s)) s (λ x h k. cond-true (test x) (R k x) (Q k x) (sym (agree s x h) ∙ e)) (R n s) (one.near s w l)
    go s w l false e =
        near_as c Q (λ k s. cond (test s) (R k s) (Q k s)) s (λ x h k. cond-false (test x) (R k x) (Q k x) (sym (agree s x h) ∙ e)) (Q n s) (other.near s w l)

pub loc_next : {A : Type 0} {c n : ℕ} {R Q : ℕ → Reads A} (test : TextToken → Bool) → Loc c n R → Loc c n Q
    → Loc c n (λ k s. cond (is_first test s) (R k s) (Q k s))
loc_next test one other = loc_if (is_first test) (same_is_first test) one other

pub loc_cond : {A : Type 0} {c n : ℕ} {R Q : ℕ → Reads A} (b : Bool) → Loc c n R → Loc c n Q → Loc c n (λ k s. cond b (R k s) (Q k s))
loc_cond true one other = one
loc_cond false one other = other

pub loc_first : {A : Type 0} {c n : ℕ} (H : Option TextToken → ℕ → Reads A) → ((o : Option TextToken) → Loc c n (H o)) → Loc c n (λ k s. H (first s) k s)
loc_first {c} {n} H each = record {
  near = λ s w l.
      near_as c (H (first s)) (λ k s. H (first s) k s) s (λ x h k. ap (λ o. H o k x) (sym (same_first s x h))) (H (first s) n s) ((each (first s)).near s w l);
}

-- ---- after a token

shift_near : {A : Type 0} (c d : ℕ) (R T : ℕ → Reads A) (t : TextToken) (ts : List StreamToken) → ((k x : ℕ) → suc x ≤ c + k → x ≤ d + k)
    → ((k : ℕ) (w : List StreamToken) → T k (token t ∷ w) ≡ R k w) → (m : Read A) → Near (Given d R) ts m → Near (Given c T) (token t ∷ ts) m
shift_near c d R T t ts drop to (Ok p) h =
    (t ∷ h.0, ap (λ x. token t ∷ x) h.1, λ v w sv k le. to k (map token h.0 ++ v) ∙ h.2 v w sv k (drop k (length (map token h.0 ++ v)) le))
shift_near c d R T t ts drop to (Err e) h =
    (t ∷ h.0, h.1, ap (λ x. token t ∷ x) h.2, h.3, λ v w sv k le. to k (map token h.0 ++ v) ∙ h.4 v w sv k (drop k (length (map token h.0 ++ v)) le))

less : (c k x : ℕ) → suc x ≤ c + k → x ≤ c + k
less c k x h = omega (arith, h)

one_less : (k x : ℕ) → suc x ≤ 1 + k → x ≤ 0 + k
one_less k x h = omega (arith, h)

stays_bad : (p : Location) (ts x : List StreamToken) → Same (bad p ∷ ts) x → after x ≡ x
stays_bad p ts [] h = absurd h
stays_bad p ts (token t ∷ x) h = absurd cc
stays_bad p ts (bad q ∷ x) h = refl
stays_bad p ts (end q ∷ x) h = refl

stays_end : (p : Location) (ts x : List StreamToken) → Same (end p ∷ ts) x → after x ≡ x
stays_end p ts [] h = absurd h
stays_end p ts (token t ∷ x) h = absurd cc
stays_end p ts (bad q ∷ x) h = refl
stays_end p ts (end q ∷ x) h = refl

pub loc_after : {A : Type 0} {c n : ℕ} {R : ℕ → Reads A} → Loc c n R → Loc c n (λ k s. R k (after s))
loc_after {c} {n} {R} one = record { near = go }
  where
    go : (s : List StreamToken) → Whole s → length s ≤ c + n → Near (Given c (λ k s. R k (after s))) s (R n (after s))
    go [] w l = absurd w
    go (token t ∷ ts) w l = shift_near c c R (λ k s. R k (after s)) t ts (less c) (λ k w. refl) (R n ts) (one.near ts w (less c n (length ts) l))
    go (bad p ∷ ts) w l = near_as c R (λ k s. R k (after s)) (bad p ∷ ts) (λ x h k. ap (R k) (stays_bad p ts x h)) (R n (bad p ∷ ts)) (one.near (bad p ∷ ts) w l)
    go (end p ∷ ts) w l = near_as c R (λ k s. R k (after s)) (end p ∷ ts) (λ x h k. ap (R k) (stays_end p ts x h)) (R n (end p ∷ ts)) (one.near (end p ∷ ts) w l)

-- a first token that a test tells, and with less fuel what stands after it; or else
pub loc_less : {A : Type 0} {n : ℕ} {R Q : ℕ → Reads A} (test : TextToken → Bool) → Loc 0 n R → Loc 1 n Q
    → Loc 1 n (λ k s. cond (is_first test s) (R k (after s)) (Q k s))
loc_less {n} {R} {Q} test one other = record { near = go }
  where
    or_else : (s : List StreamToken) → Whole s → length s ≤ 1 + n → is_first test s ≡ false → Near (Given 1 (λ k s. cond (is_first test s) (R k (after s)) (Q k s))) s (Q n s)
    or_else s w l e =
        near_as 1 Q (λ k s. cond (is_first test s) (R k (after s)) (Q k s)) s
        (λ x h k. cond-false (is_first test x) (R k (after x)) (Q k x) (sym (same_is_first test s x h) ∙ e)) (Q n s) (other.near s w l)

    at : (t : TextToken) (ts : List StreamToken) → Whole ts → length (token t ∷ ts) ≤ 1 + n → (b : Bool) → test t ≡ b
        → Near (Given 1 (λ k s. cond (is_first test s) (R k (after s)) (Q k s))) (token t ∷ ts) (cond b (R n ts) (Q n (token t ∷ ts)))
    at t ts w l true e =
        shift_near 1 0 R (λ k s. cond (is_first test s) (R k (after s)) (Q k s)) t ts one_less (λ k w. cond-true (test t) (R k w) (Q k (token t ∷ w)) e) (R n ts)
        (one.near ts w (one_less n (length ts) l))
    at t ts w l false e = or_else (token t ∷ ts) w l e

    go : (s : List StreamToken) → Whole s → length s ≤ 1 + n
        → Near (Given 1 (λ k s. cond (is_first test s) (R k (after s)) (Q k s))) s (cond (is_first test s) (R n (after s)) (Q n s))
    go [] w l = absurd w
    go (token t ∷ ts) w l = at t ts w l (test t) refl
    go (bad p ∷ ts) w l = or_else (bad p ∷ ts) w l refl
    go (end p ∷ ts) w l = or_else (end p ∷ ts) w l refl

-- ---- answers and refusals

pub loc_give : {A : Type 0} {c n : ℕ} {y : A} → Loc c n (λ _ s. Ok (y, s))
loc_give = record { near = λ s w l. ([], refl, λ v wv sv k le. refl) }

pub loc_err : {A : Type 0} {c n : ℕ} (e : List StreamToken → Refusal) → ((u v : List StreamToken) → Same u v → e u ≡ e v)
    → ((u : List StreamToken) → Whole u → location_first u ≡ (e u).location) → Loc {A = A} c n (λ _ s. Err (e s))
loc_err e same location = record { near = λ s w l. ([], s, refl, location s w, λ v wv sv k le. ap (λ r. Err r) (sym (same s v sv))) }

same_refused : (cause : Cause) (op : OpName) (u v : List StreamToken) → Same u v → refusal_at cause op u ≡ refusal_at cause op v
same_refused cause op = same_of (refusal_at cause op) go
  where
    go : (y : StreamToken) (a b : List StreamToken) → refusal_at cause op (y ∷ a) ≡ refusal_at cause op (y ∷ b)
    go (token t) a b = refl
    go (bad p) a b = refl
    go (end p) a b = refl

pub location_refused : (cause : Cause) (op : OpName) (u : List StreamToken) → Whole u → location_first u ≡ (refusal_at cause op u).location
location_refused cause op [] w = refl
location_refused cause op (token t ∷ u) w = refl
location_refused cause op (bad p ∷ u) w = refl
location_refused cause op (end p ∷ u) w = refl

same_unexpected : (op : OpName) (u v : List StreamToken) → Same u v → unexpected_refusal op u ≡ unexpected_refusal op v
same_unexpected op = same_of (unexpected_refusal op) go
  where
    go : (y : StreamToken) (a b : List StreamToken) → unexpected_refusal op (y ∷ a) ≡ unexpected_refusal op (y ∷ b)
    go (token t) a b = refl
    go (bad p) a b = refl
    go (end p) a b = refl

location_unexpected : (op : OpName) (u : List StreamToken) → Whole u → location_first u ≡ (unexpected_refusal op u).location
location_unexpected op [] w = refl
location_unexpected op (token t ∷ u) w = refl
location_unexpected op (bad p ∷ u) w = refl
location_unexpected op (end p ∷ u) w = refl

pub loc_refused : {A : Type 0} {c n : ℕ} (cause : Cause) (op : OpName) → Loc {A = A} c n (λ _ s. Err (refusal_at cause op s))
loc_refused cause op = loc_err (refusal_at cause op) (same_refused cause op) (location_refused cause op)

pub loc_unexpected : {A : Type 0} {c n : ℕ} (op : OpName) → Loc {A = A} c n (λ _ s. Err (unexpected_refusal op s))
loc_unexpected op = loc_err (unexpected_refusal op) (same_unexpected op) (location_unexpected op)

-- ---- loops

step_near : {A : Type 0} (R Body : ℕ → Reads A) (s : List StreamToken) → ((k : ℕ) (s : List StreamToken) → R (suc k) s ≡ Body k s) → (m : Read A) → Near (Given 1 Body) s m
    → Near (Given 0 R) s m
step_near R Body s same (Ok p) h = (h.0, h.1, λ v w sv. go v w (h.2 v w sv))
  where
    go : (v : List StreamToken) → Whole v → Given 1 Body (map token h.0 ++ v) (Ok (p.0, v)) → Given 0 R (map token h.0 ++ v) (Ok (p.0, v))
    go v w f zero le = absurd (none_whole (map token h.0 ++ v) (whole_prefix h.0 v w) le)
    go v w f (suc k) le = same k (map token h.0 ++ v) ∙ f k (omega (arith, le))
step_near R Body s same (Err e) h = (h.0, h.1, h.2, h.3, λ v w sv. go v w (h.4 v w sv))
  where
    go : (v : List StreamToken) → Whole v → Given 1 Body (map token h.0 ++ v) (Err e) → Given 0 R (map token h.0 ++ v) (Err e)
    go v w f zero le = absurd (none_whole (map token h.0 ++ v) (whole_prefix h.0 v w) le)
    go v w f (suc k) le = same k (map token h.0 ++ v) ∙ f k (omega (arith, le))

pub loc_zero : {A : Type 0} {R : ℕ → Reads A} → Loc 0 0 R
loc_zero = record { near = λ s w l. absurd (none_whole s w l) }

pub loc_step : {A : Type 0} {n : ℕ} {R Body : ℕ → Reads A} → ((k : ℕ) (s : List StreamToken) → R (suc k) s ≡ Body k s) → Loc 1 n Body → Loc 0 (suc n) R
loc_step {n} {R} {Body} same one = record {
  near = λ s w l. subst (Near (Given 0 R) s) (sym (same n s)) (step_near R Body s same (Body n s) (one.near s w (omega (arith, l))));
}

all_near : {A : Type 0} (c : ℕ) (R : ℕ → Reads A) (s : List StreamToken) (m : Read A) → Near (Given 0 R) s m → Near (Given c (λ _ s. R (length s) s)) s m
all_near c R s (Ok p) h = (h.0, h.1, λ v w sv k le. h.2 v w sv (length (map token h.0 ++ v)) (omega arith))
all_near c R s (Err e) h = (h.0, h.1, h.2, h.3, λ v w sv k le. h.4 v w sv (length (map token h.0 ++ v)) (omega arith))

pub local_all : {A : Type 0} {R : ℕ → Reads A} → ((n : ℕ) → Loc 0 n R) → Local (λ s. R (length s) s)
local_all {R} each c n = record { near = λ s w l. all_near c R s (R (length s) s) ((each (length s)).near s w (omega arith)) }
