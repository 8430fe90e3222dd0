-- Readers that give what the tokens of a phrase say.
use Rattle.std.proofs.Common.{◌≡◌, ◌⊎◌, ◌<◌, Bool, true, false, cond, List, [], ◌∷◌, ◌++◌, length, map, Ok, refl, ◌∙◌, ap, inl, inr, arith}
use Rattle.std.proofs.lemmas.Bool.{cond-true, cond-false}
use Rattle.mlir_lexer.specs.Tokens.{TextToken}
use Rattle.mlir_syntax.specs.Stream.{StreamToken, token, is_first}
use Rattle.mlir_syntax.specs.Reads.{Read, Reads, on}
use Rattle.mlir_syntax.specs.Spelling.{Phrase, One, Nothing, Then, Either, Where}
use Rattle.mlir_syntax.proofs.Local.{map_joined, after_short}

-- ---- where phrases stand

-- the tokens between two locations of a text say something
pub record At (P : Phrase) (s left : List StreamToken) : Type 0 where
  pub passed : List TextToken
  pub same : s ≡ map token passed ++ left
  pub says : P passed

-- the two parts of a phrase, and the location between them
pub at_then : {P Q : Phrase} {s left : List StreamToken} → At (Then P Q) s left → (m : List StreamToken) × At P s m × At Q m left
at_then {left} h = (
  map token h.says.1 ++ left,
  record { passed = h.says.0; same = h.same ∙ ap (λ x. map token x ++ left) h.says.2 ∙ map_joined h.says.0 h.says.1 left; says = h.says.3 },
  record { passed = h.says.1; same = refl; says = h.says.4 },
)

pub at_one : {T : TextToken → Type 0} {s left : List StreamToken} → At (One T) s left → (t : TextToken) × (s ≡ token t ∷ left) × T t
at_one {left} h = (h.says.0, h.same ∙ ap (λ x. map token x ++ left) h.says.1, h.says.2)

pub at_where : {C : Type 0} {P : Phrase} {s left : List StreamToken} → At (Where C P) s left → C × At P s left
at_where h = (h.says.0, record { passed = h.passed; same = h.same; says = h.says.1 })

pub at_nothing : {s left : List StreamToken} → At Nothing s left → s ≡ left
at_nothing {left} h = h.same ∙ ap (λ x. map token x ++ left) h.says

pub at_as : {P Q : Phrase} {s left : List StreamToken} → ((ts : List TextToken) → P ts → Q ts) → At P s left → At Q s left
at_as to h = record { passed = h.passed; same = h.same; says = to h.passed h.says }

pub by_either : {A B C : Type 0} → (A → C) → (B → C) → A ⊎ B → C
by_either f g (inl a) = f a
by_either f g (inr b) = g b

at_side : {P Q : Phrase} {s left : List StreamToken} (ts : List TextToken) → s ≡ map token ts ++ left → P ts ⊎ Q ts → At P s left ⊎ At Q s left
at_side ts e (inl p) = inl (record { passed = ts; same = e; says = p })
at_side ts e (inr q) = inr (record { passed = ts; same = e; says = q })

pub at_either : {P Q : Phrase} {s left : List StreamToken} → At (Either P Q) s left → At P s left ⊎ At Q s left
at_either h = at_side h.passed h.same h.says

-- ---- steps of readers

pub on_ok : {A B : Type 0} {m : Read A} (f : A → Reads B) {x : A} {s : List StreamToken} {r : Read B} → m ≡ Ok (x, s) → f x s ≡ r → on m f ≡ r
on_ok f e g = ap (λ n. on n f) e ∙ g

pub if_true : {A : Type 0} {b : Bool} {x : A} (y : A) {z : A} → b ≡ true → x ≡ z → cond b x y ≡ z
if_true {b} {x} y e h = cond-true b x y e ∙ h

pub if_false : {A : Type 0} {b : Bool} (x : A) {y z : A} → b ≡ false → y ≡ z → cond b x y ≡ z
if_false {b} x {y} e h = cond-false b x y e ∙ h

-- ---- first tokens

-- a token stands first, and it is so
pub record Starts (T : TextToken → Type 0) (s : List StreamToken) : Type 0 where
  pub first : TextToken
  pub following : List StreamToken
  pub same : s ≡ token first ∷ following
  pub says : T first

-- each text of a phrase begins with a token that is so
pub record Leads (T : TextToken → Type 0) (P : Phrase) : Type 0 where
  pub lead : (ts : List TextToken) → P ts → (t : TextToken) × (a : List TextToken) × (ts ≡ t ∷ a) × T t

pub leads_one : {T U : TextToken → Type 0} → ((t : TextToken) → T t → U t) → Leads U (One T)
leads_one to = record { lead = λ ts p. (p.0, [], p.1, to p.0 p.2) }

pub leads_then : {T : TextToken → Type 0} {P Q : Phrase} → Leads T P → Leads T (Then P Q)
leads_then one = record {
  lead = λ ts p. let (t, a, e, h) = one.lead p.0 p.3 in (t, a ++ p.1, p.2 ∙ ap (λ x. x ++ p.1) e, h);
}

pub leads_where : {T : TextToken → Type 0} {C : Type 0} {P : Phrase} → Leads T P → Leads T (Where C P)
leads_where one = record { lead = λ ts p. one.lead ts p.1 }

pub leads_either : {T : TextToken → Type 0} {P Q : Phrase} → Leads T P → Leads T Q → Leads T (Either P Q)
leads_either one other = record { lead = λ ts p. by_either (one.lead ts) (other.lead ts) p }

pub starts : {T : TextToken → Type 0} {P : Phrase} {s left : List StreamToken} → Leads T P → At P s left → Starts T s
starts {left} leads h =
    let (t, a, e, p) = leads.lead h.passed h.says in
    record { first = t; following = map token a ++ left; same = h.same ∙ ap (λ x. map token x ++ left) e; says = p }

-- a phrase with a first token passes one at least
pub shorter : {T : TextToken → Type 0} {P : Phrase} {s left : List StreamToken} → Leads T P → At P s left → length left < length s
shorter {s} {left} leads h =
    let (t, a, e, p) = leads.lead h.passed h.says in
    let same : s ≡ token t ∷ (map token a ++ left) = h.same ∙ ap (λ x. map token x ++ left) e in
    let short = after_short a left in
    rw same (omega (arith, short))

pub starts_test : {T : TextToken → Type 0} {s : List StreamToken} (test : TextToken → Bool) (b : Bool) → ((t : TextToken) → T t → test t ≡ b) → Starts T s
    → is_first test s ≡ b
starts_test test b to h = ap (is_first test) h.same ∙ to h.first h.says

-- ---- readers

-- a reader gives what tokens say, where what stands after them is so
pub record Again {A : Type 0} (F : List StreamToken → Type 0) (r : Reads A) (P : A → Phrase) : Type 0 where
  pub gives : (x : A) (s left : List StreamToken) → At (P x) s left → F left → r s ≡ Ok (x, left)

-- whatever stands after
abbrev pub Any : List StreamToken → Type 0
Any s = Unit {0}
