-- What the tokens of constants of aggregates say is read of them.
use Rattle.std.proofs.Common.{◌≡◌, ◌⊎◌, ℕ, zero, suc, Bool, true, false, List, Some, Ok, refl, sym, ◌∙◌, ap, inl, inr, ℤ}
use Rattle.diag.specs.declared.refusal.OpName.{OpName}
use Rattle.hw_model.specs.Types.{HwType}
use Rattle.hw_model.specs.Kinds.{Literal, Literals}
use Rattle.hw_model.specs.Kinds.Literal.{leaf, parts}
use Rattle.mlir_lexer.specs.Tokens.{TextToken}
use Rattle.mlir_lexer.specs.declared.token.TokenKind.TheVariants as kind
use Rattle.mlir_syntax.specs.Stream.{StreamToken, first}
use Rattle.mlir_syntax.specs.Reads.{Reads}
use Rattle.mlir_syntax.specs.TypeText.{too_deep}
use Rattle.mlir_syntax.specs.LiteralText.{truth_literal, number_literal, list_literal, literal_head, number_leaf, truth_leaf, parts_text, list_part, literal_with, literal_text, aggregate_text}
use Rattle.mlir_syntax.specs.Spelling.{Phrase, Mark, Then, Commas, Between, IntegerPhrase, TruthWord, TypePhrase, LiteralWith, PartsPhrase, LiteralPhrase, AggregatePhrase}
use Rattle.mlir_syntax.proofs.Again.{At, at_then, at_one, at_either, on_ok, Leads, leads_one, leads_then, leads_either, starts, Again, Any}
use Rattle.mlir_syntax.proofs.AgainTokens.{unlike, Unlike, mark_at, again_integer, leads_integer, BeginsInteger, integer_begins, until_at}
use Rattle.mlir_syntax.proofs.AgainTypes.{again_type}
use Rattle.mlir_syntax.proofs.AgainAttributes.{of_kind, of_text, seen}

-- no constant begins with a closing bracket
abbrev OpensNot : TextToken → Type 0
OpensNot = Unlike kind.RightBracket

leads_with : (Lists : Literals → Phrase) (room : ℕ) → ((ls : Literals) → Leads OpensNot (Lists ls)) → (l : Literal) → Leads OpensNot (LiteralWith Lists room l)
leads_with Lists room lists (leaf z t) =
    leads_either (leads_then (leads_integer (unlike kind.RightBracket kind.Integer refl) (unlike kind.RightBracket kind.Minus refl)))
    (record { lead = λ ts p. (leads_one {T = _} {U = OpensNot} (λ t q. unlike kind.RightBracket kind.BareName refl t q.0)).lead ts p.2 })
leads_with Lists room lists (parts ls) = lists ls

leads_parts : (room : ℕ) (ls : Literals) → Leads OpensNot (PartsPhrase (LiteralPhrase room) ls)
leads_parts room ls = record { lead = λ ts p. (leads_then {P = Mark kind.LeftBracket} (leads_one (unlike kind.RightBracket kind.LeftBracket refl))).lead ts p.2 }

leads_literal : (room : ℕ) (l : Literal) → Leads OpensNot (LiteralPhrase room l)
leads_literal zero l = leads_with (λ ls ts. ⊥) zero (λ ls. record { lead = λ ts p. absurd p }) l
leads_literal (suc room) l = leads_with (PartsPhrase (LiteralPhrase room)) (suc room) (leads_parts room) l

number_head_of : (t : TextToken) → (t.kind ≡ kind.Integer) ⊎ (t.kind ≡ kind.Minus) → literal_head (Some t) ≡ number_literal
number_head_of t (inl k) = of_kind (λ t. literal_head (Some t)) t k
number_head_of t (inr k) = of_kind (λ t. literal_head (Some t)) t k

truth_at : (lists : Reads Literal) (room : ℕ) (op : OpName) (b : Bool) {s left : List StreamToken} → At (TruthWord b) s left
    → literal_with lists room op s (literal_head (first s)) ≡ Ok (truth_leaf b, left)
unfolding literal_with
truth_at lists room op true h =
    let (t, e, p) = at_one h in
    seen (literal_with lists room op) literal_head (truth_literal true) e (of_text (λ t. literal_head (Some t)) t p.0 p.1)
truth_at lists room op false h =
    let (t, e, p) = at_one h in
    seen (literal_with lists room op) literal_head (truth_literal false) e (of_text (λ t. literal_head (Some t)) t p.0 p.1)

leaf_at : (lists : Reads Literal) (room : ℕ) (op : OpName) (z : ℤ) (x : HwType) {s left : List StreamToken}
    → At (Then (IntegerPhrase z) (Then (Mark kind.Colon) (TypePhrase room x))) s left
    ⊎ At (λ ts. (b : Bool) × (leaf z x ≡ truth_leaf b) × TruthWord b ts) s left
    → literal_with lists room op s (literal_head (first s)) ≡ Ok (leaf z x, left)
unfolding literal_with number_leaf
leaf_at lists room op z x {s} {left} (inl h) =
    let (m, a, b) = at_then h in
    let (k, c, d) = at_then b in
    let (u, eu) = mark_at op c in
    let first_is = starts {T = BeginsInteger} (leads_then (integer_begins z)) h in
    let head : literal_head (first s) ≡ number_literal = ap (λ y. literal_head (first y)) first_is.same ∙ number_head_of first_is.first first_is.says in
    ap (literal_with lists room op s) head ∙ on_ok _ ((again_integer op).gives z s m a tt) (on_ok _ eu (on_ok _ ((again_type room op).gives x k left d tt) refl))
leaf_at lists room op z x {s} {left} (inr h) =
    let (b, same, p) = h.says in
    let inside : At (TruthWord b) s left = record { passed = h.passed; same = h.same; says = p } in
    truth_at lists room op b inside ∙ ap (λ y. Ok (y, left)) (sym same)

parts_at : (op : OpName) (room : ℕ) → Again Any (literal_text room op) (LiteralPhrase room) → (ls : Literals) {s left : List StreamToken}
    → At (PartsPhrase (LiteralPhrase room) ls) s left → (literal_head (first s) ≡ list_literal) × (parts_text (literal_text room op) op s ≡ Ok (ls, left))
unfolding parts_text
parts_at op room part ls {s} {left} h =
    let (l, same, p) = h.says in
    let inside : At (Between kind.LeftBracket kind.RightBracket (Commas (LiteralPhrase room) l)) s left = record { passed = h.passed; same = h.same; says = p } in
    let (m, a, b) = at_then inside in
    let (t, e, k) = at_one a in
    let (u, eu) = mark_at op a in (
      ap (λ y. literal_head (first y)) e ∙ of_kind (λ t. literal_head (Some t)) t k,
      on_ok _ eu (on_ok _ (until_at op kind.RightBracket part (leads_literal room) (λ _ _ _. tt) (λ _ _ _. tt) refl l b) (ap (λ y. Ok (y, left)) (sym same))),
    )

again_zero : (op : OpName) (l : Literal) {s left : List StreamToken} → At (LiteralPhrase zero l) s left → literal_text zero op s ≡ Ok (l, left)
again_zero op (leaf z x) h = leaf_at (too_deep op) zero op z x (at_either h)
again_zero op (parts ls) h = absurd h.says

again_suc : (room : ℕ) (op : OpName) → Again Any (literal_text room op) (LiteralPhrase room) → (l : Literal) {s left : List StreamToken} → At (LiteralPhrase (suc room) l) s left
    → literal_text (suc room) op s ≡ Ok (l, left)
unfolding literal_with list_part
again_suc room op part (leaf z x) h = leaf_at (list_part (literal_text room op) op) (suc room) op z x (at_either h)
again_suc room op part (parts ls) {s} {left} h =
    let (head, e) = parts_at op room part ls h in
    ap (literal_with (list_part (literal_text room op) op) (suc room) op s) head ∙ on_ok _ e refl

pub again_literal : (room : ℕ) (op : OpName) → Again Any (literal_text room op) (LiteralPhrase room)
again_literal zero op = record { gives = λ l s left h _. again_zero op l h }
again_literal (suc room) op = record { gives = λ l s left h _. again_suc room op (again_literal room op) l h }

pub again_aggregate : (op : OpName) → Again Any (aggregate_text op) AggregatePhrase
unfolding aggregate_text
again_aggregate op = record { gives = λ ls s left h _. let (head, e) = parts_at op 31 (again_literal 31 op) ls h in e }

pub leads_aggregate : {T : TextToken → Type 0} (ls : Literals) → ((t : TextToken) → t.kind ≡ kind.LeftBracket → T t) → Leads T (AggregatePhrase ls)
leads_aggregate ls to = record { lead = λ ts p. (leads_then {P = Mark kind.LeftBracket} (leads_one to)).lead ts p.2 }
