-- What the tokens of operations say is read of them.
use Rattle.std.proofs.Common.{◌≡◌, ◌⊎◌, ℕ, zero, suc, ◌≤◌, Bool, true, false, cond, List, [], ◌∷◌, ◌++◌, length, Ok, Err, refl, sym, ◌∙◌, ap, ap₂, subst, inl, inr, arith}
use Rattle.std.specs.Prelude.{codes}
use Rattle.diag.specs.declared.refusal.OpName.TheVariants as op
use Rattle.opcode.specs.declared.listed.Listed.{Listed}
use Rattle.opcode.specs.declared.listed.Listed.TheVariants as listed
use Rattle.opcode.specs.Listed.{name_of_listed}
use Rattle.hw_model.specs.Design.{same_name}
use Rattle.mlir_lexer.specs.Tokens.{TextToken}
use Rattle.mlir_lexer.specs.declared.token.TokenKind.{TokenKind}
use Rattle.mlir_lexer.specs.declared.token.TokenKind.TheVariants as kind
use Rattle.mlir_syntax.specs.Stream.{StreamToken, token, is_first, is_next, is_word, unexpected_refusal}
use Rattle.mlir_lexer.specs.TokenKinds.{is_kind}
use Rattle.mlir_syntax.specs.Reads.{on}
use Rattle.mlir_operations.specs.OperandText.{ResultNames}
use Rattle.mlir_operations.specs.OperandText.ResultNames.{no_names, names, pack}
use Rattle.assembly_format.specs.Formats.{format_of}
use Rattle.mlir_operations.specs.OperationText.{OperationText, operation, class_of, bin_text, form_text, named_operation, classed_operation, operation_after, operation_text, is_last, operations_text}
use Rattle.stored_form.specs.Dictionaries.{takes_bin, string_keys}
use Rattle.mlir_syntax.specs.Spelling.{Phrase, Mark, Then}
use Rattle.mlir_operations.specs.Spelling.{ValueName, ResultsPhrase, BinPhrase, FormPhrase, TailPhrase, StandsInBody, OperationPhrase, OperationsPhrase, IsLocationOf}
use Rattle.mlir_syntax.proofs.Again.{At, at_then, at_one, at_where, at_nothing, on_ok, if_true, if_false, Leads, leads_one, leads_then, leads_where, starts, starts_test, shorter}
use Rattle.mlir_syntax.proofs.AgainTokens.{is_kind_of, unlike, no_word, other_word, next_at, no_next, leads_commas, no_mark}
use Rattle.mlir_operations.proofs.AgainOperands.{NoValue, again_results, leads_value}
use Rattle.mlir_operations.proofs.AgainElements.{word_first}
use Rattle.mlir_operations.proofs.AgainForms.{OperationEnd, form_at}
use Rattle.mlir_operations.proofs.FormStarts.{no_bin, format_at}
use Rattle.std.proofs.lemmas.Bool.{and_from, and_right}

-- ---- names of operations

class_known : (o : Listed) → StandsInBody o → class_of (name_of_listed o) ≡ operation o
unfolding name_of_listed
class_known listed.HwModule stands = absurd stands
class_known _ stands = refl

no_reset_name : (o : Listed) → same_name (name_of_listed o) (codes "reset") ≡ false
unfolding name_of_listed
no_reset_name listed.HwModule = refl
no_reset_name _ = refl

no_bin_name : (o : Listed) → same_name (name_of_listed o) (codes "bin") ≡ false
unfolding name_of_listed
no_bin_name listed.HwModule = refl
no_bin_name _ = refl

-- ---- what an operation begins with

-- a value or the operation's name
abbrev BeginsOperation : OperationText → TextToken → Type 0
BeginsOperation o t = (t.kind ≡ kind.ValueName) ⊎ ((t.kind ≡ kind.BareName) × (t.text ≡ name_of_listed o.name))

leads_results : {T : TextToken → Type 0} {Q : Phrase} (r : ResultNames) → ((t : TextToken) → t.kind ≡ kind.ValueName → T t) → Leads T Q → Leads T (Then (ResultsPhrase r) Q)
leads_results no_names value following = record {
  lead = λ ts p. let (t, c, e, h) = following.lead p.1 p.4 in (t, c, p.2 ∙ ap (λ x. x ++ p.1) p.3 ∙ e, h);
}
leads_results (names n ns) value following = leads_then (leads_then (leads_commas ValueName n ns (leads_value n value)))
leads_results (pack n k) value following = leads_then (leads_then (leads_value n value))

leads_operation : (o : OperationText) → Leads (BeginsOperation o) (OperationPhrase IsLocationOf o)
leads_operation o = leads_where (leads_results o.results (λ t k. inl k) (leads_then (leads_one (λ t p. inr (p.0, p.1)))))

-- what the start of an operation is not
not_begun : (test : TextToken → Bool) (o : OperationText) → ((t : TextToken) → t.kind ≡ kind.ValueName → test t ≡ false)
    → ((t : TextToken) → t.kind ≡ kind.BareName → t.text ≡ name_of_listed o.name → test t ≡ false) → (t : TextToken) → BeginsOperation o t → test t ≡ false
not_begun test o value name t (inl k) = value t k
not_begun test o value name t (inr p) = name t p.0 p.1

operation_first : (test : TextToken → Bool) (o : OperationText) → ((t : TextToken) → t.kind ≡ kind.ValueName → test t ≡ false)
    → ((t : TextToken) → t.kind ≡ kind.BareName → t.text ≡ name_of_listed o.name → test t ≡ false) → (s left : List StreamToken) → At (OperationPhrase IsLocationOf o) s left
    → is_first test s ≡ false
operation_first test o value name s left a = starts_test test false (not_begun test o value name) (starts (leads_operation o) a)

-- ---- an operation

bin_at : (o : Listed) (b : Bool) {s left : List StreamToken} → is_first (is_word (codes "bin")) left ≡ false → At (BinPhrase o b) s left → bin_text o s ≡ Ok (b, left)
unfolding bin_text
bin_at o false clear a =
    let same = at_nothing a in
    if_false _ (and_right (takes_bin o) _ (ap (is_first (is_word (codes "bin"))) same ∙ clear)) (ap (λ y. Ok (false, y)) same)
bin_at o true clear a =
    let (takes, p) = at_where a in
    let (next, following) = word_first p in
    if_true _ (and_from (takes_bin o) _ takes next) (ap (λ y. Ok (true, y)) following)

-- what is after an operation's name
named_at : (o : OperationText) {s left : List StreamToken} → OperationEnd left → (is_last o.name ≡ true → NoValue left)
    → At (Then (BinPhrase o.name o.bin) (TailPhrase o)) s left → named_operation o.results o.name o.location s ≡ Ok (o, left)
unfolding named_operation
named_at o {s} {left} last out a =
    let (m, b, c) = at_then a in
    let (format, has, p) = c.says in
    let (next, is) = has in
    let inside : At (FormPhrase (string_keys o.name) format o.gathered o.dictionary) m left = record { passed = c.passed; same = c.same; says = p } in
    let shaped : At (FormPhrase (string_keys o.name) (format_of o.name next) o.gathered o.dictionary) m left =
    subst (λ x. At (FormPhrase (string_keys o.name) x o.gathered o.dictionary) m left) is inside in
    let same = format_at o.name next (string_keys o.name) o.gathered o.dictionary out shaped in
    on_ok _ (bin_at o.name o.bin (no_bin (string_keys o.name) format o.gathered o.dictionary last inside) b)
    (on_ok _ (ap (λ x. form_text (op.Listed o.name) (string_keys o.name) x m) same
    ∙ form_at (op.Listed o.name) (string_keys o.name) (format_of o.name next) o.gathered o.dictionary last shaped) refl)

operation_at : (o : OperationText) {s left : List StreamToken} → OperationEnd left → (is_last o.name ≡ true → NoValue left) → At (OperationPhrase IsLocationOf o) s left
    → operation_text s ≡ Ok (o, left)
unfolding operation_text operation_after classed_operation
operation_at o {s} {left} last out a =
    let (stands, p) = at_where a in
    let (m1, b, c) = at_then p in
    let (m2, d, e) = at_then c in
    let (t, same, q) = at_one d in
    let clear : NoValue m1 = no_next kind.ValueName (leads_one (λ t q. unlike kind.ValueName kind.BareName refl t q.0)) d in
    let class : class_of t.text ≡ operation o.name = ap class_of q.1 ∙ class_known o.name stands in
    on_ok _ ((again_results (op.Listed listed.HwModule)).gives o.results s m1 b clear)
    (ap (operation_after o.results) same ∙ if_true _ (is_kind_of q.0)
    (ap (classed_operation o.results (token t ∷ m2) t) class ∙ ap (λ x. named_operation o.results o.name x m2) q.2 ∙ named_at o last out e))

-- ---- operations

brace_end : {s left : List StreamToken} → At (Mark kind.RightBrace) s left → OperationEnd s
brace_end a = record {
  no_number = no_mark kind.ResultNumber refl a;
  no_comma = no_mark kind.Comma refl a;
  no_reset = starts_test (is_word (codes "reset")) false (no_word (codes "reset") kind.RightBrace refl) (starts (leads_one (λ t k. k)) a);
  no_bin = starts_test (is_word (codes "bin")) false (no_word (codes "bin") kind.RightBrace refl) (starts (leads_one (λ t k. k)) a);
  no_brace = no_mark kind.LeftBrace refl a;
}

no_kind : (o : OperationText) (k : TokenKind) → is_kind kind.ValueName k ≡ false → is_kind kind.BareName k ≡ false → (s left : List StreamToken) → At (OperationPhrase IsLocationOf o) s left
    → is_next k s ≡ false
no_kind o k value name s left a = operation_first (λ t. is_kind t.kind k) o (unlike k kind.ValueName value) (λ t e _. unlike k kind.BareName name t e) s left a

operation_end : (o : OperationText) {s left : List StreamToken} → At (OperationPhrase IsLocationOf o) s left → OperationEnd s
operation_end o {s} {left} a = record {
  no_number = no_kind o kind.ResultNumber refl refl s left a;
  no_comma = no_kind o kind.Comma refl refl s left a;
  no_reset = operation_first (is_word (codes "reset")) o (no_word (codes "reset") kind.ValueName refl) (λ t _ e. other_word (codes "reset") (name_of_listed o.name) (no_reset_name o.name) t e) s left a;
  no_bin = operation_first (is_word (codes "bin")) o (no_word (codes "bin") kind.ValueName refl) (λ t _ e. other_word (codes "bin") (name_of_listed o.name) (no_bin_name o.name) t e) s left a;
  no_brace = no_kind o kind.LeftBrace refl refl s left a;
}

operations_end : (os : List OperationText) {s m left : List StreamToken} → At (Mark kind.RightBrace) m left → At (OperationsPhrase IsLocationOf os) s m → OperationEnd s
operations_end [] close a = subst OperationEnd (sym (at_nothing a)) (brace_end close)
operations_end (o ∷ os) close a =
    let (once, p) = at_where a in
    let (k, b, c) = at_then p in
    operation_end o b

-- what stands after an output
output_last : (os : List OperationText) {s m left : List StreamToken} → os ≡ [] → At (Mark kind.RightBrace) m left → At (OperationsPhrase IsLocationOf os) s m
    → (s ≡ m) × NoValue s × (is_next kind.RightBrace s ≡ true)
output_last os {s} {m} none close a =
    let nothing : At (OperationsPhrase IsLocationOf []) s m = subst (λ x. At (OperationsPhrase IsLocationOf x) s m) none a in
    let same : s ≡ m = at_nothing nothing in
    let (next, following) = next_at close in
    (same, ap (is_next kind.ValueName) same ∙ no_mark kind.ValueName refl close, ap (is_next kind.RightBrace) same ∙ next)

-- an operation is the last, or further ones stand after it
last_or_more : (n : ℕ) (o : OperationText) (os : List OperationText) {k m left : List StreamToken} (b : Bool) → (b ≡ true → os ≡ []) → At (Mark kind.RightBrace) m left
    → At (OperationsPhrase IsLocationOf os) k m → operations_text n k ≡ Ok (os, m)
    → cond b (cond (is_next kind.RightBrace k) (Ok (o ∷ [], k)) (Err (unexpected_refusal (op.Listed listed.HwModule) k)))
    (on (operations_text n k) (λ os following. Ok (o ∷ os, following))) ≡ Ok (o ∷ os, m)
last_or_more n o os true once close c more =
    let (same, clear, next) = output_last os (once refl) close c in
    if_true _ next (ap₂ (λ x y. Ok (o ∷ x, y)) (sym (once refl)) same)
last_or_more n o os false once close c more = on_ok _ more refl

operations_at : (n : ℕ) (os : List OperationText) {s m left : List StreamToken} → At (Mark kind.RightBrace) m left → At (OperationsPhrase IsLocationOf os) s m → length s ≤ n
    → operations_text n s ≡ Ok (os, m)
unfolding operations_text
operations_at zero [] {s} {m} close a le =
    let short = shorter {T = λ _. Unit {0}} (leads_one (λ t k. tt)) close in
    let same : length s ≡ length m = ap length (at_nothing a) in
    absurd (omega (arith, short, same, le))
operations_at (suc n) [] {s} {m} close a le =
    let (next, following) = next_at close in
    if_true _ (ap (is_next kind.RightBrace) (at_nothing a) ∙ next) (ap (λ y. Ok ([], y)) (at_nothing a))
operations_at zero (o ∷ os) {s} close a le =
    let (once, p) = at_where a in
    let (k, b, c) = at_then p in
    let short = shorter (leads_operation o) b in
    absurd (omega (arith, short, le))
operations_at (suc n) (o ∷ os) {s} {m} close a le =
    let (once, p) = at_where a in
    let (k, b, c) = at_then p in
    let short = shorter (leads_operation o) b in
    if_false _ (no_kind o kind.RightBrace refl refl s k b)
    (on_ok _ (operation_at o (operations_end os close c) (λ is. (output_last os (once is) close c).1) b)
    (last_or_more n o os (is_last o.name) once close c (operations_at n os close c (omega (arith, short, le)))))

-- the operations of a body, up to its closing brace
pub body_at : (os : List OperationText) {s m left : List StreamToken} → At (Mark kind.RightBrace) m left → At (OperationsPhrase IsLocationOf os) s m
    → operations_text (length s) s ≡ Ok (os, m)
body_at os {s} close a = operations_at (length s) os close a (omega arith)
