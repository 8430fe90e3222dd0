-- What the tokens of the pieces of operations say is read of them.
use Rattle.std.proofs.Common.{◌≡◌, ◌⊎◌, ℕ, zero, suc, Bool, true, false, cond, List, [], ◌∷◌, length, Option, Some, None, Ok, refl, sym, ◌∙◌, ap, inl, inr, arith, option_and_then}
use Rattle.std.specs.Prelude.{codes}
use Rattle.diag.specs.declared.refusal.OpName.{OpName}
use Rattle.hw_model.specs.Types.{Name, HwType}
use Rattle.hw_model.specs.TypeViews.{NamedType}
use Rattle.mlir_lexer.specs.declared.token.TokenKind.TheVariants as kind
use Rattle.mlir_syntax.specs.Stream.{StreamToken, token, first, is_first, is_next, is_word, after}
use Rattle.mlir_syntax.specs.Reads.{Read, on}
use Rattle.mlir_syntax.specs.TypeText.{any_type, most_open}
use Rattle.mlir_operations.specs.OperandText.{OperandName}
use Rattle.mlir_operations.specs.ElementText.{InherentAttributes, Gathered, with_operands, with_inherent, group_text, further_types, types_text, reset_operands, reset_text, reset_mode}
use Rattle.mlir_operations.specs.ElementText.{sync_or_async_reset_text, Joined, input_text, output_text, inputs_text, outputs_text, instance_text, element_text, elements_text}
use Rattle.mlir_syntax.specs.WordText.{bare_text, as_known, predicate_named, predicate_text, truth_named, truth_text, string_text, symbol_text, inner_symbol, module_symbol}
use Rattle.mlir_operations.specs.ElementText.InherentAttributes.{with_reset, with_async_reset}
use Rattle.mlir_syntax.specs.Spelling.{Phrase, Mark, Word, Holding, Then, Either, Where, Commas, Between, Nothing, SymbolPhrase, TruthWord, TypePhrase}
use Rattle.mlir_operations.specs.Spelling.{OperandPhrase, ResetSync, ResetAsync, ResetPhrase, InputPhrase, OutputPhrase, InnerSymbol, InstancePhrase, FormatElementPhrase, ElementsPhrase}
use Rattle.assembly_format.specs.declared.elements.FormatElement.{FormatElement}
use Rattle.assembly_format.specs.declared.elements.FormatElement.TheVariants as element
use Rattle.mlir_syntax.proofs.Again.{At, at_then, at_one, at_where, at_nothing, at_either, on_ok, if_true, if_false, Leads, leads_one, leads_then, starts, starts_test, Again, Any}
use Rattle.mlir_syntax.proofs.AgainTokens.{is_kind_of, unlike, is_word_of, no_word, other_word, mark_at, word_at, holding_at, again_name, again_symbol, again_number, again_integer, leads_symbol, again_some, until_at, no_mark, name_unlike}
use Rattle.mlir_syntax.proofs.AgainTypes.{again_type, again_any_type, again_field, leads_field}
use Rattle.mlir_syntax.proofs.AgainLiterals.{again_aggregate}
use Rattle.mlir_operations.proofs.AgainOperands.{NoNumber, no_number, again_operand, leads_operand}

-- ---- words

known_at : {A : Type 0} (op : OpName) (f : List ℕ → Option A) (name : List ℕ) (x : A) {s left : List StreamToken} → f name ≡ Some x → At (Word name) s left
    → as_known op s (option_and_then f (bare_text (first s))) ≡ Ok (x, left)
known_at op f name x {s} {left} known h =
    let (t, e, p) = at_one h in
    let text : bare_text (Some t) ≡ Some name = if_true _ (is_kind_of p.0) (ap (λ n. Some n) p.1) in
    ap (λ y. as_known op y (option_and_then f (bare_text (first y)))) e ∙ ap (λ o. as_known op (token t ∷ left) (option_and_then f o)) text ∙ ap (as_known op (token t ∷ left)) known

truth_known : (b : Bool) → truth_named (cond b (codes "true") (codes "false")) ≡ Some b
unfolding truth_named
truth_known true = refl
truth_known false = refl

again_truth : (op : OpName) → Again Any (truth_text op) TruthWord
unfolding truth_text
again_truth op = record { gives = λ b s left h _. known_at op truth_named (cond b (codes "true") (codes "false")) b (truth_known b) h }

again_string : (op : OpName) → Again Any (string_text op) (Holding kind.StringLiteral)
unfolding string_text
again_string op = record {
  gives = λ name s left h _. let (t, c, e) = holding_at op h in on_ok _ e (ap (λ x. Ok (x, left)) c);
}

-- a word stands first
pub word_first : {name : List ℕ} {s left : List StreamToken} → At (Word name) s left → (is_first (is_word name) s ≡ true) × (after s ≡ left)
word_first {name} h = let (t, e, p) = at_one h in (ap (is_first (is_word name)) e ∙ is_word_of t p.0 p.1, ap after e)

-- another word stands first
pub other_first : (name : List ℕ) {P : Phrase} {s left : List StreamToken} → Leads (λ t. is_word name t ≡ false) P → At P s left → is_first (is_word name) s ≡ false
other_first name leads h = starts_test (is_word name) false (λ t p. p) (starts leads h)

-- ---- operands and types

group_at : (op : OpName) (os : List OperandName) {s left : List StreamToken} → At (Between kind.LeftParenthesis kind.RightParenthesis (Commas OperandPhrase os)) s left
    → group_text op s ≡ Ok (os, left)
unfolding group_text
group_at op os h =
    let (m, a, b) = at_then h in
    let (t, e) = mark_at op a in
    on_ok _ e (until_at op kind.RightParenthesis (again_operand op) (λ o. leads_operand o (unlike kind.RightParenthesis kind.ValueName refl))
    (λ s left c. no_number kind.Comma refl c) (λ s left c. no_number kind.RightParenthesis refl c) refl os b)

types_after : (op : OpName) (n : ℕ) (x : HwType) (l : List HwType) (s left : List StreamToken) → length l ≡ n → At (Commas (TypePhrase most_open) (x ∷ l)) s left
    → on (any_type op s) (λ t s1. on (further_types op n s1) (λ ts s2. Ok (t ∷ ts, s2))) ≡ Ok (x ∷ l, left)
unfolding further_types
types_after op zero x [] s left e h = on_ok _ ((again_any_type op).gives x s left h tt) refl
types_after op (suc n) x [] s left e h = absurd (omega (arith, e))
types_after op zero x (y ∷ ys) s left e h = absurd (omega (arith, e))
types_after op (suc n) x (y ∷ ys) s left e h =
    let (m, a, b) = at_then h in
    let (k, c, d) = at_then b in
    let (t, w) = mark_at op c in
    let same : length ys ≡ n = omega (arith, e) in
    on_ok _ ((again_any_type op).gives x s m a tt) (on_ok _ (on_ok _ w (types_after op n y ys k left same d)) refl)

types_at : (op : OpName) (n : ℕ) (l : List HwType) {s left : List StreamToken} → length l ≡ n → At (Commas (TypePhrase most_open) l) s left → types_text op n s ≡ Ok (l, left)
unfolding types_text
types_at op zero [] e h = ap (λ y. Ok ([], y)) (at_nothing h)
types_at op (suc n) [] e h = absurd (omega (arith, e))
types_at op zero (x ∷ l) e h = absurd (omega (arith, e))
types_at op (suc n) (x ∷ l) {s} {left} e h = types_after op n x l s left (omega (arith, e)) h

-- ---- resets

-- no reset stands there
abbrev pub NoReset : List StreamToken → Type 0
NoReset s = is_first (is_word (codes "reset")) s ≡ false

reset_operands_at : (op : OpName) (e : InherentAttributes) (g : Gathered) (r v : OperandName) {s left : List StreamToken} → NoNumber left
    → At (Then (OperandPhrase r) (Then (Mark kind.Comma) (OperandPhrase v))) s left
    → reset_operands op e g s ≡ Ok (with_inherent (with_operands g (r ∷ v ∷ [])) e, left)
unfolding reset_operands
reset_operands_at op how g r v {s} {left} clear h =
    let (m, a, b) = at_then h in
    let (k, c, d) = at_then b in
    let (t, e) = mark_at op c in
    on_ok _ ((again_operand op).gives r s m a (no_number kind.Comma refl c)) (on_ok _ e (on_ok _ ((again_operand op).gives v k left d clear) refl))

no_reset_at : (g h : Gathered) {s left : List StreamToken} → NoReset left → At (Where (h ≡ g) Nothing) s left → NoReset s × (◌≡◌ {A = Read Gathered} (Ok (g, s)) (Ok (h, left)))
no_reset_at g h {s} {left} clear a =
    let (e, p) = at_where a in
    let same = at_nothing p in
    (ap (is_first (is_word (codes "reset"))) same ∙ clear, ap (λ y. Ok (g, y)) same ∙ ap (λ x. Ok (x, left)) (sym e))

reset_at : (op : OpName) (g h : Gathered) {s left : List StreamToken} → NoNumber left → NoReset left
    → At (ResetPhrase (Word (codes "reset")) with_reset g h) s left ⊎ At (Where (h ≡ g) Nothing) s left → reset_text op g s ≡ Ok (h, left)
unfolding reset_text
reset_at op g h {s} {left} clear other (inl a) =
    let (r, v, same, p) = a.says in
    let inside : At (Then (Word (codes "reset")) (Then (OperandPhrase r) (Then (Mark kind.Comma) (OperandPhrase v)))) s left = record { passed = a.passed; same = a.same; says = p } in
    let (m, b, c) = at_then inside in
    let (next, following) = word_first b in
    if_true _ next (ap (reset_operands op with_reset g) following ∙ reset_operands_at op with_reset g r v clear c ∙ ap (λ x. Ok (x, left)) (sym same))
reset_at op g h {s} {left} clear other (inr a) = let (b, e) = no_reset_at g h other a in if_false _ b e

-- `sync` and `async` say what they say
sync_at : (op : OpName) {s left : List StreamToken} → At (Word (codes "sync")) s left → reset_mode op s ≡ Ok (with_reset, left)
unfolding reset_mode
sync_at op h =
    let (t, e) = word_at op h in
    if_false _ (other_first (codes "async") (leads_one (λ t p. other_word (codes "async") (codes "sync") refl t p.1)) h) (on_ok _ e refl)

async_at : (op : OpName) {s left : List StreamToken} → At (Word (codes "async")) s left → reset_mode op s ≡ Ok (with_async_reset, left)
unfolding reset_mode
async_at op h =
    let (next, following) = word_first h in
    if_true _ next (ap (λ x. Ok (with_async_reset, x)) following)

-- `reset`, such a word and two operands
mode_reset_at : (op : OpName) (Mode : Phrase) (how : InherentAttributes) (g h : Gathered) {s left : List StreamToken} → NoNumber left
    → ((m k : List StreamToken) → At Mode m k → reset_mode op m ≡ Ok (how, k))
    → At (ResetPhrase (Then (Word (codes "reset")) Mode) how g h) s left → sync_or_async_reset_text op g s ≡ Ok (h, left)
unfolding sync_or_async_reset_text
mode_reset_at op Mode how g h {s} {left} clear says a =
    let (r, v, same, p) = a.says in
    let inside : At (Then (Then (Word (codes "reset")) Mode) (Then (OperandPhrase r) (Then (Mark kind.Comma) (OperandPhrase v)))) s left =
    record { passed = a.passed; same = a.same; says = p } in
    let (m, b, c) = at_then inside in
    let (k, x, y) = at_then b in
    let (next, following) = word_first x in
    if_true _ next (on_ok _ (ap (reset_mode op) following ∙ says k m y) (reset_operands_at op how g r v clear c ∙ ap (λ x. Ok (x, left)) (sym same)))

no_mode_reset_at : (op : OpName) (g h : Gathered) {s left : List StreamToken} → NoReset left → At (Where (h ≡ g) Nothing) s left → sync_or_async_reset_text op g s ≡ Ok (h, left)
unfolding sync_or_async_reset_text
no_mode_reset_at op g h other a = let (b, e) = no_reset_at g h other a in if_false _ b e

some_mode_reset_at : (op : OpName) (g h : Gathered) {s left : List StreamToken} → NoNumber left → NoReset left
    → At (ResetPhrase ResetAsync with_async_reset g h) s left ⊎ At (Where (h ≡ g) Nothing) s left → sync_or_async_reset_text op g s ≡ Ok (h, left)
some_mode_reset_at op g h clear other (inl a) = mode_reset_at op (Word (codes "async")) with_async_reset g h clear (λ m k b. async_at op b) a
some_mode_reset_at op g h clear other (inr a) = no_mode_reset_at op g h other a

sync_or_async_reset_at : (op : OpName) (g h : Gathered) {s left : List StreamToken} → NoNumber left → NoReset left
    → At (ResetPhrase ResetSync with_reset g h) s left ⊎ At (Either (ResetPhrase ResetAsync with_async_reset g h) (Where (h ≡ g) Nothing)) s left
    → sync_or_async_reset_text op g s ≡ Ok (h, left)
sync_or_async_reset_at op g h clear other (inl a) = mode_reset_at op (Word (codes "sync")) with_reset g h clear (λ m k b. sync_at op b) a
sync_or_async_reset_at op g h clear other (inr a) = some_mode_reset_at op g h clear other (at_either a)

-- ---- instances

again_input : (op : OpName) → Again Any (input_text op) InputPhrase
unfolding input_text
again_input op = record {
  gives = λ j s left h _.
      let (m1, a, b) = at_then h in
      let (m2, c, d) = at_then b in
      let (m3, x, y) = at_then d in
      let (m4, u, v) = at_then y in
      let (t1, e1) = mark_at op c in
      let (t2, e2) = mark_at op u in
      on_ok _ ((again_name op).gives j.port s m1 a tt) (on_ok _ e1 (on_ok _ ((again_operand op).gives j.operand m2 m3 x (no_number kind.Colon refl u))
      (on_ok _ e2 (on_ok _ ((again_any_type op).gives j.type m4 left v tt) refl))));
}

again_output : (op : OpName) → Again Any (output_text op) OutputPhrase
unfolding output_text
again_output op = again_field op (again_type most_open op)

inner_at : (op : OpName) (inner : Option Name) {s left : List StreamToken} → is_first (is_word (codes "sym")) left ≡ false → At (InnerSymbol inner) s left
    → inner_symbol op s ≡ Ok (inner, left)
unfolding inner_symbol
inner_at op None clear h =
    let same = at_nothing h in
    if_false _ (ap (is_first (is_word (codes "sym"))) same ∙ clear) (ap (λ y. Ok (None, y)) same)
inner_at op (Some name) {s} {left} clear h =
    let (m, a, b) = at_then h in
    let (next, following) = word_first a in
    if_true _ next (on_ok _ (ap (symbol_text op) following ∙ (again_symbol op).gives name m left b tt) refl)

-- a symbol is no word
pub token_first : (word : List ℕ) (name : Name) {s left : List StreamToken} → At (SymbolPhrase name) s left → is_first (is_word word) s ≡ false
token_first word name h = other_first word (leads_symbol (no_word word kind.SymbolName refl) (no_word word kind.SymbolString refl)) h

pub module_symbol_at : (op : OpName) (name : Name) {s left : List StreamToken} → is_next kind.Less left ≡ false → At (SymbolPhrase name) s left
    → module_symbol op s ≡ Ok (name, left)
unfolding module_symbol
module_symbol_at op name {s} {left} clear h = on_ok _ ((again_symbol op).gives name s left h tt) (if_false _ clear refl)

inputs_at : (op : OpName) (ins : List Joined) {s left : List StreamToken} → At (Between kind.LeftParenthesis kind.RightParenthesis (Commas InputPhrase ins)) s left
    → inputs_text op s ≡ Ok (ins, left)
unfolding inputs_text
inputs_at op ins h =
    let (m, a, b) = at_then h in
    let (t, e) = mark_at op a in
    on_ok _ e (until_at op kind.RightParenthesis (again_input op)
    (λ j. leads_then (name_unlike kind.RightParenthesis refl refl))
    (λ _ _ _. tt) (λ _ _ _. tt) refl ins b)

outputs_at : (op : OpName) (outs : List NamedType) {s left : List StreamToken}
    → At (Then (Mark kind.Arrow) (Between kind.LeftParenthesis kind.RightParenthesis (Commas OutputPhrase outs))) s left → outputs_text op s ≡ Ok (outs, left)
unfolding outputs_text
outputs_at op outs h =
    let (m, a, b) = at_then h in
    let (k, c, d) = at_then b in
    let (t, e) = mark_at op a in
    let (u, f) = mark_at op c in
    on_ok _ e (on_ok _ f (until_at op kind.RightParenthesis (again_output op)
    (λ q. leads_field (TypePhrase most_open) q (name_unlike kind.RightParenthesis refl refl))
    (λ _ _ _. tt) (λ _ _ _. tt) refl outs d))

instance_at : (op : OpName) (g h : Gathered) {s left : List StreamToken} → At (InstancePhrase g h) s left → instance_text op g s ≡ Ok (h, left)
unfolding instance_text
instance_at op g h {s} {left} a =
    let (name, symbol, inner, ins, outs, same, p) = a.says in
    let inside : At (Then (Holding kind.StringLiteral name) (Then (InnerSymbol inner) (Then (SymbolPhrase symbol)
    (Then (Between kind.LeftParenthesis kind.RightParenthesis (Commas InputPhrase ins))
    (Then (Mark kind.Arrow) (Between kind.LeftParenthesis kind.RightParenthesis (Commas OutputPhrase outs))))))) s left =
    record { passed = a.passed; same = a.same; says = p } in
    let (m1, p1, q1) = at_then inside in
    let (m2, p2, q2) = at_then q1 in
    let (m3, p3, q3) = at_then q2 in
    let (m4, p4, q4) = at_then q3 in
    let (m5, left_mark, q5) = at_then p4 in
    on_ok _ ((again_string op).gives name s m1 p1 tt) (on_ok _ (inner_at op inner (token_first (codes "sym") symbol p3) p2)
    (on_ok _ (module_symbol_at op symbol (no_mark kind.Less refl left_mark) p3)
    (on_ok _ (inputs_at op ins p4) (on_ok _ (outputs_at op outs q4) (ap (λ x. Ok (x, left)) (sym same))))))

-- ---- pieces

-- what may stand after a piece
abbrev pub EndOf : FormatElement → List StreamToken → Type 0
EndOf element.Operand s = NoNumber s
EndOf element.Operands s = NoNumber s × (is_next kind.Comma s ≡ false)
EndOf element.Reset s = NoNumber s × NoReset s
EndOf element.SyncOrAsyncReset s = NoNumber s × NoReset s
EndOf _ s = Unit {0}

pub element_at : (op : OpName) (p : FormatElement) (g h : Gathered) {s left : List StreamToken} → EndOf p left → At (FormatElementPhrase p g h) s left → element_text op p g s ≡ Ok (h, left)
unfolding element_text predicate_text
element_at op (element.Mark k) g h {s} {left} end a =
    let (same, p) = at_where a in
    let (t, e) = mark_at op p in
    on_ok _ e (ap (λ x. Ok (x, left)) (sym same))
element_at op (element.Word w) g h {s} {left} end a =
    let (same, p) = at_where a in
    let (t, e) = word_at op p in
    on_ok _ e (ap (λ x. Ok (x, left)) (sym same))
element_at op element.Operand g h {s} {left} end a =
    let (o, same, p) = a.says in
    let inside : At (OperandPhrase o) s left = record { passed = a.passed; same = a.same; says = p } in
    on_ok _ ((again_operand op).gives o s left inside end) (ap (λ x. Ok (x, left)) (sym same))
element_at op element.Operands g h {s} {left} end a =
    let (o, os, same, p) = a.says in
    let inside : At (Commas OperandPhrase (o ∷ os)) s left = record { passed = a.passed; same = a.same; says = p } in
    on_ok _ (again_some op (again_operand op) (λ v. leads_operand {T = λ _. Unit {0}} v (λ t k. tt)) (λ s left c. no_number kind.Comma refl c) o os s left inside end.0 end.1)
    (ap (λ x. Ok (x, left)) (sym same))
element_at op element.Group g h {s} {left} end a =
    let (os, same, p) = a.says in
    let inside : At (Between kind.LeftParenthesis kind.RightParenthesis (Commas OperandPhrase os)) s left = record { passed = a.passed; same = a.same; says = p } in
    on_ok _ (group_at op os inside) (ap (λ x. Ok (x, left)) (sym same))
element_at op element.Predicate g h {s} {left} end a =
    let (p, name, same, known, q) = a.says in
    let inside : At (Word name) s left = record { passed = a.passed; same = a.same; says = q } in
    on_ok _ (known_at op predicate_named name p known inside) (ap (λ x. Ok (x, left)) (sym same))
element_at op element.Number g h {s} {left} end a =
    let (n, same, p) = a.says in
    on_ok _ ((again_number _ op).gives n s left (record { passed = a.passed; same = a.same; says = p }) tt) (ap (λ x. Ok (x, left)) (sym same))
element_at op element.Truth g h {s} {left} end a =
    let (b, same, p) = a.says in
    on_ok _ ((again_truth op).gives b s left (record { passed = a.passed; same = a.same; says = p }) tt) (ap (λ x. Ok (x, left)) (sym same))
element_at op element.Integer g h {s} {left} end a =
    let (z, same, p) = a.says in
    on_ok _ ((again_integer op).gives z s left (record { passed = a.passed; same = a.same; says = p }) tt) (ap (λ x. Ok (x, left)) (sym same))
element_at op element.Literals g h {s} {left} end a =
    let (ls, same, p) = a.says in
    on_ok _ ((again_aggregate op).gives ls s left (record { passed = a.passed; same = a.same; says = p }) tt) (ap (λ x. Ok (x, left)) (sym same))
element_at op element.Field g h {s} {left} end a =
    let (name, same, p) = a.says in
    on_ok _ ((again_string op).gives name s left (record { passed = a.passed; same = a.same; says = p }) tt) (ap (λ x. Ok (x, left)) (sym same))
element_at op element.Instance g h end a = instance_at op g h a
element_at op element.Reset g h end a = reset_at op g h end.0 end.1 (at_either a)
element_at op element.SyncOrAsyncReset g h end a = sync_or_async_reset_at op g h end.0 end.1 (at_either a)
element_at op element.Type g h {s} {left} end a =
    let (x, same, p) = a.says in
    on_ok _ ((again_any_type op).gives x s left (record { passed = a.passed; same = a.same; says = p }) tt) (ap (λ x. Ok (x, left)) (sym same))
element_at op element.Types g h {s} {left} end a =
    let (l, same, count, p) = a.says in
    let inside : At (Commas (TypePhrase most_open) l) s left = record { passed = a.passed; same = a.same; says = p } in
    on_ok _ (types_at op (length g.operands) l count inside) (ap (λ x. Ok (x, left)) (sym same))

-- what may stand after pieces: after each stands what may
abbrev pub Ends : List FormatElement → List StreamToken → Type 0
Ends [] left = Unit {0}
Ends (p ∷ ps) left = ((m : List StreamToken) (x y : Gathered) → At (ElementsPhrase ps x y) m left → EndOf p m) × Ends ps left

pub elements_at : (op : OpName) (ps : List FormatElement) (g h : Gathered) {s left : List StreamToken} → Ends ps left → At (ElementsPhrase ps g h) s left
    → elements_text op ps g s ≡ Ok (h, left)
elements_at op [] g h {s} {left} end a =
    let (same, p) = at_where a in
    ap (λ y. Ok (g, y)) (at_nothing p) ∙ ap (λ x. Ok (x, left)) (sym same)
elements_at op (p ∷ ps) g h {s} {left} end a =
    let (m, q) = a.says in
    let inside : At (Then (FormatElementPhrase p g m) (ElementsPhrase ps m h)) s left = record { passed = a.passed; same = a.same; says = q } in
    let (k, b, c) = at_then inside in
    on_ok _ (element_at op p g m (end.0 k m h c) b) (elements_at op ps m h end.1 c)
