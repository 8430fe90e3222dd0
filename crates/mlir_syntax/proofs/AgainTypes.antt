-- What the tokens of types say is read of them.
use Rattle.std.proofs.Common.{◌≡◌, ℕ, zero, suc, List, [], ◌∷◌, length, Some, Ok, refl, sym, ◌∙◌, ap, arith}
use Rattle.std.specs.Prelude.{codes}
use Rattle.std.proofs.lemmas.Bool.{eq-eqb}
use Rattle.diag.specs.declared.refusal.OpName.{OpName}
use Rattle.hw_model.specs.Types.{HwType}
use Rattle.hw_model.specs.Types.HwType.{int, clock, array, struct}
use Rattle.hw_model.specs.TypeViews.{NamedType}
use Rattle.mlir_lexer.specs.Classes.{is_digit}
use Rattle.mlir_lexer.specs.Runs.{run}
use Rattle.mlir_lexer.specs.Contents.{content_of}
use Rattle.mlir_lexer.specs.Tokens.{TextToken}
use Rattle.mlir_lexer.specs.declared.token.TokenKind.TheVariants as kind
use Rattle.mlir_syntax.specs.Stream.{StreamToken, token, first, after}
use Rattle.mlir_syntax.specs.Reads.{Reads, want}
use Rattle.mlir_syntax.specs.Numerals.{number_in, count_limit}
use Rattle.mlir_syntax.specs.TypeText.{width_digits, after_x, bare_type, named_type, type_head, width_type, type_with, glued_element, x_rest, element_after, element_type, array_text, field_text}
use Rattle.mlir_syntax.specs.TypeText.{struct_text, too_deep, type_text, any_type, most_open}
use Rattle.mlir_syntax.specs.TypeText.TypeHead.{integer_type, array_type, struct_type}
use Rattle.mlir_syntax.specs.Spelling.{Phrase, NamePhrase, Word, Then, Between, Commas, AreDigits, WidthPhrase, TypeWord, GluedPhrase, ElementPhrase, FieldPhrase, FieldsPhrase, PlainType, TypeWith, TypePhrase}
use Rattle.mlir_syntax.proofs.Again.{At, at_then, at_one, at_either, by_either, on_ok, if_true, if_false, Leads, leads_then, Again, Any}
use Rattle.mlir_syntax.proofs.AgainTokens.{is_kind_of, unlike, mark_at, again_name, again_number, limited_is, until_at, name_unlike}

-- ---- integer types

digits_known : (digits : List ℕ) (w : ℕ) → AreDigits digits w → width_digits (105 ∷ digits) ≡ Some digits
digits_known [] w d = absurd (omega (arith, d.0))
digits_known (b ∷ bs) w d = if_true _ (eq-eqb (run is_digit (b ∷ bs)) (length (b ∷ bs)) d.1) refl

width_is : (op : OpName) (t : TextToken) (left : List StreamToken) (w : ℕ) (digits : List ℕ) → AreDigits digits w → width_type op (token t ∷ left) digits ≡ Ok (int w, left)
unfolding width_type
width_is op t left w digits d = on_ok _ (limited_is count_limit op (token t ∷ left) left w (number_in 10 0 digits) d.3 d.2) refl

-- ---- types that are no aggregates

int_at : (arrays structs : Reads HwType) (op : OpName) (w : ℕ) {s left : List StreamToken} → At (WidthPhrase (codes "i") w) s left
    → type_with arrays structs op s (type_head (first s)) ≡ Ok (int w, left)
unfolding type_with
int_at arrays structs op w {s} {left} h =
    let (t, e, p) = at_one h in
    let head : type_head (Some t) ≡ integer_type p.1.0 = if_true _ (is_kind_of p.0) (ap (λ x. bare_type (width_digits x)) p.1.1 ∙ ap bare_type (digits_known p.1.0 w p.1.2)) in
    ap (λ y. type_with arrays structs op y (type_head (first y))) e ∙ ap (type_with arrays structs op (token t ∷ left)) head ∙ width_is op t left w p.1.0 p.1.2

-- what a name after `!` begins
named_head : (t : TextToken) (name : List ℕ) → t.kind ≡ kind.TypeName → content_of kind.TypeName t.text ≡ name → type_head (Some t) ≡ named_type name
named_head t name k c = if_false _ (unlike kind.BareName kind.TypeName refl t k) (if_true _ (is_kind_of k) (ap named_type c))

clock_at : (arrays structs : Reads HwType) (op : OpName) {s left : List StreamToken} → At (TypeWord (codes "seq.clock")) s left
    → type_with arrays structs op s (type_head (first s)) ≡ Ok (clock, left)
unfolding type_with
clock_at arrays structs op {s} {left} h =
    let (t, e, p) = at_one h in
    ap (λ y. type_with arrays structs op y (type_head (first y))) e ∙ ap (type_with arrays structs op (token t ∷ left)) (named_head t (codes "seq.clock") p.0 p.1)

-- ---- arrays and structs

word_at : (element : Reads HwType) (op : OpName) {Inner : HwType → Phrase} → Again Any element Inner → (x : HwType) {s left : List StreamToken}
    → At (Then (Word (codes "x")) (Inner x)) s left → element_type element op s ≡ Ok (x, left)
unfolding element_type element_after
word_at element op inner x {s} {left} h =
    let (m, a, b) = at_then h in
    let (t, e, p) = at_one a in
    let rest : x_rest (Some t) ≡ Some [] = if_true _ (is_kind_of p.0) (ap after_x p.1) in
    ap (λ y. element_after element op y (x_rest (first y))) e ∙ ap (element_after element op (token t ∷ m)) rest ∙ inner.gives x m left b tt

glued_at : (element : Reads HwType) (op : OpName) (x : HwType) {s left : List StreamToken} → At (GluedPhrase x) s left → element_type element op s ≡ Ok (x, left)
unfolding element_type element_after glued_element
glued_at element op (int w) {s} {left} h =
    let (t, e, p) = at_one h in
    let rest : x_rest (Some t) ≡ Some (105 ∷ p.1.0) = if_true _ (is_kind_of p.0) (ap after_x p.1.1) in
    ap (λ y. element_after element op y (x_rest (first y))) e ∙ ap (element_after element op (token t ∷ left)) rest
    ∙ ap (glued_element op (token t ∷ left)) (digits_known p.1.0 w p.1.2) ∙ width_is op t left w p.1.0 p.1.2
glued_at element op clock h = absurd h.says
glued_at element op (array n x) h = absurd h.says
glued_at element op (struct fs) h = absurd h.says

element_at : (element : Reads HwType) (op : OpName) {Inner : HwType → Phrase} → Again Any element Inner → (x : HwType) {s left : List StreamToken}
    → At (ElementPhrase Inner x) s left → element_type element op s ≡ Ok (x, left)
element_at element op inner x h = by_either (word_at element op inner x) (glued_at element op x) (at_either h)

array_at : (element : Reads HwType) (op : OpName) {Inner : HwType → Phrase} → Again Any element Inner → (n : ℕ) (x : HwType) {s left : List StreamToken}
    → At (TypeWith Inner (array n x)) s left → array_text element op s ≡ Ok (array n x, left)
unfolding array_text
array_at element op inner n x h =
    let (m0, a, b) = at_then h in
    let (t, e, p) = at_one a in
    let (m1, less, c) = at_then b in
    let (m2, inside, greater) = at_then c in
    let (m3, number, part) = at_then inside in
    let (u, eu) = mark_at op less in
    let (v, ev) = mark_at op greater in
    on_ok _ (ap (λ y. want op kind.Less (after y)) e ∙ eu) (on_ok _ ((again_number count_limit op).gives n m1 m3 number tt)
    (on_ok _ (element_at element op inner x part) (on_ok _ ev refl)))

pub again_field : {Inner : HwType → Phrase} {element : Reads HwType} (op : OpName) → Again Any element Inner → Again Any (field_text element op) (FieldPhrase Inner)
unfolding field_text
again_field op inner = record {
  gives = λ f s left h _.
      let (m, a, b) = at_then h in
      let (k, c, d) = at_then b in
      let (u, eu) = mark_at op c in
      on_ok _ ((again_name op).gives f.name s m a tt) (on_ok _ eu (on_ok _ (inner.gives f.type k left d tt) refl));
}

pub leads_field : {T : TextToken → Type 0} (Inner : HwType → Phrase) (f : NamedType) → Leads T (NamePhrase f.name) → Leads T (FieldPhrase Inner f)
leads_field Inner f name = leads_then name

fields_at : (element : Reads HwType) (op : OpName) {Inner : HwType → Phrase} → Again Any element Inner → (x : HwType) {s left : List StreamToken}
    → At (Then (TypeWord (codes "hw.struct")) (FieldsPhrase Inner x)) s left → struct_text element op s ≡ Ok (x, left)
unfolding struct_text
fields_at element op {Inner} inner x {s} {left} h =
    let (m0, a, b) = at_then h in
    let (t, e, p) = at_one a in
    let (fs, same, q) = b.says in
    let inside : At (Between kind.Less kind.Greater (Commas (FieldPhrase Inner) fs)) m0 left = record { passed = b.passed; same = b.same; says = q } in
    let (m1, less, c) = at_then inside in
    let (u, eu) = mark_at op less in
    on_ok _ (ap (λ y. want op kind.Less (after y)) e ∙ eu)
    (on_ok _ (until_at op kind.Greater (again_field op inner) (λ f. leads_field Inner f (name_unlike kind.Greater refl refl)) (λ _ _ _. tt) (λ _ _ _. tt) refl fs c)
    (ap (λ y. Ok (y, left)) (sym same)))

-- ---- types

plain_at : (op : OpName) (x : HwType) {s left : List StreamToken} → At (PlainType x) s left → type_text zero op s ≡ Ok (x, left)
plain_at op (int w) h = int_at (too_deep op) (too_deep op) op w h
plain_at op clock h = clock_at (too_deep op) (too_deep op) op h
plain_at op (array n x) h = absurd h.says
plain_at op (struct fs) h = absurd h.says

with_at : (op : OpName) (room : ℕ) → Again Any (type_text room op) (TypePhrase room) → (x : HwType) {s left : List StreamToken} → At (TypeWith (TypePhrase room) x) s left
    → type_text (suc room) op s ≡ Ok (x, left)
unfolding type_with
with_at op room inner (int w) h = int_at (array_text (type_text room op) op) (struct_text (type_text room op) op) op w h
with_at op room inner clock h = clock_at (array_text (type_text room op) op) (struct_text (type_text room op) op) op h
with_at op room inner (array n x) {s} {left} h =
    let (m, a, b) = at_then h in
    let (t, e, p) = at_one a in
    let head : type_head (first s) ≡ array_type = ap (λ y. type_head (first y)) e ∙ named_head t (codes "hw.array") p.0 p.1 in
    ap (type_with (array_text (type_text room op) op) (struct_text (type_text room op) op) op s) head ∙ array_at (type_text room op) op inner n x h
with_at op room inner (struct fs) {s} {left} h =
    let (m, a, b) = at_then h in
    let (t, e, p) = at_one a in
    let head : type_head (first s) ≡ struct_type = ap (λ y. type_head (first y)) e ∙ named_head t (codes "hw.struct") p.0 p.1 in
    ap (type_with (array_text (type_text room op) op) (struct_text (type_text room op) op) op s) head ∙ fields_at (type_text room op) op inner (struct fs) h

pub again_type : (room : ℕ) (op : OpName) → Again Any (type_text room op) (TypePhrase room)
again_type zero op = record { gives = λ x s left h _. plain_at op x h }
again_type (suc room) op = record { gives = λ x s left h _. with_at op room (again_type room op) x h }

pub again_any_type : (op : OpName) → Again Any (any_type op) (TypePhrase most_open)
unfolding any_type
again_any_type op = again_type most_open op
