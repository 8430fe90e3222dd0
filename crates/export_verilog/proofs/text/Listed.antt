-- Lines of a list, added one after another.
use Rattle.std.proofs.Common.{◌≡◌, ℕ, zero, suc, ◌+◌, ◌<◌, ◌≤◌, ◌^◌, nat_lt, Bool, List, [], ◌∷◌, ◌++◌, codes, map, length, drop, get_or, slice_get, Some, refl, sym, ◌∙◌, ap, append_assoc, arith}
use Rattle.std.proofs.lemmas.Bool.Decides.{nat_tests}
use Rattle.std.proofs.lemmas.List.{append-nil, drop_all}
use Rattle.hw_model.specs.Types.{Name, width}
use Rattle.hw_model.specs.Design.{Port}
use Rattle.verilog_model.specs.Tree.{VPort, Connection}
use Rattle.wiring.proofs.Joined.{split_at}
use Rattle.export_verilog.specs.Layout.{Text, port_text, port_lines, ports_text, connection_text, connection_lines}
use Rattle.export_verilog.specs.Written.{line_end, some_left, ports_left, connections_left, port_named, ports_named, AreNarrow}
use Rattle.export_verilog.proofs.text.Rests.{port_rest, connection_rest}

-- what a view gives of the element at a position
pub viewed : {A B : Type 0} (view : A → B) (xs : List A) (i : ℕ) (x : A) → i < length xs → x ≡ get_or xs i x → slice_get (map view xs) i ≡ Some (view x)
viewed view [] i x lt at = absurd (omega (arith, lt))
viewed view (y ∷ ys) zero x lt at = ap (λ z. Some (view z)) (sym at)
viewed view (y ∷ ys) (suc i) x lt at = viewed view ys i x (omega (arith, lt)) at

-- what is made of each element is gathered
pub gather_step : {A B : Type 0} (f : A → B) (F : List A → List B) (xs : List A) (i : ℕ) (x : A) (out one whole : List B)
    → ((y : A) (ys : List A) → F (y ∷ ys) ≡ f y ∷ F ys) → i < length xs → x ≡ get_or xs i x
    → out ++ F (drop i xs) ≡ whole → one ≡ out ++ f x ∷ [] → one ++ F (drop (i + 1) xs) ≡ whole
gather_step f F xs i x out one whole more lt at inv e =
    ap (λ l. l ++ F (drop (i + 1) xs)) e ∙ append_assoc out (f x ∷ []) (F (drop (i + 1) xs))
    ∙ ap (λ l. out ++ l) (sym (ap F (split_at xs i x lt at) ∙ more x (drop (i + 1) xs))) ∙ inv

pub gather_end : {A B : Type 0} (F : List A → List B) (xs : List A) (i : ℕ) (out whole : List B) → F [] ≡ [] → length xs ≤ i
    → out ++ F (drop i xs) ≡ whole → out ≡ whole
gather_end F xs i out whole none le inv = sym (append-nil out) ∙ sym (ap (λ l. out ++ l) (ap F (drop_all i xs le) ∙ none)) ∙ inv

-- ---- ports

pub port_first : (p : VPort) (ps : List VPort) (bs : Text) → ports_left (p ∷ ps) bs ≡ port_text p (line_end (some_left ps)) ++ ports_left ps bs
unfolding port_lines
port_first p [] bs = port_rest p (10 ∷ []) bs
port_first p (q ∷ qs) bs = port_rest p (44 ∷ 10 ∷ []) (port_lines q qs bs)

pub less_suc : (a b : ℕ) → nat_lt a b ≡ nat_lt (suc a) (suc b)
less_suc a b = grind (arith, nat_tests)

pub some_ports : {A : Type 0} (view : A → Port) (ns : List Name) (xs : List A) (k : ℕ) → length ns ≡ length xs
    → some_left (ports_named (drop k ns) (map view (drop k xs))) ≡ nat_lt k (length xs)
some_ports view [] [] zero e = refl
some_ports view [] [] (suc k) e = grind arith
some_ports view [] (x ∷ xs) k e = absurd (omega (arith, e))
some_ports view (n ∷ ns) [] k e = absurd (omega (arith, e))
some_ports view (n ∷ ns) (x ∷ xs) zero e = grind arith
some_ports view (n ∷ ns) (x ∷ xs) (suc k) e = some_ports view ns xs k (omega (arith, e)) ∙ less_suc k (length xs)

pub narrow_at : {A : Type 0} (view : A → Port) (xs : List A) (i : ℕ) (x : A) → AreNarrow (map view xs) → i < length xs → x ≡ get_or xs i x → width (view x).type < 2 ^ 64
narrow_at view xs i x narrow lt at = narrow i (view x) (viewed view xs i x lt at)

pub ports_step : {A : Type 0} (view : A → Port) (ns : List Name) (xs : List A) (i : ℕ) (n : Name) (x : A) (left : Bool) (out one whole : Text)
    → length ns ≡ length xs → i < length xs → n ≡ get_or ns i n → x ≡ get_or xs i x → left ≡ nat_lt (i + 1) (length xs)
    → out ++ ports_left (ports_named (drop i ns) (map view (drop i xs))) [] ≡ whole
    → one ≡ out ++ port_text (port_named n (view x)) (line_end left)
    → one ++ ports_left (ports_named (drop (i + 1) ns) (map view (drop (i + 1) xs))) [] ≡ whole
ports_step view ns xs i n x left out one whole count lt nat xat is inv e =
    let rest = ports_named (drop (i + 1) ns) (map view (drop (i + 1) xs)) in
    let d : ports_named (drop i ns) (map view (drop i xs)) ≡ port_named n (view x) ∷ rest =
    ap (λ l. ports_named l (map view (drop i xs))) (split_at ns i n (omega (arith, count, lt)) nat) ∙ ap (λ l. ports_named (n ∷ drop (i + 1) ns) (map view l)) (split_at xs i x lt xat) in
    let some : left ≡ some_left rest = is ∙ sym (some_ports view ns xs (i + 1) count) in
    ap (λ l. l ++ ports_left rest []) (e ∙ ap (λ b. out ++ port_text (port_named n (view x)) (line_end b)) some)
    ∙ append_assoc out (port_text (port_named n (view x)) (line_end (some_left rest))) (ports_left rest [])
    ∙ ap (λ l. out ++ l) (sym (port_first (port_named n (view x)) rest []))
    ∙ ap (λ l. out ++ ports_left l []) (sym d) ∙ inv

pub ports_end : {A : Type 0} (view : A → Port) (ns : List Name) (xs : List A) (i : ℕ) (out whole : Text) → length ns ≡ length xs → length xs ≤ i
    → out ++ ports_left (ports_named (drop i ns) (map view (drop i xs))) [] ≡ whole → out ≡ whole
ports_end view ns xs i out whole count le inv =
    sym (append-nil out) ∙ sym (ap (λ l. out ++ ports_left (ports_named l (map view (drop i xs))) []) (drop_all i ns (omega (arith, count, le)))) ∙ inv

pub lines_rest : (p : VPort) (ps : List VPort) (a b : Text) → port_lines p ps (a ++ b) ≡ port_lines p ps a ++ b
unfolding port_lines
lines_rest p [] a b = port_rest p (10 ∷ a) b
lines_rest p (q ∷ qs) a b = ap (λ x. port_text p (44 ∷ 10 ∷ x)) (lines_rest q qs a b) ∙ port_rest p (44 ∷ 10 ∷ port_lines q qs a) b

-- a module without ports
pub no_ports : {A : Type 0} (view : A → Port) (ns : List Name) (xs : List A) → length ns ≡ length xs → length xs ≡ 0 → 59 ∷ 10 ∷ [] ≡ ports_text (ports_named ns (map view xs)) []
unfolding ports_text
no_ports view [] [] count e = refl
no_ports view (n ∷ ns) [] count e = absurd (omega (arith, count))
no_ports view ns (x ∷ xs) count e = absurd (omega (arith, e))

-- a module with ports
pub listed_ports : {A : Type 0} (view : A → Port) (ns : List Name) (xs : List A) → length ns ≡ length xs → 0 < length xs
    → codes "(\n" ++ (ports_left (ports_named ns (map view xs)) [] ++ (41 ∷ 59 ∷ 10 ∷ [])) ≡ ports_text (ports_named ns (map view xs)) []
unfolding ports_text
listed_ports view ns [] count lt = absurd (omega (arith, lt))
listed_ports view [] (x ∷ xs) count lt = absurd (omega (arith, count))
listed_ports view (n ∷ ns) (x ∷ xs) count lt = ap (λ l. 40 ∷ 10 ∷ l) (sym (lines_rest (port_named n (view x)) (ports_named ns (map view xs)) [] (41 ∷ 59 ∷ 10 ∷ [])))

-- ---- connections

pub connection_first : (c : Connection) (cs : List Connection) (bs : Text)
    → connections_left (c ∷ cs) bs ≡ connection_text c (line_end (some_left cs)) ++ connections_left cs bs
unfolding connection_lines
connection_first c [] bs = connection_rest c (10 ∷ []) bs
connection_first c (e ∷ es) bs = connection_rest c (44 ∷ 10 ∷ []) (connection_lines e es bs)
