-- The connections of an instance, added one after another.
use Rattle.std.proofs.Common.{◌≡◌, ℕ, zero, suc, ◌+◌, ◌<◌, ◌≤◌, nat_lt, Bool, true, false, cond, not, List, [], ◌∷◌, ◌++◌, map, length, drop, get_or, refl, sym, ◌∙◌, ap, append_assoc, arith}
use Rattle.std.proofs.lemmas.Bool.Decides.{nat_tests}
use Rattle.std.proofs.lemmas.List.{append-nil, drop_all}
use Rattle.hw_model.specs.Types.{Name}
use Rattle.hw_model.specs.Design.{Ref, Port}
use Rattle.verilog_model.specs.Tree.{Expr, Connection}
use Rattle.verilog_model.specs.Tree.Expr.{name}
use Rattle.verilog_model.specs.Text.{expr_text}
use Rattle.wiring.proofs.Joined.{split_at}
use Rattle.export_verilog.specs.Exported.{expr_or_none, others}
use Rattle.export_verilog.specs.Layout.{Text, connection_text}
use Rattle.export_verilog.specs.Written.{line_end, some_left, connections_left, written_connection}
use Rattle.export_verilog.specs.Joined.{connections_from}
use Rattle.export_verilog.proofs.text.Listed.{less_suc, connection_first}
use Rattle.export_verilog.proofs.text.WrittenItems.{connection_same}

some_either : (b : Bool) (c e : Connection) (cs es : List Connection) → some_left (cond b (c ∷ cs) (e ∷ es)) ≡ true
some_either true c e cs es = refl
some_either false c e cs es = refl

-- the operands after those that are taken
pub others_drop : {A B : Type 0} (view : A → B) (xs : List A) (u : ℕ) → others (map view (drop u xs)) ≡ map view (drop (u + 1) xs)
others_drop view [] zero = sym (ap (map view) (drop_all (0 + 1) [] (omega arith)))
others_drop view [] (suc u) = sym (ap (map view) (drop_all (suc u + 1) [] (omega arith)))
others_drop view (x ∷ xs) zero = refl
others_drop view (x ∷ xs) (suc u) =
    let e : suc (u + 1) ≡ suc u + 1 = omega arith in
    others_drop view xs u ∙ ap (λ n. map view (drop n (x ∷ xs))) e

module _ {A B : Type 0} (view : A → Port) (vref : B → Ref) (ex : Ref → Expr) (given : ℕ → Name) where
  pub some_joined : (ns : List Name) (xs : List A) (j k : ℕ) (rs : List Ref) → length ns ≡ length xs
      → some_left (connections_from ex given k (drop j ns) (map view (drop j xs)) rs) ≡ nat_lt j (length xs)
  some_joined [] [] zero k rs e = refl
  some_joined [] [] (suc j) k rs e = grind arith
  some_joined [] (x ∷ xs) j k rs e = absurd (omega (arith, e))
  some_joined (n ∷ ns) [] j k rs e = absurd (omega (arith, e))
  some_joined (n ∷ ns) (x ∷ xs) zero k rs e =
      some_either (view x).is_output (record { port = n; value = name (given k) }) (record { port = n; value = expr_or_none ex rs })
      (connections_from ex given (k + 1) ns (map view xs) rs) (connections_from ex given k ns (map view xs) (others rs))
      ∙ grind (arith, nat_tests)
  some_joined (n ∷ ns) (x ∷ xs) (suc j) k rs e = some_joined ns xs j k rs (omega (arith, e)) ∙ less_suc j (length xs)

  -- what is written for a port
  abbrev pub joined_text : Bool → ℕ → List Ref → Text
  joined_text out k rs = cond out (given k) (expr_text (expr_or_none ex rs) [])

  -- the connections that are left, in bytes
  abbrev pub joined_left : List Name → List A → List B → ℕ → ℕ → ℕ → Text
  joined_left ns xs os j k u = connections_left (connections_from ex given k (drop j ns) (map view (drop j xs)) (map vref (drop u os))) []

  -- one connection before the others
  prefix : (ns : List Name) (xs : List A) (os : List B) (j k u : ℕ) (n : Name) (x : A) (b : Bool) → (view x).is_output ≡ b
      → length ns ≡ length xs → j < length xs → n ≡ get_or ns j n → x ≡ get_or xs j x
      → joined_left ns xs os j k u
      ≡ connection_text (written_connection n (joined_text b k (map vref (drop u os)))) (line_end (nat_lt (j + 1) (length xs)))
      ++ joined_left ns xs os (j + 1) (cond b (k + 1) k) (cond (not b) (u + 1) u)
  prefix ns xs os j k u n x true is count lt nat xat =
      let rest = connections_from ex given (k + 1) (drop (j + 1) ns) (map view (drop (j + 1) xs)) (map vref (drop u os)) in
      ap (λ l. connections_left (connections_from ex given k l (map view (drop j xs)) (map vref (drop u os))) []) (split_at ns j n (omega (arith, count, lt)) nat)
      ∙ ap (λ l. connections_left (connections_from ex given k (n ∷ drop (j + 1) ns) (map view l) (map vref (drop u os))) []) (split_at xs j x lt xat)
      ∙ ap (λ b. connections_left (cond b (record { port = n; value = name (given k) } ∷ rest)
      (record { port = n; value = expr_or_none ex (map vref (drop u os)) } ∷ connections_from ex given k (drop (j + 1) ns) (map view (drop (j + 1) xs)) (others (map vref (drop u os))))) []) is
      ∙ connection_first (record { port = n; value = name (given k) }) rest []
      ∙ ap (λ b. connection_text (record { port = n; value = name (given k) }) (line_end b) ++ connections_left rest []) (some_joined ns xs (j + 1) (k + 1) (map vref (drop u os)) count)
  prefix ns xs os j k u n x false is count lt nat xat =
      let rs = map vref (drop u os) in
      let rest = connections_from ex given k (drop (j + 1) ns) (map view (drop (j + 1) xs)) (others rs) in
      let c : Connection = record { port = n; value = expr_or_none ex rs } in
      ap (λ l. connections_left (connections_from ex given k l (map view (drop j xs)) rs) []) (split_at ns j n (omega (arith, count, lt)) nat)
      ∙ ap (λ l. connections_left (connections_from ex given k (n ∷ drop (j + 1) ns) (map view l) rs) []) (split_at xs j x lt xat)
      ∙ ap (λ b. connections_left (cond b (record { port = n; value = name (given k) } ∷ connections_from ex given (k + 1) (drop (j + 1) ns) (map view (drop (j + 1) xs)) rs) (c ∷ rest)) []) is
      ∙ connection_first c rest []
      ∙ ap (λ b. connection_text c (line_end b) ++ connections_left rest []) (some_joined ns xs (j + 1) k (others rs) count)
      ∙ ap (λ t. t ++ connections_left rest []) (sym (connection_same n (expr_or_none ex rs) (line_end (nat_lt (j + 1) (length xs)))))
      ∙ ap (λ l. connection_text (written_connection n (expr_text (expr_or_none ex rs) [])) (line_end (nat_lt (j + 1) (length xs)))
      ++ connections_left (connections_from ex given k (drop (j + 1) ns) (map view (drop (j + 1) xs)) l) []) (others_drop vref os u)

  pub joined_step : (ns : List Name) (xs : List A) (os : List B) (j k u k2 u2 : ℕ) (n value : Text) (x : A) (left : Bool) (out one whole : Text)
      → length ns ≡ length xs → j < length xs → n ≡ get_or ns j n → x ≡ get_or xs j x → left ≡ nat_lt (j + 1) (length xs)
      → value ≡ joined_text (view x).is_output k (map vref (drop u os))
      → k2 ≡ cond (view x).is_output (k + 1) k → u2 ≡ cond (not (view x).is_output) (u + 1) u
      → out ++ joined_left ns xs os j k u ≡ whole
      → one ≡ out ++ connection_text (written_connection n value) (line_end left)
      → one ++ joined_left ns xs os (j + 1) k2 u2 ≡ whole
  joined_step ns xs os j k u k2 u2 n value x left out one whole count lt nat xat is v ke ue inv e =
      ap (λ t. t ++ joined_left ns xs os (j + 1) k2 u2) (e ∙ ap (λ b. out ++ connection_text (written_connection n value) (line_end b)) is
      ∙ ap (λ t. out ++ connection_text (written_connection n t) (line_end (nat_lt (j + 1) (length xs)))) v)
      ∙ ap (λ z. (out ++ connection_text (written_connection n (joined_text (view x).is_output k (map vref (drop u os)))) (line_end (nat_lt (j + 1) (length xs)))) ++ joined_left ns xs os (j + 1) z u2) ke
      ∙ ap (λ z. (out ++ connection_text (written_connection n (joined_text (view x).is_output k (map vref (drop u os)))) (line_end (nat_lt (j + 1) (length xs)))) ++ joined_left ns xs os (j + 1) (cond (view x).is_output (k + 1) k) z) ue
      ∙ append_assoc out (connection_text (written_connection n (joined_text (view x).is_output k (map vref (drop u os)))) (line_end (nat_lt (j + 1) (length xs))))
      (joined_left ns xs os (j + 1) (cond (view x).is_output (k + 1) k) (cond (not (view x).is_output) (u + 1) u))
      ∙ ap (λ t. out ++ t) (sym (prefix ns xs os j k u n x (view x).is_output refl count lt nat xat)) ∙ inv

  -- the same, where the port's direction is told by another flag
  pub joined_by : (ns : List Name) (xs : List A) (os : List B) (j k u k2 u2 : ℕ) (n value : Text) (x : A) (b left : Bool) (out one whole : Text) → b ≡ (view x).is_output
      → length ns ≡ length xs → j < length xs → n ≡ get_or ns j n → x ≡ get_or xs j x → left ≡ nat_lt (j + 1) (length xs)
      → value ≡ joined_text b k (map vref (drop u os))
      → k2 ≡ cond b (k + 1) k → u2 ≡ cond (not b) (u + 1) u
      → out ++ joined_left ns xs os j k u ≡ whole
      → one ≡ out ++ connection_text (written_connection n value) (line_end left)
      → one ++ joined_left ns xs os (j + 1) k2 u2 ≡ whole
  joined_by ns xs os j k u k2 u2 n value x b left out one whole same count lt nat xat is v ke ue inv e =
      joined_step ns xs os j k u k2 u2 n value x left out one whole count lt nat xat is
      (v ∙ ap (λ z. joined_text z k (map vref (drop u os))) same) (ke ∙ ap (λ z. cond z (k + 1) k) same) (ue ∙ ap (λ z. cond (not z) (u + 1) u) same) inv e

  pub joined_end : (ns : List Name) (xs : List A) (os : List B) (j k u : ℕ) (out whole : Text) → length ns ≡ length xs → length xs ≤ j
      → out ++ joined_left ns xs os j k u ≡ whole → out ≡ whole
  joined_end ns xs os j k u out whole count le inv =
      sym (append-nil out) ∙ sym (ap (λ l. out ++ connections_left (connections_from ex given k l (map view (drop j xs)) (map vref (drop u os))) []) (drop_all j ns (omega (arith, count, le)))) ∙ inv
