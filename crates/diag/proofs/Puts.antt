-- Puts of one text after those of another.
use Rattle.std.proofs.Common.{◌≡◌, ℕ, ◌+◌, ◌-◌, ◌/◌, ◌<◌, inl, inr, Bool, true, false, List, [], ◌∷◌, ◌++◌, zero, suc, length, take, drop, refl, sym, ◌∙◌, ap, subst, arith, append_assoc, length-drop, length-take}
use Rattle.std.proofs.lemmas.List.{take-append-drop, nil_from_length, append-nil}
use Rattle.io_edge.specs.Pieces.{pieces_of, first_pieces, Sends}
use Rattle.diag.specs.Puts.{IsCutInto, GoesOut}

-- ---- cuts

-- an empty text has no pieces
none_cut : (pieces : List (List ℕ)) → IsCutInto [] pieces → pieces ≡ []
none_cut [] cut = refl
none_cut ([] ∷ pieces) cut = absurd (omega (arith, cut.2))
none_cut ((b ∷ piece) ∷ pieces) cut = let e : [] ≡ b ∷ (piece ++ cut.0) = cut.1 in cc

-- the pieces of two texts are those of both, one after the other
both_cut : (first second : List ℕ) (ps qs : List (List ℕ)) → IsCutInto first ps → IsCutInto second qs → IsCutInto (first ++ second) (ps ++ qs)
both_cut first second [] qs one two = subst (λ t. IsCutInto (t ++ second) qs) (sym one) two
both_cut first second (p ∷ ps) qs one two =
    (one.0 ++ second, ap (λ t. t ++ second) one.1 ∙ append_assoc p one.0 second, one.2, both_cut one.0 second ps qs one.3 two)

-- a text is one piece, or none where it is empty
one_cut : (text : List ℕ) → (pieces : List (List ℕ)) × IsCutInto text pieces
one_cut [] = ([], refl)
one_cut (b ∷ text) = ((b ∷ text) ∷ [], ([], sym (append-nil (b ∷ text)), omega arith, refl))

-- pieces of 4,096 bytes
pieces_cut : (count : ℕ) (text : List ℕ) → ((length text + 4095) / 4096 ≡ count) → IsCutInto text (first_pieces 4096 count text)
pieces_cut zero text e = nil_from_length text (omega arith)
pieces_cut (suc count) text e =
    let size : length (drop 4096 text) ≡ length text - 4096 = length-drop 4096 text in
    let some : 0 < length (take 4096 text) = rw (length-take 4096 text) (omega arith) in
    (drop 4096 text, sym (take-append-drop 4096 text), some, pieces_cut count (drop 4096 text) (omega arith))

-- ---- puts

module _ {S : Type 0} (puts : S → List ℕ → Bool → S → Type 0) where
  -- puts of more pieces, after puts of all of some
  more_sent : (ps qs : List (List ℕ)) (before now after : S) (taken : Bool) → Sends puts before ps true now → Sends puts now qs taken after → Sends puts before (ps ++ qs) taken after
  more_sent [] qs before now after taken one two = subst (λ s. Sends puts s qs taken after) one.1 two
  more_sent (p ∷ ps) qs before now after taken (inl one) two = let e : true ≡ false = one.0 in cc
  more_sent (p ∷ ps) qs before now after taken (inr one) two = inr (one.0, one.1, more_sent ps qs one.0 now after taken one.2 two)

  -- a put that was not taken is the last one, whatever pieces were to come
  stopped_sent : (ps qs : List (List ℕ)) (before after : S) → Sends puts before ps false after → Sends puts before (ps ++ qs) false after
  stopped_sent [] qs before after one = let e : false ≡ true = one.0 in cc
  stopped_sent (p ∷ ps) qs before after (inl one) = inl one
  stopped_sent (p ∷ ps) qs before after (inr one) = inr (one.0, one.1, stopped_sent ps qs one.0 after one.2)

  -- a text in pieces of 4,096 bytes goes out
  pub pieces_out : (before after : S) (text : List ℕ) (taken : Bool) → Sends puts before (pieces_of 4096 text) taken after → GoesOut puts before text taken after
  unfolding pieces_of
  pieces_out before after text taken sent = record { pieces = pieces_of 4096 text; cut = pieces_cut ((length text + 4095) / 4096) text refl; sent = sent }

  -- nothing goes out of an empty text
  pub nothing_out : (before after : S) (taken : Bool) → GoesOut puts before [] taken after → after ≡ before
  nothing_out before after taken out =
      (subst (λ ps. Sends puts before ps taken after) (none_cut out.pieces out.cut) out.sent).1

  -- a text goes out after another
  pub both_out : (before now after : S) (first second whole : List ℕ) (taken : Bool) → whole ≡ first ++ second → GoesOut puts before first true now → GoesOut puts now second taken after
      → GoesOut puts before whole taken after
  both_out before now after first second whole taken e one two =
      record {
        pieces = one.pieces ++ two.pieces;
        cut = subst (λ t. IsCutInto t (one.pieces ++ two.pieces)) (sym e) (both_cut first second one.pieces two.pieces one.cut two.cut);
        sent = more_sent one.pieces two.pieces before now after taken one.sent two.sent;
      }

  -- a text that stops is the start of a longer one that stops
  pub start_out : (before after : S) (first second whole : List ℕ) → whole ≡ first ++ second → GoesOut puts before first false after → GoesOut puts before whole false after
  start_out before after first second whole e one =
      let two : (pieces : List (List ℕ)) × IsCutInto second pieces = one_cut second in
      record {
        pieces = one.pieces ++ two.0;
        cut = subst (λ t. IsCutInto t (one.pieces ++ two.0)) (sym e) (both_cut first second one.pieces two.0 one.cut two.1);
        sent = stopped_sent one.pieces two.0 before after one.sent;
      }
