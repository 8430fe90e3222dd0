-- A text on its way out: what a sink holds after a prefix of it, and the puts that lead there.
use Rattle.std.proofs.Common.{◌≡◌, ℕ, ◌+◌, ◌/◌, ◌≤◌, ◌<◌, List, [], ◌∷◌, ◌++◌, suc, take, drop, length, Option, Bool, true, false, refl, sym, inl, inr, arith, append_assoc, length-append, length-drop}
use Rattle.std.proofs.lemmas.List.{append-nil, take-append-le, take-append-drop}
use Rattle.std.proofs.Math.Seq.{take-append-add}
use Rattle.io_edge.specs.Bytes.{Appends, AppendsPrefix}
use Rattle.io_edge.specs.Pieces.{pieces_of, Sends}

-- a prefix of the text went out, and `rest` is still to come
pub record HasSent (before now : Option (List ℕ)) (text rest : List ℕ) : Type 0 where
  pub sent : List ℕ
  pub split : text ≡ sent ++ rest
  pub grown : Appends before now sent

pub HasSent-more : {before now next : Option (List ℕ)} {text rest : List ℕ} (piece others : List ℕ) → HasSent before now text rest
    → rest ≡ piece ++ others → Appends now next piece → HasSent before next text others
HasSent-more {before} {now} {next} {text} {rest} piece others h e a = record {
  sent = h.sent ++ piece;
  split = rw (append_assoc h.sent piece others, ← e) h.split;
  grown = λ held f. rw (← append_assoc held h.sent piece) (a (held ++ h.sent) (h.grown held f));
}

-- a prefix of what was still to come is a prefix of the text
pub AppendsPrefix-rest : {before now next : Option (List ℕ)} {text rest : List ℕ} → HasSent before now text rest
    → AppendsPrefix now next rest → AppendsPrefix before next text
AppendsPrefix-rest {before} {now} {next} {text} {rest} h f =
    λ held e.
    (let g = f (held ++ h.sent) (h.grown held e)
    in
    let within : length h.sent + g.0 ≤ length text = rw (h.split, length-append h.sent rest) (omega (arith, g.1))
    in
    let prefix : take (length h.sent + g.0) text ≡ h.sent ++ take g.0 rest = rw h.split (take-append-add h.sent rest g.0)
    in (length h.sent + g.0, within, rw (prefix, ← append_assoc held h.sent (take g.0 rest)) g.2))

-- a prefix of a piece is a prefix of all that begins with the piece
pub AppendsPrefix-piece : {now next : Option (List ℕ)} {rest : List ℕ} (piece others : List ℕ) → rest ≡ piece ++ others
    → AppendsPrefix now next piece → AppendsPrefix now next rest
AppendsPrefix-piece {now} {next} {rest} piece others e f =
    λ held known.
    (let g = f held known
    in
    let within : g.0 ≤ length rest = rw (e, length-append piece others) (omega (arith, g.1))
    in
    let prefix : take g.0 rest ≡ take g.0 piece = rw e (take-append-le g.0 piece others g.1)
    in (g.0, within, rw prefix g.2))

-- nothing more went out
pub AppendsPrefix-none : (now : Option (List ℕ)) (rest : List ℕ) → AppendsPrefix now now rest
AppendsPrefix-none now rest = λ held known. (0, omega arith, rw (append-nil held) known)

-- the first piece of a text that is not empty, and then those of what comes after it
pub pieces_of-step : (text : List ℕ) → 0 < length text → pieces_of 4096 text ≡ take 4096 text ∷ pieces_of 4096 (drop 4096 text)
unfolding pieces_of
pieces_of-step text h =
    let count : (length text + 4095) / 4096 ≡ suc ((length (drop 4096 text) + 4095) / 4096) = rw (length-drop 4096 text) (omega arith)
    in rw count refl

pub pieces_of-nil : pieces_of 4096 [] ≡ []
unfolding pieces_of
pieces_of-nil = refl

-- a text that goes out in pieces: what the sink told, its faults, and that any puts of the other pieces complete puts of all
pub record IsSending {S : Type 0} (told : S → Option (List ℕ)) (faults : S → ℕ) (puts : S → List ℕ → Bool → S → Type 0) (before now : S) (text rest : List ℕ) : Type 0 where
  pub bytes : HasSent (told before) (told now) text rest
  pub kept : faults before ≤ faults now
  pub onward : (taken : Bool) (after : S) → Sends puts now (pieces_of 4096 rest) taken after → Sends puts before (pieces_of 4096 text) taken after

pub IsSending-more : {S : Type 0} {told : S → Option (List ℕ)} {faults : S → ℕ} {puts : S → List ℕ → Bool → S → Type 0} {before now next : S} {text rest : List ℕ} (piece others : List ℕ)
    → IsSending told faults puts before now text rest → 0 < length rest → piece ≡ take 4096 rest → others ≡ drop 4096 rest
    → Appends (told now) (told next) piece → faults now ≤ faults next → puts now piece true next → IsSending told faults puts before next text others
IsSending-more {S} {told} {faults} {puts} {before} {now} {next} {text} {rest} piece others h some prefix back grown kept step = record {
  bytes = HasSent-more piece others h.bytes (rw (prefix, back) (sym (take-append-drop 4096 rest))) grown;
  kept = omega (arith, h.kept, kept);
  onward = λ taken after sends.
      h.onward taken after (rw (pieces_of-step rest some, ← prefix, ← back) (inr (next, step, sends)));
}

-- the put of the next piece failed
pub Sends-fails : {S : Type 0} {told : S → Option (List ℕ)} {faults : S → ℕ} {puts : S → List ℕ → Bool → S → Type 0} {before now next : S} {text rest : List ℕ} (piece : List ℕ)
    → IsSending told faults puts before now text rest → 0 < length rest → piece ≡ take 4096 rest → puts now piece false next → Sends puts before (pieces_of 4096 text) false next
Sends-fails {S} {told} {faults} {puts} {before} {now} {next} {text} {rest} piece h some prefix step =
    h.onward false next (rw (pieces_of-step rest some, ← prefix) (inl (refl, step)))

-- no piece is left
pub Sends-ends : {S : Type 0} {told : S → Option (List ℕ)} {faults : S → ℕ} {puts : S → List ℕ → Bool → S → Type 0} {before now : S} {text rest : List ℕ}
    → IsSending told faults puts before now text rest → rest ≡ [] → Sends puts before (pieces_of 4096 text) true now
Sends-ends {S} {told} {faults} {puts} {before} {now} {text} {rest} h e = h.onward true now (rw (e, pieces_of-nil) (refl, refl))
