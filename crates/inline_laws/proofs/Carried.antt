-- Settled maps, heights and outputs of the new design, from those of the old one.
use Rattle.std.proofs.Common.{◌≡◌, ℕ, suc, ◌<◌, ◌≤◌, List, [], ◌∷◌, map, refl, sym, ap, ap₂, subst, ◌∙◌, inl, inr, arith}
use Rattle.wiring.specs.Wiring.{In, greatest, IsHeight}
use Rattle.wiring.proofs.Members.{In-map, from_In-map}
use Rattle.wiring.proofs.Heights.{heights, le-greatest}
use Rattle.bits_core.specs.Word.{Word}
use Rattle.hw_model.specs.Types.{Name}
use Rattle.hw_model.specs.Design.{Ref, find_module, output_refs}
use Rattle.hw_model.specs.Value.{concat_words, op_value}
use Rattle.hw_model.specs.Flat.{Path, Net, net, Source, module_at, source}
use Rattle.hw_model.specs.Meaning.{needs_of, needs, value_of, HasHeights, Settled, outputs}
use Rattle.hw_model.specs.Sound.{body_of}
use Rattle.hw_model.proofs.Paths.{outputs_body}
use Rattle.inline_laws.proofs.Inlining.{Inlining}
use Rattle.inline_laws.proofs.Origins.{Leads}
use Rattle.inline_laws.proofs.Origins.Leads.{alike, copied}
use Rattle.inline_laws.proofs.Homes.{home_of, view_of, home_start, origin}
use Rattle.inline_laws.proofs.Comes.{Comes, stand_in, stand_leads, outputs_in, comes}
use Rattle.inline_laws.proofs.Comes.Comes.{constant, a_copy, made, wired}

module _ (S : Inlining) (top : Name) where
  -- ---- values

  module _ (inputs content : Word) (ρ : Net → Word) (settled : Settled S.d top inputs content ρ) where
    abbrev gives : Source → Word
    gives s = value_of inputs content s (map ρ (needs_of s))

    pub leads_value : (a b : Net) → Leads S.d top a b → ρ a ≡ ρ b
    leads_value a b (alike same) = settled a ∙ ap gives same ∙ sym (settled b)
    leads_value a b (copied n is same) = settled a ∙ ap gives is ∙ settled n ∙ ap gives same ∙ sym (settled b)

    operands_value : (q home : Path) (rs : List Ref) (move : Ref → Ref) → ((r : Ref) → Leads S.d top (net home r) (origin S top (net q (move r))))
        → map ρ (map (net home) rs) ≡ map (λ a. ρ (origin S top a)) (map (net q) (map move rs))
    operands_value q home [] move leads = refl
    operands_value q home (r ∷ rs) move leads =
        ap₂ (λ x xs. x ∷ xs) (leads_value (net home r) (origin S top (net q (move r))) (leads r)) (operands_value q home rs move leads)

    comes_value : (s' s : Source) → Comes S top s' s → gives s ≡ value_of inputs content s' (map (λ a. ρ (origin S top a)) (needs_of s'))
    comes_value s' s (constant same none) =
        ap (λ ns. value_of inputs content s (map ρ ns)) none
        ∙ sym (ap (λ ns. value_of inputs content s (map (λ a. ρ (origin S top a)) ns)) none)
        ∙ ap (λ z. value_of inputs content z (map (λ a. ρ (origin S top a)) (needs_of z))) (sym same)
    comes_value s' s (a_copy n' n is' is leads) =
        ap gives is ∙ leads_value n (origin S top n') leads
        ∙ sym (ap (λ z. value_of inputs content z (map (λ a. ρ (origin S top a)) (needs_of z))) is')
    comes_value s' s (made kind types t k q home rs move is' is leads) =
        ap gives is ∙ ap (op_value kind types t k) (operands_value q home rs move leads)
        ∙ sym (ap (λ z. value_of inputs content z (map (λ a. ρ (origin S top a)) (needs_of z))) is')
    comes_value s' s (wired types t n' n is' is leads) =
        ap gives is ∙ leads_value n (origin S top n') leads
        ∙ sym (ap (λ z. value_of inputs content z (map (λ a. ρ (origin S top a)) (needs_of z))) is')

    -- a settled map of the old design is one of the new design, by where nets come from
    pub settled_carried : Settled S.e top inputs content (λ a. ρ (origin S top a))
    settled_carried a = settled (origin S top a) ∙ comes_value (source S.e top a) (source S.d top (origin S top a)) (comes S top a)

    pub outputs_carried : outputs S.e top (λ a. ρ (origin S top a)) ≡ outputs S.d top ρ
    outputs_carried =
        ap concat_words
        (ap (map (λ r. ρ (origin S top (net [] r)))) (outputs_body (find_module S.e top) ∙ outputs_in S top [] (home_of S top []) (view_of S top []))
        ∙ along (output_refs (body_of (module_at S.d top (home_of S top []))))
        ∙ ap (λ h. map (λ r. ρ (net h r)) (output_refs (body_of (module_at S.d top h)))) (home_start S top)
        ∙ ap (map (λ r. ρ (net [] r))) (sym (outputs_body (find_module S.d top))))
      where
        along : (rs : List Ref) → map (λ r. ρ (origin S top (net [] r))) (map (stand_in S top [] (home_of S top []) (view_of S top [])) rs)
            ≡ map (λ r. ρ (net (home_of S top []) r)) rs
        along [] = refl
        along (r ∷ rs) =
            ap₂ (λ x xs. x ∷ xs)
            (sym (leads_value (net (home_of S top []) r) (origin S top (net [] (stand_in S top [] (home_of S top []) (view_of S top []) r)))
            (stand_leads S top [] (home_of S top []) (view_of S top []) r))) (along rs)

  -- ---- heights

  module _ (h : Net → ℕ) (height : IsHeight (needs S.d top) h) where
    leads_height : (a b : Net) → Leads S.d top a b → h b ≤ h a
    leads_height a b (alike same) =
        let first : h a ≡ suc (greatest (map h (needs_of (source S.d top a)))) = height a in
        let second : h b ≡ suc (greatest (map h (needs_of (source S.d top b)))) = height b in
        let equal : greatest (map h (needs_of (source S.d top a))) ≡ greatest (map h (needs_of (source S.d top b))) = ap (λ s. greatest (map h (needs_of s))) same in
        omega arith
    leads_height a b (copied n is same) =
        let first : h a ≡ suc (greatest (map h (needs_of (source S.d top a)))) = height a in
        let copy_is : greatest (map h (needs_of (source S.d top a))) ≡ greatest (h n ∷ []) = ap (λ s. greatest (map h (needs_of s))) is in
        let second : h b ≡ suc (greatest (map h (needs_of (source S.d top b)))) = height b in
        let third : h n ≡ suc (greatest (map h (needs_of (source S.d top n)))) = height n in
        let equal : greatest (map h (needs_of (source S.d top n))) ≡ greatest (map h (needs_of (source S.d top b))) = ap (λ s. greatest (map h (needs_of s))) same in
        omega arith

    -- what a net of the new design needs comes from a net that is not higher than one that is needed in the old design
    comes_height : (s' s : Source) → Comes S top s' s → (b : Net) → In b (needs_of s') → h (origin S top b) ≤ greatest (map h (needs_of s))
    comes_height s' s (constant same none) b need = absurd (subst (In b) none (subst (λ z. In b (needs_of z)) same need))
    comes_height s' s (a_copy n' n is' is leads) b need = by_one (subst (λ z. In b (needs_of z)) is' need)
      where
        by_one : In b (n' ∷ []) → h (origin S top b) ≤ greatest (map h (needs_of s))
        by_one (inl same) =
            let low : h (origin S top n') ≤ h n = leads_height n (origin S top n') leads in
            let this : h (origin S top b) ≡ h (origin S top n') = ap (λ z. h (origin S top z)) same in
            let most : greatest (map h (needs_of s)) ≡ greatest (h n ∷ []) = ap (λ z. greatest (map h (needs_of z))) is in
            omega arith
        by_one (inr here) = absurd here
    comes_height s' s (made kind types t k q home rs move is' is leads) b need =
        let from = from_In-map (net q) b (map move rs) (subst (λ z. In b (needs_of z)) is' need) in
        let was = from_In-map move from.0 rs from.1 in
        let low : h (origin S top (net q (move was.0))) ≤ h (net home was.0) = leads_height (net home was.0) (origin S top (net q (move was.0))) (leads was.0) in
        let this : h (origin S top b) ≡ h (origin S top (net q (move was.0))) = ap (λ z. h (origin S top z)) (from.2 ∙ ap (net q) was.2) in
        let among : In (h (net home was.0)) (map h (map (net home) rs)) = In-map h (net home was.0) (map (net home) rs) (In-map (net home) was.0 rs was.1) in
        let most : h (net home was.0) ≤ greatest (map h (map (net home) rs)) = le-greatest (h (net home was.0)) (map h (map (net home) rs)) among in
        let all : greatest (map h (needs_of s)) ≡ greatest (map h (map (net home) rs)) = ap (λ z. greatest (map h (needs_of z))) is in
        omega arith
    comes_height s' s (wired types t n' n is' is leads) b need = by_one (subst (λ z. In b (needs_of z)) is' need)
      where
        by_one : In b (n' ∷ []) → h (origin S top b) ≤ greatest (map h (needs_of s))
        by_one (inl same) =
            let low : h (origin S top n') ≤ h n = leads_height n (origin S top n') leads in
            let this : h (origin S top b) ≡ h (origin S top n') = ap (λ z. h (origin S top z)) same in
            let most : greatest (map h (needs_of s)) ≡ greatest (h n ∷ []) = ap (λ z. greatest (map h (needs_of z))) is in
            omega arith
        by_one (inr here) = absurd here

    origin_falls : (a b : Net) → In b (needs S.e top a) → h (origin S top b) < h (origin S top a)
    origin_falls a b need =
        let low : h (origin S top b) ≤ greatest (map h (needs_of (source S.d top (origin S top a)))) =
        comes_height (source S.e top a) (source S.d top (origin S top a)) (comes S top a) b need in
        let this : h (origin S top a) ≡ suc (greatest (map h (needs_of (source S.d top (origin S top a))))) = height (origin S top a) in
        omega arith

  pub heights_carried : HasHeights S.d top → HasHeights S.e top
  heights_carried (h, height) = heights (needs S.e top) (λ a. h (origin S top a)) (origin_falls h height)
