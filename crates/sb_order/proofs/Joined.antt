-- The words hold the sorted items, cut behind the last control operation, in order.
use Rattle.std.proofs.Common.{◌≡◌, ℕ, Bool, true, false, ◌==◌, List, [], ◌∷◌, refl, ap, ◌∙◌, if◌then◌else◌}
use Rattle.wide_core.specs.declared.code.WideOp.{WideOp}
use Rattle.wide_core.specs.Flat.{joined}
use Rattle.sb_order.specs.Schedule.{Spot, joined_to, words_of, cut, sorted, with_struck, scheduled}

module _ (spot : ℕ → Spot) where
  joined_one : (op : WideOp) (ws : List (List WideOp)) → joined (joined_to spot op ws) ≡ op ∷ joined ws
  joined_one op [] = refl
  joined_one op ([] ∷ ws) = refl
  joined_one op ((a ∷ w) ∷ ws) = by_one ((spot op.number).cycle == (spot a.number).cycle)
    where
      by_one : (b : Bool) → joined (if b then (op ∷ a ∷ w) ∷ ws else (op ∷ []) ∷ (a ∷ w) ∷ ws) ≡ op ∷ joined ((a ∷ w) ∷ ws)
      by_one true = refl
      by_one false = refl

  joined_words : (ops : List WideOp) → joined (words_of spot ops) ≡ ops
  joined_words [] = refl
  joined_words (op ∷ ops) = joined_one op (words_of spot ops) ∙ ap (λ x. op ∷ x) (joined_words ops)

  pub joined_scheduled : (ops : List WideOp) (struck : ℕ → Bool) → joined (scheduled ops struck spot) ≡ cut spot (sorted spot (with_struck struck ops))
  joined_scheduled ops struck = joined_words (cut spot (sorted spot (with_struck struck ops)))
