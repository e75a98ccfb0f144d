-- A word comes to what its planned effects come to, one by one.
use Rattle.std.proofs.Common.{◌≡◌, ℕ, Bool, true, List, [], ◌∷◌, ◌++◌, map, refl, sym, ap, ◌∙◌, append_assoc}
use Rattle.std.proofs.lemmas.List.{append-nil}
use Rattle.std.specs.Fmt.{signed_decimal}
use Rattle.wide_core.specs.declared.code.Loc.{Loc}
use Rattle.wide_core.specs.declared.code.Loc.TheVariants.{Reg}
use Rattle.wide_core.specs.declared.code.Tagged.{Tagged}
use Rattle.wide_core.specs.declared.code.Tagged.TheVariants.{Clear}
use Rattle.wide_core.specs.declared.code.WideOp.{WideOp}
use Rattle.wide_core.specs.Places.{put}
use Rattle.wide_core.specs.Word.{Flow, Through, acts, apply, after_word, effects, byte_from, behind_byte, saved}
use Rattle.wide_sim.specs.declared.planned.Planned.{Planned}
use Rattle.wide_sim.specs.declared.planned.Planned.TheVariants.{Idle, Write, Save, Take, PutByte, PutNumber, Jump, Call, Return, Report}
use Rattle.wide_sim.specs.Effects.{turn_after, before_report, text, heard, left_after, places_after, memory_after}
use Rattle.wide_sim.specs.Planned.{effect_of}
use Rattle.wide_sim.specs.Cycles.{finish, flow}

module _ (places : Loc → Tagged) where
  abbrev done : List Planned → Flow → Flow
  done [] s = s
  done (f ∷ fs) s = done fs (apply (effect_of places f) s)

  acts_are : (fs : List Planned) (turn : Planned) (s : Flow) → acts true (map (effect_of places) fs) (λ t. finish (effect_of places turn) t) s ≡ finish (effect_of places (turn_after turn fs)) (done (before_report fs) s)
  acts_are [] turn s = refl
  acts_are (Idle ∷ fs) turn s = acts_are fs turn s
  acts_are (Write to value ∷ fs) turn s = acts_are fs turn _
  acts_are (Save width address value ∷ fs) turn s = acts_are fs turn _
  acts_are (Take to ∷ fs) turn s = acts_are fs turn _
  acts_are (PutByte byte ∷ fs) turn s = acts_are fs turn _
  acts_are (PutNumber z ∷ fs) turn s = acts_are fs turn _
  acts_are (Jump to ∷ fs) turn s = acts_are fs (Jump to) s
  acts_are (Call result func next args ∷ fs) turn s = acts_are fs (Call result func next args) s
  acts_are (Return z ∷ fs) turn s = acts_are fs (Return z) s
  acts_are (Report number kind ∷ fs) turn s = refl

  done_is : (fs : List Planned) (p : Loc → Tagged) (memory left out : List ℕ) → done fs (flow p memory left out) ≡ flow (places_after (heard left fs) p) (memory_after (heard left fs) memory) (left_after fs left) (out ++ text fs)
  done_is [] p memory left out = ap (λ o. flow p memory left o) (sym (append-nil out))
  done_is (Idle ∷ fs) p memory left out = done_is fs p memory left out
  done_is (Write to value ∷ fs) p memory left out = done_is fs (put to value p) memory left out
  done_is (Save width address value ∷ fs) p memory left out = done_is fs p (saved width address value memory) left out
  done_is (Take to ∷ fs) p memory left out = done_is fs (put (Reg to) (Clear (byte_from left)) p) memory (behind_byte left) out
  done_is (PutByte byte ∷ fs) p memory left out =
      done_is fs p memory left (out ++ byte ∷ []) ∙ ap (λ o. flow (places_after (heard left fs) p) (memory_after (heard left fs) memory) (left_after fs left) o) (append_assoc out (byte ∷ []) (text fs))
  done_is (PutNumber z ∷ fs) p memory left out =
      done_is fs p memory left (out ++ signed_decimal z) ∙ ap (λ o. flow (places_after (heard left fs) p) (memory_after (heard left fs) memory) (left_after fs left) o) (append_assoc out (signed_decimal z) (text fs))
  done_is (Jump to ∷ fs) p memory left out = done_is fs p memory left out
  done_is (Call result func next args ∷ fs) p memory left out = done_is fs p memory left out
  done_is (Return z ∷ fs) p memory left out = done_is fs p memory left out
  done_is (Report number kind ∷ fs) p memory left out = done_is fs p memory left out

  -- from an input from which the word's bytes are taken
  pub word_comes : (base : ℕ) (room : ℕ → Bool) (memory : List ℕ) (ops : List WideOp) (fs gs : List Planned) (input left : List ℕ)
      → map (effect_of places) fs ≡ effects (record { base = base; memory = memory; room = room }) places ops
      → heard input (before_report fs) ≡ gs → left_after (before_report fs) input ≡ left
      → after_word true ops base room places memory input ≡ finish (effect_of places (turn_after Idle fs)) (flow (places_after gs places) (memory_after gs memory) left (text (before_report fs)))
  unfolding after_word
  word_comes base room memory ops fs gs input left planned hears leaves =
      ap (λ es. acts true es (λ s. Through s) (flow places memory input [])) (sym planned)
      ∙ acts_are fs Idle (flow places memory input [])
      ∙ ap (λ s. finish (effect_of places (turn_after Idle fs)) s) (done_is (before_report fs) places memory input [])
      ∙ ap (λ hs. finish (effect_of places (turn_after Idle fs)) (flow (places_after hs places) (memory_after hs memory) (left_after (before_report fs) input) (text (before_report fs)))) hears
      ∙ ap (λ l. finish (effect_of places (turn_after Idle fs)) (flow (places_after gs places) (memory_after gs memory) l (text (before_report fs)))) leaves
