-- What is asked of a host, and what it answers.
use Rattle.std.proofs.Common.{◌≡◌, ℕ, ℤ, pos, List, [], ◌∷◌, Some, refl, sym, ap, ◌∙◌, subst}
use Rattle.std.specs.Prelude.{unsigned_abs}
use Rattle.std.specs.Fmt.{signed_decimal}
use Rattle.ib_base.specs.declared.integers.Width.TheVariants.{W1}
use Rattle.ib_base.specs.Integers.{wrapped}
use Rattle.ib_base.specs.World.{World, TakesByte, PrintsPart, printed}
use Rattle.ib_meaning.specs.Agreement.{IsPrefix}
use Rattle.ib_run.specs.OverHost.{OverHost, Takes}
use Rattle.ib_run.proofs.OverHost.{over_taken, over_printed, over_part, over_same, over_weaken}
use Rattle.c_meaning.specs.Doing.{next_of, behind}
use Rattle.c_eval.specs.declared.frame.Ask.TheVariants.{GetByte, PutByte, PutNumber}
use Rattle.c_eval.specs.Running.{Answers, AnswersPart, printed_for}

pub next_some : (before after : World) (byte : ℕ) (number : ℤ) → TakesByte before after (Some byte) → number ≡ pos byte → OverHost (Answers GetByte number) before after
next_some before after byte number t is =
    over_weaken (λ input left out. Takes (Some byte) input left × (out ≡ [])) (Answers GetByte number) before after
    (over_taken before after (Some byte) t)
    (λ input left out h. (is ∙ sym (ap next_of h.0), sym (ap behind h.0), h.1))

-- a read of the input that failed
pub next_part : (before after : World) → after ≡ before → OverHost (AnswersPart GetByte) before after
next_part before after same =
    over_weaken (λ input left out. (input ≡ left) × (out ≡ [])) (AnswersPart GetByte) before after (over_same before after same)
    (λ input left out h. (h.0, subst (λ part. IsPrefix part (printed_for GetByte)) (sym h.1) (printed_for GetByte, refl)))

byte_is : (byte : ℕ) (u : ℤ) → pos byte ≡ wrapped W1 u → byte ∷ [] ≡ unsigned_abs (wrapped W1 u) ∷ []
byte_is byte u is = ap (λ (v : ℤ). unsigned_abs v ∷ []) is

pub byte_put : (before after : World) (byte : ℕ) (u v : ℤ) → pos byte ≡ wrapped W1 u → v ≡ pos byte → after ≡ printed before (byte ∷ []) → OverHost (Answers (PutByte u) v) before after
byte_put before after byte u v is gives put =
    over_weaken (λ input left out. (input ≡ left) × (out ≡ byte ∷ [])) (Answers (PutByte u) v) before after (over_printed before after (byte ∷ []) put)
    (λ input left out h. (gives ∙ is, h.0, h.1 ∙ byte_is byte u is))

pub byte_part : (before after : World) (byte : ℕ) (u : ℤ) → pos byte ≡ wrapped W1 u → PrintsPart before after (byte ∷ []) → OverHost (AnswersPart (PutByte u)) before after
byte_part before after byte u is part =
    over_weaken (λ input left out. (input ≡ left) × IsPrefix out (byte ∷ [])) (AnswersPart (PutByte u)) before after (over_part before after (byte ∷ []) part)
    (λ input left out h. (h.0, subst (λ bytes. IsPrefix out bytes) (byte_is byte u is) h.1))

pub number_put : (before after : World) (bytes : List ℕ) (u v : ℤ) → bytes ≡ signed_decimal u → v ≡ pos 0 → after ≡ printed before bytes → OverHost (Answers (PutNumber u) v) before after
number_put before after bytes u v is gives put =
    over_weaken (λ input left out. (input ≡ left) × (out ≡ bytes)) (Answers (PutNumber u) v) before after (over_printed before after bytes put)
    (λ input left out h. (gives, h.0, h.1 ∙ is))

pub number_part : (before after : World) (bytes : List ℕ) (u : ℤ) → bytes ≡ signed_decimal u → PrintsPart before after bytes → OverHost (AnswersPart (PutNumber u)) before after
number_part before after bytes u is part =
    over_weaken (λ input left out. (input ≡ left) × IsPrefix out bytes) (AnswersPart (PutNumber u)) before after (over_part before after bytes part)
    (λ input left out h. (h.0, subst (λ b. IsPrefix out b) is h.1))
