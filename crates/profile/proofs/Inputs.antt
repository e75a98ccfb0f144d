-- Reading a byte of the input.
use Rattle.std.proofs.Common.{◌≡◌, ℕ, ℤ, pos, List, [], ◌∷◌, Option, Some, None, slice_set, refl, sym, ap, ◌∙◌}
use Rattle.ib_meaning.specs.declared.fault.FaultKind.{FaultKind}
use Rattle.ib_base.specs.World.{World, TakesByte, printed}
use Rattle.tac_core.specs.Meaning.{Effect, Does, takes}
use Rattle.ib_run.specs.OverHost.{OverHost, Takes as TakesByteOf}
use Rattle.ib_run.proofs.OverHost.{over_none, over_taken, over_printed, over_weaken}
use Rattle.profile.specs.Running.{Takes, next_of, rest_of}

pub next_some : (before after : World) (byte : ℕ) (number : ℤ) → TakesByte before after (Some byte) → number ≡ pos byte → OverHost (λ input left out. (number ≡ next_of input) × (left ≡ rest_of input) × (out ≡ [])) before after
next_some before after byte number t is =
    over_weaken (λ input left out. TakesByteOf (Some byte) input left × (out ≡ [])) (λ input left out. (number ≡ next_of input) × (left ≡ rest_of input) × (out ≡ [])) before after
    (over_taken before after (Some byte) t)
    (λ input left out h. (is ∙ sym (ap next_of h.0), sym (ap rest_of h.0), h.1))

-- an effect that asks nothing of the host
pub pure_takes : (w : World) (effect : List ℕ → Effect) (regs : List ℤ) (memory : List ℕ) (fault : Option FaultKind) → ((input : List ℕ) → Takes effect regs memory fault input input []) → OverHost (Takes effect regs memory fault) w w
pure_takes w effect regs memory fault holds = over_none (Takes effect regs memory fault) holds w

-- a read of the input into a register
takes_next : (to : ℕ) (regs : List ℤ) (memory input : List ℕ) → takes to regs memory input ≡ Does (slice_set regs to (next_of input)) memory (rest_of input) []
takes_next to regs memory [] = refl
takes_next to regs memory (byte ∷ rest) = refl

pub get_takes : (before after : World) (to : ℕ) (old new : List ℤ) (number : ℤ) → OverHost (λ input left out. (number ≡ next_of input) × (left ≡ rest_of input) × (out ≡ [])) before after → new ≡ slice_set old to number → (memory : List ℕ) → OverHost (Takes (takes to old memory) new memory None) before after
get_takes before after to old new number over set memory =
    over_weaken _ (Takes (takes to old memory) new memory None) before after over
    (λ input left out h.
    takes_next to old memory input
    ∙ ap (λ n. Does (slice_set old to n) memory (rest_of input) []) (sym h.0)
    ∙ ap (λ r. Does r memory (rest_of input) []) (sym set)
    ∙ ap (λ l. Does new memory l []) (sym h.1) ∙ ap (λ o. Does new memory left o) (sym h.2))

pub print_takes : (before after : World) (bytes : List ℕ) → after ≡ printed before bytes → (regs : List ℤ) (memory : List ℕ) → OverHost (Takes (λ left. Does regs memory left bytes) regs memory None) before after
print_takes before after bytes is regs memory =
    over_weaken _ (Takes (λ left. Does regs memory left bytes) regs memory None) before after (over_printed before after bytes is)
    (λ input left out h. ap (λ l. Does regs memory l bytes) h.0 ∙ ap (λ o. Does regs memory left o) (sym h.1))
