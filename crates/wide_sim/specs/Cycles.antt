-- What the simulator does of a word.
use Rattle.std.specs.Prelude.{◌≡◌, ℕ, true, List, map, take}
use Rattle.ib_meaning.specs.Agreement.{IsPrefix}
use Rattle.ib_base.specs.World.{World}
use Rattle.ib_run.specs.OverHost.{OverHost}
use Rattle.wide_core.specs.declared.code.Loc.{Loc}
use Rattle.wide_core.specs.declared.code.Tagged.{Tagged}
use Rattle.wide_core.specs.declared.code.WideOp.{WideOp}
use Rattle.wide_core.specs.Operation.{Effect, Go, Leave, Stop}
use Rattle.wide_core.specs.Valid.{Scope}
use Rattle.wide_core.specs.Word.{Flow, Outcome, Through, Gone, Left, Stopped, after_word, done, effect, effects, flow_of}
use Rattle.wide_sim.specs.declared.next.Next.{Next}
use Rattle.wide_sim.specs.declared.planned.Planned.{Planned}
use Rattle.wide_sim.specs.declared.planned.Planned.TheVariants.{Idle}
use Rattle.wide_sim.specs.Effects.{turn_after}
use Rattle.wide_sim.specs.Next.{IsNext}
use Rattle.wide_sim.specs.Planned.{effect_of}
use Rattle.wide_sim.specs.Site.{Site, around, room_at}

-- how a word comes out whose control is this effect's
abbrev pub finish : Effect → Flow → Outcome
finish (Go exit) s = Gone exit s
finish (Leave z) s = Left z s
finish (Stop number kind) s = Stopped number kind s
finish e s = Through s

abbrev pub flow : (Loc → Tagged) → (memory left out : List ℕ) → Flow
flow places memory left out = record { places = places; memory = memory; left = left; out = out }

abbrev pub scope_at : (regs slots words : ℕ) → Site → Scope
scope_at regs slots words site = record { regs = regs; slots = slots; words = words; funcs = site.funcs }

-- the word, from a place
abbrev pub outcome_at : Site → List WideOp → (Loc → Tagged) → (memory input : List ℕ) → Outcome
outcome_at site ops places memory input = after_word true ops site.base (room_at site) places memory input

-- the word comes out so with this input, which leaves and prints that
abbrev pub ComesOut : Site → List WideOp → (places after : Loc → Tagged) (memory memory_after : List ℕ) → Effect → (input left out : List ℕ) → Type 0
ComesOut site ops places after memory memory_after turn input left out =
    outcome_at site ops places memory input ≡ finish turn (flow after memory_after left out)

-- the operations of the word that are done
abbrev pub done_at : Site → List WideOp → (places : Loc → Tagged) (memory : List ℕ) → List WideOp
done_at site ops places memory = done true (effect (around site memory) places) ops

-- a word was done over a host, so many of its operations
pub record Does (regs at : ℕ) (site : Site) (ops : List WideOp) (places after : Loc → Tagged) (memory memory_after : List ℕ) (before behind : World) (next : Next) (count : ℕ) : Type 0 where
  pub plan : List Planned
  pub planned : map (effect_of places) plan ≡ effects (around site memory) places ops
  pub goes : IsNext regs site.funcs site.next_base at places (turn_after Idle plan) next
  pub counted : take count ops ≡ done_at site ops places memory
  pub over : OverHost (ComesOut site ops places after memory memory_after (effect_of places (turn_after Idle plan))) before behind

-- a beginning of what the word prints, and nothing was taken, since a word asks the host once
pub record Breaks (site : Site) (ops : List WideOp) (places : Loc → Tagged) (memory input left out : List ℕ) : Type 0 where
  pub begins : IsPrefix out (flow_of (outcome_at site ops places memory input)).out
  pub kept : left ≡ input
