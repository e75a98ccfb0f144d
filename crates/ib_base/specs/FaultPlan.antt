-- Which calls of a host in memory fail, and how they are counted.
use Rattle.std.specs.Prelude.{ℕ, ◌+◌, ◌-◌, ◌^◌, ◌==◌, min, if◌then◌else◌, List, [], ◌∷◌, ◌++◌, Option, Some, None, Result, Ok, Err}
use Rattle.ib_base.specs.declared.fault_plan.Listed.{Listed}
use Rattle.ib_base.specs.declared.fault_plan.FaultPlan.{FaultPlan}
use Rattle.ib_base.specs.declared.host.HostErr.{HostErr}
use Rattle.ib_base.specs.declared.host.HostErr.TheVariants.{Failed, NoMemory}

-- a number of 64 bits that stands still at its last value
abbrev pub next : ℕ → ℕ
next n = min (n + 1) (2 ^ 64 - 1)

-- how much a listed call writes first; of two listings of one call the first counts
abbrev pub kept_of : List Listed → ℕ → Option ℕ
kept_of [] call = None
kept_of (first ∷ rest) call = if first.call == call then Some first.kept else kept_of rest call

-- no call, no fault and nothing listed
abbrev pub new_plan : FaultPlan
new_plan = record { calls = 0; faults = 0; listed = [] }

-- how much the next call writes first, where it is listed
abbrev pub next_kept : FaultPlan → Option ℕ
next_kept plan = kept_of plan.listed (next plan.calls)

-- the same with one call more
abbrev pub numbered : FaultPlan → FaultPlan
numbered plan = record plan { calls = next plan.calls }

-- the same with one fault more
abbrev pub raised : FaultPlan → FaultPlan
raised plan = record plan { faults = next plan.faults }

-- the same with one listing more
abbrev pub with_listed : FaultPlan → ℕ → ℕ → FaultPlan
with_listed plan call kept = record plan { listed = plan.listed ++ record { call = call; kept = kept } ∷ [] }

-- a call is numbered, and counted where it failed
abbrev pub after_call : {T : Type 0} → Result T HostErr → FaultPlan → FaultPlan
after_call (Ok x) plan = numbered plan
after_call (Err Failed) plan = raised (numbered plan)
after_call (Err NoMemory) plan = numbered plan
