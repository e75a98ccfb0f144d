-- What a host in memory tells, and how its calls fail.
use Rattle.std.specs.Prelude.{◌≡◌, List, [], ℕ, Some}
use Rattle.std.specs.FinMap.{empty}
use Rattle.ib_base.specs.FaultPlan.{new_plan}
use Rattle.ib_base.specs.World.{World, Files}
use Rattle.ib_base.specs.declared.fault_plan.FaultPlan.{FaultPlan}
use Rattle.ib_base.specs.declared.fault_plan.Listed.{Listed}
use Rattle.ib_base.specs.declared.mem_host.MemHost.{MemHost}

-- everything
abbrev pub world_of : MemHost → World
world_of host = record {
  disk = Some (record { files = host.files; failed = host.failed });
  input = Some host.input;
  output = Some host.output;
  notes = Some host.notes;
}

abbrev pub files_of : MemHost → Files
files_of host = host.files

abbrev pub input_of : MemHost → List ℕ
input_of host = host.input

abbrev pub output_of : MemHost → List ℕ
output_of host = host.output

abbrev pub notes_of : MemHost → List ℕ
notes_of host = host.notes

-- how its calls are numbered, which of them fail, and how many did
abbrev pub plan_of : MemHost → FaultPlan
plan_of host = host.plan

abbrev pub fault_count : MemHost → ℕ
fault_count host = host.plan.faults

abbrev pub listing_of : MemHost → List Listed
listing_of host = host.plan.listed

-- a host with an input, no files, and nothing written, noted, counted or listed
pub record IsFresh (host : MemHost) (input : List ℕ) : Type 0 where
  pub world : world_of host ≡ record { disk = Some (record { files = empty; failed = [] }); input = Some input; output = Some []; notes = Some [] }
  pub plan : plan_of host ≡ new_plan
