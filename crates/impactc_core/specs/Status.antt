-- The number of each status.
use Rattle.std.specs.Prelude.{ℕ}
use Rattle.impactc_core.specs.declared.status.Status.{Status}
use Rattle.impactc_core.specs.declared.status.Status.TheVariants.{Done, Usage, SourceRefused, ProfileRefused, CodeRefused, HostFault, NoMemory, TooLarge, ProgramFault, CyclesSpent}

abbrev pub status_code : Status → ℕ
status_code Done = 0
status_code Usage = 2
status_code SourceRefused = 3
status_code ProfileRefused = 4
status_code CodeRefused = 5
status_code HostFault = 6
status_code NoMemory = 7
status_code TooLarge = 8
status_code ProgramFault = 10
status_code CyclesSpent = 11
