use Rattle.std.proofs.Common.{◌≡◌, drop}
use Rattle.ib_base.specs.FaultPlan.{kept_of}
use Rattle.ib_base.proofs.fault_plan.kept_at.Given as goal

abbrev pub invariant-loop-listing : goal.invariant-loop-listing
invariant-loop-listing l = kept_of l.listed l.call ≡ kept_of (drop l.listing-index l.listed) l.call
