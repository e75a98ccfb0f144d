use Rattle.std.proofs.Common.{◌≡◌, ℤ, IfOk, rules, subst, w64}
use Rattle.std.proofs.lemmas.Int.{to_z-of_z}
use Rattle.c_eval.specs.Machines.{machine_of}
use Rattle.c_eval.specs.Moves as m
use Rattle.c_eval.specs.Programs.{program_of}
use Rattle.c_eval.specs.Views.{frame_of, move_of}
use Rattle.c_eval.proofs.machine.Machine.give_to.Goals as goal

pub returns-in-Control : goal.returns-in-Control
returns-in-Control c = let given = c.give_control.ensures (program_of c.args.source.now) in search rules

pub returns-in-Left : goal.returns-in-Left
returns-in-Left c =
    subst (λ (v : ℤ). IfOk c.follow.result (λ r. move_of r (machine_of c.follow.new.self) ≡ m.give_to (program_of c.args.source.now) (frame_of c.args.frame.now) v (machine_of c.args.self.now)))
    (to_z-of_z w64 c.args.value c.ranges.value) (c.follow.ensures (program_of c.args.source.now))

pub returns-in-SetSlot : goal.returns-in-SetSlot
returns-in-SetSlot c =
    subst (λ (v : ℤ). move_of c.change.result (machine_of c.change.new.self) ≡ m.give_to (program_of c.args.source.now) (frame_of c.args.frame.now) v (machine_of c.args.self.now))
    (to_z-of_z w64 c.args.value c.ranges.value) (c.change.ensures (program_of c.args.source.now))
