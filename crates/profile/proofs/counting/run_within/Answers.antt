use Rattle.std.proofs.Common.{rules, [], refl, ◌∙◌}
use Rattle.profile.specs.Sound.{state_of}
use Rattle.profile.proofs.Walks.{walk_starts, many_tallies, shape_kept, walk_next, walk_done, walk_broken, walk_part, walk_spent}
use Rattle.profile.proofs.counting.run_within.Goals as goal

pub loop-done-init : goal.loop-done-init
loop-done-init g c = (
  refl,
  c.requires.sound,
  (c.requires.table []).shape,
  walk_starts c.args.run.now.program _ c.args.tallies.now _ c.requires.start c.requires.table,
  search rules,
  λ h. h,
)

pub step-requires-clause-many : goal.step-requires-clause-many
step-requires-clause-many g c =
    many_tallies c.args.run.now.program.funcs c.loop-done.tallies c.loop-done.invariant.2 ∙ search rules

pub returns-in-Ok-Done-clause-ok : goal.returns-in-Ok-Done-clause-ok
returns-in-Ok-Done-clause-ok g c =
    walk_done c.args.run.now.program c.loop-done.run.program c.loop-done._done (state_of c.loop-done.run) (state_of c.step.new.self) c.loop-done.tallies c.step.new.tallies _ _ _ c.loop-done.invariant.0 (search rules) c.loop-done.invariant.3 c.args.budget (search rules) _ (search rules)

pub returns-in-Ok-Broken-clause-ok : goal.returns-in-Ok-Broken-clause-ok
returns-in-Ok-Broken-clause-ok g c =
    walk_broken c.args.run.now.program c.loop-done.run.program c.loop-done._done (state_of c.loop-done.run) (state_of c.step.new.self) c.loop-done.tallies c.step.new.tallies _ _ _ c.loop-done.invariant.0 (search rules) c.loop-done.invariant.3 c.args.budget (search rules) c.in-Ok-Broken.place c.in-Ok-Broken.kind (search rules)

pub returns-in-Err-clause-broken : goal.returns-in-Err-clause-broken
returns-in-Err-clause-broken g c =
    walk_part c.args.run.now.program c.loop-done.run.program c.loop-done._done c.args.budget (state_of c.loop-done.run) c.loop-done.tallies _ _ _ c.loop-done.invariant.0 (search rules) c.loop-done.invariant.3 (search rules)

pub loop-done-preserved : goal.loop-done-preserved
loop-done-preserved g c = (
  search rules,
  search rules,
  shape_kept c.args.run.now.program.funcs (state_of c.loop-done.run) c.loop-done.tallies c.step.new.tallies c.loop-done.invariant.2 (search rules),
  walk_next c.args.run.now.program c.loop-done.run.program c.loop-done._done (state_of c.loop-done.run) (state_of c.step.new.self) c.loop-done.tallies c.step.new.tallies _ _ _ c.loop-done.invariant.0 (search rules) c.loop-done.invariant.3 (search rules),
  search rules,
  search rules,
)

pub returns-clause-ok : goal.returns-clause-ok
returns-clause-ok g c =
    walk_spent c.args.run.now.program c.loop-done._done c.args.budget (state_of c.loop-done.run) c.loop-done.tallies _ _ (search rules) c.loop-done.invariant.3

pub returns-in-Ok-Done-clause-shape : goal.returns-in-Ok-Done-clause-shape
returns-in-Ok-Done-clause-shape g c =
    shape_kept c.args.run.now.program.funcs (state_of c.loop-done.run) c.loop-done.tallies c.step.new.tallies c.loop-done.invariant.2 (search rules)

pub returns-in-Ok-Broken-clause-shape : goal.returns-in-Ok-Broken-clause-shape
returns-in-Ok-Broken-clause-shape g c =
    shape_kept c.args.run.now.program.funcs (state_of c.loop-done.run) c.loop-done.tallies c.step.new.tallies c.loop-done.invariant.2 (search rules)
