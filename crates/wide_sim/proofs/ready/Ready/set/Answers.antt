use Rattle.std.proofs.Common.{ℕ, sym, ap, ◌∙◌, subst, arith}
use Rattle.wide_sim.specs.declared.store.Store.{Store}
use Rattle.wide_sim.specs.Ready.{AreBy}
use Rattle.wide_sim.specs.Store.{held, holds}
use Rattle.wide_sim.proofs.Late.{set_are_by}
use Rattle.wide_sim.proofs.ready.Ready.set.Goals as goal

pub invariant_of-self : goal.invariant_of-self
invariant_of-self c =
    subst (λ (s : Store ℕ). AreBy (held 0 s) c.args.time) (sym c.set.ensures)
    (set_are_by c.self.inside.times c.args.loc c.args.time c.self.inside.last c.args.time (ap (λ (s : Store ℕ). holds s c.args.loc) c.self.view_is ∙ c.requires) c.self.invariant (omega (arith, c.if-self-time.true)) (omega arith))

pub invariant_of-self-else-self-time : goal.invariant_of-self-else-self-time
invariant_of-self-else-self-time c =
    subst (λ (s : Store ℕ). AreBy (held 0 s) c.self.inside.last) (sym c.set.ensures)
    (set_are_by c.self.inside.times c.args.loc c.args.time c.self.inside.last c.self.inside.last (ap (λ (s : Store ℕ). holds s c.args.loc) c.self.view_is ∙ c.requires) c.self.invariant (omega arith) (omega (arith, c.if-self-time.false)))
