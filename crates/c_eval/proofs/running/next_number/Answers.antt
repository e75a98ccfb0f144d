use Rattle.std.proofs.Common.{rules, subst}
use Rattle.ib_base.specs.World.{TakesByte}
use Rattle.ib_base.proofs.Parts.{on_err}
use Rattle.c_eval.proofs.Asking.{next_some, next_part}
use Rattle.c_eval.proofs.running.next_number.Goals as goal

pub returns-in-Some-clause-ok : goal.returns-in-Some-clause-ok
returns-in-Some-clause-ok g c =
    next_some _ _ c.in-Some.byte _ (subst (λ b. TakesByte (g.H.Host.world c.args.host.now) (g.H.Host.world c.get_byte.new.self) b) c.in-Some.is c.in_ok-get_byte.ensures.ok) (search rules)

pub returns-in_err-get_byte-clause-broken : goal.returns-in_err-get_byte-clause-broken
returns-in_err-get_byte-clause-broken g c =
    on_err c.from_residual.result (next_part (g.H.Host.world c.args.host.now) (g.H.Host.world c.get_byte.new.self) c.in_err-get_byte.ensures.err)
