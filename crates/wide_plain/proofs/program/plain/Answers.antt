use Rattle.std.proofs.Common.{◌≡◌, ◌+◌, ◌*◌, ◌^◌, ap, sym, subst, ◌∙◌}
use Rattle.wide_core.specs.declared.code.RawCode.{RawCode}
use Rattle.wide_core.specs.Meaning.{wide_meaning}
use Rattle.wide_core.specs.Valid.{IsValid, limits}
use Rattle.ib_meaning.specs.Agreement.{Agrees, Within}
use Rattle.tac_core.specs.Meaning.{tac_meaning}
use Rattle.plain_code.specs.Plain.{plain, HasFewSlots}
use Rattle.plain_code.specs.Single.{IsPlain}
use Rattle.plain_code.proofs.Single.{plain_is_plain}
use Rattle.plain_code.proofs.Agreeing.{plain_agrees, plain_within}
use Rattle.plain_code.proofs.Valid.{plain_valid}
use Rattle.wide_plain.proofs.program.plain.Goals as goal

pub keep-code-requires : goal.keep-code-requires
keep-code-requires g c =
    let m = g.M.Machine in
    let p = c.args.tac.now in
    let same : c.in_ok-raw.raw ≡ plain m.REGS p = c.in_ok-raw.ensures.code ∙ ap (λ n. plain n p) c.of.ensures in
    let few : HasFewSlots m.REGS p = subst (λ n. HasFewSlots n p) c.of.ensures c.in_ok-raw.ensures.few in
    subst (IsValid (limits m.WIDTH m.REGS m.units_of)) (sym same)
    (plain_valid m.WIDTH m.REGS m.units_of m.latency_of g.met.M.Machine.is_table p c.in_ok-raw.ensures.given few)

pub returns-clause-single : goal.returns-clause-single
returns-clause-single g c =
    let m = g.M.Machine in
    let p = c.args.tac.now in
    let same : c.keep-code.result ≡ plain m.REGS p = c.keep-code.ensures ∙ c.in_ok-raw.ensures.code ∙ ap (λ n. plain n p) c.of.ensures in
    subst IsPlain (sym same) (plain_is_plain m.REGS p)

pub returns-clause-agrees : goal.returns-clause-agrees
returns-clause-agrees g c =
    let m = g.M.Machine in
    let p = c.args.tac.now in
    let same : c.keep-code.result ≡ plain m.REGS p = c.keep-code.ensures ∙ c.in_ok-raw.ensures.code ∙ ap (λ n. plain n p) c.of.ensures in
    subst (λ (code : RawCode). Agrees (tac_meaning p) (wide_meaning m.latency_of code)) (sym same)
    (plain_agrees m.WIDTH m.REGS m.units_of m.latency_of g.met.M.Machine.is_table p c.in_ok-raw.ensures.given)

pub returns-clause-within : goal.returns-clause-within
returns-clause-within g c =
    let m = g.M.Machine in
    let p = c.args.tac.now in
    let same : c.keep-code.result ≡ plain m.REGS p = c.keep-code.ensures ∙ c.in_ok-raw.ensures.code ∙ ap (λ n. plain n p) c.of.ensures in
    subst (λ (code : RawCode). Within (λ k. 2 ^ 8 * (k + 1)) (tac_meaning p) (wide_meaning m.latency_of code)) (sym same)
    (plain_within m.WIDTH m.REGS m.units_of m.latency_of g.met.M.Machine.is_table p c.in_ok-raw.ensures.given)
