use Rattle.std.proofs.Common.{rules, ◌≡◌, arith, sym, subst}
use Rattle.ib_meaning.specs.Agreement.{Agrees, IsOver}
use Rattle.machine_desc.specs.Machine.{four_latency}
use Rattle.wide_core.specs.declared.code.RawCode.{RawCode}
use Rattle.wide_core.specs.Meaning.{wide_meaning}
use Rattle.wide_core.specs.Valid.{IsValid}
use Rattle.first_form.specs.Meaning.{source_meaning}
use Rattle.first_code.specs.Code.{code_of}
use Rattle.first_code.specs.Plain.{IsPlain}
use Rattle.first_code.proofs.Agree.{code_agrees, code_over, code_plain, code_valid}
use Rattle.first_code.proofs.Sizes.{short_small, room_for}
use Rattle.first_code.proofs.Valid.{four}
use Rattle.first_code.proofs.making.make.Goals as goal

pub overflow_cast-slot : goal.overflow_cast-slot
overflow_cast-slot c = let few = (short_small c.args.program.now c.requires).names in let len = c.len-slot.ensures in record { fits = omega arith }

pub body-requires-clause-room : goal.body-requires-clause-room
body-requires-clause-room c =
    rw (c.new.ensures, c.len-slot.ensures, c.as_slice.ensures) (room_for c.args.program.now (record { line = 1; col = 1 }) (short_small c.args.program.now c.requires))

pub body-requires-clause-good : goal.body-requires-clause-good
body-requires-clause-good c = rw (c.len-slot.ensures, c.as_slice.ensures) (short_small c.args.program.now c.requires).declares

pub keep-code-requires : goal.keep-code-requires
keep-code-requires c =
    let same : c.in_ok-raw.raw ≡ code_of c.args.program.now = search rules in
    subst (IsValid four) (sym same) (code_valid c.args.program.now (short_small c.args.program.now c.requires))

pub returns-clause-plain : goal.returns-clause-plain
returns-clause-plain c =
    let same : c.keep-code.result ≡ code_of c.args.program.now = search rules in
    subst IsPlain (sym same) (code_plain c.args.program.now (short_small c.args.program.now c.requires).good)

pub returns-clause-valid : goal.returns-clause-valid
returns-clause-valid c =
    let same : c.keep-code.result ≡ code_of c.args.program.now = search rules in
    subst (IsValid four) (sym same) (code_valid c.args.program.now (short_small c.args.program.now c.requires))

pub returns-clause-agrees : goal.returns-clause-agrees
returns-clause-agrees c =
    let same : c.keep-code.result ≡ code_of c.args.program.now = search rules in
    subst (λ (code : RawCode). Agrees (source_meaning c.args.program.now) (wide_meaning four_latency code)) (sym same) (code_agrees c.args.program.now (short_small c.args.program.now c.requires).good)

pub returns-clause-ends : goal.returns-clause-ends
returns-clause-ends c input cycles enough =
    let same : c.keep-code.result ≡ code_of c.args.program.now = search rules in
    let small = short_small c.args.program.now c.requires in
    let words = small.words in
    subst (λ (code : RawCode). IsOver (wide_meaning four_latency code input cycles)) (sym same) (code_over c.args.program.now small.good input cycles (omega arith))
