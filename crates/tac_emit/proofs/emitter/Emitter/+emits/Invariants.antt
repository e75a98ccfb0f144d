use Rattle.std.proofs.Common.{◌+◌, ◌*◌, ◌≤◌, map, drop}
use Rattle.tac_code.specs.Views.{code_of}
use Rattle.tac_emit.specs.declared.emitter.Emitter.{Emitter}
use Rattle.tac_emit.specs.Emitted.{loop_of, next_of, EmitsCode}
use Rattle.tac_emit.specs.Extents.{row_of}
use Rattle.tac_emit.specs.Parts.{parts, parts_test, parts_in}
use Rattle.tac_emit.proofs.emitter.Emitter.+emits.Given as goal

abbrev pub decreases-code : goal.decreases-code
decreases-code l = 4 * parts l.code.now

abbrev pub decreases-both : goal.decreases-both
decreases-both l = 4 * (parts l.first.now + parts l.last.now) + 1

abbrev pub decreases-row : goal.decreases-row
decreases-row l = 4 * (parts_in l.first.now + parts l.last.now) + 1

abbrev pub decreases-owned : goal.decreases-owned
decreases-owned l = 4 * parts l.code.now + 1

abbrev pub decreases-when : goal.decreases-when
decreases-when l = 4 * (parts_test l.test.now + parts l.then.now) + 2

abbrev pub decreases-choose : goal.decreases-choose
decreases-choose l = 4 * (parts_test l.test.now + (parts l.then.now + parts l.other.now)) + 2

abbrev pub decreases-repeat : goal.decreases-repeat
decreases-repeat l = 4 * (parts_test l.test.now + (parts l.body.now + parts l.last.now)) + 3

abbrev pub decreases-repeat_own : goal.decreases-repeat_own
decreases-repeat_own l = 4 * (parts_test l.test.now + (parts l.body.now + parts l.last.now)) + 2

abbrev pub decreases-repeat_onward : goal.decreases-repeat_onward
decreases-repeat_onward l = 4 * (parts_test l.test.now + (parts l.body.now + parts l.last.now)) + 2

abbrev pub decreases-until : goal.decreases-until
decreases-until l = 4 * (parts_test l.test.now + parts l.body.now) + 2

abbrev pub decreases-test : goal.decreases-test
decreases-test l = 4 * parts_test l.test.now

abbrev pub decreases-tested : goal.decreases-tested
decreases-tested l = 4 * parts l.code.now + 1

abbrev pub decreases-all_of : goal.decreases-all_of
decreases-all_of l = 4 * (parts_test l.first.now + parts_test l.last.now) + 1

abbrev pub decreases-one_of : goal.decreases-one_of
decreases-one_of l = 4 * (parts_test l.first.now + parts_test l.last.now) + 1

-- what is emitted from here for the rest of the row is emitted from the beginning for the whole row
abbrev pub invariant-row-loop-part : goal.invariant-row-loop-part
invariant-row-loop-part l = record {
  leads : (b : Emitter) → EmitsCode l.self b (row_of (map code_of (drop l.part-index l.first)) (code_of l.last)) (loop_of l.ways.around) (next_of l.ways.next) → EmitsCode l.fn.self b (row_of (map code_of l.first) (code_of l.last)) (loop_of l.ways.around) (next_of l.ways.next);
  fewer : parts_in (drop l.part-index l.first) ≤ parts_in l.first;
}
