use Rattle.std.proofs.Common.{◌+◌, ◌*◌, ◌≤◌, map, drop}
use Rattle.tac_code.specs.Views.{code_of}
use Rattle.tac_emit.specs.declared.survey.Survey.{Survey}
use Rattle.tac_emit.specs.Extents.{row_of, SurveysCode}
use Rattle.tac_emit.specs.Parts.{parts, parts_test, parts_in}
use Rattle.tac_emit.proofs.survey.Survey.+surveys.Given as goal

abbrev pub decreases-code : goal.decreases-code
decreases-code l = 4 * parts l.code.now

abbrev pub decreases-both : goal.decreases-both
decreases-both l = 4 * (parts l.first.now + parts l.last.now) + 1

abbrev pub decreases-row : goal.decreases-row
decreases-row l = 4 * (parts_in l.first.now + parts l.last.now) + 1

abbrev pub decreases-owned : goal.decreases-owned
decreases-owned l = 4 * parts l.code.now + 1

abbrev pub decreases-when : goal.decreases-when
decreases-when l = 4 * (parts_test l.test.now + parts l.then.now) + 2

abbrev pub decreases-choose : goal.decreases-choose
decreases-choose l = 4 * (parts_test l.test.now + (parts l.then.now + parts l.other.now)) + 2

abbrev pub decreases-repeat : goal.decreases-repeat
decreases-repeat l = 4 * (parts_test l.test.now + (parts l.body.now + parts l.last.now)) + 3

abbrev pub decreases-turns : goal.decreases-turns
decreases-turns l = 4 * (parts_test l.test.now + (parts l.body.now + parts l.last.now)) + 2

abbrev pub decreases-until : goal.decreases-until
decreases-until l = 4 * (parts_test l.test.now + parts l.body.now) + 2

abbrev pub decreases-test : goal.decreases-test
decreases-test l = 4 * parts_test l.test.now

abbrev pub decreases-tested : goal.decreases-tested
decreases-tested l = 4 * parts l.code.now + 1

abbrev pub decreases-tests : goal.decreases-tests
decreases-tests l = 4 * (parts_test l.first.now + parts_test l.last.now) + 1

-- what leads from here over the rest of the row leads from the beginning over the whole row
abbrev pub invariant-row-loop-part : goal.invariant-row-loop-part
invariant-row-loop-part l = record {
  leads : (b : Survey) → SurveysCode l.self b (row_of (map code_of (drop l.part-index l.first)) (code_of l.last)) l.closes → SurveysCode l.fn.self b (row_of (map code_of l.first) (code_of l.last)) l.closes;
  fewer : parts_in (drop l.part-index l.first) ≤ parts_in l.first;
}
