use Rattle.std.proofs.Common.{◌≡◌, ◌+◌, ◌*◌, ◌≤◌, map, drop}
use Rattle.std.specs.List.{list_all}
use Rattle.tac_lowered.specs.Expressions.{is_empty}
use Rattle.tac_code.specs.Views.{code_of}
use Rattle.tac_code.specs.Parts.{parts, list_parts}
use Rattle.tac_code.proofs.empty.+emptiness.Given as goal

abbrev pub decreases-is_empty : goal.decreases-is_empty
decreases-is_empty l = 2 * parts l.code.now

abbrev pub decreases-are_empty : goal.decreases-are_empty
decreases-are_empty l = 2 * list_parts l.list.now + 1

abbrev pub invariant-are_empty-loop-code : goal.invariant-are_empty-loop-code
invariant-are_empty-loop-code l = let left = drop l.code-index l.list in record {
  same : list_all is_empty (map code_of l.list) ≡ list_all is_empty (map code_of left);
  fewer : list_parts left ≤ list_parts l.list;
}
