use Rattle.tac_trees.proofs.joins.step_slot.Goals as goal

pub returns-in-Some : goal.returns-in-Some
returns-in-Some c = λ p. rw c.in-Some.is (c.stepped_slot.ensures p)
