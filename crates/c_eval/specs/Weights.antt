-- How much an interpreter has to do before it spends a unit.
use Rattle.std.specs.Prelude.{ℕ, ◌+◌, ◌<◌, List, [], ◌∷◌}
use Rattle.c_typed.specs.Tree as t
use Rattle.c_typed.specs.Tree.{Exp, Exps, Maybe, Stm, Stms}
use Rattle.c_eval.specs.Pending as p
use Rattle.c_eval.specs.Pending.{Turns, Frame, Task, Machine, Move, Goes}

abbrev mutual
  pub weight : Exp → ℕ
  weight (t.element ty array length size reach a) = weight a + 3
  weight (t.load ty a) = weight a + 3
  weight (t.convert ty a) = weight a + 3
  weight (t.unary op rank a) = weight a + 3
  weight (t.not a) = weight a + 3
  weight (t.binary ty op a b) = weight a + weight b + 5
  weight (t.both a b) = weight a + weight b + 5
  weight (t.either a b) = weight a + weight b + 5
  weight (t.conditional ty a b c) = weight a + weight b + weight c + 5
  weight (t.set_slot ty k a) = weight a + 3
  weight (t.store ty a b) = weight a + weight b + 5
  weight (t.update_slot ty k within op a) = weight a + 3
  weight (t.update ty a within op b) = weight a + weight b + 5
  weight (t.step ty a within op) = weight a + 3
  weight (t.call ty f all) = weights all + 5
  weight (t.put_byte a) = weight a + 5
  weight (t.put_number a) = weight a + 5
  weight (t.comma all a) = weights all + weight a + 5
  weight e = 4

  pub weights : Exps → ℕ
  weights t.no_exp = 0
  weights (t.an_exp a rest) = weight a + weights rest + 5

abbrev pub part_weight : Maybe → ℕ
part_weight t.missing = 0
part_weight (t.given e) = weight e + 3

abbrev pub again_weight : Turns → ℕ
again_weight a = part_weight a.test + 1

abbrev pub onward_weight : Turns → ℕ
onward_weight a = part_weight a.last + again_weight a + 1

abbrev mutual
  pub stm_weight : Stm → ℕ
  stm_weight (t.block all) = stms_weight all + 3
  stm_weight (t.expression s a) = weight a + 5
  stm_weight (t.if_then s a b) = weight a + stm_weight b + 5
  stm_weight (t.if_else s a b c) = weight a + stm_weight b + stm_weight c + 5
  stm_weight (t.while_loop s a b) = weight a + 7
  stm_weight (t.for_loop s all a c b) = weights all + part_weight a + 9
  stm_weight (t.return s a) = part_weight a + 5
  stm_weight (t.local s all) = weights all + 3
  stm_weight a = 3

  pub stms_weight : Stms → ℕ
  stms_weight t.no_stm = 2
  stms_weight (t.a_stm a rest) = stm_weight a + stms_weight rest + 5

abbrev pub frame_weight : Frame → ℕ
frame_weight (p.left op b s) = weight b + 2
frame_weight (p.both b s) = weight b + 2
frame_weight (p.either b s) = weight b + 2
frame_weight (p.choice a b s) = weight a + weight b + 2
frame_weight (p.store_at ty b s) = weight b + 2
frame_weight (p.update_at ty within op b s) = weight b + 2
frame_weight (p.argument rest s) = weights rest + 4
frame_weight p.put_byte = 3
frame_weight p.put_number = 3
frame_weight (p.comma rest last s) = weights rest + weight last + 2
frame_weight p.discard = 3
frame_weight (p.if_then a) = stm_weight a + 2
frame_weight (p.if_else a b) = stm_weight a + stm_weight b + 2
frame_weight (p.parts rest s) = weights rest + 2
frame_weight (p.turn_test a) = 2
frame_weight (p.turn_last a) = again_weight a + 1
frame_weight p.give_back = 3
frame_weight (p.callee f s) = 2
frame_weight (p.held v) = 1
frame_weight (p.rest all) = stms_weight all + 1
frame_weight (p.begin a) = again_weight a + 1
frame_weight (p.in_turn a) = onward_weight a + 1
frame_weight frame = 1

abbrev pub frames_weight : List Frame → ℕ
frames_weight [] = 0
frames_weight (frame ∷ frames) = frame_weight frame + frames_weight frames

abbrev pub task_weight : Task → ℕ
task_weight (p.eval e s) = weight e
task_weight (p.give v) = 2
task_weight p.pass = 1
task_weight (p.exec a) = stm_weight a
task_weight (p.leave exit) = 2
task_weight p.get_byte = 3
task_weight (p.put_byte_of v) = 3
task_weight (p.put_number_of v) = 3
task_weight (p.call f s) = 0
task_weight (p.turn a) = 0

unfoldable pub work : Task → List Frame → ℕ
work task frames = task_weight task + frames_weight frames

-- behind the move there is less to do
abbrev pub Lightens : (work : ℕ) → Move → Type 0
Lightens before (Goes task m) = work task m.frames < before
Lightens before move = Unit {0}
