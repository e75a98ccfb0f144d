-- The groups in which the interpreter takes expressions and what waits for a value.
use Rattle.std.specs.Prelude.{⊤}
use Rattle.c_typed.specs.Tree as t
use Rattle.c_typed.specs.Tree.{Exp}
use Rattle.c_eval.specs.declared.frame.Frame.{Frame}
use Rattle.c_eval.specs.declared.frame.Frame.TheVariants as f

-- what begins with an operand and changes nothing itself
abbrev pub IsOperation : Exp → Type 0
IsOperation (t.element ty array length size reach a) = ⊤
IsOperation (t.load ty a) = ⊤
IsOperation (t.convert ty a) = ⊤
IsOperation (t.unary op rank a) = ⊤
IsOperation (t.not a) = ⊤
IsOperation (t.binary ty op a b) = ⊤
IsOperation (t.both a b) = ⊤
IsOperation (t.either a b) = ⊤
IsOperation (t.conditional ty a b c) = ⊤
IsOperation e = ⊥

-- what begins with an operand, and then sets a variable, stores or prints
abbrev pub IsEffect : Exp → Type 0
IsEffect (t.set_slot ty k a) = ⊤
IsEffect (t.store ty a b) = ⊤
IsEffect (t.update_slot ty k within op a) = ⊤
IsEffect (t.update ty a within op b) = ⊤
IsEffect (t.step ty a within op) = ⊤
IsEffect (t.put_byte a) = ⊤
IsEffect (t.put_number a) = ⊤
IsEffect e = ⊥

-- what gives another value once a value is there
abbrev pub IsDoneBy : Frame → Type 0
IsDoneBy (f.Element array length size reach number) = ⊤
IsDoneBy (f.Load ty number) = ⊤
IsDoneBy (f.Convert ty) = ⊤
IsDoneBy (f.Unary op rank) = ⊤
IsDoneBy f.Not = ⊤
IsDoneBy (f.Right op left number) = ⊤
IsDoneBy f.Truth = ⊤
IsDoneBy frame = ⊥

-- what sets a variable or stores, a value being there
abbrev pub Changes : Frame → Type 0
Changes (f.SetSlot slot) = ⊤
Changes (f.StoreValue ty address number) = ⊤
Changes (f.UpdateSlot ty slot within op old number) = ⊤
Changes (f.UpdateValue ty address within op old number) = ⊤
Changes (f.StepAt ty within op number) = ⊤
Changes frame = ⊥

-- what needs another expression behind a value
abbrev pub GoesOnBy : Frame → Type 0
GoesOnBy (f.Left op right number) = ⊤
GoesOnBy (f.Both right number) = ⊤
GoesOnBy (f.Either right number) = ⊤
GoesOnBy (f.Choice here other number) = ⊤
GoesOnBy (f.StoreAt ty value number) = ⊤
GoesOnBy (f.UpdateAt ty within op value number) = ⊤
GoesOnBy frame = ⊥
