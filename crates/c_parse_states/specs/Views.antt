-- The machine's states as plain data.
use Rattle.std.specs.Prelude.{◌≡◌, ℕ, suc, ◌<◌, length, List, [], ◌∷◌, map, Option, Some, None}
use Rattle.c_ast.specs.declared.token.Token.{Token}
use Rattle.c_ast.specs.Trees.{Exp, Stm}
use Rattle.c_parse_states.specs.declared.frames.Head.{Head}
use Rattle.c_parse_states.specs.declared.frames.Outer.{Outer}
use Rattle.c_parse_states.specs.declared.frames.Arm.{Arm}
use Rattle.c_parse_states.specs.declared.frames.Arm.TheVariants as a
use Rattle.c_parse_states.specs.declared.frames.Innermost.{Innermost}
use Rattle.c_parse_states.specs.declared.frames.Innermost.TheVariants as innermost
use Rattle.c_parse_states.specs.declared.frames.Inner.{Inner}
use Rattle.c_parse_states.specs.declared.frames.Inner.TheVariants as inner
use Rattle.c_parse_states.specs.declared.frames.Goal.{Goal}
use Rattle.c_parse_states.specs.declared.frames.Goal.TheVariants as g2
use Rattle.c_parse_states.specs.declared.frames.Frame.{Frame}
use Rattle.c_parse_states.specs.declared.frames.Frame.TheVariants as f
use Rattle.c_parse_states.specs.declared.frames.Inside.{Inside}
use Rattle.c_parse_states.specs.declared.frames.Inside.TheVariants as i
use Rattle.c_parse_states.specs.declared.frames.Target.{Target}
use Rattle.c_parse_states.specs.declared.frames.Target.TheVariants as g
use Rattle.c_parse_states.specs.declared.frames.Declaring.{Declaring}
use Rattle.c_parse_states.specs.declared.frames.Made.{Made}
use Rattle.c_parse_states.specs.declared.frames.Role.{Role}
use Rattle.c_parse_states.specs.declared.frames.Role.TheVariants as r
use Rattle.c_parse_states.specs.declared.frames.Test.{Test}
use Rattle.c_parse_states.specs.declared.frames.Test.TheVariants as t
use Rattle.c_parse_states.specs.declared.frames.Frames.{Frames}
use Rattle.c_parse_states.specs.declared.frames.Use.{Use}
use Rattle.c_parse_states.specs.declared.frames.Use.TheVariants as u
use Rattle.c_parse_states.specs.declared.frames.Sizing.{Sizing}
use Rattle.c_parse_states.specs.declared.frames.Sizing.TheVariants as z
use Rattle.c_parse_states.specs.declared.frames.Turn.{Turn}
use Rattle.c_parse_states.specs.declared.frames.Turn.TheVariants as turn
use Rattle.c_parse_states.specs.declared.frames.Settling.{Settling}
use Rattle.c_parse_states.specs.declared.frames.Settling.TheVariants as settling
use Rattle.c_parse_states.specs.declared.frames.State.{State}
use Rattle.c_parse_states.specs.declared.frames.State.TheVariants as s
use Rattle.c_ast.specs.TreeViews.{type_of, expr_of, decl_of, param_name_of, param_of, part_of, start_of, stmt_of, item_of}
use Rattle.c_parse_machine.specs.Machine as M

abbrev pub head_of : Head → M.Head
head_of h = M.head (map item_of h.front.items) h.head.place (type_of h.head.result) h.head.name (map param_of h.head.params.items)

abbrev pub arm_of : Arm → M.Outer → M.Outer
arm_of (a.Braces p xs) i = M.braces p (map stmt_of xs.items) i
arm_of (a.Then p e) i = M.then_arm p (expr_of e.value) i
arm_of (a.Else p e s) i = M.else_arm p (expr_of e.value) (stmt_of s.value) i
arm_of (a.While p e) i = M.while_body p (expr_of e.value) i
arm_of (a.Do p) i = M.do_body p i
arm_of (a.For p start x y) i = M.for_body p (start_of start) (part_of x) (part_of y) i

-- the innermost last
abbrev pub arms_of : List Arm → M.Outer → M.Outer
arms_of [] i = i
arms_of (arm ∷ arms) i = arms_of arms (arm_of arm i)

abbrev pub outer_of : Outer → M.Outer
outer_of o = arms_of o.arms.items (M.body (head_of o.head.value) (map stmt_of o.front.items))

abbrev pub inside_of : Inside → M.Inside
inside_of (i.Braces p xs out) = M.in_braces p (map stmt_of xs.items) (outer_of out)
inside_of (i.Body h xs) = M.in_body (head_of h.value) (map stmt_of xs.items)

abbrev pub target_of : Target → M.Target
target_of (g.Top xs) = M.top (map item_of xs.items)
target_of (g.Global xs) = M.global (map item_of xs.items)
target_of (g.Block p b) = M.in_block p (inside_of b)
target_of (g.For p i) = M.in_for p (outer_of i)

abbrev pub declaring_of : Declaring → M.Declaring
declaring_of d = M.declaring (target_of d.target.value) d.base (map decl_of d.front.items)

abbrev pub made_of : Made → M.Made
made_of d = M.made (declaring_of d.declaring) d.place (type_of d.kind) d.name d.length

abbrev pub role_of : Role → M.Role
role_of (r.Statement p i) = M.as_statement p (outer_of i)
role_of (r.Value p i) = M.as_value p (outer_of i)
role_of (r.First p i) = M.as_first p (outer_of i)
role_of (r.Second p start i) = M.as_second p (start_of start) (outer_of i)
role_of (r.Third p start x i) = M.as_third p (start_of start) (part_of x) (outer_of i)

abbrev pub test_of : Test → M.Test
test_of (t.If p i) = M.as_if p (outer_of i)
test_of (t.While p i) = M.as_while p (outer_of i)
test_of (t.Do p a i) = M.as_do p (stmt_of a.value) (outer_of i)

abbrev pub goal_of : Goal → M.Frames
goal_of (g2.Part role) = M.part (role_of role)
goal_of (g2.Tested x) = M.tested (test_of x)
goal_of (g2.InitValue d) = M.init_value (made_of d.value)
goal_of (g2.Element d xs) = M.element (made_of d.value) (map expr_of xs.items)

abbrev pub frame_of : Frame → M.Frames → M.Frames
frame_of (f.Prefix p op) σ = M.prefix p op σ
frame_of (f.CastTo p ty) σ = M.cast_to p (type_of ty) σ
frame_of (f.Cond opens) σ = M.cond opens σ
frame_of (f.Right p op x) σ = M.right p op (expr_of x.value) σ
frame_of (f.Assigned p op x) σ = M.assigned p op (expr_of x.value) σ
frame_of (f.Middle p x) σ = M.middle p (expr_of x.value) σ
frame_of (f.Other p x y) σ = M.other p (expr_of x.value) (expr_of y.value) σ
frame_of f.First σ = M.first σ
frame_of (f.List p xs) σ = M.list p (map expr_of xs.items) σ
frame_of f.Parens σ = M.parens σ
frame_of (f.Subscript p x) σ = M.subscript p (expr_of x.value) σ
frame_of (f.Arg p n xs) σ = M.arg p n (map expr_of xs.items) σ

-- the innermost last
abbrev pub frames_in : List Frame → M.Frames → M.Frames
frames_in [] σ = σ
frames_in (frame ∷ frames) σ = frames_in frames (frame_of frame σ)

abbrev pub frames_of : Frames → M.Frames
frames_of f = frames_in f.frames.items (goal_of f.goal.value)

abbrev pub use_of : Use → M.Use
use_of (u.Declarator target ds) = M.a_declarator (target_of target.value) (map decl_of ds.items)
use_of (u.Parameter p h) = M.a_parameter p (head_of h)
use_of (u.Cast p σ) = M.a_cast p (frames_of σ)

abbrev pub sizing_of : Sizing → M.Sizing
sizing_of (z.OfDeclarator d p ty n) = M.of_declarator (declaring_of d) p (type_of ty) n
sizing_of (z.OfParameter h p ty n) = M.of_parameter (head_of h) p (type_of ty) (param_name_of n)

abbrev pub state_of : State → M.State
state_of (s.Items xs) = M.items (map item_of xs.items)
state_of (s.AfterLong why) = M.after_long (use_of why)
state_of (s.Typed why b ty) = M.typed (use_of why) b (type_of ty)
state_of (s.NamedAt d p ty n) = M.named_at (declaring_of d) p (type_of ty) n
state_of (s.Sizes x) = M.sizes (sizing_of x)
state_of (s.SizeOpen x) = M.size_open (sizing_of x)
state_of (s.SizeGiven x l) = M.size_given (sizing_of x) l
state_of (s.Sized x l) = M.sized (sizing_of x) l
state_of (s.InitOpen d) = M.init_open (made_of d.value)
state_of (s.ElementNext d xs) = M.element_next (made_of d.value) (map expr_of xs.items)
state_of (s.Declared d) = M.declared (declaring_of d)
state_of (s.ParamsOpen h) = M.params_open (head_of h)
state_of (s.ParamsVoid h) = M.params_void (head_of h)
state_of (s.ParamNext h) = M.param_next (head_of h)
state_of (s.ParamsDone h) = M.params_done (head_of h)
state_of (s.Inside b) = M.inside (inside_of b)
state_of (s.Stmt i) = M.stmt (outer_of i)
state_of (s.After x i) = M.after (stmt_of x.value) (outer_of i)
state_of (s.Test x) = M.test (test_of x)
state_of (s.Awaits role) = M.awaits (role_of role)
state_of (s.Semi x i) = M.semi (stmt_of x.value) (outer_of i)
state_of (s.ForOpen p i) = M.for_open p (outer_of i)
state_of (s.ForStart p i) = M.for_start p (outer_of i)
state_of (s.Operand casts σ) = M.operand casts (frames_of σ)
state_of (s.Paren casts p σ) = M.paren casts p (frames_of σ)
state_of (s.Called p n σ) = M.called p n (frames_of σ)
state_of (s.Opened p n σ) = M.opened p n (frames_of σ)
state_of (s.Have a σ) = M.have (expr_of a.value) (frames_of σ)

abbrev pub IsNext : Option State → Option M.State → Type 0
IsNext None r = r ≡ None
IsNext (Some x) r = r ≡ Some (state_of x)

-- how many frames lie above the outermost
abbrev pub depth : M.Frames → ℕ
depth (M.part role) = 0
depth (M.tested x) = 0
depth (M.init_value d) = 0
depth (M.element d xs) = 0
depth (M.prefix p op σ) = suc (depth σ)
depth (M.cast_to p ty σ) = suc (depth σ)
depth (M.cond opens σ) = suc (depth σ)
depth (M.right p op a σ) = suc (depth σ)
depth (M.assigned p op a σ) = suc (depth σ)
depth (M.middle p a σ) = suc (depth σ)
depth (M.other p a b σ) = suc (depth σ)
depth (M.first σ) = suc (depth σ)
depth (M.list p xs σ) = suc (depth σ)
depth (M.parens σ) = suc (depth σ)
depth (M.subscript p a σ) = suc (depth σ)
depth (M.arg p n xs σ) = suc (depth σ)

abbrev pub outer_depth : M.Outer → ℕ
outer_depth (M.braces p xs i) = suc (outer_depth i)
outer_depth (M.body h xs) = 0
outer_depth (M.then_arm p e i) = suc (outer_depth i)
outer_depth (M.else_arm p e a i) = suc (outer_depth i)
outer_depth (M.while_body p e i) = suc (outer_depth i)
outer_depth (M.do_body p i) = suc (outer_depth i)
outer_depth (M.for_body p start x y i) = suc (outer_depth i)

-- what the innermost frame does with an operand before a token
abbrev pub IsTurn : Turn → Exp → M.Frames → Token → Type 0
IsTurn (turn.Next s) e σ tok = M.follow e σ tok ≡ Some (state_of s)
IsTurn turn.Stop e σ tok = M.follow e σ tok ≡ None
IsTurn (turn.Falls a τ) e σ tok = (M.follow e σ tok ≡ M.follow (expr_of a.value) (frames_of τ) tok) × (depth (frames_of τ) < depth σ)

abbrev pub IsSettling : Settling → Stm → M.Outer → Token → Type 0
IsSettling (settling.Next s) a i tok = M.settle a i tok ≡ Some (state_of s)
IsSettling settling.Stop a i tok = M.settle a i tok ≡ None
IsSettling (settling.Falls b j) a i tok = (M.settle a i tok ≡ M.settle (stmt_of b.value) (outer_of j) tok) × (outer_depth (outer_of j) < outer_depth i)

-- the innermost statement in which another stands
abbrev pub IsInnermost : Innermost → M.Outer → Type 0
IsInnermost (innermost.Body h xs) i = i ≡ M.body (head_of h.value) (map stmt_of xs.items)
IsInnermost (innermost.Arm arm o) i = i ≡ arm_of arm (outer_of o)

abbrev pub IsInner : Inner → M.Frames → Type 0
IsInner (inner.Goal goal) σ = σ ≡ goal_of goal.value
IsInner (inner.Frame frame frames) σ = σ ≡ frame_of frame (frames_of frames)
