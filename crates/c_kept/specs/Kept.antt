-- What a typed program keeps: its lowering relies on it.
use Rattle.std.specs.Prelude.{◌≡◌, ℕ, ◌+◌, ◌<◌, ◌≤◌, ◌%◌, ◌==◌, ◌&&◌, ◌||◌, not, List, [], ◌∷◌, Some, Bool, true, false, length, slice_get, MatchOption}
use Rattle.std.specs.List.{All, AllPairs}
use Rattle.ib_base.specs.declared.integers.Width.{Width}
use Rattle.ib_base.specs.declared.integers.Width.TheVariants.{W1, W4, W8}
use Rattle.c_ast.specs.declared.tree.Base.TheVariants.{Void}
use Rattle.c_typed.specs.declared.types.ValueType.{ValueType}
use Rattle.c_typed.specs.declared.types.ValueType.TheVariants as v
use Rattle.c_typed.specs.declared.expr.Storage.{Storage}
use Rattle.c_typed.specs.declared.expr.Storage.TheVariants.{Global, Frame}
use Rattle.c_typed.specs.declared.operation.Arithmetic.{Arithmetic}
use Rattle.c_typed.specs.declared.operation.Arithmetic.TheVariants as a
use Rattle.c_typed.specs.declared.operation.Operation.{Operation}
use Rattle.c_typed.specs.declared.operation.Operation.TheVariants as o
use Rattle.c_typed.specs.declared.program.Home.{Home}
use Rattle.c_typed.specs.declared.program.Home.TheVariants as h
use Rattle.c_typed.specs.declared.program.Param.{Param}
use Rattle.c_typed.specs.Tree as t
use Rattle.c_typed.specs.Tree.{Exp, Exps, Maybe, Stm, Stms, Function}
use Rattle.c_typed.specs.Program.{Program, main_of}
use Rattle.c_typed.specs.ValueTypes.{size_of}
use Rattle.c_typed.specs.Values.{width_of, converted, ranked}

-- each value of the first width is one of the second
abbrev pub fits_in : Width → Width → Bool
fits_in W1 w = true
fits_in W4 W1 = false
fits_in W4 w = true
fits_in W8 W8 = true
fits_in W8 w = false

-- the width of the type that a node tells
abbrev pub told : Exp → Width
told (t.constant ty v) = width_of ty
told (t.slot ty k) = width_of ty
told (t.load ty a) = width_of ty
told (t.convert ty a) = width_of ty
told (t.unary op rank a) = ranked rank
told (t.not a) = W4
told (t.binary ty op a b) = width_of ty
told (t.both a b) = W4
told (t.either a b) = W4
told (t.conditional ty a b c) = width_of ty
told (t.set_slot ty k a) = width_of ty
told (t.store ty a b) = width_of ty
told (t.update_slot ty k within op a) = width_of ty
told (t.update ty a within op b) = width_of ty
told (t.step_slot ty k within op) = width_of ty
told (t.step ty a within op) = width_of ty
told (t.call ty f all) = width_of ty
told t.get_byte = W4
told (t.put_byte a) = W4
told (t.put_number a) = W4
told (t.comma all a) = told a
told e = W8

-- what may be read and written
abbrev pub is_value : ValueType → Bool
is_value (v.Base Void) = false
is_value ty = true

abbrev pub is_shift : Arithmetic → Bool
is_shift a.ShiftLeft = true
is_shift a.ShiftRight = true
is_shift op = false

-- an operation on operands of these widths: those of numbers have its rank, but a shift's count any
abbrev pub takes : Operation → (left right : Width) → Bool
takes (o.Integer op rank) left right = fits_in left (ranked rank) && (is_shift op || fits_in right (ranked rank))
takes (o.Distance size) left right = not (size == 0)
takes op left right = true

-- the width of its result
abbrev pub gives : Operation → Width
gives (o.Integer op rank) = ranked rank
gives (o.Compare op) = W4
gives op = W8

-- its size divides where it begins, and it ends within the frame
abbrev pub StandsIn : (frame : ℕ) → ValueType → (offset : ℕ) → Type 0
StandsIn frame ty offset = (offset % size_of ty ≡ 0) × (offset + size_of ty ≤ frame)

-- In a function of the program with such variables: a number for each slot's type.
module _ (p : Program) (kinds : List ValueType) where
  -- the variable is there, and has this type
  abbrev pub HasSlot : ℕ → ValueType → Type 0
  HasSlot k ty = slice_get kinds k ≡ Some ty

  abbrev pub IsThere : Storage → Type 0
  IsThere (Global n) = n < length p.globals
  IsThere (Frame offset) = Unit {0}

  -- each argument fits its parameter, and there are as many
  abbrev pub Fill : Exps → List Param → Type 0
  Fill t.no_exp [] = Unit {0}
  Fill (t.an_exp a rest) (q ∷ qs) = (fits_in (told a) (width_of q.ty) ≡ true) × Fill rest qs
  Fill all qs = ⊥

  abbrev mutual
    pub KeepsExp : Exp → Type 0
    KeepsExp (t.constant ty v) = converted ty v ≡ v
    KeepsExp (t.text k) = k < length p.strings
    KeepsExp (t.address ty of) = IsThere of
    KeepsExp (t.element ty array length size reach a) = KeepsExp a × IsThere array × (1 ≤ length) × (1 ≤ size)
    KeepsExp (t.slot ty k) = HasSlot k ty
    KeepsExp (t.load ty a) = KeepsExp a × (is_value ty ≡ true)
    KeepsExp (t.convert ty a) = KeepsExp a
    KeepsExp (t.unary op rank a) = KeepsExp a
    KeepsExp (t.not a) = KeepsExp a
    KeepsExp (t.binary ty op a b) = KeepsExp a × KeepsExp b × (takes op (told a) (told b) ≡ true) × (width_of ty ≡ gives op)
    KeepsExp (t.both a b) = KeepsExp a × KeepsExp b
    KeepsExp (t.either a b) = KeepsExp a × KeepsExp b
    KeepsExp (t.conditional ty a b c) = KeepsExp a × KeepsExp b × KeepsExp c × (fits_in (told b) (width_of ty) ≡ true) × (fits_in (told c) (width_of ty) ≡ true)
    KeepsExp (t.set_slot ty k a) = HasSlot k ty × KeepsExp a × (fits_in (told a) (width_of ty) ≡ true)
    KeepsExp (t.store ty a b) = KeepsExp a × KeepsExp b × (is_value ty ≡ true) × (fits_in (told b) (width_of ty) ≡ true)
    KeepsExp (t.update_slot ty k within op a) = HasSlot k ty × KeepsExp a × (takes op (width_of within) (told a) ≡ true)
    KeepsExp (t.update ty a within op b) = KeepsExp a × KeepsExp b × (is_value ty ≡ true) × (takes op (width_of within) (told b) ≡ true)
    KeepsExp (t.step_slot ty k within op) = HasSlot k ty × (takes op (width_of within) W4 ≡ true)
    KeepsExp (t.step ty a within op) = KeepsExp a × (is_value ty ≡ true) × (takes op (width_of within) W4 ≡ true)
    KeepsExp (t.call ty f all) = KeepsExps all × MatchOption (slice_get p.functions f) ⊥ (λ g. (ty ≡ g.result) × Fill all g.params)
    KeepsExp t.get_byte = Unit {0}
    KeepsExp (t.put_byte a) = KeepsExp a
    KeepsExp (t.put_number a) = KeepsExp a
    KeepsExp (t.comma all a) = KeepsExps all × KeepsExp a

    pub KeepsExps : Exps → Type 0
    KeepsExps t.no_exp = Unit {0}
    KeepsExps (t.an_exp a rest) = KeepsExp a × KeepsExps rest

  abbrev pub KeepsPart : Maybe → Type 0
  KeepsPart t.missing = Unit {0}
  KeepsPart (t.given a) = KeepsExp a

  -- what is returned fits the function's type
  abbrev pub Returns : (result : ValueType) → Maybe → Type 0
  Returns result t.missing = Unit {0}
  Returns result (t.given a) = KeepsExp a × (fits_in (told a) (width_of result) ≡ true)

  module _ (result : ValueType) where
    -- `break` and `continue` stand in loops
    abbrev mutual
      pub KeepsStm : (in_loop : Bool) → Stm → Type 0
      KeepsStm in_loop (t.block all) = KeepsStms in_loop all
      KeepsStm in_loop (t.empty s) = Unit {0}
      KeepsStm in_loop (t.expression s a) = KeepsExp a
      KeepsStm in_loop (t.if_then s a b) = KeepsExp a × KeepsStm in_loop b
      KeepsStm in_loop (t.if_else s a b c) = KeepsExp a × KeepsStm in_loop b × KeepsStm in_loop c
      KeepsStm in_loop (t.while_loop s a b) = KeepsExp a × KeepsStm true b
      KeepsStm in_loop (t.do_while s b a) = KeepsStm true b × KeepsExp a
      KeepsStm in_loop (t.for_loop s all a c b) = KeepsExps all × KeepsPart a × KeepsPart c × KeepsStm true b
      KeepsStm in_loop (t.break s) = in_loop ≡ true
      KeepsStm in_loop (t.continue s) = in_loop ≡ true
      KeepsStm in_loop (t.return s a) = Returns result a
      KeepsStm in_loop (t.local s all) = KeepsExps all

      pub KeepsStms : (in_loop : Bool) → Stms → Type 0
      KeepsStms in_loop t.no_stm = Unit {0}
      KeepsStms in_loop (t.a_stm a rest) = KeepsStm in_loop a × KeepsStms in_loop rest

-- a parameter's variable is there
abbrev pub HasHome : List ValueType → (frame : ℕ) → ValueType → Home → Type 0
HasHome kinds frame ty (h.Slot k) = slice_get kinds k ≡ Some ty
HasHome kinds frame ty (h.Frame offset) = StandsIn frame ty offset

-- each parameter's variable is there, and can be read
abbrev pub HaveHomes : List ValueType → (frame : ℕ) → List Param → Type 0
HaveHomes kinds frame [] = Unit {0}
HaveHomes kinds frame (q ∷ qs) = HasHome kinds frame q.ty q.home × (is_value q.ty ≡ true) × HaveHomes kinds frame qs

abbrev pub slots_of : List Param → List ℕ
slots_of [] = []
slots_of (q ∷ qs) = if_slot q.home (slots_of qs)
  where
    if_slot : Home → List ℕ → List ℕ
    if_slot (h.Slot k) ks = k ∷ ks
    if_slot (h.Frame offset) ks = ks

pub record KeepsFunction (p : Program) (f : Function) : Type 0 where
  -- the types of the slots: a variable has a slot of its own
  pub kinds : List ValueType
  pub many : length kinds ≡ f.slots
  pub params : HaveHomes kinds f.frame f.params
  pub apart : AllPairs (λ a b. (a ≡ b) → ⊥) (slots_of f.params)
  pub few : length f.params ≤ 8
  pub small : f.frame ≤ 262144
  pub rounded : f.frame % 16 ≡ 0
  pub body : KeepsStms p kinds f.result false f.body

pub record KeepsProgram (p : Program) : Type 0 where
  pub functions : All (KeepsFunction p) p.functions
  -- addresses are below the memory's end
  pub globals : All (λ address. address < 1048576) p.globals
  pub strings : All (λ address. address < 1048576) p.strings
  pub image : length p.image ≤ 524288
  -- there is a `main`, which takes nothing
  pub main : MatchOption (slice_get p.functions (main_of p)) ⊥ (λ f. f.params ≡ [])
