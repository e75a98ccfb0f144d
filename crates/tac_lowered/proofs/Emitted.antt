-- The code of a typed program keeps the rules of code.
use Rattle.std.proofs.Common.{◌≡◌, ℕ, suc, ◌+◌, ◌<◌, ◌≤◌, ◌≤ℤ◌, ℤ, pos, List, [], ◌∷◌, length, Bool, true, false, refl, ap, arith, Option, Some, None}
use Rattle.std.specs.Prelude.{slice_get, slice_index_or, ◌==◌, if◌then◌else◌, MatchOption}
use Rattle.std.proofs.lemmas.Int.{ints}
use Rattle.ib_base.specs.declared.integers.Width.{Width}
use Rattle.ib_base.specs.declared.integers.Width.TheVariants.{W1, W4, W8}
use Rattle.ib_act.specs.declared.act.Size.{Size}
use Rattle.ib_act.specs.declared.act.Size.TheVariants.{Eight}
use Rattle.ib_act.specs.declared.act.Act.TheVariants.{Const, Mov, Mul}
use Rattle.ib_act.specs.Acts.{HasGoodNumber, IsOffset}
use Rattle.c_typed.specs.declared.types.ValueType.{ValueType}
use Rattle.c_typed.specs.declared.expr.Storage.{Storage}
use Rattle.c_typed.specs.declared.expr.Storage.TheVariants.{Global, Frame}
use Rattle.c_typed.specs.declared.expr.Reach.{Reach}
use Rattle.c_typed.specs.declared.expr.Reach.TheVariants.{Inside, ToEnd}
use Rattle.c_typed.specs.declared.operation.Rank.{Rank}
use Rattle.c_typed.specs.declared.operation.Sign.{Sign}
use Rattle.c_typed.specs.declared.operation.Sign.TheVariants as sg
use Rattle.c_typed.specs.declared.operation.Arithmetic.{Arithmetic}
use Rattle.c_typed.specs.declared.operation.Arithmetic.TheVariants as ar
use Rattle.c_typed.specs.declared.operation.Comparison.{Comparison}
use Rattle.c_typed.specs.declared.operation.Comparison.TheVariants as cm
use Rattle.c_typed.specs.declared.operation.Operation.{Operation}
use Rattle.c_typed.specs.declared.operation.Operation.TheVariants as op
use Rattle.c_typed.specs.declared.program.Param.{Param}
use Rattle.c_typed.specs.Tree as t
use Rattle.c_typed.specs.Tree.{Exp, Exps, Maybe, Stm, Stms, Function}
use Rattle.c_typed.specs.Program.{Program}
use Rattle.c_typed.specs.Values as values
use Rattle.c_typed.specs.Values.{width_of, ranked, further}
use Rattle.tac_lowered.specs.Code.{Code, nothing, does, both, Test}
use Rattle.tac_lowered.specs.Operators.{moved, number, or_else, narrows, cut, converted, size_of, arithmetic, comparison, scaled, operated, given_by, assigned, sign, bound}
use Rattle.tac_lowered.specs.Expressions.{held, at, behind_operand, is_empty, known, passed, address, address_at, indexed, low, low_all, effects, test, are_quiet, is_quiet, width_in}
use Rattle.tac_lowered.specs.Statements.{low_stm, low_stms, returned, test_part}
use Rattle.c_kept.specs.Kept.{Fill, KeepsExp, KeepsExps, KeepsPart, Returns, KeepsStm, KeepsStms}
use Rattle.c_kept.specs.Numbered.{NumbersStm, NumbersStms}
use Rattle.tac_lowered.proofs.Shapes.{KeepsCode, KeepsTest}

arithmetic_good : (o : Arithmetic) (size : Size) (to x y : ℕ) → HasGoodNumber (arithmetic o size to x y)
arithmetic_good ar.Add size to x y = tt
arithmetic_good ar.Sub size to x y = tt
arithmetic_good ar.Mul size to x y = tt
arithmetic_good ar.Div size to x y = tt
arithmetic_good ar.Rem size to x y = tt
arithmetic_good ar.ShiftLeft size to x y = tt
arithmetic_good ar.ShiftRight size to x y = tt
arithmetic_good ar.BitAnd size to x y = tt
arithmetic_good ar.BitXor size to x y = tt
arithmetic_good ar.BitOr size to x y = tt

comparison_good : (o : Comparison) (to x y : ℕ) → HasGoodNumber (comparison o to x y)
comparison_good cm.Equal to x y = tt
comparison_good cm.NotEqual to x y = tt
comparison_good cm.Less to x y = tt
comparison_good cm.LessEqual to x y = tt
comparison_good cm.Greater to x y = tt
comparison_good cm.GreaterEqual to x y = tt

cut_good : (w : Width) (to x : ℕ) → HasGoodNumber (cut w to x)
cut_good W1 to x = tt
cut_good W4 to x = tt
cut_good W8 to x = tt

pub at_base : IsOffset (pos 0)
at_base = (omega (arith, ints), omega (arith, ints))

bound_good : (reach : Reach) (count : ℕ) → 1 ≤ count → pos 1 ≤ℤ bound reach count
bound_good Inside count h = omega (arith, ints, h)
bound_good ToEnd count h = omega (arith, ints, h)

passed_long : (all : Exps) (r : ℕ) (p : Program) (kinds : List ValueType) (qs : List Param) → Fill p kinds all qs → length (passed all r) ≡ length qs
passed_long t.no_exp r p kinds [] h = refl
passed_long t.no_exp r p kinds (q ∷ qs) h = absurd h
passed_long (t.an_exp a rest) r p kinds [] h = absurd h
passed_long (t.an_exp a rest) r p kinds (q ∷ qs) h = ap suc (passed_long rest (behind_operand (are_quiet rest) a r) p kinds qs h.1)

module _ (p : Program) (kinds : List ValueType) (places : ℕ) (takes : (function count : ℕ) → Type 0)
    (calls_take : (g : ℕ) (G : Function) (count : ℕ) → slice_get p.functions g ≡ Some G → count ≡ length G.params → takes g count) where
  abbrev Keeps : Code → Type 0
  Keeps a = (l : Bool) → KeepsCode places takes l a

  abbrev Tested : Test → Type 0
  Tested t = KeepsTest places takes t

  -- ---- operators

  moved_keeps : (s : ℕ) (to : Option ℕ) (x : ℕ) → s < places → Keeps (moved s to x)
  moved_keeps s None x ls l = tt
  moved_keeps s (Some to) x ls l = go (to == x)
    where
      go : (b : Bool) → KeepsCode places takes l (if b then nothing else does s (Mov to x))
      go true = tt
      go false = (ls, tt)

  number_keeps : (s : ℕ) (to : Option ℕ) (v : ℤ) → s < places → Keeps (number s to v)
  number_keeps s None v ls l = tt
  number_keeps s (Some to) v ls l = (ls, tt)

  held_keeps : (b : Bool) (a : Exp) (code : Code) → Keeps code → Keeps (held b a code)
  held_keeps true (t.slot ty k) code h l = tt
  held_keeps true a code h l = h l
  held_keeps false a code h l = h l

  scaled_keeps : (s r size x : ℕ) → s < places → Keeps (scaled s r size x)
  scaled_keeps s r size x ls l = go (size == 1)
    where
      go : (b : Bool) → KeepsCode places takes l (if b then nothing else both (does s (Const r (pos size))) (does s (Mul Eight r x r)))
      go true = tt
      go false = ((ls, tt), (ls, tt))

  operated_keeps : (o : Operation) (s to r x y : ℕ) → s < places → Keeps (operated o s to r x y)
  operated_keeps (op.Integer o rank) s to r x y ls l = (ls, arithmetic_good o (size_of (ranked rank)) to x y)
  operated_keeps (op.Compare o) s to r x y ls l = (ls, comparison_good o to x y)
  operated_keeps (op.Advance size) s to r x y ls l = (scaled_keeps s r size y ls l, (ls, tt))
  operated_keeps (op.AdvanceBy size) s to r x y ls l = (scaled_keeps s r size x ls l, (ls, tt))
  operated_keeps (op.Retreat size) s to r x y ls l = (scaled_keeps s r size y ls l, (ls, tt))
  operated_keeps (op.Distance size) s to r x y ls l = ((ls, tt), ((ls, tt), (ls, tt)))

  converted_keeps : (from w : Width) (s to x : ℕ) → s < places → Keeps (converted from w s to x)
  converted_keeps from w s to x ls l = go (narrows from w)
    where
      go : (b : Bool) → KeepsCode places takes l (if b then does s (cut w to x) else moved s (Some to) x)
      go true = (ls, cut_good w to x)
      go false = moved_keeps s (Some to) x ls l

  assigned_keeps : (ty within : ValueType) (o : Operation) (s to r x y : ℕ) → s < places → Keeps (assigned ty within o s to r x y)
  assigned_keeps ty within o s to r x y ls l = go (narrows (width_of ty) (width_of within)) (narrows (given_by o) (width_of ty))
    where
      go : (b c : Bool)
          → KeepsCode places takes l
          (
          if b then both (does s (cut (width_of within) r x)) (both (operated o s (r + 1) (r + 2) r y) (converted (given_by o) (width_of ty) s to (r + 1)))
          else if c then both (operated o s r (r + 1) x y) (does s (cut (width_of ty) to r))
          else operated o s to r x y
          )
      go true c = ((ls, cut_good (width_of within) r x), (operated_keeps o s (r + 1) (r + 2) r y ls l, converted_keeps (given_by o) (width_of ty) s to (r + 1) ls l))
      go false true = (operated_keeps o s r (r + 1) x y ls l, (ls, cut_good (width_of ty) to r))
      go false false = operated_keeps o s to r x y ls l

  sign_keeps : (o : Sign) (rank : Rank) (s to r x : ℕ) → s < places → Keeps (sign o rank s to r x)
  sign_keeps sg.Minus rank s to r x ls l = ((ls, tt), (ls, tt))
  sign_keeps sg.BitNot rank s to r x ls l = ((ls, tt), (ls, tt))

  address_keeps : (s to : ℕ) (of : Storage) → s < places → Keeps (address p s to of)
  address_keeps s to (Global n) ls l = (ls, tt)
  address_keeps s to (Frame offset) ls l = (ls, tt)

  address_at_keeps : (s to : ℕ) (of : Storage) (bytes : ℤ) → s < places → Keeps (address_at p s to of bytes)
  address_at_keeps s to (Global n) bytes ls l = (ls, tt)
  address_at_keeps s to (Frame offset) bytes ls l = (ls, tt)

  indexed_keeps : (s : ℕ) (to : Option ℕ) (r : ℕ) (array : Storage) (count size : ℕ) (reach : Reach) (i : Option ℤ) (code : Code) (x : ℕ) → s < places → 1 ≤ count → Keeps code → Keeps (indexed p s to r array count size reach i code x)
  indexed_keeps s to r array count size reach (Some i) code x ls some h l = address_at_keeps s (or_else to r) array (values.scaled size i) ls l
  indexed_keeps s to r array count size reach None code x ls some h l = (h l, ((ls, bound_good reach count some), (scaled_keeps s (r + 1) size r ls l, (address_keeps s (r + 2) array ls l, (ls, tt)))))

  cut_keeps : (b : Bool) (w : Width) (s to x : ℕ) (first whole : Code) → s < places → Keeps first → Keeps whole → Keeps (if b then both first (does s (cut w to x)) else whole)
  cut_keeps true w s to x first whole ls hf hw l = (hf l, (ls, cut_good w to x))
  cut_keeps false w s to x first whole ls hf hw l = hw l

  some_keeps : (b : Bool) (s k : ℕ) (code : Code) → s < places → Keeps code → Keeps (if b then does s (Mov k k) else code)
  some_keeps true s k code ls h l = (ls, tt)
  some_keeps false s k code ls h l = h l

  -- ---- expressions

  call_keeps : (g : ℕ) (ty : ValueType) (all : Exps) (r : ℕ) (o : Option Function) → slice_get p.functions g ≡ o → MatchOption o ⊥ (λ G. (ty ≡ G.result) × Fill p kinds all G.params) → takes g (length (passed all r))
  call_keeps g ty all r None e h = absurd h
  call_keeps g ty all r (Some G) e h = calls_take g G (length (passed all r)) e (passed_long all r p kinds G.params h.1)

  mutual
    pub low_keeps : (a : Exp) → KeepsExp p kinds a → (s : ℕ) → s < places → (to : Option ℕ) (r : ℕ) → Keeps (low p a s to r)
    low_keeps (t.constant ty v) h s ls to r l = number_keeps s to v ls l
    low_keeps (t.text k) h s ls to r l = number_keeps s to (pos (slice_index_or p.strings k 0)) ls l
    low_keeps (t.address ty of) h s ls None r l = tt
    low_keeps (t.address ty of) h s ls (Some to) r l = address_keeps s to of ls l
    low_keeps (t.element ty array count size reach a) h s ls to r l =
        indexed_keeps s to r array count size reach (known reach count a) (held true a (low p a s (Some r) r)) (at true a r) ls h.2 (held_keeps true a (low p a s (Some r) r) (λ l. low_keeps a h.0 s ls (Some r) r l)) l
    low_keeps (t.slot ty k) h s ls to r l = moved_keeps s to k ls l
    low_keeps (t.load ty a) h s ls to r l = (held_keeps true a (low p a s (Some r) r) (λ l. low_keeps a h.0 s ls (Some r) r l) l, (ls, at_base))
    low_keeps (t.convert ty a) h s ls None r l = low_keeps a h s ls None r l
    low_keeps (t.convert ty a) h s ls (Some to) r l =
        cut_keeps (narrows (width_in a) (width_of ty)) (width_of ty) s to (at true a r) (held true a (low p a s (Some r) r)) (low p a s (Some to) r) ls (held_keeps true a (low p a s (Some r) r) (λ l. low_keeps a h s ls (Some r) r l)) (λ l. low_keeps a h s ls (Some to) r l) l
    low_keeps (t.unary o rank a) h s ls to r l = (held_keeps true a (low p a s (Some r) r) (λ l. low_keeps a h s ls (Some r) r l) l, sign_keeps o rank s (or_else to r) (r + 1) (at true a r) ls l)
    low_keeps (t.not a) h s ls to r l = (held_keeps true a (low p a s (Some r) r) (λ l. low_keeps a h s ls (Some r) r l) l, ((ls, tt), (ls, tt)))
    low_keeps (t.binary ty o a b) h s ls to r l = (
      held_keeps (is_quiet b) a (low p a s (Some r) r) (λ l. low_keeps a h.0 s ls (Some r) r l) l,
      (held_keeps true b (low p b s (Some (r + 1)) (r + 1)) (λ l. low_keeps b h.1 s ls (Some (r + 1)) (r + 1) l) l, operated_keeps o s (or_else to r) (r + 2) (at (is_quiet b) a r) (at true b (r + 1)) ls l),
    )
    low_keeps (t.both a b) h s ls None r l = (ls, test_keeps a h.0 s ls r (low p a s (Some r) r) (λ l. low_keeps a h.0 s ls (Some r) r l), low_keeps b h.1 s ls None r l)
    low_keeps (t.both a b) h s ls (Some to) r l =
        (ls, (test_keeps a h.0 s ls r (low p a s (Some r) r) (λ l. low_keeps a h.0 s ls (Some r) r l), test_keeps b h.1 s ls r (low p b s (Some r) r) (λ l. low_keeps b h.1 s ls (Some r) r l)), (ls, tt), (ls, tt))
    low_keeps (t.either a b) h s ls None r l = (ls, test_keeps a h.0 s ls r (low p a s (Some r) r) (λ l. low_keeps a h.0 s ls (Some r) r l), low_keeps b h.1 s ls None r l)
    low_keeps (t.either a b) h s ls (Some to) r l =
        (ls, (test_keeps a h.0 s ls r (low p a s (Some r) r) (λ l. low_keeps a h.0 s ls (Some r) r l), test_keeps b h.1 s ls r (low p b s (Some r) r) (λ l. low_keeps b h.1 s ls (Some r) r l)), (ls, tt), (ls, tt))
    low_keeps (t.conditional ty a b c) h s ls to r l =
        (ls, test_keeps a h.0 s ls r (low p a s (Some r) r) (λ l. low_keeps a h.0 s ls (Some r) r l), low_keeps b h.1 s ls to r l, low_keeps c h.2 s ls to r l)
    low_keeps (t.set_slot ty k a) h s ls to r l = (some_keeps (is_empty (low p a s (Some k) r)) s k (low p a s (Some k) r) ls (λ l. low_keeps a h.1 s ls (Some k) r l) l, moved_keeps s to k ls l)
    low_keeps (t.store ty a b) h s ls to r l = (
      held_keeps (is_quiet b) a (low p a s (Some r) r) (λ l. low_keeps a h.0 s ls (Some r) r l) l,
      (held_keeps true b (low p b s (Some (r + 1)) (r + 1)) (λ l. low_keeps b h.1 s ls (Some (r + 1)) (r + 1) l) l, ((ls, at_base), moved_keeps s to (at true b (r + 1)) ls l)),
    )
    low_keeps (t.update_slot ty k within o a) h s ls to r l = (
      held_keeps (is_quiet a) (t.slot ty k) (does s (Mov r k)) (λ l. (ls, tt)) l,
      (
        held_keeps true a (low p a s (Some (r + 1)) (r + 1)) (λ l. low_keeps a h.1 s ls (Some (r + 1)) (r + 1) l) l,
        (assigned_keeps ty within o s k (r + 2) (at (is_quiet a) (t.slot ty k) r) (at true a (r + 1)) ls l, moved_keeps s to k ls l),
      ),
    )
    low_keeps (t.update ty a within o b) h s ls to r l = (
      held_keeps (is_quiet b) a (low p a s (Some r) r) (λ l. low_keeps a h.0 s ls (Some r) r l) l,
      (
        (ls, at_base),
        (
          held_keeps true b (low p b s (Some (r + 2)) (r + 2)) (λ l. low_keeps b h.1 s ls (Some (r + 2)) (r + 2) l) l,
          (assigned_keeps ty within o s (r + 1) (r + 3) (r + 1) (at true b (r + 2)) ls l, ((ls, at_base), moved_keeps s to (r + 1) ls l)),
        ),
      ),
    )
    low_keeps (t.step_slot ty k within o) h s ls None r l = ((ls, tt), assigned_keeps ty within o s k (r + 1) k r ls l)
    low_keeps (t.step_slot ty k within o) h s ls (Some to) r l = ((ls, tt), ((ls, tt), (assigned_keeps ty within o s k (r + 2) r (r + 1) ls l, moved_keeps s (Some to) r ls l)))
    low_keeps (t.step ty a within o) h s ls to r l = (
      held_keeps true a (low p a s (Some r) r) (λ l. low_keeps a h.0 s ls (Some r) r l) l,
      ((ls, at_base), ((ls, tt), (assigned_keeps ty within o s (r + 2) (r + 3) (r + 1) (r + 2) ls l, ((ls, at_base), moved_keeps s to (r + 1) ls l)))),
    )
    low_keeps (t.call ty g all) h s ls to r l = (all_keep all h.0 s ls r l, (ls, call_keeps g ty all r (slice_get p.functions g) refl h.1))
    low_keeps t.get_byte h s ls to r l = (ls, tt)
    low_keeps (t.put_byte a) h s ls None r l = (held_keeps true a (low p a s (Some r) r) (λ l. low_keeps a h s ls (Some r) r l) l, (ls, tt))
    low_keeps (t.put_byte a) h s ls (Some to) r l = (held_keeps true a (low p a s (Some r) r) (λ l. low_keeps a h s ls (Some r) r l) l, ((ls, tt), (ls, tt)))
    low_keeps (t.put_number a) h s ls to r l = (held_keeps true a (low p a s (Some r) r) (λ l. low_keeps a h s ls (Some r) r l) l, ((ls, tt), number_keeps s to (pos 0) ls l))
    low_keeps (t.comma all a) h s ls to r l = (effects_keep all h.0 s ls r l, low_keeps a h.1 s ls to r l)

    all_keep : (all : Exps) → KeepsExps p kinds all → (s : ℕ) → s < places → (r : ℕ) → Keeps (low_all p all s r)
    all_keep t.no_exp h s ls r l = tt
    all_keep (t.an_exp a rest) h s ls r l = (held_keeps (are_quiet rest) a (low p a s (Some r) r) (λ l. low_keeps a h.0 s ls (Some r) r l) l, all_keep rest h.1 s ls (behind_operand (are_quiet rest) a r) l)

    pub effects_keep : (all : Exps) → KeepsExps p kinds all → (s : ℕ) → s < places → (r : ℕ) → Keeps (effects p all s r)
    effects_keep t.no_exp h s ls r l = tt
    effects_keep (t.an_exp a t.no_exp) h s ls r l = low_keeps a h.0 s ls None r l
    effects_keep (t.an_exp a (t.an_exp b more)) h s ls r l = (low_keeps a h.0 s ls None r l, effects_keep (t.an_exp b more) h.1 s ls r l)

    pub test_keeps : (a : Exp) → KeepsExp p kinds a → (s : ℕ) → s < places → (r : ℕ) (value : Code) → Keeps value → Tested (test p a s r value)
    test_keeps (t.constant ty v) h s ls r value hv = ls
    test_keeps (t.not a) h s ls r value hv = test_keeps a h s ls r (low p a s (Some r) r) (λ l. low_keeps a h s ls (Some r) r l)
    test_keeps (t.both a b) h s ls r value hv = (test_keeps a h.0 s ls r (low p a s (Some r) r) (λ l. low_keeps a h.0 s ls (Some r) r l), test_keeps b h.1 s ls r (low p b s (Some r) r) (λ l. low_keeps b h.1 s ls (Some r) r l))
    test_keeps (t.either a b) h s ls r value hv = (test_keeps a h.0 s ls r (low p a s (Some r) r) (λ l. low_keeps a h.0 s ls (Some r) r l), test_keeps b h.1 s ls r (low p b s (Some r) r) (λ l. low_keeps b h.1 s ls (Some r) r l))
    test_keeps a h s ls r value hv = (ls, held_keeps true a value hv false)

  -- ---- statements

  tested_keeps : (a : Exp) → KeepsExp p kinds a → (s : ℕ) → s < places → (r : ℕ) → Tested (test p a s r (low p a s (Some r) r))
  tested_keeps a h s ls r = test_keeps a h s ls r (low p a s (Some r) r) (λ l. low_keeps a h s ls (Some r) r l)

  part_keeps : (a : Maybe) → KeepsPart p kinds a → (s : ℕ) → s < places → (r : ℕ) → Tested (test_part p a s r)
  part_keeps t.missing h s ls r = ls
  part_keeps (t.given a) h s ls r = tested_keeps a h s ls r

  returned_keeps : (a : Maybe) (result : ValueType) → Returns p kinds result a → (s : ℕ) → s < places → (r : ℕ) → Keeps (returned p a s r)
  returned_keeps t.missing result h s ls r l = (ls, tt)
  returned_keeps (t.given a) result h s ls r l = (held_keeps true a (low p a s (Some r) r) (λ l. low_keeps a h.0 s ls (Some r) r l) l, (ls, tt))

  module _ (result : ValueType) where
    mutual
      pub stm_keeps : (b : Stm) (l : Bool) → KeepsStm p kinds result l b → NumbersStm places b → (r : ℕ) → KeepsCode places takes l (low_stm p b r)
      stm_keeps (t.block all) l h n r = stms_keep all l h n r
      stm_keeps (t.empty s) l h n r = tt
      stm_keeps (t.expression s a) l h n r = low_keeps a h s n None r l
      stm_keeps (t.if_then s a b) l h n r = (n.0, tested_keeps a h.0 s n.0 r, stm_keeps b l h.1 n.1 r)
      stm_keeps (t.if_else s a b c) l h n r = (n.0, tested_keeps a h.0 s n.0 r, stm_keeps b l h.1 n.1 r, stm_keeps c l h.2 n.2 r)
      stm_keeps (t.while_loop s a b) l h n r = (n.0, tested_keeps a h.0 s n.0 r, stm_keeps b true h.1 n.1 r, tt)
      stm_keeps (t.do_while s b a) l h n r = (n.0, stm_keeps b true h.0 n.1 r, tested_keeps a h.1 s n.0 r)
      stm_keeps (t.for_loop s all a t.missing b) l h n r = (effects_keep all h.0 s n.0 r l, (n.0, part_keeps a h.1 s n.0 r, stm_keeps b true h.3 n.1 r, tt))
      stm_keeps (t.for_loop s all a (t.given c) b) l h n r = (effects_keep all h.0 s n.0 r l, (n.0, part_keeps a h.1 s n.0 r, stm_keeps b true h.3 n.1 r, low_keeps c h.2 s n.0 None r l))
      stm_keeps (t.break s) l h n r = (n, h)
      stm_keeps (t.continue s) l h n r = (n, h)
      stm_keeps (t.return s a) l h n r = returned_keeps a result h s n r l
      stm_keeps (t.local s all) l h n r = effects_keep all h s n r l

      pub stms_keep : (all : Stms) (l : Bool) → KeepsStms p kinds result l all → NumbersStms places all → (r : ℕ) → KeepsCode places takes l (low_stms p all r)
      stms_keep t.no_stm l h n r = tt
      stms_keep (t.a_stm a t.no_stm) l h n r = stm_keeps a l h.0 n.0 r
      stms_keep (t.a_stm a (t.a_stm b rest)) l h n r = (stm_keeps a l h.0 n.0 r, stms_keep (t.a_stm b rest) l h.1 n.1 r)
