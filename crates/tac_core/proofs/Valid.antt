-- A cover of a valid program is valid.
use Rattle.std.proofs.Common.{◌≡◌, ◌≢◌, ◌<◌, ◌≤◌, ℕ, zero, suc, List, [], Option, Some, None, length, get_or, refl, sym, ap, ◌∙◌, subst, ⊎_elim, arith}
use Rattle.std.specs.Prelude.{map, slice_get, ◌%◌, MatchOption}
use Rattle.std.specs.List.{All, AllPairs, Any}
use Rattle.std.specs.Option.{option_map}
use Rattle.std.proofs.lemmas.List.{length-map}
use Rattle.std.proofs.Math.ListN.{get_or-map}
use Rattle.std.proofs.lemmas.Option.{slice_get-get_or, slice_get_within, get_or_from_slice_get}
use Rattle.tac_core.specs.declared.code.End.{End}
use Rattle.tac_core.specs.declared.code.End.TheVariants.{Jump, Branch, Call, Ret}
use Rattle.tac_core.specs.declared.code.Block.{Block}
use Rattle.tac_core.specs.declared.code.TacFunc.{TacFunc}
use Rattle.tac_core.specs.Program.{Program, names, main_name}
use Rattle.tac_core.specs.Rules.{IsRegister, IsGoodOp, IsTarget, Takes, IsGoodEnd, IsGoodBlock, IsName, AreDistinct, IsGoodFunc, NamesDiffer, IsMain, IsValid}
use Rattle.tac_core.specs.Cover.{Origins, IsFrom, IsEndFrom, IsBlockFrom, IsFuncFrom, AreFuncsFrom, Covers}
use Rattle.tac_core.proofs.Lists.{All-get}

-- what holds of each element that is found holds of all
pub All-from_get : {X : Type 0} (P : X → Type 0) (xs : List X) → ((i : ℕ) (x : X) → slice_get xs i ≡ Some x → P x) → All P xs
All-from_get P xs each i d lt = each i (get_or xs i d) (slice_get-get_or xs i d lt)

-- the origin of a function of the copy
pub record HasOrigin (all : Option Origins) (origin : Option TacFunc) (f : TacFunc) : Type 0 where
  pub origins : Origins
  pub func : TacFunc
  pub origins_is : all ≡ Some origins
  pub func_is : origin ≡ Some func
  pub from : IsFuncFrom origins f func

-- the copy of a function of the origin
pub record HasCopy (all : Option Origins) (copy : Option TacFunc) (g : TacFunc) : Type 0 where
  pub origins : Origins
  pub func : TacFunc
  pub origins_is : all ≡ Some origins
  pub func_is : copy ≡ Some func
  pub from : IsFuncFrom origins func g

pub origin_of_func : (x : Option Origins) (c o : Option TacFunc) → AreFuncsFrom x c o → (f : TacFunc) → c ≡ Some f → HasOrigin x o f
origin_of_func (Some os) (Some c) (Some o) h f is =
    let same : c ≡ f = cc in
    record { origins = os; func = o; origins_is = refl; func_is = refl; from = subst (λ z. IsFuncFrom os z o) same h }
origin_of_func (Some os) (Some c) None h f is = absurd h
origin_of_func (Some os) None o h f is = absurd h
origin_of_func None (Some c) o h f is = absurd h
origin_of_func None None o h f is = cc

pub copy_of_func : (x : Option Origins) (c o : Option TacFunc) → AreFuncsFrom x c o → (g : TacFunc) → o ≡ Some g → HasCopy x c g
copy_of_func (Some os) (Some c) (Some o) h g is =
    let same : o ≡ g = cc in
    record { origins = os; func = c; origins_is = refl; func_is = refl; from = subst (λ z. IsFuncFrom os c z) same h }
copy_of_func (Some os) (Some c) None h g is = absurd h
copy_of_func (Some os) None o h g is = absurd h
copy_of_func None (Some c) o h g is = absurd h
copy_of_func None None (Some o) h g is = absurd h
copy_of_func None None None h g is = cc

-- no target of the copy is its entry, since no target of the origin is
target_good : (os : Origins) (n m : ℕ) → IsFrom os 0 0 → length os ≡ n → (l o : ℕ) → IsFrom os l o → IsTarget m o → IsTarget n l
target_good os n m entry long zero o from good =
    let both : Some 0 ≡ Some o = sym entry ∙ from in
    let none : 0 ≡ o = cc in
    let above : 0 < o = good.0 in
    absurd (omega arith)
target_good os n m entry long (suc l) o from good =
    let within : suc l < length os = slice_get_within os (suc l) o from in
    (omega arith, omega arith)

module _ (all : List Origins) (copy origin : List TacFunc) (covers : (f : ℕ) → AreFuncsFrom (slice_get all f) (slice_get copy f) (slice_get origin f)) where
  takes_in : (x : Option Origins) (c o : Option TacFunc) → AreFuncsFrom x c o → (k : ℕ) → MatchOption o ⊥ (λ f. k ≡ length f.params) → MatchOption c ⊥ (λ f. k ≡ length f.params)
  takes_in (Some os) (Some c) (Some o) h k t = t ∙ ap length (sym h.params)
  takes_in (Some os) (Some c) None h k t = absurd h
  takes_in (Some os) None o h k t = absurd h
  takes_in None (Some c) o h k t = absurd h
  takes_in None None (Some o) h k t = absurd h
  takes_in None None None h k t = absurd t

  takes : (f k : ℕ) → Takes origin f k → Takes copy f k
  takes f k t = takes_in (slice_get all f) (slice_get copy f) (slice_get origin f) (covers f) k t

  end_good : (os : Origins) (regs n m : ℕ) → IsFrom os 0 0 → length os ≡ n → (e e' : End) → IsEndFrom os e e' → IsGoodEnd regs m origin e' → IsGoodEnd regs n copy e
  end_good os regs n m entry long (Jump l) (Jump o) h good = target_good os n m entry long l o h good
  end_good os regs n m entry long (Branch r y f) (Branch r' y' f') h good = (
    subst (λ z. z < regs) (sym h.0) good.0,
    target_good os n m entry long y y' h.1 good.1,
    target_good os n m entry long f f' h.2 good.2,
    λ e. good.3 (same_origin os y f y' f' h.1 h.2 e),
  )
    where
      same_origin : (os : Origins) (y f y' f' : ℕ) → IsFrom os y y' → IsFrom os f f' → y ≡ f → y' ≡ f'
      same_origin os y f y' f' h g e =
          let both : Some y' ≡ Some f' = sym h ∙ ap (λ k. slice_get os k) e ∙ g in cc
  end_good os regs n m entry long (Call d f args l) (Call d' f' args' o) h good = (
    subst (IsRegister regs) (sym h.0) good.0,
    subst (λ z. All (λ a. a < regs) z) (sym h.2) good.1,
    target_good os n m entry long l o h.3 good.2,
    subst (λ z. Takes copy z (length args)) (sym h.1) (subst (λ z. Takes copy f' (length z)) (sym h.2) (takes f' (length args') good.3)),
  )
  end_good os regs n m entry long (Ret r) (Ret r') h good = subst (IsRegister regs) (sym h) good
  end_good os regs n m entry long _ _ h good = absurd h

  block_good : (os : Origins) (regs n m places : ℕ) → IsFrom os 0 0 → length os ≡ n → (b c : Block) → IsBlockFrom os b c → IsGoodBlock regs m places origin c → IsGoodBlock regs n places copy b
  block_good os regs n m places entry long b c h good = record {
    few = subst (λ z. length z ≤ 512) (sym h.ops) good.few;
    ops = subst (λ z. All (IsGoodOp regs places) z) (sym h.ops) good.ops;
    ends = end_good os regs n m entry long b.«end» c.«end» h.ends good.ends;
    stmt = subst (λ z. z < places) (sym h.end_stmt) good.stmt;
  }

  each_block : (os : Origins) (places : ℕ) (f g : TacFunc) → IsFuncFrom os f g → All (IsGoodBlock g.regs (length g.blocks) places origin) g.blocks → (l : ℕ) (b : Block) → slice_get f.blocks l ≡ Some b → IsGoodBlock g.regs (length f.blocks) places copy b
  each_block os places f g h good l b is =
      let within : l < length f.blocks = slice_get_within f.blocks l b is in
      let long = h.long in
      let o : ℕ = get_or os l 0 in
      let t = h.each l o (slice_get-get_or os l 0 (omega arith)) in
      let both : Some b ≡ Some t.0 = sym is ∙ t.2 in
      let same : t.0 ≡ b = cc in
      block_good os g.regs (length f.blocks) (length g.blocks) places h.entry h.long b t.1
      (subst (λ z. IsBlockFrom os z t.1) same t.4)
      (All-get (IsGoodBlock g.regs (length g.blocks) places origin) g.blocks o t.1 good t.3)

  func_good : (os : Origins) (places : ℕ) (f g : TacFunc) → f.name ≡ g.name → IsFuncFrom os f g → IsGoodFunc places origin g → IsGoodFunc places copy f
  func_good os places f g name h good =
      let t = h.each 0 0 h.entry in
      record {
        named = subst IsName (sym name) good.named;
        entry = slice_get_within f.blocks 0 t.0 t.2;
        few = subst (λ z. length z ≤ 8) (sym h.params) good.few;
        params = subst (λ z. All (λ r. r < z) f.params) (sym h.regs) (subst (λ z. All (λ r. r < g.regs) z) (sym h.params) good.params);
        distinct = subst AreDistinct (sym h.params) good.distinct;
        frame = subst (λ z. z ≤ 262144) (sym h.frame) good.frame;
        aligned = subst (λ z. z % 16 ≡ 0) (sym h.frame) good.aligned;
        blocks = subst (λ z. All (IsGoodBlock z (length f.blocks) places copy) f.blocks) (sym h.regs)
            (All-from_get (IsGoodBlock g.regs (length f.blocks) places copy) f.blocks (each_block os places f g h good.blocks));
      }

  module _ (named : map (λ (f : TacFunc). f.name) copy ≡ map (λ (f : TacFunc). f.name) origin) where
    many : length copy ≡ length origin
    many = sym (length-map copy (λ f. f.name)) ∙ ap length named ∙ length-map origin (λ f. f.name)

    name_at : (i : ℕ) (d : TacFunc) → (get_or copy i d).name ≡ (get_or origin i d).name
    name_at i d = sym (get_or-map (λ (f : TacFunc). f.name) copy i d) ∙ ap (λ ns. get_or ns i d.name) named ∙ get_or-map (λ (f : TacFunc). f.name) origin i d

    each_func : (places : ℕ) → All (IsGoodFunc places origin) origin → (i : ℕ) (f : TacFunc) → slice_get copy i ≡ Some f → IsGoodFunc places copy f
    each_func places good i f is =
        let t = origin_of_func (slice_get all i) (slice_get copy i) (slice_get origin i) (covers i) f is in
        let name : f.name ≡ t.func.name =
        ap (λ (h : TacFunc). h.name) (sym (get_or_from_slice_get copy i f f is)) ∙ name_at i f
        ∙ ap (λ (h : TacFunc). h.name) (get_or_from_slice_get origin i t.func f t.func_is) in
        func_good t.origins places f t.func name t.from (All-get (IsGoodFunc places origin) origin i t.func good t.func_is)

    differ : NamesDiffer origin → NamesDiffer copy
    differ names' i j d lt within e =
        let long = many in
        names' i j d lt (omega arith) (sym (name_at i d) ∙ e ∙ name_at j d)

    has_main : Any IsMain origin → Any IsMain copy
    has_main any =
        let i : ℕ = any.0 in
        let g : TacFunc = any.1 in
        let is : slice_get origin i ≡ Some g = slice_get-get_or origin i g any.2 ∙ ap Some any.3 in
        let t = copy_of_func (slice_get all i) (slice_get copy i) (slice_get origin i) (covers i) g is in
        let at : get_or copy i t.func ≡ t.func = get_or_from_slice_get copy i t.func t.func t.func_is in
        let name : t.func.name ≡ g.name =
        ap (λ (h : TacFunc). h.name) (sym at) ∙ name_at i t.func ∙ ap (λ (h : TacFunc). h.name) (get_or_from_slice_get origin i g t.func is) in
        (i, t.func, slice_get_within copy i t.func t.func_is, at, (name ∙ any.4.0, t.from.params ∙ any.4.1))

pub covers_valid : (all : List Origins) (copy origin : Program) → Covers all copy origin → IsValid origin → IsValid copy
covers_valid all copy origin h valid = record {
  small = subst (λ z. length z ≤ 524288) (sym h.image) valid.small;
  each = subst (λ z. All (IsGoodFunc (length z) copy.funcs) copy.funcs) (sym h.places)
      (All-from_get (IsGoodFunc (length origin.places) copy.funcs) copy.funcs (each_func all copy.funcs origin.funcs h.funcs h.named (length origin.places) valid.each));
  differ = differ all copy.funcs origin.funcs h.funcs h.named valid.differ;
  main = has_main all copy.funcs origin.funcs h.funcs h.named valid.main;
}
