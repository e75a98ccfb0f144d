-- What a typed program is lowered to is valid.
use Rattle.std.proofs.Common.{◌≡◌, ◌≢◌, ℕ, suc, ◌+◌, ◌<◌, ◌≤◌, List, [], ◌∷◌, ◌++◌, length, length-append, map, Bool, true, false, refl, sym, ap, ◌∙◌, subst, arith, Option, Some, None, codes, bytes_eq}
use Rattle.std.specs.Prelude.{slice_get, slice_index_or, if◌then◌else◌, MatchOption}
use Rattle.std.specs.List.{All, AllPairs, Any}
use Rattle.std.proofs.lemmas.List.{length-map, get_or-map}
use Rattle.std.proofs.lemmas.List.Elements.{All-nil, All-cons, All-map}
use Rattle.std.proofs.lemmas.List.Kept.{AllPairs-cons}
use Rattle.std.proofs.lemmas.Option.{slice_get_within, get_or_from_slice_get}
use Rattle.std.proofs.lemmas.Slice.Eq.{bytes_eq-Decides}
use Rattle.ib_act.specs.declared.act.Act.{Act}
use Rattle.ib_act.specs.Acts.{target, first_source, second_source, HasGoodNumber}
use Rattle.c_typed.specs.declared.types.ValueType.{ValueType}
use Rattle.c_typed.specs.declared.program.Home.{Home}
use Rattle.c_typed.specs.declared.program.Home.TheVariants as h
use Rattle.c_typed.specs.declared.program.Param.{Param}
use Rattle.c_typed.specs.Tree as t
use Rattle.c_typed.specs.Tree.{Stm, Stms, Function}
use Rattle.c_typed.specs.ValueTypes.{int}
use Rattle.c_typed.specs.Program as typed
use Rattle.tac_core.specs.declared.code.End.{End}
use Rattle.tac_core.specs.declared.code.End.TheVariants.{Jump, Branch, Call, Ret}
use Rattle.tac_core.specs.declared.code.TacFunc.{TacFunc}
use Rattle.tac_core.specs.Rules.{IsRegister, IsGoodAct, IsGoodOp, Takes, IsGoodEnd, IsGoodBlock, IsGoodFunc, IsMain, IsName, IsValid, AreDistinct}
use Rattle.tac_lowered.specs.Items.{Item, Do, Close, ops_of, end_of, stmt_of, block_of, rest_of, blocks, Open, fresh, counted, goes, onward, Loop}
use Rattle.tac_lowered.specs.Statements.{low_stms}
use Rattle.tac_lowered.specs.Lowered.{behind_home, behind_params, up_to, up_to_all, up_to_end, registers, home_in, params_in, nowhere, stored, all_stored, free_in, body_of, items_of, lowered_function, lowered}
use Rattle.c_kept.specs.Kept.{HasHome, HaveHomes, slots_of, KeepsFunction, KeepsProgram}
use Rattle.c_kept.specs.Numbered.{NumbersStm, NumbersStms, KeepsNumbers}
use Rattle.tac_lowered.proofs.Geometry.{run, runs, up_least, do_least, close_least, at_least}
use Rattle.tac_lowered.proofs.Shapes.{KeepsCode, Leads, Good, good_items}
use Rattle.tac_lowered.proofs.Emitted.{at_base, stms_keep}
use Rattle.tac_lowered.proofs.Entry.{home_behind, params_behind, map_get}
use Rattle.tac_lowered.proofs.Names.{name_kept}

-- ---- blocks of good items

module _ (places regs total : ℕ) (funcs : List TacFunc) where
  abbrev Holds : Open → List Item → Type 0
  Holds o is = Good places (Takes funcs) total o is

  is_register : (r : Option ℕ) (n : ℕ) → up_to r n ≤ regs → IsRegister regs r
  is_register None n le = tt
  is_register (Some r) n le = omega (arith, le)

  are_registers : (rs : List ℕ) (n : ℕ) → up_to_all rs n ≤ regs → All (λ r. r < regs) rs
  are_registers [] n le = All-nil (λ r. r < regs)
  are_registers (r ∷ rs) n le = All-cons (λ r. r < regs) r rs (omega (arith, le)) (are_registers rs n (omega (arith, le)))

  act_good : (s : ℕ) (act : Act) (is : List Item) (n : ℕ) → HasGoodNumber act → registers (Do s act ∷ is) n ≤ regs → IsGoodAct regs act
  act_good s act is n number le =
      let n2 = up_to (second_source act) (registers is n) in
      let n1 = up_to (first_source act) n2 in
      let e1 = up_least (target act) n1 in
      let e2 = up_least (first_source act) n2 in
      record {
        writes = is_register (target act) n1 le;
        first = is_register (first_source act) n2 (omega (arith, le, e1));
        second = is_register (second_source act) (registers is n) (omega (arith, le, e1, e2));
        number = number;
      }

  ops_good : (o : Open) (is : List Item) (n : ℕ) → Holds o is → registers is n ≤ regs → All (IsGoodOp regs places) (ops_of is)
  ops_good o [] n g le = All-nil (IsGoodOp regs places)
  ops_good o (Do s act ∷ is) n g le =
      let e1 = do_least s act is n in
      All-cons (IsGoodOp regs places) (record { stmt = s; act = act }) (ops_of is) (record { stmt = g.0; act = act_good s act is n g.1 le }) (ops_good (counted o) is n g.2 (omega (arith, le, e1)))
  ops_good o (Close s e ∷ is) n g le = All-nil (IsGoodOp regs places)

  end_good : (e : End) (n : ℕ) → Leads places (Takes funcs) total e → up_to_end e n ≤ regs → IsGoodEnd regs total funcs e
  end_good (Jump l) n g le = g
  end_good (Branch r there other) n g le = (omega (arith, le), g.0, g.1, g.2)
  end_good (Call to f args next) n g le = let e1 = up_least to (up_to_all args n) in (is_register to (up_to_all args n) le, are_registers args n (omega (arith, le, e1)), g.0, g.1)
  end_good (Ret r) n g le = is_register r n le

  module _ (last : ℕ) (there : last < places) where
    ends_good : (o : Open) (is : List Item) (n : ℕ) → Holds o is → registers is n ≤ regs → IsGoodEnd regs total funcs (end_of (Ret None) is)
    ends_good o [] n g le = tt
    ends_good o (Do s act ∷ is) n g le = let e1 = do_least s act is n in ends_good (counted o) is n g.2 (omega (arith, le, e1))
    ends_good o (Close s e ∷ is) n g le = end_good e (registers is n) g.2 le

    stmt_good : (o : Open) (is : List Item) → Holds o is → stmt_of last is < places
    stmt_good o [] g = there
    stmt_good o (Do s act ∷ is) g = stmt_good (counted o) is g.2
    stmt_good o (Close s e ∷ is) g = g.1

    few_ops : (o : Open) (is : List Item) → Holds o is → length (ops_of is) + o.count ≤ 511
    few_ops o [] g = omega (arith, g)
    few_ops o (Do s act ∷ is) g = let e1 = few_ops (counted o) is g.2 in omega (arith, e1)
    few_ops o (Close s e ∷ is) g = let e1 = g.0 in omega (arith, e1)

    block_good : (o : Open) (is : List Item) (n : ℕ) → Holds o is → registers is n ≤ regs → IsGoodBlock regs total places funcs (block_of last (Ret None) is)
    block_good o is n g le = record {
      few = let e1 = few_ops o is g in omega (arith, e1);
      ops = ops_good o is n g le;
      ends = ends_good o is n g le;
      stmt = stmt_good o is g;
    }

    rest_good : (o : Open) (is : List Item) (n : ℕ) → Holds o is → registers is n ≤ regs → All (IsGoodBlock regs total places funcs) (rest_of last (Ret None) is)
    rest_good o [] n g le = All-nil (IsGoodBlock regs total places funcs)
    rest_good o (Do s act ∷ is) n g le = let e1 = do_least s act is n in rest_good (counted o) is n g.2 (omega (arith, le, e1))
    rest_good o (Close s e ∷ is) n g le =
        let e1 = close_least s e is n in
        All-cons (IsGoodBlock regs total places funcs) (block_of last (Ret None) is) (rest_of last (Ret None) is) (block_good (fresh o) is n g.3 (omega (arith, le, e1))) (rest_good (fresh o) is n g.3 (omega (arith, le, e1)))

    blocks_good : (o : Open) (is : List Item) (n : ℕ) → Holds o is → registers is n ≤ regs → All (IsGoodBlock regs total places funcs) (blocks last (Ret None) is)
    blocks_good o is n g le = All-cons (IsGoodBlock regs total places funcs) (block_of last (Ret None) is) (rest_of last (Ret None) is) (block_good o is n g le) (rest_good o is n g le)

-- as many blocks as the last label tells
many_blocks : (last : ℕ) (o : Open) (is : List Item) → length (rest_of last (Ret None) is) + o.label ≡ (run o is).label
many_blocks last o [] = omega arith
many_blocks last o (Do s act ∷ is) = many_blocks last (counted o) is
many_blocks last o (Close s e ∷ is) = let e1 = many_blocks last (fresh o) is in omega (arith, e1)

-- ---- parameters

params_long : (qs : List Param) (r : ℕ) → length (params_in qs r) ≡ length qs
params_long [] r = refl
params_long (q ∷ qs) r = ap suc (params_long qs (behind_home q.home r))

module _ (kinds : List ValueType) (frame : ℕ) where
  home_below : (ty : ValueType) (q : Home) (r n : ℕ) → HasHome kinds frame ty q → length kinds ≤ n → behind_home q r ≤ n → home_in q r < n
  home_below ty (h.Slot k) r n home le lt = let e1 = slice_get_within kinds k ty home in omega (arith, e1, le)
  home_below ty (h.Frame offset) r n home le lt = omega (arith, lt)

  params_below : (qs : List Param) (r n : ℕ) → HaveHomes kinds frame qs → length kinds ≤ n → behind_params qs r ≤ n → All (λ r. r < n) (params_in qs r)
  params_below [] r n homes le lt = All-nil (λ r. r < n)
  params_below (q ∷ qs) r n homes le lt =
      let e1 = params_behind qs (behind_home q.home r) in
      All-cons (λ r. r < n) (home_in q.home r) (params_in qs (behind_home q.home r)) (home_below q.ty q.home r n homes.0 le (omega (arith, e1, lt))) (params_below qs (behind_home q.home r) n homes.2 le lt)

  -- a slot is none of the others, and none of the registers behind the slots
  slot_apart : (k : ℕ) (ty : ValueType) (q : Home) (qs : List Param) (r : ℕ) → k < r → All (λ b. (k ≡ b) → ⊥) (slots_of (record { ty = ty; home = q } ∷ qs)) → (All (λ b. (k ≡ b) → ⊥) (slots_of qs) → All (λ b. k ≢ b) (params_in qs (behind_home q r)))
      → All (λ b. k ≢ b) (params_in (record { ty = ty; home = q } ∷ qs) r)
  slot_apart k ty (h.Slot j) qs r lt others rest = All-cons (λ b. k ≢ b) j (params_in qs r) (others 0 0 (omega arith)) (rest (λ i d li. others (suc i) d (omega (arith, li))))
  slot_apart k ty (h.Frame offset) qs r lt others rest = All-cons (λ b. k ≢ b) r (params_in qs (suc r)) (λ e. omega (arith, e, lt)) (rest others)

  slots_apart : (k : ℕ) (qs : List Param) (r : ℕ) → k < r → All (λ b. (k ≡ b) → ⊥) (slots_of qs) → All (λ b. k ≢ b) (params_in qs r)
  slots_apart k [] r lt others = All-nil (λ b. k ≢ b)
  slots_apart k (q ∷ qs) r lt others = slot_apart k q.ty q.home qs r lt others (λ others. slots_apart k qs (behind_home q.home r) (let e1 = home_behind q.home r in omega (arith, e1, lt)) others)

  -- a register between the slots and those of later parameters
  between_home : (m : ℕ) (ty : ValueType) (q : Home) (r : ℕ) → length kinds ≤ m → m < r → HasHome kinds frame ty q → m ≢ home_in q r
  between_home m ty (h.Slot k) r le lt home = λ e. let e1 = slice_get_within kinds k ty home in omega (arith, e, e1, le)
  between_home m ty (h.Frame offset) r le lt home = λ e. omega (arith, e, lt)

  between : (m : ℕ) (qs : List Param) (r : ℕ) → length kinds ≤ m → m < r → HaveHomes kinds frame qs → All (λ b. m ≢ b) (params_in qs r)
  between m [] r le lt homes = All-nil (λ b. m ≢ b)
  between m (q ∷ qs) r le lt homes = All-cons (λ b. m ≢ b) (home_in q.home r) (params_in qs (behind_home q.home r)) (between_home m q.ty q.home r le lt homes.0) (between m qs (behind_home q.home r) le (let e1 = home_behind q.home r in omega (arith, e1, lt)) homes.2)

  one_distinct : (ty : ValueType) (q : Home) (qs : List Param) (r : ℕ) → length kinds ≤ r → HasHome kinds frame ty q → HaveHomes kinds frame qs → AllPairs (λ a b. (a ≡ b) → ⊥) (slots_of (record { ty = ty; home = q } ∷ qs))
      → (AllPairs (λ a b. (a ≡ b) → ⊥) (slots_of qs) → AreDistinct (params_in qs (behind_home q r))) → AreDistinct (params_in (record { ty = ty; home = q } ∷ qs) r)
  one_distinct ty (h.Slot k) qs r le home homes apart rest =
      AllPairs-cons (λ a b. a ≢ b) k (params_in qs r) (slots_apart k qs r (let e1 = slice_get_within kinds k ty home in omega (arith, e1, le)) (λ i d li. apart 0 (suc i) d (omega arith) (omega (arith, li))))
      (rest (λ i j d lt lj. apart (suc i) (suc j) d (omega (arith, lt)) (omega (arith, lj))))
  one_distinct ty (h.Frame offset) qs r le home homes apart rest = AllPairs-cons (λ a b. a ≢ b) r (params_in qs (suc r)) (between r qs (suc r) le (omega arith) homes) (rest apart)

  params_distinct : (qs : List Param) (r : ℕ) → length kinds ≤ r → HaveHomes kinds frame qs → AllPairs (λ a b. (a ≡ b) → ⊥) (slots_of qs) → AreDistinct (params_in qs r)
  params_distinct [] r le homes apart = λ i j d lt lj. let no : ⊥ = omega (arith, lj) in absurd no
  params_distinct (q ∷ qs) r le homes apart = one_distinct q.ty q.home qs r le homes.0 homes.2 apart (λ apart. params_distinct qs (behind_home q.home r) (let e1 = home_behind q.home r in omega (arith, e1, le)) homes.2 apart)

-- ---- numbers of statements

mutual
  more_stm : (n m : ℕ) → n ≤ m → (b : Stm) → NumbersStm n b → NumbersStm m b
  more_stm n m le (t.block all) h = more_stms n m le all h
  more_stm n m le (t.empty s) h = omega (arith, le, h)
  more_stm n m le (t.expression s a) h = omega (arith, le, h)
  more_stm n m le (t.if_then s a b) h = (let e1 = h.0 in omega (arith, le, e1), more_stm n m le b h.1)
  more_stm n m le (t.if_else s a b c) h = (let e1 = h.0 in omega (arith, le, e1), more_stm n m le b h.1, more_stm n m le c h.2)
  more_stm n m le (t.while_loop s a b) h = (let e1 = h.0 in omega (arith, le, e1), more_stm n m le b h.1)
  more_stm n m le (t.do_while s b a) h = (let e1 = h.0 in omega (arith, le, e1), more_stm n m le b h.1)
  more_stm n m le (t.for_loop s all a c b) h = (let e1 = h.0 in omega (arith, le, e1), more_stm n m le b h.1)
  more_stm n m le (t.break s) h = omega (arith, le, h)
  more_stm n m le (t.continue s) h = omega (arith, le, h)
  more_stm n m le (t.return s a) h = omega (arith, le, h)
  more_stm n m le (t.local s all) h = omega (arith, le, h)

  more_stms : (n m : ℕ) → n ≤ m → (all : Stms) → NumbersStms n all → NumbersStms m all
  more_stms n m le t.no_stm h = tt
  more_stms n m le (t.a_stm a rest) h = (more_stm n m le a h.0, more_stms n m le rest h.1)

-- ---- `main`

main_named : (fs : List Function) (f : Function) → slice_get fs (typed.main_in (map (λ f. f.name) fs)) ≡ Some f → f.name ≡ codes "main"
main_named [] f e = let no : ⊥ = cc in absurd no
main_named (g ∷ fs) f e = go (bytes_eq (codes "main") g.name) refl e (λ e. main_named fs f e)
  where
    go : (b : Bool) → bytes_eq (codes "main") g.name ≡ b → slice_get (g ∷ fs) (if b then 0 else suc (typed.main_in (map (λ f. f.name) fs))) ≡ Some f
        → (slice_get fs (typed.main_in (map (λ f. f.name) fs)) ≡ Some f → f.name ≡ codes "main") → f.name ≡ codes "main"
    go true eb e more = let same : g ≡ f = cc in ap (λ f. f.name) (sym same) ∙ sym ((bytes_eq-Decides (codes "main") g.name).0 eb)
    go false eb e more = more e

-- ---- programs

module _ (p : typed.Program) (sound : KeepsProgram p) (numbers : KeepsNumbers p) where
  abbrev funcs : List TacFunc
  funcs = map (lowered_function p) p.functions

  abbrev places : ℕ
  places = length (p.places ++ record { line = 1; col = 1 } ∷ [])

  many_places : places ≡ suc (length p.places)
  many_places = let e1 = length-append p.places (record { line = 1; col = 1 } ∷ []) in omega (arith, e1)

  calls_take : (g : ℕ) (G : Function) (count : ℕ) → slice_get p.functions g ≡ Some G → count ≡ length G.params → Takes funcs g count
  calls_take g G count eg e = subst (λ o. MatchOption o ⊥ (λ f. count ≡ length f.params)) (sym (map_get (lowered_function p) p.functions g G eg)) (e ∙ sym (params_long G.params G.slots))

  stored_keeps : (ty : ValueType) (q : Home) (r free : ℕ) → KeepsCode places (Takes funcs) false (stored p ty q r free)
  stored_keeps ty (h.Slot k) r free = tt
  stored_keeps ty (h.Frame offset) r free = let lt : nowhere p < places = let e1 = many_places in omega (arith, e1) in ((lt, tt), (lt, at_base))

  all_stored_keep : (qs : List Param) (r free : ℕ) → KeepsCode places (Takes funcs) false (all_stored p qs r free)
  all_stored_keep [] r free = tt
  all_stored_keep (q ∷ qs) r free = (stored_keeps q.ty q.home r free, all_stored_keep qs (behind_home q.home r) free)

  -- What is of a body has its statements' numbers: the place behind the last, 1:1, is that of parameters that are stored in the
  -- frame, where no access faults, and of the end that falls off the body.
  pub of_statements : (f : Function) → KeepsFunction p f → NumbersStms (length p.places) f.body → (r : ℕ) → KeepsCode (length p.places) (Takes funcs) false (low_stms p f.body r)
  of_statements f k n r = stms_keep p k.kinds (length p.places) (Takes funcs) calls_take f.result f.body false k.body n r

  no_loop : false ≡ true → ⊥
  no_loop h = cc

  function_good : (f : Function) → KeepsFunction p f → NumbersStms (length p.places) f.body → IsName f.name → IsGoodFunc places funcs (lowered_function p f)
  function_good f k n name = record {
    named = name;
    entry = omega arith;
    few = let e1 = params_long f.params f.slots in let e2 = k.few in omega (arith, e1, e2);
    params = params_below k.kinds f.frame f.params f.slots F.regs k.params (let e1 = k.many in let e2 = params_behind f.params f.slots in omega (arith, e1, e2, free)) free;
    distinct = params_distinct k.kinds f.frame f.params f.slots (let e1 = k.many in omega (arith, e1)) k.params k.apart;
    frame = k.small;
    aligned = k.rounded;
    blocks = blocks_good places F.regs total funcs (nowhere p) last first is (free_in p f) good (omega arith);
  }
    where
      F : TacFunc
      F = lowered_function p f

      is : List Item
      is = items_of p f

      total : ℕ
      total = length F.blocks

      first : Open
      first = record { label = 0; count = 0 }

      lp : Loop
      lp = record { on_break = 0; on_continue = 0 }

      free : free_in p f ≤ F.regs
      free = at_least is (free_in p f)

      last : nowhere p < places
      last = let e1 = many_places in omega (arith, e1)

      code : KeepsCode places (Takes funcs) false (body_of p f)
      code = (all_stored_keep f.params f.slots (free_in p f), stms_keep p k.kinds places (Takes funcs) calls_take f.result f.body false k.body (more_stms (length p.places) places (let e1 = many_places in omega (arith, e1)) f.body n) (free_in p f))

      ends : (goes (body_of p f) false first).label < total
      ends = let e1 = many_blocks (nowhere p) first is in let e2 = ap (λ o. o.label) (runs (body_of p f) lp onward first).by in omega (arith, e1, e2)

      good : Good places (Takes funcs) total first is
      good = good_items places (Takes funcs) total (body_of p f) false lp onward first code (λ e. absurd (no_loop e)) tt (omega arith) ends

  -- from its parts, there is a `main`
  has_main : (f : Function) → slice_get p.functions (typed.main_of p) ≡ Some f → f.params ≡ [] → Any IsMain funcs
  has_main f e none =
      let k = typed.main_of p in
      let F = lowered_function p f in
      let ef = map_get (lowered_function p) p.functions k f e in
      (k, F, slice_get_within funcs k F ef, get_or_from_slice_get funcs k F F ef, (main_named p.functions f e, ap (λ qs. params_in qs f.slots) none))

  main_of_parts : (o : Option Function) → slice_get p.functions (typed.main_of p) ≡ o → MatchOption o ⊥ (λ f. f.params ≡ []) → Any IsMain funcs
  main_of_parts None e h = absurd h
  main_of_parts (Some f) e h = has_main f e h

  names_differ : AllPairs (λ f g. f.name ≢ g.name) funcs
  names_differ i j d lt lj =
      let lj2 : j < length p.functions = let e1 = length-map p.functions (lowered_function p) in omega (arith, e1, lj) in
      let li2 : i < length p.functions = omega (arith, lt, lj2) in
      let nobody : Function = record { name = []; result = int; params = []; slots = 0; frame = 0; body = t.no_stm } in
      subst (λ f. f.name ≢ (slice_index_or funcs j d).name) (sym (get_or-map (lowered_function p) p.functions i nobody d li2))
      (subst (λ g. (slice_index_or p.functions i nobody).name ≢ g.name) (sym (get_or-map (lowered_function p) p.functions j nobody d lj2)) (numbers.differ i j nobody lt lj2))

  pub lowered_valid : IsValid (lowered p)
  lowered_valid = record {
    small = sound.image;
    each = All-map (IsGoodFunc places funcs) (lowered_function p) p.functions (λ k d lt. function_good (slice_index_or p.functions k d) (sound.functions k d lt) (numbers.statements k d lt) (name_kept (slice_index_or p.functions k d).name (numbers.named k d lt)));
    differ = names_differ;
    main = main_of_parts (slice_get p.functions (typed.main_of p)) refl sound.main;
  }
