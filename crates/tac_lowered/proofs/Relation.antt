-- The relation of states, and the steps that lemmas are made of.
use Rattle.std.proofs.Common.{◌≡◌, ℕ, zero, suc, ◌+◌, ◌<◌, ◌≤◌, ◌%◌, ℤ, pos, negsuc, List, [], ◌∷◌, ◌++◌, length, Bool, true, false, refl, sym, ap, ◌∙◌, subst, arith, Option, Some, map}
use Rattle.std.specs.Prelude.{slice_get, slice_index_or, if◌then◌else◌}
use Rattle.std.proofs.lemmas.List.{append-nil}
use Rattle.ib_base.specs.declared.integers.Width.{Width}
use Rattle.ib_base.specs.Integers.{wrapped}
use Rattle.ib_meaning.specs.declared.place.Place.{Place}
use Rattle.ib_meaning.specs.declared.fault.FaultKind.{FaultKind}
use Rattle.ib_meaning.specs.Agreement.{Report, More, Over, Faulted}
use Rattle.ib_meaning.specs.Machine as m
use Rattle.ib_act.specs.declared.act.Act.{Act}
use Rattle.c_meaning.specs.Doing as e
use Rattle.c_meaning.specs.Doing.{Step, Doing, stop, spend, spend_of}
use Rattle.c_typed.specs.declared.types.ValueType.{ValueType}
use Rattle.c_typed.specs.declared.types.ValueType.TheVariants as v
use Rattle.c_typed.specs.declared.program.Param.{Param}
use Rattle.c_typed.specs.Tree.{Function}
use Rattle.c_typed.specs.Program as typed
use Rattle.c_typed.specs.Values.{is_true, width_of}
use Rattle.tac_core.specs.declared.code.End.{End}
use Rattle.tac_core.specs.declared.code.End.TheVariants.{Jump, Branch, Call}
use Rattle.tac_core.specs.declared.code.Block.{Block}
use Rattle.tac_core.specs.declared.code.TacFunc.{TacFunc}
use Rattle.tac_core.specs.Meaning as tac
use Rattle.tac_core.specs.Meaning.{State, In, Waiting, Does, Fails, tac_step, effect_of, reg_of, number_in, set_in, go, enter, block_of, target_of, do_end, after_act, place_of}
use Rattle.tac_lowered.specs.Bytes.{AreBytes}
use Rattle.tac_lowered.specs.Code.{Code, Test}
use Rattle.tac_lowered.specs.Items.{Item, Do, Close, ops_of, Open, fresh, fresh_if, is_full, counted, after, goes, goes_test, Next, onward, jump, closes, put, Loop, items, test_items}
use Rattle.tac_lowered.specs.Lowered.{registers}
use Rattle.tac_lowered.proofs.Geometry.{Runs, runs, runs_test, Stands, do_stands, close_stands, behind, with_before, found, found_empty, do_least, close_least, fewer_behind, at_least}

abbrev pub IsMore : Report → Type 0
IsMore (More out left) = Unit {0}
IsMore (Over finish out left) = ⊥

module _ (funcs : List TacFunc) (places : List Place) where
  -- From here, where what is left of the input is bytes, the code comes to this report, and where it is no end, in no fewer steps
  -- than there is budget.
  pub record Reaches (S : State) (t : e.State) (o : Report) : Type 0 where
    pub by : AreBytes t.left → (j : ℕ) × (m.run (tac_step funcs places) j S t.left t.out ≡ o) × (IsMore o → t.budget ≤ j)

  -- the same behind a step that spends a unit
  pub record Nearly (S : State) (t : e.State) (o : Report) : Type 0 where
    pub by : AreBytes t.left → (j : ℕ) × (m.run (tac_step funcs places) j S t.left t.out ≡ o) × (IsMore o → t.budget ≤ j + 1)

  pub nearly : (S : State) (t : e.State) (o : Report) → Reaches S t o → Nearly S t o
  nearly S t o r = record { by = λ bytes. let a = r.by bytes in (a.0, a.1, λ h. omega (arith, a.2 h)) }

  -- a step that prints
  pub steps : (S S' : State) (t t' : e.State) (printed : List ℕ) (o : Report) → tac_step funcs places S t.left ≡ m.Goes S' t'.left printed → t'.out ≡ t.out ++ printed → t'.budget ≡ t.budget → (AreBytes t.left → AreBytes t'.left) → Nearly S' t' o → Reaches S t o
  steps S S' t t' printed o eq out same still r = record {
    by = λ bytes.
        let a = r.by (still bytes) in (
          suc a.0,
          ap (λ x. m.continue (m.run (tac_step funcs places) a.0) x t.out) eq ∙ ap (λ out. m.run (tac_step funcs places) a.0 S' t'.left out) (sym out) ∙ a.1,
          λ h. omega (arith, a.2 h, same),
        );
  }

  pub silent : (S S' : State) (t : e.State) (o : Report) → tac_step funcs places S t.left ≡ m.Goes S' t.left [] → Nearly S' t o → Reaches S t o
  silent S S' t o eq r = steps S S' t t [] o eq (sym (append-nil t.out)) refl (λ bytes. bytes) r

  -- a turn's unit is paid by the step before
  pub spend_near : (S : State) (t : e.State) (k : Step) → ((b : ℕ) → suc b ≡ t.budget → Reaches S (record t { budget = b }) (k (record t { budget = b }))) → Nearly S t (spend k t)
  spend_near S t k next = go t.budget refl
    where
      go : (b : ℕ) → b ≡ t.budget → Nearly S t (spend_of b k t)
      go zero h = record { by = λ bytes. (0, refl, λ x. omega arith) }
      go (suc b) h = let r = next b h in record { by = λ bytes. let a = r.by bytes in (a.0, a.1, λ x. omega (arith, a.2 x)) }

abbrev pub Lies : Width → ℤ → Type 0
Lies w z = wrapped w z ≡ z

-- back in the caller's frame
pub record Back (t u : e.State) : Type 0 where
  pub slots : u.slots ≡ t.slots
  pub depth : u.depth ≡ t.depth
  pub base : u.base ≡ t.base
  pub top : u.top ≡ t.top

-- as many values as parameters, each of its parameter's type
abbrev pub Suit : List Param → List ℤ → Type 0
Suit [] [] = Unit {0}
Suit (q ∷ qs) (v ∷ vs) = Lies (width_of q.ty) v × Suit qs vs
Suit qs vs = ⊥

-- what calls do with at most so much budget, from each block that ends with one
pub record Called (p : typed.Program) (funcs : List TacFunc) (places : List Place) (c : ℕ) (call : Place → ℕ → List ℤ → Doing ℤ) : Type 0 where
  pub by : (f l : ℕ) (b : Block) (to : Option ℕ) (g : ℕ) (G : Function) → slice_get p.functions g ≡ Some G → (args : List ℕ) (next : ℕ) (vs regs : List ℤ) (waiting : List Waiting)
      → (d : ℕ) → d ≤ c → (k : ℤ → Step) (t : e.State) → t.budget ≤ d
      → block_of (slice_get funcs f) l ≡ Some b → b.«end» ≡ Call to g args next → map (reg_of regs) args ≡ vs → Suit G.params vs
      → t.depth ≡ suc (length waiting) → t.top ≡ t.base + tac.frame_of (slice_get funcs f) → t.top % 16 ≡ 0 → 4096 ≤ t.top
      → ((v : ℤ) (u : e.State) → u.budget ≤ d → Back t u → Lies (width_of G.result) v → Reaches funcs places (go funcs f next u.base (set_in regs to v) waiting u.memory) u (k v u))
      → Reaches funcs places (In (record { func = f; label = l; base = t.base; regs = regs; ops = [] }) waiting t.memory) t (call (place_of places b.end_stmt) g vs k t)

-- The function that runs, in a program: its number, its variables' types, the calls that wait, and the calls of the meaning.
pub record Spot : Type 0 where
  pub funcs : List TacFunc
  pub places : List Place
  pub f : ℕ
  pub F : TacFunc
  pub there : slice_get funcs f ≡ Some F
  -- what is of no statement, and how the code ends
  pub n : ℕ
  pub last : End
  pub kinds : List ValueType
  -- registers from here on are for parameters and numbers on the way
  pub free : ℕ
  pub enough : length kinds ≤ free
  pub waiting : List Waiting
  pub p : typed.Program
  pub call : Place → ℕ → List ℤ → Doing ℤ
  -- more than any budget, and the greatest budget for which calls are known
  pub m : ℕ
  pub c : ℕ
  pub small : c < m
  pub known : Called p funcs places c call
  -- what the function gives
  pub result : ValueType
  pub rounded : F.frame % 16 ≡ 0
  pub stands : (s : ℕ) → typed.place_of p s ≡ place_of places s

module _ (C : Spot) where
  abbrev pub many : ℕ
  many = length C.kinds

  abbrev pub slot_of : e.State → ℕ → ℤ
  slot_of t k = slice_index_or t.slots k (pos 0)

  abbrev pub kind_of : ℕ → ValueType
  kind_of k = slice_index_or C.kinds k v.Null

  pub record Match (regs : List ℤ) (t : e.State) : Type 0 where
    pub slots : length t.slots ≡ many
    pub room : length regs ≡ C.F.regs
    pub same : (k : ℕ) → k < many → reg_of regs k ≡ slot_of t k
    pub lies : (k : ℕ) → k < many → Lies (width_of (kind_of k)) (slot_of t k)
    pub top : t.top ≡ t.base + C.F.frame
    pub aligned : t.base % 16 ≡ 0
    pub above : 4096 ≤ t.base
    pub depth : t.depth ≡ suc (length C.waiting)

  -- registers that are no slots and below r are as they were
  pub record Kept (r : ℕ) (regs regs' : List ℤ) : Type 0 where
    pub by : (q : ℕ) → many ≤ q → q < r → reg_of regs' q ≡ reg_of regs q

  -- in a block, before these items
  abbrev pub place : Open → List Item → List ℤ → e.State → State
  place o is regs t = In (record { func = C.f; label = o.label; base = t.base; regs = regs; ops = ops_of is }) C.waiting t.memory

  -- at the start of a block
  abbrev pub start : (l : ℕ) → List ℤ → e.State → State
  start l regs t = go C.funcs C.f l t.base regs C.waiting t.memory

  abbrev pub Follows : Open → List Item → List ℤ → e.State → Report → Type 0
  Follows o is regs t r = Reaches C.funcs C.places (place o is regs t) t r

  abbrev pub Begins : (l : ℕ) → List ℤ → e.State → Report → Type 0
  Begins l regs t r = Reaches C.funcs C.places (start l regs t) t r

  abbrev pub Nears : (l : ℕ) → List ℤ → e.State → Report → Type 0
  Nears l regs t r = Nearly C.funcs C.places (start l regs t) t r

  -- behind code, in the open block or at its label
  abbrev pub Behind : Next → Open → List Item → List ℤ → e.State → Report → Type 0
  Behind onward o rest regs t r = Follows o rest regs t r
  Behind (jump s l) o rest regs t r = Begins l regs t r

  -- these items are what is left from there on
  pub record Has (o : Open) (is : List Item) : Type 0 where
    pub stands : Stands C.n C.last C.F.blocks o is
    pub room : registers is C.free ≤ C.F.regs

  pub behind_has : (a : List Item) (o p : Open) (rest : List Item) → Runs a o p → Has o (a ++ rest) → Has p rest
  behind_has a o p rest g h = record {
    stands = behind C.n C.last C.F.blocks a o p rest g h.stands;
    room = let e1 = fewer_behind a rest C.free in let e2 = h.room in omega (arith, e1, e2);
  }

  pub do_has : (o : Open) (s : ℕ) (act : Act) (is : List Item) → Has o (Do s act ∷ is) → Has (counted o) is
  do_has o s act is h = record {
    stands = do_stands C.n C.last C.F.blocks o s act is h.stands;
    room = let e1 = do_least s act is C.free in let e2 = h.room in omega (arith, e1, e2);
  }

  pub close_has : (o : Open) (s : ℕ) (e : End) (is : List Item) → Has o (Close s e ∷ is) → Has (fresh o) is
  close_has o s e is h = record {
    stands = close_stands C.n C.last C.F.blocks o s e is h.stands;
    room = let e1 = close_least s e is C.free in let e2 = h.room in omega (arith, e1, e2);
  }

  pub code_has : (a : Code) (x : Loop) (n : Next) (o : Open) (rest : List Item) → Has o (items a x n o ++ rest) → Has (goes a (closes n) o) rest
  code_has a x n o rest h = behind_has (items a x n o) o (goes a (closes n) o) rest (runs a x n o) h

  pub test_has : (t : Test) (there other : ℕ) (o : Open) (rest : List Item) → Has o (test_items t there other o ++ rest) → Has (goes_test t o) rest
  test_has t there other o rest h = behind_has (test_items t there other o) o (goes_test t o) rest (runs_test t there other o) h

  pub free_room : (o : Open) (is : List Item) → Has o is → C.free ≤ C.F.regs
  free_room o is h = let a = at_least is C.free in let b = h.room in omega (arith, a, b)

  -- ---- steps

  at_block : (l : ℕ) (b : Block) → slice_get C.F.blocks l ≡ Some b → block_of (slice_get C.funcs C.f) l ≡ Some b
  at_block l b h = ap (λ g. block_of g l) C.there ∙ h

  pub begun : (o : Open) (is : List Item) (regs : List ℤ) (t : e.State) → o.count ≡ 0 → Has o is → start o.label regs t ≡ place o is regs t
  begun o is regs t none h = ap (λ b. enter b C.f o.label t.base regs C.waiting t.memory) (at_block o.label _ (found_empty C.n C.last C.F.blocks o is none h.stands))

  pub enters : (o : Open) (is : List Item) (regs : List ℤ) (t : e.State) (r : Report) → o.count ≡ 0 → Has o is → Follows o is regs t r → Begins o.label regs t r
  enters o is regs t r none h a = subst (λ S. Reaches C.funcs C.places S t r) (sym (begun o is regs t none h)) a

  pub ended : (o : Open) (s : ℕ) (x : End) (is : List Item) (regs : List ℤ) (t : e.State) → (h : Has o (Close s x ∷ is))
      → tac_step C.funcs C.places (place o (Close s x ∷ is) regs t) t.left ≡ do_end C.funcs C.places (Some (with_before C.n C.last h.stands.before (Close s x ∷ is))) (record { func = C.f; label = o.label; base = t.base; regs = regs; ops = [] }) C.waiting t.memory t.left
  ended o s x is regs t h = ap (λ b. do_end C.funcs C.places b (record { func = C.f; label = o.label; base = t.base; regs = regs; ops = [] }) C.waiting t.memory t.left) (at_block o.label _ (found C.n C.last C.F.blocks o (Close s x ∷ is) h.stands))

  -- the end of the last block
  pub ended_last : (o : Open) (regs : List ℤ) (t : e.State) → (h : Has o [])
      → tac_step C.funcs C.places (place o [] regs t) t.left ≡ do_end C.funcs C.places (Some (with_before C.n C.last h.stands.before [])) (record { func = C.f; label = o.label; base = t.base; regs = regs; ops = [] }) C.waiting t.memory t.left
  ended_last o regs t h = ap (λ b. do_end C.funcs C.places b (record { func = C.f; label = o.label; base = t.base; regs = regs; ops = [] }) C.waiting t.memory t.left) (at_block o.label _ (found C.n C.last C.F.blocks o [] h.stands))

  pub jumps : (o : Open) (s to : ℕ) (is : List Item) (regs : List ℤ) (t : e.State) (r : Report) → Has o (Close s (Jump to) ∷ is) → Nears to regs t r → Follows o (Close s (Jump to) ∷ is) regs t r
  jumps o s to is regs t r h a = silent C.funcs C.places (place o (Close s (Jump to) ∷ is) regs t) (start to regs t) t r (ended o s (Jump to) is regs t h) a

  pub branch_steps : (o : Open) (s r there other : ℕ) (is : List Item) (v : ℤ) (yes' no' : Step) (regs : List ℤ) (t : e.State) → Has o (Close s (Branch r there other) ∷ is) → reg_of regs r ≡ v
      → Nears there regs t (yes' t) → Nears other regs t (no' t) → Follows o (Close s (Branch r there other) ∷ is) regs t ((if is_true v then yes' else no') t)
  branch_steps o s r there other is v yes' no' regs t h same a b = go v same
    where
      to : (v : ℤ) → reg_of regs r ≡ v → tac_step C.funcs C.places (place o (Close s (Branch r there other) ∷ is) regs t) t.left ≡ m.Goes (start (target_of v there other) regs t) t.left []
      to v same = ended o s (Branch r there other) is regs t h ∙ ap (λ x. m.Goes (start (target_of x there other) regs t) t.left []) same

      go : (v : ℤ) → reg_of regs r ≡ v → Follows o (Close s (Branch r there other) ∷ is) regs t ((if is_true v then yes' else no') t)
      go (pos zero) same = silent C.funcs C.places _ (start other regs t) t _ (to (pos zero) same) b
      go (pos (suc x)) same = silent C.funcs C.places _ (start there regs t) t _ (to (pos (suc x)) same) a
      go (negsuc x) same = silent C.funcs C.places _ (start there regs t) t _ (to (negsuc x) same) a

  -- an operation that does not fault
  acts : (o : Open) (s : ℕ) (act : Act) (is : List Item) (regs regs' : List ℤ) (t t' : e.State) (printed : List ℕ) (r : Report) → effect_of act t.base regs t.memory t.left ≡ Does regs' t'.memory t'.left printed
      → t'.base ≡ t.base → t'.out ≡ t.out ++ printed → t'.budget ≡ t.budget → (AreBytes t.left → AreBytes t'.left) → Follows (counted o) is regs' t' r → Follows o (Do s act ∷ is) regs t r
  acts o s act is regs regs' t t' printed r eq base out same still a =
      steps C.funcs C.places (place o (Do s act ∷ is) regs t) (place o is regs' t') t t' printed r
      (ap (λ x. after_act x (place_of C.places s) (record { func = C.f; label = o.label; base = t.base; regs = regs; ops = ops_of (Do s act ∷ is) }) (ops_of is) C.waiting t.left) eq
      ∙ ap (λ b. m.Goes (In (record { func = C.f; label = o.label; base = b; regs = regs'; ops = ops_of is }) C.waiting t'.memory) t'.left printed) (sym base)) out same still (nearly C.funcs C.places _ t' r a)

  -- put on the open block, or on a new one
  abbrev put_of : Bool → (s : ℕ) → Act → Open → List Item
  put_of b s act o = if b then Close s (Jump (suc o.label)) ∷ Do s act ∷ [] else Do s act ∷ []

  pub puts : (s : ℕ) (act : Act) (o : Open) (rest : List Item) (regs regs' : List ℤ) (t t' : e.State) (printed : List ℕ) (x : Report) → Has o (put s act o ++ rest)
      → effect_of act t.base regs t.memory t.left ≡ Does regs' t'.memory t'.left printed → t'.base ≡ t.base → t'.out ≡ t.out ++ printed → t'.budget ≡ t.budget → (AreBytes t.left → AreBytes t'.left)
      → Follows (after o) rest regs' t' x → Follows o (put s act o ++ rest) regs t x
  puts s act o rest regs regs' t t' printed x h eq base out same still a = go (is_full o) h a
    where
      go : (b : Bool) → Has o (put_of b s act o ++ rest) → Follows (counted (fresh_if b o)) rest regs' t' x → Follows o (put_of b s act o ++ rest) regs t x
      go true h a =
          let h1 = close_has o s (Jump (suc o.label)) (Do s act ∷ rest) h in
          jumps o s (suc o.label) (Do s act ∷ rest) regs t x h
          (nearly C.funcs C.places _ t x (enters (fresh o) (Do s act ∷ rest) regs t x refl h1 (acts (fresh o) s act rest regs regs' t t' printed x eq base out same still a)))
      go false h a = acts o s act rest regs regs' t t' printed x eq base out same still a

  fails : (o : Open) (s : ℕ) (act : Act) (is : List Item) (regs : List ℤ) (t : e.State) (kind : FaultKind) → effect_of act t.base regs t.memory t.left ≡ Fails kind → Follows o (Do s act ∷ is) regs t (e.fault (typed.place_of C.p s) kind t)
  fails o s act is regs t kind eq = record {
    by = λ bytes. (
      1,
      ap (λ x. m.continue (m.run (tac_step C.funcs C.places) 0) (after_act x (place_of C.places s) (record { func = C.f; label = o.label; base = t.base; regs = regs; ops = ops_of (Do s act ∷ is) }) (ops_of is) C.waiting t.left) t.out) eq
          ∙ ap (λ out. Over (Faulted (place_of C.places s) kind) out t.left) (append-nil t.out) ∙ ap (λ x. Over (Faulted x kind) t.out t.left) (sym (C.stands s)),
      λ h. absurd h,
    );
  }

  pub faults_at : (s : ℕ) (act : Act) (o : Open) (rest : List Item) (regs : List ℤ) (t : e.State) (kind : FaultKind) → Has o (put s act o ++ rest)
      → effect_of act t.base regs t.memory t.left ≡ Fails kind → Follows o (put s act o ++ rest) regs t (e.fault (typed.place_of C.p s) kind t)
  faults_at s act o rest regs t kind h eq = go (is_full o) h
    where
      go : (b : Bool) → Has o (put_of b s act o ++ rest) → Follows o (put_of b s act o ++ rest) regs t (e.fault (typed.place_of C.p s) kind t)
      go true h =
          let h1 = close_has o s (Jump (suc o.label)) (Do s act ∷ rest) h in
          jumps o s (suc o.label) (Do s act ∷ rest) regs t _ h
          (nearly C.funcs C.places _ t _ (enters (fresh o) (Do s act ∷ rest) regs t _ refl h1 (fails (fresh o) s act rest regs t kind eq)))
      go false h = fails o s act rest regs t kind eq

  -- the registers that an operation names
  pub put_has : (s : ℕ) (act : Act) (o : Open) (rest : List Item) → Has o (put s act o ++ rest) → (p : Open) × Has p (Do s act ∷ rest)
  put_has s act o rest h = go (is_full o) h
    where
      go : (b : Bool) → Has o (put_of b s act o ++ rest) → (p : Open) × Has p (Do s act ∷ rest)
      go true h = (fresh o, close_has o s (Jump (suc o.label)) (Do s act ∷ rest) h)
      go false h = (o, h)
