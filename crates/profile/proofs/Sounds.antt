-- A run of a valid program stays in blocks that are there.
use Rattle.std.proofs.Common.{◌≡◌, ℕ, suc, ◌+◌, ◌<◌, ◌≤◌, ℤ, List, [], ◌∷◌, Option, Some, length, refl, sym, ap, ap₂, ◌∙◌, subst, pos, lit<, arith}
use Rattle.std.specs.Prelude.{slice_get, replicate, IsSomeAnd, false}
use Rattle.std.proofs.lemmas.List.{length-replicate}
use Rattle.std.proofs.lemmas.Bool.Decides.{nat_tests}
use Rattle.std.specs.List.{All}
use Rattle.tac_core.proofs.Lists.{All-get}
use Rattle.std.proofs.lemmas.List.Elements.{All-head, All-tail}
use Rattle.tac_core.specs.declared.code.TacOp.{TacOp}
use Rattle.tac_core.specs.declared.code.Block.{Block}
use Rattle.tac_core.specs.declared.code.TacFunc.{TacFunc}
use Rattle.tac_core.specs.Program.{Program, main_of}
use Rattle.tac_core.specs.Meaning.{Here, Waiting, In, overflows, set_all, first_regs, first_frame, first_memory, frame_of, go, call}
use Rattle.tac_core.specs.Rules.{IsRegister, IsGoodAct, IsGoodOp, IsGoodBlock, IsGoodFunc, IsValid}
use Rattle.profile.specs.Sound.{IsCall, IsHere, IsBlock, AllWait, Running, IsSound}
use Rattle.ib_mem.specs.Memory.{zeros, filled, cleared}
use Rattle.profile.specs.Counting.{start_of}
use Rattle.profile.specs.Moves.{waits}

same_some : {X : Type 0} (x y : X) (o : Option X) → o ≡ Some x → o ≡ Some y → x ≡ y
same_some x y o e f = cc

-- a call at the start of a block
pub here_sound : (p : Program) (func label base : ℕ) (regs : List ℤ) (f : TacFunc) (b : Block) → IsCall p func base regs → slice_get p.funcs func ≡ Some f → slice_get f.blocks label ≡ Some b → IsHere p (record { func = func; label = label; base = base; regs = regs; ops = b.ops })
here_sound p func label base regs f b call is at =
    let same : f ≡ call.f = same_some f call.f (slice_get p.funcs func) is call.there in
    let there : slice_get call.f.blocks label ≡ Some b = subst (λ g. slice_get g.blocks label ≡ Some b) same at in
    record {
      call = call;
      block = b;
      there = there;
      ops = (All-get (IsGoodBlock call.f.regs (length call.f.blocks) (length p.places) p.funcs) call.f.blocks label b call.good.blocks there).ops;
    }

-- ---- steps

abbrev pub at_block : Running → (label : ℕ) → Block → Running
at_block r label b = record {
  program = r.program;
  here = record { func = r.here.func; label = label; base = r.here.base; regs = r.here.regs; ops = b.ops };
  waiting = r.waiting;
  memory = r.memory;
}

pub jump_sound : (r new : Running) (label : ℕ) (f : TacFunc) (b : Block) → IsSound r → slice_get r.program.funcs r.here.func ≡ Some f → slice_get f.blocks label ≡ Some b → new ≡ at_block r label b → IsSound new
jump_sound r new label f b sound is at made =
    subst IsSound (sym made) (record {
      valid = sound.valid;
      here = here_sound r.program r.here.func label r.here.base r.here.regs f b sound.here.call is at;
      waiting = sound.waiting;
      deep = sound.deep;
    })

fits_so : (calls base frame : ℕ) → overflows calls base frame ≡ false → base + frame ≤ 1048576
fits_so calls base frame is = grind (arith, nat_tests)

shallow_so : (calls base frame : ℕ) → overflows calls base frame ≡ false → suc calls < 4096
shallow_so calls base frame is = grind (arith, nat_tests)

-- a function that may be called, with its first registers
pub callee_sound : (p : Program) (callee calls top : ℕ) (regs : List ℤ) (f : TacFunc) → IsValid p → slice_get p.funcs callee ≡ Some f → length regs ≡ f.regs → overflows calls top f.frame ≡ false → IsCall p callee top regs
callee_sound p callee calls top regs f valid is many fits = record {
  f = f;
  there = is;
  good = All-get (IsGoodFunc (length p.places) p.funcs) p.funcs callee f valid.each is;
  regs_are = many;
  fits = fits_so calls top f.frame fits;
}

-- a function has its entry
pub entry_there : (p : Program) (callee : ℕ) (f : TacFunc) → IsValid p → slice_get p.funcs callee ≡ Some f → IsBlock p callee 0
entry_there p callee f valid is =
    subst (λ o. IsSomeAnd o (λ g. 0 < length g.blocks)) (sym is) (All-get (IsGoodFunc (length p.places) p.funcs) p.funcs callee f valid.each is).entry

pub called_sound : (r new : Running) (here : Here) (dest : Option ℕ) (next top frame : ℕ) → IsSound r → IsHere r.program here → overflows (length r.waiting) top frame ≡ false → IsRegister (length r.here.regs) dest → IsBlock r.program r.here.func next → new.program ≡ r.program → new.here ≡ here → new.waiting ≡ waits r dest next ∷ r.waiting → IsSound new
called_sound r new here dest next top frame sound inner fits register block same_program same_here grown = record {
  valid = subst IsValid (sym same_program) sound.valid;
  here = subst (λ p. IsHere p new.here) (sym same_program) (subst (IsHere r.program) (sym same_here) inner);
  waiting = subst (λ p. AllWait p new.waiting) (sym same_program) (subst (AllWait r.program) (sym grown) (record { call = sound.here.call; dest = register; next = block }, sound.waiting));
  deep = subst (λ (w : List Waiting). length w < 4096) (sym grown) (shallow_so (length r.waiting) top frame fits);
}

rest_good : (P : TacOp → Type 0) (op : TacOp) (rest ops : List TacOp) → ops ≡ op ∷ rest → All P ops → All P rest
rest_good P op rest ops is all = All-tail P op rest (subst (All P) is all)

-- the first operation that is left is good
pub first_good : (r : Running) (op : TacOp) (rest : List TacOp) → IsSound r → r.here.ops ≡ op ∷ rest → IsGoodAct (length r.here.regs) op.act
first_good r op rest sound is =
    let h = sound.here in
    subst (λ n. IsGoodAct n op.act) (sym h.call.regs_are)
    (All-head (IsGoodOp h.call.f.regs (length r.program.places)) op rest (subst (All (IsGoodOp h.call.f.regs (length r.program.places))) is h.ops)).act

abbrev pub behind_op : Running → (regs : List ℤ) → (rest : List TacOp) → (memory : List ℕ) → Running
behind_op r regs rest memory = record {
  program = r.program;
  here = record { func = r.here.func; label = r.here.label; base = r.here.base; regs = regs; ops = rest };
  waiting = r.waiting;
  memory = memory;
}

pub operated_sound : (r new : Running) (op : TacOp) (rest : List TacOp) (regs : List ℤ) (memory : List ℕ) → IsSound r → r.here.ops ≡ op ∷ rest → length regs ≡ length r.here.regs → new ≡ behind_op r regs rest memory → IsSound new
operated_sound r new op rest regs memory sound is many made =
    let h = sound.here in
    subst IsSound (sym made) (record {
      valid = sound.valid;
      here = record {
        call = record { f = h.call.f; there = h.call.there; good = h.call.good; regs_are = many ∙ h.call.regs_are; fits = h.call.fits };
        block = h.block;
        there = h.there;
        ops = rest_good (IsGoodOp h.call.f.regs (length r.program.places)) op rest r.here.ops is h.ops;
      };
      waiting = sound.waiting;
      deep = sound.deep;
    })

-- ---- the start

pub image_small : (p : Program) → IsValid p → length p.image ≤ 524288
image_small p valid = valid.small

func_good : (p : Program) (main : ℕ) (f : TacFunc) → IsValid p → slice_get p.funcs main ≡ Some f → IsGoodFunc (length p.places) p.funcs f
func_good p main f valid is = All-get (IsGoodFunc (length p.places) p.funcs) p.funcs main f valid.each is

pub start_fits : (p : Program) (main base : ℕ) (f : TacFunc) → IsValid p → slice_get p.funcs main ≡ Some f → base ≤ 528384 → base + f.frame ≤ 1048576
start_fits p main base f valid is low = let frame = (func_good p main f valid is).frame in omega arith

pub start_call : (p : Program) (main base : ℕ) (f : TacFunc) (regs : List ℤ) → IsValid p → slice_get p.funcs main ≡ Some f → base ≤ 528384 → regs ≡ replicate f.regs (pos 0) → IsCall p main base regs
start_call p main base f regs valid is low made = record {
  f = f;
  there = is;
  good = func_good p main f valid is;
  regs_are = ap length made ∙ length-replicate f.regs (pos 0);
  fits = start_fits p main base f valid is low;
}

none_set : (regs : List ℤ) (params : List ℕ) → regs ≡ set_all regs params []
none_set regs [] = refl
none_set regs (p ∷ ps) = refl

pub start_state : (p : Program) (main base : ℕ) (f : TacFunc) (regs : List ℤ) (here : Here) (waiting : List Waiting) (filled' memory : List ℕ) → waiting ≡ [] → slice_get p.funcs main ≡ Some f → main ≡ main_of p → base ≡ first_frame (length p.image) → regs ≡ replicate f.regs (pos 0) → filled' ≡ filled (zeros 1048576) 4096 p.image → memory ≡ cleared filled' base f.frame → ((waiting : List Waiting) (m : List ℕ) → In here waiting m ≡ go p.funcs main 0 base regs waiting m) → In here waiting memory ≡ start_of p
unfolding first_memory
start_state p main base f regs here waiting filled' memory none is main_is base_is regs_are filled_is cleared_is state =
    ap (λ w. In here w memory) none ∙ state [] memory
    ∙ ap (λ r. go p.funcs main 0 base r [] memory) (regs_are ∙ none_set (replicate f.regs (pos 0)) f.params)
    ∙ ap (λ m. go p.funcs main 0 base (first_regs (Some f) []) [] m) (cleared_is ∙ ap (λ m. cleared m base f.frame) filled_is)
    ∙ ap (λ (o : Option TacFunc). go p.funcs main 0 base (first_regs o []) [] (cleared (first_memory p.image) base (frame_of o))) (sym is)
    ∙ ap₂ (λ n b. call p.funcs n b [] [] (first_memory p.image)) main_is base_is

pub start_sound : (p : Program) (new : Running) (here : Here) → IsValid p → IsHere p here → new.program ≡ p → new.here ≡ here → new.waiting ≡ [] → IsSound new
start_sound p new here valid inner program_is here_is none = record {
  valid = subst IsValid (sym program_is) valid;
  here = subst (λ q. IsHere q new.here) (sym program_is) (subst (IsHere p) (sym here_is) inner);
  waiting = subst (λ q. AllWait q new.waiting) (sym program_is) (subst (AllWait p) (sym none) tt);
  deep = subst (λ (w : List Waiting). length w < 4096) (sym none) (lit< tt);
}
