-- Entry and return: what calls do, by what bodies do.
use Rattle.std.proofs.Common.{◌≡◌, ℕ, zero, suc, ◌+◌, ◌<◌, ◌≤◌, ◌%◌, ℤ, List, [], ◌∷◌, length, map, Bool, true, false, refl, sym, ap, ◌∙◌, subst, arith, Option, Some}
use Rattle.std.specs.Prelude.{slice_get, nat_le, nat_lt, ◌||◌, if◌then◌else◌}
use Rattle.std.proofs.lemmas.List.{append-nil}
use Rattle.ib_meaning.specs.declared.place.Place.{Place}
use Rattle.ib_meaning.specs.declared.fault.FaultKind.TheVariants.{StackOverflow}
use Rattle.ib_meaning.specs.Agreement.{Over, Faulted}
use Rattle.ib_meaning.specs.Machine as m
use Rattle.c_meaning.specs.Doing as e
use Rattle.c_meaning.specs.Doing.{Step, Doing, stop, spend_of, fault}
use Rattle.c_meaning.specs.Meaning.{execs, calls, enter, entered, left_to, body_exits, overflows}
use Rattle.c_typed.specs.Tree.{Function}
use Rattle.c_typed.specs.Program as typed
use Rattle.c_typed.specs.Values.{width_of}
use Rattle.tac_core.specs.declared.code.End.TheVariants.{Call}
use Rattle.tac_core.specs.declared.code.Block.{Block}
use Rattle.tac_core.specs.declared.code.TacFunc.{TacFunc}
use Rattle.tac_core.specs.Meaning as tac
use Rattle.tac_core.specs.Meaning.{State, In, Waiting, tac_step, reg_of, number_in, set_in, go, block_of, do_end, do_end_of, do_call, do_return, place_of}
use Rattle.tac_lowered.proofs.Relation.{Reaches, nearly, silent, Lies, Back, Suit, Called}

-- ---- a call's step

module _ (funcs : List TacFunc) (places : List Place) where
  -- the state that a call begins with
  abbrev pub callee : (f l : ℕ) (to : Option ℕ) (g next : ℕ) (vs regs : List ℤ) (waiting : List Waiting) (base : ℕ) (memory : List ℕ) → State
  callee f l to g next vs regs waiting base memory =
      tac.call funcs g (base + tac.frame_of (slice_get funcs f)) vs (record { func = f; label = l; base = base; regs = regs; dest = to; next = next } ∷ waiting) memory

  call_steps : (f l : ℕ) (b : Block) (to : Option ℕ) (g : ℕ) (args : List ℕ) (next : ℕ) (vs regs : List ℤ) (waiting : List Waiting) (base : ℕ) (memory left : List ℕ)
      → block_of (slice_get funcs f) l ≡ Some b → b.«end» ≡ Call to g args next → map (reg_of regs) args ≡ vs
      → tac_step funcs places (In (record { func = f; label = l; base = base; regs = regs; ops = [] }) waiting memory) left
      ≡ do_call (tac.overflows (length waiting) (base + tac.frame_of (slice_get funcs f)) (tac.frame_of (slice_get funcs g))) (callee f l to g next vs regs waiting base memory) (place_of places b.end_stmt) left
  call_steps f l b to g args next vs regs waiting base memory left eb ee ea =
      ap (λ b. do_end funcs places b (record { func = f; label = l; base = base; regs = regs; ops = [] }) waiting memory left) eb
      ∙ ap (λ e. do_end_of funcs e (place_of places b.end_stmt) f l base regs waiting memory left) ee
      ∙ ap (λ vs. do_call (tac.overflows (length waiting) (base + tac.frame_of (slice_get funcs f)) (tac.frame_of (slice_get funcs g))) (callee f l to g next vs regs waiting base memory) (place_of places b.end_stmt) left) ea

-- what a body does, in a frame that is entered: its results are handed back
pub record Bodies (p : typed.Program) (funcs : List TacFunc) (places : List Place) (n : ℕ) : Type 0 where
  pub by : (g : ℕ) (G : Function) → slice_get p.functions g ≡ Some G → (vs : List ℤ) → Suit G.params vs → (d : ℕ) → d < n → (k : ℤ → Step) (waiting : List Waiting) (t : e.State) → t.budget ≤ d
      → t.depth ≡ length waiting → t.top % 16 ≡ 0 → 4096 ≤ t.top → t.top + G.frame ≤ 1048576
      → ((v : ℤ) (u : e.State) (S : State) → u.budget ≤ d → Lies (width_of G.result) v → tac_step funcs places S u.left ≡ do_return funcs v waiting u.memory u.left → Reaches funcs places S u (k v u))
      → Reaches funcs places (tac.call funcs g t.top vs waiting t.memory) t (execs p (calls p n) n G.body (body_exits k) (entered G vs t))

nat_lt_le : (a b : ℕ) → nat_lt a b ≡ false → b ≤ a
nat_lt_le a b e = grind arith

-- calls that nest one deeper
module _ (p : typed.Program) (funcs : List TacFunc) (places : List Place) (frames : (g : ℕ) (G : Function) → slice_get p.functions g ≡ Some G → tac.frame_of (slice_get funcs g) ≡ G.frame) where
  pub called_more : (n : ℕ) → Bodies p funcs places n → (c : ℕ) → c < suc n → Called p funcs places c (calls p (suc n))
  called_more n bodies c small = record {
    by = λ f l b to g G eg args next vs regs waiting d dc k t q eb ee ea suit depth top rounded above back.
        by_budget f l b to g G eg args next vs regs waiting d dc k t q eb ee ea suit depth top rounded above back t.budget refl;
  }
    where
      by_budget : (f l : ℕ) (b : Block) (to : Option ℕ) (g : ℕ) (G : Function) → slice_get p.functions g ≡ Some G → (args : List ℕ) (next : ℕ) (vs regs : List ℤ) (waiting : List Waiting)
          → (d : ℕ) → d ≤ c → (k : ℤ → Step) (t : e.State) → t.budget ≤ d
          → block_of (slice_get funcs f) l ≡ Some b → b.«end» ≡ Call to g args next → map (reg_of regs) args ≡ vs → Suit G.params vs
          → t.depth ≡ suc (length waiting) → t.top ≡ t.base + tac.frame_of (slice_get funcs f) → t.top % 16 ≡ 0 → 4096 ≤ t.top
          → ((v : ℤ) (u : e.State) → u.budget ≤ d → Back t u → Lies (width_of G.result) v → Reaches funcs places (go funcs f next u.base (set_in regs to v) waiting u.memory) u (k v u))
          → (x : ℕ) → x ≡ t.budget
          → Reaches funcs places (In (record { func = f; label = l; base = t.base; regs = regs; ops = [] }) waiting t.memory) t (spend_of x (enter (λ g. execs p (calls p n) n g.body) (place_of places b.end_stmt) (slice_get p.functions g) vs k) t)
      by_budget f l b to g G eg args next vs regs waiting d dc k t q eb ee ea suit depth top rounded above back zero ex = record { by = λ bytes. (0, refl, λ h. omega (arith, ex)) }
      by_budget f l b to g G eg args next vs regs waiting d dc k t q eb ee ea suit depth top rounded above back (suc x) ex =
          subst (λ o. Reaches funcs places S t (enter (λ g. execs p (calls p n) n g.body) (place_of places b.end_stmt) o vs k t')) (sym eg) (goes (overflows G t') refl)
        where
          t' : e.State
          t' = record t { budget = x }

          W : Waiting
          W = record { func = f; label = l; base = t.base; regs = regs; dest = to; next = next }

          S : State
          S = In (record { func = f; label = l; base = t.base; regs = regs; ops = [] }) waiting t.memory

          same : tac.overflows (length waiting) (t.base + tac.frame_of (slice_get funcs f)) (tac.frame_of (slice_get funcs g)) ≡ overflows G t'
          same = ap (λ z. nat_le 4096 z || nat_lt 1048576 (t.base + tac.frame_of (slice_get funcs f) + tac.frame_of (slice_get funcs g))) (sym depth)
              ∙ ap (λ z. nat_le 4096 t.depth || nat_lt 1048576 (z + tac.frame_of (slice_get funcs g))) (sym top) ∙ ap (λ z. nat_le 4096 t.depth || nat_lt 1048576 (t.top + z)) (frames g G eg)

          steps : (over : Bool) → overflows G t' ≡ over → tac_step funcs places S t.left ≡ do_call over (tac.call funcs g t.top vs (W ∷ waiting) t.memory) (place_of places b.end_stmt) t.left
          steps over eo =
              call_steps funcs places f l b to g args next vs regs waiting t.base t.memory t.left eb ee ea
              ∙ ap (λ z. do_call z (callee funcs places f l to g next vs regs waiting t.base t.memory) (place_of places b.end_stmt) t.left) (same ∙ eo)
              ∙ ap (λ z. do_call over (tac.call funcs g z vs (W ∷ waiting) t.memory) (place_of places b.end_stmt) t.left) (sym top)

          fits_in : overflows G t' ≡ false → t.top + G.frame ≤ 1048576
          fits_in eo = nat_lt_le 1048576 (t.top + G.frame) (second (nat_le 4096 t.depth) (nat_lt 1048576 (t.top + G.frame)) eo)
            where
              second : (a b : Bool) → (a || b) ≡ false → b ≡ false
              second true b h = let z : true ≡ false = h in absurd (apart z)
                where
                  apart : true ≡ false → ⊥
                  apart h = cc
              second false b h = h

          goes : (over : Bool) → overflows G t' ≡ over → Reaches funcs places S t (if over then fault (place_of places b.end_stmt) StackOverflow t' else execs p (calls p n) n G.body (body_exits (λ v r. k v (left_to t' r))) (entered G vs t'))
          goes true eo = record { by = λ bytes. (1, ap (λ z. m.continue (m.run (tac_step funcs places) 0) z t.out) (steps true eo) ∙ ap (λ out. Over (Faulted (place_of places b.end_stmt) StackOverflow) out t.left) (append-nil t.out), λ h. absurd h) }
          goes false eo =
              let near = bodies.by g G eg vs suit x (omega (arith, ex, q)) (λ v r. k v (left_to t' r)) (W ∷ waiting) t' (omega arith) depth rounded above (fits_in eo)
              (λ v u S' qu lies step.
              let u' : e.State = left_to t' u in
              let qu' : u'.budget ≤ d = omega (arith, qu, ex, q) in
              let a = back v u' qu' (record { slots = refl; depth = refl; base = refl; top = refl }) lies in
              let r = silent funcs places S' (tac.go funcs f next t.base (set_in regs to v) waiting u.memory) u (k v u') step (nearly funcs places _ u (k v u') (record { by = a.by })) in
              r) in
              let r = silent funcs places S (tac.call funcs g t.top vs (W ∷ waiting) t.memory) t _ (steps false eo) (record { by = λ bytes. let j = near.by bytes in (j.0, j.1, λ h. omega (arith, j.2 h, ex)) }) in
              r
