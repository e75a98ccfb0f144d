-- A copy means what its origin means.
use Rattle.std.proofs.Common.{◌≡◌, ℕ, zero, suc, ◌+◌, List, [], ◌∷◌, Option, Some, None, ℤ, pos, refl, sym, ap, ◌∙◌, subst}
use Rattle.std.specs.Prelude.{map, slice_get, Bool, true, false, length}
use Rattle.ib_mem.specs.Memory.{cleared}
use Rattle.ib_meaning.specs.declared.place.Place.{Place}
use Rattle.ib_meaning.specs.Agreement.{Agrees, Within}
use Rattle.ib_meaning.specs.Machine.{means}
use Rattle.ib_meaning.proofs.Agreement.{AreSame, agree_by_same, within_same}
use Rattle.ib_meaning.proofs.Simulation.{Alike, means_alike}
use Rattle.tac_core.specs.declared.code.TacOp.{TacOp}
use Rattle.tac_core.specs.declared.code.End.{End}
use Rattle.tac_core.specs.declared.code.End.TheVariants.{Jump, Branch, Call, Ret}
use Rattle.tac_core.specs.declared.code.Block.{Block}
use Rattle.tac_core.specs.declared.code.TacFunc.{TacFunc}
use Rattle.tac_core.specs.Program.{Program, names, main_in}
use Rattle.tac_core.specs.Meaning.{Waiting, State, Lost, In, reg_of, number_in, block_of, frame_of, go, first_regs, call, overflows, target_of, set_in, place_of, Effect, Does, Fails, effect_of, after_act, do_return, do_call, do_end_of, do_end, tac_step, start_at, tac_meaning, first_frame, first_memory}
use Rattle.tac_core.specs.Cover.{Origins, IsFrom, IsEndFrom, IsBlockFrom, AreFuncsFrom, Covers}
use Rattle.tac_core.proofs.Steady.{tac_steady}

-- the origins of a function, none where the function is missing
abbrev IsFrom_in : Option Origins → ℕ → ℕ → Type 0
IsFrom_in None l o = ⊥
IsFrom_in (Some origins) l o = IsFrom origins l o

module _ (all : List Origins) where
  -- the copy's state beside the origin's: the same, but for labels
  data AreFrom : List Waiting → List Waiting → Type 0 where
    Nobody : AreFrom [] []
    Another : (func k m base : ℕ) (regs : List ℤ) (dest : Option ℕ) (l o : ℕ) (ws vs : List Waiting) → IsFrom_in (slice_get all func) l o → AreFrom ws vs → AreFrom (record { func = func; label = k; base = base; regs = regs; dest = dest; next = l } ∷ ws) (record { func = func; label = m; base = base; regs = regs; dest = dest; next = o } ∷ vs)

  data IsStateFrom : State → State → Type 0 where
    BothLost : IsStateFrom Lost Lost
    BothIn : (func l o base : ℕ) (regs : List ℤ) (ops : List TacOp) (ws vs : List Waiting) (memory : List ℕ) → IsFrom_in (slice_get all func) l o → AreFrom ws vs → IsStateFrom (In (record { func = func; label = l; base = base; regs = regs; ops = ops }) ws memory) (In (record { func = func; label = o; base = base; regs = regs; ops = ops }) vs memory)

  same_depth : (ws vs : List Waiting) → AreFrom ws vs → length ws ≡ length vs
  same_depth ws vs Nobody = refl
  same_depth ws vs (Another func k m base regs dest l o ws' vs' from a) = ap suc (same_depth ws' vs' a)

  module _ (copy origin : List TacFunc) (places : List Place) (covers : (f : ℕ) → AreFuncsFrom (slice_get all f) (slice_get copy f) (slice_get origin f)) where
    -- the two blocks
    record AreBlocks (func l o : ℕ) (origins : Origins) : Type 0 where
      b : Block
      c : Block
      b_is : block_of (slice_get copy func) l ≡ Some b
      c_is : block_of (slice_get origin func) o ≡ Some c
      from : IsBlockFrom origins b c

    blocks_in : (x : Option Origins) (c o : Option TacFunc) → AreFuncsFrom x c o → (os : Origins) → x ≡ Some os → (l l' : ℕ) → IsFrom os l l' → (b : Block) × (d : Block) × (block_of c l ≡ Some b) × (block_of o l' ≡ Some d) × IsBlockFrom os b d
    blocks_in (Some origins) (Some c) (Some o) h os e l l' from =
        let same : origins ≡ os = cc in
        subst (λ z. (b : Block) × (d : Block) × (block_of (Some c) l ≡ Some b) × (block_of (Some o) l' ≡ Some d) × IsBlockFrom z b d) same (h.each l l' (rw same from))
    blocks_in (Some origins) (Some c) None h os e l l' from = absurd h
    blocks_in (Some origins) None o h os e l l' from = absurd h
    blocks_in None c o h os e l l' from = cc

    blocks : (func l o : ℕ) (origins : Origins) → slice_get all func ≡ Some origins → IsFrom origins l o → AreBlocks func l o origins
    blocks func l o origins e from =
        let t = blocks_in (slice_get all func) (slice_get copy func) (slice_get origin func) (covers func) origins e l o from in
        record { b = t.0; c = t.1; b_is = t.2; c_is = t.3; from = t.4 }

    frames_in : (x : Option Origins) (c o : Option TacFunc) → AreFuncsFrom x c o → frame_of c ≡ frame_of o
    frames_in (Some origins) (Some c) (Some o) h = h.frame
    frames_in (Some origins) (Some c) None h = absurd h
    frames_in (Some origins) None o h = absurd h
    frames_in None None None h = refl
    frames_in None None (Some o) h = absurd h
    frames_in None (Some c) o h = absurd h

    frames : (func : ℕ) → frame_of (slice_get copy func) ≡ frame_of (slice_get origin func)
    frames func = frames_in (slice_get all func) (slice_get copy func) (slice_get origin func) (covers func)

    go_in : (func l o base : ℕ) (x : Option Origins) → slice_get all func ≡ x → IsFrom_in x l o → (regs : List ℤ) (ws vs : List Waiting) (memory : List ℕ) → AreFrom ws vs → IsStateFrom (go copy func l base regs ws memory) (go origin func o base regs vs memory)
    go_in func l o base None e from regs ws vs memory a = absurd from
    go_in func l o base (Some os) e from regs ws vs memory a =
        let t = blocks func l o os e from in
        rw (t.b_is, t.c_is, t.from.ops) (BothIn func l o base regs t.c.ops ws vs memory (rw e from) a)

    go_from : (func l o base : ℕ) → IsFrom_in (slice_get all func) l o → (regs : List ℤ) (ws vs : List Waiting) (memory : List ℕ) → AreFrom ws vs → IsStateFrom (go copy func l base regs ws memory) (go origin func o base regs vs memory)
    go_from func l o base from regs ws vs memory a = go_in func l o base (slice_get all func) refl from regs ws vs memory a

    call_in : (x : Option Origins) (c o : Option TacFunc) → AreFuncsFrom x c o → (func base : ℕ) → slice_get all func ≡ x → slice_get copy func ≡ c → slice_get origin func ≡ o → (values : List ℤ) (ws vs : List Waiting) (memory memory' : List ℕ) → memory ≡ memory' → AreFrom ws vs → IsStateFrom (go copy func 0 base (first_regs (slice_get copy func) values) ws memory) (go origin func 0 base (first_regs (slice_get origin func) values) vs memory')
    call_in (Some origins) (Some c) (Some o) h func base e f g values ws vs memory memory' m a =
        let same : first_regs (slice_get copy func) values ≡ first_regs (slice_get origin func) values = rw (f, g, h.params, h.regs) refl in
        subst (λ r. IsStateFrom (go copy func 0 base (first_regs (slice_get copy func) values) ws memory) (go origin func 0 base r vs memory')) same
        (subst (λ n. IsStateFrom (go copy func 0 base (first_regs (slice_get copy func) values) ws memory) (go origin func 0 base (first_regs (slice_get copy func) values) vs n)) m
        (go_from func 0 0 base (rw e h.entry) (first_regs (slice_get copy func) values) ws vs memory a))
    call_in (Some origins) (Some c) None h func base e f g values ws vs memory memory' m a = absurd h
    call_in (Some origins) None o h func base e f g values ws vs memory memory' m a = absurd h
    call_in None None None h func base e f g values ws vs memory memory' m a = rw (f, g) BothLost
    call_in None None (Some o) h func base e f g values ws vs memory memory' m a = absurd h
    call_in None (Some c) o h func base e f g values ws vs memory memory' m a = absurd h

    call_from : (func base : ℕ) (values : List ℤ) (ws vs : List Waiting) (memory : List ℕ) → AreFrom ws vs → IsStateFrom (call copy func base values ws memory) (call origin func base values vs memory)
    call_from func base values ws vs memory a =
        call_in (slice_get all func) (slice_get copy func) (slice_get origin func) (covers func) func base refl refl refl values ws vs
        (cleared memory base (frame_of (slice_get copy func))) (cleared memory base (frame_of (slice_get origin func)))
        (ap (cleared memory base) (frames func)) a

    target_from : (os : Origins) (v : ℤ) (y n y' n' : ℕ) → IsFrom os y y' → IsFrom os n n' → IsFrom os (target_of v y n) (target_of v y' n')
    target_from os (pos zero) y n y' n' f g = g
    target_from os _ y n y' n' f g = f

    return_alike : (v : ℤ) (ws vs : List Waiting) (memory left : List ℕ) → AreFrom ws vs → Alike IsStateFrom (do_return copy v ws memory left) (do_return origin v vs memory left)
    return_alike v ws vs memory left Nobody = (refl, refl, refl)
    return_alike v ws vs memory left (Another func k m base regs dest l o ws' vs' from a) =
        (go_from func l o base from (set_in regs dest v) ws' vs' memory a, refl, refl)

    do_call_alike : (x y : Bool) → x ≡ y → (s t : State) → IsStateFrom s t → (place : Place) (left : List ℕ) → Alike IsStateFrom (do_call x s place left) (do_call y t place left)
    do_call_alike true true e s t h place left = (refl, refl, refl)
    do_call_alike true false e s t h place left = cc
    do_call_alike false true e s t h place left = cc
    do_call_alike false false e s t h place left = (h, refl, refl)

    -- the call of a function, in the copy and in the origin
    enters : (func k m f base : ℕ) (args : List ℕ) (l o : ℕ) (d : Option ℕ) → IsFrom_in (slice_get all func) l o → (place : Place) (regs : List ℤ) (ws vs : List Waiting) (memory left : List ℕ) → AreFrom ws vs → Alike IsStateFrom (do_end_of copy (Call d f args l) place func k base regs ws memory left) (do_end_of origin (Call d f args o) place func m base regs vs memory left)
    enters func k m f base args l o d from place regs ws vs memory left a =
        let top : ℕ = base + frame_of (slice_get copy func) in
        let other : ℕ = base + frame_of (slice_get origin func) in
        let same : top ≡ other = ap (λ n. base + n) (frames func) in
        let tests : overflows (length ws) top (frame_of (slice_get copy f)) ≡ overflows (length vs) other (frame_of (slice_get origin f)) =
        ap (λ n. overflows n top (frame_of (slice_get copy f))) (same_depth ws vs a)
        ∙ ap (λ n. overflows (length vs) n (frame_of (slice_get copy f))) same
        ∙ ap (λ n. overflows (length vs) other n) (frames f) in
        let there = call_from f top (map (reg_of regs) args) _ _ memory (Another func k m base regs d l o ws vs from a) in
        do_call_alike _ _ tests _ _
        (subst (λ n. IsStateFrom (call copy f top (map (reg_of regs) args) (record { func = func; label = k; base = base; regs = regs; dest = d; next = l } ∷ ws) memory) (call origin f n (map (reg_of regs) args) (record { func = func; label = m; base = base; regs = regs; dest = d; next = o } ∷ vs) memory)) same there)
        place left

    end_alike : (os : Origins) (func k m base : ℕ) → slice_get all func ≡ Some os → (e e' : End) → IsEndFrom os e e' → (place : Place) (regs : List ℤ) (ws vs : List Waiting) (memory left : List ℕ) → AreFrom ws vs → Alike IsStateFrom (do_end_of copy e place func k base regs ws memory left) (do_end_of origin e' place func m base regs vs memory left)
    end_alike os func k m base x (Jump l) (Jump o) h place regs ws vs memory left a = (go_from func l o base (rw x h) regs ws vs memory a, refl, refl)
    end_alike os func k m base x (Branch r y n) (Branch r' y' n') h place regs ws vs memory left a =
        rw (h.0) (go_from func _ _ base (rw x (target_from os (reg_of regs r') y n y' n' h.1 h.2)) regs ws vs memory a, refl, refl)
    end_alike os func k m base x (Call d g args l) (Call d' g' args' o) h place regs ws vs memory left a =
        rw (h.0, h.1, h.2) (enters func k m g' base args' l o d' (rw x h.3) place regs ws vs memory left a)
    end_alike os func k m base x (Ret r) (Ret r') h place regs ws vs memory left a = rw h (return_alike (number_in regs r') ws vs memory left a)
    end_alike os func k m base x _ _ h place regs ws vs memory left a = absurd h

    done_alike : (func l o base : ℕ) (x : Option Origins) → slice_get all func ≡ x → IsFrom_in x l o → (regs : List ℤ) (ws vs : List Waiting) (memory left : List ℕ) → AreFrom ws vs → Alike IsStateFrom
        (do_end copy places (block_of (slice_get copy func) l) (record { func = func; label = l; base = base; regs = regs; ops = [] }) ws memory left)
        (do_end origin places (block_of (slice_get origin func) o) (record { func = func; label = o; base = base; regs = regs; ops = [] }) vs memory left)
    done_alike func l o base None e from regs ws vs memory left a = absurd from
    done_alike func l o base (Some os) e from regs ws vs memory left a =
        let t = blocks func l o os e from in
        rw (t.b_is, t.c_is, t.from.end_stmt) (end_alike os func l o base e t.b.«end» t.c.«end» t.from.ends (place_of places t.c.end_stmt) regs ws vs memory left a)

    act_alike : (effect : Effect) (place : Place) (func l o base : ℕ) (regs : List ℤ) (ops rest : List TacOp) (ws vs : List Waiting) (left : List ℕ) → IsFrom_in (slice_get all func) l o → AreFrom ws vs → Alike IsStateFrom
        (after_act effect place (record { func = func; label = l; base = base; regs = regs; ops = ops }) rest ws left)
        (after_act effect place (record { func = func; label = o; base = base; regs = regs; ops = ops }) rest vs left)
    act_alike (Does regs' memory left' printed) place func l o base regs ops rest ws vs left from a =
        (BothIn func l o base regs' rest ws vs memory from a, refl, refl)
    act_alike (Fails kind) place func l o base regs ops rest ws vs left from a = (refl, refl, refl)

    step_alike : (s t : State) (left : List ℕ) → IsStateFrom s t → Alike IsStateFrom (tac_step copy places s left) (tac_step origin places t left)
    step_alike s t left BothLost = (BothLost, refl, refl)
    step_alike s t left (BothIn func l o base regs [] ws vs memory from a) =
        done_alike func l o base (slice_get all func) refl from regs ws vs memory left a
    step_alike s t left (BothIn func l o base regs (op ∷ rest) ws vs memory from a) =
        act_alike (effect_of op.act base regs memory left) (place_of places op.stmt) func l o base regs (op ∷ rest) rest ws vs left from a

    means_from : (f : ℕ) (image : List ℕ) → AreSame (means (tac_step copy places) (start_at copy f image)) (means (tac_step origin places) (start_at origin f image))
    means_from f image =
        means_alike (tac_step copy places) (tac_step origin places) IsStateFrom step_alike (start_at copy f image) (start_at origin f image)
        (call_from f (first_frame (length image)) [] [] [] (first_memory image) Nobody)

-- a copy says with each number what its origin says
pub covers_same : (all : List Origins) (copy origin : Program) → Covers all copy origin → AreSame (tac_meaning copy) (tac_meaning origin)
unfolding tac_meaning
covers_same all copy origin h =
    rw (h.places, h.image, h.named) (means_from all copy.funcs origin.funcs origin.places h.funcs (main_in (names origin)) origin.image)

pub covers_agree : (all : List Origins) (copy origin : Program) → Covers all copy origin → Agrees (tac_meaning origin) (tac_meaning copy)
covers_agree all copy origin h =
    agree_by_same (tac_meaning origin) (tac_meaning copy) (λ input n. sym (covers_same all copy origin h input n))

-- a copy has done what its origin has done after as many steps
pub covers_within : (all : List Origins) (copy origin : Program) → Covers all copy origin → Within (λ n. n) (tac_meaning origin) (tac_meaning copy)
covers_within all copy origin h =
    within_same (tac_meaning origin) (tac_meaning copy) (tac_steady copy) (λ input n. sym (covers_same all copy origin h input n))
