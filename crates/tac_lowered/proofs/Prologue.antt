-- Parameters that live in the frame are stored there first.
use Rattle.std.proofs.Common.{◌≡◌, suc, ◌≢◌, ℕ, ◌+◌, ◌<◌, ◌≤◌, ◌%◌, ℤ, pos, List, [], ◌∷◌, ◌++◌, length, Bool, true, false, refl, sym, ap, ◌∙◌, arith, Some, None, get_or-set_same, get_or-set_other, w64}
use Rattle.std.specs.Prelude.{slice_set, nat_le, ◌==◌, ◌&&◌, ◌+ℤ◌, if◌then◌else◌}
use Rattle.std.specs.Int.{cast_unsigned}
use Rattle.std.proofs.Math.ListN.{length-set}
use Rattle.std.proofs.lemmas.Bool.{le-leb}
use Rattle.std.proofs.lemmas.List.{append-nil}
use Rattle.std.proofs.lemmas.Int.{ints, int_wrap_fits}
use Rattle.ib_base.specs.declared.integers.Width.{Width}
use Rattle.ib_mem.specs.Memory.{can_access, stored, filled, bytes_of}
use Rattle.ib_meaning.specs.Agreement.{Report}
use Rattle.ib_act.specs.declared.act.Act.TheVariants.{FrameAddress, Store}
use Rattle.ib_act.specs.Acts as acts
use Rattle.ib_act.specs.Acts.{bytes_in}
use Rattle.c_ast.specs.declared.tree.Base.TheVariants.{Void, Char, Int, Long}
use Rattle.c_meaning.specs.Doing as e
use Rattle.c_meaning.specs.Meaning.{behind_store, set_in_frame, frame_passed}
use Rattle.c_typed.specs.declared.types.ValueType.{ValueType}
use Rattle.c_typed.specs.declared.types.ValueType.TheVariants as vt
use Rattle.c_typed.specs.declared.program.Home.{Home}
use Rattle.c_typed.specs.declared.program.Home.TheVariants as hm
use Rattle.c_typed.specs.declared.program.Param.{Param}
use Rattle.c_typed.specs.ValueTypes.{size_of}
use Rattle.c_typed.specs.Values.{width_of, further}
use Rattle.tac_core.specs.Meaning.{Does, effect_of, reg_of, stores, set_all}
use Rattle.tac_lowered.specs.Code.{Code, does}
use Rattle.tac_lowered.specs.Items.{Item, Open, goes, onward, Loop, items}
use Rattle.tac_lowered.specs.Lowered as low
use Rattle.tac_lowered.specs.Lowered.{behind_home, behind_params, home_in, params_in, all_stored, nowhere}
use Rattle.c_kept.specs.Kept.{is_value, HasHome, HaveHomes}
use Rattle.tac_lowered.proofs.Relation.{Spot, many, Suit, Match, Follows, Has}
use Rattle.tac_lowered.proofs.Gives.{set_match, set_same, does_follows, sets_follows, first_has, second_has, both_follows, target_room}
use Rattle.tac_lowered.proofs.Values.{own_address, bytes_same}
use Rattle.tac_lowered.proofs.Computing.{again}
use Rattle.tac_lowered.proofs.Entry.{home_behind, params_behind, there_is}

-- ---- what came in a register

abbrev pub AtHome : Home → (r : ℕ) (v : ℤ) (regs : List ℤ) → Type 0
AtHome (hm.Slot k) r v regs = Unit {0}
AtHome (hm.Frame offset) r v regs = reg_of regs r ≡ v

abbrev pub Arrived : List Param → List ℤ → (r : ℕ) (regs : List ℤ) → Type 0
Arrived (q ∷ qs) (v ∷ vs) r regs = AtHome q.home r v regs × Arrived qs vs (behind_home q.home r) regs
Arrived qs vs r regs = Unit {0}

arrived_set : (qs : List Param) (vs : List ℤ) (r j : ℕ) (x : ℤ) (regs : List ℤ) → behind_params qs r ≤ j → Arrived qs vs r regs → Arrived qs vs r (slice_set regs j x)
arrived_set [] vs r j x regs le a = tt
arrived_set (q ∷ qs) [] r j x regs le a = tt
arrived_set (q ∷ qs) (v ∷ vs) r j x regs le a = (home q.home (params_behind qs (behind_home q.home r)) a.0, arrived_set qs vs (behind_home q.home r) j x regs (omega (arith, le)) a.1)
  where
    home : (h : Home) → behind_home h r ≤ behind_params qs (behind_home q.home r) → AtHome h r v regs → AtHome h r v (slice_set regs j x)
    home (hm.Slot k) e1 b = tt
    home (hm.Frame offset) e1 b = let ne : r ≢ j = omega (arith, e1, le) in get_or-set_other regs j r x (pos 0) ne ∙ b

module _ (kinds : List ValueType) (frame : ℕ) where
  home_below : (ty : ValueType) (q : Home) (r k : ℕ) → HasHome kinds frame ty q → length kinds ≤ k → k < r → k ≢ home_in q r
  home_below ty (hm.Slot j) r k home le lt = let t = there_is kinds kinds j ty home in λ e. omega (arith, t.0, e)
  home_below ty (hm.Frame offset) r k home le lt = omega arith

  set_all_kept : (qs : List Param) (vs : List ℤ) (r k : ℕ) (regs : List ℤ) → HaveHomes kinds frame qs → length kinds ≤ k → k < r → reg_of (set_all regs (params_in qs r) vs) k ≡ reg_of regs k
  set_all_kept [] vs r k regs homes le lt = refl
  set_all_kept (q ∷ qs) [] r k regs homes le lt = refl
  set_all_kept (q ∷ qs) (v ∷ vs) r k regs homes le lt =
      let up : k < behind_home q.home r = let e1 = home_behind q.home r in omega (arith, e1) in
      set_all_kept qs vs (behind_home q.home r) k (slice_set regs (home_in q.home r) v) homes.2 le up ∙ get_or-set_other regs (home_in q.home r) k v (pos 0) (home_below q.ty q.home r k homes.0 le lt)

  pub arrives : (qs : List Param) (vs : List ℤ) (r : ℕ) (regs : List ℤ) → HaveHomes kinds frame qs → length kinds ≤ r → behind_params qs r ≤ length regs → Arrived qs vs r (set_all regs (params_in qs r) vs)
  arrives [] vs r regs homes le room = tt
  arrives (q ∷ qs) [] r regs homes le room = tt
  arrives (q ∷ qs) (v ∷ vs) r regs homes le room =
      let regs1 = slice_set regs (home_in q.home r) v in
      let le1 : length kinds ≤ behind_home q.home r = let e1 = home_behind q.home r in omega (arith, e1) in
      let room1 : behind_params qs (behind_home q.home r) ≤ length regs1 = let e1 = length-set regs (home_in q.home r) v in omega (arith, e1, room) in
      (home q.home (params_behind qs (behind_home q.home r)) homes.2, arrives qs vs (behind_home q.home r) regs1 homes.2 le1 room1)
    where
      home : (h : Home) → behind_home h r ≤ behind_params qs (behind_home q.home r) → HaveHomes kinds frame qs → AtHome h r v (set_all (slice_set regs (home_in h r) v) (params_in qs (behind_home h r)) vs)
      home (hm.Slot k) e1 rest = tt
      home (hm.Frame offset) e1 rest =
          let own : r < suc r = omega arith in
          let long : r < length regs = omega (arith, e1, room) in
          set_all_kept qs vs (suc r) r (slice_set regs r v) rest le own ∙ get_or-set_same regs r v (pos 0) long

-- ---- an access in the frame does not fault

all_three : (a b c : Bool) → a ≡ true → b ≡ true → c ≡ true → (a && (b && c)) ≡ true
all_three true true c ha hb hc = hc
all_three true false c ha hb hc = hb
all_three false b c ha hb hc = ha

rounded : (ty : ValueType) (base offset : ℕ) → is_value ty ≡ true → base % 16 ≡ 0 → offset % size_of ty ≡ 0 → (base + offset) % size_of ty ≡ 0
rounded (vt.Base Void) base offset v b o = absurd (apart v)
  where
    apart : false ≡ true → ⊥
    apart h = cc
rounded (vt.Base Char) base offset v b o = omega (arith, b, o)
rounded (vt.Base Int) base offset v b o = omega (arith, b, o)
rounded (vt.Base Long) base offset v b o = omega (arith, b, o)
rounded (vt.Pointer x stars) base offset v b o = omega (arith, b, o)
rounded vt.Null base offset v b o = omega (arith, b, o)

reachable : (ty : ValueType) (base offset frame : ℕ) → is_value ty ≡ true → 4096 ≤ base → base % 16 ≡ 0 → offset % size_of ty ≡ 0 → offset + size_of ty ≤ frame → base + frame ≤ 1048576 → can_access (pos (base + offset)) (size_of ty) ≡ true
reachable ty base offset frame v above b o within small =
    let low : 4096 ≤ base + offset = omega arith in
    let high : base + offset + size_of ty ≤ 1048576 = omega arith in
    all_three (nat_le 4096 (base + offset)) (nat_le (base + offset + size_of ty) 1048576) ((base + offset) % size_of ty == 0)
    (le-leb 4096 (base + offset) low) (le-leb (base + offset + size_of ty) 1048576 high) (ap (λ z. z == 0) (rounded ty base offset v b o))

store_acts : (w : Width) (j i base : ℕ) (regs : List ℤ) (memory left : List ℕ) → effect_of (Store w j (pos 0) i) base regs memory left ≡ stores (stored memory (acts.address (reg_of regs j) (pos 0)) (bytes_in w) (cast_unsigned w64 (reg_of regs i))) regs left
unfolding effect_of
store_acts w j i base regs memory left = refl

frame_acts : (j offset base : ℕ) (regs : List ℤ) (memory left : List ℕ) → effect_of (FrameAddress j (pos offset)) base regs memory left ≡ Does (slice_set regs j (further (pos base) (pos offset))) memory left []
unfolding effect_of
frame_acts j offset base regs memory left = refl

stored_there : (memory : List ℕ) (base offset width number : ℕ) (regs : List ℤ) (left : List ℕ) → can_access (pos (base + offset)) width ≡ true
    → stores (stored memory (pos (base + offset)) width number) regs left ≡ Does regs (behind_store memory (stored memory (pos (base + offset)) width number)) left []
stored_there memory base offset width number regs left can =
    ap (λ b. stores (if b then Some (filled memory (base + offset) (bytes_of width number)) else None) regs left) can
    ∙ sym (ap (λ b. Does regs (behind_store memory (if b then Some (filled memory (base + offset) (bytes_of width number)) else None)) left []) can)

-- an address in the frame
in_frame : (base offset : ℕ) → base + offset ≤ 1048576 → further (pos base) (pos offset) ≡ pos (base + offset)
in_frame base offset le = int_wrap_fits w64 (pos base +ℤ pos offset) (omega (arith, ints))

module _ (C : Spot) where
  -- each in turn
  pub stores_all : (frame : ℕ) (qs : List Param) (vs : List ℤ) (r free : ℕ) → HaveHomes C.kinds frame qs → Suit qs vs → many C ≤ r → behind_params qs r ≤ free
      → (lp : Loop) (o : Open) (rest : List Item) → Has C o (items (all_stored C.p qs r free) lp onward o ++ rest) → (regs : List ℤ) (t : e.State) (rep : Report) → Match C regs t → Arrived qs vs r regs → t.base + frame ≤ 1048576
      → ((regs' : List ℤ) → Match C regs' (record t { memory = frame_passed t.base qs vs t.memory }) → Follows C (goes (all_stored C.p qs r free) false o) rest regs' (record t { memory = frame_passed t.base qs vs t.memory }) rep)
      → Follows C o (items (all_stored C.p qs r free) lp onward o ++ rest) regs t rep
  stores_all frame [] [] r free homes suit le room lp o rest h regs t rep mt arrived small next =
      let f = next regs (record { slots = mt.slots; room = mt.room; same = mt.same; lies = mt.lies; top = mt.top; aligned = mt.aligned; above = mt.above; depth = mt.depth }) in record { by = f.by }
  stores_all frame [] (v ∷ vs) r free homes suit le room lp o rest h regs t rep mt arrived small next = absurd suit
  stores_all frame (q ∷ qs) [] r free homes suit le room lp o rest h regs t rep mt arrived small next = absurd suit
  stores_all frame (q ∷ qs) (v ∷ vs) r free homes suit le room lp o rest h regs t rep mt arrived small next =
      both_follows C first others lp onward o rest regs t rep
      (one q.home (params_behind qs (behind_home q.home r)) homes.0 lp o (items others lp onward (goes first false o) ++ rest) (first_has C first others lp onward o rest h) regs t mt arrived.0 arrived.1 small (λ regs1 m1 a1.
      stores_all frame qs vs (behind_home q.home r) free homes.2 suit.1 (let e1 = home_behind q.home r in omega (arith, e1, le)) (omega (arith, room)) lp (goes first false o) rest (second_has C first others lp onward o rest h) regs1 (record t { memory = set_in_frame t.base q.ty q.home v t.memory }) rep m1 a1 small next))
    where
      first : Code
      first = low.stored C.p q.ty q.home r free

      others : Code
      others = all_stored C.p qs (behind_home q.home r) free

      one : (home : Home) → behind_home home r ≤ behind_params qs (behind_home q.home r) → HasHome C.kinds frame q.ty home → (lp : Loop) (o : Open) (rest : List Item) → Has C o (items (low.stored C.p q.ty home r free) lp onward o ++ rest) → (regs : List ℤ) (t : e.State) → Match C regs t → AtHome home r v regs → Arrived qs vs (behind_home q.home r) regs → t.base + frame ≤ 1048576
          → ((regs' : List ℤ) → Match C regs' (record t { memory = set_in_frame t.base q.ty home v t.memory }) → Arrived qs vs (behind_home q.home r) regs' → Follows C (goes (low.stored C.p q.ty home r free) false o) rest regs' (record t { memory = set_in_frame t.base q.ty home v t.memory }) rep)
          → Follows C o (items (low.stored C.p q.ty home r free) lp onward o ++ rest) regs t rep
      one (hm.Slot k) below has lp o rest h regs t mt at later small next =
          let f = next regs (record { slots = mt.slots; room = mt.room; same = mt.same; lies = mt.lies; top = mt.top; aligned = mt.aligned; above = mt.above; depth = mt.depth }) later in record { by = f.by }
      one (hm.Frame offset) below has lp o rest h regs t mt at later small next =
          both_follows C a b lp onward o rest regs t rep
          (sets_follows C n (FrameAddress free (pos offset)) lp onward o (items b lp onward (goes a false o) ++ rest) regs regs1 t rep h1 (frame_acts free offset t.base regs t.memory t.left)
          (does_follows C n (Store w free (pos 0) r) lp onward (goes a false o) rest regs1 regs1 t t' [] rep h2 effect refl (sym (append-nil t.out)) refl (λ bytes. bytes)
          (next regs1 m1' (arrived_set qs vs (behind_home q.home r) free address regs (omega (arith, room)) later))))
        where
          n : ℕ
          n = nowhere C.p

          w : Width
          w = width_of q.ty

          a : Code
          a = does n (FrameAddress free (pos offset))

          b : Code
          b = does n (Store w free (pos 0) r)

          address : ℤ
          address = further (pos t.base) (pos offset)

          regs1 : List ℤ
          regs1 = slice_set regs free address

          t' : e.State
          t' = record t { memory = set_in_frame t.base q.ty (hm.Frame offset) v t.memory }

          h1 : Has C o (items a lp onward o ++ (items b lp onward (goes a false o) ++ rest))
          h1 = first_has C a b lp onward o rest h

          h2 : Has C (goes a false o) (items b lp onward (goes a false o) ++ rest)
          h2 = second_has C a b lp onward o rest h

          up : many C ≤ free
          up = omega (arith, le, below, room)

          m1 : Match C regs1 t
          m1 = set_match C free address regs t up mt

          m1' : Match C regs1 t'
          m1' = record { slots = m1.slots; room = m1.room; same = m1.same; lies = m1.lies; top = m1.top; aligned = m1.aligned; above = m1.above; depth = m1.depth }

          long : free < length regs
          long = let e1 = mt.room in let e2 = target_room C n (FrameAddress free (pos offset)) lp onward o (items b lp onward (goes a false o) ++ rest) free refl h1 in omega (arith, e1, e2)

          within : t.base + offset ≤ 1048576
          within = let e1 = has.1 in omega (arith, e1, small)

          is_there : address ≡ pos (t.base + offset)
          is_there = in_frame t.base offset within

          can : can_access (pos (t.base + offset)) (size_of q.ty) ≡ true
          can = reachable q.ty t.base offset frame homes.1 mt.above mt.aligned has.0 has.1 small

          r_is : reg_of regs1 r ≡ v
          r_is = let ne : r ≢ free = omega (arith, below, room) in get_or-set_other regs free r address (pos 0) ne ∙ at

          effect : effect_of (Store w free (pos 0) r) t.base regs1 t.memory t.left ≡ Does regs1 t'.memory t'.left []
          effect =
              store_acts w free r t.base regs1 t.memory t.left
              ∙ ap (λ z. stores (stored t.memory (acts.address z (pos 0)) (bytes_in w) (cast_unsigned w64 (reg_of regs1 r))) regs1 t.left) (set_same C free address regs long)
              ∙ ap (λ z. stores (stored t.memory z (bytes_in w) (cast_unsigned w64 (reg_of regs1 r))) regs1 t.left) (own_address C address (again (pos t.base +ℤ pos offset)) ∙ is_there)
              ∙ ap (λ z. stores (stored t.memory (pos (t.base + offset)) z (cast_unsigned w64 (reg_of regs1 r))) regs1 t.left) (bytes_same C q.ty homes.1)
              ∙ ap (λ z. stores (stored t.memory (pos (t.base + offset)) (size_of q.ty) (cast_unsigned w64 z)) regs1 t.left) r_is
              ∙ stored_there t.memory t.base offset (size_of q.ty) (cast_unsigned w64 v) regs1 t.left can
              ∙ ap (λ z. Does regs1 (behind_store t.memory (stored t.memory z (size_of q.ty) (cast_unsigned w64 v))) t.left []) (sym is_there)
