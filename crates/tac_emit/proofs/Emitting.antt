-- What is emitted part by part is emitted as a whole.
use Rattle.std.proofs.Common.{◌≡◌, ℕ, suc, ◌+◌, ◌<◌, ◌≤◌, List, [], ◌∷◌, ◌++◌, append_assoc, length, length-append, map, Bool, true, false, refl, sym, ap, ◌∙◌, subst, arith, Option}
use Rattle.std.specs.Prelude.{if◌then◌else◌}
use Rattle.std.proofs.lemmas.List.{append-nil, drop_all}
use Rattle.std.proofs.Math.ListN.{get_or}
use Rattle.ib_act.specs.declared.act.Act.{Act}
use Rattle.tac_core.specs.declared.code.TacOp.{TacOp}
use Rattle.tac_core.specs.declared.code.Block.{Block}
use Rattle.tac_core.specs.declared.code.End.{End}
use Rattle.tac_core.specs.declared.code.End.TheVariants.{Jump, Call}
use Rattle.tac_code.specs.declared.code.Code.{Code as RCode}
use Rattle.tac_code.specs.Views.{code_of}
use Rattle.tac_lowered.specs.Code.{Code, nothing, does, both, calls, when, choose, repeat, until, leave, Exit, Test, settled, on, all_of, one_of}
use Rattle.tac_lowered.specs.Items.{Item, Do, Close, Open, is_full, fresh, put, Loop, Next, onward, jump, closes, close, label_of, exit, branch, entry, is_jump, owned, own_items, goes, goes_test, items, test_items}
use Rattle.tac_lowered.specs.Lowered.{registers}
use Rattle.tac_lowered.proofs.Geometry.{run, run_append, runs, runs_test, own_runs}
use Rattle.tac_emit.specs.declared.survey.Targets.{Targets}
use Rattle.tac_emit.specs.declared.emitter.Emitter.{Emitter}
use Rattle.tac_emit.specs.Extents.{targets, targets_test, row_of}
use Rattle.tac_emit.specs.Emitted.{dos, flat, items_in, open_in, full_end, Emits, Adds, EmitsFrom, EmitsCode, EmitsOwned, EmitsTest, TakesNext}
use Rattle.tac_emit.proofs.Registers.{registers_behind}
use Rattle.tac_emit.proofs.Surveying.{full_at, room_at, rest_code, next_in}

-- ---- blocks and their items

dos_append : (a b : List TacOp) → dos (a ++ b) ≡ dos a ++ dos b
dos_append [] b = refl
dos_append (op ∷ a) b = ap (λ l. Do op.stmt op.act ∷ l) (dos_append a b)

flat_op : (bs : List Block) (ops : List TacOp) (op : TacOp) → flat bs (ops ++ op ∷ []) ≡ flat bs ops ++ Do op.stmt op.act ∷ []
flat_op [] ops op = dos_append ops (op ∷ [])
flat_op (b ∷ bs) ops op = ap (λ l. dos b.ops ++ (Close b.end_stmt b.«end» ∷ l)) (flat_op bs ops op) ∙ sym (append_assoc (dos b.ops) (Close b.end_stmt b.«end» ∷ flat bs ops) (Do op.stmt op.act ∷ []))

flat_close : (bs : List Block) (b : Block) → flat (bs ++ b ∷ []) [] ≡ flat bs b.ops ++ Close b.end_stmt b.«end» ∷ []
flat_close [] b = refl
flat_close (a ∷ bs) b = ap (λ l. dos a.ops ++ (Close a.end_stmt a.«end» ∷ l)) (flat_close bs b) ∙ sym (append_assoc (dos a.ops) (Close a.end_stmt a.«end» ∷ flat bs b.ops) (Close b.end_stmt b.«end» ∷ []))

-- ---- steps of an emitter

pub adds_nothing : (a : Emitter) → Adds a a []
adds_nothing a = record { grown = sym (append-nil (items_in a)); opened = refl; regs = refl; left = refl }

pub adds_op : (a b : Emitter) (s : ℕ) (act : Act) → b.blocks ≡ a.blocks → b.ops ≡ a.ops ++ record { stmt = s; act = act } ∷ [] → b.regs ≡ registers (Do s act ∷ []) a.regs → b.targets.now ≡ a.targets.now → Adds a b (Do s act ∷ [])
adds_op a b s act eb eo er et = record {
  grown = ap (λ l. flat l b.ops) eb ∙ ap (flat a.blocks) eo ∙ flat_op a.blocks a.ops (record { stmt = s; act = act });
  opened = ap (λ l. record { label = length l; count = length b.ops }) eb ∙ ap (λ n. record { label = length a.blocks; count = n }) (let e1 = ap length eo in let e2 = length-append a.ops (record { stmt = s; act = act } ∷ []) in omega (arith, e1, e2));
  regs = er;
  left = et;
}

pub adds_end : (a b : Emitter) (s : ℕ) (e : End) → b.blocks ≡ a.blocks ++ record { ops = a.ops; «end» = e; end_stmt = s } ∷ [] → b.ops ≡ [] → b.regs ≡ registers (Close s e ∷ []) a.regs → b.targets.now ≡ a.targets.now → Adds a b (Close s e ∷ [])
adds_end a b s e eb eo er et = record {
  grown = ap (λ l. flat l b.ops) eb ∙ ap (flat (a.blocks ++ record { ops = a.ops; «end» = e; end_stmt = s } ∷ [])) eo ∙ flat_close a.blocks (record { ops = a.ops; «end» = e; end_stmt = s });
  opened = ap (λ l. record { label = length b.blocks; count = length l }) eo ∙ ap (λ n. record { label = n; count = 0 }) (let e1 = ap length eb in let e2 = length-append a.blocks (record { ops = a.ops; «end» = e; end_stmt = s } ∷ []) in omega (arith, e1, e2));
  regs = er;
  left = et;
}

-- one behind another
pub joined : {a b c : Emitter} {is js : List Item} {us ts : List Targets} → Emits a b is us → Emits b c js ts → Emits a c (is ++ js) ts
joined {a} {b} {c} {is} {js} g h = record {
  grown = h.grown ∙ ap (λ l. l ++ js) g.grown ∙ append_assoc (items_in a) is js;
  opened = h.opened ∙ ap (λ o. run o js) g.opened ∙ sym (run_append (open_in a) is js);
  regs = h.regs ∙ ap (registers js) g.regs ∙ registers_behind is js a.regs;
  left = h.left;
}

pub adds_both : (a b c : Emitter) (is js : List Item) → Adds a b is → Adds b c js → Adds a c (is ++ js)
adds_both a b c is js g h = let k : Emits a c (is ++ js) b.targets.now = joined g h in subst (Emits a c (is ++ js)) g.left k

pub adds_full : (a b : Emitter) (s : ℕ) → 510 < length a.ops → Adds a b (Close s (Jump (suc (open_in a).label)) ∷ []) → Adds a b (full_end s (open_in a))
adds_full a b s h g = subst (λ f. Adds a b (if f then Close s (Jump (suc (open_in a).label)) ∷ [] else [])) (sym (full_at (open_in a) h)) g

pub adds_room : (a : Emitter) (s : ℕ) → length a.ops ≤ 510 → Adds a a (full_end s (open_in a))
adds_room a s h = subst (λ f. Adds a a (if f then Close s (Jump (suc (open_in a).label)) ∷ [] else [])) (sym (room_at (open_in a) h)) (adds_nothing a)

put_parts : (s : ℕ) (act : Act) (o : Open) → full_end s o ++ Do s act ∷ [] ≡ put s act o
put_parts s act o = go (is_full o)
  where
    go : (f : Bool) → (if f then Close s (Jump (suc o.label)) ∷ [] else []) ++ Do s act ∷ [] ≡ (if f then Close s (Jump (suc o.label)) ∷ Do s act ∷ [] else Do s act ∷ [])
    go true = refl
    go false = refl

pub adds_put : (a b c : Emitter) (s : ℕ) (act : Act) → Adds a b (full_end s (open_in a)) → Adds b c (Do s act ∷ []) → Adds a c (put s act (open_in a))
adds_put a b c s act g h = subst (Adds a c) (put_parts s act (open_in a)) (adds_both a b c (full_end s (open_in a)) (Do s act ∷ []) g h)

-- ---- targets

pub taken : (a b : Emitter) (first : Targets) → a.targets.now ≡ first ∷ b.targets.now → items_in b ≡ items_in a → open_in b ≡ open_in a → b.regs ≡ a.regs → TakesNext a b first
taken a b first e same opened regs m rest is = (cc, record { same = same; opened = opened; regs = regs; left = cc })

-- ---- code, part by part

-- code whose constructs have no targets
pub adds_from : {a b : Emitter} {is : List Item} → Adds a b is → EmitsFrom a b [] is
adds_from {a} {b} {is} g rest e = subst (Emits a b is) e g

-- one behind another, from a given open block on
then_from : {a b c : Emitter} (ts us : List Targets) {is js : List Item} (o : Open) → open_in a ≡ o → EmitsFrom a b ts is → (open_in b ≡ run o is → EmitsFrom b c us js) → EmitsFrom a c (ts ++ us) (is ++ js)
then_from {a} {b} {c} ts us {is} {js} o at g h rest e =
    let k = g (us ++ rest) (e ∙ append_assoc ts us rest) in
    joined k (h (k.opened ∙ ap (λ z. run z is) at) rest k.left)

-- a construct takes its targets first
take_from : {a b c : Emitter} {got m : Targets} (ts : List Targets) {is : List Item} → TakesNext a b got → (got ≡ m → open_in b ≡ open_in a → EmitsFrom b c ts is) → EmitsFrom a c (m ∷ ts) is
take_from {a} {b} {c} {got} {m} ts {is} take h rest e =
    let k = take m (ts ++ rest) e in
    let t = k.1 in
    let g = h k.0 t.opened rest t.left in
    record {
      grown = g.grown ∙ ap (λ l. l ++ is) t.same;
      opened = g.opened ∙ ap (λ o. run o is) t.opened;
      regs = g.regs ∙ ap (registers is) t.regs;
      left = g.left;
    }

code_at : (a b : Emitter) (x : Code) (y z : Loop) (n m : Next) (o : Open) → y ≡ z → n ≡ m → open_in a ≡ o → EmitsCode a b x y n → EmitsFrom a b (targets x o) (items x z m o)
code_at a b x y z n m o ey en eo g =
    subst (λ z. EmitsFrom a b (targets x o) (items x z m o)) ey (subst (λ m. EmitsFrom a b (targets x o) (items x y m o)) en (subst (λ o. EmitsFrom a b (targets x o) (items x y n o)) eo g))

owned_at : (a b : Emitter) (x : Code) (y z : Loop) (n m : Next) (o : Open) → y ≡ z → n ≡ m → open_in a ≡ o → EmitsOwned a b x y n → EmitsFrom a b (targets x o) (own_items x (items x z m o))
owned_at a b x y z n m o ey en eo g =
    subst (λ z. EmitsFrom a b (targets x o) (own_items x (items x z m o))) ey
    (subst (λ m. EmitsFrom a b (targets x o) (own_items x (items x y m o))) en (subst (λ o. EmitsFrom a b (targets x o) (own_items x (items x y n o))) eo g))

test_at : (a b : Emitter) (t : Test) (there other on_true on_false : ℕ) (o : Open) → there ≡ on_true → other ≡ on_false → open_in a ≡ o → EmitsTest a b t there other → EmitsFrom a b (targets_test t o) (test_items t on_true on_false o)
test_at a b t there other on_true on_false o et en eo g =
    subst (λ l. EmitsFrom a b (targets_test t o) (test_items t l on_false o)) et
    (subst (λ l. EmitsFrom a b (targets_test t o) (test_items t there l o)) en (subst (λ o. EmitsFrom a b (targets_test t o) (test_items t there other o)) eo g))

close_at : (a b : Emitter) (s label l : ℕ) → label ≡ l → Adds a b (Close s (Jump label) ∷ []) → EmitsFrom a b [] (Close s (Jump l) ∷ [])
close_at a b s label l e g = adds_from (subst (λ l. Adds a b (Close s (Jump l) ∷ [])) e g)

pub emits_does : (a b c : Emitter) (s : ℕ) (act : Act) (x : Loop) (n : Next) → Adds a b (put s act (open_in a)) → Adds b c (close n) → EmitsCode a c (does s act) x n
emits_does a b c s act x n g h = adds_from (adds_both a b c (put s act (open_in a)) (close n) g h)

pub emits_nothing : (a b : Emitter) (x : Loop) (n : Next) → Adds a b (close n) → EmitsCode a b nothing x n
emits_nothing a b x n g = adds_from g

pub emits_call : (a b : Emitter) (s : ℕ) (to : Option ℕ) (f : ℕ) (args passed : List ℕ) (behind next : ℕ) (x : Loop) (n : Next) → behind ≡ suc (open_in a).label → next ≡ label_of n behind → passed ≡ args → Adds a b (Close s (Call to f passed next) ∷ []) → EmitsCode a b (calls s to f args) x n
emits_call a b s to f args passed behind next x n eb en ea g =
    adds_from (subst (λ l. Adds a b (Close s (Call to f args l) ∷ [])) (en ∙ ap (label_of n) eb) (subst (λ l. Adds a b (Close s (Call to f l next) ∷ [])) ea g))

pub emits_leave : (a b : Emitter) (s : ℕ) (way : Exit) (e : End) (x : Loop) (n : Next) → e ≡ exit x way → Adds a b (Close s e ∷ []) → EmitsCode a b (leave s way) x n
emits_leave a b s way e x n is g = adds_from (subst (λ e. Adds a b (Close s e ∷ [])) is g)

pub emits_both : (a b c : Emitter) (x y : Code) (l : Loop) (n : Next) → EmitsCode a b x l onward → EmitsCode b c y l n → EmitsCode a c (both x y) l n
emits_both a b c x y l n g h =
    let o = open_in a in
    then_from (targets x o) (targets y (goes x false o)) o refl g (λ op. code_at b c y l l n n (goes x false o) refl refl (op ∙ (runs x l onward o).by) h)

jump_targets : (x : Code) (o : Open) → is_jump x ≡ true → targets x o ≡ []
jump_targets nothing o h = refl
jump_targets (leave s way) o h = refl
jump_targets (does s act) o h = cc
jump_targets (both a b) o h = cc
jump_targets (calls s to f args) o h = cc
jump_targets (when s t a) o h = cc
jump_targets (choose s t a b) o h = cc
jump_targets (repeat s own t a b) o h = cc
jump_targets (until s own a t) o h = cc

pub owned_jump : (a : Emitter) (x : Code) (l : Loop) (n : Next) → is_jump x ≡ true → EmitsOwned a a x l n
owned_jump a x l n h =
    subst (λ ts. EmitsFrom a a ts (own_items x (items x l n (open_in a)))) (sym (jump_targets x (open_in a) h))
    (subst (λ j. EmitsFrom a a [] (if j then [] else items x l n (open_in a))) (sym h) (adds_from (adds_nothing a)))

pub owned_code : (a b : Emitter) (x : Code) (l : Loop) (n : Next) → is_jump x ≡ false → EmitsCode a b x l n → EmitsOwned a b x l n
owned_code a b x l n h g = subst (λ j. EmitsFrom a b (targets x (open_in a)) (if j then [] else items x l n (open_in a))) (sym h) g

pub emits_when : (a b c d : Emitter) (got : Targets) (out there s : ℕ) (t : Test) (x : Code) (y : Loop) (n : Next)
    → TakesNext a b got → out ≡ label_of n got.behind → there ≡ entry x y out got.first → EmitsTest b c t there out → EmitsOwned c d x y (jump s out) → EmitsCode a d (when s t x) y n
emits_when a b c d got out there s t x y n take eout ethere st sx =
    let o = open_in a in
    let p = goes_test t o in
    let q = owned x p (goes x true p) in
    let O = label_of n q.label in
    let T = entry x y O p.label in
    take_from (targets_test t o ++ targets x p) take (λ eg eo.
    let e1 : out ≡ O = eout ∙ ap (λ (g : Targets). label_of n g.behind) eg in
    let e2 : there ≡ T = ethere ∙ ap (λ (g : Targets). entry x y out g.first) eg ∙ ap (λ l. entry x y l p.label) e1 in
    then_from (targets_test t o) (targets x p) o eo (test_at b c t there out T O o e2 e1 eo st) (λ op. owned_at c d x y y (jump s out) (jump s O) p refl (ap (jump s) e1) (op ∙ (runs_test t T O o).by) sx))

pub emits_choose : (a b c d e : Emitter) (got : Targets) (out there other s : ℕ) (t : Test) (x w : Code) (y : Loop) (n : Next)
    → TakesNext a b got → out ≡ label_of n got.behind → there ≡ entry x y out got.first → other ≡ entry w y out got.second
    → EmitsTest b c t there other → EmitsOwned c d x y (jump s out) → EmitsOwned d e w y (jump s out) → EmitsCode a e (choose s t x w) y n
emits_choose a b c d e got out there other s t x w y n take eout ethere eother st sx sw =
    let o = open_in a in
    let p = goes_test t o in
    let q = owned x p (goes x true p) in
    let z = owned w q (goes w true q) in
    let O = label_of n z.label in
    let T = entry x y O p.label in
    let F = entry w y O q.label in
    take_from (targets_test t o ++ (targets x p ++ targets w q)) take (λ eg eo.
    let e1 : out ≡ O = eout ∙ ap (λ (g : Targets). label_of n g.behind) eg in
    let e2 : there ≡ T = ethere ∙ ap (λ (g : Targets). entry x y out g.first) eg ∙ ap (λ l. entry x y l p.label) e1 in
    let e3 : other ≡ F = eother ∙ ap (λ (g : Targets). entry w y out g.second) eg ∙ ap (λ l. entry w y l q.label) e1 in
    then_from (targets_test t o) (targets x p ++ targets w q) o eo (test_at b c t there other T F o e2 e3 eo st) (λ op.
    let ep : open_in c ≡ p = op ∙ (runs_test t T F o).by in
    then_from (targets x p) (targets w q) p ep (owned_at c d x y y (jump s out) (jump s O) p refl (ap (jump s) e1) ep sx) (λ op2.
    owned_at d e w y y (jump s out) (jump s O) q refl (ap (jump s) e1) (op2 ∙ (own_runs x (items x y (jump s O) p) p (goes x true p) (runs x y (jump s O) p)).by) sw)))

abbrev loop : (out last : ℕ) → Loop
loop out last = record { on_break = out; on_continue = last }

pub emits_own : (a b c d e f : Emitter) (got : Targets) (out last head there s : ℕ) (t : Test) (x w : Code) (y : Loop) (n : Next)
    → TakesNext a b got → head ≡ suc (open_in b).label → out ≡ label_of n got.behind → last ≡ entry w y head got.second → there ≡ entry x (loop out last) last got.first
    → Adds b c (Close s (Jump head) ∷ []) → EmitsTest c d t there out → EmitsOwned d e x (loop out last) (jump s last) → EmitsOwned e f w y (jump s head) → EmitsCode a f (repeat s true t x w) y n
emits_own a b c d e f got out last head there s t x w y n take ehead eout elast ethere sc st sx sw =
    let o = open_in a in
    let H = suc o.label in
    let p = goes_test t (fresh o) in
    let q = owned x p (goes x true p) in
    let z = owned w q (goes w true q) in
    let O = label_of n z.label in
    let L = entry w y H q.label in
    let Y = loop O L in
    let T = entry x Y L p.label in
    take_from (targets_test t (fresh o) ++ (targets x p ++ targets w q)) take (λ eg eo.
    let e0 : head ≡ H = ehead ∙ ap (λ (o : Open). suc o.label) eo in
    let e1 : out ≡ O = eout ∙ ap (λ (g : Targets). label_of n g.behind) eg in
    let e2 : last ≡ L = elast ∙ ap (λ (g : Targets). entry w y head g.second) eg ∙ ap (λ l. entry w y l q.label) e0 in
    let ey : loop out last ≡ Y = ap (λ l. loop l last) e1 ∙ ap (loop O) e2 in
    let e3 : there ≡ T = ethere ∙ ap (λ (g : Targets). entry x (loop out last) last g.first) eg ∙ ap (λ v. entry x v last p.label) ey ∙ ap (λ l. entry x Y l p.label) e2 in
    then_from [] (targets_test t (fresh o) ++ (targets x p ++ targets w q)) o eo (close_at b c s head H e0 sc) (λ ef.
    then_from (targets_test t (fresh o)) (targets x p ++ targets w q) (fresh o) ef (test_at c d t there out T O (fresh o) e3 e1 ef st) (λ op.
    let ep : open_in d ≡ p = op ∙ (runs_test t T O (fresh o)).by in
    then_from (targets x p) (targets w q) p ep (owned_at d e x (loop out last) Y (jump s last) (jump s L) p ey (ap (jump s) e2) ep sx) (λ op2.
    owned_at e f w y y (jump s head) (jump s H) q refl (ap (jump s) e0) (op2 ∙ (own_runs x (items x Y (jump s L) p) p (goes x true p) (runs x Y (jump s L) p)).by) sw))))

pub emits_onward : (a b c d e f : Emitter) (got : Targets) (out head s : ℕ) (t : Test) (x w : Code) (y : Loop) (n : Next)
    → TakesNext a b got → head ≡ suc (open_in b).label → out ≡ label_of n got.behind
    → Adds b c (Close s (Jump head) ∷ []) → EmitsTest c d t got.first out → EmitsCode d e x (loop out head) onward → EmitsCode e f w y (jump s head) → EmitsCode a f (repeat s false t x w) y n
emits_onward a b c d e f got out head s t x w y n take ehead eout sc st sx sw =
    let o = open_in a in
    let H = suc o.label in
    let p = goes_test t (fresh o) in
    let q = goes x false p in
    let O = label_of n (goes w true q).label in
    let Y = loop O H in
    take_from (targets_test t (fresh o) ++ (targets x p ++ targets w q)) take (λ eg eo.
    let e0 : head ≡ H = ehead ∙ ap (λ (o : Open). suc o.label) eo in
    let e1 : out ≡ O = eout ∙ ap (λ (g : Targets). label_of n g.behind) eg in
    let e2 : got.first ≡ p.label = ap (λ (g : Targets). g.first) eg in
    let ey : loop out head ≡ Y = ap (λ l. loop l head) e1 ∙ ap (loop O) e0 in
    then_from [] (targets_test t (fresh o) ++ (targets x p ++ targets w q)) o eo (close_at b c s head H e0 sc) (λ ef.
    then_from (targets_test t (fresh o)) (targets x p ++ targets w q) (fresh o) ef (test_at c d t got.first out p.label O (fresh o) e2 e1 ef st) (λ op.
    let ep : open_in d ≡ p = op ∙ (runs_test t p.label O (fresh o)).by in
    then_from (targets x p) (targets w q) p ep (code_at d e x (loop out head) Y onward onward p ey refl ep sx) (λ op2.
    code_at e f w y y (jump s head) (jump s H) q refl (ap (jump s) e0) (op2 ∙ (runs x Y onward p).by) sw))))

closes_own : (own : Bool) (s l : ℕ) → closes (if own then jump s l else onward) ≡ own
closes_own true s l = refl
closes_own false s l = refl

pub emits_until : (a b c d e : Emitter) (got : Targets) (out head s : ℕ) (own : Bool) (turn : Next) (x : Code) (t : Test) (y : Loop) (n : Next)
    → TakesNext a b got → head ≡ suc (open_in b).label → out ≡ label_of n got.behind → turn ≡ (if own then jump s got.first else onward)
    → Adds b c (Close s (Jump head) ∷ []) → EmitsCode c d x (loop out got.first) turn → EmitsTest d e t head out → EmitsCode a e (until s own x t) y n
emits_until a b c d e got out head s own turn x t y n take ehead eout eturn sc sx st =
    let o = open_in a in
    let H = suc o.label in
    let q = goes x own (fresh o) in
    let O = label_of n (goes_test t q).label in
    let Y = loop O q.label in
    let N : Next = if own then jump s q.label else onward in
    take_from (targets x (fresh o) ++ targets_test t q) take (λ eg eo.
    let e0 : head ≡ H = ehead ∙ ap (λ (o : Open). suc o.label) eo in
    let e1 : out ≡ O = eout ∙ ap (λ (g : Targets). label_of n g.behind) eg in
    let e2 : got.first ≡ q.label = ap (λ (g : Targets). g.first) eg in
    let ey : loop out got.first ≡ Y = ap (λ l. loop l got.first) e1 ∙ ap (loop O) e2 in
    let en : turn ≡ N = eturn ∙ ap (λ l. if own then jump s l else onward) e2 in
    then_from [] (targets x (fresh o) ++ targets_test t q) o eo (close_at b c s head H e0 sc) (λ ef.
    then_from (targets x (fresh o)) (targets_test t q) (fresh o) ef (code_at c d x (loop out got.first) Y turn N (fresh o) ey en ef sx) (λ op.
    test_at d e t head out H O q e0 e1 (op ∙ (runs x Y N (fresh o)).by ∙ ap (λ c. goes x c (fresh o)) (closes_own own s q.label)) st)))

pub emits_settled : (a b : Emitter) (s label : ℕ) (holds : Bool) (on_true on_false : ℕ) → label ≡ (if holds then on_true else on_false) → Adds a b (Close s (Jump label) ∷ []) → EmitsTest a b (settled s holds) on_true on_false
emits_settled a b s label holds on_true on_false e g = close_at a b s label (if holds then on_true else on_false) e g

pub emits_on : (a b c : Emitter) (s r : ℕ) (x : Code) (ends : End) (on_true on_false : ℕ) → EmitsCode a b x (loop 0 0) onward → ends ≡ branch r on_true on_false → Adds b c (Close s ends ∷ []) → EmitsTest a c (on s x r) on_true on_false
emits_on a b c s r x ends on_true on_false g e h rest is =
    let o = open_in a in
    then_from (targets x o) [] o refl g (λ op. adds_from (subst (λ z. Adds b c (Close s z ∷ [])) e h)) rest (is ∙ ap (λ l. l ++ rest) (sym (append-nil (targets x o))))

pub emits_all : (a b c d : Emitter) (got : Targets) (t u : Test) (on_true on_false : ℕ) → TakesNext a b got → EmitsTest b c t got.first on_false → EmitsTest c d u on_true on_false → EmitsTest a d (all_of t u) on_true on_false
emits_all a b c d got t u on_true on_false take st su =
    let o = open_in a in
    let p = goes_test t o in
    take_from (targets_test t o ++ targets_test u p) take (λ eg eo.
    let e2 : got.first ≡ p.label = ap (λ (g : Targets). g.first) eg in
    then_from (targets_test t o) (targets_test u p) o eo (test_at b c t got.first on_false p.label on_false o e2 refl eo st) (λ op. test_at c d u on_true on_false on_true on_false p refl refl (op ∙ (runs_test t p.label on_false o).by) su))

pub emits_one : (a b c d : Emitter) (got : Targets) (t u : Test) (on_true on_false : ℕ) → TakesNext a b got → EmitsTest b c t on_true got.first → EmitsTest c d u on_true on_false → EmitsTest a d (one_of t u) on_true on_false
emits_one a b c d got t u on_true on_false take st su =
    let o = open_in a in
    let p = goes_test t o in
    take_from (targets_test t o ++ targets_test u p) take (λ eg eo.
    let e2 : got.first ≡ p.label = ap (λ (g : Targets). g.first) eg in
    then_from (targets_test t o) (targets_test u p) o eo (test_at b c t on_true got.first on_true p.label o refl e2 eo st) (λ op. test_at c d u on_true on_false on_true on_false p refl refl (op ∙ (runs_test t on_true p.label o).by) su))

-- ---- rows

pub emits_step : (a s t : Emitter) (xs : List RCode) (i : ℕ) (x : RCode) (last whole : Code) (l : Loop) (n : Next) → i < length xs → x ≡ get_or xs i x → EmitsCode s t (code_of x) l onward
    → ((b : Emitter) → EmitsCode s b (rest_code xs i last) l n → EmitsCode a b whole l n)
    → (b : Emitter) → EmitsCode t b (rest_code xs (i + 1) last) l n → EmitsCode a b whole l n
emits_step a s t xs i x last whole l n lt is g leads b h =
    leads b (subst (λ ys. EmitsCode s b (row_of (map code_of ys) last) l n) (sym (next_in xs i x lt is)) (emits_both s t b (code_of x) (rest_code xs (i + 1) last) l n g h))

pub emits_last : (s b : Emitter) (xs : List RCode) (i : ℕ) (last : Code) (l : Loop) (n : Next) → length xs ≤ i → EmitsCode s b last l n → EmitsCode s b (rest_code xs i last) l n
emits_last s b xs i last l n le g = subst (λ ys. EmitsCode s b (row_of (map code_of ys) last) l n) (sym (drop_all i xs le)) g
