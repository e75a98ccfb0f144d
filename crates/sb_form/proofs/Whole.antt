-- The superblocks that are formed are those of the chains.
use Rattle.std.proofs.Common.{◌≡◌, ℕ, ◌+◌, ◌<◌, List, [], ◌∷◌, ◌++◌, length, Some, None, drop, refl, sym, ap, ap₂, ◌∙◌, subst, append_assoc, add-one}
use Rattle.std.specs.Prelude.{slice_get}
use Rattle.std.proofs.lemmas.List.{append-nil, drop_more}
use Rattle.std.proofs.lemmas.Option.{get_or_from_slice_get, slice_get_within}
use Rattle.ib_meaning.specs.declared.place.Place.{Place}
use Rattle.wide_core.specs.declared.code.WideOp.{WideOp}
use Rattle.wide_core.specs.Every.{Nil, Cons}
use Rattle.tac_core.specs.declared.code.TacFunc.{TacFunc}
use Rattle.tac_core.specs.Cover.{CopiedProgram, upto}
use Rattle.tac_core.specs.Rules.{IsValid}
use Rattle.tac_core.specs.Traces.{Labels, AreFormed, FormedProgram}
use Rattle.sb_core.specs.Facts.{IsStraight}
use Rattle.sb_core.specs.Program.{SuperblockCode, SuperblockProgram}
use Rattle.sb_formed.specs.Formed.{Drafted, chain_at, chain_drafts, drafted_chain, drafted_labels, drafted, formed}
use Rattle.sb_formed.proofs.Found.{first_label}
use Rattle.sb_formed.proofs.Heads.{IsFormed, good_block, head_below, is_formed}
use Rattle.sb_formed.proofs.Kept.{chain_straight}
use Rattle.sb_formed.proofs.Order.{every_append}
use Rattle.sb_form.specs.Growing.{AreInRange, Grown, GrownBy, LacksBy, AreAllInRange, GivesStraight, HasGoodOps}
use Rattle.sb_form.specs.Heads.{AreLabels}
use Rattle.sb_form.proofs.Growing.{by_none, by_on, by_less}

-- ---- one chain

pub straight_of : (places : List Place) (f : TacFunc) (chain : Labels) (head n m : ℕ) (items : List WideOp) → slice_get chain 0 ≡ Some head → GivesStraight places f chain → 0 < n → Grown (chain_drafts places f chain) n [] m items → IsStraight items
straight_of places f [] head n m items e straight lt g = cc
straight_of places f (l ∷ ls) head n m items e straight lt g =
    subst IsStraight (sym g.items) (straight n lt (subst AreInRange g.items (g.ranges Nil)))

pub formed_one : (places : List Place) (number : ℕ) (f : TacFunc) (chain : Labels) (head n m : ℕ) (items : List WideOp) (old new : List SuperblockCode) → slice_get chain 0 ≡ Some head → Grown (chain_drafts places f chain) n [] m items → new ≡ old ++ record { func = number; head = head; items = items } ∷ [] → GrownBy (drafted_chain places number f chain) n old m new
formed_one places number f [] head n m items old new e g grown = cc
formed_one places number f (l ∷ ls) head n m items old new e g grown =
    let same : l ≡ head = cc in
    let one : SuperblockCode = record { func = number; head = head; items = items } in record {
      all = grown ∙ ap₂ (λ h xs. old ++ (let b : SuperblockCode = record { func = number; head = h; items = xs } in b) ∷ []) (sym same) g.items;
      next = g.next;
      ranges = λ r. subst AreAllInRange (sym grown) (every_append (λ (b : SuperblockCode). AreInRange b.items) old (one ∷ []) r (Cons one [] (g.ranges Nil) Nil));
    }

pub formed_none : (places : List Place) (number : ℕ) (f : TacFunc) (chain : Labels) (n : ℕ) (old : List SuperblockCode) → slice_get chain 0 ≡ None → GrownBy (drafted_chain places number f chain) n old n old
formed_none places number f [] n old e = by_none n old
formed_none places number f (l ∷ ls) n old e = cc

-- ---- one function

labels_append : (places : List Place) (number : ℕ) (f : TacFunc) (chains : List Labels) (xs ys : List ℕ) → drafted_labels places number f chains (xs ++ ys) ≡ drafted_labels places number f chains xs ++ drafted_labels places number f chains ys
labels_append places number f chains [] ys = refl
labels_append places number f chains (x ∷ xs) ys =
    ap (λ l. drafted_chain places number f (chain_at chains x) ++ l) (labels_append places number f chains xs ys)
    ∙ sym (append_assoc (drafted_chain places number f (chain_at chains x)) (drafted_labels places number f chains xs) (drafted_labels places number f chains ys))

pub labels_more : (places : List Place) (number : ℕ) (f : TacFunc) (chains : List Labels) (label : ℕ) (chain : Labels) (n m k : ℕ) (a b c : List SuperblockCode) → chain ≡ chain_at chains label → GrownBy (drafted_labels places number f chains (upto label)) n a m b → GrownBy (drafted_chain places number f chain) m b k c → GrownBy (drafted_labels places number f chains (upto (label + 1))) n a k c
labels_more places number f chains label chain n m k a b c e g h =
    let own : List Drafted = drafted_chain places number f chain in
    let split : drafted_labels places number f chains (upto (label + 1)) ≡ drafted_labels places number f chains (upto label) ++ own =
    ap (λ j. drafted_labels places number f chains (upto j)) (add-one label) ∙ labels_append places number f chains (upto label) (label ∷ [])
    ∙ ap (λ l. drafted_labels places number f chains (upto label) ++ l) (append-nil (drafted_chain places number f (chain_at chains label)) ∙ ap (drafted_chain places number f) (sym e)) in
    subst (λ ds. GrownBy ds n a k c) (sym split) (by_on (drafted_labels places number f chains (upto label)) own n m k a b c g h)

-- ---- all functions

drop_here : {X : Type 0} (xs : List X) (i : ℕ) (x : X) → slice_get xs i ≡ Some x → drop i xs ≡ x ∷ drop (i + 1) xs
drop_here xs i x e = drop_more xs i x (slice_get_within xs i x e) ∙ ap (λ y. y ∷ drop (i + 1) xs) (get_or_from_slice_get xs i x x e)

pub funcs_less : (places : List Place) (funcs : List TacFunc) (traces : List (List Labels)) (whole : List Drafted) (i number : ℕ) (f : TacFunc) (chains : List Labels) (m k : ℕ) (b c : List SuperblockCode) → slice_get funcs i ≡ Some f → slice_get traces i ≡ Some chains → number ≡ i → LacksBy (drafted places i (drop i funcs) (drop i traces)) whole m b → GrownBy (drafted_labels places number f chains (upto (length f.blocks))) m b k c → LacksBy (drafted places (i + 1) (drop (i + 1) funcs) (drop (i + 1) traces)) whole k c
funcs_less places funcs traces whole i number f chains m k b c at there same l g =
    let rest : List Drafted = drafted places (i + 1) (drop (i + 1) funcs) (drop (i + 1) traces) in
    let own : List Drafted = drafted_labels places number f chains (upto (length f.blocks)) in
    let split : drafted places i (drop i funcs) (drop i traces) ≡ own ++ rest =
    ap₂ (drafted places i) (drop_here funcs i f at) (drop_here traces i chains there)
    ∙ ap (λ j. drafted_labels places i f chains (upto (length f.blocks)) ++ drafted places j (drop (i + 1) funcs) (drop (i + 1) traces)) (sym (add-one i))
    ∙ ap (λ j. drafted_labels places j f chains (upto (length f.blocks)) ++ rest) (sym same) in
    by_less own rest whole m k b c (subst (λ ds. LacksBy ds whole m b) split l) g

module _ (p : FormedProgram) (valid : IsValid p.copied.tac) (are : AreFormed p.copied.tac.funcs p.traces) (func : ℕ) (f : TacFunc) (at : slice_get p.copied.tac.funcs func ≡ Some f) where
  pub good_ops : HasGoodOps f
  good_ops l b is k d lt =
      let i = is_formed p valid are func f at in
      ((good_block p.copied.tac.funcs (length p.copied.tac.places) f i.0 i.2 l b is).ops k d lt).act.number

  module _ (chains : List Labels) (there : slice_get p.traces func ≡ Some chains) where
    formed_func : IsFormed p.copied.tac.funcs (length p.copied.tac.places) f chains
    formed_func =
        let i = is_formed p valid are func f at in
        let same : Some i.0 ≡ Some chains = sym i.1 ∙ there in
        let one : i.0 ≡ chains = cc in
        subst (λ cs. IsFormed p.copied.tac.funcs (length p.copied.tac.places) f cs) one i.2

    pub labels_are : AreLabels (length f.blocks) chains
    labels_are c [] e = tt
    labels_are c (m ∷ ms) e =
        head_below p.copied.tac.funcs (length p.copied.tac.places) f chains formed_func m (record { chain = c; more = ms; is = e })

    straight_by : (l : ℕ) (chain : Labels) → chain_at chains l ≡ chain → GivesStraight p.copied.tac.places f chain
    straight_by l [] e = tt
    straight_by l (m ∷ ms) e =
        λ n lt ranges. chain_straight p valid are func m f chains ms n at there (ap (chain_at chains) (first_label chains l m ms e) ∙ e) lt ranges

    pub all_straight : (l : ℕ) → GivesStraight p.copied.tac.places f (chain_at chains l)
    all_straight l = straight_by l (chain_at chains l) refl

-- ---- the program

pub formed_all : (p : FormedProgram) (n : ℕ) (all : List SuperblockCode) → LacksBy [] (drafted p.copied.tac.places 0 p.copied.tac.funcs p.traces) n all → all ≡ (formed p).all
unfolding formed
formed_all p n all l = sym (append-nil all) ∙ l.all

pub formed_is : (p : FormedProgram) (copied : CopiedProgram) (all : List SuperblockCode) (sb : SuperblockProgram) → sb ≡ record { copied = copied; all = all } → copied ≡ p.copied → all ≡ (formed p).all → sb ≡ formed p
unfolding formed
formed_is p copied all sb e same is =
    e ∙ ap₂ (λ d xs. let s : SuperblockProgram = record { copied = d; all = xs } in s) same is
