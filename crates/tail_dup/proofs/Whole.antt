-- A function is duplicated as its tables say, and a program function by function.
use Rattle.std.proofs.Common.{◌≡◌, ◌+◌, ◌*◌, ◌<◌, ◌≤◌, ◌++◌, ℕ, zero, suc, List, [], ◌∷◌, Option, Some, None, length, refl, sym, ap, ap₂, ◌∙◌, subst, ⊎_elim, arith, length-append}
use Rattle.std.specs.Prelude.{slice_get, map}
use Rattle.std.proofs.lemmas.Bool.{cases_lt}
use Rattle.std.specs.List.{sum_by}
use Rattle.std.proofs.lemmas.List.Sums.{sum_by-append}
use Rattle.std.proofs.lemmas.Option.{slice_get_within, slice_get_past}
use Rattle.tac_core.specs.declared.code.End.{End}
use Rattle.tac_core.specs.declared.code.End.TheVariants.{Jump, Branch, Call, Ret}
use Rattle.tac_core.specs.declared.code.Block.{Block}
use Rattle.tac_core.specs.declared.code.TacFunc.{TacFunc}
use Rattle.tac_core.specs.Program.{Program, with_funcs, func_ops}
use Rattle.tac_core.specs.Rules.{IsGoodEnd, IsGoodBlock, IsGoodFunc, IsValid}
use Rattle.tac_core.specs.Counts.{IsTargetOf}
use Rattle.tac_core.specs.Cover.{Origins, IsFuncFrom, AreFuncsFrom, Covers, IsBlockOf, origin_of, HasEachBlock, AreWithin, AreFew, upto}
use Rattle.tac_core.specs.Traces.{Labels, StandsAt, AreChains, HasNoSideEntrance, AreChainsOf, AreFormed, FormedProgram, ops_at}
use Rattle.tac_core.proofs.Lists.{slice_get_front, All-get}
use Rattle.tail_dup.specs.Duplicated.{AreCopies, IsDuplicated, IsDuplicate, HasDuplicate, AreDuplicated, origins_with, chains_with}
use Rattle.tail_dup.specs.Tables.{AreBlocks, AreAllBlocks, AreAllTargets, AreTables, IsRebuilt, AreParts, led_block}
use Rattle.tail_dup.proofs.Places.{found_at, behind_get}
use Rattle.tail_dup.proofs.Few.{copy_ops, copies_ops, func_upto}
use Rattle.tail_dup.proofs.Tails.{IsIn, of_tails}
use Rattle.tail_dup.proofs.Leads.{given_led, copy_led}
use Rattle.tail_dup.proofs.Copied.{func_from, from_itself}
use Rattle.tail_dup.proofs.Chained.{made_chains, made_entered}

pub rebuilt_duplicated : (f g : TacFunc) (chains : List Labels) (before : List (Option ℕ)) (copied : List ℕ) (copies : List (Option ℕ)) → AreChains f chains → AreAllBlocks f.blocks → AreTables f chains before copied copies → IsRebuilt f copied before copies g → IsDuplicated f chains copied g
rebuilt_duplicated f g chains before copied copies h targets t r =
    let all = r.blocks in
    record {
      name = r.name;
      params = r.params;
      regs = r.regs;
      frame = r.frame;
      long = ap length all.whole ∙ length-append all.given all.made ∙ ap₂ (λ a b. a + b) all.are_given.many all.are_made.many;
      given = λ l b is.
          let lt : l < length f.blocks = slice_get_within f.blocks l b is in
          let many = all.are_given.many in (
            led_block before copies (Some l) b,
            ap (λ z. slice_get z l) all.whole ∙ slice_get_front all.given all.made l (omega arith) ∙ all.are_given.each l b lt is,
            given_led f chains before h t.priors copied copies t.chosen t.labels l b is (targets l b is),
          );
      copied = λ i m b at is.
          let lt : i < length copied = slice_get_within copied i m at in
          let many = all.are_given.many in (
            led_block before copies None b,
            ap (λ z. slice_get z (length f.blocks + i)) all.whole ∙ behind_get all.given all.made (length f.blocks + i) i (omega arith) ∙ all.are_made.each i m b lt at is,
            copy_led f chains before h t.priors copied copies t.chosen t.labels i m b at is (targets m b is),
          );
    }

-- a copied block is a block of the function
pub copies_within : (f : TacFunc) (chains : List Labels) (copied : List ℕ) → AreChains f chains → AreCopies f chains copied → (i m : ℕ) → slice_get copied i ≡ Some m → m < length f.blocks
copies_within f chains copied h chosen i m is =
    let at = of_tails chosen.entered chains m (subst (λ z. IsIn z m) chosen.are (record { at = i; is = is })) in
    h.partition.within m at.chain at.place at.stands

end_targets : (regs n : ℕ) (funcs : List TacFunc) (e : End) → IsGoodEnd regs n funcs e → AreBlocks n e
end_targets regs n funcs (Jump l) good t is = subst (λ z. z < n) (sym is) good.1
end_targets regs n funcs (Branch r y m) good t is =
    ⊎_elim (λ e. subst (λ z. z < n) (sym e) good.1.1) (λ e. subst (λ z. z < n) (sym e) good.2.1) is
end_targets regs n funcs (Call d f args l) good t is = subst (λ z. z < n) (sym is) good.2.1
end_targets regs n funcs (Ret r) good t is = absurd is

func_targets : (places : ℕ) (funcs : List TacFunc) (f : TacFunc) → IsGoodFunc places funcs f → AreAllBlocks f.blocks
func_targets places funcs f good l b is =
    let one = All-get (IsGoodBlock f.regs (length f.blocks) places funcs) f.blocks l b good.blocks is in
    end_targets f.regs (length f.blocks) funcs b.«end» one.ends

good_at : (p : Program) → IsValid p → (i : ℕ) (f : TacFunc) → slice_get p.funcs i ≡ Some f → IsGoodFunc (length p.places) p.funcs f
good_at p valid i f is = All-get (IsGoodFunc (length p.places) p.funcs) p.funcs i f valid.each is

pub valid_targets : (p : Program) → IsValid p → AreAllTargets p.funcs
valid_targets p valid i f is = func_targets (length p.places) p.funcs f (good_at p valid i f is)

all_some : (x : Option Origins) (c o : Option TacFunc) (os : Origins) (g f : TacFunc) → x ≡ Some os → c ≡ Some g → o ≡ Some f → IsFuncFrom os g f → AreFuncsFrom x c o
all_some x c o os g f e1 e2 e3 h =
    subst (λ z. AreFuncsFrom z c o) (sym e1) (subst (λ z. AreFuncsFrom (Some os) z o) (sym e2) (subst (λ z. AreFuncsFrom (Some os) (Some g) z) (sym e3) h))

all_none : (x : Option Origins) (c o : Option TacFunc) → x ≡ None → c ≡ None → o ≡ None → AreFuncsFrom x c o
all_none x c o e1 e2 e3 =
    subst (λ z. AreFuncsFrom z c o) (sym e1) (subst (λ z. AreFuncsFrom None z o) (sym e2) (subst (λ z. AreFuncsFrom None None z) (sym e3) tt))

same_names : (xs ys : List TacFunc) → length xs ≡ length ys → ((i : ℕ) (x y : TacFunc) → slice_get xs i ≡ Some x → slice_get ys i ≡ Some y → x.name ≡ y.name) → map (λ (f : TacFunc). f.name) xs ≡ map (λ (f : TacFunc). f.name) ys
same_names [] [] e each = refl
same_names [] (y ∷ ys) e each = absurd (omega arith)
same_names (x ∷ xs) [] e each = absurd (omega arith)
same_names (x ∷ xs) (y ∷ ys) e each =
    ap₂ (λ a b. a ∷ b) (each 0 x y refl refl) (same_names xs ys (omega arith) (λ i x' y' a b. each (suc i) x' y' a b))

-- a function of the program, its chains and its duplicate
record IsFound (funcs : List TacFunc) (traces : List (List Labels)) (gs : List TacFunc) (ts : List (List Labels)) (os : List Origins) (i : ℕ) : Type 0 where
  func : TacFunc
  chains : List Labels
  func_is : slice_get funcs i ≡ Some func
  chains_is : slice_get traces i ≡ Some chains
  chained : AreChains func chains
  made : HasDuplicate func chains (slice_get gs i) (slice_get ts i) (slice_get os i)

module _ (p : Program) (traces : List (List Labels)) (gs : List TacFunc) (ts : List (List Labels)) (os : List Origins) (valid : IsValid p) (h : AreChainsOf p.funcs traces) (parts : AreParts p.funcs traces (length p.funcs) gs ts os) where
  found : (i : ℕ) → i < length p.funcs → IsFound p.funcs traces gs ts os i
  found i lt =
      let f = found_at p.funcs i lt in
      let many = h.many in
      let c = found_at traces i (omega arith) in
      record { func = f.0; chains = c.0; func_is = f.1; chains_is = c.1; chained = h.each i f.0 c.0 f.1 c.1; made = parts.each i f.0 c.0 lt f.1 c.1 }

  from_at : (i : ℕ) (t : IsFound p.funcs traces gs ts os i) → IsFuncFrom t.made.from t.made.func t.func
  from_at i t =
      let good = good_at p valid i t.func t.func_is in
      let d = t.made.is in
      subst (λ z. IsFuncFrom z t.made.func t.func) (sym d.from)
      (func_from t.func t.made.func t.chains d.copies d.func (func_targets (length p.places) p.funcs t.func good) (copies_within t.func t.chains d.copies t.chained d.copied) good.entry)

  funcs_at : (i : ℕ) → AreFuncsFrom (slice_get os i) (slice_get gs i) (slice_get p.funcs i)
  funcs_at i =
      ⊎_elim
      (λ lt. let t = found i lt in all_some _ _ _ t.made.from t.made.func t.func t.made.from_is t.made.func_is t.func_is (from_at i t))
      (λ ge.
      let many = parts.many in
      let many' = parts.many_origins in
      all_none _ _ _ (slice_get_past os i (omega arith)) (slice_get_past gs i (omega arith)) (slice_get_past p.funcs i ge))
      (cases_lt i (length p.funcs))

  name_at : (i : ℕ) (x y : TacFunc) → slice_get gs i ≡ Some x → slice_get p.funcs i ≡ Some y → x.name ≡ y.name
  name_at i x y is is' =
      let t = found i (slice_get_within p.funcs i y is') in
      let both : Some x ≡ Some t.made.func = sym is ∙ t.made.func_is in
      let one : x ≡ t.made.func = cc in
      let both' : Some t.func ≡ Some y = sym t.func_is ∙ is' in
      let two : t.func ≡ y = cc in
      ap (λ (f : TacFunc). f.name) one ∙ t.made.is.func.name ∙ ap (λ (f : TacFunc). f.name) two

  pub parts_cover : Covers os (with_funcs p gs) p
  parts_cover = record { image = refl; places = refl; named = same_names gs p.funcs parts.many name_at; funcs = funcs_at }

  chains_at : (i : ℕ) (g : TacFunc) (new : List Labels) → slice_get gs i ≡ Some g → slice_get ts i ≡ Some new → (t : IsFound p.funcs traces gs ts os i) → (t.made.func ≡ g) × (chains_with t.chains (length t.func.blocks) t.made.is.copies ≡ new)
  chains_at i g new is is' t =
      let both : Some t.made.func ≡ Some g = sym t.made.func_is ∙ is in
      let one : t.made.func ≡ g = cc in
      let both' : Some t.made.chained ≡ Some new = sym t.made.chained_is ∙ is' in
      let two : t.made.chained ≡ new = cc in
      (one, sym t.made.is.chained ∙ two)

  below : (i : ℕ) (g : TacFunc) → slice_get gs i ≡ Some g → i < length p.funcs
  below i g is = let lt : i < length gs = slice_get_within gs i g is in let many = parts.many in omega arith

  pub parts_formed : AreFormed gs ts
  parts_formed = record {
    chained = record {
      many = parts.many_chained ∙ sym parts.many;
      each = λ i g new is is'.
          let t = found i (below i g is) in
          let at = chains_at i g new is is' t in
          let d = t.made.is in
          subst (λ z. AreChains g z) at.1 (subst (λ z. AreChains z (chains_with t.chains (length t.func.blocks) d.copies)) at.0
          (made_chains t.func t.made.func t.chains d.copies t.chained d.func));
    };
    entered = λ i g new is is'.
        let t = found i (below i g is) in
        let at = chains_at i g new is is' t in
        let d = t.made.is in
        subst (λ z. HasNoSideEntrance g z) at.1 (subst (λ z. HasNoSideEntrance z (chains_with t.chains (length t.func.blocks) d.copies)) at.0
        (made_entered t.func t.made.func t.chains d.copies t.chained d.func (copies_within t.func t.chains d.copies t.chained d.copied)));
  }

  block_at : (i o : ℕ) (x : Option TacFunc) → slice_get p.funcs i ≡ x → IsBlockOf x o → (l : ℕ) × (origin_of (slice_get os i) l ≡ Some o)
  block_at i o None is h = absurd h
  block_at i o (Some f) is lt =
      let t = found i (slice_get_within p.funcs i f is) in
      let both : Some t.func ≡ Some f = sym t.func_is ∙ is in
      let one : f ≡ t.func = cc in
      let within : o < length t.func.blocks = subst (λ (z : TacFunc). o < length z.blocks) one lt in
      (o, ap (λ z. origin_of z o) (t.made.from_is ∙ ap Some t.made.is.from) ∙ from_itself (length t.func.blocks) t.made.is.copies o within)

  few_at : (i : ℕ) → IsFound p.funcs traces gs ts os i → AreWithin 4 (slice_get gs i) (slice_get p.funcs i)
  few_at i t =
      let d = t.made.is in
      let n : ℕ = length t.func.blocks in
      let made : func_ops t.made.func ≡ sum_by (ops_at t.func) (origins_with n d.copies) =
      copy_ops t.made.from t.made.func t.func (from_at i t) ∙ ap (sum_by (ops_at t.func)) d.from in
      let both = sum_by-append (ops_at t.func) (upto n) d.copies in
      let copies = copies_ops (ops_at t.func) n d.copied.entered t.chains d.copies t.chained.partition d.copied.are in
      let own = func_upto t.func in
      let few : func_ops t.made.func ≤ 4 * func_ops t.func = omega arith in
      subst (λ z. AreWithin 4 z (slice_get p.funcs i)) (sym t.made.func_is) (subst (λ z. AreWithin 4 (Some t.made.func) z) (sym t.func_is) few)

  none_few : (x y : Option TacFunc) → x ≡ None → AreWithin 4 x y
  none_few x y e = subst (λ z. AreWithin 4 z y) (sym e) tt

  pub parts_few : AreFew 4 (with_funcs p gs) p
  parts_few i =
      ⊎_elim
      (λ lt. few_at i (found i lt))
      (λ ge. let many = parts.many in none_few (slice_get gs i) (slice_get p.funcs i) (slice_get_past gs i (omega arith)))
      (cases_lt i (length p.funcs))

  pub parts_whole : HasEachBlock os p
  parts_whole f o h' = block_at f o (slice_get p.funcs f) refl h'

-- one function more
pub parts_more : (funcs : List TacFunc) (traces : List (List Labels)) (i : ℕ) (f g : TacFunc) (chains made : List Labels) (from : Origins) (gs gs' : List TacFunc) (ts ts' : List (List Labels)) (os os' : List Origins) → slice_get funcs i ≡ Some f → slice_get traces i ≡ Some chains → IsDuplicate f chains g made from → gs' ≡ gs ++ g ∷ [] → ts' ≡ ts ++ made ∷ [] → os' ≡ os ++ from ∷ [] → AreParts funcs traces i gs ts os → AreParts funcs traces (i + 1) gs' ts' os'
parts_more funcs traces i f g chains made from gs gs' ts ts' os os' is is' d e1 e2 e3 h = record {
  many = ap length e1 ∙ length-append gs (g ∷ []) ∙ ap (λ k. k + 1) h.many;
  many_chained = ap length e2 ∙ length-append ts (made ∷ []) ∙ ap (λ k. k + 1) h.many_chained;
  many_origins = ap length e3 ∙ length-append os (from ∷ []) ∙ ap (λ k. k + 1) h.many_origins;
  each = each;
}
  where
    each : (j : ℕ) (f' : TacFunc) (chains' : List Labels) → j < i + 1 → slice_get funcs j ≡ Some f' → slice_get traces j ≡ Some chains' → HasDuplicate f' chains' (slice_get gs' j) (slice_get ts' j) (slice_get os' j)
    each j f' chains' lt there there' =
        let many = h.many in
        let many_chained = h.many_chained in
        let many_origins = h.many_origins in
        ⊎_elim
        (λ below.
        let old = h.each j f' chains' below there there' in
        record {
          func = old.func;
          chained = old.chained;
          from = old.from;
          func_is = ap (λ z. slice_get z j) e1 ∙ slice_get_front gs (g ∷ []) j (omega arith) ∙ old.func_is;
          chained_is = ap (λ z. slice_get z j) e2 ∙ slice_get_front ts (made ∷ []) j (omega arith) ∙ old.chained_is;
          from_is = ap (λ z. slice_get z j) e3 ∙ slice_get_front os (from ∷ []) j (omega arith) ∙ old.from_is;
          is = old.is;
        })
        (λ ge.
        let same : j ≡ i = omega arith in
        let both : Some f' ≡ Some f = sym there ∙ ap (λ z. slice_get funcs z) same ∙ is in
        let one : f ≡ f' = cc in
        let both' : Some chains' ≡ Some chains = sym there' ∙ ap (λ z. slice_get traces z) same ∙ is' in
        let two : chains ≡ chains' = cc in
        record {
          func = g;
          chained = made;
          from = from;
          func_is = ap (λ z. slice_get z j) e1 ∙ behind_get gs (g ∷ []) j 0 (omega arith);
          chained_is = ap (λ z. slice_get z j) e2 ∙ behind_get ts (made ∷ []) j 0 (omega arith);
          from_is = ap (λ z. slice_get z j) e3 ∙ behind_get os (from ∷ []) j 0 (omega arith);
          is = subst (λ z. IsDuplicate z chains' g made from) one (subst (λ z. IsDuplicate f z g made from) two d);
        })
        (cases_lt j i)

pub parts_duplicated : (funcs : List TacFunc) (traces : List (List Labels)) (gs : List TacFunc) (ts : List (List Labels)) (os : List Origins) (formed : FormedProgram) → formed.copied.tac.funcs ≡ gs → formed.traces ≡ ts → formed.copied.origins ≡ os → AreParts funcs traces (length funcs) gs ts os → AreDuplicated funcs traces formed
parts_duplicated funcs traces gs ts os formed e1 e2 e3 h = record {
  many = ap length e1 ∙ h.many;
  each = λ i f chains is is'.
      subst (λ z. HasDuplicate f chains (slice_get z i) (slice_get formed.traces i) (slice_get formed.copied.origins i)) (sym e1)
      (subst (λ z. HasDuplicate f chains (slice_get gs i) (slice_get z i) (slice_get formed.copied.origins i)) (sym e2)
      (subst (λ z. HasDuplicate f chains (slice_get gs i) (slice_get ts i) (slice_get z i)) (sym e3)
      (h.each i f chains (slice_get_within funcs i f is) is is')));
}

-- what is made of a function with its tables is its duplicate
pub duplicate_made : (f g : TacFunc) (chains made : List Labels) (from : Origins) (before before' copies copies' : List (Option ℕ)) (copied copied' : List ℕ) → AreChains f chains → AreAllBlocks f.blocks → AreTables f chains before copied copies → copied' ≡ copied → before' ≡ before → copies' ≡ copies → IsRebuilt f copied' before' copies' g → made ≡ chains_with chains (length f.blocks) copied → from ≡ origins_with (length f.blocks) copied → IsDuplicate f chains g made from
duplicate_made f g chains made from before before' copies copies' copied copied' h targets t e1 e2 e3 r chained origins = record {
  copies = copied;
  copied = t.chosen;
  func = rebuilt_duplicated f g chains before copied copies h targets t
      (subst (λ z. IsRebuilt f z before copies g) e1 (subst (λ z. IsRebuilt f copied' z copies g) e2 (subst (λ z. IsRebuilt f copied' before' z g) e3 r)));
  chained = chained;
  from = origins;
}
