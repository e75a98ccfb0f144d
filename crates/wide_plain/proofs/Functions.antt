-- Functions behind functions, and that a valid program passes few registers.
use Rattle.std.proofs.Common.{◌≡◌, ℕ, ◌+◌, ◌-◌, ◌<◌, ◌≤◌, List, [], ◌∷◌, ◌++◌, Option, Some, None, length, take, get_or, slice_get, refl, sym, ap, ap₂, ◌∙◌, subst, ⊎_elim, arith}
use Rattle.std.specs.Prelude.{MatchOption}
use Rattle.std.specs.List.{All}
use Rattle.std.proofs.lemmas.Bool.{cases_lt}
use Rattle.std.proofs.lemmas.List.{take_more, take_all, get_or_default}
use mathlib.Core.Path.{fun_ext}
use Rattle.ib_meaning.specs.declared.place.Place.{Place}
use Rattle.tac_core.specs.declared.code.End.{End}
use Rattle.tac_core.specs.declared.code.End.TheVariants.{Jump, Branch, Call, Ret}
use Rattle.tac_core.specs.declared.code.TacFunc.{TacFunc}
use Rattle.tac_core.specs.Program.{Program}
use Rattle.tac_core.specs.Rules.{IsValid, IsGoodFunc, IsGoodBlock, IsGoodEnd}
use Rattle.tac_core.proofs.Lists.{All-get}
use Rattle.wide_core.specs.declared.code.WideFunc.{WideFunc}
use Rattle.wide_core.specs.declared.code.RawCode.{RawCode}
use Rattle.plain_code.specs.Plain.{numbered, start, all_items, func_items, func_from, funcs_from, plain, HasFewSlots}
use Rattle.wide_plain.specs.declared.emitter.Emitter.{Emitter}
use Rattle.wide_plain.specs.declared.starts.Starts.{Starts}
use Rattle.wide_plain.specs.Emitted.{Emits, AreStarts, word_of, args_of, PassFew}
use Rattle.wide_plain.specs.Made.{IsPlainFunc, NeedsFewSlots}

-- ---- a function

module _ (low : ℕ) (places : List Place) where
  -- the words of all its blocks are the function's
  pub blocks_made : (n : ℕ) (f : TacFunc) (starts : Starts) (a b : Emitter) → a.words ≡ [] → a.number ≡ n → AreStarts low f.blocks starts → Emits (all_items low places (word_of starts) f.blocks) a b → (b.words ≡ numbered n (func_items low places f)) × (b.number ≡ n + length (func_items low places f))
  blocks_made n f starts a b empty first table made =
      let at : word_of starts ≡ start low places f.blocks = fun_ext (λ l. table.each places l) in
      let e : all_items low places (word_of starts) f.blocks ≡ func_items low places f = ap (λ to. all_items low places to f.blocks) at in (
        made.words ∙ ap (λ ws. ws ++ numbered a.number (all_items low places (word_of starts) f.blocks)) empty ∙ ap (λ m. numbered m (all_items low places (word_of starts) f.blocks)) first ∙ ap (numbered n) e,
        made.next ∙ ap (λ m. m + length (all_items low places (word_of starts) f.blocks)) first ∙ ap (λ xs. n + length xs) e,
      )

  -- ---- functions

  -- the number behind the operations of these functions
  abbrev pub behind : ℕ → List TacFunc → ℕ
  behind n [] = n
  behind n (f ∷ fs) = behind (n + length (func_items low places f)) fs

  behind_push : (n : ℕ) (fs : List TacFunc) (f : TacFunc) → behind n (fs ++ f ∷ []) ≡ behind n fs + length (func_items low places f)
  behind_push n [] f = refl
  behind_push n (g ∷ fs) f = behind_push (n + length (func_items low places g)) fs f

  funcs_push : (n : ℕ) (fs : List TacFunc) (f : TacFunc) → funcs_from low places n (fs ++ f ∷ []) ≡ funcs_from low places n fs ++ func_from low places (behind n fs) f ∷ []
  funcs_push n [] f = refl
  funcs_push n (g ∷ fs) f = ap (λ ws. func_from low places n g ∷ ws) (funcs_push (n + length (func_items low places g)) fs f)

  -- the first functions are made
  pub record Made (funcs : List TacFunc) (i : ℕ) (list : List WideFunc) (number : ℕ) : Type 0 where
    pub all : list ≡ funcs_from low places 1 (take i funcs)
    pub next : number ≡ behind 1 (take i funcs)
    pub few : (k : ℕ) (d : TacFunc) → k < i → NeedsFewSlots low (get_or funcs k d)

  pub made_none : (funcs : List TacFunc) → Made funcs 0 [] 1
  made_none funcs = record { all = refl; next = refl; few = λ k d lt. absurd (omega arith) }

  pub made_more : (funcs : List TacFunc) (i : ℕ) (f : TacFunc) (list new : List WideFunc) (w : WideFunc) (number next : ℕ) → i < length funcs → f ≡ get_or funcs i f → Made funcs i list number → IsPlainFunc low places number f w next → NeedsFewSlots low f → new ≡ list ++ w ∷ [] → Made funcs (i + 1) new next
  made_more funcs i f list new w number next lt is h made few push =
      let e : take (i + 1) funcs ≡ take i funcs ++ f ∷ [] = take_more funcs i f lt ∙ ap (λ y. take i funcs ++ y ∷ []) (sym is) in
      record {
        all =
            push ∙ ap (λ (ws : List WideFunc). ws ++ w ∷ []) h.all ∙ ap (λ (v : WideFunc). funcs_from low places 1 (take i funcs) ++ v ∷ []) (made.func ∙ ap (λ m. func_from low places m f) h.next)
            ∙ sym (funcs_push 1 (take i funcs) f) ∙ ap (funcs_from low places 1) (sym e);
        next = made.next ∙ ap (λ m. m + length (func_items low places f)) h.next ∙ sym (behind_push 1 (take i funcs) f) ∙ ap (behind 1) (sym e);
        few = λ k d below.
            ⊎_elim
            (λ early. h.few k d early)
            (λ late.
            let same : k ≡ i = omega arith in
            subst (λ n. NeedsFewSlots low (get_or funcs n d)) (sym same)
            (subst (λ g. NeedsFewSlots low g) (is ∙ get_or_default funcs i f d lt) few))
            (cases_lt k i);
      }

  pub made_all : (funcs : List TacFunc) (i : ℕ) (list : List WideFunc) (number : ℕ) → length funcs ≤ i → Made funcs i list number → list ≡ funcs_from low places 1 funcs
  made_all funcs i list number le h = h.all ∙ ap (funcs_from low places 1) (take_all i funcs le)

-- ---- a program

abbrev pub code_of : List ℕ → List WideFunc → RawCode
code_of image funcs = record { image = image; funcs = funcs }

pub plain_made : (p : Program) (low low' : ℕ) (places : List Place) (fs : List TacFunc) (image : List ℕ) (funcs : List WideFunc) → low' ≡ low → places ≡ p.places → fs ≡ p.funcs → image ≡ p.image → funcs ≡ funcs_from low' places 1 fs → code_of image funcs ≡ plain (low + 8) p
unfolding plain
plain_made p low low' places fs image funcs l at of e made =
    let s : low ≡ low + 8 - 8 = omega arith in
    ap₂ code_of e
    (made ∙ ap (λ n. funcs_from n places 1 fs) (l ∙ s) ∙ ap (λ ps. funcs_from (low + 8 - 8) ps 1 fs) at ∙ ap (funcs_from (low + 8 - 8) p.places 1) of)

pub few_made : (p : Program) (low : ℕ) (fs : List TacFunc) → fs ≡ p.funcs → All (NeedsFewSlots low) fs → HasFewSlots (low + 8) p
few_made p low fs of few =
    subst (λ (gs : List TacFunc). All (λ (f : TacFunc). f.regs - (low + 8 - 8) ≤ 1048576) gs) of (λ k d lt. let e : low + 8 - 8 ≡ low = omega arith in subst (λ n. (get_or fs k d).regs - n ≤ 1048576) (sym e) (few k d lt))

-- ---- a valid program passes few registers

module _ (places : ℕ) (funcs : List TacFunc) where
  takes_few : (o : Option TacFunc) (n : ℕ) → ((f : TacFunc) → o ≡ Some f → IsGoodFunc places funcs f) → MatchOption o ⊥ (λ f. n ≡ length f.params) → n ≤ 8
  takes_few None n good takes = absurd takes
  takes_few (Some f) n good takes = let few = (good f refl).few in omega (arith, few, takes)

  passes_few : (regs blocks : ℕ) (e : End) → All (IsGoodFunc places funcs) funcs → IsGoodEnd regs blocks funcs e → args_of e ≤ 8
  passes_few regs blocks (Jump l) all good = omega arith
  passes_few regs blocks (Branch r y n) all good = omega arith
  passes_few regs blocks (Call d f args l) all good = takes_few (slice_get funcs f) (length args) (λ g is. All-get (IsGoodFunc places funcs) funcs f g all is) good.3
  passes_few regs blocks (Ret r) all good = omega arith

pub valid_passes : (p : Program) → IsValid p → PassFew p.funcs
valid_passes p valid i d lt j e lt' =
    let f = get_or p.funcs i d in
    let b : IsGoodBlock f.regs (length f.blocks) (length p.places) p.funcs (get_or f.blocks j e) = (valid.each i d lt).blocks j e lt' in
    passes_few (length p.places) p.funcs f.regs (length f.blocks) (get_or f.blocks j e).«end» valid.each b.ends
