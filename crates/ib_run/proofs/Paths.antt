-- What a path of a machine's steps shows of its meaning and of its counts.
use Rattle.std.proofs.Common.{◌≡◌, ℕ, zero, suc, ◌+◌, ◌<◌, Bool, List, [], ◌++◌, refl, sym, ap, ◌∙◌, subst, append_assoc, arith}
use Rattle.std.proofs.lemmas.List.{append-nil}
use Rattle.ib_meaning.specs.Agreement.{Finish, Report, More, Over, IsPrefix, out_of}
use Rattle.ib_meaning.specs.Machine.{Machine, Step, Goes, Stops, continue, run, means, Reaches}
use Rattle.ib_meaning.proofs.Machine.{reach_none, reach_one, reach_trans}
use Rattle.ib_meaning.proofs.Agreement.{prefix_trans}
use Rattle.ib_run.specs.Path.{Path, Start, Then, printed_of, one_if, count_of, count_behind}

module _ {S : Type 0} (machine : Machine S) where
  path_reaches : {s : S} {input : List ℕ} {k : ℕ} {t : S} {left printed : List ℕ} → Path machine s input k t left printed → Reaches machine k s input printed t left
  path_reaches {s} {input} Start = reach_none machine s input
  path_reaches {s} {input} (Then {k} {t} {left} {printed} u rest more path is) =
      let one : k + 1 ≡ suc k = omega arith in
      subst (λ n. Reaches machine n s input (printed ++ more) u rest) one (reach_trans (path_reaches path) (reach_one machine t u left rest more is))

  -- after the path the machine goes on, having printed this
  pub path_more : {s : S} {input : List ℕ} {k : ℕ} {t : S} {left printed : List ℕ} → Path machine s input k t left printed → means machine s input k ≡ More printed left
  path_more {s} {input} {k} {t} {left} {printed} path =
      let all : k + 0 ≡ k = omega arith in
      ap (λ n. run machine n s input []) (sym all) ∙ (path_reaches path).by 0 []

  behind : {s : S} {input : List ℕ} {k : ℕ} {t : S} {left printed : List ℕ} → Path machine s input k t left printed → (n : ℕ) → k < n → (j : ℕ) × (n ≡ k + suc j) × (means machine s input n ≡ continue (run machine j) (machine t left) printed)
  behind {s} {input} {k} {t} {left} {printed} path n lt =
      let j : ℕ = further k n lt in
      let is : n ≡ k + suc j = further_is k n lt in
      (j, is, ap (λ m. run machine m s input []) is ∙ (path_reaches path).by (suc j) [])
    where
      further : (k n : ℕ) → k < n → ℕ
      further k zero lt = absurd (omega arith)
      further zero (suc n) lt = n
      further (suc k) (suc n) lt = further k n (omega arith)

      further_is : (k n : ℕ) (lt : k < n) → n ≡ k + suc (further k n lt)
      further_is k zero lt = absurd (omega arith)
      further_is zero (suc n) lt = omega arith
      further_is (suc k) (suc n) lt = let e = further_is k n (omega arith) in omega arith

  -- where the next step is the last one, the meaning is over from then on
  pub path_over : {s : S} {input : List ℕ} {k : ℕ} {t : S} {left printed : List ℕ} → Path machine s input k t left printed → (finish : Finish) (rest more : List ℕ) → machine t left ≡ Stops finish rest more → (n : ℕ) → k < n → means machine s input n ≡ Over finish (printed ++ more) rest
  path_over {printed = printed} path finish rest more is n lt =
      let b = behind path n lt in b.2 ∙ ap (λ step. continue (run machine b.0) step printed) is

  step_grows : (rest : S → (left out : List ℕ) → Report) → ((s : S) (left out : List ℕ) → IsPrefix out (out_of (rest s left out))) → (step : Step S) (out : List ℕ) → IsPrefix out (out_of (continue rest step out))
  step_grows rest grow (Goes next left printed) out =
      prefix_trans out (out ++ printed) (out_of (rest next left (out ++ printed))) (printed, refl) (grow next left (out ++ printed))
  step_grows rest grow (Stops finish left printed) out = (printed, refl)

  grows : (j : ℕ) (s : S) (left out : List ℕ) → IsPrefix out (out_of (run machine j s left out))
  grows zero s left out = ([], append-nil out)
  grows (suc j) s left out = step_grows (run machine j) (grows j) (machine s left) out

  step_begins : (j : ℕ) (step : Step S) (out part : List ℕ) → IsPrefix part (printed_of step) → IsPrefix (out ++ part) (out_of (continue (run machine j) step out))
  step_begins j (Goes next left printed) out part p =
      prefix_trans (out ++ part) (out ++ printed) (out_of (run machine j next left (out ++ printed)))
      (p.0, append_assoc out part p.0 ∙ ap (λ l. out ++ l) p.1)
      (grows j next left (out ++ printed))
  step_begins j (Stops finish left printed) out part p = (p.0, append_assoc out part p.0 ∙ ap (λ l. out ++ l) p.1)

  -- a beginning of what the next step prints, behind what the path printed, begins an output of the meaning
  pub path_begins : {s : S} {input : List ℕ} {k : ℕ} {t : S} {left printed : List ℕ} → Path machine s input k t left printed → (part : List ℕ) → IsPrefix part (printed_of (machine t left)) → (n : ℕ) → k < n → IsPrefix (printed ++ part) (out_of (means machine s input n))
  path_begins {t = t} {left = left} {printed = printed} path part p n lt =
      let b = behind path n lt in
      subst (λ r. IsPrefix (printed ++ part) (out_of r)) (sym b.2) (step_begins b.0 (machine t left) printed part p)

  module _ (test : S → Bool) where
    count_from : {s : S} {input : List ℕ} {k : ℕ} {t : S} {left printed : List ℕ} → Path machine s input k t left printed → (n : ℕ) → count_of machine test (k + n) s input ≡ count_of machine test k s input + count_of machine test n t left
    count_from {s} {input} Start n = let e : 0 + n ≡ n = omega arith in ap (λ m. count_of machine test m s input) e ∙ omega arith
    count_from {s} {input} (Then {k} {t} {left} {printed} u rest more path is) n =
        let long : suc k + n ≡ k + suc n = omega arith in
        let short : suc k ≡ k + 1 = omega arith in
        let far = ap (λ m. count_of machine test m s input) long ∙ count_from path (suc n)
        ∙ ap (λ step. count_of machine test k s input + (one_if (test t) + count_behind (count_of machine test n) step)) is in
        let near = ap (λ m. count_of machine test m s input) short ∙ count_from path 1
        ∙ ap (λ step. count_of machine test k s input + (one_if (test t) + count_behind (count_of machine test 0) step)) is in
        omega (arith, far, near)

    -- one step more counts the state that it is taken from
    pub count_next : {s : S} {input : List ℕ} {k : ℕ} {t : S} {left printed : List ℕ} → Path machine s input k t left printed → (u : S) (rest more : List ℕ) → machine t left ≡ Goes u rest more → count_of machine test (suc k) s input ≡ count_of machine test k s input + one_if (test t)
    count_next {s} {input} {k} {t} path u rest more is =
        let short : suc k ≡ k + 1 = omega arith in
        let near = ap (λ m. count_of machine test m s input) short ∙ count_from path 1
        ∙ ap (λ step. count_of machine test k s input + (one_if (test t) + count_behind (count_of machine test 0) step)) is in
        omega (arith, near)

    -- behind the last step nothing is counted
    pub count_last : {s : S} {input : List ℕ} {k : ℕ} {t : S} {left printed : List ℕ} → Path machine s input k t left printed → (finish : Finish) (rest more : List ℕ) → machine t left ≡ Stops finish rest more → (n : ℕ) → k < n → count_of machine test n s input ≡ count_of machine test k s input + one_if (test t)
    count_last {s} {input} {k} {t} path finish rest more is n lt =
        let b = behind path n lt in
        let far = ap (λ m. count_of machine test m s input) b.1 ∙ count_from path (suc b.0)
        ∙ ap (λ step. count_of machine test k s input + (one_if (test t) + count_behind (count_of machine test b.0) step)) is in
        omega (arith, far)
