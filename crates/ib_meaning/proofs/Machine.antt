-- A machine's meaning is steady, and its ways compose.
use Rattle.std.proofs.Common.{◌≡◌, ℕ, zero, suc, ◌+◌, ◌≤◌, List, [], ◌++◌, refl, sym, ap, ◌∙◌, subst, append_assoc, add_assoc, arith}
use Rattle.std.proofs.lemmas.List.{append-nil}
use Rattle.ib_meaning.specs.Agreement.{Finish, Report, More, Over, Meaning, out_of, IsPrefix, Keeps, IsSteady}
use Rattle.ib_meaning.specs.Machine.{Step, Goes, Stops, Machine, continue, run, means, Reaches, Halts, Comes, Ends}
use Rattle.ib_meaning.proofs.Agreement.{prefix_refl, prefix_trans, keeps_refl}

module _ {S : Type 0} (machine : Machine S) where
  continue_grows : (rest : S → List ℕ → List ℕ → Report) → ((s : S) (left out : List ℕ) → IsPrefix out (out_of (rest s left out))) → (step : Step S) (out : List ℕ) → IsPrefix out (out_of (continue rest step out))
  continue_grows rest grows (Goes next left printed) out =
      prefix_trans out (out ++ printed) (out_of (rest next left (out ++ printed))) (printed, refl) (grows next left (out ++ printed))
  continue_grows rest grows (Stops finish left printed) out = (printed, refl)

  run_grows : (n : ℕ) (s : S) (left out : List ℕ) → IsPrefix out (out_of (run machine n s left out))
  run_grows zero s left out = prefix_refl out
  run_grows (suc n) s left out = continue_grows (run machine n) (run_grows n) (machine s left) out

  continue_keeps : (f g : S → List ℕ → List ℕ → Report) → ((s : S) (left out : List ℕ) → Keeps (f s left out) (g s left out)) → (step : Step S) (out : List ℕ) → Keeps (continue f step out) (continue g step out)
  continue_keeps f g keeps (Goes next left printed) out = keeps next left (out ++ printed)
  continue_keeps f g keeps (Stops finish left printed) out = refl

  run_keeps : (n m : ℕ) → n ≤ m → (s : S) (left out : List ℕ) → Keeps (run machine n s left out) (run machine m s left out)
  run_keeps zero m le s left out = run_grows m s left out
  run_keeps (suc n) zero le s left out = absurd (omega arith)
  run_keeps (suc n) (suc m) le s left out =
      continue_keeps (run machine n) (run machine m) (run_keeps n m (omega arith)) (machine s left) out

  pub means_steady : (start : S) → IsSteady (means machine start)
  means_steady start = record { later = λ input n m le. run_keeps n m le start input [] }

  pub reach_one : (s s' : S) (left left' printed : List ℕ) → machine s left ≡ Goes s' left' printed → Reaches machine 1 s left printed s' left'
  reach_one s s' left left' printed e = record {
    by = λ n out.
        let one : 1 + n ≡ suc n = omega arith in
        ap (λ k. run machine k s left out) one ∙ ap (λ step. continue (run machine n) step out) e;
  }

  pub halt_one : (s : S) (left left' printed : List ℕ) (finish : Finish) → machine s left ≡ Stops finish left' printed → Halts machine 1 s left printed finish left'
  halt_one s left left' printed finish e = record {
    by = λ n out.
        let one : 1 + n ≡ suc n = omega arith in
        ap (λ k. run machine k s left out) one ∙ ap (λ step. continue (run machine n) step out) e;
  }

  pub reach_none : (s : S) (left : List ℕ) → Reaches machine 0 s left [] s left
  reach_none s left = record {
    by = λ n out.
        let same : 0 + n ≡ n = omega arith in
        ap (λ k. run machine k s left out) same ∙ ap (λ o. run machine n s left o) (sym (append-nil out));
  }

pub reach_trans : {S : Type 0} {machine : Machine S} {j k : ℕ} {s s1 s2 : S} {left left1 left2 p q : List ℕ} → Reaches machine j s left p s1 left1 → Reaches machine k s1 left1 q s2 left2 → Reaches machine (j + k) s left (p ++ q) s2 left2
reach_trans {S} {machine} {j} {k} {s} {s1} {s2} {left} {left1} {left2} {p} {q} r r' = record {
  by = λ n out.
      ap (λ i. run machine i s left out) (add_assoc j k n) ∙ r.by (k + n) out ∙ r'.by n (out ++ p)
      ∙ ap (λ o. run machine n s2 left2 o) (append_assoc out p q);
}

pub reach_halt : {S : Type 0} {machine : Machine S} {j k : ℕ} {s s1 : S} {left left1 left2 p q : List ℕ} {finish : Finish} → Reaches machine j s left p s1 left1 → Halts machine k s1 left1 q finish left2 → Halts machine (j + k) s left (p ++ q) finish left2
reach_halt {S} {machine} {j} {k} {s} {s1} {left} {left1} {left2} {p} {q} {finish} r h = record {
  by = λ n out.
      ap (λ i. run machine i s left out) (add_assoc j k n) ∙ r.by (k + n) out ∙ h.by n (out ++ p)
      ∙ ap (λ o. Over finish o left2) (append_assoc out p q);
}

module _ {S : Type 0} (machine : Machine S) where
  pub come_none : (s : S) (left out : List ℕ) → Comes machine 0 s left out s left out
  come_none s left out = record { by = λ n. let same : 0 + n ≡ n = omega arith in ap (λ k. run machine k s left out) same }

  pub come_one : (s s' : S) (left left' printed out : List ℕ) → machine s left ≡ Goes s' left' printed → Comes machine 1 s left out s' left' (out ++ printed)
  come_one s s' left left' printed out e = record { by = λ n. (reach_one machine s s' left left' printed e).by n out }

  pub come_silent : (s s' : S) (left left' out : List ℕ) → machine s left ≡ Goes s' left' [] → Comes machine 1 s left out s' left' out
  come_silent s s' left left' out e = record {
    by = λ n. (reach_one machine s s' left left' [] e).by n out ∙ ap (λ o. run machine n s' left' o) (append-nil out);
  }

  pub end_one : (s : S) (left left' out printed : List ℕ) (finish : Finish) → machine s left ≡ Stops finish left' printed → Ends machine 1 s left out finish left' (out ++ printed)
  end_one s left left' out printed finish e = record { by = λ n. (halt_one machine s left left' printed finish e).by n out }

pub come_trans : {S : Type 0} {machine : Machine S} {j k : ℕ} {s s1 s2 : S} {left left1 left2 out out1 out2 : List ℕ} → Comes machine j s left out s1 left1 out1 → Comes machine k s1 left1 out1 s2 left2 out2 → Comes machine (j + k) s left out s2 left2 out2
come_trans {S} {machine} {j} {k} {s} {left = left} {out = out} c d = record {
  by = λ n. ap (λ i. run machine i s left out) (add_assoc j k n) ∙ c.by (k + n) ∙ d.by n;
}

pub come_end : {S : Type 0} {machine : Machine S} {j k : ℕ} {s s1 : S} {left left1 left2 out out1 out2 : List ℕ} {finish : Finish} → Comes machine j s left out s1 left1 out1 → Ends machine k s1 left1 out1 finish left2 out2 → Ends machine (j + k) s left out finish left2 out2
come_end {S} {machine} {j} {k} {s} {left = left} {out = out} c d = record {
  by = λ n. ap (λ i. run machine i s left out) (add_assoc j k n) ∙ c.by (k + n) ∙ d.by n;
}
