-- Law of an array that a closure makes entry by entry: where each call keeps what is known of what the closure holds, and so
-- gives an entry that is right for its number, each entry is right.
use Rattle.std.proofs.Common.{◌≡◌, ℕ, zero, suc, ◌+◌, ◌<◌, List, slice_index_or, sym, subst, arith}
use Rattle.std.specs.Array.{IsFromFnResult, IsFromFnResultFrom}
use denote.Param.Members.{Mut, Called}

module _ {F B : Type 0} (g : Mut F (ℕ × Unit {0}) B) (Holds : F → Type 0) (Right : ℕ → B → Type 0)
    (keeps : (f : F) (i : ℕ) (x : B) (f' : F) → Holds f → Called g f (i, tt) x f' → Holds f' × Right i x) where
  -- the entries from one on, by how far behind it they stand
  made_from : (f : F) (made : List B) (i n k at : ℕ) (d : B) → IsFromFnResultFrom g f made i n → Holds f → k < n → at ≡ i + k
      → Right at (slice_index_or made at d)
  made_from f made i zero k at d each h l e = absurd (let z : ⊥ = omega arith in z)
  made_from f made i (suc n) zero at d each h l e =
      let (f', x, is, call, more) = each in
      let here : i ≡ at = omega arith in
      subst (λ (v : ℕ). Right v (slice_index_or made v d)) here (subst (Right i) (sym (is.1 d)) (keeps f i x f' h call).1)
  made_from f made i (suc n) (suc k) at d each h l e =
      let (f', x, is, call, more) = each in
      made_from f' made (i + 1) n k at d more (keeps f i x f' h call).0 (omega arith) (omega arith)

  -- all of them
  pub made_right : (f : F) (made : List B) (n : ℕ) (d : B) → IsFromFnResult g f made n → Holds f → (i : ℕ) → i < n
      → Right i (slice_index_or made i d)
  made_right f made n d all h i l = made_from f made 0 n i i d all.each h l (omega arith)
