-- What the operations promise allows one result for each input: what comes back, the state, and every word that is lent.
use mathlib.Core.Path.{◌≡◌, sym, ◌∙◌, ap}
use mathlib.Core.List.{List}
use Prim.Native.Nat.{ℕ}
use Rattle.std.specs.Prelude.{Result}
use Rattle.plan.specs.Apart.{started, told_start, Choosing, choose_next, Taking, take_next}
use Rattle.plan.specs.declared.State.{State}
use Rattle.plan.specs.declared.Refused.{Refused}
use Rattle.plan.specs.declared.Turn.{Turn}
use Rattle.plan.proofs.Refusals.{told_start_own}

-- of starting
pub start-once : (sheet : List ℕ) (r r' : Result State Refused) → told_start r ≡ started sheet → told_start r' ≡ started sheet → r ≡ r'
start-once sheet r r' e e' = told_start_own r r' (e ∙ sym e')

-- of choosing
pub choose_once : (st : State) (first second calls : List ℕ) (r r' : Turn) (a a' b b' c c' : List ℕ)
    → record { turn = r; first = a; second = b; calls = c } ≡ choose_next st first second calls
    → record { turn = r'; first = a'; second = b'; calls = c' } ≡ choose_next st first second calls
    → (r ≡ r') × (a ≡ a') × (b ≡ b') × (c ≡ c')
choose_once st first second calls r r' a a' b b' c c' e e' =
    let same = e ∙ sym e' in (
      ap (λ (x : Choosing). x.turn) same,
      ap (λ (x : Choosing). x.first) same,
      ap (λ (x : Choosing). x.second) same,
      ap (λ (x : Choosing). x.calls) same,
    )

-- of taking
pub take-once : (st : State) (step : ℕ) (sent first second : List ℕ) (r r' : Turn) (a a' b b' : List ℕ)
    → record { turn = r; first = a; second = b } ≡ take_next st step sent first second
    → record { turn = r'; first = a'; second = b' } ≡ take_next st step sent first second
    → (r ≡ r') × (a ≡ a') × (b ≡ b')
take-once st step sent first second r r' a a' b b' e e' =
    let same = e ∙ sym e' in (
      ap (λ (x : Taking). x.turn) same,
      ap (λ (x : Taking). x.first) same,
      ap (λ (x : Taking). x.second) same,
    )
