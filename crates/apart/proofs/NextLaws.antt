-- What choosing and taking give by the lengths of what is lent, and where a taking was refused with 5 before.
use mathlib.Core.Path.{◌≡◌, refl, sym, ◌∙◌, ap, ap₂}
use mathlib.Core.Logic.{◌⊎◌, ⊎_elim}
use mathlib.Core.Bool.{Bool, true, false, ◌&&◌, not}
use mathlib.Core.List.{List}
use Prim.Native.Nat.{ℕ, zero, suc, ◌≤◌, ◌<◌}
use native.Mathlib.Omega.{arith}
use lib.Dec.{leb}
use lib.ListN.{length}
use borrow.Author.Tests.{le-leb, lt-leb}
use Rattle.plan.specs.Apart.{Choosing, stays_choosing, choose_here, choose_after, choose_next}
use Rattle.plan.specs.Apart.{Taking, stays_taking, zeroes_taking, take_here, take_after, take_next}
use Rattle.plan.specs.declared.State.{State}
use Rattle.plan.specs.declared.Turn.{Turn}
use Rattle.plan.proofs.Lists.{clash}
use Rattle.plan.proofs.Table.{holding-nothing}
use Rattle.list.specs.Settled.{Cleared}
use Rattle.plan.specs.Refusals.{refused_with}
use Rattle.plan.specs.declared.Refusal.TheVariants.{ShortTable, TooManyRows}

-- both tables are long where neither is short
both : (a b : Bool) → not (a && b) ≡ false → (a && b) ≡ true
both true true e = refl
both true false e = clash refl e
both false b e = clash refl e

-- one of them is short
one : (a b : Bool) → not (a && b) ≡ true → (a && b) ≡ false
one true true e = clash e refl
one true false e = refl
one false b e = refl

-- a third test behind them
third_out : (a b c : Bool) → (a && b) ≡ false → (a && b && c) ≡ false
third_out true true c e = clash refl e
third_out true false c e = refl
third_out false b c e = refl

third_last : (a b c : Bool) → (a && b) ≡ true → c ≡ false → (a && b && c) ≡ false
third_last true true c e f = f
third_last true false c e f = clash e refl
third_last false b c e f = clash e refl

third_in : (a b c : Bool) → (a && b) ≡ true → c ≡ true → (a && b && c) ≡ true
third_in true true c e f = f
third_in true false c e f = clash e refl
third_in false b c e f = clash e refl

-- where both tables are zeroed
pub zeroed : (first second first' second' : List ℕ) (step : ℕ) (st : State) (r : Turn)
    → Cleared 8192 first second first' second' → r ≡ record { case = refused_with TooManyRows step; state = st }
    → record { turn = r; first = first'; second = second' } ≡ zeroes_taking step st first second
unfolding zeroes_taking
zeroed first second first' second' step st r z e =
    let out : Turn → List ℕ → List ℕ → Taking = λ x t u. record { turn = x; first = t; second = u } in
    ap (λ (x : Turn). out x first' second') e
    ∙ ap₂ (out (record { case = refused_with TooManyRows step; state = st }))
    (z.one ∙ sym (holding-nothing 8192 first)) (z.two ∙ sym (holding-nothing 8192 second))

-- an earlier 5 is told again
again_choosing : (first second cs : List ℕ) (t : Taking) (k : ℕ) (st : State) → t ≡ zeroes_taking (suc k) st first second
    → record { turn = t.turn; first = t.first; second = t.second; calls = cs } ≡ choose_after st (suc k) first second cs
unfolding choose_after zeroes_taking
again_choosing first second cs t k st e =
    ap (λ (x : Taking). record { turn = x.turn; first = x.first; second = x.second; calls = cs }) e

again_taking : (k : ℕ) (st : State) (step : ℕ) (sent first second : List ℕ)
    → zeroes_taking (suc k) st first second ≡ take_after st (suc k) step sent first second
unfolding take_after
again_taking k st step sent first second = refl

module _ (first second : List ℕ) (short : Bool) (said : short ≡ not (leb 8192 (length first) && leb 8192 (length second))) where
  abbrev a : Bool
  a = leb 8192 (length first)

  abbrev b : Bool
  b = leb 8192 (length second)

  pub tables_short : short ≡ true → (leb 8192 (length first) && leb 8192 (length second)) ≡ false
  tables_short t = one a b (sym said ∙ t)

  pub tables_long : short ≡ false → (leb 8192 (length first) && leb 8192 (length second)) ≡ true
  tables_long f = both a b (sym said ∙ f)

  -- ---- choosing

  module _ (st : State) (cs : List ℕ) where
    next_not : (leb 8192 (length first) && leb 8192 (length second) && leb 3072 (length cs)) ≡ false
        → stays_choosing (refused_with ShortTable 0) st first second cs ≡ choose_next st first second cs
    unfolding choose_next
    next_not e = rw (e, choose_next)

    next_is : (leb 8192 (length first) && leb 8192 (length second) && leb 3072 (length cs)) ≡ true
        → choose_next st first second cs ≡ choose_after st st.over first second cs
    unfolding choose_next
    next_is e = rw (e, choose_next)

    -- a table or the list of calls is short
    pub next_short : (r : Turn) → r ≡ record { case = refused_with ShortTable 0; state = st }
        → (short ≡ true) ⊎ ((short ≡ false) × (length cs < 3072))
        → record { turn = r; first = first; second = second; calls = cs } ≡ choose_next st first second cs
    unfolding stays_choosing
    next_short r e t =
        ap (λ (x : Turn). record { turn = x; first = first; second = second; calls = cs }) e
        ∙ next_not
        (⊎_elim (λ y. third_out a b (leb 3072 (length cs)) (tables_short y))
        (λ n. third_last a b (leb 3072 (length cs)) (tables_long n.0) (lt-leb 3072 (length cs) n.1)) t)

    -- 5 again
    pub next_over : (over : ℕ) → over ≡ st.over → (t : Taking) → t ≡ zeroes_taking over st first second → short ≡ false
        → 3072 ≤ length cs → (over ≡ 0 → ⊥)
        → record { turn = t.turn; first = t.first; second = t.second; calls = cs } ≡ choose_next st first second cs
    next_over over o t e f l n =
        after over n e
        ∙ ap (λ (k : ℕ). choose_after st k first second cs) o
        ∙ sym (next_is (third_in a b (leb 3072 (length cs)) (tables_long f) (le-leb 3072 (length cs) l)))
      where
        after : (k : ℕ) → (k ≡ 0 → ⊥) → t ≡ zeroes_taking k st first second
            → record { turn = t.turn; first = t.first; second = t.second; calls = cs } ≡ choose_after st k first second cs
        after zero n e = absurd (n refl)
        after (suc k) n e = again_choosing first second cs t k st e

    -- the next step
    after_none : (k : ℕ) → k ≡ 0 → choose_after st k first second cs ≡ choose_here st first second cs
    unfolding choose_after
    after_none zero o = refl
    after_none (suc k) o = absurd (let z : ⊥ = omega (arith, o) in z)

    pub next_here : (over : ℕ) → over ≡ st.over → (c : Choosing) → short ≡ false → 3072 ≤ length cs → over ≡ 0 → c ≡ choose_here st first second cs
        → c ≡ choose_next st first second cs
    next_here over told c f l o h =
        h ∙ sym (next_is (third_in a b (leb 3072 (length cs)) (tables_long f) (le-leb 3072 (length cs) l)) ∙ after_none st.over (sym told ∙ o))

  -- ---- taking

  module _ (st : State) (step : ℕ) (sent : List ℕ) where
    take-not : (a && b) ≡ false → stays_taking (refused_with ShortTable 0) st first second ≡ take_next st step sent first second
    unfolding take_next
    take-not e = rw (e, take_next)

    take-is : (a && b) ≡ true → take_next st step sent first second ≡ take_after st st.over step sent first second
    unfolding take_next
    take-is e = rw (e, take_next)

    -- a table is short
    pub take_short : (r : Turn) → r ≡ record { case = refused_with ShortTable 0; state = st } → short ≡ true
        → record { turn = r; first = first; second = second } ≡ take_next st step sent first second
    unfolding stays_taking
    take_short r e t = ap (λ (x : Turn). record { turn = x; first = first; second = second }) e ∙ take-not (tables_short t)

    -- 5 again
    pub take-over : (over : ℕ) → over ≡ st.over → (t : Taking) → t ≡ zeroes_taking over st first second → short ≡ false
        → (over ≡ 0 → ⊥) → t ≡ take_next st step sent first second
    take-over over o t e f n =
        after over n e ∙ ap (λ (k : ℕ). take_after st k step sent first second) o ∙ sym (take-is (tables_long f))
      where
        after : (k : ℕ) → (k ≡ 0 → ⊥) → t ≡ zeroes_taking k st first second → t ≡ take_after st k step sent first second
        after zero n e = absurd (n refl)
        after (suc k) n e = e ∙ again_taking k st step sent first second

    after-here : (k : ℕ) → k ≡ 0 → take_after st k step sent first second ≡ take_here st step sent first second
    unfolding take_after
    after-here zero o = refl
    after-here (suc k) o = absurd (let z : ⊥ = omega (arith, o) in z)

    -- what is taken in the state
    pub take-here : (over : ℕ) → over ≡ st.over → (t : Taking) → short ≡ false → over ≡ 0 → t ≡ take_here st step sent first second
        → t ≡ take_next st step sent first second
    take-here over told t f o h = h ∙ sym (take-is (tables_long f) ∙ after-here st.over (sym told ∙ o))
