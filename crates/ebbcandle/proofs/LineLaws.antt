-- Laws of the printed lines: what is put behind what was put, the digits of a number one by one, and the two cases of what
-- is printed.
use mathlib.Core.Path.{◌≡◌, refl, sym, ap, ◌∙◌}
use mathlib.Core.List.{List, [], ◌∷◌, ◌++◌, append_assoc, append-nil}
use Prim.Native.Nat.{ℕ, zero, suc, ◌+◌, ◌-◌, ◌/◌, ◌%◌, ◌≤◌, ◌<◌}
use native.Mathlib.Omega.{arith}
use lib.ListN.{length, take, drop, length-append}
use lib.Seq.{get_or-take, length-take-le, take_at}
use borrow.Author.Tests.{lt-ltb, le-ltb, ne_eqb}
use Rattle.std.specs.Prelude.{Ok, Err}
use Rattle.plan.specs.Answer.{no_step, refusal, Checked, told}
use Rattle.plan.specs.Refusals.{number_of}
use Rattle.plan.specs.declared.Answered.{Answered}
use Rattle.plan.specs.declared.Refusal.{Refusal}
use Rattle.plan.specs.declared.Refused.{Refused}
use Rattle.plan.specs.declared.Step.{Step}
use Rattle.plan.proofs.Refusals.{told_check_own}
use Rattle.lay.specs.Put.{laid, Put, joined}
use Rattle.lay.proofs.PutLaws.{joined_same, joined-more}
use Rattle.ebbcandle.specs.Lines.{digits, step_line, lines_of_steps, step_lines, calls_line, row_line, refused_line, printed}

-- ---- what is put behind what was put

-- more behind it
pub behind : (a s t : List ℕ) {b c : List ℕ} → b ≡ a ++ s → c ≡ b ++ t → c ≡ a ++ (s ++ t)
behind a s t p q = q ∙ ap (λ l. l ++ t) p ∙ append_assoc a s t

-- what stands up to the place behind what was put
pub put_seen : {out out' s : List ℕ} {at n : ℕ} → at ≤ length out → Put out at s out' n → take n out' ≡ take at out ++ s
unfolding laid
put_seen {out} {out'} {s} {at} {n} h p =
    let long : length (take at out ++ s) ≡ n =
    length-append (take at out) s ∙ (omega (arith, length-take-le at out h, p.ends)) in
    ap (take n) (p.holds ∙ sym (append_assoc (take at out) s (drop (at + length s) out)))
    ∙ take_at (take at out ++ s) (drop (at + length s) out) n long

module _ (items : ℕ → List ℕ) (a : List ℕ) where
  -- the items of no number
  pub joined_zero : a ≡ a ++ joined items 0
  unfolding joined
  joined_zero = sym (append-nil a)

  -- those of one number more
  pub joined_next : (n : ℕ) {b c : List ℕ} → b ≡ a ++ joined items n → c ≡ b ++ items n → c ≡ a ++ joined items (n + 1)
  joined_next n p q = behind a (joined items n) (items n) p q ∙ ap (λ l. a ++ l) (sym (joined-more items n))

  -- those of as many numbers as there are
  pub joined_to : (n k : ℕ) {b : List ℕ} → n ≡ k → b ≡ a ++ joined items n → b ≡ a ++ joined items k
  joined_to n k e p = p ∙ ap (λ m. a ++ joined items m) e

-- ---- the digits of a number

-- no digits are asked for
pub digits_none : (most n : ℕ) → most ≡ 0 → digits most n ≡ []
unfolding digits
digits_none zero n e = refl
digits_none (suc most) n e = absurd (let z : ⊥ = omega arith in z)

-- a number below 10 is one digit
pub digits_last : (most n : ℕ) → 1 ≤ most → n < 10 → digits most n ≡ (48 + n) ∷ []
unfolding digits
digits_last zero n h l = absurd (let z : ⊥ = omega arith in z)
digits_last (suc most) n h l = rw (lt-ltb n 10 l, digits)

-- any other is the digits of its tenth, and one more
pub digits_more : (most n : ℕ) → 1 ≤ most → 10 ≤ n → digits most n ≡ digits (most - 1) (n / 10) ++ ((48 + n % 10) ∷ [])
unfolding digits
digits_more zero n h l = absurd (let z : ⊥ = omega arith in z)
digits_more (suc most) n h l =
    let e : suc most - 1 ≡ most = omega arith in
    rw (le-ltb n 10 l, digits) (ap (λ k. digits k (n / 10) ++ ((48 + n % 10) ∷ [])) (sym e))

-- ---- an answer and a refusal

-- no refusal has the number 0
number_some : (r : Refusal) → number_of r ≡ 0 → ⊥
number_some r e =
    let same = told_check_own (Err (record { refusal = r; detail = 0 })) (Ok tt) (ap {B = Checked} (λ n. record { number = n; detail = 0 }) e) in
    let z : ⊥ = cc in z

-- a refusal is one line
pub printed-refused : (r : Refused) (table : List ℕ) (variables : ℕ)
    → refused_line (number_of r.refusal) r.detail ≡ printed (told (Err r)) table variables
unfolding printed refusal
printed-refused r table variables = rw (ne_eqb (number_of r.refusal) 0 (number_some r.refusal), printed)

-- the lines of the first steps are those of the steps, up to there
steps_front : (steps : List Step) (n : ℕ) → n ≤ length steps
    → lines_of_steps (take n steps) (length (take n steps)) ≡ lines_of_steps steps n
steps_front steps n h =
    ap (lines_of_steps (take n steps)) (length-take-le n steps h)
    ∙ joined_same _ _ n (λ i l. ap (step_line (i + 1)) (get_or-take n steps i no_step l))

-- an answer is the lines of its steps, its calls and its rows
pub printed-answered : (a : Answered) (table : List ℕ) (variables : ℕ) → a.made ≤ length a.steps
    → lines_of_steps (take a.made a.steps) (length (take a.made a.steps)) ++ calls_line a.calls
    ++ joined (row_line table variables) a.rows
    ≡ printed (told (Ok a)) table variables
unfolding printed step_lines
printed-answered a table variables h =
    ap (λ (l : List ℕ). l ++ calls_line a.calls ++ joined (row_line table variables) a.rows) (steps_front a.steps a.made h)
