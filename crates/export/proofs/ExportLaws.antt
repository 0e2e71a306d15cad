-- Laws of what a caller in C or Rust gets: the two cases of an answer, whichever it is.
use mathlib.Core.Path.{◌≡◌, refl, ap, ◌∙◌}
use mathlib.Core.List.{List}
use Prim.Native.Nat.{ℕ, ◌≤◌, ◌<◌}
use lib.ListN.{length}
use borrow.Author.Tests.{le-leb, lt-leb}
use Rattle.std.specs.Prelude.{Err}
use Rattle.plan.specs.Lists.{padded}
use Rattle.plan.specs.Answer.{no_step, refusal, Whole, told}
use Rattle.plan.specs.declared.Refused.{Refused}
use Rattle.lay.specs.Put.{laid, joined}
use Rattle.export.specs.Exported.{step_numbers, step_at, head_numbers, answer_numbers, refused_numbers, no_room}
use Rattle.export.specs.Exported.{exported_of, exported_by}

-- the numbers of an answer that is refused
pub answer_refused : (r : Refused) → refused_numbers r 76 ≡ answer_numbers (told (Err r))
unfolding refused_numbers answer_numbers head_numbers step_at step_numbers joined refusal padded no_step
answer_refused r = refl

-- where the buffer is long enough, the code makes all of it: both tables and the numbers of the answer
made_of : (v w : Whole) (n : ℕ) (out out' : List ℕ) → w ≡ v → n ≡ w.answer.number → out' ≡ laid out 0 (answer_numbers w.answer)
    → record { result = n; first = w.first; second = w.second; out = out' } ≡ exported_of v out
unfolding exported_of
made_of v w n out out' e r d =
    let made : record { result = n; first = w.first; second = w.second; out = out' } ≡ exported_of w out = λ t.
    record { result = r t; first = w.first; second = w.second; out = d t } in
    made ∙ ap (λ (x : Whole). exported_of x out) e

module _ (v : Whole) (first second out : List ℕ) where
  -- the buffer is too short
  pub exported-short : length out < 78
      → record { result = no_room; first = first; second = second; out = out } ≡ exported_by v first second out
  unfolding exported_by
  exported-short h = rw (lt-leb 78 (length out) h, exported_by)

  -- it is long enough
  exported-long : 78 ≤ length out → exported_of v out ≡ exported_by v first second out
  unfolding exported_by
  exported-long h = rw (le-leb 78 (length out) h, exported_by)

  -- and the code makes all of it
  pub exported-made : (w : Whole) (n : ℕ) (out' : List ℕ) → 78 ≤ length out → w ≡ v → n ≡ w.answer.number
      → out' ≡ laid out 0 (answer_numbers w.answer)
      → record { result = n; first = w.first; second = w.second; out = out' } ≡ exported_by v first second out
  exported-made w n out' h e r d = made_of v w n out out' e r d ∙ exported-long h
