-- What a caller in C or Rust gets: the answer's numbers in a lent buffer, beside both tables.
use Rattle.std.specs.Prelude.{true, false, List, [], ◌∷◌, ◌++◌, ℕ, length, get_or, replicate, leb}
use Rattle.plan.specs.declared.Refused.{Refused}
use Rattle.plan.specs.Refusals.{number_of}
use Rattle.plan.specs.declared.Step.{Step}
use Rattle.plan.specs.Answer.{Answer}
use Rattle.plan.specs.Answer.{no_step, Whole, whole_at, charging, whole}
use Rattle.lay.specs.Put.{laid, joined}

-- the numbers of a step: the look-up, the rule, its calls, the rows after it, the rows sent, and what it costs
unfoldable pub step_numbers : Step → List ℕ
step_numbers s = s.lookup ∷ s.rule ∷ s.calls ∷ s.rows ∷ s.sent ∷ s.charge ∷ []

-- the numbers of step i
unfoldable pub step_at : List Step → ℕ → List ℕ
step_at steps i = step_numbers (get_or steps i no_step)

-- the numbers of an answer before those of its steps: number, detail, the number of steps, total calls, rows, total charge
unfoldable pub head_numbers : Answer → List ℕ
head_numbers a = a.number ∷ a.detail ∷ a.made ∷ a.calls ∷ a.rows ∷ a.charge ∷ []

-- the numbers of an answer: those, and then six for each of 12 steps
unfoldable pub answer_numbers : Answer → List ℕ
answer_numbers a = head_numbers a ++ joined (step_at a.steps) 12

-- the numbers of a refusal, in so many places more than two: its number and its detail, and zeros
unfoldable pub refused_numbers : Refused → ℕ → List ℕ
refused_numbers r more = number_of r.refusal ∷ r.detail ∷ replicate more 0

-- what is given where the buffer has under 78 places
abbrev pub no_room : ℕ
no_room = 4294967295

-- what the caller gets: the number, both tables and the buffer
pub record Exported : Type 0 where
  pub result : ℕ
  pub first : List ℕ
  pub second : List ℕ
  pub out : List ℕ

-- what the caller gets for all that comes back: the buffer's first 78 places hold the numbers of the answer
unfoldable pub exported_of : Whole → List ℕ → Exported
exported_of w out =
    record {
      result = w.answer.number;
      first = w.first;
      second = w.second;
      out = laid out 0 (answer_numbers w.answer);
    }

-- what the caller gets: a buffer of under 78 places is refused before all else, and nothing is written
unfoldable pub exported_by : Whole → List ℕ → List ℕ → List ℕ → Exported
exported_by w first second out =
    elim (leb 78 (length out)) [
      | true ↦ exported_of w out
      | false ↦ record { result = no_room; first = first; second = second; out = out }
    ]

-- of the answer
abbrev pub exported : List ℕ → List ℕ → List ℕ → List ℕ → List ℕ → Exported
exported sheet words first second out = exported_by (whole sheet words first second) first second out

-- of the answer where a call costs p and a row sent q
abbrev pub exported_at : ℕ → ℕ → List ℕ → List ℕ → List ℕ → List ℕ → List ℕ → Exported
exported_at p q sheet words first second out = exported_by (whole_at (charging p q) sheet words first second) first second out
