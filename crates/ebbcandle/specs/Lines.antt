-- What is printed: step lines, the total calls and row lines, or the line of a refusal.
use Rattle.std.specs.Prelude.{true, false, List, [], ◌∷◌, ◌++◌, ℕ, zero, suc, ◌+◌, ◌*◌, ◌/◌, ◌%◌, get_or, length, ◌≤◌, eqb, ltb}
use Prim.Native.String.{String}
use Rattle.plan.specs.Request.{row_words}
use Rattle.plan.specs.Answer.{no_step}
use Rattle.plan.specs.declared.Step.{Step}
use Rattle.plan.specs.Answer.{Answer}
use Rattle.lay.specs.Put.{joined}
use Rattle.ebbcandle.specs.Ascii.{ascii}

-- the last digits of a number, at most so many, without zeros in front
unfoldable pub digits : ℕ → ℕ → List ℕ
digits zero n = []
digits (suc most) n =
    elim (ltb n 10) [ true ↦ (48 + n) ∷ [] | false ↦ digits most (n / 10) ++ ((48 + n % 10) ∷ []) ]

-- a number in decimal: no number of the program has more than 20 digits
unfoldable pub decimal : ℕ → List ℕ
decimal n = digits 20 n

-- a word and a number
unfoldable pub named : String → ℕ → List ℕ
named word n = ascii word ++ decimal n

-- a space and a value
unfoldable pub spaced : ℕ → List ℕ
spaced n = 32 ∷ decimal n

-- the end of a line
abbrev pub newline : List ℕ
newline = 10 ∷ []

-- the line of a step: its number from 1, the look-up and the rule from 0, its calls, and the rows after it (§6.2)
unfoldable pub step_line : ℕ → Step → List ℕ
step_line number s =
    named "step " number ++ named " lookup " s.lookup ++ named " rule " s.rule ++ named " calls " s.calls
    ++ named " rows " s.rows ++ newline

-- the lines of the first n steps, counted from 1
abbrev pub lines_of_steps : List Step → ℕ → List ℕ
lines_of_steps steps n = joined (λ i. step_line (i + 1) (get_or steps i no_step)) n

-- the lines of the steps
unfoldable pub step_lines : Answer → List ℕ
step_lines a = lines_of_steps a.steps a.made

-- the line of the total calls
unfoldable pub calls_line : ℕ → List ℕ
calls_line calls = named "calls " calls ++ newline

-- the line of row i of the table: the variables in order
unfoldable pub row_line : List ℕ → ℕ → ℕ → List ℕ
row_line table variables i = ascii "row" ++ joined (λ v. spaced (get_or table (i * row_words + v) 0)) variables ++ newline

-- the line of a refusal (§6.3)
unfoldable pub refused_line : ℕ → ℕ → List ℕ
refused_line number detail = named "refused " number ++ spaced detail ++ newline

-- all that is printed for an answer (§6.2, §6.3), whose rows stand in the table
unfoldable pub printed : Answer → List ℕ → ℕ → List ℕ
printed a table variables =
    elim (eqb a.number 0) [
      | true ↦ step_lines a ++ calls_line a.calls ++ joined (row_line table variables) a.rows
      | false ↦ refused_line a.number a.detail
    ]

-- so many bytes more are no more than the longest output has
abbrev pub HasRoom : ℕ → List ℕ → Type 0
HasRoom more text = length text + more ≤ 175703
