-- What a line has said, as the fields of the sheet that would say it: the first variables as a set, their values in the row.
-- By a computed test for each number of givens, and by one value at a time.
use mathlib.Core.Path.{◌≡◌, refl, sym, ◌∙◌, ap}
use mathlib.Core.Bool.{true}
use mathlib.Core.List.{List, [], ◌∷◌, ◌++◌, map, append-nil}
use Prim.Native.Nat.{ℕ, suc, ◌+◌, ◌-◌, ◌^◌, ◌≤◌}
use native.Mathlib.Omega.{arith}
use lib.ListN.{length, replicate, length-append}
use lib.Seq.{append_snoc}
use lib.Dec.{eqb}
use borrow.Author.Tests.{eqb-true}
use Rattle.plan.specs.Lists.{every, padded, has, numbers, bits_where, set_of}
use Rattle.plan.specs.Request.{writes}
use Rattle.plan.specs.Sheet.{Register, Sheet}
use Rattle.plan.specs.Typed.{Typing, sheet_typed}
use Rattle.plan.proofs.Lists.{every_in}
use Rattle.plan.proofs.Numbers.{numbers_in}
use Rattle.plan.proofs.Padded.{padded-more}
use Rattle.sheet.specs.Fields.{fields_of, sheet_held, register_of, empty_register}
use Rattle.sheet.specs.declared.Fields.{Fields}
use Rattle.sheet.proofs.Held.{sheet-held}
use Rattle.typed.specs.Notes.{Noted}
use Rattle.typed.specs.Request.{OfSheet}
use Rattle.typed.specs.declared.notes.Said.{Said}

-- the set of the first variables, for each number of them
each_first : every (λ k. eqb (set_of (numbers 0 k)) (2 ^ k - 1)) (numbers 0 17) ≡ true
unfolding every numbers set_of bits_where has
each_first = refl

pub set_first : (k : ℕ) → k ≤ 16 → set_of (numbers 0 k) ≡ 2 ^ k - 1
set_first k h =
    eqb-true (set_of (numbers 0 k)) (2 ^ k - 1)
    (every_in (λ n. eqb (set_of (numbers 0 n)) (2 ^ n - 1)) (numbers 0 17) each_first k
    (numbers_in 0 17 k (omega arith) (omega arith)))

-- values written at the next variables stand behind those that stand in the row
writes_next : (n : ℕ) (xs ys : List ℕ) (k : ℕ) → length xs ≡ k → k + length ys ≤ n
    → writes (padded n 0 xs) (numbers k (length ys)) ys ≡ padded n 0 (xs ++ ys)
unfolding writes numbers
writes_next n xs [] k e h = ap (padded n 0) (sym (append-nil xs))
writes_next n xs (y ∷ ys) k e h =
    ap (λ r. writes r (numbers (suc k) (length ys)) ys) (padded-more n 0 xs k y e (omega arith))
    ∙ writes_next n (xs ++ (y ∷ [])) ys (suc k) (omega (arith, length-append xs (y ∷ []))) (omega arith)
    ∙ ap (padded n 0) (append_snoc xs y ys)

-- values written at the first variables are the row's first
pub writes-first : (xs : List ℕ) → length xs ≤ 16 → writes (replicate 16 0) (numbers 0 (length xs)) xs ≡ padded 16 0 xs
unfolding padded
writes-first xs h = writes_next 16 [] xs 0 refl (omega arith)

-- the registers of the fields of a sheet
held-registers : (f : Fields) → OfSheet f
    → (f.registers ≡ length (sheet_held f).registers)
    × (f.register ≡ padded 12 empty_register (map register_of (sheet_held f).registers))
unfolding fields_of
held-registers f o =
    let all : (sheet_held f).registers ≡ o.sheet.registers =
    ap (λ (g : Fields). (sheet_held g).registers) o.same
    ∙ ap (λ (s : Sheet). s.registers) (sheet-held o.sheet o.fine) in (
      ap (λ (g : Fields). g.registers) o.same ∙ ap length (sym all),
      ap (λ (g : Fields). g.register) o.same
          ∙ ap (λ (rs : List Register). padded 12 empty_register (map register_of rs)) (sym all),
    )

-- the request that was said
pub request-made : (f : Fields) (said : Said) (variables given : ℕ) (t : Typing) → OfSheet f → Noted t said
    → variables ≡ length t.names → given ≡ 2 ^ said.given - 1 → said.given ≤ 16
    → ◌≡◌ {A = Fields} (record {
      registers = f.registers;
      register = f.register;
      variables = variables;
      given = given;
      start = said.start;
      lookups = said.lookups;
      lookup = said.lookup;
    }) (fields_of (sheet_typed (sheet_held f).registers t))
unfolding sheet_typed fields_of
request-made f said variables given t o n v g h =
    let few : length t.values ≤ 16 = omega (arith, n.given) in
    let (many, entries) = held-registers f o in
    let set : given ≡ set_of (numbers 0 (length t.values)) =
    g ∙ ap (λ k. 2 ^ k - 1) n.given ∙ sym (set_first (length t.values) few) in
    let row = n.start ∙ sym (writes-first t.values few) in
    λ i. record {
      registers = many i;
      register = entries i;
      variables = v i;
      given = set i;
      start = row i;
      lookups = n.lookups i;
      lookup = n.lookup i;
    }
