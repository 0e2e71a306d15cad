-- The request that a state asks is small, whatever the state: at most 12 look-ups of 1 to 6 columns. Nothing is asked by a sheet
-- that is not sound.
use mathlib.Core.Path.{◌≡◌, refl, ◌∙◌, ap}
use mathlib.Core.List.{List, [], ◌∷◌, map}
use mathlib.Core.Bool.{true, false}
use Prim.Native.Nat.{ℕ, ◌≤◌, ◌<◌}
use native.Mathlib.Omega.{arith}
use lib.ListN.{length, get_or, length-map}
use Rattle.plan.specs.Lists.{In}
use Rattle.plan.specs.Request.{Rule, Goal, no_goal, goal_at}
use Rattle.plan.specs.Reader.{Read, got, bad}
use Rattle.plan.specs.Sheet.{Register, LookUp, Sheet, read_sheet}
use Rattle.plan.specs.RowData.{no_register_lem, never_zero_on, goal_of, request_of}
use Rattle.plan.specs.Route.{Pick}
use Rattle.plan.specs.Grow.{must_give, gives}
use Rattle.plan.specs.Apart.{bytes_in, no_sheet, sound_sheet, asked_in}
use Rattle.plan.specs.declared.State.{State}
use Rattle.plan.proofs.Lists.{in_map, in_nil}
use Rattle.plan.proofs.Padded.{in_at, map_at, at_all}
use Rattle.sheet.specs.Fine.{FineRegister, Fine}
use Rattle.sheet.proofs.Fine.{read-fine}

-- at most 12 look-ups of 1 to 6 columns each
pub record Small (s : Sheet) : Type 0 where
  pub few : length s.look_ups ≤ 12
  pub wide : (l : LookUp) → In l s.look_ups → 1 ≤ length l.vars
  pub narrow : (l : LookUp) → In l s.look_ups → length l.vars ≤ 6

-- a look-up of a fine sheet has as many variables as its register has columns
pub vars-columns : (s : Sheet) → Fine s → (l : LookUp) → In l s.look_ups
    → length l.vars ≡ (get_or s.registers l.register no_register_lem).columns
vars-columns s fine l i =
    let x = fine.look_ups-fine l i in
    x.vars-number ∙ map_at (λ (r : Register). r.columns) s.registers l.register 0 no_register_lem x.register-low

-- and its register is fine
pub register-fine : (s : Sheet) → Fine s → (l : LookUp) → In l s.look_ups
    → FineRegister (get_or s.registers l.register no_register_lem)
register-fine s fine l i =
    fine.registers-fine _ (in_at s.registers l.register no_register_lem (fine.look_ups-fine l i).register-low)

-- so a sheet that is read is small
fine-small : (s : Sheet) → Fine s → Small s
fine-small s fine =
    record {
      few = fine.look_ups-high;
      wide = λ l i. omega (arith, vars-columns s fine l i, (register-fine s fine l i).columns-low);
      narrow = λ l i. omega (arith, vars-columns s fine l i, (register-fine s fine l i).columns-high);
    }

-- and so is what stands for one that is not
sound-small : (bytes : List ℕ) (r : Read Sheet) → read_sheet bytes ≡ r → Small (sound_sheet r)
unfolding sound_sheet no_sheet
sound-small bytes (got s end) e = fine-small s (read-fine bytes s end e)
sound-small bytes (bad fault detail) e =
    record { few = omega arith; wide = λ l i. absurd (in_nil l i); narrow = λ l i. absurd (in_nil l i) }

-- the sheet of a state
said-small : (st : State) → Small (sound_sheet (read_sheet (bytes_in st)))
said-small st = sound-small (bytes_in st) (read_sheet (bytes_in st)) refl

-- at most 12 look-ups are asked
pub asked-few : (st : State) → length (asked_in st).goals ≤ 12
unfolding asked_in request_of
asked-few st = rw length-map (said-small st).few

-- each has a column
pub asked-wide : (st : State) (i : ℕ) → i < length (asked_in st).goals → 1 ≤ length (goal_at (asked_in st) i).vars
unfolding asked_in request_of goal_at goal_of
asked-wide st i h =
    let s = sound_sheet (read_sheet (bytes_in st)) in
    let gs = map (goal_of (never_zero_on s) s.registers []) s.look_ups in
    let (l, j, e) =
    in_map (goal_of (never_zero_on s) s.registers []) s.look_ups (get_or gs i no_goal) (in_at gs i no_goal h) in
    omega (arith, (said-small st).wide l j, ap (λ (x : Goal). length x.vars) e)

-- at most 6
pub asked-narrow : (st : State) (i : ℕ) → length (goal_at (asked_in st) i).vars ≤ 6
unfolding asked_in request_of goal_at goal_of no_goal
asked-narrow st =
    let s = sound_sheet (read_sheet (bytes_in st)) in
    at_all (λ (g : Goal). length g.vars ≤ 6) (map (goal_of (never_zero_on s) s.registers []) s.look_ups) no_goal
    (omega arith)
    (λ g h.
    let (l, i, e) = in_map (goal_of (never_zero_on s) s.registers []) s.look_ups g h in
    omega (arith, (said-small st).narrow l i, ap (λ (x : Goal). length x.vars) e))

-- no more must be given than there are columns
must_few : (rule : Rule) (vs : List ℕ) → length (must_give rule vs) ≤ length vs
unfolding must_give
must_few [] vs = omega arith
must_few (b ∷ bs) [] = omega arith
must_few (true ∷ bs) (v ∷ vs) = omega (arith, must_few bs vs)
must_few (false ∷ bs) (v ∷ vs) = omega (arith, must_few bs vs)

-- so a pick must give at most 6 values
pub gives-few : (st : State) (s : Pick) → length (gives (asked_in st) s) ≤ 6
unfolding gives
gives-few st s =
    let g = goal_at (asked_in st) s.lookup in
    omega (arith, must_few (get_or g.rules s.rule []) g.vars, asked-narrow st s.lookup)
