-- The rows that a register has, of a request that is ready: at most 512, each with a word for each column of the look-up, and
-- there is a column.
use mathlib.Core.Path.{◌≡◌, sym, ◌∙◌, ap, subst}
use mathlib.Core.Logic.{inl, inr}
use mathlib.Core.List.{List, [], map}
use mathlib.Core.Option.{some}
use Prim.Native.Nat.{ℕ, zero, suc, ◌*◌, ◌≤◌, ◌<◌}
use native.Mathlib.Omega.{arith}
use native.Mathlib.Nat.{suc-mul}
use lib.ListN.{length, get_or, drop, length-map, length-drop}
use lib.Seq.{length-take-le}
use Rattle.plan.specs.Lists.{In}
use Rattle.plan.specs.Request.{Row, Goal, Request, no_goal, goal_at, rows_by}
use Rattle.plan.specs.Sheet.{LookUp, Sheet, columns_of}
use Rattle.plan.specs.RowData.{Part, parts, part_rows, never_zero_on, goal_of, request_of}
use Rattle.plan.specs.declared.Setting.{Setting}
use Rattle.plan.specs.Demands.{size, Ready}
use Rattle.plan.proofs.Lists.{in_map}
use Rattle.plan.proofs.Padded.{in_at, map_at}
use Rattle.plan.proofs.Table.{Wide, length-rows}
use Rattle.sheet.specs.Fine.{Fine}
use Rattle.sheet.proofs.Fine.{read-fine}
use Rattle.data.proofs.PartsLaws.{parts-length, parts-fit}
use Rattle.plays.proofs.Bounds.{vars-columns, register-fine}

-- rows of w words, where there are so many words
pub rows-wide : (w n : ℕ) (t : List ℕ) → n * w ≤ length t → Wide w (rows_by w n t)
unfolding Wide In rows_by
rows-wide w zero t h r i = absurd i
rows-wide w (suc n) t h r (inl e) = ap length e ∙ length-take-le w t (omega (arith, suc-mul n w))
rows-wide w (suc n) t h r (inr i) =
    rows-wide w n (drop w t) (let k : n * w ≤ length (drop w t) = omega (arith, suc-mul n w, length-drop w t) in k) r i

-- a look-up has a column, and its register has at most 512 rows with a word for each column
pub record Fits (g : Goal) : Type 0 where
  pub columns : 1 ≤ length g.vars
  pub wide : Wide (length g.vars) g.stored
  pub few : length g.stored ≤ 512

module _ (s : Sheet) (fine : Fine s) (words : List ℕ) (places : List Part)
    (found : parts (columns_of s.registers) words ≡ some places) where
  -- the rows of each register
  abbrev rows : List (List Row)
  rows = map (part_rows words) places

  -- stands for a part that is not there
  abbrev no_part : Part
  no_part = record { columns = 0; start = 0; rows = 0 }

  -- a look-up of the sheet
  look_up-fits : (l : LookUp) → In l s.look_ups → Fits (goal_of (never_zero_on s) s.registers rows l)
  unfolding goal_of part_rows
  look_up-fits l i =
      let r = l.register in
      let p = get_or places r no_part in
      let x = fine.look_ups-fine l i in
      let many : r < length (columns_of s.registers) = rw length-map x.register-low in
      let part = parts-fit (columns_of s.registers) words places found r no_part many in
      let there : r < length places = omega (arith, many, parts-length (columns_of s.registers) words places found) in
      let width : p.columns ≡ length l.vars = part.width ∙ sym x.vars-number in
      let fits : p.rows * p.columns ≤ length (drop p.start words) =
      rw part.width (omega (arith, part.within, length-drop p.start words)) in
      record {
        columns = omega (arith, vars-columns s fine l i, (register-fine s fine l i).columns-low);
        wide =
            rw (map_at (part_rows words) places r [] no_part there, ← width)
            (rows-wide p.columns p.rows (drop p.start words) fits);
        few =
            rw (map_at (part_rows words) places r [] no_part there)
            (omega (arith, part.few, length-rows p.columns p.rows (drop p.start words)));
      }

  -- a look-up of the request
  goal_fits : (i : ℕ) → i < size (request_of s rows) → Fits (goal_at (request_of s rows) i)
  unfolding size request_of goal_at
  goal_fits i h =
      let gs = map (goal_of (never_zero_on s) s.registers rows) s.look_ups in
      let (l, j, e) = in_map (goal_of (never_zero_on s) s.registers rows) s.look_ups (get_or gs i no_goal) (in_at gs i no_goal h) in
      rw e (look_up-fits l j)

-- a look-up of a request that is ready
pub ready-fits : (tool : Setting) (sheet words first second : List ℕ) (q : Request) → Ready tool sheet words first second q
    → (i : ℕ) → i < size q → Fits (goal_at q i)
ready-fits tool sheet words first second q r =
    subst (λ (x : Request). (i : ℕ) → i < size x → Fits (goal_at x i)) (sym r.asks)
    (goal_fits r.said (read-fine sheet r.said r.end r.read) words r.places r.data_read)
