-- The route check says of a sheet what the demand asks: whether there is a route goes by the sheet alone, so the
-- look-ups never answerable are the same with no rows as with any, and are the detail of all that comes back.
use mathlib.Core.Path.{◌≡◌, refl, sym, ◌∙◌, ap, subst}
use mathlib.Core.Logic.{◌↔◌, inl, inr}
use mathlib.Core.Bool.{Bool}
use mathlib.Core.List.{List, [], ◌∷◌, map}
use Prim.Native.Nat.{ℕ, zero, suc}
use native.Mathlib.Omega.{arith}
use lib.ListN.{get_or, length-map}
use Rattle.plan.specs.Lists.{In, Sub}
use Rattle.plan.specs.Request.{Row, Request, no_goal, goal_at}
use Rattle.plan.specs.Zero.{matches, matching}
use Rattle.plan.specs.Reader.{Fault, fault_number, Read, got, bad}
use Rattle.plan.specs.Sheet.{Register, LookUp, Sheet, read_sheet}
use Rattle.plan.specs.RowData.{part_rows, never_zero_on, goal_of, request_of}
use Rattle.plan.specs.Grow.{calls}
use Rattle.plan.specs.declared.Setting.{Setting}
use Rattle.plan.specs.Answer.{Outcome, never_answerable, outcome}
use Rattle.plan.specs.Answer.{came, found, refusal, answered_by, Whole, whole_of, whole_at, checked_of, route_check}
use Rattle.plan.specs.Answer.{Checked}
use Rattle.plan.specs.Demands.{size, NoRoute, Ready, other_numbers, merged_check, merged_read, Merges, DemandCheck}
use Rattle.plan.proofs.Words.{Sound, SameRegisters, SameRoutes}
use Rattle.plan.proofs.Lists.{sub_refl, those-sub}
use Rattle.plan.proofs.Faults.{number_differs, fault_numbers, merged_of_lem, check_merged, check_kept}
use Rattle.plan.proofs.Routes.{never-same}
use Rattle.plan.proofs.Outcomes.{calls_lawful, never-charge, route-never, never-route, Comes, without, over, within, comes}
use Rattle.plan.proofs.Demands.{request-sound, means, never-bits, ready-sound, ready-back, demand_3}

-- ---- rows play no part

module _ (never : ℕ → Bool) (registers : List Register) (rows rows' : List (List Row)) where
  -- a look-up of the sheet has the same variables with other rows
  goals-vars : (ls : List LookUp) (i : ℕ)
      → (get_or (map (goal_of never registers rows) ls) i no_goal).vars ≡ (get_or (map (goal_of never registers rows') ls) i no_goal).vars
  unfolding goal_of
  goals-vars [] i = refl
  goals-vars (l ∷ ls) zero = refl
  goals-vars (l ∷ ls) (suc i) = goals-vars ls i

  -- and the same rules
  goals-rules : (ls : List LookUp) (i : ℕ)
      → (get_or (map (goal_of never registers rows) ls) i no_goal).rules ≡ (get_or (map (goal_of never registers rows') ls) i no_goal).rules
  unfolding goal_of
  goals-rules [] i = refl
  goals-rules (l ∷ ls) zero = refl
  goals-rules (l ∷ ls) (suc i) = goals-rules ls i

  -- where each register has all its rows in the other, so has each look-up
  goals-rows : ((i : ℕ) → Sub (get_or rows i []) (get_or rows' i [])) → (ls : List LookUp) (i : ℕ)
      → Sub
      (get_or (map (goal_of never registers rows) ls) i no_goal).rows
      (get_or (map (goal_of never registers rows') ls) i no_goal).rows
  unfolding goal_of matching
  goals-rows h [] i = sub_refl _
  goals-rows h (l ∷ ls) zero = those-sub (matches never l.vars) _ _ (h l.register)
  goals-rows h (l ∷ ls) (suc i) = goals-rows h ls i

  -- those that match and those that do not
  goals-stored : ((i : ℕ) → Sub (get_or rows i []) (get_or rows' i [])) → (ls : List LookUp) (i : ℕ)
      → Sub
      (get_or (map (goal_of never registers rows) ls) i no_goal).stored
      (get_or (map (goal_of never registers rows') ls) i no_goal).stored
  unfolding goal_of
  goals-stored h [] i = sub_refl _
  goals-stored h (l ∷ ls) zero = h l.register
  goals-stored h (l ∷ ls) (suc i) = goals-stored h ls i

-- the requests that a sheet makes with any rows have the same routes
pub same-routes : (s : Sheet) (rows rows' : List (List Row)) → SameRoutes (request_of s rows) (request_of s rows')
unfolding request_of goal_at
same-routes s rows rows' =
    record {
      given = refl;
      count = simp length-map;
      vars = goals-vars (never_zero_on s) s.registers rows rows' s.look_ups;
      rules = goals-rules (never_zero_on s) s.registers rows rows' s.look_ups;
    }

-- those that it makes with the same set of rows for each register have the same registers
pub same-registers : (s : Sheet) (rows rows' : List (List Row)) → ((i : ℕ) → Sub (get_or rows i []) (get_or rows' i []))
    → ((i : ℕ) → Sub (get_or rows' i []) (get_or rows i [])) → SameRegisters (request_of s rows) (request_of s rows')
unfolding request_of goal_at
same-registers s rows rows' there back =
    record {
      routes = same-routes s rows rows';
      start = refl;
      rows = goals-rows (never_zero_on s) s.registers rows rows' there s.look_ups;
      rows_back = goals-rows (never_zero_on s) s.registers rows' rows back s.look_ups;
      stored = goals-stored (never_zero_on s) s.registers rows rows' there s.look_ups;
      stored_back = goals-stored (never_zero_on s) s.registers rows' rows back s.look_ups;
    }

-- whatever the rows, the same look-ups are never answerable
pub never-rows : (s : Sheet) (rows rows' : List (List Row))
    → never_answerable calls (request_of s rows) ≡ never_answerable calls (request_of s rows')
unfolding size
never-rows s rows rows' =
    never-same (request_of s rows) (request_of s rows') (same-routes s rows rows') (same-routes s rows' rows) calls calls
    (calls_lawful _ (request-sound s rows)) (calls_lawful _ (request-sound s rows'))

-- a request has no route exactly where some look-up is never answerable
pub no_route-never : (q : Request) → Sound q → NoRoute q ↔ (never_answerable calls q ≡ 0 → ⊥)
unfolding NoRoute
no_route-never q sound =
    let law = calls_lawful q sound in
    (λ n e. n _ (never-route calls q law e).0, λ f p r. f (route-never calls q law p r))

-- ---- what is checked

-- 4 exactly where some look-up is never answerable
checked_four : (m : ℕ) → ((checked_of m).number ≡ 4) ↔ (m ≡ 0 → ⊥)
unfolding checked_of
checked_four zero = (λ e. absurd (let z : ⊥ = omega arith in z), λ f. absurd (f refl))
checked_four (suc m) = (λ e z. absurd (let z : ⊥ = omega arith in z), λ f. refl)

-- else 0 with detail 0
checked_plain : (m : ℕ) → ((checked_of m).number ≡ 4 → ⊥) → ((checked_of m).number ≡ 0) × ((checked_of m).detail ≡ 0)
unfolding checked_of
checked_plain zero n = (refl, refl)
checked_plain (suc m) n = absurd (n refl)

-- never a fault's number
checked_own : (m : ℕ) → In (checked_of m).number other_numbers
unfolding checked_of In
checked_own zero = inl refl
checked_own (suc m) = inr (inr (inr (inl refl)))

-- the detail is the look-ups never answerable
checked_detail : (m : ℕ) → (checked_of m).detail ≡ m
unfolding checked_of
checked_detail zero = refl
checked_detail (suc m) = refl

-- and so is the detail of 4 of a request's answer
detail_of : (tool : Setting) (first second : List ℕ) (q : Request) → Sound q → (o : Outcome) → Comes tool q o
    → (whole_of tool (came q o) first second).answer.number ≡ 4
    → (whole_of tool (came q o) first second).answer.detail ≡ never_answerable calls q
unfolding whole_of refusal answered_by
detail_of tool first second q sound o (without n) e = never-charge tool q sound
detail_of tool first second q sound o (over p r k a) e = absurd (let z : ⊥ = omega arith in z)
detail_of tool first second q sound o (within p r f) e = absurd (let z : ⊥ = omega arith in z)

-- ---- the demand

module _ (sheet : List ℕ) where
  -- what the check gives for a sheet that is read, by any rows
  pub check_read : (s : Sheet) (end : ℕ) → read_sheet sheet ≡ got s end → (rows : List (List Row))
      → route_check sheet ≡ checked_of (never_answerable calls (request_of s rows))
  unfolding route_check
  check_read s end e rows = rw (e, route_check) (ap checked_of (never-rows s [] rows))

  -- what it gives for a sheet that is not
  pub check_bad : (fault : Fault) (detail : ℕ) → read_sheet sheet ≡ bad fault detail
      → route_check sheet ≡ record { number = fault_number fault; detail = detail }
  unfolding route_check
  check_bad fault detail e = rw (e, route_check)

  -- a fault that is told is the one that reading finds
  told-found : (fault : Fault) (detail : ℕ) → (r : Read Sheet) → read_sheet sheet ≡ r
      → (route_check sheet).number ≡ fault_number fault → (route_check sheet).detail ≡ detail → r ≡ bad fault detail
  told-found fault detail (bad f d) e n m =
      let same = check_bad f d e in
      let number : fault_number f ≡ fault_number fault = sym (ap (λ (c : Checked). c.number) same) ∙ n in
      rw (number_differs f fault number, sym (ap (λ (c : Checked). c.detail) same) ∙ m)
  told-found fault detail (got s end) e n m =
      absurd (fault_numbers.own fault
      (subst (λ k. In k other_numbers) (sym (ap (λ (c : Checked). c.number) (check_read s end e [])) ∙ n)
      (checked_own (never_answerable calls (request_of s [])))))

  -- 4 exactly where there is no route
  four_read : (s : Sheet) (end : ℕ) → read_sheet sheet ≡ got s end → (rows : List (List Row))
      → ((route_check sheet).number ≡ 4) ↔ NoRoute (request_of s rows)
  four_read s end e rows =
      let four = checked_four (never_answerable calls (request_of s rows)) in
      let route = no_route-never (request_of s rows) (request-sound s rows) in
      rw (check_read s end e rows) (λ n. route.1 (four.0 n), λ n. four.1 (route.0 n))

  module _ (tool : Setting) (words first second : List ℕ) (q : Request) (r : Ready tool sheet words first second q) where
    -- the check of a request that is ready
    check_ready : route_check sheet ≡ checked_of (never_answerable calls q)
    check_ready = rw r.asks (check_read r.said r.end r.read (map (part_rows words) r.places))

    -- with tables long enough and sound data, 4 where all that comes back has 4
    pub ready_four : ((route_check sheet).number ≡ 4) ↔ ((whole_at tool sheet words first second).answer.number ≡ 4)
    ready_four =
        let four = checked_four (never_answerable calls q) in
        let route = no_route-never q (ready-sound tool sheet words first second q r) in
        let all = (demand_3 tool sheet words first second q r).exactly_four in
        rw check_ready (λ n. all.1 (route.1 (four.0 n)), λ n. four.1 (route.0 (all.0 n)))

    -- with the same detail
    pub ready-detail : (whole_at tool sheet words first second).answer.number ≡ 4
        → (route_check sheet).detail ≡ (whole_at tool sheet words first second).answer.detail
    ready-detail e =
        let back = ready-back tool sheet words first second q r in
        let sound = ready-sound tool sheet words first second q r in
        let number : (whole_of tool (came q (outcome tool q)) first second).answer.number ≡ 4 =
        sym (ap (λ (w : Whole). w.answer.number) back) ∙ e in
        ap (λ (c : Checked). c.detail) check_ready
        ∙ checked_detail (never_answerable calls q)
        ∙ sym (detail_of tool first second q sound _ (comes tool q sound) number)
        ∙ sym (ap (λ (w : Whole). w.answer.detail) back)

  -- the route check
  pub demand_check : DemandCheck sheet (route_check sheet)
  demand_check =
      record {
        bad_sheet = λ fault detail. (
          λ h. told-found fault detail (read_sheet sheet) refl h.0 h.1,
          λ e. let c = check_bad fault detail e in
              (ap (λ (x : Checked). x.number) c, ap (λ (x : Checked). x.detail) c),
        );
        exactly_four = four_read;
        plain = λ s end e n.
            let c = check_read s end e [] in
            rw c (checked_plain _ (λ f. n (ap (λ (c : Checked). c.number) c ∙ f)));
        never = λ s end e f rows.
            rw (check_read s end e rows, checked_detail) (never-bits calls (request_of s rows) (calls_lawful (request_of s rows) (request-sound s rows)));
        means = λ s end e rows. means (request_of s rows) (request-sound s rows);
      }

  -- where faults are not told apart, it is 2 for a bad sheet, and else the same
  merged-read : (r : Read Sheet) → read_sheet sheet ≡ r → merged_check (route_check sheet) ≡ merged_read r
  unfolding merged_read
  merged-read (bad fault detail) e = ap merged_check (check_bad fault detail e) ∙ check_merged fault detail
  merged-read (got s end) e = ap merged_check (check_read s end e []) ∙ check_kept _

  -- telling faults apart refuses no other sheets
  pub merges : (tool : Setting) (words first second : List ℕ)
      → Merges tool sheet words first second (whole_at tool sheet words first second) (route_check sheet)
  unfolding whole_at
  merges tool words first second =
      record {
        answers = merged_of_lem tool (found tool sheet words first second) first second;
        checks = merged-read (read_sheet sheet) refl;
      }
