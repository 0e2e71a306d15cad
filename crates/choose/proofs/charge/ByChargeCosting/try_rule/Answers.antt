-- `choose::charge::ByCharge` tries a pick by its charge: one whose calls alone cost as much as the best changes nothing, of any
-- other the rows sent are counted up to what is enough.
use mathlib.Core.Path.{◌≡◌, refl, sym, ◌∙◌, ap}
use mathlib.Core.List.{List}
use Prim.Native.Nat.{ℕ, ◌+◌, ◌*◌, ◌≤◌}
use lib.ListN.{length, take, drop, length-take}
use Rattle.plan.specs.Lists.{those}
use Rattle.plan.specs.Request.{Row}
use Rattle.plan.specs.Grow.{combinations}
use Rattle.count.specs.Listed.{rows_of}
use Rattle.count.proofs.CallsLaws.{count_within}
use Rattle.data.specs.Parts.{part_of}
use Rattle.sent.specs.Sent.{columns_of, vars_of, Fits, is_given}
use Rattle.sent.proofs.SentLaws.{fits_variables, placed-inside}
use Rattle.choose.specs.Choose.{better, look_up_at, register_at, charge_by, charge_at}
use Rattle.choose.specs.Held.{words_at}
use Rattle.choose.proofs.ChooseLaws.{kept, cheapest-says}
use Rattle.choose.proofs.GivesLaws.{given_fits}
use Rattle.choose.proofs.HeldLaws.{look_up_at-small}
use Rattle.choose.proofs.ChargeLaws.{better-low, those-few, sent-low, charge-most, charge-low, charge-told, part-rows, part-long}
use native.Mathlib.Omega.{arith}
use Rattle.choose.proofs.charge.ByChargeCosting.try_rule.Goals as goal
use Rattle.choose.proofs.charge.ByChargeCosting.try_rule.Goals.{Start, After-different_rows-calls, After-sent_up_to-sent}

-- the rows of the list
abbrev rows : Start → List Row
rows c = rows_of c.args.self.now.list

-- the words of the register's rows, and how many rows these are
abbrev part : Start → List ℕ
part c = words_at c.args.self.now.fields.now c.args.self.now.parts.now c.args.self.now.words.now c.args.lookup

abbrev count : Start → ℕ
count c = (part_of c.args.self.now.parts.now (look_up_at c.args.self.now.fields.now c.args.lookup).register).rows

-- their columns
abbrev columns : Start → ℕ
columns c = (look_up_at c.args.self.now.fields.now c.args.lookup).columns

-- the places of the different ones
abbrev places : Start → List ℕ
places c = take c.args.self.now.found c.args.self.now.place

-- how many of them are sent
abbrev rowsSent : Start → ℕ
rowsSent c = length (those (is_given (rows c) (vars_of c.args.must.now) (columns_of c.args.must.now) (columns c) (part c)) (places c))

-- what the pick costs
abbrev cost : Start → ℕ
cost c = c.args.self.now.tool.call * combinations (vars_of c.args.must.now) (rows c) + c.args.self.now.tool.row * rowsSent c

fits : (c : Start) → Fits (columns c) c.args.must.now
fits c = given_fits _ (look_up_at-small c.args.self.now.fields.now c.requires.ready.small c.args.lookup) _ _ c.requires.pick.must

few : (c : Start) → length (places c) ≤ 512
few c =
    omega (arith, length-take c.args.self.now.found c.args.self.now.place, c.requires.begun.few, c.requires.ready.within.few c.args.lookup c.requires.pick.lookup)

long : (c : Start) → length (part c) ≡ count c * columns c
long c = part-long (columns c) (count c) _ _ (c.requires.ready.within.inside c.args.lookup c.requires.pick.lookup)

-- that is its charge
charge : (c : Start)
    → (let s = c.args.self.now in cost c ≡ charge_at s.tool s.fields.now s.parts.now s.words.now (rows c) c.args.lookup c.args.rule)
charge c =
    let s = c.args.self.now in
    let l = look_up_at s.fields.now c.args.lookup in
    let rule = (register_at s.fields.now c.args.lookup).rule in
    let start = (part_of s.parts.now l.register).start in
    charge-told s.tool l (look_up_at-small s.fields.now c.requires.ready.small c.args.lookup) rule c.args.rule (rows c) (part c) s.place (count c) s.found
    (columns c) c.args.must.now refl (c.requires.ready.within.few c.args.lookup c.requires.pick.lookup) (omega (arith, long c)) c.requires.begun
    c.requires.pick.must
    ∙ ap (λ xs. charge_by s.tool l rule xs (rows c) c.args.rule) (part-rows (columns c) (count c) (drop start s.words.now))

-- all calls were counted
all-calls : (c : After-different_rows-calls)
    → c.different_rows-calls.result ≡ combinations (vars_of c.args.must.now) (rows_of c.args.self.now.list)
all-calls c =
    let s = c.args.self.now in
    let same = ap (λ vs. combinations vs (rows_of s.list)) c.vars.ensures in
    omega (arith, same, c.different_rows-calls.ensures.value, count_within (vars_of c.args.must.now) s.list.words.now s.list.rows)

-- what the calls cost
few-calls : (c : After-different_rows-calls) → c.args.self.now.tool.call * c.different_rows-calls.result ≤ 512000
few-calls c =
    let r = c.requires.ready in
    (charge-most c.args.self.now.tool.call 0 c.different_rows-calls.result 0 r.bounds.0 (omega arith)
    (omega (arith, c.different_rows-calls.ensures.value, c.args.self.now.list.few)) (omega arith)).0

-- what the rows sent cost
few-sent : (c : After-sent_up_to-sent) → length (take c.args.self.now.found c.args.self.now.place) ≤ 512
    → c.args.self.now.tool.row * c.sent_up_to-sent.result ≤ 512000
few-sent c low =
    (charge-most 0 c.args.self.now.tool.row 0 c.sent_up_to-sent.result (omega arith) c.requires.ready.bounds.2 (omega arith)
    (omega (arith, sent-low _ _ _ _ c.sent_up_to-sent.ensures, low))).1

pub different_rows-calls-requires-clause-variables : goal.different_rows-calls-requires-clause-variables
different_rows-calls-requires-clause-variables c =
    let start = (goal.at.different_rows-calls-requires-clause-variables c).Start in
    rw c.vars.ensures (fits_variables _ _ (fits start))

pub returns-then-is_cheapest-clause-tries : goal.returns-then-is_cheapest-clause-tries
returns-then-is_cheapest-clause-tries c =
    let s = c.args.self.now in
    let start = (goal.at.returns-then-is_cheapest-clause-tries c).Start in
    let least = cheapest-says c.args.best _ (sym c.is_cheapest.ensures ∙ c.if-is_cheapest.true) in
    let calls = ap (λ k. s.tool.call * k) (all-calls (goal.at.returns-then-is_cheapest-clause-tries c).After-different_rows-calls) in
    sym (kept c.args.best c.args.lookup c.args.rule _ (record { pick = least.pick; is = least.is; low = omega (arith, least.low, calls, charge start) }))

pub sent_up_to-sent-requires-clause-fits : goal.sent_up_to-sent-requires-clause-fits
sent_up_to-sent-requires-clause-fits c =
    rw c.from-columns.ensures (fits (goal.at.sent_up_to-sent-requires-clause-fits c).Start)

pub sent_up_to-sent-requires-clause-inside : goal.sent_up_to-sent-requires-clause-inside
sent_up_to-sent-requires-clause-inside c =
    let start = (goal.at.sent_up_to-sent-requires-clause-inside c).Start in
    rw (c.words_of-part.ensures, c.from-at.ensures, c.from-columns.ensures)
    (placed-inside _ (columns start) (part start) _ _ (count start) c.requires.begun (omega (arith, long start)))

pub overflow_mul-row : goal.overflow_mul-row
overflow_mul-row c =
    let start = (goal.at.overflow_mul-row c).Start in
    omega (arith, few-sent (goal.at.overflow_mul-row c).After-sent_up_to-sent (few start))

pub overflow_add-base : goal.overflow_add-base
overflow_add-base c =
    let start = (goal.at.overflow_add-base c).Start in
    omega (arith, few-sent (goal.at.overflow_add-base c).After-sent_up_to-sent (few start), few-calls (goal.at.overflow_add-base c).After-different_rows-calls)

pub returns : goal.returns
returns c =
    let s = c.args.self.now in
    let r = c.requires.ready in
    let i = c.args.lookup in
    let j = c.args.rule in
    let best = c.args.best in
    let start = (goal.at.returns c).Start in
    let base = s.tool.call * c.different_rows-calls.result in
    let sent = rw (c.words_of-part.ensures, c.from-at.ensures, c.from-columns.ensures) at c.sent_up_to-sent.ensures in
    let told = c.better_pick.ensures
    ∙ ap (λ k. better best i j (base + s.tool.row * k)) sent
    ∙ c.enough_sent-enough.ensures i j (rowsSent start) (those-few _ (places start))
    ∙ ap (λ k. better best i j (s.tool.call * k + s.tool.row * rowsSent start)) (all-calls (goal.at.returns c).After-different_rows-calls) in
    record {
      tries = told ∙ ap (better best i j) (charge start);
      same = refl;
      ready =
          record {
            small = r.small;
            bounds = r.bounds;
            within = r.within;
            room = r.room;
            low = λ b e. better-low _ _ _ _ 1024000 r.low
                (charge-low s.tool _ _ s.list.words.now (places start) s.list.rows r.bounds.0 r.bounds.2 s.list.few (few start)) b (sym told ∙ e);
          };
      begun = c.requires.begun;
    }
