use mathlib.Core.Path.{◌≡◌, refl, sym, ap, subst, ◌∙◌}
use native.Mathlib.Omega.{arith}
use borrow.Author.Rules.{rules}
use Rattle.plan.specs.Tokens.{cut_at}
use Rattle.plan.specs.Typed.{role, is_nowhere, which_name, first_fit, fits_of, fits_at}
use Rattle.plan.specs.declared.Cut.{Cut}
use Rattle.lines.proofs.TypedWalk.{cut_next}
use Rattle.sheet.specs.Fields.{sheet_held}
use mathlib.Core.List.{map}
use Rattle.typed.specs.Names.{name_from, names_held}
use Rattle.typed.specs.Notes.{Within, Room}
use Rattle.plan.specs.Refusals.{number_of}
use Rattle.typed.specs.Told.{number_told}
use Rattle.typed.specs.Request.{told_typed, told_read}
use Rattle.sheet.specs.declared.Fields.{Fields}
use Rattle.typed.specs.declared.faults.Counts.{Counts}
use Rattle.std.specs.Prelude.{None, Ok}
use Rattle.typed.proofs.Others.{nowhere, somewhere, number_some}
use Rattle.typed.proofs.LineLaws.{come_none, fits-are, come_faulty, come_which, come_room, come_next}
use Rattle.typed.proofs.LineLaws.{come_cut, come_whole, come_given, variables-are, cut-within, seen_among}
use Rattle.typed.proofs.line.read_line.Goals as goal
use Rattle.typed.proofs.line.read_line.Goals.{After-fault_of, After-which_name-which}

-- the name's number is that of the token here
which_is : (c : After-which_name-which) →
    let a = c.args in
    c.which_name-which.result
    ≡ which_name (map (name_from a.second.now) a.known.now) a.line.now (role c.loop-place.stage)
    (names_held a.line.now c.loop-place.seen.place c.loop-place.seen.count) (cut_at a.line.now c.loop-place.place).token
which_is c =
    let a = c.args in
    seen_among _ _ _ _ _ _ _ _ c.which_name-which.ensures c.places.ensures
    ∙ ap (λ (k : Cut).
    which_name (map (name_from a.second.now) a.known.now) a.line.now (role c.loop-place.stage)
    (names_held a.line.now c.loop-place.seen.place c.loop-place.seen.count) k.token) c.token_at-cut.ensures

-- the refusal that the code finds has the lowest number that fits the token here
fault_is : (c : After-fault_of) →
    let a = c.args in
    number_told c.fault_of.result
    ≡ first_fit (fits_at (sheet_held a.fields).registers (map (name_from a.second.now) a.known.now)
    a.line.now (record { stage = c.loop-place.stage; said = c.loop-place.invariant.2.t }) (cut_at a.line.now c.loop-place.place))
unfolding names_held
fault_is c =
    let a = c.args in
    let inv = c.loop-place.invariant in
    c.fault_of.ensures
    ∙ ap (λ (n : Counts).
    first_fit (fits_of c.loop-place.stage c.token_at-cut.result c.which_name-which.result n.registers n.variables n.lookups n.columns n.width))
    c.counts-counts.ensures
    ∙ ap first_fit
    (fits-are _ _ _ _ inv.0 inv.1 _ _ _ _ _ inv.2 c.token_at-cut.result _ _ (seen_among _ _ _ _ _ _ _ _ c.which_name-which.ensures c.places.ensures) refl)
    ∙ ap (λ (k : Cut).
    first_fit (fits_at (sheet_held a.fields).registers (map (name_from a.second.now) a.known.now)
    a.line.now (record { stage = c.loop-place.stage; said = inv.2.t }) k)) c.token_at-cut.ensures

-- where it finds none, no number fits
fault_none : (c : After-fault_of) → c.fault_of.result ≡ None →
    let a = c.args in
    first_fit (fits_at (sheet_held a.fields).registers (map (name_from a.second.now) a.known.now)
    a.line.now (record { stage = c.loop-place.stage; said = c.loop-place.invariant.2.t }) (cut_at a.line.now c.loop-place.place))
    ≡ 0
fault_none c e = sym (fault_is c) ∙ ap number_told e

pub loop-place-init : goal.loop-place-init
loop-place-init c =
    let r = c.requires in
    let said = c.nothing_said-said in
    let seen = c.nothing-seen.ensures in
    (r.of_sheet, r.one_for_each, come_none _ _ _ _ r.of_sheet r.one_for_each _ _ seen.place seen.count said.result said.ensures)

pub note-requires : goal.note-requires
note-requires c =
    let inv = c.loop-place.invariant in
    let g = goal.at.note-requires c in
    let fitless = fault_none g.After-fault_of c.in_default.is in
    let low = come_which _ _ _ _ inv.0 inv.1 _ _ _ _ _ inv.2 c.loop-place-test.true fitless in
    omega (arith, which_is g.After-which_name-which)

pub note-requires-in-loop-place : goal.note-requires-in-loop-place
note-requires-in-loop-place c =
    let inv = c.loop-place.invariant in
    let g = goal.at.note-requires-in-loop-place c in
    let fitless = fault_none g.After-fault_of c.in_default.is in
    subst (λ (k : Cut). Room c.loop-place.stage k.token c.which_name-which.result c.loop-place.said)
    (sym c.token_at-cut.ensures)
    (come_room _ _ _ _ inv.0 inv.1 _ _ _ _ _ inv.2 c.loop-place-test.true
    fitless c.which_name-which.result (which_is g.After-which_name-which) (search rules))

pub loop-place-smaller : goal.loop-place-smaller
loop-place-smaller c =
    let line = c.args.line.now in
    let (far, inside) = cut_next line c.loop-place.place c.loop-place-test.true in
    let e = ap (λ (j : Cut). j.next) c.token_at-cut.ensures in
    omega arith

pub loop-place-preserved : goal.loop-place-preserved
loop-place-preserved c =
    let inv = c.loop-place.invariant in
    let g = goal.at.loop-place-preserved c in
    let fitless = fault_none g.After-fault_of c.in_default.is in
    let cut = c.token_at-cut in (
      inv.0,
      inv.1,
      come_next _ _ _ _ inv.0 inv.1 _ _ _ _ _ inv.2 c.loop-place-test.true
          fitless cut.result cut.ensures c.which_name-which.result (which_is g.After-which_name-which)
          _ _ c.note.ensures _ c.note-in-loop-place.ensures _ c.behind-stage.ensures,
    )

pub made-requires : goal.made-requires
made-requires c =
    let inv = c.loop-place.invariant in come_given _ _ _ _ inv.0 inv.1 _ _ _ _ _ inv.2

pub which_name-which-requires : goal.which_name-which-requires
which_name-which-requires c =
    let line = c.args.line.now in
    subst (λ (k : Cut). Within line k.token) (sym c.token_at-cut.ensures) (cut-within line c.loop-place.place)

pub returns-in-Some : goal.returns-in-Some
returns-in-Some c =
    let inv = c.loop-place.invariant in
    let told : number_of c.in-Some.refusal ≡ number_told c.fault_of.result = sym (ap number_told c.in-Some.is) in
    ap told_typed
    (come_faulty _ _ _ _ inv.0 inv.1 _ _ _ _ _ inv.2 c.loop-place-test.true
    (number_of c.in-Some.refusal) (told ∙ fault_is (goal.at.returns-in-Some c).After-fault_of) (number_some c.in-Some.refusal))

pub returns-then-eq : goal.returns-then-eq
returns-then-eq c =
    let inv = c.loop-place.invariant in
    let bad = ap is_nowhere (sym c.behind.ensures) ∙ nowhere c.behind.result (search rules) in
    ap told_typed (come_cut _ _ _ _ inv.0 inv.1 _ _ _ _ _ inv.2 c.loop-place-test.false bad)

pub returns : goal.returns
returns c =
    let inv = c.loop-place.invariant in
    let good = ap is_nowhere (sym c.behind.ensures) ∙ sym (somewhere c.behind.result (search rules)) in
    let fields = c.made.ensures inv.2.t inv.0 inv.2.noted (variables-are _ _ _ _ inv.0 inv.1 _ _ _ _ _ inv.2) in
    ap (λ (f : Fields). told_read (Ok f)) fields
    ∙ ap told_typed (come_whole _ _ _ _ inv.0 inv.1 _ _ _ _ _ inv.2 c.loop-place-test.false good)
