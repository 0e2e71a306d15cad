use mathlib.Core.Path.{refl, ap, ◌∙◌}
use lib.Dec.{eqb}
use Prim.Native.Nat.{◌+◌, ◌≤◌, ◌<◌}
use native.Mathlib.Omega.{arith}
use borrow.Author.Rules.{rules}
use lib.ListN.{length, set}
use Rattle.std.specs.Bool.{then_some}
use Rattle.typed.proofs.ReadingLaws.{Named, named, unnamed, reading_none, reads_no_name, reads_more, looked_up, all_letters, reads-new}
use Rattle.typed.proofs.ReadingLaws.{reads-long, reads-again, reads-within, reads_other, reads_on, reads_last}
use Rattle.typed.proofs.names.read_names.Goals as goal
use Rattle.typed.proofs.names.read_names.Goals.{In-Name}

-- the name, as it was cut
name_is : (c : In-Name)
    → Named c.args.second.now c.loop-count.place c.in-Name.at c.in-Name.letters c.token_at-cut.result.next
name_is c =
    named c.args.second.now c.loop-count.place c.token_at-cut.result _ _ c.token_at-cut.ensures c.in-Name.is

-- it lies within the line
within : (c : In-Name)
    → c.in-Name.at + c.in-Name.letters ≤ length c.args.second.now
within c =
    let n = name_is c in
    omega (arith, n.here, reads-within c.args.registers c.loop-count.invariant c.in-Name.letters n.all)

pub loop-count-init : goal.loop-count-init
loop-count-init c = reading_none c.args.second.now _ refl

pub returns-in_default : goal.returns-in_default
returns-in_default c =
    reads_no_name c.args.registers c.loop-count.invariant
    (unnamed c.args.second.now c.loop-count.place c.token_at-cut.result c.token_at-cut.ensures c.in_default.not-Name)

pub returns-then-letters-gt-MOST_LETTERS : goal.returns-then-letters-gt-MOST_LETTERS
returns-then-letters-gt-MOST_LETTERS c =
    let n = name_is (goal.at.returns-then-letters-gt-MOST_LETTERS c).In-Name in
    let long : 12 < c.in-Name.letters = search rules in
    reads-long c.args.registers c.loop-count.invariant c.in-Name.letters n.all long

pub overflow_add-at : goal.overflow_add-at
overflow_add-at c = omega (arith, within (goal.at.overflow_add-at c).In-Name)

pub slice_bounds-place_of-end-in-loop-count : goal.slice_bounds-place_of-end-in-loop-count
slice_bounds-place_of-end-in-loop-count c =
    omega (arith, within (goal.at.slice_bounds-place_of-end-in-loop-count c).In-Name)

pub place_of-requires : goal.place_of-requires
place_of-requires c = all_letters c.args.second.now (name_is (goal.at.place_of-requires c).In-Name)

pub returns-then-place_of-count : goal.returns-then-place_of-count
returns-then-place_of-count c =
    let l = c.loop-count in
    let n = name_is (goal.at.returns-then-place_of-count c).In-Name in
    reads-again c.args.registers l.invariant c.in-Name.letters n.all
    (omega (arith, looked_up c.args.second.now l.places l.count n c.place_of.ensures, c.if-place_of-count.true))

pub returns-then-place-second : goal.returns-then-place-second
returns-then-place-second c =
    let l = c.loop-count in
    let n = name_is (goal.at.returns-then-place-second c).In-Name in
    let short : c.in-Name.letters ≤ 12 = search rules in
    let new = reads-new c.args.second.now l.places l.count n c.place_of.ensures c.if-place_of-count.false in
    let found = c.then_some.ensures ∙ ap (λ p. then_some (eqb (l.count + 1) c.args.registers) (set l.places l.count p)) n.here in
    reads_last c.args.registers l.invariant c.in-Name.letters n.all n.some short (omega arith) new
    c.token_at-cut.result.next n.to c.if-place-second.true _ found

pub bounds-second-place : goal.bounds-second-place
bounds-second-place c =
    let n = name_is (goal.at.bounds-second-place c).In-Name in
    let behind = within (goal.at.bounds-second-place c).In-Name in
    let further = c.if-place-second.false in
    omega (arith, n.here, n.to)

pub returns-then-second-place-ne32 : goal.returns-then-second-place-ne32
returns-then-second-place-ne32 c =
    let n = name_is (goal.at.returns-then-second-place-ne32 c).In-Name in
    let behind = within (goal.at.returns-then-second-place-ne32 c).In-Name in
    let further = c.if-place-second.false in
    reads_other c.args.registers c.loop-count.invariant c.in-Name.letters n.all c.token_at-cut.result.next n.to
    (omega (arith, n.here, n.to)) c.if-second-place-ne32.true

pub loop-count-preserved : goal.loop-count-preserved
loop-count-preserved c =
    let l = c.loop-count in
    let n = name_is (goal.at.loop-count-preserved c).In-Name in
    let behind = within (goal.at.loop-count-preserved c).In-Name in
    let further = c.if-place-second.false in
    let short : c.in-Name.letters ≤ 12 = search rules in
    let new = reads-new c.args.second.now l.places l.count n c.place_of.ensures c.if-place_of-count.false in
    rw n.here
    (reads_on c.args.registers l.invariant c.in-Name.letters n.all n.some short (omega arith) new
    c.token_at-cut.result.next n.to (omega (arith, n.here, n.to)) c.if-second-place-ne32.false)

pub returns : goal.returns
returns c =
    reads_more c.args.registers c.loop-count.invariant c.loop-count-test.false
