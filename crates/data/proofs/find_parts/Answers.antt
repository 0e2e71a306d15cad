use mathlib.Core.Path.{◌≡◌, refl, sym, ◌∙◌, ap}
use Prim.Native.Nat.{◌≤◌}
use native.Mathlib.Omega.{arith}
use borrow.Author.Rules.{rules}
use lib.ListN.{length, get_or}
use Rattle.data.specs.Parts.{parts_of}
use Rattle.data.proofs.PartsLaws.{parts-long, found_none, found-refused, found-more}
use Rattle.data.proofs.PartsLaws.{found-over, found_all}
use Rattle.data.proofs.find_parts.Goals as goal

pub returns-then-words-gt-MOST_WORDS : goal.returns-then-words-gt-MOST_WORDS
unfolding parts_of
returns-then-words-gt-MOST_WORDS c =
    let g = c.args in
    sym (ap parts_of (parts-long g.columns.now g.words.now (omega arith)))

pub loop-i-init : goal.loop-i-init
loop-i-init c =
    let g = c.args in
    (omega arith, refl, found_none g.words.now g.columns.now (omega arith))

pub returns-in_err-count : goal.returns-in_err-count
returns-in_err-count c =
    let g = c.args in
    let x = c.loop-i in
    let end : length g.words.now ≤ x.at = c.in_err-count.ensures.lookup.3 in
    c.from_residual.ensures
    ∙ sym (found-refused g.words.now g.columns.now x.part x.at x.i x.invariant.2
    c.loop-i-test.true (get_or g.words.now x.at 0) refl (λ h. omega arith))

pub returns-then-count-gt-MOST_ROWS : goal.returns-then-count-gt-MOST_ROWS
returns-then-count-gt-MOST_ROWS c =
    let g = c.args in
    let x = c.loop-i in
    let word = c.in_ok-count in
    sym (found-refused g.words.now g.columns.now x.part x.at x.i x.invariant.2
    c.loop-i-test.true word.field-0.now (word.ensures.lookup.4 (omega arith) 0) (λ h. omega arith))

pub returns-then-end-words : goal.returns-then-end-words
returns-then-end-words c =
    let g = c.args in
    let x = c.loop-i in
    let word = c.in_ok-count in
    sym (found-refused g.words.now g.columns.now x.part x.at x.i x.invariant.2
    c.loop-i-test.true word.field-0.now (word.ensures.lookup.4 (omega arith) 0)
    (rw (← c.from.ensures) (λ h. omega arith)))

pub loop-i-preserved : goal.loop-i-preserved
loop-i-preserved c =
    let g = c.args in
    let x = c.loop-i in
    let word = c.in_ok-count in
    let within = rw c.from.ensures at c.if-end-words.false in
    rw c.from.ensures (
      omega arith,
      search rules,
      found-more g.words.now g.columns.now x.part x.at x.i x.invariant.2
          c.loop-i-test.true c.requires.few
          word.field-0.now (word.ensures.lookup.4 (omega arith) 0) (word.ensures.lookup.3.0, omega arith, within),
    )

pub returns-then-at-words : goal.returns-then-at-words
returns-then-at-words c =
    let g = c.args in
    let x = c.loop-i in
    let all : x.i ≡ length g.columns.now = omega arith in
    sym (found-over g.words.now g.columns.now x.part x.at x.i x.invariant.2 all (omega arith))

pub returns : goal.returns
returns c =
    let g = c.args in
    let x = c.loop-i in
    let all : x.i ≡ length g.columns.now = omega arith in
    sym (found_all g.words.now g.columns.now x.part x.at x.i x.invariant.2 all (omega arith))
