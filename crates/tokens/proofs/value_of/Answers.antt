use Rattle.tokens.proofs.DigitsLaws.{read_none, read_digit, read_on, read_all}
use Rattle.tokens.proofs.value_of.Goals as goal

pub loop-digit-init : goal.loop-digit-init
loop-digit-init c = read_none c.args.digits.now c.requires

pub grown-value-requires : goal.grown-value-requires
grown-value-requires c =
    let l = c.loop-digit in
    let (low, high) = read_digit c.args.digits.now l.value l.digit-index l.invariant c.loop-digit-test.true in
    (l.invariant.small, low, high)

pub loop-digit-preserved : goal.loop-digit-preserved
loop-digit-preserved c =
    let l = c.loop-digit in
    read_on c.args.digits.now l.value l.digit-index l.invariant c.loop-digit-test.true c.grown-value.result c.grown-value.ensures

pub returns : goal.returns
returns c =
    let l = c.loop-digit in
    read_all c.args.digits.now l.value l.digit-index l.invariant c.loop-digit-test.false
