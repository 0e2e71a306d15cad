-- `sheet::registers::read_rules` meets its contract: each is a rule.
use native.Mathlib.Omega.{arith}
use Rattle.plan.specs.Lists.{padded}
use Rattle.plan.specs.Reader.{marks}
use Rattle.plan.specs.Write.{marks_number}
use Rattle.plan.proofs.Seen.{Any, plain_more, marks-plain}
use Rattle.sheet.specs.Parts.{rules_of}
use Rattle.sheet.proofs.ReadsLaws.{showing, showing-reads, each-reads, reads-far}
use Rattle.sheet.proofs.registers.read_rules.Goals as goal

pub read_each-requires : goal.read_each-requires
read_each-requires c =
    let few = c.requires.2 in
    let plain = plain_more (marks c.args.columns) c.args.columns 6 _ Any few (λ x p. tt) (marks-plain c.args.columns (omega (arith, few))) in (
      omega arith,
      (
        (
          6,
          omega (arith, c.requires.0, c.requires.1),
          λ p far. (omega (arith, far, few), few),
          λ p x q h. reads-far (marks_number 0) (marks c.args.columns) 6 Any plain p.now x q.now h,
        ),
        c.requires.1,
      ),
    )

pub returns : goal.returns
unfolding rules_of
returns c =
    each-reads (marks_number 0) (marks c.args.columns) (padded 8 0) c.args.count _ _ _
    (c.read_each.ensures (showing (marks_number 0) (marks c.args.columns))
    (λ p x q h. showing-reads (marks_number 0) (marks c.args.columns) p.now x q.now h))
