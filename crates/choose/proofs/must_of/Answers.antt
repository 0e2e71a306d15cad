-- `choose::must_of` meets its contract: the columns are found by the look-up's entry.
use Rattle.choose.proofs.GivesLaws.{given_must}
use Rattle.choose.proofs.must_of.Goals as goal

pub returns : goal.returns
returns c =
    given_must c.args.entry c.requires c.args.marks c.from-columns.result c.vars_of-vars.result c.must_columns.result
    c.from-columns.ensures c.vars_of-vars.ensures c.must_columns.ensures
