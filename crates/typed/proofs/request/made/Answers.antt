-- `request::made` meets its contract: the fields are those of the sheet with the sheet's registers and what was said.
use Rattle.typed.proofs.RequestLaws.{request-made}
use Rattle.typed.proofs.request.made.Goals as goal

pub returns : goal.returns
returns c t o n e =
    request-made c.args.fields c.args.said c.args.variables c.first_variables.result t o n e
    c.first_variables.ensures c.requires
