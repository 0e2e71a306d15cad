-- `names::is_name_at` meets its contract: the text from the place on begins with the name, and no letter follows.
use Rattle.typed.proofs.HeldNames.{begins_short, begins_hit, begins_miss}
use Rattle.typed.proofs.names.is_name_at.Goals as goal

pub returns-then-rest-n : goal.returns-then-rest-n
returns-then-rest-n c =
    begins_short c.args.text.now c.args.name.now c.args.place c.min.result c.min.ensures c.requires c.if-rest-n.true

pub returns-then-begins_with : goal.returns-then-begins_with
returns-then-begins_with c =
    begins_hit c.args.text.now c.args.name.now c.args.place c.min.result c.min.ensures c.requires c.begins_with.result c.begins_with.ensures
    c.letters_of.result c.letters_of.ensures c.if-begins_with.true

pub returns-else-begins_with : goal.returns-else-begins_with
returns-else-begins_with c =
    begins_miss c.args.text.now c.args.name.now c.args.place c.min.result c.min.ensures c.requires c.begins_with.result c.begins_with.ensures
    c.if-begins_with.false
