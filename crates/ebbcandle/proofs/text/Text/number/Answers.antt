-- `ebbcandle::text::Text::number` meets its contract: its digits are put behind the bytes that are there.
use Rattle.std.proofs.Common.{rules, ap, ◌∙◌, ◌++◌, ◌≤◌, length}
use Rattle.ebbcandle.specs.Lines.{decimal}
use Rattle.ebbcandle.proofs.LineLaws.{put_seen}
use Rattle.ebbcandle.proofs.text.Text.number.Goals as goal

pub returns-clause-put : goal.returns-clause-put
unfolding decimal
returns-clause-put c =
    let t = c.self.inside in
    let within : t.len ≤ length t.room = search rules in
    put_seen within c.put_digits-self-inside.ensures.put ∙ ap (λ l. l ++ decimal c.args.n) c.self.view_is
