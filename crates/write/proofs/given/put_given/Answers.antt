-- `write::given::put_given` meets its contract: the marks, and then the values.
use mathlib.Core.List.{[], ◌∷◌}
use native.Mathlib.Omega.{arith}
use Rattle.std.proofs.lemmas.Result.{IfOk-weaker}
use Rattle.plan.proofs.Given.{given-length}
use Rattle.plan.specs.Write.{sound, given_marks, given_items}
use Rattle.write.specs.Said.{given_said}
use Rattle.write.proofs.PutsLaws.{open_less, grows_open, goes_sound, come_none, come_on, come_last}
use Rattle.write.proofs.given.put_given.Goals as goal

pub put_marks-requires : goal.put_marks-requires
put_marks-requires c = (open_less _ _ (omega (arith, c.requires.1)) c.requires.0, c.requires.1)

pub put_values-requires : goal.put_values-requires
put_values-requires c =
    let p = c.put_marks.ensures in
    (grows_open _ _ _ c.requires.0 p.1 (omega (arith, c.requires.0.room, c.requires.1, p.0)), c.requires.1)

pub returns : goal.returns
unfolding given_items
returns c =
    let a = c.args in
    let given = given_said a.f.now.variables a.f.now.given in
    let p = c.put_marks.ensures in
    let marks = given_marks a.f.now.variables given in
    let s = come_on (sound marks ∷ []) _ (come_none _ a.writer.now)
    (goes_sound marks a.writer.now c.put_marks.new.writer (omega (arith, p.0, given-length a.f.now.variables given)) p.1) in
    record {
      puts = come_last c.put_values.result c.put_values.new.writer s c.put_values.ensures.puts;
      at_most = IfOk-weaker c.put_values.result _ _ (λ x q. omega (arith, q, p.0, c.requires.1)) c.put_values.ensures.at_most;
    }
