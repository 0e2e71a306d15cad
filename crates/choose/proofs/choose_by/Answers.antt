use mathlib.Core.Path.{refl, sym, ◌∙◌, ap}
use Rattle.plan.specs.Lists.{numbers}
use Rattle.choose.specs.Choose.{Choosing, tried_rules, must_give_at, register_at, tried_look_ups, chosen}
use Rattle.choose.proofs.ChooseLaws.{left_all, left_next, left_none, cheapest-most, asked-answered, asked_open, asked-kept}
use native.Mathlib.Omega.{arith}
use Rattle.choose.proofs.choose_by.Goals as goal
use Rattle.choose.proofs.choose_by.Goals.{then-not-is_in, else-not-is_in}

pub loop-lookup-init : goal.loop-lookup-init
loop-lookup-init g c = (left_all _ _ _, refl, c.requires.ready)

pub returns-then-is_cheapest : goal.returns-then-is_cheapest
unfolding chosen
returns-then-is_cheapest g c =
    let l = c.loop-lookup in
    sym
    (l.invariant.0.on
    ∙ asked-kept c.args.fields.now c.args.known c.args.answered _ l.best
    (λ i j. cheapest-most l.best c.args.least _ (sym c.is_cheapest.ensures ∙ c.if-is_cheapest.true) (c.requires.least i j)) _)

pub try_rules-best-requires : goal.try_rules-best-requires
try_rules-best-requires g c =
    let l = c.loop-lookup in
    record {
      look_up = (ap (λ (x : Choosing). x.fields) l.invariant.1 ∙ c.requires.small.0, c.requires.small.1, c.loop-lookup-test.true);
      least = λ j. rw l.invariant.1 (c.requires.least l.lookup j);
      ready = l.invariant.2;
      later = c.requires.later;
    }

pub loop-lookup-preserved : goal.loop-lookup-preserved
loop-lookup-preserved g c =
    let l = c.loop-lookup in
    let i = l.lookup in
    let f = c.args.fields.now in
    elim c.if-not-is_in.branch [
      | then-not-is_in w ↦
          let told = w.try_rules-best.ensures.tries
          ∙ ap (λ (x : Choosing). tried_rules c.args.known i (must_give_at f i) (x.cost i) l.best (numbers 0 (register_at f i).rules)) l.invariant.1 in
          rw (w.best-is, w.costs-is) (
            left_next _ _ _ _ _ l.invariant.0 _ c.loop-lookup-test.true
                (λ is.
                asked_open f c.args.known c.args.answered _ l.best i is (sym c.is_in.ensures ∙ w.if-not-is_in.true)
                ∙ ap (λ x. tried_look_ups f c.args.known c.args.answered _ x is) (sym told)),
            w.try_rules-best.ensures.same ∙ l.invariant.1,
            w.try_rules-best.ensures.ready,
          )
      | else-not-is_in w ↦
          rw (w.best-is, w.costs-is) (
            left_next _ _ _ _ _ l.invariant.0 _ c.loop-lookup-test.true
                (λ is. asked-answered f c.args.known c.args.answered _ l.best i is (sym c.is_in.ensures ∙ w.if-not-is_in.false)),
            l.invariant.1,
            c.requires.later _ _ _ _ (omega arith) l.invariant.2,
          )
    ]

pub returns : goal.returns
unfolding chosen tried_look_ups
returns g c = sym (left_none _ _ _ _ _ c.loop-lookup.invariant.0 c.loop-lookup-test.false)
