use mathlib.Core.Path.{◌≡◌, refl, sym, ◌∙◌, ap, subst}
use mathlib.Core.List.{List, [], ◌∷◌, ◌++◌, map}
use Prim.Native.Nat.{ℕ, ◌+◌, ◌*◌, ◌%◌, ◌^◌, ◌≤◌, ◌<◌}
use native.Mathlib.Omega.{arith}
use borrow.Author.Rules.{rules}
use lib.ListN.{length, get_or}
use lib.Bits.{bit_or}
use lib.Dec.{ltb}
use Rattle.plan.specs.Lists.{numbers, set_of}
use Rattle.plan.specs.Reader.{not_in_sheet}
use Rattle.plan.specs.Request.{reads}
use Rattle.plan.specs.Write.{Item, name_item, written}
use Rattle.plan.proofs.Sets.{set-nil, set-put}
use Rattle.plan.proofs.Told.{told_more}
use Rattle.write.specs.Puts.{Goes, Stops, tested_item}
use Rattle.write.proofs.ItemLaws.{name-tested}
use Rattle.write.proofs.PutsLaws.{puts_told}
use Rattle.write.proofs.LoopLaws.{turned_none, turned_open, turned_on, turned_stop, turned_all, reads_all}
use Rattle.write.proofs.lookups.put_vars.Invariants.{items}
use Rattle.write.proofs.lookups.put_vars.Goals as goal

-- none yet
vars_none : (vars : List ℕ) → 0 ≡ set_of (reads vars (numbers 0 0))
unfolding reads numbers
vars_none vars = sym set-nil

-- one more
vars-more : (vars : List ℕ) (c v used : ℕ) → v ≡ get_or vars c 0 → v < 16 → used ≡ set_of (reads vars (numbers 0 c))
    → bit_or used ((1 * 2 ^ v) % 2 ^ 16) ≡ set_of (reads vars (numbers 0 (c + 1)))
unfolding reads
vars-more vars c v used e h s =
    set-put (reads vars (numbers 0 c)) v used h s
    ∙ ap (λ x. set_of (reads vars (numbers 0 c) ++ (x ∷ []))) e
    ∙ ap set_of (sym (told_more (λ v. get_or vars v 0) c))

-- the next variable stands in front of the rest
next : (variables : ℕ) (vars : List ℕ) (c v : ℕ) → v ≡ get_or vars c 0 → (cs : List ℕ)
    → items variables vars (c ∷ cs) ≡ tested_item (ltb v variables) 4 v not_in_sheet ∷ items variables vars cs
unfolding reads
next variables vars c v e cs =
    ap (λ (i : Item). i ∷ items variables vars cs) (name-tested variables (get_or vars c 0))
    ∙ ap (λ x. tested_item (ltb x variables) 4 x not_in_sheet ∷ items variables vars cs) (sym e)

-- no columns have no items
nothing : (variables : ℕ) (vars : List ℕ) → items variables vars [] ≡ []
unfolding reads
nothing variables vars = refl

pub loop-v-init : goal.loop-v-init
loop-v-init c =
    let a = c.args in
    record { place = omega arith; set = vars_none a.vars.now; put = turned_none (items a.variables a.vars.now) (length a.vars.now) a.writer.now }

pub put_if-requires : goal.put_if-requires
put_if-requires c =
    let l = c.loop-v in
    let inside : l.v-index < length c.args.vars.now = omega arith in
    (turned_open l.invariant.put _ 4 c.requires.0 (omega (arith, l.invariant.place, c.requires.0.room, c.requires.1, inside)), omega arith)

pub returns-in_err-put_if-clause-puts : goal.returns-in_err-put_if-clause-puts
returns-in_err-put_if-clause-puts c =
    let l = c.loop-v in
    let vars = c.args.vars.now in
    let inside : l.v-index < length vars = omega arith in
    puts_told _ _ _ _ _ c.from_residual.ensures.1
    (subst (λ (vs : List ℕ). Stops (written (map (name_item c.args.variables) vs) c.args.writer.now.at) c.in_err-put_if.field-0.0)
    (reads_all vars)
    (turned_stop l.invariant.put inside (tested_item _ 4 c.from-v.result not_in_sheet ∷ [])
    (next c.args.variables vars l.v-index c.from-v.result c.from-v.ensures) (c.in_err-put_if.ensures.puts not_in_sheet refl)))

pub loop-v-preserved : goal.loop-v-preserved
loop-v-preserved c =
    let l = c.loop-v in
    let vars = c.args.vars.now in
    let inside : l.v-index < length vars = omega arith in
    let p = c.in_ok-put_if.ensures in
    let low : c.from-v.result < c.args.variables = search rules in
    record {
      place = omega (arith, l.invariant.place, p.passed.1);
      set = vars-more vars l.v-index c.from-v.result l.used c.from-v.ensures (omega (arith, low, c.requires.2)) l.invariant.set;
      put = turned_on l.invariant.put inside (tested_item _ 4 c.from-v.result not_in_sheet ∷ [])
          (next c.args.variables vars l.v-index c.from-v.result c.from-v.ensures) (p.puts not_in_sheet refl);
    }

pub returns : goal.returns
returns c =
    let l = c.loop-v in
    let vars = c.args.vars.now in
    let all : length vars ≤ l.v-index = omega arith in
    let e : l.v-index ≡ length vars = omega arith in
    let same = reads_all vars in
    record {
      puts = subst (λ (vs : List ℕ). Goes (written (map (name_item c.args.variables) vs) c.args.writer.now.at) c.args.writer.now l.writer)
          same (turned_all l.invariant.put (nothing c.args.variables vars) all);
      at_most = omega (arith, l.invariant.place, c.requires.1);
      set = l.invariant.set ∙ ap (λ n. set_of (reads vars (numbers 0 n))) e ∙ ap set_of same;
    }
