-- What stands behind the look-ups: the lowest variable that is not used is told, else zero bits go up to a full byte.
use mathlib.Core.Path.{◌≡◌, refl, sym, ◌∙◌, ap, ap₂, subst}
use mathlib.Core.Bool.{Bool, false, ◌||◌}
use mathlib.Core.List.{List, [], ◌∷◌, ◌++◌, append-nil}
use mathlib.Core.Option.{Option, none, some}
use Prim.Native.Nat.{ℕ, zero, suc, ◌+◌, ◌%◌, ◌^◌, ◌≤◌, ◌<◌}
use native.Mathlib.Omega.{arith}
use native.Mathlib.Nat.{zero-div}
use lib.ListN.{replicate, length-replicate}
use lib.Dec.{eqb}
use lib.Bits.{bit_or}
use Rattle.plan.specs.Lists.{has, numbers, in_set, set_of, vars_in}
use Rattle.plan.specs.Reader.{unused_variable}
use Rattle.plan.specs.Sheet.{LookUp, used, first_unused, all_used, to_full_byte}
use Rattle.plan.specs.Write.{marks_of, padding, unused_items, behind, put, written}
use Rattle.plan.proofs.Lists.{has-append}
use Rattle.plan.proofs.Numbers.{in_numbers}
use Rattle.plan.proofs.Sets.{set-append, set-has, set-vars, vars-has}
use Rattle.plan.proofs.First.{all-used_go, all-used_stop}
use Rattle.plan.proofs.Items.{written-nil, written-unused, written-padding, behind-bits, unused_none, unused-some}
use Rattle.sheet.specs.Answers.{passed}
use Rattle.sheet.proofs.Readers.{read_as-got, read_as-bad}
use Rattle.sheet.proofs.Used.{used_split, unused-same}
use Rattle.write.specs.declared.bits.Writer.{Writer}
use Rattle.write.specs.Said.{given_said}
use Rattle.write.specs.Puts.{Grows, Goes, Puts}
use Rattle.write.proofs.SaidLaws.{given-has}
use Rattle.write.proofs.PutsLaws.{grows_none}

-- the sets of the look-ups' variables and of the given ones make the set of all that are used
pub used-same : (variables given : ℕ) (ls : List LookUp) (m : ℕ) → variables ≤ 16 → given < 2 ^ 16 → m ≡ set_of (used [] ls)
    → first_unused (vars_in (bit_or m given)) (numbers 0 variables)
    ≡ first_unused (used (given_said variables given) ls) (numbers 0 variables)
used-same variables given ls m few low e =
    unused-same (vars_in (bit_or m given)) (used (given_said variables given) ls) (numbers 0 variables)
    (λ v i.
    let b : v < variables = omega (arith, (in_numbers 0 variables v i).1) in
    let h : v < 16 = omega arith in
    let both : bit_or m given ≡ set_of (used [] ls ++ vars_in given) =
    ap₂ bit_or e (sym (set-vars given low)) ∙ sym (set-append (used [] ls) (vars_in given)) in
    vars-has (bit_or m given) v h
    ∙ ap (λ x. in_set x v) both
    ∙ set-has (used [] ls ++ vars_in given) v h
    ∙ has-append eqb v (used [] ls) (vars_in given)
    ∙ ap (λ x. has eqb v (used [] ls) || x) (vars-has given v h ∙ sym (given-has variables given v b))
    ∙ sym (has-append eqb v (used [] ls) (given_said variables given))
    ∙ ap (has eqb v) (sym (used_split (given_said variables given) ls)))

-- the check of the variables, on a set that lacks the same ones, tells what the items tell
pub used_puts : (set us : List ℕ) (variables : ℕ) (w : Writer)
    → first_unused set (numbers 0 variables) ≡ first_unused us (numbers 0 variables)
    → Puts (written (unused_items variables us) w.at) w (passed (all_used set variables [] w.at)) w
used_puts set us variables w same = go (first_unused us (numbers 0 variables)) refl
  where
    go : (x : Option ℕ) → first_unused us (numbers 0 variables) ≡ x
        → Puts (written (unused_items variables us) w.at) w (passed (all_used set variables [] w.at)) w
    go none e =
        rw (← read_as-got _ (all_used set variables [] w.at) tt w.at (all-used_go set variables [] w.at (same ∙ e)))
        (record {
          more = [];
          is = ap (λ is. written is w.at) (unused_none variables us e) ∙ written-nil w.at;
          place = omega arith;
          grows = grows_none w;
        })
    go (some v) e =
        rw (← read_as-bad _ (all_used set variables [] w.at) unused_variable v (all-used_stop set variables [] w.at v (same ∙ e)))
        (record {
          fault = unused_variable;
          is = ap (λ is. written is w.at) (unused-some variables us v e) ∙ written-unused [] w.at v;
          refusal = refl;
        })

-- 0 is zero bits
marks-zero : (w : ℕ) → marks_of w 0 ≡ replicate w false
unfolding marks_of
marks-zero zero = refl
marks-zero (suc w) = ap₂ (λ (x : ℕ) (bs : List Bool). eqb (x % 2) 1 ∷ bs) (zero-div (2 ^ w)) (marks-zero w)

-- zero bits up to a full byte
pub padding_goes : (before after : Writer) → after.at ≡ before.at + to_full_byte before.at
    → Grows (marks_of (to_full_byte before.at) 0) before after → Goes (written (padding ∷ []) before.at) before after
padding_goes before after n g =
    let zeros = replicate (to_full_byte before.at) false in
    record {
      more = zeros;
      is = written-padding [] before.at
          ∙ ap (behind zeros) (written-nil (before.at + to_full_byte before.at))
          ∙ behind-bits zeros []
          ∙ ap put (append-nil zeros);
      place = omega (arith, n, length-replicate (to_full_byte before.at) false);
      grows = subst (λ bs. Grows bs before after) (marks-zero (to_full_byte before.at)) g;
    }
