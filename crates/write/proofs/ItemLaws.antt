-- Laws of one item that is put: a count, a name, the number of variables, a given value. Each is its number's bits where the
-- number passes the item's test, and else broken.
use mathlib.Core.Path.{◌≡◌}
use mathlib.Core.Bool.{Bool, ◌&&◌, not}
use Prim.Native.Nat.{ℕ, ◌-◌}
use lib.Dec.{eqb, leb, ltb}
use Rattle.plan.specs.Reader.{Fault, count_out, not_in_sheet, given_zero}
use Rattle.plan.specs.Write.{item, count_item, name_item, variables_item, value_item}
use Rattle.plan.proofs.Lists.{by_test}
use Rattle.plan.proofs.Items.{item_pass, item_fail, variables_pass, variables_fail}
use Rattle.write.specs.Puts.{tested_item}

-- a number that is tested
item-tested : (w : ℕ) (test : ℕ → Bool) (fault : Fault) (x : ℕ) → item w test fault x ≡ tested_item (test x) w x fault
item-tested w test fault x =
    by_test (test x) (λ t. rw t (item_pass w test fault x t)) (λ f. rw f (item_fail w test fault x f))

-- a count
pub count-tested : (w low high x : ℕ) → count_item w low high x ≡ tested_item (leb low x && leb x high) w x count_out
unfolding count_item
count-tested w low high x = item-tested w (λ y. leb low y && leb y high) count_out x

-- a name
pub name-tested : (n x : ℕ) → name_item n x ≡ tested_item (ltb x n) 4 x not_in_sheet
unfolding name_item
name-tested n x = item-tested 4 (λ y. ltb y n) not_in_sheet x

-- a given value
pub value-tested : (x : ℕ) → value_item x ≡ tested_item (not (eqb x 0)) 32 x given_zero
unfolding value_item
value-tested x = item-tested 32 (λ y. not (eqb y 0)) given_zero x

-- the number of variables, less one
pub variables-tested : (v : ℕ) → variables_item v ≡ tested_item (leb 1 v && leb v 16) 4 (v - 1) count_out
variables-tested v =
    by_test (leb 1 v && leb v 16) (λ t. rw t (variables_pass v t)) (λ f. rw f (variables_fail v f))
