-- How far digits were read as a number: laws for the loop of `value_of`.
use mathlib.Core.Path.{◌≡◌, refl, sym, ◌∙◌, ap}
use mathlib.Core.Bool.{true}
use mathlib.Core.List.{List, ◌∷◌}
use Prim.Native.Nat.{ℕ, ◌+◌, ◌-◌, ◌*◌, ◌≤◌, ◌<◌, min}
use native.Mathlib.Numerals.{add-one}
use native.Mathlib.Omega.{arith}
use lib.ListN.{get_or, length, drop, drop_of_length-le}
use lib.Seq.{drop-cons}
use Rattle.plan.specs.Lists.{every}
use Rattle.plan.specs.Tokens.{over, is_digit, decimal, value_of}
use Rattle.plan.proofs.Lists.{and_left, and_right}
use Rattle.lines.proofs.Cuts.{decimal_on, digit_range}

-- the number of the digits is the value with those from `next` on behind it, and those are digits
pub record Read (digits : List ℕ) (value next : ℕ) : Type 0 where
  pub small : value ≤ over
  pub left : every is_digit (drop next digits) ≡ true
  pub tells : value_of digits ≡ min over (decimal value (drop next digits))

-- nothing is read before the first digit
pub read_none : (digits : List ℕ) → every is_digit digits ≡ true → Read digits 0 0
unfolding value_of
read_none digits t = record { small = omega arith; left = t; tells = refl }

module _ (digits : List ℕ) (value next : ℕ) (so : Read digits value next) where
  module _ (h : next < length digits) where
    opened : drop next digits ≡ get_or digits next 0 ∷ drop (next + 1) digits
    opened = drop-cons digits next 0 h ∙ ap (λ n. get_or digits next 0 ∷ drop n digits) (sym (add-one next))

    all : every is_digit (get_or digits next 0 ∷ drop (next + 1) digits) ≡ true
    all = ap (every is_digit) (sym opened) ∙ so.left

    -- the next is a digit
    pub read_digit : (48 ≤ get_or digits next 0) × (get_or digits next 0 ≤ 57)
    unfolding every
    read_digit =
        digit_range (get_or digits next 0)
        (and_left (is_digit (get_or digits next 0)) (every is_digit (drop (next + 1) digits)) all)

    -- one more digit
    pub read_on : (more : ℕ) → more ≡ min over (value * 10 + (get_or digits next 0 - 48)) → Read digits more (next + 1)
    unfolding every
    read_on more e =
        record {
          small = omega arith;
          left = and_right (is_digit (get_or digits next 0)) (every is_digit (drop (next + 1) digits)) all;
          tells = so.tells
              ∙ ap (λ ds. min over (decimal value ds)) opened
              ∙ decimal_on value (get_or digits next 0) (drop (next + 1) digits)
              ∙ ap (λ m. min over (decimal m (drop (next + 1) digits))) (sym e);
        }

  -- where none is left, the number is read
  pub read_all : length digits ≤ next → value ≡ value_of digits
  unfolding decimal
  read_all h =
      sym (so.tells
      ∙ ap (λ ds. min over (decimal value ds)) (drop_of_length-le digits h)
      ∙ (let e : min over value ≡ value = omega (arith, so.small) in e))
