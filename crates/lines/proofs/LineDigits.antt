-- The digits of a number: what is written for a number reads as it, and digits of which the first is not 0 are those that are
-- written for their number.
use mathlib.Core.Path.{◌≡◌, refl, ◌∙◌, ap}
use mathlib.Core.Logic.{◌⊎◌, inl, inr, ⊎_elim}
use mathlib.Core.Bool.{Bool, true}
use mathlib.Core.List.{List, [], ◌∷◌, ◌++◌}
use Prim.Native.Nat.{ℕ, zero, suc, ◌+◌, ◌-◌, ◌*◌, ◌/◌, ◌%◌, ◌^◌, ◌≤◌, ◌<◌}
use native.Mathlib.Omega.{arith}
use lib.Dec.{ltb}
use borrow.Author.Tests.{le-leb, ltb-true, ltb-false, lt-ltb, le-ltb}
use Rattle.plan.specs.Lists.{every}
use Rattle.plan.specs.Tokens.{is_digit, decimal}
use Rattle.plan.specs.Typed.{digits_of_lem}
use Rattle.plan.proofs.Lists.{by_test, and_left, and_right, and_of}
use Rattle.lines.proofs.Cuts.{digit_range, decimal-some}
use Rattle.lines.proofs.NameLaws.{every_more}

-- ---- one more at the end

-- of all that pass the first, and the last
every_first : {A : Type 0} (test : A → Bool) (xs : List A) (x : A) → every test (xs ++ (x ∷ [])) ≡ true
    → (every test xs ≡ true) × (test x ≡ true)
unfolding every
every_first test [] x h = (refl, and_left (test x) true h)
every_first test (y ∷ xs) x h =
    let r = every_first test xs x (and_right (test y) (every test (xs ++ (x ∷ []))) h) in
    (and_of (and_left (test y) (every test (xs ++ (x ∷ []))) h) r.0, r.1)

-- a list is empty, or has a last element
last_or_none : (ds : List ℕ) → (ds ≡ []) ⊎ ((es : List ℕ) × (e : ℕ) × (ds ≡ es ++ (e ∷ [])))
last_or_none [] = inl refl
last_or_none (d ∷ ds) =
    inr
    (⊎_elim
    (λ z. ([], d, ap (λ l. d ∷ l) z))
    (λ r. (d ∷ r.0, r.1, ap (λ l. d ∷ l) r.2))
    (last_or_none ds))

-- ---- digits

-- the number of digits with one more at the end
decimal-more : (n : ℕ) (ds : List ℕ) (d : ℕ) → decimal n (ds ++ (d ∷ [])) ≡ decimal n ds * 10 + (d - 48)
unfolding decimal
decimal-more n [] d = refl
decimal-more n (e ∷ ds) d = decimal-more (n * 10 + (e - 48)) ds d

-- a digit
digit_is : (x : ℕ) → x < 10 → is_digit (48 + x) ≡ true
unfolding is_digit
digit_is x h = and_of (le-leb 48 (48 + x) (omega arith)) (le-leb (48 + x) 57 (omega arith))

-- digits that make the number x, the first of which is not 0
pub record Digits (x : ℕ) (text : List ℕ) : Type 0 where
  pub first : ℕ
  pub rest : List ℕ
  pub text_is : text ≡ first ∷ rest
  pub digits : every is_digit text ≡ true
  pub low : 49 ≤ first
  pub value : decimal 0 text ≡ x

-- a number below 10
one_digit : (x : ℕ) → 1 ≤ x → x < 10 → Digits x ((48 + x) ∷ [])
unfolding every decimal
one_digit x low high =
    record {
      first = 48 + x;
      rest = [];
      text_is = refl;
      digits = and_of (digit_is x high) refl;
      low = omega arith;
      value = omega arith;
    }

-- a number of at least 10, by the digits of its tens
more-digits : (x : ℕ) (ds : List ℕ) → Digits (x / 10) ds → Digits x (ds ++ ((48 + x % 10) ∷ []))
more-digits x ds h =
    let d = 48 + x % 10 in
    let v = h.value in
    let e = decimal-more 0 ds d in
    record {
      first = h.first;
      rest = h.rest ++ (d ∷ []);
      text_is = ap (λ l. l ++ (d ∷ [])) h.text_is;
      digits = every_more is_digit ds d h.digits (digit_is (x % 10) (omega arith));
      low = h.low;
      value = omega arith;
    }

-- the digits that are written for a number make it
pub digits_of : (n x : ℕ) → 1 ≤ x → x < 10 ^ suc n → Digits x (digits_of_lem n x)
unfolding digits_of_lem
digits_of zero x low high = one_digit x low high
digits_of (suc n) x low high =
    by_test (ltb x 10)
    (λ t. rw (t, digits_of_lem) (one_digit x low (ltb-true x 10 t)))
    (λ f.
    let ten = ltb-false x 10 f in
    rw (f, digits_of_lem) (more-digits x (digits_of_lem n (x / 10)) (digits_of n (x / 10) (omega arith) (omega arith))))

-- below 10 one digit is written
digits-one : (n x : ℕ) → x < 10 → digits_of_lem n x ≡ (48 + x) ∷ []
unfolding digits_of_lem
digits-one zero x h = refl
digits-one (suc n) x h = rw (lt-ltb x 10 h, digits_of_lem)

-- from 10 on the digits of the tens, and one more
digits-many : (n x : ℕ) → 10 ≤ x → digits_of_lem (suc n) x ≡ digits_of_lem n (x / 10) ++ ((48 + x % 10) ∷ [])
unfolding digits_of_lem
digits-many n x h = rw (le-ltb x 10 h, digits_of_lem)

-- digits of which the first is not 0 are those that are written for their number: one digit
digits-first : (n d : ℕ) → is_digit d ≡ true → digits_of_lem n (decimal 0 (d ∷ [])) ≡ d ∷ []
unfolding decimal
digits-first n d h =
    let r = digit_range d h in
    digits-one n (0 * 10 + (d - 48)) (omega arith)
    ∙ ap (λ (k : ℕ). k ∷ []) (let same : 48 + (0 * 10 + (d - 48)) ≡ d = omega arith in same)

-- one digit more
digits_last : (n : ℕ) (ds : List ℕ) (e : ℕ) → digits_of_lem n (decimal 0 ds) ≡ ds → 1 ≤ decimal 0 ds → is_digit e ≡ true
    → digits_of_lem (suc n) (decimal 0 (ds ++ (e ∷ []))) ≡ ds ++ (e ∷ [])
digits_last n ds e ih some h =
    let r = digit_range e h in
    let y = decimal 0 (ds ++ (e ∷ [])) in
    let whole : y ≡ decimal 0 ds * 10 + (e - 48) = decimal-more 0 ds e in
    let tens : y / 10 ≡ decimal 0 ds = omega arith in
    let ones : 48 + y % 10 ≡ e = omega arith in
    digits-many n y (omega arith)
    ∙ ap (λ (k : ℕ). digits_of_lem n k ++ ((48 + y % 10) ∷ [])) tens
    ∙ ap (λ (k : ℕ). digits_of_lem n (decimal 0 ds) ++ (k ∷ [])) ones
    ∙ ap (λ (l : List ℕ). l ++ (e ∷ [])) ih

-- and so all digits
pub digits-again : (n d : ℕ) (ds : List ℕ) → every is_digit (d ∷ ds) ≡ true → 49 ≤ d → decimal 0 (d ∷ ds) < 10 ^ suc n
    → digits_of_lem n (decimal 0 (d ∷ ds)) ≡ d ∷ ds
unfolding every
digits-again zero d ds h low high =
    ⊎_elim
    (λ z. rw z (digits-first zero d (and_left (is_digit d) (every is_digit ds) h)))
    (λ r.
    let (es, e, z) = r in
    let whole : decimal 0 (d ∷ ds) ≡ decimal 0 (d ∷ es) * 10 + (e - 48) =
    ap (λ (l : List ℕ). decimal 0 (d ∷ l)) z ∙ decimal-more 0 (d ∷ es) e in
    absurd (let some = decimal-some d es low in omega arith))
    (last_or_none ds)
digits-again (suc n) d ds h low high =
    ⊎_elim
    (λ z. rw z (digits-first (suc n) d (and_left (is_digit d) (every is_digit ds) h)))
    (λ r.
    let (es, e, z) = r in
    let whole : decimal 0 (d ∷ ds) ≡ decimal 0 (d ∷ es) * 10 + (e - 48) =
    ap (λ (l : List ℕ). decimal 0 (d ∷ l)) z ∙ decimal-more 0 (d ∷ es) e in
    let (front, behind) = every_first is_digit (d ∷ es) e (rw z at h) in
    rw z (digits_last n (d ∷ es) e (digits-again n d es front low (omega arith)) (decimal-some d es low) behind))
    (last_or_none ds)
