-- Laws of names and of the pieces of a line: a name among names, letters that run, what is a name, the pieces of a line, so
-- many different names, and the token that is a name.
use mathlib.Core.Path.{◌≡◌, refl, sym, ◌∙◌, ap, subst}
use mathlib.Core.Logic.{◌⊎◌, inl, inr, ⊎_elim}
use mathlib.Core.Bool.{Bool, true, false, ◌&&◌, not, and-false}
use mathlib.Core.List.{List, [], ◌∷◌, ◌++◌, append-nil}
use Prim.Native.Nat.{ℕ, zero, suc, ◌+◌, ◌≤◌, ◌<◌, min}
use native.Mathlib.Omega.{arith}
use lib.Dec.{eqb, leb}
use lib.ListN.{get_or, length, take, drop, length-append, take-append-drop}
use lib.Seq.{length-take-le}
use borrow.Author.Tests.{eqb-true, eqb-false, leb-true, leb-false, eq-eqb, ne_eqb, le-leb, not-true}
use Rattle.plan.specs.Lists.{In, has, every, eq_row}
use Rattle.plan.specs.Tokens.{space, is_letter, run, cut, cut_number, cut_of, cut_at}
use Rattle.plan.specs.Tokens.{is_name, place_of, all_different, before, pieces, are_names}
use Rattle.plan.specs.Typed.{spaced, parted}
use Rattle.plan.specs.declared.Token.TheVariants.{Name}
use Rattle.plan.proofs.Lists.{by_test, clash, fails, tests_same, and_left, and_right, and_of, every_in}
use Rattle.plan.proofs.Lists.{in_append, in_behind, in_head, in_cons, in_nil}
use Rattle.plan.proofs.Lists.{has-not, not-has, in_has, eq_row_equal, eq_row_self, eq_row_faithful}
use Rattle.plan.proofs.Padded.{in_at}
use Rattle.lines.proofs.Cuts.{run-nil, run_pass, run_stop, run-low, run-every, cut_letter, cut-cases}

-- ---- a name among names

-- it is the first of them
pub place_here : (x y : List ℕ) (ys : List (List ℕ)) → eq_row x y ≡ true → place_of x (y ∷ ys) ≡ 0
unfolding place_of
place_here x y ys t = rw (t, place_of)

-- or not
pub place_later : (x y : List ℕ) (ys : List (List ℕ)) → eq_row x y ≡ false → place_of x (y ∷ ys) ≡ suc (place_of x ys)
unfolding place_of
place_later x y ys f = rw (f, place_of)

-- there is none
pub place_none : (x : List ℕ) → place_of x [] ≡ 0
unfolding place_of
place_none x = refl

-- the number is at most how many there are
pub place-low : (x : List ℕ) (names : List (List ℕ)) → place_of x names ≤ length names
place-low x [] = omega (arith, place_none x)
place-low x (y ∷ ys) =
    by_test (eq_row x y)
    (λ t. omega (arith, place_here x y ys t))
    (λ f. omega (arith, place_later x y ys f, place-low x ys))

-- a name that is one of them stands at its number
pub place_found : (x : List ℕ) (ys : List (List ℕ)) → place_of x ys < length ys → get_or ys (place_of x ys) [] ≡ x
place_found x [] h = absurd (omega arith)
place_found x (y ∷ ys) h =
    by_test (eq_row x y)
    (λ t. rw (place_here x y ys t) (sym (eq_row_equal x y t)))
    (λ f. let e = place_later x y ys f in rw e (place_found x ys (omega arith)))

-- the name at a place is known by that place, among the first n of different names
pub place-before : (names : List (List ℕ)) → all_different names ≡ true → (n v : ℕ) → v < length names
    → place_of (get_or names v []) (take n names) ≡ min n v
unfolding place_of all_different
place-before [] d n v h = absurd (omega arith)
place-before (y ∷ ys) d zero v h = omega arith
place-before (y ∷ ys) d (suc n) zero h = rw (eq_row_self y, place_of) (omega arith)
place-before (y ∷ ys) d (suc n) (suc v) h =
    let x = get_or ys v [] in
    let new = not-true (has eq_row y ys) (and_left (not (has eq_row y ys)) (all_different ys) d) in
    let inside = in_at ys v [] (omega arith) in
    let other : eq_row x y ≡ false =
    fails (eq_row x y) (λ t. clash (in_has eq_row eq_row_faithful y ys (rw (← eq_row_equal x y t) inside)) new) in
    let more = place-before ys (and_right (not (has eq_row y ys)) (all_different ys) d) n v (omega arith) in
    rw (other, place_of) (omega arith)

-- ---- letters that run

-- the letters that bytes begin with
abbrev pub word : List ℕ → List ℕ
word bs = take (run is_letter bs) bs

word_letter : (b : ℕ) (bs : List ℕ) → is_letter b ≡ true → word (b ∷ bs) ≡ b ∷ word bs
word_letter b bs t = ap (λ n. take n (b ∷ bs)) (run_pass is_letter b bs t)

word_stop : (b : ℕ) (bs : List ℕ) → is_letter b ≡ false → word (b ∷ bs) ≡ []
word_stop b bs f = ap (λ n. take n (b ∷ bs)) (run_stop is_letter b bs f)

word_end : word [] ≡ []
word_end = ap (λ n. take n []) (run-nil is_letter)

-- all of them are letters
pub word_letters : (bs : List ℕ) → every is_letter (word bs) ≡ true
word_letters bs = run-every is_letter bs

-- behind them comes no letter
word_behind : (bs : List ℕ) (b : ℕ) (rest : List ℕ) → drop (run is_letter bs) bs ≡ b ∷ rest → is_letter b ≡ false
word_behind [] b rest e =
    absurd (let z : 0 ≡ suc (length rest) = ap length (ap (λ n. drop {A = ℕ} n []) (sym (run-nil is_letter)) ∙ e) in omega arith)
word_behind (x ∷ bs) b rest e =
    by_test (is_letter x)
    (λ t. word_behind bs b rest (sym (ap (λ n. drop n (x ∷ bs)) (run_pass is_letter x bs t)) ∙ e))
    (λ f.
    let same : x ∷ bs ≡ b ∷ rest = sym (ap (λ n. drop n (x ∷ bs)) (run_stop is_letter x bs f)) ∙ e in
    let head : x ≡ b = cc in
    ap is_letter (sym head) ∙ f)

-- ---- the same letters

module _ (x : ℕ) (xs : List ℕ) (y : ℕ) (ys : List ℕ) where
  -- the first letter is the same
  pub same_first : is_letter x ≡ true → y ≡ x → eq_row (x ∷ xs) (word (y ∷ ys)) ≡ eq_row xs (word ys)
  unfolding eq_row
  same_first t e = ap (eq_row (x ∷ xs)) (word_letter y ys (ap is_letter e ∙ t)) ∙ rw (eq-eqb x y (sym e))

  -- it is not
  pub other_first : (y ≡ x → ⊥) → eq_row (x ∷ xs) (word (y ∷ ys)) ≡ false
  unfolding eq_row
  other_first n =
      by_test (is_letter y)
      (λ t. ap (eq_row (x ∷ xs)) (word_letter y ys t) ∙ rw (ne_eqb x y (λ e. n (sym e))))
      (λ f. ap (eq_row (x ∷ xs)) (word_stop y ys f))

-- no letters are left: the bytes end, or go on with none
pub same_end : eq_row [] (word []) ≡ true
unfolding eq_row
same_end = ap (eq_row []) word_end

pub same_stop : (y : ℕ) (ys : List ℕ) → eq_row [] (word (y ∷ ys)) ≡ not (is_letter y)
unfolding eq_row
same_stop y ys =
    by_test (is_letter y)
    (λ t. ap (eq_row []) (word_letter y ys t) ∙ rw t)
    (λ f. ap (eq_row []) (word_stop y ys f) ∙ rw f)

-- ---- what is a name

-- 1 to 12 letters
pub name_of : (x : List ℕ) → 1 ≤ length x → length x ≤ 12 → every is_letter x ≡ true → is_name x ≡ true
unfolding is_name
name_of x low high t = and_of (and_of (le-leb 1 (length x) low) (le-leb (length x) 12 high)) t

pub name-letters : (x : List ℕ) → is_name x ≡ true → every is_letter x ≡ true
unfolding is_name
name-letters x h = and_right (leb 1 (length x) && leb (length x) 12) (every is_letter x) h

pub name-short : (x : List ℕ) → is_name x ≡ true → (1 ≤ length x) × (length x ≤ 12)
unfolding is_name
name-short x h =
    let both = and_left (leb 1 (length x) && leb (length x) 12) (every is_letter x) h in (
      leb-true 1 (length x) (and_left (leb 1 (length x)) (leb (length x) 12) both),
      leb-true (length x) 12 (and_right (leb 1 (length x)) (leb (length x) 12) both),
    )

-- so it is none where it is empty, too long, or has another byte
name_empty : is_name [] ≡ false
name_empty = fails (is_name []) (λ t. let low = (name-short [] t).0 in omega arith)

name-long : (x : List ℕ) → 12 < length x → is_name x ≡ false
name-long x h = fails (is_name x) (λ t. let high = (name-short x t).1 in omega arith)

-- one of all that are tested fails
every-not : {A : Type 0} (test : A → Bool) (xs ys : List A) (b : A) → test b ≡ false → every test (xs ++ b ∷ ys) ≡ false
unfolding every
every-not test [] ys b f = rw f
every-not test (x ∷ xs) ys b f = rw (every-not test xs ys b f) (and-false (test x))

name_other : (xs ys : List ℕ) (b : ℕ) → is_letter b ≡ false → is_name (xs ++ b ∷ ys) ≡ false
name_other xs ys b f =
    fails (is_name (xs ++ b ∷ ys)) (λ t. clash (name-letters (xs ++ b ∷ ys) t) (every-not is_letter xs ys b f))

-- ---- pieces

-- there is at least one
pub pieces-some : (bs : List ℕ) → (p : List ℕ) × (ps : List (List ℕ)) × (pieces bs ≡ p ∷ ps)
unfolding pieces before
pieces-some [] = ([], [], refl)
pieces-some (b ∷ bs) =
    let (p, ps, e) = pieces-some bs in
    by_test (eqb b space) (λ t. ([], pieces bs, rw (t, pieces))) (λ f. (b ∷ p, ps, rw (f, pieces) (ap (before b) e)))

-- of no bytes one, which is empty
pieces_end : pieces [] ≡ [] ∷ []
unfolding pieces
pieces_end = refl

-- a space parts
pieces_gap : (bs : List ℕ) → pieces (space ∷ bs) ≡ [] ∷ pieces bs
unfolding pieces
pieces_gap bs = refl

-- another byte is of the first piece
pieces_on : (b : ℕ) (bs p : List ℕ) (ps : List (List ℕ)) → (b ≡ space → ⊥) → pieces bs ≡ p ∷ ps
    → pieces (b ∷ bs) ≡ (b ∷ p) ∷ ps
unfolding pieces before
pieces_on b bs p ps n e = rw (ne_eqb b space n, pieces) (ap (before b) e)

-- as a letter is
letter_no_space : (b : ℕ) → is_letter b ≡ true → b ≡ space → ⊥
unfolding is_letter
letter_no_space b t e = omega (arith, leb-true 97 b (and_left (leb 97 b) (leb b 122) t))

pieces-letters : (xs ys p : List ℕ) (ps : List (List ℕ)) → every is_letter xs ≡ true → pieces ys ≡ p ∷ ps
    → pieces (xs ++ ys) ≡ (xs ++ p) ∷ ps
unfolding every
pieces-letters [] ys p ps t e = e
pieces-letters (x ∷ xs) ys p ps t e =
    pieces_on x (xs ++ ys) (xs ++ p) ps (letter_no_space x (and_left (is_letter x) (every is_letter xs) t))
    (pieces-letters xs ys p ps (and_right (is_letter x) (every is_letter xs) t) e)

-- and letters that a space or the end follows are the first piece
pieces_word : (x rest : List ℕ) (ps : List (List ℕ)) → every is_letter x ≡ true → pieces rest ≡ [] ∷ ps
    → pieces (x ++ rest) ≡ x ∷ ps
pieces_word x rest ps t e = pieces-letters x rest [] ps t e ∙ ap (λ w. w ∷ ps) (append-nil x)

-- a byte put before the first of some pieces is put before them all
before-parted : (b : ℕ) (ps : List (List ℕ)) → parted (before b ps) ≡ b ∷ parted ps
unfolding before parted spaced
before-parted b [] = refl
before-parted b (p ∷ ps) = refl

-- a line is its pieces, parted by one space
pub parted-pieces : (l : List ℕ) → parted (pieces l) ≡ l
unfolding pieces parted spaced
parted-pieces [] = refl
parted-pieces (b ∷ bs) =
    let rest = parted-pieces bs in
    by_test (eqb b space)
    (λ t.
    let (p, ps, e) = pieces-some bs in
    let apart : spaced (pieces bs) ≡ space ∷ parted (pieces bs) = rw e in
    rw (t, pieces) (apart ∙ ap (λ l. space ∷ l) rest ∙ ap (λ (c : ℕ). c ∷ bs) (sym (eqb-true b space t))))
    (λ f. rw (f, pieces) (before-parted b (pieces bs) ∙ ap (λ l. b ∷ l) rest))

-- names with a space before each: an empty piece, and the names
pieces-spaced : (names : List (List ℕ)) → every is_name names ≡ true → pieces (spaced names) ≡ [] ∷ names
unfolding every spaced
pieces-spaced [] h = pieces_end
pieces-spaced (x ∷ names) h =
    pieces_gap (x ++ spaced names)
    ∙ ap (λ ps. [] ∷ ps)
    (pieces_word x (spaced names) names
    (name-letters x (and_left (is_name x) (every is_name names) h))
    (pieces-spaced names (and_right (is_name x) (every is_name names) h)))

-- names parted by one space have these names for pieces, where there is a first
pub pieces-parted : (names : List (List ℕ)) → 1 ≤ length names → every is_name names ≡ true → pieces (parted names) ≡ names
unfolding every parted
pieces-parted [] some h = absurd (omega arith)
pieces-parted (x ∷ names) some h =
    pieces_word x (spaced names) names
    (name-letters x (and_left (is_name x) (every is_name names) h))
    (pieces-spaced names (and_right (is_name x) (every is_name names) h))

-- ---- the first piece, where bytes begin with letters

module _ (bs : List ℕ) where
  word_rest : (rest : List ℕ) → drop (run is_letter bs) bs ≡ rest → pieces bs ≡ pieces (word bs ++ rest)
  word_rest rest e = ap pieces (sym (take-append-drop (run is_letter bs) bs) ∙ ap (λ r. word bs ++ r) e)

  -- they are all that there is
  pub word_alone : drop (run is_letter bs) bs ≡ [] → pieces bs ≡ word bs ∷ []
  word_alone e = word_rest [] e ∙ pieces_word (word bs) [] [] (word_letters bs) pieces_end

  -- a space follows
  pub word_gap : (rest : List ℕ) → drop (run is_letter bs) bs ≡ space ∷ rest → pieces bs ≡ word bs ∷ pieces rest
  word_gap rest e =
      word_rest (space ∷ rest) e ∙ pieces_word (word bs) (space ∷ rest) (pieces rest) (word_letters bs) (pieces_gap rest)

  -- another byte follows
  pub word_other : (b : ℕ) (rest : List ℕ) → drop (run is_letter bs) bs ≡ b ∷ rest → (b ≡ space → ⊥)
      → (q : List ℕ) × (ps : List (List ℕ)) × (pieces bs ≡ (word bs ++ q) ∷ ps) × (is_name (word bs ++ q) ≡ false)
  word_other b rest e n =
      let (p, ps, s) = pieces-some rest in (
        b ∷ p,
        ps,
        word_rest (b ∷ rest) e ∙ pieces-letters (word bs) (b ∷ rest) (b ∷ p) ps (word_letters bs) (pieces_on b rest p ps n s),
        name_other (word bs) p b (word_behind bs b rest e),
      )

  first_word : (rest : List ℕ) → drop (run is_letter bs) bs ≡ rest
      → (q : List ℕ) × (ps : List (List ℕ)) × (pieces bs ≡ (word bs ++ q) ∷ ps) × ((q ≡ []) ⊎ (is_name (word bs ++ q) ≡ false))
  first_word [] e = ([], [], word_alone e ∙ ap (λ w. w ∷ []) (sym (append-nil (word bs))), inl refl)
  first_word (b ∷ rest) e =
      by_test (eqb b space)
      (λ t.
      let gap : drop (run is_letter bs) bs ≡ space ∷ rest = e ∙ ap (λ c. c ∷ rest) (eqb-true b space t) in
      ([], pieces rest, word_gap rest gap ∙ ap (λ w. w ∷ pieces rest) (sym (append-nil (word bs))), inl refl))
      (λ f. let (q, ps, s, n) = word_other b rest e (eqb-false b space f) in (q, ps, s, inr n))

  -- in any case the first piece begins with them, and is no name where it goes on
  pub first_word_lem : (q : List ℕ) × (ps : List (List ℕ)) × (pieces bs ≡ (word bs ++ q) ∷ ps)
      × ((q ≡ []) ⊎ (is_name (word bs ++ q) ≡ false))
  first_word_lem = first_word (drop (run is_letter bs) bs) refl

  -- no letters, no name
  pub no_word : run is_letter bs ≡ 0 → (p : List ℕ) × (ps : List (List ℕ)) × (pieces bs ≡ p ∷ ps) × (is_name p ≡ false)
  no_word e =
      let (q, ps, s, w) = first_word_lem in
      let none : word bs ≡ [] = ap (λ n. take n bs) e in
      (word bs ++ q, ps, s, ⊎_elim (λ z. ap is_name (ap (λ x. x ++ q) none ∙ z) ∙ name_empty) (λ n. n) w)

  -- nor where they are over 12
  pub long_word : 12 < run is_letter bs → (p : List ℕ) × (ps : List (List ℕ)) × (pieces bs ≡ p ∷ ps) × (is_name p ≡ false)
  long_word h =
      let (q, ps, s, w) = first_word_lem in
      let many : length (word bs) ≡ run is_letter bs = length-take-le (run is_letter bs) bs (run-low is_letter bs) in
      (word bs ++ q, ps, s, name-long (word bs ++ q) (omega (arith, length-append (word bs) q)))

-- ---- different names

-- one of them comes again
different-not : (xs ps : List (List ℕ)) (p : List ℕ) → place_of p xs < length xs → all_different (xs ++ p ∷ ps) ≡ false
unfolding all_different
different-not [] ps p h = absurd (omega arith)
different-not (x ∷ xs) ps p h =
    by_test (eq_row p x)
    (λ t.
    let again : has eq_row x (xs ++ p ∷ ps) ≡ true =
    in_has eq_row eq_row_faithful x (xs ++ p ∷ ps)
    (in_behind x xs (p ∷ ps) (subst (λ (y : List ℕ). In y (p ∷ ps)) (eq_row_equal p x t) (in_head p ps))) in
    rw again)
    (λ f.
    rw (different-not xs ps p (omega (arith, place_later p x xs f))) (and-false (not (has eq_row x (xs ++ p ∷ ps)))))

-- one that is none of them is one more
pub different-more : (xs : List (List ℕ)) (p : List ℕ) → all_different xs ≡ true → length xs ≤ place_of p xs
    → all_different (xs ++ (p ∷ [])) ≡ true
unfolding all_different has
different-more [] p t h = refl
different-more (x ∷ xs) p t h =
    by_test (eq_row p x)
    (λ e. absurd (omega (arith, place_here p x xs e)))
    (λ f.
    let once = not-true (has eq_row x xs) (and_left (not (has eq_row x xs)) (all_different xs) t) in
    let new : has eq_row x (xs ++ (p ∷ [])) ≡ false =
    not-has eq_row eq_row_faithful x (xs ++ (p ∷ []))
    (λ i.
    ⊎_elim
    (has-not eq_row eq_row_faithful x xs once)
    (λ j. ⊎_elim
    (λ (e : x ≡ p). clash (subst (λ (y : List ℕ). eq_row p y ≡ true) (sym e) (eq_row_self p)) f)
    (in_nil x)
    (in_cons x p [] j))
    (in_append x xs (p ∷ []) i)) in
    and_of (ap not new)
    (different-more xs p (and_right (not (has eq_row x xs)) (all_different xs) t) (omega (arith, place_later p x xs f))))

pub every_more : {A : Type 0} (test : A → Bool) (xs : List A) (p : A) → every test xs ≡ true → test p ≡ true
    → every test (xs ++ (p ∷ [])) ≡ true
unfolding every
every_more test [] p t e = rw e
every_more test (x ∷ xs) p t e =
    and_of (and_left (test x) (every test xs) t) (every_more test xs p (and_right (test x) (every test xs) t) e)

-- so many different names
pub record Named (n : ℕ) (names : List (List ℕ)) : Type 0 where
  pub count : length names ≡ n
  pub all : every is_name names ≡ true
  pub apart : all_different names ≡ true

-- the test says just that
pub names-named : (n : ℕ) (names : List (List ℕ)) → are_names n names ≡ true → Named n names
unfolding are_names
names-named n names h =
    let front = and_left (eqb (length names) n && every is_name names) (all_different names) h in
    record {
      count = eqb-true (length names) n (and_left (eqb (length names) n) (every is_name names) front);
      all = and_right (eqb (length names) n) (every is_name names) front;
      apart = and_right (eqb (length names) n && every is_name names) (all_different names) h;
    }

-- and the other way round
pub named-names : (n : ℕ) (names : List (List ℕ)) → Named n names → are_names n names ≡ true
unfolding are_names
named-names n names h = and_of (and_of (eq-eqb (length names) n h.count) h.all) h.apart

-- a new one makes one more
pub named_more : (names : List (List ℕ)) (x : List ℕ) → Named (length names) names → is_name x ≡ true
    → length names ≤ place_of x names → Named (length (names ++ (x ∷ []))) (names ++ (x ∷ []))
named_more names x h t new =
    record { count = refl; all = every_more is_name names x h.all t; apart = different-more names x h.apart new }

-- a name at a place among names is one
pub name_at_lem : (names : List (List ℕ)) (i : ℕ) → every is_name names ≡ true → i < length names → is_name (get_or names i []) ≡ true
name_at_lem names i h low = every_in is_name names h (get_or names i []) (in_at names i [] low)

module _ (registers : ℕ) where
  -- pieces are no names for the registers where one of them is no name
  pub names-not : (xs ps : List (List ℕ)) (p : List ℕ) → is_name p ≡ false → are_names registers (xs ++ p ∷ ps) ≡ false
  names-not xs ps p f =
      let all = xs ++ p ∷ ps in
      fails (are_names registers all) (λ t. clash (names-named registers all t).all (every-not is_name xs ps p f))

  -- where one comes again
  pub names-again : (xs ps : List (List ℕ)) (p : List ℕ) → place_of p xs < length xs
      → are_names registers (xs ++ p ∷ ps) ≡ false
  names-again xs ps p h =
      let all = xs ++ p ∷ ps in
      fails (are_names registers all) (λ t. clash (names-named registers all t).apart (different-not xs ps p h))

  -- and where there are more than registers
  pub names-many : (xs : List (List ℕ)) → registers < length xs → are_names registers xs ≡ false
  names-many xs h = fails (are_names registers xs) (λ t. let count = (names-named registers xs t).count in omega arith)

  -- of different names it is their number alone
  pub names-counted : (xs : List (List ℕ)) → every is_name xs ≡ true → all_different xs ≡ true
      → are_names registers xs ≡ eqb (length xs) registers
  names-counted xs n d =
      tests_same (are_names registers xs) (eqb (length xs) registers)
      (λ t. eq-eqb (length xs) registers (names-named registers xs t).count)
      (λ t. named-names registers xs (record { count = eqb-true (length xs) registers t; all = n; apart = d }))

-- ---- the token that is a name

-- letters make one
word_cut : (at : ℕ) (bs : List ℕ) → 1 ≤ run is_letter bs → (cut_of at bs).token ≡ Name at (run is_letter bs)
unfolding cut cut_number
word_cut at [] h = absurd (omega (arith, run-nil is_letter))
word_cut at (b ∷ bs) h =
    by_test (is_letter b)
    (λ t. ap (λ c. c.token) (cut_letter at b bs t))
    (λ f. absurd (omega (arith, run_stop is_letter b bs f)))

-- and only letters do
cut_word : (at : ℕ) (rest : List ℕ) (a k : ℕ) → (cut_of at rest).token ≡ Name a k
    → (a ≡ at) × (k ≡ run is_letter rest) × (1 ≤ k) × ((cut_of at rest).next ≡ at + k)
unfolding cut cut_number cut_of
cut_word at [] = λ a k e. absurd (let z : ◌≡◌ {A = ℕ} 0 1 = cc in omega arith)
cut_word at (b ∷ bs) =
    cut-cases
    (λ c. (a k : ℕ) → c.token ≡ Name a k → (a ≡ at) × (k ≡ run is_letter (b ∷ bs)) × (1 ≤ k) × (c.next ≡ at + k)) at b bs
    (λ t a k e.
    let n = run_pass is_letter b bs t in
    let x : at ≡ a = cc in
    let y : run is_letter (b ∷ bs) ≡ k = cc in
    (sym x, sym y, omega arith, ap (λ n. at + n) y))
    (λ t a k e. absurd (let z : ◌≡◌ {A = ℕ} 0 1 = cc in omega arith))
    (λ t a k e. absurd (let z : ◌≡◌ {A = ℕ} 0 1 = cc in omega arith))
    (λ f a k e. absurd (let z : ◌≡◌ {A = ℕ} 0 1 = cc in omega arith))

-- of the token at a place of a line: a name is all letters that run there
pub cut-name : (line : List ℕ) (at a k : ℕ) → (cut_at line at).token ≡ Name a k
    → (a ≡ at) × (k ≡ run is_letter (drop at line)) × (1 ≤ k) × ((cut_at line at).next ≡ at + k)
unfolding cut_at
cut-name line at a k e = cut_word at (drop at line) a k e

-- where it is none no letters run
pub cut_no_name : (line : List ℕ) (at : ℕ) → ((k : ℕ) → (cut_at line at).token ≡ Name at k → ⊥)
    → run is_letter (drop at line) ≡ 0
unfolding cut_at
cut_no_name line at n =
    let k = run is_letter (drop at line) in
    by_test (leb 1 k)
    (λ t. absurd (n k (word_cut at (drop at line) (leb-true 1 k t))))
    (λ f. omega (arith, leb-false 1 k f))
