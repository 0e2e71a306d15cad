-- Names that are known by the places where they begin: one more name, how many there are, and a name looked for among those
-- held. By the laws of lists that are kept in an array.
use mathlib.Core.Path.{◌≡◌, sym, ◌∙◌, ap, ap₂}
use mathlib.Core.Bool.{Bool, true, false}
use mathlib.Core.List.{List, [], ◌∷◌, ◌++◌, map, map-append}
use Prim.Native.Nat.{ℕ, suc, ◌+◌, ◌-◌, ◌≤◌, ◌<◌, min}
use native.Mathlib.Omega.{arith}
use lib.Dec.{eqb, leb}
use lib.ListN.{set, length, get_or, take, drop, length-set, length-map, drop_of_length-le}
use lib.Seq.{take-suc, take-suc-set, take-length, length-take-le, get_or-take, drop-cons}
use native.Mathlib.Numerals.{add-one}
use Rattle.std.proofs.lemmas.List.{take-append-drop}
use borrow.Author.Tests.{leb-true, leb-false, eqb-true, eqb-false}
use Rattle.std.specs.List.{prefix_len}
use Rattle.plan.specs.Lists.{eq_row, every}
use Rattle.plan.specs.Tokens.{is_letter, run, place_of}
use Rattle.plan.specs.Typed.{name_at}
use Rattle.plan.proofs.Lists.{by_test, clash, fails, eq_row_equal, eq_row_self, and_left, and_right}
use Rattle.lines.proofs.Cuts.{run-low, run_pass}
use Rattle.lines.proofs.NameLaws.{place_here, place_later, place_none}
use Rattle.tokens.proofs.TokenLaws.{rest_is, run_is}
use Rattle.typed.specs.Names.{name_from, names_held, RoomFor}

-- the name that begins at a place is the one of as many letters as run there
pub name_from_lem : (line : List ℕ) (at k : ℕ) → 1 ≤ k → k ≡ run is_letter (drop at line) → name_from line at ≡ name_at line at k
unfolding name_from
name_from_lem line at k h e = ap (λ n. take n (drop at line)) (sym e)

-- there is room for one more place
pub room_more : (most : ℕ) (places : List ℕ) (count p : ℕ) → RoomFor most places count → count < most
    → RoomFor most (set places count p) (suc count)
room_more most places count p r more = record { room = length-set places count p ∙ r.room; few = omega arith }

module _ {most : ℕ} (text places : List ℕ) (count : ℕ) (fine : RoomFor most places count) where
  -- as many names are held as there are places
  pub held_number : length (names_held text places count) ≡ count
  unfolding names_held
  held_number =
      length-map (take count places) (name_from text)
      ∙ length-take-le count places (omega (arith, fine.room, fine.few))

  module _ (p : ℕ) (more : count < most) where
    -- one more place holds one more name
    pub held_more : names_held text (set places count p) (suc count) ≡ names_held text places count ++ (name_from text p ∷ [])
    unfolding names_held
    held_more =
        ap (map (name_from text)) (take-suc-set places count p (omega (arith, fine.room)))
        ∙ map-append (name_from text) (take count places) (p ∷ [])

-- ---- a name among those that begin at places of a text

-- the text from a place on, as a slice
pub rest_from : (text : List ℕ) (place least : ℕ) → least ≡ min place (length text)
    → take (length text - least) (drop least text) ≡ drop place text
rest_from text place least e =
    by_test (leb place (length text))
    (λ t.
    let same : least ≡ place = omega (arith, leb-true place (length text) t) in rest_is text least ∙ ap (λ n. drop n text) same)
    (λ f.
    let far = leb-false place (length text) f in
    let none : drop least text ≡ [] = drop_of_length-le text (omega arith) in
    rest_is text least ∙ none ∙ sym (drop_of_length-le text (omega arith)))

-- letters in front of a text run on into it
run_onto : (x rest : List ℕ) → every is_letter x ≡ true → run is_letter (x ++ rest) ≡ length x + run is_letter rest
unfolding every
run_onto [] rest h = omega arith
run_onto (b ∷ x) rest h =
    let on = run_onto x rest (and_right (is_letter b) (every is_letter x) h) in
    let one = run_pass is_letter b (x ++ rest) (and_left (is_letter b) (every is_letter x) h) in
    omega (arith, one, on)

-- a name of letters that a text begins with is the letters that run there where no letter follows
module _ (x r : List ℕ) (letters : every is_letter x ≡ true) where
  abbrev n : ℕ
  n = length x

  -- a name as long as the letters that run is held against all of them
  as_long : eq_row x (take (run is_letter r) r) ≡ true → run is_letter r ≡ n
  as_long t = sym (length-take-le (run is_letter r) r (run-low is_letter r)) ∙ ap length (sym (eq_row_equal x (take (run is_letter r) r) t))

  front_is : run is_letter r ≡ n → eq_row x (take n r) ≡ eq_row x (take (run is_letter r) r)
  front_is e = ap (λ k. eq_row x (take k r)) (sym e)

  -- a text that is shorter does not begin with it
  pub front_short : length r < n → false ≡ eq_row x (take (run is_letter r) r)
  front_short s =
      let low = run-low is_letter r in
      sym (fails (eq_row x (take (run is_letter r) r)) (λ t. let long = as_long t in omega (arith, low, long, s)))

  pub front_hit : eq_row x (take n r) ≡ true → eqb (run is_letter (drop n r)) 0 ≡ eq_row x (take (run is_letter r) r)
  front_hit h =
      let same = eq_row_equal x (take n r) h in
      let whole : x ++ drop n r ≡ r = ap (λ l. l ++ drop n r) same ∙ take-append-drop n r in
      let on = sym (ap (run is_letter) whole) ∙ run_onto x (drop n r) letters in
      by_test (eqb (run is_letter (drop n r)) 0)
      (λ t.
      let none = eqb-true (run is_letter (drop n r)) 0 t in
      t ∙ sym h ∙ front_is (omega (arith, on, none)))
      (λ f. f ∙ sym (fails (eq_row x (take (run is_letter r) r)) (λ t.
      let long = as_long t in eqb-false (run is_letter (drop n r)) 0 f (omega (arith, on, long)))))

  pub front_miss : eq_row x (take n r) ≡ false → false ≡ eq_row x (take (run is_letter r) r)
  front_miss h = sym (fails (eq_row x (take (run is_letter r) r)) (λ t. clash t (sym (front_is (as_long t)) ∙ h)))

-- so it begins at a place where the text from there on begins with it and no letter follows
module _ (text x : List ℕ) (place least : ℕ) (is : least ≡ min place (length text)) (letters : every is_letter x ≡ true) where
  abbrev rest : List ℕ
  rest = take (length text - least) (drop least text)

  whole : rest ≡ drop place text
  whole = rest_from text place least is

  pub begins_short : length rest < length x → false ≡ eq_row x (name_from text place)
  unfolding name_from
  begins_short s = front_short x (drop place text) letters (let e = ap length whole in omega (arith, e, s))

  module _ (same : Bool) (eq : same ≡ eq_row x (take (length x) rest)) where
    here : same ≡ eq_row x (take (length x) (drop place text))
    here = eq ∙ ap (λ l. eq_row x (take (length x) l)) whole

    pub begins_hit : (k : ℕ) → k ≡ prefix_len is_letter (take (length rest - length x) (drop (length x) rest)) → same ≡ true
        → eqb k 0 ≡ eq_row x (name_from text place)
    unfolding name_from
    begins_hit k e t =
        let behind : k ≡ run is_letter (drop (length x) (drop place text)) =
        e ∙ ap (prefix_len is_letter) (rest_is rest (length x))
        ∙ ap (λ l. prefix_len is_letter (drop (length x) l)) whole
        ∙ run_is is_letter (drop (length x) (drop place text)) in
        ap (λ j. eqb j 0) behind ∙ front_hit x (drop place text) letters (sym here ∙ t)

    pub begins_miss : same ≡ false → same ≡ eq_row x (name_from text place)
    unfolding name_from
    begins_miss f = f ∙ front_miss x (drop place text) letters (sym here ∙ f)

-- bytes that begin with a name, byte by byte: what is passed is the same
abbrev pub Alike : List ℕ → List ℕ → ℕ → Type 0
Alike x r i = take i x ≡ take i r

module _ (x r : List ℕ) (room : length x ≤ length r) where
  pub alike_more : (i : ℕ) → i < length x → Alike x r i → get_or r i 0 ≡ get_or x i 0 → Alike x r (i + 1)
  alike_more i low same e =
      ap (λ k. take k x) (add-one i) ∙ take-suc x i 0 low
      ∙ ap₂ (λ l v. l ++ (v ∷ [])) same (sym e)
      ∙ sym (ap (λ k. take k r) (add-one i) ∙ take-suc r i 0 (omega (arith, room, low)))

  pub alike_all : (i : ℕ) → i ≡ length x → Alike x r i → true ≡ eq_row x (take (length x) r)
  alike_all i e same =
      let all : x ≡ take (length x) r = sym (take-length x) ∙ ap (λ k. take k x) (sym e) ∙ same ∙ ap (λ k. take k r) e in
      sym (ap (eq_row x) (sym all) ∙ eq_row_self x)

  pub alike_not : (i : ℕ) → i < length x → (get_or r i 0 ≡ get_or x i 0 → ⊥) → false ≡ eq_row x (take (length x) r)
  alike_not i low other =
      sym (fails (eq_row x (take (length x) r)) (λ t.
      let same = eq_row_equal x (take (length x) r) t in
      other (sym (ap (λ l. get_or l i 0) same ∙ get_or-take (length x) r i 0 low))))

module _ (text x : List ℕ) (places : List ℕ) where
  -- the name's number among the places from one on
  abbrev pub among : ℕ → ℕ
  among i = place_of x (map (name_from text) (drop i places))

  module _ (i : ℕ) (more : i < length places) where
    next : among i ≡ place_of x (name_from text (get_or places i 0) ∷ map (name_from text) (drop (suc i) places))
    next = ap (λ ps. place_of x (map (name_from text) ps)) (drop-cons places i 0 more)

    pub among_here : eq_row x (name_from text (get_or places i 0)) ≡ true → i ≡ i + among i
    among_here t = let none = next ∙ place_here x (name_from text (get_or places i 0)) (map (name_from text) (drop (suc i) places)) t in omega (arith, none)

    pub among_later : eq_row x (name_from text (get_or places i 0)) ≡ false → i + among i ≡ i + 1 + among (i + 1)
    among_later f =
        let one = next ∙ place_later x (name_from text (get_or places i 0)) (map (name_from text) (drop (suc i) places)) f in
        let same : among (suc i) ≡ among (i + 1) = ap among (let s : suc i ≡ i + 1 = omega arith in s) in
        omega (arith, one, same)

  pub among_none : (i : ℕ) → length places ≤ i → among i ≡ 0
  among_none i far = ap (λ ps. place_of x (map (name_from text) ps)) (drop_of_length-le places far) ∙ place_none x
