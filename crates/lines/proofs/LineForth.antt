-- A line that reads as a request is the one that is written for it (`forth`): at each stage what was read is what is written
-- for what was said so far.
use mathlib.Core.Path.{◌≡◌, refl, sym, ◌∙◌, ap, ap₂, subst}
use mathlib.Core.Bool.{true}
use mathlib.Core.List.{List, [], ◌∷◌, ◌++◌, map, append_assoc, append-nil, map-append}
use Prim.Native.Nat.{ℕ, ◌≤◌, ◌<◌}
use native.Mathlib.Omega.{arith}
use lib.ListN.{length, get_or, length-append, length-map, get_or-append}
use lib.Seq.{append_snoc, get_or-append_seam}
use lib.Dec.{ltb}
use borrow.Author.Tests.{ltb-true, ltb-false}
use Rattle.plan.specs.Lists.{In, every}
use Rattle.plan.specs.Sheet.{Register, LookUp, Sheet, used}
use Rattle.plan.specs.Tokens.{equals, colon, opening, closing, space, is_name, decimal, place_of, all_different}
use Rattle.plan.specs.Tokens.{are_names, pieces}
use Rattle.plan.specs.Typed.{Typing, nothing_said, of_given, of_register, of_column, with_name, noted_name, noted_value}
use Rattle.plan.specs.Typed.{noted_look_up, asks, sheet_typed, typed_on, digits_of_lem, given_text, spaced, parted, look_up_text}
use Rattle.plan.specs.Typed.{line_of, Typable}
use Rattle.plan.specs.declared.Stage.{Stage}
use Rattle.plan.specs.declared.Stage.TheVariants.{Given, Equals, Value, GivenGap, ColonGap, Asked, Opening, Column}
use Rattle.plan.specs.declared.Stage.TheVariants.{ColumnGap, Closed, Nowhere}
use Rattle.plan.proofs.Lists.{by_test, in_front, in_behind, map_same}
use Rattle.lines.proofs.NameLaws.{place-low, place_found, parted-pieces, Named, names-named, named-names, named_more}
use Rattle.lines.proofs.TypedWalk.{typed_named}
use Rattle.lines.proofs.TypedSaid.{turn_low, turn_in, used-more, with_old, with_new, with_turn, AtStage, giving_between}
use Rattle.lines.proofs.TypedSaid.{read-typable}
use Rattle.lines.proofs.LineCuts.{Spelt, spelt_name, farther}
use Rattle.lines.proofs.LineReads.{Counted, Reads, finish, a_given, an_equals, a_value, given_gap, the_colon, colon_gap}
use Rattle.lines.proofs.LineReads.{a_register, opens, a_variable, column_gap, closes, look_up_gap, asks_read}
use Rattle.lines.proofs.LineDigits.{digits-again}

-- ---- one more at the end

-- the text of givens, and of one more; so for what follows
given-more : (names : List (List ℕ)) (xs : List ℕ) (name : List ℕ) (x : ℕ) → length names ≡ length xs
    → given_text (names ++ (name ∷ [])) (xs ++ (x ∷ []))
    ≡ given_text names xs ++ (name ++ (equals ∷ (digits_of_lem 9 x ++ (space ∷ []))))
unfolding given_text
given-more [] [] name x e = refl
given-more [] (y ∷ xs) name x e = absurd (omega arith)
given-more (n ∷ names) [] name x e = absurd (omega arith)
given-more (n ∷ names) (y ∷ xs) name x e =
    let rest = given-more names xs name x (omega arith) in
    let more = name ++ (equals ∷ (digits_of_lem 9 x ++ (space ∷ []))) in
    ap (λ (l : List ℕ). n ++ (equals ∷ (digits_of_lem 9 y ++ (space ∷ l)))) rest
    ∙ ap (λ (l : List ℕ). n ++ (equals ∷ l)) (sym (append_assoc (digits_of_lem 9 y) (space ∷ given_text names xs) more))
    ∙ sym (append_assoc n (equals ∷ (digits_of_lem 9 y ++ (space ∷ given_text names xs))) more)

-- names with a space before each
spaced-more : (ys : List (List ℕ)) (x : List ℕ) → spaced (ys ++ (x ∷ [])) ≡ spaced ys ++ (space ∷ x)
unfolding spaced
spaced-more [] x = ap (λ (l : List ℕ). space ∷ l) (append-nil x)
spaced-more (y ∷ ys) x =
    ap (λ (l : List ℕ). space ∷ (y ++ l)) (spaced-more ys x)
    ∙ ap (λ (l : List ℕ). space ∷ l) (sym (append_assoc y (spaced ys) (space ∷ x)))

-- names parted by one space
parted-more : (ys : List (List ℕ)) (x : List ℕ) → 1 ≤ length ys → parted (ys ++ (x ∷ [])) ≡ parted ys ++ (space ∷ x)
unfolding parted
parted-more [] x some = absurd (omega arith)
parted-more (y ∷ ys) x some = ap (λ (l : List ℕ). y ++ l) (spaced-more ys x) ∙ sym (append_assoc y (spaced ys) (space ∷ x))

module _ (known : List (List ℕ)) where
  -- a look-up being read: its register, and the variables so far
  abbrev begun : ℕ → List (List ℕ) → List ℕ
  begun r xs = space ∷ (get_or known r [] ++ (opening ∷ parted xs))

  -- look-ups
  look_up-more : (names : List (List ℕ)) (ls : List LookUp) (l : LookUp)
      → look_up_text known names (ls ++ (l ∷ []))
      ≡ look_up_text known names ls ++ (begun l.register (map (λ v. get_or names v []) l.vars) ++ (closing ∷ []))
  unfolding look_up_text
  look_up-more names [] l =
      ap (λ (z : List ℕ). space ∷ z)
      (sym (append_assoc (get_or known l.register []) (opening ∷ parted (map (λ v. get_or names v []) l.vars)) (closing ∷ [])))
  look_up-more names (k ∷ ls) l =
      let p = parted (map (λ v. get_or names v []) k.vars) in
      let more = begun l.register (map (λ v. get_or names v []) l.vars) ++ (closing ∷ []) in
      ap (λ (z : List ℕ). space ∷ (get_or known k.register [] ++ (opening ∷ (p ++ (closing ∷ z))))) (look_up-more names ls l)
      ∙ ap (λ (z : List ℕ). space ∷ (get_or known k.register [] ++ (opening ∷ z)))
      (sym (append_assoc p (closing ∷ look_up_text known names ls) more))
      ∙ ap (λ (z : List ℕ). space ∷ z)
      (sym (append_assoc (get_or known k.register []) (opening ∷ (p ++ (closing ∷ look_up_text known names ls))) more))

-- ---- more names change nothing of what was written

-- the givens
given-same : (names more : List (List ℕ)) (xs : List ℕ) → length xs ≤ length names
    → given_text (names ++ more) xs ≡ given_text names xs
unfolding given_text
given-same [] more [] h = refl
given-same [] more (x ∷ xs) h = absurd (omega arith)
given-same (n ∷ names) more [] h = refl
given-same (n ∷ names) more (x ∷ xs) h =
    ap (λ (l : List ℕ). n ++ (equals ∷ (digits_of_lem 9 x ++ (space ∷ l)))) (given-same names more xs (omega arith))

-- the names of variables that have appeared
names_same : (names more : List (List ℕ)) (vs : List ℕ) → ((v : ℕ) → In v vs → v < length names)
    → map (λ v. get_or (names ++ more) v []) vs ≡ map (λ v. get_or names v []) vs
names_same names more vs h =
    map_same (λ v. get_or (names ++ more) v []) (λ v. get_or names v []) vs (λ v i. get_or-append names more [] v (h v i))

-- the look-ups
look_ups-same : (known names more : List (List ℕ)) (ls : List LookUp) → ((v : ℕ) → In v (used [] ls) → v < length names)
    → look_up_text known (names ++ more) ls ≡ look_up_text known names ls
unfolding look_up_text used
look_ups-same known names more [] h = refl
look_ups-same known names more (l ∷ ls) h =
    ap₂
    (λ (xs : List (List ℕ)) (z : List ℕ). space ∷ (get_or known l.register [] ++ (opening ∷ (parted xs ++ (closing ∷ z)))))
    (names_same names more l.vars (λ v i. h v (in_front v l.vars (used [] ls) i)))
    (look_ups-same known names more ls (λ v i. h v (in_behind v l.vars (used [] ls) i)))

-- ---- a variable's name among those so far

-- the names with it: they are still different names, and it stands at its number
record Joined (x : List ℕ) (names : List (List ℕ)) : Type 0 where
  more : List (List ℕ)
  grown : with_name x names ≡ names ++ more
  there : get_or (names ++ more) (place_of x names) [] ≡ x
  named : Named (length (names ++ more)) (names ++ more)

-- any name has them
joined_of : (x : List ℕ) (names : List (List ℕ)) → is_name x ≡ true → Named (length names) names → Joined x names
joined_of x names name h =
    by_test (ltb (place_of x names) (length names))
    (λ t.
    let old = ltb-true (place_of x names) (length names) t in
    let same = append-nil names in
    record { more = []; grown = with_old x names old ∙ sym same; there = rw same (place_found x names old); named = rw same h })
    (λ f.
    let new = ltb-false (place_of x names) (length names) f in
    let low = place-low x names in
    let next : place_of x names ≡ length names = omega arith in
    record {
      more = x ∷ [];
      grown = with_new x names new;
      there = rw next (get_or-append_seam names x [] []);
      named = named_more names x h name new;
    })

-- what was said, by other names and variables
abbrev renamed : Typing → List ℕ → List (List ℕ) → Typing
renamed s vars names = record { names = names; values = s.values; look_ups = s.look_ups; register = s.register; vars = vars }

-- ---- what was read is what is written for what was said

module _ (registers : List Register) (known : List (List ℕ)) where
  -- what is written for the givens, and for the look-ups that are whole
  abbrev written : Typing → List ℕ
  written s = given_text s.names s.values ++ (colon ∷ look_up_text known s.names s.look_ups)

  -- and for the one that is being read
  abbrev asking : Typing → List (List ℕ) → List ℕ
  asking s xs = written s ++ begun known s.register xs

  -- the names of its variables so far
  abbrev names_in : Typing → List (List ℕ)
  names_in s = map (λ v. get_or s.names v []) s.vars

  -- what was read at each stage
  abbrev Text : Stage → Typing → List ℕ → Type 0
  Text Given s front = front ≡ given_text s.names s.values
  Text Equals s front =
      (x : ℕ) → front ++ (equals ∷ (digits_of_lem 9 x ++ (space ∷ []))) ≡ given_text s.names (s.values ++ (x ∷ []))
  Text Value s front = (x : ℕ) → front ++ (digits_of_lem 9 x ++ (space ∷ [])) ≡ given_text s.names (s.values ++ (x ∷ []))
  Text GivenGap s front = front ++ (space ∷ []) ≡ given_text s.names s.values
  Text ColonGap s front = front ≡ written s
  Text Asked s front = front ≡ written s ++ (space ∷ [])
  Text Opening s front = (s.vars ≡ []) × (front ≡ written s ++ (space ∷ get_or known s.register []))
  Text Column s front = (x : List ℕ) → front ++ x ≡ asking s (names_in s ++ (x ∷ []))
  Text ColumnGap s front = front ≡ asking s (names_in s)
  Text Closed s front = front ≡ written s
  Text Nowhere s front = Unit {0}

  -- with different names, and with what is true of what was said at that stage
  record Kept (st : Stage) (s : Typing) (front : List ℕ) : Type 0 where
    named : Named (length s.names) s.names
    here : AtStage registers st s
    text : Text st s front

  -- a given's name
  keeps_given : (s : Typing) (front x rest : List ℕ) → Spelt x rest → length x ≤ 12 → length s.names ≤ place_of x s.names
      → Kept Given s front → Kept Equals (noted_name of_given known x s) (front ++ x)
  unfolding noted_name AtStage
  keeps_given s front x rest spelt short new k =
      let g = k.here in
      let pairs = g.valued in
      let u = renamed s s.vars (s.names ++ (x ∷ [])) in
      let same : noted_name of_given known x s ≡ u = ap (renamed s s.vars) (with_new x s.names new) in
      let size = length-append s.names (x ∷ []) in
      let kept : Kept Equals u (front ++ x) =
      record {
        named = named_more s.names x k.named (spelt_name x rest spelt short) new;
        here = record { early = g.early; valued = omega arith };
        text = λ y.
            append_assoc front x (equals ∷ (digits_of_lem 9 y ++ (space ∷ [])))
            ∙ ap (λ (l : List ℕ). l ++ (x ++ (equals ∷ (digits_of_lem 9 y ++ (space ∷ []))))) k.text
            ∙ sym (given-more s.names s.values x y (omega arith));
      } in
      subst (λ (v : Typing). Kept Equals v (front ++ x)) (sym same) kept

  -- a given's value
  keeps-value : (s : Typing) (front : List ℕ) (d : ℕ) (ds rest : List ℕ) → Counted d ds rest → Kept Value s front
      → Kept GivenGap (noted_value (decimal 0 (d ∷ ds)) s) (front ++ (d ∷ ds))
  unfolding noted_value AtStage
  keeps-value s front d ds rest h k =
      let g = k.here in
      let pairs = g.valued in
      let x = decimal 0 (d ∷ ds) in
      let size = length-append s.values (x ∷ []) in
      let high = h.high in
      record {
        named = k.named;
        here = record { early = g.early; valued = omega arith };
        text =
            append_assoc front (d ∷ ds) (space ∷ [])
            ∙ ap (λ (l : List ℕ). front ++ (l ++ (space ∷ []))) (sym (digits-again 9 d ds h.digits h.low (omega arith)))
            ∙ k.text x;
      }

  -- the colon
  keeps-colon : (s : Typing) (front : List ℕ) → Kept Given s front → Kept ColonGap s (front ++ (colon ∷ []))
  unfolding look_up_text AtStage
  keeps-colon s front k =
      record {
        named = k.named;
        here = giving_between registers s k.here;
        text =
            ap (λ (l : List ℕ). l ++ (colon ∷ [])) k.text
            ∙ ap (λ (ls : List LookUp). given_text s.names s.values ++ (colon ∷ look_up_text known s.names ls))
            (sym k.here.early);
      }

  module _ (knows : length known ≡ length registers) where
    -- a register's name
    keeps-register : (s : Typing) (front x : List ℕ) → place_of x known < length known → length s.look_ups < 12
        → Kept Asked s front → Kept Opening (noted_name of_register known x s) (front ++ x)
    unfolding noted_name AtStage
    keeps-register s front x found room k =
        record {
          named = k.named;
          here = record {
            numbered = rw (append-nil (used [] s.look_ups)) k.here.numbered;
            named = omega arith;
            fewer = room;
            some = omega arith;
          };
          text = (
            refl,
            ap (λ (l : List ℕ). l ++ x) k.text
                ∙ append_snoc (written s) space x
                ∙ ap (λ (l : List ℕ). written s ++ (space ∷ l)) (sym (place_found x known found)),
          );
        }

    -- the opening bracket
    keeps_opens : (s : Typing) (front : List ℕ) → Kept Opening s front → Kept Column s (front ++ (opening ∷ []))
    unfolding parted spaced AtStage
    keeps_opens s front k =
        let (z, e) = k.text in
        record {
          named = k.named;
          here = k.here;
          text = λ x.
              append_snoc front opening x
              ∙ ap (λ (l : List ℕ). l ++ (opening ∷ x)) e
              ∙ append_assoc (written s) (space ∷ get_or known s.register []) (opening ∷ x)
              ∙ ap (λ (l : List ℕ). written s ++ (space ∷ (get_or known s.register [] ++ (opening ∷ l)))) (sym (append-nil x))
              ∙ ap (λ (vs : List ℕ). asking s (map (λ v. get_or s.names v []) vs ++ (x ∷ []))) (sym z);
        }

    -- the space behind a variable
    keeps_gap : (s : Typing) (front : List ℕ) → Kept ColumnGap s front → Kept Column s (front ++ (space ∷ []))
    unfolding AtStage
    keeps_gap s front k =
        let h = k.here in
        let some = h.some in
        let r = get_or known s.register [] in
        let ns = parted (names_in s) in
        let some' : 1 ≤ length (names_in s) = omega (arith, length-map s.vars (λ v. get_or s.names v [])) in
        record {
          named = k.named;
          here = record { numbered = h.numbered; named = h.named; fewer = h.fewer; some = omega arith };
          text = λ x.
              append_snoc front space x
              ∙ ap (λ (l : List ℕ). l ++ (space ∷ x)) k.text
              ∙ append_assoc (written s) (begun known s.register (names_in s)) (space ∷ x)
              ∙ ap (λ (l : List ℕ). written s ++ (space ∷ l)) (append_assoc r (opening ∷ ns) (space ∷ x))
              ∙ ap (λ (l : List ℕ). written s ++ (space ∷ (r ++ (opening ∷ l)))) (sym (parted-more (names_in s) x some'));
        }

    -- the closing bracket
    keeps_closes : (s : Typing) (front : List ℕ) → Kept ColumnGap s front
        → Kept Closed (noted_look_up s) (front ++ (closing ∷ []))
    unfolding noted_look_up AtStage
    keeps_closes s front k =
        let l : LookUp = record { register = s.register; vars = s.vars } in
        let size = length-append s.look_ups (l ∷ []) in
        let text = begun known s.register (names_in s) in
        let givens = given_text s.names s.values in
        record {
          named = k.named;
          here = record { numbered = rw (used-more s.look_ups l) k.here.numbered; asked = omega arith };
          text =
              ap (λ (z : List ℕ). z ++ (closing ∷ [])) k.text
              ∙ append_assoc (written s) text (closing ∷ [])
              ∙ append_assoc givens (colon ∷ look_up_text known s.names s.look_ups) (text ++ (closing ∷ []))
              ∙ ap (λ (z : List ℕ). givens ++ (colon ∷ z)) (sym (look_up-more known s.names s.look_ups l));
        }

    -- a variable's name
    keeps_variable : (s : Typing) (front x rest : List ℕ) → Spelt x rest → length x ≤ 12 → Kept Column s front
        → Kept ColumnGap (noted_name of_column known x s) (front ++ x)
    unfolding noted_name AtStage
    keeps_variable s front x rest spelt short k =
        let h = k.here in
        let j = joined_of x s.names (spelt_name x rest spelt short) k.named in
        let ns = s.names ++ j.more in
        let p = place_of x s.names in
        let us = used [] s.look_ups in
        let u = renamed s (s.vars ++ (p ∷ [])) ns in
        let same : noted_name of_column known x s ≡ u = ap (renamed s (s.vars ++ (p ∷ []))) j.grown in
        let most = turn_low (length s.values) (us ++ s.vars) (length s.names) h.numbered in
        let below = turn_in (length s.values) (us ++ s.vars) (length s.names) h.numbered in
        let turns = with_turn x s.names (length s.values) (us ++ s.vars) h.numbered in
        let written_same : written u ≡ written s =
        ap₂ (λ (g l : List ℕ). g ++ (colon ∷ l))
        (given-same s.names j.more s.values most)
        (look_ups-same known s.names j.more s.look_ups (λ v i. below v (in_front v us s.vars i))) in
        let names-are : names_in u ≡ names_in s ++ (x ∷ []) =
        map-append (λ v. get_or ns v []) s.vars (p ∷ [])
        ∙ ap₂ (λ (l : List (List ℕ)) (y : List ℕ). l ++ (y ∷ []))
        (names_same s.names j.more s.vars (λ v i. below v (in_behind v us s.vars i)))
        j.there in
        let size = length-append s.vars (p ∷ []) in
        let kept : Kept ColumnGap u (front ++ x) =
        record {
          named = j.named;
          here = record {
            numbered = rw (j.grown, append_assoc us s.vars (p ∷ [])) at turns;
            named = h.named;
            fewer = h.fewer;
            some = omega arith;
          };
          text =
              k.text x
              ∙ ap₂ (λ (w : List ℕ) (l : List (List ℕ)). w ++ begun known s.register l) (sym written_same) (sym names-are);
        } in
        subst (λ (v : Typing). Kept ColumnGap v (front ++ x)) (sym same) kept

    -- a line that is read is written so
    kept : (line : List ℕ) {st : Stage} {s t : Typing} {rest : List ℕ} (front : List ℕ) → line ≡ front ++ rest
        → Reads registers known st s rest t → Kept st s front → Kept Closed t line
    unfolding AtStage
    kept line front whole (finish {s}) k = subst (λ (l : List ℕ). Kept Closed s l) (sym (whole ∙ append-nil front)) k
    kept line front whole (a_given {s} {t} {x} {rest} spelt short new few r) k =
        kept line (front ++ x) (farther line front x rest whole) r (keeps_given s front x rest spelt short new k)
    kept line front whole (an_equals {s} {t} {rest} r) k =
        kept line (front ++ (equals ∷ [])) (farther line front (equals ∷ []) rest whole) r
        (record {
          named = k.named;
          here = k.here;
          text = λ x. append_snoc front equals (digits_of_lem 9 x ++ (space ∷ [])) ∙ k.text x;
        })
    kept line front whole (a_value {s} {t} {d} {ds} {rest} h r) k =
        kept line (front ++ (d ∷ ds)) (farther line front (d ∷ ds) rest whole) r (keeps-value s front d ds rest h k)
    kept line front whole (given_gap {s} {t} {rest} r) k =
        kept line (front ++ (space ∷ [])) (farther line front (space ∷ []) rest whole) r
        (record { named = k.named; here = k.here; text = k.text })
    kept line front whole (the_colon {s} {t} {rest} r) k =
        kept line (front ++ (colon ∷ [])) (farther line front (colon ∷ []) rest whole) r (keeps-colon s front k)
    kept line front whole (colon_gap {s} {t} {rest} r) k =
        kept line (front ++ (space ∷ [])) (farther line front (space ∷ []) rest whole) r
        (record { named = k.named; here = k.here; text = ap (λ (l : List ℕ). l ++ (space ∷ [])) k.text })
    kept line front whole (a_register {s} {t} {x} {rest} spelt found room r) k =
        kept line (front ++ x) (farther line front x rest whole) r (keeps-register s front x found room k)
    kept line front whole (opens {s} {t} {rest} r) k =
        kept line (front ++ (opening ∷ [])) (farther line front (opening ∷ []) rest whole) r (keeps_opens s front k)
    kept line front whole (a_variable {s} {t} {x} {rest} spelt short few r) k =
        kept line (front ++ x) (farther line front x rest whole) r (keeps_variable s front x rest spelt short k)
    kept line front whole (column_gap {s} {t} {rest} r) k =
        kept line (front ++ (space ∷ [])) (farther line front (space ∷ []) rest whole) r (keeps_gap s front k)
    kept line front whole (closes {s} {t} {rest} same r) k =
        kept line (front ++ (closing ∷ [])) (farther line front (closing ∷ []) rest whole) r (keeps_closes s front k)
    kept line front whole (look_up_gap {s} {t} {rest} r) k =
        kept line (front ++ (space ∷ [])) (farther line front (space ∷ []) rest whole) r
        (record {
          named = k.named;
          here = record { numbered = k.here.numbered; asked = omega arith };
          text = ap (λ (l : List ℕ). l ++ (space ∷ [])) k.text;
        })

-- nothing is read, and nothing said
kept-first : (registers : List Register) (known : List (List ℕ)) → Kept registers known Given nothing_said []
unfolding nothing_said every all_different given_text AtStage
kept-first registers known =
    record {
      named = record { count = refl; all = refl; apart = refl };
      here = record { early = refl; valued = refl };
      text = refl;
    }

-- what is said in a line that is read is written as the line, by some names
read-written : (registers : List Register) (known : List (List ℕ)) (line : List ℕ) (t : Typing)
    → length known ≡ length registers → Reads registers known Given nothing_said line t
    → (names : List (List ℕ)) × (are_names (length t.names) names ≡ true) × (line ≡ line_of known names (sheet_typed registers t))
unfolding sheet_typed line_of
read-written registers known line t knows r =
    let k = kept registers known knows line [] refl r (kept-first registers known) in
    (t.names, named-names (length t.names) t.names k.named, k.text)

-- a line that reads as a request is the one that is written for it, by some names
pub forth : (registers : List Register) (second line : List ℕ) (s : Sheet) → typed_on registers second line ≡ asks s
    → Typable registers s
    × (are_names (length registers) (pieces second) ≡ true)
    × (second ≡ parted (pieces second))
    × ((names : List (List ℕ)) × (are_names s.variables names ≡ true) × (line ≡ line_of (pieces second) names s))
unfolding sheet_typed
forth registers second line s h =
    let (t, typable) = read-typable registers second line s h in
    let knows = (names-named (length registers) (pieces second) t).count in
    let r = asks_read registers (pieces second) line s (sym (typed_named registers second line t) ∙ h) in
    let (names, named, text) = read-written registers (pieces second) line r.last knows r.reads in
    let count : length r.last.names ≡ s.variables = ap (λ (q : Sheet). q.variables) (sym r.asked) in (
      typable,
      t,
      sym (parted-pieces second),
      (names, rw count at named, rw (← r.asked) at text),
    )
