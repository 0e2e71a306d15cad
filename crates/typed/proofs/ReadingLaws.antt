-- The second line, read name by name: so far its pieces are the names held, which are different names, and then the pieces of
-- what is left. One law for each way on and out.
use mathlib.Core.Path.{◌≡◌, refl, sym, ◌∙◌, ap, ap₂, subst}
use mathlib.Core.Logic.{⊎_elim}
use mathlib.Core.Bool.{true, false}
use mathlib.Core.List.{List, [], ◌∷◌, ◌++◌, map, append-nil, append_assoc}
use Rattle.std.specs.Prelude.{Option, Some}
use Rattle.std.specs.Bool.{then_some}
use Prim.Native.Nat.{ℕ, suc, ◌+◌, ◌-◌, ◌≤◌, ◌<◌}
use native.Mathlib.Omega.{arith}
use native.Mathlib.Numerals.{add-one}
use lib.Dec.{eqb}
use lib.ListN.{get_or, set, length, take, drop, length-append, length-drop, drop_of_length-le}
use lib.Seq.{length-take-le, drop-cons, drop-drop}
use borrow.Author.Tests.{eq-eqb, ne_eqb, eqb-true, eqb-false}
use Rattle.plan.proofs.Lists.{by_test}
use Rattle.plan.specs.Lists.{every}
use Rattle.plan.specs.Tokens.{space, is_letter, run, cut_at, is_name, place_of, all_different, pieces, are_names}
use Rattle.plan.specs.Typed.{name_at}
use Rattle.plan.specs.declared.Cut.{Cut}
use Rattle.plan.specs.declared.Token.TheVariants.{Name}
use Rattle.lines.proofs.Cuts.{run-low, run-every}
use Rattle.lines.proofs.NameLaws.{word, word_letters, word_alone, word_gap, word_other, first_word_lem, no_word, long_word}
use Rattle.lines.proofs.NameLaws.{cut-name, cut_no_name}
use Rattle.lines.proofs.NameLaws.{pieces-some, name_of, every_more, different-more}
use Rattle.lines.proofs.NameLaws.{names-not, names-again, names-many, names-counted}
use Rattle.typed.specs.Names.{name_from, names_held, RoomFor, NamesFound}
use Rattle.typed.proofs.HeldNames.{held_number, held_more, room_more}

-- the names held are different names
pub record Different (second places : List ℕ) (count : ℕ) : Type 0 where
  pub fine : RoomFor 12 places count
  pub names : every is_name (names_held second places count) ≡ true
  pub different : all_different (names_held second places count) ≡ true

-- they are the first pieces of the line; the others are those of what is left from the place on
pub record Reading (second places : List ℕ) (count place : ℕ) : Type 0 where
  pub held : Different second places count
  pub low : place ≤ length second
  pub split : pieces second ≡ names_held second places count ++ pieces (drop place second)

-- a name as it was cut from the line: all letters from the place on
pub record Named (second : List ℕ) (place at letters next : ℕ) : Type 0 where
  pub here : at ≡ place
  pub all : letters ≡ run is_letter (drop place second)
  pub some : 1 ≤ letters
  pub to : next ≡ place + letters

pub named : (second : List ℕ) (place : ℕ) (k : Cut) (at letters : ℕ) → k ≡ cut_at second place → k.token ≡ Name at letters
    → Named second place at letters k.next
named second place k at letters e is =
    let (here, all, some, next) = cut-name second place at letters (ap (λ (r : Cut). r.token) (sym e) ∙ is) in
    record { here = here; all = all; some = some; to = ap (λ (r : Cut). r.next) e ∙ next }

-- the number of the name among those held
pub looked_up : (second places : List ℕ) (count : ℕ) {place at letters next n : ℕ} → Named second place at letters next
    → n ≡ place_of (take (at + letters - at) (drop at second)) (map (name_from second) (take count places))
    → n ≡ place_of (name_at second place letters) (names_held second places count)
unfolding names_held
looked_up second places count {place} {at} {letters} is e =
    let bytes : at + letters - at ≡ letters = omega arith in
    e ∙ ap₂ (λ b p. place_of (take b (drop p second)) (map (name_from second) (take count places))) bytes is.here

-- it is letters
pub all_letters : (second : List ℕ) {place at letters next : ℕ} → Named second place at letters next
    → every is_letter (take (at + letters - at) (drop at second)) ≡ true
all_letters second {place} {at} {letters} is =
    let bytes : at + letters - at ≡ letters = omega arith in
    ap₂ (λ b p. every is_letter (take b (drop p second))) (bytes ∙ is.all) is.here ∙ run-every is_letter (drop place second)

-- where that is how many are held, it is none of them
pub reads-new : (second places : List ℕ) (count : ℕ) {place at letters next n : ℕ} → Named second place at letters next
    → n ≡ place_of (take (at + letters - at) (drop at second)) (map (name_from second) (take count places)) → count ≤ n
    → count ≤ place_of (name_at second place letters) (names_held second places count)
reads-new second places count is e h = omega (arith, looked_up second places count is e)

-- another token is no name
pub unnamed : (second : List ℕ) (place : ℕ) (k : Cut) → k ≡ cut_at second place
    → ((at letters : ℕ) → k.token ≡ Name at letters → ⊥) → run is_letter (drop place second) ≡ 0
unnamed second place k e n = cut_no_name second place (λ letters f. n place letters (ap (λ (r : Cut). r.token) e ∙ f))

-- at the beginning
pub reading_none : (second places : List ℕ) → length places ≡ 12 → Reading second places 0 0
unfolding names_held every all_different
reading_none second places e =
    record {
      held = record {
        fine = record { room = e; few = omega arith };
        names = refl;
        different = refl;
      };
      low = omega arith;
      split = refl;
    }

module _ {second places : List ℕ} (registers : ℕ) {count place : ℕ} (so : Reading second places count place) where
  -- the next piece is no name
  piece_not : (p : List ℕ) (ps : List (List ℕ)) → pieces (drop place second) ≡ p ∷ ps → is_name p ≡ false
      → are_names registers (pieces second) ≡ false
  piece_not p ps e n =
      ap (are_names registers) (so.split ∙ ap (λ l. names_held second places count ++ l) e)
      ∙ names-not registers (names_held second places count) ps p n

  -- no letters come next
  pub reads_no_name : run is_letter (drop place second) ≡ 0 → are_names registers (pieces second) ≡ false
  reads_no_name e = let (p, ps, s, n) = no_word (drop place second) e in piece_not p ps s n

  -- as many names are held as there are registers, and a piece is left
  pub reads_more : registers ≤ count → are_names registers (pieces second) ≡ false
  reads_more h =
      let (p, ps, e) = pieces-some (drop place second) in
      let many : length (names_held second places count ++ (p ∷ ps)) ≡ count + suc (length ps) =
      length-append (names_held second places count) (p ∷ ps)
      ∙ ap (λ n. n + suc (length ps)) (held_number second places count so.held.fine) in
      ap (are_names registers) (so.split ∙ ap (λ l. names_held second places count ++ l) e)
      ∙ names-many registers (names_held second places count ++ (p ∷ ps)) (omega arith)

  module _ (k : ℕ) (is : k ≡ run is_letter (drop place second)) where
    -- too many letters come next
    pub reads-long : 12 < k → are_names registers (pieces second) ≡ false
    reads-long h = let (p, ps, s, n) = long_word (drop place second) (omega arith) in piece_not p ps s n

    word_is : word (drop place second) ≡ name_at second place k
    word_is = ap (λ n. take n (drop place second)) (sym is)

    -- the name is one of those held
    pub reads-again : place_of (name_at second place k) (names_held second places count) < count
        → are_names registers (pieces second) ≡ false
    reads-again h =
        let (q, ps, s, w) = first_word_lem (drop place second) in
        let low : place_of (name_at second place k) (names_held second places count) < length (names_held second places count) =
        omega (arith, held_number second places count so.held.fine) in
        ⊎_elim
        (λ (z : q ≡ []).
        let whole : word (drop place second) ++ q ≡ name_at second place k =
        ap (λ r. word (drop place second) ++ r) z ∙ append-nil (word (drop place second)) ∙ word_is in
        ap (are_names registers)
        (so.split ∙ ap (λ l. names_held second places count ++ l) (s ∙ ap (λ p. p ∷ ps) whole))
        ∙ names-again registers (names_held second places count) ps (name_at second place k) low)
        (λ n. piece_not (word (drop place second) ++ q) ps s n)
        w

    -- the letters lie within the line
    pub reads-within : place + k ≤ length second
    reads-within = omega (arith, run-low is_letter (drop place second), length-drop place second, so.low)

    -- the place behind them
    module _ (next : ℕ) (to : next ≡ place + k) where
      behind : drop (run is_letter (drop place second)) (drop place second) ≡ drop next second
      behind =
          drop-drop (run is_letter (drop place second)) place second
          ∙ ap (λ n. drop (place + n) second) (sym is)
          ∙ ap (λ n. drop n second) (sym to)

      -- another byte than a space follows
      pub reads_other : next < length second → (get_or second next 0 ≡ space → ⊥) → are_names registers (pieces second) ≡ false
      reads_other h n =
          let rest = drop place second in
          let at_next : drop (run is_letter rest) rest ≡ get_or second next 0 ∷ drop (suc next) second =
          behind ∙ drop-cons second next 0 h in
          let (q, ps, s, w) = word_other rest (get_or second next 0) (drop (suc next) second) at_next n in
          piece_not (word rest ++ q) ps s w

    module _ (some : 1 ≤ k) (short : k ≤ 12) (room : count < 12)
        (new : count ≤ place_of (name_at second place k) (names_held second places count)) where
      word_from : name_from second place ≡ word (drop place second)
      unfolding name_from
      word_from = refl

      one_more : names_held second (set places count place) (count + 1)
          ≡ names_held second places count ++ (word (drop place second) ∷ [])
      one_more =
          ap (names_held second (set places count place)) (add-one count)
          ∙ held_more second places count so.held.fine place room
          ∙ ap (λ w. names_held second places count ++ (w ∷ [])) word_from

      -- the name is held with the others
      more-held : Different second (set places count place) (count + 1)
      more-held =
          let rest = drop place second in
          let w = word rest in
          let held = names_held second places count in
          let long : length w ≡ k = length-take-le (run is_letter rest) rest (run-low is_letter rest) ∙ sym is in
          let other : length held ≤ place_of w held =
          rw word_is (omega (arith, held_number second places count so.held.fine)) in
          record {
            fine = rw add-one (room_more 12 places count place so.held.fine room);
            names = ap (every is_name) one_more
                ∙ every_more is_name held w so.held.names (name_of w (omega arith) (omega arith) (word_letters rest));
            different = ap all_different one_more ∙ different-more held w so.held.different other;
          }

      module _ (next : ℕ) (to : next ≡ place + k) where
        -- a space follows, and the next name
        pub reads_on : next < length second → get_or second next 0 ≡ space
            → Reading second (set places count place) (count + 1) (next + 1)
        reads_on h e =
            let w = word (drop place second) in
            let held = names_held second places count in
            let rest = drop (next + 1) second in
            let gap : drop (run is_letter (drop place second)) (drop place second) ≡ space ∷ rest =
            behind next to
            ∙ drop-cons second next 0 h
            ∙ ap (λ b. b ∷ drop (suc next) second) e
            ∙ ap (λ n. space ∷ drop n second) (sym (add-one next)) in
            record {
              held = more-held;
              low = omega arith;
              split = so.split
                  ∙ ap (λ l. held ++ l) (word_gap (drop place second) rest gap)
                  ∙ sym (append_assoc held (w ∷ []) (pieces rest))
                  ∙ ap (λ l. l ++ pieces rest) (sym one_more);
            }

        -- the line ends
        whole : next ≡ length second → pieces second ≡ names_held second (set places count place) (count + 1)
        whole e =
            let none_left : length second ≤ next = omega arith in
            so.split
            ∙ ap (λ l. names_held second places count ++ l)
            (word_alone (drop place second) (behind next to ∙ drop_of_length-le second none_left))
            ∙ sym one_more

        -- with one name for each register, or not
        reads_whole : next ≡ length second → count + 1 ≡ registers
            → NamesFound second registers (Some (set places count place))
        reads_whole e last =
            let held = names_held second (set places count place) (count + 1) in
            let number : length held ≡ count + 1 =
            held_number second (set places count place) (count + 1) more-held.fine in
            let counted : are_names registers (pieces second) ≡ eqb (count + 1) registers =
            ap (are_names registers) (whole e)
            ∙ names-counted registers held more-held.names more-held.different
            ∙ ap (λ n. eqb n registers) number in (
              counted ∙ eq-eqb (count + 1) registers last,
              ap (names_held second (set places count place)) (sym last) ∙ sym (whole e),
              rw (sym last) more-held.fine,
            )

        reads_end : next ≡ length second → (count + 1 ≡ registers → ⊥) → are_names registers (pieces second) ≡ false
        reads_end e other =
            let held = names_held second (set places count place) (count + 1) in
            let number : length held ≡ count + 1 =
            held_number second (set places count place) (count + 1) more-held.fine in
            ap (are_names registers) (whole e)
            ∙ names-counted registers held more-held.names more-held.different
            ∙ ap (λ n. eqb n registers) number
            ∙ ne_eqb (count + 1) registers other

        -- so the line is found to be one name for each register, or not
        pub reads_last : next ≡ length second → (found : Option (List ℕ))
            → found ≡ then_some (eqb (count + 1) registers) (set places count place) → NamesFound second registers found
        reads_last e found is =
            by_test (eqb (count + 1) registers)
            (λ t.
            let some = is ∙ ap (λ b. then_some b (set places count place)) t in
            subst (NamesFound second registers) (sym some) (reads_whole e (eqb-true (count + 1) registers t)))
            (λ f.
            let none = is ∙ ap (λ b. then_some b (set places count place)) f in
            subst (NamesFound second registers) (sym none) (reads_end e (eqb-false (count + 1) registers f)))
