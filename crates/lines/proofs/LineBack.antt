-- The line that is written for a request is read as it (`back`), and no line is written for two requests, nor for one by
-- other names (`once`).
use mathlib.Core.Path.{◌≡◌, refl, sym, ◌∙◌, ap, ap₂}
use mathlib.Core.Logic.{inl, inr}
use mathlib.Core.Bool.{true}
use mathlib.Core.List.{List, [], ◌∷◌, ◌++◌, map, append_assoc, append-nil}
use Prim.Native.Nat.{ℕ, suc, ◌+◌, ◌≤◌, ◌<◌}
use native.Mathlib.Omega.{arith}
use lib.ListN.{length, take, drop, get_or, length-append}
use lib.Seq.{take_all, take-suc, drop-cons, append_snoc, length-take-le}
use Rattle.plan.specs.Lists.{In, numbers}
use Rattle.plan.specs.Sheet.{Register, LookUp, Sheet, columns_of, used}
use Rattle.plan.specs.Tokens.{equals, colon, opening, closing, space, over, is_letter, is_digit, run, decimal, place_of}
use Rattle.plan.specs.Tokens.{are_names, cuts}
use Rattle.plan.specs.Typed.{Typing, nothing_said, of_given, of_column, with_name, noted_name, noted_value, noted_look_up, asks}
use Rattle.plan.specs.Typed.{sheet_typed, walk, behind_all, beginning, typed_on, digits_of_lem, given_text, spaced}
use Rattle.plan.specs.Typed.{parted, look_up_text, line_of, InTurn, Typable}
use Rattle.plan.specs.declared.Stage.{Stage}
use Rattle.plan.specs.declared.Stage.TheVariants.{Given, ColonGap, Asked, Column, ColumnGap, Closed}
use Rattle.plan.proofs.Lists.{in_head, in_tail}
use Rattle.lines.proofs.NameLaws.{place-before, pieces-parted, Named, names-named, name-short, name_at_lem}
use Rattle.lines.proofs.TypedWalk.{typed_named}
use Rattle.lines.proofs.TypedSaid.{turn_low, with_old, with_new, WholeLookUp}
use Rattle.lines.proofs.LineCuts.{name_spelt}
use Rattle.lines.proofs.LineReads.{Counted, Reads, finish, a_given, an_equals, a_value, given_gap, the_colon, colon_gap}
use Rattle.lines.proofs.LineReads.{a_register, opens, a_variable, column_gap, closes, look_up_gap, reads-asks}
use Rattle.lines.proofs.LineDigits.{digits_of}

-- ---- a line that says a request, piece by piece from its end

module _ (registers : List Register) (known names : List (List ℕ)) (values : List ℕ) (look_ups : List LookUp) where
  -- what is left of a line is read, and all is said
  record Says (st : Stage) (s : Typing) (rest : List ℕ) : Type 0 where
    last : Typing
    reads : Reads registers known st s rest last
    names-are : last.names ≡ names
    values-are : last.values ≡ values
    look_ups-are_lem : last.look_ups ≡ look_ups

  -- more is read where what is behind it is
  says-more : {st next : Stage} {s u : Typing} {more rest : List ℕ}
      → ((t : Typing) → Reads registers known next u rest t → Reads registers known st s more t) → Says next u rest
      → Says st s more
  says-more f r =
      record {
        last = r.last;
        reads = f r.last r.reads;
        names-are = r.names-are;
        values-are = r.values-are;
        look_ups-are_lem = r.look_ups-are_lem;
      }

  -- so many of the names have appeared, and this is said
  abbrev so : ℕ → List ℕ → List LookUp → ℕ → List ℕ → Typing
  so n vals done r us = record { names = take n names; values = vals; look_ups = done; register = r; vars = us }

  -- a variable's name
  abbrev name_of : ℕ → List ℕ
  name_of v = get_or names v []

  module _ (named : Named (length names) names) (few : length names ≤ 16) (knows : Named (length registers) known) where
    -- the next variable: its number, and how many names have appeared behind it
    record Next (n v : ℕ) (vs : List ℕ) : Type 0 where
      count : ℕ
      names_then : with_name (name_of v) (take n names) ≡ take count names
      number : place_of (name_of v) (take n names) ≡ v
      low : v < length names
      turns : InTurn count vs (length names)

    -- numbered by first appearance, each is the next
    next_of : (n v : ℕ) (vs : List ℕ) → InTurn n (v ∷ vs) (length names) → Next n v vs
    unfolding InTurn
    next_of n v vs (inl h) =
        let most = turn_low n vs (length names) h.1 in
        let old = h.0 in
        let low : v < length names = omega arith in
        let number : place_of (name_of v) (take n names) ≡ v = place-before names named.apart n v low ∙ (omega arith) in
        let size = length-take-le n names most in
        record {
          count = n;
          names_then = with_old (name_of v) (take n names) (omega arith);
          number = number;
          low = low;
          turns = h.1;
        }
    next_of n v vs (inr h) =
        let most = turn_low (suc n) vs (length names) h.1 in
        let new = h.0 in
        let low : v < length names = omega arith in
        let number : place_of (name_of v) (take n names) ≡ v = place-before names named.apart n v low ∙ (omega arith) in
        let size = length-take-le n names (omega arith) in
        record {
          count = suc n;
          names_then =
              with_new (name_of v) (take n names) (omega arith)
              ∙ ap (λ (k : ℕ). take n names ++ (get_or names k [] ∷ [])) new
              ∙ sym (take-suc names n [] (omega arith));
          number = number;
          low = low;
          turns = h.1;
        }

    -- a variable in brackets is said
    variable_says : (n v : ℕ) (vs us : List ℕ) (done : List LookUp) (r : ℕ) (rest : List ℕ) (x : Next n v vs)
        → run is_letter rest ≡ 0 → Says ColumnGap (so x.count values done r (us ++ (v ∷ []))) rest
        → Says Column (so n values done r us) (name_of v ++ rest)
    unfolding noted_name
    variable_says n v vs us done r rest x z h =
        let name = name_at_lem names v named.all x.low in
        let low = x.low in
        let e : noted_name of_column known (name_of v) (so n values done r us) ≡ so x.count values done r (us ++ (v ∷ [])) =
        ap₂
        (λ (ns : List (List ℕ)) (w : ℕ).
        record { names = ns; values = values; look_ups = done; register = r; vars = us ++ (w ∷ []) })
        x.names_then
        x.number in
        says-more
        (λ t. a_variable (name_spelt (name_of v) rest name z) (name-short (name_of v) name).1 (rw x.number (omega arith)))
        (rw e h)

    -- the variables in brackets are said, and the look-up is whole
    columns_say : (v : ℕ) (vs us : List ℕ) (n r : ℕ) (done : List LookUp) (more rest : List ℕ)
        → InTurn n (v ∷ (vs ++ more)) (length names) → length (us ++ (v ∷ vs)) ≡ get_or (columns_of registers) r 0
        → ((m : ℕ) → InTurn m more (length names)
        → Says Closed (so m values (done ++ (record { register = r; vars = us ++ (v ∷ vs) } ∷ [])) r (us ++ (v ∷ vs))) rest)
        → Says Column (so n values done r us) (name_of v ++ (spaced (map name_of vs) ++ (closing ∷ rest)))
    unfolding spaced run is_letter noted_look_up
    columns_say v [] us n r done more rest h same k =
        let x = next_of n v more h in
        variable_says n v more us done r (closing ∷ rest) x refl (says-more (λ t. closes same) (k x.count x.turns))
    columns_say v (w ∷ vs) us n r done more rest h same k =
        let x = next_of n v (w ∷ (vs ++ more)) h in
        let e : (us ++ (v ∷ [])) ++ (w ∷ vs) ≡ us ++ (v ∷ w ∷ vs) = append_snoc us v (w ∷ vs) in
        let behind =
        columns_say w vs (us ++ (v ∷ [])) x.count r done more rest x.turns (ap length e ∙ same)
        (λ m t. rw e (k m t)) in
        variable_says n v (w ∷ (vs ++ more)) us done r _ x refl
        (rw (append_assoc (name_of w) (spaced (map name_of vs)) (closing ∷ rest)) (says-more (λ t. column_gap) behind))

    -- a look-up is said
    look_up-says : (r : ℕ) (vars : List ℕ) (n r₀ : ℕ) (us : List ℕ) (done : List LookUp) (more rest : List ℕ)
        → r < length registers → length vars ≡ get_or (columns_of registers) r 0 → 1 ≤ length vars → length done < 12
        → InTurn n (vars ++ more) (length names)
        → ((m : ℕ) → InTurn m more (length names)
        → Says Closed (so m values (done ++ (record { register = r; vars = vars } ∷ [])) r vars) rest)
        → Says Asked (so n values done r₀ us)
        (get_or known r [] ++ (opening ∷ (parted (map name_of vars) ++ (closing ∷ rest))))
    unfolding parted run is_letter noted_name
    look_up-says r [] n r₀ us done more rest low same some short h k = absurd (omega arith)
    look_up-says r (v ∷ vs) n r₀ us done more rest low same some short h k =
        let count = knows.count in
        let name = name_at_lem known r knows.all (omega arith) in
        let number : place_of (get_or known r []) known ≡ r =
        ap (place_of (get_or known r [])) (sym (take_all (length known) known (omega arith)))
        ∙ place-before known knows.apart (length known) r (omega arith) ∙ (omega arith) in
        let text : parted (map name_of (v ∷ vs)) ++ (closing ∷ rest) ≡ name_of v ++ (spaced (map name_of vs) ++ (closing ∷ rest)) =
        append_assoc (name_of v) (spaced (map name_of vs)) (closing ∷ rest) in
        let behind : Says Column (so n values done r []) (parted (map name_of (v ∷ vs)) ++ (closing ∷ rest)) =
        rw text (columns_say v vs [] n r done more rest h same k) in
        says-more
        (λ t. a_register (name_spelt (get_or known r []) _ name refl) (omega arith) short)
        (rw number (says-more (λ t. opens) behind))

    -- the look-ups are said
    look_ups_say : (ls done : List LookUp) (n r : ℕ) (us : List ℕ) → ((l : LookUp) → In l ls → WholeLookUp registers l)
        → length done + length ls ≤ 12 → InTurn n (used [] ls) (length names) → done ++ ls ≡ look_ups
        → Says Closed (so n values done r us) (look_up_text known names ls)
    unfolding look_up_text used InTurn
    look_ups_say [] done n r us fine short h e =
        record {
          last = so n values done r us;
          reads = finish;
          names-are = take_all n names (omega arith);
          values-are = refl;
          look_ups-are_lem = sym (append-nil done) ∙ e;
        }
    look_ups_say (l ∷ ls) done n r us fine short h e =
        let f = fine l (in_head l ls) in
        says-more (λ t. look_up_gap)
        (look_up-says l.register l.vars n r us done (used [] ls) (look_up_text known names ls) f.named f.columns
        f.some (omega arith) h
        (λ m t.
        look_ups_say ls (done ++ (l ∷ [])) m l.register l.vars (λ k i. fine k (in_tail k l ls i))
        (omega (arith, length-append done (l ∷ []))) t (append_snoc done l ls ∙ e)))

    -- behind the colon: the first look-up, and the others
    asked-says : (ls : List LookUp) (n : ℕ) → ((l : LookUp) → In l ls → WholeLookUp registers l) → 1 ≤ length ls → length ls ≤ 12
        → InTurn n (used [] ls) (length names) → ls ≡ look_ups → Says ColonGap (so n values [] 0 []) (look_up_text known names ls)
    unfolding look_up_text used
    asked-says [] n fine some short h e = absurd (omega arith)
    asked-says (l ∷ ls) n fine some short h e =
        let f = fine l (in_head l ls) in
        says-more (λ t. colon_gap)
        (look_up-says l.register l.vars n 0 [] [] (used [] ls) (look_up_text known names ls) f.named f.columns
        f.some (omega arith) h
        (λ m t.
        look_ups_say ls (l ∷ []) m l.register l.vars (λ k i. fine k (in_tail k l ls i)) (omega arith) t e))

    -- a given is said
    given-says : (v : ℕ) (us : List ℕ) (n : ℕ) (rest : List ℕ) → n < length names → 1 ≤ v → v < over
        → Says Given (so (suc n) (us ++ (v ∷ [])) [] 0 []) rest
        → Says Given (so n us [] 0 []) (name_of n ++ (equals ∷ (digits_of_lem 9 v ++ (space ∷ rest))))
    unfolding run is_letter is_digit noted_name noted_value
    given-says v us n rest low some high h =
        let name = name_at_lem names n named.all low in
        let number : place_of (name_of n) (take n names) ≡ n = place-before names named.apart n n low ∙ (omega arith) in
        let size = length-take-le n names (omega arith) in
        let e : noted_name of_given known (name_of n) (so n us [] 0 []) ≡ so (suc n) us [] 0 [] =
        ap (λ (ns : List (List ℕ)). record { names = ns; values = us; look_ups = []; register = 0; vars = [] })
        (with_new (name_of n) (take n names) (omega arith) ∙ sym (take-suc names n [] low)) in
        let d = digits_of 9 v some (omega arith) in
        let value : decimal 0 (d.first ∷ d.rest) ≡ v = ap (decimal 0) (sym d.text_is) ∙ d.value in
        let counted : Counted d.first d.rest (space ∷ rest) =
        record { digits = rw d.text_is at d.digits; ends = refl; low = d.low; high = rw value high } in
        says-more
        (λ t. a_given (name_spelt (name_of n) _ name refl) (name-short (name_of n) name).1 (omega arith) (omega arith))
        (rw (e, d.text_is)
        (says-more (λ t. an_equals) (says-more (λ t. a_value counted) (rw value (says-more (λ t. given_gap) h)))))

    -- the givens are said
    givens_say : (vs us : List ℕ) (n : ℕ) (rest : List ℕ) → length us ≡ n → n + length vs ≤ length names
        → ((x : ℕ) → In x vs → (1 ≤ x) × (x < over)) → us ++ vs ≡ values
        → Says Given (so (length values) values [] 0 []) (colon ∷ rest)
        → Says Given (so n us [] 0 []) (given_text (drop n names) vs ++ (colon ∷ rest))
    unfolding given_text
    givens_say [] us n rest size fit fine e h =
        let all : us ≡ values = sym (append-nil us) ∙ e in
        let same : so (length values) values [] 0 [] ≡ so n us [] 0 [] =
        ap₂ (λ (k : ℕ) (l : List ℕ). so k l [] 0 []) (ap length (sym all) ∙ size) (sym all) in
        rw same at h
    givens_say (v ∷ vs) us n rest size fit fine e h =
        let f = fine v (in_head v vs) in
        let low : n < length names = omega arith in
        let behind =
        givens_say vs (us ++ (v ∷ [])) (suc n) rest (length-append us (v ∷ []) ∙ (omega arith)) (omega arith)
        (λ x i. fine x (in_tail x v vs i)) (append_snoc us v vs ∙ e) h in
        let more = given_text (drop (suc n) names) vs in
        let text : given_text (drop n names) (v ∷ vs) ++ (colon ∷ rest)
        ≡ name_of n ++ (equals ∷ (digits_of_lem 9 v ++ (space ∷ (more ++ (colon ∷ rest))))) =
        ap (λ (ns : List (List ℕ)). given_text ns (v ∷ vs) ++ (colon ∷ rest)) (drop-cons names n [] low)
        ∙ append_assoc (name_of n) (equals ∷ (digits_of_lem 9 v ++ (space ∷ more))) (colon ∷ rest)
        ∙ ap (λ (l : List ℕ). name_of n ++ (equals ∷ l)) (append_assoc (digits_of_lem 9 v) (space ∷ more) (colon ∷ rest)) in
        rw text (given-says v us n (more ++ (colon ∷ rest)) low f.0 f.1 behind)

-- the line that is written for a request is read, and says the request and the names
written-says : (registers : List Register) (known names : List (List ℕ)) (s : Sheet) → Named (length registers) known
    → Named s.variables names → Typable registers s
    → Says registers known names s.values s.look_ups Given nothing_said (line_of known names s)
unfolding line_of nothing_said
written-says registers known names s knows named h =
    let count = named.count in
    let few = h.few in
    let most = turn_low (length s.values) (used [] s.look_ups) s.variables h.numbered in
    let named' : Named (length names) names = record { count = refl; all = named.all; apart = named.apart } in
    let little : length names ≤ 16 = omega arith in
    givens_say registers known names s.values s.look_ups named' little knows s.values [] 0
    (look_up_text known names s.look_ups) refl (omega arith) h.values refl
    (says-more registers known names s.values s.look_ups (λ t. the_colon)
    (asked-says registers known names s.values s.look_ups named' little knows s.look_ups (length s.values)
    (λ l i. record { named = h.named l i; columns = h.columns l i; some = h.columns-low l i })
    h.look_ups-low h.look_ups-high (rw count h.numbered) refl))

-- what is said is the request
sheet-said : (registers : List Register) (known names : List (List ℕ)) (s : Sheet) → Named s.variables names
    → Typable registers s
    → (r : Says registers known names s.values s.look_ups Given nothing_said (line_of known names s))
    → sheet_typed registers r.last ≡ s
unfolding sheet_typed
sheet-said registers known names s named h r =
    let variables : length r.last.names ≡ s.variables = ap length r.names-are ∙ named.count in
    let given : numbers 0 (length r.last.values) ≡ s.given =
    ap (λ (l : List ℕ). numbers 0 (length l)) r.values-are ∙ sym h.given in
    λ i.
    record {
      registers = sym h.same i;
      variables = variables i;
      given = given i;
      values = r.values-are i;
      look_ups = r.look_ups-are_lem i;
    }

-- there is a register, where there is a look-up
some-register : (ls : List LookUp) (n : ℕ) → 1 ≤ length ls → ((l : LookUp) → In l ls → l.register < n) → 1 ≤ n
some-register [] n some h = absurd (omega arith)
some-register (l ∷ ls) n some h = let low = h l (in_head l ls) in omega arith

-- the line that is written for a request reads as it
pub back : (registers : List Register) (known names : List (List ℕ)) (s : Sheet) → are_names (length registers) known ≡ true
    → are_names s.variables names ≡ true → Typable registers s
    → typed_on registers (parted known) (line_of known names s) ≡ asks s
back registers known names s knows named h =
    let known-are = names-named (length registers) known knows in
    let names-are = names-named s.variables names named in
    let count = known-are.count in
    let some = some-register s.look_ups (length registers) h.look_ups-low h.named in
    let r = written-says registers known names s known-are names-are h in
    let parts = pieces-parted known (omega arith) known-are.all in
    let line = line_of known names s in
    typed_named registers (parted known) line (rw parts knows)
    ∙ ap (λ (k : List (List ℕ)). walk registers k line beginning (cuts line)) parts
    ∙ (reads-asks registers known line r.last r.reads).0
    ∙ ap asks (sheet-said registers known names s names-are h r)

-- no line stands for two requests, nor for one by other names
pub once : (registers : List Register) (known names others : List (List ℕ)) (s t : Sheet)
    → are_names (length registers) known ≡ true → are_names s.variables names ≡ true → are_names t.variables others ≡ true
    → Typable registers s → Typable registers t → line_of known names s ≡ line_of known others t → (s ≡ t) × (names ≡ others)
once registers known names others s t knows named named' h h' e =
    let known-are = names-named (length registers) known knows in
    let names-are = names-named s.variables names named in
    let others-are = names-named t.variables others named' in
    let r = written-says registers known names s known-are names-are h in
    let r' = written-says registers known others t known-are others-are h' in
    let last-is = (reads-asks registers known (line_of known names s) r.last r.reads).1 in
    let last'-is = (reads-asks registers known (line_of known others t) r'.last r'.reads).1 in
    let same : r.last ≡ r'.last =
    sym last-is ∙ ap (λ (l : List ℕ). (behind_all registers known l beginning (cuts l)).said) e ∙ last'-is in (
      sym (sheet-said registers known names s names-are h r)
          ∙ ap (sheet_typed registers) same
          ∙ sheet-said registers known others t others-are h' r',
      sym r.names-are ∙ ap (λ (l : Typing). l.names) same ∙ r'.names-are,
    )
