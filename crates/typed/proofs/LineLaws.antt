-- The line, token by token: what is kept of it so far, and that there is room for what a token says. Its walk from here on is
-- the whole walk.
use mathlib.Core.Path.{◌≡◌, refl, sym, ap, subst, ◌∙◌}
use mathlib.Core.Bool.{Bool, true, false, not}
use mathlib.Core.List.{List, [], ◌∷◌, map}
use Prim.Native.Nat.{ℕ, zero, suc, ◌+◌, ◌^◌, ◌≤◌, ◌<◌}
use native.Mathlib.Omega.{arith}
use lib.ListN.{get_or, length, take, drop, replicate, length-append, length-map, drop_of_length-le}
use lib.Dec.{eqb, ltb}
use borrow.Author.Tests.{ltb-true, leb-false, eqb-true, not-false}
use Rattle.plan.specs.Sheet.{Register, Sheet, columns_of}
use Rattle.plan.specs.RowData.{no_register_lem}
use Rattle.plan.specs.Tokens.{is_letter, run, closing, over, place_of, cut, cut_of, cut_at, cuts_from, cuts}
use Rattle.plan.specs.Typed.{turn, follows, is_nowhere, no_mark, one_mark, two_marks, a_name, a_mark, Typing, nothing_said, Role}
use Rattle.plan.specs.Typed.{of_given, of_register, of_column, of_nothing, role, name_at, names_for, which_name, noted_name, noted_value}
use Rattle.plan.specs.Typed.{noted_look_up, noted, is_unknown, is_unknown_name, is_miscounted, is_nought, is_other, is_over, is_name_over}
use Rattle.plan.specs.Typed.{is_again, first_fit, fits_of, Stand, beginning, asks, faulty, sheet_typed, fits_at, stepped, walk}
use Rattle.plan.specs.declared.Token.{Token}
use Rattle.plan.specs.declared.Token.TheVariants.{Name, Number, Mark, Other, End}
use Rattle.plan.specs.declared.Cut.{Cut}
use Rattle.plan.specs.declared.Stage.{Stage}
use Rattle.plan.specs.declared.Stage.TheVariants.{Given, Equals, Value, GivenGap, ColonGap, Asked}
use Rattle.plan.specs.declared.Stage.TheVariants.{Opening, Column, ColumnGap, Closed, Nowhere}
use Rattle.plan.proofs.Lists.{by_test, clash, or_none_right}
use Rattle.lines.proofs.Cuts.{cut-end}
use Rattle.lines.proofs.TypedSaid.{turn_low, Holds, AtStage, NoFit, no_fit, stepped-holds, holds-nothing}
use Rattle.lines.proofs.TypedWalk.{walk_end, walk_on, walk-faulty, cut_at_at, cut_next, cut_at-name, cuts_on, cuts-end}
use Rattle.sheet.specs.Fields.{fields_of, sheet_held, register_beyond}
use Rattle.sheet.specs.declared.Register as Entry
use Rattle.sheet.specs.declared.Fields.{Fields}
use Rattle.sheet.proofs.Held.{sheet-held}
use Rattle.sheet.proofs.Shown.{shown_width, register_at_lem, columns_in_lem}
use Rattle.sheet.proofs.Small.{fields_small}
use Rattle.sheet.proofs.Filled.{small_entry}
use Rattle.typed.specs.Names.{name_from, names_held, RoomFor}
use Rattle.typed.specs.Notes.{Noted, Room, Within, NamesNoted}
use Rattle.typed.specs.Request.{OfSheet}
use Rattle.typed.specs.declared.notes.Said as Kept
use Rattle.typed.proofs.HeldNames.{held_number, name_from_lem}

module _ (registers : List Register) (known : List (List ℕ)) (line : List ℕ) (many : length known ≡ length registers)
    (few : length registers ≤ 12) where
  abbrev Fitless : Stage → Token → Typing → Type 0
  Fitless = NoFit registers known line many

  -- the number of a name is low: of a variable by its limit, of a register because it is known
  name-low : (stage : Stage) (at letters : ℕ) (t : Typing) → Fitless stage (Name at letters) t
      → which_name known line (role stage) t.names (Name at letters) < 16
  unfolding follows turn a_name a_mark is_nowhere role which_name names_for is_unknown is_unknown_name is_over is_name_over
  name-low Given at letters t n =
      leb-false 16 (place_of (name_at line at letters) t.names) (or_none_right (ltb 12 letters) _ n.limited)
  name-low Equals at letters t n = clash refl n.placed
  name-low Value at letters t n = clash refl n.placed
  name-low GivenGap at letters t n = clash refl n.placed
  name-low ColonGap at letters t n = clash refl n.placed
  name-low Asked at letters t n =
      let x = name_at line at letters in
      let low = ltb-true (place_of x known) (length known) (not-false (ltb (place_of x known) (length known)) n.read) in
      omega arith
  name-low Opening at letters t n = clash refl n.placed
  name-low Column at letters t n =
      leb-false 16 (place_of (name_at line at letters) t.names) (or_none_right (ltb 12 letters) _ n.limited)
  name-low ColumnGap at letters t n = clash refl n.placed
  name-low Closed at letters t n = clash refl n.placed
  name-low Nowhere at letters t n = clash refl n.placed

  pub which_low : (stage : Stage) (token : Token) (t : Typing) → Fitless stage token t
      → which_name known line (role stage) t.names token < 16
  unfolding which_name
  which_low stage (Name at letters) t n = name-low stage at letters t n
  which_low stage (Number x) t n = omega arith
  which_low stage (Mark b) t n = omega arith
  which_low stage Other t n = omega arith
  which_low stage End t n = omega arith

  -- a register's is one of those that are known
  pub register-low : (stage : Stage) (token : Token) (t : Typing) → Fitless stage token t → role stage ≡ of_register
      → which_name known line (role stage) t.names token < 12
  unfolding which_name is_unknown names_for is_unknown_name
  register-low stage (Name at letters) t n e =
      let x = name_at line at letters in
      let same : place_of x (names_for (role stage) known t.names) ≡ place_of x known =
      ap (λ r. place_of x (names_for r known t.names)) e in
      let read : not (ltb (place_of x known) (length known)) ≡ false =
      subst (λ r. is_unknown_name r (place_of x (names_for r known t.names)) (length known) ≡ false) e n.read in
      let low = ltb-true (place_of x known) (length known) (not-false (ltb (place_of x known) (length known)) read) in
      omega arith
  register-low stage (Number x) t n e = omega arith
  register-low stage (Mark b) t n e = omega arith
  register-low stage Other t n e = omega arith
  register-low stage End t n e = omega arith

  -- a number comes as a value, and a name waits for it
  pub value_room : (stage : Stage) (x : ℕ) (t : Typing) → Fitless stage (Number x) t → Holds registers stage t
      → (length t.values < 16) × (x < 2 ^ 32)
  unfolding follows turn a_name a_mark is_nowhere is_over AtStage
  value_room Given x t n h = clash refl n.placed
  value_room Equals x t n h = clash refl n.placed
  value_room Value x t n h =
      let low = leb-false over x n.limited in
      let v = h.here.valued in
      let f = h.said.few in
      (omega arith, omega arith)
  value_room GivenGap x t n h = clash refl n.placed
  value_room ColonGap x t n h = clash refl n.placed
  value_room Asked x t n h = clash refl n.placed
  value_room Opening x t n h = clash refl n.placed
  value_room Column x t n h = clash refl n.placed
  value_room ColumnGap x t n h = clash refl n.placed
  value_room Closed x t n h = clash refl n.placed
  value_room Nowhere x t n h = clash refl n.placed

  -- the closing bracket comes in a look-up, with as many variables as its register has columns
  pub whole_room : (stage : Stage) (t : Typing) → Fitless stage (Mark closing) t → Holds registers stage t
      → (length t.look_ups < 12) × (length t.vars ≡ get_or (columns_of registers) t.register 0)
  unfolding follows turn a_name a_mark no_mark one_mark two_marks is_nowhere is_miscounted AtStage
  whole_room Given t n h = clash refl n.placed
  whole_room Equals t n h = clash refl n.placed
  whole_room Value t n h = clash refl n.placed
  whole_room GivenGap t n h = clash refl n.placed
  whole_room ColonGap t n h = clash refl n.placed
  whole_room Asked t n h = clash refl n.placed
  whole_room Opening t n h = clash refl n.placed
  whole_room Column t n h = clash refl n.placed
  whole_room ColumnGap t n h =
      let columns = get_or (columns_of registers) t.register 0 in
      (h.here.fewer, eqb-true (length t.vars) columns (not-false (eqb (length t.vars) columns) n.counted))
  whole_room Closed t n h = clash refl n.placed
  whole_room Nowhere t n h = clash refl n.placed

  -- the register that is asked stays one of those there are
  named_by : (r : Role) (x : List ℕ) (t : Typing)
      → is_unknown_name r (place_of x (names_for r known t.names)) (length known) ≡ false
      → t.register < length registers → (noted_name r known x t).register < length registers
  unfolding is_unknown_name names_for noted_name
  named_by of_given x t n h = h
  named_by of_register x t n h =
      let low = ltb-true (place_of x known) (length known) (not-false (ltb (place_of x known) (length known)) n) in omega arith
  named_by of_column x t n h = h
  named_by of_nothing x t n h = h

  -- a mark leaves the register and the variables in brackets
  marked_by : (b : ℕ) (t : Typing) → ((noted known line of_nothing (Mark b) t).register ≡ t.register)
      × ((noted known line of_nothing (Mark b) t).vars ≡ t.vars)
  unfolding noted noted_look_up
  marked_by b t =
      by_test (eqb b closing) (λ h. (rw (h, noted) refl, rw (h, noted) refl)) (λ h. (rw (h, noted) refl, rw (h, noted) refl))

  pub register-named : (stage : Stage) (token : Token) (t : Typing) → Fitless stage token t → t.register < length registers
      → (noted known line (role stage) token t).register < length registers
  unfolding noted noted_value is_unknown which_name
  register-named stage (Name at letters) t n h = named_by (role stage) (name_at line at letters) t n.read h
  register-named stage (Number x) t n h = h
  register-named stage (Mark b) t n h = let e = (marked_by b t).0 in omega arith
  register-named stage Other t n h = h
  register-named stage End t n h = h

  -- a token brings one more variable at most
  vars_by : (r : Role) (x : List ℕ) (t : Typing) → length (noted_name r known x t).vars ≤ length t.vars + 1
  unfolding noted_name
  vars_by of_given x t = omega arith
  vars_by of_register x t = omega arith
  vars_by of_column x t = let e = length-append t.vars (place_of x t.names ∷ []) in omega arith
  vars_by of_nothing x t = omega arith

  pub vars-more : (r : Role) (token : Token) (t : Typing) → length (noted known line r token t).vars ≤ length t.vars + 1
  unfolding noted noted_value
  vars-more r (Name at letters) t = vars_by r (name_at line at letters) t
  vars-more r (Number x) t = omega arith
  vars-more r (Mark b) t = let e = ap length (marked_by b t).1 in omega arith
  vars-more r Other t = omega arith
  vars-more r End t = omega arith

-- a name's token of the line is of the line
within_of : (line : List ℕ) (at : ℕ) (t : Token) → (cut_at line at).token ≡ t → Within line t
unfolding Within
within_of line at (Name a k) e =
    let n = cut_at-name line at a k e in
    let place : a ≡ at = n.place in
    let all = n.all ∙ ap (λ (p : ℕ). run is_letter (drop p line)) (sym place) in
    (omega (arith, n.inside), n.letters, name_from_lem line a k n.some all)
within_of line at (Number x) e = tt
within_of line at (Mark b) e = tt
within_of line at Other e = tt
within_of line at End e = tt

pub cut-within : (line : List ℕ) (at : ℕ) → Within line (cut_at line at).token
cut-within line at = within_of line at (cut_at line at).token refl

-- a name is looked for among those that were seen, which are the names at the first places
pub seen_among : (known : List (List ℕ)) (line : List ℕ) (r : Role) (token : Token) (seen : List ℕ) (variables which : ℕ)
    (places : List ℕ) → which ≡ which_name known line r (map (name_from line) places) token → places ≡ take variables seen
    → which ≡ which_name known line r (names_held line seen variables) token
unfolding names_held
seen_among known line r token seen variables which places e p =
    e ∙ ap (λ (ps : List ℕ). which_name known line r (map (name_from line) ps) token) p

-- ---- the fields of a sheet

module _ (f : Fields) (o : OfSheet f) where
  -- the registers that they hold are the sheet's
  held-registers : (sheet_held f).registers ≡ o.sheet.registers
  held-registers =
      ap (λ (g : Fields). (sheet_held g).registers) o.same
      ∙ ap (λ (s : Sheet). s.registers) (sheet-held o.sheet o.fine)

  pub held-many : f.registers ≡ length (sheet_held f).registers
  unfolding fields_of
  held-many = ap (λ (g : Fields). g.registers) o.same ∙ ap length (sym held-registers)

  pub held-few : (1 ≤ length (sheet_held f).registers) × (length (sheet_held f).registers ≤ 12)
  held-few = rw held-registers (o.fine.registers-low, o.fine.registers-high)

  -- an entry has the columns of its register, at most six
  pub held-columns : (i : ℕ) → i < length (sheet_held f).registers
      → (get_or f.register i register_beyond).columns ≡ get_or (columns_of (sheet_held f).registers) i 0
  held-columns i h =
      let s = o.sheet in
      let low : i < length s.registers = rw held-registers at h in
      ap (λ (g : Fields). (get_or g.register i register_beyond).columns) o.same
      ∙ ap (λ (r : Entry.Register). r.columns) (register_at_lem s i register_beyond no_register_lem low)
      ∙ shown_width (get_or s.registers i no_register_lem)
      ∙ sym (columns_in_lem s i no_register_lem low)
      ∙ sym (ap (λ (rs : List Register). get_or (columns_of rs) i 0) held-registers)

  pub held-narrow : (i : ℕ) → (get_or f.register i register_beyond).columns ≤ 6
  held-narrow i =
      subst (λ (g : Fields). (get_or g.register i register_beyond).columns ≤ 6) (sym o.same)
      (small_entry (fields_of o.sheet) (fields_small o.sheet o.fine) i).columns-high

-- there are at most as many values as names
values-few : (registers : List Register) (stage : Stage) (t : Typing) → Holds registers stage t → length t.values ≤ 16
unfolding AtStage
values-few registers Given t h = omega (arith, h.here.valued, h.said.few)
values-few registers Equals t h = omega (arith, h.here.valued, h.said.few)
values-few registers Value t h = omega (arith, h.here.valued, h.said.few)
values-few registers GivenGap t h = omega (arith, h.here.valued, h.said.few)
values-few registers ColonGap t h = omega (arith, turn_low _ _ _ h.here.numbered, h.said.few)
values-few registers Asked t h = omega (arith, turn_low _ _ _ h.here.numbered, h.said.few)
values-few registers Opening t h = omega (arith, turn_low _ _ _ h.here.numbered, h.said.few)
values-few registers Column t h = omega (arith, turn_low _ _ _ h.here.numbered, h.said.few)
values-few registers ColumnGap t h = omega (arith, turn_low _ _ _ h.here.numbered, h.said.few)
values-few registers Closed t h = omega (arith, turn_low _ _ _ h.here.numbered, h.said.few)
values-few registers Nowhere t h = absurd h.here

-- ---- the walk

module _ (line second known : List ℕ) (f : Fields) (o : OfSheet f) (there : length known ≡ f.registers) where
  -- the registers, and their names
  abbrev regs : List Register
  regs = (sheet_held f).registers

  abbrev names : List (List ℕ)
  names = map (name_from second) known

  many : length names ≡ length regs
  many = length-map known (name_from second) ∙ there ∙ held-many f o

  -- what was read up to a place: the code keeps what was said, which is true of its stage, and the walk from here on is the
  -- whole walk
  pub record Come (seen : List ℕ) (variables : ℕ) (said : Kept.Said) (stage : Stage) (place : ℕ) : Type 0 where
    pub t : Typing
    pub held : names_held line seen variables ≡ t.names
    pub fits : RoomFor 16 seen variables
    pub noted : Noted t said
    pub holds : Holds regs stage t
    pub named : t.register < length regs
    pub columns : length t.vars ≤ place
    pub low : place ≤ length line
    pub rest : walk regs names line (record { stage = stage; said = t }) (cuts_from (length line) line place)
        ≡ walk regs names line beginning (cuts line)

  -- nothing was read yet
  pub come_none : (seen : List ℕ) (variables : ℕ) → seen ≡ replicate 16 0 → variables ≡ 0
      → (said : Kept.Said) → Noted nothing_said said → Come seen variables said Given 0
  unfolding nothing_said names_held beginning cuts
  come_none seen variables p v said n =
      rw (p, v)
      record {
        t = nothing_said;
        held = refl;
        fits = record { room = refl; few = omega arith };
        noted = n;
        holds = holds-nothing regs;
        named = (held-few f o).0;
        columns = omega arith;
        low = omega arith;
        rest = refl;
      }

  module _ (seen : List ℕ) (variables : ℕ) (said : Kept.Said) (stage : Stage) (place : ℕ)
      (come : Come seen variables said stage place) where
    abbrev here : Stand
    here = record { stage = stage; said = come.t }

    pub variables-are : variables ≡ length come.t.names
    variables-are = sym (held_number line seen variables come.fits) ∙ ap length come.held

    -- the tests of the code are those of the definition
    pub fits-are : (c : Cut) (which needed : ℕ)
        → which ≡ which_name names line (role stage) (names_held line seen variables) c.token
        → needed ≡ (get_or f.register said.register register_beyond).columns
        → fits_of stage c which f.registers variables said.lookups said.columns needed ≡ fits_at regs names line here c
    unfolding fits_at
    fits-are c which needed w n =
        let e1 : which ≡ which_name names line (role stage) come.t.names c.token =
        w ∙ ap (λ ns. which_name names line (role stage) ns c.token) come.held in
        let e2 : f.registers ≡ length names = held-many f o ∙ sym many in
        let e3 = variables-are in
        let e4 = come.noted.lookups in
        let e5 = come.noted.columns in
        let e6 : needed ≡ get_or (columns_of regs) come.t.register 0 =
        n ∙ ap (λ i. (get_or f.register i register_beyond).columns) come.noted.register
        ∙ held-columns f o come.t.register come.named in
        λ i. fits_of stage c (e1 i) (e2 i) (e3 i) (e4 i) (e5 i) (e6 i)

    module _ (more : place < length line) where
      -- the token here, and those behind it
      abbrev token : Cut
      token = cut_at line place

      cuts-here : cuts_from (length line) line place ≡ token ∷ cuts_from (length line) line token.next
      cuts-here = cuts_on (length line) (length line) line place more (omega arith) (omega arith)

      -- a number fits: the line is faulty here
      pub come_faulty : (number : ℕ) → number ≡ first_fit (fits_at regs names line here token) → (number ≡ 0 → ⊥)
          → faulty number place ≡ walk regs names line beginning (cuts line)
      come_faulty zero e other = absurd (other refl)
      come_faulty (suc k) e other =
          let stop = walk-faulty regs names line here token (cuts_from (length line) line token.next) k (sym e) in
          sym
          (sym come.rest
          ∙ ap (walk regs names line here) cuts-here
          ∙ stop
          ∙ ap (faulty (suc k)) (cut_at_at line place))

      module _ (none : first_fit (fits_at regs names line here token) ≡ 0) where
        fitless : NoFit regs names line many stage token.token come.t
        fitless = no_fit regs names line many here token none

        fitless_as : (k : Token) → token.token ≡ k → NoFit regs names line many stage k come.t
        fitless_as k is = subst (λ (j : Token). NoFit regs names line many stage j come.t) is fitless

        -- the number of the name is low
        pub come_which : which_name names line (role stage) (names_held line seen variables) token.token < 16
        come_which =
            rw come.held (which_low regs names line many (held-few f o).1 stage token.token come.t fitless)

        -- there is room for what the token says
        pub come_room : (which : ℕ) → which ≡ which_name names line (role stage) (names_held line seen variables) token.token
            → length line < 2 ^ 64 → Room stage token.token which said
        come_room which w long =
            let e : which ≡ which_name names line (role stage) come.t.names token.token =
            w ∙ ap (λ ns. which_name names line (role stage) ns token.token) come.held in
            let few = (held-few f o).1 in
            let counted : said.columns ≡ length come.t.vars = come.noted.columns in
            let fewer = come.columns in
            let known = register-low regs names line many few stage token.token come.t fitless in
            record {
              low = subst (λ n. n < 16) (sym w) come_which;
              register-low = λ r. subst (λ n. n < 12) (sym e) (known r);
              value = λ x is.
                  let (a, b) = value_room regs names line many few stage x come.t (fitless_as _ is) come.holds in
                  let given : said.given ≡ length come.t.values = come.noted.given in
                  (omega arith, b);
              whole = λ is.
                  let (a, b) = whole_room regs names line many few stage come.t (fitless_as _ is) come.holds in
                  let asked : said.lookups ≡ length come.t.look_ups = come.noted.lookups in
                  let named : said.register ≡ come.t.register = come.noted.register in
                  let narrow = held-narrow f o come.t.register in
                  let same = held-columns f o come.t.register come.named in
                  (omega arith, omega arith, omega (arith, come.noted.register-low));
              column = omega arith;
            }

        -- what was read with this token
        come_on : (which : ℕ) → which ≡ which_name names line (role stage) (names_held line seen variables) token.token
            → (seen' : List ℕ) (variables' : ℕ) → NamesNoted stage token.token which variables seen variables' seen'
            → (said' : Kept.Said)
            → ((t : Typing) (known : List (List ℕ)) (line : List ℕ)
            → which ≡ which_name known line (role stage) t.names token.token
            → Noted t said → Noted (noted known line (role stage) token.token t) said')
            → Come seen' variables' said' (follows stage token.token) token.next
        unfolding stepped
        come_on which w seen' variables' named said' notes =
            let within = cut-within line place in
            let (far, inside) = cut_next line place more in
            let e : which ≡ which_name names line (role stage) come.t.names token.token =
            w ∙ ap (λ ns. which_name names line (role stage) ns token.token) come.held in
            let few = (held-few f o).1 in
            let vars = vars-more regs names line many few (role stage) token.token come.t in
            let fewer = come.columns in
            record {
              t = noted names line (role stage) token.token come.t;
              held = named.held line names come.t within come.fits come.held e;
              fits = named.fits come.fits;
              noted = notes come.t names line e come.noted;
              holds = stepped-holds regs names line many here token none come.holds;
              named = register-named regs names line many few stage token.token come.t fitless come.named;
              columns = omega arith;
              low = inside;
              rest = sym (walk_on regs names line here token (cuts_from (length line) line token.next) none)
                  ∙ sym (ap (walk regs names line here) cuts-here)
                  ∙ come.rest;
            }

        -- the same, of the token as the code has it
        pub come_next : (k : Cut) → k ≡ token → (which : ℕ)
            → which ≡ which_name names line (role stage) (names_held line seen variables) token.token
            → (seen' : List ℕ) (variables' : ℕ) → NamesNoted stage k.token which variables seen variables' seen'
            → (said' : Kept.Said)
            → ((t : Typing) (known : List (List ℕ)) (line : List ℕ)
            → which ≡ which_name known line (role stage) t.names k.token
            → Noted t said → Noted (noted known line (role stage) k.token t) said')
            → (stage' : Stage) → stage' ≡ follows stage k.token → Come seen' variables' said' stage' k.next
        come_next k e which w seen' variables' named said' notes stage' s =
            subst (λ (g : Stage). Come seen' variables' said' g k.next) (sym s)
            (subst (λ (j : Cut).
            NamesNoted stage j.token which variables seen variables' seen' → (said' : Kept.Said)
            → ((t : Typing) (known : List (List ℕ)) (line : List ℕ)
            → which ≡ which_name known line (role stage) t.names j.token
            → Noted t said → Noted (noted known line (role stage) j.token t) said')
            → Come seen' variables' said' (follows stage j.token) j.next) (sym e)
            (come_on which w seen' variables') named said' notes)

    module _ (last : length line ≤ place) where
      -- only the line's end is left
      cuts_last : cuts_from (length line) line place ≡ cut_at line place ∷ []
      cuts_last = cuts-end (length line) line place last

      end_is : cut_at line place ≡ cut End place 0 false
      unfolding cut_at
      end_is = ap (cut_of place) (drop_of_length-le line last) ∙ cut-end place

      -- the end is out of place, or nothing fits it
      end_fits : (c : Cut) → c ≡ cut End place 0 false
          → first_fit (fits_at regs names line here c) ≡ elim (is_nowhere (follows stage End)) [ true ↦ 21 | false ↦ 0 ]
      unfolding first_fit fits_at fits_of cut is_nought is_other is_unknown is_miscounted is_over is_again
      end_fits c e = ap (λ (k : Cut). first_fit (fits_at regs names line here k)) e

      -- the line ends out of place
      pub come_cut : is_nowhere (follows stage End) ≡ true → faulty 21 place ≡ walk regs names line beginning (cuts line)
      come_cut bad =
          let fits : first_fit (fits_at regs names line here (cut_at line place)) ≡ 21 =
          end_fits (cut_at line place) end_is ∙ ap (λ (k : Bool). elim k [ true ↦ 21 | false ↦ 0 ]) bad in
          sym
          (sym come.rest
          ∙ ap (walk regs names line here) cuts_last
          ∙ walk-faulty regs names line here (cut_at line place) [] 20 fits
          ∙ ap (faulty 21) (cut_at_at line place))

      -- or the line is the request that was said
      pub come_whole : is_nowhere (follows stage End) ≡ false
          → asks (sheet_typed regs come.t) ≡ walk regs names line beginning (cuts line)
      unfolding stepped noted cut
      come_whole good =
          let fits : first_fit (fits_at regs names line here (cut_at line place)) ≡ 0 =
          end_fits (cut_at line place) end_is ∙ ap (λ (k : Bool). elim k [ true ↦ 21 | false ↦ 0 ]) good in
          let said : noted names line (role stage) (cut_at line place).token come.t ≡ come.t =
          ap (λ (k : Cut). noted names line (role stage) k.token come.t) end_is in
          sym
          (sym come.rest
          ∙ ap (walk regs names line here) cuts_last
          ∙ walk_on regs names line here (cut_at line place) [] fits
          ∙ walk_end regs names line (stepped regs names line here (cut_at line place))
          ∙ ap (λ (t : Typing). asks (sheet_typed regs t)) said)

    -- the values are few
    pub come_given : said.given ≤ 16
    come_given = omega (arith, come.noted.given, values-few regs stage come.t come.holds)
