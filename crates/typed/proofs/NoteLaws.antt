-- What a token adds to what is kept of a line: one value more in its array, one look-up, one variable in brackets, one name.
-- By the laws of lists that are kept in an array, and by cases of the stages and the tokens.
use mathlib.Core.Path.{◌≡◌, refl, sym, ◌∙◌, ap, ap₂, subst}
use mathlib.Core.Bool.{Bool, true, false}
use mathlib.Core.List.{List, [], ◌∷◌, ◌++◌}
use Prim.Native.Nat.{ℕ, suc, ◌+◌, ◌≤◌, ◌<◌}
use native.Mathlib.Omega.{arith}
use lib.ListN.{length, take, set, length-append}
use lib.Seq.{take_all, take-append-le}
use lib.Dec.{eqb, ltb}
use borrow.Author.Tests.{ltb-true, ltb-false, lt-ltb, le-ltb}
use Rattle.plan.specs.declared.Stage.{Stage}
use Rattle.plan.specs.declared.Stage.TheVariants.{Given, Equals, Value, GivenGap, ColonGap, Asked}
use Rattle.plan.specs.declared.Stage.TheVariants.{Opening, Column, ColumnGap, Closed, Nowhere}
use Rattle.plan.specs.declared.Token.{Token}
use Rattle.plan.specs.declared.Token.TheVariants.{Name, Number, Mark, Other, End}
use Rattle.plan.specs.Lists.{padded}
use Rattle.plan.specs.Tokens.{place_of, closing}
use Rattle.plan.specs.Typed.{Typing, of_register, of_column, role, name_at, names_for, which_name}
use Rattle.plan.specs.Typed.{with_name, noted_name, noted_value, noted_look_up, noted}
use Rattle.plan.specs.Sheet.{LookUp}
use Rattle.plan.proofs.Lists.{by_test}
use Rattle.plan.proofs.Padded.{padded-more}
use Rattle.lines.proofs.TypedSaid.{with_old, with_new}
use Rattle.sheet.specs.Fields.{look_up_of}
use Rattle.sheet.specs.declared.LookUp as Held
use Rattle.typed.specs.Notes.{Noted, Within, count_added, places_added, NamesNoted}
use Rattle.typed.specs.declared.notes.Said.{Said}
use Rattle.typed.proofs.HeldNames.{held_number, held_more, room_more}

-- ---- one more in an array

-- one more
pub length_more : {A : Type 0} (n : ℕ) (xs : List A) (x : A) → n ≡ length xs → n + 1 ≡ length (xs ++ (x ∷ []))
length_more n xs x e = omega (arith, length-append xs (x ∷ []))

-- a variable in brackets: of the first six
pub vars-more : (array vars : List ℕ) (n v : ℕ) → n ≡ length vars → n < 6 → array ≡ padded 6 0 (take 6 vars)
    → set array n v ≡ padded 6 0 (take 6 (vars ++ (v ∷ [])))
vars-more array vars n v l h e =
    let all = take_all 6 vars (omega arith) in
    let more = take_all 6 (vars ++ (v ∷ [])) (omega (arith, length-append vars (v ∷ []))) in
    ap (λ a. set a n v) (e ∙ ap (padded 6 0) all)
    ∙ padded-more 6 0 vars n v (sym l) h
    ∙ ap (padded 6 0) (sym more)

-- or behind them
pub vars-full : (vars : List ℕ) (n v : ℕ) → n ≡ length vars → 6 ≤ n
    → padded 6 0 (take 6 vars) ≡ padded 6 0 (take 6 (vars ++ (v ∷ [])))
vars-full vars n v l h = ap (padded 6 0) (sym (take-append-le 6 vars (v ∷ []) (omega arith)))

-- what is kept with one more variable in brackets
pub column-noted : (t : Typing) (known : List (List ℕ)) (x : List ℕ) (which : ℕ) (said next : Said) (array : List ℕ)
    → which ≡ place_of x t.names → Noted t said → array ≡ padded 6 0 (take 6 (t.vars ++ (which ∷ [])))
    → next ≡ record {
      given = said.given;
      start = said.start;
      lookups = said.lookups;
      lookup = said.lookup;
      register = said.register;
      columns = said.columns;
      vars = array;
    }
    → Noted (noted_name of_column known x t) (record {
      given = next.given;
      start = next.start;
      lookups = next.lookups;
      lookup = next.lookup;
      register = next.register;
      columns = said.columns + 1;
      vars = next.vars;
    })
unfolding noted_name
column-noted t known x which said next array e n a same =
    record {
      given = ap (λ (s : Said). s.given) same ∙ n.given;
      start = ap (λ (s : Said). s.start) same ∙ n.start;
      lookups = ap (λ (s : Said). s.lookups) same ∙ n.lookups;
      lookup = ap (λ (s : Said). s.lookup) same ∙ n.lookup;
      register = ap (λ (s : Said). s.register) same ∙ n.register;
      register-low = n.register-low;
      columns = length_more said.columns t.vars (place_of x t.names) n.columns;
      vars = ap (λ (s : Said). s.vars) same ∙ a ∙ ap (λ v. padded 6 0 (take 6 (t.vars ++ (v ∷ [])))) e;
    }

-- the entry of a look-up
pub entry_is : (register columns : ℕ) (array : List ℕ) (l : LookUp) → register ≡ l.register → columns ≡ length l.vars
    → columns ≤ 6 → array ≡ padded 6 0 (take 6 l.vars)
    → ◌≡◌ {A = Held.LookUp} (record { register = register; columns = columns; vars = array }) (look_up_of l)
unfolding look_up_of
entry_is register columns array l r c h a =
    let all = a ∙ ap (padded 6 0) (take_all 6 l.vars (omega arith)) in
    λ i. record { register = r i; columns = c i; vars = all i }

-- ---- what is said with a token

-- the contract of `note`
abbrev pub Notes : Stage → Token → ℕ → Said → Said → Type 0
Notes stage token which said r =
    (t : Typing) (known : List (List ℕ)) (line : List ℕ) → which ≡ which_name known line (role stage) t.names token
    → Noted t said → Noted (noted known line (role stage) token t) r

-- by what the stage and the token are
pub notes_as : (stage s : Stage) (token k : Token) (which : ℕ) (said r : Said) → stage ≡ s → token ≡ k → Notes s k which said r
    → Notes stage token which said r
notes_as stage s token k which said r e f n =
    subst (λ (g : Stage). Notes g token which said r) (sym e) (subst (λ (g : Token). Notes s g which said r) (sym f) n)

module _ (which : ℕ) (said r : Said) where
  -- the name of a register
  pub notes_register : (at letters : ℕ)
      → ((t : Typing) (known : List (List ℕ)) (x : List ℕ) → which ≡ place_of x known → Noted t said
      → Noted (noted_name of_register known x t) r)
      → Notes Asked (Name at letters) which said r
  unfolding noted role which_name names_for
  notes_register at letters h t known line e n = h t known (name_at line at letters) e n

  -- the name of a variable in brackets
  pub notes_column : (at letters : ℕ)
      → ((t : Typing) (known : List (List ℕ)) (x : List ℕ) → which ≡ place_of x t.names → Noted t said
      → Noted (noted_name of_column known x t) r)
      → Notes Column (Name at letters) which said r
  unfolding noted role which_name names_for
  notes_column at letters h t known line e n = h t known (name_at line at letters) e n

  -- a value
  pub notes_value : (stage : Stage) (x : ℕ) → ((t : Typing) → Noted t said → Noted (noted_value x t) r)
      → Notes stage (Number x) which said r
  unfolding noted
  notes_value stage x h t known line e n = h t n

  -- the closing bracket
  pub notes_look_up : (stage : Stage) → ((t : Typing) → Noted t said → Noted (noted_look_up t) r)
      → Notes stage (Mark closing) which said r
  unfolding noted
  notes_look_up stage h t known line e n = h t n

module _ (which : ℕ) (said : Said) where
  -- the name of a given variable, and a name that stands for nothing
  pub notes_elsewhere : (stage : Stage) (at letters : ℕ)
      → (stage ≡ Asked → ⊥) → (stage ≡ Column → ⊥)
      → Notes stage (Name at letters) which said said
  unfolding noted noted_name role
  notes_elsewhere Given at letters n1 n2 t known line e n =
      record {
        given = n.given;
        start = n.start;
        lookups = n.lookups;
        lookup = n.lookup;
        register = n.register;
        register-low = n.register-low;
        columns = n.columns;
        vars = n.vars;
      }
  notes_elsewhere Equals at letters n1 n2 t known line e n = n
  notes_elsewhere Value at letters n1 n2 t known line e n = n
  notes_elsewhere GivenGap at letters n1 n2 t known line e n = n
  notes_elsewhere ColonGap at letters n1 n2 t known line e n = n
  notes_elsewhere Asked at letters n1 n2 t known line e n = absurd (n1 refl)
  notes_elsewhere Opening at letters n1 n2 t known line e n = n
  notes_elsewhere Column at letters n1 n2 t known line e n = absurd (n2 refl)
  notes_elsewhere ColumnGap at letters n1 n2 t known line e n = n
  notes_elsewhere Closed at letters n1 n2 t known line e n = n
  notes_elsewhere Nowhere at letters n1 n2 t known line e n = n

  -- another mark
  pub notes_mark : (stage : Stage) (b : ℕ) → eqb b closing ≡ false → Notes stage (Mark b) which said said
  unfolding noted
  notes_mark stage b f t known line e n =
      subst (λ (k : Bool). Noted (elim k [ true ↦ noted_look_up t | false ↦ t ]) said) (sym f) n

  -- another byte, and the end
  pub notes_silent : (stage : Stage) (token : Token) → ((at letters : ℕ) → token ≡ Name at letters → ⊥)
      → ((x : ℕ) → token ≡ Number x → ⊥) → ((b : ℕ) → token ≡ Mark b → ⊥)
      → Notes stage token which said said
  unfolding noted
  notes_silent stage (Name at letters) n1 n2 n3 t known line e n = absurd (n1 at letters refl)
  notes_silent stage (Number x) n1 n2 n3 t known line e n = absurd (n2 x refl)
  notes_silent stage (Mark b) n1 n2 n3 t known line e n = absurd (n3 b refl)
  notes_silent stage Other n1 n2 n3 t known line e n = n
  notes_silent stage End n1 n2 n3 t known line e n = n

-- ---- the names with a token

-- how many there are, and their places, where the name is one of them and where it is not
module _ (which count : ℕ) where
  pub count_old : which < count → count ≡ count_added which count
  unfolding count_added
  count_old h = rw (lt-ltb which count h, count_added)

  pub count_new : count ≤ which → suc count ≡ count_added which count
  unfolding count_added
  count_new h = rw (le-ltb which count h, count_added)

  module _ (at : ℕ) (places : List ℕ) where
    pub places_old : which < count → places ≡ places_added at which count places
    unfolding places_added
    places_old h = rw (lt-ltb which count h, places_added)

    pub places_new : count ≤ which → set places count at ≡ places_added at which count places
    unfolding places_added
    places_new h = rw (le-ltb which count h, places_added)

-- by what the stage and the token are, and by what the count and the places become
pub names_as : (stage s : Stage) (token k : Token) (which count : ℕ) (places : List ℕ) (m n : ℕ) (qs ps : List ℕ)
    → stage ≡ s → token ≡ k → m ≡ n → qs ≡ ps → NamesNoted s k which count places n ps
    → NamesNoted stage token which count places m qs
names_as stage s token k which count places m n qs ps e f g h z = rw (e, f, g, h) z

-- they stay where what is said has the same names
names-kept : (stage : Stage) (token : Token) (which count : ℕ) (places : List ℕ)
    → ((known : List (List ℕ)) (line : List ℕ) (t : Typing) → (noted known line (role stage) token t).names ≡ t.names)
    → NamesNoted stage token which count places count places
names-kept stage token which count places same =
    record { fits = λ p. p; held = λ line known t w p h e. h ∙ sym (same known line t) }

module _ (which count : ℕ) (places : List ℕ) where
  -- a token that is no name
  pub names_silent : (stage : Stage) (token : Token) → ((at letters : ℕ) → token ≡ Name at letters → ⊥)
      → NamesNoted stage token which count places count places
  unfolding noted noted_value noted_look_up
  names_silent stage (Name at letters) n = absurd (n at letters refl)
  names_silent stage (Number x) n = names-kept stage (Number x) which count places (λ known line t. refl)
  names_silent stage (Mark b) n =
      names-kept stage (Mark b) which count places λ known line t.
      by_test (eqb b closing) (λ y. rw (y, noted)) (λ f. rw (f, noted))
  names_silent stage Other n = names-kept stage Other which count places (λ known line t. refl)
  names_silent stage End n = names-kept stage End which count places (λ known line t. refl)

  module _ (at letters : ℕ) where
    -- a name that is no variable's
    named : (stage : Stage)
        → ((known : List (List ℕ)) (line : List ℕ) (t : Typing)
        → (noted known line (role stage) (Name at letters) t).names ≡ t.names)
        → NamesNoted stage (Name at letters) which count places count places
    named stage same = names-kept stage (Name at letters) which count places same

    pub names_elsewhere : (stage : Stage) → (stage ≡ Given → ⊥) → (stage ≡ Column → ⊥)
        → NamesNoted stage (Name at letters) which count places count places
    unfolding noted noted_name role
    names_elsewhere Given n1 n2 = absurd (n1 refl)
    names_elsewhere Equals n1 n2 = named Equals (λ known line t. refl)
    names_elsewhere Value n1 n2 = named Value (λ known line t. refl)
    names_elsewhere GivenGap n1 n2 = named GivenGap (λ known line t. refl)
    names_elsewhere ColonGap n1 n2 = named ColonGap (λ known line t. refl)
    names_elsewhere Asked n1 n2 = named Asked (λ known line t. refl)
    names_elsewhere Opening n1 n2 = named Opening (λ known line t. refl)
    names_elsewhere Column n1 n2 = absurd (n2 refl)
    names_elsewhere ColumnGap n1 n2 = named ColumnGap (λ known line t. refl)
    names_elsewhere Closed n1 n2 = named Closed (λ known line t. refl)
    names_elsewhere Nowhere n1 n2 = named Nowhere (λ known line t. refl)

    -- a variable's: one of them, or one more
    names_added : (stage : Stage) → which < 16
        → ((known : List (List ℕ)) (line : List ℕ) (t : Typing)
        → which_name known line (role stage) t.names (Name at letters) ≡ place_of (name_at line at letters) t.names)
        → ((known : List (List ℕ)) (line : List ℕ) (t : Typing)
        → (noted known line (role stage) (Name at letters) t).names ≡ with_name (name_at line at letters) t.names)
        → NamesNoted stage (Name at letters) which count places (count_added which count) (places_added at which count places)
    unfolding Within
    names_added stage low number more =
        by_test (ltb which count)
        (λ y.
        let h = ltb-true which count y in
        names_as stage stage (Name at letters) (Name at letters) which count places _ _ _ _ refl refl
        (sym (count_old which count h)) (sym (places_old which count at places h))
        (record {
          fits = λ p. p;
          held = λ line known t w p g e.
              let x = name_at line at letters in
              let many = held_number line places count p in
              let l = ap length g in
              let i = number known line t in
              g ∙ sym (with_old x t.names (omega arith)) ∙ sym (more known line t);
        }))
        (λ f.
        let h = ltb-false which count f in
        names_as stage stage (Name at letters) (Name at letters) which count places _ _ _ _ refl refl
        (sym (count_new which count h)) (sym (places_new which count at places h))
        (record {
          fits = λ r. room_more 16 places count at r (omega arith);
          held = λ line known t w p g e.
              let x = name_at line at letters in
              let many = held_number line places count p in
              let l = ap length g in
              let i = number known line t in
              held_more line places count p at (omega arith)
              ∙ ap₂ (λ (names : List (List ℕ)) (y : List ℕ). names ++ (y ∷ [])) g w.2
              ∙ sym (with_new x t.names (omega arith))
              ∙ sym (more known line t);
        }))

    -- of a given variable, and in brackets
    pub names-given : which < 16
        → NamesNoted Given (Name at letters) which count places (count_added which count) (places_added at which count places)
    unfolding noted noted_name role which_name names_for
    names-given low = names_added Given low (λ known line t. refl) (λ known line t. refl)

    pub names-column : which < 16
        → NamesNoted Column (Name at letters) which count places (count_added which count) (places_added at which count places)
    unfolding noted noted_name role which_name names_for
    names-column low = names_added Column low (λ known line t. refl) (λ known line t. refl)
