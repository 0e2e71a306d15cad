-- Writing the sheet: what stands in it, item by item in the order of the fields, the bytes that the items make, and the lent
-- buffer (docs/RULES.md, section 10).
use Rattle.std.specs.Prelude.{◌≡◌, ◌↔◌, Result, Ok, Err, Bool, true, false, ◌&&◌, not, List, [], ◌∷◌, ◌++◌, map, ℕ, zero, suc, ◌+◌, ◌-◌, ◌*◌, ◌/◌, ◌%◌, ◌^◌, ◌≤◌, ◌<◌, get_or, length, take, drop, replicate, eqb, leb, ltb}
use Rattle.std.proofs.Math.Option.{none, some}
use Rattle.plan.specs.Lists.{In, has, numbers, Rising}
use Rattle.plan.specs.Request.{Rule}
use Rattle.plan.specs.Reader.{Fault, count_out, not_in_sheet, unused_variable, given_zero, fault_number, got}
use Rattle.plan.specs.Sheet.{Register, LookUp, Sheet, columns_of, used, first_unused, to_full_byte, read_sheet}
use Rattle.plan.specs.declared.Refused.{Refused}
use Rattle.plan.specs.Refusals.{number_of}

-- the w lowest bits of a number as marks, the first bit first
unfoldable pub marks_of : ℕ → ℕ → List Bool
marks_of zero m = []
marks_of (suc a) m = eqb (m / 2 ^ a % 2) 1 ∷ marks_of a m

-- the number that the marks make, first mark first, behind the number n
unfoldable pub marks_number : ℕ → List Bool → ℕ
marks_number n [] = n
marks_number n (true ∷ bs) = marks_number (n * 2 + 1) bs
marks_number n (false ∷ bs) = marks_number (n * 2) bs

-- what stands in a sheet: a field with its bits, a field that is broken, a variable that is neither given nor in a look-up,
-- the zero bits up to a full byte
pub data Item : Type 0 where
  sound : List Bool → Item
  broken : Fault → Item
  unused : ℕ → Item
  padding : Item

-- what writing gives: the bits or the bytes, or the first fault and its detail
pub data Written (A : Type 0) : Type 0 where
  put : A → Written A
  refused : Fault → ℕ → Written A

-- a field of w bits whose number passes the test, else one that is broken
unfoldable pub item : ℕ → (ℕ → Bool) → Fault → ℕ → Item
item w test fault x = elim (test x) [ true ↦ sound (marks_of w x) | false ↦ broken fault ]

-- a count of w bits, from `low` to `high`
unfoldable pub count_item : ℕ → ℕ → ℕ → ℕ → Item
count_item w low high = item w (λ x. leb low x && leb x high) count_out

-- 4 bits that name one of n things of the sheet
unfoldable pub name_item : ℕ → ℕ → Item
name_item n = item 4 (λ x. ltb x n) not_in_sheet

-- §2.4: the number of variables less 1, 4 bits
unfoldable pub variables_item : ℕ → Item
variables_item v = elim (leb 1 v && leb v 16) [ true ↦ sound (marks_of 4 (v - 1)) | false ↦ broken count_out ]

-- §2.2 to §2.5: the version, and how many registers, variables and look-ups there are
unfoldable pub header_items : ℕ → ℕ → ℕ → List Item
header_items registers variables look_ups =
    sound (marks_of 3 1) ∷ count_item 4 1 12 registers ∷ variables_item variables ∷ count_item 4 1 12 look_ups ∷ []

-- §2.6: a register's columns, how many rules it has, and the rules
unfoldable pub register_items : Register → List Item
register_items r = count_item 3 1 6 r.columns ∷ count_item 4 1 8 (length r.rules) ∷ map sound r.rules

-- §2.8: a given value, 32 bits, not 0
unfoldable pub value_item : ℕ → Item
value_item = item 32 (λ x. not (eqb x 0)) given_zero

-- §2.7: a mark per variable, set where it is given
unfoldable pub given_marks : ℕ → List ℕ → List Bool
given_marks variables given = map (λ v. has eqb v given) (numbers 0 variables)

-- §2.7 and §2.8: the marks, and the given values
unfoldable pub given_items : ℕ → List ℕ → List ℕ → List Item
given_items variables given values = sound (given_marks variables given) ∷ map value_item values

-- §2.9: a look-up's register, and one variable per column
unfoldable pub look_up_items : ℕ → ℕ → LookUp → List Item
look_up_items registers variables l = name_item registers l.register ∷ map (name_item variables) l.vars

-- §2.11: the lowest variable that is neither given nor in a look-up, if there is one
unfoldable pub unused_items : ℕ → List ℕ → List Item
unused_items variables used = elim (first_unused used (numbers 0 variables)) [ none ↦ [] | some v ↦ unused v ∷ [] ]

-- the items of each, one behind the other
unfoldable pub all_items : {A : Type 0} → (A → List Item) → List A → List Item
all_items items [] = []
all_items items (a ∷ more) = items a ++ all_items items more

-- the whole sheet, item by item: §2.2 to §2.5, §2.6, §2.7, §2.8, §2.9, §2.11, §2.10
unfoldable pub sheet_items : Sheet → List Item
sheet_items s =
    header_items (length s.registers) s.variables (length s.look_ups)
    ++ (all_items register_items s.registers
    ++ (given_items s.variables s.given s.values
    ++ (all_items (look_up_items (length s.registers) s.variables) s.look_ups
    ++ (unused_items s.variables (used s.given s.look_ups)
    ++ (padding ∷ [])))))

-- some bits, and then what follows them
unfoldable pub behind : List Bool → Written (List Bool) → Written (List Bool)
behind bs (put more) = put (bs ++ more)
behind bs (refused fault detail) = refused fault detail

-- the bits of the items from a place on; or the first fault, at the first bit of its field, or the variable (§2.13)
unfoldable pub written : List Item → ℕ → Written (List Bool)
written [] at = put []
written (sound bs ∷ is) at = behind bs (written is (at + length bs))
written (broken fault ∷ is) at = refused fault at
written (unused v ∷ is) at = refused unused_variable v
written (padding ∷ is) at = behind (replicate (to_full_byte at) false) (written is (at + to_full_byte at))

-- n bytes of eight bits each, most significant bit first (§2.1)
unfoldable pub octets : ℕ → List Bool → List ℕ
octets zero bits = []
octets (suc n) bits = marks_number 0 (take 8 bits) ∷ octets n (drop 8 bits)

-- bits as bytes
unfoldable pub packed : Written (List Bool) → Written (List ℕ)
packed (put bits) = put (octets (length bits / 8) bits)
packed (refused fault detail) = refused fault detail

-- the bytes of a sheet, or the first of its fields that is broken
unfoldable pub write_sheet : Sheet → Written (List ℕ)
write_sheet s = packed (written (sheet_items s) 0)

-- the refusal where the lent buffer is shorter than the sheet
abbrev pub short_buffer : ℕ
short_buffer = 13

-- what writing a sheet gives: the number 0 and how many bytes were written, or a refusal's number and detail and 0
pub record SheetWritten : Type 0 where
  pub number : ℕ
  pub detail : ℕ
  pub bytes : ℕ

-- of what a function gives: how many bytes, or a refusal with its detail
abbrev pub told_writing : Result ℕ Refused → SheetWritten
told_writing (Ok bytes) = record { number = 0; detail = 0; bytes = bytes }
told_writing (Err r) = record { number = number_of r.refusal; detail = r.detail; bytes = 0 }

-- what comes back, and what the lent buffer holds then
pub record Stored : Type 0 where
  pub result : SheetWritten
  pub buffer : List ℕ

-- the bytes stand at the buffer's beginning, and what is behind them stays; a refusal writes nothing, and 13 tells the
-- bytes needed
unfoldable pub stored_in : List ℕ → Written (List ℕ) → Stored
stored_in buffer (put bytes) =
    elim (leb (length bytes) (length buffer)) [
      | true ↦ record {
        result = record { number = 0; detail = 0; bytes = length bytes };
        buffer = bytes ++ drop (length bytes) buffer;
      }
      | false ↦ record { result = record { number = short_buffer; detail = length bytes; bytes = 0 }; buffer = buffer }
    ]
stored_in buffer (refused fault detail) =
    record { result = record { number = fault_number fault; detail = detail; bytes = 0 }; buffer = buffer }

-- ---- what is claimed of writing

-- what a sheet has by its form, whatever its numbers: rules with a mark per column, given variables ascending and in the
-- sheet, a value of 32 bits for each, and a variable per column of the register that a look-up names
pub record Formed (s : Sheet) : Type 0 where
  pub marks : (r : Register) → In r s.registers → (m : Rule) → In m r.rules → length m ≡ r.columns
  pub given_rising : Rising s.given
  pub given-low : (v : ℕ) → In v s.given → v < s.variables
  pub values-number : length s.values ≡ length s.given
  pub values_low : (x : ℕ) → In x s.values → x < 2 ^ 32
  pub vars-number : (l : LookUp) → In l s.look_ups → l.register < length s.registers
      → length l.vars ≡ get_or (columns_of s.registers) l.register 0

-- an item that is sound, at whatever place
unfoldable pub is_sound : Item → Bool
is_sound (sound bs) = true
is_sound (broken fault) = false
is_sound (unused v) = false
is_sound padding = true

-- the place behind sound items
unfoldable pub place_behind : List Item → ℕ → ℕ
place_behind [] at = at
place_behind (sound bs ∷ is) at = place_behind is (at + length bs)
place_behind (broken fault ∷ is) at = place_behind is at
place_behind (unused v ∷ is) at = place_behind is at
place_behind (padding ∷ is) at = place_behind is (at + to_full_byte at)

-- the fault and the detail that an item at this place tells, if it is not sound
unfoldable pub Tells : ℕ → Item → Fault → ℕ → Type 0
Tells at (sound bs) fault detail = ⊥
Tells at (broken told) fault detail = (fault ≡ told) × (detail ≡ at)
Tells at (unused v) fault detail = (fault ≡ unused_variable) × (detail ≡ v)
Tells at padding fault detail = ⊥

-- the first item that is not sound, in the order of the sheet, tells this fault and detail
pub record FirstBroken (items : List Item) (fault : Fault) (detail : ℕ) : Type 0 where
  pub before : List Item
  pub here : Item
  pub after : List Item
  pub whole : items ≡ before ++ (here ∷ after)
  pub all_sound : (i : Item) → In i before → is_sound i ≡ true
  pub tells : Tells (place_behind before 0) here fault detail

-- what is claimed of writing: what was written is read back; what was read is written as the same bytes; so two sheets are
-- never written alike; a sheet is refused exactly where an item is not sound, by the first of them, and else it is written
pub record Inverse : Type 0 where
  pub back : (s : Sheet) → Formed s → (bytes : List ℕ) → write_sheet s ≡ put bytes → read_sheet bytes ≡ got s (8 * length bytes)
  pub forth : (bytes : List ℕ) → ((i : ℕ) → get_or bytes i 0 < 256) → (s : Sheet) (end : ℕ) → read_sheet bytes ≡ got s end
      → write_sheet s ≡ put bytes
  pub formed : (bytes : List ℕ) (s : Sheet) (end : ℕ) → read_sheet bytes ≡ got s end → Formed s
  pub once : (s t : Sheet) → Formed s → Formed t → (bytes : List ℕ) → write_sheet s ≡ put bytes → write_sheet t ≡ put bytes
      → s ≡ t
  pub small : (s : Sheet) → Formed s → (bytes : List ℕ) → write_sheet s ≡ put bytes
      → ((i : ℕ) → get_or bytes i 0 < 256) × (length bytes ≤ 193)
  pub first : (s : Sheet) (fault : Fault) (detail : ℕ)
      → (write_sheet s ≡ refused fault detail) ↔ FirstBroken (sheet_items s) fault detail
  pub sounds : (s : Sheet) → ((i : Item) → In i (sheet_items s) → is_sound i ≡ true)
      ↔ ((bytes : List ℕ) × (write_sheet s ≡ put bytes))
