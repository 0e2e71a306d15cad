-- The stages make the sheet, and how far each stage goes. The stages' readers are the sheet's, grouped otherwise.
use mathlib.Core.Path.{◌≡◌, sym, ◌∙◌, ap}
use mathlib.Core.List.{List}
use Prim.Native.Nat.{ℕ, ◌+◌, ◌*◌, ◌^◌, ◌≤◌, ◌<◌}
use native.Mathlib.Omega.{arith}
use native.Mathlib.Nat.{lt_of_lt_of_le}
use lib.ListN.{length, get_or}
use lib.Dec.{leb}
use lib.Pow.{pow_mono}
use borrow.Author.Tests.{leb-true, ltb-true}
use Rattle.plan.proofs.Lists.{and_left, and_right}
use Rattle.plan.specs.Reader.{wrong_version, count_out, not_in_sheet, given_zero, marks_at, got, give, field, marks, each}
use Rattle.plan.specs.Sheet.{Register, LookUp, count_from, one_of, version, register, marked, value, look_up, sheet}
use Rattle.sheet.specs.Stages.{Counts, Given, counts, header, given_at, given, look_up_by, closing, asked, sheet_of, stages}
use Rattle.plan.specs.Request.{Rule}
use Rattle.plan.specs.Write.{marks_number}
use Rattle.sheet.specs.Bounds.{most_header, most_given, most_look_up}
use Rattle.sheet.specs.Reads.{Goes}
use Rattle.sheet.specs.declared.bits.Reader as Stand
use Rattle.plan.proofs.Marks.{number_lt}
use Rattle.sheet.proofs.ReadsLaws.{goes-number}
use Rattle.plan.proofs.Readers.{bits-lt, marks-length, bind_assoc, give_bind, bind_got}
use Rattle.plan.proofs.Readers.{Held, hold-got, field-got, marks-got, tested-got}
use Rattle.plan.proofs.Seen.{Any, AllOf, Passed, Plain, each-plain}
use Rattle.plan.proofs.First.{value-plain, marked-few, look_up_by_lem}

-- the stages read what the sheet's definition reads
pub stages-sheet : stages ≡ sheet
unfolding stages sheet header counts given_at given asked closing sheet_of look_up look_up_by
stages-sheet = simp (bind_assoc, give_bind)

-- a field of w bits is below 2 ^ w
pub field_lt : (w : ℕ) (bytes : List ℕ) (at x p : ℕ) → field w bytes at ≡ got x p → x < 2 ^ w
field_lt w bytes at x p e = rw (field-got w bytes at x p e).0 (bits-lt bytes at w)

-- a count that was read is in its range
pub count_got : (w low high : ℕ) (bytes : List ℕ) (at x p : ℕ) → count_from w low high bytes at ≡ got x p
    → (low ≤ x) × (x ≤ high) × Held w bytes at p
unfolding count_from
count_got w low high bytes at x p e =
    let t = tested-got w _ count_out bytes at x p e in (
      leb-true low x (and_left (leb low x) (leb x high) t.1),
      leb-true x high
          (and_right (leb low x) (leb x high) t.1),
      (field-got w bytes at x p t.0).1,
    )

-- what was named is one of the n things
pub one-got : (n : ℕ) (bytes : List ℕ) (at x p : ℕ) → one_of n bytes at ≡ got x p → (x < n) × Held 4 bytes at p
unfolding one_of
one-got n bytes at x p e =
    let t = tested-got 4 _ not_in_sheet bytes at x p e in
    (ltb-true x n t.1, (field-got 4 bytes at x p t.0).1)

-- the version takes 3 bits
pub version-got : (bytes : List ℕ) (at x p : ℕ) → version bytes at ≡ got x p → Held 3 bytes at p
unfolding version
version-got bytes at x p e = (field-got 3 bytes at x p (tested-got 3 _ wrong_version bytes at x p e).0).1

-- a given value takes 32 bits
pub value-got : (bytes : List ℕ) (at x p : ℕ) → value bytes at ≡ got x p → (x < 2 ^ 32) × Held 32 bytes at p
unfolding value
value-got bytes at x p e =
    let f = (tested-got 32 _ given_zero bytes at x p e).0 in
    (field_lt 32 bytes at x p f, (field-got 32 bytes at x p f).1)

-- a rule that was read has a mark per column
pub rule-length : (columns : ℕ) (bytes : List ℕ) (at : ℕ) (m : Rule) (p : ℕ) → marks columns bytes at ≡ got m p
    → length m ≡ columns
unfolding marks
rule-length columns bytes at m p e =
    ap length (hold-got columns (λ bytes at. marks_at bytes at columns) bytes at m p e).0
    ∙ marks-length bytes at columns

-- the number of a rule of at most 6 marks has 6 bits
pub rule-low : (m : Rule) → length m ≤ 6 → marks_number 0 m < 2 ^ 6
rule-low m h = lt_of_lt_of_le (number_lt m) (pow_mono {i = length m} {j = 6} h)

-- ---- what the readings of fields say, for the search

-- a count is in its range
pub count_ok : (w low high : ℕ) (before : Stand.Reader) (n : ℕ) (after : Stand.Reader)
    → Goes (λ n. n) (count_from w low high) before n after → (low ≤ n) × (n ≤ high) × (after.at ≡ before.at + w)
count_ok w low high before n after g =
    let c = count_got w low high before.sheet.now before.at n after.at (goes-number g) in
    (c.0, c.1, c.2.next)

-- a field has its bits
pub field_ok : (w : ℕ) (before : Stand.Reader) (n : ℕ) (after : Stand.Reader) → Goes (λ n. n) (field w) before n after
    → (n < 2 ^ w) × (after.at ≡ before.at + w)
field_ok w before n after g =
    let e = goes-number g in (
      field_lt w before.sheet.now before.at n after.at e,
      (field-got w before.sheet.now before.at n after.at e).1.next,
    )

-- one of n things is one of them
pub one_ok : (n : ℕ) (before : Stand.Reader) (x : ℕ) (after : Stand.Reader) → Goes (λ n. n) (one_of n) before x after
    → (x < n) × (after.at ≡ before.at + 4)
one_ok n before x after g = let c = one-got n before.sheet.now before.at x after.at (goes-number g) in (c.0, c.1.next)

-- the version has 3 bits
pub version_ok : (before : Stand.Reader) (n : ℕ) (after : Stand.Reader) → Goes (λ n. n) version before n after
    → after.at ≡ before.at + 3
version_ok before n after g = (version-got before.sheet.now before.at n after.at (goes-number g)).next

-- a given value has 32 bits
pub value_ok : (before : Stand.Reader) (n : ℕ) (after : Stand.Reader) → Goes (λ n. n) value before n after
    → (n < 2 ^ 32) × (after.at ≡ before.at + 32)
value_ok before n after g =
    let c = value-got before.sheet.now before.at n after.at (goes-number g) in
    (c.0, c.1.next)

-- the number of a rule fits a byte
pub rule_ok : (columns : ℕ) (before : Stand.Reader) (n : ℕ) (after : Stand.Reader) → columns ≤ 6
    → Goes (marks_number 0) (marks columns) before n after → (n < 2 ^ 6) × (after.at ≡ before.at + columns)
rule_ok columns before n after low g = (
  rw g.shown (rule-low g.read (omega (arith, rule-length columns before.sheet.now before.at g.read after.at g.is))),
  (marks-got columns before.sheet.now before.at g.read after.at g.is).1.next,
)

-- the readings of a register
pub record RegisterSaid (bytes : List ℕ) (at : ℕ) (r : Register) (next : ℕ) : Type 0 where
  pub middle : ℕ
  pub k : ℕ
  pub from : ℕ
  pub columns-read : count_from 3 1 6 bytes at ≡ got r.columns middle
  pub rules-number : count_from 4 1 8 bytes middle ≡ got k from
  pub rules-read : each k (marks r.columns) bytes from ≡ got r.rules next

-- a register that was read has these readings
pub register-got : (bytes : List ℕ) (at : ℕ) (r : Register) (next : ℕ) → register bytes at ≡ got r next
    → RegisterSaid bytes at r next
unfolding register give
register-got bytes at r next e =
    let b = bind_got (count_from 3 1 6) _ bytes at r next e in
    let d = bind_got (count_from 4 1 8) _ bytes b.1 r next b.3 in
    let f = bind_got (each d.0 (marks b.0)) _ bytes d.1 r next d.3 in
    let s : got (record { columns = b.0; rules = f.0 }) f.1 ≡ got r next = f.3 in
    let same : record { columns = b.0; rules = f.0 } ≡ r = cc in
    let col : b.0 ≡ r.columns = ap (λ (x : Register). x.columns) same in
    let rul : f.0 ≡ r.rules = ap (λ (x : Register). x.rules) same in
    let nex : f.1 ≡ next = cc in
    record {
      middle = b.1;
      k = d.0;
      from = d.1;
      columns-read = b.2 ∙ ap (λ x. got x b.1) col;
      rules-number = d.2;
      rules-read = ap (λ x. each d.0 (marks x) bytes d.1) (sym col) ∙ f.2 ∙ ap (λ x. got x f.1) rul
          ∙ ap (λ x. got r.rules x) nex;
    }

-- the readings of a look-up
pub record LookUpSaid (registers : ℕ) (columns : List ℕ) (variables : ℕ) (bytes : List ℕ) (at : ℕ) (l : LookUp)
    (next : ℕ) : Type 0 where
  pub from : ℕ
  pub register-read : one_of registers bytes at ≡ got l.register from
  pub vars-read : each (get_or columns l.register 0) (one_of variables) bytes from ≡ got l.vars next

module _ (registers : ℕ) (columns : List ℕ) (variables : ℕ) where
  -- a look-up that was read has these readings
  pub look_up-got : (bytes : List ℕ) (at : ℕ) (l : LookUp) (next : ℕ) → look_up_by registers columns variables bytes at ≡ got l next
      → LookUpSaid registers columns variables bytes at l next
  unfolding look_up_by give
  look_up-got bytes at l next e =
      let b = bind_got (one_of registers) _ bytes at l next e in
      let d = bind_got (each (get_or columns b.0 0) (one_of variables)) _ bytes b.1 l next b.3 in
      let s : got (record { register = b.0; vars = d.0 }) d.1 ≡ got l next = d.3 in
      let same : record { register = b.0; vars = d.0 } ≡ l = cc in
      let reg : b.0 ≡ l.register = ap (λ (x : LookUp). x.register) same in
      let var : d.0 ≡ l.vars = ap (λ (x : LookUp). x.vars) same in
      let nex : d.1 ≡ next = cc in
      record {
        from = b.1;
        register-read = b.2 ∙ ap (λ x. got x b.1) reg;
        vars-read = ap (λ x. each (get_or columns x 0) (one_of variables) bytes b.1) (sym reg) ∙ d.2
            ∙ ap (λ x. got x d.1) var ∙ ap (λ x. got l.vars x) nex;
      }

  -- a look-up, where no register has more than 6 columns
  pub look_up-plain : ((r : ℕ) → get_or columns r 0 ≤ 6) → Plain (look_up_by registers columns variables) most_look_up Any
  unfolding look_up_by
  look_up-plain low = look_up_by_lem registers columns variables low

-- the readings of §2.2 to §2.5
pub record HeaderSaid (bytes : List ℕ) (c : Counts) (next : ℕ) : Type 0 where
  pub registers-low : 1 ≤ c.registers
  pub registers-high : c.registers ≤ 12
  pub variables-low : 1 ≤ c.variables
  pub variables-high : c.variables ≤ 16
  pub look_ups-low : 1 ≤ c.look_ups
  pub look_ups-high : c.look_ups ≤ 12
  pub far : next ≤ most_header

-- counts that were read are in their ranges
pub header-got : (bytes : List ℕ) (c : Counts) (next : ℕ) → header bytes 0 ≡ got c next → HeaderSaid bytes c next
unfolding header counts give
header-got bytes c next e =
    let a = bind_got version _ bytes 0 c next e in
    let b = bind_got (count_from 4 1 12) _ bytes a.1 c next a.3 in
    let d = bind_got (field 4) _ bytes b.1 c next b.3 in
    let f = bind_got (count_from 4 1 12) _ bytes d.1 c next d.3 in
    let s : got (record { registers = b.0; variables = d.0 + 1; look_ups = f.0 }) f.1 ≡ got c next = f.3 in
    let same : record { registers = b.0; variables = d.0 + 1; look_ups = f.0 } ≡ c = cc in
    let r : b.0 ≡ c.registers = ap (λ (x : Counts). x.registers) same in
    let v : d.0 + 1 ≡ c.variables = ap (λ (x : Counts). x.variables) same in
    let n : f.0 ≡ c.look_ups = ap (λ (x : Counts). x.look_ups) same in
    let q : f.1 ≡ next = cc in
    let va = version-got bytes 0 a.0 a.1 a.2 in
    let rb = count_got 4 1 12 bytes a.1 b.0 b.1 b.2 in
    let vd = field_lt 4 bytes b.1 d.0 d.1 d.2 in
    let hd = (field-got 4 bytes b.1 d.0 d.1 d.2).1 in
    let nf = count_got 4 1 12 bytes d.1 f.0 f.1 f.2 in
    record {
      registers-low = omega (arith, rb.0);
      registers-high = omega (arith, rb.1);
      variables-low = omega arith;
      variables-high = omega (arith, vd);
      look_ups-low = omega (arith, nf.0);
      look_ups-high = omega (arith, nf.1);
      far = omega (arith, va.next, rb.2.next, hd.next, nf.2.next);
    }

-- the readings of §2.7 and §2.8
pub record GivenSaid (variables : ℕ) (bytes : List ℕ) (at : ℕ) (g : Given) (next : ℕ) : Type 0 where
  pub is : g.given ≡ marked 0 (marks_at bytes at variables)
  pub values-read : each (length g.given) value bytes (at + variables) ≡ got g.values next
  pub room : at + variables ≤ 8 * length bytes

module _ (variables : ℕ) (bytes : List ℕ) (at : ℕ) (g : Given) (next : ℕ)
    (e : given variables bytes at ≡ got g next) where
  -- given variables that were read have these readings
  pub given-said : GivenSaid variables bytes at g next
  unfolding given given_at give marks
  given-said =
      let a = bind_got (marks variables) _ bytes at g next e in
      let h = hold-got variables (λ bytes at. marks_at bytes at variables) bytes at a.0 a.1 a.2 in
      let b = bind_got (each (length (marked 0 a.0)) value) _ bytes a.1 g next a.3 in
      let s : got (record { given = marked 0 a.0; values = b.0 }) b.1 ≡ got g next = b.3 in
      let same : record { given = marked 0 a.0; values = b.0 } ≡ g = cc in
      let gi : marked 0 a.0 ≡ g.given = ap (λ (x : Given). x.given) same in
      let va : b.0 ≡ g.values = ap (λ (x : Given). x.values) same in
      let q : b.1 ≡ next = cc in
      record {
        is = sym gi ∙ ap (marked 0) h.0;
        values-read =
            ap (λ x. each (length x) value bytes (at + variables)) (sym gi)
            ∙ ap (λ x. each (length (marked 0 a.0)) value bytes x) (sym h.1.next)
            ∙ b.2 ∙ ap (λ x. got x b.1) va ∙ ap (λ x. got g.values x) q;
        room = h.1.room;
      }

  -- how far their values go
  values_passed : Passed (each (length g.given) value) (length g.given * 32) bytes (at + variables)
      (AllOf (λ x. x ≡ 0 → ⊥) (length g.given)) g.values next
  values_passed =
      (each-plain value 32 _ value-plain (length g.given)).sees.passes bytes (at + variables)
      g.values next given-said.values-read

  -- so far go the given variables
  pub given_far : variables ≤ 16 → next ≤ at + most_given
  given_far low =
      let s = given-said in
      omega (
        arith,
        values_passed.far,
        ap length s.is,
        marked-few 0 (marks_at bytes at variables),
        marks-length bytes at variables,
      )

  -- they end within the sheet
  pub given-end : next ≤ 8 * length bytes
  given-end = values_passed.inside given-said.room
