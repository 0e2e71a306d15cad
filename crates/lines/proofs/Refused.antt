-- What comes back for a typed request that is refused, and for tables that are too short.
use mathlib.Core.Path.{◌≡◌, ap}
use mathlib.Core.Logic.{◌⊎◌, ⊎_elim}
use mathlib.Core.Bool.{true, false, ◌&&◌}
use mathlib.Core.List.{List}
use Prim.Native.Nat.{ℕ, ◌≤◌, ◌<◌}
use native.Mathlib.Omega.{arith}
use lib.ListN.{length}
use lib.Dec.{leb}
use borrow.Author.Tests.{le-leb, leb-true}
use Rattle.plan.specs.Answer.{refusal, room, Whole, full}
use Rattle.plan.specs.Typed.{faulty, read_typed, whole_asked, whole_typed, check_asked, check_typed}
use Rattle.plan.specs.Answer.{Checked}
use Rattle.plan.proofs.Lists.{fails, and_left, and_right, and_of}

-- a table that is too short: 1 comes first
pub short : (sheet second line words table other : List ℕ) → (length table < room full) ⊎ (length other < room full)
    → ◌≡◌ {A = Whole} (whole_typed sheet second line words table other)
    (record { answer = refusal 1 0; first = table; second = other })
unfolding whole_typed
short sheet second line words table other h =
    let f : (leb (room full) (length table) && leb (room full) (length other)) ≡ false =
    fails (leb (room full) (length table) && leb (room full) (length other))
    (λ t.
    let a = leb-true (room full) (length table) (and_left (leb (room full) (length table)) (leb (room full) (length other)) t) in
    let b = leb-true (room full) (length other) (and_right (leb (room full) (length table)) (leb (room full) (length other)) t) in
    ⊎_elim (λ (l : length table < room full). omega arith) (λ (l : length other < room full). omega arith) h) in
    rw (f, whole_typed)

-- a refused request: its number and its detail, and both tables as they came
pub refused : (sheet second line : List ℕ) (number detail : ℕ) → read_typed sheet second line ≡ faulty number detail
    → (words table other : List ℕ) → room full ≤ length table → room full ≤ length other
    → ◌≡◌ {A = Whole} (whole_typed sheet second line words table other)
    (record { answer = refusal number detail; first = table; second = other })
unfolding whole_typed whole_asked
refused sheet second line number detail e words table other a b =
    let t : (leb (room full) (length table) && leb (room full) (length other)) ≡ true =
    and_of (le-leb (room full) (length table) a) (le-leb (room full) (length other) b) in
    rw (t, whole_typed) (ap (λ r. whole_asked full r words table other) e)

-- and the route check of it
pub told : (sheet second line : List ℕ) (number detail : ℕ) → read_typed sheet second line ≡ faulty number detail
    → ◌≡◌ {A = Checked} (check_typed sheet second line) (record { number = number; detail = detail })
unfolding check_typed check_asked
told sheet second line number detail e = ap check_asked e
