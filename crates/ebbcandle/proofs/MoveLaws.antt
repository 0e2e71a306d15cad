-- Laws of reading and writing: how far one call more comes, that the calls come to an end, and how many bytes moved then.
use mathlib.Core.Path.{◌≡◌, refl, ap}
use Prim.Native.Nat.{ℕ, zero, suc, ◌+◌, ◌-◌, ◌≤◌, ◌<◌}
use native.Mathlib.Omega.{arith}
use Rattle.std.specs.Prelude.{Result, Ok, Err}
use Rattle.std.specs.Result.{result_unwrap_or}
use Rattle.std.specs.declared.io.Error.{Error}
use Rattle.ebbcandle.specs.Moving.{Moved, MovedSome, after_move, Came, Kept}

-- what a call moved, as the code counts it
pub after_count : (done : ℕ) (moved : Result ℕ Error) → record { done = done + result_unwrap_or moved 0; last = moved } ≡ after_move done moved
unfolding after_move
after_count done (Ok more) = refl
after_count done (Err e) =
    let same : done + 0 ≡ done = omega arith in
    ap (λ (n : ℕ). record { done = n; last = Err e }) same

-- how far it came between two calls: up to there, and not to the end where the last one moved nothing
abbrev pub Coming : ℕ → ℕ → Result ℕ Error → Type 0
Coming size done (Ok (suc more)) = done ≤ size
Coming size done (Ok zero) = done < size
Coming size done (Err e) = done < size

-- with one call more it is that again
pub coming_after : (size done : ℕ) (moved : Result ℕ Error) → done < size → Moved (size - done) moved
    → Coming size (after_move done moved).done (after_move done moved).last
unfolding after_move
coming_after size done (Ok zero) h m = omega arith
coming_after size done (Ok (suc k)) h m = omega arith
coming_after size done (Err e) h m = h

-- up to there, at most
pub coming_fits : (size done : ℕ) (last : Result ℕ Error) → Coming size done last → done ≤ size
coming_fits size done (Ok zero) c = omega arith
coming_fits size done (Ok (suc k)) c = c
coming_fits size done (Err e) c = omega arith

-- the calls end where one moved nothing
pub came_ended : (size done : ℕ) (last : Result ℕ Error) → (MovedSome last → ⊥) → Coming size done last → Came size done last
unfolding Came
came_ended size done (Ok zero) none c = c
came_ended size done (Ok (suc n)) none c = absurd (none (omega arith))
came_ended size done (Err e) none c = c

-- or where all were moved
pub came-whole : (size done : ℕ) (last : Result ℕ Error) → MovedSome last → size ≤ done → Coming size done last
    → Came size done last
unfolding Came
came-whole size done (Ok zero) some h c = absurd (let z : ⊥ = omega arith in z)
came-whole size done (Ok (suc n)) some h c = omega arith
came-whole size done (Err e) some h c = absurd (let z : ⊥ = omega arith in z)

-- what was read is kept where no read failed
pub kept_read : (room done more : ℕ) → Came room done (Ok more) → Kept room done (Ok more)
unfolding Kept
kept_read room done more c = c

-- and nothing where one failed
pub kept_failed : (room : ℕ) (e : Error) → Kept room 0 (Err e)
unfolding Kept
kept_failed room e = refl

-- the calls that may still be made, by the bytes that are left and the last answer
abbrev pub turns : ℕ → Result ℕ Error → ℕ
turns left (Ok zero) = 0
turns left (Ok (suc k)) = suc left
turns left (Err e) = 0

-- each call leaves fewer to be made
pub turns_less : (size done : ℕ) (last moved : Result ℕ Error) → MovedSome last → done < size → Moved (size - done) moved
    → turns (size - (after_move done moved).done) (after_move done moved).last < turns (size - done) last
unfolding after_move
turns_less size done (Ok zero) moved some h m = absurd (let z : ⊥ = omega arith in z)
turns_less size done (Err e) moved some h m = absurd (let z : ⊥ = omega arith in z)
turns_less size done (Ok (suc n)) (Ok zero) some h m = omega arith
turns_less size done (Ok (suc n)) (Ok (suc k)) some h m = omega arith
turns_less size done (Ok (suc n)) (Err e) some h m = omega arith
