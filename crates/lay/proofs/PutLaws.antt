-- Laws of items put into a lent buffer: nothing, one more behind them, others behind them, and the buffer's length; those
-- that are copied to a part of it, and those of each number below n.
use mathlib.Core.Path.{◌≡◌, refl, sym, ap, ap₂, subst, ◌∙◌}
use mathlib.Core.List.{List, [], ◌∷◌, ◌++◌, append_assoc}
use Prim.Native.Nat.{ℕ, zero, suc, ◌+◌, ◌-◌, ◌≤◌, ◌<◌}
use native.Mathlib.Omega.{arith}
use native.Mathlib.Numerals.{add-one}
use lib.ListN.{length, take, drop, set, length-append, length-drop, take-append-drop}
use lib.Seq.{length-take-le, take_at, drop_at, drop-drop, set_split}
use borrow.Rule.Slice.PartMut.{put_mid}
use Rattle.lay.specs.Put.{laid, Put, joined}

-- the front and the items are as long as the place behind them says
front_long : (out : List ℕ) (at : ℕ) (s : List ℕ) → at ≤ length out → length (take at out ++ s) ≡ at + length s
front_long out at s h = length-append (take at out) s ∙ ap (λ n. n + length s) (length-take-le at out h)

-- what stands before and with the items
laid_front : (out : List ℕ) (at : ℕ) (s : List ℕ) → laid out at s ≡ (take at out ++ s) ++ drop (at + length s) out
unfolding laid
laid_front out at s = sym (append_assoc (take at out) s (drop (at + length s) out))

-- the buffer's length stays
pub length-laid : (out : List ℕ) (at : ℕ) (s : List ℕ) → at + length s ≤ length out
    → length (laid out at s) ≡ length out
length-laid out at s h =
    let l : at ≤ length out = omega arith in
    ap length (laid_front out at s)
    ∙ length-append (take at out ++ s) (drop (at + length s) out)
    ∙ (omega (arith, front_long out at s l, length-drop (at + length s) out))

-- other items behind the items
laid_then : (out : List ℕ) (at : ℕ) (s t : List ℕ) → at ≤ length out
    → laid (laid out at s) (at + length s) t ≡ laid out at (s ++ t)
unfolding laid
laid_then out at s t h =
    ap₂ (λ u v. u ++ (t ++ v)) front rest ∙ append_assoc (take at out) s (t ++ drop (at + length (s ++ t)) out)
    ∙ ap (λ u. take at out ++ u) (sym (append_assoc s t (drop (at + length (s ++ t)) out)))
  where
    long : length (take at out ++ s) ≡ at + length s
    long = front_long out at s h

    front : take (at + length s) (laid out at s) ≡ take at out ++ s
    front = ap (take (at + length s)) (laid_front out at s) ∙ take_at (take at out ++ s) _ (at + length s) long

    rest : drop (at + length s + length t) (laid out at s) ≡ drop (at + length (s ++ t)) out
    rest =
        let e : at + length s + length t ≡ at + length (s ++ t) = omega (arith, length-append s t) in
        sym (drop-drop (length t) (at + length s) (laid out at s))
        ∙ ap (λ u. drop (length t) (drop (at + length s) u)) (laid_front out at s)
        ∙ ap (drop (length t)) (drop_at (take at out ++ s) (drop (at + length s) out) (at + length s) long)
        ∙ drop-drop (length t) (at + length s) out
        ∙ ap (λ n. drop n out) e

-- one item
laid_one : (out : List ℕ) (at x : ℕ) → at < length out → set out at x ≡ laid out at (x ∷ [])
unfolding laid
laid_one out at x h = set_split out at x h ∙ ap (λ n. take at out ++ (x ∷ drop n out)) (sym (add-one at))

-- nothing
laid_none : (out : List ℕ) (at : ℕ) → out ≡ laid out at []
unfolding laid
laid_none out at =
    sym (ap (λ n. take at out ++ drop n out) (let e : at + 0 ≡ at = omega arith in e) ∙ take-append-drop at out)

-- nothing is put there yet
pub put_none : (out : List ℕ) (at : ℕ) → Put out at [] out at
put_none out at = record { ends = omega arith; holds = laid_none out at }

-- one item
pub put_one : (out : List ℕ) (at x : ℕ) → at < length out → Put out at (x ∷ []) (set out at x) (at + 1)
put_one out at x h = record { ends = refl; holds = laid_one out at x h }

-- the items, and others behind them
pub put_then : {a b c : List ℕ} {at m n : ℕ} {s t : List ℕ} → at ≤ length a → Put a at s b m → Put b m t c n
    → Put a at (s ++ t) c n
put_then {a} {b} {c} {at} {m} {n} {s} {t} h p q =
    record {
      ends = q.ends ∙ ap (λ k. k + length t) p.ends ∙ (omega (arith, length-append s t));
      holds = q.holds ∙ ap₂ (λ u k. laid u k t) p.holds p.ends ∙ laid_then a at s t h;
    }

-- the buffer's length stays
pub put-length : {a b : List ℕ} {at n : ℕ} {s : List ℕ} → Put a at s b n → n ≤ length a → length b ≡ length a
put-length {a} {b} {at} {n} {s} p h = ap length p.holds ∙ length-laid a at s (omega (arith, p.ends))

-- the items, and one more behind them
pub put-more : {a b : List ℕ} {at n : ℕ} {s : List ℕ} (x : ℕ) → n < length a → Put a at s b n
    → Put a at (s ++ (x ∷ [])) (set b n x) (n + 1)
put-more {a} {b} {at} {n} {s} x h p =
    put_then (omega (arith, p.ends)) p (put_one b n x (omega (arith, put-length p (omega arith))))

-- the same items under another name
pub put_as : {a b : List ℕ} {at n : ℕ} {s : List ℕ} (t : List ℕ) → s ≡ t → Put a at s b n → Put a at t b n
put_as {a} {b} {at} {n} {s} t e p =
    record { ends = p.ends ∙ ap (λ u. at + length u) e; holds = p.holds ∙ ap (laid a at) e }

-- what stands at the start of the buffer is what was put there
pub put_front : {out out' s : List ℕ} {n : ℕ} → Put out 0 s out' n → take n out' ≡ s
unfolding laid
put_front {out} {out'} {s} {n} p =
    let e : n ≡ length s = omega (arith, p.ends) in
    ap (take n) p.holds ∙ take_at s (drop (0 + length s) out) n (sym e)

-- the same place by another name
pub put_to : {a b s : List ℕ} {at n : ℕ} (m : ℕ) → n ≡ m → Put a at s b n → Put a at s b m
put_to m e p = record { ends = sym e ∙ p.ends; holds = p.holds }

-- items copied into a part of the buffer that is as long as they are
pub put_copied : {A : Type 0} (out : List A) (at end : ℕ) (items copied : List A) → copied ≡ items → end ≡ at + length items
    → Put out at items (put_mid at (end - at) out copied) end
unfolding laid
put_copied {A} out at end items copied same e =
    let k : end - at ≡ length items = omega arith in
    record {
      ends = e;
      holds = ap₂ (λ xs n. take at out ++ (xs ++ drop n (drop at out))) same k
          ∙ ap (λ xs. take at out ++ (items ++ xs)) (drop-drop (length items) at out);
    }

-- those that stand there from a place to another, and the place behind them, by their numbers
pub put_part : {A : Type 0} (out : List A) (from till at next : ℕ) (items copied : List A) → copied ≡ items → from ≡ at
    → till ≡ at + length items → next ≡ till → Put out at items (put_mid from (till - from) out copied) next
put_part {A} out from till at next items copied same f t n =
    subst (λ (i : ℕ). Put out i items (put_mid from (till - from) out copied) next) f
    (subst (λ (k : ℕ). Put out from items (put_mid from (till - from) out copied) k) (sym n)
    (put_copied out from till items copied same (omega (arith, f, t))))

-- items copied to the start of the buffer
pub put_start : (out items copied : List ℕ) (end : ℕ) → copied ≡ items → end ≡ length items
    → Put out 0 items (copied ++ drop end out) end
unfolding laid
put_start out items copied end same e =
    let k : end ≡ 0 + length items = omega arith in
    record { ends = k; holds = ap₂ (λ xs n. xs ++ drop n out) same k }

-- the items of one number more
pub joined-more : (items : ℕ → List ℕ) (n : ℕ) → joined items (n + 1) ≡ joined items n ++ items n
unfolding joined
joined-more items n = ap (joined items) (add-one n)

-- those of no number are put yet
pub joined_none : (items : ℕ → List ℕ) (out : List ℕ) (at : ℕ) → Put out at (joined items 0) out at
unfolding joined
joined_none items out at = put_none out at

-- those of one number more are put behind those that are
pub joined_then : (items : ℕ → List ℕ) {a b c : List ℕ} {at m k n : ℕ} → at ≤ length a → Put a at (joined items n) b m
    → Put b m (items n) c k → Put a at (joined items (n + 1)) c k
joined_then items {a} {b} {c} {at} {m} {k} {n} h p q =
    put_as (joined items (n + 1)) (sym (joined-more items n)) (put_then h p q)

-- those of as many numbers as there are
pub joined-all : (items : ℕ → List ℕ) {a b : List ℕ} {at m : ℕ} (n k : ℕ) → n ≡ k → Put a at (joined items n) b m
    → Put a at (joined items k) b m
joined-all items n k e p = put_as (joined items k) (ap (joined items) e) p

-- items that agree, one behind the other
pub joined_same : (f g : ℕ → List ℕ) (n : ℕ) → ((i : ℕ) → i < n → f i ≡ g i) → joined f n ≡ joined g n
unfolding joined
joined_same f g zero e = refl
joined_same f g (suc n) e =
    ap (λ l. l ++ f n) (joined_same f g n (λ i h. e i (omega arith))) ∙ ap (λ l. joined g n ++ l) (e n (omega arith))
