-- Laws of the bytes that are read and written: those of one call more stand behind those before it.
use Rattle.std.proofs.Common.{◌≡◌, ℕ, ◌+◌, zero, suc, ◌-◌, ◌≤◌, ◌<◌, arith, List, ◌++◌, length, take, drop, Option, None, Some, IfSome, Result, Ok, Err, OnOk, refl, sym, ap, ◌∙◌, subst, append-nil, le_refl, drop_at, length-take-le}
use Rattle.std.proofs.lemmas.Slice.{take-put_mid_below}
use Rattle.std.proofs.KnownBytes.{Consumes-trans, Consumes-kept, Appends-trans, Appends-kept}
use Rattle.std.specs.Io.{ReadsAtMost}
use Rattle.std.specs.Io.KnownBytes.{Consumes, ReadConsumes, Appends, WriteAppends, IsAtEnd}
use Rattle.std.specs.declared.io.Error.{Error}
use Rattle.ebbcandle.specs.Moving.{Moved, after_move, Came}
use borrow.Rule.Slice.PartMut.{put_mid, post_of}
use lib.Seq.{take-add, take-append-le, take-append_seam, take-take, take_all}

module _ (a b c : Option (List ℕ)) where
  -- what a file gave before, and what one read more put behind it
  pub consumed_more : (out buf : List ℕ) (done : ℕ) (got : Result ℕ Error) → done ≤ length out → ReadsAtMost got buf
      → Consumes a b (take done out) → ReadConsumes b c got buf
      → Consumes a c (take (after_move done got).done (put_mid done (length out - done) out buf))
  unfolding after_move
  consumed_more out buf done (Ok n) within fits before read =
      let room = length out - done in
      let whole = put_mid done room out buf in
      let front : take done whole ≡ take done out = take-put_mid_below done room out buf done (le_refl done) within in
      let behind : take n (drop done whole) ≡ take n buf =
      ap (take n) (drop_at (take done out) (buf ++ post_of done room out) done (length-take-le done out within))
      ∙ take-append-le n buf (post_of done room out) fits.0 in
      let joined : take (done + n) whole ≡ take done out ++ take n buf =
      take-add done n whole ∙ ap (λ l. l ++ take n (drop done whole)) front ∙ ap (λ l. take done out ++ l) behind in
      subst (Consumes a c) (sym joined) (Consumes-trans a b c _ _ before read.0)
  consumed_more out buf done (Err e) within fits before read =
      subst
      (Consumes a c)
      (sym (take-put_mid_below done (length out - done) out buf done (le_refl done) within))
      (Consumes-kept a b c _ before read)

  -- what a writer took before, and what it took in one write more
  pub appended_more : (text : List ℕ) (done : ℕ) (put : Result ℕ Error) → done ≤ length text
      → Moved (length text - done) put → Appends a b (take done text)
      → WriteAppends b c put (take (length text - done) (drop done text)) → Appends a c (take (after_move done put).done text)
  unfolding after_move
  appended_more text done (Ok n) within fits before write =
      let joined : take (done + n) text ≡ take done text ++ take n (take (length text - done) (drop done text)) =
      take-add done n text
      ∙ ap (λ l. take done text ++ l) (sym (take-take n (length text - done) (drop done text) fits)) in
      subst (Appends a c) (sym joined) (Appends-trans a b c _ _ before write)
  appended_more text done (Err e) within fits before write = Appends-kept a b c _ before write

-- a read that gave nothing left nothing
abbrev pub Ended : Result ℕ Error → Option (List ℕ) → Type 0
Ended (Ok zero) b = IsAtEnd b
Ended (Ok (suc n)) b = Unit {0}
Ended (Err e) b = Unit {0}

-- where there was room
pub ended_more : (b c : Option (List ℕ)) (buf : List ℕ) (done : ℕ) (got : Result ℕ Error) → 0 < length buf
    → ReadConsumes b c got buf → Ended (after_move done got).last c
unfolding after_move
ended_more b c buf done (Ok zero) room read = read.1 refl room
ended_more b c buf done (Ok (suc n)) room read = tt
ended_more b c buf done (Err e) room read = tt

-- what was read of known bytes is their start, as much of it as there is room for
pub start_known : (size done : ℕ) (last : Result ℕ Error) (a b : Option (List ℕ)) (kept : List ℕ) → Came size done last
    → length kept ≡ done → Consumes a b kept → Ended last b → OnOk last (IfSome a (λ xs. kept ≡ take size xs))
unfolding Came
start_known size done (Err e) a b kept came long given ended = tt
start_known size done (Ok n) None b kept came long given ended = tt
start_known size done (Ok n) (Some xs) None kept came long given ended = absurd given
start_known size done (Ok zero) (Some xs) (Some ys) kept came long given ended =
    let whole : xs ≡ kept = given ∙ ap (λ l. kept ++ l) ended ∙ append-nil kept in
    subst (λ l. kept ≡ take size l) (sym whole) (sym (take_all size kept (omega arith)))
start_known size done (Ok (suc n)) (Some xs) (Some ys) kept came long given ended =
    let full : length kept ≡ size = long ∙ came in
    subst (λ l. kept ≡ take size l) (sym given) (subst (λ m. kept ≡ take m (kept ++ ys)) full (sym (take-append_seam kept ys)))
