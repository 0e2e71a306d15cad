-- `apart::kept_bytes` meets its contract: the bytes stand in front of zeros.
use mathlib.Core.Path.{◌≡◌, ◌∙◌, ap}
use mathlib.Core.List.{List, ◌++◌}
use Prim.Native.Nat.{ℕ}
use lib.ListN.{length, drop, replicate}
use Rattle.std.proofs.lemmas.List.{drop-replicate}
use Rattle.plan.specs.Lists.{padded}
use Rattle.apart.proofs.kept_bytes.Goals as goal

front : (new sheet : List ℕ) → new ≡ sheet → new ++ drop (length sheet) (replicate {A = ℕ} 193 0) ≡ padded 193 0 sheet
unfolding padded
front new sheet e =
    ap (λ (x : List ℕ). x ++ drop (length sheet) (replicate {A = ℕ} 193 0)) e
    ∙ ap (λ (x : List ℕ). sheet ++ x) (drop-replicate (length sheet) 193 0)

pub returns : goal.returns
returns c = front c.copy_from_slice.new.self c.args.sheet.now c.copy_from_slice.ensures.after
