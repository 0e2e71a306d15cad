-- The look-ups that the route check leaves open are those never answerable.
use mathlib.Core.Path.{◌≡◌, sym, ◌∙◌, ap}
use mathlib.Core.Bool.{not}
use mathlib.Core.List.{[]}
use Prim.Native.Nat.{ℕ}
use native.Mathlib.Omega.{arith}
use lib.ListN.{length}
use lib.Dec.{eqb}
use Rattle.plan.specs.Lists.{Sub, has, numbers, bits_where, in_set, set_of}
use Rattle.plan.specs.Route.{lookups}
use Rattle.plan.specs.Grow.{usable, picks, calls, chain}
use Rattle.plan.specs.Answer.{answered_from, never_answerable}
use Rattle.plan.specs.Demands.{size}
use Rattle.plan.proofs.Words.{Lawful}
use Rattle.plan.proofs.Numbers.{in_numbers}
use Rattle.plan.proofs.Sets.{set-has}
use Rattle.plan.proofs.Greedy.{answered-lookups}
use Rattle.plan.proofs.Routes.{bits_agree, has_same, never-same}
use Rattle.plan.proofs.Outcomes.{calls_lawful}
use Rattle.plan.proofs.Demands.{request-sound}
use Rattle.plan.proofs.Check.{same-routes}
use Rattle.sheet.specs.Fields.{sheet_held}
use Rattle.sheet.specs.Fine.{Small}
use Rattle.sheet.specs.declared.Fields.{Fields}
use Rattle.choose.specs.Held.{route_request, no_charge}
use Rattle.choose.proofs.HeldLaws.{tells-held}
use Rattle.choose.proofs.SheetLaws.{free_lawful}

module _ (f : Fields) (small : Small f) where
  route_lawful : Lawful (usable (route_request f)) (calls (route_request f)) (picks (route_request f)) (length (route_request f).goals)
  unfolding size
  route_lawful = calls_lawful (route_request f) (request-sound (sheet_held f) [])

  -- the bits that the code counts
  pub never-bits : (answered bits : ℕ) → answered ≡ set_of (answered_from [] (chain no_charge (route_request f)))
      → bits ≡ bits_where (λ i. not (in_set answered i)) (numbers 0 f.lookups)
      → bits ≡ never_answerable calls (route_request f)
  unfolding Sub never_answerable
  never-bits answered bits a b =
      let q = route_request f in
      let p = chain no_charge q in
      let X = answered_from [] p in
      let same = same-routes (sheet_held f) [] [] in
      b
      ∙ ap (λ m. bits_where (λ i. not (in_set m i)) (numbers 0 f.lookups)) a
      ∙ bits_agree (λ i. not (in_set (set_of X) i)) (λ i. not (has eqb i (lookups p))) (numbers 0 f.lookups)
      (λ i k.
      let low = in_numbers 0 f.lookups i k in
      ap not
      (set-has X i (omega (arith, small.lookups-high))
      ∙ has_same i X (lookups p) (λ v h. (answered-lookups p v).0 h) (λ v h. (answered-lookups p v).1 h)))
      ∙ ap (λ n. bits_where (λ i. not (has eqb i (lookups p))) (numbers 0 n)) (sym (tells-held f small []).size)
      ∙ never-same q q same same no_charge calls (free_lawful q) route_lawful
