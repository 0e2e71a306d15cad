-- `write::bits::Writer::put_in_byte` meets its contract: the bits go behind those of the byte at the place.
use mathlib.Core.Path.{◌≡◌, refl, sym, ◌∙◌, ap, subst}
use mathlib.Core.List.{◌++◌}
use Prim.Native.Nat.{ℕ, ◌+◌, ◌*◌, ◌/◌, ◌%◌, ◌^◌, ◌<◌}
use native.Mathlib.Omega.{arith}
use lib.ListN.{get_or, set}
use lib.Bits.{bit_or}
use Rattle.plan.specs.Write.{marks_of}
use Rattle.write.specs.Puts.{Holds}
use Rattle.write.proofs.OctetLaws.{byte_more}
use Rattle.write.proofs.PutsLaws.{holds-room, holds_more}
use Rattle.write.proofs.bits.Writer.put_in_byte.Goals as goal
use Rattle.write.proofs.bits.Writer.put_in_byte.Goals.{After-from-held}

-- what is put there
more : (c : After-from-held)
    → let a = c.args in
    let held = get_or a.self.now.sheet (a.self.now.at / 8) 0 in
    (bit_or ((c.from-held.result * 2 ^ a.some) % 2 ^ 64) a.bits ≡ held * 2 ^ a.some + a.bits) × (held * 2 ^ a.some + a.bits < 2 ^ 8)
more c =
    let a = c.args in
    let w = a.self.now in
    let o = c.requires.0 in
    let room = holds-room o.bits w o.holds (omega (arith, o.room, c.requires.1)) in
    let m = byte_more (get_or w.sheet (w.at / 8) 0) (w.at % 8) a.some a.bits room c.requires.2 c.requires.3 in
    (ap (λ x. bit_or ((x * 2 ^ a.some) % 2 ^ 64) a.bits) c.from-held.ensures ∙ m.0, m.1)

pub overflow_cast-self : goal.overflow_cast-self
overflow_cast-self c = let m = more (goal.at.overflow_cast-self c).After-from-held in omega (arith, m.0, m.1)

pub returns : goal.returns
returns c =
    let a = c.args in
    let w = a.self.now in
    let o = c.requires.0 in (
      refl,
      λ bits h. subst (λ (x : ℕ). Holds (bits ++ marks_of a.some a.bits) (record { sheet = set w.sheet (w.at / 8) x; at = w.at + a.some }))
          (sym (more (goal.at.returns c).After-from-held).0)
          (holds_more bits w a.some a.bits c.requires.3 c.requires.2 h (omega (arith, o.room, c.requires.1))),
    )
