-- `write::put_sheet` meets its contract: the header, the registers, what is given and asked, and the padding, one behind the
-- other.
use mathlib.Core.Path.{◌≡◌, sym, ◌∙◌, ap, ap₂}
use mathlib.Core.List.{List, [], ◌∷◌, ◌++◌, map, append_assoc}
use native.Mathlib.Omega.{arith}
use Rattle.plan.specs.Lists.{numbers}
use Rattle.plan.specs.Sheet.{used, to_full_byte}
use Rattle.plan.specs.Write.{Item, padding, header_items, register_items, given_items, look_up_items, unused_items, all_items, sheet_items, written}
use Rattle.sheet.specs.declared.Fields.{Fields}
use Rattle.write.specs.declared.bits.Writer.{Writer}
use Rattle.write.specs.Said.{register_at, sheet_said, asked_items}
use Rattle.write.proofs.SaidLaws.{said-registers, said-look_ups}
use Rattle.write.proofs.PutsLaws.{Come, open_less, open_on, puts_told, come_none, come_as, come_on, come_stop, come_goes}
use Rattle.write.proofs.ClosingLaws.{padding_goes}
use Rattle.write.proofs.put_sheet.Goals as goal

-- the items of the header, and of the registers
abbrev header_of : Fields → List Item
header_of f = header_items f.registers f.variables f.lookups

abbrev registers_of : Fields → List Item
registers_of f = all_items register_items (map (register_at f.register) (numbers 0 f.registers))

-- the sheet's items by the stages
items_are : (f : Fields)
    → sheet_items (sheet_said f) ≡ header_of f ++ (registers_of f ++ (asked_items f ++ (padding ∷ [])))
unfolding sheet_items sheet_said
items_are f =
    let s = sheet_said f in
    let g = given_items f.variables s.given s.values in
    let u = unused_items f.variables (used s.given s.look_ups) in
    let l = all_items (look_up_items f.registers f.variables) s.look_ups in
    let p : List Item = padding ∷ [] in
    ap₂
    (λ r n. header_items r f.variables n
    ++ (registers_of f ++ (g ++ (all_items (look_up_items r f.variables) s.look_ups ++ (u ++ p)))))
    (said-registers f) (said-look_ups f)
    ∙ ap (λ is. header_items f.registers f.variables f.lookups ++ (registers_of f ++ is))
    (sym (append_assoc g (l ++ u) p ∙ ap (λ is. g ++ is) (append_assoc l u p)))

-- at the start
opened : (f : Fields) (before : Writer)
    → Come (written (sheet_items (sheet_said f)) before.at)
    (written (header_of f ++ (registers_of f ++ (asked_items f ++ (padding ∷ [])))) before.at) before before
opened f before = come_as (ap (λ is. written is before.at) (items_are f)) (come_none _ before)

pub put_header-requires : goal.put_header-requires
put_header-requires c = open_less _ 15 (omega arith) c.requires

pub returns-in_err-put_header-clause-puts : goal.returns-in_err-put_header-clause-puts
returns-in_err-put_header-clause-puts c =
    puts_told _ _ _ _ _ c.from_residual.ensures.1
    (come_stop (header_of c.args.f.now) _ (opened c.args.f.now c.args.writer.now) c.in_err-put_header.ensures.puts)

pub put_registers-requires : goal.put_registers-requires
put_registers-requires c =
    let h = c.in_ok-put_header.ensures in
    (open_on _ _ c.requires h.puts (omega (arith, c.requires.room, h.counts.0)), h.counts.1)

pub returns-in_err-put_registers-clause-puts : goal.returns-in_err-put_registers-clause-puts
returns-in_err-put_registers-clause-puts c =
    let s = come_on (header_of c.args.f.now) _ (opened c.args.f.now c.args.writer.now) c.in_ok-put_header.ensures.puts in
    puts_told _ _ _ _ _ c.from_residual-in_err-put_registers.ensures.1
    (come_stop (registers_of c.args.f.now) _ s c.in_err-put_registers.ensures.puts)

pub put_asked-requires : goal.put_asked-requires
put_asked-requires c =
    let h = c.in_ok-put_header.ensures in
    let r = c.in_ok-put_registers.ensures in
    let o = open_on _ 1529 c.requires h.puts (omega (arith, c.requires.room, h.counts.0)) in
    record {
      few = (open_on _ _ o r.puts (omega (arith, o.room, r.at_most)), h.counts.1, h.counts.2, h.counts.3);
      narrow = r.narrow;
    }

pub returns-in_err-put_asked-clause-puts : goal.returns-in_err-put_asked-clause-puts
returns-in_err-put_asked-clause-puts c =
    let s = come_on (header_of c.args.f.now) _ (opened c.args.f.now c.args.writer.now) c.in_ok-put_header.ensures.puts in
    let t = come_on (registers_of c.args.f.now) _ s c.in_ok-put_registers.ensures.puts in
    puts_told _ _ _ _ _ c.from_residual-in_err-put_asked.ensures.1
    (come_stop (asked_items c.args.f.now) _ t c.in_err-put_asked.ensures.puts)

pub put_bits-requires : goal.put_bits-requires
put_bits-requires c =
    let h = c.in_ok-put_header.ensures in
    let r = c.in_ok-put_registers.ensures in
    let a = c.in_ok-put_asked.ensures in
    let o = open_on _ 1529 c.requires h.puts (omega (arith, c.requires.room, h.counts.0)) in
    let p = open_on _ 869 o r.puts (omega (arith, o.room, r.at_most)) in
    (open_on _ _ p a.puts (omega (arith, c.requires.room, h.counts.0, r.at_most, a.at_most)), omega arith)

pub returns : goal.returns
unfolding to_full_byte
returns c =
    let s = come_on (header_of c.args.f.now) _ (opened c.args.f.now c.args.writer.now) c.in_ok-put_header.ensures.puts in
    let t = come_on (registers_of c.args.f.now) _ s c.in_ok-put_registers.ensures.puts in
    let u = come_on (asked_items c.args.f.now) _ t c.in_ok-put_asked.ensures.puts in
    let p = c.put_bits.ensures in
    record {
      puts = come_goes u (padding_goes c.put_asked.new.writer c.put_bits.new.self p.0 p.1);
      at_most = omega (
        arith,
        c.requires.room,
        p.0,
        c.in_ok-put_header.ensures.counts.0,
        c.in_ok-put_registers.ensures.at_most,
        c.in_ok-put_asked.ensures.at_most,
      );
    }
