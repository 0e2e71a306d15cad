-- `sheet::bits::Reader::field` meets its contract: the bits are passed by, and make the number.
use mathlib.Core.Path.{sym, ◌∙◌, ap}
use Rattle.plan.specs.Reader.{got, bits_at, field}
use Rattle.plan.proofs.Readers.{hold_go}
use Rattle.sheet.proofs.Readers.{hold_other}
use Rattle.sheet.proofs.ReadsLaws.{handed, goes-hold}
use Rattle.sheet.proofs.bits.Reader.field.Goals as goal

pub returns-in_err-place : goal.returns-in_err-place
unfolding field
returns-in_err-place c =
    let a = c.args in
    let s = c.in_err-place.ensures in
    handed _ _ _ _ _ _ c.from_residual.ensures.1
    (record {
      fault = s.fault;
      detail = s.detail;
      is = hold_other a.width (λ bytes at. at) (λ bytes at. bits_at bytes at a.width) _ _ s.fault s.detail s.is;
      shown = s.shown;
    })

pub bits-requires : goal.bits-requires
bits-requires c =
    let g = c.in_ok-place.ensures in
    let h = goes-hold c.args.width g in
    (rw (h.place_lem, g.sheet) h.room, rw h.place_lem c.requires.0, c.requires.1)

pub returns : goal.returns
unfolding field
returns c =
    let a = c.args in
    let g = c.in_ok-place.ensures in
    let h = goes-hold a.width g in
    record {
      read = bits_at a.self.now.sheet.now a.self.now.at a.width;
      is = hold_go a.width (λ bytes at. bits_at bytes at a.width) _ _ h.room ∙ ap (got (bits_at a.self.now.sheet.now a.self.now.at a.width)) (sym h.next);
      shown = rw (c.bits.ensures, h.place_lem, g.sheet);
      sheet = g.sheet;
    }
