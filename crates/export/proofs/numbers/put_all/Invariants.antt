-- `export::numbers::put_all` meets its contract. The invariant: the numbers of the entries before this one are put.
use Rattle.std.proofs.Common.{◌≡◌, ◌+◌, ◌*◌, take}
use Rattle.std.specs.List.{flat_map}
use Rattle.lay.specs.Put.{Put}
use Rattle.export.proofs.numbers.put_all.Given as goal

abbrev pub invariant-loop-entry : goal.invariant-loop-entry
invariant-loop-entry g l = record {
  next_is : l.next ≡ l.at + l.entry-index * g.T.Numbers.width;
  put : Put l.initial.out l.at (flat_map g.T.Numbers.numbers (take l.entry-index l.entries)) l.out l.next;
}
