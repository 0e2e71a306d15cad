-- `ebbcandle::words::put_words` meets its contract. The invariant: the words of the first i fours are put.
use mathlib.Core.List.{map}
use lib.ListN.{take}
use Rattle.lay.specs.Put.{Put}
use Rattle.ebbcandle.specs.Words.{word_of}
use Rattle.ebbcandle.proofs.words.put_words.Given as goal

abbrev pub invariant-loop-i : goal.invariant-loop-i
invariant-loop-i l =
    Put l.initial.out 0 (map word_of (take l.i l.fours)) l.out l.i
