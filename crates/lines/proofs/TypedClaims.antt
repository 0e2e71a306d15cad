-- What is claimed of typed requests, put together.
use Rattle.plan.specs.Typed.{TypedClaims}
use Rattle.lines.proofs.TypedWalk.{typed_unnamed}
use Rattle.lines.proofs.TypedSheet.{typed_same, typed_answers, read-got, read-bad}
use Rattle.lines.proofs.FirstFaulty.{first-faulty}
use Rattle.lines.proofs.LineBack.{back, once}
use Rattle.lines.proofs.LineForth.{forth}
use Rattle.lines.proofs.Covered.{covers, longest, letters, digits, alone}
use Rattle.lines.proofs.Parts.{places, part, partless}
use Rattle.lines.proofs.SheetLines.{sheet-typable, sheet-again}
use Rattle.lines.proofs.Refused.{short, refused, told}

-- a line reads as the request that it is written for, and as no other; the request is what a sheet says, and is answered as
-- that sheet; a line that is refused is so at its first faulty token, and the part is its name; what a sheet says can be typed
pub typed_claims : TypedClaims
typed_claims =
    record {
      back = back;
      forth = forth;
      once = once;
      same = typed_same;
      answers = typed_answers;
      first = first-faulty;
      own = read-bad;
      named = read-got;
      unnamed = typed_unnamed;
      covers = covers;
      longest = longest;
      letters = letters;
      digits = digits;
      alone = alone;
      places = places;
      part = part;
      partless = partless;
      typable = sheet-typable;
      sheets = sheet-again;
      short = short;
      refused = refused;
      told = told;
    }
