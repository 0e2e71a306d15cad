use Rattle.std.proofs.Common.{rules, ◌≡◌, ap, ◌∙◌, [], ◌∷◌, ◌++◌, map, take, get_or, length, ◌+◌, ◌/◌, arith}
use lib.Seq.{take_all}
use Rattle.lay.proofs.PutLaws.{put_none, put-more, put_as, put_to}
use Rattle.ebbcandle.specs.Words.{word_of, words_of}
use Rattle.ebbcandle.proofs.WordLaws.{word_is, words_more, fours_are}
use Rattle.ebbcandle.proofs.words.put_words.Goals as goal

pub loop-i-init : goal.loop-i-init
loop-i-init c = put_none c.args.out.now 0

pub loop-i-preserved : goal.loop-i-preserved
loop-i-preserved c =
    let l = c.loop-i in
    let fours = c.as_chunks.result.0.now in
    let w = c.from_be_bytes.result in
    let is : w ≡ word_of (get_or fours l.i []) = search (rules, word_is) in
    put_as
    (map word_of (take (l.i + 1) fours))
    (ap (λ x. map word_of (take l.i fours) ++ (x ∷ [])) is ∙ words_more fours l.i (omega arith))
    (put-more w (omega arith) l.invariant)

pub returns-clause-put : goal.returns-clause-put
unfolding words_of
returns-clause-put c =
    let l = c.loop-i in
    let fours = c.as_chunks.result.0.now in
    let ended : l.i ≡ length fours = omega arith in
    let all = take_all l.i fours (omega arith) in
    put_to (length fours) ended
    (put_as
    (words_of c.args.bytes.now)
    (ap (map word_of) (all ∙ c.as_chunks.ensures.front ∙ fours_are (length c.args.bytes.now / 4) c.args.bytes.now))
    l.invariant)
