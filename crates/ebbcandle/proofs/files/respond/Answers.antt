-- `ebbcandle::files::respond` meets its contract: an answer is small, and what is printed of it and of the first table
-- is what is printed for the two files, and for any two that begin so.
use Rattle.std.proofs.Common.{rules, arith, ◌≡◌, ap, ◌∙◌, take}
use Rattle.std.specs.Prelude.{MatchResult}
use Rattle.plan.specs.Sheet.{read_sheet}
use Rattle.ebbcandle.specs.Files.{variables_of, printed_files}
use Rattle.ebbcandle.proofs.FileLaws.{few-back, variables-read, variables-few, printed_files_lem}
use Rattle.ebbcandle.proofs.CutLaws.{cut_changes_nothing}
use Rattle.ebbcandle.proofs.files.respond.Goals as goal
use Rattle.ebbcandle.proofs.files.respond.Goals.{After-map_or-variables}

-- the number of variables is that of the sheet
variables_is : (c : After-map_or-variables) → c.map_or-variables.result ≡ variables_of (read_sheet c.args.sheet.now)
variables_is c =
    let n = c.map_or-variables.result in
    let given : MatchResult c.read_sheet.result (λ g. n ≡ g.value.variables) (λ e. n ≡ 0) = search rules in
    variables-read c.args.sheet.now c.read_sheet.result n c.read_sheet.ensures given

pub answer-requires-clause-few : goal.answer-requires-clause-few
answer-requires-clause-few c =
    let a = c.args in
    let few = few-back _ _ a.sheet.now a.bytes.now _ c.answer_files-answer.ensures in
    let v = variables_is (goal.at.answer-requires-clause-few c).After-map_or-variables in
    (few.made, few.rows, omega (arith, v, variables-few a.sheet.now))

pub returns-clause-put : goal.returns-clause-put
returns-clause-put c =
    let v = variables_is (goal.at.returns-clause-put c).After-map_or-variables in
    c.answer.ensures
    ∙ printed_files_lem c.args.sheet.now c.args.bytes.now _ _ _ _ c.answer_files-answer.ensures v

pub returns-clause-by_index : goal.returns-clause-by_index
returns-clause-by_index c = λ sheetFile dataFile e d.
    returns-clause-put c
    ∙ ap (λ x. printed_files x c.args.bytes.now) e
    ∙ ap (printed_files (take 194 sheetFile)) d
    ∙ cut_changes_nothing sheetFile dataFile
