-- `line::which_name` meets its contract: a name is looked for among those of its stage, and no other token is one.
use mathlib.Core.Bool.{true}
use mathlib.Core.List.{map}
use mathlib.Core.Path.{◌≡◌, sym, ap, subst, ◌∙◌}
use Prim.Native.Nat.{◌+◌, ◌-◌, ◌≤◌}
use native.Mathlib.Omega.{arith}
use lib.ListN.{length, take, drop}
use Rattle.plan.specs.Lists.{every}
use Rattle.plan.specs.Tokens.{is_letter, place_of}
use Rattle.plan.specs.Typed.{role, name_at, names_for, which_name}
use Rattle.plan.specs.declared.Token.TheVariants.{Name}
use Rattle.plan.specs.declared.Stage.{Stage}
use Rattle.typed.specs.Names.{name_from}
use Rattle.typed.specs.Notes.{Within}
use Rattle.typed.proofs.Others.{no_name_token, of_variables}
use Rattle.typed.proofs.line.which_name.Goals as goal
use Rattle.typed.proofs.line.which_name.Goals.{In-Name}

-- the name is of the line
inside : (c : In-Name) → c.in-Name.at + c.in-Name.letters ≤ length c.args.line.now
unfolding Within
inside c = (subst (Within c.args.line.now) c.in-Name.is c.requires).0

-- and it is letters
letters : (c : In-Name) → (let k = c.in-Name in every is_letter (take (k.at + k.letters - k.at) (drop k.at c.args.line.now)) ≡ true)
unfolding Within
letters c =
    let k = c.in-Name in
    let bytes : k.at + k.letters - k.at ≡ k.letters = omega arith in
    ap (λ n. every is_letter (take n (drop k.at c.args.line.now))) bytes ∙ (subst (Within c.args.line.now) k.is c.requires).1

pub place_of-requires : goal.place_of-requires
place_of-requires c = letters (goal.at.place_of-requires c).In-Name

pub place_of-requires-in_default-stage : goal.place_of-requires-in_default-stage
place_of-requires-in_default-stage c = letters (goal.at.place_of-requires-in_default-stage c).In-Name

pub returns-in_default : goal.returns-in_default
returns-in_default c =
    let a = c.args in
    no_name_token (map (name_from a.second.now) a.known.now) a.line.now (role a.stage)
    (map (name_from a.line.now) a.seen.now) a.token c.in_default.not-Name

pub overflow_add-name : goal.overflow_add-name
overflow_add-name c = omega (arith, inside (goal.at.overflow_add-name c).In-Name)

pub slice_bounds-name-end : goal.slice_bounds-name-end
slice_bounds-name-end c = omega (arith, inside (goal.at.slice_bounds-name-end c).In-Name)

pub returns-in-Asked : goal.returns-in-Asked
unfolding which_name names_for role
returns-in-Asked c =
    let a = c.args in
    let known = map (name_from a.second.now) a.known.now in
    let names = map (name_from a.line.now) a.seen.now in
    let k = c.in-Name in
    let bytes : k.at + k.letters - k.at ≡ k.letters = omega arith in
    c.place_of.ensures
    ∙ ap (λ n. place_of (take n (drop k.at a.line.now)) known) bytes
    ∙ sym (ap (λ (s : Stage). which_name known a.line.now (role s) names (Name k.at k.letters)) c.in-Asked.is)
    ∙ sym (ap (which_name known a.line.now (role a.stage) names) k.is)

pub returns-in_default-stage : goal.returns-in_default-stage
unfolding which_name names_for role
returns-in_default-stage c =
    let a = c.args in
    let known = map (name_from a.second.now) a.known.now in
    let names = map (name_from a.line.now) a.seen.now in
    let k = c.in-Name in
    let bytes : k.at + k.letters - k.at ≡ k.letters = omega arith in
    c.place_of-in_default-stage.ensures
    ∙ ap (λ n. place_of (take n (drop k.at a.line.now)) names) bytes
    ∙ ap (place_of (name_at a.line.now k.at k.letters)) (of_variables known names a.stage c.in_default-stage.not-Asked)
    ∙ sym (ap (which_name known a.line.now (role a.stage) names) k.is)
