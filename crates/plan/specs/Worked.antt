-- The depot case worked through the definitions: each line of the record below is computed by the checker
-- (`proofs/Worked.antt`), and docs/READING.md tells the story. A number that ends a line's name counts the steps taken.
use Rattle.std.specs.Prelude.{◌≡◌, true, false, List, [], ◌∷◌, ◌++◌, ℕ, replicate}
use Rattle.std.proofs.Math.Option.{none, some}
use Rattle.plan.specs.Request.{Row, Request, goal_at}
use Rattle.plan.specs.Reader.{got}
use Rattle.plan.specs.Sheet.{read_sheet}
use Rattle.plan.specs.RowData.{parts, request_of}
use Rattle.plan.specs.Route.{Pick, is_open, total_from, dearest_from, choice}
use Rattle.plan.specs.Grow.{known, gives, usable, agrees, join, listed, calls, picks, chain}
use Rattle.plan.specs.Answer.{answered, came, found, full, Whole, whole}
use Rattle.plan.specs.Cases.{depot, depot_data, depot_found, part, request_in, lent, step}

-- a list row of 16 words: depot, machine, condition, truck, and zeros
abbrev pub row4 : ℕ → ℕ → ℕ → ℕ → Row
row4 a b c d = a ∷ b ∷ c ∷ d ∷ replicate 12 0

-- the rows of register 0, stock(depot, machine)
abbrev pub stock_rows : List Row
stock_rows = (7 ∷ 101 ∷ []) ∷ (7 ∷ 102 ∷ []) ∷ (7 ∷ 103 ∷ []) ∷ (8 ∷ 104 ∷ []) ∷ []

-- the rows of register 1, state(machine, condition)
abbrev pub state_rows : List Row
state_rows = (101 ∷ 1 ∷ []) ∷ (102 ∷ 2 ∷ []) ∷ (103 ∷ 1 ∷ []) ∷ (104 ∷ 1 ∷ []) ∷ []

-- the rows of register 2, carrier(machine, truck)
abbrev pub carrier_rows : List Row
carrier_rows = (101 ∷ 51 ∷ []) ∷ (103 ∷ 52 ∷ []) ∷ []

-- look-up 0, state(1,2), by its register's rule 0
abbrev pub state : Pick
state = record { lookup = 0; rule = 0 }

-- look-up 1, carrier(1,3), by its register's rule 0
abbrev pub carrier : Pick
carrier = record { lookup = 1; rule = 0 }

-- look-up 2, stock(0,1), by its register's rule 0
abbrev pub stock : Pick
stock = record { lookup = 2; rule = 0 }

-- the request that the bytes of the sheet and the words of the row data make
abbrev pub q : Request
q = request_in depot depot_data

-- all that comes back, where both lent tables have 8,200 words, each 4,294,967,295
abbrev pub back : Whole
back = whole depot depot_data (lent 8200) (lent 8200)

-- the depot case, step by step
pub record Worked : Type 0 where
  -- the sheet is sound, and its 19 bytes are read to the last bit
  pub sheet_read : read_sheet depot ≡ got depot_found 152
  -- it says: three registers of two columns, each with one rule, by which the first column must be given
  pub registers : depot_found.registers ≡ replicate 3 (record { columns = 2; rules = (true ∷ false ∷ []) ∷ [] })
  -- it says: the depot is given 7, and the condition 1
  pub given : depot_found.given ≡ 0 ∷ 2 ∷ []
  pub values : depot_found.values ≡ 7 ∷ 1 ∷ []
  -- it says: three look-ups, each with its register and a variable a column
  pub look_ups : depot_found.look_ups
      ≡ record { register = 1; vars = 1 ∷ 2 ∷ [] } ∷ record { register = 2; vars = 1 ∷ 3 ∷ [] }
      ∷ record { register = 0; vars = 0 ∷ 1 ∷ [] } ∷ []
  -- of each register its columns, where its rows start in the row data, and how many they are
  pub places : parts (2 ∷ 2 ∷ 2 ∷ []) depot_data ≡ some (part 2 1 4 ∷ part 2 10 4 ∷ part 2 19 2 ∷ [])
  -- the request is what the sheet and those rows make
  pub request : q ≡ request_of depot_found (stock_rows ∷ state_rows ∷ carrier_rows ∷ [])
  -- its look-ups, with their variables and their registers' rules and rows, all of which match, since none has a 0
  pub state_goal : goal_at q 0 ≡ record { vars = 1 ∷ 2 ∷ []; rules = (true ∷ false ∷ []) ∷ []; stored = state_rows; rows = state_rows }
  pub carrier_goal : goal_at q 1 ≡ record { vars = 1 ∷ 3 ∷ []; rules = (true ∷ false ∷ []) ∷ []; stored = carrier_rows; rows = carrier_rows }
  pub stock_goal : goal_at q 2 ≡ record { vars = 0 ∷ 1 ∷ []; rules = (true ∷ false ∷ []) ∷ []; stored = stock_rows; rows = stock_rows }
  -- what may be picked: every rule of every look-up, the lowest look-up first
  pub offers : picks q ≡ state ∷ carrier ∷ stock ∷ []
  -- state and carrier must be given the machine, and stock the depot
  pub state_gives : gives q state ≡ 1 ∷ []
  pub carrier_gives : gives q carrier ≡ 1 ∷ []
  pub stock_gives : gives q stock ≡ 0 ∷ []
  -- nothing is answered: the given variables are known, and the list is one row with their values
  pub known0 : known q [] ≡ 0 ∷ 2 ∷ []
  pub list0 : listed q [] ≡ row4 7 0 1 0 ∷ []
  -- only stock can be used: the machine is not known yet
  pub state_usable0 : usable q [] state ≡ false
  pub carrier_usable0 : usable q [] carrier ≡ false
  pub stock_usable0 : usable q [] stock ≡ true
  -- one depot stands in the list, so stock takes one call, and it is chosen
  pub stock_calls0 : calls q [] stock ≡ 1
  pub choice0 : choice (usable q) (calls q) (picks q) [] ≡ some stock
  -- step 1: the list is joined with stock's rows; (7, 101) agrees with the known depot, (8, 104) does not
  pub agrees1 : agrees (0 ∷ 2 ∷ []) (0 ∷ 1 ∷ []) (row4 7 0 1 0) (7 ∷ 101 ∷ []) ≡ true
  pub differs1 : agrees (0 ∷ 2 ∷ []) (0 ∷ 1 ∷ []) (row4 7 0 1 0) (8 ∷ 104 ∷ []) ≡ false
  pub join1 : join (0 ∷ 2 ∷ []) (0 ∷ 1 ∷ []) stock_rows (row4 7 0 1 0 ∷ []) ≡ listed q (2 ∷ [])
  pub list1 : listed q (2 ∷ []) ≡ row4 7 101 1 0 ∷ row4 7 102 1 0 ∷ row4 7 103 1 0 ∷ []
  -- the variables of stock are known now too; 0 stands there twice, which changes nothing
  pub known1 : known q (2 ∷ []) ≡ 0 ∷ 1 ∷ 0 ∷ 2 ∷ []
  -- stock is answered; the others can be used, and three machines stand in the list, so each takes three calls
  pub stock_open1 : is_open (2 ∷ []) stock ≡ false
  pub state_usable1 : usable q (2 ∷ []) state ≡ true
  pub carrier_usable1 : usable q (2 ∷ []) carrier ≡ true
  pub state_calls1 : calls q (2 ∷ []) state ≡ 3
  pub carrier_calls1 : calls q (2 ∷ []) carrier ≡ 3
  -- on a tie the lowest look-up
  pub choice1 : choice (usable q) (calls q) (picks q) (2 ∷ []) ≡ some state
  -- step 2: (102, 2) does not agree with the known condition, although that column is free
  pub differs2 : agrees (0 ∷ 1 ∷ 0 ∷ 2 ∷ []) (1 ∷ 2 ∷ []) (row4 7 102 1 0) (102 ∷ 2 ∷ []) ≡ false
  pub join2 : join (0 ∷ 1 ∷ 0 ∷ 2 ∷ []) (1 ∷ 2 ∷ []) state_rows (listed q (2 ∷ [])) ≡ listed q (0 ∷ 2 ∷ [])
  pub list2 : listed q (0 ∷ 2 ∷ []) ≡ row4 7 101 1 0 ∷ row4 7 103 1 0 ∷ []
  pub known2 : known q (0 ∷ 2 ∷ []) ≡ 1 ∷ 2 ∷ 0 ∷ 1 ∷ 0 ∷ 2 ∷ []
  -- carrier alone is open; two machines are left, so it takes two calls, and no longer three
  pub carrier_usable2 : usable q (0 ∷ 2 ∷ []) carrier ≡ true
  pub carrier_calls2 : calls q (0 ∷ 2 ∷ []) carrier ≡ 2
  pub choice2 : choice (usable q) (calls q) (picks q) (0 ∷ 2 ∷ []) ≡ some carrier
  -- step 3: each machine gets its truck, and no look-up is open
  pub join3 : join (known q (0 ∷ 2 ∷ [])) (1 ∷ 3 ∷ []) carrier_rows (listed q (0 ∷ 2 ∷ [])) ≡ listed q (1 ∷ 0 ∷ 2 ∷ [])
  pub list3 : listed q (1 ∷ 0 ∷ 2 ∷ []) ≡ row4 7 101 1 51 ∷ row4 7 103 1 52 ∷ []
  pub choice3 : choice (usable q) (calls q) (picks q) (1 ∷ 0 ∷ 2 ∷ []) ≡ none
  -- CHAIN's order is these choices; it takes 1 + 3 + 2 calls, and its dearest look-up 3
  pub order : chain calls q ≡ stock ∷ state ∷ carrier ∷ []
  pub total : total_from (calls q) [] (stock ∷ state ∷ carrier ∷ []) ≡ 6
  pub dearest : dearest_from (calls q) [] (stock ∷ state ∷ carrier ∷ []) ≡ 3
  -- no refusal fits: the bytes make this request, and it is answered by this order
  pub finds : found full depot depot_data (lent 8200) (lent 8200) ≡ came q (answered (stock ∷ state ∷ carrier ∷ []))
  -- what comes back: number 0 with detail 0, and three steps, each with its look-up, rule, calls, rows and rows sent
  pub number : back.answer.number ≡ 0
  pub detail : back.answer.detail ≡ 0
  pub made : back.answer.made ≡ 3
  pub steps : back.answer.steps ≡ step 2 0 1 3 3 ∷ step 0 0 3 2 3 ∷ step 1 0 2 2 2 ∷ replicate 9 (step 0 0 0 0 0)
  -- the calls in all, what they cost, and the rows of the list
  pub calls_in_all : back.answer.calls ≡ 6
  pub charge_in_all : back.answer.charge ≡ 6
  pub rows : back.answer.rows ≡ 2
  -- both tables, word by word: the rows and then zeros, or zeros alone; the words beyond 8,192 stay
  pub first : back.first ≡ row4 7 101 1 51 ++ row4 7 103 1 52 ++ replicate 8160 0 ++ lent 8
  pub second : back.second ≡ replicate 8192 0 ++ lent 8
