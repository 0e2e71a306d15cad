-- What a reader must believe: the rules of docs/RULES.md as definitions, in reading order; §4.5 is a rule's number there.
-- What the others say of lists and of sets.
pub mod Lists
-- Section 1: registers, look-ups, requests, rows in words.
pub mod Request
-- Section 1: code 0 means not known.
pub mod Zero
-- Sections 2 and 3: reading packed fields, the sheet bit by bit, the row data and the request they make.
pub mod Reader
pub mod Sheet
pub mod RowData
-- Section 5: the refusals and their numbers.
pub mod Refusals
-- Section 10: writing the sheet.
pub mod Write
-- Section 4: routes and CHAIN's choice, known variables, usable rules, calls, the join, the list.
pub mod Route
pub mod Grow
-- Section 5: the steps and the list, refusals and tables, the route check, the count.
pub mod Answer
-- Section 13: choose and take, apart.
pub mod Apart
-- Section 11: typed requests.
pub mod Tokens
pub mod Typed
-- Section 7: the three demands.
pub mod Demands
-- Section 8: the worked cases, and those of choosing and taking.
pub mod Cases
pub mod PlayCases
-- The depot case, worked through the definitions.
pub mod Worked
