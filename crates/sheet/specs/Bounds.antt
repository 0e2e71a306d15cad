-- How far a reading may go, and the most bits that each part of the sheet takes, by the ranges of its counts.
use Rattle.std.specs.Prelude.{ℕ, ◌+◌, ◌*◌}

-- no place that is read lies behind this one, in bits
abbrev pub farthest : ℕ
farthest = 4096

-- parts 2 to 4
abbrev pub most_counts : ℕ
most_counts = 4 + 4 + 4

-- §2.2 to §2.5
abbrev pub most_header : ℕ
most_header = 3 + most_counts

-- the rules of a register
abbrev pub most_rules : ℕ
most_rules = 8 * 6

-- a register
abbrev pub most_register : ℕ
most_register = 3 + 4 + most_rules

-- §2.6
abbrev pub most_registers : ℕ
most_registers = 12 * most_register

-- §2.7 and §2.8
abbrev pub most_given : ℕ
most_given = 16 + 16 * 32

-- the variables of a look-up
abbrev pub most_vars : ℕ
most_vars = 6 * 4

-- a look-up
abbrev pub most_look_up : ℕ
most_look_up = 4 + most_vars

-- §2.9
abbrev pub most_look_ups : ℕ
most_look_ups = 12 * most_look_up

-- §2.10
abbrev pub most_ending : ℕ
most_ending = 7

-- parts 6 to 8
abbrev pub most_asked : ℕ
most_asked = most_given + most_look_ups + most_ending
