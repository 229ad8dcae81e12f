-- The board: its registers, the interrupt on offer, and what a reset and a clock leave. Assumes nothing.
use Rattle.std.specs.Prelude.{ℕ, ◌+◌, ◌*◌, ◌/◌, ◌%◌, Bool, if◌then◌else◌, not, ◌&&◌, Result, ◌==◌, bit_and, bit_or}
use Rattle.std.specs.Int.Count.{count_trailing_zeros}
use Rattle.faults.specs.Faults.{Code}
use Rattle.registers.specs.Bits.{bit, lane_bits}
use Rattle.registers.specs.Writes.{written, cleared}
use Rattle.peripheral.specs.Bus.{left}
use Rattle.peripheral.specs.Block.{read_register, written_register}
use Rattle.serial.specs.declared.bridge.Bridge.{Bridge}
use Rattle.serial.specs.Upload.{fresh}
use Rattle.board.specs.declared.map.Register.{Register}
use Rattle.board.specs.declared.map.Register.TheVariants.{Control, IntEn, IntFlags, ClkFreq}
use Rattle.board.specs.declared.state.Board.{Board}
use Rattle.board.specs.Map.{owns, register_at}

-- ---- the board with something changed

abbrev pub holding : Board → ℕ → ℕ → ℕ → Board
holding b c e f = record { cycle = b.cycle; control = c; enable = e; flags = f; levels = b.levels; bridge = b.bridge }

abbrev pub leveled : Board → ℕ → Board
leveled b l = record { cycle = b.cycle; control = b.control; enable = b.enable; flags = b.flags; levels = l; bridge = b.bridge }

abbrev pub bridged : Board → Bridge → Board
bridged b u = record { cycle = b.cycle; control = b.control; enable = b.enable; flags = b.flags; levels = b.levels; bridge = u }

-- so many cycles later
abbrev pub later : Board → ℕ → Board
later b n = record { cycle = b.cycle + n; control = b.control; enable = b.enable; flags = b.flags; levels = b.levels; bridge = b.bridge }

-- ---- the registers

abbrev pub content_of : Board → Register → ℕ
content_of b Control = b.control
content_of b IntEn = b.enable
content_of b IntFlags = b.flags
content_of b ClkFreq = 25000000

-- Bits 31 to 16 of CONTROL are the control flags, bit 3 INTGEN, bit 2 SOCRES, bit 1 CORERES, bit 0 COREHLT.
-- INT_FLAGS is clear-only, CLK_FREQ read-only.
abbrev pub written_at : Board → ℕ → ℕ → ℕ → Register → Board
written_at b n v mask Control = holding b (written n b.control v (bit_and mask 0xFFFF000F)) b.enable b.flags
written_at b n v mask IntEn = holding b b.control (written n b.enable v mask) b.flags
written_at b n v mask IntFlags = holding b b.control b.enable (cleared n b.flags v mask)
written_at b n v mask ClkFreq = b

-- by the alias k, of v under lanes l
abbrev pub after_write : Board → ℕ → ℕ → ℕ → Register → Board
after_write b k v l r = written_at b k v (lane_bits l) r

-- an access to the block, at an address as it was given
abbrev pub read_control : Board → ℕ → Result ℕ Code
read_control = read_register register_at owns content_of

abbrev pub write_control : Board → ℕ → ℕ → ℕ → Result Board Code
write_control = written_register register_at owns after_write

-- a refused write leaves the board
abbrev pub kept_board : Board → Result Board Code → Board
kept_board = left

-- ---- what it shows

-- the interrupt on offer: the lowest ID that is enabled and flagged, if INTGEN is 1; else 32, for none
abbrev pub offer : Board → ℕ
offer b = if bit 3 b.control then count_trailing_zeros 32 (bit_and b.enable b.flags) else 32

-- the core word: CONTROL with bits 2 and 3 at 0
abbrev pub core_word : Board → ℕ
core_word b = bit_and b.control 0xFFFFFFF3

-- SOCRES: each clock is a reset while it is set
abbrev pub resets : Board → Bool
resets b = bit 2 b.control

-- ---- power, reset and clock

abbrev pub powered : Board
powered = record { cycle = 0; control = 8; enable = 0; flags = 0; levels = 0; bridge = fresh }

-- A reset retains the control flags, and makes the bridge fresh. The cycle and the trigger levels stay.
abbrev pub reset_board : Board → Board
reset_board b = bridged (holding b (bit_or 8 (bit_and b.control 0xFFFF0000)) 0 0) fresh

-- trigger bits 0 to 7 are IDs 0 to 7, bits 8 to 15 are IDs 24 to 31
abbrev pub triggered : ℕ → ℕ
triggered l = bit_or (l % 256) (l / 256 * 0x1000000)

-- the flags that a clock sets: what the peripherals raise (bit k for ID 8 + k), and every trigger that is high
abbrev pub flagged : Board → ℕ → Board
flagged b raised = holding b b.control b.enable (bit_or (bit_or b.flags (raised * 256)) (triggered b.levels))

-- a clock that raises nothing leaves all but the cycle: SOCRES is 0, and each high trigger has its flag
abbrev pub is_still : Board → Bool
is_still b = not (resets b) && bit_or b.flags (triggered b.levels) == b.flags
