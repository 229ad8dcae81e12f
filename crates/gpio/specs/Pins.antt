-- One port: its pins, and what a clock, a reset and an access leave of it. Assumes nothing.
use Rattle.std.specs.Prelude.{ℕ, Bool, if◌then◌else◌, not, ◌&&◌, ◌||◌, ◌==◌, bit_and, bit_or, bit_xor}
use Rattle.registers.specs.Bits.{bit, without}
use Rattle.registers.specs.Writes as access
use Rattle.gpio.specs.declared.ports.Port.{Port}
use Rattle.gpio.specs.declared.map.PortRegister.{PortRegister}
use Rattle.gpio.specs.declared.map.PortRegister.TheVariants.{Pins, Latch, Dir, Cnr, Cnf, CnState}

-- ---- one pin

-- its state: its latch where DIR is 1, else its input
abbrev pub level : Port → ℕ → Bool
level p k = if bit k p.dir then bit k p.latch else bit k p.input

-- since the last clock it went from 0 to 1, or from 1 to 0
abbrev pub rose : Port → ℕ → Bool
rose p k = not (bit k p.before) && level p k

abbrev pub fell : Port → ℕ → Bool
fell p k = bit k p.before && not (level p k)

-- a rise with CNR, or a fall with CNF
abbrev pub noticed : Port → ℕ → Bool
noticed p k = (rose p k && bit k p.cnr) || (fell p k && bit k p.cnf)

-- ---- all 32 at once

-- the pins' states
abbrev pub pins : Port → ℕ
pins p = bit_or (without p.input p.dir) (bit_and p.latch p.dir)

-- the pins that are noticed
abbrev pub hits : Port → ℕ
hits p = bit_and (bit_xor (pins p) p.before) (bit_or (bit_and (pins p) p.cnr) (bit_and p.before p.cnf))

-- whether there is one, and a bit to set where there is
abbrev pub changed : Port → Bool
changed p = not (hits p == 0)

abbrev pub flag : Port → ℕ → ℕ
flag p b = if changed p then b else 0

abbrev pub clocked : Port → Port
clocked p = record { latch = p.latch; dir = p.dir; cnr = p.cnr; cnf = p.cnf; cn_state = bit_or p.cn_state (hits p); input = p.input; before = pins p }

abbrev pub fed : Port → ℕ → Port
fed p v = record { latch = p.latch; dir = p.dir; cnr = p.cnr; cnf = p.cnf; cn_state = p.cn_state; input = v; before = p.before }

-- the registers at 0, with an input and with the pins of the last clock
abbrev pub fresh : ℕ → ℕ → Port
fresh v b = record { latch = 0; dir = 0; cnr = 0; cnf = 0; cn_state = 0; input = v; before = b }

-- a reset keeps the input, and takes the pins as they then are
abbrev pub cleared : Port → Port
cleared p = fresh p.input (pins (fresh p.input 0))

-- what a register shows
abbrev pub word : Port → PortRegister → ℕ
word p Pins = pins p
word p Latch = p.latch
word p Dir = p.dir
word p Cnr = p.cnr
word p Cnf = p.cnf
word p CnState = p.cn_state

-- A write, by the number of its alias, of a value under the bits that it may change. One to the pins acts on the latch.
-- CN_STATE is clear-only, and so is INT_STATUS; clearing one leaves the other.
abbrev pub latched : Port → ℕ → Port
latched p w = record { latch = w; dir = p.dir; cnr = p.cnr; cnf = p.cnf; cn_state = p.cn_state; input = p.input; before = p.before }

abbrev pub written : Port → PortRegister → ℕ → ℕ → ℕ → Port
written p Pins n v mask = latched p (access.written n p.latch v mask)
written p Latch n v mask = latched p (access.written n p.latch v mask)
written p Dir n v mask = record { latch = p.latch; dir = access.written n p.dir v mask; cnr = p.cnr; cnf = p.cnf; cn_state = p.cn_state; input = p.input; before = p.before }
written p Cnr n v mask = record { latch = p.latch; dir = p.dir; cnr = access.written n p.cnr v mask; cnf = p.cnf; cn_state = p.cn_state; input = p.input; before = p.before }
written p Cnf n v mask = record { latch = p.latch; dir = p.dir; cnr = p.cnr; cnf = access.written n p.cnf v mask; cn_state = p.cn_state; input = p.input; before = p.before }
written p CnState n v mask = record { latch = p.latch; dir = p.dir; cnr = p.cnr; cnf = p.cnf; cn_state = access.cleared n p.cn_state v mask; input = p.input; before = p.before }
